-- A function that fits its layout keeps to it, over earlier ones that do.
use Rattle.std.proofs.Common.{◌≡◌, ◌≤◌, ◌<◌, ◌^◌, ◌+◌, ℕ, zero, suc, pos, if◌then◌else◌, List, [], ◌∷◌, ◌++◌, map, length, take, get_or, Option, Some, None, refl, sym, ap, ◌∙◌, arith, subst, append-nil, append_assoc}
use Rattle.std.proofs.lemmas.List.{length-map}
use Rattle.std.specs.List.{slice_get}
use Rattle.sample_core.specs.Datum.{Datum, Datums, unit, int, pair, list, left, right, list_of, elements, items_of}
use Rattle.sample_core.specs.TypeTree.{TypeTree, unit_ty, int_ty, pair_ty, event_ty, list_ty}
use Rattle.leaf_core.specs.declared.expr.Expr.{Expr}
use Rattle.leaf_core.specs.ExpressionView.{expression_of}
use Rattle.leaf_code.specs.Fitting.{Bounds, Fits, AllFit, unit_fits, int_fits, pair_fits, no_event_fits, event_fits, list_fits, end_fits, more_fits, ParamsFit, no_param, and_param, LeafFits}
use Rattle.leaf_code.proofs.Fitting.{left-fits, right-fits, leaf-fits}
use Rattle.net_tree.specs.Network.{Timing, at_once, delayed}
use Rattle.net_meaning.specs.SignalFunction.{item_at, item_named, items_named, event_in}
use Rattle.cell_core.specs.Cell.{Cell, accumulator_of}
use Rattle.cell_core.specs.declared.form.Form.TheVariants as C
use Rattle.net_machine.specs.Store.{Moment, start, step, Store, Origin, written, made, Entry, entries, stored, nothing, both as two_parts, mode as moded, frozen as kept_frozen, one, other, fed_value, looped, mode_of, front_part, taker_part, frozen_when, frozen_part, resumer_part, cell_in}
use Rattle.net_machine.specs.Stepper.{Stepper, each_step, routed, event_beside, cell_at, Turn, turns, new_turns, written_from, members_at, members_in, step_at, member_step, turns_step}
use Rattle.net_machine.specs.Machine.{no_leaf}
use Rattle.net_machine.proofs.Collections.{few-taken, entries-stored}
use Rattle.net_code.specs.declared.statement.Action.TheVariants as Ac
use Rattle.net_code.specs.declared.statement.Part.TheVariants as P
use Rattle.net_code.specs.declared.statement.When.TheVariants as W
use Rattle.net_code.specs.declared.statement.Scope.TheVariants as Sc
use Rattle.net_code.specs.declared.statement.Statement.TheVariants as T
use Rattle.net_code.specs.declared.statement.Function.{Function}
use Rattle.net_code.specs.declared.statement.Function.TheVariants as FN
use Rattle.net_code.specs.Running.{Body, Kept, Given, Linked, Local, kept_at, split, given_value, given_kept, given_first, beside_in, is_none, cleared, taken_by, with_store, going, entered, exec, first_or}
use Rattle.net_code.specs.Bodies.{answer, started, switch_body, k_switch_body, freezing_body, member_statements}
use Rattle.net_code.specs.CodeView.{body_of}
use Rattle.net_code.specs.CodeLaw.{value_in}
use Rattle.code_fits.specs.Layouts.{Layout, layout}
use Rattle.code_fits.specs.Rules.{LeafTyped, Goes, goes, AllGo, none_go, one_goes, FunctionFits, arr_fits, seq_fits, first_fits, par_fits, loop_fits, cell_fits, time_fits, integral_fits, accum_fits, switch_fits, d_switch_fits, r_switch_fits, dr_switch_fits, k_switch_fits, p_switch_fits, old_fits, same_fits, initial_out_fits, initial_in_fits, collection_fits}
use Rattle.code_fits.specs.Standing.{Stand, value, StandsWell, AllStandWell, Tracer, Traced, values_stand, event_stands, leaf_stands, accumulated, nothing_stands, member_stands, turns_stand, each_stand, routed_stand, going_stand, body_stands, CellFits, accumulator_fits}
use Rattle.code_fits.proofs.Cells.{At, at-map, BothFit, cell-fits, time-fits, integral-fits}
use Rattle.code_fits.proofs.Shapes.{Shape, chain, by_mode, EntryFits, EntriesFit, StoreFits, MemberFits, shape_of}
use Rattle.code_fits.proofs.Shapes as H
use Rattle.code_fits.proofs.Values.{listed, params-push, params-take, accum-both}

pub well-append : (bound : Bounds) (ws us : List Stand) → AllStandWell bound ws → AllStandWell bound us → AllStandWell bound (ws ++ us)
well-append bound [] us h k = k
well-append bound (w ∷ ws) us h k = (h.0, well-append bound ws us h.1 k)

-- a call's statement, and those behind
call-well : (bound : Bounds) (ws : List Stand) (w : Stand) (us : List Stand) → AllStandWell bound ws → StandsWell bound w → AllStandWell bound us → AllStandWell bound ((ws ++ w ∷ []) ++ us)
call-well bound ws w us h i k = well-append bound (ws ++ w ∷ []) us (well-append bound ws (w ∷ []) h (i, tt)) k

pub params-well : (bound : Bounds) {Ps : List TypeTree} {ps : List Datum} → ParamsFit bound Ps ps → AllStandWell bound (values_stand Ps ps)
params-well bound no_param = tt
params-well bound (and_param h hs) = (h, params-well bound hs)

-- what a function's step comes to
pub record Good (bound : Bounds) (sh : Shape) (B : TypeTree) (ws : List Stand) (r : Store × Datum) : Type 0 where
  pub well : AllStandWell bound ws
  pub answer : Fits bound r.1 B
  pub keeps : StoreFits bound sh r.0

module _ (bound : Bounds) (S : ℕ → Shape) where
  -- frozen networks have the shapes of their functions
  abbrev pub OldsFit : List ℕ → List Kept → Type 0
  OldsFit [] [] = Unit {0}
  OldsFit (j ∷ js) (k ∷ ks) = At k.1 (StoreFits bound (S j) k.0) × OldsFit js ks
  OldsFit js ks = ⊥

  -- a function keeps to its layout
  abbrev pub Runs : Layout → Shape → Linked → Traced → Type 0
  Runs L sh f n = (g : Given) → ParamsFit bound L.params g.params → OldsFit L.olds g.olds → (s : Store) (m : Moment) (v : Datum)
      → At m (StoreFits bound sh s) → Fits bound v L.input → Good bound sh L.output (n g s (m, v)) (f g s (m, v))

  module _ (Ls : List Layout) (F : ℕ → Linked) (N : ℕ → Traced)
      (env : (j : ℕ) (M : Layout) → slice_get Ls j ≡ Some M → Runs M (S j) (F j) (N j)) where
    -- a call
    called : {Ps : List TypeTree} {Os : List ℕ} {A B : TypeTree} (j : ℕ) → Goes Ls j Ps Os A B → (g : Given) → ParamsFit bound Ps g.params → OldsFit Os g.olds
        → (s : Store) (m : Moment) (v : Datum) → At m (StoreFits bound (S j) s) → Fits bound v A → Good bound (S j) B (N j g s (m, v)) (F j g s (m, v))
    called j (goes {Ts = Ts} {K = K} e) = env j (layout _ _ _ _ Ts K) e

    -- a leaf
    leaf-well : {Ps : List TypeTree} {A B : TypeTree} (e : Expr) (ps : List Datum) (x : Datum) → LeafTyped bound Ps e A B → ParamsFit bound Ps ps → Fits bound x A
        → LeafFits bound Ps A (expression_of e) ps x B
    leaf-well {Ps = Ps} {A = A} {B = B} e ps x h p f = leaf-fits bound (expression_of e) Ps A B h.typed h.lists ps x p f

    -- what a function's statements come to
    abbrev pub Done : Layout → Shape → Body → Given → Store → Moment → Datum → Type 0
    Done L sh b g s m v = Good bound sh L.output (body_stands L F N g b L.values (L.input ∷ []) (entered s (m, v)) []) (exec value_in F g b (entered s (m, v)))

    abbrev pub AllDone : Layout → Shape → Body → Type 0
    AllDone L sh b = (g : Given) → ParamsFit bound L.params g.params → OldsFit L.olds g.olds → (s : Store) (m : Moment) (v : Datum)
        → At m (StoreFits bound sh s) → Fits bound v L.input → Done L sh b g s m v

    -- fed back, or the constant
    fed-or : (m : Moment) (T : TypeTree) (c w : Datum) (P : Type 0) → Fits bound c T → At m (Fits bound w T × P) → Fits bound (first_or m c w) T
    fed-or start T c w P f h = f
    fed-or (step d) T c w P f h = h.2.0

    first-or : (m : Moment) (T : TypeTree) (c w : Datum) → Fits bound c T → Fits bound w T → Fits bound (first_or m c w) T
    first-or start T c w f h = f
    first-or (step d) T c w f h = h

    -- what is there while a function runs
    abbrev local : List Datum → Store → Moment → List Stepper → Local
    local rs s m fs = record { registers = rs; store = s; now = m; members = fs }

    abbrev steps_of : Given → List ℕ → List Stepper
    steps_of g js = map (λ j. F j g) js

    abbrev tracers_of : Given → List ℕ → List Tracer
    tracers_of g js = map (λ j. N j g) js

    -- the statements of members, behind others
    members-stand : (L : Layout) (g : Given) (js : List ℕ) (b : Body) (Us Ts : List TypeTree) (rs : List Datum) (s : Store) (m : Moment) (hs : List Stepper) (ns : List Tracer)
        → body_stands L F N g (member_statements js ++ b) Us Ts (local rs s m hs) ns ≡ body_stands L F N g b Us Ts (local rs s m (hs ++ steps_of g js)) (ns ++ tracers_of g js)
    members-stand L g [] b Us Ts rs s m hs ns =
        ap (λ hs. body_stands L F N g b Us Ts (local rs s m hs) ns) (sym (append-nil hs))
        ∙ ap (λ ns. body_stands L F N g b Us Ts (local rs s m (hs ++ [])) ns) (sym (append-nil ns))
    members-stand L g (j ∷ js) b Us Ts rs s m hs ns =
        members-stand L g js b Us Ts rs s m (hs ++ F j g ∷ []) (ns ++ N j g ∷ [])
        ∙ ap (λ hs. body_stands L F N g b Us Ts (local rs s m hs) ((ns ++ N j g ∷ []) ++ tracers_of g js)) (append_assoc hs (F j g ∷ []) (steps_of g js))
        ∙ ap (λ ns. body_stands L F N g b Us Ts (local rs s m (hs ++ F j g ∷ steps_of g js)) ns) (append_assoc ns (N j g ∷ []) (tracers_of g js))

    members-run : (g : Given) (js : List ℕ) (b : Body) (rs : List Datum) (s : Store) (m : Moment) (hs : List Stepper)
        → exec value_in F g (member_statements js ++ b) (local rs s m hs) ≡ exec value_in F g b (local rs s m (hs ++ steps_of g js))
    members-run g [] b rs s m hs = ap (λ hs. exec value_in F g b (local rs s m hs)) (sym (append-nil hs))
    members-run g (j ∷ js) b rs s m hs =
        members-run g js b rs s m (hs ++ F j g ∷ []) ∙ ap (λ hs. exec value_in F g b (local rs s m hs)) (append_assoc hs (F j g ∷ []) (steps_of g js))

    -- behind the statements of members
    behind-members : (L : Layout) (sh : Shape) (js : List ℕ) (b : Body) (g : Given) (s : Store) (m : Moment) (v : Datum)
        → Good bound sh L.output (body_stands L F N g b L.values (L.input ∷ []) (local (v ∷ []) s m (steps_of g js)) (tracers_of g js)) (exec value_in F g b (local (v ∷ []) s m (steps_of g js)))
        → Done L sh (member_statements js ++ b) g s m v
    behind-members L sh js b g s m v h =
        subst (λ ws. Good bound sh L.output ws (exec value_in F g (member_statements js ++ b) (entered s (m, v)))) (sym (members-stand L g js b L.values (L.input ∷ []) (v ∷ []) s m [] []))
        (subst (λ r. Good bound sh L.output (body_stands L F N g b L.values (L.input ∷ []) (local (v ∷ []) s m (steps_of g js)) (tracers_of g js)) r) (sym (members-run g js b (v ∷ []) s m [])) h)

    -- what members on one value come to
    record Each (B : TypeTree) (js : List ℕ) (ws : List Stand) (r : Store × List Datum) : Type 0 where
      well : AllStandWell bound ws
      answers : AllFit bound (list_of r.1) B
      many : length r.1 ≡ length js
      keeps : StoreFits bound (chain (map S js)) r.0

    each-good : {Ps : List TypeTree} {Os : List ℕ} {A B : TypeTree} {js : List ℕ} → AllGo Ls Ps Os A B js → (g : Given) → ParamsFit bound Ps g.params → OldsFit Os g.olds
        → (s : Store) (m : Moment) (v : Datum) → At m (StoreFits bound (chain (map S js)) s) → Fits bound v A
        → Each B js (each_stand (tracers_of g js) s (m, v)) (each_step (steps_of g js) s (m, v))
    each-good none_go g p o s m v k x = record { well = tt; answers = end_fits; many = refl; keeps = tt }
    each-good {A = A} {B = B} (one_goes {j = j} {js = js} h hs) g p o s m v k x =
        let r : Good bound (S j) B (N j g (one s) (m, v)) (F j g (one s) (m, v)) = called j h g p o (one s) m v (at-map m (λ u. u.0) k) x in
        let rs : Each B js (each_stand (tracers_of g js) (other s) (m, v)) (each_step (steps_of g js) (other s) (m, v)) = each-good hs g p o (other s) m v (at-map m (λ u. u.1) k) x in
        record {
          well = well-append bound (N j g (one s) (m, v)) _ r.well rs.well;
          answers = more_fits r.answer rs.answers;
          many = ap suc rs.many;
          keeps = (r.keeps, rs.keeps);
        }

    olds-take : (n : ℕ) (Os : List ℕ) (ks : List Kept) → OldsFit Os ks → OldsFit (take n Os) (take n ks)
    olds-take zero Os ks h = tt
    olds-take (suc n) [] [] h = tt
    olds-take (suc n) [] (k ∷ ks) h = absurd h
    olds-take (suc n) (j ∷ Os) [] h = absurd h
    olds-take (suc n) (j ∷ Os) (k ∷ ks) h = (h.0, olds-take n Os ks h.1)

    olds-append : (Os js : List ℕ) (ks hs : List Kept) → OldsFit Os ks → OldsFit js hs → OldsFit (Os ++ js) (ks ++ hs)
    olds-append [] js [] hs h i = i
    olds-append [] js (k ∷ ks) hs h i = absurd h
    olds-append (o ∷ Os) js [] hs h i = absurd h
    olds-append (o ∷ Os) js (k ∷ ks) hs h i = (h.0, olds-append Os js ks hs h.1 i)

    old-at : (Os : List ℕ) (ks : List Kept) (k j : ℕ) → OldsFit Os ks → slice_get Os k ≡ Some j → At (kept_at ks k).1 (StoreFits bound (S j) (kept_at ks k).0)
    old-at [] ks k j h e = cc
    old-at (o ∷ Os) [] k j h e = absurd h
    old-at (o ∷ Os) (q ∷ ks) zero j h e = let same : o ≡ j = cc in subst (λ i. At q.1 (StoreFits bound (S i) q.0)) same h.0
    old-at (o ∷ Os) (q ∷ ks) (suc k) j h e = old-at Os ks k j h.1 e

    -- the value of an event, where there is one
    abbrev OptionFits : TypeTree → Option Datum → Type 0
    OptionFits V None = Unit {0}
    OptionFits V (Some c) = Fits bound c V

    event-fits : {V : TypeTree} {w : Datum} → Fits bound w (event_ty V) → OptionFits V (event_in w)
    event-fits no_event_fits = tt
    event-fits (event_fits h) = h

    beside-fits : {A V : TypeTree} {w : Datum} → Fits bound w (pair_ty A (event_ty V)) → Fits bound (beside_in w) (event_ty V)
    beside-fits (pair_fits h k) = k

    -- the step of an `accumBy` runs at what fits
    accum-leaf : (Ps : List TypeTree) (V U : TypeTree) (e : Expr) (ps : List Datum) (c : Datum) (k : Cell) (m : Moment) {v : Datum}
        → ((w : Datum) → Fits bound w (pair_ty V U) → LeafFits bound Ps (pair_ty V U) (expression_of e) ps w V) → Fits bound c V → Fits bound v (event_ty U)
        → At m (CellFits bound C.AccumBy V k) → AllStandWell bound (leaf_stands Ps (pair_ty V U) e ps (accumulated m c k (event_in v)))
    accum-leaf Ps V U e ps c _ start f h no_event_fits i = tt
    accum-leaf Ps V U e ps c _ (step d) f h no_event_fits i = tt
    accum-leaf Ps V U e ps c _ start f h (event_fits k) i = (pair_fits h k, ((V, f _ (pair_fits h k)), tt))
    accum-leaf Ps V U e ps c _ (step d) f h (event_fits {v = u} k) i = later i.2
      where
        later : {k : Cell} → CellFits bound C.AccumBy V k → AllStandWell bound (leaf_stands Ps (pair_ty V U) e ps (Some (pair (accumulator_of k) u)))
        later (accumulator_fits j) = (pair_fits j k, ((V, f _ (pair_fits j k)), tt))

    -- the types of the statements at a switch's event behind the first
    abbrev switch-more : TypeTree → Timing → List TypeTree
    switch-more B at_once = []
    switch-more B delayed = B ∷ []

    -- which of two parts a switch runs
    abbrev ModeAt : TypeTree → Shape → Shape → Moment → Store → Type 0
    ModeAt V a b m s = by_mode (mode_of s) (At m (StoreFits bound a (front_part s))) (λ c. Fits bound c V × At m (StoreFits bound b (taker_part s)))

    cleared-mode : (V : TypeTree) (a b : Shape) (m : Moment) (s : Store) → At m (StoreFits bound (H.mode V a b) s) → ModeAt V a b m (cleared m s)
    cleared-mode V a b start s k = tt
    cleared-mode V a b (step d) (moded None x y) k = k
    cleared-mode V a b (step d) (moded (Some c) x y) k = (k.2.0, (k.0, k.1, k.2.1))
    cleared-mode V a b (step d) _ k = k

    module _ (Ps : List TypeTree) (Os : List ℕ) (A B V : TypeTree) (j i : ℕ) (hf : Goes Ls j Ps Os A B) (ht : Goes Ls i (Ps ++ V ∷ []) Os A B)
        (g : Given) (p : ParamsFit bound Ps g.params) (q : OldsFit Os g.olds) where
      -- t starts, or goes on, by a value
      by-value : (c : Datum) (s : Store) (m : Moment) (v : Datum) → Fits bound c V → At m (StoreFits bound (S i) s) → Fits bound v A
          → Good bound (S i) B (N i (given_value g c) s (m, v)) (F i (given_value g c) s (m, v))
      by-value c s m v fc k x = called i ht (given_value g c) (params-push bound p fc) q s m v k x

      going-good : (L : Layout) (s : Store) (m : Moment) (u : Datum) → ModeAt V (S j) (S i) m s → Fits bound u A
          → Good bound (H.mode V (S j) (S i)) B (going_stand L F N g j i s (m, u) (mode_of s)) (going value_in F g j i s (m, u) (mode_of s))
      going-good L (moded None a b) m u k x = let r : Good bound (S j) B (N j g a (m, u)) (F j g a (m, u)) = called j hf g p q a m u k x in
          record { well = r.well; answer = r.answer; keeps = r.keeps }
      going-good L (moded (Some c) a b) m u k x = let r : Good bound (S i) B (N i (given_value g c) b (m, u)) (F i (given_value g c) b (m, u)) = by-value c b m u k.0 k.1 x in
          record { well = r.well; answer = r.answer; keeps = (k.0, r.keeps) }
      going-good L _ m u k x = let r : Good bound (S j) B (N j g nothing (m, u)) (F j g nothing (m, u)) = called j hf g p q nothing m u k x in
          record { well = r.well; answer = r.answer; keeps = r.keeps }

      -- `rSwitch` behind its event
      r-end : (s : Store) (m : Moment) (v : Datum) → ModeAt V (S j) (S i) m s → Fits bound v (pair_ty A (event_ty V)) → (o : Option Datum) → OptionFits V o
          → let L : Layout = layout Ps Os (pair_ty A (event_ty V)) B (A ∷ event_ty V ∷ B ∷ B ∷ []) (Some V) in
          let l : Local = local (v ∷ left v ∷ beside_in v ∷ []) s m [] in
          let b : Body = answer (Ac.Call i Sc.Value P.Taker W.Start 1) ∷ [] in
          Good bound (H.mode V (S j) (S i)) B
          (value A (left v) ∷ value (event_ty V) (beside_in v)
          ∷ (if is_none o then going_stand L F N g j i s (m, left v) (mode_of s) ++ value B (going value_in F g j i s (m, left v) (mode_of s)).1 ∷ []
          else event_stands V o ++ body_stands L F N g b (B ∷ []) (pair_ty A (event_ty V) ∷ A ∷ event_ty V ∷ []) (with_store l (taken_by o s)) []))
          (if is_none o then going value_in F g j i s (m, left v) (mode_of s) else exec value_in F g b (with_store l (taken_by o s)))
      r-end s m v k x None h =
          let L : Layout = layout Ps Os (pair_ty A (event_ty V)) B (A ∷ event_ty V ∷ B ∷ B ∷ []) (Some V) in
          let r : Good bound (H.mode V (S j) (S i)) B (going_stand L F N g j i s (m, left v) (mode_of s)) (going value_in F g j i s (m, left v) (mode_of s)) =
          going-good L s m (left v) k (left-fits bound x) in
          record { well = (left-fits bound x, (beside-fits x, well-append bound _ _ r.well (r.answer, tt))); answer = r.answer; keeps = r.keeps }
      r-end s m v k x (Some c) h =
          let r : Good bound (S i) B (N i (given_value g c) (taker_part s) (start, left v)) (F i (given_value g c) (taker_part s) (start, left v)) =
          by-value c (taker_part s) start (left v) h tt (left-fits bound x) in
          record { well = (left-fits bound x, (beside-fits x, (h, well-append bound _ _ r.well (r.answer, tt)))); answer = r.answer; keeps = (h, r.keeps) }

      -- `drSwitch` behind its event
      dr-end : (s : Store) (m : Moment) (v : Datum) → ModeAt V (S j) (S i) m s → Fits bound v (pair_ty A (event_ty V)) → (o : Option Datum) → OptionFits V o
          → let L : Layout = layout Ps Os (pair_ty A (event_ty V)) B (A ∷ event_ty V ∷ B ∷ B ∷ B ∷ B ∷ []) (Some V) in
          let r : Store × Datum = going value_in F g j i s (m, left v) (mode_of s) in
          let l : Local = local (v ∷ left v ∷ beside_in v ∷ r.1 ∷ []) r.0 m [] in
          let b : Body = T.Set (Ac.Call i Sc.Value P.Taker W.Start 1) ∷ answer (Ac.Register 3) ∷ [] in
          Good bound (H.mode V (S j) (S i)) B
          (value A (left v) ∷ value (event_ty V) (beside_in v)
          ∷ ((going_stand L F N g j i s (m, left v) (mode_of s) ++ value B r.1 ∷ [])
          ++ (if is_none o then value B r.1 ∷ []
          else event_stands V o ++ body_stands L F N g b (B ∷ B ∷ []) (pair_ty A (event_ty V) ∷ A ∷ event_ty V ∷ B ∷ []) (with_store l (taken_by o r.0)) [])))
          (if is_none o then r else exec value_in F g b (with_store l (taken_by o r.0)))
      dr-end s m v k x None h =
          let L : Layout = layout Ps Os (pair_ty A (event_ty V)) B (A ∷ event_ty V ∷ B ∷ B ∷ B ∷ B ∷ []) (Some V) in
          let r : Good bound (H.mode V (S j) (S i)) B (going_stand L F N g j i s (m, left v) (mode_of s)) (going value_in F g j i s (m, left v) (mode_of s)) =
          going-good L s m (left v) k (left-fits bound x) in
          record { well = (left-fits bound x, (beside-fits x, call-well bound _ _ _ r.well r.answer (r.answer, tt))); answer = r.answer; keeps = r.keeps }
      dr-end s m v k x (Some c) h =
          let L : Layout = layout Ps Os (pair_ty A (event_ty V)) B (A ∷ event_ty V ∷ B ∷ B ∷ B ∷ B ∷ []) (Some V) in
          let r : Good bound (H.mode V (S j) (S i)) B (going_stand L F N g j i s (m, left v) (mode_of s)) (going value_in F g j i s (m, left v) (mode_of s)) =
          going-good L s m (left v) k (left-fits bound x) in
          let b : Store = taker_part (going value_in F g j i s (m, left v) (mode_of s)).0 in
          let z : Good bound (S i) B (N i (given_value g c) b (start, left v)) (F i (given_value g c) b (start, left v)) = by-value c b start (left v) h tt (left-fits bound x) in
          record {
            well = (left-fits bound x, (beside-fits x, call-well bound _ _ _ r.well r.answer (h, call-well bound _ _ _ z.well z.answer (r.answer, tt))));
            answer = r.answer;
            keeps = (h, z.keeps);
          }

    module _ (Ps : List TypeTree) (Os : List ℕ) (A B V : TypeTree) (j i : ℕ) (hf : Goes Ls j Ps Os A (pair_ty B (event_ty V))) (ht : Goes Ls i (Ps ++ V ∷ []) Os A B)
        (g : Given) (p : ParamsFit bound Ps g.params) (q : OldsFit Os g.olds) where
      abbrev switch-layout : List TypeTree → Layout
      switch-layout Us = layout Ps Os A B (B ∷ pair_ty B (event_ty V) ∷ B ∷ event_ty V ∷ B ∷ B ∷ Us) (Some V)

      -- t starts, or goes on, by a value
      by-taken : (c : Datum) (s : Store) (m : Moment) (v : Datum) → Fits bound c V → At m (StoreFits bound (S i) s) → Fits bound v A
          → Good bound (S i) B (N i (given_value g c) s (m, v)) (F i (given_value g c) s (m, v))
      by-taken c s m v fc k x = called i ht (given_value g c) (params-push bound p fc) q s m v k x

      -- `switch` and `dSwitch` behind the answer of f
      switch-end : (tm : Timing) (Us : List TypeTree) (a b : Store) (m : Moment) (v : Datum) → At m (StoreFits bound (S j) a) → Fits bound v A → (o : Option Datum) → OptionFits V o
          → let r : Store × Datum = F j g a (m, v) in
          let l : Local = local (v ∷ r.1 ∷ left r.1 ∷ right r.1 ∷ []) (moded None r.0 b) m [] in
          Good bound (H.mode V (S j) (S i)) B
          ((N j g a (m, v) ++ value (pair_ty B (event_ty V)) r.1 ∷ [])
          ++ (value B (left r.1) ∷ value (event_ty V) (right r.1)
          ∷ (if is_none o then value B (left r.1) ∷ []
          else event_stands V o
          ++ body_stands (switch-layout Us) F N g (started tm i) (B ∷ (switch-more B tm)) (A ∷ pair_ty B (event_ty V) ∷ B ∷ event_ty V ∷ []) (with_store l (taken_by o l.store)) [])))
          (if is_none o then (l.store, left r.1) else exec value_in F g (started tm i) (with_store l (taken_by o l.store)))
      switch-end tm Us a b m v k x None h =
          let r : Good bound (S j) (pair_ty B (event_ty V)) (N j g a (m, v)) (F j g a (m, v)) = called j hf g p q a m v k x in
          let y : Fits bound (left (F j g a (m, v)).1) B = left-fits bound r.answer in
          record { well = call-well bound _ _ _ r.well r.answer (y, (right-fits bound r.answer, (y, tt))); answer = y; keeps = r.keeps }
      switch-end at_once Us a b m v k x (Some c) h =
          let r : Good bound (S j) (pair_ty B (event_ty V)) (N j g a (m, v)) (F j g a (m, v)) = called j hf g p q a m v k x in
          let y : Fits bound (left (F j g a (m, v)).1) B = left-fits bound r.answer in
          let z : Good bound (S i) B (N i (given_value g c) b (start, v)) (F i (given_value g c) b (start, v)) = by-taken c b start v h tt x in
          record { well = call-well bound _ _ _ r.well r.answer (y, (right-fits bound r.answer, (h, well-append bound _ _ z.well (z.answer, tt)))); answer = z.answer; keeps = (h, z.keeps) }
      switch-end delayed Us a b m v k x (Some c) h =
          let r : Good bound (S j) (pair_ty B (event_ty V)) (N j g a (m, v)) (F j g a (m, v)) = called j hf g p q a m v k x in
          let y : Fits bound (left (F j g a (m, v)).1) B = left-fits bound r.answer in
          let z : Good bound (S i) B (N i (given_value g c) b (start, v)) (F i (given_value g c) b (start, v)) = by-taken c b start v h tt x in
          record { well = call-well bound _ _ _ r.well r.answer (y, (right-fits bound r.answer, (h, call-well bound _ _ _ z.well z.answer (y, tt)))); answer = y; keeps = (h, z.keeps) }

      switch-done : (tm : Timing) (s : Store) (m : Moment) (v : Datum) → At m (StoreFits bound (H.mode V (S j) (S i)) s) → Fits bound v A
          → Done (switch-layout ((switch-more B tm))) (H.mode V (S j) (S i)) (switch_body tm j i) g s m v
      switch-done tm s start v k x =
          switch-end tm ((switch-more B tm)) (front_part s) (taker_part s) start v tt x (event_in (right (F j g (front_part s) (start, v)).1))
          (event-fits (right-fits bound (called j hf g p q (front_part s) start v tt x).answer))
      switch-done tm (moded (Some c) a b) (step d) v k x =
          let z : Good bound (S i) B (N i (given_value g c) b (step d, v)) (F i (given_value g c) b (step d, v)) = by-taken c b (step d) v k.2.0 (k.0, k.1, k.2.1) x in
          record { well = well-append bound _ _ z.well (z.answer, tt); answer = z.answer; keeps = (k.2.0, z.keeps) }
      switch-done tm (moded None a b) (step d) v k x =
          switch-end tm ((switch-more B tm)) a b (step d) v k x (event_in (right (F j g a (step d, v)).1)) (event-fits (right-fits bound (called j hf g p q a (step d) v k x).answer))
      switch-done tm _ (step d) v k x =
          switch-end tm ((switch-more B tm)) nothing nothing (step d) v k x (event_in (right (F j g nothing (step d, v)).1)) (event-fits (right-fits bound (called j hf g p q nothing (step d) v k x).answer))

    module _ (Ps : List TypeTree) (Os : List ℕ) (A B V : TypeTree) (j w i : ℕ) (hf : Goes Ls j Ps Os A B) (he : Goes Ls w Ps Os (pair_ty A B) (event_ty V))
        (ht : Goes Ls i (Ps ++ V ∷ []) (Os ++ j ∷ []) A B) (g : Given) (p : ParamsFit bound Ps g.params) (q : OldsFit Os g.olds) where
      abbrev freezing-layout : Layout
      freezing-layout = layout Ps Os A B (B ∷ B ∷ pair_ty A B ∷ event_ty V ∷ B ∷ B ∷ []) (Some V)

      abbrev given-one : Datum → Store → Moment → Given
      given-one c a n = given_kept (given_value g c) ((a, n) ∷ [])

      -- t starts, or goes on, by a value, with f frozen
      resume-by : (c : Datum) (s : Store) (m : Moment) (v : Datum) (a : Store) (n : Moment) → Fits bound c V → At n (StoreFits bound (S j) a) → At m (StoreFits bound (S i) s) → Fits bound v A
          → Good bound (S i) B (N i (given-one c a n) s (m, v)) (F i (given-one c a n) s (m, v))
      resume-by c s m v a n fc ka k x = called i ht (given-one c a n) (params-push bound p fc) (olds-append Os (j ∷ []) g.olds ((a, n) ∷ []) q (ka, tt)) s m v k x

      -- `kSwitch` behind the answers of f and e
      k-end : (fr tk : Store) (m : Moment) (v : Datum) → At m (StoreFits bound (S j) (one fr) × StoreFits bound (S w) (other fr)) → Fits bound v A → (o : Option Datum) → OptionFits V o
          → let r : Store × Datum = F j g (one fr) (m, v) in
          let u : Store × Datum = F w g (other fr) (m, pair v r.1) in
          let st : Store = moded None (two_parts r.0 u.0) (kept_frozen m (one fr) (resumer_part tk)) in
          let l : Local = local (v ∷ r.1 ∷ pair v r.1 ∷ u.1 ∷ []) st m [] in
          let b : Body = answer (Ac.Call i Sc.Frozen P.Resumer W.Start 0) ∷ [] in
          Good bound (H.frozen V (S j) (S w) (S i)) B
          ((N j g (one fr) (m, v) ++ value B r.1 ∷ [])
          ++ (value (pair_ty A B) (pair v r.1)
          ∷ ((N w g (other fr) (m, pair v r.1) ++ value (event_ty V) u.1 ∷ [])
          ++ (if is_none o then value B r.1 ∷ []
          else event_stands V o ++ body_stands freezing-layout F N g b (B ∷ []) (A ∷ B ∷ pair_ty A B ∷ event_ty V ∷ []) (with_store l (taken_by o st)) []))))
          (if is_none o then (st, r.1) else exec value_in F g b (with_store l (taken_by o st)))
      k-end fr tk m v k x None h =
          let r : Good bound (S j) B (N j g (one fr) (m, v)) (F j g (one fr) (m, v)) = called j hf g p q (one fr) m v (at-map m (λ y. y.0) k) x in
          let z : Datum = (F j g (one fr) (m, v)).1 in
          let u : Good bound (S w) (event_ty V) (N w g (other fr) (m, pair v z)) (F w g (other fr) (m, pair v z)) =
          called w he g p q (other fr) m (pair v z) (at-map m (λ y. y.1) k) (pair_fits x r.answer) in
          record {
            well = call-well bound _ _ _ r.well r.answer (pair_fits x r.answer, call-well bound _ _ _ u.well u.answer (r.answer, tt));
            answer = r.answer;
            keeps = (r.keeps, u.keeps);
          }
      k-end fr tk m v k x (Some c) h =
          let r : Good bound (S j) B (N j g (one fr) (m, v)) (F j g (one fr) (m, v)) = called j hf g p q (one fr) m v (at-map m (λ y. y.0) k) x in
          let z : Datum = (F j g (one fr) (m, v)).1 in
          let u : Good bound (S w) (event_ty V) (N w g (other fr) (m, pair v z)) (F w g (other fr) (m, pair v z)) =
          called w he g p q (other fr) m (pair v z) (at-map m (λ y. y.1) k) (pair_fits x r.answer) in
          let t : Good bound (S i) B (N i (given-one c (one fr) m) (resumer_part tk) (start, v)) (F i (given-one c (one fr) m) (resumer_part tk) (start, v)) =
          resume-by c (resumer_part tk) start v (one fr) m h (at-map m (λ y. y.0) k) tt x in
          record {
            well = call-well bound _ _ _ r.well r.answer (pair_fits x r.answer, call-well bound _ _ _ u.well u.answer (h, well-append bound _ _ t.well (t.answer, tt)));
            answer = t.answer;
            keeps = (h, at-map m (λ y. y.0) k, t.keeps);
          }

      k-begun : (fr tk : Store) (m : Moment) (v : Datum) → At m (StoreFits bound (S j) (one fr) × StoreFits bound (S w) (other fr)) → Fits bound v A
          → OptionFits V (event_in (F w g (other fr) (m, pair v (F j g (one fr) (m, v)).1)).1)
      k-begun fr tk m v k x =
          let r : Good bound (S j) B (N j g (one fr) (m, v)) (F j g (one fr) (m, v)) = called j hf g p q (one fr) m v (at-map m (λ y. y.0) k) x in
          let z : Datum = (F j g (one fr) (m, v)).1 in
          let u : Good bound (S w) (event_ty V) (N w g (other fr) (m, pair v z)) (F w g (other fr) (m, pair v z)) =
          called w he g p q (other fr) m (pair v z) (at-map m (λ y. y.1) k) (pair_fits x r.answer) in
          event-fits u.answer

      k-done : (s : Store) (m : Moment) (v : Datum) → At m (StoreFits bound (H.frozen V (S j) (S w) (S i)) s) → Fits bound v A
          → Done freezing-layout (H.frozen V (S j) (S w) (S i)) (k_switch_body j w i) g s m v
      k-done s start v k x = k-end (front_part s) (taker_part s) start v tt x _ (k-begun (front_part s) (taker_part s) start v tt x)
      k-done (moded (Some c) fr tk) (step d) v k x =
          let z : Good bound (S i) B (N i (given-one c (frozen_part tk) (frozen_when tk)) (resumer_part tk) (step d, v)) (F i (given-one c (frozen_part tk) (frozen_when tk)) (resumer_part tk) (step d, v)) =
          resume-by c (resumer_part tk) (step d) v (frozen_part tk) (frozen_when tk) k.2.0 k.2.1 (k.0, k.1, k.2.2) x in
          record { well = well-append bound _ _ z.well (z.answer, tt); answer = z.answer; keeps = (k.2.0, k.2.1, z.keeps) }
      k-done (moded None fr tk) (step d) v k x = k-end fr tk (step d) v k x _ (k-begun fr tk (step d) v k x)
      k-done _ (step d) v k x = k-end nothing nothing (step d) v k x _ (k-begun nothing nothing (step d) v k x)

    small-number : (n : ℕ) → n ≤ 64 → Fits bound (int (pos n)) int_ty
    small-number n l = int_fits (record { sfits = omega arith })

    -- what members come to, each on what the expression gives it
    routed-good : {Ps : List TypeTree} {Os : List ℕ} {A B D : TypeTree} {js : List ℕ} (r : Expr) → LeafTyped bound Ps r (pair_ty A int_ty) D → AllGo Ls Ps Os D B js → (n : ℕ) → n + length js ≤ 64
        → (g : Given) → ParamsFit bound Ps g.params → OldsFit Os g.olds → (s : Store) (m : Moment) (v : Datum) → At m (StoreFits bound (chain (map S js)) s) → Fits bound v A
        → Each B js (routed_stand Ps A r g.params n (tracers_of g js) s (m, v)) (each_step (routed (value_in r g.params) n (steps_of g js)) s (m, v))
    routed-good r hr none_go n l g p o s m v k x = record { well = tt; answers = end_fits; many = refl; keeps = tt }
    routed-good {Ps = Ps} {A = A} {B = B} {D = D} r hr (one_goes {j = j} {js = js} h hs) n l g p o s m v k x =
        let at : Fits bound (pair v (int (pos n))) (pair_ty A int_ty) = pair_fits x (small-number n (omega arith)) in
        let f : LeafFits bound Ps (pair_ty A int_ty) (expression_of r) g.params (pair v (int (pos n))) D = leaf-well r g.params (pair v (int (pos n))) hr p at in
        let y : Datum = value_in r g.params (pair v (int (pos n))) in
        let a : Good bound (S j) B (N j g (one s) (m, y)) (F j g (one s) (m, y)) = called j h g p o (one s) m y (at-map m (λ u. u.0) k) f.value in
        let rs : Each B js (routed_stand Ps A r g.params (suc n) (tracers_of g js) (other s) (m, v)) (each_step (routed (value_in r g.params) (suc n) (steps_of g js)) (other s) (m, v)) =
        routed-good r hr hs (suc n) (omega arith) g p o (other s) m v (at-map m (λ u. u.1) k) x in
        record {
          well = (at, ((D, f), well-append bound (N j g (one s) (m, y)) _ a.well rs.well));
          answers = more_fits a.answer rs.answers;
          many = ap suc rs.many;
          keeps = (a.keeps, rs.keeps);
        }

    frozen-olds : (js : List ℕ) (a : Store) (n : Moment) → At n (StoreFits bound (chain (map S js)) a) → OldsFit js (split (length js) a n)
    frozen-olds [] a n k = tt
    frozen-olds (j ∷ js) a n k = (at-map n (λ u. u.0) k, frozen-olds js (other a) n (at-map n (λ u. u.1) k))

    module _ (Ps : List TypeTree) (Os : List ℕ) (A B D V : TypeTree) (e : Expr) (js : List ℕ) (w i : ℕ) (hr : LeafTyped bound Ps e (pair_ty A int_ty) D) (hs : AllGo Ls Ps Os D B js)
        (room : length js ≤ bound B) (few : length js ≤ 64) (he : Goes Ls w Ps Os (pair_ty A (list_ty B)) (event_ty V)) (ht : Goes Ls i (Ps ++ V ∷ []) (Os ++ js) A (list_ty B))
        (g : Given) (p : ParamsFit bound Ps g.params) (q : OldsFit Os g.olds) where
      abbrev members-layout : Layout
      members-layout = layout Ps Os A (list_ty B) (list_ty B ∷ list_ty B ∷ pair_ty A (list_ty B) ∷ event_ty V ∷ list_ty B ∷ list_ty B ∷ []) (Some V)

      abbrev members-shape : Shape
      members-shape = chain (map S js)

      abbrev given-all : Datum → Store → Moment → Given
      given-all c a n = given_kept (given_value g c) (split (length js) a n)

      -- t starts, or goes on, by a value, with the members frozen
      resume-all : (c : Datum) (s : Store) (m : Moment) (v : Datum) (a : Store) (n : Moment) → Fits bound c V → At n (StoreFits bound members-shape a) → At m (StoreFits bound (S i) s) → Fits bound v A
          → Good bound (S i) (list_ty B) (N i (given-all c a n) s (m, v)) (F i (given-all c a n) s (m, v))
      resume-all c s m v a n fc ka k x = called i ht (given-all c a n) (params-push bound p fc) (olds-append Os js g.olds (split (length js) a n) q (frozen-olds js a n ka)) s m v k x

      -- the members' answers
      abbrev members-run-at : Store → Moment → Datum → Store × List Datum
      members-run-at s m v = each_step (routed (value_in e g.params) 0 (steps_of g js)) s (m, v)

      abbrev members-answer : Store → Moment → Datum → Datum
      members-answer s m v = list (list_of (members-run-at s m v).1)

      routed-all : (s : Store) (m : Moment) (v : Datum) → At m (StoreFits bound members-shape s) → Fits bound v A
          → Good bound members-shape (list_ty B) (routed_stand Ps A e g.params 0 (tracers_of g js) s (m, v)) ((members-run-at s m v).0, members-answer s m v)
      routed-all s m v k x =
          let r : Each B js (routed_stand Ps A e g.params 0 (tracers_of g js) s (m, v)) (members-run-at s m v) = routed-good e hr hs 0 (omega arith) g p q s m v k x in
          record { well = r.well; answer = listed bound B _ (subst (λ n. n ≤ bound B) (sym r.many) room) r.answers; keeps = r.keeps }

      watch-all : (fr : Store) (m : Moment) (v : Datum) → At m (StoreFits bound members-shape (one fr) × StoreFits bound (S w) (other fr)) → Fits bound v A
          → let z : Datum = members-answer (one fr) m v in
          Good bound (S w) (event_ty V) (N w g (other fr) (m, pair v z)) (F w g (other fr) (m, pair v z))
      watch-all fr m v k x =
          called w he g p q (other fr) m (pair v (members-answer (one fr) m v)) (at-map m (λ y. y.1) k) (pair_fits x (routed-all (one fr) m v (at-map m (λ y. y.0) k) x).answer)

      -- `pSwitch` behind the answers of the members and of e
      p-end : (fr tk : Store) (m : Moment) (v : Datum) → At m (StoreFits bound members-shape (one fr) × StoreFits bound (S w) (other fr)) → Fits bound v A → (o : Option Datum) → OptionFits V o
          → let r : Store × List Datum = members-run-at (one fr) m v in
          let z : Datum = members-answer (one fr) m v in
          let u : Store × Datum = F w g (other fr) (m, pair v z) in
          let st : Store = moded None (two_parts r.0 u.0) (kept_frozen m (one fr) (resumer_part tk)) in
          let l : Local = local (v ∷ z ∷ pair v z ∷ u.1 ∷ []) st m (steps_of g js) in
          let b : Body = answer (Ac.Call i (Sc.Members (length js)) P.Resumer W.Start 0) ∷ [] in
          Good bound (H.frozen V members-shape (S w) (S i)) (list_ty B)
          ((routed_stand Ps A e g.params 0 (tracers_of g js) (one fr) (m, v) ++ value (list_ty B) z ∷ [])
          ++ (value (pair_ty A (list_ty B)) (pair v z)
          ∷ ((N w g (other fr) (m, pair v z) ++ value (event_ty V) u.1 ∷ [])
          ++ (if is_none o then value (list_ty B) z ∷ []
          else event_stands V o
          ++ body_stands members-layout F N g b (list_ty B ∷ []) (A ∷ list_ty B ∷ pair_ty A (list_ty B) ∷ event_ty V ∷ []) (with_store l (taken_by o st)) (tracers_of g js)))))
          (if is_none o then (st, z) else exec value_in F g b (with_store l (taken_by o st)))
      p-end fr tk m v k x None h =
          let z : Datum = members-answer (one fr) m v in
          let r : Good bound members-shape (list_ty B) (routed_stand Ps A e g.params 0 (tracers_of g js) (one fr) (m, v)) ((members-run-at (one fr) m v).0, z) = routed-all (one fr) m v (at-map m (λ y. y.0) k) x in
          let u : Good bound (S w) (event_ty V) (N w g (other fr) (m, pair v z)) (F w g (other fr) (m, pair v z)) = watch-all fr m v k x in
          record {
            well = call-well bound _ _ _ r.well r.answer (pair_fits x r.answer, call-well bound _ _ _ u.well u.answer (r.answer, tt));
            answer = r.answer;
            keeps = (r.keeps, u.keeps);
          }
      p-end fr tk m v k x (Some c) h =
          let z : Datum = members-answer (one fr) m v in
          let r : Good bound members-shape (list_ty B) (routed_stand Ps A e g.params 0 (tracers_of g js) (one fr) (m, v)) ((members-run-at (one fr) m v).0, z) = routed-all (one fr) m v (at-map m (λ y. y.0) k) x in
          let u : Good bound (S w) (event_ty V) (N w g (other fr) (m, pair v z)) (F w g (other fr) (m, pair v z)) = watch-all fr m v k x in
          let t : Good bound (S i) (list_ty B) (N i (given-all c (one fr) m) (resumer_part tk) (start, v)) (F i (given-all c (one fr) m) (resumer_part tk) (start, v)) =
          resume-all c (resumer_part tk) start v (one fr) m h (at-map m (λ y. y.0) k) tt x in
          record {
            well = call-well bound _ _ _ r.well r.answer (pair_fits x r.answer, call-well bound _ _ _ u.well u.answer (h, well-append bound _ _ t.well (t.answer, tt)));
            answer = t.answer;
            keeps = (h, at-map m (λ y. y.0) k, t.keeps);
          }

      abbrev P-Done : Store → Moment → Datum → Type 0
      P-Done s m v = Good bound (H.frozen V members-shape (S w) (S i)) (list_ty B)
          (body_stands members-layout F N g (freezing_body (Ac.Routed e P.Watched 0) (Sc.Members (length js)) w i) members-layout.values (A ∷ []) (local (v ∷ []) s m (steps_of g js)) (tracers_of g js))
          (exec value_in F g (freezing_body (Ac.Routed e P.Watched 0) (Sc.Members (length js)) w i) (local (v ∷ []) s m (steps_of g js)))

      p-done : (s : Store) (m : Moment) (v : Datum) → At m (StoreFits bound (H.frozen V members-shape (S w) (S i)) s) → Fits bound v A → P-Done s m v
      p-done s start v k x = p-end (front_part s) (taker_part s) start v tt x _ (event-fits (watch-all (front_part s) start v tt x).answer)
      p-done (moded (Some c) fr tk) (step d) v k x =
          let z : Good bound (S i) (list_ty B) (N i (given-all c (frozen_part tk) (frozen_when tk)) (resumer_part tk) (step d, v)) (F i (given-all c (frozen_part tk) (frozen_when tk)) (resumer_part tk) (step d, v)) =
          resume-all c (resumer_part tk) (step d) v (frozen_part tk) (frozen_when tk) k.2.0 k.2.1 (k.0, k.1, k.2.2) x in
          record { well = well-append bound _ _ z.well (z.answer, tt); answer = z.answer; keeps = (k.2.0, k.2.1, z.keeps) }
      p-done (moded None fr tk) (step d) v k x = p-end fr tk (step d) v k x _ (event-fits (watch-all fr (step d) v k x).answer)
      p-done _ (step d) v k x = p-end nothing nothing (step d) v k x _ (event-fits (watch-all nothing (step d) v k x).answer)

    module _ (Ps : List TypeTree) (Os : List ℕ) (A B U V : TypeTree) (js : List ℕ) (e : Expr) (i : ℕ) (hs : AllGo Ls Ps Os A B js) (room : 64 ≤ bound B)
        (he : LeafTyped bound Ps e U (pair_ty (list_ty int_ty) (list_ty V))) (ht : Goes Ls i (Ps ++ V ∷ []) Os A B) (g : Given) (p : ParamsFit bound Ps g.params) (q : OldsFit Os g.olds) where
      abbrev MS : ℕ → Store → Type 0
      MS k a = MemberFits bound (chain (map S js)) k a

      abbrev TS : Store → Type 0
      TS a = StoreFits bound (S i) a

      -- what a member of this origin keeps, and that it is there
      abbrev StoreOf : Origin → Store → Type 0
      StoreOf (written k) a = MS k a
      StoreOf (made c) a = TS a

      abbrev IsOrigin : Origin → Type 0
      IsOrigin (written k) = k < length js
      IsOrigin (made c) = Fits bound c V

      abbrev TurnFits : Turn → Type 0
      TurnFits t = IsOrigin t.1.0 × At t.0 (StoreOf t.1.0 t.1.1)

      abbrev TurnsFit : List Turn → Type 0
      TurnsFit [] = Unit {0}
      TurnsFit (t ∷ ts) = TurnFits t × TurnsFit ts

      abbrev maker : Datum → Stepper
      maker c = F i (given_value g c)

      abbrev maker-stands : Datum → Tracer
      maker-stands c = N i (given_value g c)

      -- a written member
      member-good : (ks : List ℕ) → AllGo Ls Ps Os A B ks → (k : ℕ) → k < length ks → (s : Store) (m : Moment) (v : Datum) → At m (MemberFits bound (chain (map S ks)) k s) → Fits bound v A
          → AllStandWell bound (get_or (tracers_of g ks) k nothing_stands s (m, v))
          × (Fits bound (step_at (steps_of g ks) k s (m, v)).1 B × MemberFits bound (chain (map S ks)) k (step_at (steps_of g ks) k s (m, v)).0)
      member-good [] none_go k l s m v h x = absurd (omega arith)
      member-good (j ∷ ks) (one_goes a as1) zero l s m v h x =
          let r : Good bound (S j) B (N j g s (m, v)) (F j g s (m, v)) = called j a g p q s m v h x in (r.well, (r.answer, r.keeps))
      member-good (j ∷ ks) (one_goes a as1) (suc k) l s m v h x = member-good ks as1 k (omega arith) s m v h x

      member-valid : (ks : List ℕ) (k : ℕ) (a : Store) → MemberFits bound (chain (map S ks)) k a → k < length ks
      member-valid [] k a h = absurd h
      member-valid (j ∷ ks) zero a h = omega arith
      member-valid (j ∷ ks) (suc k) a h = let l : k < length ks = member-valid ks k a h in omega arith

      -- any member
      origin-good : (o : Origin) (s : Store) (m : Moment) (v : Datum) → IsOrigin o → At m (StoreOf o s) → Fits bound v A
          → AllStandWell bound (member_stands (tracers_of g js) maker-stands o s (m, v))
          × (Fits bound (member_step (steps_of g js) maker o s (m, v)).1 B × EntryFits bound MS TS V o (member_step (steps_of g js) maker o s (m, v)).0)
      origin-good (written k) s m v l h x = member-good js hs k l s m v h x
      origin-good (made c) s m v f h x =
          let r : Good bound (S i) B (N i (given_value g c) s (m, v)) (F i (given_value g c) s (m, v)) = called i ht (given_value g c) (params-push bound p f) q s m v h x in
          (r.well, (r.answer, (f, r.keeps)))

      turns-good : (ts : List Turn) (v : Datum) → TurnsFit ts → Fits bound v A
          → let r : List Entry × List Datum = turns_step (member_step (steps_of g js) maker) ts v in
          AllStandWell bound (turns_stand (member_stands (tracers_of g js) maker-stands) ts v)
          × (AllFit bound (list_of r.1) B × ((length r.1 ≡ length ts) × EntriesFit bound MS TS V r.0))
      turns-good [] v h x = (tt, (end_fits, (refl, tt)))
      turns-good (t ∷ ts) v h x =
          let a : AllStandWell bound (member_stands (tracers_of g js) maker-stands t.1.0 t.1.1 (t.0, v))
          × (Fits bound (member_step (steps_of g js) maker t.1.0 t.1.1 (t.0, v)).1 B × EntryFits bound MS TS V t.1.0 (member_step (steps_of g js) maker t.1.0 t.1.1 (t.0, v)).0) =
          origin-good t.1.0 t.1.1 t.0 v h.0.0 h.0.1 x in
          let r : List Entry × List Datum = turns_step (member_step (steps_of g js) maker) ts v in
          let b : AllStandWell bound (turns_stand (member_stands (tracers_of g js) maker-stands) ts v)
          × (AllFit bound (list_of r.1) B × ((length r.1 ≡ length ts) × EntriesFit bound MS TS V r.0)) = turns-good ts v h.1 x in
          (well-append bound (member_stands (tracers_of g js) maker-stands t.1.0 t.1.1 (t.0, v)) _ a.0 b.0, (more_fits a.1.0 b.1.0, (ap suc b.1.1.0, (a.1.1, b.1.1.1))))

      turns-take : (n : ℕ) (ts : List Turn) → TurnsFit ts → TurnsFit (take n ts)
      turns-take zero ts h = tt
      turns-take (suc n) [] h = tt
      turns-take (suc n) (t ∷ ts) h = (h.0, turns-take n ts h.1)

      turns-append : (ts us : List Turn) → TurnsFit ts → TurnsFit us → TurnsFit (ts ++ us)
      turns-append [] us h k = k
      turns-append (t ∷ ts) us h k = (h.0, turns-append ts us h.1 k)

      written-fit : (n : ℕ) (ks : List ℕ) → n + length ks ≤ length js → TurnsFit (new_turns (written_from n (steps_of g ks)))
      written-fit n [] l = tt
      written-fit n (k ∷ ks) l = ((omega arith, tt), written-fit (suc n) ks (omega arith))

      entry-turns : (d : ℕ) (es : List Entry) → 1 ≤ d → d < 2 ^ 63 → EntriesFit bound MS TS V es → TurnsFit (turns (step d) es)
      entry-turns d [] a b h = tt
      entry-turns d ((written k, x) ∷ es) a b h = ((member-valid js k x h.0, (a, b, h.0)), entry-turns d es a b h.1)
      entry-turns d ((made c, x) ∷ es) a b h = ((h.0.0, (a, b, h.0.1)), entry-turns d es a b h.1)

      entries-take : (n : ℕ) (es : List Entry) → EntriesFit bound MS TS V es → EntriesFit bound MS TS V (take n es)
      entries-take zero es h = tt
      entries-take (suc n) [] h = tt
      entries-take (suc n) (a ∷ es) h = (h.0, entries-take n es h.1)

      members-fit : (m : Moment) (s : Store) → At m (StoreFits bound (H.collection V (chain (map S js)) (S i)) s) → TurnsFit (members_at m (steps_of g js) s)
      members-fit start s k = turns-take 64 _ (written-fit 0 js (omega arith))
      members-fit (step d) s k = entry-turns d (take 64 (entries s)) k.0 k.1 (entries-take 64 (entries s) k.2)

      one-named : (ts : List Turn) (k : ℕ) → TurnsFit ts → TurnsFit (item_at ts k)
      one-named [] k h = tt
      one-named (t ∷ ts) zero h = (h.0, tt)
      one-named (t ∷ ts) (suc k) h = one-named ts k h.1

      value-named : (ts : List Turn) (u : Datum) → TurnsFit ts → TurnsFit (item_named ts u)
      value-named ts (int (pos k)) h = one-named ts k h
      value-named ts _ h = tt

      all-named : (ts : List Turn) (us : List Datum) → TurnsFit ts → TurnsFit (items_named ts us)
      all-named ts [] h = tt
      all-named ts (u ∷ us) h = turns-append (item_named ts u) (items_named ts us) (value-named ts u h) (all-named ts us h)

      made-fit : {vs : Datums} → AllFit bound vs V → TurnsFit (new_turns (map made (elements vs)))
      made-fit end_fits = tt
      made-fit (more_fits f h) = ((f, tt), made-fit h)

      started-fit : {u : Datum} → Fits bound u (list_ty V) → TurnsFit (new_turns (map made (items_of u)))
      started-fit (list_fits l h) = made-fit h

      in-fit : (o : Option Datum) (ts : List Turn) → OptionFits U o → TurnsFit ts → TurnsFit (members_in (value_in e g.params) ts o)
      in-fit None ts h k = k
      in-fit (Some c) ts h k =
          let l : LeafFits bound Ps U (expression_of e) g.params c (pair_ty (list_ty int_ty) (list_ty V)) = leaf-well e g.params c he p h in
          turns-take 64 _ (turns-append (items_named ts (items_of (left (value_in e g.params c)))) (new_turns (map made (items_of (right (value_in e g.params c)))))
          (all-named ts (items_of (left (value_in e g.params c))) k) (started-fit (right-fits bound l.value)))

      few-in : (m : Moment) (s : Store) (o : Option Datum) → length (members_in (value_in e g.params) (members_at m (steps_of g js) s) o) ≤ 64
      few-in start s None = few-taken _
      few-in (step d) s None =
          let h : length (turns (step d) (take 64 (entries s))) ≡ length (take 64 (entries s)) = length-map (take 64 (entries s)) _ in
          let k : length (take 64 (entries s)) ≤ 64 = few-taken (entries s) in
          omega arith
      few-in m s (Some c) = few-taken _

      beside-option : {v : Datum} → Fits bound v (pair_ty A (event_ty U)) → OptionFits U (event_beside v)
      beside-option (pair_fits h no_event_fits) = tt
      beside-option (pair_fits h (event_fits k)) = k

      leaf-option : (o : Option Datum) → OptionFits U o → AllStandWell bound (leaf_stands Ps U e g.params o)
      leaf-option None h = tt
      leaf-option (Some c) h = (h, ((_, leaf-well e g.params c he p h), tt))

      collection-done : (s : Store) (m : Moment) (v : Datum) → At m (StoreFits bound (H.collection V (chain (map S js)) (S i)) s) → Fits bound v (pair_ty A (event_ty U))
          → let r : List Entry × List Datum = turns_step (member_step (steps_of g js) maker) (members_in (value_in e g.params) (members_at m (steps_of g js) s) (event_beside v)) (left v) in
          Good bound (H.collection V (chain (map S js)) (S i)) (list_ty B)
          ((leaf_stands Ps U e g.params (event_beside v)
          ++ turns_stand (member_stands (tracers_of g js) maker-stands) (members_in (value_in e g.params) (members_at m (steps_of g js) s) (event_beside v)) (left v))
          ++ value (list_ty B) (list (list_of r.1)) ∷ []) (stored r.0, list (list_of r.1))
      collection-done s m v k x =
          let o : Option Datum = event_beside v in
          let ts : List Turn = members_in (value_in e g.params) (members_at m (steps_of g js) s) o in
          let r : List Entry × List Datum = turns_step (member_step (steps_of g js) maker) ts (left v) in
          let h : AllStandWell bound (turns_stand (member_stands (tracers_of g js) maker-stands) ts (left v))
          × (AllFit bound (list_of r.1) B × ((length r.1 ≡ length ts) × EntriesFit bound MS TS V r.0)) =
          turns-good ts (left v) (in-fit o (members_at m (steps_of g js) s) (beside-option x) (members-fit m s k)) (left-fits bound x) in
          let few : length ts ≤ 64 = few-in m s o in
          let same : length r.1 ≡ length ts = h.1.1.0 in
          let a : Fits bound (list (list_of r.1)) (list_ty B) = listed bound B r.1 (omega arith) h.1.0 in
          record {
            well = well-append bound _ _ (well-append bound (leaf_stands Ps U e g.params o) _ (leaf-option o (beside-option x)) h.0) (a, tt);
            answer = a;
            keeps = subst (EntriesFit bound MS TS V) (sym (entries-stored r.0)) h.1.1.1;
          }

    pub done : (L : Layout) (f : Function) → FunctionFits bound Ls L f → AllDone L (shape_of S L f) (body_of f)
    done L f (arr_fits {Ps = Ps} {Os = Os} {A = A} {B = B} {e = e} h) g p o s m v k x =
        let l : LeafFits bound _ _ (expression_of e) g.params v _ = leaf-well e g.params v h p x in
        record { well = ((_, l), (l.value, tt)); answer = l.value; keeps = tt }
    done L f (seq_fits {Ps = Ps} {Os = Os} {A = A} {B = B} {D = D} {f = j} {g = i} hf hg) g p o s m v k x =
        let rf : Good bound (S j) _ (N j g (one s) (m, v)) (F j g (one s) (m, v)) = called j hf g p o (one s) m v (at-map m (λ h. h.0) k) x in
        let y : Datum = (F j g (one s) (m, v)).1 in
        let rg : Good bound (S i) _ (N i g (other s) (m, y)) (F i g (other s) (m, y)) = called i hg g p o (other s) m y (at-map m (λ h. h.1) k) rf.answer in
        record {
          well = call-well bound _ _ _ rf.well rf.answer (well-append bound _ _ rg.well (rg.answer, tt));
          answer = rg.answer;
          keeps = (rf.keeps, rg.keeps);
        }
    done L f (first_fits {Ps = Ps} {Os = Os} {A = A} {B = B} {D = D} {f = j} hf) g p o s m v k x =
        let r : Good bound (S j) _ (N j g s (m, left v)) (F j g s (m, left v)) = called j hf g p o s m (left v) k (left-fits bound x) in
        record {
          well = (left-fits bound x, call-well bound _ _ _ r.well r.answer (right-fits bound x, (pair_fits r.answer (right-fits bound x), tt)));
          answer = pair_fits r.answer (right-fits bound x);
          keeps = r.keeps;
        }
    done L f (loop_fits {Ps = Ps} {Os = Os} {A = A} {B = B} {V = V} {c = c} {f = j} hc hf) g p o s m v k x =
        let l : LeafFits bound _ unit_ty (expression_of c) g.params unit V = leaf-well c g.params unit hc p unit_fits in
        let z : Datum = value_in c g.params unit in
        let w : Datum = first_or m z (fed_value s) in
        let fw : Fits bound w V = fed-or m V z (fed_value s) _ l.value k in
        let r : Good bound (S j) _ (N j g (looped s) (m, pair v w)) (F j g (looped s) (m, pair v w)) =
        called j hf g p o (looped s) m (pair v w) (at-map m (λ h. h.1) k) (pair_fits x fw) in
        let b : Fits bound (right (F j g (looped s) (m, pair v w)).1) V = right-fits bound r.answer in
        record {
          well = ((_, l), (l.value, (fw, (pair_fits x fw, call-well bound _ _ _ r.well r.answer (b, (b, (left-fits bound r.answer, tt)))))));
          answer = left-fits bound r.answer;
          keeps = (b, r.keeps);
        }
    done L f (cell_fits {Ps = Ps} {Os = Os} {A = A} {B = B} {V = V} {form = form} {c = c} hc t) g p o s m v k x =
        let l : LeafFits bound _ unit_ty (expression_of c) g.params unit V = leaf-well c g.params unit hc p unit_fits in
        let r : BothFit bound form V B (cell_at form (value_in c g.params unit) no_leaf (cell_in s) m v) = cell-fits bound form V A B _ (cell_in s) m v t l.value x k in
        record { well = ((_, l), (l.value, (r.0, (r.1, tt)))); answer = r.1; keeps = r.0 }
    done L f (time_fits {Ps = Ps} {Os = Os} {A = A}) g p o s m v k x =
        let r : BothFit bound C.Time unit_ty int_ty (cell_at C.Time v no_leaf (cell_in s) m v) = time-fits bound unit_ty v (cell_in s) m v k in
        record { well = (r.0, (r.1, tt)); answer = r.1; keeps = r.0 }
    done L f (integral_fits {Ps = Ps} {Os = Os}) g p o s m v k x =
        let r : BothFit bound C.Integral unit_ty int_ty (cell_at C.Integral v no_leaf (cell_in s) m v) = integral-fits bound unit_ty v (cell_in s) m v x k in
        record { well = (r.0, (r.1, tt)); answer = r.1; keeps = r.0 }
    done L f (same_fits {Ps = Ps} {Os = Os} {A = A}) g p o s m v k x = record { well = (x, tt); answer = x; keeps = tt }
    done L f (initial_out_fits {Ps = Ps} {Os = Os} {A = A} {B = B} {c = c} {f = j} hc hf) g p o s m v k x =
        let l : LeafFits bound _ unit_ty (expression_of c) g.params unit B = leaf-well c g.params unit hc p unit_fits in
        let r : Good bound (S j) B (N j g s (m, v)) (F j g s (m, v)) = called j hf g p o s m v k x in
        let y : Fits bound (first_or m (value_in c g.params unit) (F j g s (m, v)).1) B = first-or m B _ _ l.value r.answer in
        record { well = ((_, l), (l.value, call-well bound _ _ _ r.well r.answer (y, tt))); answer = y; keeps = r.keeps }
    done L f (initial_in_fits {Ps = Ps} {Os = Os} {A = A} {B = B} {c = c} {f = j} hc hf) g p o s m v k x =
        let l : LeafFits bound _ unit_ty (expression_of c) g.params unit A = leaf-well c g.params unit hc p unit_fits in
        let w : Datum = first_or m (value_in c g.params unit) v in
        let y : Fits bound w A = first-or m A _ _ l.value x in
        let r : Good bound (S j) _ (N j g s (m, w)) (F j g s (m, w)) = called j hf g p o s m w k y in
        record { well = ((_, l), (l.value, (y, well-append bound _ _ r.well (r.answer, tt)))); answer = r.answer; keeps = r.keeps }
    done L f (par_fits {Ps = Ps} {Os = Os} {A = A} {B = B} {fs = fs} h l) g p o s m v k x =
        let r : Each B fs.items (each_stand (tracers_of g fs.items) s (m, v)) (each_step (steps_of g fs.items) s (m, v)) = each-good h g p o s m v k x in
        let a : Fits bound (list (list_of (each_step (steps_of g fs.items) s (m, v)).1)) (list_ty B) = listed bound B _ (subst (λ n. n ≤ bound B) (sym r.many) l) r.answers in
        behind-members (layout Ps Os A (list_ty B) (list_ty B ∷ []) None) (chain (map S fs.items)) fs.items _ g s m v
        (record { well = well-append bound _ _ r.well (a, tt); answer = a; keeps = r.keeps })
    done L f (accum_fits {Ps = Ps} {Os = Os} {U = U} {V = V} {g = e} {z = z} hz hg) g p o s m v k x =
        let l : LeafFits bound Ps unit_ty (expression_of z) g.params unit V = leaf-well z g.params unit hz p unit_fits in
        let c : Datum = value_in z g.params unit in
        let at : (w : Datum) → Fits bound w (pair_ty V U) → LeafFits bound Ps (pair_ty V U) (expression_of e) g.params w V = λ w i. leaf-well e g.params w hg p i in
        let r : BothFit bound C.AccumBy V (event_ty V) (cell_at C.AccumBy c (value_in e g.params) (cell_in s) m v) =
        accum-both bound V U (value_in e g.params) c (cell_in s) m v (λ w i. (at w i).value) l.value x k in
        record {
          well = ((V, l), (l.value, well-append bound _ _ (well-append bound _ _ (accum-leaf Ps V U e g.params c (cell_in s) m at l.value x k) (r.0, tt)) (r.1, tt)));
          answer = r.1;
          keeps = r.0;
        }
    done L f (old_fits {Ps = Ps} {Os = Os} {A = A} {B = B} {k = i} {f = j} {n = n} {m = q} e h) g p o s m v k x = by m k
      where
        at : (u : Store) (w : Moment) → At w (StoreFits bound (S j) u) → Good bound (S j) B (N j (given_first g n q) u (w, v)) (F j (given_first g n q) u (w, v))
        at u w a = called j h (given_first g n q) (params-take bound n p) (olds-take q Os g.olds o) u w v a x

        last : (u : Store) (w : Moment) → At w (StoreFits bound (S j) u) → Good bound (S j) B (N j (given_first g n q) u (w, v) ++ value B (F j (given_first g n q) u (w, v)).1 ∷ []) (F j (given_first g n q) u (w, v))
        last u w a = let r : Good bound (S j) B (N j (given_first g n q) u (w, v)) (F j (given_first g n q) u (w, v)) = at u w a in
            record { well = well-append bound _ _ r.well (r.answer, tt); answer = r.answer; keeps = r.keeps }

        by : (m : Moment) → At m (StoreFits bound (S j) s) → Done (layout Ps Os A B (B ∷ []) None) (S j) (body_of (FN.Old i j n q)) g s m v
        by start a = last (kept_at g.olds i).0 (kept_at g.olds i).1 (old-at Os g.olds i j o e)
        by (step d) a = last s (step d) a
    done L f (switch_fits {Ps = Ps} {Os = Os} {A = A} {B = B} {V = V} {f = j} {t = i} hf ht) g p o s m v k x = switch-done Ps Os A B V j i hf ht g p o at_once s m v k x
    done L f (d_switch_fits {Ps = Ps} {Os = Os} {A = A} {B = B} {V = V} {f = j} {t = i} hf ht) g p o s m v k x = switch-done Ps Os A B V j i hf ht g p o delayed s m v k x
    done L f (r_switch_fits {Ps = Ps} {Os = Os} {A = A} {B = B} {V = V} {f = j} {t = i} hf ht) g p o s m v k x =
        r-end Ps Os A B V j i hf ht g p o (cleared m s) m v (cleared-mode V (S j) (S i) m s k) x (event_in (beside_in v)) (event-fits (beside-fits x))
    done L f (dr_switch_fits {Ps = Ps} {Os = Os} {A = A} {B = B} {V = V} {f = j} {t = i} hf ht) g p o s m v k x =
        dr-end Ps Os A B V j i hf ht g p o (cleared m s) m v (cleared-mode V (S j) (S i) m s k) x (event_in (beside_in v)) (event-fits (beside-fits x))
    done L f (k_switch_fits {Ps = Ps} {Os = Os} {A = A} {B = B} {V = V} {f = j} {e = w} {t = i} hf he ht) g p o s m v k x = k-done Ps Os A B V j w i hf he ht g p o s m v k x
    done L f (p_switch_fits {Ps = Ps} {Os = Os} {A = A} {B = B} {D = D} {V = V} {r = r} {fs = fs} {e = w} {t = i} hr hs room few he ht) g p o s m v k x =
        behind-members (members-layout Ps Os A B D V r fs.items w i hr hs room few he ht g p o) (H.frozen V (chain (map S fs.items)) (S w) (S i)) fs.items _ g s m v
        (p-done Ps Os A B D V r fs.items w i hr hs room few he ht g p o s m v k x)
    done L f (collection_fits {Ps = Ps} {Os = Os} {A = A} {B = B} {U = U} {V = V} {fs = fs} {m = e} {t = i} hs few room he ht) g p o s m v k x =
        behind-members (layout Ps Os (pair_ty A (event_ty U)) (list_ty B) (list_ty B ∷ []) (Some V)) (H.collection V (chain (map S fs.items)) (S i)) fs.items _ g s m v
        (collection-done Ps Os A B U V fs.items e i hs room he ht g p o s m v k x)
