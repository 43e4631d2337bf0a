-- Code whose functions fit their layouts keeps to them.
use Rattle.std.proofs.Common.{◌≡◌, ◌≤◌, ◌<◌, ◌+◌, ℕ, zero, suc, Bool, true, false, List, [], ◌∷◌, ◌++◌, length, get_or, Some, refl, sym, ap, ◌∙◌, arith, subst, append-nil, append_assoc, length-append}
use Rattle.std.specs.List.{slice_get}
use Rattle.sample_core.specs.Datum.{Datum}
use Rattle.sample_core.specs.TypeTree.{TypeTree}
use Rattle.leaf_code.specs.Fitting.{Bounds, Fits, ParamsFit, no_param}
use Rattle.leaf_code.proofs.Values.{get-front}
use Rattle.net_meaning.specs.SignalFunction.{TimedList}
use Rattle.net_machine.specs.Store.{Moment, start, step, Store}
use Rattle.net_machine.specs.Stepper.{Stepper}
use Rattle.net_code.specs.declared.statement.Function.{Function}
use Rattle.net_code.specs.Running.{Kept, Linked, body_step, numbered, nothing_done, link, latest, nothing_given, AllBelow}
use Rattle.net_code.specs.CodeView.{body_of, code_in}
use Rattle.net_code.specs.CodeLaw.{value_in}
use Rattle.net_code.proofs.Links.{get-next}
use Rattle.code_fits.specs.Layouts.{Layout}
use Rattle.code_fits.specs.Rules.{FunctionFits, CodeFits}
use Rattle.code_fits.specs.Standing.{Tracer, Traced, nothing_stands, values_stand, function_stands, traced, link_stands, run_stands}
use Rattle.code_fits.specs.FitLaw.{SamplesFit, AlwaysWell, FitLaw}
use Rattle.code_fits.proofs.Cells.{At}
use Rattle.code_fits.proofs.Shapes.{Shape, none, StoreFits, shape_of}
use Rattle.code_fits.proofs.Functions.{Good, OldsFit, Runs, done, well-append, params-well}

-- what stands at a place of a list with one more
by-place : {X : Type 0} {P : Type 0} (xs : List X) (y : X) (j : ℕ) (z : X) → slice_get (xs ++ y ∷ []) j ≡ Some z → (j < length xs → slice_get xs j ≡ Some z → P)
    → (j ≡ length xs → y ≡ z → P) → P
by-place [] y zero z e a b = b refl cc
by-place [] y (suc j) z e a b = cc
by-place (x ∷ xs) y zero z e a b = a (omega arith) e
by-place (x ∷ xs) y (suc j) z e a b = by-place xs y j z e (λ l h. a (omega arith) h) (λ h k. b (ap suc h) k)

below-more : (n k : ℕ) (js : List ℕ) → n ≤ k → AllBelow n js → AllBelow k js
below-more n k [] l h = tt
below-more n k (j ∷ js) l h = let i : j < n = h.0 in (omega arith, below-more n k js l h.1)

-- the shape of function k
abbrev shaped : List Shape → ℕ → Shape
shaped shs k = get_or shs k none

-- the shapes of functions, each over the earlier ones, behind these
abbrev link_shapes : List Shape → List Function → List Layout → List Shape
link_shapes shs [] Ls = shs
link_shapes shs (f ∷ fs) [] = shs
link_shapes shs (f ∷ fs) (L ∷ Ls) = link_shapes (shs ++ shape_of (shaped shs) L f ∷ []) fs Ls

module _ (bound : Bounds) where
  -- functions keep to these layouts
  record Env (shs : List Shape) (hs : List Linked) (ns : List Traced) (Ls : List Layout) : Type 0 where
    many_shapes : length shs ≡ length Ls
    many_steps : length hs ≡ length Ls
    many_stands : length ns ≡ length Ls
    run : (j : ℕ) (M : Layout) → slice_get Ls j ≡ Some M → Runs bound (shaped shs) M (shaped shs j) (numbered hs j) (traced ns j)
    below : (j : ℕ) (M : Layout) → slice_get Ls j ≡ Some M → AllBelow (length Ls) M.olds

  -- with one function more, the frozen networks have the same shapes
  olds-same : (shs : List Shape) (sh : Shape) (js : List ℕ) (ks : List Kept) → AllBelow (length shs) js → OldsFit bound (shaped (shs ++ sh ∷ [])) js ks → OldsFit bound (shaped shs) js ks
  olds-same shs sh [] [] l h = tt
  olds-same shs sh [] (k ∷ ks) l h = absurd h
  olds-same shs sh (j ∷ js) [] l h = absurd h
  olds-same shs sh (j ∷ js) (k ∷ ks) l h =
      (subst (λ a. At k.1 (StoreFits bound a k.0)) (get-front shs (sh ∷ []) j none l.0) h.0, olds-same shs sh js ks l.1 h.1)

  -- a function that keeps to its layout does so with one shape more
  runs-more : (shs : List Shape) (sh : Shape) (M : Layout) (a b : Shape) (f h : Linked) (n t : Traced) → AllBelow (length shs) M.olds → a ≡ b → f ≡ h → n ≡ t
      → Runs bound (shaped shs) M b h t → Runs bound (shaped (shs ++ sh ∷ [])) M a f n
  runs-more shs sh M a b f h n t l e i u r g p o s m v k x =
      subst (λ y. Good bound a M.output (n g s (m, v)) (y g s (m, v))) (sym i)
      (subst (λ y. Good bound a M.output (y g s (m, v)) (h g s (m, v))) (sym u)
      (subst (λ y. Good bound y M.output (t g s (m, v)) (h g s (m, v))) (sym e)
      (r g p (olds-same shs sh M.olds g.olds l o) s m v (subst (λ y. At m (StoreFits bound y s)) e k) x)))

  -- a function over those that keep to their layouts
  next-runs : (S : ℕ → Shape) (Ls : List Layout) (F : ℕ → Linked) (N : ℕ → Traced) → ((j : ℕ) (M : Layout) → slice_get Ls j ≡ Some M → Runs bound S M (S j) (F j) (N j))
      → (L : Layout) (f : Function) → FunctionFits bound Ls L f
      → Runs bound S L (shape_of S L f) (body_step value_in F (body_of f)) (function_stands F N (body_of f) L)
  next-runs S Ls F N env L f h g p o s m v k x =
      let r : Good bound (shape_of S L f) L.output _ _ = done bound S Ls F N env L f h g p o s m v k x in
      record { well = well-append bound (values_stand L.params g.params) _ (params-well bound p) (x, r.well); answer = r.answer; keeps = r.keeps }

  -- one function more
  and-one : (shs : List Shape) (hs : List Linked) (ns : List Traced) (Ls : List Layout) (L : Layout) (f : Function) → Env shs hs ns Ls → FunctionFits bound Ls L f → AllBelow (length Ls) L.olds
      → Env (shs ++ shape_of (shaped shs) L f ∷ []) (hs ++ body_step value_in (numbered hs) (body_of f) ∷ []) (ns ++ function_stands (numbered hs) (traced ns) (body_of f) L ∷ []) (Ls ++ L ∷ [])
  and-one shs hs ns Ls L f env h l =
      let sh : Shape = shape_of (shaped shs) L f in
      let a : Linked = body_step value_in (numbered hs) (body_of f) in
      let n : Traced = function_stands (numbered hs) (traced ns) (body_of f) L in
      let e1 : length shs ≡ length Ls = env.many_shapes in
      let e2 : length hs ≡ length Ls = env.many_steps in
      let e3 : length ns ≡ length Ls = env.many_stands in
      let q0 : length (Ls ++ L ∷ []) ≡ length Ls + 1 = length-append Ls (L ∷ []) in
      let q1 : length (shs ++ sh ∷ []) ≡ length shs + 1 = length-append shs (sh ∷ []) in
      let q2 : length (hs ++ a ∷ []) ≡ length hs + 1 = length-append hs (a ∷ []) in
      let q3 : length (ns ++ n ∷ []) ≡ length ns + 1 = length-append ns (n ∷ []) in
      record {
        many_shapes = omega arith;
        many_steps = omega arith;
        many_stands = omega arith;
        run = λ j M e. by-place Ls L j M e
            (λ i u. runs-more shs sh M _ _ _ _ _ _ (subst (λ k. AllBelow k M.olds) (sym e1) (env.below j M u))
            (get-front shs (sh ∷ []) j none (omega arith)) (get-front hs (a ∷ []) j nothing_done (omega arith)) (get-front ns (n ∷ []) j (λ g. nothing_stands) (omega arith)) (env.run j M u))
            (λ i u. subst (λ K. Runs bound (shaped (shs ++ sh ∷ [])) K (shaped (shs ++ sh ∷ []) j) (numbered (hs ++ a ∷ []) j) (traced (ns ++ n ∷ []) j)) u
            (runs-more shs sh L _ _ _ _ _ _ (subst (λ k. AllBelow k L.olds) (sym e1) l)
            (ap (λ k. get_or (shs ++ sh ∷ []) k none) (i ∙ sym e1) ∙ get-next shs sh [] none)
            (ap (λ k. get_or (hs ++ a ∷ []) k nothing_done) (i ∙ sym e2) ∙ get-next hs a [] nothing_done)
            (ap (λ k. get_or (ns ++ n ∷ []) k (λ g. nothing_stands)) (i ∙ sym e3) ∙ get-next ns n [] (λ g. nothing_stands))
            (next-runs (shaped shs) Ls (numbered hs) (traced ns) env.run L f h)));
        below = λ j M e. by-place Ls L j M e
            (λ i u. below-more (length Ls) (length (Ls ++ L ∷ [])) M.olds (omega arith) (env.below j M u))
            (λ i u. subst (λ K. AllBelow (length (Ls ++ L ∷ [])) K.olds) u (below-more (length Ls) (length (Ls ++ L ∷ [])) L.olds (omega arith) l));
      }

  all-keep : (shs : List Shape) (hs : List Linked) (ns : List Traced) (Ls : List Layout) (fs : List Function) (Ms : List Layout) → Env shs hs ns Ls → CodeFits bound Ls fs Ms
      → Env (link_shapes shs fs Ms) (link value_in hs (code_in fs)) (link_stands hs ns (code_in fs) Ms) (Ls ++ Ms)
  all-keep shs hs ns Ls [] [] env h = subst (Env shs hs ns) (sym (append-nil Ls)) env
  all-keep shs hs ns Ls [] (M ∷ Ms) env h = absurd h
  all-keep shs hs ns Ls (f ∷ fs) [] env h = absurd h
  all-keep shs hs ns Ls (f ∷ fs) (M ∷ Ms) env h =
      let sh : Shape = shape_of (shaped shs) M f in
      let a : Linked = body_step value_in (numbered hs) (body_of f) in
      let n : Traced = function_stands (numbered hs) (traced ns) (body_of f) M in
      subst (Env (link_shapes (shs ++ sh ∷ []) fs Ms) (link value_in (hs ++ a ∷ []) (code_in fs)) (link_stands (hs ++ a ∷ []) (ns ++ n ∷ []) (code_in fs) Ms)) (append_assoc Ls (M ∷ []) Ms)
      (all-keep (shs ++ sh ∷ []) (hs ++ a ∷ []) (ns ++ n ∷ []) (Ls ++ M ∷ []) fs Ms (and-one shs hs ns Ls M f env h.0 h.1) h.2)

  -- whether a network goes on, and then what it keeps
  abbrev Started : Shape → Bool → Store → Type 0
  Started sh false s = Unit {0}
  Started sh true s = StoreFits bound sh s

  always : (sh : Shape) (A B : TypeTree) (f : Stepper) (n : Tracer)
      → ((s : Store) (m : Moment) (v : Datum) → At m (StoreFits bound sh s) → Fits bound v A → Good bound sh B (n s (m, v)) (f s (m, v)))
      → (b : Bool) (s : Store) (xs : TimedList) → Started sh b s → SamplesFit bound A b xs → AlwaysWell bound (run_stands f n b s xs)
  always sh A B f n r b s [] k h = tt
  always sh A B f n r false s (x ∷ xs) k h =
      let q : Good bound sh B (n s (start, x.1)) (f s (start, x.1)) = r s start x.1 tt h.0 in
      (q.well, always sh A B f n r true (f s (start, x.1)).0 xs q.keeps h.1)
  always sh A B f n r true s (x ∷ xs) k h =
      let q : Good bound sh B (n s (step x.0, x.1)) (f s (step x.0, x.1)) = r s (step x.0) x.1 (h.0, h.1, k) h.2 in
      (q.well, always sh A B f n r true (f s (step x.0, x.1)).0 xs q.keeps h.3)

nothing-there : (j : ℕ) (M : Layout) (Ls : List Layout) → Ls ≡ [] → slice_get Ls j ≡ Some M → ⊥
nothing-there j M [] e h = cc
nothing-there j M (L ∷ Ls) e h = cc

no-env : (bound : Bounds) → Env bound [] [] [] []
no-env bound = record {
  many_shapes = refl;
  many_steps = refl;
  many_stands = refl;
  run = λ j M e. absurd (nothing-there j M [] refl e);
  below = λ j M e. absurd (nothing-there j M [] refl e);
}

pub fit_law : FitLaw
fit_law bound fs Ls L h e ep eo s xs x =
    let env : Env bound (link_shapes [] fs Ls) (link value_in [] (code_in fs)) (link_stands [] [] (code_in fs) Ls) Ls = all-keep bound [] [] [] [] fs Ls (no-env bound) h in
    let k : ℕ = latest (code_in fs) in
    let S : ℕ → Shape = shaped (link_shapes [] fs Ls) in
    always bound (S k) L.input L.output (numbered (link value_in [] (code_in fs)) k nothing_given) (traced (link_stands [] [] (code_in fs) Ls) k nothing_given)
    (λ s m v a f. env.run k L e nothing_given (subst (λ Ps. ParamsFit bound Ps []) (sym ep) no_param) (subst (λ Os. OldsFit bound S Os []) (sym eo) tt) s m v a f)
    false s xs tt x
