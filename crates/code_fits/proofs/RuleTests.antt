-- What is tested of a layout, whose types are numbers in a table, is a rule of fitting.
use Rattle.std.proofs.Common.{◌≡◌, ◌≤◌, ◌^◌, ℕ, List, [], ◌∷◌, ◌++◌, length, map, take, Option, Some, None, Result, Ok, Err, IfOk, refl, sym, ap, ◌∙◌, subst}
use Rattle.std.specs.List.{slice_get}
use Rattle.std.specs.declared.vec.Vec.{Vec}
use Rattle.std.specs.declared.alloc.Global.{Global}
use Rattle.std.proofs.lemmas.List.{map-append}
use Rattle.sample_core.specs.TypeTree.{TypeTree, unit_ty, int_ty, pair_ty, event_ty, list_ty}
use Rattle.sample_core.specs.TypeView.{type_of}
use Rattle.leaf_core.specs.declared.expr.Expr.{Expr}
use Rattle.leaf_code.specs.Fitting.{Bounds}
use Rattle.cell_core.specs.declared.form.Form.{Form}
use Rattle.cell_core.specs.declared.form.Form.TheVariants as C
use Rattle.net_code.specs.declared.statement.Function.{Function}
use Rattle.net_code.specs.declared.statement.Function.TheVariants as F
use Rattle.code_fits.specs.declared.types.Types.{Types}
use Rattle.code_fits.specs.declared.types.TypeEntry.TheVariants as R
use Rattle.code_fits.specs.declared.layout.Layout as N
use Rattle.code_fits.specs.Layouts.{Layout, layout}
use Rattle.code_fits.specs.Rules.{CellTyped, i_pre_typed, delay_typed, hold_typed, after_typed, repeatedly_typed, LeafTyped, Goes, goes, AllGo, FunctionFits, arr_fits, seq_fits, first_fits, par_fits, loop_fits, cell_fits, time_fits, integral_fits, accum_fits, switch_fits, d_switch_fits, r_switch_fits, dr_switch_fits, k_switch_fits, p_switch_fits, old_fits, same_fits, initial_out_fits, initial_in_fits, collection_fits}
use Rattle.code_fits.specs.Tables.{tree_at, trees_at, tree_if, layout_of, TableHolds, beside, bound_of, FitsOver}
use Rattle.code_fits.specs.Parts.{GoesHere, TakesOver, IsPair, IsEvent, Watches, Restarts, Freezes}

-- what follows where a test succeeds
pub if_ok : {A E P Q : Type 0} (r : Result A E) → (P → Q) → IfOk r (λ _. P) → IfOk r (λ _. Q)
if_ok (Ok x) f h = f h
if_ok (Err e) f h = h

-- a function fits a layout that has these types
fitting : (bound : Bounds) (Ls : List Layout) (f : Function) (M : Layout) (A B : TypeTree) (Ts : List TypeTree) (K : Option TypeTree)
    → M.input ≡ A → M.output ≡ B → M.values ≡ Ts → M.kept ≡ K
    → FunctionFits bound Ls (layout M.params M.olds A B Ts K) f → FunctionFits bound Ls M f
fitting bound Ls f M A B Ts K ea eb et ek h =
    subst (λ k. FunctionFits bound Ls (layout M.params M.olds M.input M.output M.values k) f) (sym ek)
    (subst (λ ts. FunctionFits bound Ls (layout M.params M.olds M.input M.output ts K) f) (sym et)
    (subst (λ b. FunctionFits bound Ls (layout M.params M.olds M.input b Ts K) f) (sym eb)
    (subst (λ a. FunctionFits bound Ls (layout M.params M.olds a B Ts K) f) (sym ea) h)))

-- the layout of a function that goes from one number's type to another's
pub callee-goes : (ts : Types) (Es : List N.Layout) (j : ℕ) (M : N.Layout) → slice_get Es j ≡ Some M
    → slice_get (map (layout_of ts) Es) j ≡ Some (layout_of ts M)
callee-goes ts [] j M e = cc
callee-goes ts (E ∷ Es) ℕ.zero M e = let q : E ≡ M = cc in ap (λ L. Some (layout_of ts L)) q
callee-goes ts (E ∷ Es) (ℕ.suc j) M e = callee-goes ts Es j M e

pub goes-at : (ts : Types) (Es : List N.Layout) (j : ℕ) (M : N.Layout) (Ps : List TypeTree) (Os : List ℕ) (a b : ℕ)
    → slice_get Es j ≡ Some M → trees_at ts M.params.items ≡ Ps → M.olds.items ≡ Os → M.input ≡ a → M.output ≡ b
    → Goes (map (layout_of ts) Es) j Ps Os (tree_at ts a) (tree_at ts b)
goes-at ts Es j M Ps Os a b e ep eo ea eb =
    let P : List TypeTree → List ℕ → ℕ → ℕ → Type 0 = λ ps os x y. Goes (map (layout_of ts) Es) j ps os (tree_at ts x) (tree_at ts y) in
    subst (λ y. P Ps Os a y) eb (subst (λ x. P Ps Os x M.output) ea (subst (λ os. P Ps os M.input M.output) eo
    (subst (λ ps. P ps M.olds.items M.input M.output) ep (goes (callee-goes ts Es j M e)))))

-- a function with the same in scope goes from one type to another
pub goes-here : (ts : Types) (Es : List N.Layout) (L : N.Layout) (j : ℕ) (M : N.Layout) (a b : ℕ)
    → slice_get Es j ≡ Some M → M.input ≡ a → M.output ≡ b → M.params.items ≡ L.params.items → M.olds.items ≡ L.olds.items
    → GoesHere ts Es L j a b
goes-here ts Es L j M a b e ea eb ep eo =
    goes-at ts Es j M (trees_at ts L.params.items) L.olds.items a b e (ap (trees_at ts) ep) eo ea eb

-- one with a parameter more
pub takes-here : (ts : Types) (Es : List N.Layout) (L : N.Layout) (t : ℕ) (M : N.Layout) (by a b : ℕ) (os : List ℕ)
    → slice_get Es t ≡ Some M → M.input ≡ a → M.output ≡ b → M.params.items ≡ L.params.items ++ by ∷ [] → M.olds.items ≡ os
    → TakesOver ts Es L os t by a b
takes-here ts Es L t M by a b os e ea eb ep eo =
    goes-at ts Es t M (trees_at ts L.params.items ++ tree_at ts by ∷ []) os a b e (ap (trees_at ts) ep ∙ map-append (tree_at ts) L.params.items (by ∷ [])) eo ea eb

-- one of a frozen network, which has the first of the parameters in scope
map-take : (ts : Types) (n : ℕ) (ps : List ℕ) → trees_at ts (take n ps) ≡ take n (trees_at ts ps)
map-take ts ℕ.zero ps = refl
map-take ts (ℕ.suc n) [] = refl
map-take ts (ℕ.suc n) (p ∷ ps) = ap (λ xs. tree_at ts p ∷ xs) (map-take ts n ps)

pub old-here : (ts : Types) (Es : List N.Layout) (L : N.Layout) (j : ℕ) (M : N.Layout) (n m : ℕ)
    → slice_get Es j ≡ Some M → M.input ≡ L.input → M.output ≡ L.output → M.params.items ≡ take n L.params.items → M.olds.items ≡ take m L.olds.items
    → Goes (map (layout_of ts) Es) j (take n (trees_at ts L.params.items)) (take m L.olds.items) (tree_at ts L.input) (tree_at ts L.output)
old-here ts Es L j M n m e ea eb ep eo =
    goes-at ts Es j M (take n (trees_at ts L.params.items)) (take m L.olds.items) L.input L.output e (ap (trees_at ts) ep ∙ map-take ts n L.params.items) eo ea eb

module _ (ts : Types) (ns : List ℕ) (Es : List N.Layout) (L : N.Layout) where
  -- the layout's view
  abbrev Ps : List TypeTree
  Ps = trees_at ts L.params.items

  abbrev at : ℕ → TypeTree
  at = tree_at ts

  -- the statements' values have the types of these numbers
  values-are : (vs : List ℕ) → L.values.items ≡ vs → trees_at ts L.values.items ≡ trees_at ts vs
  values-are vs e = ap (trees_at ts) e

  kept-is : (v : ℕ) → L.kept ≡ Some v → tree_if ts L.kept ≡ Some (at v)
  kept-is v e = ap (tree_if ts) e

  none-kept : L.kept ≡ None → tree_if ts L.kept ≡ None
  none-kept e = ap (tree_if ts) e

  pub arr-ok : (e : Expr) → LeafTyped (bound_of ts ns) Ps e (at L.input) (at L.output) → L.values.items ≡ L.output ∷ [] → L.kept ≡ None → FitsOver ts ns Es L (F.Arr e)
  arr-ok e l v k t =
      fitting (bound_of ts ns) (map (layout_of ts) Es) (F.Arr e) (layout_of ts L) (at L.input) (at L.output) (at L.output ∷ []) None
      refl refl (values-are (L.output ∷ []) v) (none-kept k) (arr_fits l)

  pub seq-ok : (f g b : ℕ) → GoesHere ts Es L f L.input b → GoesHere ts Es L g b L.output → L.values.items ≡ b ∷ L.output ∷ [] → L.kept ≡ None → FitsOver ts ns Es L (F.Seq f g)
  seq-ok f g b h i v k t =
      fitting (bound_of ts ns) (map (layout_of ts) Es) (F.Seq f g) (layout_of ts L) (at L.input) (at L.output) (at b ∷ at L.output ∷ []) None
      refl refl (values-are (b ∷ L.output ∷ []) v) (none-kept k) (seq_fits h i)

  pub first-ok : (f a b d e : ℕ) → IsPair ts L.input a d → IsPair ts L.output b e → d ≡ e → GoesHere ts Es L f a b → L.values.items ≡ a ∷ b ∷ d ∷ L.output ∷ [] → L.kept ≡ None
      → FitsOver ts ns Es L (F.First f)
  first-ok f a b d e i o q g v k t =
      let ei : at L.input ≡ pair_ty (at a) (at d) = t L.input (R.Pair a d) i in
      let eo : at L.output ≡ pair_ty (at b) (at d) = t L.output (R.Pair b e) o ∙ ap (λ x. pair_ty (at b) (at x)) (sym q) in
      let ev : trees_at ts L.values.items ≡ at a ∷ at b ∷ at d ∷ at L.output ∷ [] = values-are (a ∷ b ∷ d ∷ L.output ∷ []) v in
      fitting (bound_of ts ns) (map (layout_of ts) Es) (F.First f) (layout_of ts L) (pair_ty (at a) (at d)) (pair_ty (at b) (at d))
      (at a ∷ at b ∷ at d ∷ pair_ty (at b) (at d) ∷ []) None
      ei eo (ev ∙ ap (λ x. at a ∷ at b ∷ at d ∷ x ∷ []) eo) (none-kept k) (first_fits g)

  pub par-ok : (fs : Vec ℕ Global) (b : ℕ) → slice_get ts.entries.items L.output ≡ Some (R.List b)
      → AllGo (map (layout_of ts) Es) Ps L.olds.items (at L.input) (at b) fs.items
      → length fs.items ≤ beside (at L.output) (map type_of ts.trees.items) ns → L.values.items ≡ L.output ∷ [] → L.kept ≡ None → FitsOver ts ns Es L (F.Par fs)
  par-ok fs b o g w v k t =
      let eo : at L.output ≡ list_ty (at b) = t L.output (R.List b) o in
      fitting (bound_of ts ns) (map (layout_of ts) Es) (F.Par fs) (layout_of ts L) (at L.input) (list_ty (at b)) (list_ty (at b) ∷ []) None
      refl eo (values-are (L.output ∷ []) v ∙ ap (λ x. x ∷ []) eo) (none-kept k)
      (par_fits g (subst (λ x. length fs.items ≤ beside x (map type_of ts.trees.items) ns) eo w))

  pub loop-ok : (c : Expr) (f v from to : ℕ) → L.kept ≡ Some v → LeafTyped (bound_of ts ns) Ps c unit_ty (at v) → GoesHere ts Es L f from to
      → IsPair ts from L.input v → IsPair ts to L.output v → L.values.items ≡ v ∷ v ∷ from ∷ to ∷ v ∷ L.output ∷ [] → FitsOver ts ns Es L (F.Loop c f)
  loop-ok c f v from to k l g p q vs t =
      let ei : at from ≡ pair_ty (at L.input) (at v) = t from (R.Pair L.input v) p in
      let eo : at to ≡ pair_ty (at L.output) (at v) = t to (R.Pair L.output v) q in
      let ev : trees_at ts L.values.items ≡ at v ∷ at v ∷ at from ∷ at to ∷ at v ∷ at L.output ∷ [] = values-are (v ∷ v ∷ from ∷ to ∷ v ∷ L.output ∷ []) vs in
      fitting (bound_of ts ns) (map (layout_of ts) Es) (F.Loop c f) (layout_of ts L) (at L.input) (at L.output)
      (at v ∷ at v ∷ pair_ty (at L.input) (at v) ∷ pair_ty (at L.output) (at v) ∷ at v ∷ at L.output ∷ []) (Some (at v))
      refl refl (ev ∙ ap (λ x. at v ∷ at v ∷ x ∷ at to ∷ at v ∷ at L.output ∷ []) ei ∙ ap (λ x. at v ∷ at v ∷ pair_ty (at L.input) (at v) ∷ x ∷ at v ∷ at L.output ∷ []) eo) (kept-is v k)
      (loop_fits l (subst (λ y. Goes (map (layout_of ts) Es) f Ps L.olds.items (pair_ty (at L.input) (at v)) y) eo
      (subst (λ x. Goes (map (layout_of ts) Es) f Ps L.olds.items x (at to)) ei g)))

  pub cell-ok : (form : Form) (c : Expr) (v : ℕ) → L.kept ≡ Some v → LeafTyped (bound_of ts ns) Ps c unit_ty (at v)
      → (TableHolds ts → CellTyped form (at v) (at L.input) (at L.output)) → L.values.items ≡ v ∷ L.output ∷ [] → FitsOver ts ns Es L (F.Cell form c)
  cell-ok form c v k l h vs t =
      fitting (bound_of ts ns) (map (layout_of ts) Es) (F.Cell form c) (layout_of ts L) (at L.input) (at L.output) (at v ∷ at L.output ∷ []) (Some (at v))
      refl refl (values-are (v ∷ L.output ∷ []) vs) (kept-is v k) (cell_fits l (h t))

  pub previous-ok : (v : ℕ) → L.input ≡ v → L.output ≡ v → TableHolds ts → CellTyped C.IPre (at v) (at L.input) (at L.output)
  previous-ok v i o t = subst (λ y. CellTyped C.IPre (at v) (at L.input) (at y)) (sym o) (subst (λ x. CellTyped C.IPre (at v) (at x) (at v)) (sym i) i_pre_typed)

  pub delay-ok : (q v : ℕ) → 1 ≤ q → q ≤ 4096 → L.input ≡ v → L.output ≡ v → TableHolds ts → CellTyped (C.Delay q) (at v) (at L.input) (at L.output)
  delay-ok q v l m i o t = subst (λ y. CellTyped (C.Delay q) (at v) (at L.input) (at y)) (sym o) (subst (λ x. CellTyped (C.Delay q) (at v) (at x) (at v)) (sym i) (delay_typed l m))

  pub hold-ok : (v : ℕ) → IsEvent ts L.input v → L.output ≡ v → TableHolds ts → CellTyped C.Hold (at v) (at L.input) (at L.output)
  hold-ok v i o t = subst (λ y. CellTyped C.Hold (at v) (at L.input) (at y)) (sym o) (subst (λ x. CellTyped C.Hold (at v) x (at v)) (sym (t L.input (R.Event v) i)) hold_typed)

  pub after-ok : (q v : ℕ) → q ≤ 2 ^ 62 → IsEvent ts L.output v → TableHolds ts → CellTyped (C.After q) (at v) (at L.input) (at L.output)
  after-ok q v l o t = subst (λ y. CellTyped (C.After q) (at v) (at L.input) y) (sym (t L.output (R.Event v) o)) (after_typed l)

  pub repeatedly-ok : (q v : ℕ) → 1 ≤ q → q ≤ 2 ^ 62 → IsEvent ts L.output v → TableHolds ts → CellTyped (C.Repeatedly q) (at v) (at L.input) (at L.output)
  repeatedly-ok q v l m o t = subst (λ y. CellTyped (C.Repeatedly q) (at v) (at L.input) y) (sym (t L.output (R.Event v) o)) (repeatedly_typed l m)

  pub time-ok : slice_get ts.entries.items L.output ≡ Some R.Int → L.values.items ≡ L.output ∷ [] → L.kept ≡ None → FitsOver ts ns Es L (F.Clock C.Time)
  time-ok o v k t =
      let eo : at L.output ≡ int_ty = t L.output R.Int o in
      fitting (bound_of ts ns) (map (layout_of ts) Es) (F.Clock C.Time) (layout_of ts L) (at L.input) int_ty (int_ty ∷ []) None
      refl eo (values-are (L.output ∷ []) v ∙ ap (λ x. x ∷ []) eo) (none-kept k) time_fits

  pub integral-ok : slice_get ts.entries.items L.output ≡ Some R.Int → slice_get ts.entries.items L.input ≡ Some R.Int → L.values.items ≡ L.output ∷ [] → L.kept ≡ None
      → FitsOver ts ns Es L (F.Clock C.Integral)
  integral-ok o i v k t =
      let eo : at L.output ≡ int_ty = t L.output R.Int o in
      let ei : at L.input ≡ int_ty = t L.input R.Int i in
      fitting (bound_of ts ns) (map (layout_of ts) Es) (F.Clock C.Integral) (layout_of ts L) int_ty int_ty (int_ty ∷ []) None
      ei eo (values-are (L.output ∷ []) v ∙ ap (λ x. x ∷ []) eo) (none-kept k) integral_fits

  pub accum-ok : (g z : Expr) (v u : ℕ) → L.kept ≡ Some v → IsEvent ts L.input u → IsEvent ts L.output v → LeafTyped (bound_of ts ns) Ps z unit_ty (at v)
      → LeafTyped (bound_of ts ns) Ps g (pair_ty (at v) (at u)) (at v) → L.values.items ≡ v ∷ L.output ∷ [] → FitsOver ts ns Es L (F.Accum g z)
  accum-ok g z v u k i o hz hg vs t =
      let ei : at L.input ≡ event_ty (at u) = t L.input (R.Event u) i in
      let eo : at L.output ≡ event_ty (at v) = t L.output (R.Event v) o in
      fitting (bound_of ts ns) (map (layout_of ts) Es) (F.Accum g z) (layout_of ts L) (event_ty (at u)) (event_ty (at v)) (at v ∷ event_ty (at v) ∷ []) (Some (at v))
      ei eo (values-are (v ∷ L.output ∷ []) vs ∙ ap (λ x. at v ∷ x ∷ []) eo) (kept-is v k) (accum_fits hz hg)

  -- what a switch watches answers pairs with an event
  front-pairs : (f t answer event by : ℕ) → TableHolds ts → Watches ts Es L f t answer event by
      → Goes (map (layout_of ts) Es) f Ps L.olds.items (at L.input) (pair_ty (at L.output) (event_ty (at by)))
  front-pairs f t answer event by tb w =
      let ea : at answer ≡ pair_ty (at L.output) (at event) = tb answer (R.Pair L.output event) w.pairs in
      let ee : at event ≡ event_ty (at by) = tb event (R.Event by) w.events in
      subst (λ y. Goes (map (layout_of ts) Es) f Ps L.olds.items (at L.input) y) (ea ∙ ap (pair_ty (at L.output)) ee) w.front

  pub switch-ok : (f t answer event by : ℕ) → Watches ts Es L f t answer event by
      → L.values.items ≡ L.output ∷ answer ∷ L.output ∷ event ∷ L.output ∷ L.output ∷ [] → FitsOver ts ns Es L (F.Switch f t)
  switch-ok f t answer event by w vs tb =
      let b : TypeTree = at L.output in
      let ee : at event ≡ event_ty (at by) = tb event (R.Event by) w.events in
      let ea : at answer ≡ pair_ty b (event_ty (at by)) = tb answer (R.Pair L.output event) w.pairs ∙ ap (pair_ty (at L.output)) ee in
      let ev : trees_at ts L.values.items ≡ at L.output ∷ at answer ∷ at L.output ∷ at event ∷ at L.output ∷ at L.output ∷ [] = values-are (L.output ∷ answer ∷ L.output ∷ event ∷ L.output ∷ L.output ∷ []) vs in
      fitting (bound_of ts ns) (map (layout_of ts) Es) (F.Switch f t) (layout_of ts L) (at L.input) (at L.output)
      (at L.output ∷ pair_ty (at L.output) (event_ty (at by)) ∷ at L.output ∷ event_ty (at by) ∷ at L.output ∷ at L.output ∷ []) (Some (at by))
      refl refl (ev ∙ ap (λ x. at L.output ∷ x ∷ at L.output ∷ at event ∷ at L.output ∷ at L.output ∷ []) ea
      ∙ ap (λ x. at L.output ∷ pair_ty (at L.output) (event_ty (at by)) ∷ at L.output ∷ x ∷ at L.output ∷ at L.output ∷ []) ee) (kept-is by w.kept)
      (switch_fits (front-pairs f t answer event by tb w) w.taker)

  pub d_switch-ok : (f t answer event by : ℕ) → Watches ts Es L f t answer event by
      → L.values.items ≡ L.output ∷ answer ∷ L.output ∷ event ∷ L.output ∷ L.output ∷ L.output ∷ [] → FitsOver ts ns Es L (F.DSwitch f t)
  d_switch-ok f t answer event by w vs tb =
      let ee : at event ≡ event_ty (at by) = tb event (R.Event by) w.events in
      let ea : at answer ≡ pair_ty (at L.output) (event_ty (at by)) = tb answer (R.Pair L.output event) w.pairs ∙ ap (pair_ty (at L.output)) ee in
      let ev : trees_at ts L.values.items ≡ at L.output ∷ at answer ∷ at L.output ∷ at event ∷ at L.output ∷ at L.output ∷ at L.output ∷ [] =
      values-are (L.output ∷ answer ∷ L.output ∷ event ∷ L.output ∷ L.output ∷ L.output ∷ []) vs in
      fitting (bound_of ts ns) (map (layout_of ts) Es) (F.DSwitch f t) (layout_of ts L) (at L.input) (at L.output)
      (at L.output ∷ pair_ty (at L.output) (event_ty (at by)) ∷ at L.output ∷ event_ty (at by) ∷ at L.output ∷ at L.output ∷ at L.output ∷ []) (Some (at by))
      refl refl (ev ∙ ap (λ x. at L.output ∷ x ∷ at L.output ∷ at event ∷ at L.output ∷ at L.output ∷ at L.output ∷ []) ea
      ∙ ap (λ x. at L.output ∷ pair_ty (at L.output) (event_ty (at by)) ∷ at L.output ∷ x ∷ at L.output ∷ at L.output ∷ at L.output ∷ []) ee) (kept-is by w.kept)
      (d_switch_fits (front-pairs f t answer event by tb w) w.taker)

  pub r_switch-ok : (f t a event by : ℕ) → Restarts ts Es L f t a event by → L.values.items ≡ a ∷ event ∷ L.output ∷ L.output ∷ [] → FitsOver ts ns Es L (F.RSwitch f t)
  r_switch-ok f t a event by w vs tb =
      let ee : at event ≡ event_ty (at by) = tb event (R.Event by) w.events in
      let ei : at L.input ≡ pair_ty (at a) (event_ty (at by)) = tb L.input (R.Pair a event) w.pairs ∙ ap (pair_ty (at a)) ee in
      fitting (bound_of ts ns) (map (layout_of ts) Es) (F.RSwitch f t) (layout_of ts L) (pair_ty (at a) (event_ty (at by))) (at L.output)
      (at a ∷ event_ty (at by) ∷ at L.output ∷ at L.output ∷ []) (Some (at by))
      ei refl (values-are (a ∷ event ∷ L.output ∷ L.output ∷ []) vs ∙ ap (λ x. at a ∷ x ∷ at L.output ∷ at L.output ∷ []) ee) (kept-is by w.kept)
      (r_switch_fits w.front w.taker)

  pub dr_switch-ok : (f t a event by : ℕ) → Restarts ts Es L f t a event by → L.values.items ≡ a ∷ event ∷ L.output ∷ L.output ∷ L.output ∷ L.output ∷ []
      → FitsOver ts ns Es L (F.DrSwitch f t)
  dr_switch-ok f t a event by w vs tb =
      let ee : at event ≡ event_ty (at by) = tb event (R.Event by) w.events in
      let ei : at L.input ≡ pair_ty (at a) (event_ty (at by)) = tb L.input (R.Pair a event) w.pairs ∙ ap (pair_ty (at a)) ee in
      fitting (bound_of ts ns) (map (layout_of ts) Es) (F.DrSwitch f t) (layout_of ts L) (pair_ty (at a) (event_ty (at by))) (at L.output)
      (at a ∷ event_ty (at by) ∷ at L.output ∷ at L.output ∷ at L.output ∷ at L.output ∷ []) (Some (at by))
      ei refl (values-are (a ∷ event ∷ L.output ∷ L.output ∷ L.output ∷ L.output ∷ []) vs ∙ ap (λ x. at a ∷ x ∷ at L.output ∷ at L.output ∷ at L.output ∷ at L.output ∷ []) ee) (kept-is by w.kept)
      (dr_switch_fits w.front w.taker)

  -- what looks for the event of a switch that freezes
  watcher-goes : (fs : List ℕ) (e t both event by : ℕ) → TableHolds ts → Freezes ts Es L fs e t both event by
      → Goes (map (layout_of ts) Es) e Ps L.olds.items (pair_ty (at L.input) (at L.output)) (event_ty (at by))
  watcher-goes fs e t both event by tb w =
      subst (λ y. Goes (map (layout_of ts) Es) e Ps L.olds.items (pair_ty (at L.input) (at L.output)) y) (tb event (R.Event by) w.events)
      (subst (λ x. Goes (map (layout_of ts) Es) e Ps L.olds.items x (at event)) (tb both (R.Pair L.input L.output) w.pairs) w.watcher)

  -- the values of a switch that freezes
  frozen-values : (fs : List ℕ) (e t both event by : ℕ) → TableHolds ts → Freezes ts Es L fs e t both event by
      → trees_at ts L.values.items ≡ at L.output ∷ at L.output ∷ pair_ty (at L.input) (at L.output) ∷ event_ty (at by) ∷ at L.output ∷ at L.output ∷ []
  frozen-values fs e t both event by tb w =
      values-are (L.output ∷ L.output ∷ both ∷ event ∷ L.output ∷ L.output ∷ []) w.values
      ∙ ap (λ x. at L.output ∷ at L.output ∷ x ∷ at event ∷ at L.output ∷ at L.output ∷ []) (tb both (R.Pair L.input L.output) w.pairs)
      ∙ ap (λ x. at L.output ∷ at L.output ∷ pair_ty (at L.input) (at L.output) ∷ x ∷ at L.output ∷ at L.output ∷ []) (tb event (R.Event by) w.events)

  pub k_switch-ok : (f e t both event by : ℕ) → GoesHere ts Es L f L.input L.output → Freezes ts Es L (f ∷ []) e t both event by → FitsOver ts ns Es L (F.KSwitch f e t)
  k_switch-ok f e t both event by g w tb =
      fitting (bound_of ts ns) (map (layout_of ts) Es) (F.KSwitch f e t) (layout_of ts L) (at L.input) (at L.output)
      (at L.output ∷ at L.output ∷ pair_ty (at L.input) (at L.output) ∷ event_ty (at by) ∷ at L.output ∷ at L.output ∷ []) (Some (at by))
      refl refl (frozen-values (f ∷ []) e t both event by tb w) (kept-is by w.kept)
      (k_switch_fits g (watcher-goes (f ∷ []) e t both event by tb w) w.resumer)

  pub p_switch-ok : (r : Expr) (fs : Vec ℕ Global) (e t both event by b d : ℕ) → slice_get ts.entries.items L.output ≡ Some (R.List b)
      → LeafTyped (bound_of ts ns) Ps r (pair_ty (at L.input) int_ty) (at d) → AllGo (map (layout_of ts) Es) Ps L.olds.items (at d) (at b) fs.items
      → length fs.items ≤ 64 → length fs.items ≤ beside (at L.output) (map type_of ts.trees.items) ns
      → Freezes ts Es L fs.items e t both event by → FitsOver ts ns Es L (F.PSwitch r fs e t)
  p_switch-ok r fs e t both event by b d o l g few w z tb =
      let eo : at L.output ≡ list_ty (at b) = tb L.output (R.List b) o in
      let B : TypeTree = list_ty (at b) in
      fitting (bound_of ts ns) (map (layout_of ts) Es) (F.PSwitch r fs e t) (layout_of ts L) (at L.input) (list_ty (at b))
      (list_ty (at b) ∷ list_ty (at b) ∷ pair_ty (at L.input) (list_ty (at b)) ∷ event_ty (at by) ∷ list_ty (at b) ∷ list_ty (at b) ∷ []) (Some (at by))
      refl eo (frozen-values fs.items e t both event by tb z ∙ ap (λ x. x ∷ x ∷ pair_ty (at L.input) x ∷ event_ty (at by) ∷ x ∷ x ∷ []) eo) (kept-is by z.kept)
      (p_switch_fits l g (subst (λ x. length fs.items ≤ beside x (map type_of ts.trees.items) ns) eo w) few
      (subst (λ x. Goes (map (layout_of ts) Es) e Ps L.olds.items (pair_ty (at L.input) x) (event_ty (at by))) eo (watcher-goes fs.items e t both event by tb z))
      (subst (λ x. Goes (map (layout_of ts) Es) t (Ps ++ at by ∷ []) (L.olds.items ++ fs.items) (at L.input) x) eo z.resumer))

  pub old-ok : (k f n m : ℕ) → slice_get L.olds.items k ≡ Some f → Goes (map (layout_of ts) Es) f (take n Ps) (take m L.olds.items) (at L.input) (at L.output)
      → L.values.items ≡ L.output ∷ [] → L.kept ≡ None → FitsOver ts ns Es L (F.Old k f n m)
  old-ok k f n m e g v h t =
      fitting (bound_of ts ns) (map (layout_of ts) Es) (F.Old k f n m) (layout_of ts L) (at L.input) (at L.output) (at L.output ∷ []) None
      refl refl (values-are (L.output ∷ []) v) (none-kept h) (old_fits e g)

  pub same-ok : L.input ≡ L.output → L.values.items ≡ L.output ∷ [] → L.kept ≡ None → FitsOver ts ns Es L F.Same
  same-ok e v k t =
      fitting (bound_of ts ns) (map (layout_of ts) Es) F.Same (layout_of ts L) (at L.output) (at L.output) (at L.output ∷ []) None
      (ap (tree_at ts) e) refl (values-are (L.output ∷ []) v) (none-kept k) same_fits

  pub initial_out-ok : (c : Expr) (f : ℕ) → LeafTyped (bound_of ts ns) Ps c unit_ty (at L.output) → GoesHere ts Es L f L.input L.output
      → L.values.items ≡ L.output ∷ L.output ∷ L.output ∷ [] → L.kept ≡ None → FitsOver ts ns Es L (F.InitialOut c f)
  initial_out-ok c f l g v k t =
      fitting (bound_of ts ns) (map (layout_of ts) Es) (F.InitialOut c f) (layout_of ts L) (at L.input) (at L.output) (at L.output ∷ at L.output ∷ at L.output ∷ []) None
      refl refl (values-are (L.output ∷ L.output ∷ L.output ∷ []) v) (none-kept k) (initial_out_fits l g)

  pub initial_in-ok : (c : Expr) (f : ℕ) → LeafTyped (bound_of ts ns) Ps c unit_ty (at L.input) → GoesHere ts Es L f L.input L.output
      → L.values.items ≡ L.input ∷ L.input ∷ L.output ∷ [] → L.kept ≡ None → FitsOver ts ns Es L (F.InitialIn c f)
  initial_in-ok c f l g v k t =
      fitting (bound_of ts ns) (map (layout_of ts) Es) (F.InitialIn c f) (layout_of ts L) (at L.input) (at L.output) (at L.input ∷ at L.input ∷ at L.output ∷ []) None
      refl refl (values-are (L.input ∷ L.input ∷ L.output ∷ []) v) (none-kept k) (initial_in_fits l g)

  pub collection-ok : (fs : Vec ℕ Global) (m : Expr) (t by b a event u : ℕ) → L.kept ≡ Some by → slice_get ts.entries.items L.output ≡ Some (R.List b)
      → IsPair ts L.input a event → IsEvent ts event u → AllGo (map (layout_of ts) Es) Ps L.olds.items (at a) (at b) fs.items → length fs.items ≤ 64
      → 64 ≤ beside (at L.output) (map type_of ts.trees.items) ns
      → LeafTyped (bound_of ts ns) Ps m (at u) (pair_ty (list_ty int_ty) (list_ty (at by))) → TakesOver ts Es L L.olds.items t by a b
      → L.values.items ≡ L.output ∷ [] → FitsOver ts ns Es L (F.Collection fs m t)
  collection-ok fs m t by b a event u k o p i g few w l h v tb =
      let eo : at L.output ≡ list_ty (at b) = tb L.output (R.List b) o in
      let ei : at L.input ≡ pair_ty (at a) (event_ty (at u)) = tb L.input (R.Pair a event) p ∙ ap (pair_ty (at a)) (tb event (R.Event u) i) in
      fitting (bound_of ts ns) (map (layout_of ts) Es) (F.Collection fs m t) (layout_of ts L) (pair_ty (at a) (event_ty (at u))) (list_ty (at b)) (list_ty (at b) ∷ []) (Some (at by))
      ei eo (values-are (L.output ∷ []) v ∙ ap (λ x. x ∷ []) eo) (kept-is by k)
      (collection_fits g few (subst (λ x. 64 ≤ beside x (map type_of ts.trees.items) ns) eo w) l h)
