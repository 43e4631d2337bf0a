-- What is tested of each holds of all.
use Rattle.std.proofs.Common.{◌≡◌, ◌≤◌, ◌<◌, ◌+◌, ℕ, zero, suc, true, false, List, [], ◌∷◌, ◌++◌, length, map, take, drop, get_or, Some, refl, sym, ap, ◌∙◌, subst, arith}
use Rattle.std.specs.List.{slice_get}
use Rattle.std.proofs.lemmas.List.{map-append}
use Rattle.std.proofs.lemmas.Option.{slice_get-get_or, slice_get_read}
use Rattle.sample_core.specs.TypeTree.{TypeTree, list_ty}
use Rattle.sample_core.specs.TypeView.{type_of}
use Rattle.sample_core.specs.declared.ty.Ty.{Ty}
use Rattle.leaf_core.specs.TypeLimits.{same_tree}
use Rattle.leaf_code.specs.Operation.{Operation}
use Rattle.leaf_code.specs.Operation as O
use Rattle.leaf_code.specs.declared.operation.Step.{Step}
use Rattle.leaf_code.specs.CodeView.{operation_of, steps_in}
use Rattle.leaf_code.specs.Fitting.{Bounds, ListWithin, ListsWithin}
use Rattle.net_code.specs.declared.statement.Function.{Function}
use Rattle.net_code.specs.Running.{AllBelow}
use Rattle.code_fits.specs.declared.types.Types.{Types}
use Rattle.code_fits.specs.declared.layout.Layout as N
use Rattle.code_fits.specs.Layouts.{Layout}
use Rattle.code_fits.specs.Rules.{Goes, AllGo, one_goes, FunctionFits, CodeFits}
use Rattle.code_fits.specs.Tables.{beside, bound_of, elements_in, layout_of, FitsOver, TableHolds}

some-is : {X : Type 0} (x y : X) → Some x ≡ Some y → x ≡ y
some-is x y e = cc

-- what is there, and behind it
pub drop-some : {X : Type 0} (xs : List X) (i : ℕ) (x : X) → slice_get xs i ≡ Some x → drop i xs ≡ x ∷ drop (suc i) xs
drop-some [] i x e = cc
drop-some (y ∷ xs) zero x e = let q : y ≡ x = cc in ap (λ z. z ∷ xs) q
drop-some (y ∷ xs) (suc i) x e = drop-some xs i x e

pub take-some : {X : Type 0} (xs : List X) (i : ℕ) (x : X) → slice_get xs i ≡ Some x → take (suc i) xs ≡ take i xs ++ x ∷ []
take-some [] i x e = cc
take-some (y ∷ xs) zero x e = let q : y ≡ x = cc in ap (λ z. z ∷ []) q
take-some (y ∷ xs) (suc i) x e = ap (λ zs. y ∷ zs) (take-some xs i x e)

-- nothing is left behind the last
pub gone : {X : Type 0} (xs : List X) (i : ℕ) → length xs ≤ i → drop i xs ≡ []
gone [] zero l = refl
gone [] (suc i) l = refl
gone (x ∷ xs) zero l = absurd (omega arith)
gone (x ∷ xs) (suc i) l = gone xs i (omega arith)

-- where a fact of those to come makes it of all, it does so of those behind the next
pub next : {X : Type 0} (P : List X → Type 0) (xs : List X) (i : ℕ) (x : X) → slice_get xs i ≡ Some x → (P (drop (suc i) xs) → P (x ∷ drop (suc i) xs))
    → (P (drop i xs) → P xs) → P (drop (i + 1) xs) → P xs
next P xs i x e more all r =
    let one : i + 1 ≡ suc i = omega arith in
    all (subst P (sym (drop-some xs i x e)) (more (subst (λ k. P (drop k xs)) one r)))

-- at the end it holds of all
pub ended : {X : Type 0} (P : List X → Type 0) (xs : List X) (i : ℕ) → length xs ≤ i → P [] → (P (drop i xs) → P xs) → P xs
ended P xs i l h all = all (subst P (sym (gone xs i l)) h)

pub go-next : (Ls : List Layout) (Ps : List TypeTree) (Os : List ℕ) (A B : TypeTree) (fs : List ℕ) (i d : ℕ) → i < length fs → Goes Ls (get_or fs i d) Ps Os A B
    → (AllGo Ls Ps Os A B (drop i fs) → AllGo Ls Ps Os A B fs) → AllGo Ls Ps Os A B (drop (i + 1) fs) → AllGo Ls Ps Os A B fs
go-next Ls Ps Os A B fs i d l g h = next (AllGo Ls Ps Os A B) fs i (get_or fs i d) (slice_get-get_or fs i d l) (λ r. one_goes g r) h

pub below-next : (k : ℕ) (js : List ℕ) (i d : ℕ) → i < length js → get_or js i d < k
    → (AllBelow k (drop i js) → AllBelow k js) → AllBelow k (drop (i + 1) js) → AllBelow k js
below-next k js i d l b h = next (AllBelow k) js i (get_or js i d) (slice_get-get_or js i d l) (λ r. (b, r)) h

-- a step's list is within its bound
pub list-within : (ts : Types) (ns : List ℕ) (T : TypeTree) (o : Operation) → elements_in o ≤ beside T (map type_of ts.trees.items) ns → ListWithin (bound_of ts ns) T o
list-within ts ns (list_ty A) (O.list js) h = h
list-within ts ns T o h = tt

pub steps-next : (ts : Types) (ns : List ℕ) (ss : List Step) (i : ℕ) (s : Step) → slice_get ss i ≡ Some s
    → elements_in (operation_of s.operation) ≤ beside (type_of s.ty) (map type_of ts.trees.items) ns
    → (ListsWithin (bound_of ts ns) (steps_in (drop i ss)) → ListsWithin (bound_of ts ns) (steps_in ss))
    → ListsWithin (bound_of ts ns) (steps_in (drop (i + 1) ss)) → ListsWithin (bound_of ts ns) (steps_in ss)
steps-next ts ns ss i s e l h = next (λ zs. ListsWithin (bound_of ts ns) (steps_in zs)) ss i s e (λ r. (list-within ts ns (type_of s.ty) (operation_of s.operation) l, r)) h

-- the number beside a type that is there, or not
beside-here : (A T : TypeTree) (Ts : List TypeTree) (n : ℕ) (ns : List ℕ) → same_tree T A ≡ true → beside A (T ∷ Ts) (n ∷ ns) ≡ n
beside-here A T Ts n ns e = rw e

beside-after : (A T : TypeTree) (Ts : List TypeTree) (n : ℕ) (ns : List ℕ) → same_tree T A ≡ false → beside A (T ∷ Ts) (n ∷ ns) ≡ beside A Ts ns
beside-after A T Ts n ns e = rw e

-- what is at a place
pub placed : {X : Type 0} (xs : List X) (i : ℕ) (x : X) → i < length xs → x ≡ get_or xs i x → slice_get xs i ≡ Some x
placed xs i x l e = slice_get_read xs (length xs) i x refl l e

pub found-here : (A : TypeTree) (Ts : List Ty) (ns : List ℕ) (i : ℕ) (T : Ty) (n : ℕ) → i < length Ts → T ≡ get_or Ts i T → slice_get ns i ≡ Some n → same_tree (type_of T) A ≡ true
    → beside A (map type_of (drop i Ts)) (drop i ns) ≡ n
found-here A Ts ns i T n l e f h =
    ap (λ zs. beside A (map type_of zs) (drop i ns)) (drop-some Ts i T (placed Ts i T l e))
    ∙ ap (λ ms. beside A (type_of T ∷ map type_of (drop (suc i) Ts)) ms) (drop-some ns i n f)
    ∙ beside-here A (type_of T) (map type_of (drop (suc i) Ts)) n (drop (suc i) ns) h

pub found-after : (A : TypeTree) (Ts : List Ty) (ns : List ℕ) (i : ℕ) (T : Ty) (n : ℕ) → i < length Ts → T ≡ get_or Ts i T → slice_get ns i ≡ Some n → same_tree (type_of T) A ≡ false
    → beside A (map type_of (drop i Ts)) (drop i ns) ≡ beside A (map type_of (drop (i + 1) Ts)) (drop (i + 1) ns)
found-after A Ts ns i T n l e f h =
    let one : suc i ≡ i + 1 = omega arith in
    ap (λ zs. beside A (map type_of zs) (drop i ns)) (drop-some Ts i T (placed Ts i T l e))
    ∙ ap (λ ms. beside A (type_of T ∷ map type_of (drop (suc i) Ts)) ms) (drop-some ns i n f)
    ∙ beside-after A (type_of T) (map type_of (drop (suc i) Ts)) n (drop (suc i) ns) h
    ∙ ap (λ k. beside A (map type_of (drop k Ts)) (drop k ns)) one

-- how many stand in front of what is there
front-length : (lay : N.Layout → Layout) (Ls : List N.Layout) (i : ℕ) (L : N.Layout) → slice_get Ls i ≡ Some L → length (map lay (take i Ls)) ≡ i
front-length lay [] i L e = cc
front-length lay (M ∷ Ls) zero L e = refl
front-length lay (M ∷ Ls) (suc i) L e = ap suc (front-length lay Ls i L e)

-- one function more
pub code-more : (bound : Bounds) (lay : N.Layout → Layout) (fs : List Function) (Ls : List N.Layout) (i : ℕ) (f : Function) (L : N.Layout)
    → slice_get fs i ≡ Some f → slice_get Ls i ≡ Some L → FunctionFits bound (map lay (take i Ls)) (lay L) f → AllBelow i (lay L).olds
    → (CodeFits bound (map lay (take i Ls)) (drop i fs) (map lay (drop i Ls)) → CodeFits bound [] fs (map lay Ls))
    → CodeFits bound (map lay (take (suc i) Ls)) (drop (suc i) fs) (map lay (drop (suc i) Ls)) → CodeFits bound [] fs (map lay Ls)
code-more bound lay fs Ls i f L ef el h b more r =
    let q : map lay (take (suc i) Ls) ≡ map lay (take i Ls) ++ lay L ∷ [] = ap (map lay) (take-some Ls i L el) ∙ map-append lay (take i Ls) (L ∷ []) in
    let here : FunctionFits bound (map lay (take i Ls)) (lay L) f × AllBelow (length (map lay (take i Ls))) (lay L).olds
    × CodeFits bound (map lay (take i Ls) ++ lay L ∷ []) (drop (suc i) fs) (map lay (drop (suc i) Ls)) =
    (h, subst (λ n. AllBelow n (lay L).olds) (sym (front-length lay Ls i L el)) b, subst (λ Xs. CodeFits bound Xs (drop (suc i) fs) (map lay (drop (suc i) Ls))) q r) in
    more (subst (λ gs. CodeFits bound (map lay (take i Ls)) gs (map lay (drop i Ls))) (sym (drop-some fs i f ef))
    (subst (λ Ms. CodeFits bound (map lay (take i Ls)) (f ∷ drop (suc i) fs) (map lay Ms)) (sym (drop-some Ls i L el)) here))

pub code-next : (ts : Types) (ns : List ℕ) (fs : List Function) (Ls : List N.Layout) (i : ℕ) (f : Function) (L : N.Layout) (Es : List N.Layout) → TableHolds ts
    → slice_get fs i ≡ Some f → slice_get Ls i ≡ Some L → FitsOver ts ns Es L f → AllBelow i L.olds.items
    → (CodeFits (bound_of ts ns) (map (layout_of ts) (take i Ls)) (drop i fs) (map (layout_of ts) (drop i Ls)) → CodeFits (bound_of ts ns) [] fs (map (layout_of ts) Ls))
    → Es ≡ take i Ls
    → CodeFits (bound_of ts ns) (map (layout_of ts) (take (i + 1) Ls)) (drop (i + 1) fs) (map (layout_of ts) (drop (i + 1) Ls)) → CodeFits (bound_of ts ns) [] fs (map (layout_of ts) Ls)
code-next ts ns fs Ls i f L Es t ef el h b more e r =
    let one : i + 1 ≡ suc i = omega arith in
    code-more (bound_of ts ns) (layout_of ts) fs Ls i f L ef el (subst (λ zs. FunctionFits (bound_of ts ns) (map (layout_of ts) zs) (layout_of ts L) f) e (h t)) b more
    (subst (λ k. CodeFits (bound_of ts ns) (map (layout_of ts) (take k Ls)) (drop k fs) (map (layout_of ts) (drop k Ls))) one r)
