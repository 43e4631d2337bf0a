-- Sizes one after the other: of values, and of what functions keep.
use Rattle.std.proofs.Common.{◌≡◌, ◌⊎◌, inl, inr, ◌≤◌, ◌<◌, ◌+◌, ℕ, zero, suc, List, [], ◌∷◌, ◌++◌, length, map, take, drop, get_or, Some, refl, sym, ap, ◌∙◌, subst, arith, length-append}
use Rattle.std.specs.List.{slice_get}
use Rattle.std.proofs.lemmas.List.{map-append}
use Rattle.std.proofs.lemmas.List.Sums.{sum_by-append}
use Rattle.std.proofs.lemmas.Option.{slice_get-get_or}
use Rattle.leaf_code.specs.Fitting.{Bounds}
use Rattle.net_code.specs.declared.statement.Function.{Function}
use Rattle.code_fits.specs.declared.types.Types.{Types}
use Rattle.code_fits.specs.declared.layout.Layout as N
use Rattle.code_fits.specs.Layouts.{Layout}
use Rattle.code_fits.specs.Tables.{bound_of, layout_of, tree_at, tree_if}
use Rattle.code_fits.specs.Sizes.{function_size, own_size, size_at, sizes_at, sizes_behind, value_size}
use Rattle.code_fits.specs.Saturated.{saturated, AreSizes}
use Rattle.code_fits.proofs.Folds.{drop-some, gone, take-some}

take-whole : (xs : List ℕ) (i : ℕ) → length xs ≤ i → take i xs ≡ xs
take-whole [] zero l = refl
take-whole [] (suc i) l = refl
take-whole (x ∷ xs) zero l = absurd (omega arith)
take-whole (x ∷ xs) (suc i) l = ap (λ ys. x ∷ ys) (take-whole xs i (omega arith))

-- an element of a list with one more is one of the list, or that one
with-one : (all : List ℕ) (x j n : ℕ) → slice_get (all ++ x ∷ []) j ≡ Some n → (slice_get all j ≡ Some n) ⊎ ((j ≡ length all) × (n ≡ x))
with-one [] x zero n e = let q : n ≡ x = cc in inr (refl, q)
with-one [] x (suc j) n e = cc
with-one (y ∷ all) x zero n e = inl e
with-one (y ∷ all) x (suc j) n e = elim (with-one all x j n e) [
  | inl a ↦ inl a
  | inr b ↦ inr (ap suc b.0, b.1)
]

-- with the size of the next type
pub and-size : (ts : Types) (ns all : List ℕ) (k x : ℕ) → length all ≡ k → AreSizes ts ns all
    → x ≡ saturated (value_size (bound_of ts ns) (tree_at ts k)) → AreSizes ts ns (all ++ x ∷ [])
and-size ts ns all k x l h e j n q = elim (with-one all x j n q) [
  | inl a ↦ h j n a
  | inr b ↦ b.1 ∙ e ∙ ap (λ i. saturated (value_size (bound_of ts ns) (tree_at ts i))) (sym (b.0 ∙ l))
]

-- and there is one more
pub sizes-next : (ts : Types) (ns all new : List ℕ) (k x : ℕ) → (length all ≡ k) × AreSizes ts ns all
    → x ≡ saturated (value_size (bound_of ts ns) (tree_at ts k)) → new ≡ all ++ x ∷ [] → (length new ≡ k + 1) × AreSizes ts ns new
sizes-next ts ns all new k x h e q =
    (ap length q ∙ length-append all (x ∷ []) ∙ ap (λ n. n + 1) h.0, subst (AreSizes ts ns) (sym q) (and-size ts ns all k x h.0 h.1 e))

-- the sum of some, and of the next
pub sum-next : (ns ks : List ℕ) (i d : ℕ) → i < length ks → sizes_at ns (take (i + 1) ks) ≡ sizes_at ns (take i ks) + get_or ns (get_or ks i d) 0
sum-next ns ks i d l =
    let one : i + 1 ≡ suc i = omega arith in
    let last : sizes_at ns (get_or ks i d ∷ []) ≡ get_or ns (get_or ks i d) 0 = omega arith in
    ap (λ j. sizes_at ns (take j ks)) one
    ∙ ap (sizes_at ns) (take-some ks i (get_or ks i d) (slice_get-get_or ks i d l))
    ∙ sum_by-append (size_at ns) (take i ks) (get_or ks i d ∷ [])
    ∙ ap (λ n. sizes_at ns (take i ks) + n) last

pub sum-all : (ns ks : List ℕ) (i : ℕ) → length ks ≤ i → sizes_at ns (take i ks) ≡ sizes_at ns ks
sum-all ns ks i l = ap (sizes_at ns) (take-whole ks i l)

-- where what the functions to come keep ends so, it does behind the next
pub kept-next : (bound : Bounds) (ts : Types) (fs : List Function) (Ls : List N.Layout) (ns all : List ℕ) (k : ℕ) (f : Function) (L : N.Layout)
    → slice_get fs k ≡ Some f → slice_get Ls k ≡ Some L
    → sizes_behind bound ns (drop k fs) (map (layout_of ts) (drop k Ls)) ≡ all
    → sizes_behind bound (ns ++ function_size (own_size bound (tree_if ts L.kept)) ns f ∷ []) (drop (k + 1) fs) (map (layout_of ts) (drop (k + 1) Ls)) ≡ all
kept-next bound ts fs Ls ns all k f L e q h =
    let one : k + 1 ≡ suc k = omega arith in
    let here : sizes_behind bound ns (f ∷ drop (suc k) fs) (map (layout_of ts) (L ∷ drop (suc k) Ls)) ≡ all =
    subst (λ gs. sizes_behind bound ns gs (map (layout_of ts) (L ∷ drop (suc k) Ls)) ≡ all) (drop-some fs k f e)
    (subst (λ Ms. sizes_behind bound ns (drop k fs) (map (layout_of ts) Ms) ≡ all) (drop-some Ls k L q) h) in
    subst (λ i. sizes_behind bound (ns ++ function_size (own_size bound (tree_if ts L.kept)) ns f ∷ []) (drop i fs) (map (layout_of ts) (drop i Ls)) ≡ all)
    (sym one) here

-- at the end they are all
pub kept-all : (bound : Bounds) (fs : List Function) (Ls : List Layout) (ns all : List ℕ) (k : ℕ) → length fs ≤ k
    → sizes_behind bound ns (drop k fs) Ls ≡ all → ns ≡ all
kept-all bound fs Ls ns all k l h = subst (λ gs. sizes_behind bound ns gs Ls ≡ all) (gone fs k l) h

-- one more of them, as a number of 64 bits
pub and-saturated : (ns : List ℕ) (n : ℕ) → map saturated (ns ++ n ∷ []) ≡ map saturated ns ++ saturated n ∷ []
and-saturated ns n = map-append saturated ns (n ∷ [])
