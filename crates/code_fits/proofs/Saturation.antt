-- Sizes as numbers of 64 bits.
use Rattle.std.proofs.Common.{◌≡◌, ◌≤◌, ◌+◌, ◌-◌, ◌^◌, ℕ, zero, suc, List, [], ◌∷◌, length, map, min, get_or, Some, refl, sym, ap, ◌∙◌, subst, arith}
use Rattle.std.specs.List.{slice_get}
use Rattle.code_fits.specs.Saturated.{saturated}
use Rattle.code_fits.specs.Sizes.{NoneOver, IsFirstOver, IsStateOf}

-- number k of a list
pub saturated-at : (ns : List ℕ) (k : ℕ) → get_or (map saturated ns) k 0 ≡ saturated (get_or ns k 0)
saturated-at [] k = refl
saturated-at (n ∷ ns) zero = refl
saturated-at (n ∷ ns) (suc k) = saturated-at ns k

some-is : (x y : ℕ) → Some x ≡ Some y → x ≡ y
some-is x y e = cc

there : (ns : List ℕ) (k n : ℕ) → slice_get ns k ≡ Some n → slice_get (map saturated ns) k ≡ Some (saturated n)
there [] k n e = cc
there (m ∷ ns) zero n e = ap (λ z. Some (saturated z)) (some-is m n e)
there (m ∷ ns) (suc k) n e = there ns k n e

was-there : (ns : List ℕ) (k x : ℕ) → slice_get (map saturated ns) k ≡ Some x → (n : ℕ) × (slice_get ns k ≡ Some n) × (x ≡ saturated n)
was-there [] k x e = cc
was-there (m ∷ ns) zero x e = (m, refl, sym (some-is (saturated m) x e))
was-there (m ∷ ns) (suc k) x e = was-there ns k x e

small : (n : ℕ) → saturated n ≤ 67108864 → n ≤ 67108864
small n l = omega arith

pub none-over : (ns : List ℕ) (k : ℕ) → NoneOver (map saturated ns) k → NoneOver ns k
none-over ns k h j n l e = small n (h j (saturated n) l (there ns j n e))

pub first-over : (ns : List ℕ) (k : ℕ) → IsFirstOver (map saturated ns) k → IsFirstOver ns k
first-over ns k h =
    let w : (n : ℕ) × (slice_get ns k ≡ Some n) × (h.size ≡ saturated n) = was-there ns k h.size h.there in
    record { size = w.0; there = w.1; over = omega (arith, h.over, w.2); before = none-over ns k h.before }

lengths : (ns : List ℕ) → length (map saturated ns) ≡ length ns
lengths [] = refl
lengths (n ∷ ns) = ap suc (lengths ns)

last-there : (n : ℕ) (ns : List ℕ) → slice_get (n ∷ ns) (length ns) ≡ Some (get_or (n ∷ ns) (length ns) 0)
last-there n [] = refl
last-there n (m ∷ ms) = last-there m ms

last-small : (ns : List ℕ) → NoneOver ns (length ns) → get_or ns (length ns - 1) 0 ≤ 67108864
last-small [] h = omega arith
last-small (n ∷ ns) h =
    let e : suc (length ns) - 1 ≡ length ns = omega arith in
    subst (λ k. get_or (n ∷ ns) k 0 ≤ 67108864) (sym e) (h (length ns) (get_or (n ∷ ns) (length ns) 0) (omega arith) (last-there n ns))

-- the last of them, and 8 more
pub state-of : (ns : List ℕ) (last bytes : ℕ) → NoneOver (map saturated ns) (length (map saturated ns))
    → last ≡ get_or (map saturated ns) (length (map saturated ns) - 1) 0 → bytes ≡ min (last + 8) (2 ^ 64 - 1)
    → IsStateOf ns bytes
state-of ns last bytes h e q =
    let few : NoneOver ns (length ns) = none-over ns (length ns) (subst (NoneOver (map saturated ns)) (lengths ns) h) in
    let is : last ≡ saturated (get_or ns (length ns - 1) 0) = e ∙ ap (λ k. get_or (map saturated ns) (k - 1) 0) (lengths ns) ∙ saturated-at ns (length ns - 1) in
    let l : get_or ns (length ns - 1) 0 ≤ 67108864 = last-small ns few in
    record { few = few; is_size = omega arith }
