-- Objects of one type may take each other's place.
use Rattle.std.proofs.Common.{◌≡◌, ℕ, zero, suc, Bool, true, false, ◌&&◌, refl, ap₂, arith}
use Rattle.std.specs.Prelude.{nat_eq}
use Rattle.c_meaning.specs.Object.{scalar_code, same_scalar, in_range, CType, truth_type, number_type, no_member, member, array, Object, unset, truth, number, end, more, has_type, each_has, like}

pub no : {P : Type 0} → false ≡ true → P
no e = absurd (grind arith)

pub yes-and : {a b : Bool} → a ≡ true → b ≡ true → (a && b) ≡ true
yes-and e f = ap₂ ◌&&◌ e f

pub left-yes : (a b : Bool) → (a && b) ≡ true → a ≡ true
left-yes true b e = refl
left-yes false b e = e

pub right-yes : (a b : Bool) → (a && b) ≡ true → b ≡ true
right-yes true b e = e
right-yes false b e = no e

same-trans : (a b c : ℕ) → nat_eq a b ≡ true → nat_eq a c ≡ true → nat_eq b c ≡ true
same-trans a b c e f = grind arith

each-alike : (f : Object → Bool) → ((a b : Object) → f a ≡ true → f b ≡ true → like a b ≡ true) → (n : ℕ) (a b : Object)
    → each_has f n a ≡ true → each_has f n b ≡ true → like a b ≡ true
each-alike f h zero end end e g = refl
each-alike f h zero end _ e g = no g
each-alike f h zero _ _ e g = no e
each-alike f h (suc n) (more a as1) (more b bs) e g =
    yes-and (h a b (left-yes (f a) (each_has f n as1) e) (left-yes (f b) (each_has f n bs) g))
    (each-alike f h n as1 bs (right-yes (f a) (each_has f n as1) e) (right-yes (f b) (each_has f n bs) g))
each-alike f h (suc n) (more a as1) _ e g = no g
each-alike f h (suc n) _ _ e g = no e

pub alike : (T : CType) (a b : Object) → has_type T a ≡ true → has_type T b ≡ true → like a b ≡ true
alike truth_type unset unset e f = refl
alike truth_type unset (truth b) e f = refl
alike truth_type (truth a) unset e f = refl
alike truth_type (truth a) (truth b) e f = refl
alike truth_type unset _ e f = no f
alike truth_type (truth a) _ e f = no f
alike truth_type _ _ e f = no e
alike (number_type S) unset unset e f = refl
alike (number_type S) unset (number T z) e f = refl
alike (number_type S) (number T z) unset e f = refl
alike (number_type S) (number T z) (number U y) e f =
    same-trans (scalar_code S) (scalar_code T) (scalar_code U) (left-yes (same_scalar S T) (in_range S z) e) (left-yes (same_scalar S U) (in_range S y) f)
alike (number_type S) unset _ e f = no f
alike (number_type S) (number T z) _ e f = no f
alike (number_type S) _ _ e f = no e
alike no_member end end e f = refl
alike no_member end _ e f = no f
alike no_member _ _ e f = no e
alike (member A B) (more a as1) (more b bs) e f =
    yes-and (alike A a b (left-yes (has_type A a) (has_type B as1) e) (left-yes (has_type A b) (has_type B bs) f))
    (alike B as1 bs (right-yes (has_type A a) (has_type B as1) e) (right-yes (has_type A b) (has_type B bs) f))
alike (member A B) (more a as1) _ e f = no f
alike (member A B) _ _ e f = no e
alike (array n A) a b e f = each-alike (has_type A) (alike A) n a b e f
