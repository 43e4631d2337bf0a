-- Numbers that wrap through `uint64_t`.
use Rattle.std.proofs.Common.{◌≡◌, ◌≤◌, ◌<◌, ◌+◌, ◌-◌, ◌%◌, ◌^◌, ◌*◌, ℕ, ℤ, pos, negsuc, neg_ℤ, ◌+ℤ◌, ◌-ℤ◌, ◌*ℤ◌, Bool, true, false, Option, Some, None, refl, sym, ap, ap₂, ◌∙◌, arith, w64}
use Rattle.std.specs.Prelude.{FitsSigned, if◌then◌else◌}
use Rattle.std.proofs.Math.Dec.{leb}
use Rattle.std.proofs.lemmas.Bool.{leb-true, leb-false}
use Rattle.std.specs.Int.{cast_signed, cast_unsigned, int_rem_euclid, int_wrap}
use Rattle.std.proofs.lemmas.Int.{ints, wrapping_add_is, wrapping_sub_is, wrapping_mul_is, wrapping_neg_is, int_rem_euclid_is}
use Rattle.c_meaning.specs.Object.{Scalar, i64, u64, Object, truth, number, in_range}
use Rattle.c_meaning.specs.Syntax.{Operator, plus, minus, times, at_most, Term, literal, binary, cast}
use Rattle.c_meaning.specs.Meaning.{Frame, eval, bind, checked, arithmetic, compute, operate, convert, converted, choice_of, literal_of}
use Rattle.c_meaning.specs.Wrapping.{greatest_signed, greatest_unsigned, wrapped, modular, negated, Gives, WrappingLaw}

-- a signed number that fits is in range
pub fits-range : (z : ℤ) → FitsSigned w64 z → in_range i64 z ≡ true
fits-range z f = grind (arith, ints)

-- as unsigned
unsigned-is : (z : ℤ) → FitsSigned w64 z → int_rem_euclid z (pos (2 ^ 64)) ≡ pos (cast_unsigned w64 z)
unsigned-is z f = grind (arith, ints)

unsigned-below : (z : ℤ) → FitsSigned w64 z → cast_unsigned w64 z < 2 ^ 64
unsigned-below z f = grind (arith, ints)

pub small-signed : (k : ℕ) → k < 2 ^ 63 → in_range i64 (pos k) ≡ true
small-signed k h = grind (arith, ints)

under-range : (k : ℕ) → k < 2 ^ 63 → in_range i64 (negsuc k) ≡ true
under-range k h = grind (arith, ints)

minus-range : (k : ℕ) → k < 2 ^ 63 → in_range i64 (neg_ℤ (pos k)) ≡ true
minus-range k h = grind (arith, ints)

pub difference : (a m : ℕ) → m ≤ a → pos a -ℤ pos m ≡ pos (a - m)
difference a m h = grind (arith, ints)

one-less : (k : ℕ) → neg_ℤ (pos k) -ℤ pos 1 ≡ negsuc k
one-less k = grind (arith, ints)

read-small : (m : ℕ) → m ≤ 2 ^ 63 - 1 → cast_signed w64 m ≡ pos m
read-small m h = grind (arith, ints)

read-great : (m : ℕ) → 2 ^ 63 - 1 < m → m < 2 ^ 64 → cast_signed w64 m ≡ negsuc (2 ^ 64 - 1 - m)
read-great m h l = grind (arith, ints)

zero-minus : (k : ℕ) → pos 0 -ℤ pos k ≡ neg_ℤ (pos k)
zero-minus k = grind (arith, ints)

small-rem : (k : ℕ) → k < 2 ^ 64 → int_rem_euclid (pos k) (pos (2 ^ 64)) ≡ pos k
small-rem k h = ap pos (mod-small k h)
  where
    mod-small : (k : ℕ) → k < 2 ^ 64 → k % 2 ^ 64 ≡ k
    mod-small k h = grind arith

below : (m : ℕ) → m % 2 ^ 64 < 2 ^ 64
below m = omega arith

pub difference-rem : (a b : ℕ) → b < 2 ^ 64 → int_rem_euclid (pos a -ℤ pos b) (pos (2 ^ 64)) ≡ pos ((a + (2 ^ 64 - b)) % 2 ^ 64)
difference-rem a b h = int_rem_euclid_is (pos a -ℤ pos b) (pos (2 ^ 64)) (2 ^ 64) 1 (a + (2 ^ 64 - b)) (omega arith) refl (grind (arith, ints))

pub check-yes : (T : Scalar) (z : ℤ) → in_range T z ≡ true → checked T z ≡ Some (number T z)
check-yes T z e = ap (λ b. if b then Some (number T z) else None) e

signed-number : ℤ → Option Object
signed-number z = Some (number i64 z)

-- what `wrapped` makes of a term's value
abbrev at-most : Option Object → Option Object
at-most E = bind E (λ v. bind (literal_of u64 greatest_signed) (λ w. operate at_most u64 v w))

abbrev behind : Option Object → Option Object
behind E = bind (literal_of u64 greatest_unsigned) (λ v. bind E (λ w. operate minus u64 v w))

abbrev lower : Option Object → Option Object
lower E =
    bind (bind (literal_of i64 (pos 0)) (λ v. bind (bind (behind E) (converted i64)) (λ w. operate minus i64 v w)))
    (λ v. bind (literal_of i64 (pos 1)) (λ w. operate minus i64 v w))

abbrev of-value : Option Object → Option Object
of-value E = bind (at-most E) (λ v. choice_of v (bind E (converted i64)) (lower E))

wrapped-eval : (f : Frame) (e : Term) → eval f (wrapped e) ≡ of-value (eval f e)
wrapped-eval f e = refl

abbrev from-zero : Option Object → Option Object
from-zero E = bind (bind E (λ w. operate minus i64 (number i64 (pos 0)) w)) (λ v. operate minus i64 v (number i64 (pos 1)))

abbrev less-one : Option Object → Option Object
less-one E = bind E (λ v. operate minus i64 v (number i64 (pos 1)))

lower-is : (m : ℕ) → lower (Some (number u64 (pos m))) ≡ from-zero (convert i64 (int_rem_euclid (pos (2 ^ 64 - 1) -ℤ pos m) (pos (2 ^ 64))))
lower-is m = refl

from-number : (k : ℕ) → k < 2 ^ 63 → from-zero (convert i64 (pos k)) ≡ Some (number i64 (negsuc k))
from-number k h =
    ap from-zero (check-yes i64 (pos k) (small-signed k h))
    ∙ ap less-one (ap (checked i64) (zero-minus k) ∙ check-yes i64 (neg_ℤ (pos k)) (minus-range k h))
    ∙ ap (checked i64) (one-less k)
    ∙ check-yes i64 (negsuc k) (under-range k h)

number-cases : (m : ℕ) → m < 2 ^ 64 → (b : Bool) → leb m (2 ^ 63 - 1) ≡ b
    → choice_of (truth b) (convert i64 (pos m)) (lower (Some (number u64 (pos m)))) ≡ Some (number i64 (cast_signed w64 m))
number-cases m l true e =
    let h : m ≤ 2 ^ 63 - 1 = leb-true m (2 ^ 63 - 1) e in
    check-yes i64 (pos m) (small-signed m (omega arith)) ∙ ap (λ z. Some (number i64 z)) (sym (read-small m h))
number-cases m l false e =
    let h : 2 ^ 63 - 1 < m = leb-false m (2 ^ 63 - 1) e in
    let k : ℕ = 2 ^ 64 - 1 - m in
    lower-is m
    ∙ ap (λ z. from-zero (convert i64 z)) (ap (λ z. int_rem_euclid z (pos (2 ^ 64))) (difference (2 ^ 64 - 1) m (omega arith)) ∙ small-rem (2 ^ 64 - 1 - m) (omega arith))
    ∙ from-number (2 ^ 64 - 1 - m) (omega arith)
    ∙ ap (λ z. Some (number i64 z)) (sym (read-great m h l))

number-value : (m : ℕ) → m < 2 ^ 64 → of-value (Some (number u64 (pos m))) ≡ Some (number i64 (cast_signed w64 m))
number-value m l = number-cases m l (leb m (2 ^ 63 - 1)) refl

wrapped-number : (f : Frame) (e : Term) (m : ℕ) → m < 2 ^ 64 → eval f e ≡ Some (number u64 (pos m)) → eval f (wrapped e) ≡ Some (number i64 (cast_signed w64 m))
wrapped-number f e m l h = ap of-value h ∙ number-value m l

-- two numbers by an operator of `uint64_t`
abbrev by-operator : Operator → Option Object → Option Object → Option Object
by-operator o A B = bind (bind A (converted u64)) (λ v. bind (bind B (converted u64)) (λ w. operate o u64 v w))

module _ (f : Frame) (a b : Term) (y z : ℤ) (p : FitsSigned w64 y) (q : FitsSigned w64 z) (ha : Gives f a y) (hb : Gives f b z) where
  operands : (o : Operator) → eval f (binary o u64 (cast u64 a) (cast u64 b)) ≡ compute o u64 (pos (cast_unsigned w64 y)) (pos (cast_unsigned w64 z))
  operands o = ap₂ (by-operator o) ha hb ∙ of-both o
    where
      of-both : (o : Operator) → by-operator o (Some (number i64 y)) (Some (number i64 z)) ≡ compute o u64 (pos (cast_unsigned w64 y)) (pos (cast_unsigned w64 z))
      of-both o = ap₂ (compute o u64) (unsigned-is y p) (unsigned-is z q)

  sum : Gives f (modular plus a b) (int_wrap w64 (y +ℤ z))
  sum =
      wrapped-number f (binary plus u64 (cast u64 a) (cast u64 b)) ((cast_unsigned w64 y + cast_unsigned w64 z) % 2 ^ 64) (below (cast_unsigned w64 y + cast_unsigned w64 z)) (operands plus)
      ∙ ap (λ x. Some (number i64 x)) (wrapping_add_is w64 y z p q)

  minus-is : Gives f (modular minus a b) (int_wrap w64 (y -ℤ z))
  minus-is =
      wrapped-number f (binary minus u64 (cast u64 a) (cast u64 b)) ((cast_unsigned w64 y + (2 ^ 64 - cast_unsigned w64 z)) % 2 ^ 64) (below (cast_unsigned w64 y + (2 ^ 64 - cast_unsigned w64 z)))
      (operands minus ∙ ap (λ x. Some (number u64 x)) (difference-rem (cast_unsigned w64 y) (cast_unsigned w64 z) (unsigned-below z q)))
      ∙ ap (λ x. Some (number i64 x)) (wrapping_sub_is w64 y z p q)

  product : Gives f (modular times a b) (int_wrap w64 (y *ℤ z))
  product =
      wrapped-number f (binary times u64 (cast u64 a) (cast u64 b)) ((cast_unsigned w64 y * cast_unsigned w64 z) % 2 ^ 64) (below (cast_unsigned w64 y * cast_unsigned w64 z)) (operands times)
      ∙ ap (λ x. Some (number i64 x)) (wrapping_mul_is w64 y z p q)

abbrev from-nothing : Option Object → Option Object
from-nothing A = bind (bind A (converted u64)) (λ w. operate minus u64 (number u64 (pos 0)) w)

negation : (f : Frame) (a : Term) (y : ℤ) → FitsSigned w64 y → Gives f a y → Gives f (negated a) (int_wrap w64 (neg_ℤ y))
negation f a y p ha =
    wrapped-number f (binary minus u64 (literal u64 (pos 0)) (cast u64 a)) ((2 ^ 64 - cast_unsigned w64 y) % 2 ^ 64) (below (2 ^ 64 - cast_unsigned w64 y))
    (ap from-nothing ha ∙ ap (λ x. arithmetic u64 (pos 0 -ℤ x)) (unsigned-is y p)
    ∙ ap (λ x. Some (number u64 x)) (difference-rem 0 (cast_unsigned w64 y) (unsigned-below y p) ∙ ap (λ m. pos (m % 2 ^ 64)) (omega arith)))
    ∙ ap (λ x. Some (number i64 x)) (wrapping_neg_is w64 y p)

pub wrapping_law : WrappingLaw
wrapping_law f a b y z p q ha hb =
    (sum f a b y z p q ha hb, minus-is f a b y z p q ha hb, product f a b y z p q ha hb, negation f a y p ha)
