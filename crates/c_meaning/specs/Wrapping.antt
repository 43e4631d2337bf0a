-- `int64_t` that wrap: C has no such operators, so that they go through `uint64_t`.
use Rattle.std.specs.Prelude.{◌≡◌, ℤ, pos, neg_ℤ, ◌+ℤ◌, ◌-ℤ◌, ◌*ℤ◌, ◌-◌, ◌^◌, FitsSigned, Some}
use Rattle.std.specs.Int.{w64, int_wrap}
use Rattle.c_meaning.specs.Object.{i64, u64, number}
use Rattle.c_meaning.specs.Syntax.{Operator, plus, minus, times, at_most, Term, literal, binary, choice, cast}
use Rattle.c_meaning.specs.Meaning.{Frame, eval}

-- the greatest `int64_t`, and `uint64_t`
abbrev pub greatest_signed : ℤ
greatest_signed = pos (2 ^ 63 - 1)

abbrev pub greatest_unsigned : ℤ
greatest_unsigned = pos (2 ^ 64 - 1)

-- a `uint64_t` n as an `int64_t`: `n <= INT64_MAX ? (int64_t)n : 0 - (int64_t)(UINT64_MAX - n) - 1`
abbrev pub wrapped : Term → Term
wrapped e =
    choice (binary at_most u64 e (literal u64 greatest_signed)) (cast i64 e)
    (binary minus i64
    (binary minus i64 (literal i64 (pos 0))
    (cast i64 (binary minus u64 (literal u64 greatest_unsigned) e))) (literal i64 (pos 1)))

-- two `int64_t` by an operator of `uint64_t`
abbrev pub modular : Operator → Term → Term → Term
modular o a b = wrapped (binary o u64 (cast u64 a) (cast u64 b))

-- `-e`
abbrev pub negated : Term → Term
negated e = wrapped (binary minus u64 (literal u64 (pos 0)) (cast u64 e))

-- a term has a number
abbrev pub Gives : Frame → Term → ℤ → Type 0
Gives f e z = eval f e ≡ Some (number i64 z)

-- such a sum, difference, product and negation has a result: the number modulo 2^64, read as signed
abbrev pub WrappingLaw : Type 0
WrappingLaw = (f : Frame) (a b : Term) (y z : ℤ) → FitsSigned w64 y → FitsSigned w64 z
    → Gives f a y → Gives f b z
    → Gives f (modular plus a b) (int_wrap w64 (y +ℤ z))
    × Gives f (modular minus a b) (int_wrap w64 (y -ℤ z))
    × Gives f (modular times a b) (int_wrap w64 (y *ℤ z))
    × Gives f (negated a) (int_wrap w64 (neg_ℤ y))
