-- Sums and products of numbers of 64 bits, with their opposites.
use Rattle.std.proofs.Common.{◌≡◌, ℤ, pos, negsuc, ◌+ℤ◌, ◌*ℤ◌, neg_ℤ, false, sym, ap, ◌∙◌, arith, w64}
use Rattle.std.specs.Prelude.{int_lt, FitsSigned}
use Rattle.std.specs.Int.{int_wrap}
use Rattle.std.proofs.lemmas.Bool.{le-ltb}
use Rattle.std.proofs.lemmas.Int.{SFits-int_wrap, int_wrap_fits, int_wrap-add_left, int_wrap-add_right, int_wrap-sub_right, int_wrap-mul_left}
use Rattle.std.proofs.Math.IntN.{one, +ℤ_idl, +ℤ_idr, +ℤ_invr, neg_ℤ-neg_ℤ, neg_ℤ-+ℤ, *ℤ_comm, *ℤ-one, zero-*ℤ}
use Rattle.sample_core.specs.Datum.{Datum, int, int_of}
use Rattle.sample_core.specs.TypeTree.{int_ty}
use Rattle.sample_core.specs.HasType.{HasType, int_has}
use Rattle.leaf_core.specs.ExpressionValue.{wrap}
use Rattle.expr_laws.proofs.Products.{neg_ℤ-*ℤ}

pub zero_fits : FitsSigned w64 (pos 0)
unfolding int_wrap
zero_fits = SFits-int_wrap w64 (pos 0)

-- a number is one of 64 bits
pub number : {v : Datum} → HasType v int_ty → wrap (int_of v) ≡ v
number (int_has {n = n} f) = ap int (int_wrap_fits w64 n f)

pub sum_with_zero : {v : Datum} → HasType v int_ty → wrap (int_of v +ℤ pos 0) ≡ v
sum_with_zero {v = v} h = ap wrap (+ℤ_idr (int_of v)) ∙ number h

pub product_with_one : {v : Datum} → HasType v int_ty → wrap (int_of v *ℤ pos 1) ≡ v
unfolding one
product_with_one {v = v} h = ap wrap (*ℤ-one (int_of v)) ∙ number h

pub product_with_zero : (m : ℤ) → wrap (m *ℤ pos 0) ≡ int (pos 0)
unfolding int_wrap
product_with_zero m = ap wrap (*ℤ_comm m (pos 0) ∙ zero-*ℤ m)

-- the opposite of a number that was wrapped
opposite : (m : ℤ) → int_wrap w64 (neg_ℤ (int_wrap w64 m)) ≡ int_wrap w64 (neg_ℤ m)
opposite m = ap (int_wrap w64) (sym (+ℤ_idl (neg_ℤ (int_wrap w64 m)))) ∙ int_wrap-sub_right w64 (pos 0) m ∙ ap (int_wrap w64) (+ℤ_idl (neg_ℤ m))

pub twice_opposite : {v : Datum} → HasType v int_ty → wrap (neg_ℤ (int_wrap w64 (neg_ℤ (int_of v)))) ≡ v
twice_opposite {v = v} h = ap int (opposite (neg_ℤ (int_of v)) ∙ ap (int_wrap w64) (neg_ℤ-neg_ℤ (int_of v))) ∙ number h

pub opposite_of_sum : (m n : ℤ) → wrap (neg_ℤ (int_wrap w64 (m +ℤ n))) ≡ wrap (int_wrap w64 (neg_ℤ m) +ℤ int_wrap w64 (neg_ℤ n))
opposite_of_sum m n =
    ap int
    (opposite (m +ℤ n) ∙ ap (int_wrap w64) (neg_ℤ-+ℤ m n) ∙ sym (int_wrap-add_left w64 (neg_ℤ m) (int_wrap w64 (neg_ℤ n)) ∙ int_wrap-add_right w64 (neg_ℤ m) (neg_ℤ n)))

pub opposite_of_product : (m n : ℤ) → wrap (neg_ℤ (int_wrap w64 (m *ℤ n))) ≡ wrap (int_wrap w64 (neg_ℤ m) *ℤ n)
opposite_of_product m n = ap int (opposite (m *ℤ n) ∙ ap (int_wrap w64) (neg_ℤ-*ℤ m n) ∙ sym (int_wrap-mul_left w64 (neg_ℤ m) n))

pub sum_with_opposite : (m : ℤ) → wrap (m +ℤ int_wrap w64 (neg_ℤ m)) ≡ int (pos 0)
unfolding int_wrap
sum_with_opposite m = ap int (int_wrap-add_right w64 m (neg_ℤ m) ∙ ap (int_wrap w64) (+ℤ_invr m))

-- no number is less than itself
pub not_less : (m : ℤ) → int_lt m m ≡ false
not_less (pos n) = le-ltb n n (omega arith)
not_less (negsuc n) = le-ltb n n (omega arith)
