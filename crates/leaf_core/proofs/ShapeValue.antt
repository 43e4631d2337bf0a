-- An expression whose shape gives a value has that value.
use Rattle.std.proofs.Common.{◌≡◌, ℤ, pos, ◌+ℤ◌, ◌*ℤ◌, Option, None, Some, ap, sym, ◌∙◌}
use Rattle.std.proofs.Math.IntN.{*ℤ_comm, *ℤ-one, +ℤ_idr}
use Rattle.std.proofs.lemmas.Int.{int_wrap-add_left}
use Rattle.std.specs.Int.{int_wrap, w64}
use Rattle.sample_core.specs.Datum.{Datum, int, int_of}
use Rattle.leaf_core.specs.Expression.{input, unit_expr, bool_expr, int_expr, pair_expr, fst, snd, add, mul, less, event_expr}
use Rattle.leaf_core.specs.ExpressionValue.{wrap}
use Rattle.leaf_core.specs.Shape.{ShapeValueLaw}

-- one times a number and a number more
once_and : (m b : ℤ) → wrap (m +ℤ b) ≡ wrap (pos 1 *ℤ m +ℤ b)
unfolding lib.IntN.one
once_and m b = ap (λ z. wrap (z +ℤ b)) (sym (*ℤ-one m) ∙ *ℤ_comm m (pos 1))

-- a product and nothing more
times : (m a : ℤ) → wrap (m *ℤ a) ≡ wrap (a *ℤ m +ℤ pos 0)
times m a = ap wrap (*ℤ_comm m a ∙ sym (+ℤ_idr (a *ℤ m)))

-- a product that is wrapped before the sum is
times_and : (m a b : ℤ) → wrap (int_wrap w64 (m *ℤ a) +ℤ b) ≡ wrap (a *ℤ m +ℤ b)
times_and m a b = ap int (int_wrap-add_left w64 (m *ℤ a) b) ∙ ap (λ z. wrap (z +ℤ b)) (*ℤ_comm m a)

-- what two options hold where they are one
held : (a b : Datum) → Some a ≡ Some b → a ≡ b
held a b h = cc

-- where there is none, it is not one
not_some : (v : Datum) → ◌≡◌ {A = Option Datum} None (Some v) → ⊥
not_some v h = cc

pub shape_values : ShapeValueLaw
shape_values input ps x v h = held _ v h
shape_values unit_expr ps x v h = held _ v h
shape_values (bool_expr b) ps x v h = held _ v h
shape_values (int_expr n) ps x v h = held _ v h
shape_values (add input (int_expr b)) ps x v h = once_and (int_of x) b ∙ held _ v h
shape_values (mul input (int_expr a)) ps x v h = times (int_of x) a ∙ held _ v h
shape_values (add (mul input (int_expr a)) (int_expr b)) ps x v h = times_and (int_of x) a b ∙ held _ v h
shape_values (pair_expr (snd input) (fst input)) ps x v h = held _ v h
shape_values (fst input) ps x v h = held _ v h
shape_values (snd input) ps x v h = held _ v h
shape_values (less input (int_expr k)) ps x v h = held _ v h
shape_values (event_expr input) ps x v h = held _ v h
shape_values _ ps x v h = absurd (not_some v h)
