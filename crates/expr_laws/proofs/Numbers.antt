-- A left side determines its right side, and the laws are numbered as the table's.
use Rattle.std.proofs.Common.{◌≡◌, ℕ, ◌+◌, ◌≤◌, length, Some, sym, ◌∙◌, arith}
use Rattle.leaf_core.specs.Expression.{Expression}
use Rattle.expr_laws.specs.ExpressionLaw.{ExpressionLaw, law_e1}
use Rattle.expr_laws.specs.Laws.{LawNumbersLaw}
use Rattle.expr_laws.specs.Table.{rule_at, left_at, right_at}
use Rattle.expr_laws.specs.declared.table.TheConstants.{LAWS}
use Rattle.expr_laws.proofs.TableLaws.{made-is, stands, some-law}

-- a left side determines its right side
pub one_right_side : (n : ℕ) (l r s : Expression) → ExpressionLaw n l r → ExpressionLaw n l s → r ≡ s
one_right_side n l r s h k = let q : Some r ≡ Some s = sym (made-is h) ∙ made-is k in cc

numbered : {n : ℕ} {l r : Expression} → ExpressionLaw n l r → (1 ≤ n) × (n + 1 ≤ length LAWS)
numbered law_e1 = (omega arith, omega arith)
numbered _ = (omega arith, omega arith)

-- there is a law of a number exactly from 1 to the last law's
pub law_numbers : LawNumbersLaw
law_numbers n = (
  λ s. (let h = numbered s.2 in (h.0, omega (arith, h.1))),
  λ h. some-law n (rule_at n) (left_at n) (right_at n) h.0 (omega (arith, h.1)) (stands n),
)
