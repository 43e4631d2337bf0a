-- A left side determines its right side, and the laws are numbered as the table's.
use Rattle.std.proofs.Common.{◌≡◌, ℕ, ◌+◌, ◌≤◌, length, Some, sym, ◌∙◌, arith}
use Rattle.leaf_core.specs.Expression.{Expression}
use Rattle.net_tree.specs.Network.{Network}
use Rattle.law_rules.specs.NetworkLaw.{NetworkLaw, law_l1}
use Rattle.law_rules.specs.Laws.{NetworkLawNumbersLaw}
use Rattle.law_rules.specs.Table.{rule_at, left_at, right_at}
use Rattle.law_rules.specs.declared.table.TheConstants.{LAWS}
use Rattle.law_rules.proofs.TableLaws.{made-is, stands, some-law}

-- a left side determines its right side
pub one-right_side : (n olds : ℕ) (l r s : Network Expression) → NetworkLaw n olds l r → NetworkLaw n olds l s → r ≡ s
one-right_side n olds l r s h k = let q : Some r ≡ Some s = sym (made-is h) ∙ made-is k in cc

numbered : {n olds : ℕ} {l r : Network Expression} → NetworkLaw n olds l r → (1 ≤ n) × (n + 1 ≤ length LAWS)
numbered law_l1 = (omega arith, omega arith)
numbered _ = (omega arith, omega arith)

-- there is a law of a number exactly from 1 to the last law's
pub law-numbers : NetworkLawNumbersLaw
law-numbers n olds = (
  λ s. (let h = numbered s.2 in (h.0, omega (arith, h.1))),
  λ h. some-law n olds (rule_at n) (left_at n) (right_at n) h.0 (omega (arith, h.1)) (stands n),
)
