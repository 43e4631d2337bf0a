-- The laws by number, as the code's table has them.
use Rattle.std.specs.Prelude.{ℕ, List}
use Rattle.law_patterns.specs.Table.{rule_in, left_in, right_in}
use Rattle.law_patterns.specs.declared.sym.Sym.{Sym}
use Rattle.expr_laws.specs.declared.table.Rule.{Rule}
use Rattle.expr_laws.specs.declared.table.Rule.TheVariants as R
use Rattle.expr_laws.specs.declared.table.TheConstants.{LAWS}

-- what a law is
abbrev pub rule_at : ℕ → Rule
rule_at = rule_in LAWS R.Nothing

-- its left side
abbrev pub left_at : ℕ → List Sym
left_at = left_in LAWS

-- its right side
abbrev pub right_at : ℕ → List Sym
right_at = right_in LAWS
