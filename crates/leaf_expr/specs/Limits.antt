-- How much a text may have of what is counted.
use Rattle.std.specs.Prelude.{◌≡◌}
use Rattle.leaf_expr.specs.declared.type_reader.TheConstants.{MOST_OPEN}
use Rattle.leaf_expr.specs.declared.expr_reader.TheConstants.{MOST_LENGTH}
use Rattle.leaf_expr.specs.declared.number_reader.TheConstants.{MOST_INDEX}

-- parentheses that are open at once; bytes; the greatest number of a parameter
abbrev pub TextLimitsAre : Type 0
TextLimitsAre = (MOST_OPEN ≡ 600) × (MOST_LENGTH ≡ 1048576) × (MOST_INDEX ≡ 65535)
