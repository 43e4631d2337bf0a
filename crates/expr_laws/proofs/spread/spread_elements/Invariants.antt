use Rattle.std.proofs.Common.{◌≡◌, map, take}
use Rattle.leaf_core.specs.Expression.{then_expr}
use Rattle.leaf_core.specs.ExpressionView.{expression_of}
use Rattle.expr_laws.proofs.spread.spread_elements.Given as goal

abbrev pub invariant-loop-element : goal.invariant-loop-element
invariant-loop-element l = map expression_of l.behind.items ≡ map (then_expr l.f) (map expression_of (take l.element-index l.all))
