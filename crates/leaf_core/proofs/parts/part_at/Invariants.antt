use Rattle.std.proofs.Common.{◌≡◌, drop}
use Rattle.leaf_core.specs.ExpressionView.{expression_of}
use Rattle.leaf_core.specs.Parts.{part_at}
use Rattle.leaf_core.proofs.parts.part_at.Given as goal

-- what is found on the way to come is what is found on the whole
abbrev pub invariant-loop-k : goal.invariant-loop-k
invariant-loop-k l =
    part_at (expression_of l.found) (drop l.k-index l.path) ≡ part_at (expression_of l.expr) l.path
