use Rattle.std.proofs.Common.{◌-◌, arith}
use Rattle.std.proofs.lemmas.Grind.{common_steps}
use Rattle.leaf_core.specs.ExpressionView.{expression_of}
use Rattle.net_tree.specs.NetworkView.{tree, trees}
use Rattle.net_syntax.proofs.ChildNumbers.{binds_all, continuation_at}
use Rattle.net_syntax.proofs.place.bound_in.Goals as goal

pub overflow_sub-result : goal.overflow_sub-result
overflow_sub-result c = let h = continuation_at (trees c.in-PSwitch.fs) (c.args.k - 1) c.in-Continuation.ensures in omega (arith, h, c.if-k-gt0.true)

pub returns-in-Continuation : goal.returns-in-Continuation
returns-in-Continuation c =
    let h = binds_all (trees c.in-PSwitch.fs) (expression_of c.in-PSwitch.field-0) (tree c.in-PSwitch.field-2) (tree c.in-PSwitch.field-3) c.args.k c.if-k-gt0.true c.in-Continuation.ensures in
    grind (arith, common_steps, h)
