use Rattle.std.proofs.Common.{arith}
use Rattle.std.proofs.lemmas.Grind.{common_steps}
use Rattle.leaf_core.specs.ExpressionView.{expression_of}
use Rattle.net_syntax.proofs.replacing.put_net.Goals as goal

pub returns-in-PSwitch-default : goal.returns-in-PSwitch-default
returns-in-PSwitch-default c = grind (arith, common_steps, c.put_behind.ensures (expression_of c.in-PSwitch-default.field-0-0))

pub returns-in-RpSwitch-default : goal.returns-in-RpSwitch-default
returns-in-RpSwitch-default c = grind (arith, common_steps, c.put_in_collection.ensures (expression_of c.in-RpSwitch-default.field-1-0))
