use Rattle.step_core.proofs.ListedMembers.{first_end}
use Rattle.step_core.proofs.choice.first_members.Goals as goal

pub returns : goal.returns
returns g c = first_end _ _ _ _ _ c.loop-net.invariant c.min.ensures c.loop-net-test.false
