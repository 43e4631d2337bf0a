use Rattle.std.proofs.Common.{subst}
use Rattle.state_core.specs.StateView.{IsFrozenAt}
use Rattle.state_core.proofs.FrozenLists.{frozen_lent}
use Rattle.state_core.proofs.env.Olds.get.Goals as goal

pub returns : goal.returns
returns c = subst (λ o. IsFrozenAt o c.args.k c.get.result) c.as_slice.ensures (frozen_lent c.as_slice.result.now c.args.k c.get.result c.get.ensures.lookup)
