use Rattle.net_syntax.proofs.HoldsTypes.{holds_types}
use Rattle.net_syntax.proofs.typed_net.TypedNet.net.Goals as goal

pub returns-clause-typed : goal.returns-clause-typed
returns-clause-typed c = holds_types c.args.self.now (rw (← c.self.view_is) c.self.invariant)
