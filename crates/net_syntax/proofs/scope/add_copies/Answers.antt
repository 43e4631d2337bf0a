use Rattle.std.proofs.Common.{◌+◌, add-one, ap}
use Rattle.net_syntax.specs.ArrowView.{arrow_of}
use Rattle.net_syntax.proofs.Copies.{copied_once}
use Rattle.net_syntax.proofs.scope.add_copies.Goals as goal

pub loop-preserved : goal.loop-preserved
loop-preserved c =
    copied_once _ _ _ _ _ (c.loop.counter + 1) _ c.loop.invariant (ap arrow_of c.in_ok-copy.ensures) c.in_ok-push.ensures.items
    (add-one c.loop.counter)
