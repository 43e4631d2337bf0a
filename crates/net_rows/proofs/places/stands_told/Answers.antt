use Rattle.std.proofs.Common.{sym, subst}
use Rattle.net_tree.specs.Place.{a_network}
use Rattle.net_syntax.specs.Placed.{FewBound}
use Rattle.cert_check.proofs.FewBound.{few_bound}
use Rattle.net_rows.proofs.places.stands_told.Goals as goal

pub at-requires : goal.at-requires
at-requires c = subst (λ f. FewBound 0 0 (a_network f) c.args.position.now) (sym c.net.ensures.net)
    (few_bound c.args.net.now c.args.position.now c.net.ensures.limits)
