use Rattle.std.proofs.Common.{sym, ap, ◌∙◌, subst}
use Rattle.net_tree.specs.Place.{a_network}
use Rattle.net_syntax.specs.Placed.{placed_at, FewBound}
use Rattle.cert_check.proofs.FewBound.{few_bound}
use Rattle.cert_check.proofs.step.place_in.Goals as goal

pub at-requires : goal.at-requires
at-requires c = subst (λ f. FewBound 0 0 (a_network f) c.args.position.now) (sym c.net.ensures.net)
    (few_bound c.args.net.now c.args.position.now c.net.ensures.limits)

pub returns : goal.returns
returns c = c.at.ensures ∙ ap (λ f. placed_at 0 0 (a_network f) c.args.position.now) c.net.ensures.net
