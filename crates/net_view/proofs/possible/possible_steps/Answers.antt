use Rattle.std.proofs.Common.{IfOk, map, sym, ap, ◌∙◌, subst}
use Rattle.net_tree.specs.NetworkView.{tree_of}
use Rattle.net_tree.specs.Place.{a_network}
use Rattle.net_syntax.specs.ChildParts.{seen_place}
use Rattle.net_syntax.specs.Placed.{placed}
use Rattle.net_syntax.specs.Standing.{alone}
use Rattle.net_syntax.specs.StandingWalk.{standing_of}
use Rattle.net_opt.specs.Walk.{Reached}
use Rattle.net_opt.proofs.Walked.{reached_start}
use Rattle.net_view.specs.Possible.{ArePossible, possible_of}
use Rattle.net_view.proofs.Spots.{around_start, ok_whole}
use Rattle.net_view.proofs.possible.possible_steps.Goals as goal

pub steps_below-found-requires-clause-reached : goal.steps_below-found-requires-clause-reached
steps_below-found-requires-clause-reached c =
    subst (Reached c.args.net.now c.new-path.result.items) (sym c.spot_at-whole.ensures.place)
    (reached_start c.args.net.now c.new-path.result.items (tree_of c.net.result.now) c.net.ensures.limits c.new-path.ensures.items c.net.ensures.net)

pub steps_below-found-requires-clause-around : goal.steps_below-found-requires-clause-around
steps_below-found-requires-clause-around c =
    around_start c.args.net.now c.new-path.result.items (seen_place c.spot_at-whole.result.place) (standing_of c.in_ok-at.at) c.spot_at-whole.result.height
    c.spot_at-whole.result.more c.net.ensures.limits c.new-path.ensures.items (c.in_ok-at.ensures ∙ ap alone c.input.ensures)
    (c.spot_at-whole.ensures.place ∙ ap (λ f. placed 0 0 (a_network f)) c.net.ensures.net)

pub returns : goal.returns
returns c =
    subst (λ z. IfOk c.steps_below-found.result (λ steps. ArePossible c.args.net.now z (map possible_of steps.items))) c.path.ensures
    (ok_whole (λ x. map possible_of x.items) c.steps_below-found.result c.args.net.now c.new-path.result.items c.path.result.now (seen_place c.spot_at-whole.result.place)
    c.new-path.ensures.items (c.spot_at-whole.ensures.place ∙ ap (λ f. placed 0 0 (a_network f)) c.net.ensures.net) c.steps_below-found.ensures)
