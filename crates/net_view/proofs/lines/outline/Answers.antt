use Rattle.std.proofs.Common.{map, ap, ◌∙◌}
use Rattle.net_tree.specs.NetworkView.{tree_of}
use Rattle.net_tree.specs.Place.{a_network}
use Rattle.net_syntax.specs.Placed.{placed}
use Rattle.net_syntax.specs.Standing.{alone}
use Rattle.net_syntax.specs.StandingWalk.{standing_of}
use Rattle.net_view.specs.Outline.{line_of}
use Rattle.net_view.proofs.Outlines.{walked_root, outlined}
use Rattle.net_view.proofs.lines.outline.Goals as goal

pub add_lines-added-requires : goal.add_lines-added-requires
add_lines-added-requires c =
    walked_root c.args.net.now c.new-path.result.items (standing_of c.in_ok-at.at) (placed 0 0 (a_network (tree_of c.net.result.now))) c.net.ensures.limits
    c.new-path.ensures.items (c.in_ok-at.ensures ∙ ap alone c.input.ensures) (ap (λ f. placed 0 0 (a_network f)) c.net.ensures.net)

pub returns : goal.returns
returns c =
    outlined c.args.net.now c.new-path.result.items (standing_of c.in_ok-at.at) (placed 0 0 (a_network (tree_of c.net.result.now)))
    (map line_of c.new-lines.result.items) (map line_of c.add_lines-added.new.lines.items) c.net.ensures.limits c.new-path.ensures.items
    (c.in_ok-at.ensures ∙ ap alone c.input.ensures) (ap (λ f. placed 0 0 (a_network f)) c.net.ensures.net) (ap (map line_of) c.new-lines.ensures.items)
    c.in_ok-added.ensures.added
