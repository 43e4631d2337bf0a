use Rattle.std.proofs.Common.{◌≡◌, [], None, option_map, sym, ap, ◌∙◌}
use Rattle.sample_core.specs.TypeView.{type_of}
use Rattle.net_tree.specs.LawStep.{seen}
use Rattle.net_syntax.specs.ChildParts.{seen_place}
use Rattle.net_syntax.specs.StandingWalk.{standing_of, type_walk_at}
use Rattle.net_view.proofs.Outlines.{typed_here}
use Rattle.net_view.proofs.lines.line_here.Goals as goal

pub unreachable-requires : goal.unreachable-requires
unreachable-requires c =
    let none : type_walk_at (standing_of c.args.at.now) (seen c.args.place.tree) [] ≡ None = sym c.in_ok-output.ensures ∙ ap (option_map type_of) c.in_default.is in
    typed_here c.args.path.now (standing_of c.args.at.now) (seen_place c.args.place) c.requires none
