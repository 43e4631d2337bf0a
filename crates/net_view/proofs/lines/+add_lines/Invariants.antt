use Rattle.std.proofs.Common.{◌≡◌, ◌-◌, map}
use Rattle.net_tree.specs.LawStep.{seen}
use Rattle.net_syntax.specs.ChildParts.{seen_place}
use Rattle.net_syntax.specs.StandingWalk.{standing_of}
use Rattle.net_opt.proofs.Walked.{rank}
use Rattle.net_view.specs.Outline.{line_of}
use Rattle.net_view.specs.Walked.{AddsLines}
use Rattle.net_view.proofs.Paths.{IsUpTo}
use Rattle.net_view.proofs.lines.+add_lines.Given as goal

abbrev pub decreases-add_lines : goal.decreases-add_lines
decreases-add_lines l = rank (seen l.place.tree)

-- the lines of the place and of what is inside it at the numbers so far were added
abbrev pub invariant-loop-inner : goal.invariant-loop-inner
invariant-loop-inner l = record {
  path : l.path.items ≡ l.fn.path.items;
  added : AddsLines l.fn.path.items (standing_of l.at) (seen_place l.place) (IsUpTo (seen_place l.place) l.k) (map line_of l.fn.lines.items) (map line_of l.lines.items);
}

abbrev pub decreases-loop-inner : goal.decreases-loop-inner
decreases-loop-inner l = 5000003 - l.k
