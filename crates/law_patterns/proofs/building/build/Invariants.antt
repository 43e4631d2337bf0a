use Rattle.std.proofs.Common.{◌≡◌, ◌≤◌, drop, length, Some}
use Rattle.law_patterns.specs.Pattern.{written}
use Rattle.law_patterns.specs.Matching.{completed, found_of}
use Rattle.law_patterns.proofs.building.build.Given as goal

abbrev pub invariant-loop-left : goal.invariant-loop-left
invariant-loop-left l =
    (l.left ≤ length l.pattern)
    × (written (completed (found_of l.letters)) (drop l.left l.pattern) ≡ Some l.stack)

abbrev pub decreases-loop-left : goal.decreases-loop-left
decreases-loop-left l = l.left
