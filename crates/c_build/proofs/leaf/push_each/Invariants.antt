use Rattle.std.proofs.Common.{◌≡◌, drop, map}
use Rattle.leaf_code.specs.CodeView.{steps_in}
use Rattle.c_build.specs.Scopes.{made}
use Rattle.c_build.specs.Making.{and_commands}
use Rattle.c_build.specs.LeafLines.{IsTyped, step_at}
use Rattle.c_build.proofs.leaf.push_each.Given as goal

-- what stands there, with the steps to come, is the whole
abbrev pub invariant-loop-step : goal.invariant-loop-step
invariant-loop-step l =
    IsTyped l.lines.frame
    → and_commands (map (step_at l.lines) (steps_in (drop l.step-index l.lines.steps.now)))
    (made l.lines.frame.scope l.out.items)
    ≡ and_commands (map (step_at l.lines) (steps_in l.lines.steps.now))
    (made l.lines.frame.scope l.initial.out.items)
