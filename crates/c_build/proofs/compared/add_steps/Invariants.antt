use Rattle.std.proofs.Common.{◌≡◌, drop, map}
use Rattle.sample_core.specs.TypeView.{type_of}
use Rattle.leaf_code.specs.CodeOf.{type_at}
use Rattle.leaf_code.specs.CodeView.{steps_in}
use Rattle.c_file.specs.Compared.{with_steps}
use Rattle.c_build.proofs.compared.add_steps.Given as goal

-- the types so far, with those of the steps to come, are all
abbrev pub invariant-loop-step : goal.invariant-loop-step
invariant-loop-step l =
    with_steps (type_at (type_of l.input) (steps_in l.steps)) (steps_in (drop l.step-index l.steps))
    (map type_of l.all.items)
    ≡ with_steps (type_at (type_of l.input) (steps_in l.steps)) (steps_in l.steps)
    (map type_of l.initial.all.items)
