use Rattle.std.proofs.Common.{arith}
use Rattle.leaf_code.specs.CodeView.{steps_in}
use Rattle.leaf_code.specs.Fitting.{ListsWithin}
use Rattle.code_fits.specs.Tables.{bound_of}
use Rattle.code_fits.proofs.Folds.{steps-next, ended, placed}
use Rattle.code_fits.proofs.around.steps_within.Goals as goal

pub loop-step-preserved : goal.loop-step-preserved
loop-step-preserved c =
    steps-next c.args.types.now c.args.bounds.now c.args.steps.now c.loop-step.step-index c.step-item.result
    (placed c.args.steps.now c.loop-step.step-index c.step-item.result c.loop-step-test.true c.step-item.is) (rw c.as_slice.ensures.value at c.in_ok-step_within.ensures) c.loop-step.invariant

pub returns : goal.returns
returns c =
    ended (λ zs. ListsWithin (bound_of c.args.types.now c.args.bounds.now) (steps_in zs)) c.args.steps.now c.loop-step.step-index (omega arith) tt c.loop-step.invariant
