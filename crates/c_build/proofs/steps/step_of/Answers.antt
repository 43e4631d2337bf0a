use Rattle.std.proofs.lemmas.Result.{IfOk-weaker}
use Rattle.c_build.proofs.steps.step_of.Goals as goal

pub returns-in-Arr : goal.returns-in-Arr
returns-in-Arr c =
    IfOk-weaker c.arr_step.result _ _ (λ r p. λ cs h. rw c.in-Arr.is (p cs c.in-Arr.field-0 h)) c.arr_step.ensures

pub returns-in-Seq : goal.returns-in-Seq
returns-in-Seq c =
    IfOk-weaker c.seq_step.result _ _ (λ r p. λ cs h. rw c.in-Seq.is (p cs c.args.first h)) c.seq_step.ensures

pub returns-in-First : goal.returns-in-First
returns-in-First c =
    IfOk-weaker c.first_step.result _ _ (λ r p. λ cs h. rw c.in-First.is (p cs c.args.first h)) c.first_step.ensures

pub returns-in-Loop : goal.returns-in-Loop
returns-in-Loop c =
    IfOk-weaker c.loop_step.result _ _ (λ r p. λ cs h. rw c.in-Loop.is (p cs c.in-Loop.field-0 h)) c.loop_step.ensures

pub returns-in-Cell : goal.returns-in-Cell
returns-in-Cell c =
    IfOk-weaker c.cell_step.result _ _ (λ r p. λ cs h. rw c.in-Cell.is (p cs c.in-Cell.field-1 h)) c.cell_step.ensures

pub returns-in-Clock : goal.returns-in-Clock
returns-in-Clock c =
    IfOk-weaker c.clock_step.result _ _ (λ r p. λ cs h. rw c.in-Clock.is (p cs c.args.first h)) c.clock_step.ensures

pub returns-in-Accum : goal.returns-in-Accum
returns-in-Accum c =
    IfOk-weaker c.accum_step.result _ _ (λ r p. λ cs h. rw c.in-Accum.is (p cs c.in-Accum.field-0 c.in-Accum.field-1 h)) c.accum_step.ensures

pub returns-in-Switch : goal.returns-in-Switch
returns-in-Switch c =
    IfOk-weaker c.switch_step.result _ _ (λ r p. λ cs h. rw c.in-Switch.is (p cs h)) c.switch_step.ensures

pub returns-in-DSwitch : goal.returns-in-DSwitch
returns-in-DSwitch c =
    IfOk-weaker c.switch_step-in-DSwitch.result _ _ (λ r p. λ cs h. rw c.in-DSwitch.is (p cs h)) c.switch_step-in-DSwitch.ensures

pub returns-in-RSwitch : goal.returns-in-RSwitch
returns-in-RSwitch c =
    IfOk-weaker c.r_switch_step.result _ _ (λ r p. λ cs h. rw c.in-RSwitch.is (p cs h)) c.r_switch_step.ensures

pub returns-in-DrSwitch : goal.returns-in-DrSwitch
returns-in-DrSwitch c =
    IfOk-weaker c.r_switch_step-in-DrSwitch.result _ _ (λ r p. λ cs h. rw c.in-DrSwitch.is (p cs h)) c.r_switch_step-in-DrSwitch.ensures

pub returns-in-KSwitch : goal.returns-in-KSwitch
returns-in-KSwitch c =
    IfOk-weaker c.k_switch_step.result _ _ (λ r p. λ cs h. rw c.in-KSwitch.is (p cs c.args.first h)) c.k_switch_step.ensures

pub returns-in-Old : goal.returns-in-Old
returns-in-Old c =
    IfOk-weaker c.old_step.result _ _ (λ r p. λ cs h. rw c.in-Old.is (p cs c.args.first h)) c.old_step.ensures

pub returns-in-Same : goal.returns-in-Same
returns-in-Same c =
    IfOk-weaker c.same_step.result _ _ (λ r p. λ cs h. rw c.in-Same.is (p cs c.args.first h)) c.same_step.ensures

pub returns-in-InitialOut : goal.returns-in-InitialOut
returns-in-InitialOut c =
    IfOk-weaker c.out_step.result _ _ (λ r p. λ cs h. rw c.in-InitialOut.is (p cs c.in-InitialOut.field-0 h)) c.out_step.ensures

pub returns-in-InitialIn : goal.returns-in-InitialIn
returns-in-InitialIn c =
    IfOk-weaker c.in_step.result _ _ (λ r p. λ cs h. rw c.in-InitialIn.is (p cs c.in-InitialIn.field-0 h)) c.in_step.ensures
