use Rattle.code_text.proofs.Joined.{joined_five}
use Rattle.code_text.proofs.fixed.push_prototypes.Goals as goal

pub returns : goal.returns
returns c =
    joined_five _ _ _ _ _ _ _ _ _ _ _ _
    c.in_ok-push_str.ensures.bytes
    c.in_ok-push_init_head.ensures
    c.in_ok-push_str-2.ensures.bytes
    c.in_ok-push_step_head.ensures
    c.push.ensures
