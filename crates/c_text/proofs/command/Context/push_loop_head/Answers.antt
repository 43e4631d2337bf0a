use Rattle.c_text.proofs.Joined.{joined_five}
use Rattle.c_text.proofs.command.Context.push_loop_head.Goals as goal

pub returns : goal.returns
returns c =
    joined_five _ _ _ _ _ _ _ _ _ _ _ c.in_ok-push_str.ensures.bytes c.in_ok-push_str-2.ensures.bytes c.in_ok-push_next.ensures
    c.in_ok-push_str-3.ensures.bytes c.in_ok-push_bound.ensures
