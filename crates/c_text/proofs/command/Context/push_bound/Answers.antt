use Rattle.c_text.proofs.Joined.{joined_four}
use Rattle.c_text.proofs.command.Context.push_bound.Goals as goal

pub returns : goal.returns
returns c =
    joined_four _ _ _ _ _ _ _ _ _ c.in_ok-push_next.ensures c.in_ok-push_str.ensures.bytes c.in_ok-write.ensures.bytes
    c.in_ok-push_str-2.ensures.bytes
