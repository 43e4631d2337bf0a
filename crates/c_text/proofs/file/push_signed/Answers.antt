use Rattle.c_text.proofs.Joined.{joined_three}
use Rattle.c_text.proofs.file.push_signed.Goals as goal

pub returns : goal.returns
returns c =
    joined_three _ _ _ _ _ _ _ c.in_ok-push_str.ensures.bytes c.in_ok-push_name.ensures
    c.in_ok-push_str-2.ensures.bytes
