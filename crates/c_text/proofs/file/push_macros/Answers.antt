use Rattle.c_text.proofs.Joined.{joined_six}
use Rattle.c_text.proofs.file.push_macros.Goals as goal

pub returns : goal.returns
returns c =
    joined_six _ _ _ _ _ _ _ _ _ _ _ _ _ c.in_ok-push_signed.ensures c.in_ok-push_str.ensures.bytes
    c.in_ok-push_macro.ensures c.in_ok-push_macro-2.ensures c.in_ok-push_macro-3.ensures c.in_ok-push_macro-4.ensures
