use Rattle.code_text.proofs.Joined.{joined_two}
use Rattle.code_text.proofs.file.push_declarations.Goals as goal

pub returns : goal.returns
returns c =
    joined_two _ _ _ _ _ _
    (rw (c.as_str.ensures.value, c.in_ok-about.ensures) at c.in_ok-pushed.ensures.bytes)
    (rw (c.fingerprint-sum.ensures, c.as_bytes.ensures.value, c.in_ok-about.ensures) at c.push_declared.ensures)
