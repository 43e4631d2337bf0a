use Rattle.code_text.proofs.Joined.{joined_two}
use Rattle.code_text.proofs.file.push_parts.Goals as goal

pub returns : goal.returns
returns c =
    joined_two _ _ _ _ _ _
    c.in_ok-push_declarations.ensures
    c.push_printed.ensures
