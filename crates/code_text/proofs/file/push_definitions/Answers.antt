use Rattle.code_text.proofs.Joined.{joined_three}
use Rattle.code_text.proofs.file.push_definitions.Goals as goal

pub returns : goal.returns
returns c =
    joined_three _ _ _ _ _ _ _ _
    c.in_ok-push.ensures
    c.in_ok-push_macros.ensures
    c.push_functions.ensures
