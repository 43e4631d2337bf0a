use Rattle.code_text.proofs.Joined.{joined_three}
use Rattle.code_text.proofs.file.push_within.Goals as goal

pub returns : goal.returns
returns c =
    joined_three _ _ _ _ _ _ _ _
    c.in_ok-push.ensures
    (rw c.within_name-name.ensures at c.in_ok-push_name.ensures)
    c.push-2.ensures
