use Rattle.code_text.proofs.Joined.{joined_four}
use Rattle.code_text.proofs.file.push_filtered.Goals as goal

pub returns : goal.returns
returns c =
    joined_four _ _ _ _ _ _ _ _ _ _
    c.in_ok-push.ensures
    c.in_ok-push_definitions.ensures
    c.in_ok-push_within.ensures
    (rw c.as_slice.ensures.value at c.push_filter.ensures)
