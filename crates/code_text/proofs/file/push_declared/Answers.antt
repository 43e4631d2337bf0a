use Rattle.code_text.proofs.Joined.{joined_five}
use Rattle.code_text.proofs.file.push_declared.Goals as goal

pub returns : goal.returns
returns c =
    joined_five _ _ _ _ _ _ _ _ _ _ _ _
    c.in_ok-push_posix.ensures
    c.in_ok-push_opening.ensures
    (rw c.as_slice.ensures.value at c.in_ok-push_structs.ensures)
    c.in_ok-push_names.ensures
    c.push_prototypes.ensures
