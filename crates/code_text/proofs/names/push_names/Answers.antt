use Rattle.code_text.proofs.Joined.{joined_five}
use Rattle.code_text.proofs.names.push_names.Goals as goal

pub returns : goal.returns
returns c =
    joined_five _ _ _ _ _ _ _ _ _ _ _ _
    (rw (c.as_slice.ensures.value, c.as_slice-2.ensures.value) at c.in_ok-push_all_letters.ensures)
    c.in_ok-push_type_name.ensures
    c.in_ok-push_type_name-2.ensures
    c.in_ok-push_state.ensures
    c.push_bounded.ensures
