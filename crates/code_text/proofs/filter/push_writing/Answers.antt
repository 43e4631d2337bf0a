use Rattle.code_text.proofs.filter.push_writing.Goals as goal

pub returns-in_ok-push_writing_pair-in-Pair : goal.returns-in_ok-push_writing_pair-in-Pair
returns-in_ok-push_writing_pair-in-Pair c =
    rw c.in-Pair.is (rw (c.get-a.ensures, c.get-b.ensures) at c.in_ok-push_writing_pair-in-Pair.ensures)
