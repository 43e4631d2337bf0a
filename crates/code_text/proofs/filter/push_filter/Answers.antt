use Rattle.code_text.proofs.Joined.{joined_five}
use Rattle.code_text.proofs.filter.push_filter.Goals as goal

pub returns : goal.returns
returns c =
    joined_five _ _ _ _ _ _ _ _ _ _ _ _
    c.in_ok-push_named.ensures
    c.in_ok-push_readers.ensures
    c.in_ok-push_writers.ensures
    c.in_ok-push_sample.ensures
    c.push_named-2.ensures
