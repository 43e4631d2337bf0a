use Rattle.c_build.proofs.same.push_same_body.Goals as goal

pub returns-in_ok-push_pairs_same-in-Pair : goal.returns-in_ok-push_pairs_same-in-Pair
returns-in_ok-push_pairs_same-in-Pair c =
    λ n h. rw c.in-Pair.is (c.in_ok-push_pairs_same-in-Pair.ensures n)

pub returns-in_ok-push_events_same-in-Event : goal.returns-in_ok-push_events_same-in-Event
returns-in_ok-push_events_same-in-Event c =
    λ n h. rw c.in-Event.is (c.in_ok-push_events_same-in-Event.ensures n)

pub returns-in_ok-push_lists_same-in-List : goal.returns-in_ok-push_lists_same-in-List
returns-in_ok-push_lists_same-in-List c =
    λ n h. rw c.in-List.is (c.in_ok-push_lists_same-in-List.ensures n (rw c.in-List.is at h))
