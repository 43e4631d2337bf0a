use Rattle.c_build.proofs.within.push_within_body.Goals as goal

pub returns-in_ok-push_pair_within-in-Pair : goal.returns-in_ok-push_pair_within-in-Pair
returns-in_ok-push_pair_within-in-Pair c =
    λ n h. rw c.in-Pair.is (c.in_ok-push_pair_within-in-Pair.ensures n)

pub returns-in_ok-push_event_within-in-Event : goal.returns-in_ok-push_event_within-in-Event
returns-in_ok-push_event_within-in-Event c =
    λ n h. rw c.in-Event.is (c.in_ok-push_event_within-in-Event.ensures n)

pub returns-in_ok-push_list_within-in-List : goal.returns-in_ok-push_list_within-in-List
returns-in_ok-push_list_within-in-List c =
    λ n h. rw c.in-List.is (c.in_ok-push_list_within-in-List.ensures n (rw c.in-List.is at h))
