-- A network whose leaves are changed denotes, visits and weighs what it does with the leaves' values changed.
use Rattle.std.proofs.Common.{◌≡◌, List, [], ◌∷◌, ◌++◌, refl, length, take, drop, map}
use Rattle.sample_core.specs.Datum.{Datum, unit, left, right}
use Rattle.net_meaning.specs.SignalFunction.{with_values, each_value, pair_samples, feedback_values, first_event, pieces, resume, step_of, collect, freeze_all, seq_function, first_function, par_function, loop_pre_function, switch_function, r_switch_function, k_switch_function, p_switch_function, initial_out_function, initial_in_function, rp_switch_function, with_first, by_members, first_members}
use Rattle.net_tree.specs.Network.{Network, Networks, arr, seq, first, par, loop_pre, initial_out, initial_in, i_pre, delay, hold, accum_by, after, repeatedly, time, integral, switch, r_switch, rp_switch, k_switch, p_switch, old, no_members, and_member, map_network, map_networks}
use Rattle.net_meaning.specs.Meaning.{Context, with_param, with_olds, meaning, meanings}
use Rattle.state_core.specs.Visits.{VisitCounts, visits, visits_all, add_counts, and_one, sum_of_all, sum_by_route, switch_counts, resume_counts, freeze_counts, first_and_one, restart_counts, member_counts}

module _ {L M : Type 0} (h : M → L) (val : L → List Datum → Datum → Datum) where
  mutual
    pub meaning-map : (net : Network M) (E : Context) → meaning val (map_network h net) E ≡ meaning (λ k. val (h k)) net E
    meaning-map (seq f g) E = λ i. seq_function (meaning-map f E i) (meaning-map g E i)
    meaning-map (first f) E = λ i. first_function (meaning-map f E i)
    meaning-map (par fs) E = λ i. par_function (meanings-map fs E i)
    meaning-map (loop_pre c f) E = λ i. loop_pre_function (val (h c) E.params unit) (meaning-map f E i)
    meaning-map (switch tm f t) E = λ i. switch_function tm (meaning-map f E i) (λ c. meaning-map t (with_param E c) i)
    meaning-map (r_switch tm f t) E = λ i. r_switch_function tm (meaning-map f E i) (λ c. meaning-map t (with_param E c) i)
    meaning-map (k_switch f e t) E = λ i. k_switch_function (meaning-map f E i) (meaning-map e E i)
        (λ c o. meaning-map t (with_olds (with_param E c) (o ∷ [])) i)
    meaning-map (p_switch r fs e t) E = λ i. p_switch_function (val (h r) E.params) (meanings-map fs E i) (meaning-map e E i)
        (λ c os. meaning-map t (with_olds (with_param E c) os) i)
    meaning-map (initial_out c f) E = λ i. initial_out_function (val (h c) E.params unit) (meaning-map f E i)
    meaning-map (initial_in c f) E = λ i. initial_in_function (val (h c) E.params unit) (meaning-map f E i)
    meaning-map (rp_switch fs m t) E = λ i. rp_switch_function (val (h m) E.params) (meanings-map fs E i) (λ v. meaning-map t (with_param E v) i)
    meaning-map (arr e) E = refl
    meaning-map (i_pre c) E = refl
    meaning-map (delay q c) E = refl
    meaning-map (hold c) E = refl
    meaning-map (accum_by g z) E = refl
    meaning-map (after q c) E = refl
    meaning-map (repeatedly q c) E = refl
    meaning-map time E = refl
    meaning-map integral E = refl
    meaning-map (old k) E = refl

    pub meanings-map : (fs : Networks M) (E : Context) → meanings val (map_networks h fs) E ≡ meanings (λ k. val (h k)) fs E
    meanings-map no_members E = refl
    meanings-map (and_member f fs) E = λ i. meaning-map f E i ∷ meanings-map fs E i

  mutual
    pub visits-map : (net : Network M) (E : Context) (C : List VisitCounts) → visits val (map_network h net) E C ≡ visits (λ k. val (h k)) net E C
    visits-map (seq f g) E C = λ i xs. and_one (add_counts (visits-map f E C i xs) (visits-map g E C i (with_values xs (meaning-map f E i xs))))
    visits-map (first f) E C = λ i xs. and_one (visits-map f E C i (each_value left xs))
    visits-map (par fs) E C = λ i xs. and_one (sum_of_all (visits_all-map fs E C i) xs)
    visits-map (loop_pre c f) E C = λ i xs. and_one (visits-map f E C i (pair_samples xs
        (feedback_values (val (h c) E.params unit) (meaning-map f E i) xs (length xs))))
    visits-map (switch tm f t) E C = λ i xs. switch_counts (first_event (map right (meaning-map f E i xs))) (and_one (visits-map f E C i xs))
        (λ n c. visits-map t (with_param E c) C i (drop n xs))
    visits-map (r_switch tm f t) E C = λ i xs. and_one (restart_counts tm (visits-map f E C i) (λ c. visits-map t (with_param E c) C i) xs)
    visits-map (k_switch f e t) E C = λ i xs.
        switch_counts (first_event (meaning-map e E i (pair_samples xs (meaning-map f E i xs))))
        (and_one (add_counts (visits-map f E C i xs) (visits-map e E C i (pair_samples xs (meaning-map f E i xs)))))
        (λ n c. visits-map t (with_olds (with_param E c) (resume (meaning-map f E i) (take n xs) (step_of (drop n xs)) ∷ []))
        (C ++ resume_counts (visits-map f E C i) (take n xs) (step_of (drop n xs)) ∷ []) i (drop n xs))
    visits-map (p_switch r fs e t) E C = λ i xs.
        switch_counts (first_event (meaning-map e E i (pair_samples xs (collect (val (h r) E.params) (meanings-map fs E i) xs))))
        (and_one (add_counts (sum_by_route (val (h r) E.params) 0 (visits_all-map fs E C i) xs)
        (visits-map e E C i (pair_samples xs (collect (val (h r) E.params) (meanings-map fs E i) xs)))))
        (λ n c. visits-map t (with_olds (with_param E c) (freeze_all (val (h r) E.params) 0 (meanings-map fs E i) (take n xs) (step_of (drop n xs))))
        (C ++ freeze_counts (val (h r) E.params) 0 (visits_all-map fs E C i) (take n xs) (step_of (drop n xs))) i (drop n xs))
    visits-map (initial_out c f) E C = λ i xs. first_and_one (visits-map f E C i xs)
    visits-map (initial_in c f) E C = λ i xs. first_and_one (visits-map f E C i (with_first (val (h c) E.params unit) xs))
    visits-map (rp_switch fs m t) E C = λ i xs.
        and_one (by_members member_counts (val (h m) E.params) (λ v. visits-map t (with_param E v) C i) (first_members (visits_all-map fs E C i))
        (pieces xs).0 (pieces xs).1)
    visits-map (arr e) E C = refl
    visits-map (i_pre c) E C = refl
    visits-map (delay q c) E C = refl
    visits-map (hold c) E C = refl
    visits-map (accum_by g z) E C = refl
    visits-map (after q c) E C = refl
    visits-map (repeatedly q c) E C = refl
    visits-map time E C = refl
    visits-map integral E C = refl
    visits-map (old k) E C = refl

    pub visits_all-map : (fs : Networks M) (E : Context) (C : List VisitCounts) → visits_all val (map_networks h fs) E C ≡ visits_all (λ k. val (h k)) fs E C
    visits_all-map no_members E C = refl
    visits_all-map (and_member f fs) E C = λ i. visits-map f E C i ∷ visits_all-map fs E C i
