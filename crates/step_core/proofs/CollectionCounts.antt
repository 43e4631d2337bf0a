-- `rpSwitchB` takes a sample in as its members do, and at an event as those that it chooses.
use Rattle.std.proofs.Common.{◌≡◌, ℕ, suc, ◌+◌, ◌<◌, List, [], ◌∷◌, ◌++◌, map, length, drop, refl, sym, ap, ap₂, ◌∙◌, arith, None, append_assoc, append-nil, length-append, length-drop, subst}
use Rattle.std.proofs.lemmas.List.{map_push, length-map}
use Rattle.sample_core.specs.Datum.{Datum, unit, event, no_event, left, pair, list, list_of}
use Rattle.net_meaning.specs.SignalFunction.{TimedList, Member, last_or, gather, heads, tails, answer, each_value, pieces, chosen, moved, by_members, member_outputs}
use Rattle.state_core.specs.Visits.{and_one, member_counts}
use Rattle.state_core.specs.CountedFunction.{CountedFunction, IsCountedFunction, Continues, StandsVia, TakesSample, visits_at}
use Rattle.state_core.specs.CountedForms.{counted_members, member_functions, member_visits}
use Rattle.state_core.specs.StandsByForm.{Uncut, RpSwitchStands}
use Rattle.step_core.specs.Stepping.{restart_in}
use Rattle.net_meaning.proofs.Zips.{length-zip_with, length-gather}
use Rattle.net_meaning.proofs.PlainSteps.{AllLong, no_rows, and_row}
use Rattle.net_meaning.proofs.RelatedMembers.{rows_of}
use Rattle.net_meaning.proofs.MappedMembers.{by_members-map}
use Rattle.net_meaning.proofs.MemberPieces.{members_from, members_from-cut, members_from-nil}
use Rattle.step_core.proofs.VisitSteps.{last-behind, last-later, last-added, last-and_one}
use Rattle.step_core.proofs.CountedFunctions.{Via-here, Via-continues}
use Rattle.step_core.proofs.RestartCounts.{Uncut-nil, Uncut-push}
use Rattle.step_core.proofs.MemberCounts.{tally-zeros}

-- members whose functions are counted
pub data AllMembers : List (Member CountedFunction) → Type 0 where
  no_member : AllMembers []
  and_member : {m : Member CountedFunction} {ms : List (Member CountedFunction)} → IsCountedFunction m.0 → AllMembers ms → AllMembers (m ∷ ms)

-- what the members answer and visit, each behind the samples that it has got
abbrev pub answers_of : List (Member CountedFunction) → ℕ × Datum → List Datum
answers_of [] x = []
answers_of (m ∷ ms) x = answer m.0.function m.1 x ∷ answers_of ms x

abbrev pub tallies_of : List (Member CountedFunction) → ℕ × Datum → ℕ
tallies_of [] x = 0
tallies_of (m ∷ ms) x = visits_at m.0.visits m.1 x + tallies_of ms x

pub moved-nil : (ms : List (Member CountedFunction)) → moved ms [] ≡ ms
moved-nil [] = refl
moved-nil (m ∷ ms) = ap₂ (λ p l. let k : Member CountedFunction = (m.0, p) in k ∷ l) (append-nil m.1) (moved-nil ms)

-- the members took a sample in
pub record AllTook (M : List (Member CountedFunction) → TimedList
    → Type 0) (ms : List (Member CountedFunction)) (x : ℕ × Datum) (ys : List Datum) (n : ℕ) : Type 0 where
  pub stand : M ms (x ∷ [])
  pub answered : ys ≡ answers_of ms x
  pub counted : n ≡ tallies_of ms x

-- the last item of each row
abbrev lasts : List (List Datum) → List Datum
lasts rows = map (λ row. last_or unit row) rows

heads-last : (rows : List (List Datum)) → AllLong 1 rows → heads rows ≡ lasts rows
heads-last [] a = refl
heads-last ([] ∷ rows) (and_row l a) = absurd (omega arith)
heads-last ((v ∷ []) ∷ rows) (and_row l a) = ap (λ vs. v ∷ vs) (heads-last rows a)
heads-last ((v ∷ w ∷ vs) ∷ rows) (and_row l a) = absurd (omega arith)

tails-last : (n : ℕ) (rows : List (List Datum)) → AllLong (suc (suc n)) rows → (lasts (tails rows) ≡ lasts rows) × AllLong (suc n) (tails rows)
tails-last n [] a = (refl, no_rows)
tails-last n ([] ∷ rows) (and_row l a) = absurd (omega arith)
tails-last n ((v ∷ []) ∷ rows) (and_row l a) = absurd (omega arith)
tails-last n ((v ∷ w ∷ vs) ∷ rows) (and_row l a) =
    let both = tails-last n rows a in
    let l' : length (w ∷ vs) ≡ suc n = omega arith in
    (ap (λ us. last_or unit (w ∷ vs) ∷ us) both.0, and_row l' both.1)

last-gathered : {A : Type 0} (d : Datum) (x : A) (xs : List A) (rows : List (List Datum)) → AllLong (suc (length xs)) rows
    → last_or d (gather (x ∷ xs) rows) ≡ list (list_of (lasts rows))
last-gathered d x [] rows a = ap (λ vs. list (list_of vs)) (heads-last rows a)
last-gathered d x (y ∷ xs) rows a =
    let both = tails-last (length xs) rows a in
    last-gathered (list (list_of (heads rows))) y xs (tails rows) both.1 ∙ ap (λ vs. list (list_of vs)) both.0

last-gathered_push : {A : Type 0} (d : Datum) (xs : List A) (x : A) (rows : List (List Datum)) → AllLong (length (xs ++ x ∷ [])) rows
    → last_or d (gather (xs ++ x ∷ []) rows) ≡ list (list_of (lasts rows))
last-gathered_push d [] x rows a = last-gathered d x [] rows a
last-gathered_push d (y ∷ xs) x rows a = last-gathered d y (xs ++ x ∷ []) rows a

-- the members on the samples q
abbrev outputs_in : List (Member CountedFunction) → TimedList → List Datum
outputs_in ms q = member_outputs (member_functions ms) q

abbrev counts_in : List (Member CountedFunction) → TimedList → List ℕ
counts_in ms q = member_counts (member_visits ms) q

rows-long : (ms : List (Member CountedFunction)) → AllMembers ms → (q : TimedList) → AllLong (length q) (rows_of (member_functions ms) q)
rows-long [] a q = no_rows
rows-long (m ∷ ms) (and_member i a) q =
    let l : length (m.0.function (m.1 ++ q)) ≡ length (m.1 ++ q) = i.is_signal_function.sized (m.1 ++ q) in
    and_row (omega (arith, length-drop (length m.1) (m.0.function (m.1 ++ q)), length-append m.1 q)) (rows-long ms a q)

rows-last : (ms : List (Member CountedFunction)) → AllMembers ms → (q : TimedList) (z : ℕ × Datum)
    → lasts (rows_of (member_functions ms) (q ++ z ∷ [])) ≡ answers_of (moved ms q) z
rows-last [] a q z = refl
rows-last (m ∷ ms) (and_member i a) q z =
    let more : TimedList = q ++ z ∷ [] in
    let l : length (m.0.function (m.1 ++ more)) ≡ length (m.1 ++ more) = i.is_signal_function.sized (m.1 ++ more) in
    ap₂ (λ v vs. v ∷ vs)
    (last-later unit unit (length m.1) (m.0.function (m.1 ++ more)) (omega (arith, length-append m.1 more, length-append q (z ∷ [])))
    ∙ ap (λ ys. last_or unit (m.0.function ys)) (sym (append_assoc m.1 q (z ∷ []))))
    (rows-last ms a q z)

answer-members : (ms : List (Member CountedFunction)) → AllMembers ms → (q : TimedList) (z : ℕ × Datum)
    → last_or unit (outputs_in ms (q ++ z ∷ [])) ≡ list (list_of (answers_of (moved ms q) z))
answer-members ms a q z =
    last-gathered_push unit q z (rows_of (member_functions ms) (q ++ z ∷ [])) (rows-long ms a (q ++ z ∷ []))
    ∙ ap (λ vs. list (list_of vs)) (rows-last ms a q z)

length-left : (m : Member CountedFunction) → IsCountedFunction m.0 → (q : TimedList) → length (drop (length m.1) (m.0.visits (m.1 ++ q))) ≡ length q
length-left m i q =
    let l : length (m.0.visits (m.1 ++ q)) ≡ length (m.1 ++ q) = i.is_count.counted (m.1 ++ q) in
    omega (arith, length-drop (length m.1) (m.0.visits (m.1 ++ q)), length-append m.1 q)

length-counts_in : (ms : List (Member CountedFunction)) → AllMembers ms → (q : TimedList) → length (counts_in ms q) ≡ length q
length-counts_in [] a q = length-map q (λ x. 0)
length-counts_in (m ∷ ms) (and_member i a) q =
    length-zip_with (λ j k. j + k) (drop (length m.1) (m.0.visits (m.1 ++ q))) (counts_in ms q) (length-counts_in ms a q ∙ sym (length-left m i q))
    ∙ length-left m i q

tally-members : (ms : List (Member CountedFunction)) → AllMembers ms → (q : TimedList) (z : ℕ × Datum)
    → last_or 0 (counts_in ms (q ++ z ∷ [])) ≡ tallies_of (moved ms q) z
tally-members [] a q z = tally-zeros q z
tally-members (m ∷ ms) (and_member i a) q z =
    let more : TimedList = q ++ z ∷ [] in
    let ns : List ℕ = m.0.visits (m.1 ++ more) in
    let l : length ns ≡ length (m.1 ++ more) = i.is_count.counted (m.1 ++ more) in
    last-added (drop (length m.1) ns) (counts_in ms more) (length-counts_in ms a more ∙ sym (length-left m i more))
    ∙ ap₂ (λ j k. j + k)
    (last-later 0 0 (length m.1) ns (omega (arith, length-append m.1 more, length-append q (z ∷ [])))
    ∙ ap (λ ys. last_or 0 (m.0.visits ys)) (sym (append_assoc m.1 q (z ∷ []))))
    (tally-members ms a q z)

-- what members give on the pieces of a list, outputs or counts
module _ {X Y : Type 0} (give : List (Member X) → TimedList → List Y) (r : Datum → Datum) (t : Datum → X) where
  abbrev given : List (Member X) → TimedList → List Y
  given ms xs = by_members give r t ms (pieces xs).0 (pieces xs).1

  given-some : (ms : List (Member X)) (q : TimedList) (ps : List (Datum × TimedList)) → 0 < length (give ms q) → 0 < length (by_members give r t ms q ps)
  given-some ms q [] l = l
  given-some ms q (p ∷ ps) l = omega (arith, length-append (give ms q) (by_members give r t (chosen t (moved ms q) (r p.0)) p.1 ps))

  module _ (ms : List (Member X)) (q : TimedList) (u : Uncut q) where
    gives_from : (rest : TimedList) → given ms (q ++ rest) ≡ members_from give r t ms (each_value left q) rest
    gives_from rest = ap (λ ps. by_members give r t ms ps.0 ps.1) (u.one_piece rest)

    uncut_gives : given ms q ≡ give ms (each_value left q)
    uncut_gives = ap (given ms) (sym (append-nil q)) ∙ gives_from [] ∙ members_from-nil give r t ms (each_value left q)

    -- at an event
    module _ (x : ℕ × Datum) (a c : Datum) (e : x.1 ≡ pair a (event c)) (rest : TimedList) where
      -- what those give that are chosen there
      abbrev back : List Y
      back = given (chosen t (moved ms (each_value left q)) (r c)) ((x.0, pair a no_event) ∷ rest)

      cut_gives : given ms (q ++ x ∷ rest) ≡ give ms (each_value left q) ++ back
      cut_gives = gives_from (x ∷ rest) ∙ ap (λ v. members_from give r t ms (each_value left q) ((x.0, v) ∷ rest)) e
          ∙ members_from-cut give r t ms (each_value left q) x.0 a c rest

      cut_some : 0 < length back → 0 < length (given ms (q ++ x ∷ rest))
      cut_some l = subst (λ vs. 0 < length vs) (sym cut_gives) (omega (arith, length-append (give ms (each_value left q)) back))

      last_given : (d : Y) → 0 < length back → last_or d (given ms (q ++ x ∷ rest)) ≡ last_or d back
      last_given d l = ap (last_or d) cut_gives ∙ last-behind d d (give ms (each_value left q)) back l

module _ (r : Datum → Datum) (t : Datum → CountedFunction) where
  function_is : (ms : List (Member CountedFunction)) (xs : TimedList) → (counted_members r ms t).function xs ≡ given outputs_in r t ms xs
  function_is ms xs = by_members-map (λ c. c.function) outputs_in member_outputs (λ ms q. refl) r t ms (pieces xs).0 (pieces xs).1

  visits_is : (ms : List (Member CountedFunction)) (xs : TimedList) → (counted_members r ms t).visits xs ≡ and_one (given counts_in r t ms xs)
  visits_is ms xs = ap and_one (by_members-map (λ c. c.visits) counts_in member_counts (λ ms q. refl) r t ms (pieces xs).0 (pieces xs).1)

  module _ (ms : List (Member CountedFunction)) (am : AllMembers ms) (q : TimedList) (x : ℕ × Datum) (u : Uncut q) where
    pub rp_switch_took : {M N : List (Member CountedFunction) → TimedList → Type 0} (ys : List Datum) (n : ℕ) → restart_in x.1 ≡ None
        → AllTook N (moved ms (each_value left q)) (x.0, left x.1) ys n → M ms (each_value left q ++ (x.0, left x.1) ∷ [])
        → TakesSample (StandsVia (RpSwitchStands r M t)) (counted_members r ms t) q x (list (list_of ys)) (suc n)
    rp_switch_took {M} {N} ys n e tm stand =
        let more : TimedList = q ++ x ∷ [] in
        let z : ℕ × Datum = (x.0, left x.1) in
        let so_far : TimedList = each_value left q in
        let u' : Uncut more = Uncut-push q x u e in
        let pushed : each_value left more ≡ so_far ++ z ∷ [] = map_push (λ y. (y.0, left y.1)) q x in
        let some : 0 < length (counts_in ms (so_far ++ z ∷ [])) = omega (arith, length-counts_in ms am (so_far ++ z ∷ []), length-append so_far (z ∷ [])) in
        record {
          stands = Via-here (counted_members r ms t) more (record { ms = ms; uncut = u'; members = subst (M ms) (sym pushed) stand; same = refl });
          answered = ap (λ vs. list (list_of vs)) tm.answered
              ∙ sym (ap (last_or unit) (function_is ms more ∙ uncut_gives outputs_in r t ms more u' ∙ ap (outputs_in ms) pushed) ∙ answer-members ms am so_far z);
          counted = ap suc tm.counted
              ∙ sym (ap (last_or 0) (visits_is ms more ∙ ap and_one (uncut_gives counts_in r t ms more u' ∙ ap (counts_in ms) pushed))
              ∙ last-and_one (counts_in ms (so_far ++ z ∷ [])) some
              ∙ ap suc (tally-members ms am so_far z));
        }

    -- at an event
    module _ (a c : Datum) (e : x.1 ≡ pair a (event c)) where
      abbrev over : List (Member CountedFunction)
      over = chosen t (moved ms (each_value left q)) (r c)

      last_answer : (rest : TimedList)
          → last_or unit ((counted_members r ms t).function (q ++ x ∷ rest)) ≡ last_or unit ((counted_members r over t).function ((x.0, pair a no_event) ∷ rest))
      last_answer rest =
          let p : TimedList = (x.0, a) ∷ (pieces rest).0 in
          ap (last_or unit) (function_is ms (q ++ x ∷ rest))
          ∙ last_given outputs_in r t ms q u x a c e rest unit
          (given-some outputs_in r t over p (pieces rest).1 (omega (arith, length-gather p (rows_of (member_functions over) p))))
          ∙ sym (ap (last_or unit) (function_is over ((x.0, pair a no_event) ∷ rest)))

      module _ (an : AllMembers over) where
        back-some : (rest : TimedList) → 0 < length (given counts_in r t over ((x.0, pair a no_event) ∷ rest))
        back-some rest =
            let p : TimedList = (x.0, a) ∷ (pieces rest).0 in
            given-some counts_in r t over p (pieces rest).1 (omega (arith, length-counts_in over an p))

        last_counts : (rest : TimedList)
            → last_or 0 ((counted_members r ms t).visits (q ++ x ∷ rest)) ≡ suc (last_or 0 (given counts_in r t over ((x.0, pair a no_event) ∷ rest)))
        last_counts rest =
            ap (last_or 0) (visits_is ms (q ++ x ∷ rest))
            ∙ last-and_one (given counts_in r t ms (q ++ x ∷ rest)) (cut_some counts_in r t ms q u x a c e rest (back-some rest))
            ∙ ap suc (last_given counts_in r t ms q u x a c e rest 0 (back-some rest))

        last_tally : (rest : TimedList)
            → last_or 0 ((counted_members r ms t).visits (q ++ x ∷ rest)) ≡ last_or 0 ((counted_members r over t).visits ((x.0, pair a no_event) ∷ rest))
        last_tally rest =
            last_counts rest
            ∙ sym (ap (last_or 0) (visits_is over ((x.0, pair a no_event) ∷ rest))
            ∙ last-and_one (given counts_in r t over ((x.0, pair a no_event) ∷ rest)) (back-some rest))

        Continues-cut : Continues (counted_members r ms t) (q ++ x ∷ []) (counted_members r over t) ((x.0, pair a no_event) ∷ [])
        Continues-cut = record {
          answers = λ s y.
              ap (λ k. last_or unit ((counted_members r ms t).function k)) (ap (λ k. k ++ y ∷ []) (append_assoc q (x ∷ []) s) ∙ append_assoc q (x ∷ s) (y ∷ []))
              ∙ last_answer (s ++ y ∷ []);
          tallies = λ s y.
              ap (λ k. last_or 0 ((counted_members r ms t).visits k)) (ap (λ k. k ++ y ∷ []) (append_assoc q (x ∷ []) s) ∙ append_assoc q (x ∷ s) (y ∷ []))
              ∙ last_tally (s ++ y ∷ []);
        }

        pub rp_switch_over_took : {M : List (Member CountedFunction) → TimedList → Type 0} (ys : List Datum) (n : ℕ) → AllTook M over (x.0, a) ys n
            → TakesSample (StandsVia (RpSwitchStands r M t)) (counted_members r ms t) q x (list (list_of ys)) (suc n)
        rp_switch_over_took {M} ys n tm =
            let now : TimedList = (x.0, pair a no_event) ∷ [] in
            let unmoved : answers_of (moved over []) (x.0, a) ≡ answers_of over (x.0, a) = ap (λ ns. answers_of ns (x.0, a)) (moved-nil over) in
            let unmoved_tally : tallies_of (moved over []) (x.0, a) ≡ tallies_of over (x.0, a) = ap (λ ns. tallies_of ns (x.0, a)) (moved-nil over) in
            record {
              stands = Via-continues (counted_members r ms t) (counted_members r over t) (q ++ x ∷ []) now Continues-cut
                  (Via-here (counted_members r over t) now
                  (record { ms = over; uncut = Uncut-push [] (x.0, pair a no_event) Uncut-nil refl; members = tm.stand; same = refl }));
              answered = ap (λ vs. list (list_of vs)) (tm.answered ∙ sym unmoved)
                  ∙ sym (last_answer [] ∙ ap (last_or unit) (function_is over now) ∙ answer-members over an [] (x.0, a));
              counted = ap suc (tm.counted ∙ sym unmoved_tally) ∙ sym (last_counts [] ∙ ap suc (tally-members over an [] (x.0, a)));
            }
