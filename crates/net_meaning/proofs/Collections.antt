-- `rpSwitchB` of signals is a signal, and agrees where its parts do.
use Rattle.std.proofs.Common.{◌≡◌, ℕ, ◌+◌, List, [], ◌∷◌, ◌++◌, map, length, take, drop, refl, sym, ap, ap₂, ◌∙◌, arith, inl, inr, append_assoc, length-append, length-drop, subst}
use Rattle.std.proofs.lemmas.List.{drop-take}
use Rattle.sample_core.specs.Datum.{Datum, Datums, left, right, elements, items_of}
use Rattle.sample_core.specs.TypeTree.{TypeTree, int_ty, pair_ty, event_ty, list_ty}
use Rattle.sample_core.specs.HasType.{HasType, HaveType, list_has, end_has, more_has}
use Rattle.leaf_core.proofs.Soundness.{typed_right}
use Rattle.net_meaning.specs.SignalFunction.{TimedList, SignalFunction, gather, pieces, retime, Member, new_members, first_members, chosen, moved, by_members, member_outputs, rp_switch_function, IsSignalFunction}
use Rattle.net_meaning.specs.Typing.{TypedValues, TypedSamples}
use Rattle.net_meaning.specs.Sameness.{SameAt, AllSameAt, no_twin, and_twin}
use Rattle.net_meaning.proofs.Zips.{length-gather, gather-take, gather-retime}
use Rattle.net_meaning.proofs.Plain.{AllSignals, no_signal, and_signal}
use Rattle.net_meaning.proofs.Switched.{take_into}
use Rattle.net_meaning.proofs.Restarting.{uncut_or_cut}
use Rattle.net_meaning.proofs.TypedLists.{typed_append, typed_drop, samples_append, TypedRows, no_typed_row, and_typed_row, typed_gather, TypedPieces, no_piece, and_piece, typed_pieces}
use Rattle.net_meaning.proofs.MemberPieces.{members_from, members_from-uncut, members_keep}
use Rattle.net_meaning.proofs.RelatedMembers.{rows_of, Each, no_item, and_item, any_values, AllRelated, no_member, and_member, related-take, related-selected, related-moved, Twin, AllGood, no_good, and_good, any_pieces, by_members-same}

abbrev pub Running : Member SignalFunction → Member SignalFunction → Type 0
Running m m' = IsSignalFunction m.0

pub running-unstarted : (fs : List SignalFunction) → AllSignals fs → AllRelated Running (new_members fs) (new_members fs)
running-unstarted fs no_signal = no_member
running-unstarted fs (and_signal {fs = fs'} sf s) = and_member sf (running-unstarted fs' s)

-- the members' outputs on fronts of a piece, and on one sample more
rows_of-take : (n : ℕ) (q : TimedList) (ms : List (Member SignalFunction)) → AllRelated Running ms ms → rows_of ms (take n q) ≡ map (take n) (rows_of ms q)
rows_of-take n q [] no_member = refl
rows_of-take n q (m ∷ ms) (and_member sf a) =
    ap₂ (λ r rs. r ∷ rs)
    (ap (λ ys. drop (length m.1) (m.0 ys)) (sym (take_into m.1 q n)) ∙ ap (drop (length m.1)) (sf.causal (length m.1 + n) (m.1 ++ q)) ∙ drop-take (length m.1) n (m.0 (m.1 ++ q)))
    (rows_of-take n q ms a)

outputs_on-take : (n : ℕ) (q : TimedList) (ms : List (Member SignalFunction)) → AllRelated Running ms ms → member_outputs ms (take n q) ≡ take n (member_outputs ms q)
outputs_on-take n q ms a = ap (gather (take n q)) (rows_of-take n q ms a) ∙ gather-take n q (rows_of ms q)

length-row : (m : Member SignalFunction) → IsSignalFunction m.0 → (q : TimedList) → length (drop (length m.1) (m.0 (m.1 ++ q))) ≡ length q
length-row m sf q =
    let l : length (m.0 (m.1 ++ q)) ≡ length (m.1 ++ q) = sf.sized (m.1 ++ q) in
    omega (arith, length-drop (length m.1) (m.0 (m.1 ++ q)), length-append m.1 q)

-- members without a past do not see the first step, nor do they remember it
abbrev New : Member SignalFunction → Member SignalFunction → Type 0
New m m' = (m.1 ≡ []) × IsSignalFunction m.0

abbrev Goes : Member SignalFunction → Member SignalFunction → Type 0
Goes m m' = Twin (λ r. Unit {0}) m m'

rows_of-retime : (d : ℕ) (q : TimedList) (ms : List (Member SignalFunction)) → AllRelated New ms ms → rows_of ms (retime d q) ≡ rows_of ms q
rows_of-retime d q [] no_member = refl
rows_of-retime d q (m ∷ ms) (and_member n a) =
    ap₂ (λ r rs. r ∷ rs)
    (subst (λ p. drop (length p) (m.0 (p ++ retime d q)) ≡ drop (length p) (m.0 (p ++ q))) (sym n.0) (n.1.timeless d q))
    (rows_of-retime d q ms a)

outputs_on-retime : (d : ℕ) (q : TimedList) (ms : List (Member SignalFunction)) → AllRelated New ms ms → member_outputs ms (retime d q) ≡ member_outputs ms q
outputs_on-retime d q ms a = ap (gather (retime d q)) (rows_of-retime d q ms a) ∙ gather-retime d q (rows_of ms q)

forgets : (d : ℕ) (x : ℕ × Datum) (q : TimedList) (m m' : Member SignalFunction) → New m m' → (p : TimedList) → p ≡ [] → Goes (m.0, p ++ (d, x.1) ∷ q) (m.0, p ++ x ∷ q)
forgets d x q m m' n p e = record {
  even = length-append p ((d, x.1) ∷ q) ∙ sym (length-append p (x ∷ q));
  alike = λ r k. subst (λ p. m.0 ((p ++ (d, x.1) ∷ q) ++ r) ≡ m.0 ((p ++ x ∷ q) ++ r)) (sym e) (n.1.timeless d (x ∷ (q ++ r)));
}

goes-moved : (d : ℕ) (x : ℕ × Datum) (q : TimedList) (ms : List (Member SignalFunction)) → AllRelated New ms ms → AllRelated Goes (moved ms ((d, x.1) ∷ q)) (moved ms (x ∷ q))
goes-moved d x q [] no_member = no_member
goes-moved d x q (m ∷ ms) (and_member {m' = m'} n a) = and_member (forgets d x q m m' n m.1 n.0) (goes-moved d x q ms a)

new-unstarted : (fs : List SignalFunction) → AllSignals fs → AllRelated New (new_members fs) (new_members fs)
new-unstarted fs no_signal = no_member
new-unstarted fs (and_signal {fs = fs'} sf s) = and_member (refl, sf) (new-unstarted fs' s)

module _ (m : Datum → Datum) (t : Datum → SignalFunction) (st : (v : Datum) → IsSignalFunction (t v)) where
  -- a first piece of new members
  piece-retime : (d : ℕ) (x : ℕ × Datum) (q : TimedList) (ps : List (Datum × TimedList)) (ms : List (Member SignalFunction)) → AllRelated New ms ms
      → by_members member_outputs m t ms ((d, x.1) ∷ q) ps ≡ by_members member_outputs m t ms (x ∷ q) ps
  piece-retime d x q [] ms a = outputs_on-retime d (x ∷ q) ms a
  piece-retime d x q (p ∷ ps) ms a =
      let goes : (v : Datum) → Unit {0} → Goes (t v, []) (t v, []) = λ v k. record { even = refl; alike = λ r h. refl } in
      let ns : List (Member SignalFunction) = moved ms ((d, x.1) ∷ q) in
      let ns' : List (Member SignalFunction) = moved ms (x ∷ q) in
      ap₂ (λ vs ws. vs ++ ws) (outputs_on-retime d (x ∷ q) ms a)
      (by_members-same (λ r. Unit {0}) (λ q r h k. tt) (λ c. Unit {0}) (λ v. Unit {0}) m m t t (λ c k. refl) (λ c k. any_values (items_of (right (m c)))) goes p.1 tt ps (any_pieces ps)
      (chosen t ns (m p.0)) (chosen t ns' (m p.0)) (related-selected Goes (λ v. Unit {0}) t t goes ns ns' (m p.0) (goes-moved d x q ms a) (any_values (items_of (right (m p.0))))))

  members_from-retime : (ms : List (Member SignalFunction)) → AllRelated New ms ms → (d : ℕ) (xs : TimedList) → members_from member_outputs m t ms [] (retime d xs) ≡ members_from member_outputs m t ms [] xs
  members_from-retime ms a d [] = refl
  members_from-retime ms a d (x ∷ xs) = elim (uncut_or_cut x.1) [
    | inl u ↦
        members_from-uncut member_outputs m t ms [] d x.1 xs u
        ∙ piece-retime d (x.0, left x.1) (pieces xs).0 (pieces xs).1 ms a
        ∙ sym (members_from-uncut member_outputs m t ms [] x.0 x.1 xs u)
    | inr h ↦
        let ns : List (Member SignalFunction) = chosen t (moved ms []) (m h.1) in
        let b : AllRelated New (moved ms []) (moved ms []) = related-moved New New [] [] (λ l l' k. (ap (λ p. p ++ []) k.0, k.1)) ms ms a in
        let new : AllRelated New ns ns = related-selected New (λ v. Unit {0}) t t (λ v k. (refl, st v)) (moved ms []) (moved ms []) (m h.1) b (any_values (items_of (right (m h.1)))) in
        ap (λ v. members_from member_outputs m t ms [] ((d, v) ∷ xs)) h.2
        ∙ ap (λ vs. member_outputs ms [] ++ vs) (piece-retime d (x.0, h.0) (pieces xs).0 (pieces xs).1 ns new)
        ∙ ap (λ v. members_from member_outputs m t ms [] ((x.0, v) ∷ xs)) (sym h.2)
  ]

  pub IsSignal-reselecting : (fs : List SignalFunction) → AllSignals fs → IsSignalFunction (rp_switch_function m fs t)
  IsSignal-reselecting fs s =
      let k = members_keep member_outputs m t Running (λ v. st v) (λ q l l' h. h) (λ ms a q. length-gather q (rows_of ms q)) (λ ms a n q. outputs_on-take n q ms a)
      (first_members fs) (related-take Running 64 (new_members fs) (new_members fs) (running-unstarted fs s)) in
      record {
        sized = k.sized;
        causal = k.causal;
        timeless = members_from-retime (first_members fs) (related-take New 64 (new_members fs) (new_members fs) (new-unstarted fs s));
      }

-- agreement on typed lists
each_typed : {V : TypeTree} (vs : Datums) → HaveType vs V → Each (λ v. HasType v V) (elements vs)
each_typed vs end_has = no_item
each_typed vs (more_has {vs = vs'} k ks) = and_item k (each_typed vs' ks)

typed_items : {V : TypeTree} (w : Datum) → HasType w (list_ty V) → Each (λ v. HasType v V) (items_of w)
typed_items w (list_has {vs = vs} h) = each_typed vs h

-- a member that gives typed answers
record Gives (D B : TypeTree) (m m' : Member SignalFunction) : Type 0 where
  signal : IsSignalFunction m.0
  typed : (r : TimedList) → TypedSamples D r → TypedValues B (m.0 (m.1 ++ r))

twins-unstarted : {D B : TypeTree} (fs gs : List SignalFunction) → AllSameAt D B fs gs → AllRelated (Twin (TypedSamples D)) (new_members fs) (new_members gs)
twins-unstarted fs gs no_twin = no_member
twins-unstarted fs gs (and_twin {fs = fs'} {gs = gs'} sf sg h a) = and_member (record { even = refl; alike = λ r k. h.same r k }) (twins-unstarted fs' gs' a)

gives-unstarted : {D B : TypeTree} (fs gs : List SignalFunction) → AllSameAt D B fs gs → AllRelated (Gives D B) (new_members fs) (new_members fs)
gives-unstarted fs gs no_twin = no_member
gives-unstarted fs gs (and_twin {fs = fs'} {gs = gs'} sf sg h a) = and_member (record { signal = sf; typed = λ r k. h.typed r k }) (gives-unstarted fs' gs' a)

module _ (D B : TypeTree) where
  gives-moved : (q : TimedList) → TypedSamples D q → (ms : List (Member SignalFunction)) → AllRelated (Gives D B) ms ms → AllRelated (Gives D B) (moved ms q) (moved ms q)
  gives-moved q h ms a = related-moved (Gives D B) (Gives D B) q q
      (λ m m' g. record { signal = g.signal; typed = λ r k. subst (λ ys. TypedValues B (m.0 ys)) (sym (append_assoc m.1 q r)) (g.typed (q ++ r) (samples_append q r h k)) }) ms ms a

  typed_rows : (q : TimedList) → TypedSamples D q → (ms : List (Member SignalFunction)) → AllRelated (Gives D B) ms ms → TypedRows B (length q) (rows_of ms q)
  typed_rows q h [] no_member = no_typed_row
  typed_rows q h (m ∷ ms) (and_member g a) = and_typed_row (length-row m g.signal q) (typed_drop (length m.1) (m.0 (m.1 ++ q)) (g.typed q h)) (typed_rows q h ms a)

  typed_outputs_on : (q : TimedList) → TypedSamples D q → (ms : List (Member SignalFunction)) → AllRelated (Gives D B) ms ms → TypedValues (list_ty B) (member_outputs ms q)
  typed_outputs_on q h ms a = typed_gather q (rows_of ms q) (typed_rows q h ms a)

  module _ (C V : TypeTree) (m m' : Datum → Datum) (t t' : Datum → SignalFunction) (hm : (c : Datum) → HasType c C → (m c ≡ m' c) × HasType (m c) (pair_ty (list_ty int_ty) (list_ty V))) (st : (v : Datum) → IsSignalFunction (t v)) (ht : (v : Datum) → HasType v V → SameAt D B (t v) (t' v)) where
    good_pieces : (qs : List (Datum × TimedList)) → TypedPieces D C qs → AllGood (TypedSamples D) (λ c. HasType c C) qs
    good_pieces qs no_piece = no_good
    good_pieces qs (and_piece {qs = qs'} k j ks) = and_good k j (good_pieces qs' ks)

    chosen_typed : (c : Datum) → HasType c C → Each (λ v. HasType v V) (items_of (right (m c)))
    chosen_typed c k = typed_items (right (m c)) (typed_right (hm c k).1)

    typed_members : (q : TimedList) → TypedSamples D q → (ps : List (Datum × TimedList)) → TypedPieces D C ps → (ms : List (Member SignalFunction)) → AllRelated (Gives D B) ms ms
        → TypedValues (list_ty B) (by_members member_outputs m t ms q ps)
    typed_members q h ps no_piece ms a = typed_outputs_on q h ms a
    typed_members q h ps (and_piece {q = p} {qs = ps'} k j ks) ms a =
        let ns : List (Member SignalFunction) = chosen t (moved ms q) (m p.0) in
        let b : AllRelated (Gives D B) ns ns = related-selected (Gives D B) (λ v. HasType v V) t t (λ v i. record { signal = st v; typed = λ r l. (ht v i).typed r l }) (moved ms q) (moved ms q) (m p.0) (gives-moved q h ms a) (chosen_typed p.0 k) in
        typed_append (member_outputs ms q) (by_members member_outputs m t ns p.1 ps') (typed_outputs_on q h ms a) (typed_members p.1 j ps' ks ns b)

    pub SameAt-reselecting : (fs fs' : List SignalFunction) → AllSameAt D B fs fs' → SameAt (pair_ty D (event_ty C)) (list_ty B) (rp_switch_function m fs t) (rp_switch_function m' fs' t')
    SameAt-reselecting fs fs' a = record {
      same = λ xs k.
          let h : TypedSamples D (pieces xs).0 × TypedPieces D C (pieces xs).1 = typed_pieces xs k in
          let w : AllRelated (Twin (TypedSamples D)) (first_members fs) (first_members fs') = related-take (Twin (TypedSamples D)) 64 (new_members fs) (new_members fs') (twins-unstarted fs fs' a) in
          by_members-same (TypedSamples D) (λ q r i j. samples_append q r i j) (λ c. HasType c C) (λ v. HasType v V) m m' t t' (λ c i. (hm c i).0) chosen_typed
          (λ v i. record { even = refl; alike = λ r j. (ht v i).same r j }) (pieces xs).0 h.0 (pieces xs).1 (good_pieces (pieces xs).1 h.1) (first_members fs) (first_members fs') w;
      typed = λ xs k.
          let h : TypedSamples D (pieces xs).0 × TypedPieces D C (pieces xs).1 = typed_pieces xs k in
          typed_members (pieces xs).0 h.0 (pieces xs).1 h.1 (first_members fs) (related-take (Gives D B) 64 (new_members fs) (new_members fs) (gives-unstarted fs fs' a));
    }
