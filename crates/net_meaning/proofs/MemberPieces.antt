-- What the members of a collection give on the pieces of a timed list: outputs, or counts.
use Rattle.std.proofs.Common.{◌≡◌, ℕ, zero, suc, ◌+◌, List, [], ◌∷◌, ◌++◌, length, take, refl, sym, ap, ◌∙◌, arith, inl, inr, append-nil, append_assoc, length-append, take_all}
use Rattle.std.proofs.lemmas.List.{take-append-le, take_at}
use Rattle.sample_core.specs.Datum.{Datum, left, right, pair, event, items_of}
use Rattle.net_meaning.specs.SignalFunction.{TimedList, pieces, Member, chosen, moved, by_members}
use Rattle.net_meaning.proofs.Switched.{take_into_at}
use Rattle.net_meaning.proofs.Restarting.{IsUncut, uncut_or_cut, KeepsPace}
use Rattle.net_meaning.proofs.RelatedMembers.{any_values, AllRelated, related-selected, related-moved}

module _ {X Y : Type 0} (give : List (Member X) → TimedList → List Y) (m : Datum → Datum) (t : Datum → X) where
  -- ms have seen q of their piece
  abbrev pub members_from : List (Member X) → TimedList → TimedList → List Y
  members_from ms q xs = by_members give m t ms (q ++ (pieces xs).0) (pieces xs).1

  pub members_from-uncut : (ms : List (Member X)) (q : TimedList) (d : ℕ) (v : Datum) (xs : TimedList) → IsUncut v
      → members_from ms q ((d, v) ∷ xs) ≡ members_from ms (q ++ (d, left v) ∷ []) xs
  members_from-uncut ms q d v xs u =
      ap (λ ps. by_members give m t ms (q ++ ps.0) ps.1) (u d (pieces xs))
      ∙ ap (λ ys. by_members give m t ms ys (pieces xs).1) (sym (append_assoc q ((d, left v) ∷ []) (pieces xs).0))

  pub members_from-cut : (ms : List (Member X)) (q : TimedList) (d : ℕ) (a c : Datum) (xs : TimedList)
      → members_from ms q ((d, pair a (event c)) ∷ xs) ≡ give ms q ++ members_from (chosen t (moved ms q) (m c)) ((d, a) ∷ []) xs
  members_from-cut ms q d a c xs = ap (λ p. give ms p ++ members_from (chosen t (moved ms p) (m c)) ((d, a) ∷ []) xs) (append-nil q)

  pub members_from-nil : (ms : List (Member X)) (q : TimedList) → members_from ms q [] ≡ give ms q
  members_from-nil ms q = ap (give ms) (append-nil q)

  -- members of which each goes on as R says, which give an item for each sample
  module _ (R : Member X → Member X → Type 0) (start : (v : Datum) → R (t v, []) (t v, []))
      (move : (q : TimedList) (l l' : Member X) → R l l' → R (l.0, l.1 ++ q) (l'.0, l'.1 ++ q))
      (sized : (ms : List (Member X)) → AllRelated R ms ms → (q : TimedList) → length (give ms q) ≡ length q) where
    going-chosen : (ms : List (Member X)) → AllRelated R ms ms → (q : TimedList) (c : Datum)
        → AllRelated R (chosen t (moved ms q) (m c)) (chosen t (moved ms q) (m c))
    going-chosen ms a q c =
        related-selected R (λ v. Unit {0}) t t (λ v k. start v) (moved ms q) (moved ms q) (m c) (related-moved R R q q (move q) ms ms a)
        (any_values (items_of (right (m c))))

    length-members_from : (ms : List (Member X)) → AllRelated R ms ms → (q xs : TimedList) → length (members_from ms q xs) ≡ length q + length xs
    length-members_from ms a q [] = ap length (members_from-nil ms q) ∙ sized ms a q ∙ (omega arith)
    length-members_from ms a q (x ∷ xs) = elim (uncut_or_cut x.1) [
      | inl u ↦
          let q' : TimedList = q ++ (x.0, left x.1) ∷ [] in
          let ih : length (members_from ms q' xs) ≡ length q' + length xs = length-members_from ms a q' xs in
          ap length (members_from-uncut ms q x.0 x.1 xs u) ∙ (omega (arith, length-append q ((x.0, left x.1) ∷ [])))
      | inr h ↦
          let s : TimedList = (x.0, h.0) ∷ [] in
          let ns : List (Member X) = chosen t (moved ms q) (m h.1) in
          let ih : length (members_from ns s xs) ≡ 1 + length xs = length-members_from ns (going-chosen ms a q h.1) s xs in
          let l : length (give ms q) ≡ length q = sized ms a q in
          ap (λ v. length (members_from ms q ((x.0, v) ∷ xs))) h.2 ∙ ap length (members_from-cut ms q x.0 h.0 h.1 xs)
          ∙ (omega (arith, length-append (give ms q) (members_from ns s xs)))
    ]

    pub length-members : (ms : List (Member X)) → AllRelated R ms ms → (xs : TimedList)
        → length (by_members give m t ms (pieces xs).0 (pieces xs).1) ≡ length xs
    length-members ms a xs = length-members_from ms a [] xs ∙ (omega arith)

    -- and don't look ahead
    module _ (causal : (ms : List (Member X)) → AllRelated R ms ms → (n : ℕ) (q : TimedList) → give ms (take n q) ≡ take n (give ms q)) where
      whole-front : (ms : List (Member X)) → AllRelated R ms ms → (q p : TimedList) → take (length q) (give ms (q ++ p)) ≡ give ms q
      whole-front ms a q p = sym (causal ms a (length q) (q ++ p)) ∙ ap (give ms) (take_at q p (length q) refl)

      front : (ms : List (Member X)) → AllRelated R ms ms → (q p : TimedList) (ps : List (Datum × TimedList))
          → take (length q) (by_members give m t ms (q ++ p) ps) ≡ give ms q
      front ms a q p [] = whole-front ms a q p
      front ms a q p (r ∷ rs) =
          let l : length (give ms (q ++ p)) ≡ length (q ++ p) = sized ms a (q ++ p) in
          let k : length (q ++ p) ≡ length q + length p = length-append q p in
          take-append-le (length q) (give ms (q ++ p)) (by_members give m t (chosen t (moved ms (q ++ p)) (m r.0)) r.1 rs) (omega arith)
          ∙ whole-front ms a q p

      members_from-take : (ms : List (Member X)) → AllRelated R ms ms → (q : TimedList) (n : ℕ) (xs : TimedList)
          → members_from ms q (take n xs) ≡ take (length q + n) (members_from ms q xs)
      members_from-take ms a q zero xs =
          let e : length q + 0 ≡ length q = omega arith in
          members_from-nil ms q ∙ sym (front ms a q (pieces xs).0 (pieces xs).1) ∙ ap (λ k. take k (members_from ms q xs)) (sym e)
      members_from-take ms a q (suc n) [] =
          let l : length (members_from ms q []) ≡ length q + 0 = length-members_from ms a q [] in
          sym (take_all (length q + suc n) (members_from ms q []) (omega arith))
      members_from-take ms a q (suc n) (x ∷ xs) = elim (uncut_or_cut x.1) [
        | inl u ↦
            let q' : TimedList = q ++ (x.0, left x.1) ∷ [] in
            let e : length q' + n ≡ length q + suc n = omega (arith, length-append q ((x.0, left x.1) ∷ [])) in
            members_from-uncut ms q x.0 x.1 (take n xs) u ∙ members_from-take ms a q' n xs ∙ ap (λ k. take k (members_from ms q' xs)) e
            ∙ ap (take (length q + suc n)) (sym (members_from-uncut ms q x.0 x.1 xs u))
        | inr h ↦
            let s : TimedList = (x.0, h.0) ∷ [] in
            let ns : List (Member X) = chosen t (moved ms q) (m h.1) in
            let e : 1 + n ≡ suc n = omega arith in
            ap (λ v. members_from ms q ((x.0, v) ∷ take n xs)) h.2
            ∙ members_from-cut ms q x.0 h.0 h.1 (take n xs)
            ∙ ap (λ vs. give ms q ++ vs) (members_from-take ns (going-chosen ms a q h.1) s n xs ∙ ap (λ k. take k (members_from ns s xs)) e)
            ∙ sym (take_into_at (give ms q) (members_from ns s xs) (length q) (suc n) (sized ms a q))
            ∙ ap (take (length q + suc n)) (sym (ap (λ v. members_from ms q ((x.0, v) ∷ xs)) h.2 ∙ members_from-cut ms q x.0 h.0 h.1 xs))
      ]

      pub members_keep : (ms : List (Member X)) → AllRelated R ms ms → KeepsPace (λ xs. by_members give m t ms (pieces xs).0 (pieces xs).1)
      members_keep ms a = record {
        sized = length-members ms a;
        causal = λ n xs. let e : 0 + n ≡ n = omega arith in members_from-take ms a [] n xs ∙ ap (λ k. take k (members_from ms [] xs)) e;
      }
