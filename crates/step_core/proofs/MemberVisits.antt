-- What the members of a collection count: as many counts as samples, no look ahead, and at most 64
-- times the greatest of them.
use Rattle.std.proofs.Common.{◌≡◌, ℕ, suc, ◌+◌, ◌*◌, ◌≤◌, List, [], ◌∷◌, ◌++◌, map, length, take, drop, sym, ap, ap₂, ◌∙◌, arith, length-append, length-drop, length-take}
use Rattle.std.proofs.Math.Nat.{mul-le-mul_right}
use Rattle.std.proofs.lemmas.List.{length-map, take-map, drop-take}
use Rattle.sample_core.specs.Datum.{Datum, left, right, items_of}
use Rattle.net_meaning.specs.SignalFunction.{TimedList, zip_with, pieces, Member, items_named, new_members, first_members, chosen, moved, by_members}
use Rattle.net_tree.specs.Height.{greatest}
use Rattle.net_meaning.proofs.Switched.{take_into}
use Rattle.net_meaning.proofs.Zips.{length-zip_with, take-zip_with}
use Rattle.net_meaning.proofs.RelatedMembers.{any_values, AllRelated, no_member, and_member, related-take, related-selected, related-moved}
use Rattle.net_meaning.proofs.MemberPieces.{members_keep}
use Rattle.state_core.specs.Visits.{VisitCounts, member_counts}
use Rattle.step_core.proofs.VisitSums.{AtMost, IsCount, AtMost-weaker, AtMost-append, AtMost-drop, AtMost-added, AtMost-map, IsCount-weaker, kept_count, AllCounts, no_count, and_count}

-- what a member counts on a piece
length-row : (m : Member VisitCounts) → ((xs : TimedList) → length (m.0 xs) ≡ length xs) → (q : TimedList) → length (drop (length m.1) (m.0 (m.1 ++ q))) ≡ length q
length-row m l q =
    let e : length (m.0 (m.1 ++ q)) ≡ length (m.1 ++ q) = l (m.1 ++ q) in
    omega (arith, length-drop (length m.1) (m.0 (m.1 ++ q)), length-append m.1 q)

module _ (R : Member VisitCounts → Member VisitCounts → Type 0) (sized : (m m' : Member VisitCounts) → R m m' → (xs : TimedList)
    → length (m.0 xs) ≡ length xs) where
  length-member_counts : (ms : List (Member VisitCounts)) → AllRelated R ms ms → (q : TimedList) → length (member_counts ms q) ≡ length q
  length-member_counts [] a q = length-map q (λ x. 0)
  length-member_counts (m ∷ ms) (and_member {m' = m'} h a) q =
      let l : length (drop (length m.1) (m.0 (m.1 ++ q))) ≡ length q = length-row m (sized m m' h) q in
      length-zip_with _ (drop (length m.1) (m.0 (m.1 ++ q))) (member_counts ms q) (length-member_counts ms a q ∙ sym l) ∙ l

-- no member counts more than g
abbrev Bounded : ℕ → Member VisitCounts → Member VisitCounts → Type 0
Bounded g m m' = IsCount g m.0

module _ (g : ℕ) where
  AtMost-member_counts : (ms : List (Member VisitCounts)) → AllRelated (Bounded g) ms ms → (q : TimedList) → AtMost (length ms * g) (member_counts ms q)
  AtMost-member_counts [] a q = AtMost-map 0 (0 * g) q (omega arith)
  AtMost-member_counts (m ∷ ms) (and_member c a) q =
      AtMost-weaker (g + length ms * g) (suc (length ms) * g) (member_counts (m ∷ ms) q) (omega arith)
      (AtMost-added g (length ms * g) (drop (length m.1) (m.0 (m.1 ++ q))) (member_counts ms q)
      (AtMost-drop g (length m.1) (m.0 (m.1 ++ q)) (c.bounded (m.1 ++ q))) (AtMost-member_counts ms a q))

  AtMost-few : (ms : List (Member VisitCounts)) → AllRelated (Bounded g) ms ms → length ms ≤ 64 → (q : TimedList) → AtMost (64 * g) (member_counts ms q)
  AtMost-few ms a l q = AtMost-weaker (length ms * g) (64 * g) (member_counts ms q) (mul-le-mul_right g l) (AtMost-member_counts ms a q)

  take-member_counts : (ms : List (Member VisitCounts)) → AllRelated (Bounded g) ms ms → (n : ℕ) (q : TimedList)
      → member_counts ms (take n q) ≡ take n (member_counts ms q)
  take-member_counts [] a n q = sym (take-map (λ x. 0) n q)
  take-member_counts (m ∷ ms) (and_member c a) n q =
      let row : List ℕ = drop (length m.1) (m.0 (m.1 ++ q)) in
      ap₂ (λ ks ls. zip_with (λ k l. k + l) ks ls)
      (ap (λ ys. drop (length m.1) (m.0 ys)) (sym (take_into m.1 q n)) ∙ ap (drop (length m.1)) (c.causal (length m.1 + n) (m.1 ++ q))
      ∙ drop-take (length m.1) n (m.0 (m.1 ++ q)))
      (take-member_counts ms a n q)
      ∙ sym (take-zip_with _ n row (member_counts ms q))

  module _ (r : Datum → Datum) (t : Datum → VisitCounts) (ct : (v : Datum) → IsCount g (t v)) where
    AtMost-by_members : (ms : List (Member VisitCounts)) → AllRelated (Bounded g) ms ms → length ms ≤ 64 → (q : TimedList) (ps : List (Datum × TimedList))
        → AtMost (64 * g) (by_members member_counts r t ms q ps)
    AtMost-by_members ms a l q [] = AtMost-few ms a l q
    AtMost-by_members ms a l q (p ∷ ps) =
        let ns : List (Member VisitCounts) = chosen t (moved ms q) (r p.0) in
        let b : AllRelated (Bounded g) ns ns =
        related-selected (Bounded g) (λ v. Unit {0}) t t (λ v k. ct v) (moved ms q) (moved ms q) (r p.0)
        (related-moved (Bounded g) (Bounded g) q q (λ m m' c. c) ms ms a) (any_values (items_of (right (r p.0)))) in
        AtMost-append (64 * g) (member_counts ms q) (by_members member_counts r t ns p.1 ps) (AtMost-few ms a l q)
        (AtMost-by_members ns b (few (moved ms q) (r p.0)) p.1 ps)
      where
        few : (ms : List (Member VisitCounts)) (w : Datum) → length (chosen t ms w) ≤ 64
        few ms w = omega (arith, length-take 64 (items_named ms (items_of (left w)) ++ new_members (map t (items_of (right w)))))

-- the members that are written
bounded-unstarted : (g : ℕ) (ws : List ℕ) (vs : List VisitCounts) → AllCounts ws vs → greatest ws ≤ g → AllRelated (Bounded g) (new_members vs) (new_members vs)
bounded-unstarted g ws vs no_count l = no_member
bounded-unstarted g ws vs (and_count {w = w} {ws = ws'} {v = v} {vs = vs'} c a) l =
    and_member (IsCount-weaker w g v (omega arith) c) (bounded-unstarted g ws' vs' a (omega arith))

pub IsCount-collection : (r : Datum → Datum) (w : ℕ) (ws : List ℕ) (t : Datum → VisitCounts) (vs : List VisitCounts) → ((v : Datum) → IsCount w (t v))
    → AllCounts ws vs → IsCount (64 * greatest (w ∷ ws)) (λ xs. by_members member_counts r t (first_members vs) (pieces xs).0 (pieces xs).1)
IsCount-collection r w ws t vs ct a =
    let g : ℕ = greatest (w ∷ ws) in
    let cg : (v : Datum) → IsCount g (t v) = λ v. IsCount-weaker w g (t v) (omega arith) (ct v) in
    let all : AllRelated (Bounded g) (first_members vs) (first_members vs) =
    related-take (Bounded g) 64 (new_members vs) (new_members vs) (bounded-unstarted g ws vs a (omega arith)) in
    kept_count (64 * g) _
    (members_keep member_counts r t (Bounded g) cg (λ q m m' c. c) (length-member_counts (Bounded g) (λ m m' c. c.counted)) (take-member_counts g)
    (first_members vs) all)
    (λ xs. AtMost-by_members g r t cg (first_members vs) all (omega (arith, length-take 64 (new_members vs))) (pieces xs).0 (pieces xs).1)
