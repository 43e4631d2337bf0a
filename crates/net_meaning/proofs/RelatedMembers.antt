-- Members of a collection, and what holds of each of those that are chosen.
use Rattle.std.proofs.Common.{◌≡◌, ℕ, zero, suc, ◌+◌, pos, List, [], ◌∷◌, ◌++◌, map, length, take, drop, refl, sym, ap, ap₂, ◌∙◌, append_assoc, length-append, subst}
use Rattle.sample_core.specs.Datum.{Datum, int, left, right, items_of}
use Rattle.net_meaning.specs.SignalFunction.{TimedList, SignalFunction, gather, Member, item_at, item_named, items_named, new_members, chosen, moved, by_members, member_outputs}

-- the members' outputs on a piece, a row for each
abbrev pub rows_of : List (Member SignalFunction) → TimedList → List (List Datum)
rows_of ms q = map (λ m. drop (length m.1) (m.0 (m.1 ++ q))) ms

-- of each value
pub data Each (V : Datum → Type 0) : List Datum → Type 0 where
  no_item : Each V []
  and_item : {v : Datum} {vs : List Datum} → V v → Each V vs → Each V (v ∷ vs)

pub any_values : (vs : List Datum) → Each (λ v. Unit {0}) vs
any_values [] = no_item
any_values (v ∷ vs) = and_item tt (any_values vs)

-- of each two members of two collections. What holds of each one member is a relation on the diagonal
pub data AllRelated {X : Type 0} (R : Member X → Member X → Type 0) : List (Member X) → List (Member X) → Type 0 where
  no_member : AllRelated R [] []
  and_member : {m m' : Member X} {ms ms' : List (Member X)} → R m m' → AllRelated R ms ms' → AllRelated R (m ∷ ms) (m' ∷ ms')

module _ {X : Type 0} (R : Member X → Member X → Type 0) where
  related-append : (ms ms' ns ns' : List (Member X)) → AllRelated R ms ms' → AllRelated R ns ns' → AllRelated R (ms ++ ns) (ms' ++ ns')
  related-append ms ms' ns ns' no_member b = b
  related-append ms ms' ns ns' (and_member {ms = ls} {ms' = ls'} h a) b = and_member h (related-append ls ls' ns ns' a b)

  pub related-take : (n : ℕ) (ms ms' : List (Member X)) → AllRelated R ms ms' → AllRelated R (take n ms) (take n ms')
  related-take zero ms ms' a = no_member
  related-take (suc n) ms ms' no_member = no_member
  related-take (suc n) ms ms' (and_member {ms = ls} {ms' = ls'} h a) = and_member h (related-take n ls ls' a)

  related-at : (k : ℕ) (ms ms' : List (Member X)) → AllRelated R ms ms' → AllRelated R (item_at ms k) (item_at ms' k)
  related-at k ms ms' no_member = no_member
  related-at zero ms ms' (and_member h a) = and_member h no_member
  related-at (suc k) ms ms' (and_member {ms = ls} {ms' = ls'} h a) = related-at k ls ls' a

  related-named : (v : Datum) (ms ms' : List (Member X)) → AllRelated R ms ms' → AllRelated R (item_named ms v) (item_named ms' v)
  related-named (int (pos k)) ms ms' a = related-at k ms ms' a
  related-named _ ms ms' a = no_member

  related-kept : (ks : List Datum) (ms ms' : List (Member X)) → AllRelated R ms ms' → AllRelated R (items_named ms ks) (items_named ms' ks)
  related-kept [] ms ms' a = no_member
  related-kept (k ∷ ks) ms ms' a = related-append (item_named ms k) (item_named ms' k) (items_named ms ks) (items_named ms' ks) (related-named k ms ms' a)
      (related-kept ks ms ms' a)

  module _ (V : Datum → Type 0) (t t' : Datum → X) (ht : (v : Datum) → V v → R (t v, []) (t' v, [])) where
    related-started : (vs : List Datum) → Each V vs → AllRelated R (new_members (map t vs)) (new_members (map t' vs))
    related-started [] no_item = no_member
    related-started (v ∷ vs) (and_item k ks) = and_member (ht v k) (related-started vs ks)

    pub related-selected : (ms ms' : List (Member X)) (w : Datum) → AllRelated R ms ms' → Each V (items_of (right w)) → AllRelated R (chosen t ms w) (chosen t' ms' w)
    related-selected ms ms' w a k =
        related-take 64 (items_named ms (items_of (left w)) ++ new_members (map t (items_of (right w)))) (items_named ms' (items_of (left w)) ++ new_members (map t' (items_of (right w))))
        (related-append (items_named ms (items_of (left w))) (items_named ms' (items_of (left w))) (new_members (map t (items_of (right w)))) (new_members (map t' (items_of (right w)))) (related-kept (items_of (left w)) ms ms' a) (related-started (items_of (right w)) k))

  pub related-moved : (S : Member X → Member X → Type 0) (q q' : TimedList) → ((m m' : Member X) → R m m' → S (m.0, m.1 ++ q) (m'.0, m'.1 ++ q')) → (ms ms' : List (Member X)) → AllRelated R ms ms' → AllRelated S (moved ms q) (moved ms' q')
  related-moved S q q' h ms ms' no_member = no_member
  related-moved S q q' h ms ms' (and_member {m = l} {m' = l'} {ms = ls} {ms' = ls'} k a) = and_member (h l l' k) (related-moved S q q' h ls ls' a)

-- members that go on alike, on lists of P
pub record Twin (P : TimedList → Type 0) (m m' : (Member SignalFunction)) : Type 0 where
  pub even : length m.1 ≡ length m'.1
  pub alike : (r : TimedList) → P r → m.0 (m.1 ++ r) ≡ m'.0 (m'.1 ++ r)

-- the events and samples of pieces
pub data AllGood (P : TimedList → Type 0) (Q : Datum → Type 0) : List (Datum × TimedList) → Type 0 where
  no_good : AllGood P Q []
  and_good : {q : Datum × TimedList} {qs : List (Datum × TimedList)} → Q q.0 → P q.1 → AllGood P Q qs → AllGood P Q (q ∷ qs)

pub any_pieces : (qs : List (Datum × TimedList)) → AllGood (λ r. Unit {0}) (λ c. Unit {0}) qs
any_pieces [] = no_good
any_pieces (q ∷ qs) = and_good tt tt (any_pieces qs)

module _ (P : TimedList → Type 0) (pa : (q r : TimedList) → P q → P r → P (q ++ r)) where
  twin-moved : (q : TimedList) → P q → (m m' : (Member SignalFunction)) → Twin P m m' → Twin P (m.0, m.1 ++ q) (m'.0, m'.1 ++ q)
  twin-moved q h m m' w = record {
    even = length-append m.1 q ∙ ap (λ n. n + length q) w.even ∙ sym (length-append m'.1 q);
    alike = λ r k. ap m.0 (append_assoc m.1 q r) ∙ w.alike (q ++ r) (pa q r h k) ∙ sym (ap m'.0 (append_assoc m'.1 q r));
  }

  pub twins-moved : (q : TimedList) → P q → (ms ms' : List (Member SignalFunction)) → AllRelated (Twin P) ms ms' → AllRelated (Twin P) (moved ms q) (moved ms' q)
  twins-moved q h ms ms' a = related-moved (Twin P) (Twin P) q q (twin-moved q h) ms ms' a

  rows_of-same : (q : TimedList) → P q → (ms ms' : List (Member SignalFunction)) → AllRelated (Twin P) ms ms' → rows_of ms q ≡ rows_of ms' q
  rows_of-same q h ms ms' no_member = refl
  rows_of-same q h ms ms' (and_member {ms = ls} {ms' = ls'} w a) = ap₂ (λ r rs. r ∷ rs) (ap₂ drop w.even (w.alike q h)) (rows_of-same q h ls ls' a)

  pub outputs_on-same : (q : TimedList) → P q → (ms ms' : List (Member SignalFunction)) → AllRelated (Twin P) ms ms' → member_outputs ms q ≡ member_outputs ms' q
  outputs_on-same q h ms ms' a = ap (gather q) (rows_of-same q h ms ms' a)

  module _ (Q V : Datum → Type 0) (m m' : Datum → Datum) (t t' : Datum → SignalFunction) (hm : (c : Datum) → Q c → m c ≡ m' c) (hi : (c : Datum) → Q c → Each V (items_of (right (m c)))) (ht : (v : Datum) → V v → Twin P (t v, []) (t' v, [])) where
    pub by_members-same : (q : TimedList) → P q → (ps : List (Datum × TimedList)) → AllGood P Q ps → (ms ms' : List (Member SignalFunction)) → AllRelated (Twin P) ms ms'
        → by_members member_outputs m t ms q ps ≡ by_members member_outputs m' t' ms' q ps
    by_members-same q h [] no_good ms ms' a = outputs_on-same q h ms ms' a
    by_members-same q h (p ∷ ps) (and_good k j ks) ms ms' a =
        let s : AllRelated (Twin P) (chosen t (moved ms q) (m p.0)) (chosen t' (moved ms' q) (m' p.0)) =
        subst (λ w. AllRelated (Twin P) (chosen t (moved ms q) (m p.0)) (chosen t' (moved ms' q) w)) (hm p.0 k)
        (related-selected (Twin P) V t t' ht (moved ms q) (moved ms' q) (m p.0) (twins-moved q h ms ms' a) (hi p.0 k)) in
        ap₂ (λ vs ws. vs ++ ws) (outputs_on-same q h ms ms' a)
        (by_members-same p.1 j ps ks (chosen t (moved ms q) (m p.0)) (chosen t' (moved ms' q) (m' p.0)) s)
