-- What a collection stands for, by the frozen networks that its members go on from.
use Rattle.std.proofs.Common.{◌≡◌, ◌⊎◌, ℕ, zero, suc, pos, List, [], ◌∷◌, ◌++◌, map, take, refl, sym, inl, inr, None, append_assoc, subst}
use Rattle.sample_core.specs.Datum.{Datum, int, event, left, right, pair, list, list_of, items_of}
use Rattle.net_tree.specs.Network.{Network, Networks, no_members, and_member}
use Rattle.net_meaning.specs.SignalFunction.{TimedList, Member, each_value, item_at, item_named, items_named, new_members, first_members, chosen, moved}
use Rattle.state_core.specs.CountedFunction.{CountedFunction, IsCountedFunction, StandsVia, TakesSample}
use Rattle.state_core.specs.CountedForms.{counted_members}
use Rattle.state_core.specs.CountedContext.{CountedContext, counted_meaning, counted_meanings}
use Rattle.state_core.specs.State.{States, Scope, Frozen, no_state, and_state, unstarted, paused, push_param, all_unstarted, all_paused, frozen_list, each_started, chosen_frozen, turned, first_frozen}
use Rattle.state_core.specs.Stands.{StandEach, Denotes, Stands}
use Rattle.state_core.specs.StandsByForm.{Uncut, RpSwitchStands}
use Rattle.step_core.specs.Stepping.{restart_in}
use Rattle.step_core.proofs.CountedContexts.{IsCounted-counted, Denotes-counted_each}
use Rattle.step_core.proofs.CollectionCounts.{AllMembers, no_member, and_member, AllTook, moved-nil, rp_switch_took, rp_switch_over_took}

-- two lists, item by item
pub data AllPaired {A B : Type 0} (R : A → B → Type 0) : List A → List B → Type 0 where
  no_pair : AllPaired R [] []
  and_pair : {a : A} {b : B} {xs : List A} {ys : List B} → R a b → AllPaired R xs ys → AllPaired R (a ∷ xs) (b ∷ ys)

module _ {A B : Type 0} (R : A → B → Type 0) where
  paired-append : (xs xs' : List A) (ys ys' : List B) → AllPaired R xs ys → AllPaired R xs' ys' → AllPaired R (xs ++ xs') (ys ++ ys')
  paired-append xs xs' ys ys' no_pair w = w
  paired-append xs xs' ys ys' (and_pair {xs = us} {ys = vs} h k) w = and_pair h (paired-append us xs' vs ys' k w)

  paired-take : (n : ℕ) (xs : List A) (ys : List B) → AllPaired R xs ys → AllPaired R (take n xs) (take n ys)
  paired-take zero xs ys k = no_pair
  paired-take (suc n) xs ys no_pair = no_pair
  paired-take (suc n) xs ys (and_pair {xs = us} {ys = vs} h k) = and_pair h (paired-take n us vs k)

  paired-at : (k : ℕ) (xs : List A) (ys : List B) → AllPaired R xs ys → AllPaired R (item_at xs k) (item_at ys k)
  paired-at k xs ys no_pair = no_pair
  paired-at zero xs ys (and_pair h w) = and_pair h no_pair
  paired-at (suc k) xs ys (and_pair {xs = us} {ys = vs} h w) = paired-at k us vs w

  paired-named : (v : Datum) (xs : List A) (ys : List B) → AllPaired R xs ys → AllPaired R (item_named xs v) (item_named ys v)
  paired-named (int (pos k)) xs ys w = paired-at k xs ys w
  paired-named _ xs ys w = no_pair

  paired-kept : (ks : List Datum) (xs : List A) (ys : List B) → AllPaired R xs ys → AllPaired R (items_named xs ks) (items_named ys ks)
  paired-kept [] xs ys w = no_pair
  paired-kept (k ∷ ks) xs ys w =
      paired-append (item_named xs k) (items_named xs ks) (item_named ys k) (items_named ys ks) (paired-named k xs ys w) (paired-kept ks xs ys w)

-- a sample without an event turns nothing
quiet_or_cut : {L : Type 0} (r : Datum → Datum) (t : Network L) (s : Scope L) (fs : List (Frozen L)) (v : Datum)
    → ((turned r t s fs v ≡ fs) × (restart_in v ≡ None)) ⊎ ((a c : Datum) × (v ≡ pair a (event c)))
quiet_or_cut r t s fs (pair a (event c)) = inr (a, c, refl)
quiet_or_cut r t s fs _ = inl (refl, refl)

module _ {L : Type 0} (val : L → List Datum → Datum → Datum) where
  -- at a sample with the step d the frozen network goes on as the member
  abbrev pub GoesAs : ℕ → Frozen L → Member CountedFunction → Type 0
  GoesAs d (unstarted net s) m = (S : CountedContext) × Denotes val s S × (m ≡ (counted_meaning val net S, []))
  GoesAs d (paused a e) m = IsCountedFunction m.0 × (e ≡ d) × Stands val a m.0 m.1

  pub goes-counted : (d : ℕ) (f : Frozen L) (m : Member CountedFunction) → GoesAs d f m → IsCountedFunction m.0
  goes-counted d (unstarted net s) m h =
      subst (λ (l : Member CountedFunction). IsCountedFunction l.0) (sym h.2) (IsCounted-counted val net h.0 (Denotes-counted_each val s h.0 h.1))
  goes-counted d (paused a e) m h = h.0

  all-counted : (d : ℕ) (fs : List (Frozen L)) (ms : List (Member CountedFunction)) → AllPaired (GoesAs d) fs ms → AllMembers ms
  all-counted d fs ms no_pair = no_member
  all-counted d fs ms (and_pair {a = f} {b = m} {xs = gs} {ys = ns} h w) = and_member (goes-counted d f m h) (all-counted d gs ns w)

  each-starts : (d : ℕ) (t : Network L) (s : Scope L) (tc : Datum → CountedFunction) → ((v : Datum) → GoesAs d (unstarted t (push_param s v)) (tc v, []))
      → (vs : List Datum) → AllPaired (GoesAs d) (each_started t s vs) (new_members (map tc vs))
  each-starts d t s tc h [] = no_pair
  each-starts d t s tc h (v ∷ vs) = and_pair (h v) (each-starts d t s tc h vs)

  chosen-go : (d : ℕ) (t : Network L) (s : Scope L) (tc : Datum → CountedFunction) → ((v : Datum) → GoesAs d (unstarted t (push_param s v)) (tc v, []))
      → (fs : List (Frozen L)) (ms : List (Member CountedFunction)) (w : Datum) → AllPaired (GoesAs d) fs ms
      → AllPaired (GoesAs d) (chosen_frozen t s fs w) (chosen tc ms w)
  chosen-go d t s tc h fs ms w k =
      let old : List Datum = items_of (left w) in
      let new : List Datum = items_of (right w) in
      paired-take (GoesAs d) 64 (items_named fs old ++ each_started t s new) (items_named ms old ++ new_members (map tc new))
      (paired-append (GoesAs d) (items_named fs old) (each_started t s new) (items_named ms old) (new_members (map tc new)) (paired-kept (GoesAs d) old fs ms k)
      (each-starts d t s tc h new))

  all-start : (d : ℕ) (fs : Networks L) (s : Scope L) (S : CountedContext) → Denotes val s S
      → AllPaired (GoesAs d) (frozen_list (all_unstarted fs s)) (new_members (counted_meanings val fs S))
  all-start d no_members s S h = no_pair
  all-start d (and_member f fs) s S h = and_pair (S, h, refl) (all-start d fs s S h)

  -- the members that are written
  pub first-go : (d : ℕ) (fs : Networks L) (s : Scope L) (S : CountedContext) → Denotes val s S
      → AllPaired (GoesAs d) (first_frozen fs s) (moved (first_members (counted_meanings val fs S)) [])
  first-go d fs s S h =
      let cs : List CountedFunction = counted_meanings val fs S in
      subst (AllPaired (GoesAs d) (first_frozen fs s)) (sym (moved-nil (first_members cs)))
      (paired-take (GoesAs d) 64 (frozen_list (all_unstarted fs s)) (new_members cs) (all-start d fs s S h))

  pub first-counted : (fs : Networks L) (s : Scope L) (S : CountedContext) → Denotes val s S → AllMembers (first_members (counted_meanings val fs S))
  first-counted fs s S h =
      let cs : List CountedFunction = counted_meanings val fs S in
      all-counted 0 (first_frozen fs s) (first_members cs) (paired-take (GoesAs 0) 64 (frozen_list (all_unstarted fs s)) (new_members cs) (all-start 0 fs s S h))

  -- the members that run
  paused-go : (d : ℕ) (as' : States L) (ms : List (Member CountedFunction)) (q : TimedList) → StandEach val as' ms q
      → AllPaired (GoesAs d) (frozen_list (all_paused as' d)) (moved ms q)
  paused-go d no_state [] q h = no_pair
  paused-go d no_state (m ∷ ms) q h = absurd h
  paused-go d (and_state a as') [] q h = absurd h
  paused-go d (and_state a as') (m ∷ ms) q h = and_pair (h.0, refl, h.1) (paused-go d as' ms q h.2)

  standing-counted : (as' : States L) (ms : List (Member CountedFunction)) (q : TimedList) → StandEach val as' ms q → AllMembers ms
  standing-counted no_state [] q h = no_member
  standing-counted no_state (m ∷ ms) q h = absurd h
  standing-counted (and_state a as') [] q h = absurd h
  standing-counted (and_state a as') (m ∷ ms) q h = and_member h.0 (standing-counted as' ms q h.2)

  StandEach-moved : (as' : States L) (ms : List (Member CountedFunction)) (q r : TimedList) → StandEach val as' (moved ms q) r → StandEach val as' ms (q ++ r)
  StandEach-moved no_state [] q r h = tt
  StandEach-moved no_state (m ∷ ms) q r h = absurd h
  StandEach-moved (and_state a as') [] q r h = absurd h
  StandEach-moved (and_state a as') (m ∷ ms) q r h = (h.0, subst (Stands val a m.0) (append_assoc m.1 q r) h.1, StandEach-moved as' ms q r h.2)

  module _ (m : Datum → Datum) (t : Network L) (s : Scope L) (tc : Datum → CountedFunction) (x : ℕ × Datum)
      (start : (v : Datum) → GoesAs x.0 (unstarted t (push_param s v)) (tc v, [])) (bs : States L) (ys : List Datum) (n : ℕ) where
    -- those that x turns to, whatever they are, take it in
    abbrev pub TurnedTake : List (Frozen L) → Type 0
    TurnedTake fs = (ns : List (Member CountedFunction)) → AllPaired (GoesAs x.0) (turned m t s fs x.1) ns → AllTook (StandEach val bs) ns (x.0, left x.1) ys n

    pub collection_took : (fs : List (Frozen L)) (ms : List (Member CountedFunction)) → AllMembers ms → (q : TimedList) → Uncut q
        → AllPaired (GoesAs x.0) fs (moved ms (each_value left q)) → TurnedTake fs
        → TakesSample (StandsVia (RpSwitchStands m (StandEach val bs) tc)) (counted_members m ms tc) q x (list (list_of ys)) (suc n)
    collection_took fs ms am q u go k =
        let so_far : TimedList = each_value left q in
        elim (quiet_or_cut m t s fs x.1) [
          | inl h ↦
              let one : AllTook (StandEach val bs) (moved ms so_far) (x.0, left x.1) ys n =
              k (moved ms so_far) (subst (λ gs. AllPaired (GoesAs x.0) gs (moved ms so_far)) (sym h.0) go) in
              rp_switch_took m tc ms am q x u {M = StandEach val bs} {N = StandEach val bs} ys n h.1 one
              (StandEach-moved bs ms so_far ((x.0, left x.1) ∷ []) one.stand)
          | inr h ↦
              let over : List (Member CountedFunction) = chosen tc (moved ms so_far) (m h.1) in
              let all : AllPaired (GoesAs x.0) (chosen_frozen t s fs (m h.1)) over = chosen-go x.0 t s tc start fs (moved ms so_far) (m h.1) go in
              let one : AllTook (StandEach val bs) over (x.0, left x.1) ys n = k over (subst (λ v. AllPaired (GoesAs x.0) (turned m t s fs v) over) (sym h.2) all) in
              rp_switch_over_took m tc ms am q x u h.0 h.1 h.2 (all-counted x.0 (chosen_frozen t s fs (m h.1)) over all) {M = StandEach val bs} ys n
              (subst (λ v. AllTook (StandEach val bs) over (x.0, left v) ys n) h.2 one)
        ]

    -- a collection that runs
    pub collection_moves : (as' : States L) (c : CountedFunction) (q : TimedList) → RpSwitchStands m (StandEach val as') tc c q
        → TurnedTake (frozen_list (all_paused as' x.0)) → TakesSample (StandsVia (RpSwitchStands m (StandEach val bs) tc)) c q x (list (list_of ys)) (suc n)
    collection_moves as' c q h k =
        let so_far : TimedList = each_value left q in
        subst (λ d. TakesSample (StandsVia (RpSwitchStands m (StandEach val bs) tc)) d q x (list (list_of ys)) (suc n)) (sym h.same)
        (collection_took (frozen_list (all_paused as' x.0)) h.ms (standing-counted as' h.ms so_far h.members) q h.uncut
        (paused-go x.0 as' h.ms so_far h.members) k)
