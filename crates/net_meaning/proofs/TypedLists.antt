-- Typed values stay typed in parts, pairs and rearrangements.
use Rattle.std.proofs.Common.{◌≡◌, ℕ, zero, suc, ◌+◌, List, [], ◌∷◌, ◌++◌, map, length, take, drop, sym, ap, arith, Bool, true, false, pos, Option, Some, None, subst, w64, lit<, if◌then◌else◌, nat_le}
use Rattle.std.proofs.lemmas.Int.{fits_signed_from_abs}
use Rattle.std.proofs.lemmas.Simd.{map-map}
use Rattle.sample_core.specs.Datum.{Datum, unit, pair, event, int_of, list_of}
use Rattle.net_meaning.specs.SignalFunction.{TimedList, values, with_values, pair_samples, pairs, each_value, last_or, before_last, i_pre_value, latest_by, latest_event, fold_events, if_event, when, integral_value, area, first_event, later, heads, tails, gather, prefixes, put_sample, pieces, Pieces}
use Rattle.sample_core.specs.TypeTree.{TypeTree, int_ty, pair_ty, event_ty, list_ty}
use Rattle.sample_core.specs.HasType.{HasType, HaveType, int_has, pair_has, no_event_has, event_has, list_has, end_has, more_has}
use Rattle.leaf_core.proofs.Soundness.{typed_wrapped}
use Rattle.net_meaning.specs.Typing.{TypedValues, no_value, and_value, TypedSamples, no_sample, and_sample}

pub typed_event : {A : TypeTree} (c : Datum) → HasType (event c) (event_ty A) → HasType c A
typed_event c (event_has h) = h

pub TypedValues-map : {A B : TypeTree} (h : Datum → Datum) (vs : List Datum) → ((v : Datum) → HasType v A → HasType (h v) B) → TypedValues A vs
    → TypedValues B (map h vs)
TypedValues-map h vs s no_value = no_value
TypedValues-map h vs s (and_value {v = v} {vs = vs'} k ks) = and_value (s v k) (TypedValues-map h vs' s ks)

pub typed_values : {A : TypeTree} (xs : TimedList) → TypedSamples A xs → TypedValues A (values xs)
typed_values xs no_sample = no_value
typed_values xs (and_sample {xs = xs'} h hs) = and_value h (typed_values xs' hs)

pub typed_with_values : {B : TypeTree} (xs : TimedList) (ys : List Datum) → TypedValues B ys → TypedSamples B (with_values xs ys)
typed_with_values [] ys h = no_sample
typed_with_values (x ∷ xs) [] h = no_sample
typed_with_values (x ∷ xs) (y ∷ ys) (and_value h hs) = and_sample h (typed_with_values xs ys hs)

pub typed_pair_samples : {A B : TypeTree} (xs : TimedList) (ys : List Datum) → TypedSamples A xs → TypedValues B ys
    → TypedSamples (pair_ty A B) (pair_samples xs ys)
typed_pair_samples [] ys h k = no_sample
typed_pair_samples (x ∷ xs) [] h k = no_sample
typed_pair_samples (x ∷ xs) (y ∷ ys) (and_sample h hs) (and_value k ks) = and_sample (pair_has h k) (typed_pair_samples xs ys hs ks)

pub typed_pairs : {A B : TypeTree} (vs ws : List Datum) → TypedValues A vs → TypedValues B ws → TypedValues (pair_ty A B) (pairs vs ws)
typed_pairs [] ws h k = no_value
typed_pairs (v ∷ vs) [] h k = no_value
typed_pairs (v ∷ vs) (w ∷ ws) (and_value h hs) (and_value k ks) = and_value (pair_has h k) (typed_pairs vs ws hs ks)

pub typed_each_value : {A B : TypeTree} (h : Datum → Datum) (xs : TimedList) → ((v : Datum) → HasType v A → HasType (h v) B) → TypedSamples A xs
    → TypedSamples B (each_value h xs)
typed_each_value h xs s no_sample = no_sample
typed_each_value h xs s (and_sample {x = x} {xs = xs'} k ks) = and_sample (s x.1 k) (typed_each_value h xs' s ks)

pub typed_append : {A : TypeTree} (vs ws : List Datum) → TypedValues A vs → TypedValues A ws → TypedValues A (vs ++ ws)
typed_append vs ws no_value k = k
typed_append vs ws (and_value {vs = vs'} h hs) k = and_value h (typed_append vs' ws hs k)

pub samples_append : {A : TypeTree} (xs ys : TimedList) → TypedSamples A xs → TypedSamples A ys → TypedSamples A (xs ++ ys)
samples_append xs ys no_sample k = k
samples_append xs ys (and_sample {xs = xs'} h hs) k = and_sample h (samples_append xs' ys hs k)

pub typed_take : {A : TypeTree} (n : ℕ) (vs : List Datum) → TypedValues A vs → TypedValues A (take n vs)
typed_take zero vs h = no_value
typed_take (suc n) [] h = no_value
typed_take (suc n) (v ∷ vs) (and_value h hs) = and_value h (typed_take n vs hs)

pub typed_drop : {A : TypeTree} (n : ℕ) (vs : List Datum) → TypedValues A vs → TypedValues A (drop n vs)
typed_drop zero vs h = h
typed_drop (suc n) [] h = no_value
typed_drop (suc n) (v ∷ vs) (and_value h hs) = typed_drop n vs hs

pub samples_take : {A : TypeTree} (n : ℕ) (xs : TimedList) → TypedSamples A xs → TypedSamples A (take n xs)
samples_take zero xs h = no_sample
samples_take (suc n) [] h = no_sample
samples_take (suc n) (x ∷ xs) (and_sample h hs) = and_sample h (samples_take n xs hs)

pub samples_drop : {A : TypeTree} (n : ℕ) (xs : TimedList) → TypedSamples A xs → TypedSamples A (drop n xs)
samples_drop zero xs h = h
samples_drop (suc n) [] h = no_sample
samples_drop (suc n) (x ∷ xs) (and_sample h hs) = samples_drop n xs hs

pub typed_last : {A : TypeTree} (d : Datum) (vs : List Datum) → HasType d A → TypedValues A vs → HasType (last_or d vs) A
typed_last d vs h no_value = h
typed_last d vs h (and_value {v = v} {vs = vs'} k ks) = typed_last v vs' k ks

samples_before_last : {A : TypeTree} (xs : TimedList) → TypedSamples A xs → TypedSamples A (before_last xs)
samples_before_last [] h = no_sample
samples_before_last (x ∷ []) h = no_sample
samples_before_last (x ∷ y ∷ xs) (and_sample h hs) = and_sample h (samples_before_last (y ∷ xs) hs)

-- the cells
pub typed_previous_of : {A : TypeTree} (c : Datum) (p : TimedList) → HasType c A → TypedSamples A p → HasType (i_pre_value c p) A
typed_previous_of c p h k = typed_last c (values (before_last p)) h (typed_values (before_last p) (samples_before_last p k))

typed_if : {A : TypeTree} (b : Bool) (v c : Datum) → HasType v A → HasType c A → HasType (if b then v else c) A
typed_if true v c h k = h
typed_if false v c h k = k

pub typed_latest_by : {A : TypeTree} (q now : ℕ) (c : Datum) (ts : List ℕ) (vs : List Datum) → HasType c A → TypedValues A vs
    → HasType (latest_by q now c ts vs) A
typed_latest_by q now c [] vs h k = h
typed_latest_by q now c (t ∷ ts) [] h k = h
typed_latest_by q now c (t ∷ ts) (v ∷ vs) h (and_value k ks) =
    typed_latest_by q now (if nat_le (t + q) now then v else c) ts vs (typed_if (nat_le (t + q) now) v c k h) ks

pub typed_latest_event : {A : TypeTree} (c : Datum) (vs : List Datum) → HasType c A → TypedValues (event_ty A) vs → HasType (latest_event c vs) A
typed_latest_event c vs h no_value = h
typed_latest_event c vs h (and_value {vs = vs'} no_event_has ks) = typed_latest_event c vs' h ks
typed_latest_event c vs h (and_value {vs = vs'} (event_has {v = v} k) ks) = typed_latest_event v vs' k ks

pub typed_fold_events : {Z V : TypeTree} (g : Datum → Datum) (acc : Datum) (vs : List Datum) → ((v : Datum) → HasType v (pair_ty Z V) → HasType (g v) Z)
    → HasType acc Z → TypedValues (event_ty V) vs → HasType (fold_events g acc vs) Z
typed_fold_events g acc vs s h no_value = h
typed_fold_events g acc vs s h (and_value {vs = vs'} no_event_has ks) = typed_fold_events g acc vs' s h ks
typed_fold_events g acc vs s h (and_value {vs = vs'} (event_has {v = v} k) ks) = typed_fold_events g (g (pair acc v)) vs' s (s (pair acc v) (pair_has h k)) ks

pub typed_if_event : {V Z : TypeTree} (v w : Datum) → HasType v (event_ty V) → HasType w Z → HasType (if_event v w) (event_ty Z)
typed_if_event v w no_event_has k = no_event_has
typed_if_event v w (event_has h) k = event_has k

pub typed_when : {C : TypeTree} (b : Bool) (c : Datum) → HasType c C → HasType (when b c) (event_ty C)
typed_when true c h = event_has h
typed_when false c h = no_event_has

-- a formula over typed samples, at each prefix
pub typed_by_past : {A B : TypeTree} (h : TimedList → Datum) (xs : TimedList) → ((p : TimedList) → TypedSamples A p → HasType (h p) B) → TypedSamples A xs
    → TypedValues B (map h (prefixes xs))
typed_by_past h xs s no_sample = no_value
typed_by_past {B = B} h xs s (and_sample {x = x} {xs = xs'} k ks) =
    and_value (s (x ∷ []) (and_sample k no_sample))
    (subst (TypedValues B) (sym (map-map h (λ p. x ∷ p) (prefixes xs'))) (typed_by_past (λ p. h (x ∷ p)) xs' (λ p j. s (x ∷ p) (and_sample k j)) ks))

pub typed_integral_value : (p : TimedList) → HasType (integral_value p) int_ty
typed_integral_value [] = int_has (fits_signed_from_abs w64 (pos 0) (lit< tt))
typed_integral_value (x ∷ p) = typed_wrapped (area (int_of x.1) p)

carried : Option (ℕ × Datum) → Datum
carried None = unit
carried (Some e) = e.1

later-some : (o : Option (ℕ × Datum)) (n : ℕ) (c : Datum) → later o ≡ Some (n, c) → (m : ℕ) × (o ≡ Some (m, c))
unfolding carried
later-some None n c e = absurd (cc)
later-some (Some p) n c e = (p.0, ap (λ v. Some (p.0, v)) (ap carried e))

-- the value of the first event
pub typed_first : {C : TypeTree} (vs : List Datum) (n : ℕ) (c : Datum) → TypedValues (event_ty C) vs → first_event vs ≡ Some (n, c) → HasType c C
unfolding carried
typed_first vs n c no_value e = absurd (cc)
typed_first vs n c (and_value {vs = vs'} no_event_has ks) e =
    let i : (m : ℕ) × (first_event vs' ≡ Some (m, c)) = later-some (first_event vs') n c e in typed_first vs' i.0 c ks i.1
typed_first {C = C} vs n c (and_value {vs = vs'} (event_has {v = v} k) ks) e = let q : v ≡ c = ap carried e in subst (λ w. HasType w C) q k

-- rows of n typed items
pub data TypedRows (A : TypeTree) (n : ℕ) : List (List Datum) → Type 0 where
  no_typed_row : TypedRows A n []
  and_typed_row : {row : List Datum} {rows : List (List Datum)} → length row ≡ n → TypedValues A row → TypedRows A n rows → TypedRows A n (row ∷ rows)

typed_heads : {A : TypeTree} {n : ℕ} (rows : List (List Datum)) → TypedRows A (suc n) rows → HaveType (list_of (heads rows)) A
typed_heads [] h = end_has
typed_heads ([] ∷ rows) (and_typed_row l k ks) = absurd (omega arith)
typed_heads ((v ∷ row) ∷ rows) (and_typed_row l (and_value k k') ks) = more_has k (typed_heads rows ks)

typed_tails : {A : TypeTree} {n : ℕ} (rows : List (List Datum)) → TypedRows A (suc n) rows → TypedRows A n (tails rows)
typed_tails [] h = no_typed_row
typed_tails ([] ∷ rows) (and_typed_row l k ks) = absurd (omega arith)
typed_tails ((v ∷ row) ∷ rows) (and_typed_row l (and_value k k') ks) = and_typed_row (omega arith) k' (typed_tails rows ks)

pub typed_gather : {A : TypeTree} (xs : TimedList) (rows : List (List Datum)) → TypedRows A (length xs) rows → TypedValues (list_ty A) (gather xs rows)
typed_gather [] rows h = no_value
typed_gather (x ∷ xs) rows h = and_value (list_has (typed_heads rows h)) (typed_gather xs (tails rows) (typed_tails rows h))

-- pieces of typed samples
pub data TypedPieces (D C : TypeTree) : List (Datum × TimedList) → Type 0 where
  no_piece : TypedPieces D C []
  and_piece : {q : Datum × TimedList} {qs : List (Datum × TimedList)} → HasType q.0 C → TypedSamples D q.1 → TypedPieces D C qs → TypedPieces D C (q ∷ qs)

pub put_typed : {D C : TypeTree} (d : ℕ) (v : Datum) (p : Pieces) → HasType v (pair_ty D (event_ty C)) → TypedSamples D p.0 × TypedPieces D C p.1
    → TypedSamples D (put_sample d v p).0 × TypedPieces D C (put_sample d v p).1
put_typed d v p (pair_has k no_event_has) h = (and_sample k h.0, h.1)
put_typed d v p (pair_has k (event_has j)) h = (no_sample, and_piece j (and_sample k h.0) h.1)

pub typed_pieces : {D C : TypeTree} (xs : TimedList) → TypedSamples (pair_ty D (event_ty C)) xs → TypedSamples D (pieces xs).0 × TypedPieces D C (pieces xs).1
typed_pieces [] h = (no_sample, no_piece)
typed_pieces (x ∷ xs) (and_sample h hs) = put_typed x.0 x.1 (pieces xs) h (typed_pieces xs hs)
