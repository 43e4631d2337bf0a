-- Laws of the cells, on signals.
use Rattle.std.proofs.Common.{Bool, List, [], ap, ap₂, arith, false, if◌then◌else◌, length, map, nat_le, nat_lt, pos, refl, sym, true, ℕ, ◌&&◌, ◌+ℤ◌, ◌+◌, ◌∙◌, ◌∷◌, ◌≡◌}
use Rattle.std.proofs.Math.IntN.{+ℤ_idl, +ℤ_idr}
use Rattle.std.specs.Int.{int_wrap, w64}
use Rattle.std.proofs.lemmas.Int.{ints}
use Rattle.std.proofs.lemmas.List.{length-map}
use Rattle.std.proofs.lemmas.Simd.{map-map}
use mathlib.Core.Path.{fun_ext}
use Rattle.leaf_core.specs.ExpressionValue.{on_event}
use Rattle.net_meaning.specs.SignalFunction.{IsSignalFunction, SignalFunction, TimedList, accum_by_value, after_value, area, before_last, by_past, delay_value, each_value, first_function, first_sample, fold_events, i_pre_value, if_event, initial_out_function, integral_value, last_or, latest_by, latest_event, pairs, prefixes, repeatedly_value, seq_function, time_at, time_value, times, times_after, values, when, with_values}
use Rattle.net_meaning.specs.Typing.{TypedSamples, and_sample, no_sample}
use Rattle.sample_core.specs.Datum.{Datum, event, int, left, no_event, pair, right, unit}
use Rattle.sample_core.specs.HasType.{HasType, pair_has}
use Rattle.sample_core.specs.TypeTree.{TypeTree, pair_ty}
use Rattle.law_rules.proofs.ArrowLaws.{applied, both_sides, map-constant, sequence-before, swapped, values-each_value, values-with_values}
use Rattle.net_meaning.proofs.Prefixes.{length-prefixes}
use Rattle.net_meaning.proofs.TypedLists.{typed_latest_by, typed_previous_of, typed_values}

-- a formula over the samples so far, by its values there: there is at least one
pub by_past-same : (h k : TimedList → Datum) (xs : TimedList) → ((x : ℕ × Datum) (p : TimedList) → h (x ∷ p) ≡ k (x ∷ p)) → by_past h xs ≡ by_past k xs
by_past-same h k [] e = refl
by_past-same h k (x ∷ xs) e =
    ap₂ (λ v vs. v ∷ vs) (e x []) (map-map h (λ p. x ∷ p) (prefixes xs) ∙ ap (λ f. map f (prefixes xs)) (fun_ext (e x)) ∙ sym (map-map k (λ p. x ∷ p) (prefixes xs)))

pub prefixes-each_value : (h : Datum → Datum) (xs : TimedList) → prefixes (each_value h xs) ≡ map (each_value h) (prefixes xs)
prefixes-each_value h [] = refl
prefixes-each_value h (x ∷ xs) =
    let y : ℕ × Datum = (x.0, h x.1) in
    ap (λ ps. (y ∷ []) ∷ ps) (ap (map (λ p. y ∷ p)) (prefixes-each_value h xs) ∙ map-map (λ p. y ∷ p) (each_value h) (prefixes xs) ∙ sym (map-map (each_value h) (λ p. x ∷ p) (prefixes xs)))

pub by_past-each_value : (h : TimedList → Datum) (k : Datum → Datum) (xs : TimedList) → by_past h (each_value k xs) ≡ by_past (λ p. h (each_value k p)) xs
by_past-each_value h k xs = ap (map h) (prefixes-each_value k xs) ∙ map-map h (each_value k) (prefixes xs)

pub length-by_past : (h : TimedList → Datum) (xs : TimedList) → length (by_past h xs) ≡ length xs
length-by_past h xs = length-map (prefixes xs) h ∙ length-prefixes xs

-- `arr` before and after a cell
pub applied-by_past : (k : Datum → Datum) (h : TimedList → Datum) (xs : TimedList) → seq_function (applied k) (by_past h) xs ≡ by_past (λ p. h (each_value k p)) xs
applied-by_past k h xs = sequence-before k (by_past h) xs ∙ by_past-each_value h k xs

pub by_past-applied : (k : Datum → Datum) (h : TimedList → Datum) (xs : TimedList) → seq_function (by_past h) (applied k) xs ≡ by_past (λ p. k (h p)) xs
by_past-applied k h xs = ap (map k) (values-with_values xs (by_past h xs) (length-by_past h xs)) ∙ map-map k h (prefixes xs)

-- the last sample alone
by_past-last_or : (g : Datum → Datum) (v : Datum) (xs : TimedList) → by_past (λ p. g (last_or v (values p))) xs ≡ map g (values xs)
by_past-last_or g v [] = refl
by_past-last_or g v (x ∷ xs) = ap (λ vs. g x.1 ∷ vs) (map-map (λ p. g (last_or v (values p))) (λ p. x ∷ p) (prefixes xs) ∙ by_past-last_or g x.1 xs)

pub last_or-map : (g : Datum → Datum) (v : Datum) (vs : List Datum) → last_or (g v) (map g vs) ≡ g (last_or v vs)
last_or-map g v [] = refl
last_or-map g v (w ∷ vs) = last_or-map g w vs

before_last-each_value : (g : Datum → Datum) (p : TimedList) → before_last (each_value g p) ≡ each_value g (before_last p)
before_last-each_value g [] = refl
before_last-each_value g (x ∷ []) = refl
before_last-each_value g (x ∷ y ∷ p) = ap (λ q. (x.0, g x.1) ∷ q) (before_last-each_value g (y ∷ p))

times_after-each_value : (t : ℕ) (g : Datum → Datum) (p : TimedList) → times_after t (each_value g p) ≡ times_after t p
times_after-each_value t g [] = refl
times_after-each_value t g (x ∷ p) = ap (λ ts. (t + x.0) ∷ ts) (times_after-each_value (t + x.0) g p)

times-each_value : (g : Datum → Datum) (p : TimedList) → times (each_value g p) ≡ times p
times-each_value g [] = refl
times-each_value g (x ∷ p) = ap (λ ts. 0 ∷ ts) (times_after-each_value 0 g p)

-- L11
previous_of-each_value : (g : Datum → Datum) (c : Datum) (p : TimedList) → i_pre_value (g c) (each_value g p) ≡ g (i_pre_value c p)
previous_of-each_value g c p = ap (λ q. last_or (g c) (values q)) (before_last-each_value g p) ∙ ap (last_or (g c)) (values-each_value g (before_last p)) ∙ last_or-map g c (values (before_last p))

pub previous_of-applied : (g : Datum → Datum) (c : Datum) (xs : TimedList) → seq_function (by_past (i_pre_value c)) (applied g) xs ≡ seq_function (applied g) (by_past (i_pre_value (g c))) xs
previous_of-applied g c xs =
    by_past-applied g (i_pre_value c) xs ∙ by_past-same (λ p. g (i_pre_value c p)) (λ p. i_pre_value (g c) (each_value g p)) xs (λ x p. sym (previous_of-each_value g c (x ∷ p))) ∙ sym (applied-by_past g (i_pre_value (g c)) xs)

-- L26
if-applied : (g : Datum → Datum) (b : Bool) (v c : Datum) → (if b then g v else g c) ≡ g (if b then v else c)
if-applied g true v c = refl
if-applied g false v c = refl

latest_by-map : (g : Datum → Datum) (q now : ℕ) (c : Datum) (ts : List ℕ) (vs : List Datum) → latest_by q now (g c) ts (map g vs) ≡ g (latest_by q now c ts vs)
latest_by-map g q now c [] vs = refl
latest_by-map g q now c (t ∷ ts) [] = refl
latest_by-map g q now c (t ∷ ts) (v ∷ vs) = ap (λ w. latest_by q now w ts (map g vs)) (if-applied g (nat_le (t + q) now) v c) ∙ latest_by-map g q now (if nat_le (t + q) now then v else c) ts vs

delayed-each_value : (g : Datum → Datum) (q : ℕ) (c : Datum) (p : TimedList) → delay_value q (g c) (each_value g p) ≡ g (delay_value q c p)
delayed-each_value g q c p =
    ap₂ (λ ts vs. latest_by q (last_or 0 ts) (g c) ts vs) (times-each_value g p) (values-each_value g p) ∙ latest_by-map g q (time_at p) c (times p) (values p)

pub delayed-applied : (g : Datum → Datum) (q : ℕ) (c : Datum) (xs : TimedList) → seq_function (by_past (delay_value q c)) (applied g) xs ≡ seq_function (applied g) (by_past (delay_value q (g c))) xs
delayed-applied g q c xs =
    by_past-applied g (delay_value q c) xs ∙ by_past-same (λ p. g (delay_value q c p)) (λ p. delay_value q (g c) (each_value g p)) xs (λ x p. sym (delayed-each_value g q c (x ∷ p))) ∙ sym (applied-by_past g (delay_value q (g c)) xs)

-- L20: what sees the steps alone
same_steps : (xs : TimedList) (ys : List Datum) → length ys ≡ length xs → each_value (λ v. unit) (with_values xs ys) ≡ each_value (λ v. unit) xs
same_steps [] ys e = refl
same_steps (x ∷ xs) [] e = absurd (omega arith)
same_steps (x ∷ xs) (y ∷ ys) e = let e' : length ys ≡ length xs = omega arith in ap (λ zs. (x.0, unit) ∷ zs) (same_steps xs ys e')

sequence-steps : (h : TimedList → Datum) (f : SignalFunction) → IsSignalFunction f → ((p : TimedList) → h (each_value (λ v. unit) p) ≡ h p) → (xs : TimedList) → seq_function f (by_past h) xs ≡ by_past h xs
sequence-steps h f sf e xs =
    let blind : (zs : TimedList) → by_past h (each_value (λ v. unit) zs) ≡ by_past h zs = λ zs. by_past-each_value h (λ v. unit) zs ∙ ap (λ k. by_past k zs) (fun_ext e) in
    sym (blind (with_values xs (f xs))) ∙ ap (by_past h) (same_steps xs (f xs) (sf.sized xs)) ∙ blind xs

time_at-each_value : (g : Datum → Datum) (p : TimedList) → time_at (each_value g p) ≡ time_at p
time_at-each_value g p = ap (last_or 0) (times-each_value g p)

time_before-each_value : (g : Datum → Datum) (p : TimedList) → time_at (before_last (each_value g p)) ≡ time_at (before_last p)
time_before-each_value g p = ap time_at (before_last-each_value g p) ∙ time_at-each_value g (before_last p)

first_sample-each_value : (g : Datum → Datum) (p : TimedList) → first_sample (each_value g p) ≡ first_sample p
first_sample-each_value g [] = refl
first_sample-each_value g (x ∷ []) = refl
first_sample-each_value g (x ∷ y ∷ p) = refl

pub sequence-reached : (q : ℕ) (c : Datum) (f : SignalFunction) → IsSignalFunction f → (xs : TimedList) → seq_function f (by_past (after_value q c)) xs ≡ by_past (after_value q c) xs
sequence-reached q c f sf = sequence-steps (after_value q c) f sf λ p. rw (time_before-each_value (λ v. unit) p, time_at-each_value (λ v. unit) p, first_sample-each_value (λ v. unit) p)

pub sequence-repeated : (q : ℕ) (c : Datum) (f : SignalFunction) → IsSignalFunction f → (xs : TimedList) → seq_function f (by_past (repeatedly_value q c)) xs ≡ by_past (repeatedly_value q c) xs
sequence-repeated q c f sf = sequence-steps (repeatedly_value q c) f sf λ p. rw (time_before-each_value (λ v. unit) p, time_at-each_value (λ v. unit) p)

pub sequence-clock : (f : SignalFunction) → IsSignalFunction f → (xs : TimedList) → seq_function f (by_past time_value) xs ≡ by_past time_value xs
sequence-clock f sf = sequence-steps time_value f sf λ p. rw (time_at-each_value (λ v. unit) p)

-- what an event carries, changed
abbrev pub carrying : (Datum → Datum) → Datum → Datum
carrying g v = on_event v no_event (λ w. event (g w))

when-carrying : (g : Datum → Datum) (b : Bool) (c : Datum) → carrying g (when b c) ≡ when b (g c)
when-carrying g true c = refl
when-carrying g false c = refl

-- L21, L22
pub reached-carrying : (g : Datum → Datum) (q : ℕ) (c : Datum) (xs : TimedList) → seq_function (by_past (after_value q c)) (applied (carrying g)) xs ≡ by_past (after_value q (g c)) xs
reached-carrying g q c xs = by_past-applied (carrying g) (after_value q c) xs ∙ by_past-same (λ p. carrying g (after_value q c p)) (after_value q (g c)) xs (λ x p. when-carrying g _ c)

pub repeated-carrying : (g : Datum → Datum) (q : ℕ) (c : Datum) (xs : TimedList) → seq_function (by_past (repeatedly_value q c)) (applied (carrying g)) xs ≡ by_past (repeatedly_value q (g c)) xs
repeated-carrying g q c xs = by_past-applied (carrying g) (repeatedly_value q c) xs ∙ by_past-same (λ p. carrying g (repeatedly_value q c p)) (repeatedly_value q (g c)) xs (λ x p. when-carrying g _ c)

-- L23
held-carrying : (g : Datum → Datum) (c : Datum) (vs : List Datum) → latest_event (g c) (map (carrying g) vs) ≡ g (latest_event c vs)
held-carrying g c [] = refl
held-carrying g c (event v ∷ vs) = held-carrying g v vs
held-carrying g c (_ ∷ vs) = held-carrying g c vs

pub carrying-held : (g : Datum → Datum) (c : Datum) (xs : TimedList) → seq_function (applied (carrying g)) (by_past (λ p. latest_event (g c) (values p))) xs ≡ seq_function (by_past (λ p. latest_event c (values p))) (applied g) xs
carrying-held g c xs =
    applied-by_past (carrying g) (λ p. latest_event (g c) (values p)) xs
    ∙ by_past-same (λ p. latest_event (g c) (values (each_value (carrying g) p))) (λ p. g (latest_event c (values p))) xs (λ x p. ap (latest_event (g c)) (values-each_value (carrying g) (x ∷ p)) ∙ held-carrying g c (values (x ∷ p)))
    ∙ sym (by_past-applied g (λ p. latest_event c (values p)) xs)

-- L24
accumulated-carrying : (g : Datum → Datum) (h : Datum → Datum) (acc : Datum) (vs : List Datum) → fold_events h acc (map (carrying g) vs) ≡ fold_events (λ v. h (pair (left v) (g (right v)))) acc vs
accumulated-carrying g h acc [] = refl
accumulated-carrying g h acc (event v ∷ vs) = accumulated-carrying g h (h (pair acc (g v))) vs
accumulated-carrying g h acc (_ ∷ vs) = accumulated-carrying g h acc vs

if_event-carrying : (g : Datum → Datum) (v w : Datum) → if_event (carrying g v) w ≡ if_event v w
if_event-carrying g (event v) w = refl
if_event-carrying g _ w = refl

accumulation-carrying : (g h : Datum → Datum) (z : Datum) (p : TimedList) → accum_by_value h z (each_value (carrying g) p) ≡ accum_by_value (λ v. h (pair (left v) (g (right v)))) z p
accumulation-carrying g h z p =
    ap (λ vs. if_event (last_or no_event vs) (fold_events h z vs)) (values-each_value (carrying g) p)
    ∙ ap₂ if_event (last_or-map (carrying g) no_event (values p)) (accumulated-carrying g h z (values p))
    ∙ if_event-carrying g (last_or no_event (values p)) _

pub carrying-accumulation : (g h : Datum → Datum) (z : Datum) (xs : TimedList) → seq_function (applied (carrying g)) (by_past (accum_by_value h z)) xs ≡ by_past (accum_by_value (λ v. h (pair (left v) (g (right v)))) z) xs
carrying-accumulation g h z xs = applied-by_past (carrying g) (accum_by_value h z) xs ∙ ap (λ k. by_past k xs) (fun_ext (accumulation-carrying g h z))

-- L18
held-events : (e : Datum → Datum) (v : Datum) (p : TimedList) → latest_event (e v) (values (each_value (λ w. event (e w)) p)) ≡ e (last_or v (values p))
held-events e v [] = refl
held-events e v (x ∷ p) = held-events e x.1 p

pub held-event : (e : Datum → Datum) (c : Datum) (xs : TimedList) → seq_function (applied (λ v. event (e v))) (by_past (λ p. latest_event c (values p))) xs ≡ applied e xs
held-event e c xs =
    applied-by_past (λ v. event (e v)) (λ p. latest_event c (values p)) xs
    ∙ by_past-same (λ p. latest_event c (values (each_value (λ v. event (e v)) p))) (λ p. e (last_or unit (values p))) xs (λ x p. held-events e x.1 p)
    ∙ by_past-last_or e unit xs

-- L19
held-nothing : (c : Datum) (p : TimedList) → latest_event c (values (each_value (λ v. no_event) p)) ≡ c
held-nothing c [] = refl
held-nothing c (x ∷ p) = held-nothing c p

pub held-no_event : (c : Datum) (xs : TimedList) → seq_function (applied (λ v. no_event)) (by_past (λ p. latest_event c (values p))) xs ≡ applied (λ v. c) xs
held-no_event c xs =
    applied-by_past (λ v. no_event) (λ p. latest_event c (values p)) xs
    ∙ ap (λ k. by_past k xs) (fun_ext (held-nothing c))
    ∙ map-constant c (prefixes xs) (values xs) (length-prefixes xs ∙ sym (length-map xs (λ x. x.1)))

-- L12, L55
pairs-by_past : (h k : TimedList → Datum) (ps : List TimedList) → pairs (map h ps) (map k ps) ≡ map (λ p. pair (h p) (k p)) ps
pairs-by_past h k [] = refl
pairs-by_past h k (p ∷ ps) = ap (λ vs. pair (h p) (k p) ∷ vs) (pairs-by_past h k ps)

whole_pair : {A B : TypeTree} (v : Datum) → HasType v (pair_ty A B) → pair (left v) (right v) ≡ v
whole_pair v (pair_has h k) = refl

by_past-typed : {A : TypeTree} (h k : TimedList → Datum) (xs : TimedList) → TypedSamples A xs → ((p : TimedList) → TypedSamples A p → h p ≡ k p) → by_past h xs ≡ by_past k xs
by_past-typed h k xs no_sample e = refl
by_past-typed h k xs (and_sample {x = x} {xs = xs'} i is) e =
    ap₂ (λ v vs. v ∷ vs) (e (x ∷ []) (and_sample i no_sample))
    (map-map h (λ p. x ∷ p) (prefixes xs') ∙ by_past-typed (λ p. h (x ∷ p)) (λ p. k (x ∷ p)) xs' is (λ p j. e (x ∷ p) (and_sample i j)) ∙ sym (map-map k (λ p. x ∷ p) (prefixes xs')))

-- at pairs
previous_of-parts : {A B : TypeTree} (c d : Datum) (p : TimedList) → HasType (pair c d) (pair_ty A B) → TypedSamples (pair_ty A B) p → i_pre_value (pair c d) p ≡ pair (i_pre_value c (each_value left p)) (i_pre_value d (each_value right p))
previous_of-parts c d p h k =
    sym (whole_pair (i_pre_value (pair c d) p) (typed_previous_of (pair c d) p h k))
    ∙ sym (ap₂ pair (previous_of-each_value left (pair c d) p) (previous_of-each_value right (pair c d) p))

pub previous_of-pair : {A B : TypeTree} (c d : Datum) (xs : TimedList) → IsSignalFunction (by_past (i_pre_value c)) → IsSignalFunction (by_past (i_pre_value d)) → HasType (pair c d) (pair_ty A B) → TypedSamples (pair_ty A B) xs
    → by_past (i_pre_value (pair c d)) xs ≡ seq_function (first_function (by_past (i_pre_value c))) (seq_function (applied swapped) (seq_function (first_function (by_past (i_pre_value d))) (applied swapped))) xs
previous_of-pair c d xs sc sd h k =
    by_past-typed (i_pre_value (pair c d)) (λ p. pair (i_pre_value c (each_value left p)) (i_pre_value d (each_value right p))) xs k (λ p j. previous_of-parts c d p h j)
    ∙ sym (pairs-by_past (λ p. i_pre_value c (each_value left p)) (λ p. i_pre_value d (each_value right p)) (prefixes xs))
    ∙ sym (ap₂ pairs (by_past-each_value (i_pre_value c) left xs) (by_past-each_value (i_pre_value d) right xs))
    ∙ sym (both_sides (by_past (i_pre_value c)) (by_past (i_pre_value d)) sc sd xs)

-- L55
delayed-parts : {A B : TypeTree} (q : ℕ) (c d : Datum) (p : TimedList) → HasType (pair c d) (pair_ty A B) → TypedSamples (pair_ty A B) p → delay_value q (pair c d) p ≡ pair (delay_value q c (each_value left p)) (delay_value q d (each_value right p))
delayed-parts q c d p h k =
    sym (whole_pair (delay_value q (pair c d) p) (typed_latest_by q (time_at p) (pair c d) (times p) (values p) h (typed_values p k)))
    ∙ sym (ap₂ pair (delayed-each_value left q (pair c d) p) (delayed-each_value right q (pair c d) p))

pub delayed-pair : {A B : TypeTree} (q : ℕ) (c d : Datum) (xs : TimedList) → IsSignalFunction (by_past (delay_value q c)) → IsSignalFunction (by_past (delay_value q d)) → HasType (pair c d) (pair_ty A B) → TypedSamples (pair_ty A B) xs
    → by_past (delay_value q (pair c d)) xs ≡ seq_function (first_function (by_past (delay_value q c))) (seq_function (applied swapped) (seq_function (first_function (by_past (delay_value q d))) (applied swapped))) xs
delayed-pair q c d xs sc sd h k =
    by_past-typed (delay_value q (pair c d)) (λ p. pair (delay_value q c (each_value left p)) (delay_value q d (each_value right p))) xs k (λ p j. delayed-parts q c d p h j)
    ∙ sym (pairs-by_past (λ p. delay_value q c (each_value left p)) (λ p. delay_value q d (each_value right p)) (prefixes xs))
    ∙ sym (ap₂ pairs (by_past-each_value (delay_value q c) left xs) (by_past-each_value (delay_value q d) right xs))
    ∙ sym (both_sides (by_past (delay_value q c)) (by_past (delay_value q d)) sc sd xs)

-- the values of a formula behind the first sample
pub by_past-behind : (h k : TimedList → Datum) (x : ℕ × Datum) (xs : TimedList) → ((y : ℕ × Datum) (p : TimedList) → h (x ∷ y ∷ p) ≡ k (y ∷ p)) → map h (map (λ p. x ∷ p) (prefixes xs)) ≡ by_past k xs
by_past-behind h k x xs e = map-map h (λ p. x ∷ p) (prefixes xs) ∙ by_past-same (λ p. h (x ∷ p)) k xs e

-- L61
pub first-previous_of : (c d : Datum) (xs : TimedList) → initial_out_function c (by_past (i_pre_value d)) xs ≡ by_past (i_pre_value c) xs
first-previous_of c d [] = refl
first-previous_of c d (x ∷ xs) =
    ap (λ vs. c ∷ vs)
    (by_past-behind (i_pre_value d) (i_pre_value x.1) x xs (λ y p. refl) ∙ sym (by_past-behind (i_pre_value c) (i_pre_value x.1) x xs (λ y p. refl)))

-- L62
never-again : (c : Datum) (x y : ℕ × Datum) (p : TimedList) → after_value 0 c (x ∷ y ∷ p) ≡ no_event
never-again c x y p =
    ap (λ b. when b c) (before-zero (nat_le 0 (time_at (x ∷ y ∷ p))) (time_at (before_last (x ∷ y ∷ p))))
  where
    before-zero : (b : Bool) (n : ℕ) → b && nat_lt n 0 ≡ false
    before-zero true n = grind arith
    before-zero false n = refl

pub reached-at_once : (c : Datum) (xs : TimedList) → initial_out_function (event c) (applied (λ v. no_event)) xs ≡ by_past (after_value 0 c) xs
reached-at_once c [] = refl
reached-at_once c (x ∷ xs) =
    ap (λ vs. event c ∷ vs)
    (sym (by_past-behind (after_value 0 c) (λ p. no_event) x xs (never-again c x)
    ∙ map-constant no_event (prefixes xs) (values xs) (length-prefixes xs ∙ sym (length-map xs (λ x. x.1)))))

-- L63: the area under 1 is the time
abbrev ones : TimedList → TimedList
ones p = each_value (λ v. int (pos 1)) p

area-of_ones : (t : ℕ) (p : TimedList) → pos t +ℤ area (pos 1) (ones p) ≡ pos (last_or t (times_after t p))
area-of_ones t [] = +ℤ_idr (pos t)
area-of_ones t (x ∷ p) = omega (arith, ints, area-of_ones (t + x.0) p)

integral-of_ones : (x : ℕ × Datum) (p : TimedList) → integral_value (ones (x ∷ p)) ≡ time_value (x ∷ p)
integral-of_ones x p = ap (λ n. int (int_wrap w64 n)) (sym (+ℤ_idl (area (pos 1) (ones p))) ∙ area-of_ones 0 p)

pub integral-of_one : (xs : TimedList) → seq_function (applied (λ v. int (pos 1))) (by_past integral_value) xs ≡ by_past time_value xs
integral-of_one xs =
    applied-by_past (λ v. int (pos 1)) integral_value xs ∙ by_past-same (λ p. integral_value (ones p)) time_value xs integral-of_ones
