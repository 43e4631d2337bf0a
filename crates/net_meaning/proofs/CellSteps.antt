-- What the cells keep of the past, one sample on.
use Rattle.std.proofs.Common.{◌≡◌, ℕ, ◌+◌, ◌/◌, ℤ, pos, ◌+ℤ◌, ◌*ℤ◌, true, false, List, [], ◌∷◌, ◌++◌, map, length, refl, sym, ap, ◌∙◌, arith, nat_le, nat_lt, ◌&&◌, if◌then◌else◌}
use Rattle.std.proofs.lemmas.List.{map_push}
use Rattle.std.specs.Int.{int_wrap, w64}
use Rattle.std.proofs.lemmas.Int.{int_wrap-add_left}
use Rattle.std.proofs.Math.IntN.{+ℤ_comm, +ℤ_assoc}
use Rattle.sample_core.specs.Datum.{Datum, event, pair, int_of, int}
use Rattle.net_meaning.specs.SignalFunction.{TimedList, last_or, values, times, times_after, time_at, before_last, i_pre_value, latest_event, fold_events, area, latest_by, integral_value, after_value, repeatedly_value, when, first_sample}
use Rattle.net_meaning.proofs.Steps.{last_or-push}

pub before_last_push : {A : Type 0} (p : List A) (x : A) → before_last (p ++ x ∷ []) ≡ p
before_last_push [] x = refl
before_last_push (y ∷ []) x = refl
before_last_push (y ∷ z ∷ p) x = ap (λ q. y ∷ q) (before_last_push (z ∷ p) x)

pub values_push : (p : TimedList) (x : ℕ × Datum) → values (p ++ x ∷ []) ≡ values p ++ x.1 ∷ []
values_push p x = map_push (λ y. y.1) p x

times_after_push : (t : ℕ) (p : TimedList) (x : ℕ × Datum) → times_after t (p ++ x ∷ []) ≡ times_after t p ++ (last_or t (times_after t p) + x.0) ∷ []
times_after_push t [] x = refl
times_after_push t (y ∷ p) x = ap (λ ts. (t + y.0) ∷ ts) (times_after_push (t + y.0) p x)

-- the time at one sample more
pub times_push : (y : ℕ × Datum) (p : TimedList) (x : ℕ × Datum) → times (y ∷ p ++ x ∷ []) ≡ times (y ∷ p) ++ (time_at (y ∷ p) + x.0) ∷ []
times_push y p x = ap (λ ts. 0 ∷ ts) (times_after_push 0 p x)

pub time_at_push : (y : ℕ × Datum) (p : TimedList) (x : ℕ × Datum) → time_at (y ∷ p ++ x ∷ []) ≡ time_at (y ∷ p) + x.0
time_at_push y p x = ap (last_or 0) (times_push y p x) ∙ last_or-push 0 (times (y ∷ p)) (time_at (y ∷ p) + x.0)

-- `iPre`
pub i_pre_value_push : (c : Datum) (p : TimedList) (x : ℕ × Datum) → i_pre_value c (p ++ x ∷ []) ≡ last_or c (values p)
i_pre_value_push c p x = ap (λ q. last_or c (values q)) (before_last_push p x)

-- `hold`
pub latest_event-append : (c : Datum) (vs ws : List Datum) → latest_event c (vs ++ ws) ≡ latest_event (latest_event c vs) ws
latest_event-append c [] ws = refl
latest_event-append c (event v ∷ vs) ws = latest_event-append v vs ws
latest_event-append c (_ ∷ vs) ws = latest_event-append c vs ws

-- `accumBy`
pub fold_events-append : (g : Datum → Datum) (acc : Datum) (vs ws : List Datum) → fold_events g acc (vs ++ ws) ≡ fold_events g (fold_events g acc vs) ws
fold_events-append g acc [] ws = refl
fold_events-append g acc (event v ∷ vs) ws = fold_events-append g (g (pair acc v)) vs ws
fold_events-append g acc (_ ∷ vs) ws = fold_events-append g acc vs ws

-- `integral`: the sum one step on, and the wrapped one
area_push : (b : ℤ) (p : TimedList) (x : ℕ × Datum) → area b (p ++ x ∷ []) ≡ area b p +ℤ (pos x.0 *ℤ last_or b (map int_of (values p)))
area_push b [] x = +ℤ_comm (pos x.0 *ℤ b) (pos 0)
area_push b (y ∷ p) x = ap (λ z. (pos y.0 *ℤ b) +ℤ z) (area_push (int_of y.1) p x)
    ∙ sym (+ℤ_assoc (pos y.0 *ℤ b) (area (int_of y.1) p) (pos x.0 *ℤ last_or (int_of y.1) (map int_of (values p))))

pub integral_value_push : (y : ℕ × Datum) (p : TimedList) (x : ℕ × Datum)
    → integral_value (y ∷ p ++ x ∷ []) ≡ int (int_wrap w64 (int_of (integral_value (y ∷ p)) +ℤ (pos x.0 *ℤ last_or (int_of y.1) (map int_of (values p)))))
integral_value_push y p x = ap (λ z. int (int_wrap w64 z)) (area_push (int_of y.1) p x)
    ∙ ap int (sym (int_wrap-add_left w64 (area (int_of y.1) p) (pos x.0 *ℤ last_or (int_of y.1) (map int_of (values p)))))

-- `delay`: what is answered at `now` is the latest of the queue that is due; a later sample leaves it or gives a later one
pub latest_by-append : (q now : ℕ) (c : Datum) (ts us : List ℕ) (vs ws : List Datum) → length ts ≡ length vs
    → latest_by q now c (ts ++ us) (vs ++ ws) ≡ latest_by q now (latest_by q now c ts vs) us ws
latest_by-append q now c [] us [] ws e = refl
latest_by-append q now c [] us (v ∷ vs) ws e = absurd (omega arith)
latest_by-append q now c (t ∷ ts) us [] ws e = absurd (omega arith)
latest_by-append q now c (t ∷ ts) us (v ∷ vs) ws e =
    let e' : length ts ≡ length vs = omega arith in latest_by-append q now (if nat_le (t + q) now then v else c) ts us vs ws e'

-- `after` and `repeatedly`, where a sample came before
pub after_value_push : (q : ℕ) (c : Datum) (y : ℕ × Datum) (p : TimedList) (x : ℕ × Datum)
    → after_value q c (y ∷ p ++ x ∷ []) ≡ when (nat_le q (time_at (y ∷ p) + x.0) && nat_lt (time_at (y ∷ p)) q) c
after_value_push q c y p x =
    ap (λ t. when (nat_le q t && (if first_sample (y ∷ p ++ x ∷ []) then true else nat_lt (time_at (before_last (y ∷ p ++ x ∷ []))) q)) c) (time_at_push y p x)
    ∙ ap (λ b. when (nat_le q (time_at (y ∷ p) + x.0) && (if b then true else nat_lt (time_at (before_last (y ∷ p ++ x ∷ []))) q)) c) (not_first p)
    ∙ ap (λ r. when (nat_le q (time_at (y ∷ p) + x.0) && nat_lt (time_at r) q) c) (before_last_push (y ∷ p) x)
  where
    not_first : (r : TimedList) → first_sample (y ∷ r ++ x ∷ []) ≡ false
    not_first [] = refl
    not_first (z ∷ r) = refl

pub repeatedly_value_push : (q : ℕ) (c : Datum) (y : ℕ × Datum) (p : TimedList) (x : ℕ × Datum)
    → repeatedly_value q c (y ∷ p ++ x ∷ []) ≡ when (nat_lt (time_at (y ∷ p) / q) ((time_at (y ∷ p) + x.0) / q)) c
repeatedly_value_push q c y p x =
    ap (λ r. when (nat_lt (time_at r / q) (time_at (y ∷ p ++ x ∷ []) / q)) c) (before_last_push (y ∷ p) x)
    ∙ ap (λ t. when (nat_lt (time_at (y ∷ p) / q) (t / q)) c) (time_at_push y p x)
