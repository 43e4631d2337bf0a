-- The queue of `delay` takes a sample in.
use Rattle.std.proofs.Common.{◌≡◌, ℕ, suc, ◌+◌, ◌-◌, ◌≤◌, ◌<◌, if◌then◌else◌, nat_le, List, [], ◌∷◌, ◌++◌, refl, sym, ap, ap₂, ◌∙◌, arith, subst, inl, inr, append_assoc, length-append, le_refl}
use Rattle.std.proofs.lemmas.Bool.{cases_lt, le-leb, lt-leb}
use Rattle.sample_core.specs.Datum.{Datum}
use Rattle.net_meaning.specs.SignalFunction.{latest_by}
use Rattle.cell_core.specs.Cell.{Pending, none_pending, one_pending, QueueWaits, due, count_down}
use Rattle.net_meaning.proofs.CellSteps.{latest_by-append}

-- a choice by a comparison
pub pick : {X : Type 0} (P : X → Type 0) (a b : ℕ) (u v : X) → (a ≤ b → P u) → (b < a → P v) → P (if nat_le a b then u else v)
pick P a b u v f g = elim (cases_lt b a) [
  | inl h ↦ subst (λ t. P (if t then u else v)) (sym (lt-leb a b h)) (g h)
  | inr h ↦ subst (λ t. P (if t then u else v)) (sym (le-leb a b h)) (f h)
]

pending-down : (q now d : ℕ) {l : ℕ} {is : List (ℕ × Datum)} {ts : List ℕ} {vs : List Datum} → Pending q now l is ts vs → d < l
    → Pending q (now + d) (l - d) (count_down d is) ts vs
pending-down q now d none_pending h = none_pending
pending-down q now d (one_pending {left = left} lo hi e rest) h =
    one_pending (omega arith) (omega arith) (omega arith) (pending-down q now d rest (omega arith))

pending-push : (q now : ℕ) (v : Datum) {l : ℕ} {is : List (ℕ × Datum)} {ts : List ℕ} {vs : List Datum} → Pending q now l is ts vs → l ≤ q
    → Pending q now l (is ++ (q, v) ∷ []) (ts ++ now ∷ []) (vs ++ v ∷ [])
pending-push q now v none_pending h = one_pending h (le_refl q) refl none_pending
pending-push q now v (one_pending lo hi e rest) h = one_pending lo hi e (pending-push q now v rest hi)

pending-out : (q now : ℕ) (o : Datum) {l : ℕ} {is : List (ℕ × Datum)} {ts : List ℕ} {vs : List Datum} → Pending q now l is ts vs → 1 ≤ l
    → latest_by q now o ts vs ≡ o
pending-out q now o none_pending h = refl
pending-out q now o (one_pending {left = left} {t = t} {v = v} {ts = ts} {vs = vs} lo hi e rest) h =
    let later : now < t + q = omega arith in
    ap (λ b. latest_by q now (if b then v else o) ts vs) (lt-leb (t + q) now later) ∙ pending-out q now o rest (omega arith)

-- those that become due
due_waits : (q now d : ℕ) (out : Datum) {l : ℕ} {is : List (ℕ × Datum)} {ts : List ℕ} {vs : List Datum} → Pending q now l is ts vs
    → QueueWaits q (now + d) out (due d out is).0 (due d out is).1 ts vs
due_waits q now d out none_pending =
    record {
      early_times = [];
      late_times = [];
      early_values = [];
      late_values = [];
      all_times = refl;
      all_values = refl;
      matched = refl;
      is_out = λ later h.
          refl;
      waiting_ones = none_pending;
    }
due_waits q now d out (one_pending {left = left} {t = t} {v = v} {is = is} {ts = ts} {vs = vs} lo hi e rest) =
    let w : QueueWaits q (now + d) v (due d v is).0 (due d v is).1 ts vs = due_waits q now d v rest in
    pick (λ r. QueueWaits q (now + d) out r.0 r.1 (t ∷ ts) (v ∷ vs)) left d (due d v is) (out, count_down d ((left, v) ∷ is))
    (λ h. record {
      early_times = t ∷ w.early_times;
      late_times = w.late_times;
      early_values = v ∷ w.early_values;
      late_values = w.late_values;
      all_times = ap (λ us. t ∷ us) w.all_times;
      all_values = ap (λ us. v ∷ us) w.all_values;
      matched = ap suc w.matched;
      is_out = λ later k.
          let past : t + q ≤ later = omega arith in
          ap (λ b. latest_by q later (if b then v else out) w.early_times w.early_values) (le-leb (t + q) later past) ∙ w.is_out later k;
      waiting_ones = w.waiting_ones;
    })
    (λ h. record {
      early_times = [];
      late_times = t ∷ ts;
      early_values = [];
      late_values = v ∷ vs;
      all_times = refl;
      all_values = refl;
      matched = refl;
      is_out = λ later k. refl;
      waiting_ones = one_pending (omega arith) (omega arith) (omega arith) (pending-down q now d rest h);
    })

-- time goes on by d, and v comes
pub waits_on : (q now d : ℕ) (c out v : Datum) (is : List (ℕ × Datum)) (ts : List ℕ) (vs : List Datum) → 1 ≤ q → QueueWaits q now c out is ts vs
    → QueueWaits q (now + d) c (due d out is).0 ((due d out is).1 ++ (q, v) ∷ []) (ts ++ (now + d) ∷ []) (vs ++ v ∷ [])
waits_on q now d c out v is ts vs l k =
    let w : QueueWaits q (now + d) out (due d out is).0 (due d out is).1 k.late_times k.late_values = due_waits q now d out k.waiting_ones in
    record {
      early_times = k.early_times ++ w.early_times;
      late_times = w.late_times ++ (now + d) ∷ [];
      early_values = k.early_values ++ w.early_values;
      late_values = w.late_values ++ v ∷ [];
      all_times =
          ap (λ us. us ++ (now + d) ∷ []) (k.all_times ∙ ap (λ us. k.early_times ++ us) w.all_times
          ∙ sym (append_assoc k.early_times w.early_times w.late_times))
          ∙ append_assoc (k.early_times ++ w.early_times) w.late_times ((now + d) ∷ []);
      all_values =
          ap (λ us. us ++ v ∷ []) (k.all_values ∙ ap (λ us. k.early_values ++ us) w.all_values ∙ sym (append_assoc k.early_values w.early_values w.late_values))
          ∙ append_assoc (k.early_values ++ w.early_values) w.late_values (v ∷ []);
      matched = length-append k.early_times w.early_times ∙ ap₂ (λ i j. i + j) k.matched w.matched ∙ sym (length-append k.early_values w.early_values);
      is_out = λ later h.
          let before : now ≤ later = omega arith in
          latest_by-append q later c k.early_times w.early_times k.early_values w.early_values k.matched
          ∙ ap (λ o. latest_by q later o w.early_times w.early_values) (k.is_out later before)
          ∙ w.is_out later h;
      waiting_ones = pending-push q (now + d) v w.waiting_ones l;
    }

-- what is out is what `delay` answers
pub waits-out : (q now : ℕ) (c out : Datum) (is : List (ℕ × Datum)) (ts : List ℕ) (vs : List Datum) → QueueWaits q now c out is ts vs
    → latest_by q now c ts vs ≡ out
waits-out q now c out is ts vs k =
    ap₂ (latest_by q now c) k.all_times k.all_values
    ∙ latest_by-append q now c k.early_times k.late_times k.early_values k.late_values k.matched
    ∙ ap (λ o. latest_by q now o k.late_times k.late_values) (k.is_out now (le_refl now))
    ∙ pending-out q now out k.waiting_ones (le_refl 1)

pub waits_first : (q : ℕ) (c v : Datum) → 1 ≤ q → QueueWaits q 0 c c ((q, v) ∷ []) (0 ∷ []) (v ∷ [])
waits_first q c v l = record {
  early_times = [];
  late_times = 0 ∷ [];
  early_values = [];
  late_values = v ∷ [];
  all_times = refl;
  all_values = refl;
  matched = refl;
  is_out = λ later k. refl;
  waiting_ones = one_pending l (le_refl q) refl none_pending;
}
