-- The cells take a sample in.
use Rattle.std.proofs.Common.{◌≡◌, ℕ, suc, ◌+◌, ◌*◌, ◌/◌, ◌<◌, [], ◌∷◌, ◌++◌, refl, sym, ap, ap₂, ◌∙◌, arith, subst, pos, ◌&&◌, true, le_refl}
use Rattle.std.proofs.Math.Nat.{div-eq_of_lt}
use Rattle.std.proofs.lemmas.Bool.{le-leb, lt-leb, le-ltb}
use Rattle.std.specs.Int.{int_wrap, w64}
use Rattle.sample_core.specs.Datum.{Datum, unit, bool, int, pair, no_event, event, list, right, int_of}
use Rattle.net_meaning.specs.SignalFunction.{TimedList, last_or, values, fold_events, accum_by_value, if_event, delay_value, after_value, repeatedly_value, time_value, integral_value, when}
use Rattle.state_core.specs.CountedFunction.{StandsVia, TakesSample}
use Rattle.state_core.specs.CountedForms.{counted_cell}
use Rattle.cell_core.specs.Cell.{Cell, Keeps, cell_step, after_cell, previous, queue, latest, accumulating, waiting, over, recurring, ticking, summing}
use Rattle.state_core.specs.StandsByForm.{CellStands, AccumStands}
use Rattle.net_meaning.proofs.Steps.{last_or-push}
use Rattle.net_meaning.proofs.PlainSteps.{answer-by_past}
use Rattle.net_meaning.proofs.CellSteps.{values_push, fold_events-append}
use Rattle.step_core.proofs.CountedFunctions.{Via-here}
use Rattle.cell_core.specs.CellLaws.{handed_next, put_in, IsRight}
use Rattle.cell_core.proofs.DelayCells.{pick, waits-out, waits_first}
use Rattle.cell_core.proofs.KeptCells.{cell_step_law}
use Rattle.step_core.proofs.PlainCounts.{tally-ones}

pub cell_starts : (k : Cell) (h : TimedList → Datum) (x : ℕ × Datum) (v : Datum) → Keeps right k h x [] → v ≡ h (x ∷ [])
    → TakesSample (StandsVia (CellStands k)) (counted_cell h) [] x v 1
cell_starts k h x v e a = record {
  stands = Via-here (counted_cell h) (x ∷ []) (record { h = h; first_sample = x; further = []; keeps = e; same_past = refl; same = refl });
  answered = a ∙ sym (answer-by_past h [] x);
  counted = sym (tally-ones [] x);
}

wrapped-zero : int_wrap w64 (pos 0) ≡ pos 0
unfolding int_wrap
wrapped-zero = refl

pub delay_starts : (q : ℕ) (c : Datum) (z : ℕ × Datum)
    → TakesSample (StandsVia (CellStands (queue (suc q) c ((suc q, z.1) ∷ [])))) (counted_cell (delay_value (suc q) c)) [] z c 1
delay_starts q c z =
    cell_starts (queue (suc q) c ((suc q, z.1) ∷ [])) (delay_value (suc q) c) z c (c, refl, omega arith, waits_first (suc q) c z.1 (omega arith))
    (sym (waits-out (suc q) 0 c c ((suc q, z.1) ∷ []) (0 ∷ []) (z.1 ∷ []) (waits_first (suc q) c z.1 (omega arith))))

pub after_starts : (q : ℕ) (c : Datum) (k : Cell) (v : Datum) (z : ℕ × Datum) → after_cell q c ≡ (k, v)
    → TakesSample (StandsVia (CellStands k)) (counted_cell (after_value q c)) [] z v 1
after_starts q c k v z e =
    let P : Cell × Datum → Type 0 = λ r. TakesSample (StandsVia (CellStands r.0)) (counted_cell (after_value q c)) [] z r.1 1 in
    subst P e (pick P q 0 (over, event c) (waiting q c, no_event)
    (λ l. cell_starts over (after_value q c) z (event c) (q, c, refl, l) (sym (ap (λ b. when (b && true) c) (le-leb q 0 l))))
    (λ l. cell_starts (waiting q c) (after_value q c) z no_event (q, refl, l, omega arith) (sym (ap (λ b. when (b && true) c) (lt-leb q 0 l)))))

pub repeatedly_starts : (q : ℕ) (c : Datum) (z : ℕ × Datum)
    → TakesSample (StandsVia (CellStands (recurring (suc q) (suc q) c))) (counted_cell (repeatedly_value (suc q) c)) [] z no_event 1
repeatedly_starts q c z =
    let positive : 0 < suc q = omega arith in
    let nought : 0 / suc q ≡ 0 = div-eq_of_lt positive in
    let e : 0 + suc q ≡ suc q * suc 0 = omega arith in
    cell_starts (recurring (suc q) (suc q) c) (repeatedly_value (suc q) c) z no_event (
      refl,
      omega arith,
      le_refl (suc q),
      e
          ∙ ap (λ i. suc q * suc i) (sym nought),
    )
    (sym (ap (λ b. when b c) (le-ltb (0 / suc q) (0 / suc q) (le_refl (0 / suc q)))))

pub time_starts : (z : ℕ × Datum) → TakesSample (StandsVia (CellStands (ticking (pos 0)))) (counted_cell time_value) [] z (int (pos 0)) 1
time_starts z = cell_starts (ticking (pos 0)) time_value z (int (pos 0)) (refl, sym wrapped-zero) (ap int (sym wrapped-zero))

pub integral_starts : (z : ℕ × Datum) → TakesSample (StandsVia (CellStands (summing (pos 0) (int_of z.1)))) (counted_cell integral_value) [] z (int (pos 0)) 1
integral_starts z = cell_starts (summing (pos 0) (int_of z.1)) integral_value z (int (pos 0)) (refl, ap int (sym wrapped-zero), refl)
    (ap int (sym wrapped-zero))

-- a leaf that gives the event's value leaves what is handed in
put_in-right : (acc a : Datum) → put_in right acc a ≡ a
put_in-right acc unit = refl
put_in-right acc (bool b) = refl
put_in-right acc (int n) = refl
put_in-right acc (pair v w) = refl
put_in-right acc no_event = refl
put_in-right acc (event v) = refl
put_in-right acc (list vs) = refl

handed-right : (k : Cell) (a : Datum) → handed_next k right a ≡ a
handed-right (previous v) a = refl
handed-right (queue q out is) a = refl
handed-right (latest v) a = refl
handed-right (accumulating acc) a = put_in-right acc a
handed-right (waiting left c) a = refl
handed-right over a = refl
handed-right (recurring q left c) a = refl
handed-right (ticking z) a = refl
handed-right (summing z before) a = refl

pub cell_took : (k k' : Cell) (h : TimedList → Datum) (y : ℕ × Datum) (q : TimedList) (x : ℕ × Datum) (v : Datum)
    → cell_step k x ≡ (k', v) → Keeps right k h y q
    → TakesSample (StandsVia (CellStands k')) (counted_cell h) (y ∷ q) x v 1
cell_took k k' h y q x v e i =
    let here : IsRight right h y (q ++ x ∷ []) (cell_step k x) =
    subst (λ a. IsRight right h y (q ++ x ∷ []) (cell_step k (x.0, a))) (handed-right k x.1) (cell_step_law right k h y q x i) in
    let r : IsRight right h y (q ++ x ∷ []) (k', v) = subst (IsRight right h y (q ++ x ∷ [])) e here in
    record {
      stands = Via-here (counted_cell h) (y ∷ (q ++ x ∷ []))
          (record { h = h; first_sample = y; further = q ++ x ∷ []; keeps = r.0; same_past = refl; same = refl });
      answered = r.1 ∙ sym (answer-by_past h (y ∷ q) x);
      counted = sym (tally-ones (y ∷ q) x);
    }

pub accum_took : (g : Datum → Datum) (z : Datum) (q : TimedList) (x : ℕ × Datum) (acc acc' : Datum) → acc ≡ fold_events g z (values q)
    → acc' ≡ fold_events g acc (x.1 ∷ []) → TakesSample (StandsVia (AccumStands g acc')) (counted_cell (accum_by_value g z)) q x (if_event x.1 acc') 1
accum_took g z q x acc acc' e e' =
    let all : acc' ≡ fold_events g z (values (q ++ x ∷ [])) = e' ∙ ap (λ u. fold_events g u (x.1 ∷ [])) e ∙ sym (fold_events-append g z (values q) (x.1 ∷ []))
    ∙ ap (fold_events g z) (sym (values_push q x)) in
    record {
      stands = Via-here (counted_cell (accum_by_value g z)) (q ++ x ∷ []) (record { z = z; so_far = all; same = refl });
      answered = ap₂ if_event (sym (ap (last_or no_event) (values_push q x) ∙ last_or-push no_event (values q) x.1)) all
          ∙ sym (answer-by_past (accum_by_value g z) q x);
      counted = sym (tally-ones q x);
    }
