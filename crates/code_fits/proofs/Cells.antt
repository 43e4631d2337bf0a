-- What cells keep fits, and what they answer.
use Rattle.std.proofs.Common.{◌≡◌, ◌≤◌, ◌<◌, ◌+◌, ◌-◌, ◌%◌, ◌^◌, ℕ, suc, pos, ◌+ℤ◌, ◌*ℤ◌, Bool, true, false, if◌then◌else◌, nat_le, List, [], ◌∷◌, ◌++◌, length, refl, arith, subst, w64}
use Rattle.std.specs.Prelude.{FitsSigned}
use Rattle.std.specs.Int.{int_wrap}
use Rattle.std.proofs.lemmas.Int.{SFits-int_wrap}
use Rattle.sample_core.specs.Datum.{Datum, no_event, event, int_of}
use Rattle.sample_core.specs.TypeTree.{TypeTree, int_ty, event_ty}
use Rattle.leaf_code.specs.Fitting.{Bounds, Fits, int_fits, no_event_fits, event_fits}
use Rattle.net_meaning.specs.SignalFunction.{latest_event}
use Rattle.cell_core.specs.Cell.{Cell, waiting, over, recurring, due, count_down, enqueue, after_cell}
use Rattle.cell_core.specs.declared.form.Form.{Form}
use Rattle.cell_core.specs.declared.form.Form.TheVariants as C
use Rattle.net_machine.specs.Store.{Moment, start, step}
use Rattle.net_machine.specs.Stepper.{cell_at}
use Rattle.net_machine.specs.Machine.{no_leaf}
use Rattle.code_fits.specs.Rules.{CellTyped, i_pre_typed, delay_typed, hold_typed, after_typed, repeatedly_typed}
use Rattle.code_fits.specs.Standing.{Waits, none_waits, one_waits, CellFits, previous_fits, queue_fits, held_fits, waiting_fits, over_fits, recurring_fits, ticking_fits, summing_fits}

-- at a step of 63 bits; at the start nothing is asked
abbrev pub At : Moment → Type 0 → Type 0
At start P = Unit {0}
At (step d) P = (1 ≤ d) × (d < 2 ^ 63) × P

pub at-map : {P Q : Type 0} (m : Moment) → (P → Q) → At m P → At m Q
at-map start f h = tt
at-map (step d) f h = (h.0, h.1, f h.2)

module _ (bound : Bounds) where
  -- a cell and its answer fit
  abbrev pub BothFit : Form → TypeTree → TypeTree → Cell × Datum → Type 0
  BothFit form T B r = CellFits bound form T r.0 × Fits bound r.1 B

  waits-length : {q : ℕ} {T : TypeTree} (l : ℕ) (is : List (ℕ × Datum)) → Waits bound q T l is → l ≤ suc q → length is + l ≤ suc q
  waits-length l [] none_waits i = omega arith
  waits-length l ((t, v) ∷ is) (one_waits a b f w) i =
      let h : length is + suc t ≤ suc _ = waits-length (suc t) is w (omega arith) in omega arith

  -- what waits a time d later, where more than d is left to all
  counted : {q : ℕ} {T : TypeTree} (d l : ℕ) (is : List (ℕ × Datum)) → Waits bound q T l is → d < l → Waits bound (q - d) T (l - d) (count_down d is)
  counted d l [] none_waits i = none_waits
  counted {q = q} {T = T} d l ((t, v) ∷ is) (one_waits a b f w) i =
      let e : suc t - d ≡ suc (t - d) = omega arith in
      one_waits (omega arith) (omega arith) f (subst (λ n. Waits bound (q - d) T n (count_down d is)) e (counted d (suc t) is w (omega arith)))

  -- what is out and what waits, of which more than l is left to all
  abbrev Due : ℕ → TypeTree → Datum × List (ℕ × Datum) → Type 0
  Due q T r = Fits bound r.0 T × Waits bound q T 1 r.1

  waits-later : {q : ℕ} {T : TypeTree} (l k : ℕ) (is : List (ℕ × Datum)) → k ≤ l → Waits bound q T l is → Waits bound q T k is
  waits-later l k [] i none_waits = none_waits
  waits-later l k ((t, v) ∷ is) i (one_waits a b f w) = one_waits (omega arith) b f w

  due-fits : {q : ℕ} {T : TypeTree} (d l : ℕ) (out : Datum) (is : List (ℕ × Datum)) → Fits bound out T → Waits bound q T l is → Due (q - d) T (due d out is)
  due-fits d l out [] f none_waits = (f, none_waits)
  due-fits {q = q} {T = T} d l out ((t, v) ∷ is) f (one_waits a b h w) = by (nat_le t d) refl (due-fits d (suc t) v is h w)
    where
      by : (c : Bool) → nat_le t d ≡ c → Due (q - d) T (due d v is) → Due (q - d) T (if c then due d v is else (out, count_down d ((t, v) ∷ is)))
      by true e o = o
      by false e o =
          let more : d < t = grind (arith, e) in
          let c : Waits bound (q - d) T (t - d) (count_down d ((t, v) ∷ is)) = counted d t ((t, v) ∷ is) (one_waits (omega arith) b h w) more in
          (f, waits-later (t - d) 1 (count_down d ((t, v) ∷ is)) (omega arith) c)

  -- one more behind them
  waits-one : {q : ℕ} {A : TypeTree} (l p : ℕ) (is : List (ℕ × Datum)) (v : Datum) → Waits bound p A l is → p < q → l ≤ q → Fits bound v A → Waits bound q A l (is ++ (q, v) ∷ [])
  waits-one l p [] v none_waits i j f = one_waits j (omega arith) f none_waits
  waits-one l p ((t, u) ∷ is) v (one_waits a b h w) i j f = one_waits a (omega arith) h (waits-one (suc t) p is v w i (omega arith) f)

  queue-fits : (q d : ℕ) (T : TypeTree) (v out : Datum) (is : List (ℕ × Datum)) → 1 ≤ q → q ≤ 4096 → 1 ≤ d → Fits bound out T → Waits bound q T 1 is → Fits bound v T
      → BothFit (C.Delay q) T T (enqueue q v (due d out is))
  queue-fits q d T v out is a b i f w g =
      let h : Due (q - d) T (due d out is) = due-fits d 1 out is f w in
      let all : List (ℕ × Datum) = (due d out is).1 ++ (q, v) ∷ [] in
      let k : Waits bound q T 1 all = waits-one 1 (q - d) (due d out is).1 v h.1 (omega arith) a g in
      let l : length all + 1 ≤ suc q = waits-length 1 all k (omega arith) in
      (queue_fits b h.0 k (omega arith), h.0)

  latest-fits : (V : TypeTree) (c : Datum) {x : Datum} → Fits bound c V → Fits bound x (event_ty V) → Fits bound (latest_event c (x ∷ [])) V
  latest-fits V c f no_event_fits = f
  latest-fits V c f (event_fits h) = h

  pub int-of-fits : {x : Datum} → Fits bound x int_ty → FitsSigned w64 (int_of x)
  int-of-fits (int_fits h) = h

  zero-signed : FitsSigned w64 (pos 0)
  unfolding int_wrap
  zero-signed = SFits-int_wrap w64 (pos 0)

  after-start : (q : ℕ) (T : TypeTree) (c : Datum) → q ≤ 2 ^ 62 → Fits bound c T → BothFit (C.After q) T (event_ty T) (after_cell q c)
  after-start q T c i f = by (nat_le q 0)
    where
      by : (b : Bool) → BothFit (C.After q) T (event_ty T) (if b then (over, event c) else (waiting q c, no_event))
      by true = (over_fits, event_fits f)
      by false = (waiting_fits i f, no_event_fits)

  after-step : (q t d : ℕ) (T : TypeTree) (c : Datum) → t ≤ 2 ^ 62 → Fits bound c T
      → BothFit (C.After q) T (event_ty T) (if nat_le t d then (over, event c) else (waiting (t - d) c, no_event))
  after-step q t d T c i f = by (nat_le t d)
    where
      by : (b : Bool) → BothFit (C.After q) T (event_ty T) (if b then (over, event c) else (waiting (t - d) c, no_event))
      by true = (over_fits, event_fits f)
      by false = (waiting_fits (omega arith) f, no_event_fits)

  again : (q t d : ℕ) (T : TypeTree) (c : Datum) → 1 ≤ q → q ≤ 2 ^ 62 → t ≤ q → Fits bound c T
      → BothFit (C.Repeatedly q) T (event_ty T) (if nat_le t d then (recurring q (q - (d - t) % q) c, event c) else (recurring q (t - d) c, no_event))
  again q t d T c a b i f = by (nat_le t d)
    where
      by : (o : Bool) → BothFit (C.Repeatedly q) T (event_ty T) (if o then (recurring q (q - (d - t) % q) c, event c) else (recurring q (t - d) c, no_event))
      by true = (recurring_fits a b (omega arith) f, event_fits f)
      by false = (recurring_fits a b (omega arith) f, no_event_fits)

  -- a cell with a constant
  pub cell-fits : (form : Form) (V A B : TypeTree) (c : Datum) (k : Cell) (m : Moment) (v : Datum) → CellTyped form V A B → Fits bound c V → Fits bound v A
      → At m (CellFits bound form V k) → BothFit form V B (cell_at form c no_leaf k m v)
  cell-fits form V A B c k start v i_pre_typed f g h = (previous_fits g, f)
  cell-fits form V A B c k (step d) v i_pre_typed f g h = previous-step h.2
    where
      previous-step : {k : Cell} → CellFits bound C.IPre V k → BothFit C.IPre V V (cell_at C.IPre c no_leaf k (step d) v)
      previous-step (previous_fits i) = (previous_fits g, i)
  cell-fits form V A B c k start v (delay_typed {q = q} a b) f g h =
      (queue_fits b f (one_waits a (omega arith) g none_waits) (omega arith), f)
  cell-fits form V A B c k (step d) v (delay_typed {q = q} a b) f g h = queue-step h.2
    where
      queue-step : {k : Cell} → CellFits bound (C.Delay q) V k → BothFit (C.Delay q) V V (cell_at (C.Delay q) c no_leaf k (step d) v)
      queue-step (queue_fits {v = out} {is = is} i o w l) = queue-fits q d V v out is a b h.0 o w g
  cell-fits form V A B c k start v hold_typed f g h = let l : Fits bound (latest_event c (v ∷ [])) V = latest-fits V c f g in (held_fits l, l)
  cell-fits form V A B c k (step d) v hold_typed f g h = held-step h.2
    where
      held-step : {k : Cell} → CellFits bound C.Hold V k → BothFit C.Hold V V (cell_at C.Hold c no_leaf k (step d) v)
      held-step (held_fits {v = u} i) = let l : Fits bound (latest_event u (v ∷ [])) V = latest-fits V u i g in (held_fits l, l)
  cell-fits form V A B c k start v (after_typed {q = q} a) f g h = after-start q V c a f
  cell-fits form V A B c k (step d) v (after_typed {q = q} a) f g h = waiting-step h.2
    where
      waiting-step : {k : Cell} → CellFits bound (C.After q) V k → BothFit (C.After q) V (event_ty V) (cell_at (C.After q) c no_leaf k (step d) v)
      waiting-step (waiting_fits {t = t} {v = u} i j) = after-step q t d V u i j
      waiting-step over_fits = (over_fits, no_event_fits)
  cell-fits form V A B c k start v (repeatedly_typed {q = q} a b) f g h = (recurring_fits a b (omega arith) f, no_event_fits)
  cell-fits form V A B c k (step d) v (repeatedly_typed {q = q} a b) f g h = recurring-step h.2
    where
      recurring-step : {k : Cell} → CellFits bound (C.Repeatedly q) V k → BothFit (C.Repeatedly q) V (event_ty V) (cell_at (C.Repeatedly q) c no_leaf k (step d) v)
      recurring-step (recurring_fits {t = t} {v = u} i j l o) = again q t d V u a b l o

  -- `time`
  pub time-fits : (T : TypeTree) (c : Datum) (k : Cell) (m : Moment) (v : Datum) → At m (CellFits bound C.Time T k) → BothFit C.Time T int_ty (cell_at C.Time c no_leaf k m v)
  time-fits T c k start v h = (ticking_fits zero-signed, int_fits zero-signed)
  time-fits T c k (step d) v h = ticks h.2
    where
      ticks : {k : Cell} → CellFits bound C.Time T k → BothFit C.Time T int_ty (cell_at C.Time c no_leaf k (step d) v)
      ticks (ticking_fits {z = z} i) = let s : FitsSigned w64 (int_wrap w64 (z +ℤ pos d)) = SFits-int_wrap w64 (z +ℤ pos d) in (ticking_fits s, int_fits s)

  -- `integral`
  pub integral-fits : (T : TypeTree) (c : Datum) (k : Cell) (m : Moment) (v : Datum) → Fits bound v int_ty → At m (CellFits bound C.Integral T k)
      → BothFit C.Integral T int_ty (cell_at C.Integral c no_leaf k m v)
  integral-fits T c k start v f h = (summing_fits zero-signed (int-of-fits f), int_fits zero-signed)
  integral-fits T c k (step d) v f h = sums h.2
    where
      sums : {k : Cell} → CellFits bound C.Integral T k → BothFit C.Integral T int_ty (cell_at C.Integral c no_leaf k (step d) v)
      sums (summing_fits {z = z} {x = x} i j) =
          let s : FitsSigned w64 (int_wrap w64 (z +ℤ (pos d *ℤ x))) = SFits-int_wrap w64 (z +ℤ (pos d *ℤ x)) in (summing_fits s (int-of-fits f), int_fits s)
