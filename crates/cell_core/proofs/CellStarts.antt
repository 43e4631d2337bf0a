-- The cells start as their forms' formulas say.
use Rattle.std.proofs.Common.{◌≡◌, ℕ, suc, ◌+◌, ◌*◌, ◌/◌, ◌<◌, ◌≤◌, [], ◌∷◌, refl, sym, ap, ◌∙◌, arith, pos, ◌&&◌, true, le_refl}
use Rattle.std.proofs.Math.Nat.{div-eq_of_lt}
use Rattle.std.proofs.lemmas.Bool.{le-leb, lt-leb, le-ltb}
use Rattle.std.specs.Int.{int_wrap, w64}
use Rattle.sample_core.specs.Datum.{Datum, int, no_event, event}
use Rattle.net_meaning.specs.SignalFunction.{latest_event, if_event, delay_value, after_value, repeatedly_value, when}
use Rattle.cell_core.specs.Cell.{QueueWaits, after_cell, queue, waiting, over, recurring}
use Rattle.cell_core.specs.CellLaws.{put_in, IsRight, CellStartLaw}
use Rattle.cell_core.specs.declared.form.Form.TheVariants as F
use Rattle.cell_core.proofs.DelayCells.{pick, waits-out, waits_first}
use Rattle.cell_core.proofs.KeptCells.{put_in-latest, put_in-if_event}

wrapped-zero : int_wrap w64 (pos 0) ≡ pos 0
unfolding int_wrap
wrapped-zero = refl

delay_start : (q : ℕ) (c : Datum) (g : Datum → Datum) (y : ℕ × Datum) → 1 ≤ q → IsRight g (delay_value q c) y [] (queue q c ((q, y.1) ∷ []), c)
delay_start q c g y l =
    let w : QueueWaits q 0 c c ((q, y.1) ∷ []) (0 ∷ []) (y.1 ∷ []) = waits_first q c y.1 l in
    ((c, refl, l, w), sym (waits-out q 0 c c ((q, y.1) ∷ []) (0 ∷ []) (y.1 ∷ []) w))

after_start : (q : ℕ) (c : Datum) (g : Datum → Datum) (y : ℕ × Datum) → IsRight g (after_value q c) y [] (after_cell q c)
after_start q c g y =
    pick (IsRight g (after_value q c) y []) q 0 (over, event c) (waiting q c, no_event)
    (λ l. ((q, c, refl, l), sym (ap (λ b. when (b && true) c) (le-leb q 0 l))))
    (λ l. ((q, refl, l, omega arith), sym (ap (λ b. when (b && true) c) (lt-leb q 0 l))))

repeatedly_start : (q : ℕ) (c : Datum) (g : Datum → Datum) (y : ℕ × Datum) → 1 ≤ q → IsRight g (repeatedly_value q c) y [] (recurring q q c, no_event)
repeatedly_start q c g y l =
    let positive : 0 < q = omega arith in
    let nought : 0 / q ≡ 0 = div-eq_of_lt positive in
    let e : 0 + q ≡ q * suc 0 = omega arith in
    ((refl, l, le_refl q, e ∙ ap (λ i. q * suc i) (sym nought)), sym (ap (λ b. when b c) (le-ltb (0 / q) (0 / q) (le_refl (0 / q)))))

pub cell_start_law : CellStartLaw
cell_start_law F.IPre c g y w = ((c, refl, refl), refl)
cell_start_law F.Hold c g y w = ((c, refl, refl), refl)
cell_start_law (F.Delay q) c g y w = delay_start q c g y w
cell_start_law F.AccumBy c g y w = (
  (c, refl, put_in-latest g c y.1),
  put_in-if_event g c y.1 (latest_event c (put_in g c y.1 ∷ [])) ∙ ap (if_event y.1) (put_in-latest g c y.1),
)
cell_start_law (F.After q) c g y w = after_start q c g y
cell_start_law (F.Repeatedly q) c g y w = repeatedly_start q c g y w
cell_start_law F.Time c g y w = ((refl, sym wrapped-zero), ap int (sym wrapped-zero))
cell_start_law F.Integral c g y w = ((refl, ap int (sym wrapped-zero), refl), ap int (sym wrapped-zero))
