-- Each cell, stepped, keeps what its formula needs of one sample more, and answers it.
use Rattle.std.proofs.Common.{◌≡◌, ℕ, suc, ◌+◌, ◌-◌, ◌*◌, ◌/◌, ◌%◌, ◌≤◌, ◌<◌, ℤ, pos, ◌+ℤ◌, ◌*ℤ◌, ◌&&◌, nat_le, nat_lt, List, [], ◌∷◌, ◌++◌, map, refl, sym, ap, ap₂, ◌∙◌, arith, subst}
use Rattle.std.proofs.Math.Nat.{mul-add-div, mul-div-le, div-eq_of_lt, div-add-mod, mod-lt}
use Rattle.std.proofs.lemmas.Bool.{le-leb, lt-leb, lt-ltb, le-ltb, and_right}
use Rattle.std.proofs.lemmas.List.{map_push}
use Rattle.std.specs.Int.{int_wrap, w64}
use Rattle.std.proofs.lemmas.Int.{int_wrap-add_left}
use Rattle.sample_core.specs.Datum.{Datum, unit, bool, int, pair, no_event, event, list, int_of}
use Rattle.net_meaning.specs.SignalFunction.{TimedList, last_or, values, times, time_at, latest_event, fold_events, if_event, integral_value, when}
use Rattle.cell_core.specs.Cell.{Keeps, cell_step, previous, queue, latest, accumulating, waiting, over, recurring, ticking, summing, due, QueueWaits}
use Rattle.cell_core.specs.CellLaws.{put_in, IsRight, CellStepLaw}
use Rattle.net_meaning.proofs.Steps.{last_or-push}
use Rattle.net_meaning.proofs.CellSteps.{values_push, i_pre_value_push, latest_event-append, fold_events-append, time_at_push, times_push, after_value_push, repeatedly_value_push, integral_value_push}
use Rattle.cell_core.proofs.DelayCells.{pick, waits_on, waits-out}

-- what is put in for a value gives the accumulator and the answer
pub put_in-latest : (g : Datum → Datum) (acc a : Datum) → latest_event acc (put_in g acc a ∷ []) ≡ fold_events g acc (a ∷ [])
put_in-latest g acc unit = refl
put_in-latest g acc (bool b) = refl
put_in-latest g acc (int n) = refl
put_in-latest g acc (pair v w) = refl
put_in-latest g acc no_event = refl
put_in-latest g acc (event v) = refl
put_in-latest g acc (list vs) = refl

pub put_in-if_event : (g : Datum → Datum) (acc a w : Datum) → if_event (put_in g acc a) w ≡ if_event a w
put_in-if_event g acc unit w = refl
put_in-if_event g acc (bool b) w = refl
put_in-if_event g acc (int n) w = refl
put_in-if_event g acc (pair v u) w = refl
put_in-if_event g acc no_event w = refl
put_in-if_event g acc (event v) w = refl
put_in-if_event g acc (list vs) w = refl

module _ (g : Datum → Datum) (h : TimedList → Datum) (y : ℕ × Datum) (p : TimedList) (x : ℕ × Datum) where
  abbrev now : ℕ
  now = time_at (y ∷ p)

  abbrev all : TimedList
  all = y ∷ (p ++ x ∷ [])

  later : time_at all ≡ now + x.0
  later = time_at_push y p x

  kept_previous : (v : Datum) → Keeps g (previous v) h y p → IsRight g h y (p ++ x ∷ []) (cell_step (previous v) x)
  kept_previous v k = (
    (k.0, k.1, sym (ap (last_or k.0) (values_push (y ∷ p) x) ∙ last_or-push k.0 (values (y ∷ p)) x.1)),
    k.2 ∙ sym (i_pre_value_push k.0 (y ∷ p) x) ∙ ap (λ f. f all) (sym k.1),
  )

  kept_latest : (v : Datum) → Keeps g (latest v) h y p → IsRight g h y (p ++ x ∷ []) (cell_step (latest v) x)
  kept_latest v k =
      let e : latest_event v (x.1 ∷ []) ≡ latest_event k.0 (values all) = ap (λ u. latest_event u (x.1 ∷ [])) k.2
      ∙ sym (ap (latest_event k.0) (values_push (y ∷ p) x) ∙ latest_event-append k.0 (values (y ∷ p)) (x.1 ∷ [])) in
      ((k.0, k.1, e), e ∙ ap (λ f. f all) (sym k.1))

  kept_queue : (q : ℕ) (out : Datum) (is : List (ℕ × Datum)) → Keeps g (queue q out is) h y p → IsRight g h y (p ++ x ∷ []) (cell_step (queue q out is) x)
  kept_queue q out is k =
      let r : Datum × List (ℕ × Datum) = due x.0 out is in
      let w : QueueWaits q (now + x.0) k.0 r.0 (r.1 ++ (q, x.1) ∷ []) (times (y ∷ p) ++ (now + x.0) ∷ []) (values (y ∷ p) ++ x.1 ∷ []) =
      waits_on q now x.0 k.0 out x.1 is (times (y ∷ p)) (values (y ∷ p)) k.2 k.3 in
      let w1 : QueueWaits q (now + x.0) k.0 r.0 (r.1 ++ (q, x.1) ∷ []) (times all) (values (y ∷ p) ++ x.1 ∷ []) =
      subst (λ ts. QueueWaits q (now + x.0) k.0 r.0 (r.1 ++ (q, x.1) ∷ []) ts (values (y ∷ p) ++ x.1 ∷ [])) (sym (times_push y p x)) w in
      let w2 : QueueWaits q (now + x.0) k.0 r.0 (r.1 ++ (q, x.1) ∷ []) (times all) (values all) =
      subst (λ vs. QueueWaits q (now + x.0) k.0 r.0 (r.1 ++ (q, x.1) ∷ []) (times all) vs) (sym (values_push (y ∷ p) x)) w1 in
      let w3 : QueueWaits q (time_at all) k.0 r.0 (r.1 ++ (q, x.1) ∷ []) (times all) (values all) =
      subst (λ t. QueueWaits q t k.0 r.0 (r.1 ++ (q, x.1) ∷ []) (times all) (values all)) (sym later) w2 in
      ((k.0, k.1, k.2, w3), sym (waits-out q (time_at all) k.0 r.0 (r.1 ++ (q, x.1) ∷ []) (times all) (values all) w3) ∙ ap (λ f. f all) (sym k.1))

  kept_accumulating : (acc : Datum) → Keeps g (accumulating acc) h y p → IsRight g h y (p ++ x ∷ []) (cell_step (accumulating acc) (x.0, put_in g acc x.1))
  kept_accumulating acc k =
      let e : latest_event acc (put_in g acc x.1 ∷ []) ≡ fold_events g k.0 (values all) = put_in-latest g acc x.1 ∙ ap (λ u. fold_events g u (x.1 ∷ [])) k.2
      ∙ sym (fold_events-append g k.0 (values (y ∷ p)) (x.1 ∷ [])) ∙ ap (fold_events g k.0) (sym (values_push (y ∷ p) x)) in
      let last : last_or no_event (values all) ≡ x.1 = ap (last_or no_event) (values_push (y ∷ p) x) ∙ last_or-push no_event (values (y ∷ p)) x.1 in (
        (k.0, k.1, e),
        put_in-if_event g acc x.1 (latest_event acc (put_in g acc x.1 ∷ [])) ∙ ap₂ if_event (sym last) e ∙ ap (λ f. f all) (sym k.1),
      )

  kept_waiting : (left : ℕ) (c : Datum) → Keeps g (waiting left c) h y p → IsRight g h y (p ++ x ∷ []) (cell_step (waiting left c) x)
  kept_waiting left c k =
      let q : ℕ = k.0 in
      let some : 1 ≤ left = k.2 in
      let is : now + left ≡ q = k.3 in
      let at : time_at all ≡ now + x.0 = later in
      let out : h all ≡ when (nat_le q (now + x.0) && nat_lt now q) c = ap (λ f. f all) k.1 ∙ after_value_push q c y p x in
      let early : now < q = omega arith in
      pick (IsRight g h y (p ++ x ∷ [])) left x.0 (over, event c) (waiting (left - x.0) c, no_event)
      (λ l.
      let past : q ≤ now + x.0 = omega arith in
      ((q, c, k.1, omega arith), sym (out ∙ ap₂ (λ a b. when (a && b) c) (le-leb q (now + x.0) past) (lt-ltb now q early))))
      (λ l.
      let before : now + x.0 < q = omega arith in
      ((q, k.1, omega arith, omega arith), sym (out ∙ ap (λ a. when (a && nat_lt now q) c) (lt-leb q (now + x.0) before))))

  kept_over : Keeps g over h y p → IsRight g h y (p ++ x ∷ []) (cell_step over x)
  kept_over k =
      let q : ℕ = k.0 in
      let past : q ≤ now = k.3 in
      let at : time_at all ≡ now + x.0 = later in (
        (q, k.1, k.2, omega arith),
        sym (ap (λ f. f all) k.2 ∙ after_value_push q k.1 y p x
            ∙ ap (λ b. when b k.1) (and_right (nat_le q (now + x.0)) (nat_lt now q) (le-ltb now q past))),
      )

  kept_recurring : (q left : ℕ) (c : Datum) → Keeps g (recurring q left c) h y p → IsRight g h y (p ++ x ∷ []) (cell_step (recurring q left c) x)
  kept_recurring q left c k =
      let n : ℕ = now / q in
      let some : 1 ≤ left = k.1 in
      let most : left ≤ q = k.2 in
      let is : now + left ≡ q * suc n = k.3 in
      let positive : 0 < q = omega arith in
      let out : h all ≡ when (nat_lt n ((now + x.0) / q)) c = ap (λ f. f all) k.0 ∙ repeatedly_value_push q c y p x in
      pick (IsRight g h y (p ++ x ∷ [])) left x.0 (recurring q (q - (x.0 - left) % q) c, event c) (recurring q (left - x.0) c, no_event)
      (λ l.
      let r : ℕ = x.0 - left in
      let sum : now + x.0 ≡ q * suc n + r = omega arith in
      let m : (now + x.0) / q ≡ suc n + r / q = ap (λ i. i / q) sum ∙ mul-add-div positive (suc n) r in
      let small : r % q < q = mod-lt r positive in
      let whole_r : q * (r / q) + r % q ≡ r = div-add-mod r q in
      let more : n < (now + x.0) / q = omega arith in
      let next : now + x.0 + (q - r % q) ≡ q * suc ((now + x.0) / q) =
      let prod : q * suc (suc n + r / q) ≡ q * suc n + q * (r / q) + q = omega arith in
      let sums : now + x.0 + (q - r % q) ≡ q * suc (suc n + r / q) = omega arith in
      sums ∙ ap (λ i. q * suc i) (sym m) in (
        (k.0, omega arith, omega arith, ap (λ t. t + (q - r % q)) later ∙ next ∙ ap (λ t. q * suc (t / q)) (sym later)),
        sym (out
            ∙ ap (λ b. when b c) (lt-ltb n ((now + x.0) / q) more)),
      ))
      (λ l.
      let low : q * n ≤ now = mul-div-le now q in
      let r : ℕ = now + x.0 - q * n in
      let sum : now + x.0 ≡ q * n + r = omega arith in
      let prod : q * suc n ≡ q * n + q = omega arith in
      let small : r < q = omega arith in
      let m : (now + x.0) / q ≡ n = ap (λ i. i / q) sum ∙ mul-add-div positive n r ∙ ap (λ i. n + i) (div-eq_of_lt small) ∙ (omega arith) in
      let none_more : (now + x.0) / q ≤ n = omega arith in (
        (
          k.0,
          omega arith,
          omega arith,
          ap (λ t. t + (left - x.0)) later ∙ (let e : now + x.0 + (left - x.0) ≡ now + left = omega arith in e) ∙ is
              ∙ ap (λ i. q * suc i) (sym m) ∙ ap (λ t. q * suc (t / q)) (sym later),
        ),
        sym (out ∙ ap (λ b. when b c) (le-ltb n ((now + x.0) / q) none_more)),
      ))

  kept_ticking : (z : ℤ) → Keeps g (ticking z) h y p → IsRight g h y (p ++ x ∷ []) (cell_step (ticking z) x)
  kept_ticking z k =
      let e : int_wrap w64 (z +ℤ pos x.0) ≡ int_wrap w64 (pos (time_at all)) = ap (λ u. int_wrap w64 (u +ℤ pos x.0)) k.1
      ∙ int_wrap-add_left w64 (pos now) (pos x.0) ∙ ap (λ t. int_wrap w64 (pos t)) (sym later) in
      ((k.0, e), ap int e ∙ ap (λ f. f all) (sym k.0))

  kept_summing : (z before : ℤ) → Keeps g (summing z before) h y p → IsRight g h y (p ++ x ∷ []) (cell_step (summing z before) x)
  kept_summing z before k =
      let e : int (int_wrap w64 (z +ℤ (pos x.0 *ℤ before))) ≡ integral_value all = ap₂ (λ u b. int (int_wrap w64 (u +ℤ (pos x.0 *ℤ b)))) (ap int_of k.1) k.2
      ∙ sym (integral_value_push y p x) in
      let last : int_of x.1 ≡ last_or (int_of y.1) (map int_of (values (p ++ x ∷ []))) =
      sym (ap (λ vs. last_or (int_of y.1) (map int_of vs)) (values_push p x) ∙ ap (last_or (int_of y.1)) (map_push int_of (values p) x.1)
      ∙ last_or-push (int_of y.1) (map int_of (values p)) (int_of x.1)) in
      ((k.0, e, last), e ∙ ap (λ f. f all) (sym k.0))

pub cell_step_law : CellStepLaw
cell_step_law g (previous v) h y p x k = kept_previous g h y p x v k
cell_step_law g (queue q out is) h y p x k = kept_queue g h y p x q out is k
cell_step_law g (latest v) h y p x k = kept_latest g h y p x v k
cell_step_law g (accumulating acc) h y p x k = kept_accumulating g h y p x acc k
cell_step_law g (waiting left c) h y p x k = kept_waiting g h y p x left c k
cell_step_law g over h y p x k = kept_over g h y p x k
cell_step_law g (recurring q left c) h y p x k = kept_recurring g h y p x q left c k
cell_step_law g (ticking z) h y p x k = kept_ticking g h y p x z k
cell_step_law g (summing z before) h y p x k = kept_summing g h y p x z before k
