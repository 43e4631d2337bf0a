-- The C function of a `delay` is its queue.
use Rattle.std.proofs.Common.{◌≡◌, ◌≤◌, ◌<◌, ◌+◌, ◌-◌, ◌*◌, ◌^◌, ℕ, suc, pos, Bool, true, false, List, [], ◌∷◌, ◌++◌, length, Some, None, refl, subst, sym, ap, ◌∙◌, arith, length-append, append_assoc}
use Rattle.std.specs.Prelude.{nat_le, if◌then◌else◌}
use Rattle.sample_core.specs.Datum.{Datum, unit}
use Rattle.sample_core.specs.TypeTree.{TypeTree}
use Rattle.leaf_code.specs.Fitting.{Bounds}
use Rattle.cell_core.specs.Cell.{queue, due, count_down, cell_step}
use Rattle.cell_core.specs.declared.form.Form.TheVariants as F
use Rattle.net_machine.specs.Store.{start, step}
use Rattle.net_machine.specs.Stepper.{cell_form_step}
use Rattle.net_machine.specs.Machine.{no_leaf}
use Rattle.net_code.specs.Running.{Given}
use Rattle.c_meaning.specs.Object.{CType, number_type, no_member, member, array, i64, u64, u32, Object, number, end, more, has_type}
use Rattle.c_meaning.specs.Syntax.{literal, Command, sequence, define, loop, answer}
use Rattle.c_meaning.specs.Meaning.{Linked, eval, function_run}
use Rattle.c_meaning.proofs.Alike.{yes-and}
use Rattle.c_meaning.proofs.Runs.{Runs, then-run, defines}
use Rattle.c_leaf.specs.Representing.{c_type, Represents}
use Rattle.c_leaf.specs.LeafCLaw.{IsConstant}
use Rattle.c_leaf.proofs.Values.{has}
use Rattle.c_leaf.proofs.Same.{set-object}
use Rattle.c_forms.specs.Ring.{Ring, place, leaving, later, ring_step, holds_none, Stores}
use Rattle.c_forms.specs.Keeping.{Shape, keeps_cell, delay_type, delay_object, HoldsRing, Rises, rises_none, rises_one, holds_queue, cell_kept, at_start, at_step}
use Rattle.c_forms.specs.Standing.{InScope, Steps, Right, behind}
use Rattle.c_forms.specs.Cells.{at_first}
use Rattle.c_forms.specs.Delay.{out_of, emptied, go_later, due_test, leave_body, place_term, join_body, delay_function, DelayLaw}
use Rattle.c_forms.proofs.Ring.{ring_law}
use Rattle.c_forms.proofs.Lines.{front-of, at, register-is, answer-line, ring-type}
use Rattle.c_forms.proofs.Cells.{single, put-line, passes, starts, register-0, Comes, cell-steps}
use Rattle.c_forms.proofs.Delay.{u32-range, place-is, place-below, go-later, join, whole-loop}

-- what waits has room
rising-length : (q l : ℕ) (is : List (ℕ × Datum)) → Rises q l is → l ≤ suc q → length is + l ≤ suc q
rising-length q l [] rises_none b = omega arith
rising-length q l ((t, v) ∷ is) (rises_one a c h) b =
    let r : length is + suc t ≤ suc q = rising-length q (suc t) is h (omega arith) in omega arith

count-rising : (q d l m : ℕ) (is : List (ℕ × Datum)) → Rises q l is → d < l → m + d ≡ l → Rises (q - d) m (count_down d is)
count-rising q d l m [] rises_none b e = rises_none
count-rising q d l m ((t, v) ∷ is) (rises_one a c h) b e =
    rises_one (omega arith) (omega arith) (count-rising q d (suc t) (suc (t - d)) is h (omega arith) (omega arith))

le-no : (a b : ℕ) → nat_le a b ≡ false → b < a
le-no a b e = grind arith

abbrev due-or : ℕ → Datum → ℕ → Datum → List (ℕ × Datum) → Bool → List (ℕ × Datum)
due-or d out t v is b = (if b then due d v is else (out, count_down d ((t, v) ∷ is))).1

due-cases : (q d l t : ℕ) (out v : Datum) (is : List (ℕ × Datum)) → l ≤ t → t ≤ q → Rises q (suc t) is → Rises (q - d) 1 (due d v is).1 → (b : Bool) → nat_le t d ≡ b → Rises (q - d) 1 (due-or d out t v is b)
due-cases q d l t out v is a c h k true e = k
due-cases q d l t out v is a c h k false e =
    let m : d < t = le-no t d e in
    count-rising q d (suc d) 1 ((t, v) ∷ is) (rises_one (omega arith) c h) (omega arith) (omega arith)

due-rising : (q d l : ℕ) (out : Datum) (is : List (ℕ × Datum)) → Rises q l is → Rises (q - d) 1 (due d out is).1
due-rising q d l out [] h = rises_none
due-rising q d l out ((t, v) ∷ is) (rises_one a c h) = due-cases q d l t out v is a c h (due-rising q d (suc t) v is h) (nat_le t d) refl

rising-joined : (q p l : ℕ) (x : Datum) (is : List (ℕ × Datum)) → Rises p l is → p < q → l ≤ q → Rises q l (is ++ (q, x) ∷ [])
rising-joined q p l x [] rises_none b c = rises_one c (omega arith) rises_none
rising-joined q p l x ((t, v) ∷ is) (rises_one a e h) b c = rises_one a (omega arith) (rising-joined q p (suc t) x is h b (omega arith))

-- a ring's members
record Six (A : CType) (q : ℕ) (o : Object) : Type 0 where
  a : Object
  b : Object
  c : Object
  d : Object
  e : Object
  f : Object
  is : o ≡ more a (more b (more c (more d (more e (more f end)))))
  has_a : has_type (number_type u64) a ≡ true
  has_b : has_type A b ≡ true
  has_c : has_type (number_type u32) c ≡ true
  has_d : has_type (number_type u32) d ≡ true
  has_e : has_type (array q (number_type u64)) e ≡ true
  has_f : has_type (array q A) f ≡ true

six : (A : CType) (q : ℕ) (o : Object) → has_type (delay_type A q) o ≡ true → Six A q o
six A q o t =
    let m1 = front-of (number_type u64) (member A (member (number_type u32) (member (number_type u32) (member (array q (number_type u64)) (member (array q A) no_member))))) o t in
    let m2 = front-of A (member (number_type u32) (member (number_type u32) (member (array q (number_type u64)) (member (array q A) no_member)))) m1.b m1.has_b in
    let m3 = front-of (number_type u32) (member (number_type u32) (member (array q (number_type u64)) (member (array q A) no_member))) m2.b m2.has_b in
    let m4 = front-of (number_type u32) (member (array q (number_type u64)) (member (array q A) no_member)) m3.b m3.has_b in
    let m5 = front-of (array q (number_type u64)) (member (array q A) no_member) m4.b m4.has_b in
    let m6 = single (array q A) m5.b m5.has_b in
    record {
      a = m1.a;
      b = m2.a;
      c = m3.a;
      d = m4.a;
      e = m5.a;
      f = m6.a;
      is = m1.is ∙ ap (more m1.a) (m2.is ∙ ap (more m2.a) (m3.is ∙ ap (more m3.a) (m4.is ∙ ap (more m4.a) (m5.is ∙ ap (more m5.a) m6.is))));
      has_a = m1.has_a;
      has_b = m2.has_a;
      has_c = m3.has_a;
      has_d = m4.has_a;
      has_e = m5.has_a;
      has_f = m6.has_a;
    }

six-has : (A : CType) (q : ℕ) (a b c d e f : Object) → has_type (number_type u64) a ≡ true → has_type A b ≡ true → has_type (number_type u32) c ≡ true → has_type (number_type u32) d ≡ true
    → has_type (array q (number_type u64)) e ≡ true → has_type (array q A) f ≡ true → has_type (delay_type A q) (more a (more b (more c (more d (more e (more f end)))))) ≡ true
six-has A q a b c d e f ha hb hc hd he hf = yes-and ha (yes-and hb (yes-and hc (yes-and hd (yes-and he (yes-and hf refl)))))

module _ (n : Bounds) (Ps : List TypeTree) (Os : List Shape) (G : ℕ → Linked) (q : ℕ) (V : TypeTree) (some : 1 ≤ q) (small : q < 2 ^ 31) where
  abbrev rest-lines : Command
  rest-lines =
      sequence go_later
      (sequence (loop q (due_test q) (leave_body q))
      (sequence (define (number_type u32) (place_term q)) (sequence (join_body (behind n Ps Os 1)) (answer out_of))))

  module _ (g : Given) (qs : List Object) (h : InScope n Ps Os g qs) where
    -- the lines behind the restart
    delay-comes : (d : ℕ) (r : Ring) (out x : Datum) (is : List (ℕ × Datum)) (o i z : Object) → d < 2 ^ 63 → HoldsRing n q V r o → Stores q r out is → length (due d out is).1 < q
        → Rises q 1 ((due d out is).1 ++ (q, x) ∷ []) → Represents n V x i
        → Comes n Ps Os G (F.Delay q) V V g qs h rest-lines o i z d (queue q (due d out is).0 ((due d out is).1 ++ (q, x) ∷ []), (due d out is).0)
    delay-comes d r out x is o i z m hr s room rises rx =
        let f : Object = number i64 (pos d) in
        let rest : List Object = f ∷ i ∷ (qs ++ z ∷ []) in
        let a = go-later n q V small G rest d r o hr m refl in
        let l = whole-loop n q V small G rest (later d r) a.object a.holds in
        let w : Ring = leaving q q (later d r) in
        let after-step : Stores q (ring_step q d x r) (due d out is).0 ((due d out is).1 ++ (q, x) ∷ []) = ring_law q d x r out is (omega arith) s room in
        let few : w.size < q = fewer w.size (length (due d out is).1) (after-step.size ∙ length-append (due d out is).1 ((q, x) ∷ [])) room in
        let e = l.2 in
        let here : Object = delay_object w.now e.outs w.head w.size e.ats e.vals in
        let p : Object = number u32 (pos (place q w.head w.size)) in
        let pl : place q w.head w.size < q = place-below n q V small G w.head w.size e.head few in
        let define-place : Runs G (define (number_type u32) (place_term q)) (at n Ps Os G g qs h here f i (z ∷ [])) (at n Ps Os G g qs h here f i (z ∷ p ∷ []), None) =
        subst (λ us. Runs G (define (number_type u32) (place_term q)) (at n Ps Os G g qs h here f i (z ∷ [])) (here ∷ f ∷ i ∷ us, None)) (append_assoc qs (z ∷ []) (p ∷ []))
        (defines G (number_type u32) (place_term q) (at n Ps Os G g qs h here f i (z ∷ [])) p (place-is n q V small G w.head w.size e.head few) refl (u32-range (place q w.head w.size) (omega arith))) in
        let j = join n q V small G (f ∷ i ∷ (qs ++ z ∷ p ∷ [])) (3 + (length Ps + 2 * length Os) + 1) w l.0 i x e rx few refl
        (λ u. register-is n Ps Os G g qs h u f i (z ∷ p ∷ []) 1 p refl) in
        let y : Represents n V (due d out is).0 j.holds.outs = subst (λ v. Represents n V v j.holds.outs) after-step.is_out j.holds.is_out in
        let out-line = answer-line n Ps Os G g qs h out_of j.object f i (z ∷ p ∷ []) (ap (λ u. eval (at n Ps Os G g qs h u f i (z ∷ p ∷ [])) out_of) j.holds.is) y in
        record {
          state = j.object;
          answer_is = j.holds.outs;
          rest = p ∷ [];
          runs = subst (λ u. Runs G rest-lines (at n Ps Os G g qs h u f i (z ∷ [])) (at n Ps Os G g qs h j.object f i (z ∷ p ∷ []), Some j.holds.outs)) (sym hr.is)
              (then-run G a.runs (then-run G (subst (λ u. Runs G (loop q (due_test q) (leave_body q)) (a.object ∷ rest) (u ∷ rest, None)) e.is l.1) (then-run G define-place (then-run G j.runs out-line))));
          holds = holds_queue (omega arith) j.holds after-step rises;
          represents = y;
        }
      where
        fewer : (m k : ℕ) → suc m ≡ k + 1 → k < q → m < q
        fewer m k e l = omega arith

  pub delay_law_at : (c : ℕ) (v : List Datum → Datum) → IsConstant n Ps V v (G c) → Right n Ps Os (keeps_cell (F.Delay q) V) V V (λ g. cell_form_step (F.Delay q) (v g.params) no_leaf) (function_run G (delay_function n Ps Os q V c))
  delay_law_at c v k g qs h start s x o i w (at_start t) r =
      let m = six (c_type n V) q o t in
      let zero-time : Object = number u64 (pos 0) in
      let none : Object = number u32 (pos 0) in
      let o0 : Object = more m.a (more m.b (more m.c (more m.d (more m.e (more m.f end))))) in
      let o1 : Object = more zero-time (more m.b (more m.c (more m.d (more m.e (more m.f end))))) in
      let o2 : Object = more zero-time (more m.b (more none (more m.d (more m.e (more m.f end))))) in
      let o3 : Object = more zero-time (more m.b (more none (more none (more m.e (more m.f end))))) in
      let t0 = six-has (c_type n V) q m.a m.b m.c m.d m.e m.f m.has_a m.has_b m.has_c m.has_d m.has_e m.has_f in
      let t1 = six-has (c_type n V) q zero-time m.b m.c m.d m.e m.f refl m.has_b m.has_c m.has_d m.has_e m.has_f in
      let t2 = six-has (c_type n V) q zero-time m.b none m.d m.e m.f refl m.has_b refl m.has_d m.has_e m.has_f in
      let t3 = six-has (c_type n V) q zero-time m.b none none m.e m.f refl m.has_b refl refl m.has_e m.has_f in
      subst (λ u. Steps n (keeps_cell (F.Delay q) V) V (cell_form_step (F.Delay q) (v g.params) no_leaf s (start, x)) (number i64 (pos 0) ∷ i ∷ qs) (function_run G (delay_function n Ps Os q V c) (u ∷ number i64 (pos 0) ∷ i ∷ qs))) (sym m.is)
      (cell-steps n Ps Os G g qs h (F.Delay q) V V V start o0 (λ z. delay_object 0 z 0 0 m.e m.f) i c v (at_first (emptied (behind n Ps Os 0))) rest-lines k refl w t0 r
      (λ z a. starts n Ps Os G g qs h (emptied (behind n Ps Os 0)) o0 (delay_object 0 z 0 0 m.e m.f) i z
      (then-run G (put-line n Ps Os G g qs h (delay_type (c_type n V) q) 0 (literal u64 (pos 0)) o0 o1 0 i (z ∷ []) zero-time refl refl refl t0 t1)
      (then-run G (put-line n Ps Os G g qs h (delay_type (c_type n V) q) 2 (literal u32 (pos 0)) o1 o2 0 i (z ∷ []) none refl refl refl t1 t2)
      (then-run G (put-line n Ps Os G g qs h (delay_type (c_type n V) q) 3 (literal u32 (pos 0)) o2 o3 0 i (z ∷ []) none refl refl refl t2 t3)
      (put-line n Ps Os G g qs h (delay_type (c_type n V) q) 1 (behind n Ps Os 0) o3 (delay_object 0 z 0 0 m.e m.f) 0 i (z ∷ []) z (register-0 n Ps Os G g qs h o3 0 i z []) (set-object n a) refl t3
      (six-has (c_type n V) q zero-time z none none m.e m.f refl (has n a) refl refl m.has_e m.has_f))))))
      (queue q (v g.params) ((q, x) ∷ []), v g.params)
      (λ z a. delay-comes g qs h 0 (empty-ring (v g.params)) (v g.params) x [] (delay_object 0 z 0 0 m.e m.f) i z (omega arith) (empty-holds (v g.params) z m.e m.f a m.has_e m.has_f)
      (record { now = omega arith; is_out = refl; head = some; size = refl; room = omega arith; holds = holds_none }) some (rises_one some (omega arith) rises_none) r))
    where
      empty-ring : Datum → Ring
      empty-ring out = record { now = 0; out = out; head = 0; size = 0; at = λ k. 0; value = λ k. unit }

      empty-holds : (out : Datum) (z e f : Object) → Represents n V out z → has_type (array q (number_type u64)) e ≡ true → has_type (array q (c_type n V)) f ≡ true → HoldsRing n q V (empty-ring out) (delay_object 0 z 0 0 e f)
      empty-holds out z e f a te tf = record {
        outs = z;
        ats = e;
        vals = f;
        is = refl;
        now = omega arith;
        head = some;
        size = omega arith;
        is_out = a;
        times = λ k l. absurd (omega arith);
        values = λ k l. absurd (omega arith);
        times_type = te;
        values_type = tf;
      }
  delay_law_at c v k g qs h (step d) s x o i w (at_step (cell_kept (holds_queue {r = ring} {out = out} {is = is} l hr st rise))) r =
      let left : Rises (q - d) 1 (due d out is).1 = due-rising q d 1 out is rise in
      let room : length (due d out is).1 + 1 ≤ suc (q - d) = rising-length (q - d) 1 (due d out is).1 left (omega arith) in
      let w0 : 1 ≤ d = w.0 in
      cell-steps n Ps Os G g qs h (F.Delay q) V V V (step d) o (λ z. o) i c v (at_first (emptied (behind n Ps Os 0))) rest-lines k refl w (ring-type n hr l) r
      (λ z a. passes n Ps Os G g qs h (emptied (behind n Ps Os 0)) o d i z w.0)
      (cell_step (queue q out is) (d, x))
      (λ z a. delay-comes g qs h d ring out x is o i z w.1 hr st (omega arith) (rising-joined q (q - d) 1 x (due d out is).1 left (omega arith) some) r)

pub delay_law : (n : Bounds) (Ps : List TypeTree) (Os : List Shape) (G : ℕ → Linked) → DelayLaw n Ps Os G
delay_law n Ps Os G q V some small c v k = delay_law_at n Ps Os G q V some small c v k
