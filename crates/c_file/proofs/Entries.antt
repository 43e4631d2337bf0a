-- The two C functions that a program calls.
use Rattle.std.proofs.Common.{◌≡◌, ◌<◌, ◌^◌, ℕ, ℤ, pos, w64, FitsSigned, arith, Bool, true, false, List, [], ◌∷◌, Some, None, refl, ap}
use Rattle.std.specs.Prelude.{if◌then◌else◌, int_lt}
use Rattle.sample_core.specs.Datum.{Datum}
use Rattle.leaf_code.specs.Fitting.{Bounds}
use Rattle.net_meaning.specs.SignalFunction.{TimedList}
use Rattle.net_machine.specs.Store.{Moment, start, step, Store}
use Rattle.net_machine.specs.Stepper.{Stepper, run}
use Rattle.net_code.specs.Running.{Given, nothing_given}
use Rattle.c_meaning.specs.Object.{CType, number_type, i64, Object, truth, number, end, has_type, zeros}
use Rattle.c_meaning.specs.Syntax.{Term, local, dot, boolean, literal, zeroed, none, choice}
use Rattle.c_meaning.specs.Meaning.{Frame, Linked, eval, function_run}
use Rattle.c_meaning.proofs.Alike.{yes-and, alike}
use Rattle.c_meaning.proofs.Choices.{choice-like}
use Rattle.c_meaning.proofs.Runs.{then-run, defines, gives-back, assigns, function-runs}
use Rattle.c_leaf.specs.Representing.{two, c_type, Represents, no_register}
use Rattle.c_leaf.proofs.Values.{has}
use Rattle.c_leaf.proofs.Same.{set-object}
use Rattle.c_forms.specs.Keeping.{Shape, shape_type, Keeps, at_start, at_step, dt_object, MomentFits}
use Rattle.c_forms.specs.Standing.{none_frozen, InScope, Right}
use Rattle.c_forms.specs.Checked.{KeptFrom, Comes, comes_first, comes_later, Accepts}
use Rattle.c_forms.proofs.Checked.{checked_law}
use Rattle.c_forms.proofs.Lines.{dt-range, keeps-type}
use Rattle.c_forms.proofs.Reading.{reads_none, reads_const, reads_value, write-call}
use Rattle.c_file.specs.FunctionC.{Callee}
use Rattle.c_file.specs.ProgramC.{state_type, init_function, step_function, checked_step}
use Rattle.c_file.specs.Samples.{Handed, Hands, hands_none, hands_first, hands_next, Outputs, outputs_none, outputs_one, Calls, calls_none, calls_first, calls_next, calls_early, Answers, answers_none, answers_step, answers_refusal}
use Rattle.c_file.proofs.Handing.{zeros-have}

-- `init` leaves zeros
pub init-runs : (n : Bounds) (S : Shape) (F : ℕ → Linked) (s : Object) → has_type (state_type n S) s ≡ true
    → function_run F (init_function n S) (s ∷ []) ≡ Some (two (truth false) (zeros (shape_type n S)) ∷ [], end)
init-runs n S F s h =
    let T : CType = state_type n S in
    let z : Object = two (truth false) (zeros (shape_type n S)) in
    function-runs F (init_function n S) (s ∷ []) (z ∷ []) (z ∷ []) end (yes-and h refl) refl
    (then-run F
    (assigns F (local 0) (zeroed T) (s ∷ []) (z ∷ []) z refl refl (ap (λ b. if b then Some (z ∷ []) else None) (alike T s z h (zeros-have T))))
    (gives-back F none (z ∷ []) end refl refl)) refl refl

pub small-fits : (d : ℕ) → d < 2 ^ 63 → FitsSigned w64 (pos d)
small-fits d l = grind arith

module _ (n : Bounds) (c : Callee) (F : ℕ → Linked) where
  -- what is handed to the step: dt, but 0 at the first sample
  abbrev moment-term : Term
  moment-term = choice (dot (local 0) 0) (local 1) (literal i64 (pos 0))

  -- `step`, where the function that it calls has a result
  step-runs : (b : Bool) (m : Moment) (t p q i o y : Object) {u v : Datum} → MomentFits m → has_type (number_type i64) t ≡ true
      → eval (two (truth b) p ∷ t ∷ i ∷ o ∷ []) moment-term ≡ Some (dt_object m)
      → has_type (shape_type n c.shape) p ≡ true → has_type (shape_type n c.shape) q ≡ true → Represents n c.input u i → has_type (c_type n c.output) o ≡ true → Represents n c.output v y
      → F c.number (p ∷ dt_object m ∷ i ∷ []) ≡ Some (q ∷ dt_object m ∷ i ∷ [], y)
      → function_run F (step_function n c) (two (truth b) p ∷ t ∷ i ∷ o ∷ []) ≡ Some (two (truth true) q ∷ t ∷ i ∷ y ∷ [], end)
  step-runs b m t p q i o y w ht et hp hq hi ho hy k =
      let T : CType = state_type n c.shape in
      let d : Object = dt_object m in
      let s0 : Object = two (truth b) p in
      let s1 : Object = two (truth true) p in
      let s2 : Object = two (truth true) q in
      let h0 : has_type T s0 ≡ true = yes-and refl (yes-and hp refl) in
      let h1 : has_type T s1 ≡ true = yes-and refl (yes-and hp refl) in
      let h2 : has_type T s2 ≡ true = yes-and refl (yes-and hq refl) in
      let f0 : Frame = s0 ∷ t ∷ i ∷ o ∷ [] in
      let f1 : Frame = s0 ∷ t ∷ i ∷ o ∷ d ∷ [] in
      let f2 : Frame = s1 ∷ t ∷ i ∷ o ∷ d ∷ [] in
      let f3 : Frame = s2 ∷ t ∷ i ∷ o ∷ d ∷ y ∷ [] in
      let f4 : Frame = s2 ∷ t ∷ i ∷ y ∷ d ∷ y ∷ [] in
      function-runs F (step_function n c) f0 f4 (s2 ∷ t ∷ i ∷ y ∷ []) end (yes-and h0 (yes-and ht (yes-and (has n hi) (yes-and ho refl)))) refl
      (then-run F {g = f1} (defines F (number_type i64) moment-term f0 d et refl (dt-range m w))
      (then-run F {g = f2} (assigns F (dot (local 0) 0) (boolean true) f1 f2 (truth true) refl refl (ap (λ z. if z then Some f2 else None) (alike T s0 s1 h0 h1)))
      (then-run F {g = f3}
      (write-call f2 (dot (local 0) 1) F (c_type n c.output) c.number (s2 ∷ t ∷ i ∷ o ∷ d ∷ []) p q y (reads_value {e = local 4} refl (reads_const {e = local 2} refl refl reads_none)) refl k
      (ap (λ z. if z then Some (s2 ∷ t ∷ i ∷ o ∷ d ∷ []) else None) (alike T s1 s2 h1 h2)) (has n hy))
      (then-run F {g = f4} (assigns F (local 3) (local 5) f3 f4 y refl (set-object n hy) (ap (λ z. if z then Some f4 else None) (alike (c_type n c.output) o y ho (has n hy))))
      (gives-back F none f4 end refl refl))))) refl refl

  -- nothing is in scope
  alone : InScope n [] [] nothing_given []
  alone = record { params = []; olds = []; are = refl; are_params = no_register; are_olds = none_frozen }

  module _ (h : Given → Stepper) (r : Right n [] [] c.shape c.input c.output h (F c.number)) where
    -- from what is kept on
    goes-on : (s : Store) (p : Object) (xs : TimedList) (hs : List Handed) → Keeps n c.shape s p → Hands n c.input c.output true xs hs
        → Outputs n c.output (function_run F (step_function n c)) (two (truth true) p) hs (run (h nothing_given) true s xs)
    goes-on s p [] [] k hands_none = outputs_none
    goes-on s p _ _ k (hands_next {d = d} {v = v} {xs = xs} {i = i} {o = o} {hs = hs} a b x y rest) =
        let q = r nothing_given [] alone (step d) s v p i (a, b) (at_step k) x in
        outputs_one
        (step-runs true (step d) (number i64 (pos d)) p q.state i o q.answer (a, b) (dt-range (step d) (a, b)) refl (keeps-type n k) (keeps-type n q.keeps) x y q.represents q.result)
        q.represents (goes-on (h nothing_given s (step d, v)).0 q.state xs hs q.keeps rest)

    -- from the start
    pub starts : (s : Store) (p : Object) (xs : TimedList) (hs : List Handed) → has_type (shape_type n c.shape) p ≡ true → Hands n c.input c.output false xs hs
        → Outputs n c.output (function_run F (step_function n c)) (two (truth false) p) hs (run (h nothing_given) false s xs)
    starts s p [] [] k hands_none = outputs_none
    starts s p _ _ k (hands_first {d = d} {v = v} {xs = xs} {t = t} {i = i} {o = o} {hs = hs} e x y rest) =
        let q = r nothing_given [] alone start s v p i tt (at_start k) x in
        outputs_one
        (step-runs false start t p q.state i o q.answer tt e
        (choice-like (two (truth false) p ∷ t ∷ i ∷ o ∷ []) (dot (local 0) 0) (local 1) (literal i64 (pos 0)) t (number i64 (pos 0)) refl refl (alike (number_type i64) t (number i64 (pos 0)) e refl)) k (keeps-type n q.keeps) x y q.represents q.result)
        q.represents (goes-on (h nothing_given s (start, v)).0 q.state xs hs q.keeps rest)

    -- the same where each call is checked
    pub checked : (b : Bool) (z : ℤ) (s : Store) (v : Datum) (p i o : Object) → FitsSigned w64 z → KeptFrom n b c.shape s p → Represents n c.input v i → has_type (c_type n c.output) o ≡ true
        → (b ≡ true → int_lt z (pos 1) ≡ true
        → function_run F (checked_step n c) (two (truth b) p ∷ number i64 z ∷ i ∷ o ∷ []) ≡ Some (two (truth b) p ∷ number i64 z ∷ i ∷ o ∷ [], truth false))
        × ((m : Moment) → Comes b z m → Accepts n c.shape c.output (h nothing_given s (m, v)) (number i64 z) i (function_run F (checked_step n c) (two (truth b) p ∷ number i64 z ∷ i ∷ o ∷ [])))
    checked b z s v p i o = checked_law n F c.number c.shape c.input c.output h r b z s v p i o

    checked-on : (s : Store) (p : Object) (xs : TimedList) (hs : List Handed) → Keeps n c.shape s p → Calls n c.input c.output true xs hs
        → Answers n c.output (function_run F (checked_step n c)) (two (truth true) p) hs (run (h nothing_given) true s xs)
    checked-on s p [] [] k calls_none = answers_none
    checked-on s p _ _ k (calls_next {d = d} {v = v} {xs = xs} {i = i} {o = o} {hs = hs} a b x y rest) =
        let q = (checked true (pos d) s v p i o (small-fits d b) k x y).1 (step d) (comes_later (a, b)) in
        answers_step q.result q.represents (checked-on (h nothing_given s (step d, v)).0 q.state xs hs q.keeps rest)
    checked-on s p xs _ k (calls_early {z = z} {v = v} {i = i} {o = o} {hs = hs} f e x y rest) =
        answers_refusal ((checked true z s v p i o f k x y).0 refl e) (checked-on s p xs hs k rest)

    pub checked-starts : (s : Store) (p : Object) (xs : TimedList) (hs : List Handed) → has_type (shape_type n c.shape) p ≡ true → Calls n c.input c.output false xs hs
        → Answers n c.output (function_run F (checked_step n c)) (two (truth false) p) hs (run (h nothing_given) false s xs)
    checked-starts s p [] [] k calls_none = answers_none
    checked-starts s p _ _ k (calls_first {d = d} {z = z} {v = v} {xs = xs} {i = i} {o = o} {hs = hs} f x y rest) =
        let q = (checked false z s v p i o f k x y).1 start comes_first in
        answers_step q.result q.represents (checked-on (h nothing_given s (start, v)).0 q.state xs hs q.keeps rest)
