-- The step that also tests its input's lists.
use Rattle.std.proofs.Common.{◌≡◌, ℕ, ℤ, pos, Bool, true, false, ◌&&◌, [], ◌∷◌, ◌++◌, List, Some, None, refl, ap, ◌∙◌, w64}
use Rattle.std.specs.Prelude.{if◌then◌else◌, FitsSigned}
use Rattle.sample_core.specs.Datum.{Datum}
use Rattle.leaf_code.specs.Fitting.{Bounds}
use Rattle.net_meaning.specs.SignalFunction.{TimedList}
use Rattle.net_machine.specs.Store.{start, step, Store}
use Rattle.net_machine.specs.Stepper.{Stepper, run}
use Rattle.net_code.specs.Running.{Given, nothing_given}
use Rattle.c_meaning.specs.Object.{truth_type, number_type, i64, Object, truth, number, has_type, like}
use Rattle.c_meaning.specs.Syntax.{local, boolean, by_value, by_const, by_pointer, skip, answer}
use Rattle.c_meaning.specs.Meaning.{Frame, Linked, bind, put_back, function_run}
use Rattle.c_meaning.proofs.Alike.{yes-and, alike}
use Rattle.c_meaning.proofs.Wrapping.{fits-range}
use Rattle.c_meaning.proofs.Runs.{then-run, ends, skips, calls, chooses-first, chooses-second, gives-back, function-runs}
use Rattle.c_leaf.specs.Representing.{two, c_type, Represents}
use Rattle.c_leaf.specs.Within.{Offered, Tests}
use Rattle.c_leaf.proofs.Values.{has}
use Rattle.c_leaf.proofs.Within.{offered-has, values_offered_law}
use Rattle.c_forms.specs.Keeping.{shape_type, Keeps}
use Rattle.c_forms.specs.Standing.{Right}
use Rattle.c_forms.specs.Checked.{comes_first, comes_later}
use Rattle.c_forms.proofs.Lines.{keeps-type}
use Rattle.c_file.specs.FunctionC.{Callee}
use Rattle.c_file.specs.ProgramC.{state_type, checked_step}
use Rattle.c_file.specs.Samples.{Handed, Answers, answers_none, answers_step, answers_refusal}
use Rattle.c_file.specs.Guarded.{guarded_step, Offers, offers_none, offers_first, offers_next, offers_early, offers_long}
use Rattle.c_file.proofs.Entries.{small-fits, checked}

-- function t tests the input, function j is the checked step
module _ (n : Bounds) (c : Callee) (F G : ℕ → Linked) (t j : ℕ) (tests : Tests n c.input (G t)) (is : G j ≡ function_run F (checked_step n c)) where
  -- what it is called with is of its types
  record Typed (s i o : Object) : Type 0 where
    state : has_type (state_type n c.shape) s ≡ true
    input : has_type (c_type n c.input) i ≡ true
    output : has_type (c_type n c.output) o ≡ true

  params-fit : (s i o : Object) (z : ℤ) → Typed s i o → FitsSigned w64 z
      → (has_type (state_type n c.shape) s && (has_type (number_type i64) (number i64 z) && (has_type (c_type n c.input) i && (has_type (c_type n c.output) o && true)))) ≡ true
  params-fit s i o z h w = yes-and h.state (yes-and (fits-range z w) (yes-and h.input (yes-and h.output refl)))

  abbrev frame : Object → ℤ → Object → Object → Frame
  frame s z i o = s ∷ number i64 z ∷ i ∷ o ∷ []

  -- a list is too long
  refuses : (s i o : Object) (z : ℤ) → Typed s i o → FitsSigned w64 z → Offered n c.input i false
      → function_run G (guarded_step n c t j) (frame s z i o) ≡ Some (frame s z i o, truth false)
  refuses s i o z h w x =
      let f : Frame = frame s z i o in
      let g : Frame = f ++ truth false ∷ [] in
      function-runs G (guarded_step n c t j) f g f (truth false) (params-fit s i o z h w) refl
      (then-run G (calls G truth_type t (by_const (local 2) ∷ []) f f (i ∷ []) (i ∷ []) (truth false) refl refl (tests i false x) refl refl)
      (ends G (chooses-second G {a = skip} (local 4) g g (Some (truth false)) refl (gives-back G (boolean false) g (truth false) refl refl)))) refl refl

  -- else it answers what the checked step does
  passes : (s i o r p : Object) (z : ℤ) (b : Bool) → Typed s i o → FitsSigned w64 z → Offered n c.input i true → has_type (state_type n c.shape) r ≡ true → has_type (c_type n c.output) p ≡ true
      → function_run F (checked_step n c) (frame s z i o) ≡ Some (frame r z i p, truth b) → function_run G (guarded_step n c t j) (frame s z i o) ≡ Some (frame r z i p, truth b)
  passes s i o r p z b h w x hr hp e =
      let f : Frame = frame s z i o in
      let f1 : Frame = f ++ truth true ∷ [] in
      let f2 : Frame = r ∷ number i64 z ∷ i ∷ o ∷ truth true ∷ [] in
      let f3 : Frame = frame r z i p ++ truth true ∷ [] in
      let f4 : Frame = f3 ++ truth b ∷ [] in
      let back : bind (if like s r then Some f2 else None) (λ g. put_back g (by_value (local 1) ∷ by_const (local 2) ∷ by_pointer (local 3) ∷ []) (number i64 z ∷ i ∷ p ∷ [])) ≡ Some f3 =
      ap (λ y. bind (if y then Some f2 else None) (λ g. put_back g (by_value (local 1) ∷ by_const (local 2) ∷ by_pointer (local 3) ∷ []) (number i64 z ∷ i ∷ p ∷ []))) (alike (state_type n c.shape) s r h.state hr)
      ∙ ap (λ y. bind (if y then Some f3 else None) (λ g. Some g)) (alike (c_type n c.output) o p h.output hp) in
      function-runs G (guarded_step n c t j) f f4 (frame r z i p) (truth b) (params-fit s i o z h w) refl
      (then-run G (calls G truth_type t (by_const (local 2) ∷ []) f f (i ∷ []) (i ∷ []) (truth true) refl refl (tests i true x) refl refl)
      (then-run G (chooses-first G {b = answer (boolean false)} (local 4) f1 f1 None refl (skips G))
      (then-run G
      (calls G truth_type j (by_pointer (local 0) ∷ by_value (local 1) ∷ by_const (local 2) ∷ by_pointer (local 3) ∷ []) f1 f3 f (frame r z i p) (truth b) refl refl (ap (λ k. k f) is ∙ e) back refl)
      (gives-back G (local 5) f4 (truth b) refl refl)))) refl refl

  module _ (h : Given → Stepper) (does : Right n [] [] c.shape c.input c.output h (F c.number)) where
    offered : {v : Datum} {i : Object} → Represents n c.input v i → Offered n c.input i true
    offered {v} {i} x = values_offered_law n c.input i (record { value = v; represents = x })

    of-type : (b : Bool) (p : Object) → has_type (shape_type n c.shape) p ≡ true → has_type (state_type n c.shape) (two (truth b) p) ≡ true
    of-type b p k = yes-and refl (yes-and k refl)

    fits : (b : Bool) (p i o : Object) {v : Datum} → has_type (shape_type n c.shape) p ≡ true → Represents n c.input v i → has_type (c_type n c.output) o ≡ true → Typed (two (truth b) p) i o
    fits b p i o k x y = record { state = of-type b p k; input = has n x; output = y }

    -- from what is kept on
    goes-on : (s : Store) (p : Object) (xs : TimedList) (hs : List Handed) → Keeps n c.shape s p → Offers n c.input c.output true xs hs
        → Answers n c.output (function_run G (guarded_step n c t j)) (two (truth true) p) hs (run (h nothing_given) true s xs)
    goes-on s p [] [] k offers_none = answers_none
    goes-on s p _ _ k (offers_next {d = d} {v = v} {xs = xs} {i = i} {o = o} {hs = hs} a b x y rest) =
        let q = (checked n c F h does true (pos d) s v p i o (small-fits d b) k x y).1 (step d) (comes_later (a, b)) in
        answers_step
        (passes (two (truth true) p) i o (two (truth true) q.state) q.answer (pos d) true (fits true p i o (keeps-type n k) x y) (small-fits d b) (offered x) (of-type true q.state (keeps-type n q.keeps)) (has n q.represents) q.result)
        q.represents (goes-on (h nothing_given s (step d, v)).0 q.state xs hs q.keeps rest)
    goes-on s p xs _ k (offers_early {z = z} {v = v} {i = i} {o = o} {hs = hs} f e x y rest) =
        let w = of-type true p (keeps-type n k) in
        answers_refusal
        (passes (two (truth true) p) i o (two (truth true) p) o z false (fits true p i o (keeps-type n k) x y) f (offered x) w y ((checked n c F h does true z s v p i o f k x y).0 refl e))
        (goes-on s p xs hs k rest)
    goes-on s p xs _ k (offers_long {z = z} {i = i} {o = o} {hs = hs} f x y rest) =
        answers_refusal (refuses (two (truth true) p) i o z (record { state = of-type true p (keeps-type n k); input = offered-has n x; output = y }) f x) (goes-on s p xs hs k rest)

    -- from the start
    pub guarded-starts : (s : Store) (p : Object) (xs : TimedList) (hs : List Handed) → has_type (shape_type n c.shape) p ≡ true → Offers n c.input c.output false xs hs
        → Answers n c.output (function_run G (guarded_step n c t j)) (two (truth false) p) hs (run (h nothing_given) false s xs)
    guarded-starts s p [] [] k offers_none = answers_none
    guarded-starts s p _ _ k (offers_first {d = d} {z = z} {v = v} {xs = xs} {i = i} {o = o} {hs = hs} f x y rest) =
        let q = (checked n c F h does false z s v p i o f k x y).1 start comes_first in
        answers_step
        (passes (two (truth false) p) i o (two (truth true) q.state) q.answer z true (fits false p i o k x y) f (offered x) (of-type true q.state (keeps-type n q.keeps)) (has n q.represents) q.result)
        q.represents (goes-on (h nothing_given s (start, v)).0 q.state xs hs q.keeps rest)
    guarded-starts s p xs _ k (offers_long {z = z} {i = i} {o = o} {hs = hs} f x y rest) =
        answers_refusal (refuses (two (truth false) p) i o z (record { state = of-type false p k; input = offered-has n x; output = y }) f x) (guarded-starts s p xs hs k rest)
