-- The checked step.
use Rattle.std.proofs.Common.{◌≡◌, ◌≤◌, ℕ, ℤ, pos, Bool, true, false, ◌&&◌, [], ◌∷◌, Some, None, refl, ap, arith, w64}
use Rattle.std.specs.Prelude.{if◌then◌else◌, int_lt, FitsSigned}
use Rattle.sample_core.specs.Datum.{Datum}
use Rattle.sample_core.specs.TypeTree.{TypeTree}
use Rattle.leaf_code.specs.Fitting.{Bounds}
use Rattle.net_machine.specs.Store.{Moment, start, step, Store}
use Rattle.net_machine.specs.Stepper.{Stepper}
use Rattle.net_code.specs.Running.{Given, nothing_given}
use Rattle.c_meaning.specs.Object.{number_type, i64, Object, truth, number, has_type, in_range}
use Rattle.c_meaning.specs.Syntax.{local, boolean, literal, choice, by_value, by_const, by_pointer, Command, skip, call, branch, answer}
use Rattle.c_meaning.specs.Meaning.{Frame, Linked, bind, eval, function_run}
use Rattle.c_meaning.proofs.Wrapping.{fits-range}
use Rattle.c_meaning.proofs.Alike.{yes-and, alike}
use Rattle.c_meaning.proofs.Runs.{Runs, then-run, ends, skips, calls, chooses-first, chooses-second, defines, assigns, gives-back, function-runs}
use Rattle.c_leaf.specs.Representing.{two, c_type, Represents, no_register}
use Rattle.c_leaf.proofs.Values.{has}
use Rattle.c_leaf.proofs.Same.{set-object}
use Rattle.c_forms.specs.Keeping.{Shape, shape_type, KeepsAt, at_start, at_step, dt_of, dt_object, MomentFits}
use Rattle.c_forms.specs.Standing.{none_frozen, InScope, Right}
use Rattle.c_forms.specs.Checked.{started_of, all_of, too_early, checked_function, KeptFrom, Comes, comes_first, comes_later, Accepts, CheckedLaw}
use Rattle.c_forms.proofs.Lines.{keeps-type, dt-range}

not-below : (d : ℕ) → 1 ≤ d → int_lt (pos d) (pos 1) ≡ false
not-below d l = grind arith

nothing-scope : (n : Bounds) → InScope n [] [] nothing_given []
nothing-scope n = record { params = []; olds = []; are = refl; are_params = no_register; are_olds = none_frozen }

module _ (n : Bounds) (F : ℕ → Linked) (j : ℕ) (S : Shape) (A B : TypeTree) (f : Given → Stepper) (hf : Right n [] [] S A B f (F j)) (s : Store) (x : Datum) (o i y : Object) (hx : Represents n A x i) (hy : has_type (c_type n B) y ≡ true) where
  abbrev frame : Bool → ℤ → Frame
  frame b z = two (truth b) o ∷ number i64 z ∷ i ∷ y ∷ []

  abbrev step-call : Command
  step-call = call (c_type n B) j (by_pointer all_of ∷ by_value (local 4) ∷ by_const (local 2) ∷ [])

  params-fit : (b : Bool) (z : ℤ) → FitsSigned w64 z → has_type (shape_type n S) o ≡ true
      → ((has_type (shape_type n S) o && true) && (in_range i64 z && (has_type (c_type n A) i && (has_type (c_type n B) y && true)))) ≡ true
  params-fit b z w t = yes-and (yes-and t refl) (yes-and (fits-range z w) (yes-and (has n hx) (yes-and hy refl)))

  tests : (b : Bool) (z : ℤ) (c : Bool) → (b && int_lt z (pos 1)) ≡ c → eval (frame b z) too_early ≡ Some (truth c)
  tests true z c e = ap (λ t. Some (truth t)) e
  tests false z c e = ap (λ t. Some (truth t)) e

  refuses : (z : ℤ) → FitsSigned w64 z → has_type (shape_type n S) o ≡ true → int_lt z (pos 1) ≡ true → function_run F (checked_function n S A B j) (frame true z) ≡ Some (frame true z, truth false)
  refuses z w t e =
      function-runs F (checked_function n S A B j) (frame true z) (frame true z) (frame true z) (truth false) (params-fit true z w t) refl
      (ends F (chooses-first F {a = answer (boolean false)} {b = skip} too_early (frame true z) (frame true z) (Some (truth false)) (tests true z true e) (gives-back F (boolean false) (frame true z) (truth false) refl refl))) refl refl

  passes : (b : Bool) (z : ℤ) → (b && int_lt z (pos 1)) ≡ false → Runs F (branch too_early (answer (boolean false)) skip) (frame b z) (frame b z, None)
  passes b z e = chooses-second F {a = answer (boolean false)} {b = skip} too_early (frame b z) (frame b z) None (tests b z false e) (skips F)

  calls-at : (u p : Object) (q z : ℤ) → has_type (shape_type n S) o ≡ true → has_type (shape_type n S) p ≡ true → F j (o ∷ number i64 z ∷ i ∷ []) ≡ Some (p ∷ number i64 z ∷ i ∷ [], u) → has_type (c_type n B) u ≡ true
      → Runs F step-call (two (truth true) o ∷ number i64 q ∷ i ∷ y ∷ number i64 z ∷ []) (two (truth true) p ∷ number i64 q ∷ i ∷ y ∷ number i64 z ∷ u ∷ [], None)
  calls-at u p q z to tp e tu =
      let fr : Frame = two (truth true) o ∷ number i64 q ∷ i ∷ y ∷ number i64 z ∷ [] in
      let f1 : Frame = two (truth true) p ∷ number i64 q ∷ i ∷ y ∷ number i64 z ∷ [] in
      calls F (c_type n B) j (by_pointer all_of ∷ by_value (local 4) ∷ by_const (local 2) ∷ []) fr f1 (o ∷ number i64 z ∷ i ∷ []) (p ∷ number i64 z ∷ i ∷ []) u refl refl e
      (ap (λ c. bind (if c then Some f1 else None) (λ g. Some g)) (yes-and (alike (shape_type n S) o p to tp) refl)) tu

  accepts : (b : Bool) (q : ℤ) (m : Moment) → FitsSigned w64 q → MomentFits m → KeepsAt n m S s o → has_type (shape_type n S) o ≡ true → (b && int_lt q (pos 1)) ≡ false
      → eval (frame b q) (choice started_of (local 1) (literal i64 (pos 0))) ≡ Some (dt_object m)
      → Accepts n S B (f nothing_given s (m, x)) (number i64 q) i (function_run F (checked_function n S A B j) (frame b q))
  accepts b q m w v h to early e =
      let u = hf nothing_given [] (nothing-scope n) m s x o i v h hx in
      let tu = has n u.represents in
      let z : Object = dt_object m in
      let f1 : Frame = two (truth b) o ∷ number i64 q ∷ i ∷ y ∷ z ∷ [] in
      let f2 : Frame = two (truth true) o ∷ number i64 q ∷ i ∷ y ∷ z ∷ [] in
      let f3 : Frame = two (truth true) u.state ∷ number i64 q ∷ i ∷ y ∷ z ∷ u.answer ∷ [] in
      let f4 : Frame = two (truth true) u.state ∷ number i64 q ∷ i ∷ u.answer ∷ z ∷ u.answer ∷ [] in
      let two-line = defines F (number_type i64) (choice started_of (local 1) (literal i64 (pos 0))) (frame b q) z e refl (dt-range m v) in
      let three = assigns F started_of (boolean true) f1 f2 (truth true) refl refl (ap (λ c. if c then Some f2 else None) (yes-and (alike (shape_type n S) o o to to) refl)) in
      let four = calls-at u.answer u.state q (pos (dt_of m)) to (keeps-type n u.keeps) u.result tu in
      let five = assigns F (local 3) (local 5) f3 f4 u.answer refl (set-object n u.represents) (ap (λ c. if c then Some f4 else None) (alike (c_type n B) y u.answer hy tu)) in
      let six = gives-back F (boolean true) f4 (truth true) refl refl in
      record {
        state = u.state;
        answer = u.answer;
        result = function-runs F (checked_function n S A B j) (frame b q) f4 (two (truth true) u.state ∷ number i64 q ∷ i ∷ u.answer ∷ []) (truth true) (params-fit b q w to) refl
            (then-run F (passes b q early) (then-run F two-line (then-run F three (then-run F four (then-run F five six))))) refl refl;
        keeps = u.keeps;
        represents = u.represents;
      }

pub checked_law : CheckedLaw
checked_law n F j S A B f hf b z s x o i y w h hx hy = (low b h, comes b z w h)
  where
    low : (b : Bool) → KeptFrom n b S s o → b ≡ true → int_lt z (pos 1) ≡ true
        → function_run F (checked_function n S A B j) (two (truth b) o ∷ number i64 z ∷ i ∷ y ∷ []) ≡ Some (two (truth b) o ∷ number i64 z ∷ i ∷ y ∷ [], truth false)
    low true h e l = refuses n F j S A B f hf s x o i y hx hy z w (keeps-type n h) l
    low false h e l = absurd (grind arith)

    comes : (b : Bool) (z : ℤ) → FitsSigned w64 z → KeptFrom n b S s o → (m : Moment) → Comes b z m
        → Accepts n S B (f nothing_given s (m, x)) (number i64 z) i (function_run F (checked_function n S A B j) (two (truth b) o ∷ number i64 z ∷ i ∷ y ∷ []))
    comes b z w h m comes_first = accepts n F j S A B f hf s x o i y hx hy false z start w tt (at_start h) h refl refl
    comes b z w h m (comes_later {d = d} v) = accepts n F j S A B f hf s x o i y hx hy true z (step d) w v (at_step h) (keeps-type n h) (not-below d v.0) refl
