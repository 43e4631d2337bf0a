-- The C function of `old` goes on with what was frozen.
use Rattle.std.proofs.Common.{◌≡◌, ◌+◌, ◌*◌, ℕ, zero, suc, pos, true, List, [], ◌∷◌, ◌++◌, length, take, Some, None, refl, subst, sym, ap, ◌∙◌, arith, append_assoc}
use Rattle.std.specs.Prelude.{slice_get}
use Rattle.sample_core.specs.Datum.{Datum}
use Rattle.sample_core.specs.TypeTree.{TypeTree}
use Rattle.leaf_code.specs.Fitting.{Bounds}
use Rattle.net_machine.specs.Store.{Moment, start, step, Store}
use Rattle.net_machine.specs.Stepper.{Stepper}
use Rattle.net_code.specs.Running.{Kept, kept_at, Given, given_first}
use Rattle.c_meaning.specs.Object.{number_type, i64, Object, truth, number, has_type}
use Rattle.c_meaning.specs.Syntax.{local, choice, by_value, by_const, by_pointer, skip, define, assign, call}
use Rattle.c_meaning.specs.Meaning.{Frame, Linked, bind, is_set, eval, basic_in, choice_of, function_run}
use Rattle.c_meaning.proofs.Choices.{choice-like}
use Rattle.c_meaning.proofs.Runs.{Runs, then-run, defines, assigns, skips, get-behind, get-before}
use Rattle.c_leaf.specs.Representing.{c_type, Represents, Registers, no_register, and_register}
use Rattle.c_leaf.proofs.Values.{has}
use Rattle.c_leaf.proofs.LeafC.{registers-length}
use Rattle.c_forms.specs.Keeping.{Shape, shape_type, KeepsAt, at_start, at_step, dt_object, MomentFits}
use Rattle.c_forms.specs.Standing.{param_args, old_args, Frozen, none_frozen, one_frozen, InScope, Steps, Right, is_first, behind}
use Rattle.c_forms.specs.Cells.{at_first}
use Rattle.c_forms.specs.Freezing.{old_term, old_time, first_args, old_function, OldLaw}
use Rattle.c_forms.proofs.Reading.{Reads, reads_const, reads_value, reads-append, write-call, Within, param-reads, old-reads}
use Rattle.c_forms.proofs.Lines.{keeps-type, at-type, dt-range, not-first, at, register-is, answer-line, write-state, yes-line, no-line, whole-function}
use Rattle.c_forms.proofs.Freezing.{shape-set}

-- the first parameters
record FirstParams (n : TypeTree → ℕ) (Qs : List TypeTree) (ps : List Datum) (us : List Object) : Type 0 where
  front : List Object
  behind_it : List Object
  are : us ≡ front ++ behind_it
  registers : Registers n Qs (take (length Qs) ps) front

first-params : (n : Bounds) (Qs Qs' : List TypeTree) {ps : List Datum} {us : List Object} → Registers n (Qs ++ Qs') ps us → FirstParams n Qs ps us
first-params n [] Qs' {us = us} h = record { front = []; behind_it = us; are = refl; registers = no_register }
first-params n (Q ∷ Qs) Qs' (and_register {o = o} r h) =
    let f = first-params n Qs Qs' h in
    record { front = o ∷ f.front; behind_it = f.behind_it; are = ap (λ (us : List Object). o ∷ us) f.are; registers = and_register r f.registers }

-- the first frozen networks
record FirstOlds (n : TypeTree → ℕ) (Rs : List Shape) (ks : List Kept) (os : List Object) : Type 0 where
  front : List Object
  behind_it : List Object
  are : os ≡ front ++ behind_it
  frozen : Frozen n Rs (take (length Rs) ks) front

first-olds : (n : Bounds) (Rs Rs' : List Shape) {ks : List Kept} {os : List Object} → Frozen n (Rs ++ Rs') ks os → FirstOlds n Rs ks os
first-olds n [] Rs' {os = os} h = record { front = []; behind_it = os; are = refl; frozen = none_frozen }
first-olds n (R ∷ Rs) Rs' (one_frozen {m = m} {o = o} w k h) =
    let f = first-olds n Rs Rs' h in
    record { front = o ∷ dt_object m ∷ f.front; behind_it = f.behind_it; are = ap (λ (us : List Object). o ∷ dt_object m ∷ us) f.are; frozen = one_frozen w k f.frozen }

-- frozen network k
record OldIs (n : TypeTree → ℕ) (S : Shape) (ks : List Kept) (os : List Object) (k : ℕ) : Type 0 where
  object : Object
  fits : MomentFits (kept_at ks k).1
  keeps : KeepsAt n (kept_at ks k).1 S (kept_at ks k).0 object
  is_at : slice_get os (2 * k) ≡ Some object
  is_time : slice_get os (2 * k + 1) ≡ Some (dt_object (kept_at ks k).1)

no-shape : {S : Shape} {P : Type 0} → None ≡ Some S → P
no-shape e = absurd (grind arith)

same-shape : {S T : Shape} → Some S ≡ Some T → S ≡ T
same-shape e = cc

old-is : (n : Bounds) (k : ℕ) {S : Shape} {Os : List Shape} {ks : List Kept} {os : List Object} → Frozen n Os ks os → slice_get Os k ≡ Some S → OldIs n S ks os k
old-is n k none_frozen e = no-shape e
old-is n zero (one_frozen {a = a} {m = m} {o = o} w h r) e =
    record { object = o; fits = w; keeps = subst (λ S. KeepsAt n m S a o) (same-shape e) h; is_at = refl; is_time = refl }
old-is n (suc k) (one_frozen {m = m} {o = o} {os = os} w h r) e =
    let y = old-is n k r e in
    record {
      object = y.object;
      fits = y.fits;
      keeps = y.keeps;
      is_at = ap (slice_get (o ∷ dt_object m ∷ os)) (even k) ∙ y.is_at;
      is_time = ap (slice_get (o ∷ dt_object m ∷ os)) (odd k) ∙ y.is_time;
    }
  where
    even : (k : ℕ) → 2 * suc k ≡ suc (suc (2 * k))
    even k = omega arith

    odd : (k : ℕ) → 2 * suc k + 1 ≡ suc (suc (2 * k + 1))
    odd k = omega arith

module _ (n : Bounds) (Qs Qs' : List TypeTree) (Rs Rs' : List Shape) (F : ℕ → Linked) where
  abbrev Ps : List TypeTree
  Ps = Qs ++ Qs'

  abbrev Os : List Shape
  Os = Rs ++ Rs'

  module _ (g : Given) (qs : List Object) (h : InScope n Ps Os g qs) where
    abbrev spot : Object → Object → Object → List Object → Frame
    spot o d i rs = at n Ps Os F g qs h o d i rs

    first-p : FirstParams n Qs g.params h.params
    first-p = first-params n Qs Qs' h.are_params

    first-o : FirstOlds n Rs g.olds h.olds
    first-o = first-olds n Rs Rs' h.are_olds

    abbrev handed : List Object
    handed = first-p.front ++ first-o.front

    first-scope : InScope n Qs Rs (given_first g (length Qs) (length Rs)) handed
    first-scope = record { params = first-p.front; olds = first-o.front; are = refl; are_params = first-p.registers; are_olds = first-o.frozen }

    -- what stands behind the input
    old-place : (o d i : Object) (rs : List Object) (c : ℕ) (y : Object) → slice_get h.olds c ≡ Some y → slice_get (spot o d i rs) (3 + length Ps + c) ≡ Some y
    old-place o d i rs c y e =
        ap (λ us. slice_get (o ∷ d ∷ i ∷ us) (3 + length Ps + c)) (ap (λ (us : List Object). us ++ rs) h.are ∙ append_assoc h.params h.olds rs)
        ∙ ap (slice_get (o ∷ d ∷ i ∷ (h.params ++ (h.olds ++ rs)))) (shift (length Ps) (length h.params) c (registers-length n h.are_params))
        ∙ get-behind (o ∷ d ∷ i ∷ h.params) (h.olds ++ rs) c ∙ get-before h.olds rs c y e
      where
        shift : (w l c : ℕ) → w ≡ l → 3 + w + c ≡ suc (suc (suc l)) + c
        shift w l c e = omega arith

    whole : Within (local 0)
    whole = record { ks = []; is = refl }

    first-reads : (o d i : Object) (rs : List Object) → Reads (spot o d i rs) (local 0) (first_args n Qs Qs' Rs Rs') handed
    first-reads o d i rs = reads-append (spot o d i rs) (local 0) params-are olds-are
      where
        as-params : qs ++ rs ≡ first-p.front ++ (first-p.behind_it ++ (h.olds ++ rs))
        as-params =
            ap (λ (us : List Object). us ++ rs) h.are ∙ append_assoc h.params h.olds rs
            ∙ ap (λ (us : List Object). us ++ (h.olds ++ rs)) first-p.are ∙ append_assoc first-p.front first-p.behind_it (h.olds ++ rs)

        as-olds : qs ++ rs ≡ h.params ++ (first-o.front ++ (first-o.behind_it ++ rs))
        as-olds =
            ap (λ (us : List Object). us ++ rs) h.are ∙ append_assoc h.params h.olds rs
            ∙ ap (λ (us : List Object). h.params ++ (us ++ rs)) first-o.are ∙ ap (λ (us : List Object). h.params ++ us) (append_assoc first-o.front first-o.behind_it rs)

        shift : (w l : ℕ) → w ≡ l → 3 + w ≡ suc (suc (suc l))
        shift w l e = omega arith

        params-are : Reads (spot o d i rs) (local 0) (param_args 3 (length Qs)) first-p.front
        params-are =
            subst (λ us. Reads (o ∷ d ∷ i ∷ us) (local 0) (param_args 3 (length Qs)) first-p.front) (sym as-params)
            (param-reads (local 0) whole (o ∷ d ∷ i ∷ []) first-p.front (first-p.behind_it ++ (h.olds ++ rs)) 3 (length Qs) refl (registers-length n first-p.registers) (omega arith))

        olds-are : Reads (spot o d i rs) (local 0) (old_args (3 + length Ps) (length Rs)) first-o.front
        olds-are =
            subst (λ us. Reads (o ∷ d ∷ i ∷ us) (local 0) (old_args (3 + length Ps) (length Rs)) first-o.front) (sym as-olds)
            (old-reads (local 0) whole n (o ∷ d ∷ i ∷ h.params) (first-o.behind_it ++ rs) (3 + length Ps) (length Rs) first-o.frozen (shift (length Ps) (length h.params) (registers-length n h.are_params)) refl (omega arith))

    -- the lines behind the copy
    goes-on : (S : Shape) (A B : TypeTree) (k j : ℕ) (f : Given → Stepper) → Right n Qs Rs S A B f (F j) → (m m0 : Moment) (s : Store) (x : Datum) (o o1 i : Object) → MomentFits m → MomentFits m0
        → has_type (shape_type n S) o ≡ true → KeepsAt n m0 S s o1 → Represents n A x i
        → eval (spot o (dt_object m) i []) (choice is_first (old_time n Qs Qs' Rs Rs' k) (local 1)) ≡ Some (dt_object m0)
        → Runs F (at_first (assign (local 0) (old_term n Qs Qs' Rs Rs' k))) (spot o (dt_object m) i (dt_object m0 ∷ [])) (spot o1 (dt_object m) i (dt_object m0 ∷ []), None)
        → Steps n S B (f (given_first g (length Qs) (length Rs)) s (m0, x)) (dt_object m ∷ i ∷ qs) (function_run F (old_function n Qs Qs' Rs Rs' S A B k j) (o ∷ dt_object m ∷ i ∷ qs))
    goes-on S A B k j f hf m m0 s x o o1 i w w0 to k1 rx et copies =
        let d : Object = dt_object m in
        let d0 : Object = dt_object m0 in
        let u = hf (given_first g (length Qs) (length Rs)) handed first-scope m0 s x o1 i w0 k1 rx in
        let one = subst (λ us. Runs F (define (number_type i64) (choice is_first (old_time n Qs Qs' Rs Rs' k) (local 1))) (spot o d i []) (o ∷ d ∷ i ∷ us, None)) (append_assoc qs [] (d0 ∷ []))
        (defines F (number_type i64) (choice is_first (old_time n Qs Qs' Rs Rs' k) (local 1)) (spot o d i []) d0 et refl (dt-range m0 w0)) in
        let fr : Frame = spot o1 d i (d0 ∷ []) in
        let reads = reads_value {e = behind n Ps Os 0} (ap (λ E. bind E is_set) (register-is n Ps Os F g qs h o1 d i (d0 ∷ []) 0 d0 refl))
        (reads_const {e = local 2} refl refl (first-reads o1 d i (d0 ∷ []))) in
        let three = subst (λ us. Runs F (call (c_type n B) j (by_pointer (local 0) ∷ by_value (behind n Ps Os 0) ∷ by_const (local 2) ∷ first_args n Qs Qs' Rs Rs')) fr (u.state ∷ d ∷ i ∷ us, None)) (append_assoc qs (d0 ∷ []) (u.answer ∷ []))
        (write-call fr (local 0) F (c_type n B) j (spot u.state d i (d0 ∷ [])) o1 u.state u.answer reads refl u.result
        (write-state n Ps Os F g qs h (shape_type n S) o1 u.state d i (d0 ∷ []) (at-type n k1) (keeps-type n u.keeps)) (has n u.represents)) in
        let rs : List Object = d0 ∷ u.answer ∷ [] in
        let back = answer-line n Ps Os F g qs h (behind n Ps Os 1) u.state d i rs (register-is n Ps Os F g qs h u.state d i rs 1 u.answer refl) u.represents in
        record {
          state = u.state;
          answer = u.answer;
          result = whole-function n Ps Os F g qs h S A B _ m o i u.state u.answer rs refl w to rx (then-run F one (then-run F copies (then-run F three back))) u.represents;
          keeps = u.keeps;
          represents = u.represents;
        }

  pub old_law : OldLaw n Qs Qs' Rs Rs' F
  old_law S A B k j f e hf g qs h start s x o i w (at_start to) r =
      let y = old-is n k h.are_olds e in
      let m0 : Moment = (kept_at g.olds k).1 in
      let d : Object = number i64 (pos 0) in
      let z : List Object = dt_object m0 ∷ [] in
      let copy = assigns F (local 0) (old_term n Qs Qs' Rs Rs' k) (spot g qs h o d i z) (spot g qs h y.object d i z) y.object (old-place g qs h o d i z (2 * k) y.object y.is_at) (shape-set n S y.object (at-type n y.keeps))
      (write-state n (Qs ++ Qs') (Rs ++ Rs') F g qs h (shape_type n S) o y.object d i z to (at-type n y.keeps)) in
      let timed = old-place g qs h o d i [] (2 * k + 1) (dt_object m0) y.is_time in
      goes-on g qs h S A B k j f hf start m0 (kept_at g.olds k).0 x o y.object i w y.fits to y.keeps r
      (choice-like (spot g qs h o d i []) is_first (old_time n Qs Qs' Rs Rs' k) (local 1) (dt_object m0) d (ap basic_in timed) refl refl ∙ timed)
      (yes-line n (Qs ++ Qs') (Rs ++ Rs') F g qs h (assign (local 0) (old_term n Qs Qs' Rs Rs' k)) skip is_first o d i z [] y.object None refl copy)
  old_law S A B k j f e hf g qs h (step d0) s x o i w (at_step kept) r =
      let y = old-is n k h.are_olds e in
      let d : Object = number i64 (pos d0) in
      let m0 : Moment = (kept_at g.olds k).1 in
      goes-on g qs h S A B k j f hf (step d0) (step d0) s x o o i w w (keeps-type n kept) (at_step kept) r
      (choice-like (spot g qs h o d i []) is_first (old_time n Qs Qs' Rs Rs' k) (local 1) (dt_object m0) d (ap basic_in (old-place g qs h o d i [] (2 * k + 1) (dt_object m0) y.is_time)) refl refl
      ∙ ap (λ b. choice_of (truth b) (eval (spot g qs h o d i []) (old_time n Qs Qs' Rs Rs' k)) (Some d)) (not-first d0 w.0))
      (no-line n (Qs ++ Qs') (Rs ++ Rs') F g qs h (assign (local 0) (old_term n Qs Qs' Rs Rs' k)) skip is_first o d i (d ∷ []) [] o None (ap (λ b. Some (truth b)) (not-first d0 w.0)) (skips F))
