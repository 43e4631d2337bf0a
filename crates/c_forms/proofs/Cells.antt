-- The C functions of cells do the cells' steps.
use Rattle.std.proofs.Common.{◌≡◌, ◌≤◌, ◌<◌, ◌-◌, ◌%◌, ◌^◌, ℕ, zero, suc, ℤ, pos, ◌+ℤ◌, ◌-ℤ◌, ◌*ℤ◌, Bool, true, false, List, [], ◌∷◌, Option, Some, None, refl, subst, sym, ap, ap₂, ◌∙◌, arith, w64}
use Rattle.std.specs.Prelude.{if◌then◌else◌, FitsSigned, int_le, nat_le}
use Rattle.std.specs.Int.{int_wrap}
use Rattle.std.proofs.lemmas.Int.{SFits-int_wrap, ints, int_wrap-add_right}
use Rattle.sample_core.specs.Datum.{Datum, int, pair, no_event, event, int_of}
use Rattle.sample_core.specs.TypeTree.{TypeTree, int_ty, pair_ty, event_ty}
use Rattle.leaf_code.specs.Fitting.{Bounds}
use Rattle.cell_core.specs.Cell.{Cell, accumulating, waiting, over, recurring, summing, after_cell, cell_step}
use Rattle.cell_core.specs.CellLaws.{put_in}
use Rattle.cell_core.specs.declared.form.Form.{Form}
use Rattle.cell_core.specs.declared.form.Form.TheVariants as F
use Rattle.net_machine.specs.Store.{Moment, start, step, Store, kept}
use Rattle.net_machine.specs.Stepper.{cell_form_step}
use Rattle.net_machine.specs.Machine.{no_leaf}
use Rattle.net_code.specs.Running.{Given}
use Rattle.c_meaning.specs.Object.{CType, truth_type, number_type, no_member, member, i64, Object, truth, number, end, more, in_range, has_type, zeros}
use Rattle.c_meaning.specs.Syntax.{plus, minus, times, remainder, at_most, Term, local, dot, boolean, binary, inverse, both, choice, Command, skip, sequence, define, assign, branch, answer}
use Rattle.c_meaning.specs.Meaning.{Frame, Linked, bind, eval, basic_in, checked, operate, both_of, choice_of, inverted, write, function_run}
use Rattle.c_meaning.specs.Wrapping.{modular}
use Rattle.c_meaning.proofs.Wrapping.{wrapping_law, fits-range, check-yes, small-signed, difference}
use Rattle.c_meaning.proofs.Alike.{yes-and, alike}
use Rattle.c_meaning.proofs.Choices.{choice-like}
use Rattle.c_meaning.proofs.Runs.{Runs, then-run, ends, skips, assigns}
use Rattle.c_leaf.specs.Representing.{two, c_type, Represents, c_int, c_no_event, c_event, c_pair}
use Rattle.c_leaf.specs.LeafC.{pair_of}
use Rattle.c_leaf.specs.LeafCLaw.{Computes, IsConstant}
use Rattle.c_leaf.proofs.Values.{has, zeros-represent}
use Rattle.c_leaf.proofs.Same.{set-object, pair-is}
use Rattle.c_forms.specs.Keeping.{Shape, keeps_cell, cell_type, shape_type, HoldsCell, holds_previous, holds_latest, holds_accumulator, holds_waiting, holds_over, holds_recurring, holds_time, holds_sum, Keeps, cell_kept, KeepsAt, at_start, at_step, dt_of, dt_object, MomentFits}
use Rattle.c_forms.specs.Standing.{InScope, Steps, is_first, behind, leaf_call, constant_call, stepping}
use Rattle.c_forms.specs.Cells.{kept_at, number_term, event_of, at_first, no_event_of, i_pre_function, hold_function, accum_function, after_function, repeatedly_function, time_function, integral_function, IPreLaw, HoldLaw, AfterLaw, RepeatedlyLaw, AccumLaw, TimeLaw, IntegralLaw}
use Rattle.c_forms.proofs.Lines.{not-first, front-of, nothing-there, at, register-is, define-line, answer-line, write-state, constant-line, leaf-line, yes-line, no-line, first-or, whole-function}
use Rattle.c_forms.proofs.Forms.{beside-whole}

-- a struct of one member
pub record Single (A : CType) (o : Object) : Type 0 where
  pub a : Object
  pub is : o ≡ more a end
  pub has_a : has_type A a ≡ true

pub single : (A : CType) (o : Object) → has_type (member A no_member) o ≡ true → Single A o
single A o e =
    let f = front-of A no_member o e in
    record { a = f.a; is = f.is ∙ ap (more f.a) (nothing-there f.b f.has_b); has_a = f.has_a }

module _ (n : Bounds) (Ps : List TypeTree) (Os : List Shape) (G : ℕ → Linked) (g : Given) (qs : List Object) (h : InScope n Ps Os g qs) where
  abbrev pub spot : Object → ℕ → Object → List Object → Frame
  spot o d i rs = at n Ps Os G g qs h o (number i64 (pos d)) i rs

  -- a member of what is kept is written
  pub put-line : (T : CType) (k : ℕ) (e : Term) (o v : Object) (d : ℕ) (i : Object) (rs : List Object) (z : Object) → eval (spot o d i rs) e ≡ Some z → Rattle.c_meaning.specs.Meaning.is_set z ≡ Some z
      → write (spot o d i rs) (kept_at k) z ≡ Rattle.c_meaning.specs.Meaning.replaced (spot o d i rs) 0 o v → has_type T o ≡ true → has_type T v ≡ true
      → Runs G (assign (kept_at k) e) (spot o d i rs) (spot v d i rs, None)
  put-line T k e o v d i rs z he hs hw ho hv = assigns G (kept_at k) e (spot o d i rs) (spot v d i rs) z he hs (hw ∙ write-state n Ps Os G g qs h T o v (number i64 (pos d)) i rs ho hv)

  -- after the first sample a restart is passed over
  pub passes : (c : Command) (o : Object) (d : ℕ) (i z : Object) → 1 ≤ d → Runs G (at_first c) (spot o d i (z ∷ [])) (spot o d i (z ∷ []), None)
  passes c o d i z l = no-line n Ps Os G g qs h c skip is_first o (number i64 (pos d)) i (z ∷ []) [] o None (ap (λ b. Some (truth b)) (not-first d l)) (skips G)

  pub starts : (c : Command) (o p i z : Object) → Runs G c (spot o 0 i (z ∷ [])) (spot p 0 i (z ∷ []), None) → Runs G (at_first c) (spot o 0 i (z ∷ [])) (spot p 0 i (z ∷ []), None)
  starts c o p i z k = yes-line n Ps Os G g qs h c skip is_first o (number i64 (pos 0)) i (z ∷ []) [] p None refl k

  pub register-0 : (o : Object) (d : ℕ) (i z : Object) (rs : List Object) → eval (spot o d i (z ∷ rs)) (behind n Ps Os 0) ≡ Some z
  register-0 o d i z rs = register-is n Ps Os G g qs h o (number i64 (pos d)) i (z ∷ rs) 0 z refl

  -- a cell that is a value starts with the constant
  value-starts : (V : TypeTree) (a i z : Object) {v : Datum} → has_type (c_type n V) a ≡ true → Represents n V v z
      → Runs G (at_first (assign (kept_at 0) (behind n Ps Os 0))) (spot (more a end) 0 i (z ∷ [])) (spot (more z end) 0 i (z ∷ []), None)
  value-starts V a i z t r =
      starts _ (more a end) (more z end) i z
      (put-line (member (c_type n V) no_member) 0 (behind n Ps Os 0) (more a end) (more z end) 0 i (z ∷ []) z (register-0 (more a end) 0 i z []) (set-object n r) refl (yes-and t refl) (yes-and (has n r) refl))

module _ (n : Bounds) (Ps : List TypeTree) (Os : List Shape) (G : ℕ → Linked) where
  -- a value cell at the first sample
  value-single : (form : Form) (V : TypeTree) (s : Store) (o : Object) → cell_type n form V ≡ member (c_type n V) no_member → KeepsAt n start (keeps_cell form V) s o → Single (c_type n V) o
  value-single form V s o e (at_start t) = single (c_type n V) o (subst (λ T. has_type T o ≡ true) e t)

  pub i_pre_law : IPreLaw n Ps Os G
  i_pre_law V c v k g qs h start s x o i w k0 r =
      let f = value-single F.IPre V s o refl k0 in
      let d : Object = number i64 (pos 0) in
      let o0 : Object = more f.a end in
      let o1 : Object = more i end in
      let a = constant-line n Ps Os G g qs h V c v o0 d i [] k in
      let z : Object = a.0 in
      let one = define-line n Ps Os G g qs h V (choice is_first (behind n Ps Os 0) (kept_at 0)) o0 d i (z ∷ [])
      (choice-like (spot n Ps Os G g qs h o0 0 i (z ∷ [])) is_first (behind n Ps Os 0) (kept_at 0) z f.a (ap basic_in (register-0 n Ps Os G g qs h o0 0 i z [])) refl (alike (c_type n V) z f.a (has n a.2) f.has_a) ∙ register-0 n Ps Os G g qs h o0 0 i z []) a.2 in
      let two-line = put-line n Ps Os G g qs h (member (c_type n V) no_member) 0 (local 2) o0 o1 0 i (z ∷ z ∷ []) i refl (set-object n r) refl (yes-and f.has_a refl) (yes-and (has n r) refl) in
      let three = answer-line n Ps Os G g qs h (behind n Ps Os 1) o1 d i (z ∷ z ∷ []) (register-is n Ps Os G g qs h o1 d i (z ∷ z ∷ []) 1 z refl) a.2 in
      record {
        state = o1;
        answer = z;
        result = ap (λ p. function_run G (i_pre_function n Ps Os V c) (p ∷ d ∷ i ∷ qs)) f.is
            ∙ whole-function n Ps Os G g qs h (keeps_cell F.IPre V) V V _ start o0 i o1 z (z ∷ z ∷ []) refl w (yes-and f.has_a refl) r (then-run G a.1 (then-run G one (then-run G two-line three))) a.2;
        keeps = cell_kept (holds_previous r);
        represents = a.2;
      }
  i_pre_law V c v k g qs h (step e) s x o i w (at_step (cell_kept (holds_previous {o = y} u))) r =
      let d : Object = number i64 (pos e) in
      let o0 : Object = more y end in
      let o1 : Object = more i end in
      let a = constant-line n Ps Os G g qs h V c v o0 d i [] k in
      let z : Object = a.0 in
      let q = first-or n Ps Os G g qs h (step e) (behind n Ps Os 0) (kept_at 0) o0 i (z ∷ []) w (register-0 n Ps Os G g qs h o0 e i z []) refl (ap basic_in (register-0 n Ps Os G g qs h o0 e i z [])) refl a.2 u in
      let one = define-line n Ps Os G g qs h V (choice is_first (behind n Ps Os 0) (kept_at 0)) o0 d i (z ∷ []) q.1 q.2 in
      let two-line = put-line n Ps Os G g qs h (member (c_type n V) no_member) 0 (local 2) o0 o1 e i (z ∷ q.0 ∷ []) i refl (set-object n r) refl (yes-and (has n u) refl) (yes-and (has n r) refl) in
      let three = answer-line n Ps Os G g qs h (behind n Ps Os 1) o1 d i (z ∷ q.0 ∷ []) (register-is n Ps Os G g qs h o1 d i (z ∷ q.0 ∷ []) 1 q.0 refl) q.2 in
      record {
        state = o1;
        answer = q.0;
        result = whole-function n Ps Os G g qs h (keeps_cell F.IPre V) V V _ (step e) o0 i o1 q.0 (z ∷ q.0 ∷ []) refl w (yes-and (has n u) refl) r (then-run G a.1 (then-run G one (then-run G two-line three))) q.2;
        keeps = cell_kept (holds_previous r);
        represents = q.2;
      }

  -- `hold` behind its restart
  record Held (V : TypeTree) (g : Given) (qs : List Object) (h : InScope n Ps Os g qs) (x u : Datum) (y i z : Object) (d : ℕ) : Type 0 where
    p : Object
    runs : Runs G (branch (dot (local 2) 0) (assign (kept_at 0) (dot (local 2) 1)) skip) (spot n Ps Os G g qs h (more y end) d i (z ∷ [])) (spot n Ps Os G g qs h (more p end) d i (z ∷ []), None)
    represents : Represents n V (Rattle.net_meaning.specs.SignalFunction.latest_event u (x ∷ [])) p

  held : (V : TypeTree) (g : Given) (qs : List Object) (h : InScope n Ps Os g qs) {x u : Datum} {y i : Object} (z : Object) (d : ℕ) → Represents n V u y → Represents n (event_ty V) x i → Held V g qs h x u y i z d
  held V g qs h {y = y} {i = i} z d r (c_no_event t) =
      record { p = y; runs = no-line n Ps Os G g qs h (assign (kept_at 0) (dot (local 2) 1)) skip (dot (local 2) 0) (more y end) (number i64 (pos d)) i (z ∷ []) [] (more y end) None refl (skips G); represents = r }
  held V g qs h {y = y} {i = i} z d r (c_event {o = p} e) =
      record {
        p = p;
        runs = yes-line n Ps Os G g qs h (assign (kept_at 0) (dot (local 2) 1)) skip (dot (local 2) 0) (more y end) (number i64 (pos d)) i (z ∷ []) [] (more p end) None refl
            (put-line n Ps Os G g qs h (member (c_type n V) no_member) 0 (dot (local 2) 1) (more y end) (more p end) d i (z ∷ []) p refl (set-object n e) refl (yes-and (has n r) refl) (yes-and (has n e) refl));
        represents = e;
      }

  pub hold_law : HoldLaw n Ps Os G
  hold_law V c v k g qs h start s x o i w k0 r =
      let f = value-single F.Hold V s o refl k0 in
      let d : Object = number i64 (pos 0) in
      let o0 : Object = more f.a end in
      let a = constant-line n Ps Os G g qs h V c v o0 d i [] k in
      let z : Object = a.0 in
      let one = value-starts n Ps Os G g qs h V f.a i z f.has_a a.2 in
      let b = held V g qs h z 0 a.2 r in
      let three = answer-line n Ps Os G g qs h (kept_at 0) (more b.p end) d i (z ∷ []) refl b.represents in
      record {
        state = more b.p end;
        answer = b.p;
        result = ap (λ p. function_run G (hold_function n Ps Os V c) (p ∷ d ∷ i ∷ qs)) f.is
            ∙ whole-function n Ps Os G g qs h (keeps_cell F.Hold V) (event_ty V) V _ start o0 i (more b.p end) b.p (z ∷ []) refl w (yes-and f.has_a refl) r (then-run G a.1 (then-run G one (then-run G b.runs three))) b.represents;
        keeps = cell_kept (holds_latest b.represents);
        represents = b.represents;
      }
  hold_law V c v k g qs h (step e) s x o i w (at_step (cell_kept (holds_latest {o = y} u))) r =
      let d : Object = number i64 (pos e) in
      let o0 : Object = more y end in
      let a = constant-line n Ps Os G g qs h V c v o0 d i [] k in
      let z : Object = a.0 in
      let one = passes n Ps Os G g qs h (assign (kept_at 0) (behind n Ps Os 0)) o0 e i z w.0 in
      let b = held V g qs h z e u r in
      let three = answer-line n Ps Os G g qs h (kept_at 0) (more b.p end) d i (z ∷ []) refl b.represents in
      record {
        state = more b.p end;
        answer = b.p;
        result = whole-function n Ps Os G g qs h (keeps_cell F.Hold V) (event_ty V) V _ (step e) o0 i (more b.p end) b.p (z ∷ []) refl w (yes-and (has n u) refl) r (then-run G a.1 (then-run G one (then-run G b.runs three))) b.represents;
        keeps = cell_kept (holds_latest b.represents);
        represents = b.represents;
      }

  -- sums
  zero-fits : FitsSigned w64 (pos 0)
  zero-fits = grind arith

  sum-type : (z : ℤ) → FitsSigned w64 z → has_type (member (number_type i64) no_member) (more (number i64 z) end) ≡ true
  sum-type z f = yes-and (fits-range z f) refl

  step-fits : (d : ℕ) → d < 2 ^ 63 → FitsSigned w64 (pos d)
  step-fits d l = grind (arith, ints)

  pub time_law : TimeLaw n Ps Os G
  time_law V A g qs h start s x o i w (at_start t) r =
      let f = single (number_type i64) o t in
      let d : Object = number i64 (pos 0) in
      let o0 : Object = more f.a end in
      let z : Object = number i64 (pos 0) in
      let y : Represents n int_ty (int (pos 0)) z = c_int zero-fits in
      let one = put-line n Ps Os G g qs h (member (number_type i64) no_member) 0 (choice is_first (number_term 0) (modular plus (kept_at 0) (local 1))) o0 (more z end) 0 i [] z refl refl refl (yes-and f.has_a refl) refl in
      record {
        state = more z end;
        answer = z;
        result = ap (λ p. function_run G (time_function n Ps Os V A) (p ∷ d ∷ i ∷ qs)) f.is
            ∙ whole-function n Ps Os G g qs h (keeps_cell F.Time V) A int_ty _ start o0 i (more z end) z [] refl w (yes-and f.has_a refl) r (then-run G one (answer-line n Ps Os G g qs h (kept_at 0) (more z end) d i [] refl y)) y;
        keeps = cell_kept (holds_time zero-fits);
        represents = y;
      }
  time_law V A g qs h (step e) s x o i w (at_step (cell_kept (holds_time {z = b} u))) r =
      let d : Object = number i64 (pos e) in
      let o0 : Object = more (number i64 b) end in
      let c : ℤ = int_wrap w64 (b +ℤ pos e) in
      let z : Object = number i64 (int_wrap w64 (b +ℤ pos e)) in
      let t : FitsSigned w64 (int_wrap w64 (b +ℤ pos e)) = SFits-int_wrap w64 (b +ℤ pos e) in
      let y : Represents n int_ty (int (int_wrap w64 (b +ℤ pos e))) z = c_int t in
      let sum = (wrapping_law (spot n Ps Os G g qs h o0 e i []) (kept_at 0) (local 1) b (pos e) u (step-fits e w.1) refl refl).0 in
      let one = put-line n Ps Os G g qs h (member (number_type i64) no_member) 0 (choice is_first (number_term 0) (modular plus (kept_at 0) (local 1))) o0 (more z end) e i [] z
      (ap (λ b. choice_of (truth b) (Some (number i64 (pos 0))) (eval (spot n Ps Os G g qs h o0 e i []) (modular plus (kept_at 0) (local 1)))) (not-first e w.0) ∙ sum) refl refl (sum-type b u) (sum-type _ t) in
      record {
        state = more z end;
        answer = z;
        result = whole-function n Ps Os G g qs h (keeps_cell F.Time V) A int_ty _ (step e) o0 i (more z end) z [] refl w (sum-type b u) r (then-run G one (answer-line n Ps Os G g qs h (kept_at 0) (more z end) d i [] refl y)) y;
        keeps = cell_kept (holds_time t);
        represents = y;
      }

  -- the two sums of `integral`
  abbrev sums : Object → Object → Object
  sums a b = more a (more b end)

  abbrev sums-type : CType
  sums-type = member (number_type i64) (member (number_type i64) no_member)

  sums-have : (y z : ℤ) → FitsSigned w64 y → FitsSigned w64 z → has_type sums-type (sums (number i64 y) (number i64 z)) ≡ true
  sums-have y z p q = yes-and (fits-range y p) (yes-and (fits-range z q) refl)

  abbrev next-sum : Term
  next-sum = choice is_first (number_term 0) (modular plus (kept_at 0) (modular times (local 1) (kept_at 1)))

  int-is : (x : Datum) (i : Object) → Represents n int_ty x i → (i ≡ number i64 (int_of x)) × FitsSigned w64 (int_of x)
  int-is x i (c_int f) = (refl, f)

  pub integral_law : IntegralLaw n Ps Os G
  integral_law V g qs h start s x o i w (at_start t) r =
      let f = front-of (number_type i64) (member (number_type i64) no_member) o t in
      let l = single (number_type i64) f.b f.has_b in
      let j = int-is x i r in
      let d : Object = number i64 (pos 0) in
      let z : Object = number i64 (pos 0) in
      let o0 : Object = sums f.a l.a in
      let o1 : Object = sums z l.a in
      let o2 : Object = sums z i in
      let is0 : o ≡ sums f.a l.a = f.is ∙ ap (more f.a) l.is in
      let y : Represents n int_ty (int (pos 0)) z = c_int zero-fits in
      let t0 : has_type sums-type o0 ≡ true = yes-and f.has_a (yes-and l.has_a refl) in
      let t1 : has_type sums-type o1 ≡ true = yes-and (fits-range (pos 0) zero-fits) (yes-and l.has_a refl) in
      let t2 : has_type sums-type o2 ≡ true = yes-and (fits-range (pos 0) zero-fits) (yes-and (has n r) refl) in
      let one = put-line n Ps Os G g qs h sums-type 0 next-sum o0 o1 0 i [] z refl refl refl t0 t1 in
      let two-line = put-line n Ps Os G g qs h sums-type 1 (local 2) o1 o2 0 i [] i refl (set-object n r) refl t1 t2 in
      let three = answer-line n Ps Os G g qs h (kept_at 0) o2 d i [] refl y in
      record {
        state = o2;
        answer = z;
        result = ap (λ p. function_run G (integral_function n Ps Os V) (p ∷ d ∷ i ∷ qs)) is0
            ∙ whole-function n Ps Os G g qs h (keeps_cell F.Integral V) int_ty int_ty _ start o0 i o2 z [] refl w t0 r (then-run G one (then-run G two-line three)) y;
        keeps = subst (λ p. Keeps n (keeps_cell F.Integral V) (kept (summing (pos 0) (int_of x))) (sums z p)) (sym j.0) (cell_kept (holds_sum zero-fits j.1));
        represents = y;
      }
  integral_law V g qs h (step e) s x o i w (at_step (cell_kept (holds_sum {z = b} {before = c} u v))) r =
      let j = int-is x i r in
      let d : Object = number i64 (pos e) in
      let o0 : Object = sums (number i64 b) (number i64 c) in
      let fr : Frame = spot n Ps Os G g qs h o0 e i [] in
      let product = (wrapping_law fr (local 1) (kept_at 1) (pos e) c (step-fits e w.1) v refl refl).2 in
      let sum = (wrapping_law fr (kept_at 0) (modular times (local 1) (kept_at 1)) b (int_wrap w64 (pos e *ℤ c)) u (SFits-int_wrap w64 (pos e *ℤ c)) refl product).0 in
      let z : Object = number i64 (int_wrap w64 (b +ℤ (pos e *ℤ c))) in
      let same : eval fr (modular plus (kept_at 0) (modular times (local 1) (kept_at 1))) ≡ Some z = sum ∙ ap (λ m. Some (number i64 m)) (int_wrap-add_right w64 b (pos e *ℤ c)) in
      let fit : FitsSigned w64 (int_wrap w64 (b +ℤ (pos e *ℤ c))) = SFits-int_wrap w64 (b +ℤ (pos e *ℤ c)) in
      let y : Represents n int_ty (int (int_wrap w64 (b +ℤ (pos e *ℤ c)))) z = c_int fit in
      let o1 : Object = sums z (number i64 c) in
      let o2 : Object = sums z i in
      let t0 : has_type sums-type o0 ≡ true = sums-have b c u v in
      let t1 : has_type sums-type o1 ≡ true = sums-have (int_wrap w64 (b +ℤ (pos e *ℤ c))) c fit v in
      let t2 : has_type sums-type o2 ≡ true = yes-and (fits-range (int_wrap w64 (b +ℤ (pos e *ℤ c))) fit) (yes-and (has n r) refl) in
      let one = put-line n Ps Os G g qs h sums-type 0 next-sum o0 o1 e i [] z
      (ap (λ b. choice_of (truth b) (Some (number i64 (pos 0))) (eval fr (modular plus (kept_at 0) (modular times (local 1) (kept_at 1))))) (not-first e w.0) ∙ same) refl refl t0 t1 in
      let two-line = put-line n Ps Os G g qs h sums-type 1 (local 2) o1 o2 e i [] i refl (set-object n r) refl t1 t2 in
      let three = answer-line n Ps Os G g qs h (kept_at 0) o2 d i [] refl y in
      record {
        state = o2;
        answer = z;
        result = whole-function n Ps Os G g qs h (keeps_cell F.Integral V) int_ty int_ty _ (step e) o0 i o2 z [] refl w t0 r (then-run G one (then-run G two-line three)) y;
        keeps = subst (λ p. Keeps n (keeps_cell F.Integral V) (kept (summing (int_wrap w64 (b +ℤ (pos e *ℤ c))) (int_of x))) (sums z p)) (sym j.0) (cell_kept (holds_sum fit j.1));
        represents = y;
      }

  -- `accumBy` behind its restart
  abbrev accum-lines : TypeTree → TypeTree → ℕ → Command
  accum-lines U V j =
      sequence (branch (dot (local 2) 0) skip (answer (no_event_of n Ps Os V)))
      (sequence (define (c_type n (pair_ty V U)) (pair_of (kept_at 0) (dot (local 2) 1)))
      (sequence (leaf_call n Ps Os V j (behind n Ps Os 1))
      (sequence (assign (kept_at 0) (behind n Ps Os 2)) (answer (event_of (behind n Ps Os 2))))))

  -- what a cell's lines come to
  pub record Comes (form : Form) (V B : TypeTree) (g : Given) (qs : List Object) (h : InScope n Ps Os g qs) (c : Command) (o i z : Object) (d : ℕ) (r : Cell × Datum) : Type 0 where
    pub state : Object
    pub answer_is : Object
    pub rest : List Object
    pub runs : Runs G c (spot n Ps Os G g qs h o d i (z ∷ [])) (spot n Ps Os G g qs h state d i (z ∷ rest), Some answer_is)
    pub holds : HoldsCell n V form r.0 state
    pub represents : Represents n B r.1 answer_is

  module _ (g : Given) (qs : List Object) (h : InScope n Ps Os g qs) where
    -- a cell's function, of its lines
    pub cell-steps : (form : Form) (V A B : TypeTree) (m : Moment) (o : Object) (p : Object → Object) (i : Object) {x : Datum} (c : ℕ) (v : List Datum → Datum) (ls rest : Command) (k : IsConstant n Ps V v (G c))
        → Rattle.c_meaning.specs.Meaning.steady (sequence (constant_call n Ps Os V c) (sequence ls rest)) ≡ true
        → MomentFits m → has_type (shape_type n (keeps_cell form V)) o ≡ true → Represents n A x i
        → ((z : Object) → Represents n V (v g.params) z → Runs G ls (spot n Ps Os G g qs h o (dt_of m) i (z ∷ [])) (spot n Ps Os G g qs h (p z) (dt_of m) i (z ∷ []), None))
        → (r : Cell × Datum) → ((z : Object) → Represents n V (v g.params) z → Comes form V B g qs h rest (p z) i z (dt_of m) r)
        → Steps n (keeps_cell form V) B (kept r.0, r.1) (dt_object m ∷ i ∷ qs)
        (function_run G (stepping n Ps Os (keeps_cell form V) A B (sequence (constant_call n Ps Os V c) (sequence ls rest))) (o ∷ dt_object m ∷ i ∷ qs))
    cell-steps form V A B m o p i {x} c v ls rest k steady-all w t r begun r1 body =
        let a = constant-line n Ps Os G g qs h V c v o (dt_object m) i [] k in
        let b = body a.0 a.2 in
        record {
          state = b.state;
          answer = b.answer_is;
          result = whole-function n Ps Os G g qs h (keeps_cell form V) A B (sequence (constant_call n Ps Os V c) (sequence ls rest)) m o i b.state b.answer_is (a.0 ∷ b.rest) steady-all w t r
              (then-run G a.1 (then-run G (begun a.0 a.2) b.runs)) b.represents;
          keeps = cell_kept b.holds;
          represents = b.represents;
        }

    none-answer : (V : TypeTree) (o i : Object) (d : ℕ) (rs : List Object) → Runs G (answer (no_event_of n Ps Os V)) (spot n Ps Os G g qs h o d i rs) (spot n Ps Os G g qs h o d i rs, Some (zeros (c_type n (event_ty V))))
    none-answer V o i d rs = answer-line n Ps Os G g qs h (no_event_of n Ps Os V) o (number i64 (pos d)) i rs refl (zeros-represent n (event_ty V))

    event-is : (o d i : Object) (rs : List Object) (e : Term) {V : TypeTree} {v : Datum} {z : Object} → eval (at n Ps Os G g qs h o d i rs) e ≡ Some z → Represents n V v z
        → eval (at n Ps Os G g qs h o d i rs) (event_of e) ≡ Some (two (truth true) z)
    event-is o d i rs e k r = pair-is (at n Ps Os G g qs h o d i rs) (boolean true) e refl k refl (set-object n r)

    accum-comes : (U V : TypeTree) (j d : ℕ) {u x : Datum} {y i : Object} (z : Object) (e : List Datum → Datum → Datum) → Computes n Ps (pair_ty V U) V e (G j) → Represents n V u y → Represents n (event_ty U) x i
        → Comes F.AccumBy V (event_ty V) g qs h (accum-lines U V j) (more y end) i z d (cell_step (accumulating u) (d, put_in (e g.params) u x))
    accum-comes U V j d {y = y} {i = i} z e k r (c_no_event t) =
        record {
          state = more y end;
          answer_is = zeros (c_type n (event_ty V));
          rest = [];
          runs = ends G (no-line n Ps Os G g qs h skip (answer (no_event_of n Ps Os V)) (dot (local 2) 0) (more y end) (number i64 (pos d)) i (z ∷ []) [] (more y end) (Some (zeros (c_type n (event_ty V)))) refl (none-answer V (more y end) i d (z ∷ [])));
          holds = holds_accumulator r;
          represents = zeros-represent n (event_ty V);
        }
    accum-comes U V j d {u = u} {y = y} {i = i} z e k r (c_event {v = x} {o = p} t) =
        let f : Object = number i64 (pos d) in
        let both-are : Represents n (pair_ty V U) (pair u x) (two y p) = c_pair r t in
        let one = yes-line n Ps Os G g qs h skip (answer (no_event_of n Ps Os V)) (dot (local 2) 0) (more y end) f i (z ∷ []) [] (more y end) None refl (skips G) in
        let two-line = define-line n Ps Os G g qs h (pair_ty V U) (pair_of (kept_at 0) (dot (local 2) 1)) (more y end) f i (z ∷ [])
        (pair-is (at n Ps Os G g qs h (more y end) f i (z ∷ [])) (kept_at 0) (dot (local 2) 1) refl refl (set-object n r) (set-object n t)) both-are in
        let a = leaf-line n Ps Os G g qs h (pair_ty V U) V j e (behind n Ps Os 1) (more y end) f i (z ∷ two y p ∷ []) k (beside-whole n Ps Os G 1)
        (register-is n Ps Os G g qs h (more y end) f i (z ∷ two y p ∷ []) 1 (two y p) refl) both-are in
        let rs : List Object = z ∷ two y p ∷ a.0 ∷ [] in
        let four = put-line n Ps Os G g qs h (member (c_type n V) no_member) 0 (behind n Ps Os 2) (more y end) (more a.0 end) d i rs a.0 (register-is n Ps Os G g qs h (more y end) f i rs 2 a.0 refl) (set-object n a.2) refl
        (yes-and (has n r) refl) (yes-and (has n a.2) refl) in
        let five = answer-line n Ps Os G g qs h (event_of (behind n Ps Os 2)) (more a.0 end) f i rs (event-is (more a.0 end) f i rs (behind n Ps Os 2) (register-is n Ps Os G g qs h (more a.0 end) f i rs 2 a.0 refl) a.2) (c_event a.2) in
        record {
          state = more a.0 end;
          answer_is = two (truth true) a.0;
          rest = two y p ∷ a.0 ∷ [];
          runs = then-run G one (then-run G two-line (then-run G a.1 (then-run G four five)));
          holds = holds_accumulator a.2;
          represents = c_event a.2;
        }

  pub accum_law : AccumLaw n Ps Os G
  accum_law U V c j v e kc kj g qs h start s x o i w k0 r =
      let f = value-single F.AccumBy V s o refl k0 in
      subst (λ p. Steps n (keeps_cell F.AccumBy V) (event_ty V) (cell_form_step F.AccumBy (v g.params) (e g.params) s (start, x)) (number i64 (pos 0) ∷ i ∷ qs) (function_run G (accum_function n Ps Os U V c j) (p ∷ number i64 (pos 0) ∷ i ∷ qs))) (sym f.is)
      (cell-steps g qs h F.AccumBy V (event_ty U) (event_ty V) start (more f.a end) (λ z. more z end) i c v (at_first (assign (kept_at 0) (behind n Ps Os 0))) (accum-lines U V j) kc refl w (yes-and f.has_a refl) r
      (λ z a. value-starts n Ps Os G g qs h V f.a i z f.has_a a) (cell_step (accumulating (v g.params)) (0, put_in (e g.params) (v g.params) x)) (λ z a. accum-comes g qs h U V j 0 z e kj a r))
  accum_law U V c j v e kc kj g qs h (step d) s x o i w (at_step (cell_kept (holds_accumulator {v = u} {o = y} t))) r =
      cell-steps g qs h F.AccumBy V (event_ty U) (event_ty V) (step d) (more y end) (λ z. more y end) i c v (at_first (assign (kept_at 0) (behind n Ps Os 0))) (accum-lines U V j) kc refl w (yes-and (has n t) refl) r
      (λ z a. passes n Ps Os G g qs h (assign (kept_at 0) (behind n Ps Os 0)) (more y end) d i z w.0) (cell_step (accumulating u) (d, put_in (e g.params) u x)) (λ z a. accum-comes g qs h U V j d z e kj t r)

  -- `after`
  abbrev after-object : Bool → Object → Object → Object
  after-object b l v = more (truth b) (more l (more v end))

  abbrev after-type : TypeTree → CType
  after-type V = member truth_type (member (number_type i64) (member (c_type n V) no_member))

  after-has : (V : TypeTree) (b : Bool) (l v : Object) → has_type (number_type i64) l ≡ true → has_type (c_type n V) v ≡ true → has_type (after-type V) (after-object b l v) ≡ true
  after-has V b l v p q = yes-and refl (yes-and p (yes-and q refl))

  abbrev is-due : Term
  is-due = both (inverse (kept_at 0)) (binary at_most i64 (kept_at 1) (local 1))

  abbrev after-rest : TypeTree → Command
  after-rest V =
      sequence (branch is-due (sequence (assign (kept_at 0) (boolean true)) (answer (event_of (kept_at 2)))) skip)
      (sequence (branch (kept_at 0) skip (assign (kept_at 1) (binary minus i64 (kept_at 1) (local 1)))) (answer (no_event_of n Ps Os V)))

  left-range : (left : ℕ) → left ≤ 2 ^ 62 → in_range i64 (pos left) ≡ true
  left-range left l = small-signed left (omega arith)

  le-is : (a b : ℕ) → int_le (pos a) (pos b) ≡ nat_le a b
  le-is a b = grind arith

  le-no : (a b : ℕ) → nat_le a b ≡ false → b < a
  le-no a b e = grind arith

  le-yes : (a b : ℕ) → nat_le a b ≡ true → a ≤ b
  le-yes a b e = grind arith

  minus-is : (a b : ℕ) → b ≤ a → a < 2 ^ 63 → checked i64 (pos a -ℤ pos b) ≡ Some (number i64 (pos (a - b)))
  minus-is a b l m = ap (checked i64) (difference a b l) ∙ check-yes i64 (pos (a - b)) (small-signed (a - b) (omega arith))

  module _ (g : Given) (qs : List Object) (h : InScope n Ps Os g qs) where
    waits : (q left d : ℕ) (V : TypeTree) (i z : Object) {v : Datum} {y : Object} → left ≤ 2 ^ 62 → d < 2 ^ 63 → Represents n V v y
        → (b : Bool) → nat_le left d ≡ b
        → Comes (F.After q) V (event_ty V) g qs h (after-rest V) (after-object false (number i64 (pos left)) y) i z d (if b then (over, event v) else (waiting (left - d) v, no_event))
    waits q left d V i z {v} {y} l m r true e =
        let o0 : Object = after-object false (number i64 (pos left)) y in
        let o1 : Object = after-object true (number i64 (pos left)) y in
        let f : Object = number i64 (pos d) in
        let lt : has_type (number_type i64) (number i64 (pos left)) ≡ true = left-range left l in
        let set = put-line n Ps Os G g qs h (after-type V) 0 (boolean true) o0 o1 d i (z ∷ []) (truth true) refl refl refl (after-has V false (number i64 (pos left)) y lt (has n r)) (after-has V true (number i64 (pos left)) y lt (has n r)) in
        let out = answer-line n Ps Os G g qs h (event_of (kept_at 2)) o1 f i (z ∷ []) (event-is g qs h o1 f i (z ∷ []) (kept_at 2) refl r) (c_event r) in
        record {
          state = o1;
          answer_is = two (truth true) y;
          rest = [];
          runs = ends G (yes-line n Ps Os G g qs h (sequence (assign (kept_at 0) (boolean true)) (answer (event_of (kept_at 2)))) skip is-due o0 f i (z ∷ []) [] o1 (Some (two (truth true) y)) (ap (λ b. Some (truth b)) (le-is left d ∙ e)) (then-run G set out));
          holds = holds_over lt (has n r);
          represents = c_event r;
        }
    waits q left d V i z {v} {y} l m r false e =
        let k : d < left = le-no left d e in
        let o0 : Object = after-object false (number i64 (pos left)) y in
        let o1 : Object = after-object false (number i64 (pos (left - d))) y in
        let f : Object = number i64 (pos d) in
        let lt : has_type (number_type i64) (number i64 (pos left)) ≡ true = left-range left l in
        let lu : has_type (number_type i64) (number i64 (pos (left - d))) ≡ true = left-range (left - d) (omega arith) in
        let one = no-line n Ps Os G g qs h (sequence (assign (kept_at 0) (boolean true)) (answer (event_of (kept_at 2)))) skip is-due o0 f i (z ∷ []) [] o0 None (ap (λ b. Some (truth b)) (le-is left d ∙ e)) (skips G) in
        let set = put-line n Ps Os G g qs h (after-type V) 1 (binary minus i64 (kept_at 1) (local 1)) o0 o1 d i (z ∷ []) (number i64 (pos (left - d))) (minus-is left d (omega arith) (omega arith)) refl refl
        (after-has V false (number i64 (pos left)) y lt (has n r)) (after-has V false (number i64 (pos (left - d))) y lu (has n r)) in
        let two-line = no-line n Ps Os G g qs h skip (assign (kept_at 1) (binary minus i64 (kept_at 1) (local 1))) (kept_at 0) o0 f i (z ∷ []) [] o1 None refl set in
        record {
          state = o1;
          answer_is = zeros (c_type n (event_ty V));
          rest = [];
          runs = then-run G one (then-run G two-line (none-answer g qs h V o1 i d (z ∷ [])));
          holds = holds_waiting (omega arith) r;
          represents = zeros-represent n (event_ty V);
        }

    is-past : (q d : ℕ) (V : TypeTree) (i z l y : Object) → has_type (number_type i64) l ≡ true → has_type (c_type n V) y ≡ true
        → Comes (F.After q) V (event_ty V) g qs h (after-rest V) (after-object true l y) i z d (over, no_event)
    is-past q d V i z l y p t =
        let o0 : Object = after-object true l y in
        let f : Object = number i64 (pos d) in
        let one = no-line n Ps Os G g qs h (sequence (assign (kept_at 0) (boolean true)) (answer (event_of (kept_at 2)))) skip is-due o0 f i (z ∷ []) [] o0 None refl (skips G) in
        let two-line = yes-line n Ps Os G g qs h skip (assign (kept_at 1) (binary minus i64 (kept_at 1) (local 1))) (kept_at 0) o0 f i (z ∷ []) [] o0 None refl (skips G) in
        record {
          state = o0;
          answer_is = zeros (c_type n (event_ty V));
          rest = [];
          runs = then-run G one (then-run G two-line (none-answer g qs h V o0 i d (z ∷ [])));
          holds = holds_over p t;
          represents = zeros-represent n (event_ty V);
        }

  abbrev after-begins : ℕ → Command
  after-begins q =
      at_first
      (sequence (assign (kept_at 0) (boolean false)) (sequence (assign (kept_at 1) (number_term q)) (assign (kept_at 2) (behind n Ps Os 0))))

  pub after_law : AfterLaw n Ps Os G
  after_law q V A small c v k g qs h start s x o i w (at_start t) r =
      let f = front-of truth_type (member (number_type i64) (member (c_type n V) no_member)) o t in
      let e = front-of (number_type i64) (member (c_type n V) no_member) f.b f.has_b in
      let l = single (c_type n V) e.b e.has_b in
      let o0 : Object = more f.a (more e.a (more l.a end)) in
      let is0 : o ≡ more f.a (more e.a (more l.a end)) = f.is ∙ ap (more f.a) (e.is ∙ ap (more e.a) l.is) in
      let t0 : has_type (after-type V) o0 ≡ true = yes-and f.has_a (yes-and e.has_a (yes-and l.has_a refl)) in
      let o1 : Object = after-object false e.a l.a in
      let o2 : Object = after-object false (number i64 (pos q)) l.a in
      let lt : has_type (number_type i64) (number i64 (pos q)) ≡ true = left-range q small in
      subst (λ p. Steps n (keeps_cell (F.After q) V) (event_ty V) (cell_form_step (F.After q) (v g.params) no_leaf s (start, x)) (number i64 (pos 0) ∷ i ∷ qs) (function_run G (after_function n Ps Os q V A c) (p ∷ number i64 (pos 0) ∷ i ∷ qs))) (sym is0)
      (cell-steps g qs h (F.After q) V A (event_ty V) start o0 (λ z. after-object false (number i64 (pos q)) z) i c v (after-begins q) (after-rest V) k refl w t0 r
      (λ z a. starts n Ps Os G g qs h (sequence (assign (kept_at 0) (boolean false)) (sequence (assign (kept_at 1) (number_term q)) (assign (kept_at 2) (behind n Ps Os 0)))) o0 (after-object false (number i64 (pos q)) z) i z
      (then-run G (put-line n Ps Os G g qs h (after-type V) 0 (boolean false) o0 o1 0 i (z ∷ []) (truth false) refl refl refl t0 (after-has V false e.a l.a e.has_a l.has_a))
      (then-run G (put-line n Ps Os G g qs h (after-type V) 1 (number_term q) o1 o2 0 i (z ∷ []) (number i64 (pos q)) (check-yes i64 (pos q) lt) refl refl (after-has V false e.a l.a e.has_a l.has_a) (after-has V false (number i64 (pos q)) l.a lt l.has_a))
      (put-line n Ps Os G g qs h (after-type V) 2 (behind n Ps Os 0) o2 (after-object false (number i64 (pos q)) z) 0 i (z ∷ []) z (register-0 n Ps Os G g qs h o2 0 i z []) (set-object n a) refl (after-has V false (number i64 (pos q)) l.a lt l.has_a) (after-has V false (number i64 (pos q)) z lt (has n a))))))
      (after_cell q (v g.params))
      (λ z a. subst (λ m. Comes (F.After q) V (event_ty V) g qs h (after-rest V) (after-object false (number i64 (pos q)) z) i z 0 (if nat_le q 0 then (over, event (v g.params)) else (waiting m (v g.params), no_event))) (no-minus q) (waits g qs h q q 0 V i z small (omega arith) a (nat_le q 0) refl)))
    where
      no-minus : (q : ℕ) → q - 0 ≡ q
      no-minus q = omega arith
  after_law q V A small c v k g qs h (step d) s x o i w (at_step (cell_kept (holds_waiting {left = left} {v = u} {o = y} l t))) r =
      let lt : has_type (number_type i64) (number i64 (pos left)) ≡ true = left-range left l in
      let o0 : Object = after-object false (number i64 (pos left)) y in
      cell-steps g qs h (F.After q) V A (event_ty V) (step d) o0 (λ z. o0) i c v (after-begins q) (after-rest V) k refl w (after-has V false (number i64 (pos left)) y lt (has n t)) r
      (λ z a. passes n Ps Os G g qs h (sequence (assign (kept_at 0) (boolean false)) (sequence (assign (kept_at 1) (number_term q)) (assign (kept_at 2) (behind n Ps Os 0)))) o0 d i z w.0)
      (cell_step (waiting left u) (d, x)) (λ z a. waits g qs h q left d V i z l w.1 t (nat_le left d) refl)
  after_law q V A small c v k g qs h (step d) s x o i w (at_step (cell_kept (holds_over {z = l} {o = y} p t))) r =
      let o0 : Object = after-object true l y in
      cell-steps g qs h (F.After q) V A (event_ty V) (step d) o0 (λ z. o0) i c v (after-begins q) (after-rest V) k refl w (after-has V true l y p t) r
      (λ z a. passes n Ps Os G g qs h (sequence (assign (kept_at 0) (boolean false)) (sequence (assign (kept_at 1) (number_term q)) (assign (kept_at 2) (behind n Ps Os 0)))) o0 d i z w.0)
      (cell_step over (d, x)) (λ z a. is-past g qs h q d V i z l y p t)

  -- `repeatedly`
  abbrev left-object : Object → Object → Object
  left-object l v = more l (more v end)

  abbrev left-type : TypeTree → CType
  left-type V = member (number_type i64) (member (c_type n V) no_member)

  left-has : (V : TypeTree) (l v : Object) → has_type (number_type i64) l ≡ true → has_type (c_type n V) v ≡ true → has_type (left-type V) (left-object l v) ≡ true
  left-has V l v p t = yes-and p (yes-and t refl)

  abbrev next-left : ℕ → Term
  next-left q =
      binary minus i64 (number_term q) (binary remainder i64 (binary minus i64 (local 1) (kept_at 0)) (number_term q))

  abbrev at-multiple : ℕ → Command
  at-multiple q = sequence (assign (kept_at 0) (next-left q)) (answer (event_of (kept_at 1)))

  abbrev multiple-rest : ℕ → TypeTree → Command
  multiple-rest q V =
      sequence (branch (binary at_most i64 (kept_at 0) (local 1)) (at-multiple q) skip)
      (sequence (assign (kept_at 0) (binary minus i64 (kept_at 0) (local 1))) (answer (no_event_of n Ps Os V)))

  abbrev multiple-begins : ℕ → Command
  multiple-begins q = sequence (assign (kept_at 0) (number_term q)) (assign (kept_at 1) (behind n Ps Os 0))

  remainder-below : (a p : ℕ) → a % suc p ≤ suc p
  remainder-below a p = grind arith

  module _ (g : Given) (qs : List Object) (h : InScope n Ps Os g qs) where
    abbrev minus-results : Option Object → Option Object → Option Object
    minus-results A B = bind A (λ v. bind B (λ w. operate minus i64 v w))

    abbrev rest-results : Option Object → Option Object → Option Object
    rest-results A B = bind A (λ v. bind B (λ w. operate remainder i64 v w))

    next-left-is : (p left d : ℕ) (i z y : Object) → left ≤ d → d < 2 ^ 63 → suc p ≤ 2 ^ 62
        → eval (spot n Ps Os G g qs h (left-object (number i64 (pos left)) y) d i (z ∷ [])) (next-left (suc p)) ≡ Some (number i64 (pos (suc p - (d - left) % suc p)))
    next-left-is p left d i z y l m s =
        let e : checked i64 (pos (suc p)) ≡ Some (number i64 (pos (suc p))) = check-yes i64 (pos (suc p)) (left-range (suc p) s) in
        ap₂ minus-results e (ap₂ rest-results (minus-is d left l m) e)
        ∙ minus-is (suc p) ((d - left) % suc p) (remainder-below (d - left) p) (omega arith)

    recurs : (p left d : ℕ) (V : TypeTree) (i z : Object) {v : Datum} {y : Object} → left ≤ suc p → suc p ≤ 2 ^ 62 → d < 2 ^ 63 → Represents n V v y
        → (b : Bool) → nat_le left d ≡ b
        → Comes (F.Repeatedly (suc p)) V (event_ty V) g qs h (multiple-rest (suc p) V) (left-object (number i64 (pos left)) y) i z d
        (if b then (recurring (suc p) (suc p - (d - left) % suc p) v, event v) else (recurring (suc p) (left - d) v, no_event))
    recurs p left d V i z {v} {y} l s m r true e =
        let o0 : Object = left-object (number i64 (pos left)) y in
        let o1 : Object = left-object (number i64 (pos (suc p - (d - left) % suc p))) y in
        let f : Object = number i64 (pos d) in
        let lt : has_type (number_type i64) (number i64 (pos left)) ≡ true = left-range left (omega arith) in
        let lu : has_type (number_type i64) (number i64 (pos (suc p - (d - left) % suc p))) ≡ true = left-range (suc p - (d - left) % suc p) (omega arith) in
        let set = put-line n Ps Os G g qs h (left-type V) 0 (next-left (suc p)) o0 o1 d i (z ∷ []) (number i64 (pos (suc p - (d - left) % suc p))) (next-left-is p left d i z y (le-yes left d e) m s) refl refl
        (left-has V (number i64 (pos left)) y lt (has n r)) (left-has V (number i64 (pos (suc p - (d - left) % suc p))) y lu (has n r)) in
        let out = answer-line n Ps Os G g qs h (event_of (kept_at 1)) o1 f i (z ∷ []) (event-is g qs h o1 f i (z ∷ []) (kept_at 1) refl r) (c_event r) in
        record {
          state = o1;
          answer_is = two (truth true) y;
          rest = [];
          runs = ends G (yes-line n Ps Os G g qs h (at-multiple (suc p)) skip (binary at_most i64 (kept_at 0) (local 1)) o0 f i (z ∷ []) [] o1 (Some (two (truth true) y)) (ap (λ b. Some (truth b)) (le-is left d ∙ e)) (then-run G set out));
          holds = holds_recurring (omega arith) s r;
          represents = c_event r;
        }
    recurs p left d V i z {v} {y} l s m r false e =
        let k : d < left = le-no left d e in
        let o0 : Object = left-object (number i64 (pos left)) y in
        let o1 : Object = left-object (number i64 (pos (left - d))) y in
        let f : Object = number i64 (pos d) in
        let lt : has_type (number_type i64) (number i64 (pos left)) ≡ true = left-range left (omega arith) in
        let lu : has_type (number_type i64) (number i64 (pos (left - d))) ≡ true = left-range (left - d) (omega arith) in
        let one = no-line n Ps Os G g qs h (at-multiple (suc p)) skip (binary at_most i64 (kept_at 0) (local 1)) o0 f i (z ∷ []) [] o0 None (ap (λ b. Some (truth b)) (le-is left d ∙ e)) (skips G) in
        let set = put-line n Ps Os G g qs h (left-type V) 0 (binary minus i64 (kept_at 0) (local 1)) o0 o1 d i (z ∷ []) (number i64 (pos (left - d))) (minus-is left d (omega arith) (omega arith)) refl refl
        (left-has V (number i64 (pos left)) y lt (has n r)) (left-has V (number i64 (pos (left - d))) y lu (has n r)) in
        record {
          state = o1;
          answer_is = zeros (c_type n (event_ty V));
          rest = [];
          runs = then-run G one (then-run G set (none-answer g qs h V o1 i d (z ∷ [])));
          holds = holds_recurring (omega arith) s r;
          represents = zeros-represent n (event_ty V);
        }

  pub repeatedly_law : RepeatedlyLaw n Ps Os G
  repeatedly_law zero V A some small c v k g qs h m s x o i w k0 r = absurd (omega arith)
  repeatedly_law (suc p) V A some small c v k g qs h start s x o i w (at_start t) r =
      let f = front-of (number_type i64) (member (c_type n V) no_member) o t in
      let l = single (c_type n V) f.b f.has_b in
      let o0 : Object = more f.a (more l.a end) in
      let is0 : o ≡ more f.a (more l.a end) = f.is ∙ ap (more f.a) l.is in
      let t0 : has_type (left-type V) o0 ≡ true = yes-and f.has_a (yes-and l.has_a refl) in
      let lt : has_type (number_type i64) (number i64 (pos (suc p))) ≡ true = left-range (suc p) small in
      let o1 : Object = left-object (number i64 (pos (suc p))) l.a in
      let t1 : has_type (left-type V) o1 ≡ true = left-has V (number i64 (pos (suc p))) l.a lt l.has_a in
      subst (λ u. Steps n (keeps_cell (F.Repeatedly (suc p)) V) (event_ty V) (cell_form_step (F.Repeatedly (suc p)) (v g.params) no_leaf s (start, x)) (number i64 (pos 0) ∷ i ∷ qs) (function_run G (repeatedly_function n Ps Os (suc p) V A c) (u ∷ number i64 (pos 0) ∷ i ∷ qs))) (sym is0)
      (cell-steps g qs h (F.Repeatedly (suc p)) V A (event_ty V) start o0 (λ z. left-object (number i64 (pos (suc p))) z) i c v (at_first (multiple-begins (suc p))) (multiple-rest (suc p) V) k refl w t0 r
      (λ z a. starts n Ps Os G g qs h (multiple-begins (suc p)) o0 (left-object (number i64 (pos (suc p))) z) i z
      (then-run G (put-line n Ps Os G g qs h (left-type V) 0 (number_term (suc p)) o0 o1 0 i (z ∷ []) (number i64 (pos (suc p))) (check-yes i64 (pos (suc p)) lt) refl refl t0 t1)
      (put-line n Ps Os G g qs h (left-type V) 1 (behind n Ps Os 0) o1 (left-object (number i64 (pos (suc p))) z) 0 i (z ∷ []) z (register-0 n Ps Os G g qs h o1 0 i z []) (set-object n a) refl t1 (left-has V (number i64 (pos (suc p))) z lt (has n a)))))
      (recurring (suc p) (suc p) (v g.params), no_event)
      (λ z a. subst (λ m. Comes (F.Repeatedly (suc p)) V (event_ty V) g qs h (multiple-rest (suc p) V) (left-object (number i64 (pos (suc p))) z) i z 0 (recurring (suc p) m (v g.params), no_event)) (no-minus (suc p)) (recurs g qs h p (suc p) 0 V i z (omega arith) small (omega arith) a false (not-yet p))))
    where
      not-yet : (p : ℕ) → nat_le (suc p) 0 ≡ false
      not-yet p = grind arith

      no-minus : (q : ℕ) → q - 0 ≡ q
      no-minus q = omega arith
  repeatedly_law (suc p) V A some small c v k g qs h (step d) s x o i w (at_step (cell_kept (holds_recurring {left = left} {v = u} {o = y} l b t))) r =
      let o0 : Object = left-object (number i64 (pos left)) y in
      cell-steps g qs h (F.Repeatedly (suc p)) V A (event_ty V) (step d) o0 (λ z. o0) i c v (at_first (multiple-begins (suc p))) (multiple-rest (suc p) V) k refl w (left-has V (number i64 (pos left)) y (left-range left (omega arith)) (has n t)) r
      (λ z a. passes n Ps Os G g qs h (multiple-begins (suc p)) o0 d i z w.0)
      (cell_step (recurring (suc p) left u) (d, x)) (λ z a. recurs g qs h p left d V i z l small w.1 t (nat_le left d) refl)
