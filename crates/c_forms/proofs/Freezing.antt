-- The C functions of `kSwitch` and `pSwitch` do their steps.
use Rattle.std.proofs.Common.{◌≡◌, ◌+◌, ◌*◌, ℕ, suc, pos, Bool, true, false, List, [], ◌∷◌, ◌++◌, length, Some, None, refl, subst, sym, ap, ◌∙◌, arith, append_assoc}
use Rattle.sample_core.specs.Datum.{Datum, pair}
use Rattle.sample_core.specs.TypeTree.{TypeTree, pair_ty, event_ty}
use Rattle.leaf_code.specs.Fitting.{Bounds}
use Rattle.cell_core.specs.declared.form.Form.TheVariants as F
use Rattle.net_meaning.specs.SignalFunction.{event_in}
use Rattle.net_machine.specs.Store.{Moment, start, step, Store, mode, both, one, other, front_part, taker_part, frozen, resumer_part}
use Rattle.net_machine.specs.Stepper.{Stepper, put, watched, freezing_step}
use Rattle.net_code.specs.Running.{Kept, Given, split, given_value, given_kept}
use Rattle.c_meaning.specs.Object.{truth_type, number_type, member, i64, Object, unset, truth, number, end, more, has_type, part_of}
use Rattle.c_meaning.specs.Syntax.{Term, Argument, local, dot, boolean, Command, skip, sequence, define, assign, answer}
use Rattle.c_meaning.specs.Meaning.{Frame, Linked, eval, value, is_set, write, path, apart, function_run}
use Rattle.c_meaning.proofs.Alike.{no, yes-and}
use Rattle.c_meaning.proofs.Runs.{Runs, then-run, ends, skips, assigns}
use Rattle.c_leaf.specs.Representing.{two, two_types, c_type, Represents, c_pair, c_event, c_no_event}
use Rattle.c_leaf.specs.LeafC.{pair_of}
use Rattle.c_leaf.proofs.Values.{has, append-register}
use Rattle.c_leaf.proofs.Same.{set-object, pair-is, first-of, second-of}
use Rattle.c_forms.specs.Keeping.{Shape, keeps_none, keeps_cell, keeps_both, keeps_fed, keeps_mode, keeps_frozen, and_member, keeps_collection, shape_type, Keeps, both_kept, front_kept, taker_kept, frozen_kept, KeepsAt, at_start, at_step, dt_of, dt_object, MomentFits}
use Rattle.c_forms.specs.Standing.{Frozen, none_frozen, one_frozen, InScope, Steps, Right, is_first, behind, part_call}
use Rattle.c_forms.specs.Cells.{number_term, at_first}
use Rattle.c_forms.specs.Members.{members_shape}
use Rattle.c_forms.specs.Switches.{taken_of, by_of, leave_if, leave_unless}
use Rattle.c_forms.specs.Freezing.{watched_of, watcher_of, when_of, frozen_of, resumer_of, frozen_whole, frozen_members, frozen_args, resumer_call, freezing_function, KSwitchLaw, PSwitchLaw}
use Rattle.c_forms.proofs.Reading.{Reads, reads_none, reads_const, reads_value, reads-append, write-call, Within, away-from, longer, params-read, olds-read}
use Rattle.c_forms.proofs.Lines.{keeps-type, at-type, dt-range, not-first, halves, front-of, at, register-is, define-line, answer-line, write-state, part-line, yes-line, no-line, whole-function}
use Rattle.c_forms.proofs.Members.{stack, stack-part, stack-append, split-member}

-- what is kept is a struct, and so is set
pub shape-set : (n : Bounds) (S : Shape) (o : Object) → has_type (shape_type n S) o ≡ true → is_set o ≡ Some o
shape-set n S (truth b) e = refl
shape-set n S (number N z) e = refl
shape-set n S end e = refl
shape-set n S (more a b) e = refl
shape-set n keeps_none unset e = no e
shape-set n (keeps_cell F.IPre V) unset e = no e
shape-set n (keeps_cell (F.Delay q) V) unset e = no e
shape-set n (keeps_cell F.Hold V) unset e = no e
shape-set n (keeps_cell F.AccumBy V) unset e = no e
shape-set n (keeps_cell (F.After q) V) unset e = no e
shape-set n (keeps_cell (F.Repeatedly q) V) unset e = no e
shape-set n (keeps_cell F.Time V) unset e = no e
shape-set n (keeps_cell F.Integral V) unset e = no e
shape-set n (keeps_both S T) unset e = no e
shape-set n (keeps_fed V S) unset e = no e
shape-set n (keeps_mode V S T) unset e = no e
shape-set n (keeps_frozen S T) unset e = no e
shape-set n (and_member S T) unset e = no e
shape-set n (keeps_collection V M T) unset e = no e

-- more frozen networks
frozen-append : (n : Bounds) {Os Hs : List Shape} {ks hs : List Kept} {os ps : List Object} → Frozen n Os ks os → Frozen n Hs hs ps → Frozen n (Os ++ Hs) (ks ++ hs) (os ++ ps)
frozen-append n none_frozen z = z
frozen-append n (one_frozen f a h) z = one_frozen f a (frozen-append n h z)

-- what a switch that freezes keeps
abbrev freeze-object : Bool → Object → Object → Object → Object → Object → Object → Object
freeze-object b v a w c p q = more (truth b) (more v (two (two a w) (more c (two p q))))

-- frozen networks, handed on by these arguments
record Handed (n : TypeTree → ℕ) (f : Frame) (zs : List Argument) (Hs : List Shape) (ks : List Kept) : Type 0 where
  objects : List Object
  reads : Reads f resumer_of zs objects
  frozen : Frozen n Hs ks objects

-- what a switch has frozen is handed on as ks has it
abbrev HandsOn : Bounds → Shape → List Argument → List Shape → (Store → Moment → List Kept) → Type 0
HandsOn n S zs Hs ks = (b : Bool) (v a u p q : Object) (os : List Object) (m : Moment) (s : Store) → MomentFits m → KeepsAt n m S s p
    → Handed n (freeze-object b v a u (dt_object m) p q ∷ os) zs Hs (ks s m)

module _ (n : Bounds) (Ps : List TypeTree) (Os : List Shape) (F : ℕ → Linked) (zs : List Argument) (Hs : List Shape) (ks : Store → Moment → List Kept)
    (S W T : Shape) (A B V : TypeTree) (j e k : ℕ) (f w t : Given → Stepper)
    (hf : Right n Ps Os S A B f (F j)) (hw : Right n Ps Os W (pair_ty A B) (event_ty V) w (F e)) (ht : Right n (Ps ++ V ∷ []) (Os ++ Hs) T A B t (F k)) (hz : HandsOn n S zs Hs ks)
    (g : Given) (qs : List Object) (h : InScope n Ps Os g qs) where
  abbrev keeps-all : Shape
  keeps-all = keeps_mode V (keeps_both S W) (keeps_frozen S T)

  abbrev by : Datum → Store → Moment → Stepper
  by c a m = t (given_kept (given_value g c) (ks a m))

  abbrev reg : ℕ → Term
  reg i = behind n Ps Os i

  abbrev spot : Object → Object → Object → List Object → Frame
  spot o d i rs = at n Ps Os F g qs h o d i rs

  freeze-has : (b : Bool) (v a u c p q : Object) → has_type (c_type n V) v ≡ true → has_type (shape_type n S) a ≡ true → has_type (shape_type n W) u ≡ true → has_type (number_type i64) c ≡ true
      → has_type (shape_type n S) p ≡ true → has_type (shape_type n T) q ≡ true → has_type (shape_type n keeps-all) (freeze-object b v a u c p q) ≡ true
  freeze-has b v a u c p q hv ha hu hc hp hq = yes-and refl (yes-and hv (yes-and (yes-and ha (yes-and hu refl)) (yes-and (yes-and hc (yes-and hp (yes-and hq refl))) refl)))

  set-line : (d2 x2 : Term) (o v d i : Object) (rs : List Object) (z : Object) → eval (spot o d i rs) x2 ≡ Some z → is_set z ≡ Some z
      → write (spot o d i rs) d2 z ≡ Rattle.c_meaning.specs.Meaning.replaced (spot o d i rs) 0 o v
      → has_type (shape_type n keeps-all) o ≡ true → has_type (shape_type n keeps-all) v ≡ true → Runs F (assign d2 x2) (spot o d i rs) (spot v d i rs, None)
  set-line d2 x2 o v d i rs z he hs ew ho hv = assigns F d2 x2 (spot o d i rs) (spot v d i rs) z he hs (ew ∙ write-state n Ps Os F g qs h (shape_type n keeps-all) o v d i rs ho hv)

  frozen-scope : {c : Datum} {v : Object} {hs : List Kept} {os : List Object} → Represents n V c v → Frozen n Hs hs os
      → InScope n (Ps ++ V ∷ []) (Os ++ Hs) (given_kept (given_value g c) hs) (h.params ++ v ∷ (h.olds ++ os))
  frozen-scope {v = v} {os = os} r fz = record {
    params = h.params ++ v ∷ [];
    olds = h.olds ++ os;
    are = sym (append_assoc h.params (v ∷ []) (h.olds ++ os));
    are_params = append-register n h.are_params r;
    are_olds = frozen-append n h.are_olds fz;
  }

  resumer-within : Within resumer_of
  resumer-within = record { ks = 3 ∷ 2 ∷ []; is = refl }

  frozen-reads : (b : Bool) (v a u c p q d i : Object) (rs : List Object) {os : List Object} → Reads (spot (freeze-object b v a u c p q) d i rs) resumer_of zs os
      → Reads (spot (freeze-object b v a u c p q) d i rs) resumer_of (frozen_args n Ps Os zs) (h.params ++ v ∷ (h.olds ++ os))
  frozen-reads b v a u c p q d i rs rz =
      let o : Object = freeze-object b v a u c p q in
      reads-append (spot o d i rs) resumer_of (params-read n Ps Os g qs h resumer_of resumer-within o d i rs)
      (reads_const refl refl (reads-append (spot o d i rs) resumer_of (olds-read n Ps Os g qs h resumer_of resumer-within o d i rs) rz))

  -- what has taken over runs
  record Resumed (b : Bool) (v a u p : Object) (m0 : Moment) (d i : Object) (rs : List Object) (c : Command) (o : Object) (r : Store × Datum) : Type 0 where
    state : Object
    answer_is : Object
    runs : Runs F c (spot o d i rs) (spot (freeze-object b v a u (dt_object m0) p state) d i (rs ++ answer_is ∷ []), None)
    keeps : Keeps n T r.0 state
    represents : Represents n B r.1 answer_is

  resumes : (x2 : Term) (m m0 : Moment) (s a0 : Store) (x : Datum) {c : Datum} (b : Bool) (v a u p q d i : Object) (rs : List Object) → MomentFits m → MomentFits m0
      → value (spot (freeze-object b v a u (dt_object m0) p q) d i rs) x2 ≡ Some (dt_object m)
      → Represents n V c v → has_type (shape_type n S) a ≡ true → has_type (shape_type n W) u ≡ true → KeepsAt n m0 S a0 p → KeepsAt n m T s q → Represents n A x i
      → Resumed b v a u p m0 d i rs (resumer_call n Ps Os zs B k x2) (freeze-object b v a u (dt_object m0) p q) (by c a0 m0 s (m, x))
  resumes x2 m m0 s a0 x {c} b v a u p q d i rs fm f0 ev rv ha hu kp kq rx =
      let z = hz b v a u p q (d ∷ i ∷ (qs ++ rs)) m0 a0 f0 kp in
      let y = ht (given_kept (given_value g c) (ks a0 m0)) (h.params ++ v ∷ (h.olds ++ z.objects)) (frozen-scope rv z.frozen) m s x q i fm kq rx in
      let o : Object = freeze-object b v a u (dt_object m0) p q in
      let o1 : Object = freeze-object b v a u (dt_object m0) p y.state in
      record {
        state = y.state;
        answer_is = y.answer;
        runs = subst (λ f. Runs F (resumer_call n Ps Os zs B k x2) (spot o d i rs) (f, None)) (ap (λ (us : List Object). o1 ∷ d ∷ i ∷ us) (append_assoc qs rs (y.answer ∷ [])))
            (write-call (spot o d i rs) resumer_of F (c_type n B) k (spot o1 d i rs) q y.state y.answer (reads_value ev (reads_const refl refl (frozen-reads b v a u (dt_object m0) p q d i rs z.reads))) refl y.result
            (write-state n Ps Os F g qs h (shape_type n keeps-all) o o1 d i rs (freeze-has b v a u (dt_object m0) p q (has n rv) ha hu (dt-range m0 f0) (at-type n kp) (at-type n kq))
            (freeze-has b v a u (dt_object m0) p y.state (has n rv) ha hu (dt-range m0 f0) (at-type n kp) (keeps-type n y.keeps))) (has n y.represents));
        keeps = y.keeps;
        represents = y.represents;
      }

  record Comes (c : Command) (o d i : Object) (rs : List Object) (r : Store × Datum) : Type 0 where
    state : Object
    answer_is : Object
    rest : List Object
    runs : Runs F c (spot o d i rs) (spot state d i rest, Some answer_is)
    keeps : Keeps n keeps-all r.0 state
    represents : Represents n B r.1 answer_is

  abbrev last-lines : Command
  last-lines =
      sequence (leave_unless (dot (reg 2) 0) (reg 0))
      (sequence (assign taken_of (boolean true)) (sequence (assign by_of (dot (reg 2) 1)) (sequence (resumer_call n Ps Os zs B k (number_term 0)) (answer (reg 3)))))

  -- the watcher has answered
  watch-end : (m : Moment) (s0 bs : Store) (x : Datum) (rf : Store × Datum) (rw : Store) {ev : Datum} (v a u p q i y pr : Object) {z : Object} → MomentFits m → has_type (c_type n V) v ≡ true → Keeps n S rf.0 a → Keeps n W rw u
      → KeepsAt n m S s0 p → has_type (shape_type n T) q ≡ true → Represents n A x i → Represents n B rf.1 y → Represents n (event_ty V) ev z
      → Comes last-lines (freeze-object false v a u (dt_object m) p q) (dt_object m) i (y ∷ pr ∷ z ∷ []) (watched by s0 bs (m, x) rf rw (event_in ev))
  watch-end m s0 bs x rf rw v a u p q i y pr fit hv ka ku kp hq rx ry (c_no_event {o = c} te) =
      let d : Object = dt_object m in
      let rs : List Object = y ∷ pr ∷ two (truth false) c ∷ [] in
      let o : Object = freeze-object false v a u d p q in
      let back = answer-line n Ps Os F g qs h (reg 0) o d i rs (register-is n Ps Os F g qs h o d i rs 0 y refl) ry in
      record {
        state = o;
        answer_is = y;
        rest = rs;
        runs = ends F (no-line n Ps Os F g qs h skip (answer (reg 0)) (dot (reg 2) 0) o d i rs [] o (Some y) (ap first-of (register-is n Ps Os F g qs h o d i rs 2 (two (truth false) c) refl)) back);
        keeps = front_kept hv (both_kept ka ku) (yes-and (dt-range m fit) (yes-and (at-type n kp) (yes-and hq refl)));
        represents = ry;
      }
  watch-end m s0 bs x rf rw v a u p q i y pr fit hv ka ku kp hq rx ry (c_event {o = c} rc) =
      let d : Object = dt_object m in
      let z : Object = two (truth true) c in
      let rs : List Object = y ∷ pr ∷ z ∷ [] in
      let ha = keeps-type n ka in
      let hu = keeps-type n ku in
      let hd = dt-range m fit in
      let o0 : Object = freeze-object false v a u d p q in
      let o1 : Object = freeze-object true v a u d p q in
      let o2 : Object = freeze-object true c a u d p q in
      let t0 = freeze-has false v a u d p q hv ha hu hd (at-type n kp) hq in
      let t1 = freeze-has true v a u d p q hv ha hu hd (at-type n kp) hq in
      let t2 = freeze-has true c a u d p q (has n rc) ha hu hd (at-type n kp) hq in
      let one-line = yes-line n Ps Os F g qs h skip (answer (reg 0)) (dot (reg 2) 0) o0 d i rs [] o0 None (ap first-of (register-is n Ps Os F g qs h o0 d i rs 2 z refl)) (skips F) in
      let two-line = set-line taken_of (boolean true) o0 o1 d i rs (truth true) refl refl refl t0 t1 in
      let three = set-line by_of (dot (reg 2) 1) o1 o2 d i rs c (ap second-of (register-is n Ps Os F g qs h o1 d i rs 2 z refl)) (set-object n rc) refl t1 t2 in
      let r = resumes (number_term 0) start m (resumer_part bs) s0 x true c a u p q d i rs tt fit refl rc ha hu kp (at_start hq) rx in
      let o3 : Object = freeze-object true c a u d p r.state in
      let all : List Object = y ∷ pr ∷ z ∷ r.answer_is ∷ [] in
      record {
        state = o3;
        answer_is = r.answer_is;
        rest = all;
        runs = then-run F one-line (then-run F two-line (then-run F three (then-run F r.runs (answer-line n Ps Os F g qs h (reg 3) o3 d i all (register-is n Ps Os F g qs h o3 d i all 3 r.answer_is refl) r.represents))));
        keeps = taker_kept rc (yes-and ha (yes-and hu refl)) (frozen_kept fit kp r.keeps);
        represents = r.represents;
      }

  abbrev gone-over : Command
  gone-over = sequence (resumer_call n Ps Os zs B k (local 1)) (answer (reg 0))

  abbrev all-lines : Command
  all-lines =
      sequence (leave_if taken_of (resumer_call n Ps Os zs B k (local 1)) (reg 0))
      (sequence (assign when_of (local 1))
      (sequence (assign frozen_of watched_of)
      (sequence (part_call n Ps Os B j watched_of (local 2))
      (sequence (define (c_type n (pair_ty A B)) (pair_of (local 2) (reg 0)))
      (sequence (part_call n Ps Os (event_ty V) e watcher_of (reg 1)) last-lines)))))

  not-taken : (m : Moment) (fs bs : Store) (x : Datum) (v a u c p q i : Object) → MomentFits m → has_type (c_type n V) v ≡ true → KeepsAt n m S (one fs) a → KeepsAt n m W (other fs) u → has_type (number_type i64) c ≡ true
      → has_type (shape_type n S) p ≡ true → has_type (shape_type n T) q ≡ true → Represents n A x i
      → Comes all-lines (freeze-object false v a u c p q) (dt_object m) i []
      (watched by (one fs) bs (m, x) (f g (one fs) (m, x)) (w g (other fs) (m, pair x (f g (one fs) (m, x)).1)).0 (event_in (w g (other fs) (m, pair x (f g (one fs) (m, x)).1)).1))
  not-taken m fs bs x v a u c p q i fit hv ka ku hc hp hq rx =
      let d : Object = dt_object m in
      let ha = at-type n ka in
      let hu = at-type n ku in
      let hd = dt-range m fit in
      let y = hf g qs h m (one fs) x a i fit ka rx in
      let rp : Represents n (pair_ty A B) (pair x (f g (one fs) (m, x)).1) (two i y.answer) = c_pair rx y.represents in
      let z = hw g qs h m (other fs) (pair x (f g (one fs) (m, x)).1) u (two i y.answer) fit ku rp in
      let hy = keeps-type n y.keeps in
      let hz = keeps-type n z.keeps in
      let o0 : Object = freeze-object false v a u c p q in
      let o1 : Object = freeze-object false v a u d p q in
      let o2 : Object = freeze-object false v a u d a q in
      let o3 : Object = freeze-object false v y.state u d a q in
      let o4 : Object = freeze-object false v y.state z.state d a q in
      let t0 = freeze-has false v a u c p q hv ha hu hc hp hq in
      let t1 = freeze-has false v a u d p q hv ha hu hd hp hq in
      let t2 = freeze-has false v a u d a q hv ha hu hd ha hq in
      let t3 = freeze-has false v y.state u d a q hv hy hu hd ha hq in
      let t4 = freeze-has false v y.state z.state d a q hv hy hz hd ha hq in
      let one-line = no-line n Ps Os F g qs h gone-over skip taken_of o0 d i [] [] o0 None refl (skips F) in
      let two-line = set-line when_of (local 1) o0 o1 d i [] d refl refl refl t0 t1 in
      let three = set-line frozen_of watched_of o1 o2 d i [] a refl (shape-set n S a ha) refl t1 t2 in
      let four = part-line n Ps Os F g qs h B j watched_of (local 2) (dt_of m) o2 i [] a i y.state o3 y.answer (record { ks = 2 ∷ 0 ∷ []; is = refl }) refl refl refl y.result
      (write-state n Ps Os F g qs h (shape_type n keeps-all) o2 o3 d i [] t2 t3) y.represents in
      let r1 : List Object = y.answer ∷ [] in
      let five = define-line n Ps Os F g qs h (pair_ty A B) (pair_of (local 2) (reg 0)) o3 d i r1 (pair-is (at n Ps Os F g qs h o3 d i r1) (local 2) (reg 0) refl (register-is n Ps Os F g qs h o3 d i r1 0 y.answer refl) (set-object n rx) (set-object n y.represents)) rp in
      let r2 : List Object = y.answer ∷ two i y.answer ∷ [] in
      let six = part-line n Ps Os F g qs h (event_ty V) e watcher_of (reg 1) (dt_of m) o3 i r2 u (two i y.answer) z.state o4 z.answer (record { ks = 2 ∷ 1 ∷ []; is = refl })
      (away-from watcher_of (record { ks = 2 ∷ 1 ∷ []; is = refl }) (3 + (length Ps + 2 * length Os) + 1) (omega arith)) refl (register-is n Ps Os F g qs h o3 d i r2 1 (two i y.answer) refl) z.result
      (write-state n Ps Os F g qs h (shape_type n keeps-all) o3 o4 d i r2 t3 t4) z.represents in
      let last = watch-end m (one fs) bs x (f g (one fs) (m, x)) (w g (other fs) (m, pair x (f g (one fs) (m, x)).1)).0 v y.state z.state a q i y.answer (two i y.answer) fit hv y.keeps z.keeps ka hq rx y.represents z.represents in
      record {
        state = last.state;
        answer_is = last.answer_is;
        rest = last.rest;
        runs = then-run F one-line (then-run F two-line (then-run F three (then-run F four (then-run F five (then-run F six last.runs)))));
        keeps = last.keeps;
        represents = last.represents;
      }

  has-taken : (d0 : ℕ) (m0 : Moment) (fs a0 bs : Store) (x : Datum) {c : Datum} (v a u p q i : Object) → MomentFits (step d0) → MomentFits m0 → Represents n V c v → has_type (shape_type n S) a ≡ true → has_type (shape_type n W) u ≡ true
      → KeepsAt n m0 S a0 p → Keeps n T bs q → Represents n A x i
      → Comes all-lines (freeze-object true v a u (dt_object m0) p q) (number i64 (pos d0)) i [] (put (λ o. mode (Some c) fs (frozen m0 a0 o)) (by c a0 m0 bs (step d0, x)))
  has-taken d0 m0 fs a0 bs x v a u p q i fd f0 rv ha hu kp kq rx =
      let d : Object = number i64 (pos d0) in
      let r = resumes (local 1) (step d0) m0 bs a0 x true v a u p q d i [] fd f0 refl rv ha hu kp (at_step kq) rx in
      let o : Object = freeze-object true v a u (dt_object m0) p q in
      let o1 : Object = freeze-object true v a u (dt_object m0) p r.state in
      let back = answer-line n Ps Os F g qs h (reg 0) o1 d i (r.answer_is ∷ []) (register-is n Ps Os F g qs h o1 d i (r.answer_is ∷ []) 0 r.answer_is refl) r.represents in
      record {
        state = o1;
        answer_is = r.answer_is;
        rest = [];
        runs = ends F (yes-line n Ps Os F g qs h gone-over skip taken_of o d i [] (r.answer_is ∷ []) o1 (Some r.answer_is) refl (then-run F r.runs back));
        keeps = taker_kept rv (yes-and ha (yes-and hu refl)) (frozen_kept f0 kp r.keeps);
        represents = r.represents;
      }

  -- the whole, from a state of its type
  abbrev clears : Command
  clears = at_first (assign taken_of (boolean false))

  starts-all : (fs bs : Store) (x : Datum) (o i : Object) → has_type (shape_type n keeps-all) o ≡ true → Represents n A x i
      → Steps n keeps-all B (watched by (one fs) bs (start, x) (f g (one fs) (start, x)) (w g (other fs) (start, pair x (f g (one fs) (start, x)).1)).0 (event_in (w g (other fs) (start, pair x (f g (one fs) (start, x)).1)).1))
      (number i64 (pos 0) ∷ i ∷ qs) (function_run F (freezing_function n Ps Os zs S W T A B V j e k) (o ∷ number i64 (pos 0) ∷ i ∷ qs))
  starts-all fs bs x o i to rx =
      let m1 = front-of truth_type (member (c_type n V) (two_types (two_types (shape_type n S) (shape_type n W)) (member (number_type i64) (two_types (shape_type n S) (shape_type n T))))) o to in
      let m2 = front-of (c_type n V) (two_types (two_types (shape_type n S) (shape_type n W)) (member (number_type i64) (two_types (shape_type n S) (shape_type n T)))) m1.b m1.has_b in
      let m3 = halves (two_types (shape_type n S) (shape_type n W)) (member (number_type i64) (two_types (shape_type n S) (shape_type n T))) m2.b m2.has_b in
      let m4 = halves (shape_type n S) (shape_type n W) m3.a m3.has_a in
      let m5 = front-of (number_type i64) (two_types (shape_type n S) (shape_type n T)) m3.b m3.has_b in
      let m6 = halves (shape_type n S) (shape_type n T) m5.b m5.has_b in
      let d : Object = number i64 (pos 0) in
      let o0 : Object = more m1.a (more m2.a (two (two m4.a m4.b) (more m5.a (two m6.a m6.b)))) in
      let is0 : o ≡ more m1.a (more m2.a (two (two m4.a m4.b) (more m5.a (two m6.a m6.b)))) =
      m1.is ∙ ap (more m1.a) (m2.is ∙ ap (more m2.a) (m3.is ∙ ap (λ y. two y m3.b) m4.is ∙ ap (λ y. two (two m4.a m4.b) y) (m5.is ∙ ap (more m5.a) m6.is))) in
      let o1 : Object = freeze-object false m2.a m4.a m4.b m5.a m6.a m6.b in
      let t1 = freeze-has false m2.a m4.a m4.b m5.a m6.a m6.b m2.has_a m4.has_a m4.has_b m5.has_a m6.has_a m6.has_b in
      let t0 : has_type (shape_type n keeps-all) o0 ≡ true = yes-and m1.has_a (yes-and m2.has_a (yes-and (yes-and m4.has_a (yes-and m4.has_b refl)) (yes-and (yes-and m5.has_a (yes-and m6.has_a (yes-and m6.has_b refl))) refl))) in
      let clear = yes-line n Ps Os F g qs h (assign taken_of (boolean false)) skip is_first o0 d i [] [] o1 None refl (set-line taken_of (boolean false) o0 o1 d i [] (truth false) refl refl refl t0 t1) in
      let b = not-taken start fs bs x m2.a m4.a m4.b m5.a m6.a m6.b i tt m2.has_a (at_start m4.has_a) (at_start m4.has_b) m5.has_a m6.has_a m6.has_b rx in
      record {
        state = b.state;
        answer = b.answer_is;
        result = ap (λ y. function_run F (freezing_function n Ps Os zs S W T A B V j e k) (y ∷ d ∷ i ∷ qs)) is0
            ∙ whole-function n Ps Os F g qs h keeps-all A B (sequence clears all-lines) start o0 i b.state b.answer_is b.rest refl tt t0 rx (then-run F clear b.runs) b.represents;
        keeps = b.keeps;
        represents = b.represents;
      }

  goes-on : (d0 : ℕ) (o i : Object) (x : Datum) (r : Store × Datum) → MomentFits (step d0) → has_type (shape_type n keeps-all) o ≡ true → Represents n A x i → Comes all-lines o (number i64 (pos d0)) i [] r
      → Steps n keeps-all B r (number i64 (pos d0) ∷ i ∷ qs) (function_run F (freezing_function n Ps Os zs S W T A B V j e k) (o ∷ number i64 (pos d0) ∷ i ∷ qs))
  goes-on d0 o i x r fd to rx b =
      let d : Object = number i64 (pos d0) in
      let past = no-line n Ps Os F g qs h (assign taken_of (boolean false)) skip is_first o d i [] [] o None (ap (λ b. Some (truth b)) (not-first d0 fd.0)) (skips F) in
      record {
        state = b.state;
        answer = b.answer_is;
        result = whole-function n Ps Os F g qs h keeps-all A B (sequence clears all-lines) (step d0) o i b.state b.answer_is b.rest refl fd to rx (then-run F past b.runs) b.represents;
        keeps = b.keeps;
        represents = b.represents;
      }

module _ (n : Bounds) (Ps : List TypeTree) (Os : List Shape) (F : ℕ → Linked) (zs : List Argument) (Hs : List Shape) (ks : Store → Moment → List Kept) where
  freezing-law : (S W T : Shape) (A B V : TypeTree) (j e k : ℕ) (f w t : Given → Stepper)
      → Right n Ps Os S A B f (F j) → Right n Ps Os W (pair_ty A B) (event_ty V) w (F e) → Right n (Ps ++ V ∷ []) (Os ++ Hs) T A B t (F k) → HandsOn n S zs Hs ks
      → Right n Ps Os (keeps_mode V (keeps_both S W) (keeps_frozen S T)) A B (λ g. freezing_step (f g) (w g) (λ c a m. t (given_kept (given_value g c) (ks a m))))
      (function_run F (freezing_function n Ps Os zs S W T A B V j e k))
  freezing-law S W T A B V j e k f w t hf hw ht hz g qs h start s x o i fit (at_start to) r = starts-all n Ps Os F zs Hs ks S W T A B V j e k f w t hf hw ht hz g qs h (front_part s) (taker_part s) x o i to r
  freezing-law S W T A B V j e k f w t hf hw ht hz g qs h (step d0) s x o i fit (at_step (front_kept {b = b0} {v = v} {p = pp} hv (both_kept {a = fa} {b = wb} {o = a} {p = u} ka ku) hp)) r =
      let m5 = front-of (number_type i64) (two_types (shape_type n S) (shape_type n T)) pp hp in
      let m6 = halves (shape_type n S) (shape_type n T) m5.b m5.has_b in
      let o1 : Object = freeze-object false v a u m5.a m6.a m6.b in
      let to = freeze-has n Ps Os F zs Hs ks S W T A B V j e k f w t hf hw ht hz g qs h false v a u m5.a m6.a m6.b hv (keeps-type n ka) (keeps-type n ku) m5.has_a m6.has_a m6.has_b in
      let b = not-taken n Ps Os F zs Hs ks S W T A B V j e k f w t hf hw ht hz g qs h (step d0) (both fa wb) b0 x v a u m5.a m6.a m6.b i fit hv (at_step ka) (at_step ku) m5.has_a m6.has_a m6.has_b r in
      subst (λ y. Steps n (keeps_mode V (keeps_both S W) (keeps_frozen S T)) B (freezing_step (f g) (w g) (λ c a m. t (given_kept (given_value g c) (ks a m))) (mode None (both fa wb) b0) (step d0, x)) (number i64 (pos d0) ∷ i ∷ qs)
      (function_run F (freezing_function n Ps Os zs S W T A B V j e k) (more (truth false) (more v (two (two a u) y)) ∷ number i64 (pos d0) ∷ i ∷ qs))) (sym (m5.is ∙ ap (more m5.a) m6.is))
      (goes-on n Ps Os F zs Hs ks S W T A B V j e k f w t hf hw ht hz g qs h d0 o1 i x (freezing_step (f g) (w g) (λ c a m. t (given_kept (given_value g c) (ks a m))) (mode None (both fa wb) b0) (step d0, x)) fit to r b)
  freezing-law S W T A B V j e k f w t hf hw ht hz g qs h (step d0) s x o i fit (at_step (taker_kept {c = c} {a = fs} {v = v} {o = ab} rv hab (frozen_kept {m = m0} {a = a0} {b = bs} {o = p} {p = q} f0 kp kq))) r =
      let m4 = halves (shape_type n S) (shape_type n W) ab hab in
      let o1 : Object = freeze-object true v m4.a m4.b (dt_object m0) p q in
      let to = freeze-has n Ps Os F zs Hs ks S W T A B V j e k f w t hf hw ht hz g qs h true v m4.a m4.b (dt_object m0) p q (has n rv) m4.has_a m4.has_b (dt-range m0 f0) (at-type n kp) (keeps-type n kq) in
      let b = has-taken n Ps Os F zs Hs ks S W T A B V j e k f w t hf hw ht hz g qs h d0 m0 fs a0 bs x v m4.a m4.b p q i fit f0 rv m4.has_a m4.has_b kp kq r in
      subst (λ y. Steps n (keeps_mode V (keeps_both S W) (keeps_frozen S T)) B (put (λ o. mode (Some c) fs (frozen m0 a0 o)) (t (given_kept (given_value g c) (ks a0 m0)) bs (step d0, x))) (number i64 (pos d0) ∷ i ∷ qs)
      (function_run F (freezing_function n Ps Os zs S W T A B V j e k) (more (truth true) (more v (two y (more (dt_object m0) (two p q)))) ∷ number i64 (pos d0) ∷ i ∷ qs))) (sym m4.is)
      (goes-on n Ps Os F zs Hs ks S W T A B V j e k f w t hf hw ht hz g qs h d0 o1 i x (put (λ o. mode (Some c) fs (frozen m0 a0 o)) (t (given_kept (given_value g c) (ks a0 m0)) bs (step d0, x))) fit to r b)

-- members, one by one: pre stands in front of them
hands-from : (n : Bounds) (Ss : List Shape) (c0 : ℕ) (pre : List Object) (b : Bool) (v a u p q : Object) (os : List Object) (m : Moment) (s : Store) → c0 ≡ length pre → MomentFits m → KeepsAt n m (members_shape Ss) s p
    → Handed n (freeze-object b v a u (dt_object m) (stack pre p) q ∷ os) (frozen_members c0 (length Ss)) Ss (split (length Ss) s m)
hands-from n [] c0 pre b v a u p q os m s e fit k = record { objects = []; reads = reads_none; frozen = none_frozen }
hands-from n (S ∷ Ss) c0 pre b v a u p q os m s e fit k =
    let y = split-member n m S (members_shape Ss) s p k in
    let z = hands-from n Ss (suc c0) (pre ++ y.a ∷ []) b v a u y.b q os m (other s) (longer pre y.a c0 e) fit y.keeps_b in
    let same : stack (pre ++ y.a ∷ []) y.b ≡ stack pre p = stack-append pre y.a y.b ∙ ap (stack pre) (sym y.is) in
    record {
      objects = y.a ∷ dt_object m ∷ z.objects;
      reads = reads_const refl (ap (part_of (stack pre p)) e ∙ ap (λ c. part_of (stack pre c) (length pre)) y.is ∙ stack-part pre y.a y.b)
          (reads_value refl (subst (λ c. Reads (freeze-object b v a u (dt_object m) c q ∷ os) resumer_of (frozen_members (suc c0) (length Ss)) z.objects) same z.reads));
      frozen = one_frozen fit y.keeps_a z.frozen;
    }

hands-members : (n : Bounds) (Ss : List Shape) → HandsOn n (members_shape Ss) (frozen_members 0 (length Ss)) Ss (split (length Ss))
hands-members n Ss b v a u p q os m s fit k = hands-from n Ss 0 [] b v a u p q os m s refl fit k

hands-whole : (n : Bounds) (S : Shape) → HandsOn n S frozen_whole (S ∷ []) (λ a m. (a, m) ∷ [])
hands-whole n S b v a u p q os m s fit k =
    record { objects = p ∷ dt_object m ∷ []; reads = reads_const refl refl (reads_value refl reads_none); frozen = one_frozen fit k none_frozen }

module _ (n : Bounds) (Ps : List TypeTree) (Os : List Shape) (F : ℕ → Linked) where
  pub k_switch_law : KSwitchLaw n Ps Os F
  k_switch_law S W T A B V j e k f w t hf hw ht =
      freezing-law n Ps Os F frozen_whole (S ∷ []) (λ a m. (a, m) ∷ []) S W T A B V j e k f w t hf hw ht (hands-whole n S)

  pub p_switch_law : PSwitchLaw n Ps Os F
  p_switch_law Ss W T A B V j e k f w t hf hw ht =
      freezing-law n Ps Os F (frozen_members 0 (length Ss)) Ss (split (length Ss)) (members_shape Ss) W T A B V j e k f w t hf hw ht (hands-members n Ss)
