-- The C functions of switches do the switches' steps.
use Rattle.std.proofs.Common.{◌≡◌, ◌≤◌, ℕ, pos, Bool, true, false, List, [], ◌∷◌, ◌++◌, Some, None, refl, subst, sym, ap, ◌∙◌, append_assoc}
use Rattle.sample_core.specs.Datum.{Datum, right}
use Rattle.sample_core.specs.TypeTree.{TypeTree, pair_ty, event_ty}
use Rattle.leaf_code.specs.Fitting.{Bounds}
use Rattle.net_tree.specs.Network.{Timing, at_once, delayed}
use Rattle.net_meaning.specs.SignalFunction.{event_in, heard}
use Rattle.net_machine.specs.Store.{Moment, start, step, Store, mode, front_part, taker_part}
use Rattle.net_machine.specs.Stepper.{Stepper, put, switched, switch_after}
use Rattle.net_code.specs.Running.{Given, given_value}
use Rattle.c_meaning.specs.Object.{CType, truth_type, member, i64, Object, truth, number, more, has_type}
use Rattle.c_meaning.specs.Syntax.{Term, local, dot, boolean, Command, skip, sequence, assign, answer}
use Rattle.c_meaning.specs.Meaning.{Frame, Linked, eval, value, path, apart, function_run}
use Rattle.c_meaning.proofs.Alike.{yes-and}
use Rattle.c_meaning.proofs.Runs.{Runs, then-run, ends, skips, assigns}
use Rattle.c_leaf.specs.Representing.{two, two_types, c_type, Represents, c_pair, c_event, c_no_event}
use Rattle.c_leaf.proofs.Values.{has, append-register}
use Rattle.c_leaf.proofs.Same.{set-object, first-of, second-of}
use Rattle.c_forms.specs.Keeping.{Shape, keeps_mode, shape_type, Keeps, front_kept, taker_kept, KeepsAt, at_start, at_step, dt_of, dt_object, MomentFits}
use Rattle.c_forms.specs.Standing.{InScope, Right, is_first, behind, part_call}
use Rattle.c_forms.specs.Cells.{kept_at, number_term, at_first}
use Rattle.c_forms.specs.Switches.{taken_of, by_of, front_of, taker_of, leave_if, leave_unless, value_args, taker_call, event_beside_of, value_beside, heard_term, switch_function, SwitchLaw}
use Rattle.c_forms.proofs.Reading.{Reads, reads_const, reads_value, reads-append, write-call, Within, params-read, olds-read}
use Rattle.c_forms.proofs.Lines.{keeps-type, at-type, not-first, halves, front-of, at, register-is, answer-line, write-state, part-line, yes-line, no-line, whole-function}
use Rattle.c_forms.proofs.Forms.{part-within}

-- what a switch keeps
abbrev pub mode-object : Bool → Object → Object → Object → Object
mode-object b v a p = more (truth b) (more v (two a p))

module _ (n : Bounds) (Ps : List TypeTree) (Os : List Shape) (F : ℕ → Linked) (S T : Shape) (A B V : TypeTree) (k : ℕ) (t : Given → Stepper) (ht : Right n (Ps ++ V ∷ []) Os T A B t (F k))
    (g : Given) (qs : List Object) (h : InScope n Ps Os g qs) where
  abbrev pub mode-type : CType
  mode-type = shape_type n (keeps_mode V S T)

  pub mode-has : (b : Bool) (v a p : Object) → has_type (c_type n V) v ≡ true → has_type (shape_type n S) a ≡ true → has_type (shape_type n T) p ≡ true → has_type mode-type (mode-object b v a p) ≡ true
  mode-has b v a p hv ha hp = yes-and refl (yes-and hv (yes-and ha (yes-and hp refl)))

  -- a member is written
  pub mode-line : (c : ℕ) (e : Term) (o v d i : Object) (rs : List Object) (z : Object) → eval (at n Ps Os F g qs h o d i rs) e ≡ Some z → Rattle.c_meaning.specs.Meaning.is_set z ≡ Some z
      → Rattle.c_meaning.specs.Meaning.write (at n Ps Os F g qs h o d i rs) (kept_at c) z ≡ Rattle.c_meaning.specs.Meaning.replaced (at n Ps Os F g qs h o d i rs) 0 o v
      → has_type mode-type o ≡ true → has_type mode-type v ≡ true → Runs F (assign (kept_at c) e) (at n Ps Os F g qs h o d i rs) (at n Ps Os F g qs h v d i rs, None)
  mode-line c e o v d i rs z he hs hw ho hv =
      assigns F (kept_at c) e (at n Ps Os F g qs h o d i rs) (at n Ps Os F g qs h v d i rs) z he hs (hw ∙ write-state n Ps Os F g qs h mode-type o v d i rs ho hv)

  -- the scope with the value that has taken over
  value-scope : {c : Datum} {v : Object} → Represents n V c v → InScope n (Ps ++ V ∷ []) Os (given_value g c) (h.params ++ v ∷ h.olds)
  value-scope {v = v} r = record {
    params = h.params ++ v ∷ [];
    olds = h.olds;
    are = sym (append_assoc h.params (v ∷ []) h.olds);
    are_params = append-register n h.are_params r;
    are_olds = h.are_olds;
  }

  value-reads : (b : Bool) (v a p d i : Object) (rs : List Object) → Reads (at n Ps Os F g qs h (mode-object b v a p) d i rs) taker_of (value_args n Ps Os) (h.params ++ v ∷ h.olds)
  value-reads b v a p d i rs =
      let o : Object = mode-object b v a p in
      let w : Within taker_of = part-within n Ps Os F 3 in
      reads-append (at n Ps Os F g qs h o d i rs) taker_of (params-read n Ps Os g qs h taker_of w o d i rs) (reads_const refl refl (olds-read n Ps Os g qs h taker_of w o d i rs))

  -- what has taken over runs, with a step of its own
  pub record Taken (b : Bool) (v a : Object) (d : Object) (i : Object) (rs : List Object) (c : Command) (o : Object) (r : Store × Datum) : Type 0 where
    pub state : Object
    pub answer_is : Object
    pub runs : Runs F c (at n Ps Os F g qs h o d i rs) (at n Ps Os F g qs h (mode-object b v a state) d i (rs ++ answer_is ∷ []), None)
    pub keeps : Keeps n T r.0 state
    pub represents : Represents n B r.1 answer_is

  pub taker-line : (e xt : Term) (m : Moment) (s : Store) (x : Datum) {c : Datum} (b : Bool) (v a p d i y : Object) (rs : List Object) → MomentFits m → value (at n Ps Os F g qs h (mode-object b v a p) d i rs) e ≡ Some (dt_object m)
      → apart (path taker_of) (path xt) ≡ true → eval (at n Ps Os F g qs h (mode-object b v a p) d i rs) xt ≡ Some y
      → Represents n V c v → has_type (shape_type n S) a ≡ true → KeepsAt n m T s p → Represents n A x y
      → Taken b v a d i rs (taker_call n Ps Os B k e xt) (mode-object b v a p) (t (given_value g c) s (m, x))
  taker-line e xt m s x {c} b v a p d i y rs w ev ax ex rv ha kp r =
      let u = ht (given_value g c) (h.params ++ v ∷ h.olds) (value-scope rv) m s x p y w kp r in
      let o : Object = mode-object b v a p in
      let o1 : Object = mode-object b v a u.state in
      record {
        state = u.state;
        answer_is = u.answer;
        runs = subst (λ f. Runs F (taker_call n Ps Os B k e xt) (at n Ps Os F g qs h o d i rs) (f, None)) (ap (λ (us : List Object). o1 ∷ d ∷ i ∷ us) (append_assoc qs rs (u.answer ∷ [])))
            (write-call (at n Ps Os F g qs h o d i rs) taker_of F (c_type n B) k (at n Ps Os F g qs h o1 d i rs) p u.state u.answer (reads_value ev (reads_const ax ex (value-reads b v a p d i rs))) refl u.result
            (write-state n Ps Os F g qs h mode-type o o1 d i rs (mode-has b v a p (has n rv) ha (at-type n kp)) (mode-has b v a u.state (has n rv) ha (keeps-type n u.keeps))) (has n u.represents));
        keeps = u.keeps;
        represents = u.represents;
      }

  -- what lines come to
  pub record Comes (c : Command) (o d i : Object) (rs : List Object) (r : Store × Datum) : Type 0 where
    pub state : Object
    pub answer_is : Object
    pub rest : List Object
    pub runs : Runs F c (at n Ps Os F g qs h o d i rs) (at n Ps Os F g qs h state d i rest, Some answer_is)
    pub keeps : Keeps n (keeps_mode V S T) r.0 state
    pub represents : Represents n B r.1 answer_is

  abbrev start-lines : Timing → Command
  start-lines tm =
      sequence (assign taken_of (boolean true))
      (sequence (assign by_of (value_beside n Ps Os (behind n Ps Os 0))) (sequence (taker_call n Ps Os B k (number_term 0) (local 2)) (answer (heard_term n Ps Os tm))))

  -- f has answered w, whose object is z; it keeps a
  switch-end : (tm : Timing) (m : Moment) (r0 b : Store) (x : Datum) {w : Datum} (v a p i : Object) {z : Object} → has_type (c_type n V) v ≡ true → Keeps n S r0 a → has_type (shape_type n T) p ≡ true
      → Represents n A x i → Represents n (pair_ty B (event_ty V)) w z
      → Comes (sequence (leave_unless (event_beside_of n Ps Os (behind n Ps Os 0)) (dot (behind n Ps Os 0) 0)) (start-lines tm)) (mode-object false v a p) (dt_object m) i (z ∷ [])
      (switched tm (λ c. t (given_value g c)) b x (r0, w) (event_in (right w)))
  switch-end tm m r0 b x v a p i hv ka hp rx (c_pair {o = y} rb (c_no_event {o = u} tu)) =
      let d : Object = dt_object m in
      let z : Object = two y (two (truth false) u) in
      let o : Object = mode-object false v a p in
      let e = register-is n Ps Os F g qs h o d i (z ∷ []) 0 z refl in
      let back = answer-line n Ps Os F g qs h (dot (behind n Ps Os 0) 0) o d i (z ∷ []) (ap first-of e) rb in
      record {
        state = o;
        answer_is = y;
        rest = z ∷ [];
        runs = ends F (no-line n Ps Os F g qs h skip (answer (dot (behind n Ps Os 0) 0)) (event_beside_of n Ps Os (behind n Ps Os 0)) o d i (z ∷ []) [] o (Some y) (ap first-of (ap second-of e)) back);
        keeps = front_kept hv ka hp;
        represents = rb;
      }
  switch-end tm m r0 b x v a p i hv ka hp rx (c_pair {o = y} rb (c_event {o = u} ru)) =
      let d : Object = dt_object m in
      let z : Object = two y (two (truth true) u) in
      let ha = keeps-type n ka in
      let o0 : Object = mode-object false v a p in
      let o1 : Object = mode-object true v a p in
      let o2 : Object = mode-object true u a p in
      let e0 = register-is n Ps Os F g qs h o0 d i (z ∷ []) 0 z refl in
      let e1 = register-is n Ps Os F g qs h o1 d i (z ∷ []) 0 z refl in
      let t0 = mode-has false v a p hv ha hp in
      let t1 = mode-has true v a p hv ha hp in
      let t2 = mode-has true u a p (has n ru) ha hp in
      let one = yes-line n Ps Os F g qs h skip (answer (dot (behind n Ps Os 0) 0)) (event_beside_of n Ps Os (behind n Ps Os 0)) o0 d i (z ∷ []) [] o0 None (ap first-of (ap second-of e0)) (skips F) in
      let two-line = mode-line 0 (boolean true) o0 o1 d i (z ∷ []) (truth true) refl refl refl t0 t1 in
      let three = mode-line 1 (value_beside n Ps Os (behind n Ps Os 0)) o1 o2 d i (z ∷ []) u (ap second-of (ap second-of e1)) (set-object n ru) refl t1 t2 in
      let q = taker-line (number_term 0) (local 2) start b x true u a p d i i (z ∷ []) tt refl refl refl ru ha (at_start hp) rx in
      let o3 : Object = mode-object true u a q.state in
      let rs : List Object = z ∷ q.answer_is ∷ [] in
      let f = finish tm o3 d i z y q.answer_is rb q.represents in
      record {
        state = o3;
        answer_is = f.0;
        rest = rs;
        runs = then-run F one (then-run F two-line (then-run F three (then-run F q.runs f.1)));
        keeps = taker_kept ru ha q.keeps;
        represents = f.2;
      }
    where
      finish : (tm : Timing) (o d i z y q : Object) {l r : Datum} → Represents n B l y → Represents n B r q
          → (w : Object) × Runs F (answer (heard_term n Ps Os tm)) (at n Ps Os F g qs h o d i (two y (two (truth true) u) ∷ q ∷ [])) (at n Ps Os F g qs h o d i (two y (two (truth true) u) ∷ q ∷ []), Some w) × Represents n B (heard tm l r) w
      finish at_once o d i z y q rl rr =
          (q, answer-line n Ps Os F g qs h (behind n Ps Os 1) o d i (two y (two (truth true) u) ∷ q ∷ []) (register-is n Ps Os F g qs h o d i (two y (two (truth true) u) ∷ q ∷ []) 1 q refl) rr, rr)
      finish delayed o d i z y q rl rr =
          (y, answer-line n Ps Os F g qs h (dot (behind n Ps Os 0) 0) o d i (two y (two (truth true) u) ∷ q ∷ []) (ap first-of (register-is n Ps Os F g qs h o d i (two y (two (truth true) u) ∷ q ∷ []) 0 (two y (two (truth true) u)) refl)) rl, rl)

  abbrev switch-rest : Timing → ℕ → Command
  switch-rest tm j =
      sequence (leave_if taken_of (taker_call n Ps Os B k (local 1) (local 2)) (behind n Ps Os 0))
      (sequence (part_call n Ps Os (pair_ty B (event_ty V)) j front_of (local 2))
      (sequence (leave_unless (event_beside_of n Ps Os (behind n Ps Os 0)) (dot (behind n Ps Os 0) 0)) (start-lines tm)))

  abbrev gone-over : Command
  gone-over = sequence (taker_call n Ps Os B k (local 1) (local 2)) (answer (behind n Ps Os 0))

  -- nothing has taken over yet
  not-taken : (tm : Timing) (j : ℕ) (f : Given → Stepper) → Right n Ps Os S A (pair_ty B (event_ty V)) f (F j) → (m : Moment) (s0 b : Store) (x : Datum) (v a p i : Object) → MomentFits m
      → has_type (c_type n V) v ≡ true → KeepsAt n m S s0 a → has_type (shape_type n T) p ≡ true → Represents n A x i
      → Comes (switch-rest tm j) (mode-object false v a p) (dt_object m) i [] (switch_after tm (λ c. t (given_value g c)) b x (f g s0 (m, x)))
  not-taken tm j f hf m s0 b x v a p i w hv ka hp rx =
      let u = hf g qs h m s0 x a i w ka rx in
      let d : Object = dt_object m in
      let o : Object = mode-object false v a p in
      let o1 : Object = mode-object false v u.state p in
      let one = no-line n Ps Os F g qs h gone-over skip taken_of o d i [] [] o None refl (skips F) in
      let two-line = part-line n Ps Os F g qs h (pair_ty B (event_ty V)) j front_of (local 2) (dt_of m) o i [] a i u.state o1 u.answer (part-within n Ps Os F 2) refl refl refl u.result
      (write-state n Ps Os F g qs h mode-type o o1 d i [] (mode-has false v a p hv (at-type n ka) hp) (mode-has false v u.state p hv (keeps-type n u.keeps) hp)) u.represents in
      let e = switch-end tm m (f g s0 (m, x)).0 b x v u.state p i hv u.keeps hp rx u.represents in
      record {
        state = e.state;
        answer_is = e.answer_is;
        rest = e.rest;
        runs = then-run F one (then-run F two-line e.runs);
        keeps = e.keeps;
        represents = e.represents;
      }

  -- something has taken over
  has-taken : (tm : Timing) (j : ℕ) (d0 : ℕ) (a0 b : Store) (x : Datum) {c : Datum} (v a p i : Object) → MomentFits (step d0) → Represents n V c v → has_type (shape_type n S) a ≡ true → Keeps n T b p → Represents n A x i
      → Comes (switch-rest tm j) (mode-object true v a p) (number i64 (pos d0)) i [] (put (mode (Some c) a0) (t (given_value g c) b (step d0, x)))
  has-taken tm j d0 a0 b x v a p i w rv ha kp rx =
      let d : Object = number i64 (pos d0) in
      let q = taker-line (local 1) (local 2) (step d0) b x true v a p d i i [] w refl refl refl rv ha (at_step kp) rx in
      let o : Object = mode-object true v a p in
      let o1 : Object = mode-object true v a q.state in
      let back = answer-line n Ps Os F g qs h (behind n Ps Os 0) o1 d i (q.answer_is ∷ []) (register-is n Ps Os F g qs h o1 d i (q.answer_is ∷ []) 0 q.answer_is refl) q.represents in
      record {
        state = o1;
        answer_is = q.answer_is;
        rest = [];
        runs = ends F (yes-line n Ps Os F g qs h gone-over skip taken_of o d i [] (q.answer_is ∷ []) o1 (Some q.answer_is) refl (then-run F q.runs back));
        keeps = taker_kept rv ha q.keeps;
        represents = q.represents;
      }

  -- the restart is passed over
  pub goes-past : (c : Command) (o i : Object) (d : ℕ) → 1 ≤ d → Runs F (at_first c) (at n Ps Os F g qs h o (number i64 (pos d)) i []) (at n Ps Os F g qs h o (number i64 (pos d)) i [], None)
  goes-past c o i d l = no-line n Ps Os F g qs h c skip is_first o (number i64 (pos d)) i [] [] o None (ap (λ b. Some (truth b)) (not-first d l)) (skips F)

module _ (n : Bounds) (Ps : List TypeTree) (Os : List Shape) (F : ℕ → Linked) where
  pub switch_law : SwitchLaw n Ps Os F
  switch_law tm S T A B V j k f t hf ht g qs h start s x o i w (at_start e) r =
      let q = front-of truth_type (member (c_type n V) (two_types (shape_type n S) (shape_type n T))) o e in
      let q2 = front-of (c_type n V) (two_types (shape_type n S) (shape_type n T)) q.b q.has_b in
      let q3 = halves (shape_type n S) (shape_type n T) q2.b q2.has_b in
      let o0 : Object = more q.a (more q2.a (two q3.a q3.b)) in
      let is0 : o ≡ more q.a (more q2.a (two q3.a q3.b)) = q.is ∙ ap (more q.a) (q2.is ∙ ap (more q2.a) q3.is) in
      let d : Object = number i64 (pos 0) in
      let t0 : has_type (shape_type n (keeps_mode V S T)) o0 ≡ true = yes-and q.has_a (yes-and q2.has_a (yes-and q3.has_a (yes-and q3.has_b refl))) in
      let o1 : Object = mode-object false q2.a q3.a q3.b in
      let t1 = mode-has n Ps Os F S T A B V k t ht g qs h false q2.a q3.a q3.b q2.has_a q3.has_a q3.has_b in
      let set = mode-line n Ps Os F S T A B V k t ht g qs h 0 (boolean false) o0 o1 d i [] (truth false) refl refl refl t0 t1 in
      let clear = yes-line n Ps Os F g qs h (assign taken_of (boolean false)) skip is_first o0 d i [] [] o1 None refl set in
      let b = not-taken n Ps Os F S T A B V k t ht g qs h tm j f hf start (front_part s) (taker_part s) x q2.a q3.a q3.b i w q2.has_a (at_start q3.has_a) q3.has_b r in
      record {
        state = b.state;
        answer = b.answer_is;
        result = ap (λ p. function_run F (switch_function n Ps Os tm S T A B V j k) (p ∷ d ∷ i ∷ qs)) is0
            ∙ whole-function n Ps Os F g qs h (keeps_mode V S T) A B _ start o0 i b.state b.answer_is b.rest refl w t0 r (then-run F clear b.runs) b.represents;
        keeps = b.keeps;
        represents = b.represents;
      }
  switch_law tm S T A B V j k f t hf ht g qs h (step e) s x o i w (at_step (front_kept {a = a0} {b = b0} {v = v} {o = a} {p = p} hv ka hp)) r =
      let o0 : Object = mode-object false v a p in
      let b = not-taken n Ps Os F S T A B V k t ht g qs h tm j f hf (step e) a0 b0 x v a p i w hv (at_step ka) hp r in
      record {
        state = b.state;
        answer = b.answer_is;
        result = whole-function n Ps Os F g qs h (keeps_mode V S T) A B _ (step e) o0 i b.state b.answer_is b.rest refl w (mode-has n Ps Os F S T A B V k t ht g qs h false v a p hv (keeps-type n ka) hp) r
            (then-run F (goes-past n Ps Os F S T A B V k t ht g qs h (assign taken_of (boolean false)) o0 i e w.0) b.runs) b.represents;
        keeps = b.keeps;
        represents = b.represents;
      }
  switch_law tm S T A B V j k f t hf ht g qs h (step e) s x o i w (at_step (taker_kept {a = a0} {b = b0} {v = v} {o = a} {p = p} rv ha kp)) r =
      let o0 : Object = mode-object true v a p in
      let b = has-taken n Ps Os F S T A B V k t ht g qs h tm j e a0 b0 x v a p i w rv ha kp r in
      record {
        state = b.state;
        answer = b.answer_is;
        result = whole-function n Ps Os F g qs h (keeps_mode V S T) A B _ (step e) o0 i b.state b.answer_is b.rest refl w (mode-has n Ps Os F S T A B V k t ht g qs h true v a p (has n rv) ha (keeps-type n kp)) r
            (then-run F (goes-past n Ps Os F S T A B V k t ht g qs h (assign taken_of (boolean false)) o0 i e w.0) b.runs) b.represents;
        keeps = b.keeps;
        represents = b.represents;
      }
