-- The C functions of `rSwitch` and `drSwitch` do their steps.
use Rattle.std.proofs.Common.{◌≡◌, ◌+◌, ℕ, zero, suc, pos, Bool, true, false, List, [], ◌∷◌, ◌++◌, length, Option, Some, None, refl, subst, sym, ap, ◌∙◌}
use Rattle.std.specs.Prelude.{if◌then◌else◌, nat_eq, not}
use Rattle.sample_core.specs.Datum.{Datum, pair, event}
use Rattle.sample_core.specs.TypeTree.{TypeTree, pair_ty, event_ty}
use Rattle.leaf_code.specs.Fitting.{Bounds}
use Rattle.net_meaning.specs.SignalFunction.{event_in}
use Rattle.net_tree.specs.Network.{Timing, at_once, delayed}
use Rattle.net_machine.specs.Store.{Moment, start, step, Store, mode, front_part, taker_part}
use Rattle.net_machine.specs.Stepper.{Stepper, event_beside, put, going_on, restarted_late, r_switch_in}
use Rattle.net_code.specs.Running.{Given, given_value}
use Rattle.c_meaning.specs.Object.{truth_type, member, i64, Object, truth, number, more, has_type}
use Rattle.c_meaning.specs.Syntax.{Term, local, dot, boolean, Command, skip, Argument, by_const, sequence, define, refer, assign, branch, answer}
use Rattle.c_meaning.specs.Meaning.{Frame, Linked, passed_roots, written, referred, is_none_of, none_shared, steady, eval, function_run}
use Rattle.c_meaning.proofs.Alike.{yes-and, left-yes, right-yes}
use Rattle.c_meaning.proofs.Runs.{Runs, then-run, ends, skips}
use Rattle.c_leaf.specs.Representing.{two, two_types, c_type, Represents, c_pair, c_event, c_no_event}
use Rattle.c_leaf.specs.LeafC.{is_struct, part_command}
use Rattle.c_leaf.proofs.Values.{has}
use Rattle.c_leaf.proofs.Same.{set-object}
use Rattle.c_forms.specs.Keeping.{Shape, keeps_mode, shape_type, Keeps, front_kept, taker_kept, KeepsAt, at_start, at_step, dt_of, dt_object, MomentFits}
use Rattle.c_forms.specs.Standing.{InScope, Right, is_first, behind, param_args, old_args, part_call}
use Rattle.c_forms.specs.Cells.{number_term, at_first}
use Rattle.c_forms.specs.Switches.{taken_of, by_of, front_of, taker_call, event_beside_of, value_beside, restart_lines, late_lines, r_switch_lines, r_switch_function, RSwitchLaw}
use Rattle.c_forms.proofs.Lines.{keeps-type, at-type, halves, front-of, at, register-is, refer-line, answer-line, write-state, part-line, yes-line, no-line, whole-function}
use Rattle.c_forms.proofs.Forms.{part-within, beside-member}
use Rattle.c_forms.proofs.Switches.{mode-object, mode-type, mode-has, mode-line, taker-line, Comes, goes-past}

module _ (n : Bounds) (Ps : List TypeTree) (Os : List Shape) (F : ℕ → Linked) (S T : Shape) (A B V : TypeTree) (k : ℕ) (t : Given → Stepper) (ht : Right n (Ps ++ V ∷ []) Os T A B t (F k))
    (g : Given) (qs : List Object) (h : InScope n Ps Os g qs) where
  abbrev by : Datum → Stepper
  by c = t (given_value g c)

  abbrev reg : ℕ → Term
  reg j = behind n Ps Os j

  abbrev goes : Command → Object → Object → Object → List Object → Store × Datum → Type 0
  goes c o d i rs r = Comes n Ps Os F S T A B V k t ht g qs h c o d i rs r

  -- what restarts: the event's value y takes over, and the taker starts on register 0, which is y0
  record Restarted (b : Bool) (v a p d i : Object) (rs : List Object) (c : Datum) (y : Object) (r : Store × Datum) : Type 0 where
    state : Object
    answer_is : Object
    runs : (rest : Command) (f : Frame × Option Object) → Runs F rest (at n Ps Os F g qs h (mode-object true y a state) d i (rs ++ answer_is ∷ [])) f
        → Runs F (restart_lines n Ps Os B k rest) (at n Ps Os F g qs h (mode-object b v a p) d i rs) f
    keeps : Keeps n T r.0 state
    represents : Represents n B r.1 answer_is

  restart : (b : Bool) (v a p d i z : Object) (more_rs : List Object) {c u : Datum} {y y0 : Object} (s : Store) → has_type (c_type n V) v ≡ true → has_type (shape_type n S) a ≡ true → has_type (shape_type n T) p ≡ true
      → i ≡ two z (two (truth true) y) → Represents n V c y → Represents n A u y0
      → Restarted b v a p d i (y0 ∷ more_rs) c y (by c s (start, u))
  restart b v a p d i z more_rs {c} {u} {y} {y0} s hv ha hp ei rc ru =
      let rs : List Object = y0 ∷ more_rs in
      let o0 : Object = mode-object b v a p in
      let o1 : Object = mode-object true v a p in
      let o2 : Object = mode-object true y a p in
      let t0 = mode-has n Ps Os F S T A B V k t ht g qs h b v a p hv ha hp in
      let t1 = mode-has n Ps Os F S T A B V k t ht g qs h true v a p hv ha hp in
      let t2 = mode-has n Ps Os F S T A B V k t ht g qs h true y a p (has n rc) ha hp in
      let one = mode-line n Ps Os F S T A B V k t ht g qs h 0 (boolean true) o0 o1 d i rs (truth true) refl refl refl t0 t1 in
      let two-line = mode-line n Ps Os F S T A B V k t ht g qs h 1 (value_beside n Ps Os (local 2)) o1 o2 d i rs y (ap (λ j. eval (o1 ∷ d ∷ j ∷ []) (value_beside n Ps Os (local 2))) ei) (set-object n rc) refl t1 t2 in
      let q = taker-line n Ps Os F S T A B V k t ht g qs h (number_term 0) (reg 0) start s u true y a p d i y0 rs tt refl (beside-member n Ps Os F 3 0) (register-is n Ps Os F g qs h o2 d i rs 0 y0 refl) rc ha (at_start hp) ru in
      record {
        state = q.state;
        answer_is = q.answer_is;
        runs = λ rest f r. then-run F one (then-run F two-line (then-run F q.runs r));
        keeps = q.keeps;
        represents = q.represents;
      }

  -- what ran before has answered r, which is still heard
  abbrev late-result : Datum → Store × Datum → Option Datum → Store × Datum
  late-result u r None = r
  late-result u r (Some c) = restarted_late c by u r

  -- at once what starts is heard
  abbrev once-result : Datum → Store → Store → Store × Datum → Option Datum → Store × Datum
  once-result u fs bs r None = r
  once-result u fs bs r (Some c) = put (mode (Some c) fs) (by c bs (start, u))

  abbrev result : Timing → Datum → Store → Store → Store × Datum → Option Datum → Store × Datum
  result at_once u fs bs r o = once-result u fs bs r o
  result delayed u fs bs r o = late-result u r o

  -- these lines leave the registers
  record Late (o d i : Object) (rs : List Object) (r : Store × Datum) : Type 0 where
    state : Object
    answer_is : Object
    runs : Runs F (late_lines n Ps Os B k) (at n Ps Os F g qs h o d i rs) (at n Ps Os F g qs h state d i rs, Some answer_is)
    keeps : Keeps n (keeps_mode V S T) r.0 state
    represents : Represents n B r.1 answer_is

  lately : (b : Bool) (v a p d : Object) {u e w : Datum} {y0 z r1 : Object} (r0 : Store) → has_type (c_type n V) v ≡ true → has_type (shape_type n S) a ≡ true → has_type (shape_type n T) p ≡ true
      → Keeps n (keeps_mode V S T) r0 (mode-object b v a p) → Represents n A u y0 → Represents n (event_ty V) e z → Represents n B w r1
      → Late (mode-object b v a p) d (two y0 z) (y0 ∷ r1 ∷ []) (late-result u (r0, w) (event_in e))
  lately b v a p d {y0 = y0} {r1 = r1} r0 hv ha hp kr ru (c_no_event {o = o0} te) rw =
      let o : Object = mode-object b v a p in
      let i : Object = two y0 (two (truth false) o0) in
      let rs : List Object = y0 ∷ r1 ∷ [] in
      let one = no-line n Ps Os F g qs h (restart_lines n Ps Os B k skip) skip (event_beside_of n Ps Os (local 2)) o d i rs [] o None refl (skips F) in
      record {
        state = o;
        answer_is = r1;
        runs = then-run F one (answer-line n Ps Os F g qs h (reg 1) o d i rs (register-is n Ps Os F g qs h o d i rs 1 r1 refl) rw);
        keeps = kr;
        represents = rw;
      }
  lately b v a p d {y0 = y0} {r1 = r1} r0 hv ha hp kr ru (c_event {o = y} re) rw =
      let o : Object = mode-object b v a p in
      let i : Object = two y0 (two (truth true) y) in
      let rs : List Object = y0 ∷ r1 ∷ [] in
      let q = restart b v a p d i y0 (r1 ∷ []) (taker_part r0) hv ha hp refl re ru in
      let o1 : Object = mode-object true y a q.state in
      let one = yes-line n Ps Os F g qs h (restart_lines n Ps Os B k skip) skip (event_beside_of n Ps Os (local 2)) o d i rs (q.answer_is ∷ []) o1 None refl
      (q.runs skip (at n Ps Os F g qs h o1 d i (rs ++ q.answer_is ∷ []), None) (skips F)) in
      record {
        state = o1;
        answer_is = r1;
        runs = then-run F one (answer-line n Ps Os F g qs h (reg 1) o1 d i rs (register-is n Ps Os F g qs h o1 d i rs 1 r1 refl) rw);
        keeps = taker_kept re ha q.keeps;
        represents = rw;
      }

  module _ (j : ℕ) (f : Given → Stepper) (hf : Right n Ps Os S A B f (F j)) where
    -- f goes on
    record Front-ran (v a p d i : Object) (y0 : Object) (r : Store × Datum) : Type 0 where
      state : Object
      answer_is : Object
      runs : Runs F (part_call n Ps Os B j front_of (reg 0)) (at n Ps Os F g qs h (mode-object false v a p) d i (y0 ∷ [])) (at n Ps Os F g qs h (mode-object false v state p) d i (y0 ∷ answer_is ∷ []), None)
      keeps : Keeps n S r.0 state
      represents : Represents n B r.1 answer_is

    front-runs : (m : Moment) (s0 : Store) (v a p i : Object) {u : Datum} {y0 : Object} → MomentFits m → has_type (c_type n V) v ≡ true → KeepsAt n m S s0 a → has_type (shape_type n T) p ≡ true → Represents n A u y0
        → Front-ran v a p (dt_object m) i y0 (f g s0 (m, u))
    front-runs m s0 v a p i {u} {y0} w hv ka hp ru =
        let q = hf g qs h m s0 u a y0 w ka ru in
        let d : Object = dt_object m in
        let o : Object = mode-object false v a p in
        let o1 : Object = mode-object false v q.state p in
        record {
          state = q.state;
          answer_is = q.answer;
          runs = part-line n Ps Os F g qs h B j front_of (reg 0) (dt_of m) o i (y0 ∷ []) a y0 q.state o1 q.answer (part-within n Ps Os F 2) (beside-member n Ps Os F 2 0) refl (register-is n Ps Os F g qs h o d i (y0 ∷ []) 0 y0 refl) q.result
              (write-state n Ps Os F g qs h (mode-type n Ps Os F S T A B V k t ht g qs h) o o1 d i (y0 ∷ []) (mode-has n Ps Os F S T A B V k t ht g qs h false v a p hv (at-type n ka) hp)
              (mode-has n Ps Os F S T A B V k t ht g qs h false v q.state p hv (keeps-type n q.keeps) hp)) q.represents;
          keeps = q.keeps;
          represents = q.represents;
        }

    abbrev gone-over : Command
    gone-over = sequence (taker_call n Ps Os B k (local 1) (reg 0)) (answer (reg 1))

    -- at once, at an event
    at-event : (c : Bool) (m : Moment) (s0 b : Store) {u e : Datum} (v a p : Object) {y0 y : Object} → has_type (c_type n V) v ≡ true → has_type (shape_type n S) a ≡ true → has_type (shape_type n T) p ≡ true
        → Represents n A u y0 → Represents n V e y
        → goes (r_switch_lines n Ps Os at_once B j k) (mode-object c v a p) (dt_object m) (two y0 (two (truth true) y)) (y0 ∷ []) (put (mode (Some e) s0) (by e b (start, u)))
    at-event c m s0 b v a p {y0} {y} hv ha hp ru re =
        let i : Object = two y0 (two (truth true) y) in
        let d : Object = dt_object m in
        let o : Object = mode-object c v a p in
        let q = restart c v a p d i y0 [] b hv ha hp refl re ru in
        let o1 : Object = mode-object true y a q.state in
        let rs : List Object = y0 ∷ q.answer_is ∷ [] in
        let back = answer-line n Ps Os F g qs h (reg 1) o1 d i rs (register-is n Ps Os F g qs h o1 d i rs 1 q.answer_is refl) q.represents in
        record {
          state = o1;
          answer_is = q.answer_is;
          rest = y0 ∷ [];
          runs = ends F (yes-line n Ps Os F g qs h (restart_lines n Ps Os B k (answer (reg 1))) skip (event_beside_of n Ps Os (local 2)) o d i (y0 ∷ []) (q.answer_is ∷ []) o1 (Some q.answer_is) refl
              (q.runs (answer (reg 1)) (at n Ps Os F g qs h o1 d i rs, Some q.answer_is) back));
          keeps = taker_kept re ha q.keeps;
          represents = q.represents;
        }

    -- nothing has taken over
    front : (tm : Timing) (m : Moment) (s0 b : Store) {u e : Datum} (v a p : Object) {y0 z : Object} → MomentFits m → has_type (c_type n V) v ≡ true → KeepsAt n m S s0 a → has_type (shape_type n T) p ≡ true
        → Represents n A u y0 → Represents n (event_ty V) e z
        → goes (r_switch_lines n Ps Os tm B j k) (mode-object false v a p) (dt_object m) (two y0 z) (y0 ∷ []) (result tm u s0 b (put (λ a. mode None a b) (f g s0 (m, u))) (event_in e))
    front at_once m s0 b {u} v a p {y0} w hv ka hp ru (c_no_event {o = o0} te) =
        let i : Object = two y0 (two (truth false) o0) in
        let d : Object = dt_object m in
        let o : Object = mode-object false v a p in
        let q = front-runs m s0 v a p i w hv ka hp ru in
        let o1 : Object = mode-object false v q.state p in
        let one = no-line n Ps Os F g qs h (restart_lines n Ps Os B k (answer (reg 1))) skip (event_beside_of n Ps Os (local 2)) o d i (y0 ∷ []) [] o None refl (skips F) in
        let two-line = no-line n Ps Os F g qs h gone-over skip taken_of o d i (y0 ∷ []) [] o None refl (skips F) in
        record {
          state = o1;
          answer_is = q.answer_is;
          rest = y0 ∷ q.answer_is ∷ [];
          runs = then-run F one (then-run F two-line (then-run F q.runs (answer-line n Ps Os F g qs h (reg 1) o1 d i (y0 ∷ q.answer_is ∷ []) (register-is n Ps Os F g qs h o1 d i (y0 ∷ q.answer_is ∷ []) 1 q.answer_is refl) q.represents)));
          keeps = front_kept hv q.keeps hp;
          represents = q.represents;
        }
    front at_once m s0 b {u} v a p {y0} w hv ka hp ru (c_event {o = y} re) =
        at-event false m s0 b v a p hv (at-type n ka) hp ru re
    front delayed m s0 b {u} v a p {y0} {z} w hv ka hp ru re =
        let i : Object = two y0 z in
        let d : Object = dt_object m in
        let o : Object = mode-object false v a p in
        let q = front-runs m s0 v a p i w hv ka hp ru in
        let one = no-line n Ps Os F g qs h (sequence (taker_call n Ps Os B k (local 1) (reg 0)) (late_lines n Ps Os B k)) skip taken_of o d i (y0 ∷ []) [] o None refl (skips F) in
        let l = lately false v q.state p d (mode None (f g s0 (m, u)).0 b) hv (keeps-type n q.keeps) hp (front_kept hv q.keeps hp) ru re q.represents in
        record {
          state = l.state;
          answer_is = l.answer_is;
          rest = y0 ∷ q.answer_is ∷ [];
          runs = then-run F one (then-run F q.runs l.runs);
          keeps = l.keeps;
          represents = l.represents;
        }

    -- something has taken over by c
    over : (tm : Timing) (d0 : ℕ) (a0 b : Store) {c u e : Datum} (v a p : Object) {y0 z : Object} → MomentFits (step d0) → Represents n V c v → has_type (shape_type n S) a ≡ true → Keeps n T b p
        → Represents n A u y0 → Represents n (event_ty V) e z
        → goes (r_switch_lines n Ps Os tm B j k) (mode-object true v a p) (number i64 (pos d0)) (two y0 z) (y0 ∷ []) (result tm u a0 b (put (mode (Some c) a0) (by c b (step d0, u))) (event_in e))
    over at_once d0 a0 b {u = u} v a p {y0} w rv ha kp ru (c_no_event {o = o0} te) =
        let i : Object = two y0 (two (truth false) o0) in
        let d : Object = number i64 (pos d0) in
        let o : Object = mode-object true v a p in
        let q = taker-line n Ps Os F S T A B V k t ht g qs h (local 1) (reg 0) (step d0) b u true v a p d i y0 (y0 ∷ []) w refl (beside-member n Ps Os F 3 0) (register-is n Ps Os F g qs h o d i (y0 ∷ []) 0 y0 refl) rv ha (at_step kp) ru in
        let o1 : Object = mode-object true v a q.state in
        let rs : List Object = y0 ∷ q.answer_is ∷ [] in
        let one = no-line n Ps Os F g qs h (restart_lines n Ps Os B k (answer (reg 1))) skip (event_beside_of n Ps Os (local 2)) o d i (y0 ∷ []) [] o None refl (skips F) in
        let back = answer-line n Ps Os F g qs h (reg 1) o1 d i rs (register-is n Ps Os F g qs h o1 d i rs 1 q.answer_is refl) q.represents in
        record {
          state = o1;
          answer_is = q.answer_is;
          rest = y0 ∷ [];
          runs = then-run F one (ends F (yes-line n Ps Os F g qs h gone-over skip taken_of o d i (y0 ∷ []) (q.answer_is ∷ []) o1 (Some q.answer_is) refl (then-run F q.runs back)));
          keeps = taker_kept rv ha q.keeps;
          represents = q.represents;
        }
    over at_once d0 a0 b v a p w rv ha kp ru (c_event re) = at-event true (step d0) a0 b v a p (has n rv) ha (keeps-type n kp) ru re
    over delayed d0 a0 b {c = c} {u = u} v a p {y0} {z} w rv ha kp ru re =
        let i : Object = two y0 z in
        let d : Object = number i64 (pos d0) in
        let o : Object = mode-object true v a p in
        let q = taker-line n Ps Os F S T A B V k t ht g qs h (local 1) (reg 0) (step d0) b u true v a p d i y0 (y0 ∷ []) w refl (beside-member n Ps Os F 3 0) (register-is n Ps Os F g qs h o d i (y0 ∷ []) 0 y0 refl) rv ha (at_step kp) ru in
        let l = lately true v a q.state d (mode (Some c) a0 (by c b (step d0, u)).0) (has n rv) ha (keeps-type n q.keeps) (taker_kept rv ha q.keeps) ru re q.represents in
        record {
          state = l.state;
          answer_is = l.answer_is;
          rest = y0 ∷ [];
          runs = ends F (yes-line n Ps Os F g qs h (sequence (taker_call n Ps Os B k (local 1) (reg 0)) (late_lines n Ps Os B k)) skip taken_of o d i (y0 ∷ []) (q.answer_is ∷ []) l.state (Some l.answer_is) refl
              (then-run F q.runs l.runs));
          keeps = l.keeps;
          represents = l.represents;
        }

    -- these are the steps
    is-beside : (u e : Datum) → event_beside (pair u e) ≡ event_in e
    is-beside u (event c) = refl
    is-beside u _ = refl

    starting : (tm : Timing) (s : Store) (u : Datum) (o : Option Datum) → result tm u (front_part s) (taker_part s) (put (λ a. mode None a (taker_part s)) (f g (front_part s) (start, u))) o ≡ r_switch_in tm (f g) by s (start, u) o
    starting at_once s u None = refl
    starting at_once s u (Some c) = refl
    starting delayed s u None = refl
    starting delayed s u (Some c) = refl

    later : (tm : Timing) (d : ℕ) (m : Option Datum) (a b : Store) (u : Datum) (o : Option Datum) → result tm u a b (going_on (f g) by (mode m a b) (step d, u) m) o ≡ r_switch_in tm (f g) by (mode m a b) (step d, u) o
    later at_once d m a b u None = refl
    later at_once d m a b u (Some c) = refl
    later delayed d m a b u None = refl
    later delayed d m a b u (Some c) = refl

module _ (n : Bounds) (Ps : List TypeTree) (Os : List Shape) (F : ℕ → Linked) where
  -- a call writes its state alone
  param-roots : (k m : ℕ) (zs : List Argument) → passed_roots (param_args k m ++ zs) ≡ passed_roots zs
  param-roots k zero zs = refl
  param-roots k (suc m) zs = param-roots (suc k) m zs

  old-roots : (k m : ℕ) → passed_roots (old_args k m) ≡ []
  old-roots k zero = refl
  old-roots k (suc m) = old-roots (suc (suc k)) m

  -- the input isn't written
  abbrev Reads : Command → Type 0
  Reads c = is_none_of 2 (written c) ≡ true

  none-append : (xs ys : List ℕ) → is_none_of 2 xs ≡ true → is_none_of 2 ys ≡ true → is_none_of 2 (xs ++ ys) ≡ true
  none-append [] ys a b = b
  none-append (x ∷ xs) ys a b = yes-and (left-yes (not (nat_eq 2 x)) (is_none_of 2 xs) a) (none-append xs ys (right-yes (not (nat_eq 2 x)) (is_none_of 2 xs) a) b)

  then-reads : (a b : Command) → Reads a → Reads b → Reads (sequence a b)
  then-reads a b p q = none-append (written a) (written b) p q

  chosen-reads : (e : Term) (a b : Command) → Reads a → Reads b → Reads (branch e a b)
  chosen-reads e a b p q = none-append (written a) (written b) p q

  taker-reads : (B : TypeTree) (k : ℕ) (e x : Term) → Reads (taker_call n Ps Os B k e x)
  taker-reads B k e x = ap (λ ks. is_none_of 2 (0 ∷ ks)) (param-roots 3 (length Ps) (by_const by_of ∷ old_args (3 + length Ps) (length Os)) ∙ old-roots (3 + length Ps) (length Os))

  front-reads : (B : TypeTree) (j : ℕ) (x : Term) → Reads (part_call n Ps Os B j front_of x)
  front-reads B j x = ap (λ ks. is_none_of 2 (0 ∷ ks)) (param-roots 3 (length Ps) (old_args (3 + length Ps) (length Os)) ∙ old-roots (3 + length Ps) (length Os))

  restart-reads : (B : TypeTree) (k : ℕ) (c : Command) → Reads c → Reads (restart_lines n Ps Os B k c)
  restart-reads B k c p =
      then-reads (taker_call n Ps Os B k (number_term 0) (behind n Ps Os 0)) c (taker-reads B k (number_term 0) (behind n Ps Os 0)) p

  leave-reads : (B : TypeTree) (k : ℕ) → Reads (sequence (taker_call n Ps Os B k (local 1) (behind n Ps Os 0)) (answer (behind n Ps Os 1)))
  leave-reads B k = then-reads (taker_call n Ps Os B k (local 1) (behind n Ps Os 0)) (answer (behind n Ps Os 1)) (taker-reads B k (local 1) (behind n Ps Os 0)) refl

  late-reads : (B : TypeTree) (k : ℕ) → Reads (late_lines n Ps Os B k)
  late-reads B k =
      then-reads (branch (event_beside_of n Ps Os (local 2)) (restart_lines n Ps Os B k skip) skip) (answer (behind n Ps Os 1))
      (chosen-reads (event_beside_of n Ps Os (local 2)) (restart_lines n Ps Os B k skip) skip (restart-reads B k skip refl) refl) refl

  lines-read : (tm : Timing) (B : TypeTree) (j k : ℕ) → Reads (r_switch_lines n Ps Os tm B j k)
  lines-read at_once B j k =
      let once : Command = branch (event_beside_of n Ps Os (local 2)) (restart_lines n Ps Os B k (answer (behind n Ps Os 1))) skip in
      let gone : Command = sequence (taker_call n Ps Os B k (local 1) (behind n Ps Os 0)) (answer (behind n Ps Os 1)) in
      let ran : Command = part_call n Ps Os B j front_of (behind n Ps Os 0) in
      then-reads once (sequence (branch taken_of gone skip) (sequence ran (answer (behind n Ps Os 1))))
      (chosen-reads (event_beside_of n Ps Os (local 2)) (restart_lines n Ps Os B k (answer (behind n Ps Os 1))) skip (restart-reads B k (answer (behind n Ps Os 1)) refl) refl)
      (then-reads (branch taken_of gone skip) (sequence ran (answer (behind n Ps Os 1))) (chosen-reads taken_of gone skip (leave-reads B k) refl)
      (then-reads ran (answer (behind n Ps Os 1)) (front-reads B j (behind n Ps Os 0)) refl))
  lines-read delayed B j k =
      let gone : Command = sequence (taker_call n Ps Os B k (local 1) (behind n Ps Os 0)) (late_lines n Ps Os B k) in
      let ran : Command = part_call n Ps Os B j front_of (behind n Ps Os 0) in
      then-reads (branch taken_of gone skip) (sequence ran (late_lines n Ps Os B k))
      (chosen-reads taken_of gone skip (then-reads (taker_call n Ps Os B k (local 1) (behind n Ps Os 0)) (late_lines n Ps Os B k) (taker-reads B k (local 1) (behind n Ps Os 0)) (late-reads B k)) refl)
      (then-reads ran (late_lines n Ps Os B k) (front-reads B j (behind n Ps Os 0)) (late-reads B k))

  lines-refer-none : (tm : Timing) (B : TypeTree) (j k : ℕ) → referred (r_switch_lines n Ps Os tm B j k) ≡ []
  lines-refer-none at_once B j k = refl
  lines-refer-none delayed B j k = refl

  steady-lines : (tm : Timing) (A B : TypeTree) (j k : ℕ) → steady (sequence (at_first (assign taken_of (boolean false))) (sequence (part_command n A (dot (local 2) 0)) (r_switch_lines n Ps Os tm B j k))) ≡ true
  steady-lines tm A B j k = by-struct (is_struct A)
    where
      by-struct : (b : Bool) → steady (sequence (at_first (assign taken_of (boolean false))) (sequence (if b then refer (c_type n A) (dot (local 2) 0) else define (c_type n A) (dot (local 2) 0)) (r_switch_lines n Ps Os tm B j k))) ≡ true
      by-struct true = ap (λ ks. none_shared (2 ∷ ks) (0 ∷ written (r_switch_lines n Ps Os tm B j k))) (lines-refer-none tm B j k) ∙ yes-and (lines-read tm B j k) refl
      by-struct false = ap (λ ks. none_shared ks (0 ∷ written (r_switch_lines n Ps Os tm B j k))) (lines-refer-none tm B j k)

  pub r_switch_law : RSwitchLaw n Ps Os F
  r_switch_law tm S T A B V j k f t hf ht g qs h start s x o i w (at_start e) (c_pair {v = u} {w = ev} {o = y0} {p = z} ru re) =
      let q = front-of truth_type (member (c_type n V) (two_types (shape_type n S) (shape_type n T))) o e in
      let q2 = front-of (c_type n V) (two_types (shape_type n S) (shape_type n T)) q.b q.has_b in
      let q3 = halves (shape_type n S) (shape_type n T) q2.b q2.has_b in
      let o0 : Object = more q.a (more q2.a (two q3.a q3.b)) in
      let is0 : o ≡ more q.a (more q2.a (two q3.a q3.b)) = q.is ∙ ap (more q.a) (q2.is ∙ ap (more q2.a) q3.is) in
      let d : Object = number i64 (pos 0) in
      let inp : Object = two y0 z in
      let t0 : has_type (shape_type n (keeps_mode V S T)) o0 ≡ true = yes-and q.has_a (yes-and q2.has_a (yes-and q3.has_a (yes-and q3.has_b refl))) in
      let o1 : Object = mode-object false q2.a q3.a q3.b in
      let t1 = mode-has n Ps Os F S T A B V k t ht g qs h false q2.a q3.a q3.b q2.has_a q3.has_a q3.has_b in
      let set = mode-line n Ps Os F S T A B V k t ht g qs h 0 (boolean false) o0 o1 d inp [] (truth false) refl refl refl t0 t1 in
      let clear = yes-line n Ps Os F g qs h (assign taken_of (boolean false)) skip is_first o0 d inp [] [] o1 None refl set in
      let def = refer-line n Ps Os F g qs h A (dot (local 2) 0) o1 d inp [] refl ru in
      let b = front n Ps Os F S T A B V k t ht g qs h j f hf tm start (front_part s) (taker_part s) q2.a q3.a q3.b w q2.has_a (at_start q3.has_a) q3.has_b ru re in
      let same = starting n Ps Os F S T A B V k t ht g qs h j f hf tm s u (event_in ev) ∙ ap (r_switch_in tm (f g) (λ c. t (given_value g c)) s (start, u)) (sym (is-beside n Ps Os F S T A B V k t ht g qs h j f hf u ev)) in
      record {
        state = b.state;
        answer = b.answer_is;
        result = ap (λ p. function_run F (r_switch_function n Ps Os tm S T A B V j k) (p ∷ d ∷ inp ∷ qs)) is0
            ∙ whole-function n Ps Os F g qs h (keeps_mode V S T) (pair_ty A (event_ty V)) B _ start o0 inp b.state b.answer_is b.rest (steady-lines tm A B j k) w t0 (c_pair ru re) (then-run F clear (then-run F def b.runs)) b.represents;
        keeps = subst (λ r. Keeps n (keeps_mode V S T) r.0 b.state) same b.keeps;
        represents = subst (λ r. Represents n B r.1 b.answer_is) same b.represents;
      }
  r_switch_law tm S T A B V j k f t hf ht g qs h (step e) s x o i w (at_step (front_kept {a = a0} {b = b0} {v = v} {o = a} {p = p} hv ka hp)) (c_pair {v = u} {w = ev} {o = y0} {p = z} ru re) =
      let o0 : Object = mode-object false v a p in
      let d : Object = number i64 (pos e) in
      let inp : Object = two y0 z in
      let def = refer-line n Ps Os F g qs h A (dot (local 2) 0) o0 d inp [] refl ru in
      let b = front n Ps Os F S T A B V k t ht g qs h j f hf tm (step e) a0 b0 v a p w hv (at_step ka) hp ru re in
      let same = later n Ps Os F S T A B V k t ht g qs h j f hf tm e None a0 b0 u (event_in ev) ∙ ap (r_switch_in tm (f g) (λ c. t (given_value g c)) (mode None a0 b0) (step e, u)) (sym (is-beside n Ps Os F S T A B V k t ht g qs h j f hf u ev)) in
      record {
        state = b.state;
        answer = b.answer_is;
        result = whole-function n Ps Os F g qs h (keeps_mode V S T) (pair_ty A (event_ty V)) B _ (step e) o0 inp b.state b.answer_is b.rest (steady-lines tm A B j k) w (mode-has n Ps Os F S T A B V k t ht g qs h false v a p hv (keeps-type n ka) hp) (c_pair ru re)
            (then-run F (goes-past n Ps Os F S T A B V k t ht g qs h (assign taken_of (boolean false)) o0 inp e w.0) (then-run F def b.runs)) b.represents;
        keeps = subst (λ r. Keeps n (keeps_mode V S T) r.0 b.state) same b.keeps;
        represents = subst (λ r. Represents n B r.1 b.answer_is) same b.represents;
      }
  r_switch_law tm S T A B V j k f t hf ht g qs h (step e) s x o i w (at_step (taker_kept {c = c} {a = a0} {b = b0} {v = v} {o = a} {p = p} rv ha kp)) (c_pair {v = u} {w = ev} {o = y0} {p = z} ru re) =
      let o0 : Object = mode-object true v a p in
      let d : Object = number i64 (pos e) in
      let inp : Object = two y0 z in
      let def = refer-line n Ps Os F g qs h A (dot (local 2) 0) o0 d inp [] refl ru in
      let b = over n Ps Os F S T A B V k t ht g qs h j f hf tm e a0 b0 v a p w rv ha kp ru re in
      let same = later n Ps Os F S T A B V k t ht g qs h j f hf tm e (Some c) a0 b0 u (event_in ev) ∙ ap (r_switch_in tm (f g) (λ c. t (given_value g c)) (mode (Some c) a0 b0) (step e, u)) (sym (is-beside n Ps Os F S T A B V k t ht g qs h j f hf u ev)) in
      record {
        state = b.state;
        answer = b.answer_is;
        result = whole-function n Ps Os F g qs h (keeps_mode V S T) (pair_ty A (event_ty V)) B _ (step e) o0 inp b.state b.answer_is b.rest (steady-lines tm A B j k) w (mode-has n Ps Os F S T A B V k t ht g qs h true v a p (has n rv) ha (keeps-type n kp)) (c_pair ru re)
            (then-run F (goes-past n Ps Os F S T A B V k t ht g qs h (assign taken_of (boolean false)) o0 inp e w.0) (then-run F def b.runs)) b.represents;
        keeps = subst (λ r. Keeps n (keeps_mode V S T) r.0 b.state) same b.keeps;
        represents = subst (λ r. Represents n B r.1 b.answer_is) same b.represents;
      }
