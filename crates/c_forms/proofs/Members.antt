-- The C function of `parB` does its step.
use Rattle.std.proofs.Common.{◌≡◌, ◌<◌, ◌+◌, ◌-◌, ◌^◌, ℕ, zero, suc, pos, true, List, [], ◌∷◌, ◌++◌, map, length, Option, Some, refl, subst, sym, ap, ap₂, ◌∙◌, arith, append_assoc, append-nil}
use Rattle.std.specs.Prelude.{slice_get}
use Rattle.sample_core.specs.Datum.{Datum, list, list_of}
use Rattle.sample_core.specs.TypeTree.{TypeTree, list_ty}
use Rattle.sample_core.proofs.Elements.{elements_of_list}
use Rattle.leaf_code.specs.Fitting.{Bounds}
use Rattle.net_machine.specs.Store.{Moment, start, step, Store, one, other}
use Rattle.net_machine.specs.Stepper.{Stepper, each_step}
use Rattle.net_code.specs.Running.{Given}
use Rattle.c_meaning.specs.Object.{CType, u32, Object, number, more, has_type, each_has, in_range, zeros, repeated, part_of, with_part, in_front}
use Rattle.c_meaning.specs.Syntax.{local, literal, Command, sequence}
use Rattle.c_meaning.specs.Meaning.{Frame, Linked, bind, eval, is_set, write, referred, none_shared, written}
use Rattle.c_meaning.proofs.Wrapping.{check-yes}
use Rattle.c_meaning.proofs.Alike.{yes-and}
use Rattle.c_meaning.proofs.Runs.{Runs, then-run}
use Rattle.c_leaf.specs.Representing.{two, c_type, Represents, c_list, AllRepresent, c_end, c_more}
use Rattle.c_leaf.specs.LeafC.{pair_of}
use Rattle.c_leaf.proofs.Values.{has, zeros-represent, repeated-has}
use Rattle.c_leaf.proofs.Same.{set-object, elements-set, pair-is}
use Rattle.c_forms.specs.Keeping.{Shape, keeps_none, and_member, shape_type, Keeps, nothing_kept, member_kept, KeepsAt, at_start, at_step, dt_of, dt_object, MomentFits}
use Rattle.c_forms.specs.Standing.{InScope, behind, part_call}
use Rattle.c_forms.specs.Cells.{kept_at}
use Rattle.c_forms.specs.Members.{members_shape, MembersRight, no_members, one_member, member_calls, answers_term, list_lines, ParLaw}
use Rattle.c_forms.proofs.Reading.{local-at, longer}
use Rattle.c_forms.proofs.Lines.{keeps-type, at-type, front-of, nothing-there, at, register-is, define-line, answer-line, write-state, part-line, whole-function}
use Rattle.c_forms.proofs.Forms.{part-within}

-- objects in front of others
abbrev pub stack : List Object → Object → Object
stack [] o = o
stack (p ∷ ps) o = more p (stack ps o)

pub stack-part : (ps : List Object) (a b : Object) → part_of (stack ps (more a b)) (length ps) ≡ Some a
stack-part [] a b = refl
stack-part (p ∷ ps) a b = stack-part ps a b

pub stack-with : (ps : List Object) (a b v : Object) → with_part (stack ps (more a b)) (length ps) v ≡ Some (stack ps (more v b))
stack-with [] a b v = refl
stack-with (p ∷ ps) a b v = ap (in_front p) (stack-with ps a b v)

pub stack-append : (ps : List Object) (v o : Object) → stack (ps ++ v ∷ []) o ≡ stack ps (more v o)
stack-append [] v o = refl
stack-append (p ∷ ps) v o = ap (more p) (stack-append ps v o)

-- answers, one by one
data Answered (n : TypeTree → ℕ) (B : TypeTree) : List Datum → List Object → Type 0 where
  none_answered : Answered n B [] []
  one_answered : {v : Datum} {vs : List Datum} {o : Object} {os : List Object} → Represents n B v o → Answered n B vs os → Answered n B (v ∷ vs) (o ∷ os)

answered-length : (n : Bounds) {B : TypeTree} {vs : List Datum} {os : List Object} → Answered n B vs os → length os ≡ length vs
answered-length n none_answered = refl
answered-length n (one_answered r h) = ap suc (answered-length n h)

-- a member, and those behind it
pub record Split (n : TypeTree → ℕ) (m : Moment) (S T : Shape) (s : Store) (o : Object) : Type 0 where
  pub a : Object
  pub b : Object
  pub is : o ≡ more a b
  pub keeps_a : KeepsAt n m S (one s) a
  pub keeps_b : KeepsAt n m T (other s) b

pub split-member : (n : Bounds) (m : Moment) (S T : Shape) (s : Store) (o : Object) → KeepsAt n m (and_member S T) s o → Split n m S T s o
split-member n start S T s o (at_start e) =
    let f = front-of (shape_type n S) (shape_type n T) o e in
    record { a = f.a; b = f.b; is = f.is; keeps_a = at_start f.has_a; keeps_b = at_start f.has_b }
split-member n (step d) S T s o (at_step (member_kept {o = a} {p = b} x y)) = record { a = a; b = b; is = refl; keeps_a = at_step x; keeps_b = at_step y }

module _ (n : Bounds) (Ps : List TypeTree) (Os : List Shape) (F : ℕ → Linked) (A B : TypeTree) (g : Given) (qs : List Object) (h : InScope n Ps Os g qs) where
  abbrev spot : Object → Object → Object → List Object → Frame
  spot o d i rs = at n Ps Os F g qs h o d i rs

  -- members have answered
  record Ran (m : Moment) (Ss : List Shape) (js : List ℕ) (c0 : ℕ) (pre : List Object) (o i : Object) (rs : List Object) (r : Store × List Datum) : Type 0 where
    state : Object
    answers : List Object
    keeps : Keeps n (members_shape Ss) r.0 state
    answered : Answered n B r.1 answers
    runs : (c : Command) (f : Frame × Option Object) → Runs F c (spot (stack pre state) (dt_object m) i (rs ++ answers)) f → Runs F (member_calls n Ps Os B c0 js c) (spot (stack pre o) (dt_object m) i rs) f

  members-run : (N : CType) (m : Moment) (x : Datum) (i : Object) → MomentFits m → Represents n A x i → {js : List ℕ} {Ss : List Shape} {fs : List (Given → Stepper)} → MembersRight n Ps Os F A B js Ss fs
      → (c0 : ℕ) (pre : List Object) (s : Store) (o : Object) (rs : List Object) → c0 ≡ length pre
      → ((p : Object) → has_type (shape_type n (members_shape Ss)) p ≡ true → has_type N (stack pre p) ≡ true) → KeepsAt n m (members_shape Ss) s o
      → Ran m Ss js c0 pre o i rs (each_step (map (λ f. f g) fs) s (m, x))
  members-run N m x i w rx no_members c0 pre s o rs e fit k = record {
    state = o;
    answers = [];
    keeps = subst (Keeps n keeps_none s) (sym (nothing-there o (at-type n k))) nothing_kept;
    answered = none_answered;
    runs = λ c f r. subst (λ us. Runs F c (spot (stack pre o) (dt_object m) i us) f) (append-nil rs) r;
  }
  members-run N m x i w rx (one_member {j = j} {js = js} {S = S} {Ss = Ss} {f = f} {fs = fs} hf hs) c0 pre s o rs e fit k =
      let q = split-member n m S (members_shape Ss) s o k in
      let d : Object = dt_object m in
      let u = hf g qs h m (one s) x q.a i w q.keeps_a rx in
      let tu = keeps-type n u.keeps in
      let tb = at-type n q.keeps_b in
      let o0 : Object = stack pre (more q.a q.b) in
      let o1 : Object = stack pre (more u.state q.b) in
      let t0 : has_type N o0 ≡ true = fit (more q.a q.b) (yes-and (at-type n q.keeps_a) tb) in
      let t1 : has_type N o1 ≡ true = fit (more u.state q.b) (yes-and tu tb) in
      let line = part-line n Ps Os F g qs h B j (kept_at c0) (local 2) (dt_of m) o0 i rs q.a i u.state o1 u.answer (part-within n Ps Os F c0) refl (ap (part_of o0) e ∙ stack-part pre q.a q.b) refl u.result
      (ap (λ z. bind (with_part o0 z u.state) (write (spot o0 d i rs) (local 0))) e ∙ ap (λ E. bind E (write (spot o0 d i rs) (local 0))) (stack-with pre q.a q.b u.state) ∙ write-state n Ps Os F g qs h N o0 o1 d i rs t0 t1) u.represents in
      let r = members-run N m x i w rx hs (suc c0) (pre ++ u.state ∷ []) (other s) q.b (rs ++ u.answer ∷ []) (longer pre u.state c0 e)
      (λ p t. ap (has_type N) (stack-append pre u.state p) ∙ fit (more u.state p) (yes-and tu t)) q.keeps_b in
      record {
        state = more u.state r.state;
        answers = u.answer ∷ r.answers;
        keeps = member_kept u.keeps r.keeps;
        answered = one_answered u.represents r.answered;
        runs = λ c f v. subst (λ z. Runs F (sequence (part_call n Ps Os B j (kept_at c0) (local 2)) (member_calls n Ps Os B (suc c0) js c)) (spot (stack pre z) d i rs) f) (sym q.is)
            (then-run F line
            (subst (λ z. Runs F (member_calls n Ps Os B (suc c0) js c) (spot z d i (rs ++ u.answer ∷ [])) f) (stack-append pre u.state q.b)
            (r.runs c f
            (subst (λ us. Runs F c (spot (stack (pre ++ u.state ∷ []) r.state) d i us) f) (sym (append_assoc rs (u.answer ∷ []) r.answers))
            (subst (λ z. Runs F c (spot z d i (rs ++ (u.answer ∷ r.answers))) f) (sym (stack-append pre u.state r.state)) v)))));
      }

  abbrev in-front-results : Option Object → Option Object → Option Object
  in-front-results A B = bind A (λ o. bind B (λ os. Some (more o os)))

  -- the list of the answers
  record Listed (o d i : Object) (rs : List Object) (c m l : ℕ) (vs : List Datum) (k : ℕ) : Type 0 where
    object : Object
    is : eval (spot o d i rs) (answers_term n Ps Os B c m l) ≡ Some object
    represents : AllRepresent n B k (list_of vs) object

  listed : (o d i : Object) {vs : List Datum} {os : List Object} → Answered n B vs os → (front : List Object) (c m l k : ℕ) → c ≡ length front → m ≡ length os → k ≡ m + l → Listed o d i (front ++ os) c m l vs k
  listed o d i none_answered front c zero l k ec em ek = record {
    object = repeated l (zeros (c_type n B));
    is = refl;
    represents = c_end (subst (λ z. each_has (has_type (c_type n B)) z (repeated l (zeros (c_type n B))) ≡ true) (sym (ek ∙ plain l)) (repeated-has _ l _ (has n (zeros-represent n B))));
  }
    where
      plain : (l : ℕ) → 0 + l ≡ l
      plain l = omega arith
  listed o d i none_answered front c (suc m) l k ec em ek = absurd (omega arith)
  listed o d i (one_answered r hs) front c zero l k ec em ek = absurd (omega arith)
  listed o d i (one_answered r hs) front c (suc m) l zero ec em ek = absurd (omega arith)
  listed o d i (one_answered {o = y} {os = os} r hs) front c (suc m) l (suc k) ec em ek =
      let z = listed o d i hs (front ++ y ∷ []) (suc c) m l k (longer front y c ec) (omega arith) (omega arith) in
      let same : (front ++ y ∷ []) ++ os ≡ front ++ (y ∷ os) = append_assoc front (y ∷ []) os in
      record {
        object = more y z.object;
        is = ap₂ in-front-results (ap (λ E. bind E is_set) (register-is n Ps Os F g qs h o d i (front ++ (y ∷ os)) c y (ap (slice_get (front ++ (y ∷ os))) ec ∙ local-at front os y)) ∙ set-object n r)
            (subst (λ us. eval (spot o d i us) (answers_term n Ps Os B (suc c) m l) ≡ Some z.object) same z.is);
        represents = c_more r z.represents;
      }

module _ (n : Bounds) (Ps : List TypeTree) (Os : List Shape) (F : ℕ → Linked) where
  refers-none : (B : TypeTree) (c : ℕ) (js : List ℕ) (m : ℕ) → referred (member_calls n Ps Os B c js (list_lines n Ps Os B m)) ≡ []
  refers-none B c [] m = refl
  refers-none B c (j ∷ js) m = refers-none B (suc c) js m

  members-length : {A B : TypeTree} {js : List ℕ} {Ss : List Shape} {fs : List (Given → Stepper)} → MembersRight n Ps Os F A B js Ss fs → (g : Given) (s : Store) (m : Moment) (x : Datum) → length (each_step (map (λ f. f g) fs) s (m, x)).1 ≡ length js
  members-length no_members g s m x = refl
  members-length (one_member hf hs) g s m x = ap suc (members-length hs g (other s) m x)

  pub par_law : ParLaw n Ps Os F
  par_law Ss A B js fs few small hs g qs h m s x o i w k r =
      let d : Object = dt_object m in
      let e = members-run n Ps Os F A B g qs h (shape_type n (members_shape Ss)) m x i w r hs 0 [] s o [] refl (λ p t. t) k in
      let vs : List Datum = (each_step (map (λ f. f g) fs) s (m, x)).1 in
      let lv : length (each_step (map (λ f. f g) fs) s (m, x)).1 ≡ length js = members-length hs g s m x in
      let lo : length e.answers ≡ length js = answered-length n e.answered ∙ lv in
      let z = listed n Ps Os F A B g qs h e.state d i e.answered [] 0 (length js) (n B - length js) (n B) refl (sym lo) (omega arith) in
      let y : Object = two (number u32 (pos (length js))) z.object in
      let ry : Represents n (list_ty B) (list (list_of (each_step (map (λ f. f g) fs) s (m, x)).1)) y = c_list (sym (ap length (elements_of_list (each_step (map (λ f. f g) fs) s (m, x)).1) ∙ lv)) (omega arith) z.represents in
      let def = define-line n Ps Os F g qs h (list_ty B) (pair_of (literal u32 (pos (length js))) (answers_term n Ps Os B 0 (length js) (n B - length js))) e.state d i e.answers
      (pair-is (at n Ps Os F g qs h e.state d i e.answers) (literal u32 (pos (length js))) (answers_term n Ps Os B 0 (length js) (n B - length js))
      (check-yes u32 (pos (length js)) (count-range (length js) (omega arith))) z.is refl (elements-set n z.represents)) ry in
      let back = answer-line n Ps Os F g qs h (behind n Ps Os (length js)) e.state d i (e.answers ++ y ∷ [])
      (register-is n Ps Os F g qs h e.state d i (e.answers ++ y ∷ []) (length js) y (ap (slice_get (e.answers ++ y ∷ [])) (sym lo) ∙ local-at e.answers [] y)) ry in
      record {
        state = e.state;
        answer = y;
        result = whole-function n Ps Os F g qs h (members_shape Ss) A (list_ty B) (member_calls n Ps Os B 0 js (list_lines n Ps Os B (length js))) m o i e.state y (e.answers ++ y ∷ [])
            (ap (λ ks. none_shared ks (written (member_calls n Ps Os B 0 js (list_lines n Ps Os B (length js))))) (refers-none B 0 js (length js))) w (at-type n k) r
            (e.runs (list_lines n Ps Os B (length js)) (at n Ps Os F g qs h e.state d i (e.answers ++ y ∷ []), Some y) (then-run F def back)) ry;
        keeps = e.keeps;
        represents = ry;
      }
    where
      count-range : (k : ℕ) → k < 2 ^ 32 → in_range u32 (pos k) ≡ true
      count-range k l = grind arith
