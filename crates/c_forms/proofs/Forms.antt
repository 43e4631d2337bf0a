-- The C functions of forms do the forms' steps.
use Rattle.std.proofs.Common.{◌≡◌, ℕ, true, List, [], ◌∷◌, Some, refl, subst, sym, ap, ◌∙◌, arith}
use Rattle.sample_core.specs.Datum.{Datum, pair, left, right}
use Rattle.sample_core.specs.TypeTree.{TypeTree, pair_ty}
use Rattle.leaf_code.specs.Fitting.{Bounds}
use Rattle.net_machine.specs.Store.{Moment, start, step, Store, one, other, fed_back, fed_value, looped}
use Rattle.net_machine.specs.Stepper.{initial_out_step, initial_in_step}
use Rattle.net_code.specs.Running.{first_or}
use Rattle.c_meaning.specs.Object.{CType, Object, has_type}
use Rattle.c_meaning.specs.Syntax.{local, dot, choice}
use Rattle.c_meaning.specs.Meaning.{Linked, eval, basic_in, path, apart, function_run}
use Rattle.c_meaning.proofs.Alike.{yes-and, alike}
use Rattle.c_meaning.proofs.Choices.{choice-like}
use Rattle.c_meaning.proofs.Runs.{then-run, assigns}
use Rattle.c_leaf.specs.Representing.{two, two_types, c_type, Represents, c_pair}
use Rattle.c_leaf.specs.LeafC.{pair_of}
use Rattle.c_leaf.proofs.Values.{has}
use Rattle.c_leaf.proofs.Same.{set-object, pair-is, first-of, second-of}
use Rattle.c_leaf.proofs.Operations.{left-part, right-part}
use Rattle.c_forms.specs.Keeping.{Shape, keeps_none, keeps_both, keeps_fed, shape_type, Keeps, nothing_kept, both_kept, fed_kept, KeepsAt, at_start, at_step, dt_of, dt_object, MomentFits}
use Rattle.c_forms.specs.Standing.{is_first, behind}
use Rattle.c_forms.specs.Forms.{seq_function, loop_function, ArrLaw, SameStepLaw, SeqLaw, FirstLaw, LoopLaw, OutLaw, InLaw}
use Rattle.c_forms.proofs.Reading.{Within, away-from}
use Rattle.c_forms.proofs.Lines.{keeps-type, at-type, halves, nothing-there, at, register-is, define-line, answer-line, write-state, constant-line, leaf-line, part-line, first-or, whole-function}

module _ (n : Bounds) where
  -- a function that keeps nothing
  kept-nothing : (m : Moment) (s t : Store) (o : Object) → KeepsAt n m keeps_none s o → Keeps n keeps_none t o
  kept-nothing m s t o k = subst (Keeps n keeps_none t) (sym (nothing-there o (at-type n k))) nothing_kept

  record SplitBoth (m : Moment) (S T : Shape) (s : Store) (o : Object) : Type 0 where
    a : Object
    b : Object
    is : o ≡ two a b
    keeps_a : KeepsAt n m S (one s) a
    keeps_b : KeepsAt n m T (other s) b

  split-both : (m : Moment) (S T : Shape) (s : Store) (o : Object) → KeepsAt n m (keeps_both S T) s o → SplitBoth m S T s o
  split-both start S T s o (at_start e) =
      let h = halves (shape_type n S) (shape_type n T) o e in
      record { a = h.a; b = h.b; is = h.is; keeps_a = at_start h.has_a; keeps_b = at_start h.has_b }
  split-both (step d) S T s o (at_step (both_kept {o = a} {p = b} h k)) = record { a = a; b = b; is = refl; keeps_a = at_step h; keeps_b = at_step k }

  -- what was fed back, which is not looked at at the first sample
  pub record SplitFed (m : Moment) (V : TypeTree) (S : Shape) (s : Store) (o : Object) : Type 0 where
    a : Object
    b : Object
    is : o ≡ two a b
    has_a : has_type (c_type n V) a ≡ true
    keeps_b : KeepsAt n m S (looped s) b
    later : (d : ℕ) → m ≡ step d → Represents n V (fed_value s) a

  never : {d : ℕ} {P : Type 0} → start ≡ step d → P
  never e = absurd (grind arith)

  split-fed : (m : Moment) (V : TypeTree) (S : Shape) (s : Store) (o : Object) → KeepsAt n m (keeps_fed V S) s o → SplitFed m V S s o
  split-fed start V S s o (at_start e) =
      let h = halves (c_type n V) (shape_type n S) o e in
      record { a = h.a; b = h.b; is = h.is; has_a = h.has_a; keeps_b = at_start h.has_b; later = λ d e. never e }
  split-fed (step d) V S s o (at_step (fed_kept {o = a} {p = b} h k)) = record { a = a; b = b; is = refl; has_a = has n h; keeps_b = at_step k; later = λ d e. h }

module _ (n : Bounds) (Ps : List TypeTree) (Os : List Shape) (F : ℕ → Linked) where
  pub arr_law : ArrLaw n Ps Os F
  arr_law A B j v f g qs h m s x o i w k r =
      let d : Object = dt_object m in
      let a = leaf-line n Ps Os F g qs h A B j v (local 2) o d i [] f refl refl r in
      record {
        state = o;
        answer = a.0;
        result = whole-function n Ps Os F g qs h keeps_none A B _ m o i o a.0 (a.0 ∷ []) refl w (at-type n k) r
            (then-run F a.1 (answer-line n Ps Os F g qs h (behind n Ps Os 0) o d i (a.0 ∷ []) (register-is n Ps Os F g qs h o d i (a.0 ∷ []) 0 a.0 refl) a.2)) a.2;
        keeps = kept-nothing n m s s o k;
        represents = a.2;
      }

  pub same_step_law : SameStepLaw n Ps Os F
  same_step_law A g qs h m s x o i w k r =
      record {
        state = o;
        answer = i;
        result = whole-function n Ps Os F g qs h keeps_none A A _ m o i o i [] refl w (at-type n k) r (answer-line n Ps Os F g qs h (local 2) o (dt_object m) i [] refl r) r;
        keeps = kept-nothing n m s s o k;
        represents = r;
      }

  -- local 0 and its members are written
  whole : Within (local 0)
  whole = record { ks = []; is = refl }

  pub part-within : (k : ℕ) → Within (dot (local 0) k)
  part-within k = record { ks = k ∷ []; is = refl }

  -- register k is apart from them
  pub beside-whole : (k : ℕ) → apart (path (local 0)) (path (behind n Ps Os k)) ≡ true
  beside-whole k = away-from (local 0) whole _ (omega arith)

  pub beside-member : (j k : ℕ) → apart (path (dot (local 0) j)) (path (behind n Ps Os k)) ≡ true
  beside-member j k = away-from (dot (local 0) j) (part-within j) _ (omega arith)

  pub seq_law : SeqLaw n Ps Os F
  seq_law S T A B D j k f e hf he g qs h m s x o i w kept r =
      let q = split-both n m S T s o kept in
      let u = hf g qs h m (one s) x q.a i w q.keeps_a r in
      let v = he g qs h m (other s) (f g (one s) (m, x)).1 q.b u.answer w q.keeps_b u.represents in
      let d : Object = dt_object m in
      let N : CType = two_types (shape_type n S) (shape_type n T) in
      let o0 : Object = two q.a q.b in
      let o1 : Object = two u.state q.b in
      let o2 : Object = two u.state v.state in
      let t0 : has_type N o0 ≡ true = yes-and (at-type n q.keeps_a) (yes-and (at-type n q.keeps_b) refl) in
      let t1 : has_type N o1 ≡ true = yes-and (keeps-type n u.keeps) (yes-and (at-type n q.keeps_b) refl) in
      let t2 : has_type N o2 ≡ true = yes-and (keeps-type n u.keeps) (yes-and (keeps-type n v.keeps) refl) in
      let one-line = part-line n Ps Os F g qs h B j (dot (local 0) 0) (local 2) (dt_of m) o0 i [] q.a i u.state o1 u.answer (part-within 0) refl refl refl u.result
      (write-state n Ps Os F g qs h N o0 o1 d i [] t0 t1) u.represents in
      let two-line = part-line n Ps Os F g qs h D k (dot (local 0) 1) (behind n Ps Os 0) (dt_of m) o1 i (u.answer ∷ []) q.b u.answer v.state o2 v.answer (part-within 1) (beside-member 1 0) refl
      (register-is n Ps Os F g qs h o1 d i (u.answer ∷ []) 0 u.answer refl) v.result (write-state n Ps Os F g qs h N o1 o2 d i (u.answer ∷ []) t1 t2) v.represents in
      let rs : List Object = u.answer ∷ v.answer ∷ [] in
      let three-line = answer-line n Ps Os F g qs h (behind n Ps Os 1) o2 d i rs (register-is n Ps Os F g qs h o2 d i rs 1 v.answer refl) v.represents in
      record {
        state = o2;
        answer = v.answer;
        result = ap (λ p. function_run F (seq_function n Ps Os S T A B D j k) (p ∷ d ∷ i ∷ qs)) q.is
            ∙ whole-function n Ps Os F g qs h (keeps_both S T) A D _ m o0 i o2 v.answer rs refl w t0 r (then-run F one-line (then-run F two-line three-line)) v.represents;
        keeps = both_kept u.keeps v.keeps;
        represents = v.represents;
      }

  pub first_law : FirstLaw n Ps Os F
  first_law S A B D j f hf g qs h m s x o i w kept r =
      let d : Object = dt_object m in
      let a = left-part n r in
      let b = right-part n r in
      let u = hf g qs h m s (left x) o a.object w kept a.represents in
      let to = at-type n kept in
      let tu = keeps-type n u.keeps in
      let y : Represents n (pair_ty B D) (pair (f g s (m, left x)).1 (right x)) (two u.answer b.object) = c_pair u.represents b.represents in
      let one-line = part-line n Ps Os F g qs h B j (local 0) (dot (local 2) 0) (dt_of m) o i [] o a.object u.state u.state u.answer whole refl refl
      a.at u.result (write-state n Ps Os F g qs h (shape_type n S) o u.state d i [] to tu) u.represents in
      let rs : List Object = u.answer ∷ [] in
      let two-line = define-line n Ps Os F g qs h (pair_ty B D) (pair_of (behind n Ps Os 0) (dot (local 2) 1)) u.state d i rs
      (pair-is (at n Ps Os F g qs h u.state d i rs) (behind n Ps Os 0) (dot (local 2) 1) (register-is n Ps Os F g qs h u.state d i rs 0 u.answer refl) b.at (set-object n u.represents) (set-object n b.represents)) y in
      let all : List Object = u.answer ∷ two u.answer b.object ∷ [] in
      let three-line = answer-line n Ps Os F g qs h (behind n Ps Os 1) u.state d i all (register-is n Ps Os F g qs h u.state d i all 1 (two u.answer b.object) refl) y in
      record {
        state = u.state;
        answer = two u.answer b.object;
        result = whole-function n Ps Os F g qs h S (pair_ty A D) (pair_ty B D) _ m o i u.state (two u.answer b.object) all refl w to r
            (then-run F one-line (then-run F two-line three-line)) y;
        keeps = u.keeps;
        represents = y;
      }

  pub out_law : OutLaw n Ps Os F
  out_law S A B c j v f hc hf g qs h m s x o i w kept r =
      let d : Object = dt_object m in
      let a = constant-line n Ps Os F g qs h B c v o d i [] hc in
      let u = hf g qs h m s x o i w kept r in
      let to = at-type n kept in
      let tu = keeps-type n u.keeps in
      let two-line = part-line n Ps Os F g qs h B j (local 0) (local 2) (dt_of m) o i (a.0 ∷ []) o i u.state u.state u.answer whole refl refl refl u.result
      (write-state n Ps Os F g qs h (shape_type n S) o u.state d i (a.0 ∷ []) to tu) u.represents in
      let rs : List Object = a.0 ∷ u.answer ∷ [] in
      let z = first-or n Ps Os F g qs h m (behind n Ps Os 0) (behind n Ps Os 1) u.state i rs w (register-is n Ps Os F g qs h u.state d i rs 0 a.0 refl)
      (register-is n Ps Os F g qs h u.state d i rs 1 u.answer refl) (ap basic_in (register-is n Ps Os F g qs h u.state d i rs 0 a.0 refl)) (ap basic_in (register-is n Ps Os F g qs h u.state d i rs 1 u.answer refl)) a.2 u.represents in
      let three-line = answer-line n Ps Os F g qs h (choice is_first (behind n Ps Os 0) (behind n Ps Os 1)) u.state d i rs z.1 z.2 in
      let e = by-moment m s x in
      record {
        state = u.state;
        answer = z.0;
        result = whole-function n Ps Os F g qs h S A B _ m o i u.state z.0 rs refl w to r (then-run F a.1 (then-run F two-line three-line)) z.2;
        keeps = subst (λ t. Keeps n S t.0 u.state) e u.keeps;
        represents = subst (λ t. Represents n B t z.0) (by-answer m s x) z.2;
      }
    where
      by-moment : (m : Moment) (s : Store) (x : Datum) → f g s (m, x) ≡ ((initial_out_step (v g.params) (f g) s (m, x)).0, (f g s (m, x)).1)
      by-moment start s x = refl
      by-moment (step d) s x = refl

      by-answer : (m : Moment) (s : Store) (x : Datum) → first_or m (v g.params) (f g s (m, x)).1 ≡ (initial_out_step (v g.params) (f g) s (m, x)).1
      by-answer start s x = refl
      by-answer (step d) s x = refl

  pub in_law : InLaw n Ps Os F
  in_law S A B c j v f hc hf g qs h m s x o i w kept r =
      let d : Object = dt_object m in
      let a = constant-line n Ps Os F g qs h A c v o d i [] hc in
      let z = first-or n Ps Os F g qs h m (behind n Ps Os 0) (local 2) o i (a.0 ∷ []) w (register-is n Ps Os F g qs h o d i (a.0 ∷ []) 0 a.0 refl) refl (ap basic_in (register-is n Ps Os F g qs h o d i (a.0 ∷ []) 0 a.0 refl)) refl a.2 r in
      let u = hf g qs h m s (first_or m (v g.params) x) o z.0 w kept z.2 in
      let to = at-type n kept in
      let tu = keeps-type n u.keeps in
      let two-line = define-line n Ps Os F g qs h A (choice is_first (behind n Ps Os 0) (local 2)) o d i (a.0 ∷ []) z.1 z.2 in
      let rs : List Object = a.0 ∷ z.0 ∷ [] in
      let three-line = part-line n Ps Os F g qs h B j (local 0) (behind n Ps Os 1) (dt_of m) o i rs o z.0 u.state u.state u.answer whole (beside-whole 1) refl
      (register-is n Ps Os F g qs h o d i rs 1 z.0 refl) u.result (write-state n Ps Os F g qs h (shape_type n S) o u.state d i rs to tu) u.represents in
      let all : List Object = a.0 ∷ z.0 ∷ u.answer ∷ [] in
      let four-line = answer-line n Ps Os F g qs h (behind n Ps Os 2) u.state d i all (register-is n Ps Os F g qs h u.state d i all 2 u.answer refl) u.represents in
      let e = by-moment m s x in
      record {
        state = u.state;
        answer = u.answer;
        result = whole-function n Ps Os F g qs h S A B _ m o i u.state u.answer all refl w to r (then-run F a.1 (then-run F two-line (then-run F three-line four-line))) u.represents;
        keeps = subst (λ t. Keeps n S t.0 u.state) e u.keeps;
        represents = subst (λ t. Represents n B t.1 u.answer) e u.represents;
      }
    where
      by-moment : (m : Moment) (s : Store) (x : Datum) → f g s (m, first_or m (v g.params) x) ≡ initial_in_step (v g.params) (f g) s (m, x)
      by-moment start s x = refl
      by-moment (step d) s x = refl

  pub loop_law : LoopLaw n Ps Os F
  loop_law S A B V c j v f hc hf g qs h m s x o i w kept r =
      let d : Object = dt_object m in
      let q = split-fed n m V S s o kept in
      let o0 : Object = two q.a q.b in
      let a = constant-line n Ps Os F g qs h V c v o0 d i [] hc in
      let y = fed m s q.a q.b (a.0 ∷ []) a.0 w q.has_a a.2 (register-is n Ps Os F g qs h o0 d i (a.0 ∷ []) 0 a.0 refl) q.later in
      let e : Represents n (pair_ty A V) (pair x (fed_back (v g.params) m s)) (two i y.0) = c_pair r y.2 in
      let u = hf g qs h m (looped s) (pair x (fed_back (v g.params) m s)) q.b (two i y.0) w q.keeps_b e in
      let b = right-part n u.represents in
      let l = left-part n u.represents in
      let N : CType = two_types (c_type n V) (shape_type n S) in
      let o1 : Object = two q.a u.state in
      let o2 : Object = two b.object u.state in
      let t0 : has_type N o0 ≡ true = yes-and q.has_a (yes-and (at-type n q.keeps_b) refl) in
      let t1 : has_type N o1 ≡ true = yes-and q.has_a (yes-and (keeps-type n u.keeps) refl) in
      let t2 : has_type N o2 ≡ true = yes-and (has n b.represents) (yes-and (keeps-type n u.keeps) refl) in
      let r1 : List Object = a.0 ∷ [] in
      let r2 : List Object = a.0 ∷ y.0 ∷ [] in
      let r3 : List Object = a.0 ∷ y.0 ∷ two i y.0 ∷ [] in
      let r4 : List Object = a.0 ∷ y.0 ∷ two i y.0 ∷ u.answer ∷ [] in
      let two-line = define-line n Ps Os F g qs h V (choice is_first (behind n Ps Os 0) (dot (local 0) 0)) o0 d i r1 y.1 y.2 in
      let three-line = define-line n Ps Os F g qs h (pair_ty A V) (pair_of (local 2) (behind n Ps Os 1)) o0 d i r2 (pair-is (at n Ps Os F g qs h o0 d i r2) (local 2) (behind n Ps Os 1) refl (register-is n Ps Os F g qs h o0 d i r2 1 y.0 refl) (set-object n r) (set-object n y.2)) e in
      let four-line = part-line n Ps Os F g qs h (pair_ty B V) j (dot (local 0) 1) (behind n Ps Os 2) (dt_of m) o0 i r3 q.b (two i y.0) u.state o1 u.answer (part-within 1) (beside-member 1 2) refl
      (register-is n Ps Os F g qs h o0 d i r3 2 (two i y.0) refl) u.result (write-state n Ps Os F g qs h N o0 o1 d i r3 t0 t1) u.represents in
      let k = register-is n Ps Os F g qs h o1 d i r4 3 u.answer refl in
      let five-line = assigns F (dot (local 0) 0) (dot (behind n Ps Os 3) 1) (at n Ps Os F g qs h o1 d i r4) (at n Ps Os F g qs h o2 d i r4) b.object (ap second-of k ∙ b.at) (set-object n b.represents)
      (write-state n Ps Os F g qs h N o1 o2 d i r4 t1 t2) in
      let six-line = answer-line n Ps Os F g qs h (dot (behind n Ps Os 3) 0) o2 d i r4 (ap first-of (register-is n Ps Os F g qs h o2 d i r4 3 u.answer refl) ∙ l.at) l.represents in
      let end-lines = then-run F four-line (then-run F five-line six-line) in
      record {
        state = o2;
        answer = l.object;
        result = ap (λ p. function_run F (loop_function n Ps Os S A B V c j) (p ∷ d ∷ i ∷ qs)) q.is
            ∙ whole-function n Ps Os F g qs h (keeps_fed V S) A B _ m o0 i o2 l.object r4 refl w t0 r (then-run F a.1 (then-run F two-line (then-run F three-line end-lines))) l.represents;
        keeps = fed_kept b.represents u.keeps;
        represents = l.represents;
      }
    where
      fed : (m : Moment) (s : Store) (a b : Object) (rs : List Object) (z : Object) → MomentFits m → has_type (c_type n V) a ≡ true → Represents n V (v g.params) z → eval (at n Ps Os F g qs h (two a b) (dt_object m) i rs) (behind n Ps Os 0) ≡ Some z
          → ((d : ℕ) → m ≡ step d → Represents n V (fed_value s) a)
          → (y : Object) × (eval (at n Ps Os F g qs h (two a b) (dt_object m) i rs) (choice is_first (behind n Ps Os 0) (dot (local 0) 0)) ≡ Some y) × Represents n V (fed_back (v g.params) m s) y
      fed start s a b rs z w t p e l = (
        z,
        choice-like (at n Ps Os F g qs h (two a b) (dt_object start) i rs) is_first (behind n Ps Os 0) (dot (local 0) 0) z a (ap basic_in e) refl (alike (c_type n V) z a (has n p) t) ∙ e,
        p,
      )
      fed (step d) s a b rs z w t p e l = first-or n Ps Os F g qs h (step d) (behind n Ps Os 0) (dot (local 0) 0) (two a b) i rs w e refl (ap basic_in e) refl p (l d refl)
