-- The C function of `rpSwitchB` does its step.
use Rattle.std.proofs.Common.{◌≡◌, ◌≤◌, ◌<◌, ◌+◌, ◌-◌, ◌*◌, ◌^◌, ℕ, zero, suc, pos, Bool, true, false, not, List, [], ◌∷◌, ◌++◌, map, length, take, Some, None, refl, subst, sym, ap, ap₂, ◌∙◌, arith}
use Rattle.std.specs.Prelude.{nat_eq}
use Rattle.sample_core.specs.Datum.{Datum, pair, list, list_of}
use Rattle.sample_core.proofs.Elements.{elements_of_list}
use Rattle.sample_core.specs.TypeTree.{TypeTree, int_ty, pair_ty, event_ty, list_ty}
use Rattle.leaf_code.specs.Fitting.{Bounds}
use Rattle.net_machine.specs.Store.{Moment, start, step, Origin, Store, stored}
use Rattle.net_machine.specs.Stepper.{Stepper, Turn, turns, new_turns, written_from, members_at, members_in, event_beside, member_step, turns_step, collected, rp_switch_step}
use Rattle.net_code.specs.Running.{Given, given_value}
use Rattle.c_meaning.specs.Object.{CType, truth_type, number_type, no_member, member, array, u32, i64, Object, unset, truth, number, has_type, fresh, repeated}
use Rattle.c_meaning.specs.Syntax.{less, local, binary, Argument, by_value, by_const, by_pointer, Command, skip, sequence, declare, assign, branch, loop, answer}
use Rattle.c_meaning.specs.Meaning.{Linked, referred, written, root, passed_roots, none_shared, is_none_of, function_run}
use Rattle.c_meaning.proofs.Alike.{left-yes, right-yes, yes-and, alike}
use Rattle.c_meaning.proofs.Runs.{Runs, then-run, assigns, skips, gives-back}
use Rattle.c_leaf.specs.Representing.{two, c_type, Represents, c_pair, c_no_event, c_event, c_list, c_end}
use Rattle.c_leaf.specs.LeafCLaw.{Computes}
use Rattle.c_leaf.proofs.Values.{repeated-has}
use Rattle.c_forms.specs.Keeping.{Shape, keeps_collection, Keeps, most_members, written_count, collection_object, KeepsTurns, collection_kept, KeepsAt, at_start, at_step, dt_object, MomentFits}
use Rattle.c_forms.specs.Standing.{InScope, Right, is_first, param_args, old_args, scope_args}
use Rattle.c_forms.specs.Cells.{at_first}
use Rattle.c_forms.specs.Switches.{event_beside_of, value_beside}
use Rattle.c_forms.specs.Members.{members_shape, MembersRight, no_members, one_member}
use Rattle.c_forms.specs.Collection.{count_of, size_of_list, origins, beginning, kept_local, answers_local, turn_index, turn_of, started_by, started_args, turn_cases, turn_lines, choice_lines, collection_function, CollectionLaw}
use Rattle.c_forms.proofs.Lines.{not-first, register-is, member-range, turns-type, turns-length, length-turns, leaf-line, yes-line, no-line, whole-function}
use Rattle.c_forms.proofs.Loops.{other-local, declares, first-block, second-plain, loop-runs, write-register, counted, further, frame-length, as-long}
use Rattle.c_forms.proofs.Turns.{take-all, AllAt, AtMoments, all-turns, all-new, all-at-moments, entries-stored, written-shapes}
use Rattle.c_forms.proofs.Sides.{all-type, side-type, spot, all-has, write-dot}
use Rattle.c_forms.proofs.Beginning.{begins}
use Rattle.c_forms.proofs.Choosing.{chose}
use Rattle.c_forms.proofs.Turning.{turns-said}

-- what is declared is of its type
fresh-has : (T : CType) → has_type T (fresh T) ≡ true
fresh-has truth_type = refl
fresh-has (number_type S) = refl
fresh-has no_member = refl
fresh-has (member A B) = yes-and (fresh-has A) (fresh-has B)
fresh-has (array l A) = repeated-has (has_type A) l (fresh A) (fresh-has A)

-- none of a list is a local
none-append : (k : ℕ) (xs ys : List ℕ) → is_none_of k xs ≡ true → is_none_of k ys ≡ true → is_none_of k (xs ++ ys) ≡ true
none-append k [] ys e f = f
none-append k (x ∷ xs) ys e f = yes-and (left-yes _ (is_none_of k xs) e) (none-append k xs ys (right-yes (not (nat_eq k x)) _ e) f)

params-written : (c m : ℕ) → passed_roots (param_args c m) ≡ []
params-written c zero = refl
params-written c (suc m) = params-written (suc c) m

olds-written : (c m : ℕ) → passed_roots (old_args c m) ≡ []
olds-written c zero = refl
olds-written c (suc m) = olds-written (suc (suc c)) m

written-append : (as1 bs : List Argument) → passed_roots as1 ≡ [] → passed_roots bs ≡ [] → passed_roots (as1 ++ bs) ≡ []
written-append [] bs e f = f
written-append (by_value v ∷ as1) bs e f = written-append as1 bs e f
written-append (by_const v ∷ as1) bs e f = written-append as1 bs e f
written-append (by_pointer v ∷ as1) bs e f = roots-none (root v) (passed_roots as1) (passed_roots bs) e f (written-append as1 bs)
  where
    roots-none : (r a b : List ℕ) → r ++ a ≡ [] → b ≡ [] → (a ≡ [] → b ≡ [] → passed_roots (as1 ++ bs) ≡ []) → r ++ passed_roots (as1 ++ bs) ≡ []
    roots-none [] a b e f on = on e f
    roots-none (x ∷ r) a b e f on = absurd (grind arith)

origins-refer : (i m : ℕ) → referred (origins i m) ≡ []
origins-refer i zero = refl
origins-refer i (suc m) = origins-refer (suc i) m

module _ (n : Bounds) (Ps : List TypeTree) (Os : List Shape) where
  cases-refer : (B : TypeTree) (i : ℕ) (js : List ℕ) (k : ℕ) → referred (turn_cases n Ps Os B i js k) ≡ []
  cases-refer B i [] k = refl
  cases-refer B i (j ∷ js) k = cases-refer B (suc i) js k

  abbrev answers-number : ℕ
  answers-number = 3 + (length Ps + 2 * length Os) + 1

  -- each case writes local 0 and the answers
  call-writes : (c : ℕ) (zs : List Argument) → passed_roots zs ≡ [] → not (nat_eq c 0) ≡ true → not (nat_eq c answers-number) ≡ true
      → is_none_of c ((0 ∷ passed_roots zs) ++ answers-number ∷ []) ≡ true
  call-writes c zs e a b = ap (λ rs. is_none_of c ((0 ∷ rs) ++ answers-number ∷ [])) e ∙ yes-and a (yes-and b refl)

  cases-write : (B : TypeTree) (c i : ℕ) (js : List ℕ) (k : ℕ) → not (nat_eq c 0) ≡ true → not (nat_eq c answers-number) ≡ true → is_none_of c (written (turn_cases n Ps Os B i js k)) ≡ true
  cases-write B c i [] k a b =
      call-writes c (started_args n Ps Os) (written-append (param_args 3 (length Ps)) (by_const (started_by (turn_of n Ps Os)) ∷ old_args (3 + length Ps) (length Os)) (params-written 3 (length Ps)) (olds-written (3 + length Ps) (length Os))) a b
  cases-write B c i (j ∷ js) k a b =
      none-append c ((0 ∷ passed_roots (scope_args n Ps Os)) ++ answers-number ∷ []) (written (turn_cases n Ps Os B (suc i) js k))
      (call-writes c (scope_args n Ps Os) (written-append (param_args 3 (length Ps)) (old_args (3 + length Ps) (length Os)) (params-written 3 (length Ps)) (olds-written (3 + length Ps) (length Os))) a b)
      (cases-write B c (suc i) js k a b)

module _ (n : Bounds) (Ps : List TypeTree) (Os : List Shape) (F : ℕ → Linked) (g : Given) (qs : List Object) (h : InScope n Ps Os g qs) (V : TypeTree) (Ss : List Shape) (T : Shape) (A B C : TypeTree) (js : List ℕ) (r k : ℕ) (v : List Datum → Datum → Datum)
    (fs : List (Given → Stepper)) (t : Given → Stepper) (few : length js ≤ most_members) (room : most_members ≤ n B) (small : n B < 2 ^ 32) (small-named : n int_ty < 2 ^ 32) (small-values : n V < 2 ^ 32)
    (hs : MembersRight n Ps Os F A B js Ss fs) (hr : Computes n Ps C (pair_ty (list_ty int_ty) (list_ty V)) v (F r)) (ht : Right n (Ps ++ V ∷ []) Os T A B t (F k)) where
  abbrev M : Shape
  M = members_shape Ss

  abbrev steps-of : List Stepper
  steps-of = map (λ f. f g) fs

  abbrev here : Object → Object → Object → List Object → List Object
  here o d i rs = spot n Ps Os F g qs h V M T o d i rs

  abbrev count-object : ℕ → Object
  count-object c = number u32 (pos c)

  shapes-count : {js : List ℕ} {Ss : List Shape} {fs : List (Given → Stepper)} → MembersRight n Ps Os F A B js Ss fs → (length Ss ≡ length js) × (length (map (λ f. f g) fs) ≡ length js)
  shapes-count no_members = (refl, refl)
  shapes-count (one_member hj hs) =
      let e = shapes-count hs in (ap suc e.0, ap suc e.1)

  few-written : written_count M ≤ most_members
  few-written = subst (λ c. c ≤ most_members) (sym (written-shapes Ss ∙ (shapes-count hs).0)) few

  -- the members at a sample
  record Entered (m : Moment) (s : Store) (o i : Object) : Type 0 where
    turns_are : List Turn
    side : Bool
    a : Object
    b : Object
    first : Object
    is : o ≡ first
    typed_first : has_type (all-type n Ps Os F g qs h V M T) first ≡ true
    runs : Runs F (at_first (beginning (length js))) (here first (dt_object m) i []) (here (collection_object (length turns_are) side a b) (dt_object m) i [], None)
    keeps : KeepsTurns n V M T most_members turns_are a
    typed : has_type (side-type n Ps Os F g qs h V M T) b ≡ true
    all : AllAt m turns_are
    are : members_at m steps-of s ≡ turns_are

  new-length : (c : ℕ) (fs : List Stepper) → length (new_turns (written_from c fs)) ≡ length fs
  new-length c [] = refl
  new-length c (f ∷ fs) = ap suc (new-length (suc c) fs)

  enters : (m : Moment) (s : Store) (o i : Object) → MomentFits m → KeepsAt n m (keeps_collection V M T) s o → Entered m s o i
  enters start s o i w (at_start to) =
      let e = shapes-count hs in
      let y = begins n Ps Os F g qs h V Ss T o (number i64 (pos 0)) i [] steps-of (e.1 ∙ sym e.0) (subst (λ c. c ≤ most_members) (sym e.0) few) to in
      let l : length (new_turns (written_from 0 steps-of)) ≡ length js = new-length 0 steps-of ∙ e.1 in
      record {
        turns_are = new_turns (written_from 0 steps-of);
        side = false;
        a = y.a;
        b = y.b;
        first = y.first;
        is = y.is;
        typed_first = subst (λ u. has_type (all-type n Ps Os F g qs h V M T) u ≡ true) y.is to;
        runs = yes-line n Ps Os F g qs h (beginning (length js)) skip is_first y.first (dt_object start) i [] [] (collection_object (length (new_turns (written_from 0 steps-of))) false y.a y.b) None refl
            (subst (λ c. Runs F (beginning (length js)) (here y.first (dt_object start) i []) (here (collection_object c false y.a y.b) (dt_object start) i [], None)) (sym l)
            (subst (λ c. Runs F (beginning c) (here y.first (dt_object start) i []) (here (collection_object c false y.a y.b) (dt_object start) i [], None)) e.1 y.runs));
        keeps = y.keeps;
        typed = y.has_b;
        all = all-new (written_from 0 steps-of);
        are = take-all most_members (new_turns (written_from 0 steps-of)) (subst (λ c. c ≤ most_members) (sym l) few);
      }
  enters (step d0) s o i w (at_step (collection_kept es z a b l kt tb)) = record {
    turns_are = turns (step d0) es;
    side = z;
    a = a;
    b = b;
    first = collection_object (length es) z a b;
    is = refl;
    typed_first = all-has n Ps Os F g qs h V M T (length es) z a b (subst (λ c. c ≤ most_members) (length-turns n (step d0) es) (turns-length n (kt d0))) (turns-type n l (kt d0)) tb;
    runs = subst (λ c. Runs F (at_first (beginning (length js))) (here (collection_object (length es) z a b) (dt_object (step d0)) i []) (here (collection_object c z a b) (dt_object (step d0)) i [], None)) (sym (length-turns n (step d0) es))
        (no-line n Ps Os F g qs h (beginning (length js)) skip is_first (collection_object (length es) z a b) (dt_object (step d0)) i [] [] (collection_object (length es) z a b) None (ap (λ y. Some (truth y)) (not-first d0 w.0)) (skips F));
    keeps = kt d0;
    typed = tb;
    all = all-turns (step d0) es;
    are = ap (λ us. turns (step d0) (take most_members us)) (entries-stored es) ∙ ap (turns (step d0)) (take-all most_members es (subst (λ c. c ≤ most_members) (length-turns n (step d0) es) (turns-length n (kt d0))));
  }

  -- those that run at this sample
  record Met (m : Moment) (st : Object) (i : Object) (count : ℕ) (want : List Turn) : Type 0 where
    turns_are : List Turn
    side : Bool
    a : Object
    b : Object
    kept : ℕ
    runs : Runs F (branch (event_beside_of n Ps Os (local 2)) (choice_lines n Ps Os V r (length js)) skip) (here st (dt_object m) i (count-object count ∷ []))
        (here (collection_object (length turns_are) side a b) (dt_object m) i (count-object kept ∷ []), None)
    keeps : KeepsTurns n V M T most_members turns_are a
    typed : has_type (side-type n Ps Os F g qs h V M T) b ≡ true
    moments : AtMoments m kept turns_are
    are : want ≡ turns_are

  meets : (m : Moment) (ts : List Turn) (z : Bool) (a b xo : Object) (u : Datum) {e : Datum} {eo : Object} → KeepsTurns n V M T most_members ts a → has_type (side-type n Ps Os F g qs h V M T) b ≡ true → AllAt m ts → Represents n (event_ty C) e eo
      → Met m (collection_object (length ts) z a b) (two xo eo) (length ts) (members_in (v g.params) ts (event_beside (pair u e)))
  meets m ts z a b xo u kt tb all (c_no_event {o = c} tc) = record {
    turns_are = ts;
    side = z;
    a = a;
    b = b;
    kept = length ts;
    runs = second-plain F (choice_lines n Ps Os V r (length js)) skip (event_beside_of n Ps Os (local 2)) (here (collection_object (length ts) z a b) (dt_object m) (two xo (two (truth false) c)) (count-object (length ts) ∷ []))
        (here (collection_object (length ts) z a b) (dt_object m) (two xo (two (truth false) c)) (count-object (length ts) ∷ [])) None refl (skips F) refl;
    keeps = kt;
    typed = tb;
    moments = all-at-moments m ts all;
    are = refl;
  }
  meets m ts z a b xo u kt tb all (c_event {v = c} {o = co} rc) =
      let i : Object = two xo (two (truth true) co) in
      let d : Object = dt_object m in
      let o0 : Object = collection_object (length ts) z a b in
      let l = leaf-line n Ps Os F g qs h C (pair_ty (list_ty int_ty) (list_ty V)) r v (value_beside n Ps Os (local 2)) o0 d i (count-object (length ts) ∷ []) hr refl refl rc in
      let y = chose n Ps Os F g qs h V M T few-written z a d i ts m kt all C r v hr small-named small-values (length ts) b tb l.2 l.1 in
      let o1 : Object = collection_object (length y.turns_are) (not z) y.side_is y.other_is in
      let w : written_count M ≡ length js = written-shapes Ss ∙ (shapes-count hs).0 in
      record {
        turns_are = y.turns_are;
        side = not z;
        a = y.side_is;
        b = y.other_is;
        kept = y.kept;
        runs = first-block F (choice_lines n Ps Os V r (length js)) skip (event_beside_of n Ps Os (local 2)) (here o0 d i (count-object (length ts) ∷ [])) (here o1 d i (count-object y.kept ∷ [])) y.locals None refl
            (subst (λ f. Runs F (choice_lines n Ps Os V r (length js)) (here o0 d i (count-object (length ts) ∷ [])) (f, None)) (sym (further n Ps Os F g qs h o1 d i (count-object y.kept ∷ []) y.locals))
            (subst (λ c. Runs F (choice_lines n Ps Os V r c) (here o0 d i (count-object (length ts) ∷ [])) (here o1 d i (count-object y.kept ∷ y.locals), None)) w y.runs))
            (as-long n Ps Os F g qs h o0 o1 d i (count-object (length ts) ∷ []) (count-object y.kept ∷ []) refl);
        keeps = y.keeps;
        typed = y.typed;
        moments = y.moments;
        are = sym y.is;
      }

  abbrev body : Command
  body =
      sequence (at_first (beginning (length js)))
      (sequence (declare (number_type u32))
      (sequence (assign (kept_local n Ps Os) count_of)
      (sequence (branch (event_beside_of n Ps Os (local 2)) (choice_lines n Ps Os V r (length js)) skip)
      (sequence (declare (c_type n (list_ty B)))
      (sequence (assign (size_of_list (answers_local n Ps Os)) count_of)
      (sequence (loop most_members (binary less u32 (turn_index n Ps Os) count_of) (turn_lines n Ps Os B js k)) (answer (answers_local n Ps Os))))))))

  refers-first : referred (at_first (beginning (length js))) ≡ []
  refers-first = ap (λ (us : List ℕ). us ++ []) (origins-refer 0 (length js))

  body-steady : none_shared (referred body) (written body) ≡ true
  body-steady = ap (λ ks. none_shared ks (written body)) (ap₂ (λ (us ws : List ℕ). us ++ (ws ++ [])) refers-first (cases-refer n Ps Os B 0 js k))

  -- the loop's counter is not written
  turns-free : (o d i p q : Object) → is_none_of (length (here o d i (p ∷ q ∷ []))) (written (turn_lines n Ps Os B js k)) ≡ true
  turns-free o d i p q =
      ap (λ l. is_none_of l (written (turn_lines n Ps Os B js k))) (frame-length n Ps Os F g qs h o d i (p ∷ q ∷ []))
      ∙ cases-write n Ps Os B (3 + (length Ps + 2 * length Os) + 2) 0 js k (other-local (3 + (length Ps + 2 * length Os) + 2) 0 (omega arith))
      (other-local (3 + (length Ps + 2 * length Os) + 2) (3 + (length Ps + 2 * length Os) + 1) (omega arith))

  turns-length-is : (f : Origin → Stepper) (ts : List Turn) (x : Datum) → (length (turns_step f ts x).0 ≡ length ts) × (length (turns_step f ts x).1 ≡ length ts)
  turns-length-is f [] x = (refl, refl)
  turns-length-is f (t ∷ ts) x =
      let e = turns-length-is f ts x in (ap suc e.0, ap suc e.1)

  -- what the whole comes to
  record Collected (m : Moment) (o i : Object) (res : Store × Datum) : Type 0 where
    state : Object
    answer_is : Object
    rest : List Object
    runs : Runs F body (here o (dt_object m) i []) (here state (dt_object m) i rest, Some answer_is)
    keeps : Keeps n (keeps_collection V M T) res.0 state
    represents : Represents n (list_ty B) res.1 answer_is

  collects : (m : Moment) (s : Store) {u e : Datum} {xo eo : Object} (o : Object) → MomentFits m → Represents n A u xo → Represents n (event_ty C) e eo → (y : Entered m s o (two xo eo))
      → Collected m y.first (two xo eo) (rp_switch_step (v g.params) steps-of (λ w. t (given_value g w)) s (m, pair u e))
  collects m s {u} {e} {xo} {eo} o fm ru re y =
      let i : Object = two xo eo in
      let d : Object = dt_object m in
      let o1 : Object = collection_object (length y.turns_are) y.side y.a y.b in
      let c1 : ℕ = length y.turns_are in
      let kept = kept_local n Ps Os in
      let ans = answers_local n Ps Os in
      let two-line = subst (λ f. Runs F (declare (number_type u32)) (here o1 d i []) (f, None)) (counted n Ps Os F g qs h o1 d i [] unset) (declares F (number_type u32) (here o1 d i []) refl) in
      let three = assigns F kept count_of (here o1 d i (unset ∷ [])) (here o1 d i (count-object c1 ∷ [])) (count-object c1) refl refl (write-register n Ps Os F g qs h 0 o1 d i unset (count-object c1) [] [] refl refl) in
      let w = meets m y.turns_are y.side y.a y.b xo u y.keeps y.typed y.all re in
      let c2 : ℕ = length w.turns_are in
      let o2 : Object = collection_object (length w.turns_are) w.side w.a w.b in
      let l2 : length w.turns_are ≤ most_members = turns-length n w.keeps in
      let none : Object = fresh (c_type n (list_ty B)) in
      let arr : Object = repeated (n B) (fresh (c_type n B)) in
      let five = subst (λ f. Runs F (declare (c_type n (list_ty B))) (here o2 d i (count-object w.kept ∷ [])) (f, None)) (counted n Ps Os F g qs h o2 d i (count-object w.kept ∷ []) none)
      (declares F (c_type n (list_ty B)) (here o2 d i (count-object w.kept ∷ [])) (fresh-has (c_type n (list_ty B)))) in
      let ta : has_type (array (n B) (c_type n B)) arr ≡ true = repeated-has (has_type (c_type n B)) (n B) (fresh (c_type n B)) (fresh-has (c_type n B)) in
      let f5 : List Object = here o2 d i (count-object w.kept ∷ none ∷ []) in
      let six = assigns F (size_of_list ans) count_of f5 (here o2 d i (count-object w.kept ∷ two (count-object c2) arr ∷ [])) (count-object c2) refl refl
      (write-dot f5 (here o2 d i (count-object w.kept ∷ two (count-object c2) arr ∷ [])) ans none (two (count-object c2) arr) (count-object c2) 0 (register-is n Ps Os F g qs h o2 d i (count-object w.kept ∷ none ∷ []) 1 none refl) refl
      (write-register n Ps Os F g qs h 1 o2 d i none (two (count-object c2) arr) (count-object w.kept ∷ []) [] refl
      (alike (c_type n (list_ty B)) none (two (count-object c2) arr) (fresh-has (c_type n (list_ty B))) (yes-and (member-range c2 l2) (yes-and ta refl))))) in
      let q = turns-said n Ps Os F g qs h V Ss T few-written A B k t ht u xo eo ru m fm js fs hs c2 w.side w.b l2 w.typed w.kept room most_members w.keeps 0 [] arr [] refl refl (zero-plus c2) refl (c_end ta) (subst (λ c. AtMoments m c w.turns_are) (minus-zero w.kept) w.moments) (λ p tp. tp) in
      let o3 : Object = collection_object c2 w.side q.side_is w.b in
      let y2 : Object = two (count-object c2) q.array_is in
      let rs : List Object = count-object w.kept ∷ two (count-object c2) q.array_is ∷ [] in
      let seven = loop-runs F (binary less u32 (turn_index n Ps Os) count_of) (turn_lines n Ps Os B js k) most_members (here o2 d i (count-object w.kept ∷ two (count-object c2) arr ∷ [])) (here o3 d i rs)
      (turns-free o2 d i (count-object w.kept) (two (count-object c2) arr)) (omega arith) q.loops in
      let lens = turns-length-is (member_step steps-of (λ w. t (given_value g w))) w.turns_are u in
      let rl : Represents n (list_ty B) (list (list_of (turns_step (member_step steps-of (λ w. t (given_value g w))) w.turns_are u).1)) y2 =
      c_list (sym (ap length (elements_of_list (turns_step (member_step steps-of (λ w. t (given_value g w))) w.turns_are u).1) ∙ lens.1)) (omega arith) q.list in
      let back = gives-back F ans (here o3 d i rs) y2 (register-is n Ps Os F g qs h o3 d i rs 1 y2 refl) refl in
      let same : members_in (v g.params) (members_at m steps-of s) (event_beside (pair u e)) ≡ w.turns_are = ap (λ ts. members_in (v g.params) ts (event_beside (pair u e))) y.are ∙ w.are in
      record {
        state = o3;
        answer_is = y2;
        rest = rs;
        runs = then-run F y.runs (then-run F two-line (then-run F three (then-run F w.runs (then-run F five (then-run F six (then-run F seven back))))));
        keeps = subst (λ ts. Keeps n (keeps_collection V M T) (collected (turns_step (member_step steps-of (λ w. t (given_value g w))) ts u)).0 o3) (sym same)
            (subst (λ c. Keeps n (keeps_collection V M T) (stored (turns_step (member_step steps-of (λ w. t (given_value g w))) w.turns_are u).0) (collection_object c w.side q.side_is w.b)) lens.0
            (collection_kept (turns_step (member_step steps-of (λ w. t (given_value g w))) w.turns_are u).0 w.side q.side_is w.b few-written q.keeps w.typed));
        represents = subst (λ ts. Represents n (list_ty B) (collected (turns_step (member_step steps-of (λ w. t (given_value g w))) ts u)).1 y2) (sym same) rl;
      }
    where
      zero-plus : (c : ℕ) → c ≡ 0 + c
      zero-plus c = omega arith

      minus-zero : (c : ℕ) → c ≡ c - 0
      minus-zero c = omega arith

module _ (n : Bounds) (Ps : List TypeTree) (Os : List Shape) (F : ℕ → Linked) where
  pub collection_law : CollectionLaw n Ps Os F
  collection_law Ss T A B V C js r k v fs t few room small small-named small-values hs hr ht g qs h m s x o i fm kept (c_pair {v = u} {w = e} {o = xo} {p = eo} ru re) =
      let y = enters n Ps Os F g qs h V Ss T A B C js r k v fs t few room small small-named small-values hs hr ht m s o (two xo eo) fm kept in
      let q = collects n Ps Os F g qs h V Ss T A B C js r k v fs t few room small small-named small-values hs hr ht m s o fm ru re y in
      record {
        state = q.state;
        answer = q.answer_is;
        result = ap (λ p. function_run F (collection_function n Ps Os Ss T A B V C js r k) (p ∷ dt_object m ∷ two xo eo ∷ qs)) y.is
            ∙ whole-function n Ps Os F g qs h (keeps_collection V (members_shape Ss) T) (pair_ty A (event_ty C)) (list_ty B) _ m y.first (two xo eo) q.state q.answer_is q.rest
            (body-steady n Ps Os F g qs h V Ss T A B C js r k v fs t few room small small-named small-values hs hr ht) fm y.typed_first (c_pair ru re) q.runs q.represents;
        keeps = q.keeps;
        represents = q.represents;
      }
