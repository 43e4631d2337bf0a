-- At a sample each member of a collection answers.
use Rattle.std.proofs.Common.{◌≡◌, ◌≤◌, ◌<◌, ◌+◌, ◌-◌, ℕ, zero, suc, pos, Bool, true, false, List, [], ◌∷◌, ◌++◌, map, length, Option, Some, None, refl, subst, sym, ap, ap₂, ◌∙◌, arith, append_assoc, append-nil}
use Rattle.std.specs.Prelude.{nat_lt}
use Rattle.std.specs.Ordering.{int_eq}
use Rattle.sample_core.specs.Datum.{Datum, list_of}
use Rattle.sample_core.specs.TypeTree.{TypeTree, list_ty}
use Rattle.leaf_code.specs.Fitting.{Bounds}
use Rattle.net_machine.specs.Store.{Moment, step, Origin, Store, Entry}
use Rattle.net_machine.specs.Stepper.{Stepper, Turn, turns, turns_step, step_at, member_step}
use Rattle.net_code.specs.Running.{Given, given_value}
use Rattle.c_meaning.specs.Object.{array, number_type, u32, i64, Object, truth, number, more, has_type, each_has, part_of, with_part, in_front}
use Rattle.c_meaning.specs.Syntax.{equals, less, Term, local, dot, binary, choice, Argument, by_value, by_const, by_pointer, Command, define, call, branch}
use Rattle.c_meaning.specs.Meaning.{Linked, bind, is_set, eval, write, path, apart, operate, choice_of}
use Rattle.c_meaning.proofs.Wrapping.{check-yes}
use Rattle.c_meaning.proofs.Alike.{yes-and, alike}
use Rattle.c_meaning.proofs.Runs.{Runs, then-run, assigns, defines}
use Rattle.c_leaf.specs.Representing.{two, c_type, Represents, AllRepresent, c_end, c_more}
use Rattle.c_leaf.proofs.Values.{has, all-have, append-register}
use Rattle.c_leaf.proofs.Same.{set-object}
use Rattle.c_forms.specs.Keeping.{Shape, shape_type, most_members, written_count, collection_object, KeepsTurns, no_turn, one_turn, KeepsEntry, written_kept, made_kept, KeepsMember, this_member, later_member, Keeps, KeepsAt, at_step, dt_object, MomentFits}
use Rattle.c_forms.specs.Standing.{InScope, Right, behind, scope_args}
use Rattle.c_forms.specs.Cells.{number_term}
use Rattle.c_forms.specs.Members.{members_shape, MembersRight, no_members, one_member}
use Rattle.c_forms.specs.Collection.{count_term, count_of, running_of, origin_of, started_by, started_of, written_of, element, kept_local, answers_local, turn_index, turn_moment, turn_of, turn_call, started_args, turn_cases, turn_lines}
use Rattle.c_forms.proofs.Reading.{Reads, reads_const, reads_value, reads-append, write-call, Within, params-read, olds-read, scope-reads, longer}
use Rattle.c_forms.proofs.Lines.{keeps-type, at-type, dt-range, register-is, member-below, member-range, turns-type, entry-has, front-of}
use Rattle.c_forms.proofs.Members.{stack, stack-part, stack-with, stack-append}
use Rattle.c_forms.proofs.Loops.{first-block, second-block, the-loop, goes-round, stops, write-register, counted, further, as-long}
use Rattle.c_forms.proofs.Turns.{AtMoments, one-longer}
use Rattle.c_forms.proofs.Sides.{E, side-type, spot, running, write-running, eval-at, eval-dot, write-at, write-dot}

-- answers, one by one, in an array
record Longer (n : TypeTree → ℕ) (B : TypeTree) (l : ℕ) (vs : List Datum) (o : Object) (v : Datum) (p : Object) : Type 0 where
  object : Object
  is : with_part o (length vs) p ≡ Some object
  represents : AllRepresent n B l (list_of (vs ++ v ∷ [])) object

answers-longer : (n : Bounds) {B : TypeTree} (l : ℕ) (vs : List Datum) {o : Object} {v : Datum} {p : Object} → AllRepresent n B l (list_of vs) o → length vs < l → Represents n B v p → Longer n B l vs o v p
answers-longer n zero vs h b r = absurd (omega arith)
answers-longer n {B} (suc l) [] {p = p} (c_end {o = o} e) b r =
    let f = front-of (c_type n B) (array l (c_type n B)) o e in
    record { object = more p f.b; is = ap (λ y. with_part y 0 p) f.is; represents = c_more r (c_end f.has_b) }
answers-longer n (suc l) (w ∷ vs) (c_more {o = a} q h) b r =
    let z = answers-longer n l vs h (omega arith) r in
    record { object = more a z.object; is = ap (in_front a) z.is; represents = c_more q z.represents }

same-int : (a b : ℕ) → a ≡ b → int_eq (pos a) (pos b) ≡ true
same-int a b e = grind arith

other-int : (a b : ℕ) → b < a → int_eq (pos a) (pos b) ≡ false
other-int a b l = grind arith

past-is : (j c : ℕ) → c ≤ j → nat_lt j c ≡ false
past-is j c l = grind arith

below-is : (j c : ℕ) → j < c → nat_lt j c ≡ true
below-is j c l = grind arith

no-more : (i k : ℕ) → 0 ≡ k - i → nat_lt i k ≡ false
no-more i k e = past-is i k (omega arith)

still-none : (i k : ℕ) → 0 ≡ k - i → 0 ≡ k - suc i
still-none i k e = omega arith

goes-on : (i k c : ℕ) → suc c ≡ k - i → nat_lt i k ≡ true
goes-on i k c e = below-is i k (omega arith)

one-fewer : (i k c : ℕ) → suc c ≡ k - i → c ≡ k - suc i
one-fewer i k c e = omega arith

past-last : (j c : ℕ) → c ≡ j + 0 → nat_lt j c ≡ false
past-last j c e = past-is j c (omega arith)

is-next : (j l c : ℕ) → c ≡ j + suc l → nat_lt j c ≡ true
is-next j l c e = below-is j c (omega arith)

three-more : (k : ℕ) → 3 + k ≡ suc (suc (suc k))
three-more k = omega arith

abbrev count-object : ℕ → Object
count-object k = number u32 (pos k)

abbrev entry-object : ℕ → Object → Object → Object → Object
entry-object w v t o = more (count-object w) (more v (more t o))

module _ (n : Bounds) (Ps : List TypeTree) (Os : List Shape) (F : ℕ → Linked) (g : Given) (qs : List Object) (h : InScope n Ps Os g qs) (V : TypeTree) (Ss : List Shape) (T : Shape) (few : written_count (members_shape Ss) ≤ most_members)
    (A B : TypeTree) (k : ℕ) (t : Given → Stepper) (ht : Right n (Ps ++ V ∷ []) Os T A B t (F k)) (x : Datum) (xo ie : Object) (md : Moment) (rx : Represents n A x xo) where
  abbrev d : Object
  d = dt_object md

  abbrev M : Shape
  M = members_shape Ss

  abbrev here : Object → List Object → List Object
  here o rs = spot n Ps Os F g qs h V M T o d (two xo ie) rs

  -- one member's turn: so many run, the one at the place behind front has it
  module _ (count : ℕ) (z : Bool) (b : Object) (front : List Object) (rest : Object) (idx : ℕ) (ei : idx ≡ length front) (kept : ℕ) (mt : Moment) (fit : MomentFits mt) (arr : Object) (vs : List Datum) (lc : count ≤ most_members)
      (hb : has_type (side-type n Ps Os F g qs h V M T) b ≡ true) (hf : (e : Object) → has_type (E n Ps Os F g qs h V M T) e ≡ true → has_type (side-type n Ps Os F g qs h V M T) (stack front (more e rest)) ≡ true)
      (ra : AllRepresent n B (n B) (list_of vs) arr) (lv : length vs ≡ idx) (room : idx < n B) where
    abbrev state : Object → Object
    state e = collection_object count z (stack front (more e rest)) b

    abbrev answers : Object → Object
    answers o = two (count-object count) o

    abbrev locals : Object → List Object → List Object
    locals o us = count-object kept ∷ answers o ∷ count-object idx ∷ dt_object mt ∷ us

    turn-is : (e o : Object) (us : List Object) → eval (here (state e) (locals o us)) (turn_of n Ps Os) ≡ Some e
    turn-is e o us =
        eval-at (here (state e) (locals o us)) running_of (turn_index n Ps Os) (stack front (more e rest)) e idx (running n Ps Os F g qs h V M T count z (stack front (more e rest)) b d (two xo ie) (locals o us))
        (register-is n Ps Os F g qs h (state e) d (two xo ie) (locals o us) 2 (count-object idx) refl) (ap (part_of (stack front (more e rest))) ei ∙ stack-part front e rest)

    write-turn : (e e1 o : Object) (us : List Object) → has_type (E n Ps Os F g qs h V M T) e ≡ true → has_type (E n Ps Os F g qs h V M T) e1 ≡ true
        → write (here (state e) (locals o us)) (turn_of n Ps Os) e1 ≡ Some (here (state e1) (locals o us))
    write-turn e e1 o us te t1 =
        let f : List Object = here (state e) (locals o us) in
        write-at f (here (state e1) (locals o us)) running_of (turn_index n Ps Os) (stack front (more e rest)) (stack front (more e1 rest)) e1 idx (running n Ps Os F g qs h V M T count z (stack front (more e rest)) b d (two xo ie) (locals o us))
        (register-is n Ps Os F g qs h (state e) d (two xo ie) (locals o us) 2 (count-object idx) refl) (ap (λ m. with_part (stack front (more e rest)) m e1) ei ∙ stack-with front e rest e1)
        (write-running n Ps Os F g qs h V M T count z (stack front (more e rest)) b (stack front (more e1 rest)) d (two xo ie) (locals o us) lc (hf e te) hb (hf e1 t1))

    -- what a command leaves, which answers v
    record Said (C : Command) (e e1 : Object) (v : Datum) : Type 0 where
      array_is : Object
      more_locals : List Object
      list : AllRepresent n B (n B) (list_of (vs ++ v ∷ [])) array_is
      runs : Runs F C (here (state e) (locals arr [])) (here (state e1) (locals array_is more_locals), None)

    -- a call, whose answer is stored
    says : (j : ℕ) (part : Term) (zs : List Argument) (us : List Object) (e e1 p q y : Object) {v : Datum} → Reads (here (state e) (locals arr [])) part zs us → apart (path part) (path (dot (local 2) 0)) ≡ true
        → eval (here (state e) (locals arr [])) part ≡ Some p → F j (p ∷ dt_object mt ∷ xo ∷ us) ≡ Some (q ∷ dt_object mt ∷ xo ∷ us, y) → write (here (state e) (locals arr [])) part q ≡ Some (here (state e1) (locals arr []))
        → Represents n B v y → Said (turn_call n Ps Os B j part zs) e e1 v
    says j part zs us e e1 p q y {v} rd ap0 ep ec ew ry =
        let f0 : List Object = here (state e) (locals arr []) in
        let i : Object = two xo ie in
        let c = write-call f0 part F (c_type n B) j (here (state e1) (locals arr [])) p q y
        (reads_value (ap (λ E. bind E is_set) (register-is n Ps Os F g qs h (state e) d i (locals arr []) 3 (dt_object mt) refl)) (reads_const ap0 refl rd)) ep ec ew (has n ry) in
        let c1 = subst (λ f. Runs F (call (c_type n B) j (by_pointer part ∷ by_value (turn_moment n Ps Os) ∷ by_const (dot (local 2) 0) ∷ zs)) f0 (f, None))
        (counted n Ps Os F g qs h (state e1) d i (locals arr []) y) c in
        let l = answers-longer n (n B) vs ra (subst (λ m. m < n B) (sym lv) room) ry in
        let f1 : List Object = here (state e1) (locals arr (y ∷ [])) in
        let f2 : List Object = here (state e1) (locals l.object (y ∷ [])) in
        let rs : List Object = locals arr (y ∷ []) in
        let ya = register-is n Ps Os F g qs h (state e1) d i rs 1 (answers arr) refl in
        let t1 : has_type (c_type n (list_ty B)) (answers arr) ≡ true = yes-and (member-range count lc) (yes-and (all-have n ra) refl) in
        let t2 : has_type (c_type n (list_ty B)) (answers l.object) ≡ true = yes-and (member-range count lc) (yes-and (all-have n l.represents) refl) in
        let s = assigns F (element (answers_local n Ps Os) (turn_index n Ps Os)) (behind n Ps Os 4) f1 f2 y (register-is n Ps Os F g qs h (state e1) d i rs 4 y refl) (set-object n ry)
        (write-at f1 f2 (dot (answers_local n Ps Os) 1) (turn_index n Ps Os) arr l.object y idx (eval-dot f1 (answers_local n Ps Os) (answers arr) arr 1 ya refl)
        (register-is n Ps Os F g qs h (state e1) d i rs 2 (count-object idx) refl) (ap (λ m. with_part arr m y) (sym lv) ∙ l.is)
        (write-dot f1 f2 (answers_local n Ps Os) (answers arr) (answers l.object) l.object 1 ya refl
        (write-register n Ps Os F g qs h 1 (state e1) d i (answers arr) (answers l.object) (count-object kept ∷ []) (count-object idx ∷ dt_object mt ∷ y ∷ []) refl (alike (c_type n (list_ty B)) (answers arr) (answers l.object) t1 t2)))) in
        record { array_is = l.object; more_locals = y ∷ []; list = l.represents; runs = then-run F c1 s }

    -- which member it is
    abbrev member-test : ℕ → Term
    member-test c = binary equals u32 (origin_of (turn_of n Ps Os)) (count_term c)

    abbrev equal-counts : Option Object → Option Object → Option Object
    equal-counts A B = bind A (λ v. bind B (λ w. operate equals u32 v w))

    member-test-is : (c w : ℕ) (v p o : Object) → c ≤ 64 → eval (here (state (entry-object w v p o)) (locals arr [])) (member-test c) ≡ Some (truth (int_eq (pos w) (pos c)))
    member-test-is c w v p o l =
        let e : Object = entry-object w v p o in
        ap₂ equal-counts (eval-dot (here (state e) (locals arr [])) (turn_of n Ps Os) e (count-object w) 0 (turn-is e arr []) refl) (check-yes u32 (pos c) (member-range c l))

    -- the branch that is taken, and those that are not
    taken-branch : (C D : Command) (c w : ℕ) (v p o e1 : Object) {u : Datum} → c ≤ 64 → w ≡ c → Said C (entry-object w v p o) e1 u → Said (branch (member-test c) C D) (entry-object w v p o) e1 u
    taken-branch C D c w v p o e1 l e s = record {
      array_is = s.array_is;
      more_locals = [];
      list = s.list;
      runs = first-block F C D (member-test c) (here (state (entry-object w v p o)) (locals arr [])) (here (state e1) (locals s.array_is [])) s.more_locals None (member-test-is c w v p o l ∙ ap (λ y. Some (truth y)) (same-int w c e))
          (subst (λ f. Runs F C (here (state (entry-object w v p o)) (locals arr [])) (f, None)) (sym (further n Ps Os F g qs h (state e1) d (two xo ie) (locals s.array_is []) s.more_locals)) s.runs)
          (as-long n Ps Os F g qs h (state (entry-object w v p o)) (state e1) d (two xo ie) (locals arr []) (locals s.array_is []) refl);
    }

    passed-branch : (C D : Command) (c w : ℕ) (v p o e1 : Object) {u : Datum} → c ≤ 64 → c < w → Said D (entry-object w v p o) e1 u → Said (branch (member-test c) C D) (entry-object w v p o) e1 u
    passed-branch C D c w v p o e1 l e s = record {
      array_is = s.array_is;
      more_locals = [];
      list = s.list;
      runs = second-block F C D (member-test c) (here (state (entry-object w v p o)) (locals arr [])) (here (state e1) (locals s.array_is [])) s.more_locals None (member-test-is c w v p o l ∙ ap (λ y. Some (truth y)) (other-int w c e))
          (subst (λ f. Runs F D (here (state (entry-object w v p o)) (locals arr [])) (f, None)) (sym (further n Ps Os F g qs h (state e1) d (two xo ie) (locals s.array_is []) s.more_locals)) s.runs)
          (as-long n Ps Os F g qs h (state (entry-object w v p o)) (state e1) d (two xo ie) (locals arr []) (locals s.array_is []) refl);
    }

    -- a written member
    record WrittenSaid (Ns : List Shape) (C : Command) (w : ℕ) (v p all : Object) (front-members : List Object) (j : ℕ) (r : Store × Datum) : Type 0 where
      object : Object
      all_is : Object
      is : all_is ≡ stack front-members object
      keeps : (c : ℕ) → KeepsMember n (members_shape Ns) (step c) j r.0 object
      said : Said C (entry-object w v p all) (entry-object w v p all_is) r.1

    written-turn : (w : ℕ) (v p all : Object) (s : Store) → w ≤ 64 → has_type (c_type n V) v ≡ true → has_type (shape_type n T) p ≡ true
        → {js : List ℕ} {Ns : List Shape} {fs : List (Given → Stepper)} → MembersRight n Ps Os F A B js Ns fs → {j : ℕ} {o : Object} → KeepsMember n (members_shape Ns) mt j s o
        → (c : ℕ) (fm : List Object) → c ≡ length fm → w ≡ c + j → all ≡ stack fm o → ((q : Object) → has_type (shape_type n (members_shape Ns)) q ≡ true → has_type (shape_type n M) (stack fm q) ≡ true)
        → WrittenSaid Ns (turn_cases n Ps Os B c js k) w v p all fm j (step_at (map (λ f. f g) fs) j s (mt, x))
    written-turn w v p all s lw hv hp no_members km c fm ec ew ea fits = elim km [ ]
    written-turn w v p all s lw hv hp (one_member {j = j} {js = js} {S = S} {Ss = Ns} {f = f} hj hs) (this_member {o = o} {p = q} ka tq) c fm ec ew ea fits =
        let u = hj g qs h mt s x o xo fit ka rx in
        let all1 : Object = stack fm (more u.state q) in
        let e0 : Object = entry-object w v p all in
        let e1 : Object = entry-object w v p all1 in
        let part : Term = written_of c (turn_of n Ps Os) in
        let f0 : List Object = here (state e0) (locals arr []) in
        let within : Within part = record { ks = 2 ∷ (3 + c) ∷ []; is = refl } in
        let hall : has_type (shape_type n M) all ≡ true = ap (has_type (shape_type n M)) ea ∙ fits (more o q) (yes-and (at-type n ka) tq) in
        let hall1 : has_type (shape_type n M) all1 ≡ true = fits (more u.state q) (yes-and (keeps-type n u.keeps) tq) in
        let t0 : has_type (E n Ps Os F g qs h V M T) e0 ≡ true = yes-and (member-range w lw) (yes-and hv (yes-and hp hall)) in
        let t1 : has_type (E n Ps Os F g qs h V M T) e1 ≡ true = yes-and (member-range w lw) (yes-and hv (yes-and hp hall1)) in
        let there : part_of e0 (3 + c) ≡ Some o = ap (part_of e0) (three-more c) ∙ ap₂ part_of ea ec ∙ stack-part fm o q in
        let put : with_part e0 (3 + c) u.state ≡ Some e1 =
        ap (λ m. with_part e0 m u.state) (three-more c) ∙ ap (λ W. in_front (count-object w) (in_front v (in_front p W))) (ap₂ (λ y m. with_part y m u.state) ea ec ∙ stack-with fm o q u.state) in
        let y = says j part (scope_args n Ps Os) qs e0 e1 o u.state u.answer (scope-reads n Ps Os g qs h part within (state e0) d (two xo ie) (locals arr [])) refl
        (eval-dot f0 (turn_of n Ps Os) e0 o (3 + c) (turn-is e0 arr []) there) u.result
        (write-dot f0 (here (state e1) (locals arr [])) (turn_of n Ps Os) e0 e1 u.state (3 + c) (turn-is e0 arr []) put (write-turn e0 e1 arr [] t0 t1)) u.represents in
        record {
          object = more u.state q;
          all_is = all1;
          is = refl;
          keeps = λ m. this_member (at_step u.keeps) tq;
          said = taken-branch (turn_call n Ps Os B j part (scope_args n Ps Os)) (turn_cases n Ps Os B (suc c) js k) c w v p all e1 (omega arith) (plain c w ew) y;
        }
      where
        plain : (c w : ℕ) → w ≡ c + 0 → w ≡ c
        plain c w e = omega arith
    written-turn w v p all s lw hv hp (one_member {j = j} {js = js} {S = S} {Ss = Ns} {f = f} {fs = fs} hj hs) (later_member {k = i} {o = o} {p = q} to km) c fm ec ew ea fits =
        let r = written-turn w v p all s lw hv hp hs km (suc c) (fm ++ o ∷ []) (longer fm o c ec) (shift c i w ew) (ea ∙ sym (stack-append fm o q))
        (λ y ty. ap (has_type (shape_type n M)) (stack-append fm o y) ∙ fits (more o y) (yes-and to ty)) in
        record {
          object = more o r.object;
          all_is = r.all_is;
          is = r.is ∙ stack-append fm o r.object;
          keeps = λ m. later_member to (r.keeps m);
          said = passed-branch (turn_call n Ps Os B j (written_of c (turn_of n Ps Os)) (scope_args n Ps Os)) (turn_cases n Ps Os B (suc c) js k) c w v p all (entry-object w v p r.all_is) (omega arith) (omega arith) r.said;
        }
      where
        shift : (c i w : ℕ) → w ≡ c + suc i → w ≡ suc c + i
        shift c i w e = omega arith

    -- a member that a value has started
    value-scope : {c : Datum} {v : Object} → Represents n V c v → InScope n (Ps ++ V ∷ []) Os (given_value g c) (h.params ++ v ∷ h.olds)
    value-scope {v = v} r = record {
      params = h.params ++ v ∷ [];
      olds = h.olds;
      are = sym (append_assoc h.params (v ∷ []) h.olds);
      are_params = append-register n h.are_params r;
      are_olds = h.are_olds;
    }

    record StartedSaid (C : Command) (w : ℕ) (v p all : Object) (r : Store × Datum) : Type 0 where
      object : Object
      keeps : Keeps n T r.0 object
      said : Said C (entry-object w v p all) (entry-object w v object all) r.1

    started-turn : (w : ℕ) {c : Datum} (v p all : Object) (s : Store) → w ≤ 64 → Represents n V c v → KeepsAt n mt T s p → has_type (shape_type n M) all ≡ true
        → {js : List ℕ} {Ns : List Shape} {fs : List (Given → Stepper)} → MembersRight n Ps Os F A B js Ns fs → (i : ℕ) → w ≡ i + length js
        → StartedSaid (turn_cases n Ps Os B i js k) w v p all (t (given_value g c) s (mt, x))
    started-turn w {c} v p all s lw rv kp hall no_members i ew =
        let u = ht (given_value g c) (h.params ++ v ∷ h.olds) (value-scope rv) mt s x p xo fit kp rx in
        let part : Term = started_of (turn_of n Ps Os) in
        let within : Within part = record { ks = 2 ∷ 2 ∷ []; is = refl } in
        let e0 : Object = entry-object w v p all in
        let e1 : Object = entry-object w v u.state all in
        let f0 : List Object = here (state e0) (locals arr []) in
        let t0 : has_type (E n Ps Os F g qs h V M T) e0 ≡ true = yes-and (member-range w lw) (yes-and (has n rv) (yes-and (at-type n kp) hall)) in
        let t1 : has_type (E n Ps Os F g qs h V M T) e1 ≡ true = yes-and (member-range w lw) (yes-and (has n rv) (yes-and (keeps-type n u.keeps) hall)) in
        let reads = reads-append f0 part (params-read n Ps Os g qs h part within (state e0) d (two xo ie) (locals arr []))
        (reads_const {e = started_by (turn_of n Ps Os)} refl (eval-dot f0 (turn_of n Ps Os) e0 v 1 (turn-is e0 arr []) refl) (olds-read n Ps Os g qs h part within (state e0) d (two xo ie) (locals arr []))) in
        record {
          object = u.state;
          keeps = u.keeps;
          said = says k part (started_args n Ps Os) (h.params ++ v ∷ h.olds) e0 e1 p u.state u.answer reads refl (eval-dot f0 (turn_of n Ps Os) e0 p 2 (turn-is e0 arr []) refl) u.result
              (write-dot f0 (here (state e1) (locals arr [])) (turn_of n Ps Os) e0 e1 u.state 2 (turn-is e0 arr []) refl (write-turn e0 e1 arr [] t0 t1)) u.represents;
        }
    started-turn w {c} v p all s lw rv kp hall (one_member {j = j} {js = js} hj hs) i ew =
        let r = started-turn w v p all s lw rv kp hall hs (suc i) (omega arith) in
        record {
          object = r.object;
          keeps = r.keeps;
          said = passed-branch (turn_call n Ps Os B j (written_of i (turn_of n Ps Os)) (scope_args n Ps Os)) (turn_cases n Ps Os B (suc i) js k) i w v p all (entry-object w v r.object all) (omega arith) (omega arith) r.said;
        }

    abbrev turn-locals : Object → List Object → List Object
    turn-locals o us = count-object kept ∷ answers o ∷ count-object idx ∷ us

    record TurnSaid (js : List ℕ) (w : Origin) (e : Object) (r : Store × Datum) : Type 0 where
      object : Object
      array_is : Object
      more_locals : List Object
      keeps : (c : ℕ) → KeepsEntry n V M T (step c) w r.0 object
      list : AllRepresent n B (n B) (list_of (vs ++ r.1 ∷ [])) array_is
      runs : Runs F (turn_lines n Ps Os B js k) (here (state e) (turn-locals arr [])) (here (state object) (turn-locals array_is more_locals), None)

    abbrev less-counts : Option Object → Option Object → Option Object
    less-counts A B = bind A (λ v. bind B (λ w. operate less u32 v w))

    abbrev moment-term : Term
    moment-term = choice (binary less u32 (turn_index n Ps Os) (kept_local n Ps Os)) (local 1) (number_term 0)

    abbrev chosen-moment : Bool → Option Object
    chosen-moment c = choice_of (truth c) (Some d) (Some (number i64 (pos 0)))

    moment-line : (e : Object) → chosen-moment (nat_lt idx kept) ≡ Some (dt_object mt) → Runs F (define (number_type i64) moment-term) (here (state e) (turn-locals arr [])) (here (state e) (locals arr []), None)
    moment-line e em =
        let f : List Object = here (state e) (turn-locals arr []) in
        let i : Object = two xo ie in
        subst (λ u. Runs F (define (number_type i64) moment-term) f (u, None)) (counted n Ps Os F g qs h (state e) d i (turn-locals arr []) (dt_object mt))
        (defines F (number_type i64) moment-term f (dt_object mt)
        (ap (λ E. bind E (λ v. choice_of v (Some d) (Some (number i64 (pos 0)))))
        (ap₂ less-counts (register-is n Ps Os F g qs h (state e) d i (turn-locals arr []) 2 (count-object idx) refl) (register-is n Ps Os F g qs h (state e) d i (turn-locals arr []) 0 (count-object kept) refl)) ∙ em) refl (dt-range mt fit))

    members-count : {js : List ℕ} {Ns : List Shape} {fs : List (Given → Stepper)} → MembersRight n Ps Os F A B js Ns fs → written_count (members_shape Ns) ≡ length js
    members-count no_members = refl
    members-count (one_member hj hs) = ap suc (members-count hs)

    turn-said : {js : List ℕ} {fs : List (Given → Stepper)} {w : Origin} {s : Store} {e : Object} → MembersRight n Ps Os F A B js Ss fs → chosen-moment (nat_lt idx kept) ≡ Some (dt_object mt) → KeepsEntry n V M T mt w s e
        → TurnSaid js w e (member_step (map (λ f. f g) fs) (λ v. t (given_value g v)) w s (mt, x))
    turn-said hs em (written_kept {k = j} {s = s} {v = v} {t = p} {o = all} hv hp km) =
        let r = written-turn j v p all s (let u = member-below n km in omega arith) hv hp hs km 0 [] refl (plain j) refl (λ q u. u) in
        record {
          object = entry-object j v p r.all_is;
          array_is = r.said.array_is;
          more_locals = dt_object mt ∷ r.said.more_locals;
          keeps = λ c. written_kept hv hp (subst (KeepsMember n M (step c) j _) (sym r.is) (r.keeps c));
          list = r.said.list;
          runs = then-run F (moment-line (entry-object j v p all) em) r.said.runs;
        }
      where
        plain : (j : ℕ) → j ≡ 0 + j
        plain j = omega arith
    turn-said {js = js} hs em (made_kept {c = c} {s = s} {v = v} {t = p} {o = all} rv kp hall) =
        let r = started-turn (written_count M) v p all s few rv kp hall hs 0 (members-count hs ∙ plain (length js)) in
        record {
          object = entry-object (written_count M) v r.object all;
          array_is = r.said.array_is;
          more_locals = dt_object mt ∷ r.said.more_locals;
          keeps = λ c. made_kept rv (at_step r.keeps) hall;
          list = r.said.list;
          runs = then-run F (moment-line (entry-object (written_count M) v p all) em) r.said.runs;
        }
      where
        plain : (j : ℕ) → j ≡ 0 + j
        plain j = omega arith

module _ (n : Bounds) (Ps : List TypeTree) (Os : List Shape) (F : ℕ → Linked) (g : Given) (qs : List Object) (h : InScope n Ps Os g qs) (V : TypeTree) (Ss : List Shape) (T : Shape) (few : written_count (members_shape Ss) ≤ most_members)
    (A B : TypeTree) (k : ℕ) (t : Given → Stepper) (ht : Right n (Ps ++ V ∷ []) Os T A B t (F k)) (x : Datum) (xo ie : Object) (rx : Represents n A x xo) (m : Moment) (fm : MomentFits m) (js : List ℕ) (fs : List (Given → Stepper))
    (hs : MembersRight n Ps Os F A B js Ss fs) (count : ℕ) (z : Bool) (b : Object) (lc : count ≤ most_members) (hb : has_type (side-type n Ps Os F g qs h V (members_shape Ss) T) b ≡ true) (kept : ℕ) (room : most_members ≤ n B) where
  abbrev N : Shape
  N = members_shape Ss

  abbrev there : Object → List Object → List Object
  there o rs = spot n Ps Os F g qs h V N T o (dt_object m) (two xo ie) rs

  abbrev steps : Origin → Stepper
  steps = member_step (map (λ f. f g) fs) (λ v. t (given_value g v))

  -- the moment of the next turn
  record MomentIs (idx : ℕ) (mt : Moment) (ts : List Turn) : Type 0 where
    fits : MomentFits mt
    is : choice_of (truth (nat_lt idx kept)) (Some (dt_object m)) (Some (number i64 (pos 0))) ≡ Some (dt_object mt)
    others : AtMoments m (kept - suc idx) ts

  moment-is : (idx c : ℕ) (mt : Moment) (e : Entry) (ts : List Turn) → c ≡ kept - idx → AtMoments m c ((mt, e) ∷ ts) → MomentIs idx mt ts
  moment-is idx zero mt e ts ec am = record {
    fits = subst MomentFits (sym am.0) tt;
    is = ap (λ u. choice_of (truth u) (Some (dt_object m)) (Some (number i64 (pos 0)))) (no-more idx kept ec) ∙ ap (λ u. Some (dt_object u)) (sym am.0);
    others = subst (λ c. AtMoments m c ts) (still-none idx kept ec) am.1;
  }
  moment-is idx (suc c) mt e ts ec am = record {
    fits = subst MomentFits (sym am.0) fm;
    is = ap (λ u. choice_of (truth u) (Some (dt_object m)) (Some (number i64 (pos 0)))) (goes-on idx kept c ec) ∙ ap (λ u. Some (dt_object u)) (sym am.0);
    others = subst (λ c. AtMoments m c ts) (one-fewer idx kept c ec) am.1;
  }

  abbrev test : Term
  test = binary less u32 (turn_index n Ps Os) count_of

  abbrev answered : Object → Object
  answered o = two (count-object count) o

  abbrev before : Object → Object → List Object
  before a o = there (collection_object count z a b) (count-object kept ∷ answered o ∷ [])

  abbrev counting : ℕ → Object → Object → List Object
  counting j a o = there (collection_object count z a b) (count-object kept ∷ answered o ∷ count-object j ∷ [])

  abbrev one-less : Option Object → Option Object
  one-less A = bind A (λ v. operate less u32 v (count-object count))

  test-is : (j : ℕ) (a o : Object) → eval (counting j a o) test ≡ Some (truth (nat_lt j count))
  test-is j a o = ap one-less (register-is n Ps Os F g qs h (collection_object count z a b) (dt_object m) (two xo ie) (count-object kept ∷ answered o ∷ count-object j ∷ []) 2 (count-object j) refl)

  pub record TurnsSaid (l j : ℕ) (front : List Object) (o arr : Object) (vs : List Datum) (r : List Entry × List Datum) : Type 0 where
    pub side_is : Object
    pub array_is : Object
    pub keeps : (c : ℕ) → KeepsTurns n V N T l (turns (step c) r.0) side_is
    pub list : AllRepresent n B (n B) (list_of (vs ++ r.1)) array_is
    pub loops : the-loop F test (turn_lines n Ps Os B js k) l j (before (stack front o) arr) ≡ Some (before (stack front side_is) array_is, None)

  pub turns-said : (l : ℕ) {ts : List Turn} {o : Object} → KeepsTurns n V N T l ts o → (j : ℕ) (front : List Object) (arr : Object) (vs : List Datum) → j ≡ length front → length vs ≡ j → count ≡ j + length ts → j + l ≡ most_members
      → AllRepresent n B (n B) (list_of vs) arr → AtMoments m (kept - j) ts
      → ((p : Object) → each_has (has_type (E n Ps Os F g qs h V N T)) l p ≡ true → has_type (side-type n Ps Os F g qs h V N T) (stack front p) ≡ true)
      → TurnsSaid l j front o arr vs (turns_step steps ts x)
  turns-said zero (no_turn {o = o} e) j front arr vs ej lv ec el ra am fits =
      record { side_is = o; array_is = arr; keeps = λ c. no_turn e; list = subst (λ us. AllRepresent n B (n B) (list_of us) arr) (sym (append-nil vs)) ra; loops = refl }
  turns-said (suc l) (no_turn {o = o} e) j front arr vs ej lv ec el ra am fits = record {
    side_is = o;
    array_is = arr;
    keeps = λ c. no_turn e;
    list = subst (λ us. AllRepresent n B (n B) (list_of us) arr) (sym (append-nil vs)) ra;
    loops = stops F test (turn_lines n Ps Os B js k) l j (before (stack front o) arr) (counting j (stack front o) arr)
        (counted n Ps Os F g qs h (collection_object count z (stack front o) b) (dt_object m) (two xo ie) (count-object kept ∷ answered arr ∷ []) (count-object j))
        (test-is j (stack front o) arr ∙ ap (λ u. Some (truth u)) (past-last j count ec));
  }
  turns-said (suc l) (one_turn {m = mt} {w = w} {s = s} {ts = ts} {e = e} {o = rest} ke h1) j front arr vs ej lv ec el ra am fits =
      let mi = moment-is j (kept - j) mt (w, s) ts refl am in
      let hr = turns-type n few h1 in
      let hf : (y : Object) → has_type (E n Ps Os F g qs h V N T) y ≡ true → has_type (side-type n Ps Os F g qs h V N T) (stack front (more y rest)) ≡ true = λ y ty. fits (more y rest) (yes-and ty hr) in
      let r = turn-said n Ps Os F g qs h V Ss T few A B k t ht x xo ie m rx count z b front rest j ej kept mt mi.fits arr vs lc hb hf ra lv (omega arith) hs mi.is ke in
      let v : Datum = (steps w s (mt, x)).1 in
      let e1 : Object = r.object in
      let te : has_type (E n Ps Os F g qs h V N T) e1 ≡ true = entry-has n few (r.keeps 0) in
      let q = turns-said l h1 (suc j) (front ++ e1 ∷ []) r.array_is (vs ++ (steps w s (mt, x)).1 ∷ []) (longer front e1 j ej) (sym (one-longer vs (steps w s (mt, x)).1) ∙ ap suc lv) (omega arith) (omega arith) r.list mi.others
      (λ y ty. ap (has_type (side-type n Ps Os F g qs h V N T)) (stack-append front e1 y) ∙ fits (more e1 y) (yes-and te ty)) in
      let us1 : List Object = count-object kept ∷ answered arr ∷ [] in
      let us2 : List Object = count-object kept ∷ answered r.array_is ∷ [] in
      let o0 : Object = collection_object count z (stack front (more e rest)) b in
      let o1 : Object = collection_object count z (stack front (more e1 rest)) b in
      record {
        side_is = more e1 q.side_is;
        array_is = q.array_is;
        keeps = λ c. one_turn (r.keeps c) (q.keeps c);
        list = subst (λ us. AllRepresent n B (n B) (list_of us) q.array_is) (append_assoc vs ((steps w s (mt, x)).1 ∷ []) (turns_step steps ts x).1) q.list;
        loops = goes-round F test (turn_lines n Ps Os B js k) l j (before (stack front (more e rest)) arr) (counting j (stack front (more e rest)) arr) (before (stack front (more e1 rest)) r.array_is)
            (count-object j ∷ r.more_locals) (before (stack front (more e1 q.side_is)) q.array_is)
            (counted n Ps Os F g qs h o0 (dt_object m) (two xo ie) us1 (count-object j))
            (test-is j (stack front (more e rest)) arr ∙ ap (λ u. Some (truth u)) (is-next j (length ts) count ec))
            (subst (λ u. Runs F (turn_lines n Ps Os B js k) (counting j (stack front (more e rest)) arr) (u, None)) (sym (further n Ps Os F g qs h o1 (dt_object m) (two xo ie) us2 (count-object j ∷ r.more_locals))) r.runs)
            (as-long n Ps Os F g qs h o0 o1 (dt_object m) (two xo ie) us1 us2 refl)
            (subst (λ y. the-loop F test (turn_lines n Ps Os B js k) l (suc j) (before y r.array_is) ≡ Some (before (stack front (more e1 q.side_is)) q.array_is, None)) (stack-append front e1 rest)
            (subst (λ y. the-loop F test (turn_lines n Ps Os B js k) l (suc j) (before (stack (front ++ e1 ∷ []) rest) r.array_is) ≡ Some (before y q.array_is, None)) (stack-append front e1 q.side_is) q.loops));
      }
