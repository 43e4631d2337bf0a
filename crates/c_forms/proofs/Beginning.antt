-- At the first sample a collection's written members run.
use Rattle.std.proofs.Common.{◌≡◌, ◌≤◌, ◌+◌, ℕ, zero, suc, pos, true, false, List, [], ◌∷◌, ◌++◌, length, None, refl, subst, sym, ap, ap₂, ◌∙◌, arith}
use Rattle.sample_core.specs.TypeTree.{TypeTree}
use Rattle.leaf_code.specs.Fitting.{Bounds}
use Rattle.net_machine.specs.Store.{nothing}
use Rattle.net_machine.specs.Stepper.{Stepper, new_turns, written_from}
use Rattle.net_code.specs.Running.{Given}
use Rattle.c_meaning.specs.Object.{CType, number_type, member, no_member, array, u32, Object, number, end, more, has_type, each_has, part_of, with_part}
use Rattle.c_meaning.specs.Syntax.{at}
use Rattle.c_meaning.specs.Meaning.{Linked}
use Rattle.c_meaning.proofs.Wrapping.{check-yes}
use Rattle.c_meaning.proofs.Alike.{no, yes-and}
use Rattle.c_meaning.proofs.Runs.{Runs, then-run, assigns, skips}
use Rattle.c_leaf.specs.Representing.{c_type}
use Rattle.c_forms.specs.Keeping.{Shape, shape_type, most_members, collection_object, KeepsTurns, no_turn, one_turn, written_kept}
use Rattle.c_forms.specs.Standing.{InScope}
use Rattle.c_forms.specs.Members.{members_shape}
use Rattle.c_forms.specs.Collection.{count_term, count_of, side_of, running_of, origin_of, origins, beginning}
use Rattle.c_forms.proofs.Reading.{longer}
use Rattle.c_forms.proofs.Lines.{member-range, front-of, nothing-there, write-state}
use Rattle.c_forms.proofs.Members.{stack, stack-part, stack-with, stack-append}
use Rattle.c_forms.proofs.Turns.{member-starts}
use Rattle.c_forms.proofs.Sides.{E, all-type, side-type, spot, all-has, write-running, eval-at, write-at, write-dot, entry-parts}

module _ (n : Bounds) (Ps : List TypeTree) (Os : List Shape) (F : ℕ → Linked) (g : Given) (qs : List Object) (h : InScope n Ps Os g qs) (V : TypeTree) (Ss : List Shape) (T : Shape) where
  abbrev M : Shape
  M = members_shape Ss

  abbrev here : Object → Object → Object → List Object → List Object
  here o d i rs = spot n Ps Os F g qs h V M T o d i rs

  record Begun (c : ℕ) (b d i : Object) (rs : List Object) (l k : ℕ) (fs : List Stepper) (pre : List Object) (a : Object) : Type 0 where
    array_is : Object
    runs : Runs F (origins k (length fs)) (here (collection_object c false (stack pre a) b) d i rs) (here (collection_object c false (stack pre array_is) b) d i rs, None)
    keeps : KeepsTurns n V M T l (new_turns (written_from k fs)) array_is

  origins-run : (c : ℕ) (b d i : Object) (rs : List Object) → c ≤ most_members → has_type (side-type n Ps Os F g qs h V M T) b ≡ true → (l k : ℕ) (fs : List Stepper) (pre : List Object) (a : Object) → k ≡ length pre
      → k + length fs ≡ length Ss → length Ss ≤ most_members → length fs ≤ l → each_has (has_type (E n Ps Os F g qs h V M T)) l a ≡ true
      → ((p : Object) → each_has (has_type (E n Ps Os F g qs h V M T)) l p ≡ true → has_type (side-type n Ps Os F g qs h V M T) (stack pre p) ≡ true) → Begun c b d i rs l k fs pre a
  origins-run c b d i rs lc hb l k [] pre a ek es lm ll ha fit = record { array_is = a; runs = skips F; keeps = no_turn ha }
  origins-run c b d i rs lc hb zero k (f ∷ fs) pre a ek es lm ll ha fit = absurd (omega arith)
  origins-run c b d i rs lc hb (suc l) k (f ∷ fs) pre a ek es lm ll ha fit =
      let m1 = front-of (E n Ps Os F g qs h V M T) (array l (E n Ps Os F g qs h V M T)) a ha in
      let p = entry-parts (c_type n V) (shape_type n T) (shape_type n M) m1.a m1.has_a in
      let x0 : Object = more p.origin (more p.by (more p.taker p.all)) in
      let x1 : Object = more (number u32 (pos k)) (more p.by (more p.taker p.all)) in
      let lk : k ≤ 64 = omega arith in
      let t1 : has_type (E n Ps Os F g qs h V M T) x1 ≡ true = yes-and (member-range k lk) (yes-and p.has_by (yes-and p.has_taker p.has_all)) in
      let t0 : has_type (E n Ps Os F g qs h V M T) x0 ≡ true = yes-and p.has_origin (yes-and p.has_by (yes-and p.has_taker p.has_all)) in
      let s0 : Object = stack pre (more x0 m1.b) in
      let s1 : Object = stack pre (more x1 m1.b) in
      let f0 : List Object = here (collection_object c false s0 b) d i rs in
      let f1 : List Object = here (collection_object c false s1 b) d i rs in
      let ev = check-yes u32 (pos k) (member-range k lk) in
      let w1 = write-running n Ps Os F g qs h V M T c false s0 b s1 d i rs lc (fit (more x0 m1.b) (yes-and t0 m1.has_b)) hb (fit (more x1 m1.b) (yes-and t1 m1.has_b)) in
      let w2 = write-at f0 f1 running_of (count_term k) s0 s1 x1 k refl ev (ap (λ j. with_part s0 j x1) ek ∙ stack-with pre x0 m1.b x1) w1 in
      let line = assigns F (origin_of (at running_of (count_term k))) (count_term k) f0 f1 (number u32 (pos k)) ev refl
      (write-dot f0 f1 (at running_of (count_term k)) x0 x1 (number u32 (pos k)) 0 (eval-at f0 running_of (count_term k) s0 x0 k refl ev (ap (part_of s0) ek ∙ stack-part pre x0 m1.b)) refl w2) in
      let r = origins-run c b d i rs lc hb l (suc k) fs (pre ++ x1 ∷ []) m1.b (longer pre x1 k ek) (omega arith) lm (omega arith) m1.has_b
      (λ q t. ap (has_type (side-type n Ps Os F g qs h V M T)) (stack-append pre x1 q) ∙ fit (more x1 q) (yes-and t1 t)) in
      let same : a ≡ more x0 m1.b = m1.is ∙ ap (λ y. more y m1.b) p.is in
      record {
        array_is = more x1 r.array_is;
        runs = subst (λ y. Runs F (origins k (suc (length fs))) (here (collection_object c false (stack pre y) b) d i rs) (here (collection_object c false (stack pre (more x1 r.array_is)) b) d i rs, None)) (sym same)
            (then-run F line
            (subst (λ y. Runs F (origins (suc k) (length fs)) (here (collection_object c false y b) d i rs) (here (collection_object c false (stack pre (more x1 r.array_is)) b) d i rs, None)) (stack-append pre x1 m1.b)
            (subst (λ y. Runs F (origins (suc k) (length fs)) (here (collection_object c false (stack (pre ++ x1 ∷ []) m1.b) b) d i rs) (here (collection_object c false y b) d i rs, None)) (stack-append pre x1 r.array_is) r.runs)));
        keeps = one_turn (written_kept p.has_by p.has_taker (member-starts n Ss k nothing p.all (omega arith) p.has_all)) r.keeps;
      }

  -- the whole, from a state of its type
  pub record Started (o d i : Object) (rs : List Object) (fs : List Stepper) : Type 0 where
    pub a : Object
    pub b : Object
    pub first : Object
    pub is : o ≡ first
    pub runs : Runs F (beginning (length fs)) (here first d i rs) (here (collection_object (length fs) false a b) d i rs, None)
    pub keeps : KeepsTurns n V M T most_members (new_turns (written_from 0 fs)) a
    pub has_b : has_type (side-type n Ps Os F g qs h V M T) b ≡ true

  pub begins : (o d i : Object) (rs : List Object) (fs : List Stepper) → length fs ≡ length Ss → length Ss ≤ most_members → has_type (all-type n Ps Os F g qs h V M T) o ≡ true → Started o d i rs fs
  begins o d i rs fs ef lm t =
      let S : CType = side-type n Ps Os F g qs h V M T in
      let N : CType = all-type n Ps Os F g qs h V M T in
      let m1 = front-of (number_type u32) (member (number_type u32) (member (array 2 (side-type n Ps Os F g qs h V M T)) no_member)) o t in
      let m2 = front-of (number_type u32) (member (array 2 (side-type n Ps Os F g qs h V M T)) no_member) m1.b m1.has_b in
      let m3 = front-of (array 2 (side-type n Ps Os F g qs h V M T)) no_member m2.b m2.has_b in
      let m4 = front-of (side-type n Ps Os F g qs h V M T) (array 1 (side-type n Ps Os F g qs h V M T)) m3.a m3.has_a in
      let m5 = front-of (side-type n Ps Os F g qs h V M T) (array 0 (side-type n Ps Os F g qs h V M T)) m4.b m4.has_b in
      let c : ℕ = length fs in
      let lc : length fs ≤ most_members = omega arith in
      let o0 : Object = more m1.a (more m2.a (more (more m4.a (more m5.a end)) end)) in
      let o1 : Object = more (number u32 (pos c)) (more m2.a (more (more m4.a (more m5.a end)) end)) in
      let o2 : Object = collection_object c false m4.a m5.a in
      let sides : has_type (array 2 (side-type n Ps Os F g qs h V M T)) (more m4.a (more m5.a end)) ≡ true = yes-and m4.has_a (yes-and m5.has_a refl) in
      let t0 : has_type (all-type n Ps Os F g qs h V M T) o0 ≡ true = yes-and m1.has_a (yes-and m2.has_a (yes-and sides refl)) in
      let t1 : has_type (all-type n Ps Os F g qs h V M T) o1 ≡ true = yes-and (member-range c lc) (yes-and m2.has_a (yes-and sides refl)) in
      let t2 : has_type (all-type n Ps Os F g qs h V M T) o2 ≡ true = all-has n Ps Os F g qs h V M T c false m4.a m5.a lc m4.has_a m5.has_a in
      let r = origins-run c m5.a d i rs lc m5.has_a most_members 0 fs [] m4.a refl (ef' (length fs) ef) lm lc m4.has_a (λ p u. u) in
      let one-line = assigns F count_of (count_term c) (here o0 d i rs) (here o1 d i rs) (number u32 (pos c)) (check-yes u32 (pos c) (member-range c lc)) refl (write-state n Ps Os F g qs h N o0 o1 d i rs t0 t1) in
      let two-line = assigns F side_of (count_term 0) (here o1 d i rs) (here o2 d i rs) (number u32 (pos 0)) refl refl (write-state n Ps Os F g qs h N o1 o2 d i rs t1 t2) in
      record {
        a = r.array_is;
        b = m5.a;
        first = o0;
        is = m1.is ∙ ap (more m1.a) (m2.is ∙ ap (more m2.a) (m3.is ∙ ap₂' (m4.is ∙ ap (more m4.a) (m5.is ∙ ap (more m5.a) (nothing-array m5.b m5.has_b))) (nothing-there m3.b m3.has_b)));
        runs = then-run F one-line (then-run F two-line r.runs);
        keeps = r.keeps;
        has_b = m5.has_a;
      }
    where
      ef' : (k : ℕ) → k ≡ length Ss → 0 + k ≡ length Ss
      ef' k e = omega arith

      ap₂' : {a b c d : Object} → a ≡ b → c ≡ d → more a c ≡ more b d
      ap₂' e f = ap₂ more e f

      nothing-array : (o : Object) → each_has (has_type (side-type n Ps Os F g qs h V M T)) 0 o ≡ true → o ≡ end
      nothing-array end e = refl
      nothing-array _ e = no e
