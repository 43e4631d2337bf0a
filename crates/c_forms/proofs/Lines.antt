-- Lines of the C functions of forms.
use Rattle.std.proofs.Common.{◌≡◌, ◌<◌, ◌≤◌, ◌^◌, ℕ, suc, pos, Bool, true, false, ◌&&◌, List, [], ◌∷◌, ◌++◌, length, take, Option, Some, None, refl, subst, sym, ap, ◌∙◌, arith, append_assoc, append-nil}
use Rattle.std.specs.Prelude.{slice_get, if◌then◌else◌}
use Rattle.std.specs.Ordering.{int_eq}
use Rattle.sample_core.specs.Datum.{Datum}
use Rattle.sample_core.specs.TypeTree.{TypeTree}
use Rattle.leaf_code.specs.Fitting.{Bounds}
use Rattle.net_machine.specs.Store.{Moment, start, step, Origin, Store, Entry}
use Rattle.net_machine.specs.Stepper.{Turn, turns}
use Rattle.net_code.specs.Running.{Kept, Given, first_or}
use Rattle.c_meaning.specs.Object.{CType, no_member, member, array, i64, u32, u64, Object, truth, number, end, more, in_range, has_type, each_has}
use Rattle.c_meaning.specs.Syntax.{Term, local, choice, Command, define, refer, branch, answer}
use Rattle.c_meaning.specs.Meaning.{Frame, Linked, eval, basic_in, basic_of, choice_of, replaced, write, path, apart, all_have, steady, function_run}
use Rattle.c_meaning.proofs.Wrapping.{small-signed}
use Rattle.c_meaning.proofs.Alike.{no, yes-and, left-yes, right-yes, alike}
use Rattle.c_meaning.proofs.Choices.{choice-like}
use Rattle.c_meaning.proofs.Runs.{Runs, defines, gives-back, chooses-first, chooses-second, function-runs, take-front}
use Rattle.c_leaf.specs.Representing.{two, two_types, c_type, Represents}
use Rattle.c_leaf.specs.LeafC.{is_struct, part_command, const_params}
use Rattle.c_leaf.specs.LeafCLaw.{Computes, IsConstant}
use Rattle.c_leaf.proofs.Values.{has}
use Rattle.c_leaf.proofs.Same.{set-object}
use Rattle.c_leaf.proofs.Operations.{refers}
use Rattle.c_leaf.proofs.LeafC.{params-have}
use Rattle.c_forms.specs.Keeping.{Shape, shape_type, entry_type, written_count, most_members, side_number, two_sides, KeepsTurns, no_turn, one_turn, KeepsEntry, written_kept, made_kept, KeepsMember, this_member, later_member, collection_kept, cell_type, HoldsCell, holds_previous, holds_latest, holds_accumulator, holds_waiting, holds_over, holds_recurring, holds_time, holds_sum, holds_queue, HoldsRing, delay_type, Keeps, nothing_kept, cell_kept, both_kept, member_kept, fed_kept, front_kept, taker_kept, frozen_kept, KeepsAt, at_start, at_step, dt_of, dt_object, MomentFits}
use Rattle.c_forms.specs.Ring.{Ring}
use Rattle.c_forms.specs.Standing.{Frozen, none_frozen, one_frozen, InScope, old_params, is_first, behind, part_call, leaf_call, constant_call, stepping}
use Rattle.c_forms.proofs.Reading.{reads_none, reads_const, reads_value, reads-append, read-call, write-call, Within, frame, register-at, params-read, scope-reads}
use Rattle.c_meaning.proofs.Wrapping.{fits-range}

pub dt-range : (m : Moment) → MomentFits m → in_range i64 (pos (dt_of m)) ≡ true
dt-range start w = refl
dt-range (step d) w = small-signed d w.1

time-range : (left : ℕ) → left ≤ 2 ^ 62 → in_range i64 (pos left) ≡ true
time-range left l = small-signed left (omega arith)

pub member-range : (k : ℕ) → k ≤ 64 → in_range u32 (pos k) ≡ true
member-range k l = grind arith

pub side-range : (z : Bool) → in_range u32 (pos (side_number z)) ≡ true
side-range false = refl
side-range true = refl

pub sides-have : (A : CType) (z : Bool) (a b : Object) → has_type A a ≡ true → has_type A b ≡ true → has_type (array 2 A) (two_sides z a b) ≡ true
sides-have A false a b ha hb = yes-and ha (yes-and hb refl)
sides-have A true a b ha hb = yes-and hb (yes-and ha refl)

module _ (n : Bounds) where
  pub ring-type : {q : ℕ} {V : TypeTree} {r : Ring} {o : Object} → HoldsRing n q V r o → q < 2 ^ 32 → has_type (delay_type (c_type n V) q) o ≡ true
  ring-type {q} {V} {r} {o} h l =
      let hs : r.size ≤ q = h.size in
      let hh : r.head < q = h.head in
      ap (has_type (delay_type (c_type n V) q)) h.is
      ∙ yes-and {a = in_range u64 (pos r.now)} (wide-range r.now h.now)
      (yes-and (has n h.is_out)
      (yes-and {a = in_range u32 (pos r.head)} (count-range r.head (omega arith))
      (yes-and {a = in_range u32 (pos r.size)} (count-range r.size (omega arith)) (yes-and h.times_type (yes-and h.values_type refl)))))
    where
      wide-range : (k : ℕ) → k < 2 ^ 64 → in_range u64 (pos k) ≡ true
      wide-range k h = grind arith

      count-range : (k : ℕ) → k < 2 ^ 32 → in_range u32 (pos k) ≡ true
      count-range k h = grind arith

  pub cell-has : {V : TypeTree} {form : Rattle.cell_core.specs.declared.form.Form.Form} {k : Rattle.cell_core.specs.Cell.Cell} {o : Object} → HoldsCell n V form k o → has_type (cell_type n form V) o ≡ true
  cell-has (holds_previous h) = yes-and (has n h) refl
  cell-has (holds_latest h) = yes-and (has n h) refl
  cell-has (holds_accumulator h) = yes-and (has n h) refl
  cell-has (holds_waiting {left = left} l h) = yes-and refl (yes-and (time-range left l) (yes-and (has n h) refl))
  cell-has (holds_over z o) = yes-and refl (yes-and z (yes-and o refl))
  cell-has (holds_recurring {left = left} k l h) = yes-and (time-range left (omega arith)) (yes-and (has n h) refl)
  cell-has (holds_time {z = z} f) = yes-and (fits-range z f) refl
  cell-has (holds_sum {z = z} {before = b} f g) = yes-and (fits-range z f) (yes-and (fits-range b g) refl)
  cell-has (holds_queue l h s w) = ring-type h l

  -- a written member's number is below their count
  pub member-below : {M : Shape} {m : Moment} {k : ℕ} {s : Store} {o : Object} → KeepsMember n M m k s o → k < written_count M
  member-below (this_member h t) = omega arith
  member-below (later_member t h) = let r = member-below h in omega arith

  pub turns-length : {V : TypeTree} {M T : Shape} {k : ℕ} {ts : List Turn} {o : Object} → KeepsTurns n V M T k ts o → length ts ≤ k
  turns-length (no_turn e) = omega arith
  turns-length (one_turn k h) = let r = turns-length h in omega arith

  pub length-turns : (m : Moment) (es : List Entry) → length (turns m es) ≡ length es
  length-turns m [] = refl
  length-turns m (e ∷ es) = ap suc (length-turns m es)

  mutual
    pub keeps-type : {S : Shape} {s : Store} {o : Object} → Keeps n S s o → has_type (shape_type n S) o ≡ true
    keeps-type nothing_kept = refl
    keeps-type (cell_kept h) = cell-has h
    keeps-type (both_kept h k) = yes-and (keeps-type h) (yes-and (keeps-type k) refl)
    keeps-type (member_kept h k) = yes-and (keeps-type h) (keeps-type k)
    keeps-type (fed_kept h k) = yes-and (has n h) (yes-and (keeps-type k) refl)
    keeps-type (front_kept v h k) = yes-and refl (yes-and v (yes-and (keeps-type h) (yes-and k refl)))
    keeps-type (taker_kept v h k) = yes-and refl (yes-and (has n v) (yes-and h (yes-and (keeps-type k) refl)))
    keeps-type (frozen_kept {m = m} w h k) = yes-and (dt-range m w) (yes-and (at-type h) (yes-and (keeps-type k) refl))
    keeps-type (collection_kept {V = V} {M = M} {T = T} es z a b l h t) =
        yes-and (member-range (length es) (subst (λ k. k ≤ most_members) (length-turns (step 0) es) (turns-length (h 0)))) (yes-and (side-range z) (yes-and (sides-have (array most_members (entry_type (c_type n V) (shape_type n T) (shape_type n M))) z a b (turns-type l (h 0)) t) refl))

    -- so many members, of which few are written
    pub turns-type : {V : TypeTree} {M T : Shape} {k : ℕ} {ts : List Turn} {o : Object} → written_count M ≤ most_members → KeepsTurns n V M T k ts o
        → each_has (has_type (entry_type (c_type n V) (shape_type n T) (shape_type n M))) k o ≡ true
    turns-type l (no_turn e) = e
    turns-type l (one_turn k h) = yes-and (entry-has l k) (turns-type l h)

    pub entry-has : {V : TypeTree} {M T : Shape} {m : Moment} {w : Origin} {s : Store} {o : Object} → written_count M ≤ most_members → KeepsEntry n V M T m w s o
        → has_type (entry_type (c_type n V) (shape_type n T) (shape_type n M)) o ≡ true
    entry-has l (written_kept {k = k} a b h) = yes-and (member-range k (let u = member-below h in omega arith)) (yes-and a (yes-and b (member-has h)))
    entry-has {M = M} l (made_kept r k t) = yes-and (member-range (written_count M) l) (yes-and (has n r) (yes-and (at-type k) t))

    pub member-has : {M : Shape} {m : Moment} {k : ℕ} {s : Store} {o : Object} → KeepsMember n M m k s o → has_type (shape_type n M) o ≡ true
    member-has (this_member h t) = yes-and (at-type h) t
    member-has (later_member t h) = yes-and t (member-has h)

    pub at-type : {m : Moment} {S : Shape} {s : Store} {o : Object} → KeepsAt n m S s o → has_type (shape_type n S) o ≡ true
    at-type (at_start e) = e
    at-type (at_step h) = keeps-type h

  olds-have : {Os : List Shape} {ks : List Kept} {os : List Object} → Frozen n Os ks os → all_have (old_params n Os) os ≡ true
  olds-have none_frozen = refl
  olds-have (one_frozen {m = m} f a h) = yes-and (at-type a) (yes-and (dt-range m f) (olds-have h))

pub not-first : (d : ℕ) → 1 ≤ d → int_eq (pos d) (pos 0) ≡ false
not-first d l = grind arith

-- the parts of a struct, by its type
pub record Halves (A B : CType) (o : Object) : Type 0 where
  pub a : Object
  pub b : Object
  pub is : o ≡ two a b
  pub has_a : has_type A a ≡ true
  pub has_b : has_type B b ≡ true

pub halves : (A B : CType) (o : Object) → has_type (two_types A B) o ≡ true → Halves A B o
halves A B (more a (more b end)) e =
    record { a = a; b = b; is = refl; has_a = left-yes (has_type A a) (has_type B b && true) e; has_b = left-yes (has_type B b) true (right-yes (has_type A a) (has_type B b && true) e) }
halves A B (more a (more b _)) e = no (right-yes (has_type B b) false (right-yes (has_type A a) (has_type B b && false) e))
halves A B (more a _) e = no (right-yes (has_type A a) false e)
halves A B _ e = no e

-- one member in front of others
pub record Front (A B : CType) (o : Object) : Type 0 where
  pub a : Object
  pub b : Object
  pub is : o ≡ more a b
  pub has_a : has_type A a ≡ true
  pub has_b : has_type B b ≡ true

pub front-of : (A B : CType) (o : Object) → has_type (member A B) o ≡ true → Front A B o
front-of A B (more a b) e = record { a = a; b = b; is = refl; has_a = left-yes (has_type A a) (has_type B b) e; has_b = right-yes (has_type A a) (has_type B b) e }
front-of A B _ e = no e

pub nothing-there : (o : Object) → has_type no_member o ≡ true → o ≡ end
nothing-there end e = refl
nothing-there _ e = no e

module _ (n : Bounds) (Ps : List TypeTree) (Os : List Shape) (F : ℕ → Linked) (g : Given) (qs : List Object) (h : InScope n Ps Os g qs) where
  -- the locals
  abbrev pub at : Object → Object → Object → List Object → Frame
  at o d i rs = frame n Ps Os g qs h o d i rs

  again : (o d i : Object) (rs : List Object) (y : Object) → at o d i rs ++ y ∷ [] ≡ at o d i (rs ++ y ∷ [])
  again o d i rs y = ap (λ (us : List Object). o ∷ d ∷ i ∷ us) (append_assoc qs rs (y ∷ []))

  pub register-is : (o d i : Object) (rs : List Object) (k : ℕ) (y : Object) → slice_get rs k ≡ Some y → eval (at o d i rs) (behind n Ps Os k) ≡ Some y
  register-is o d i rs k y e = register-at n Ps Os g qs h o d i rs k ∙ e

  pub define-line : (T : TypeTree) (e : Term) (o d i : Object) (rs : List Object) {v : Datum} {z : Object} → eval (at o d i rs) e ≡ Some z → Represents n T v z
      → Runs F (define (c_type n T) e) (at o d i rs) (at o d i (rs ++ z ∷ []), None)
  define-line T e o d i rs {v} {z} k r =
      subst (λ f. Runs F (define (c_type n T) e) (at o d i rs) (f, None)) (again o d i rs z) (defines F (c_type n T) e (at o d i rs) z k (set-object n r) (has n r))

  -- the same of a part
  pub refer-line : (T : TypeTree) (e : Term) (o d i : Object) (rs : List Object) {v : Datum} {z : Object} → eval (at o d i rs) e ≡ Some z → Represents n T v z
      → Runs F (part_command n T e) (at o d i rs) (at o d i (rs ++ z ∷ []), None)
  refer-line T e o d i rs {v} {z} k r = by-struct (is_struct T)
    where
      by-struct : (b : Bool) → Runs F (if b then refer (c_type n T) e else define (c_type n T) e) (at o d i rs) (at o d i (rs ++ z ∷ []), None)
      by-struct true = subst (λ f. Runs F (refer (c_type n T) e) (at o d i rs) (f, None)) (again o d i rs z) (refers F (c_type n T) e (at o d i rs) z k (has n r))
      by-struct false = define-line T e o d i rs k r

  pub answer-line : (e : Term) (o d i : Object) (rs : List Object) {T : TypeTree} {v : Datum} {z : Object} → eval (at o d i rs) e ≡ Some z → Represents n T v z
      → Runs F (answer e) (at o d i rs) (at o d i rs, Some z)
  answer-line e o d i rs {z = z} k r = gives-back F e (at o d i rs) z k (set-object n r)

  -- the state is written
  pub write-state : (T : CType) (o v d i : Object) (rs : List Object) → has_type T o ≡ true → has_type T v ≡ true → replaced (at o d i rs) 0 o v ≡ Some (at v d i rs)
  write-state T o v d i rs a b = ap (λ z. if z then Some (at v d i rs) else None) (alike T o v a b)

  pub constant-line : (T : TypeTree) (c : ℕ) (v : List Datum → Datum) (o d i : Object) (rs : List Object) (k : IsConstant n Ps T v (F c))
      → (y : Object) × Runs F (constant_call n Ps Os T c) (at o d i rs) (at o d i (rs ++ y ∷ []), None) × Represents n T (v g.params) y
  constant-line T c v o d i rs k =
      let a = k g.params h.params h.are_params in (
        a.object,
        subst (λ f. Runs F (constant_call n Ps Os T c) (at o d i rs) (f, None)) (again o d i rs a.object)
            (read-call (at o d i rs) (local 0) F (c_type n T) c a.object (params-read n Ps Os g qs h (local 0) (record { ks = []; is = refl }) o d i rs) a.result (has n a.represents)),
        a.represents,
      )

  pub leaf-line : (A T : TypeTree) (c : ℕ) (v : List Datum → Datum → Datum) (e : Term) (o d i : Object) (rs : List Object) {u : Datum} {z : Object} (k : Computes n Ps A T v (F c))
      → apart (0 ∷ []) (path e) ≡ true → eval (at o d i rs) e ≡ Some z → Represents n A u z
      → (y : Object) × Runs F (leaf_call n Ps Os T c e) (at o d i rs) (at o d i (rs ++ y ∷ []), None) × Represents n T (v g.params u) y
  leaf-line A T c v e o d i rs {u} {z} k w ez r =
      let a = k g.params u h.params z h.are_params r in (
        a.object,
        subst (λ f. Runs F (leaf_call n Ps Os T c e) (at o d i rs) (f, None)) (again o d i rs a.object)
            (read-call (at o d i rs) (local 0) F (c_type n T) c a.object
            (reads-append (at o d i rs) (local 0) (params-read n Ps Os g qs h (local 0) (record { ks = []; is = refl }) o d i rs) (reads_const w ez reads_none)) a.result (has n a.represents)),
        a.represents,
      )

  -- a part's function is called
  pub part-line : (T : TypeTree) (j : ℕ) (part e : Term) (k : ℕ) (o i : Object) (rs : List Object) (a y p q r : Object) {v : Datum}
      → let d : Object = number i64 (pos k) in
      Within part → apart (path part) (path e) ≡ true → eval (at o d i rs) part ≡ Some a → eval (at o d i rs) e ≡ Some y
      → F j (a ∷ d ∷ y ∷ qs) ≡ Some (p ∷ d ∷ y ∷ qs, r) → write (at o d i rs) part p ≡ Some (at q d i rs) → Represents n T v r
      → Runs F (part_call n Ps Os T j part e) (at o d i rs) (at q d i (rs ++ r ∷ []), None)
  part-line T j part e k o i rs a y p q r w x ea ey c u t =
      let d : Object = number i64 (pos k) in
      subst (λ f. Runs F (part_call n Ps Os T j part e) (at o d i rs) (f, None)) (again q d i rs r)
      (write-call (at o d i rs) part F (c_type n T) j (at q d i rs) a p r (reads_value refl (reads_const x ey (scope-reads n Ps Os g qs h part w o d i rs))) ea c u (has n t))

  -- a block leaves the locals that were there
  block : (o d i : Object) (rs ms : List Object) (p : Object) → take (length (at o d i rs)) (at p d i (rs ++ ms)) ≡ at p d i rs
  block o d i rs ms p = ap (λ (us : List Object). take (length (p ∷ d ∷ i ∷ (qs ++ rs))) (p ∷ d ∷ i ∷ us)) (sym (append_assoc qs rs ms)) ∙ take-front (p ∷ d ∷ i ∷ (qs ++ rs)) ms

  pub yes-line : (a b : Command) (c : Term) (o d i : Object) (rs ms : List Object) (p : Object) (r : Option Object) → eval (at o d i rs) c ≡ Some (truth true) → Runs F a (at o d i rs) (at p d i (rs ++ ms), r)
      → Runs F (branch c a b) (at o d i rs) (at p d i rs, r)
  yes-line a b c o d i rs ms p r e k =
      subst (λ f. Runs F (branch c a b) (at o d i rs) (f, r)) (block o d i rs ms p) (chooses-first F {a = a} {b = b} c (at o d i rs) (at p d i (rs ++ ms)) r e k)

  pub no-line : (a b : Command) (c : Term) (o d i : Object) (rs ms : List Object) (p : Object) (r : Option Object) → eval (at o d i rs) c ≡ Some (truth false) → Runs F b (at o d i rs) (at p d i (rs ++ ms), r)
      → Runs F (branch c a b) (at o d i rs) (at p d i rs, r)
  no-line a b c o d i rs ms p r e k =
      subst (λ f. Runs F (branch c a b) (at o d i rs) (f, r)) (block o d i rs ms p) (chooses-second F {a = a} {b = b} c (at o d i rs) (at p d i (rs ++ ms)) r e k)

  -- the first at the first sample, and else the second
  pub first-or : (m : Moment) (a b : Term) (o i : Object) (rs : List Object) {T : TypeTree} {v w : Datum} {p q : Object} → MomentFits m → eval (at o (dt_object m) i rs) a ≡ Some p
      → eval (at o (dt_object m) i rs) b ≡ Some q → basic_of (at o (dt_object m) i rs) a ≡ basic_in (Some p) → basic_of (at o (dt_object m) i rs) b ≡ basic_in (Some q) → Represents n T v p → Represents n T w q
      → (z : Object) × (eval (at o (dt_object m) i rs) (choice is_first a b) ≡ Some z) × Represents n T (first_or m v w) z
  first-or start a b o i rs {T} {p = p} {q = q} f ea eb ta tb x y =
      (p, choice-like (at o (dt_object start) i rs) is_first a b p q ta tb (alike (c_type n T) p q (has n x) (has n y)) ∙ ea, x)
  first-or (step d) a b o i rs {T} {p = p} {q = q} f ea eb ta tb x y = (
    q,
    choice-like (at o (number i64 (pos d)) i rs) is_first a b p q ta tb (alike (c_type n T) p q (has n x) (has n y))
        ∙ ap (λ z. choice_of (truth z) (eval (at o (number i64 (pos d)) i rs) a) (eval (at o (number i64 (pos d)) i rs) b)) (not-first d f.0) ∙ eb,
    y,
  )

  -- the function as a whole
  pub whole-function : (S : Shape) (A B : TypeTree) (c : Command) (m : Moment) (o i p y : Object) (rs : List Object) {x v : Datum} → steady c ≡ true → MomentFits m → has_type (shape_type n S) o ≡ true
      → Represents n A x i → Runs F c (at o (dt_object m) i []) (at p (dt_object m) i rs, Some y) → Represents n B v y
      → function_run F (stepping n Ps Os S A B c) (o ∷ dt_object m ∷ i ∷ qs) ≡ Some (p ∷ dt_object m ∷ i ∷ qs, y)
  whole-function S A B c m o i p y rs s f t r k w =
      let d : Object = dt_object m in
      function-runs F (stepping n Ps Os S A B c) (o ∷ d ∷ i ∷ qs) (at p d i rs) (p ∷ d ∷ i ∷ qs) y
      (yes-and t (yes-and (dt-range m f) (yes-and (has n r) scope-has))) s
      (subst (λ us. Runs F c (o ∷ d ∷ i ∷ us) (at p d i rs, Some y)) (append-nil qs) k) (has n w) (take-front (p ∷ d ∷ i ∷ qs) rs)
    where
      scope-has : all_have (const_params n Ps ++ old_params n Os) qs ≡ true
      scope-has = subst (λ us. all_have (const_params n Ps ++ old_params n Os) us ≡ true) (sym h.are) (params-have n h.are_params (old_params n Os) h.olds (olds-have n h.are_olds))
