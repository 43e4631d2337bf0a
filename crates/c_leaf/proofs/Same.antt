-- Equality of values, by terms and by functions.
use Rattle.std.proofs.Common.{◌≡◌, ◌<◌, ◌+◌, ◌^◌, ℕ, zero, suc, pos, Bool, true, false, ◌&&◌, ◌||◌, List, [], ◌∷◌, ◌++◌, length, Option, Some, None, refl, subst, sym, ap, ap₂, ◌∙◌, arith}
use Rattle.std.specs.Prelude.{if◌then◌else◌, int_lt}
use Rattle.std.specs.Bool.{beq}
use Rattle.std.specs.Ordering.{int_eq}
use Rattle.sample_core.specs.Datum.{Datum, Datums, bool, end, more, elements}
use Rattle.sample_core.specs.TypeTree.{TypeTree, unit_ty, bool_ty, int_ty, pair_ty, event_ty, list_ty}
use Rattle.leaf_core.specs.ExpressionValue.{same_datum, same_datums}
use Rattle.leaf_code.specs.Fitting.{Bounds}
use Rattle.c_meaning.specs.Object.{truth_type, i64, u32, Object, unset, truth, number, has_type, each_has, in_range, part_of}
use Rattle.c_meaning.specs.Object as C
use Rattle.c_meaning.specs.Syntax.{equals, less, Term, local, dot, at, boolean, binary, inverse, both, by_const, Command, skip, sequence, define, call, loop, answer}
use Rattle.c_meaning.specs.Meaning.{Frame, Linked, Outcome, bind, eval, value, referred, none_shared, steady, operate, inverted, both_of, either_of, choice_of, is_set, go_on, leave, by_truth, looped, is_none_of, written, run}
use Rattle.c_meaning.proofs.Alike.{no}
use Rattle.c_meaning.proofs.Runs.{Runs, then-run, ends, skips, defines, gives-back, chooses-first, chooses-second, calls, function-runs}
use Rattle.c_leaf.specs.Representing.{two, c_type, Represents, c_unit, c_bool, c_int, c_pair, c_no_event, c_event, c_list, AllRepresent, c_end, c_more}
use Rattle.c_leaf.specs.LeafC.{pair_of, has_no_list, same_term, same_command, stop_unless, same_body, same_function}
use Rattle.c_leaf.specs.LeafCLaw.{FewElements, IsCompared, PartsCompared, SameLaw}
use Rattle.c_leaf.proofs.Values.{has}

-- a term has a result, which represents a value
pub record Computed (n : TypeTree → ℕ) (A : TypeTree) (v : Datum) (f : List Object) (e : Term) : Type 0 where
  pub object : Object
  pub at : eval f e ≡ Some object
  pub represents : Represents n A v object

-- a line sets the next local, which represents a value
pub record Line (n : TypeTree → ℕ) (F : ℕ → Linked) (A : TypeTree) (v : Datum) (f : List Object) (c : Command) : Type 0 where
  pub object : Object
  pub runs : Runs F c f (f ++ object ∷ [], None)
  pub represents : Represents n A v object

pub set-object : (n : Bounds) {A : TypeTree} {v : Datum} {o : Object} → Represents n A v o → is_set o ≡ Some o
set-object n c_unit = refl
set-object n c_bool = refl
set-object n (c_int f) = refl
set-object n (c_pair h k) = refl
set-object n (c_no_event e) = refl
set-object n (c_event h) = refl
set-object n (c_list e l h) = refl

-- an array is set
pub elements-set : (n : Bounds) {A : TypeTree} {m : ℕ} {vs : Datums} {o : Object} → AllRepresent n A m vs o → is_set o ≡ Some o
elements-set n (c_more h k) = refl
elements-set n (c_end {A = A} {m = m} {o = o} e) = array-set (has_type (c_type n A)) m o e
  where
    array-set : (f : Object → Bool) (m : ℕ) (o : Object) → each_has f m o ≡ true → is_set o ≡ Some o
    array-set f m (truth b) e = refl
    array-set f m (number S z) e = refl
    array-set f m C.end e = refl
    array-set f m (C.more o os) e = refl
    array-set f zero unset e = no e
    array-set f (suc m) unset e = no e

-- a struct of two values
abbrev pair-result : Option Object → Option Object → Option Object
pair-result A B = bind A (λ o. bind (bind B (λ p. bind (Some C.end) (λ os. Some (C.more p os)))) (λ os. Some (C.more o os)))

pub pair-is : (f : Frame) (a b : Term) {o p : Object} → eval f a ≡ Some o → eval f b ≡ Some p → is_set o ≡ Some o → is_set p ≡ Some p → eval f (pair_of a b) ≡ Some (two o p)
pair-is f a b ha hb so sp = ap₂ pair-result (ap (λ E. bind E is_set) ha ∙ so) (ap (λ E. bind E is_set) hb ∙ sp)

pub both-truths : (a b : Bool) → both_of (truth a) (Some (truth b)) ≡ Some (truth (a && b))
both-truths true b = refl
both-truths false b = refl

pub either-truths : (a b : Bool) → either_of (truth a) (Some (truth b)) ≡ Some (truth (a || b))
either-truths true b = refl
either-truths false b = refl

pub and-left : (a b : Bool) → (a && b) ≡ true → a ≡ true
and-left true b e = refl
and-left false b e = e

pub and-right : (a b : Bool) → (a && b) ≡ true → b ≡ true
and-right true b e = e
and-right false b e = absurd (grind arith)

-- equality
abbrev same-truths : Option Object → Option Object → Option Object
same-truths A B = bind (bind A (λ v. both_of v B)) (λ v. either_of v (bind (bind A inverted) (λ v. both_of v (bind B inverted))))

truths-same : (a b : Bool) → same-truths (Some (truth a)) (Some (truth b)) ≡ Some (truth (beq a b))
truths-same true true = refl
truths-same true false = refl
truths-same false true = refl
truths-same false false = refl

abbrev same-numbers : Option Object → Option Object → Option Object
same-numbers A B = bind A (λ v. bind B (λ w. operate equals i64 v w))

abbrev pub both-results : Option Object → Option Object → Option Object
both-results A B = bind A (λ v. both_of v B)

abbrev pub either-results : Option Object → Option Object → Option Object
either-results A B = bind A (λ v. either_of v B)

abbrev pub first-of : Option Object → Option Object
first-of E = bind E (λ o. part_of o 0)

abbrev pub second-of : Option Object → Option Object
second-of E = bind E (λ o. part_of o 1)

abbrev same-events : Option Object → Option Object → Option Object → Option Object
same-events A B X = bind (first-of A) (λ c. choice_of c (both-results (first-of B) X) (bind (first-of B) inverted))

same : (n : Bounds) (A : TypeTree) → has_no_list A ≡ true → (f : Frame) (a b : Term) {v w : Datum} {o p : Object}
    → eval f a ≡ Some o → eval f b ≡ Some p → Represents n A v o → Represents n A w p
    → eval f (same_term A a b) ≡ Some (truth (same_datum v w))
same n unit_ty l f a b ha hb c_unit c_unit = refl
same n bool_ty l f a b ha hb (c_bool {b = x}) (c_bool {b = y}) = ap₂ same-truths ha hb ∙ truths-same x y
same n int_ty l f a b ha hb (c_int p) (c_int q) = ap₂ same-numbers ha hb
same n (pair_ty A B) l f a b ha hb (c_pair {v = v} {w = w} h k) (c_pair {v = x} {w = y} i j) =
    ap₂ both-results
    (same n A (and-left (has_no_list A) (has_no_list B) l) f (dot a 0) (dot b 0) (ap first-of ha) (ap first-of hb) h i)
    (same n B (and-right (has_no_list A) (has_no_list B) l) f (dot a 1) (dot b 1) (ap second-of ha) (ap second-of hb) k j)
    ∙ both-truths (same_datum v x) (same_datum w y)
same n (event_ty A) l f a b ha hb (c_no_event d) (c_no_event e) =
    ap₂ (λ E G. same-events E G (eval f (same_term A (dot a 1) (dot b 1)))) ha hb
same n (event_ty A) l f a b ha hb (c_no_event d) (c_event k) =
    ap₂ (λ E G. same-events E G (eval f (same_term A (dot a 1) (dot b 1)))) ha hb
same n (event_ty A) l f a b ha hb (c_event h) (c_no_event e) =
    ap₂ (λ E G. same-events E G (eval f (same_term A (dot a 1) (dot b 1)))) ha hb
same n (event_ty A) l f a b ha hb (c_event {v = v} h) (c_event {v = w} k) =
    ap₂ (λ E G. same-events E G (eval f (same_term A (dot a 1) (dot b 1)))) ha hb
    ∙ ap (λ X. both-results (Some (truth true)) X) (same n A l f (dot a 1) (dot b 1) (ap second-of ha) (ap second-of hb) h k)
same n (list_ty A) l f a b ha hb h k = absurd (grind arith)

-- a command that compares
record Told (F : ℕ → Linked) (c : Command) (f : Frame) (b : Bool) : Type 0 where
  runs : Runs F c f (f ++ truth b ∷ [], None)

module _ (n : Bounds) (F : ℕ → Linked) (h : TypeTree → ℕ) where
  abbrev two-passed : Option Object → Option Object → Option (List Object)
  two-passed A B = bind A (λ o. bind (bind B (λ o. bind (Some []) (λ os. Some (o ∷ os)))) (λ os. Some (o ∷ os)))

  told-by : (A : TypeTree) (k : IsCompared n F h A) (f : Frame) (a b : Term) {v w : Datum} {o p : Object}
      → eval f a ≡ Some o → eval f b ≡ Some p → Represents n A v o → Represents n A w p
      → (l : Bool) → has_no_list A ≡ l → Told F (if l then define truth_type (same_term A a b) else call truth_type (h A) (by_const a ∷ by_const b ∷ [])) f (same_datum v w)
  told-by A k f a b {v} {w} ha hb i j true e = record {
    runs = defines F truth_type (same_term A a b) f (truth (same_datum v w)) (same n A e f a b ha hb i j) refl refl;
  }
  told-by A k f a b {v} {w} {o} {p} ha hb i j false e = record {
    runs = calls F truth_type (h A) (by_const a ∷ by_const b ∷ []) f f (o ∷ p ∷ []) (o ∷ p ∷ []) (truth (same_datum v w)) refl
        (ap₂ two-passed ha hb) (k e v w o p i j) refl refl;
  }

  pub tells : (A : TypeTree) (k : IsCompared n F h A) (f : Frame) (a b : Term) {v w : Datum} {o p : Object}
      → eval f a ≡ Some o → eval f b ≡ Some p → Represents n A v o → Represents n A w p
      → Runs F (same_command h A a b) f (f ++ truth (same_datum v w) ∷ [], None)
  tells A k f a b ha hb i j = (told-by A k f a b ha hb i j (has_no_list A) refl).runs

  pub same-line : (A : TypeTree) (k : IsCompared n F h A) (f : Frame) (a b : Term) {v w : Datum} {o p : Object}
      → eval f a ≡ Some o → eval f b ≡ Some p → Represents n A v o → Represents n A w p
      → Line n F bool_ty (bool (same_datum v w)) f (same_command h A a b)
  same-line A k f a b {v} {w} ha hb i j =
      record { object = truth (same_datum v w); runs = tells A k f a b ha hb i j; represents = c_bool }

  -- a function's body answers a truth
  abbrev Tells : TypeTree → Object → Object → Bool → Type 0
  Tells A o p b = (f : Frame) × Runs F (same_body n h A) (o ∷ p ∷ []) (o ∷ p ∷ f, Some (truth b))

  pair-told : (A B : TypeTree) {v w x y : Datum} {o p q r : Object} → IsCompared n F h A → IsCompared n F h B → Represents n A v o → Represents n B w p → Represents n A x q → Represents n B y r
      → Tells (pair_ty A B) (two o p) (two q r) (same_datum v x && same_datum w y)
  pair-told A B {v} {w} {x} {y} {o} {p} {q} {r} k l a b c d =
      let f : Frame = two o p ∷ two q r ∷ [] in
      let w1 = tells A k f (dot (local 0) 0) (dot (local 1) 0) refl refl a c in
      let w2 = tells B l (f ++ truth (same_datum v x) ∷ []) (dot (local 0) 1) (dot (local 1) 1) refl refl b d in
      let w3 = gives-back F (both (local 2) (local 3)) (f ++ truth (same_datum v x) ∷ truth (same_datum w y) ∷ []) (truth (same_datum v x && same_datum w y)) (both-truths (same_datum v x) (same_datum w y)) refl in
      (truth (same_datum v x) ∷ truth (same_datum w y) ∷ [], then-run F w1 (then-run F w2 w3))

  abbrev both_are : Term
  both_are = both (dot (local 0) 0) (dot (local 1) 0)

  abbrev none_is : Term
  none_is = both (inverse (dot (local 0) 0)) (inverse (dot (local 1) 0))

  event-told : (A : TypeTree) {v w : Datum} {o p : Object} → IsCompared n F h A → Represents n (event_ty A) v o → Represents n (event_ty A) w p → Tells (event_ty A) o p (same_datum v w)
  event-told A k (c_no_event {o = o} d) (c_no_event {o = p} e) =
      let f : Frame = two (truth false) o ∷ two (truth false) p ∷ [] in
      ([], then-run F (chooses-second F both_are f f None refl (skips F)) (gives-back F none_is f (truth true) refl refl))
  event-told A k (c_no_event {o = o} d) (c_event {o = p} e) =
      let f : Frame = two (truth false) o ∷ two (truth true) p ∷ [] in
      ([], then-run F (chooses-second F both_are f f None refl (skips F)) (gives-back F none_is f (truth false) refl refl))
  event-told A k (c_event {o = o} d) (c_no_event {o = p} e) =
      let f : Frame = two (truth true) o ∷ two (truth false) p ∷ [] in
      ([], then-run F (chooses-second F both_are f f None refl (skips F)) (gives-back F none_is f (truth false) refl refl))
  event-told A k (c_event {v = v} {o = o} d) (c_event {v = w} {o = p} e) =
      let f : Frame = two (truth true) o ∷ two (truth true) p ∷ [] in
      let g : Frame = f ++ truth (same_datum v w) ∷ [] in (
        [],
        ends F (chooses-first F both_are f g (Some (truth (same_datum v w))) refl
            (then-run F (tells A k f (dot (local 0) 1) (dot (local 1) 1) refl refl d e) (gives-back F (local 2) g (truth (same_datum v w)) refl refl))),
      )

  -- the loop over the elements: k of them in each list, which are es and ds
  module _ (A : TypeTree) (few : FewElements n) (c : IsCompared n F h A) (k : ℕ) (es ds : Object) where
    abbrev frame : Frame
    frame = two (number u32 (pos k)) es ∷ two (number u32 (pos k)) ds ∷ []

    abbrev test : Frame → Option Object
    test g = value g (binary less u32 (local 2) (dot (local 0) 0))

    abbrev body : Command
    body =
        sequence (same_command h A (at (dot (local 0) 1) (local 2)) (at (dot (local 1) 1) (local 2)))
        (stop_unless (local 3))

    -- what the loop comes to
    abbrev outcome : Bool → Outcome
    outcome b = if b then Some (frame, None) else Some (frame, Some (truth false))

    goes : (m i : ℕ) (b : Bool) → int_lt (pos i) (pos k) ≡ b
        → looped test (run F body) (suc m) i frame
        ≡ by_truth (truth b) (bind (bind (run F body (frame ++ number u32 (pos i) ∷ [])) (leave frame)) (go_on (looped test (run F body) m (suc i)))) (Some (frame, None))
    goes m i b e =
        ap (λ z. by_truth (truth z) (bind (bind (run F body (frame ++ number u32 (pos i) ∷ [])) (leave frame)) (go_on (looped test (run F body) m (suc i)))) (Some (frame, None))) e

    not-below : (i : ℕ) → k ≡ i + 0 → int_lt (pos i) (pos k) ≡ false
    not-below i e = grind arith

    is-below : (i l : ℕ) → k ≡ i + suc l → int_lt (pos i) (pos k) ≡ true
    is-below i l e = grind arith

    body-runs : (i : ℕ) (b : Bool) → Runs F (same_command h A (at (dot (local 0) 1) (local 2)) (at (dot (local 1) 1) (local 2))) (frame ++ number u32 (pos i) ∷ []) (frame ++ number u32 (pos i) ∷ truth b ∷ [], None)
        → bind (run F body (frame ++ number u32 (pos i) ∷ [])) (leave frame) ≡ outcome b
    body-runs i true r = ap (λ R. bind R (leave frame)) (then-run F r (chooses-first F {b = answer (boolean false)} (local 3) (frame ++ number u32 (pos i) ∷ truth true ∷ []) (frame ++ number u32 (pos i) ∷ truth true ∷ []) None refl (skips F))).is
    body-runs i false r =
        let g : Frame = frame ++ number u32 (pos i) ∷ truth false ∷ [] in
        let stop = gives-back F (boolean false) g (truth false) refl refl in
        ap (λ R. bind R (leave frame)) (then-run F r (chooses-second F {a = skip} (local 3) g g (Some (truth false)) refl stop)).is

    next : (m i : ℕ) (b d : Bool) → looped test (run F body) m (suc i) frame ≡ outcome d → bind (outcome b) (go_on (looped test (run F body) m (suc i))) ≡ outcome (b && d)
    next m i true d e = e
    next m i false d e = refl

    compared : (m i : ℕ) {vs ws : Datums} {os ps : Object} → AllRepresent n A m vs os → AllRepresent n A m ws ps
        → ((j : ℕ) → part_of es (i + j) ≡ part_of os j) → ((j : ℕ) → part_of ds (i + j) ≡ part_of ps j)
        → k ≡ i + length (elements vs) → k ≡ i + length (elements ws)
        → looped test (run F body) m i frame ≡ outcome (same_datums vs ws)
    compared zero i (c_end d) (c_end e) p q s t = refl
    compared (suc m) i (c_end d) (c_end e) p q s t = goes m i false (not-below i s)
    compared m i (c_end d) (c_more x xs) p q s t = absurd (omega arith)
    compared m i (c_more x xs) (c_end d) p q s t = absurd (omega arith)
    compared (suc m) i (c_more {v = v} {vs = vs} x xs) (c_more {v = w} {vs = ws} y ys) p q s t =
        let r = tells A c (frame ++ number u32 (pos i) ∷ []) (at (dot (local 0) 1) (local 2)) (at (dot (local 1) 1) (local 2))
        (sym (ap (part_of es) (plain i)) ∙ p 0) (sym (ap (part_of ds) (plain i)) ∙ q 0) x y in
        goes m i true (is-below i (length (elements vs)) s)
        ∙ ap (λ R. bind R (go_on (looped test (run F body) m (suc i)))) (body-runs i (same_datum v w) r)
        ∙ next m i (same_datum v w) (same_datums vs ws)
        (compared m (suc i) xs ys (λ j. ap (part_of es) (shift i j) ∙ p (suc j)) (λ j. ap (part_of ds) (shift i j) ∙ q (suc j)) (omega arith) (omega arith))
      where
        plain : (i : ℕ) → i + 0 ≡ i
        plain i = omega arith

        shift : (i j : ℕ) → suc i + j ≡ i + suc j
        shift i j = omega arith

    whole : {vs ws : Datums} → AllRepresent n A (n A) vs es → AllRepresent n A (n A) ws ds → k ≡ length (elements vs) → k ≡ length (elements ws)
        → Tells (list_ty A) (two (number u32 (pos k)) es) (two (number u32 (pos k)) ds) (same_datums vs ws)
    whole {vs} {ws} x y s t = by-truth (same_datums vs ws) refl
      where
        zero-plus : (j : ℕ) → 0 + j ≡ j
        zero-plus j = omega arith

        same-count : int_eq (pos k) (pos k) ≡ true
        same-count = grind arith

        counts : Runs F (stop_unless (binary equals u32 (dot (local 0) 0) (dot (local 1) 0))) frame (frame, None)
        counts = chooses-first F (binary equals u32 (dot (local 0) 0) (dot (local 1) 0)) frame frame None (ap (λ b. Some (truth b)) same-count) (skips F)

        loops : (b : Bool) → same_datums vs ws ≡ b → run F (loop (n A) (binary less u32 (local 2) (dot (local 0) 0)) body) frame ≡ outcome b
        loops b e =
            ap (λ z. if z then looped test (run F body) (n A) 0 frame else None) (bound-fits (n A) (few A))
            ∙ compared (n A) 0 x y (λ j. ap (part_of es) (zero-plus j)) (λ j. ap (part_of ds) (zero-plus j)) (s ∙ sym (zero-plus (length (elements vs)))) (t ∙ sym (zero-plus (length (elements ws)))) ∙ ap outcome e
          where
            bound-fits : (m : ℕ) → m < 2 ^ 32 → (is_none_of 2 (written body) && in_range u32 (pos m)) ≡ true
            bound-fits m l = ap₂ ◌&&◌ none-written (in-range m l)
              where
                in-range : (m : ℕ) → m < 2 ^ 32 → in_range u32 (pos m) ≡ true
                in-range m l = grind arith

                none-written : is_none_of 2 (written body) ≡ true
                none-written = by-list (has_no_list A)
                  where
                    by-list : (l : Bool) → is_none_of 2 (written (sequence (if l then define truth_type (same_term A (at (dot (local 0) 1) (local 2)) (at (dot (local 1) 1) (local 2))) else call truth_type (h A) (by_const (at (dot (local 0) 1) (local 2)) ∷ by_const (at (dot (local 1) 1) (local 2)) ∷ [])) (stop_unless (local 3)))) ≡ true
                    by-list true = refl
                    by-list false = refl

        by-truth : (b : Bool) → same_datums vs ws ≡ b → Tells (list_ty A) (two (number u32 (pos k)) es) (two (number u32 (pos k)) ds) b
        by-truth true e = ([], then-run F counts (then-run F (record { is = loops true e }) (gives-back F (boolean true) frame (truth true) refl refl)))
        by-truth false e = ([], then-run F counts (ends F (record { is = loops false e })))

  -- lists of different lengths
  lengths-differ : (vs ws : Datums) (j k : ℕ) → j ≡ length (elements vs) → k ≡ length (elements ws) → int_eq (pos j) (pos k) ≡ false → same_datums vs ws ≡ false
  lengths-differ end end j k s t e = absurd (grind arith)
  lengths-differ end (more w ws) j k s t e = refl
  lengths-differ (more v vs) end j k s t e = refl
  lengths-differ (more v vs) (more w ws) zero k s t e = absurd (omega arith)
  lengths-differ (more v vs) (more w ws) (suc j) zero s t e = absurd (omega arith)
  lengths-differ (more v vs) (more w ws) (suc j) (suc k) s t e =
      ap (λ b. same_datum v w && b) (lengths-differ vs ws j k (omega arith) (omega arith) (less j k e)) ∙ never (same_datum v w)
    where
      less : (j k : ℕ) → int_eq (pos (suc j)) (pos (suc k)) ≡ false → int_eq (pos j) (pos k) ≡ false
      less j k e = grind arith

      never : (b : Bool) → (b && false) ≡ false
      never true = refl
      never false = refl

  list-told : (A : TypeTree) {v w : Datum} {o p : Object} → FewElements n → IsCompared n F h A → Represents n (list_ty A) v o → Represents n (list_ty A) w p → Tells (list_ty A) o p (same_datum v w)
  list-told A few c (c_list {vs = vs} {k = j} {o = es} s a x) (c_list {vs = ws} {k = k} {o = ds} t b y) = by-count (int_eq (pos j) (pos k)) refl
    where
      by-count : (z : Bool) → int_eq (pos j) (pos k) ≡ z → Tells (list_ty A) (two (number u32 (pos j)) es) (two (number u32 (pos k)) ds) (same_datums vs ws)
      by-count true e =
          let i : j ≡ k = equal j k e in
          subst (λ m. Tells (list_ty A) (two (number u32 (pos j)) es) (two (number u32 (pos m)) ds) (same_datums vs ws)) i
          (whole A few c j es ds x y s (i ∙ t))
        where
          equal : (j k : ℕ) → int_eq (pos j) (pos k) ≡ true → j ≡ k
          equal j k e = grind arith
      by-count false e =
          let f : Frame = two (number u32 (pos j)) es ∷ two (number u32 (pos k)) ds ∷ [] in
          subst (Tells (list_ty A) (two (number u32 (pos j)) es) (two (number u32 (pos k)) ds)) (sym (lengths-differ vs ws j k s t e)) (
            [],
            ends F (chooses-second F (binary equals u32 (dot (local 0) 0) (dot (local 1) 0)) f f (Some (truth false)) (ap (λ b. Some (truth b)) e)
                (gives-back F (boolean false) f (truth false) refl refl)),
          )

  body-tells : (A : TypeTree) {v w : Datum} {o p : Object} → FewElements n → PartsCompared n F h A → Represents n A v o → Represents n A w p → Tells A o p (same_datum v w)
  body-tells A few k (c_unit) (c_unit) = ([], gives-back F (boolean true) _ (truth true) refl refl)
  body-tells A few k (c_bool {b = x}) (c_bool {b = y}) = let f : Frame = truth x ∷ truth y ∷ [] in ([], gives-back F (same_term bool_ty (local 0) (local 1)) f (truth (beq x y)) (same n bool_ty refl f (local 0) (local 1) refl refl (c_bool {b = x}) (c_bool {b = y})) refl)
  body-tells A few k (c_int {z = y} f) (c_int {z = z} g) = let e : Frame = number i64 y ∷ number i64 z ∷ [] in ([], gives-back F (same_term int_ty (local 0) (local 1)) e (truth (int_eq y z)) (same n int_ty refl e (local 0) (local 1) refl refl (c_int f) (c_int g)) refl)
  body-tells (pair_ty A B) few k (c_pair a b) (c_pair c d) = pair-told A B k.0 k.1 a b c d
  body-tells (event_ty A) few k a b = event-told A k a b
  body-tells (list_ty A) few k a b = list-told A few k a b

-- no pointer is kept
refers-none : (h : TypeTree → ℕ) (A : TypeTree) (a b : Term) (l : Bool)
    → referred (if l then define truth_type (same_term A a b) else call truth_type (h A) (by_const a ∷ by_const b ∷ [])) ≡ []
refers-none h A a b true = refl
refers-none h A a b false = refl

-- and no local is written
pub none-written : (h : TypeTree → ℕ) (A : TypeTree) (a b : Term) → written (same_command h A a b) ≡ []
none-written h A a b = by-list (has_no_list A)
  where
    by-list : (l : Bool) → written (if l then define truth_type (same_term A a b) else call truth_type (h A) (by_const a ∷ by_const b ∷ [])) ≡ []
    by-list true = refl
    by-list false = refl

none-referred : (h : TypeTree → ℕ) (A : TypeTree) (a b : Term) → referred (same_command h A a b) ≡ []
none-referred h A a b = refers-none h A a b (has_no_list A)

refers-body : (n : Bounds) (h : TypeTree → ℕ) (A : TypeTree) → referred (same_body n h A) ≡ []
refers-body n h unit_ty = refl
refers-body n h bool_ty = refl
refers-body n h int_ty = refl
refers-body n h (pair_ty A B) =
    ap₂ (λ (js ks : List ℕ). js ++ (ks ++ [])) (none-referred h A (dot (local 0) 0) (dot (local 1) 0)) (none-referred h B (dot (local 0) 1) (dot (local 1) 1))
refers-body n h (event_ty A) = ap (λ (ks : List ℕ). ((ks ++ []) ++ []) ++ []) (none-referred h A (dot (local 0) 1) (dot (local 1) 1))
refers-body n h (list_ty A) = ap (λ (ks : List ℕ). (ks ++ []) ++ []) (none-referred h A (at (dot (local 0) 1) (local 2)) (at (dot (local 1) 1) (local 2)))

steady-same : (n : Bounds) (h : TypeTree → ℕ) (A : TypeTree) → steady (same_body n h A) ≡ true
steady-same n h A = ap (λ ks. none_shared ks (written (same_body n h A))) (refers-body n h A)

pub same_law : SameLaw
same_law n F h A few k v w o p a b =
    let r = body-tells n F h A few k a b in
    function-runs F (same_function n h A) (o ∷ p ∷ []) (o ∷ p ∷ r.0) (o ∷ p ∷ []) (truth (same_datum v w))
    (ap₂ ◌&&◌ (has n a) (ap₂ ◌&&◌ (has n b) refl)) (steady-same n h A) r.1 refl refl
