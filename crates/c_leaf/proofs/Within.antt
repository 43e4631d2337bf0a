-- The test of an input, and what it tells.
use Rattle.std.proofs.Common.{◌≡◌, ◌≤◌, ◌<◌, ◌+◌, ◌^◌, ℕ, zero, suc, pos, Bool, true, false, ◌&&◌, List, [], ◌∷◌, ◌++◌, length, Option, Some, None, refl, subst, sym, ap, ap₂, ◌∙◌, arith}
use Rattle.std.specs.Prelude.{if◌then◌else◌, int_lt, int_le}
use Rattle.sample_core.specs.Datum.{Datum, Datums, unit, bool, int, pair, no_event, event, list, end, more, elements}
use Rattle.sample_core.specs.TypeTree.{TypeTree, unit_ty, bool_ty, int_ty, pair_ty, event_ty, list_ty}
use Rattle.leaf_code.specs.Fitting.{Bounds}
use Rattle.c_meaning.specs.Object.{truth_type, u32, Object, truth, number, in_range, has_type, each_has, part_of}
use Rattle.c_meaning.specs.Syntax.{less, at_most, Term, local, dot, at, boolean, literal, binary, both, by_const, Command, skip, sequence, define, call, loop, answer}
use Rattle.c_meaning.specs.Meaning.{Frame, Linked, Outcome, bind, eval, value, referred, none_shared, operate, go_on, leave, by_truth, looped, is_none_of, written, run}
use Rattle.c_meaning.proofs.Wrapping.{fits-range}
use Rattle.c_meaning.proofs.Runs.{Runs, then-run, ends, skips, defines, gives-back, chooses-first, chooses-second, calls, function-runs}
use Rattle.c_leaf.specs.Representing.{two, c_type, Represents, c_unit, c_bool, c_int, c_pair, c_no_event, c_event, c_list, AllRepresent, c_end, c_more}
use Rattle.c_leaf.specs.LeafC.{has_no_list, stop_unless}
use Rattle.c_leaf.specs.LeafCLaw.{FewElements}
use Rattle.c_leaf.specs.Within.{within_command, within_body, within_function, Offered, offered_unit, offered_bool, offered_int, offered_pair, offered_no_event, offered_event, offered_long, offered_list, AllOffered, none_offered, one_offered, IsTested, PartsTested, WithinLaw, IsValue, OfferedLaw, ValuesOfferedLaw}
use Rattle.c_leaf.proofs.Values.{and-yes, count-range}
use Rattle.c_leaf.proofs.Same.{and-left, and-right, both-truths}

-- what is handed over is of its type
mutual
  pub offered-has : (n : Bounds) {A : TypeTree} {o : Object} {b : Bool} → Offered n A o b → has_type (c_type n A) o ≡ true
  offered-has n offered_unit = refl
  offered-has n offered_bool = refl
  offered-has n (offered_int {z = z} f) = fits-range z f
  offered-has n (offered_pair x y) = and-yes (offered-has n x) (and-yes (offered-has n y) refl)
  offered-has n (offered_no_event e) = and-yes refl (and-yes e refl)
  offered-has n (offered_event x) = and-yes refl (and-yes (offered-has n x) refl)
  offered-has n (offered_long {k = k} l f e) = and-yes (count-range k f) (and-yes e refl)
  offered-has n (offered_list {k = k} f xs) = and-yes (count-range k f) (and-yes (all-offered-have n xs) refl)

  all-offered-have : (n : Bounds) {A : TypeTree} {m k : ℕ} {o : Object} {b : Bool} → AllOffered n A m k o b → each_has (has_type (c_type n A)) m o ≡ true
  all-offered-have n (none_offered e) = e
  all-offered-have n (one_offered x xs) = and-yes (offered-has n x) (all-offered-have n xs)

-- elements that count are there
fit : (n : Bounds) {A : TypeTree} {m k : ℕ} {o : Object} {b : Bool} → AllOffered n A m k o b → k ≤ m
fit n (none_offered e) = omega arith
fit n (one_offered x xs) = let l = fit n xs in omega (arith, l)

-- in a type without lists nothing is too long
pub no-list : (n : Bounds) (A : TypeTree) {o : Object} {b : Bool} → has_no_list A ≡ true → Offered n A o b → b ≡ true
no-list n unit_ty l offered_unit = refl
no-list n bool_ty l offered_bool = refl
no-list n int_ty l (offered_int f) = refl
no-list n (pair_ty A B) l (offered_pair x y) =
    ap₂ ◌&&◌ (no-list n A (and-left (has_no_list A) (has_no_list B) l) x) (no-list n B (and-right (has_no_list A) (has_no_list B) l) y)
no-list n (event_ty A) l (offered_no_event e) = refl
no-list n (event_ty A) l (offered_event x) = no-list n A l x
no-list n (list_ty A) l x = absurd (grind arith)

module _ (n : Bounds) (F : ℕ → Linked) (h : TypeTree → ℕ) where
  abbrev one-passed : Option Object → Option (List Object)
  one-passed A = bind A (λ o. bind (Some []) (λ os. Some (o ∷ os)))

  tested-by : (A : TypeTree) (k : IsTested n F h A) (f : Frame) (e : Term) {o : Object} {b : Bool} → eval f e ≡ Some o → Offered n A o b → (l : Bool) → has_no_list A ≡ l
      → Runs F (if l then define truth_type (boolean true) else call truth_type (h A) (by_const e ∷ [])) f (f ++ truth b ∷ [], None)
  tested-by A k f e ha x true q =
      subst (λ c. Runs F (define truth_type (boolean true)) f (f ++ truth c ∷ [], None)) (sym (no-list n A q x)) (defines F truth_type (boolean true) f (truth true) refl refl refl)
  tested-by A k f e {o} {b} ha x false q = calls F truth_type (h A) (by_const e ∷ []) f f (o ∷ []) (o ∷ []) (truth b) refl (ap one-passed ha) (k q o b x) refl refl

  tests : (A : TypeTree) (k : IsTested n F h A) (f : Frame) (e : Term) {o : Object} {b : Bool} → eval f e ≡ Some o → Offered n A o b → Runs F (within_command h A e) f (f ++ truth b ∷ [], None)
  tests A k f e ha x = tested-by A k f e ha x (has_no_list A) refl

  -- a function's body answers a truth
  abbrev Tells : TypeTree → Object → Bool → Type 0
  Tells A o b = (f : Frame) × Runs F (within_body n h A) (o ∷ []) (o ∷ f, Some (truth b))

  pair-tested : (A B : TypeTree) {o p : Object} {b c : Bool} → IsTested n F h A → IsTested n F h B → Offered n A o b → Offered n B p c → Tells (pair_ty A B) (two o p) (b && c)
  pair-tested A B {o} {p} {b} {c} k l x y =
      let f : Frame = two o p ∷ [] in
      let w1 = tests A k f (dot (local 0) 0) refl x in
      let w2 = tests B l (f ++ truth b ∷ []) (dot (local 0) 1) refl y in
      let w3 = gives-back F (both (local 1) (local 2)) (f ++ truth b ∷ truth c ∷ []) (truth (b && c)) (both-truths b c) refl in
      (truth b ∷ truth c ∷ [], then-run F w1 (then-run F w2 w3))

  event-tested : (A : TypeTree) {o : Object} {b : Bool} → IsTested n F h A → Offered n A o b → Tells (event_ty A) (two (truth true) o) b
  event-tested A {o} {b} k x =
      let f : Frame = two (truth true) o ∷ [] in
      let g : Frame = f ++ truth b ∷ [] in
      ([], ends F (chooses-first F (dot (local 0) 0) f g (Some (truth b)) refl (then-run F (tests A k f (dot (local 0) 1) refl x) (gives-back F (local 1) g (truth b) refl refl))))

  no-event-tested : (A : TypeTree) (o : Object) → Tells (event_ty A) (two (truth false) o) true
  no-event-tested A o =
      let f : Frame = two (truth false) o ∷ [] in
      ([], then-run F (chooses-second F (dot (local 0) 0) f f None refl (skips F)) (gives-back F (boolean true) f (truth true) refl refl))

  -- the loop over the elements: k of them, which are es
  module _ (A : TypeTree) (few : FewElements n) (t : IsTested n F h A) (k : ℕ) (es : Object) where
    abbrev frame : Frame
    frame = two (number u32 (pos k)) es ∷ []

    abbrev test : Frame → Option Object
    test g = value g (binary less u32 (local 1) (dot (local 0) 0))

    abbrev body : Command
    body = sequence (within_command h A (at (dot (local 0) 1) (local 1))) (stop_unless (local 2))

    -- what the loop comes to
    abbrev outcome : Bool → Outcome
    outcome b = if b then Some (frame, None) else Some (frame, Some (truth false))

    goes : (m i : ℕ) (b : Bool) → int_lt (pos i) (pos k) ≡ b
        → looped test (run F body) (suc m) i frame
        ≡ by_truth (truth b) (bind (bind (run F body (frame ++ number u32 (pos i) ∷ [])) (leave frame)) (go_on (looped test (run F body) m (suc i)))) (Some (frame, None))
    goes m i b e =
        ap (λ z. by_truth (truth z) (bind (bind (run F body (frame ++ number u32 (pos i) ∷ [])) (leave frame)) (go_on (looped test (run F body) m (suc i)))) (Some (frame, None))) e

    not-below : (i : ℕ) → k ≡ i + 0 → int_lt (pos i) (pos k) ≡ false
    not-below i e = grind arith

    is-below : (i l : ℕ) → k ≡ i + suc l → int_lt (pos i) (pos k) ≡ true
    is-below i l e = grind arith

    body-runs : (i : ℕ) (b : Bool) → Runs F (within_command h A (at (dot (local 0) 1) (local 1))) (frame ++ number u32 (pos i) ∷ []) (frame ++ number u32 (pos i) ∷ truth b ∷ [], None)
        → bind (run F body (frame ++ number u32 (pos i) ∷ [])) (leave frame) ≡ outcome b
    body-runs i true r = ap (λ R. bind R (leave frame)) (then-run F r (chooses-first F {b = answer (boolean false)} (local 2) (frame ++ number u32 (pos i) ∷ truth true ∷ []) (frame ++ number u32 (pos i) ∷ truth true ∷ []) None refl (skips F))).is
    body-runs i false r =
        let g : Frame = frame ++ number u32 (pos i) ∷ truth false ∷ [] in
        let stop = gives-back F (boolean false) g (truth false) refl refl in
        ap (λ R. bind R (leave frame)) (then-run F r (chooses-second F {a = skip} (local 2) g g (Some (truth false)) refl stop)).is

    next : (m i : ℕ) (b d : Bool) → looped test (run F body) m (suc i) frame ≡ outcome d → bind (outcome b) (go_on (looped test (run F body) m (suc i))) ≡ outcome (b && d)
    next m i true d e = e
    next m i false d e = refl

    all-tested : (m i l : ℕ) {os : Object} {b : Bool} → AllOffered n A m l os b → ((j : ℕ) → part_of es (i + j) ≡ part_of os j) → k ≡ i + l
        → looped test (run F body) m i frame ≡ outcome b
    all-tested zero i l (none_offered e) p s = refl
    all-tested (suc m) i l (none_offered e) p s = goes m i false (not-below i s)
    all-tested (suc m) i (suc l) (one_offered {b = b} {c = c} x xs) p s =
        let r = tests A t (frame ++ number u32 (pos i) ∷ []) (at (dot (local 0) 1) (local 1)) (sym (ap (part_of es) (plain i)) ∙ p 0) x in
        goes m i true (is-below i l s)
        ∙ ap (λ R. bind R (go_on (looped test (run F body) m (suc i)))) (body-runs i b r)
        ∙ next m i b c (all-tested m (suc i) l xs (λ j. ap (part_of es) (shift i j) ∙ p (suc j)) (omega arith))
      where
        plain : (i : ℕ) → i + 0 ≡ i
        plain i = omega arith

        shift : (i j : ℕ) → suc i + j ≡ i + suc j
        shift i j = omega arith

    abbrev counted : Term
    counted = binary at_most u32 (dot (local 0) 0) (literal u32 (pos (n A)))

    -- the number of elements is compared
    compares : (b : Bool) → int_le (pos k) (pos (n A)) ≡ b → eval frame counted ≡ Some (truth b)
    compares b e =
        ap (λ z. bind (if z then Some (number u32 (pos (n A))) else None) (λ w. operate at_most u32 (number u32 (pos k)) w)) (in-range (n A) (few A)) ∙ ap (λ z. Some (truth z)) e
      where
        in-range : (m : ℕ) → m < 2 ^ 32 → in_range u32 (pos m) ≡ true
        in-range m l = grind arith

    long-tested : n A < k → Tells (list_ty A) (two (number u32 (pos k)) es) false
    long-tested l =
        ([], ends F (chooses-second F {a = skip} counted frame frame (Some (truth false)) (compares false (over (n A) k l)) (gives-back F (boolean false) frame (truth false) refl refl)))
      where
        over : (m k : ℕ) → m < k → int_le (pos k) (pos m) ≡ false
        over m k l = grind arith

    list-tested : {b : Bool} → AllOffered n A (n A) k es b → Tells (list_ty A) (two (number u32 (pos k)) es) b
    list-tested {b} xs = by-truth b refl
      where
        zero-plus : (j : ℕ) → 0 + j ≡ j
        zero-plus j = omega arith

        under : (m k : ℕ) → k ≤ m → int_le (pos k) (pos m) ≡ true
        under m k l = grind arith

        counts : Runs F (stop_unless counted) frame (frame, None)
        counts = chooses-first F counted frame frame None (compares true (under (n A) k (fit n xs))) (skips F)

        loops : (c : Bool) → b ≡ c → run F (loop (n A) (binary less u32 (local 1) (dot (local 0) 0)) body) frame ≡ outcome c
        loops c e =
            ap (λ z. if z then looped test (run F body) (n A) 0 frame else None) (bound-fits (n A) (few A))
            ∙ all-tested (n A) 0 k xs (λ j. ap (part_of es) (zero-plus j)) (sym (zero-plus k)) ∙ ap outcome e
          where
            bound-fits : (m : ℕ) → m < 2 ^ 32 → (is_none_of 1 (written body) && in_range u32 (pos m)) ≡ true
            bound-fits m l = ap₂ ◌&&◌ none-written (in-range m l)
              where
                in-range : (m : ℕ) → m < 2 ^ 32 → in_range u32 (pos m) ≡ true
                in-range m l = grind arith

                none-written : is_none_of 1 (written body) ≡ true
                none-written = by-list (has_no_list A)
                  where
                    by-list : (l : Bool) → is_none_of 1 (written (sequence (if l then define truth_type (boolean true) else call truth_type (h A) (by_const (at (dot (local 0) 1) (local 1)) ∷ [])) (stop_unless (local 2)))) ≡ true
                    by-list true = refl
                    by-list false = refl

        by-truth : (c : Bool) → b ≡ c → Tells (list_ty A) (two (number u32 (pos k)) es) c
        by-truth true e = ([], then-run F counts (then-run F (record { is = loops true e }) (gives-back F (boolean true) frame (truth true) refl refl)))
        by-truth false e = ([], then-run F counts (ends F (record { is = loops false e })))

  body-tests : (A : TypeTree) {o : Object} {b : Bool} → FewElements n → PartsTested n F h A → Offered n A o b → Tells A o b
  body-tests A few k offered_unit = ([], gives-back F (boolean true) _ (truth true) refl refl)
  body-tests A few k offered_bool = ([], gives-back F (boolean true) _ (truth true) refl refl)
  body-tests A few k (offered_int f) = ([], gives-back F (boolean true) _ (truth true) refl refl)
  body-tests (pair_ty A B) few k (offered_pair x y) = pair-tested A B k.0 k.1 x y
  body-tests (event_ty A) few k (offered_no_event {o = o} e) = no-event-tested A o
  body-tests (event_ty A) few k (offered_event x) = event-tested A k x
  body-tests (list_ty A) few k (offered_long {k = c} {o = es} l f e) = long-tested A few k c es l
  body-tests (list_ty A) few k (offered_list {k = c} {o = es} f xs) = list-tested A few k c es xs

-- no pointer is kept
refers-none : (h : TypeTree → ℕ) (A : TypeTree) (e : Term) (l : Bool) → referred (if l then define truth_type (boolean true) else call truth_type (h A) (by_const e ∷ [])) ≡ []
refers-none h A e true = refl
refers-none h A e false = refl

refers-body : (n : Bounds) (h : TypeTree → ℕ) (A : TypeTree) → referred (within_body n h A) ≡ []
refers-body n h unit_ty = refl
refers-body n h bool_ty = refl
refers-body n h int_ty = refl
refers-body n h (pair_ty A B) = ap₂ (λ (js ks : List ℕ). js ++ (ks ++ [])) (refers-none h A (dot (local 0) 0) (has_no_list A)) (refers-none h B (dot (local 0) 1) (has_no_list B))
refers-body n h (event_ty A) = ap (λ (ks : List ℕ). ((ks ++ []) ++ []) ++ []) (refers-none h A (dot (local 0) 1) (has_no_list A))
refers-body n h (list_ty A) = ap (λ (ks : List ℕ). (ks ++ []) ++ []) (refers-none h A (at (dot (local 0) 1) (local 1)) (has_no_list A))

pub within_law : WithinLaw
within_law n F h A few k o b x =
    let r = body-tests n F h A few k x in
    function-runs F (within_function n h A) (o ∷ []) (o ∷ r.0) (o ∷ []) (truth b) (and-yes (offered-has n x) refl)
    (ap (λ ks. none_shared ks (written (within_body n h A))) (refers-body n h A)) r.1 refl refl

-- so many elements represent values
record Values (n : TypeTree → ℕ) (A : TypeTree) (m k : ℕ) (o : Object) : Type 0 where
  values : Datums
  count : k ≡ length (elements values)
  represent : AllRepresent n A m values o

mutual
  is-value : (n : Bounds) {A : TypeTree} {o : Object} {b : Bool} → Offered n A o b → b ≡ true → IsValue n A o
  is-value n offered_unit e = record { value = unit; represents = c_unit }
  is-value n (offered_bool {b = b}) e = record { value = bool b; represents = c_bool }
  is-value n (offered_int {z = z} f) e = record { value = int z; represents = c_int f }
  is-value n (offered_pair {b = b} {c = c} x y) e =
      let v = is-value n x (and-left b c e) in
      let w = is-value n y (and-right b c e) in
      record { value = pair v.value w.value; represents = c_pair v.represents w.represents }
  is-value n (offered_no_event t) e = record { value = no_event; represents = c_no_event t }
  is-value n (offered_event x) e = let v = is-value n x e in record { value = event v.value; represents = c_event v.represents }
  is-value n (offered_long l f t) e = absurd (grind arith)
  is-value n (offered_list f xs) e = let vs = are-values n xs e in record { value = list vs.values; represents = c_list vs.count f vs.represent }

  are-values : (n : Bounds) {A : TypeTree} {m k : ℕ} {o : Object} {b : Bool} → AllOffered n A m k o b → b ≡ true → Values n A m k o
  are-values n (none_offered t) e = record { values = end; count = refl; represent = c_end t }
  are-values n (one_offered {b = b} {c = c} x xs) e =
      let v = is-value n x (and-left b c e) in
      let vs = are-values n xs (and-right b c e) in
      record { values = more v.value vs.values; count = ap suc vs.count; represent = c_more v.represents vs.represent }

-- there are no more elements than the array has
within : (n : Bounds) {A : TypeTree} {m : ℕ} {vs : Datums} {o : Object} → AllRepresent n A m vs o → length (elements vs) ≤ m
within n (c_end e) = omega arith
within n (c_more h hs) = let l = within n hs in omega (arith, l)

mutual
  is-true : (n : Bounds) {A : TypeTree} {o : Object} {b : Bool} {v : Datum} → Offered n A o b → Represents n A v o → b ≡ true
  is-true n offered_unit h = refl
  is-true n offered_bool h = refl
  is-true n (offered_int f) h = refl
  is-true n (offered_pair x y) (c_pair h i) = ap₂ ◌&&◌ (is-true n x h) (is-true n y i)
  is-true n (offered_no_event e) h = refl
  is-true n (offered_event x) (c_event h) = is-true n x h
  is-true n (offered_long l f t) (c_list e m hs) = let i = within n hs in absurd (omega (arith, l, e, i))
  is-true n (offered_list f xs) (c_list e m hs) = are-true n xs hs e

  are-true : (n : Bounds) {A : TypeTree} {m k : ℕ} {o : Object} {b : Bool} {vs : Datums} → AllOffered n A m k o b → AllRepresent n A m vs o → k ≡ length (elements vs) → b ≡ true
  are-true n (none_offered t) hs e = refl
  are-true n (one_offered x xs) (c_end t) e = absurd (omega (arith, e))
  are-true n (one_offered x xs) (c_more h hs) e = ap₂ ◌&&◌ (is-true n x h) (are-true n xs hs (omega (arith, e)))

pub offered_law : OfferedLaw
offered_law n A o b x = (is-value n x, λ v. is-true n x v.represents)

mutual
  offers : (n : Bounds) {A : TypeTree} {v : Datum} {o : Object} → Represents n A v o → Offered n A o true
  offers n c_unit = offered_unit
  offers n c_bool = offered_bool
  offers n (c_int f) = offered_int f
  offers n (c_pair h i) = offered_pair (offers n h) (offers n i)
  offers n (c_no_event e) = offered_no_event e
  offers n (c_event h) = offered_event (offers n h)
  offers n {A = list_ty A} (c_list {k = k} {o = o} e l h) = offered_list l (subst (λ c. AllOffered n A (n A) c o true) (sym e) (all-offer n h))

  all-offer : (n : Bounds) {A : TypeTree} {m : ℕ} {vs : Datums} {o : Object} → AllRepresent n A m vs o → AllOffered n A m (length (elements vs)) o true
  all-offer n (c_end e) = none_offered e
  all-offer n (c_more h hs) = one_offered (offers n h) (all-offer n hs)

pub values_offered_law : ValuesOfferedLaw
values_offered_law n A o v = offers n v.represents
