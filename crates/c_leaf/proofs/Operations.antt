-- The terms of operations have results, which represent what the operations give.
use Rattle.std.proofs.Common.{◌≡◌, ◌≤◌, ◌<◌, ◌+◌, ◌-◌, ◌^◌, ℕ, zero, suc, ℤ, pos, negsuc, neg_ℤ, ◌+ℤ◌, ◌-ℤ◌, ◌*ℤ◌, Bool, true, false, not, ◌&&◌, ◌||◌, List, [], ◌∷◌, ◌++◌, map, length, Option, Some, None, refl, subst, sym, ap, ap₂, ◌∙◌, arith, w64}
use Rattle.std.specs.Prelude.{FitsSigned, slice_get, int_lt, if◌then◌else◌}
use Rattle.std.specs.Int.{int_wrap}
use Rattle.std.proofs.Math.Dec.{ltb, leb-zero}
use Rattle.std.proofs.lemmas.Bool.{ltb-true, ltb-false}
use Rattle.std.proofs.lemmas.Int.{SFits-int_wrap, int_wrap_fits, ints}
use Rattle.std.proofs.lemmas.List.{length-map}
use Rattle.sample_core.specs.Datum.{Datum, Datums, bool, end, more, left, right, int_of, elements, list_of}
use Rattle.sample_core.specs.TypeTree.{TypeTree, bool_ty, int_ty, pair_ty, event_ty, list_ty}
use Rattle.sample_core.proofs.Elements.{elements_of_list}
use Rattle.leaf_core.specs.ExpressionValue.{same_datum, is_true, choose, wrap, nth_of, element_at, count_of}
use Rattle.leaf_code.specs.Operation.{Operation}
use Rattle.leaf_code.specs.Running.{zero_of, is_event, carried_or, register, operation_value}
use Rattle.leaf_code.specs.Fitting.{Bounds}
use Rattle.c_meaning.specs.Object.{CType, u8, i64, u64, u32, Object, truth, number, has_type, each_has, zeros, repeated, part_of, part_at, array}
use Rattle.c_meaning.specs.Object as C
use Rattle.c_meaning.specs.Syntax.{plus, minus, times, less, at_most, Term, local, dot, boolean, literal, zeroed, binary, inverse, both, either, cast, define, refer}
use Rattle.c_meaning.specs.Syntax as S
use Rattle.c_meaning.specs.Meaning.{Linked, Frame, eval, bind, is_set, pushed, operate, converted, inverted, both_of, choice_of, basic_in, one_type}
use Rattle.c_meaning.specs.Wrapping.{modular, negated, Gives}
use Rattle.c_meaning.proofs.Wrapping.{wrapping_law, fits-range, check-yes, small-signed}
use Rattle.c_meaning.proofs.Alike.{alike}
use Rattle.c_meaning.proofs.Choices.{choice-typed, choice-like, first-like}
use Rattle.c_leaf.specs.Representing.{two, c_type, Represents, c_unit, c_bool, c_int, c_pair, c_no_event, c_event, c_list, AllRepresent, c_end, c_more, Registers}
use Rattle.c_leaf.specs.LeafC.{is_struct, same_command, elements_term, part_command, step_command}
use Rattle.c_leaf.specs.LeafCLaw.{IsCompared}
use Rattle.c_leaf.proofs.Typed.{AllOf, none_of, one_of, OperationTyped, param_op, unit_op, bool_op, int_op, pair_op, left_op, right_op, neg_op, add_op, sub_op, mul_op, less_op, equal_op, not_op, and_op, or_op, choose_op, no_event_op, event_op, is_event_op, carried_op, list_op, nth_op, len_op}
use Rattle.c_leaf.proofs.Same.{Computed, Line, set-object, elements-set, pair-is, both-truths, either-truths, both-results, either-results, first-of, second-of, same-line}
use Rattle.c_leaf.proofs.Values.{has, all-have, zeros-represent, find, repeated-has}
use Rattle.c_meaning.proofs.Runs.{Runs, defines, get-behind, get-before}

-- a pointer to an object stands for it
pub refers : (F : ℕ → Linked) (T : CType) (e : Term) (f : Frame) (z : Object) → eval f e ≡ Some z → has_type T z ≡ true → Runs F (refer T e) f (f ++ z ∷ [], None)
refers F T e f z h t = record { is = ap (λ E. bind E (pushed T f)) h ∙ ap (λ b. if b then Some (f ++ z ∷ [], None) else None) t }

-- what a part of an object represents
pub record Part (n : TypeTree → ℕ) (A : TypeTree) (v : Datum) (o : Object) (k : ℕ) : Type 0 where
  pub object : Object
  pub at : part_of o k ≡ Some object
  pub represents : Represents n A v object

pub left-part : (n : Bounds) {A B : TypeTree} {v : Datum} {o : Object} → Represents n (pair_ty A B) v o → Part n A (left v) o 0
left-part n (c_pair {o = o} h k) = record { object = o; at = refl; represents = h }

pub right-part : (n : Bounds) {A B : TypeTree} {v : Datum} {o : Object} → Represents n (pair_ty A B) v o → Part n B (right v) o 1
right-part n (c_pair {p = p} h k) = record { object = p; at = refl; represents = k }

int-object : (n : Bounds) {v : Datum} {o : Object} → Represents n int_ty v o → (o ≡ number i64 (int_of v)) × FitsSigned w64 (int_of v)
int-object n (c_int f) = (refl, f)

truth-object : (n : Bounds) {v : Datum} {o : Object} → Represents n bool_ty v o → o ≡ truth (is_true v)
truth-object n c_bool = refl

event-object : (n : Bounds) {A : TypeTree} {v : Datum} {o : Object} → Represents n (event_ty A) v o → part_of o 0 ≡ Some (truth (is_event v))
event-object n (c_no_event e) = refl
event-object n (c_event h) = refl

-- what an event carries, also where there is none
event-carries : (n : Bounds) {A : TypeTree} {v : Datum} {o : Object} → Represents n (event_ty A) v o → (p : Object) × (part_of o 1 ≡ Some p) × (has_type (c_type n A) p ≡ true)
event-carries n (c_no_event {o = o} e) = (o, refl, e)
event-carries n (c_event {o = o} h) = (o, refl, has n h)

abbrev carried-choice : CType → Object → Option Object
carried-choice T o = bind (part_of o 0) (λ c. choice_of c (part_of o 1) (Some (zeros T)))

record Chosen (n : TypeTree → ℕ) (A : TypeTree) (v : Datum) (r : Option Object) : Type 0 where
  object : Object
  at : r ≡ Some object
  represents : Represents n A v object

carried-object : (n : Bounds) {A : TypeTree} {v : Datum} {o : Object} → Represents n (event_ty A) v o
    → Chosen n A (carried_or (zero_of A) v) (carried-choice (c_type n A) o)
carried-object n {A} (c_no_event e) = record { object = zeros (c_type n A); at = refl; represents = zeros-represent n A }
carried-object n (c_event {o = o} h) = record { object = o; at = refl; represents = h }

-- lists
element-at : (n : Bounds) {A : TypeTree} {m : ℕ} {vs : Datums} {o : Object} (k : ℕ) (d : Datum) → AllRepresent n A m vs o → k < length (elements vs)
    → Part n A (nth_of vs k d) o k
element-at n k d (c_end e) l = absurd (omega arith)
element-at n zero d (c_more {o = o} h hs) l = record { object = o; at = refl; represents = h }
element-at n (suc k) d (c_more h hs) l =
    let r = element-at n k d hs (omega arith) in
    record { object = r.object; at = r.at; represents = r.represents }

past-end : (vs : Datums) (k : ℕ) (d : Datum) → length (elements vs) ≤ k → nth_of vs k d ≡ d
past-end end k d l = refl
past-end (more v vs) zero d l = absurd (omega arith)
past-end (more v vs) (suc k) d l = past-end vs k d (omega arith)

-- elements are of the list's type
elements-typed : (n : Bounds) {A : TypeTree} {v w : Datum} {o d : Object} → Represents n (list_ty A) v o → Represents n A w d
    → one_type (basic_in (bind (part_of o 1) (λ es. part_of es 0))) (basic_in (Some d)) ≡ true
elements-typed n {A} {d = d} (c_list {o = es} e l h) i = first-like (c_type n A) (n A) es d (all-have n h) (has n i)

count-converted : (k : ℕ) → k < 2 ^ 32 → converted i64 (number u32 (pos k)) ≡ Some (number i64 (pos k))
count-converted k l = check-yes i64 (pos k) (small-signed k (omega arith))

-- what `nth` looks at: list, place, default
abbrev within-list : Option Object → Option Object → Option Object
within-list J K =
    both-results (bind K (λ w. operate at_most i64 (number i64 (pos 0)) w))
    (bind K (λ v. bind (bind (first-of J) (converted i64)) (λ w. operate less i64 v w)))

abbrev nth-result : Option Object → Option Object → Option Object → Option Object
nth-result J K D =
    bind (within-list J K) (λ c. choice_of c (bind (second-of J) (λ o. bind K (λ v. part_at o v))) D)

abbrev nth-chosen : Object → ℕ → Object → Option Object → Option Object
nth-chosen es k d C = bind C (λ c. choice_of c (part_of es k) (Some d))

nth-cases : (n : Bounds) {A : TypeTree} {v : Datum} {m : ℕ} {vs : Datums} {es d : Object} (k c : ℕ) → AllRepresent n A m vs es → Represents n A v d → c ≡ length (elements vs)
    → (b : Bool) → ltb k c ≡ b → Chosen n A (nth_of vs k v) (choice_of (truth b) (part_of es k) (Some d))
nth-cases n {v = v} k c h i e true l =
    let r = element-at n k v h (subst (λ x. k < x) e (ltb-true k c l)) in record { object = r.object; at = r.at; represents = r.represents }
nth-cases n {A} {v} {vs = vs} {d = d} k c h i e false l =
    record { object = d; at = refl; represents = subst (λ x. Represents n A x d) (sym (past-end vs k v (subst (λ x. x ≤ k) e (ltb-false k c l)))) i }

nth-object : (n : Bounds) {A : TypeTree} {u v : Datum} {o d : Object} (z : ℤ) → Represents n (list_ty A) u o → Represents n A v d
    → Chosen n A (element_at u z v) (nth-result (Some o) (Some (number i64 z)) (Some d))
nth-object n {d = d} (negsuc m) (c_list e l h) i = record { object = d; at = refl; represents = i }
nth-object n {d = d} (pos k) (c_list {k = c} {o = es} e l h) i =
    let r = nth-cases n k c h i e (ltb k c) refl in
    record {
      object = r.object;
      at = ap (nth-chosen es k d)
          (ap₂ (λ x y. both_of (truth x) (bind y (λ w. operate less i64 (number i64 (pos k)) w))) (leb-zero k) (count-converted c l)) ∙ r.at;
      represents = r.represents;
    }

len-object : (n : Bounds) {A : TypeTree} {v : Datum} {o : Object} → Represents n (list_ty A) v o
    → bind (part_of o 0) (converted i64) ≡ Some (number i64 (int_wrap w64 (pos (count_of v))))
len-object n (c_list {vs = vs} {k = c} e l h) =
    count-converted c l ∙ ap (λ z. Some (number i64 z)) (sym (int_wrap_fits w64 (pos c) (count-fits c l)) ∙ ap (λ k. int_wrap w64 (pos k)) e)
  where
    count-fits : (c : ℕ) → c < 2 ^ 32 → FitsSigned w64 (pos c)
    count-fits c l = grind (arith, ints)

abbrev less-numbers : Option Object → Option Object → Option Object
less-numbers A B = bind A (λ v. bind B (λ w. operate less i64 v w))

abbrev in-front : Option Object → Option Object → Option Object
in-front A B = bind A (λ o. bind B (λ os. Some (C.more o os)))

abbrev choice-result : Option Object → Option Object → Option Object → Option Object
choice-result E G H = bind E (λ v. choice_of v G H)

choice-truth : (n : Bounds) {A : TypeTree} {v w : Datum} {o p : Object} (b : Bool) → Represents n A v o → Represents n A w p
    → Chosen n A (choose b v w) (choice_of (truth b) (Some o) (Some p))
choice-truth n {o = o} true h k = record { object = o; at = refl; represents = h }
choice-truth n {p = p} false h k = record { object = p; at = refl; represents = k }

small-count : (k : ℕ) → k < 2 ^ 32 → C.in_range u32 (pos k) ≡ true
small-count k h = grind arith

module _ (n : TypeTree → ℕ) (F : ℕ → Linked) (h : TypeTree → ℕ) (t : ℕ → TypeTree) (Ps Ts : List TypeTree) (ps rs : List Datum) (qs os : List Object)
    (hp : Registers n Ps ps qs) (hr : Registers n Ts rs os) (types : (k : ℕ) (A : TypeTree) → slice_get Ts k ≡ Some A → t k ≡ A) where
  abbrev frame : List Object
  frame = qs ++ os

  abbrev reg : ℕ → Term
  reg k = local (length qs + k)

  operand : {A : TypeTree} (k : ℕ) → slice_get Ts k ≡ Some A → Computed n A (register rs k) frame (reg k)
  operand k e =
      let r = find n k hr e in
      record { object = r.object; at = get-behind qs os k ∙ r.at; represents = r.represents }

  -- a number in a register
  gives : (k : ℕ) → slice_get Ts k ≡ Some int_ty → Gives frame (reg k) (int_of (register rs k)) × FitsSigned w64 (int_of (register rs k))
  gives k e =
      let r = operand k e in
      let i = int-object n r.represents in
      (r.at ∙ ap (λ o. Some o) i.0, i.1)

  -- a truth in a register
  says : (k : ℕ) → slice_get Ts k ≡ Some bool_ty → eval frame (reg k) ≡ Some (truth (is_true (register rs k)))
  says k e =
      let r = operand k e in
      r.at ∙ ap (λ o. Some o) (truth-object n r.represents)

  wrapped-number : (e : Term) (z : ℤ) → Gives frame e (int_wrap w64 z) → Computed n int_ty (wrap z) frame e
  wrapped-number e z h = record { object = number i64 (int_wrap w64 z); at = h; represents = c_int (SFits-int_wrap w64 z) }

  a-truth : (e : Term) (b : Bool) → eval frame e ≡ Some (truth b) → Computed n bool_ty (bool b) frame e
  a-truth e b h = record { object = truth b; at = h; represents = c_bool }

  wraps : (j k : ℕ) → slice_get Ts j ≡ Some int_ty → slice_get Ts k ≡ Some int_ty
      → Gives frame (modular plus (reg j) (reg k)) (int_wrap w64 (int_of (register rs j) +ℤ int_of (register rs k)))
      × Gives frame (modular minus (reg j) (reg k)) (int_wrap w64 (int_of (register rs j) -ℤ int_of (register rs k)))
      × Gives frame (modular times (reg j) (reg k)) (int_wrap w64 (int_of (register rs j) *ℤ int_of (register rs k)))
      × Gives frame (negated (reg j)) (int_wrap w64 (neg_ℤ (int_of (register rs j))))
  wraps j k d e =
      let a = gives j d in
      let b = gives k e in
      wrapping_law frame (reg j) (reg k) (int_of (register rs j)) (int_of (register rs k)) a.1 b.1 a.0 b.0

  record Elements (A : TypeTree) (js : List ℕ) (l m : ℕ) : Type 0 where
    object : Object
    at : eval frame (elements_term n h (length qs) t (c_type n A) js l) ≡ Some object
    represents : AllRepresent n A m (list_of (map (register rs) js)) object

  elements-object : (A : TypeTree) {js : List ℕ} (l m : ℕ) → AllOf Ts A js → m ≡ length js + l → Elements A js l m
  elements-object A l m none_of e =
      record {
        object = repeated l (zeros (c_type n A));
        at = refl;
        represents = c_end (subst (λ k. each_has (has_type (c_type n A)) k (repeated l (zeros (c_type n A))) ≡ true) (sym (e ∙ plain l)) (repeated-has _ l _ (has n (zeros-represent n A))));
      }
    where
      plain : (l : ℕ) → 0 + l ≡ l
      plain l = omega arith
  elements-object A l zero (one_of {j = j} {js = js} d ds) e = absurd (omega arith)
  elements-object A l (suc m) (one_of {j = j} {js = js} d ds) e =
      let r = operand j d in
      let i = elements-object A l m ds (omega arith) in
      record {
        object = C.more r.object i.object;
        at = ap₂ in-front (ap (λ E. bind E is_set) r.at ∙ set-object n r.represents) i.at;
        represents = c_more r.represents i.represents;
      }

  -- whether a list has such an element
  abbrev within : ℕ → ℕ → Term
  within j k = both (binary at_most i64 (literal i64 (pos 0)) (reg k)) (binary less i64 (reg k) (cast i64 (dot (reg j) 0)))

  -- one local more
  line : (T : TypeTree) {v : Datum} {e : Term} → Computed n T v frame e → Line n F T v frame (define (c_type n T) e)
  line T {e = e} r = record { object = r.object; runs = defines F (c_type n T) e frame r.object r.at (set-object n r.represents) (has n r.represents); represents = r.represents }

  -- the same of a part
  part-line : (T : TypeTree) {v : Datum} {e : Term} → Computed n T v frame e → Line n F T v frame (part_command n T e)
  part-line T {v} {e} r = by-struct (is_struct T)
    where
      by-struct : (b : Bool) → Line n F T v frame (if b then refer (c_type n T) e else define (c_type n T) e)
      by-struct true = record { object = r.object; runs = refers F (c_type n T) e frame r.object r.at (has n r.represents); represents = r.represents }
      by-struct false = line T r

  pub operation : (o : Operation) (T : TypeTree) → OperationTyped n (IsCompared n F h) Ps Ts o T → Line n F T (operation_value T ps (register rs) o) frame (step_command n h (length qs) t T o)
  operation o T (param_op {k = k} e) =
      line T (
      let r = find n k hp e in
      record { object = r.object; at = get-before qs os k r.object r.at; represents = r.represents })
  operation o T unit_op = line T (record { object = number u8 (pos 0); at = refl; represents = c_unit })
  operation o T (bool_op {b = b}) = line T (record { object = truth b; at = refl; represents = c_bool })
  operation o T (int_op {z = z} f) = line T (record { object = number i64 z; at = check-yes i64 z (fits-range z f); represents = c_int f })
  operation o T (pair_op {j = j} {k = k} d e) =
      line T (
      let a = operand j d in
      let b = operand k e in
      record { object = two a.object b.object; at = pair-is frame (reg j) (reg k) a.at b.at (set-object n a.represents) (set-object n b.represents); represents = c_pair a.represents b.represents })
  operation o T (left_op {j = j} d) =
      part-line T (
      let a = operand j d in
      let r = left-part n a.represents in
      record { object = r.object; at = ap first-of a.at ∙ r.at; represents = r.represents })
  operation o T (right_op {j = j} d) =
      part-line T (
      let a = operand j d in
      let r = right-part n a.represents in
      record { object = r.object; at = ap second-of a.at ∙ r.at; represents = r.represents })
  operation o T (neg_op {j = j} d) = line T (wrapped-number (negated (reg j)) (neg_ℤ (int_of (register rs j))) (wraps j j d d).3)
  operation o T (add_op {j = j} {k = k} d e) = line T (wrapped-number (modular plus (reg j) (reg k)) (int_of (register rs j) +ℤ int_of (register rs k)) (wraps j k d e).0)
  operation o T (sub_op {j = j} {k = k} d e) = line T (wrapped-number (modular minus (reg j) (reg k)) (int_of (register rs j) -ℤ int_of (register rs k)) (wraps j k d e).1)
  operation o T (mul_op {j = j} {k = k} d e) = line T (wrapped-number (modular times (reg j) (reg k)) (int_of (register rs j) *ℤ int_of (register rs k)) (wraps j k d e).2)
  operation o T (less_op {j = j} {k = k} d e) = line T (a-truth (binary less i64 (reg j) (reg k)) (int_lt (int_of (register rs j)) (int_of (register rs k))) (ap₂ less-numbers (gives j d).0 (gives k e).0))
  operation o T (equal_op {j = j} {k = k} {A = A} d e l) =
      let a = operand j d in
      let b = operand k e in
      subst (λ B. Line n F bool_ty (bool (same_datum (register rs j) (register rs k))) frame (same_command h B (reg j) (reg k))) (sym (types j A d))
      (same-line n F h A l frame (reg j) (reg k) a.at b.at a.represents b.represents)
  operation o T (not_op {j = j} d) = line T (a-truth (inverse (reg j)) (not (is_true (register rs j))) (ap (λ E. bind E inverted) (says j d)))
  operation o T (and_op {j = j} {k = k} d e) = line T (a-truth (both (reg j) (reg k)) (is_true (register rs j) && is_true (register rs k)) (ap₂ both-results (says j d) (says k e) ∙ both-truths _ _))
  operation o T (or_op {j = j} {k = k} d e) = line T (a-truth (either (reg j) (reg k)) (is_true (register rs j) || is_true (register rs k)) (ap₂ either-results (says j d) (says k e) ∙ either-truths _ _))
  operation o T (choose_op {c = c} {j = j} {k = k} i d e) =
      line T (
      let a = operand j d in
      let b = operand k e in
      let r = choice-truth n (is_true (register rs c)) a.represents b.represents in
      record {
        object = r.object;
        at = choice-like frame (reg c) (reg j) (reg k) a.object b.object (ap basic_in a.at) (ap basic_in b.at) (alike (c_type n T) a.object b.object (has n a.represents) (has n b.represents))
            ∙ ap (λ E. choice-result E (eval frame (reg j)) (eval frame (reg k))) (says c i) ∙ ap₂ (λ G H. choice_of (truth (is_true (register rs c))) G H) a.at b.at ∙ r.at;
        represents = r.represents;
      })
  operation o T (no_event_op {A = A}) = line T (record { object = zeros (c_type n (event_ty A)); at = refl; represents = zeros-represent n (event_ty A) })
  operation o T (event_op {j = j} d) =
      line T (
      let a = operand j d in
      record { object = two (truth true) a.object; at = pair-is frame (boolean true) (reg j) refl a.at refl (set-object n a.represents); represents = c_event a.represents })
  operation o T (is_event_op {j = j} d) =
      line T (
      let a = operand j d in
      a-truth (dot (reg j) 0) (is_event (register rs j)) (ap first-of a.at ∙ event-object n a.represents))
  operation o T (carried_op {j = j} {A = A} d) =
      line T (
      let a = operand j d in
      let r = carried-object n a.represents in
      let p = event-carries n a.represents in
      record {
        object = r.object;
        at = choice-like frame (dot (reg j) 0) (dot (reg j) 1) (zeroed (c_type n A)) p.0 (zeros (c_type n A)) (ap (λ E. basic_in (second-of E)) a.at ∙ ap basic_in p.1) refl
            (alike (c_type n A) p.0 (zeros (c_type n A)) p.2 (has n (zeros-represent n A)))
            ∙ ap (λ E. bind (first-of E) (λ c. choice_of c (second-of E) (Some (zeros (c_type n A))))) a.at ∙ r.at;
        represents = r.represents;
      })
  operation o T (list_op {js = js} {A = A} d l b) =
      line T (
      let r = elements-object A (n A - length js) (n A) d (omega arith) in
      record {
        object = two (number u32 (pos (length js))) r.object;
        at = pair-is frame (literal u32 (pos (length js))) (elements_term n h (length qs) t (c_type n A) js (n A - length js))
            (check-yes u32 (pos (length js)) (small-count (length js) b)) r.at refl (elements-set n r.represents);
        represents = c_list (sym (ap length (elements_of_list (map (register rs) js)) ∙ length-map js (register rs))) b r.represents;
      })
  operation o T (nth_op {j = j} {k = k} {d = d} a b c) =
      line T (
      let l = operand j a in
      let i = gives k b in
      let e = operand d c in
      let r = nth-object n (int_of (register rs k)) l.represents e.represents in
      record {
        object = r.object;
        at = choice-typed frame (within j k) (S.at (dot (reg j) 1) (reg k)) (reg d) (ap₂ (λ E G. one_type (basic_in (bind (second-of E) (λ es. part_of es 0))) (basic_in G)) l.at e.at ∙ elements-typed n l.represents e.represents)
            ∙ ap₂ (λ E G. nth-result E G (eval frame (reg d))) l.at i.0 ∙ ap (nth-result (Some l.object) (Some (number i64 (int_of (register rs k))))) e.at ∙ r.at;
        represents = r.represents;
      })
  operation o T (len_op {j = j} d) =
      line T (
      let a = operand j d in
      wrapped-number (cast i64 (dot (reg j) 0)) (pos (count_of (register rs j))) (ap (λ E. bind (first-of E) (converted i64)) a.at ∙ len-object n a.represents))
