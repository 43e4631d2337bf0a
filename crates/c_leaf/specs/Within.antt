-- The test of an input: whether each list in it has at most as many elements as its array.
use Rattle.std.specs.Prelude.{◌≡◌, ◌<◌, ◌^◌, ℕ, suc, ℤ, pos, Bool, true, false, ◌&&◌, FitsSigned, if◌then◌else◌, [], ◌∷◌, Some}
use Rattle.std.specs.Int.{w64}
use Rattle.sample_core.specs.Datum.{Datum}
use Rattle.sample_core.specs.TypeTree.{TypeTree, unit_ty, bool_ty, int_ty, pair_ty, event_ty, list_ty}
use Rattle.leaf_code.specs.Fitting.{Bounds}
use Rattle.c_meaning.specs.Object.{u8, i64, u32, truth_type, array, Object, truth, number, has_type, each_has}
use Rattle.c_meaning.specs.Object as C
use Rattle.c_meaning.specs.Syntax.{less, at_most, Term, local, dot, at, boolean, literal, binary, both, const_param, by_const, Command, skip, sequence, define, call, branch, loop, answer, Function}
use Rattle.c_meaning.specs.Meaning.{Linked, function_run}
use Rattle.c_leaf.specs.Representing.{two, c_type, Represents}
use Rattle.c_leaf.specs.LeafC.{has_no_list, stop_unless}
use Rattle.c_leaf.specs.LeafCLaw.{FewElements}

-- the test of a part, as the next local; h: the functions that test types with lists
abbrev pub within_command : (TypeTree → ℕ) → TypeTree → Term → Command
within_command h A e =
    if has_no_list A then define truth_type (boolean true)
    else call truth_type (h A) (by_const e ∷ [])

-- local 0 is tested
abbrev pub within_body : Bounds → (TypeTree → ℕ) → TypeTree → Command
within_body n h (pair_ty A B) =
    sequence (within_command h A (dot (local 0) 0))
    (sequence (within_command h B (dot (local 0) 1)) (answer (both (local 1) (local 2))))
within_body n h (event_ty A) =
    sequence
    (branch (dot (local 0) 0) (sequence (within_command h A (dot (local 0) 1)) (answer (local 1)))
    skip) (answer (boolean true))
within_body n h (list_ty A) =
    sequence (stop_unless (binary at_most u32 (dot (local 0) 0) (literal u32 (pos (n A)))))
    (sequence
    (loop (n A) (binary less u32 (local 1) (dot (local 0) 0))
    (sequence (within_command h A (at (dot (local 0) 1) (local 1))) (stop_unless (local 2))))
    (answer (boolean true)))
within_body n h A = answer (boolean true)

-- `bool within(const T *v)`
abbrev pub within_function : Bounds → (TypeTree → ℕ) → TypeTree → Function
within_function n h A = record {
  params = const_param (c_type n A) ∷ [];
  result = truth_type;
  body = within_body n h A;
}

mutual
  -- an object that may be handed over, and whether each list in it is within its array
  pub data Offered (n : TypeTree → ℕ) : TypeTree → Object → Bool → Type 0 where
    offered_unit : Offered n unit_ty (number u8 (pos 0)) true
    offered_bool : {b : Bool} → Offered n bool_ty (truth b) true
    offered_int : {z : ℤ} → FitsSigned w64 z → Offered n int_ty (number i64 z) true
    offered_pair : {A B : TypeTree} {o p : Object} {b c : Bool} → Offered n A o b → Offered n B p c
        → Offered n (pair_ty A B) (two o p) (b && c)
    -- what no event carries does not matter
    offered_no_event : {A : TypeTree} {o : Object} → has_type (c_type n A) o ≡ true
        → Offered n (event_ty A) (two (truth false) o) true
    offered_event : {A : TypeTree} {o : Object} {b : Bool} → Offered n A o b
        → Offered n (event_ty A) (two (truth true) o) b
    -- more elements than the array has
    offered_long : {A : TypeTree} {k : ℕ} {o : Object} → n A < k → k < 2 ^ 32
        → has_type (array (n A) (c_type n A)) o ≡ true
        → Offered n (list_ty A) (two (number u32 (pos k)) o) false
    offered_list : {A : TypeTree} {k : ℕ} {o : Object} {b : Bool} → k < 2 ^ 32
        → AllOffered n A (n A) k o b → Offered n (list_ty A) (two (number u32 (pos k)) o) b

  -- of so many elements the first k; what stands behind them does not matter
  pub data AllOffered (n : TypeTree → ℕ) : TypeTree → ℕ → ℕ → Object → Bool → Type 0 where
    none_offered : {A : TypeTree} {m : ℕ} {o : Object} → each_has (has_type (c_type n A)) m o ≡ true
        → AllOffered n A m 0 o true
    one_offered : {A : TypeTree} {m k : ℕ} {o os : Object} {b c : Bool} → Offered n A o b
        → AllOffered n A m k os c → AllOffered n A (suc m) (suc k) (C.more o os) (b && c)

-- a C function answers whether each list is within its array
abbrev pub Tests : Bounds → TypeTree → Linked → Type 0
Tests n A f = (o : Object) (b : Bool) → Offered n A o b → f (o ∷ []) ≡ Some (o ∷ [], truth b)

module _ (n : Bounds) (F : ℕ → Linked) (h : TypeTree → ℕ) where
  -- types with lists are tested by a function
  abbrev pub IsTested : TypeTree → Type 0
  IsTested A = has_no_list A ≡ false → Tests n A (F (h A))

  -- the same of the parts of a type
  abbrev pub PartsTested : TypeTree → Type 0
  PartsTested (pair_ty A B) = IsTested A × IsTested B
  PartsTested (event_ty A) = IsTested A
  PartsTested (list_ty A) = IsTested A
  PartsTested _ = Unit {0}

-- such a function tests, where those that it calls do
abbrev pub WithinLaw : Type 0
WithinLaw = (n : Bounds) (F : ℕ → Linked) (h : TypeTree → ℕ) (A : TypeTree) → FewElements n
    → PartsTested n F h A → Tests n A (function_run F (within_function n h A))

-- an object represents a value
pub record IsValue (n : TypeTree → ℕ) (A : TypeTree) (o : Object) : Type 0 where
  pub value : Datum
  pub represents : Represents n A value o

-- what is handed over represents a value exactly where each list is within its array
abbrev pub OfferedLaw : Type 0
OfferedLaw = (n : Bounds) (A : TypeTree) (o : Object) (b : Bool) → Offered n A o b
    → (b ≡ true → IsValue n A o) × (IsValue n A o → b ≡ true)

-- and whatever represents a value may be handed over
abbrev pub ValuesOfferedLaw : Type 0
ValuesOfferedLaw = (n : Bounds) (A : TypeTree) (o : Object) → IsValue n A o → Offered n A o true
