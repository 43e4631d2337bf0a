-- Steps whose operands have the types that they name.
use Rattle.std.specs.Prelude.{◌≡◌, ◌≤◌, ◌<◌, ◌^◌, ℕ, ℤ, Bool, FitsSigned, List, [], ◌∷◌, ◌++◌, length, slice_get, Some}
use Rattle.std.specs.Int.{w64}
use Rattle.sample_core.specs.TypeTree.{TypeTree, unit_ty, bool_ty, int_ty, pair_ty, event_ty, list_ty}
use Rattle.leaf_code.specs.Fitting.{Bounds}
use Rattle.leaf_code.specs.Operation.{Operation}
use Rattle.leaf_code.specs.Operation as O
use Rattle.leaf_code.specs.Running.{Step}

-- registers of one type
pub data AllOf (Ts : List TypeTree) (A : TypeTree) : List ℕ → Type 0 where
  none_of : AllOf Ts A []
  one_of : {j : ℕ} {js : List ℕ} → slice_get Ts j ≡ Some A → AllOf Ts A js → AllOf Ts A (j ∷ js)

-- an operation's operands have its types, under parameters of types Ps, over registers of types Ts;
-- K says which types are compared
pub data OperationTyped (n : TypeTree → ℕ) (K : TypeTree → Type 0) (Ps Ts : List TypeTree) : Operation → TypeTree → Type 0
  where
    param_op : {k : ℕ} {A : TypeTree} → slice_get Ps k ≡ Some A → OperationTyped n K Ps Ts (O.param k) A
    unit_op : OperationTyped n K Ps Ts O.unit unit_ty
    bool_op : {b : Bool} → OperationTyped n K Ps Ts (O.bool b) bool_ty
    int_op : {z : ℤ} → FitsSigned w64 z → OperationTyped n K Ps Ts (O.int z) int_ty
    pair_op : {j k : ℕ} {A B : TypeTree} → slice_get Ts j ≡ Some A → slice_get Ts k ≡ Some B
        → OperationTyped n K Ps Ts (O.pair j k) (pair_ty A B)
    left_op : {j : ℕ} {A B : TypeTree} → slice_get Ts j ≡ Some (pair_ty A B)
        → OperationTyped n K Ps Ts (O.left j) A
    right_op : {j : ℕ} {A B : TypeTree} → slice_get Ts j ≡ Some (pair_ty A B)
        → OperationTyped n K Ps Ts (O.right j) B
    neg_op : {j : ℕ} → slice_get Ts j ≡ Some int_ty → OperationTyped n K Ps Ts (O.neg j) int_ty
    add_op : {j k : ℕ} → slice_get Ts j ≡ Some int_ty → slice_get Ts k ≡ Some int_ty
        → OperationTyped n K Ps Ts (O.add j k) int_ty
    sub_op : {j k : ℕ} → slice_get Ts j ≡ Some int_ty → slice_get Ts k ≡ Some int_ty
        → OperationTyped n K Ps Ts (O.sub j k) int_ty
    mul_op : {j k : ℕ} → slice_get Ts j ≡ Some int_ty → slice_get Ts k ≡ Some int_ty
        → OperationTyped n K Ps Ts (O.mul j k) int_ty
    less_op : {j k : ℕ} → slice_get Ts j ≡ Some int_ty → slice_get Ts k ≡ Some int_ty
        → OperationTyped n K Ps Ts (O.less j k) bool_ty
    equal_op : {j k : ℕ} {A : TypeTree} → slice_get Ts j ≡ Some A → slice_get Ts k ≡ Some A
        → K A → OperationTyped n K Ps Ts (O.equal j k) bool_ty
    not_op : {j : ℕ} → slice_get Ts j ≡ Some bool_ty → OperationTyped n K Ps Ts (O.not j) bool_ty
    and_op : {j k : ℕ} → slice_get Ts j ≡ Some bool_ty → slice_get Ts k ≡ Some bool_ty
        → OperationTyped n K Ps Ts (O.and j k) bool_ty
    or_op : {j k : ℕ} → slice_get Ts j ≡ Some bool_ty → slice_get Ts k ≡ Some bool_ty
        → OperationTyped n K Ps Ts (O.or j k) bool_ty
    choose_op : {c j k : ℕ} {A : TypeTree} → slice_get Ts c ≡ Some bool_ty
        → slice_get Ts j ≡ Some A → slice_get Ts k ≡ Some A
        → OperationTyped n K Ps Ts (O.choose c j k) A
    no_event_op : {A : TypeTree} → OperationTyped n K Ps Ts O.no_event (event_ty A)
    event_op : {j : ℕ} {A : TypeTree} → slice_get Ts j ≡ Some A
        → OperationTyped n K Ps Ts (O.event j) (event_ty A)
    is_event_op : {j : ℕ} {A : TypeTree} → slice_get Ts j ≡ Some (event_ty A)
        → OperationTyped n K Ps Ts (O.is_event j) bool_ty
    carried_op : {j : ℕ} {A : TypeTree} → slice_get Ts j ≡ Some (event_ty A)
        → OperationTyped n K Ps Ts (O.carried j) A
    list_op : {js : List ℕ} {A : TypeTree} → AllOf Ts A js → length js ≤ n A → length js < 2 ^ 32
        → OperationTyped n K Ps Ts (O.list js) (list_ty A)
    nth_op : {j k d : ℕ} {A : TypeTree} → slice_get Ts j ≡ Some (list_ty A)
        → slice_get Ts k ≡ Some int_ty → slice_get Ts d ≡ Some A
        → OperationTyped n K Ps Ts (O.nth j k d) A
    len_op : {j : ℕ} {A : TypeTree} → slice_get Ts j ≡ Some (list_ty A)
        → OperationTyped n K Ps Ts (O.len j) int_ty

-- each step's is, over the registers so far
abbrev pub StepsTyped : Bounds → (TypeTree → Type 0) → List TypeTree → List TypeTree → List Step → Type 0
StepsTyped n K Ps Ts [] = Unit {0}
StepsTyped n K Ps Ts (s ∷ ss) =
    OperationTyped n K Ps Ts s.operation s.ty × StepsTyped n K Ps (Ts ++ s.ty ∷ []) ss
