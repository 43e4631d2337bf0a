-- What the code of an expression computes: each step sets the next register.
use Rattle.std.specs.Prelude.{ℕ, pos, neg_ℤ, ◌+ℤ◌, ◌-ℤ◌, ◌*ℤ◌, int_lt, Bool, true, false, not, ◌&&◌, ◌||◌, List, [], ◌∷◌, ◌++◌, map, get_or}
use Rattle.sample_core.specs.Datum.{Datum, unit, bool, int, pair, no_event, event, list, end, left, right, int_of, list_of}
use Rattle.sample_core.specs.TypeTree.{TypeTree, unit_ty, bool_ty, int_ty, pair_ty, event_ty, list_ty}
use Rattle.leaf_core.specs.ExpressionValue.{same_datum, is_true, choose, wrap, element_at, count_of, param_at}
use Rattle.leaf_code.specs.Operation.{Operation}
use Rattle.leaf_code.specs.Operation as O

-- a step: the type of the register that it sets, and what that is
pub record Step : Type 0 where
  pub ty : TypeTree
  pub operation : Operation

-- the step of this type that does this
abbrev pub step : TypeTree → Operation → Step
step T o = record { ty = T; operation = o }

-- the value of a type of which all numbers are 0, and which has no events and no elements
abbrev pub zero_of : TypeTree → Datum
zero_of unit_ty = unit
zero_of bool_ty = bool false
zero_of int_ty = int (pos 0)
zero_of (pair_ty A B) = pair (zero_of A) (zero_of B)
zero_of (event_ty A) = no_event
zero_of (list_ty A) = list end

-- whether a value is an event
abbrev pub is_event : Datum → Bool
is_event (event v) = true
is_event _ = false

-- what an event carries; d of another value
abbrev pub carried_or : Datum → Datum → Datum
carried_or d (event v) = v
carried_or d _ = d

-- register k
abbrev pub register : List Datum → ℕ → Datum
register rs k = get_or rs k unit

-- what an operation gives, under parameters, over registers; T is its register's type
abbrev pub operation_value : TypeTree → List Datum → (ℕ → Datum) → Operation → Datum
operation_value T ps r (O.param k) = param_at ps k
operation_value T ps r O.unit = unit
operation_value T ps r (O.bool b) = bool b
operation_value T ps r (O.int n) = int n
operation_value T ps r (O.pair j k) = pair (r j) (r k)
operation_value T ps r (O.left j) = left (r j)
operation_value T ps r (O.right j) = right (r j)
operation_value T ps r (O.neg j) = wrap (neg_ℤ (int_of (r j)))
operation_value T ps r (O.add j k) = wrap (int_of (r j) +ℤ int_of (r k))
operation_value T ps r (O.sub j k) = wrap (int_of (r j) -ℤ int_of (r k))
operation_value T ps r (O.mul j k) = wrap (int_of (r j) *ℤ int_of (r k))
operation_value T ps r (O.less j k) = bool (int_lt (int_of (r j)) (int_of (r k)))
operation_value T ps r (O.equal j k) = bool (same_datum (r j) (r k))
operation_value T ps r (O.not j) = bool (not (is_true (r j)))
operation_value T ps r (O.and j k) = bool (is_true (r j) && is_true (r k))
operation_value T ps r (O.or j k) = bool (is_true (r j) || is_true (r k))
operation_value T ps r (O.choose c j k) = choose (is_true (r c)) (r j) (r k)
operation_value T ps r O.no_event = no_event
operation_value T ps r (O.event j) = event (r j)
operation_value T ps r (O.is_event j) = bool (is_event (r j))
operation_value T ps r (O.carried j) = carried_or (zero_of T) (r j)
operation_value T ps r (O.list js) = list (list_of (map r js))
operation_value T ps r (O.nth j k d) = element_at (r j) (int_of (r k)) (r d)
operation_value T ps r (O.len j) = wrap (pos (count_of (r j)))

-- the value of a step
abbrev pub step_value : List Datum → List Datum → Step → Datum
step_value ps rs s = operation_value s.ty ps (register rs) s.operation

-- the registers after steps, behind those there
abbrev pub run_steps : List Datum → List Datum → List Step → List Datum
run_steps ps rs [] = rs
run_steps ps rs (s ∷ ss) = run_steps ps (rs ++ step_value ps rs s ∷ []) ss

-- code: its steps, and the register that has the value. Register 0 has the input
abbrev pub LeafSteps : Type 0
LeafSteps = List Step × ℕ

-- what code computes, under parameters, at an input
abbrev pub leaf_value : LeafSteps → List Datum → Datum → Datum
leaf_value c ps x = register (run_steps ps (x ∷ []) c.0) c.1
