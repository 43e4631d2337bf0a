-- The C of an expression's code: a local a step.
use Rattle.std.specs.Prelude.{ℕ, pos, ◌+◌, ◌-◌, Bool, true, false, ◌&&◌, if◌then◌else◌, List, [], ◌∷◌, ◌++◌, map, length}
use Rattle.sample_core.specs.TypeTree.{TypeTree, unit_ty, bool_ty, int_ty, pair_ty, event_ty, list_ty}
use Rattle.leaf_code.specs.Fitting.{Bounds}
use Rattle.leaf_code.specs.Operation.{Operation}
use Rattle.leaf_code.specs.Operation as O
use Rattle.leaf_code.specs.Running.{Step, LeafSteps}
use Rattle.leaf_code.specs.CodeOf.{type_at}
use Rattle.c_meaning.specs.Object.{u8, i64, u32, CType, truth_type, number_type, array}
use Rattle.c_meaning.specs.Syntax.{plus, minus, times, less, at_most, equals, Term, local, dot, at, boolean, literal, zeroed, none, braced, binary, inverse, both, either, choice, cast, Parameter, const_param, by_const, Command, skip, sequence, define, refer, call, branch, loop, answer, Function}
use Rattle.c_meaning.specs.Wrapping.{negated, modular}
use Rattle.c_leaf.specs.Representing.{c_type}

-- a struct of two
abbrev pub pair_of : Term → Term → Term
pair_of a b = braced a (braced b none)

-- a type without lists
abbrev pub has_no_list : TypeTree → Bool
has_no_list (list_ty A) = false
has_no_list (pair_ty A B) = has_no_list A && has_no_list B
has_no_list (event_ty A) = has_no_list A
has_no_list _ = true

-- a type whose values are structs
abbrev pub is_struct : TypeTree → Bool
is_struct (pair_ty A B) = true
is_struct (event_ty A) = true
is_struct (list_ty A) = true
is_struct _ = false

-- a part as the next local: of a struct a pointer to it
abbrev pub part_command : Bounds → TypeTree → Term → Command
part_command n T e = if is_struct T then refer (c_type n T) e else define (c_type n T) e

-- whether two values of a type without lists are the same
abbrev pub same_term : TypeTree → Term → Term → Term
same_term unit_ty a b = boolean true
same_term bool_ty a b = either (both a b) (both (inverse a) (inverse b))
same_term int_ty a b = binary equals i64 a b
same_term (pair_ty A B) a b =
    both (same_term A (dot a 0) (dot b 0)) (same_term B (dot a 1) (dot b 1))
same_term (event_ty A) a b =
    choice (dot a 0) (both (dot b 0) (same_term A (dot a 1) (dot b 1))) (inverse (dot b 0))
same_term (list_ty A) a b = none

-- the same of any type, as the next local; h: the functions that compare values with lists
abbrev pub same_command : (TypeTree → ℕ) → TypeTree → Term → Term → Command
same_command h A a b =
    if has_no_list A then define truth_type (same_term A a b)
    else call truth_type (h A) (by_const a ∷ by_const b ∷ [])

-- `if (c) { return false; }`, but where it is true
abbrev pub stop_unless : Term → Command
stop_unless c = branch c skip (answer (boolean false))

-- local 0 and local 1 are compared
abbrev pub same_body : Bounds → (TypeTree → ℕ) → TypeTree → Command
same_body n h (pair_ty A B) =
    sequence (same_command h A (dot (local 0) 0) (dot (local 1) 0))
    (sequence (same_command h B (dot (local 0) 1) (dot (local 1) 1))
    (answer (both (local 2) (local 3))))
same_body n h (event_ty A) =
    sequence
    (branch (both (dot (local 0) 0) (dot (local 1) 0))
    (sequence (same_command h A (dot (local 0) 1) (dot (local 1) 1)) (answer (local 2))) skip)
    (answer (both (inverse (dot (local 0) 0)) (inverse (dot (local 1) 0))))
same_body n h (list_ty A) =
    sequence (stop_unless (binary equals u32 (dot (local 0) 0) (dot (local 1) 0)))
    (sequence
    (loop (n A) (binary less u32 (local 2) (dot (local 0) 0))
    (sequence
    (same_command h A (at (dot (local 0) 1) (local 2)) (at (dot (local 1) 1) (local 2)))
    (stop_unless (local 3))))
    (answer (boolean true)))
same_body n h A = answer (same_term A (local 0) (local 1))

-- `bool same(const T *v, const T *w)`
abbrev pub same_function : Bounds → (TypeTree → ℕ) → TypeTree → Function
same_function n h A = record {
  params = const_param (c_type n A) ∷ const_param (c_type n A) ∷ [];
  result = truth_type;
  body = same_body n h A;
}

-- m: how many parameters stand before register 0; t: the types of registers
module _ (n : TypeTree → ℕ) (h : TypeTree → ℕ) (m : ℕ) (t : ℕ → TypeTree) where
  abbrev pub register_term : ℕ → Term
  register_term k = local (m + k)

  -- these registers, and zeros behind them
  abbrev pub elements_term : CType → List ℕ → ℕ → Term
  elements_term T [] l = zeroed (array l T)
  elements_term T (j ∷ js) l = braced (register_term j) (elements_term T js l)

  -- a list
  abbrev pub list_term : TypeTree → List ℕ → Term
  list_term (list_ty A) js =
      pair_of (literal u32 (pos (length js)))
      (elements_term (c_type n A) js (n A - length js))
  list_term T js = none

  -- what register of type T is defined as
  abbrev pub operation_term : TypeTree → Operation → Term
  operation_term T (O.param k) = local k
  operation_term T O.unit = literal u8 (pos 0)
  operation_term T (O.bool b) = boolean b
  operation_term T (O.int z) = literal i64 z
  operation_term T (O.pair j k) = pair_of (register_term j) (register_term k)
  operation_term T (O.left j) = dot (register_term j) 0
  operation_term T (O.right j) = dot (register_term j) 1
  operation_term T (O.neg j) = negated (register_term j)
  operation_term T (O.add j k) = modular plus (register_term j) (register_term k)
  operation_term T (O.sub j k) = modular minus (register_term j) (register_term k)
  operation_term T (O.mul j k) = modular times (register_term j) (register_term k)
  operation_term T (O.less j k) = binary less i64 (register_term j) (register_term k)
  operation_term T (O.equal j k) = same_term (t j) (register_term j) (register_term k)
  operation_term T (O.not j) = inverse (register_term j)
  operation_term T (O.and j k) = both (register_term j) (register_term k)
  operation_term T (O.or j k) = either (register_term j) (register_term k)
  operation_term T (O.choose c j k) =
      choice (register_term c) (register_term j) (register_term k)
  operation_term T O.no_event = zeroed (c_type n T)
  operation_term T (O.event j) = pair_of (boolean true) (register_term j)
  operation_term T (O.is_event j) = dot (register_term j) 0
  operation_term T (O.carried j) =
      choice (dot (register_term j) 0) (dot (register_term j) 1) (zeroed (c_type n T))
  operation_term T (O.list js) = list_term T js
  operation_term T (O.nth j k d) =
      choice
      (both (binary at_most i64 (literal i64 (pos 0)) (register_term k))
      (binary less i64 (register_term k) (cast i64 (dot (register_term j) 0))))
      (at (dot (register_term j) 1) (register_term k)) (register_term d)
  operation_term T (O.len j) = cast i64 (dot (register_term j) 0)

  -- the line of a step
  abbrev pub step_command : TypeTree → Operation → Command
  step_command T (O.equal j k) = same_command h (t j) (register_term j) (register_term k)
  step_command T (O.left j) = part_command n T (operation_term T (O.left j))
  step_command T (O.right j) = part_command n T (operation_term T (O.right j))
  step_command T o = define (c_type n T) (operation_term T o)

  -- steps, a line each
  abbrev pub steps_command : List Step → Command
  steps_command [] = skip
  steps_command (s ∷ ss) = sequence (step_command s.ty s.operation) (steps_command ss)

-- the parameters, by pointer
abbrev pub const_params : Bounds → List TypeTree → List Parameter
const_params n Ps = map (λ P. const_param (c_type n P)) Ps

-- the lines of code behind parameters of types Ps, from an input of type A on
abbrev pub leaf_lines : Bounds → (TypeTree → ℕ) → List TypeTree → TypeTree → LeafSteps → Command
leaf_lines n h Ps A c =
    sequence (steps_command n h (length Ps) (type_at A c.0) c.0) (answer (local (length Ps + c.1)))

-- `B leaf(const P *p0, .., const A *x)`
abbrev pub leaf_function : Bounds → (TypeTree → ℕ) → List TypeTree → TypeTree → LeafSteps → Function
leaf_function n h Ps A c = record {
  params = const_params n Ps ++ const_param (c_type n A) ∷ [];
  result = c_type n (type_at A c.0 c.1);
  body = leaf_lines n h Ps A c;
}

-- `B constant(const P *p0, ..)`: the input is a unit
abbrev pub constant_function : Bounds → (TypeTree → ℕ) → List TypeTree → LeafSteps → Function
constant_function n h Ps c = record {
  params = const_params n Ps;
  result = c_type n (type_at unit_ty c.0 c.1);
  body = sequence (define (number_type u8) (literal u8 (pos 0))) (leaf_lines n h Ps unit_ty c);
}
