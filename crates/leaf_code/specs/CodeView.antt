-- What the code's steps are.
use Rattle.std.specs.Prelude.{◌≡◌, ℕ, List, ◌++◌, map}
use Rattle.sample_core.specs.TypeTree.{TypeTree, unit_ty, bool_ty, int_ty}
use Rattle.sample_core.specs.TypeView.{type_of}
use Rattle.leaf_core.specs.declared.literal.Literal.{Literal}
use Rattle.leaf_core.specs.declared.literal.Literal.TheVariants as C
use Rattle.leaf_code.specs.Operation.{Operation}
use Rattle.leaf_code.specs.Operation as O
use Rattle.leaf_code.specs.Running as R
use Rattle.leaf_code.specs.CodeOf.{put}
use Rattle.leaf_code.specs.declared.emit.Binary.{Binary}
use Rattle.leaf_code.specs.declared.emit.Binary.TheVariants as B
use Rattle.leaf_code.specs.declared.operation.Operation as V
use Rattle.leaf_code.specs.declared.operation.Operation.TheVariants as P
use Rattle.leaf_code.specs.declared.operation.Step.{Step}
use Rattle.leaf_code.specs.declared.operation.LeafCode.{LeafCode}

-- the operation that a literal is
abbrev pub literal_in : Literal → Operation
literal_in C.Unit = O.unit
literal_in (C.Bool b) = O.bool b
literal_in (C.Int n) = O.int n

-- a literal's type
abbrev pub literal_type : Literal → TypeTree
literal_type C.Unit = unit_ty
literal_type (C.Bool b) = bool_ty
literal_type (C.Int n) = int_ty

-- the operation that an `Operation` is
abbrev pub operation_of : V.Operation → Operation
operation_of (P.Param k) = O.param k
operation_of (P.Literal c) = literal_in c
operation_of (P.Pair j k) = O.pair j k
operation_of (P.Left j) = O.left j
operation_of (P.Right j) = O.right j
operation_of (P.Neg j) = O.neg j
operation_of (P.Add j k) = O.add j k
operation_of (P.Sub j k) = O.sub j k
operation_of (P.Mul j k) = O.mul j k
operation_of (P.Less j k) = O.less j k
operation_of (P.Equal j k) = O.equal j k
operation_of (P.Not j) = O.not j
operation_of (P.And j k) = O.and j k
operation_of (P.Or j k) = O.or j k
operation_of (P.Choose c j k) = O.choose c j k
operation_of P.NoEvent = O.no_event
operation_of (P.Event j) = O.event j
operation_of (P.IsEvent j) = O.is_event j
operation_of (P.Carried j) = O.carried j
operation_of (P.List js) = O.list js.items
operation_of (P.Nth j k d) = O.nth j k d
operation_of (P.Len j) = O.len j

-- the step that a `Step` is
abbrev pub step_of : Step → R.Step
step_of s = R.step (type_of s.ty) (operation_of s.operation)

-- steps as a list
abbrev pub steps_in : List Step → List R.Step
steps_in ss = map step_of ss

-- the code that a `LeafCode` is
abbrev pub leaf_of : LeafCode → R.LeafSteps
leaf_of c = (steps_in c.steps.items, c.answer)

-- one step more, of two registers
abbrev pub put_binary : List R.Step → Binary → ℕ × ℕ → R.LeafSteps
put_binary s B.Add r = put s int_ty (O.add r.0 r.1)
put_binary s B.Sub r = put s int_ty (O.sub r.0 r.1)
put_binary s B.Mul r = put s int_ty (O.mul r.0 r.1)
put_binary s B.Less r = put s bool_ty (O.less r.0 r.1)
put_binary s B.Equal r = put s bool_ty (O.equal r.0 r.1)
put_binary s B.And r = put s bool_ty (O.and r.0 r.1)
put_binary s B.Or r = put s bool_ty (O.or r.0 r.1)

-- the steps of elements were added, and their registers behind others
abbrev pub AddsElements : List R.Step × List ℕ → List R.Step → List ℕ → List ℕ → Type 0
AddsElements emitted steps before now = (emitted.0 ≡ steps) × (now ≡ before ++ emitted.1)
