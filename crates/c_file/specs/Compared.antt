-- The types whose values code compares by a C function: those with lists, parts first.
use Rattle.std.specs.Prelude.{ℕ, suc, Bool, false, ◌||◌, if◌then◌else◌, List, [], ◌∷◌, ◌++◌}
use Rattle.sample_core.specs.TypeTree.{TypeTree, unit_ty, int_ty, pair_ty, event_ty, list_ty}
use Rattle.leaf_core.specs.TypeLimits.{same_tree}
use Rattle.leaf_core.specs.ExpressionView.{expression_of}
use Rattle.leaf_core.specs.declared.expr.Expr.{Expr}
use Rattle.leaf_code.specs.Operation.{Operation}
use Rattle.leaf_code.specs.Operation as O
use Rattle.leaf_code.specs.Running.{Step, LeafSteps}
use Rattle.leaf_code.specs.CodeOf.{right_type, carried_type, leaf_code, type_at}
use Rattle.net_code.specs.declared.statement.Function.{Function}
use Rattle.net_code.specs.declared.statement.Function.TheVariants as F
use Rattle.code_fits.specs.Layouts.{Layout, kept_type}
use Rattle.c_leaf.specs.LeafC.{has_no_list}

-- an expression of a function: a constant, or one at an input of a type
pub data Leaf : Type 0 where
  constant : Expr → Leaf
  at_input : TypeTree → Expr → Leaf

-- the expressions of a function, in the order of their C functions
abbrev pub leaves_of : Layout → Function → List Leaf
leaves_of L (F.Arr e) = at_input L.input e ∷ []
leaves_of L (F.Loop c f) = constant c ∷ []
leaves_of L (F.Cell form c) = constant c ∷ []
leaves_of L (F.Accum g z) =
    constant z ∷ at_input (pair_ty (kept_type L) (carried_type L.input)) g ∷ []
leaves_of L (F.PSwitch r fs e t) = at_input (pair_ty L.input int_ty) r ∷ []
leaves_of L (F.InitialOut c f) = constant c ∷ []
leaves_of L (F.InitialIn c f) = constant c ∷ []
leaves_of L (F.Collection fs m t) = at_input (carried_type (right_type L.input)) m ∷ []
leaves_of L _ = []

-- an expression's input: a constant's is a unit
abbrev pub input_of : Leaf → TypeTree
input_of (constant e) = unit_ty
input_of (at_input A e) = A

-- its code, under parameters of these types
abbrev pub code_of_leaf : List TypeTree → Leaf → LeafSteps
code_of_leaf Ps (constant e) = leaf_code Ps unit_ty (expression_of e)
code_of_leaf Ps (at_input A e) = leaf_code Ps A (expression_of e)

-- whether a type is one of these
abbrev pub is_among : TypeTree → List TypeTree → Bool
is_among A [] = false
is_among A (T ∷ Ts) = same_tree T A || is_among A Ts

-- its number among them: that of its C function, since these are the first of the file
abbrev pub number_among : List TypeTree → TypeTree → ℕ
number_among [] A = 0
number_among (T ∷ Ts) A = if same_tree T A then 0 else suc (number_among Ts A)

-- a type behind others, if it has lists and isn't there
abbrev pub and_type : TypeTree → List TypeTree → List TypeTree
and_type A Ts = if has_no_list A || is_among A Ts then Ts else Ts ++ A ∷ []

-- the same, behind its parts
abbrev pub with_type : TypeTree → List TypeTree → List TypeTree
with_type (pair_ty A B) Ts = and_type (pair_ty A B) (with_type B (with_type A Ts))
with_type (event_ty A) Ts = and_type (event_ty A) (with_type A Ts)
with_type (list_ty A) Ts = and_type (list_ty A) (with_type A Ts)
with_type A Ts = Ts

-- what an operation compares, and steps; t: the types of registers
abbrev pub with_operation : (ℕ → TypeTree) → Operation → List TypeTree → List TypeTree
with_operation t (O.equal j k) Ts = with_type (t j) Ts
with_operation t o Ts = Ts

abbrev pub with_steps : (ℕ → TypeTree) → List Step → List TypeTree → List TypeTree
with_steps t [] Ts = Ts
with_steps t (s ∷ ss) Ts = with_steps t ss (with_operation t s.operation Ts)

-- what expressions compare, under parameters of types Ps
abbrev pub with_leaves : List TypeTree → List Leaf → List TypeTree → List TypeTree
with_leaves Ps [] Ts = Ts
with_leaves Ps (l ∷ ls) Ts =
    with_leaves Ps ls
    (with_steps (type_at (input_of l) (code_of_leaf Ps l).0) (code_of_leaf Ps l).0 Ts)

-- what functions compare
abbrev pub with_functions : List Function → List Layout → List TypeTree → List TypeTree
with_functions [] Ls Ts = Ts
with_functions (f ∷ fs) [] Ts = Ts
with_functions (f ∷ fs) (L ∷ Ls) Ts =
    with_functions fs Ls (with_leaves L.params (leaves_of L f) Ts)
