-- The types that the code finds of the parts of expressions.
use Rattle.std.specs.Prelude.{ℕ, suc, List, [], ◌∷◌, Option, Some, None, option_and_then}
use Rattle.std.specs.Result.{result_ok}
use Rattle.sample_core.specs.TypeTree.{TypeTree, pair_ty, event_ty}
use Rattle.leaf_core.specs.Expression.{Expression, then_expr, on}
use Rattle.leaf_core.specs.ExpressionCheck.{type_walk}
use Rattle.leaf_core.specs.Parts.{part}

-- the type that the walk finds of an expression, its height and size not tested
abbrev pub found_type : List TypeTree → TypeTree → Expression → Option TypeTree
found_type Ps A e = result_ok (type_walk Ps A e)

-- an A with what an event of the type carries
abbrev pub with_carried : TypeTree → TypeTree → Option TypeTree
with_carried A (event_ty V) = Some (pair_ty A V)
with_carried A _ = None

-- what part k gets, where the whole gets an A
abbrev pub part_input : List TypeTree → TypeTree → Expression → ℕ → Option TypeTree
part_input Ps A (then_expr f g) (suc k) = found_type Ps A f
part_input Ps A (on e d b) (suc (suc k)) = option_and_then (with_carried A) (found_type Ps A e)
part_input Ps A e k = Some A

-- the type of what stands at a path, where it stands; nothing where there is no such part, or no
-- type
abbrev pub part_type_at : List TypeTree → TypeTree → Expression → List ℕ → Option TypeTree
part_type_at Ps A e [] = found_type Ps A e
part_type_at Ps A e (k ∷ p) =
    option_and_then (λ c. option_and_then (λ B. part_type_at Ps B c p) (part_input Ps A e k))
    (part e k)
