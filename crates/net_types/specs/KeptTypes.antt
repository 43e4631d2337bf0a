-- Whether a type is kept where a part of a typed network is replaced, as the code finds it.
use Rattle.std.specs.Prelude.{ℕ, Bool, false, ◌&&◌, List, [], ◌∷◌, Option, Some, None}
use Rattle.std.specs.Result.{result_ok}
use Rattle.sample_core.specs.TypeTree.{TypeTree}
use Rattle.leaf_core.specs.Expression.{Expression}
use Rattle.leaf_core.specs.ExpressionLimits.{expression_fits}
use Rattle.leaf_core.specs.TypeLimits.{same_tree}
use Rattle.leaf_core.specs.Parts.{with_part_at}
use Rattle.leaf_core.specs.PartWalk.{part_type_at}
use Rattle.net_tree.specs.Network.{Network}
use Rattle.net_tree.specs.Place.{Tree, a_network, a_leaf, child}
use Rattle.net_syntax.specs.Standing.{Standing}
use Rattle.net_syntax.specs.StandingWalk.{inside}
use Rattle.net_types.specs.Check.{net_walk}

-- the output type that the check gives a network that stands there
abbrev pub checked_output : Standing → Network Expression → Option TypeTree
checked_output R f = result_ok (net_walk [] R.params R.olds R.input f)

-- there are two types, and they are the same
abbrev pub same_type : Option TypeTree → Option TypeTree → Bool
same_type (Some A) (Some B) = same_tree A B
same_type _ _ = false

-- the expression v is within the limits, and at the path it has the type that e has there
abbrev pub kept_in_leaf : Standing → Expression → List ℕ → Option Expression → Bool
kept_in_leaf R e p None = false
kept_in_leaf R e p (Some v) =
    expression_fits v
    && same_type (part_type_at R.params R.input e p) (part_type_at R.params R.input v p)

-- what holds of two things, where both are there
abbrev pub both_there : {X Y : Type 0} → Option X → Option Y → (X → Y → Bool) → Bool
both_there (Some x) (Some y) test = test x y
both_there _ _ test = false

-- at the position in a tree that stands in R, s has the type of what stands there, where it stands
abbrev pub type_kept : Standing → Tree Expression → List ℕ → Tree Expression → Bool
type_kept R (a_leaf e) p (a_leaf s) = kept_in_leaf R e p (with_part_at e p s)
type_kept R (a_leaf e) p (a_network s) = false
type_kept R (a_network f) [] (a_network s) = same_type (checked_output R f) (checked_output R s)
type_kept R (a_network f) [] (a_leaf s) = false
type_kept R (a_network f) (k ∷ p) s = both_there (child f k) (inside R f k) (λ c Q. type_kept Q c p s)
