-- Steps of certificates, and what the code's are.
use Rattle.std.specs.Prelude.{ℕ, List, Option, option_map}
use Rattle.leaf_core.specs.Expression.{Expression}
use Rattle.leaf_core.specs.ExpressionView.{expression_of}
use Rattle.net_tree.specs.NetworkView.{tree_of}
use Rattle.net_tree.specs.Place.{Tree, a_network, a_leaf}
use Rattle.net_tree.specs.declared.law_step.Law.{Law}
use Rattle.net_tree.specs.declared.law_step.Direction.{Direction}
use Rattle.net_tree.specs.declared.law_step.LawStep.{LawStep}
use Rattle.net_tree.specs.declared.law_step.Tree as C
use Rattle.net_tree.specs.declared.law_step.Tree.TheVariants as V
use Rattle.net_tree.specs.declared.law_step.TreeRef.{TreeRef}
use Rattle.net_tree.specs.declared.law_step.TreeRef.TheVariants as R

-- a law that is taken one way at a position, with the tree that is given for it, if one is
pub record Step : Type 0 where
  pub law : Law
  pub direction : Direction
  pub position : List ℕ
  pub given : Option (Tree Expression)

-- the network or the expression that a `Tree` is
abbrev pub part_of : C.Tree → Tree Expression
part_of (V.Net net) = a_network (tree_of net)
part_of (V.Expr e) = a_leaf (expression_of e)

-- the network or the expression that a `TreeRef` is
abbrev pub seen : TreeRef → Tree Expression
seen (R.Net f) = a_network (tree_of f.now)
seen (R.Expr e) = a_leaf (expression_of e.now)

-- the step that a `LawStep` is
abbrev pub step_of : LawStep → Step
step_of s =
    record {
      law = s.law;
      direction = s.direction;
      position = s.position;
      given = option_map part_of s.given;
    }
