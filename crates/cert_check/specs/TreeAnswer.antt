-- What a law answers at a tree, a network or an expression.
use Rattle.std.specs.Prelude.{ℕ, Option, Some, None}
use Rattle.leaf_core.specs.Expression.{Expression}
use Rattle.net_tree.specs.Place.{Tree, a_network, a_leaf}
use Rattle.net_tree.specs.declared.law_step.Law.{Law}
use Rattle.net_tree.specs.declared.law_step.Direction.{Direction}
use Rattle.expr_laws.specs.Answer.{ExpressionAnswer}
use Rattle.law_rules.specs.Answer.{NetworkAnswer}

-- with so many frozen networks in scope, a law that is taken in this direction answers the last
-- tree at the first one, where the one between is given, if one is. All are of one kind
abbrev pub TreeAnswer : ℕ → Law → Direction → Tree Expression → Option (Tree Expression)
    → Tree Expression → Type 0
TreeAnswer olds law direction (a_leaf e) None (a_leaf r) = ExpressionAnswer law direction e None r
TreeAnswer olds law direction (a_leaf e) (Some (a_leaf g)) (a_leaf r) =
    ExpressionAnswer law direction e (Some g) r
TreeAnswer olds law direction (a_network f) None (a_network r) =
    NetworkAnswer law direction f None olds r
TreeAnswer olds law direction (a_network f) (Some (a_network g)) (a_network r) =
    NetworkAnswer law direction f (Some g) olds r
TreeAnswer olds law direction tree given answer = ⊥
