-- What a law answers at a network.
use Rattle.std.specs.Prelude.{◌≡◌, ℕ, List, length, Option, Some, None, MatchOption}
use Rattle.sample_core.specs.TypeTree.{TypeTree}
use Rattle.leaf_core.specs.Expression.{Expression}
use Rattle.leaf_core.specs.ExpressionValue.{value_of}
use Rattle.leaf_core.specs.declared.expr.Expr.{Expr}
use Rattle.net_tree.specs.Network.{Network}
use Rattle.net_tree.specs.NetworkView.{tree_of}
use Rattle.net_meaning.specs.Typing.{Arrow}
use Rattle.net_meaning.specs.TypedNetwork.{NetTyped}
use Rattle.net_meaning.specs.Sameness.{SameNet}
use Rattle.net_tree.specs.declared.net.Net.{Net}
use Rattle.net_tree.specs.declared.law_step.Law.{Law}
use Rattle.net_tree.specs.declared.law_step.Law.TheVariants as L
use Rattle.net_tree.specs.declared.law_step.Direction.{Direction}
use Rattle.net_tree.specs.declared.law_step.Direction.TheVariants.{Forward, Backward}
use Rattle.law_rules.specs.NetworkLaw.{NetworkLaw}

-- a law, its direction, the network at hand, the one that is given, how many frozen networks are in
-- scope, and the answer: forward, with none given, the right side of the law whose left side is at
-- hand; backward the one that is given, where the law leads from it to exactly the one at hand
pub data NetworkAnswer : Law → Direction → Network Expression → Option (Network Expression) → ℕ
    → Network Expression → Type 0 where
  forward_answer : {n olds : ℕ} {net r : Network Expression} → NetworkLaw n olds net r
      → NetworkAnswer (L.L n) Forward net None olds r
  backward_answer : {n olds : ℕ} {net g : Network Expression} → NetworkLaw n olds g net
      → NetworkAnswer (L.L n) Backward net (Some g) olds g

-- an answer, or none if there is none
abbrev pub IsNetworkAnswer : Law → Direction → Network Expression → Option (Network Expression) → ℕ
    → Option (Net Expr) → Type 0
IsNetworkAnswer law direction net given olds answer =
    MatchOption answer
    ((r : Network Expression) → NetworkAnswer law direction net given olds r → ⊥)
    (λ r. NetworkAnswer law direction net given olds (tree_of r))

-- the right side of law n whose left side is the network, or none where it is no left side
abbrev pub IsNetworkRightSide : ℕ → ℕ → Network Expression → Option (Net Expr) → Type 0
IsNetworkRightSide n olds net answer =
    MatchOption answer ((r : Network Expression) → NetworkLaw n olds net r → ⊥)
    (λ r. NetworkLaw n olds net (tree_of r))

-- there is at most one answer
abbrev pub OneNetworkAnswerLaw : Type 0
OneNetworkAnswerLaw = (law : Law) (direction : Direction) (net : Network Expression)
    (given : Option (Network Expression)) (olds : ℕ) (r s : Network Expression)
    → NetworkAnswer law direction net given olds r
    → NetworkAnswer law direction net given olds s → r ≡ s

-- where both are typed alike in one scope, with so many frozen networks, the network at hand and
-- the answer do the same, whatever they are put into
abbrev pub SameAnswerLaw : Type 0
SameAnswerLaw = (law : Law) (direction : Direction) (net : Network Expression)
    (given : Option (Network Expression)) (olds : ℕ) (r : Network Expression)
    → NetworkAnswer law direction net given olds r → (Ps : List TypeTree) (Os : List Arrow)
    (A B : TypeTree) → length Os ≡ olds → NetTyped Ps Os net A B → NetTyped Ps Os r A B
    → SameNet value_of Ps Os A B net r
