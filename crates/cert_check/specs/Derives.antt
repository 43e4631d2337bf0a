-- What a step makes of a typed network, and what steps derive.
use Rattle.std.specs.Prelude.{◌≡◌, ℕ, ◌≤◌, List, [], ◌∷◌, length, Option, Some, option_map}
use Rattle.leaf_core.specs.Expression.{Expression}
use Rattle.net_tree.specs.Place.{Tree, a_network}
use Rattle.net_syntax.specs.Placed.{Placed, placed_at}
use Rattle.net_syntax.specs.Rewriting.{Rewrites}
use Rattle.net_tree.specs.LawStep.{Step}
use Rattle.net_meaning.specs.TypedNetwork.{TypedNetwork}
use Rattle.cert_check.specs.TreeAnswer.{TreeAnswer}
use Rattle.cert_check.specs.declared.derivation.TheConstants.{MOST_STEPS}

-- what stands at a position of a typed network, if the position is there
abbrev pub standing_tree : TypedNetwork → List ℕ → Option (Tree Expression)
standing_tree t p = option_map (λ c. c.tree) (placed_at 0 0 (a_network t.net) p)

-- the step's law answers `new` at the step's position in t
pub record Answered (t : TypedNetwork) (s : Step) (new : Tree Expression) : Type 0 where
  pub place : Placed
  pub found : placed_at 0 0 (a_network t.net) s.position ≡ Some place
  pub answered : TreeAnswer place.olds s.law s.direction place.tree s.given new

-- the step leads from t to t': the tree at the position is replaced by the law's answer, the result
-- is typed and within the limits, and the output type at the position is kept
pub record Next (t : TypedNetwork) (s : Step) (t' : TypedNetwork) : Type 0 where
  pub new : Tree Expression
  pub answered : Answered t s new
  pub rewritten : Rewrites t s.position new t'

-- the steps lead from one network to another, one after the other
pub data Steps : TypedNetwork → List Step → TypedNetwork → Type 0 where
  no_step : {t : TypedNetwork} → Steps t [] t
  step_then : {t u v : TypedNetwork} {s : Step} {ss : List Step} → Next t s u → Steps u ss v
      → Steps t (s ∷ ss) v

-- at most 10,000 steps lead from the source to exactly the target's network, of the same input type
pub record Derives (source target : TypedNetwork) (steps : List Step) : Type 0 where
  pub same_input : source.input ≡ target.input
  pub few : length steps ≤ MOST_STEPS
  pub last : TypedNetwork
  pub leads : Steps source steps last
  pub ends : last.net ≡ target.net
