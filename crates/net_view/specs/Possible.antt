-- The steps that may be taken forward at or below a position.
use Rattle.std.specs.Prelude.{◌≡◌, ℕ, ◌+◌, ◌<◌, List, map, Option, Some, None}
use Rattle.std.specs.List.{All}
use Rattle.leaf_core.specs.Expression.{Expression}
use Rattle.net_tree.specs.Place.{Tree}
use Rattle.net_tree.specs.LawStep.{Step, step_of}
use Rattle.net_meaning.specs.TypedNetwork.{TypedNetwork}
use Rattle.net_tree.specs.declared.law_step.TheConstants.{LAST_EXPRESSION_LAW}
use Rattle.net_tree.specs.declared.law_step.Law.{Law}
use Rattle.net_tree.specs.declared.law_step.Law.TheVariants as L
use Rattle.net_tree.specs.declared.law_step.Direction.TheVariants.{Forward}
use Rattle.cert_check.specs.Derives.{Next}
use Rattle.net_opt.specs.Optimising.{NoStepBy, forward_step}
use Rattle.net_opt.specs.Order.{Before}
use Rattle.net_view.specs.Listed.{IsAtOrBelow, Lists}
use Rattle.net_view.specs.Trace.{Changed, Changes, changed_of}
use Rattle.net_view.specs.declared.possible.PossibleStep.{PossibleStep}

-- a step, and what it changes
pub record Possible : Type 0 where
  pub step : Step
  pub change : Changed

-- what the code's one says
abbrev pub possible_of : PossibleStep → Possible
possible_of x = record { step = step_of x.step; change = changed_of x.change }

-- a step that changes one tree to another
abbrev pub changing : Step → Tree Expression → Tree Expression → Possible
changing s u v = record { step = s; change = record { before = u; after = v } }

-- a step forward, with no tree given, that leads on: a check would accept it
pub record MayBeTaken (t : TypedNetwork) (s : Step) : Type 0 where
  pub forward : s.direction ≡ Forward
  pub none_given : s.given ≡ None
  pub to : TypedNetwork
  pub next : Next t s to

-- the laws by number, those of expressions before those of networks
abbrev pub law_rank : Law → ℕ
law_rank (L.E n) = n
law_rank (L.L n) = LAST_EXPRESSION_LAW + n

-- the first step is at an earlier position in preorder, or at the same one by an earlier law
pub data EarlierStep (s r : Step) : Type 0 where
  earlier_position : Before s.position r.position → EarlierStep s r
  earlier_law : s.position ≡ r.position → law_rank s.law < law_rank r.law → EarlierStep s r

-- the step leads on, and changes this
pub record IsPossible (t : TypedNetwork) (x : Possible) : Type 0 where
  pub to : TypedNetwork
  pub changes : Changes t x.step x.change to

-- the step forward by the law at p, where it leads on
abbrev pub IsFoundBy : TypedNetwork → List ℕ → Law → Option Possible → Type 0
IsFoundBy t p law None = NoStepBy t p law
IsFoundBy t p law (Some x) = IsPossible t x × (x.step ≡ forward_step law p)

-- all steps of a kind, each with what it changes
pub record ListsSteps (t : TypedNetwork) (So : Step → Type 0) (xs : List Possible) : Type 0 where
  pub all : Lists EarlierStep So (map (λ x. x.step) xs)
  pub each : All (IsPossible t) xs

-- all steps at or below p that may be taken, by the positions in preorder and there by the laws
abbrev pub ArePossible : TypedNetwork → List ℕ → List Possible → Type 0
ArePossible t p xs = ListsSteps t (λ s. MayBeTaken t s × IsAtOrBelow p s.position) xs

-- the same at p itself
abbrev pub ArePossibleAt : TypedNetwork → List ℕ → List Possible → Type 0
ArePossibleAt t p xs = ListsSteps t (λ s. MayBeTaken t s × (p ≡ s.position)) xs
