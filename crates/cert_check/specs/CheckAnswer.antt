-- What the check of a certificate answers: the number of steps where they derive the target, else
-- the first fault.
use Rattle.std.specs.Prelude.{◌≡◌, ℕ, suc, ◌<◌, ◌≤◌, List, ◌∷◌, ◌++◌, length, Some, None, Result, Ok, Err}
use Rattle.leaf_core.specs.Expression.{Expression}
use Rattle.net_tree.specs.Place.{Tree, a_network}
use Rattle.net_syntax.specs.Placed.{Placed, placed_at}
use Rattle.net_syntax.specs.Rewriting.{Rewrites}
use Rattle.net_tree.specs.LawStep.{Step}
use Rattle.net_meaning.specs.TypedNetwork.{TypedNetwork}
use Rattle.cert_check.specs.declared.answer.Accepted.{Accepted}
use Rattle.cert_check.specs.declared.answer.CheckFault.{CheckFault}
use Rattle.cert_check.specs.declared.answer.CheckFault.TheVariants.{InputsDiffer, TooManySteps, NoPosition, NoMatch, IllTyped, EndsElsewhere, Memory}
use Rattle.cert_check.specs.TreeAnswer.{TreeAnswer}
use Rattle.cert_check.specs.Derives.{Answered, Steps, Derives}
use Rattle.cert_check.specs.declared.derivation.TheConstants.{MOST_STEPS}

-- the step's position isn't there
abbrev pub NowhereIn : TypedNetwork → Step → Type 0
NowhereIn t s = placed_at 0 0 (a_network t.net) s.position ≡ None

-- the position is there, and the step's law has no answer at it
pub record Unmatched (t : TypedNetwork) (s : Step) : Type 0 where
  pub place : Placed
  pub found : placed_at 0 0 (a_network t.net) s.position ≡ Some place
  pub no_answer : (new : Tree Expression)
      → TreeAnswer place.olds s.law s.direction place.tree s.given new → ⊥

-- the law has an answer, and with it at the position there is no typed network within the limits
-- in which the output type at the position is kept
pub record Untyped (t : TypedNetwork) (s : Step) : Type 0 where
  pub new : Tree Expression
  pub answered : Answered t s new
  pub refused : (t' : TypedNetwork) → Rewrites t s.position new t' → ⊥

-- step n, counted from 1, is the first that fails so: those before it lead to a network
pub record FirstFails (Fails : TypedNetwork → Step → Type 0) (source : TypedNetwork)
    (steps : List Step) (n : ℕ) : Type 0 where
  pub before : List Step
  pub step : Step
  pub behind : List Step
  pub steps_are : steps ≡ before ++ step ∷ behind
  pub number_is : n ≡ suc (length before)
  pub reached : TypedNetwork
  pub leads : Steps source before reached
  pub fails : Fails reached step

-- source and target have the same input type, and there are at most 10,000 steps
pub record BeginsCheck (source target : TypedNetwork) (steps : List Step) : Type 0 where
  pub same_input : source.input ≡ target.input
  pub few : length steps ≤ MOST_STEPS

-- all steps lead to a network, which isn't the target's
pub record LeadsElsewhere (source target : TypedNetwork) (steps : List Step) : Type 0 where
  pub last : TypedNetwork
  pub leads : Steps source steps last
  pub elsewhere : last.net ≡ target.net → ⊥

-- that this is the answer; want of memory comes only where allocation failed, so never before the
-- steps begin
abbrev pub CheckAnswer : TypedNetwork → TypedNetwork → List Step → Result Accepted CheckFault
    → Type 0
CheckAnswer source target steps (Ok accepted) =
    Derives source target steps × (accepted.steps ≡ length steps)
CheckAnswer source target steps (Err InputsDiffer) = source.input ≡ target.input → ⊥
CheckAnswer source target steps (Err TooManySteps) =
    (source.input ≡ target.input) × (MOST_STEPS < length steps)
CheckAnswer source target steps (Err (NoPosition n)) =
    BeginsCheck source target steps × FirstFails NowhereIn source steps n
CheckAnswer source target steps (Err (NoMatch n)) =
    BeginsCheck source target steps × FirstFails Unmatched source steps n
CheckAnswer source target steps (Err (IllTyped n)) =
    BeginsCheck source target steps × FirstFails Untyped source steps n
CheckAnswer source target steps (Err EndsElsewhere) =
    BeginsCheck source target steps × LeadsElsewhere source target steps
CheckAnswer source target steps (Err Memory) = BeginsCheck source target steps
