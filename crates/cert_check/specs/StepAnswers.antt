-- What the parts of a check answer: of one step, and of steps one after the other.
use Rattle.std.specs.Prelude.{◌≡◌, ℕ, ◌<◌, ◌≤◌, List, length, Option, Some, None, MatchOption, Result, Ok, Err}
use Rattle.std.proofs.Common.{Bor}
use Rattle.leaf_core.specs.Expression.{Expression}
use Rattle.net_tree.specs.Place.{Tree}
use Rattle.net_tree.specs.LawStep.{Step, part_of}
use Rattle.net_tree.specs.declared.law_step.Law.{Law}
use Rattle.net_tree.specs.declared.law_step.Direction.{Direction}
use Rattle.net_tree.specs.declared.law_step.Tree as C
use Rattle.net_meaning.specs.TypedNetwork.{TypedNetwork}
use Rattle.cert_check.specs.declared.answer.CheckFault.{CheckFault}
use Rattle.cert_check.specs.declared.answer.CheckFault.TheVariants.{TooManySteps, NoPosition, NoMatch, IllTyped, Memory}
use Rattle.cert_check.specs.TreeAnswer.{TreeAnswer}
use Rattle.cert_check.specs.Derives.{Answered, Next, Steps}
use Rattle.cert_check.specs.CheckAnswer.{NowhereIn, Unmatched, Untyped, FirstFails}
use Rattle.cert_check.specs.declared.derivation.TheConstants.{MOST_STEPS}

-- the tree that is given, if one is
abbrev pub given_tree : Option (Bor C.Tree) → Option (Tree Expression)
given_tree None = None
given_tree (Some tree) = Some (part_of tree.now)

-- with so many frozen networks in scope, a law that is taken in this direction has this answer at
-- the tree, where the other one is given, if one is; or it has none
abbrev pub IsTreeAnswer : ℕ → Law → Direction → Tree Expression → Option (Tree Expression)
    → Option C.Tree → Type 0
IsTreeAnswer olds law direction tree given answer =
    MatchOption answer
    ((new : Tree Expression) → TreeAnswer olds law direction tree given new → ⊥)
    (λ new. TreeAnswer olds law direction tree given (part_of new))

-- the answer of step n's law at its position in t, or why there is none
abbrev pub LawAnswer : TypedNetwork → Step → ℕ → Result C.Tree CheckFault → Type 0
LawAnswer t s n (Ok new) = Answered t s (part_of new)
LawAnswer t s n (Err (NoPosition k)) = (k ≡ n) × NowhereIn t s
LawAnswer t s n (Err (NoMatch k)) = (k ≡ n) × Unmatched t s
LawAnswer t s n (Err Memory) = Unit {0}
LawAnswer t s n (Err fault) = ⊥

-- why step n doesn't lead on from t
abbrev pub StepFault : TypedNetwork → Step → ℕ → CheckFault → Type 0
StepFault t s n (NoPosition k) = (k ≡ n) × NowhereIn t s
StepFault t s n (NoMatch k) = (k ≡ n) × Unmatched t s
StepFault t s n (IllTyped k) = (k ≡ n) × Untyped t s
StepFault t s n Memory = Unit {0}
StepFault t s n fault = ⊥

-- where the network was t and now is t': step n leads from t to t'; or it doesn't lead on, and the
-- network is as before
abbrev pub StepAnswer : {A : Type 0} → TypedNetwork → Step → ℕ → TypedNetwork → Result A CheckFault
    → Type 0
StepAnswer t s n t' (Ok a) = Next t s t'
StepAnswer t s n t' (Err fault) = StepFault t s n fault × (t' ≡ t)

-- the first fault of the steps
abbrev pub FirstStepFault : TypedNetwork → List Step → CheckFault → Type 0
FirstStepFault t ss (NoPosition n) = FirstFails NowhereIn t ss n
FirstStepFault t ss (NoMatch n) = FirstFails Unmatched t ss n
FirstStepFault t ss (IllTyped n) = FirstFails Untyped t ss n
FirstStepFault t ss Memory = Unit {0}
FirstStepFault t ss fault = ⊥

-- the steps, so many, lead from t to t', or the first fault
abbrev pub StepsAnswer : TypedNetwork → List Step → TypedNetwork → Result ℕ CheckFault → Type 0
StepsAnswer t ss t' (Ok n) = Steps t ss t' × (n ≡ length ss)
StepsAnswer t ss t' (Err fault) = FirstStepFault t ss fault

-- at most 10,000 steps lead from the network to the answer; else there are more, or the first fault
abbrev pub ApplyAnswer : TypedNetwork → List Step → Result TypedNetwork CheckFault → Type 0
ApplyAnswer t ss (Ok last) = (length ss ≤ MOST_STEPS) × Steps t ss last
ApplyAnswer t ss (Err TooManySteps) = MOST_STEPS < length ss
ApplyAnswer t ss (Err fault) = (length ss ≤ MOST_STEPS) × FirstStepFault t ss fault
