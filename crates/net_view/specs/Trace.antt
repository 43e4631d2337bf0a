-- Steps taken one after the other, with what each changes.
use Rattle.std.specs.Prelude.{◌≡◌, ◌≢◌, ℕ, suc, ◌<◌, ◌≤◌, List, [], ◌∷◌, ◌++◌, length, map, take, Option, Some, None, option_map, MatchOption, Result, Ok, Err}
use Rattle.leaf_core.specs.Expression.{Expression}
use Rattle.net_tree.specs.Place.{Tree, a_network}
use Rattle.net_syntax.specs.Placed.{Placed, placed_at}
use Rattle.net_tree.specs.LawStep.{Step, part_of}
use Rattle.net_meaning.specs.TypedNetwork.{TypedNetwork}
use Rattle.net_tree.specs.declared.law_step.Direction.TheVariants.{Forward}
use Rattle.cert_check.specs.declared.answer.CheckFault.{CheckFault}
use Rattle.cert_check.specs.declared.answer.CheckFault.TheVariants.{TooManySteps, Memory}
use Rattle.cert_check.specs.TreeAnswer.{TreeAnswer}
use Rattle.cert_check.specs.Derives.{Next, standing_tree}
use Rattle.cert_check.specs.StepAnswers.{StepFault}
use Rattle.cert_check.specs.declared.derivation.TheConstants.{MOST_STEPS}
use Rattle.net_view.specs.declared.trace.Change.{Change}
use Rattle.net_view.specs.declared.trace.RefusedStep.{RefusedStep}
use Rattle.net_view.specs.declared.trace.Trace.{Trace}
use Rattle.net_view.specs.declared.trace.StepTrace.{StepTrace}
use Rattle.net_view.specs.declared.trace.StepTrace.TheVariants.{Taken, Refused}

-- the first steps, so many; all, where no number is given
abbrev pub first_steps : Option ℕ → List Step → List Step
first_steps None ss = ss
first_steps (Some n) ss = take n ss

-- what a step changed: what stood at its position, and what stands there now
pub record Changed : Type 0 where
  pub before : Tree Expression
  pub after : Tree Expression

-- a step that was refused: why, what stands at its position, and what its law leads to from the
-- tree that it gives
pub record Stopped : Type 0 where
  pub fault : CheckFault
  pub there : Option (Tree Expression)
  pub led : Option (Tree Expression)

-- the change that a `Change` is
abbrev pub changed_of : Change → Changed
changed_of c = record { before = part_of c.before; after = part_of c.after }

-- the stop that a `RefusedStep` is
abbrev pub stopped_of : RefusedStep → Stopped
stopped_of s =
    record { fault = s.fault; there = option_map part_of s.there; led = option_map part_of s.led }

-- a step leads from t to u, and changes this
pub record Changes (t : TypedNetwork) (s : Step) (c : Changed) (u : TypedNetwork) : Type 0 where
  pub next : Next t s u
  pub before : standing_tree t s.position ≡ Some c.before
  pub after : standing_tree u s.position ≡ Some c.after

-- steps lead from one network to another, one after the other, and each changes this
pub data AreChanges : TypedNetwork → List Step → List Changed → TypedNetwork → Type 0 where
  no_change : {t : TypedNetwork} → AreChanges t [] [] t
  change_then : {t u v : TypedNetwork} {s : Step} {ss : List Step} {c : Changed} {cs : List Changed}
      → Changes t s c u → AreChanges u ss cs v → AreChanges t (s ∷ ss) (c ∷ cs) v

-- forward, the step's law leads from the tree that it gives to this, with as many frozen networks
-- in scope as where its position is
pub record LeadsTo (t : TypedNetwork) (s : Step) (new : Tree Expression) : Type 0 where
  pub place : Placed
  pub found : placed_at 0 0 (a_network t.net) s.position ≡ Some place
  pub given : Tree Expression
  pub gives : s.given ≡ Some given
  pub answered : TreeAnswer place.olds s.law Forward given None new

-- it leads to this, or to nothing
abbrev pub IsLedTo : TypedNetwork → Step → Option (Tree Expression) → Type 0
IsLedTo t s led = MatchOption led ((new : Tree Expression) → LeadsTo t s new → ⊥) (LeadsTo t s)

-- step n doesn't lead on from t, for that reason; so much is told of it
pub record StopsAt (t : TypedNetwork) (s : Step) (n : ℕ) (stop : Stopped) : Type 0 where
  pub why : StepFault t s n stop.fault
  pub refused : stop.fault ≢ Memory
  pub there : stop.there ≡ standing_tree t s.position
  pub led : IsLedTo t s stop.led

-- all steps are taken
pub record AllTaken (t : TypedNetwork) (ss : List Step) (cs : List Changed) : Type 0 where
  pub last : TypedNetwork
  pub changes : AreChanges t ss cs last

-- the steps before one are taken, and that one is refused
pub record TakenBefore (t : TypedNetwork) (ss : List Step) (cs : List Changed) (stop : Stopped)
    : Type 0 where
  pub before : List Step
  pub step : Step
  pub behind : List Step
  pub steps_are : ss ≡ before ++ step ∷ behind
  pub reached : TypedNetwork
  pub changes : AreChanges t before cs reached
  pub stops : StopsAt reached step (suc (length before)) stop

-- what comes of the steps from t: these changes, and this stop behind them, if there is one
abbrev pub IsTrace : TypedNetwork → List Step → List Changed → Option Stopped → Type 0
IsTrace t ss cs None = AllTaken t ss cs
IsTrace t ss cs (Some stop) = TakenBefore t ss cs stop

-- that a `Trace` tells it
abbrev pub TracesSteps : TypedNetwork → List Step → Trace → Type 0
TracesSteps t ss trace =
    IsTrace t ss (map changed_of trace.changes.items) (option_map stopped_of trace.stop)

-- it is told of at most 10,000 steps; there are more; or memory was short
abbrev pub TraceAnswer : TypedNetwork → List Step → Result Trace CheckFault → Type 0
TraceAnswer t ss (Ok trace) = (length ss ≤ MOST_STEPS) × TracesSteps t ss trace
TraceAnswer t ss (Err TooManySteps) = MOST_STEPS < length ss
TraceAnswer t ss (Err Memory) = length ss ≤ MOST_STEPS
TraceAnswer t ss (Err fault) = ⊥

-- what comes of step n, where the network was t and now is u
abbrev pub IsStepTrace : TypedNetwork → Step → ℕ → TypedNetwork → StepTrace → Type 0
IsStepTrace t s n u (Taken change) = Changes t s (changed_of change) u
IsStepTrace t s n u (Refused stop) = StopsAt t s n (stopped_of stop)

-- so much is told of a step that is refused for that fault
abbrev pub IsRefusedSo : TypedNetwork → Step → CheckFault → StepTrace → Type 0
IsRefusedSo t s fault (Taken change) = ⊥
IsRefusedSo t s fault (Refused stop) =
    (stop.fault ≡ fault) × (fault ≢ Memory)
    × (option_map part_of stop.there ≡ standing_tree t s.position)
    × IsLedTo t s (option_map part_of stop.led)
