-- What a running network is to every contract, and what it stands for.
use Rattle.std.specs.Prelude.{◌≡◌, ◌≤◌, ℕ, suc, List, [], ◌∷◌, ◌++◌, length, Option, Some, None}
use Rattle.sample_core.specs.Datum.{Datum}
use Rattle.sample_core.specs.TypeTree.{TypeTree}
use Rattle.leaf_core.specs.Expression.{Expression}
use Rattle.leaf_core.specs.ExpressionValue.{value_of}
use Rattle.leaf_core.specs.KeyTree.{KeyTree}
use Rattle.net_meaning.specs.Environment.{closed}
use Rattle.net_tree.specs.Network.{Network}
use Rattle.net_meaning.specs.SignalFunction.{TimedList, last_or}
use Rattle.net_meaning.specs.TypedNetwork.{stream_of}
use Rattle.net_tree.specs.Weight.{weight}
use Rattle.state_core.specs.CountedContext.{counted_meaning}
use Rattle.state_core.specs.EmptyScope.{empty_context}
use Rattle.state_core.specs.Stands.{Stands}
use Rattle.state_core.specs.State.{State}
use Rattle.step_core.specs.EnvironmentVisits.{visits_of}
use Rattle.step_core.specs.RowTyping.{RowsTyped, network_by}
use Rattle.step_core.specs.StateTyping.{StateTyped, row_value}

-- the input type, the keys of the table's rows, the network over rows, its state, if it has
-- started, how many samples it got, and how many nodes the last one visited
pub record RunnerState : Type 0 where
  pub input : TypeTree
  pub keys : List KeyTree
  pub rows : Network ℕ
  pub state : Option (State ℕ)
  pub samples : ℕ
  pub visits : ℕ

-- the network that runs
abbrev pub network_in : RunnerState → Network Expression
network_in r = network_by r.keys r.rows

-- the visits of the last sample, 0 before the first
abbrev pub last_visits_of : Network Expression → TimedList → ℕ
last_visits_of net p = last_or 0 (visits_of value_of net closed p)

-- the network has a state that stands for it after these samples
pub record HasState (r : RunnerState) (p : TimedList) : Type 0 where
  pub output : TypeTree
  pub its : State ℕ
  pub is_state : r.state ≡ Some its
  pub typed : StateTyped r.keys its r.input output
  pub stands : Stands (row_value r.keys) its
      (counted_meaning (row_value r.keys) r.rows empty_context) p

-- the network is typed and has not started
pub record NotStarted (r : RunnerState) : Type 0 where
  pub output : TypeTree
  pub typed : RowsTyped r.keys r.rows r.input output
  pub no_state : r.state ≡ None

-- before the first sample nothing has started; after samples, a state stands for them
abbrev pub StandsAfter : RunnerState → TimedList → Type 0
StandsAfter r [] = NotStarted r
StandsAfter r (x ∷ p) = HasState r (x ∷ p)

-- the running network got just these samples
pub record StandsFor (r : RunnerState) (p : TimedList) : Type 0 where
  pub counted : r.samples ≡ length p
  pub visited : r.visits ≡ last_visits_of (network_in r) p
  pub light : weight (network_in r) [] ≤ 1000000
  pub holds_past : StandsAfter r p

-- there are samples, just which the running network got
abbrev pub HasPast : RunnerState → Type 0
HasPast r = ∥ ((p : TimedList) × StandsFor r p) ∥₁

-- A sample x was taken in and y answered. The same network runs, on inputs of the same type, and
-- one sample more is counted. Whatever the samples so far were, the runner now stands for them and
-- x, y is the next value of the network's stream, and as many nodes were visited as the network
-- visits at that sample, at most its weight.
pub record Pushes (r : RunnerState) (x : ℕ × Datum) (y : Datum) (now : RunnerState) : Type 0 where
  pub same_network : network_in now ≡ network_in r
  pub same_input : now.input ≡ r.input
  pub counted : now.samples ≡ suc r.samples
  pub stands : (p : TimedList) → StandsFor r p → StandsFor now (p ++ x ∷ [])
  pub answers : (p : TimedList) → StandsFor r p
      → stream_of (network_in r) (p ++ x ∷ []) ≡ stream_of (network_in r) p ++ y ∷ []
  pub visits : (p : TimedList) → StandsFor r p
      → now.visits ≡ last_visits_of (network_in r) (p ++ x ∷ [])
  pub bounded : (p : TimedList) → StandsFor r p → now.visits ≤ weight (network_in r) []
