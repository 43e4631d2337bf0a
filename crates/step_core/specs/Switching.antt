-- What takes over from a switch, and what its parts led to.
use Rattle.std.specs.Prelude.{◌≡◌, ℕ, List, [], Option, Some, None, Bool, true, false}
use Rattle.sample_core.specs.Datum.{Datum, left, list, list_of}
use Rattle.leaf_core.specs.KeyTree.{KeyTree}
use Rattle.net_tree.specs.Network.{Timing, at_once, delayed, Network, Networks}
use Rattle.state_core.specs.RowsView.{rows_in}
use Rattle.state_core.specs.State.{Scope, Frozen, params_of, chosen_frozen}
use Rattle.state_core.specs.StateView.{kept_of, scope_of}
use Rattle.state_core.specs.Tree.{Kept, nothing}
use Rattle.state_core.specs.declared.env.Env.{Env}
use Rattle.state_core.specs.declared.state.Running.{Running}
use Rattle.step_core.specs.Called.{Called}
use Rattle.step_core.specs.Flow.{AllRun, MembersRun, Past, members_before}
use Rattle.net_meaning.specs.SignalFunction.{event_in}
use Rattle.step_core.specs.Stepping.{restart_in}

-- this network is to run in this scope, and keeps nothing yet
abbrev pub BeginsAfter : Running → Network ℕ → Scope ℕ → Type 0
BeginsAfter r net s = (rows_in r.net.now ≡ net) × (scope_of r.env ≡ s) × (kept_of r.kept ≡ nothing)

-- a timing by whether it is `delayed`
abbrev pub timing_of : Bool → Timing
timing_of false = at_once
timing_of true = delayed

-- v was seen: where it is an event, what takes over has the scope that `into` makes of its value
abbrev pub Fires : Datum → (Datum → Scope ℕ) → Option Env → Type 0
Fires v into (Some e) = (u : Datum) × (event_in v ≡ Some u) × (scope_of e ≡ into u)
Fires v into None = event_in v ≡ None

-- all members ran, a place each, and their answers became the list y
abbrev pub ListRuns : List KeyTree → ℕ → Networks ℕ → Scope ℕ → Past → Datum → Kept ℕ → Kept ℕ
    → Datum → ℕ → Type 0
ListRuns keys r fs s p x before now y n = (ys : List Datum) × (y ≡ list (list_of ys))
    × AllRun keys r fs s p 0 x before now [] ys n

-- of the members before, the value of row m at c chooses those that run, and t starts under what it
-- gives
abbrev pub IsChosen : List KeyTree → ℕ → Network ℕ → Scope ℕ → List (Frozen ℕ) → Datum
    → List (Frozen ℕ) → Type 0
IsChosen keys m t s before c ms =
    (w : Datum) × Called keys m (params_of s) c w × (ms ≡ chosen_frozen t s before w)

-- the members that run on a sample: those before, at an event those that it chooses
abbrev pub IsTurned : List KeyTree → ℕ → Network ℕ → Scope ℕ → List (Frozen ℕ)
    → Option (Datum × Datum) → List (Frozen ℕ) → Type 0
IsTurned keys m t s before (Some event) ms = IsChosen keys m t s before event.1 ms
IsTurned keys m t s before None ms = ms ≡ before

-- the members of an `rpSwitchB` that run on x ran, a place each, and answered these
abbrev pub TurnedRun : List KeyTree → Networks ℕ → ℕ → Network ℕ → Scope ℕ → Past → Datum
    → Kept ℕ → Kept ℕ → List Datum → ℕ → Type 0
TurnedRun keys fs m t s p x before now ys n = (ms : List (Frozen ℕ))
    × IsTurned keys m t s (members_before fs s p) (restart_in x) ms
    × MembersRun keys ms (left x) before now [] ys n
