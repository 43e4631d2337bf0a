-- The state of a network, if it has started.
use Rattle.std.specs.Prelude.{ℕ, Option, Some, None}
use Rattle.state_core.specs.State as S
use Rattle.state_core.specs.StateView.{state_of}
use Rattle.state_core.specs.declared.state.State.{State}

-- the state that the code's state is, if there is one
abbrev pub state_in : Option State → Option (S.State ℕ)
state_in (Some a) = Some (state_of a)
state_in None = None
