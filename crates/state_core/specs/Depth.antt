-- How many of the code's shared parts stand inside one another: what falls where they are let go.
use Rattle.std.specs.Prelude.{ℕ, ◌+◌, max, List, [], ◌∷◌}
use Rattle.state_core.specs.declared.state.State.{State}
use Rattle.state_core.specs.declared.state.State.TheVariants as S
use Rattle.state_core.specs.declared.state.Running.{Running}
use Rattle.state_core.specs.declared.env.Olds.{Olds}
use Rattle.state_core.specs.declared.env.Olds.TheVariants as O
use Rattle.state_core.specs.declared.env.Frozen.{Frozen}
use Rattle.state_core.specs.declared.env.Frozen.TheVariants as F

-- of a state
abbrev pub depth_state : State → ℕ
depth_state S.Nothing = 0
depth_state (S.Whole w) = w.1 + 1

-- of frozen networks in scope
abbrev pub depth_olds : Olds → ℕ
depth_olds O.Nothing = 0
depth_olds (O.All fs) = fs.1 + 1

-- of what runs
abbrev pub depth_running : Running → ℕ
depth_running r = max (depth_olds r.env.olds) (r.kept.places.1 + 1)

-- of states
abbrev pub depth_states : List State → ℕ
depth_states [] = 0
depth_states (a ∷ as') = max (depth_state a) (depth_states as')

-- of a frozen network
abbrev pub depth_frozen : Frozen → ℕ
depth_frozen (F.Unstarted net s) = depth_olds s.olds
depth_frozen (F.Paused a d) = depth_state a

-- of frozen networks
abbrev pub depth_frozens : List Frozen → ℕ
depth_frozens [] = 0
depth_frozens (f ∷ fs) = max (depth_frozen f) (depth_frozens fs)
