-- The parts of what is shared are less deep than it.
use Rattle.std.specs.Prelude.{◌≤◌, max, List, [], ◌∷◌}
use Rattle.std.proofs.Common.{arith}
use denote.Param.Weighed.{most}
use Rattle.state_core.specs.Depth.{depth_state, depth_olds, depth_running, depth_states, depth_frozen, depth_frozens}
use Rattle.state_core.specs.declared.state.State.{State}
use Rattle.state_core.specs.declared.state.State.TheVariants as S
use Rattle.state_core.specs.declared.state.Running.{Running}
use Rattle.state_core.specs.declared.env.Olds.{Olds}
use Rattle.state_core.specs.declared.env.Olds.TheVariants as O
use Rattle.state_core.specs.declared.env.Frozen.{Frozen}
use Rattle.state_core.specs.declared.env.Frozen.TheVariants as F
use Rattle.state_core.specs.declared.env.OldList.TheDeep.{deep-State, deep-Running, deep-Frozen, deep-Olds}

state_le : (a : State) → deep-State a ≤ depth_state a
state_le S.Nothing = omega arith
state_le (S.Whole w) = omega arith

olds_le : (o : Olds) → deep-Olds o ≤ depth_olds o
olds_le O.Nothing = omega arith
olds_le (O.All fs) = omega arith

pub running_le : (r : Running) → max (deep-Running r) 0 ≤ depth_running r
running_le r = omega (arith, olds_le r.env.olds)

pub states_le : (as' : List State) → max (most deep-State as') 0 ≤ depth_states as'
states_le [] = omega arith
states_le (a ∷ as') = omega (arith, state_le a, states_le as')

frozen_le : (f : Frozen) → deep-Frozen f ≤ depth_frozen f
frozen_le (F.Unstarted net s) = omega (arith, olds_le s.olds)
frozen_le (F.Paused a d) = omega (arith, state_le a)

pub frozens_le : (fs : List Frozen) → max (most deep-Frozen fs) 0 ≤ depth_frozens fs
frozens_le [] = omega arith
frozens_le (f ∷ fs) = omega (arith, frozen_le f, frozens_le fs)
