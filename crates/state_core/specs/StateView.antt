-- What the code's states, scopes and frozen networks are as clean ones.
use Rattle.std.specs.Prelude.{◌≡◌, ℕ, List, [], ◌∷◌, Option, Some, None}
use Rattle.std.proofs.Common.{Bor}
use Rattle.net_tree.specs.Network.{Network}
use Rattle.state_core.specs.RowsView.{rows_in}
use Rattle.state_core.specs.State.{State, Scope, Frozens, Frozen, par_state, no_state, scope, no_frozen, and_frozen, unstarted, paused, frozen_at}
use Rattle.state_core.specs.Tree as T
use Rattle.state_core.specs.Tree.{running}
use Rattle.state_core.specs.declared.state.State.{State as CodeState}
use Rattle.state_core.specs.declared.state.State.TheVariants as S
use Rattle.state_core.specs.declared.state.Running.{Running}
use Rattle.state_core.specs.declared.state.Kept.{Kept}
use Rattle.state_core.specs.declared.env.Env.{Env}
use Rattle.state_core.specs.declared.env.Olds.{Olds}
use Rattle.state_core.specs.declared.env.Olds.TheVariants as O
use Rattle.state_core.specs.declared.env.Frozen.{Frozen as CodeFrozen}
use Rattle.state_core.specs.declared.env.Frozen.TheVariants as F

-- the frozen networks in scope
abbrev pub olds_of : Olds → Frozens ℕ
olds_of O.Nothing = no_frozen
olds_of (O.All fs) = fs.0

-- the scope that an `Env` is
abbrev pub scope_of : Env → Scope ℕ
scope_of e = scope e.params (olds_of e.olds)

-- what is kept: the cells, and the states of what runs at places
abbrev pub kept_of : Kept → T.Kept ℕ
kept_of k = (k.cells, k.places.0)

-- the state of what runs
abbrev pub running_of : Running → State ℕ
running_of r = running (rows_in r.net.now) (scope_of r.env) (kept_of r.kept)

-- the state that a `State` is
abbrev pub state_of : CodeState → State ℕ
state_of S.Nothing = par_state no_state
state_of (S.Whole w) = w.0

-- the frozen network that a `Frozen` is
abbrev pub frozen_of : CodeFrozen → Frozen ℕ
frozen_of (F.Unstarted net s) = unstarted (rows_in net.now) (scope_of s)
frozen_of (F.Paused a d) = paused (state_of a) d

-- the frozen networks in order
abbrev pub frozens_in : List CodeFrozen → Frozens ℕ
frozens_in [] = no_frozen
frozens_in (f ∷ fs) = and_frozen (frozen_of f) (frozens_in fs)

-- the frozen network that was found, if one was
abbrev pub frozen_in : Option CodeFrozen → Option (Frozen ℕ)
frozen_in (Some f) = Some (frozen_of f)
frozen_in None = None

-- what a network, its scope, its state and a step are frozen as
abbrev pub frozen_from : Network ℕ → Scope ℕ → Option (Bor CodeState) → ℕ → Frozen ℕ
frozen_from net s (Some a) d = paused (state_of a.now) d
frozen_from net s None d = unstarted net s

-- what a look-up of frozen network k finds
abbrev pub IsFrozenAt : Frozens ℕ → ℕ → Option (Bor CodeFrozen) → Type 0
IsFrozenAt fs k (Some f) = frozen_at fs k ≡ Some (frozen_of f.now)
IsFrozenAt fs k None = frozen_at fs k ≡ None
