-- The function of each form of network.
use Rattle.std.specs.Prelude.{ℕ, List, [], ◌∷◌, ◌++◌, map, length}
use Rattle.leaf_core.specs.declared.expr.Expr.{Expr}
use Rattle.net_tree.specs.Network.{Timing, at_once, delayed}
use Rattle.cell_core.specs.declared.form.Form.{Form}
use Rattle.net_code.specs.declared.statement.Part.TheVariants as P
use Rattle.net_code.specs.declared.statement.When.TheVariants as W
use Rattle.net_code.specs.declared.statement.Scope.{Scope}
use Rattle.net_code.specs.declared.statement.Scope.TheVariants as C
use Rattle.net_code.specs.declared.statement.Action.{Action}
use Rattle.net_code.specs.declared.statement.Action.TheVariants as A
use Rattle.net_code.specs.declared.statement.Guard.TheVariants as G
use Rattle.net_code.specs.declared.statement.Effect.TheVariants as E
use Rattle.net_code.specs.declared.statement.Statement.{Statement}
use Rattle.net_code.specs.declared.statement.Statement.TheVariants as S
use Rattle.net_code.specs.Running.{Body}

-- a last statement
abbrev pub answer : Action → Statement
answer a = S.Exit G.Always a

-- `arr`
abbrev pub arr_body : Expr → Body
arr_body e = answer (A.Leaf e 0) ∷ []

-- `>>>` of functions f and g
abbrev pub seq_body : ℕ → ℕ → Body
seq_body f g =
    S.Set (A.Call f C.Same P.One W.Now 0)
    ∷ answer (A.Call g C.Same P.Other W.Now 1)
    ∷ []

-- `first`
abbrev pub first_body : ℕ → Body
first_body f =
    S.Set (A.Left 0)
    ∷ S.Set (A.Call f C.Same P.Whole W.Now 1)
    ∷ S.Set (A.Right 0)
    ∷ answer (A.Pair 2 3)
    ∷ []

-- members, in order
abbrev pub member_statements : List ℕ → Body
member_statements fs = map (λ f. S.Do (E.Member f)) fs

-- `parB`
abbrev pub par_body : List ℕ → Body
par_body fs = member_statements fs ++ answer (A.Each P.Whole 0) ∷ []

-- `loopPre`
abbrev pub loop_body : Expr → ℕ → Body
loop_body c f =
    S.Set (A.Constant c)
    ∷ S.Set (A.FedOr 1)
    ∷ S.Set (A.Pair 0 2)
    ∷ S.Set (A.Call f C.Same P.Looped W.Now 3)
    ∷ S.Set (A.Right 4)
    ∷ S.Do (E.Feed 5)
    ∷ answer (A.Left 4)
    ∷ []

-- a cell with a constant
abbrev pub cell_body : Form → Expr → Body
cell_body form c = S.Set (A.Constant c) ∷ answer (A.Cell form 1 0) ∷ []

-- a cell without one
abbrev pub clock_body : Form → Body
clock_body form = answer (A.Cell form 0 0) ∷ []

-- `accumBy`
abbrev pub accum_body : Expr → Expr → Body
accum_body g z = S.Set (A.Constant z) ∷ answer (A.Accumulate g 1 0) ∷ []

-- what a switch answers at its event: what t does, or still f
abbrev pub started : Timing → ℕ → Body
started at_once t = answer (A.Call t C.Value P.Taker W.Start 0) ∷ []
started delayed t = S.Set (A.Call t C.Value P.Taker W.Start 0) ∷ answer (A.Register 2) ∷ []

-- `switch`, `dSwitch`
abbrev pub switch_body : Timing → ℕ → ℕ → Body
switch_body tm f t =
    S.Do E.Clear
    ∷ S.Exit G.Taken (A.Call t C.Value P.Taker W.Now 0)
    ∷ S.Set (A.Call f C.Same P.Front W.Now 0)
    ∷ S.Set (A.Left 1)
    ∷ S.Set (A.Right 1)
    ∷ S.Exit (G.NoEvent 3) (A.Register 2)
    ∷ S.Do (E.Take 3)
    ∷ started tm t

-- `rSwitch`: at an event t starts; `drSwitch`: what ran before still answers
abbrev pub restarting : Timing → ℕ → ℕ → Body
restarting at_once f t =
    S.Exit (G.NoEvent 2) (A.GoesOn f t 1)
    ∷ S.Do (E.Take 2)
    ∷ answer (A.Call t C.Value P.Taker W.Start 1)
    ∷ []
restarting delayed f t =
    S.Set (A.GoesOn f t 1)
    ∷ S.Exit (G.NoEvent 2) (A.Register 3)
    ∷ S.Do (E.Take 2)
    ∷ S.Set (A.Call t C.Value P.Taker W.Start 1)
    ∷ answer (A.Register 3)
    ∷ []

abbrev pub r_switch_body : Timing → ℕ → ℕ → Body
r_switch_body tm f t =
    S.Do E.Clear
    ∷ S.Set (A.Left 0)
    ∷ S.Set (A.Beside 0)
    ∷ restarting tm f t

-- a switch that freezes, behind the answer of what it watches: e looks for the event, t takes over
abbrev pub watching : Scope → ℕ → ℕ → Body
watching scope e t =
    S.Set (A.Pair 0 1)
    ∷ S.Set (A.Call e C.Same P.Watcher W.Now 2)
    ∷ S.Exit (G.NoEvent 3) (A.Register 1)
    ∷ S.Do (E.Take 3)
    ∷ answer (A.Call t scope P.Resumer W.Start 0)
    ∷ []

-- a switch that freezes what it watches, which answers by an action
abbrev pub freezing_body : Action → Scope → ℕ → ℕ → Body
freezing_body watch scope e t =
    S.Do E.Clear
    ∷ S.Exit G.Taken (A.Call t scope P.Resumer W.Now 0)
    ∷ S.Do E.Freeze
    ∷ S.Set watch
    ∷ watching scope e t

-- `kSwitch`
abbrev pub k_switch_body : ℕ → ℕ → ℕ → Body
k_switch_body f e t = freezing_body (A.Call f C.Same P.Watched W.Now 0) C.Frozen e t

-- `pSwitch`
abbrev pub p_switch_body : Expr → List ℕ → ℕ → ℕ → Body
p_switch_body r fs e t =
    member_statements fs ++ freezing_body (A.Routed r P.Watched 0) (C.Members (length fs)) e t

-- `old` of frozen network k, whose function has so much in scope
abbrev pub old_body : ℕ → ℕ → ℕ → ℕ → Body
old_body k f params olds =
    S.Do (E.Resume k)
    ∷ answer (A.Call f (C.First params olds) P.Whole W.Now 0)
    ∷ []

-- `old` of a frozen network that is not there
abbrev pub same_body : Body
same_body = answer (A.Register 0) ∷ []

-- `-->`
abbrev pub out_body : Expr → ℕ → Body
out_body c f =
    S.Set (A.Constant c)
    ∷ S.Set (A.Call f C.Same P.Whole W.Now 0)
    ∷ answer (A.FirstOr 1 2)
    ∷ []

-- `>--`
abbrev pub in_body : Expr → ℕ → Body
in_body c f =
    S.Set (A.Constant c)
    ∷ S.Set (A.FirstOr 1 0)
    ∷ answer (A.Call f C.Same P.Whole W.Now 2)
    ∷ []

-- `rpSwitchB`
abbrev pub collection_body : List ℕ → Expr → ℕ → Body
collection_body fs m t = member_statements fs ++ answer (A.Collect m t 0) ∷ []
