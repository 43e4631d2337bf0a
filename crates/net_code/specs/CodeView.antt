-- What the code's functions are as statements.
use Rattle.std.specs.Prelude.{◌≡◌, ℕ, List, ◌++◌, map}
use Rattle.net_tree.specs.Network.{at_once, delayed}
use Rattle.net_code.specs.declared.statement.Function.{Function}
use Rattle.net_code.specs.declared.statement.Function.TheVariants as F
use Rattle.net_code.specs.Running.{Body, Code}
use Rattle.net_code.specs.Bodies.{arr_body, seq_body, first_body, par_body, loop_body, cell_body, clock_body, accum_body, switch_body, r_switch_body, k_switch_body, p_switch_body, old_body, same_body, out_body, in_body, collection_body}

-- a function's statements
abbrev pub body_of : Function → Body
body_of (F.Arr e) = arr_body e
body_of (F.Seq f g) = seq_body f g
body_of (F.First f) = first_body f
body_of (F.Par fs) = par_body fs.items
body_of (F.Loop c f) = loop_body c f
body_of (F.Cell form c) = cell_body form c
body_of (F.Clock form) = clock_body form
body_of (F.Accum g z) = accum_body g z
body_of (F.Switch f t) = switch_body at_once f t
body_of (F.DSwitch f t) = switch_body delayed f t
body_of (F.RSwitch f t) = r_switch_body at_once f t
body_of (F.DrSwitch f t) = r_switch_body delayed f t
body_of (F.KSwitch f e t) = k_switch_body f e t
body_of (F.PSwitch r fs e t) = p_switch_body r fs.items e t
body_of (F.Old k f params olds) = old_body k f params olds
body_of F.Same = same_body
body_of (F.InitialOut c f) = out_body c f
body_of (F.InitialIn c f) = in_body c f
body_of (F.Collection fs m t) = collection_body fs.items m t

-- code as lists of statements
abbrev pub code_in : List Function → Code
code_in fs = map body_of fs

-- the functions of members were added behind others
abbrev pub AddsFunctions : Code × List ℕ → Code → List ℕ → List ℕ → Type 0
AddsFunctions emitted code before now =
    (emitted.0 ≡ code) × (now ≡ before ++ emitted.1)
