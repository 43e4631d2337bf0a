-- The functions of a typed network's code.
use Rattle.std.specs.Prelude.{◌≡◌, List}
use Rattle.leaf_core.specs.declared.expr.Expr.{Expr}
use Rattle.net_tree.specs.Network.{Network}
use Rattle.net_tree.specs.NetworkView.{tree}
use Rattle.net_meaning.specs.TypedNetwork.{TypedNetwork}
use Rattle.net_code.specs.declared.statement.Function.{Function}
use Rattle.net_code.specs.CodeView.{code_in}
use Rattle.net_code.specs.CodeOf.{code_of}

-- functions are the code of a network
abbrev pub IsCodeOf : TypedNetwork → List Function → Type 0
IsCodeOf t fs = (net : Network Expr) × (tree net ≡ t.net) × (code_in fs ≡ code_of net)
