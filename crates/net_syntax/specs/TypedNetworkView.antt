-- What the code's typed networks are.
use Rattle.std.specs.Prelude.{ℕ}
use Rattle.sample_core.specs.TypeView.{type_of}
use Rattle.sample_core.specs.declared.ty.Ty.{Ty}
use Rattle.leaf_core.specs.declared.expr.Expr.{Expr}
use Rattle.net_tree.specs.declared.net.Net.{Net}
use Rattle.net_tree.specs.NetworkView.{tree_of}
use Rattle.net_meaning.specs.TypedNetwork.{TypedNetwork}

-- the `Net` with these `Ty`s, this weight and this height
abbrev pub typed_network_of : Ty → Ty → Net Expr → ℕ → ℕ → TypedNetwork
typed_network_of input output net weight height = record {
  input = type_of input;
  output = type_of output;
  net = tree_of net;
  weight = weight;
  height = height;
}
