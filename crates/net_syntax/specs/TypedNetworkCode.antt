-- The code of a network with its types, by which the check tells such networks apart.
use Rattle.std.specs.Prelude.{ℕ, refl}
use Rattle.std.specs.Coded.{Coded, code_by, coded×, coded_ℕ}
use Rattle.sample_core.specs.TypeTree.{TypeTree}
use Rattle.sample_core.specs.TypeCode.{type_code}
use Rattle.leaf_core.specs.Expression.{Expression}
use Rattle.leaf_core.specs.ExpressionCode.{expression_code}
use Rattle.net_tree.specs.Network.{Network}
use Rattle.net_tree.specs.NetworkCode.{network_code}
use Rattle.net_meaning.specs.TypedNetwork.{TypedNetwork}

-- networks with their types, told apart by their codes
abbrev pub typed_network_code : Coded TypedNetwork
typed_network_code =
    code_by (TypeTree × (TypeTree × (Network Expression × (ℕ × ℕ))))
    (coded× type_code
    (coded× type_code (coded× (network_code expression_code) (coded× coded_ℕ coded_ℕ))))
    (λ t. (t.input, (t.output, (t.net, (t.weight, t.height)))))
    (λ p. record {
      input = p.0;
      output = p.1.0;
      net = p.1.1.0;
      weight = p.1.1.1.0;
      height =
          p.1.1.1.1;
    }) (λ _. refl)
