-- An expression and the types that it is used at: what a `LeafKey` is to every contract.
use Rattle.std.specs.Prelude.{List, refl}
use Rattle.std.specs.Coded.{Coded, code_by, coded×, coded_list}
use Rattle.sample_core.specs.TypeTree.{TypeTree}
use Rattle.sample_core.specs.TypeCode.{type_code}
use Rattle.leaf_core.specs.Expression.{Expression}
use Rattle.leaf_core.specs.ExpressionCode.{expression_code}

-- an expression, the types of its parameters and the type of its input
pub record KeyTree : Type 0 where
  pub expr : Expression
  pub params : List TypeTree
  pub input : TypeTree

-- the code of a key, by which the check tells keys apart
abbrev pub key_code : Coded KeyTree
key_code = code_by (Expression × (List TypeTree × TypeTree))
    (coded× expression_code (coded× (coded_list type_code) type_code))
    (λ k. (k.expr, (k.params, k.input))) (λ p. record { expr = p.0; params = p.1.0; input = p.1.1 })
    (λ _. refl)
