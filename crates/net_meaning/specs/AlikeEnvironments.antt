-- Environments that are alike, and networks that output the same in them.
use Rattle.std.specs.Prelude.{◌≡◌, ℕ, List}
use Rattle.sample_core.specs.TypeTree.{TypeTree}
use Rattle.leaf_core.specs.Expression.{Expression}
use Rattle.leaf_core.specs.ExpressionValue.{value_of}
use Rattle.leaf_core.specs.ExpressionTyping.{ExpressionTyped}
use Rattle.net_meaning.specs.SignalFunction.{TimedList}
use Rattle.net_tree.specs.Network.{Network, old}
use Rattle.net_meaning.specs.Environment.{Environment, context_of, TypedEnvironment}
use Rattle.net_meaning.specs.Typing.{Arrow, OldAt, TypedSamples}
use Rattle.net_meaning.specs.TypedNetwork.{outputs_of}

-- the environment holds values of the types Ps, and frozen networks that are typed as Os says
abbrev pub EnvironmentTyped : List TypeTree → List Arrow → Environment Expression → Type 0
EnvironmentTyped = TypedEnvironment ExpressionTyped

-- two typed environments have equal values, and their frozen networks, once resumed, output the
-- same on typed samples
pub record AlikeEnvironments (Ps : List TypeTree) (Os : List Arrow) (E F : Environment Expression) :
    Type 0 where
  pub one_typed : EnvironmentTyped Ps Os E
  pub other_typed : EnvironmentTyped Ps Os F
  pub same_params : (context_of value_of E).params ≡ (context_of value_of F).params
  pub same_olds : (k : ℕ) (o : Arrow) → OldAt Os k o → (xs : TimedList) → TypedSamples o.input xs
      → outputs_of (old k) E xs ≡ outputs_of (old k) F xs

-- in alike environments both networks output the same on samples of type A
abbrev pub SameOutputs : List TypeTree → List Arrow → TypeTree → Network Expression
    → Network Expression → Type 0
SameOutputs Ps Os A f g = (E F : Environment Expression) → AlikeEnvironments Ps Os E F
    → (xs : TimedList) → TypedSamples A xs → outputs_of f E xs ≡ outputs_of g F xs
