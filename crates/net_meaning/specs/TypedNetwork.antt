-- Networks of expressions: what they output, and when they are typed.
use Rattle.std.specs.Prelude.{ℕ, List, []}
use Rattle.sample_core.specs.Datum.{Datum}
use Rattle.sample_core.specs.TypeTree.{TypeTree}
use Rattle.leaf_core.specs.Expression.{Expression}
use Rattle.leaf_core.specs.ExpressionValue.{value_of}
use Rattle.leaf_core.specs.ExpressionTyping.{ExpressionTyped}
use Rattle.net_meaning.specs.SignalFunction.{TimedList}
use Rattle.net_tree.specs.Network.{Network}
use Rattle.net_meaning.specs.Environment.{Environment, closed, outputs}
use Rattle.net_meaning.specs.Typing.{Arrow, Typed, AnyType}

-- the outputs of a network in an environment, one for each sample
abbrev pub outputs_of : Network Expression → Environment Expression → TimedList → List Datum
outputs_of net E xs = outputs value_of net E xs

-- the outputs of a network with nothing in scope
abbrev pub stream_of : Network Expression → TimedList → List Datum
stream_of net xs = outputs_of net closed xs

-- under parameters and frozen networks of these types, the network has this input type and this
-- output type
abbrev pub NetTyped : List TypeTree → List Arrow → Network Expression → TypeTree → TypeTree → Type 0
NetTyped = Typed ExpressionTyped AnyType

-- a network with its types, its weight and its height
pub record TypedNetwork : Type 0 where
  pub input : TypeTree
  pub output : TypeTree
  pub net : Network Expression
  pub weight : ℕ
  pub height : ℕ

-- the network has its types, with nothing in scope
abbrev pub HasItsTypes : TypedNetwork → Type 0
HasItsTypes t = NetTyped [] [] t.net t.input t.output
