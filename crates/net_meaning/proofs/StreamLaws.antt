-- Networks of expressions: typed outputs, equal ones in alike environments, and one output type.
use Rattle.std.proofs.Common.{◌≡◌, List, sym}
use Rattle.sample_core.specs.TypeTree.{TypeTree}
use Rattle.leaf_core.specs.Expression.{Expression}
use Rattle.leaf_core.specs.ExpressionValue.{value_of}
use Rattle.leaf_core.specs.ExpressionTyping.{ExpressionTyped}
use Rattle.net_meaning.specs.SignalFunction.{TimedList}
use Rattle.net_tree.specs.Network.{Network}
use Rattle.net_meaning.specs.Environment.{Environment, context_of}
use Rattle.net_meaning.specs.Typing.{Arrow, TypedValues, TypedSamples}
use Rattle.net_meaning.specs.TypedNetwork.{outputs_of, NetTyped}
use Rattle.net_meaning.specs.Sameness.{SameNet}
use Rattle.net_meaning.specs.AlikeEnvironments.{EnvironmentTyped, SameOutputs}
use Rattle.leaf_core.proofs.Soundness.{typed_value}
use Rattle.leaf_core.proofs.Uniqueness.{one_type}
use Rattle.net_meaning.proofs.SameNets.{same-typed}
use Rattle.net_meaning.specs.NetworkLimits.{NetTypedWithin}
use Rattle.net_meaning.proofs.Unique.{unique}
use Rattle.net_meaning.proofs.TypingMap.{map_typed}
use Rattle.net_meaning.proofs.TypedMeanings.{Holds, holds, typed_outputs, outputs_alike, alike_from_equal}

-- a typed network in a typed environment outputs typed values
pub outputs-typed : (Ps : List TypeTree) (Os : List Arrow) (net : Network Expression) (A B : TypeTree) (E : Environment Expression) (xs : TimedList)
    → EnvironmentTyped Ps Os E → NetTyped Ps Os net A B → TypedSamples A xs → TypedValues B (outputs_of net E xs)
outputs-typed = typed_outputs value_of ExpressionTyped typed_value

-- networks that do the same output the same in alike environments
pub same-outputs : (Ps : List TypeTree) (Os : List Arrow) (f g : Network Expression) (A B : TypeTree) → SameNet value_of Ps Os A B f g → SameOutputs Ps Os A f g
same-outputs Ps Os f g A B s E F a xs j =
    let e : Holds value_of ExpressionTyped typed_value Ps Os (context_of value_of E) = holds value_of ExpressionTyped typed_value Ps Os E a.one_typed in
    let h : Holds value_of ExpressionTyped typed_value Ps Os (context_of value_of F) = holds value_of ExpressionTyped typed_value Ps Os F a.other_typed in
    outputs_alike value_of ExpressionTyped typed_value Ps Os f g A B E F xs
    (record {
      alike_params = sym a.same_params;
      alike_typed = e.scope_params;
      alike_olds = alike_from_equal Os (context_of value_of E).olds (context_of value_of F).olds e.scope_olds h.scope_olds
          (λ k o i ys l. a.same_olds k o i ys l);
    }) s j

-- a typed network outputs the same in alike environments
pub alike-outputs : (Ps : List TypeTree) (Os : List Arrow) (net : Network Expression) (A B : TypeTree) → NetTyped Ps Os net A B → SameOutputs Ps Os A net net
alike-outputs Ps Os net A B h = same-outputs Ps Os net net A B (same-typed value_of ExpressionTyped typed_value Ps Os net A B h)

-- a network has one output type at an input type
pub one-output-type : (Ps : List TypeTree) (Os : List Arrow) (net : Network Expression) (A B C : TypeTree) → NetTyped Ps Os net A B → NetTyped Ps Os net A C
    → B ≡ C
one-output-type = unique ExpressionTyped one_type

-- a network that is typed within the limits is typed
pub within-typed : (Ps : List TypeTree) (Os : List Arrow) (net : Network Expression) (A B : TypeTree) → NetTypedWithin Ps Os net A B → NetTyped Ps Os net A B
within-typed Ps Os net A B h = map_typed (λ e Qs X Y f. f.checked.given) (λ X m. tt) h
