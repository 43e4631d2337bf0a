-- Laws of every network in every environment.
use Rattle.std.specs.Prelude.{◌≡◌, ℕ, List, length, take}
use Rattle.sample_core.specs.TypeTree.{TypeTree}
use Rattle.leaf_core.specs.Expression.{Expression}
use Rattle.leaf_core.specs.ExpressionValue.{value_of}
use Rattle.net_meaning.specs.SignalFunction.{TimedList, retime}
use Rattle.net_tree.specs.Network.{Network}
use Rattle.net_meaning.specs.Environment.{Environment}
use Rattle.net_meaning.specs.Typing.{Arrow, TypedValues, TypedSamples}
use Rattle.net_meaning.specs.TypedNetwork.{outputs_of, NetTyped}
use Rattle.net_meaning.specs.NetworkLimits.{NetTypedWithin}
use Rattle.net_meaning.specs.Sameness.{SameNet}
use Rattle.net_meaning.specs.AlikeEnvironments.{EnvironmentTyped, SameOutputs}

-- as many outputs as samples
abbrev pub LengthLaw : Type 0
LengthLaw = (net : Network Expression) (E : Environment Expression) (xs : TimedList)
    → length (outputs_of net E xs) ≡ length xs

-- the first n outputs are those of the first n samples
abbrev pub CausalLaw : Type 0
CausalLaw = (net : Network Expression) (E : Environment Expression) (n : ℕ) (xs : TimedList)
    → outputs_of net E (take n xs) ≡ take n (outputs_of net E xs)

-- the first step is not seen
abbrev pub RetimeLaw : Type 0
RetimeLaw = (net : Network Expression) (E : Environment Expression) (d : ℕ) (xs : TimedList)
    → outputs_of net E (retime d xs) ≡ outputs_of net E xs

-- a typed network, in a typed environment, outputs typed values on typed samples
abbrev pub TypedOutputsLaw : Type 0
TypedOutputsLaw = (Ps : List TypeTree) (Os : List Arrow) (net : Network Expression) (A B : TypeTree)
    (E : Environment Expression) (xs : TimedList)
    → EnvironmentTyped Ps Os E → NetTyped Ps Os net A B → TypedSamples A xs
    → TypedValues B (outputs_of net E xs)

-- a typed network outputs the same in alike environments
abbrev pub AlikeLaw : Type 0
AlikeLaw = (Ps : List TypeTree) (Os : List Arrow) (net : Network Expression) (A B : TypeTree)
    → NetTyped Ps Os net A B → SameOutputs Ps Os A net net

-- networks that do the same output the same in alike environments
abbrev pub SameLaw : Type 0
SameLaw = (Ps : List TypeTree) (Os : List Arrow) (f g : Network Expression) (A B : TypeTree)
    → SameNet value_of Ps Os A B f g → SameOutputs Ps Os A f g

-- a network has one output type at an input type
abbrev pub OneTypeLaw : Type 0
OneTypeLaw = (Ps : List TypeTree) (Os : List Arrow) (net : Network Expression) (A B C : TypeTree)
    → NetTyped Ps Os net A B → NetTyped Ps Os net A C → B ≡ C

-- a network that is typed within the limits is typed
abbrev pub WithinLaw : Type 0
WithinLaw = (Ps : List TypeTree) (Os : List Arrow) (net : Network Expression) (A B : TypeTree)
    → NetTypedWithin Ps Os net A B → NetTyped Ps Os net A B
