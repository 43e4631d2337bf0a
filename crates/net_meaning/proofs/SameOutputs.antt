-- To output the same in alike environments goes both ways and on.
use Rattle.std.proofs.Common.{List, refl, sym, ◌∙◌}
use Rattle.sample_core.specs.TypeTree.{TypeTree}
use Rattle.leaf_core.specs.Expression.{Expression}
use Rattle.net_tree.specs.Network.{Network}
use Rattle.net_meaning.specs.Environment.{Environment}
use Rattle.net_meaning.specs.Typing.{Arrow}
use Rattle.net_meaning.specs.AlikeEnvironments.{EnvironmentTyped, AlikeEnvironments, SameOutputs}

pub alike-refl : (Ps : List TypeTree) (Os : List Arrow) (E : Environment Expression) → EnvironmentTyped Ps Os E → AlikeEnvironments Ps Os E E
alike-refl Ps Os E e = record { one_typed = e; other_typed = e; same_params = refl; same_olds = λ k o i xs j. refl }

pub alike-sym : (Ps : List TypeTree) (Os : List Arrow) (E F : Environment Expression) → AlikeEnvironments Ps Os E F → AlikeEnvironments Ps Os F E
alike-sym Ps Os E F a = record {
  one_typed = a.other_typed;
  other_typed = a.one_typed;
  same_params = sym a.same_params;
  same_olds = λ k o i xs j. sym (a.same_olds k o i xs j);
}

pub same-sym : (Ps : List TypeTree) (Os : List Arrow) (A : TypeTree) (f g : Network Expression) → SameOutputs Ps Os A f g → SameOutputs Ps Os A g f
same-sym Ps Os A f g s E F a xs j = sym (s F E (alike-sym Ps Os E F a) xs j)

pub same-trans : (Ps : List TypeTree) (Os : List Arrow) (A : TypeTree) (f g h : Network Expression) → SameOutputs Ps Os A f g → SameOutputs Ps Os A g h
    → SameOutputs Ps Os A f h
same-trans Ps Os A f g h s r E F a xs j = s E F a xs j ∙ r F F (alike-refl Ps Os F a.other_typed) xs j
