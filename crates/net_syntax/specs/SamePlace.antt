-- Trees that do the same where they stand.
use Rattle.std.specs.Prelude.{◌≡◌, ℕ, List, Some}
use Rattle.sample_core.specs.TypeTree.{TypeTree}
use Rattle.leaf_core.specs.Expression.{Expression}
use Rattle.leaf_core.specs.SameValue.{SameValue}
use Rattle.net_tree.specs.Place.{Tree, a_network, a_leaf}
use Rattle.net_syntax.specs.Placed.{replaced}
use Rattle.net_syntax.specs.Standing.{Standing, TreeTyped, StandsAt}
use Rattle.net_meaning.specs.AlikeEnvironments.{SameOutputs}

-- two networks output the same in alike environments, two expressions have the same value
abbrev pub SameInPlace : Standing → Tree Expression → Tree Expression → Type 0
SameInPlace S (a_network f) (a_network g) = SameOutputs S.params S.olds S.input f g
SameInPlace S (a_leaf e) (a_leaf s) = SameValue S.params S.input e s
SameInPlace S _ _ = ⊥

-- where what stands at any position of a typed tree is replaced by what has its type there and does
-- the same there, the whole keeps its type and does the same. So it is in continuations and in
-- networks that will be frozen too
abbrev pub SamePlaceLaw : Type 0
SamePlaceLaw = (S Q : Standing) (B C : TypeTree) (p : List ℕ) (tree there other whole : Tree Expression)
    → TreeTyped S tree B → StandsAt S tree p there Q
    → TreeTyped Q there C → TreeTyped Q other C → SameInPlace Q there other
    → replaced tree p other ≡ Some whole
    → TreeTyped S whole B × SameInPlace S tree whole
