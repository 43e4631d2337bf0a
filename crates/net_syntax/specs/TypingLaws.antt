-- Laws of what is found in a typed network: its expressions and the types at its positions.
use Rattle.std.specs.Prelude.{◌≡◌, ℕ, List, [], Some, All, Contains, map}
use Rattle.std.specs.Cmp.Lexicographic.{slice_cmp}
use Rattle.std.specs.List.Sorted.{IsStrictlySortedBy}
use Rattle.std.specs.Ordering.{nat_cmp}
use Rattle.sample_core.specs.TypeTree.{TypeTree}
use Rattle.leaf_core.specs.Expression.{Expression}
use Rattle.net_tree.specs.Network.{Network}
use Rattle.net_meaning.specs.Typing.{Arrow}
use Rattle.net_meaning.specs.TypedNetwork.{TypedNetwork, NetTyped}
use Rattle.net_meaning.specs.NetworkLimits.{WithinLimits}
use Rattle.net_syntax.specs.Standing.{alone, TypeAt}
use Rattle.net_syntax.specs.Leaves.{Need, LeavesOf, leaves_by}
use Rattle.net_tree.specs.Place.{a_leaf, a_network, at}

-- typings of a network at an input type give one list of its expressions
abbrev pub OneListLaw : Type 0
OneListLaw =
    (Ps : List TypeTree) (Os : List Arrow) (at : List ℕ) (net : Network Expression)
    (A B C : TypeTree)
    (d : NetTyped Ps Os net A B) (k : NetTyped Ps Os net A C) → leaves_by at d ≡ leaves_by at k

-- each expression that is listed of a network stands at its position
abbrev pub PositionLaw : Type 0
PositionLaw = (t : TypedNetwork) (ns : List Need) → LeavesOf t ns
    → All (λ n. at (a_network t.net) n.position ≡ Some (a_leaf n.key.expr, [])) ns

-- each expression that is a child of a network is listed
abbrev pub AllReachedLaw : Type 0
AllReachedLaw = (t : TypedNetwork) (ns : List Need) → LeavesOf t ns → (p : List ℕ) (e : Expression)
    → at (a_network t.net) p ≡ Some (a_leaf e, []) → Contains (map (λ n. n.position) ns) p

-- they are listed in the order of their positions: at the first number where two differ, the lower
-- comes first
abbrev pub InOrderLaw : Type 0
InOrderLaw = (t : TypedNetwork) (ns : List Need) → LeavesOf t ns
    → IsStrictlySortedBy (slice_cmp nat_cmp) (map (λ n. n.position) ns)

-- what stands at a position of a network within the limits has one type there
abbrev pub OneTypeAtLaw : Type 0
OneTypeAtLaw = (t : TypedNetwork) (p : List ℕ) (B C : TypeTree) → WithinLimits t
    → TypeAt (alone t.input) (a_network t.net) p B → TypeAt (alone t.input) (a_network t.net) p C
    → B ≡ C
