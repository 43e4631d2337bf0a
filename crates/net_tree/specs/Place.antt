-- What stands at a position: child numbers lead from the root through networks, and into an
-- expression.
use Rattle.std.specs.Prelude.{ℕ, zero, suc, List, [], ◌∷◌, Option, Some, None, option_map}
use Rattle.net_tree.specs.FormParts.{FormParts, leaf, timed, leaves, one, fed, two, three, many, routed, collection, parts_of}
use Rattle.net_tree.specs.Network.{Network, Networks, no_members, and_member}

infixl 20 ◌>>=◌
-- the next step, where there is something
abbrev pub ◌>>=◌ : {A B : Type 0} → Option A → (A → Option B) → Option B
◌>>=◌ None k = None
◌>>=◌ (Some a) k = k a

-- a network, or an expression
pub data Tree (L : Type 0) : Type 0 where
  a_network : Network L → Tree L
  a_leaf : L → Tree L

-- member k, from 0
abbrev pub member : {L : Type 0} → Networks L → ℕ → Option (Network L)
member no_members k = None
member (and_member f fs) zero = Some f
member (and_member f fs) (suc k) = member fs k

-- what stands at a number behind the route of a pSwitch: its members, then its event, then its
-- continuation. In an rpSwitchB so stand its members, then its choice, then its continuation
pub data PSwitchChild : Type 0 where
  member_child : PSwitchChild
  event_child : PSwitchChild
  continuation_child : PSwitchChild
  no_child : PSwitchChild

-- which of them stands at number k
abbrev pub p_switch_child : {L : Type 0} → Networks L → ℕ → PSwitchChild
p_switch_child no_members zero = event_child
p_switch_child no_members (suc zero) = continuation_child
p_switch_child no_members (suc (suc k)) = no_child
p_switch_child (and_member f fs) zero = member_child
p_switch_child (and_member f fs) (suc k) = p_switch_child fs k

-- the network that stands there
abbrev pub child_network : {L : Type 0} → PSwitchChild → Networks L → Network L → Network L → ℕ
    → Option (Network L)
child_network member_child fs e n k = member fs k
child_network event_child fs e n k = Some e
child_network continuation_child fs e n k = Some n
child_network no_child fs e n k = None

-- what stands there in an rpSwitchB, whose choice m is an expression
abbrev pub collection_child : {L : Type 0} → PSwitchChild → Networks L → L → Network L → ℕ
    → Option (Tree L)
collection_child member_child fs m n k = option_map a_network (member fs k)
collection_child event_child fs m n k = Some (a_leaf m)
collection_child continuation_child fs m n k = Some (a_network n)
collection_child no_child fs m n k = None

-- child k of what stands inside a network, from 0
abbrev pub child_inside : {L : Type 0} → FormParts L → ℕ → Option (Tree L)
child_inside (leaf e) zero = Some (a_leaf e)
child_inside (timed q e) zero = Some (a_leaf e)
child_inside (leaves e d) zero = Some (a_leaf e)
child_inside (leaves e d) (suc zero) = Some (a_leaf d)
child_inside (one f) zero = Some (a_network f)
child_inside (fed e f) zero = Some (a_leaf e)
child_inside (fed e f) (suc zero) = Some (a_network f)
child_inside (two f g) zero = Some (a_network f)
child_inside (two f g) (suc zero) = Some (a_network g)
child_inside (three f g h) zero = Some (a_network f)
child_inside (three f g h) (suc zero) = Some (a_network g)
child_inside (three f g h) (suc (suc zero)) = Some (a_network h)
child_inside (many fs) k = option_map a_network (member fs k)
child_inside (routed r fs e t) zero = Some (a_leaf r)
child_inside (routed r fs e t) (suc k) =
    option_map a_network (child_network (p_switch_child fs k) fs e t k)
child_inside (collection fs m t) k = collection_child (p_switch_child fs k) fs m t k
child_inside _ k = None

-- child k, from 0
abbrev pub child : {L : Type 0} → Network L → ℕ → Option (Tree L)
child f k = child_inside (parts_of f) k

-- the network, or the whole expression with what is left of the position inside it
abbrev pub at : {L : Type 0} → Tree L → List ℕ → Option (Tree L × List ℕ)
at (a_leaf e) p = Some (a_leaf e, p)
at (a_network f) [] = Some (a_network f, [])
at (a_network f) (k ∷ p) = do
  s ← child f k
  at s p
