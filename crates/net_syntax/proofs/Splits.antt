-- A tree that is replaced, split at the first number of the position.
use Rattle.std.proofs.Common.{◌≡◌, ℕ, List, ◌∷◌, Option, Some, None, option_map, refl}
use Rattle.std.proofs.lemmas.Option.{none-some, same_Some}
use Rattle.leaf_core.specs.Expression.{Expression}
use Rattle.net_tree.specs.Network.{Network}
use Rattle.net_tree.specs.Place.{◌>>=◌, Tree, a_network, child}
use Rattle.net_syntax.specs.Placed.{with_child, replaced}

-- what goes on from what was found
pub record Onward (X Y : Type 0) (o : Option X) (f : X → Option Y) (y : Y) : Type 0 where
  pub from : X
  pub was : o ≡ Some from
  pub goes : f from ≡ Some y

pub onward : {X Y : Type 0} (o : Option X) (f : X → Option Y) (y : Y) → (o >>= f) ≡ Some y → Onward X Y o f y
onward None f y e = absurd (none-some y e)
onward (Some x) f y e = record { from = x; was = refl; goes = e }

-- the child that stood there, the one that stands there now, and the network with it
pub record Split (f : Network Expression) (k : ℕ) (p : List ℕ) (s w : Tree Expression) : Type 0 where
  pub before : Tree Expression
  pub there : child f k ≡ Some before
  pub now : Tree Expression
  pub changed : replaced before p s ≡ Some now
  pub net : Network Expression
  pub is : with_child f k now ≡ Some net
  pub whole : a_network net ≡ w

pub split : (f : Network Expression) (k : ℕ) (p : List ℕ) (s w : Tree Expression) → replaced (a_network f) (k ∷ p) s ≡ Some w → Split f k p s w
split f k p s w q =
    let a = onward (child f k) (λ c. replaced c p s >>= (λ d. option_map a_network (with_child f k d))) w q in
    let b = onward (replaced a.from p s) (λ d. option_map a_network (with_child f k d)) w a.goes in
    go a.from a.was b.from b.was (with_child f k b.from) refl b.goes
  where
    go : (c : Tree Expression) → child f k ≡ Some c → (d : Tree Expression) → replaced c p s ≡ Some d → (o : Option (Network Expression)) → with_child f k d ≡ o
        → option_map a_network o ≡ Some w → Split f k p s w
    go c i d j None l r = absurd (none-some w r)
    go c i d j (Some v) l r = record { before = c; there = i; now = d; changed = j; net = v; is = l; whole = same_Some (a_network v) w r }
