-- What stands where in a typed network, and lists of all that is so, in order.
use Rattle.std.specs.Prelude.{◌≡◌, ℕ, List, [], ◌∷◌, ◌++◌, map, IsSome}
use Rattle.std.specs.List.{All, Contains}
use Rattle.net_syntax.specs.Placed.{Placed, placed_at}
use Rattle.net_meaning.specs.TypedNetwork.{TypedNetwork}
use Rattle.cert_check.specs.Derives.{standing_tree}
use Rattle.net_opt.specs.Order.{Before}

-- something stands at the position of the network
abbrev pub IsThere : TypedNetwork → List ℕ → Type 0
IsThere t p = IsSome (standing_tree t p)

-- the second position is the first one, or leads on from it
abbrev pub IsAtOrBelow : List ℕ → List ℕ → Type 0
IsAtOrBelow p q = (rest : List ℕ) × (q ≡ p ++ rest)

-- each comes so before all behind it
abbrev pub InOrder : {A : Type 0} → (A → A → Type 0) → List A → Type 0
InOrder Earlier [] = Unit {0}
InOrder Earlier (x ∷ xs) = All (Earlier x) xs × InOrder Earlier xs

-- all that is so is listed, and nothing else, in this order
pub record Lists {A : Type 0} (Earlier : A → A → Type 0) (So : A → Type 0) (xs : List A) : Type 0
  where
    pub each : All So xs
    pub every : (x : A) → So x → Contains xs x
    pub in_order : InOrder Earlier xs

-- the positions at or below p at which something stands, in preorder
abbrev pub ArePositions : TypedNetwork → List ℕ → List (List ℕ) → Type 0
ArePositions t p ps = Lists Before (λ q. IsAtOrBelow p q × IsThere t q) ps

-- something stands at the path below a place
abbrev pub IsInside : Placed → List ℕ → Type 0
IsInside c q = IsSome (placed_at c.params c.olds c.tree q)

-- positions were added behind others: those that lead on from p by paths which are so, in preorder
pub record AddsPositions (p : List ℕ) (So : List ℕ → Type 0) (before now : List (List ℕ)) : Type 0
  where
    pub paths : List (List ℕ)
    pub added : now ≡ before ++ map (λ q. p ++ q) paths
    pub listed : Lists Before So paths
