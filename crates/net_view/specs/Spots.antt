-- The walk that lists steps: what is known where it is, and the steps that it adds.
use Rattle.std.specs.Prelude.{◌≡◌, ℕ, ◌+◌, ◌-◌, ◌*◌, ◌≤◌, leb, Bool, true, false, ◌&&◌, List, [], ◌++◌, Option, Some, None, MatchOption}
use Rattle.std.specs.List.{Contains}
use Rattle.sample_core.specs.TypeTree.{TypeTree}
use Rattle.leaf_core.specs.Expression.{Expression, height_of, nodes_in}
use Rattle.leaf_core.specs.ExpressionLimits.{ExpressionFits}
use Rattle.leaf_core.specs.Parts.{with_part_at}
use Rattle.leaf_core.specs.PartWalk.{part_type_at}
use Rattle.net_tree.specs.Network.{Network}
use Rattle.net_tree.specs.Place.{Tree, a_network, a_leaf}
use Rattle.net_tree.specs.Weight.{weight}
use Rattle.net_tree.specs.Height.{height}
use Rattle.net_tree.specs.LawStep.{Step}
use Rattle.net_syntax.specs.Placed.{Placed, placed_at}
use Rattle.net_syntax.specs.Rewriting.{Rewrites}
use Rattle.net_syntax.specs.Standing.{Standing, alone, TreeWithin}
use Rattle.net_meaning.specs.TypedNetwork.{TypedNetwork}
use Rattle.net_types.specs.Answered.{NoRewriting}
use Rattle.net_types.specs.KeptTypes.{same_type, type_kept}
use Rattle.net_view.specs.Listed.{AddsPositions, IsInside}
use Rattle.net_view.specs.Possible.{Possible, MayBeTaken, ListsSteps}

-- an expression that is as low as it may be, in a whole one that may have so many nodes more
pub record IsRoomy (e : Expression) (high more : ℕ) : Type 0 where
  pub low : height_of e ≤ high
  pub limit : high ≤ 256
  pub few : nodes_in e + more ≤ 100000

-- the same of a tree; of a network nothing is said
abbrev pub IsRoomyTree : Tree Expression → ℕ → ℕ → Type 0
IsRoomyTree (a_network f) high more = Unit {0}
IsRoomyTree (a_leaf e) high more = IsRoomy e high more

-- what the limits leave a whole expression
abbrev pub IsNewRoom : Tree Expression → ℕ → ℕ → Type 0
IsNewRoom (a_network f) high more = Unit {0}
IsNewRoom (a_leaf e) high more = ExpressionFits e → (high ≡ 256) × (nodes_in e + more ≡ 100000)

-- what is left inside a tree, of what is left there
abbrev pub IsRoomBelow : Tree Expression → Tree Expression → ℕ → ℕ → ℕ → ℕ → Type 0
IsRoomBelow (a_network f) child high more high' more' = IsNewRoom child high' more'
IsRoomBelow (a_leaf e) part high more high' more' = (high' ≡ high - 1) × (more' ≡ more)

-- whether an expression is so low, and has at most so many nodes more than the first one
abbrev pub fits_there : ℕ → ℕ → Expression → Expression → Bool
fits_there high more e v = leb (height_of v) high && leb (nodes_in v) (nodes_in e + more)

-- the expression v fits where e stands, and at the path it has the type that e has there
abbrev pub kept_in_room : ℕ → ℕ → Standing → Expression → List ℕ → Option Expression → Bool
kept_in_room high more R e p None = false
kept_in_room high more R e p (Some v) =
    fits_there high more e v
    && same_type (part_type_at R.params R.input e p) (part_type_at R.params R.input v p)

-- as `type_kept`, where what an expression stands in may be so high, and have so many nodes more
abbrev pub kept_below : ℕ → ℕ → Standing → Tree Expression → List ℕ → Tree Expression → Bool
kept_below high more R (a_leaf e) p (a_leaf s) =
    kept_in_room high more R e p (with_part_at e p s)
kept_below high more R (a_leaf e) p (a_network s) = false
kept_below high more R (a_network f) p s = type_kept R (a_network f) p s

-- what is at p is typed where it stands, with so much room; what keeps its type below it, keeps it
-- in the network
pub record IsAround (t : TypedNetwork) (p : List ℕ) (c : Placed) (S : Standing) (high more : ℕ)
    : Type 0 where
  pub output : TypeTree
  pub typed : TreeWithin S c.tree output
  pub room : IsRoomyTree c.tree high more
  pub kept : (q : List ℕ) (new : Tree Expression)
      → type_kept (alone t.input) (a_network t.net) (p ++ q) new
      ≡ kept_below high more S c.tree q new

-- whether the network with the tree at the position is typed within the limits, and the type is kept
abbrev pub MayStand : TypedNetwork → List ℕ → Tree Expression → Bool → Type 0
MayStand t p new true = (u : TypedNetwork) × Rewrites t p new u
MayStand t p new false = NoRewriting t p new

-- so many times the weight of the whole, and so much above its height, is within the limits, and h
-- weighs at most so many times what g does, and is at most so much higher
pub record GrowsLittle (t : TypedNetwork) (g h : Network Expression) : Type 0 where
  pub times : ℕ
  pub rise : ℕ
  pub light : times * t.weight ≤ 1000000
  pub low : rise + t.height ≤ 256
  pub heavier : weight h [] ≤ times * weight g []
  pub higher : height h [] ≤ rise + height g []

-- a step at one of these positions that may be taken
abbrev pub AtPositions : TypedNetwork → List (List ℕ) → Step → Type 0
AtPositions t ps s = MayBeTaken t s × Contains ps s.position

-- steps were added behind others: all that may be taken at positions that lead on from p by paths
-- which are so
pub record AddsSteps (t : TypedNetwork) (p : List ℕ) (So : List ℕ → Type 0)
    (before now : List Possible) : Type 0 where
  pub steps : List Possible
  pub added : now ≡ before ++ steps
  pub positions : List (List ℕ)
  pub there : AddsPositions p So [] positions
  pub listed : ListsSteps t (AtPositions t positions) steps

-- the steps at or below what stands at a path below a place, which is at p; none if nothing does
abbrev pub AddsStepsBelow : TypedNetwork → List ℕ → Placed → List ℕ → List Possible → Type 0
AddsStepsBelow t p c rest steps =
    MatchOption (placed_at c.params c.olds c.tree rest) (steps ≡ [])
    (λ d. AddsSteps t (p ++ rest) (IsInside d) [] steps)
