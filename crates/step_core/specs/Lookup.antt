-- Which expressions of a network have rows in a table.
use Rattle.std.specs.Prelude.{◌≡◌, ℕ, List, [], ◌∷◌, ◌++◌, All, Contains, Some, slice_get, ◌⊎◌}
use Rattle.leaf_core.specs.KeyTree.{KeyTree}
use Rattle.net_syntax.specs.Leaves.{Need, LeavesOf}
use Rattle.net_meaning.specs.TypedNetwork.{TypedNetwork}
use Rattle.step_core.specs.declared.fault.BindFault.{BindFault}
use Rattle.step_core.specs.declared.fault.BindFault.TheVariants as F

-- each need has a row
abbrev pub AllFound : List KeyTree → List Need → Type 0
AllFound keys ns = All (λ n. Contains keys n.key) ns

-- this is the position of the first need that has no row
abbrev pub FirstMissing : List KeyTree → List Need → List ℕ → Type 0
FirstMissing keys [] p = ⊥
FirstMissing keys (n ∷ ns) p = ((Contains keys n.key → ⊥) × (p ≡ n.position))
    ⊎ (Contains keys n.key × FirstMissing keys ns p)

-- a refusal, other than `Memory`, names the position of the first need that has no row
abbrev pub Misses : List KeyTree → List Need → BindFault → Type 0
Misses keys ns (F.MissingLeaf p) = FirstMissing keys ns p
Misses keys ns F.Memory = Unit {0}

-- every expression of the network has a row
abbrev pub FindsAll : List KeyTree → TypedNetwork → Type 0
FindsAll keys t = (ns : List Need) × LeavesOf t ns × AllFound keys ns

-- a refusal, other than `Memory`, names the position of the network's first expression that has no
-- row
abbrev pub MissesIn : List KeyTree → TypedNetwork → BindFault → Type 0
MissesIn keys t (F.MissingLeaf p) = (ns : List Need) × LeavesOf t ns × FirstMissing keys ns p
MissesIn keys t F.Memory = Unit {0}

-- these are the numbers of the needs' rows, in order
pub data RowsOf (keys : List KeyTree) : List Need → List ℕ → Type 0 where
  no_rows : RowsOf keys [] []
  and_row : {n : Need} {ns : List Need} {k : ℕ} {ks : List ℕ} → slice_get keys k ≡ Some n.key
      → RowsOf keys ns ks → RowsOf keys (n ∷ ns) (k ∷ ks)

-- the numbers of the needs' rows were added behind others
abbrev pub AddsRows : List KeyTree → List Need → List ℕ → List ℕ → Type 0
AddsRows keys ns before now = (ks : List ℕ) × RowsOf keys ns ks × (now ≡ before ++ ks)

-- a refusal names this position, other than `Memory`
abbrev pub Names : List ℕ → BindFault → Type 0
Names at (F.MissingLeaf p) = p ≡ at
Names at F.Memory = Unit {0}
