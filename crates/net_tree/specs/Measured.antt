-- What a network measures, within limits.
use Rattle.std.specs.Prelude.{◌≡◌, ℕ, ◌+◌, ◌<◌, ◌≤◌, min, List, [], Option, Some, None, Result, Ok, Err}
use Rattle.leaf_core.specs.Expression.{Expression}
use Rattle.net_tree.specs.Network.{Network, network_size}
use Rattle.net_tree.specs.Weight.{weight, total}
use Rattle.net_tree.specs.Height.{height, greatest}
use Rattle.net_tree.specs.declared.measure.Measures.{Measures}
use Rattle.net_tree.specs.declared.measure.Together.{Together}
use Rattle.net_tree.specs.declared.measure.Measuring.{Measuring}
use Rattle.net_tree.specs.declared.measure.Stop.{Stop}
use Rattle.net_tree.specs.declared.measure.Stop.TheVariants.{Large, Heavy, High, Memory}

-- n, counted up to 4294967295
abbrev pub capped : ℕ → ℕ
capped n = min n 4294967295

-- these numbers, so counted
abbrev pub MeasuresAre : Measures → ℕ → ℕ → ℕ → Type 0
MeasuresAre m size weight height =
    (m.size ≡ capped size) × (m.weight ≡ capped weight) × (m.height ≡ capped height)

-- none of the network's numbers, so counted, is over its limit
abbrev pub MeasuresWithin : Measures → Network Expression → Type 0
MeasuresWithin most net =
    (capped (network_size net) ≤ most.size) × (capped (weight net []) ≤ most.weight)
    × (capped (height net []) ≤ most.height)

-- the network's numbers, so counted, where none is over its limit; none where one is
abbrev pub Measured : Option Measures → Measures → Network Expression → Type 0
Measured (Some m) most net =
    MeasuresAre m (network_size net) (weight net []) (height net []) × MeasuresWithin most net
Measured None most net = MeasuresWithin most net → ⊥

-- these numbers, so counted, where none is over its limit; else one that is
abbrev pub Counts : Result Measures Stop → Measures → ℕ → ℕ → ℕ → Type 0
Counts (Ok m) most s w h =
    (m.size ≡ capped s) × (m.weight ≡ capped w) × (m.height ≡ capped h)
    × (m.size ≤ most.size) × (m.weight ≤ most.weight) × (m.height ≤ most.height)
Counts (Err Large) most s w h = most.size < capped s
Counts (Err Heavy) most s w h = most.weight < capped w
Counts (Err High) most s w h = most.height < capped h
Counts (Err (Memory m)) most s w h = Unit {0}

-- the size is added to the one so far; the weight and the height are the network's own, where the
-- frozen networks in scope have those that `by` tells
abbrev pub AddsMeasures : Result Measures Stop → Measuring → ℕ → Network Expression → Type 0
AddsMeasures r by size net =
    Counts r by.most (size + network_size net) (weight net by.weights.items)
    (height net by.heights.items)

-- of members of these weights and heights: the size so far with theirs, the sum of the weights and
-- the greatest weight and height, whatever the sum; else a size, a weight or a height over its limit
abbrev pub GathersMeasures : Result Together Stop → Measures → ℕ → List ℕ → List ℕ → Type 0
GathersMeasures (Ok t) most s ws hs =
    MeasuresAre t.inside s (total ws) (greatest hs) × (t.heaviest ≡ capped (greatest ws))
GathersMeasures (Err Large) most s ws hs = most.size < capped s
GathersMeasures (Err Heavy) most s ws hs = most.weight < capped (greatest ws)
GathersMeasures (Err High) most s ws hs = most.height < capped (greatest hs)
GathersMeasures (Err (Memory m)) most s ws hs = Unit {0}
