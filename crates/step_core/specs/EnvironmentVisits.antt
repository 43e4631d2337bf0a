-- Visits and weights in environments as data.
use Rattle.std.specs.Prelude.{ℕ, List, [], ◌∷◌, ◌++◌}
use Rattle.sample_core.specs.Datum.{Datum}
use Rattle.net_meaning.specs.SignalFunction.{TimedList}
use Rattle.net_tree.specs.Network.{Network}
use Rattle.net_meaning.specs.Environment.{Environment, context_of, closed, param, frozen}
use Rattle.state_core.specs.Visits.{VisitCounts, visits, resume_counts}
use Rattle.net_tree.specs.Weight.{weight}

-- the counts of the frozen networks in scope, each resumed with the step that it was frozen with
abbrev pub counts_of : {L : Type 0} → (L → List Datum → Datum → Datum) → Environment L
    → List VisitCounts
counts_of val closed = []
counts_of val (param E c) = counts_of val E
counts_of val (frozen E net E' p d) = counts_of val E
    ++ resume_counts (visits val net (context_of val E') (counts_of val E')) p d ∷ []

-- the weights of the frozen networks in scope
abbrev pub weights_of : {L : Type 0} → Environment L → List ℕ
weights_of closed = []
weights_of (param E c) = weights_of E
weights_of (frozen E net E' p d) = weights_of E ++ weight net (weights_of E') ∷ []

-- the visits of each sample
abbrev pub visits_of : {L : Type 0} → (L → List Datum → Datum → Datum) → Network L → Environment L
    → TimedList → List ℕ
visits_of val net E xs = visits val net (context_of val E) (counts_of val E) xs
