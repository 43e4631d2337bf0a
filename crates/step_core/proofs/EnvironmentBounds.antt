-- The bound of visits in environments as data.
use Rattle.std.proofs.Common.{List, [], ◌∷◌}
use Rattle.sample_core.specs.Datum.{Datum}
use Rattle.net_tree.specs.Network.{Network}
use Rattle.net_meaning.specs.Environment.{Environment, context_of, closed, param, frozen}
use Rattle.state_core.specs.Visits.{visits}
use Rattle.net_tree.specs.Weight.{weight}
use Rattle.step_core.specs.EnvironmentVisits.{counts_of, weights_of, visits_of}
use Rattle.net_meaning.proofs.Meanings.{AllSignals-context_of}
use Rattle.step_core.proofs.VisitSums.{IsCount, AllCounts, no_count, and_count, AllCounts-append, IsCount-resume}
use Rattle.step_core.proofs.VisitBounds.{IsCount-visits}

module _ {L : Type 0} (val : L → List Datum → Datum → Datum) where
  pub AllCounts-counts_of : (E : Environment L) → AllCounts (weights_of E) (counts_of val E)
  AllCounts-counts_of closed = no_count
  AllCounts-counts_of (param E c) = AllCounts-counts_of E
  AllCounts-counts_of (frozen E net E' p d) =
      AllCounts-append (weights_of E) (weight net (weights_of E') ∷ []) (counts_of val E) _ (AllCounts-counts_of E)
      (and_count
      (IsCount-resume (weight net (weights_of E')) (visits val net (context_of val E') (counts_of val E'))
      (IsCount-visits val net (context_of val E') (counts_of val E') (weights_of E') (AllSignals-context_of val E') (AllCounts-counts_of E')) p d) no_count)

  pub IsCount-visited : (net : Network L) (E : Environment L) → IsCount (weight net (weights_of E)) (visits_of val net E)
  IsCount-visited net E = IsCount-visits val net (context_of val E) (counts_of val E) (weights_of E) (AllSignals-context_of val E) (AllCounts-counts_of E)
