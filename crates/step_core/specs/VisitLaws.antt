-- Laws of the visits of every network in every environment.
use Rattle.std.specs.Prelude.{◌≡◌, ℕ, take}
use Rattle.leaf_core.specs.Expression.{Expression}
use Rattle.leaf_core.specs.ExpressionValue.{value_of}
use Rattle.net_meaning.specs.SignalFunction.{TimedList}
use Rattle.net_tree.specs.Network.{Network}
use Rattle.net_meaning.specs.Environment.{Environment}
use Rattle.net_tree.specs.Weight.{weight}
use Rattle.state_core.specs.Visits.{IsCount}
use Rattle.step_core.specs.EnvironmentVisits.{weights_of, visits_of}

-- as many counts as samples, each at most what the network weighs there
abbrev pub VisitBoundLaw : Type 0
VisitBoundLaw = (net : Network Expression) (E : Environment Expression)
    → IsCount (weight net (weights_of E)) (visits_of value_of net E)

-- the visits of the first n samples are the first n of the visits
abbrev pub VisitCausalLaw : Type 0
VisitCausalLaw = (net : Network Expression) (E : Environment Expression) (n : ℕ) (xs : TimedList)
    → visits_of value_of net E (take n xs) ≡ take n (visits_of value_of net E xs)
