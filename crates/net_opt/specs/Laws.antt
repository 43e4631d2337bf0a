-- What is to hold of the optimiser.
use Rattle.std.specs.Prelude.{◌≡◌, List}
use Rattle.leaf_core.specs.Expression.{Expression}
use Rattle.net_tree.specs.Network.{Network}
use Rattle.net_meaning.specs.TypedNetwork.{TypedNetwork}
use Rattle.net_tree.specs.LawStep.{Step}
use Rattle.cert_check.specs.Derives.{Derives}
use Rattle.net_opt.specs.Optimising.{Optimised}
use Rattle.net_opt.specs.declared.optimiser.TheConstants.{MOST_TAKEN}

-- how many steps are taken at most
abbrev pub MostTakenIs : Type 0
MostTakenIs = MOST_TAKEN ≡ 1000

-- what is optimised, with its source's input type, is derived from the source by the steps
abbrev pub OptimisedDerivesLaw : Type 0
OptimisedDerivesLaw = (source target : TypedNetwork) (steps : List Step)
    → Optimised source target.net steps → source.input ≡ target.input → Derives source target steps

-- a network is optimised to one network, by one list of steps
abbrev pub OneOptimisedLaw : Type 0
OneOptimisedLaw = (t : TypedNetwork) (f g : Network Expression) (ss us : List Step)
    → Optimised t f ss → Optimised t g us → (f ≡ g) × (ss ≡ us)
