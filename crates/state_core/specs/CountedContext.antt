-- What is in scope, with its visits, and the counted function of a network there.
use Rattle.std.specs.Prelude.{List, [], ◌∷◌, ◌++◌}
use Rattle.sample_core.specs.Datum.{Datum}
use Rattle.net_tree.specs.Network.{Network, Networks, no_members, and_member}
use Rattle.net_meaning.specs.Meaning.{Context, meaning}
use Rattle.state_core.specs.Visits.{visits}
use Rattle.state_core.specs.CountedFunction.{CountedFunction}
use Rattle.state_core.specs.CountedForms.{functions_of, counts_of_all}

-- the parameters in scope, and the counted functions of the frozen networks there
pub record CountedContext : Type 0 where
  pub params : List Datum
  pub olds : List CountedFunction

-- the context without the visits
abbrev pub context_in : CountedContext → Context
context_in S = record { params = S.params; olds = functions_of S.olds }

-- one parameter more in scope
abbrev pub context_with_param : CountedContext → Datum → CountedContext
context_with_param S c = record { params = S.params ++ c ∷ []; olds = S.olds }

-- these frozen networks more in scope
abbrev pub context_with_olds : CountedContext → List CountedFunction → CountedContext
context_with_olds S os = record { params = S.params; olds = S.olds ++ os }

-- what a network outputs in a context, and its visits
abbrev pub counted_meaning : {L : Type 0} → (L → List Datum → Datum → Datum) → Network L
    → CountedContext → CountedFunction
counted_meaning val net S =
    record {
      function = meaning val net (context_in S);
      visits =
          visits val net (context_in S) (counts_of_all S.olds);
    }

-- the counted function of each member
abbrev pub counted_meanings : {L : Type 0} → (L → List Datum → Datum → Datum) → Networks L
    → CountedContext → List CountedFunction
counted_meanings val no_members S = []
counted_meanings val (and_member f fs) S = counted_meaning val f S ∷ counted_meanings val fs S
