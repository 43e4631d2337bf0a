use Rattle.std.proofs.Common.{ap, sym}
use Rattle.sample_core.specs.TypeView.{type_of}
use Rattle.law_patterns.specs.Matching.{held_type}
use Rattle.law_patterns.proofs.Steps.{bound_type-again}
use Rattle.law_patterns.proofs.letters.Letters.bind_type.Goals as goal

pub returns-in-Some : goal.returns-in-Some
returns-in-Some c = λ es.
    bound_type-again _ (type_of c.in-Some.earlier.now) _ es _ _ (ap held_type (sym c.in-Some.is)) c.same_type.ensures
