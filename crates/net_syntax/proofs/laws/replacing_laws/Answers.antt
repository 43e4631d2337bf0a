use Rattle.net_syntax.proofs.SamePlaces.{same_place}
use Rattle.net_syntax.proofs.laws.replacing_laws.Goals as goal

pub returns : goal.returns
returns c = record { same = same_place }
