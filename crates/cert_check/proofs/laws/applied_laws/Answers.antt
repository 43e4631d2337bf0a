use Rattle.cert_check.proofs.StandsNow.{next_there}
use Rattle.cert_check.proofs.Taken.{applied}
use Rattle.cert_check.proofs.laws.applied_laws.Goals as goal

pub returns : goal.returns
returns c = record { applied = applied; stands = next_there }
