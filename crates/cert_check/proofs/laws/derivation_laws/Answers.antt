use Rattle.cert_check.proofs.Sound.{derives_same, derives_stream, derives_types}
use Rattle.cert_check.proofs.laws.derivation_laws.Goals as goal

pub returns : goal.returns
returns c = record { same = derives_same; same_stream = derives_stream; kept_types = derives_types }
