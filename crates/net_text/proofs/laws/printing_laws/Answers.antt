use Rattle.net_text.proofs.PrintedFile.{printed_file}
use Rattle.net_text.proofs.PrintedCertificate.{printed_certificate}
use Rattle.net_text.proofs.laws.printing_laws.Goals as goal

pub returns-clause-networks : goal.returns-clause-networks
returns-clause-networks c = printed_file

pub returns-clause-certificates : goal.returns-clause-certificates
returns-clause-certificates c = printed_certificate
