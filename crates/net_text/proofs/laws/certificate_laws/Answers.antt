use Rattle.net_text.proofs.CertificateRead.{read_certificate_law, one_certificate, certificate_fault_law}
use Rattle.net_text.proofs.laws.certificate_laws.Goals as goal

pub returns-clause-certificates : goal.returns-clause-certificates
returns-clause-certificates c = read_certificate_law

pub returns-clause-one_certificate : goal.returns-clause-one_certificate
returns-clause-one_certificate c = one_certificate

pub returns-clause-fault : goal.returns-clause-fault
returns-clause-fault c = certificate_fault_law
