use Rattle.std.proofs.Common.{map}
use Rattle.net_tree.specs.LawStep.{step_of}
use Rattle.net_text.proofs.CertificateRead.{cert_found, cert_only, certificate_refused}
use Rattle.net_text.proofs.read_certificate.read_cert.Goals as goal

pub returns-clause-found : goal.returns-clause-found
returns-clause-found c = cert_found c.args.text.now (λ steps. map step_of steps.items) c.certificate.result c.certificate.ensures.exact

pub returns-clause-only : goal.returns-clause-only
returns-clause-only c = cert_only c.args.text.now (λ steps. map step_of steps.items) c.certificate.result c.certificate.ensures.exact

pub returns-clause-refused : goal.returns-clause-refused
returns-clause-refused c = certificate_refused c.args.text.now (λ steps. map step_of steps.items) c.certificate.result c.certificate.ensures.exact
