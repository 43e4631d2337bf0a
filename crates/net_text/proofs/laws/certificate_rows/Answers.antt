use Rattle.net_text.proofs.CertificateRowsRead.{certificate_rows_read, law_rows_read, certificate_fault_rows}
use Rattle.net_text.proofs.laws.certificate_rows.Goals as goal

pub returns-clause-certificates : goal.returns-clause-certificates
returns-clause-certificates c = certificate_rows_read

pub returns-clause-laws : goal.returns-clause-laws
returns-clause-laws c = law_rows_read

pub returns-clause-faults : goal.returns-clause-faults
returns-clause-faults c = certificate_fault_rows
