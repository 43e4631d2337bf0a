-- Certificate files, read once each.
use Rattle.std.proofs.Common.{refl}
use Rattle.leaf_expr.specs.Grammar.{word_at, production_at, words, productions}
use Rattle.net_text.specs.Grammar.{net_words, net_word_at, net_productions, net_production_at}
use Rattle.net_text.specs.StepGrammar.{directions, position_productions, step_word_at, step_production_at}
use Rattle.net_text.specs.CertificateRows.{CertificateRows, LawRows, CertificateFaultRows}

pub certificate_rows_read : CertificateRows
unfolding word_at words production_at productions net_words net_word_at net_productions net_production_at directions position_productions step_word_at step_production_at
certificate_rows_read = (refl, refl, refl, refl, refl, refl, refl, refl, refl, refl, refl)

pub law_rows_read : LawRows
unfolding word_at words production_at productions net_words net_word_at net_productions net_production_at directions position_productions step_word_at step_production_at
law_rows_read = (refl, refl, refl, refl, refl, refl, refl, refl, refl, refl, refl, refl, refl, refl, refl, refl)

pub certificate_fault_rows : CertificateFaultRows
unfolding word_at words production_at productions net_words net_word_at net_productions net_production_at directions position_productions step_word_at step_production_at
certificate_fault_rows = (refl, refl, refl, refl, refl, refl, refl, refl, refl, refl, refl, refl)
