use Rattle.c_text.proofs.TypeRows.{declared_rows, zeroed_rows, braces_rows, meant_rows, place_rows, kind_rows, result_rows, signed_rows}
use Rattle.c_text.proofs.laws.type_rows.Goals as goal

pub returns-clause-declared : goal.returns-clause-declared
returns-clause-declared c = declared_rows

pub returns-clause-zeroed : goal.returns-clause-zeroed
returns-clause-zeroed c = zeroed_rows

pub returns-clause-braces : goal.returns-clause-braces
returns-clause-braces c = braces_rows

pub returns-clause-meant : goal.returns-clause-meant
returns-clause-meant c = meant_rows

pub returns-clause-places : goal.returns-clause-places
returns-clause-places c = place_rows

pub returns-clause-kinds : goal.returns-clause-kinds
returns-clause-kinds c = kind_rows

pub returns-clause-results : goal.returns-clause-results
returns-clause-results c = result_rows

pub returns-clause-signed : goal.returns-clause-signed
returns-clause-signed c = signed_rows
