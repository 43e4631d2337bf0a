use Rattle.leaf_expr.proofs.TextRows.{type_rows, word_rows, unary_rows, binary_rows, long_rows, fault_rows}
use Rattle.leaf_expr.proofs.text_laws.grammar_rows.Goals as goal

pub returns-clause-types : goal.returns-clause-types
returns-clause-types c = type_rows

pub returns-clause-words : goal.returns-clause-words
returns-clause-words c = word_rows

pub returns-clause-unary : goal.returns-clause-unary
returns-clause-unary c = unary_rows

pub returns-clause-binary : goal.returns-clause-binary
returns-clause-binary c = binary_rows

pub returns-clause-long : goal.returns-clause-long
returns-clause-long c = long_rows

pub returns-clause-faults : goal.returns-clause-faults
returns-clause-faults c = fault_rows
