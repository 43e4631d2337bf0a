use Rattle.net_text.proofs.NetRows.{cell_rows_read, network_rows, new_rows_read, new_fault_rows, sugar_rows, file_fault_rows, number_fault_rows, members_fault_rows}
use Rattle.net_text.proofs.laws.grammar_rows.Goals as goal

pub returns-clause-cells : goal.returns-clause-cells
returns-clause-cells c = cell_rows_read

pub returns-clause-networks : goal.returns-clause-networks
returns-clause-networks c = network_rows

pub returns-clause-sugar : goal.returns-clause-sugar
returns-clause-sugar c = sugar_rows

pub returns-clause-faults : goal.returns-clause-faults
returns-clause-faults c = file_fault_rows

pub returns-clause-numbers : goal.returns-clause-numbers
returns-clause-numbers c = number_fault_rows

pub returns-clause-members : goal.returns-clause-members
returns-clause-members c = members_fault_rows

pub returns-clause-new : goal.returns-clause-new
returns-clause-new c = new_rows_read

pub returns-clause-new_faults : goal.returns-clause-new_faults
returns-clause-new_faults c = new_fault_rows
