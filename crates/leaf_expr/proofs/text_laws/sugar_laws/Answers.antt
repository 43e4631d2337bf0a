use Rattle.leaf_expr.proofs.TextRows.{merge_is, gate_is, tag_is, attach_is}
use Rattle.leaf_expr.proofs.text_laws.sugar_laws.Goals as goal

pub returns-clause-merge : goal.returns-clause-merge
returns-clause-merge c = merge_is

pub returns-clause-gate : goal.returns-clause-gate
returns-clause-gate c = gate_is

pub returns-clause-tag : goal.returns-clause-tag
returns-clause-tag c = tag_is

pub returns-clause-attach : goal.returns-clause-attach
returns-clause-attach c = attach_is
