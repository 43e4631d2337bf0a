use Rattle.leaf_expr.proofs.TextLaws.{printed_begins, printed_type_begins, printed_text}
use Rattle.leaf_expr.proofs.text_laws.printing_laws.Goals as goal

pub returns-clause-printed : goal.returns-clause-printed
returns-clause-printed c = printed_begins

pub returns-clause-printed_type : goal.returns-clause-printed_type
returns-clause-printed_type c = printed_type_begins

pub returns-clause-printed_text : goal.returns-clause-printed_text
returns-clause-printed_text c = printed_text
