use Rattle.leaf_core.proofs.Typed.{answer_typed, answer_only}
use Rattle.leaf_core.proofs.typing.type_of_expr.Goals as goal

pub returns-clause-typed : goal.returns-clause-typed
returns-clause-typed c = answer_typed _ _ _ c.whole_type.result c.whole_type.ensures

pub returns-clause-only : goal.returns-clause-only
returns-clause-only c = answer_only _ _ _ c.whole_type.result c.whole_type.ensures
