use Rattle.leaf_core.proofs.Soundness.{typed_value}
use Rattle.leaf_core.proofs.Uniqueness.{one_type}
use Rattle.leaf_core.proofs.Exactness.{type_answer-exact}
use Rattle.leaf_core.proofs.SameDatum.{same_datum_law}
use Rattle.leaf_core.proofs.laws.typing_laws.Goals as goal

pub returns-clause-sound : goal.returns-clause-sound
returns-clause-sound c = typed_value

pub returns-clause-one_type : goal.returns-clause-one_type
returns-clause-one_type c = one_type

pub returns-clause-exact : goal.returns-clause-exact
returns-clause-exact c = λ e Ps A B. type_answer-exact Ps A e B

pub returns-clause-equality : goal.returns-clause-equality
returns-clause-equality c = same_datum_law
