use Rattle.std.proofs.Common.{arith}
use Rattle.std.proofs.lemmas.Grind.{common_steps}
use Rattle.sample_core.proofs.Adding.{extends_added}
use Rattle.sample_core.proofs.print.+push_type.Goals as goal

pub push_type-returns-in_err-push_type-in-Pair : goal.push_type-returns-in_err-push_type-in-Pair
push_type-returns-in_err-push_type-in-Pair t c = grind (arith, common_steps, extends_added)

pub push_last_type-returns-in_err-push_type : goal.push_last_type-returns-in_err-push_type
push_last_type-returns-in_err-push_type t c = grind (arith, common_steps, extends_added)
