use Rattle.std.proofs.Common.{arith}
use Rattle.std.proofs.lemmas.Grind.{common_steps}
use Rattle.sample_core.proofs.Elements.{elements_of_list}
use Rattle.leaf_core.proofs.operations.count.Goals as goal

pub returns-in-List : goal.returns-in-List
returns-in-List c = grind (arith, common_steps, elements_of_list c.in-List.all)
