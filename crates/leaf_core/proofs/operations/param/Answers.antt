use Rattle.std.proofs.Common.{arith}
use Rattle.std.proofs.lemmas.Grind.{common_steps}
use Rattle.std.proofs.lemmas.List.{get_or-map}
use Rattle.sample_core.specs.Datum.{unit}
use Rattle.sample_core.specs.ValueView.{datum_of}
use Rattle.leaf_core.proofs.Places.{past}
use Rattle.leaf_core.proofs.operations.param.Goals as goal

pub returns-in-Some : goal.returns-in-Some
returns-in-Some c = grind (arith, common_steps, get_or-map datum_of c.args.params.now c.args.k c.in-Some.value.now unit c.in-Some.ensures.lookup.3.0)

pub returns-in-None : goal.returns-in-None
returns-in-None c = grind (arith, common_steps, past datum_of c.args.params.now c.args.k unit c.in-None.ensures.lookup.3)
