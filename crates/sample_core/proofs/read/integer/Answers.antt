use Rattle.sample_core.specs.Datum.{int}
use Rattle.sample_core.specs.TypeTree.{int_ty}
use Rattle.sample_core.proofs.ReadingIs.{spells_read}
use Rattle.sample_core.proofs.read.integer.Goals as goal

pub returns-in-Some-clause-exact : goal.returns-in-Some-clause-exact
returns-in-Some-clause-exact c = spells_read c.args.size int_ty c.args.text.now (int c.in-Some.found.0) c.in-Some.found.1.now c.in-Some.ensures.spelled
