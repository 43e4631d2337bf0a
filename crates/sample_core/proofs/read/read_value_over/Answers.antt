use Rattle.sample_core.specs.TypeView.{type_of}
use Rattle.sample_core.proofs.ReadValue.{found_of, refused_of}
use Rattle.sample_core.proofs.read.read_value_over.Goals as goal

pub returns-clause-found : goal.returns-clause-found
returns-clause-found c = found_of (type_of c.args.ty.now) c.args.text.now c.front.new.place c.front.result c.front.ensures.exact

pub returns-clause-refused : goal.returns-clause-refused
returns-clause-refused c = refused_of (type_of c.args.ty.now) c.args.text.now c.front.new.place c.front.result c.front.ensures.exact
