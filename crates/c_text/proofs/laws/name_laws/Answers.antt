use Rattle.c_text.proofs.Names.{one_name}
use Rattle.c_text.proofs.laws.name_laws.Goals as goal

pub returns : goal.returns
returns c = one_name
