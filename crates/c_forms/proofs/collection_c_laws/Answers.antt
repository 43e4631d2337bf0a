use Rattle.c_forms.proofs.Collection.{collection_law}
use Rattle.c_forms.proofs.collection_c_laws.Goals as goal

pub returns : goal.returns
returns s = record { collection = collection_law }
