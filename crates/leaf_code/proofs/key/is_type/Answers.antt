use Rattle.std.proofs.lemmas.Bool.Decides.{same_from_decides}
use Rattle.sample_core.specs.TypeView.{type_of}
use Rattle.leaf_core.specs.TypeLimits.{same_tree}
use Rattle.leaf_core.proofs.Exactness.{Decides-same_tree}
use Rattle.leaf_code.proofs.key.is_type.Goals as goal

pub returns : goal.returns
returns c = same_from_decides c.same_type.result (same_tree (type_of c.args.a.now) (type_of c.args.b.now)) c.same_type.ensures (Decides-same_tree (type_of c.args.a.now) (type_of c.args.b.now))
