use Rattle.std.proofs.Common.{◌+◌, ◌*◌}
use Rattle.sample_core.specs.TypeTree.{nodes_of}
use Rattle.sample_core.specs.TypeView.{type_of}
use Rattle.code_fits.proofs.bounds.+add.Given as goal

abbrev pub decreases-add_tree : goal.decreases-add_tree
decreases-add_tree l = 2 * nodes_of (type_of l.ty.now) + 1

abbrev pub decreases-add_pair : goal.decreases-add_pair
decreases-add_pair l = 2 * (nodes_of l.a.now + nodes_of l.b.now) + 2
