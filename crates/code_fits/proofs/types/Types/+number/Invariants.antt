use Rattle.std.proofs.Common.{◌+◌, ◌*◌}
use Rattle.sample_core.specs.TypeTree.{nodes_of}
use Rattle.sample_core.specs.TypeView.{type_of}
use Rattle.code_fits.proofs.types.Types.+number.Given as goal

abbrev pub decreases-number : goal.decreases-number
decreases-number l = 2 * nodes_of (type_of l.ty.now) + 1

abbrev pub decreases-number_pair : goal.decreases-number_pair
decreases-number_pair l = 2 * (nodes_of l.a.now + nodes_of l.b.now) + 2
