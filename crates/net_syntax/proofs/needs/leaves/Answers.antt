use Rattle.std.proofs.Common.{map, ap}
use Rattle.sample_core.specs.TypeView.{type_of}
use Rattle.net_tree.specs.NetworkView.{tree_of}
use Rattle.net_syntax.specs.NeedView.{need_of}
use Rattle.net_syntax.proofs.FoundLeaves.{whole_leaves, whole_found}
use Rattle.net_syntax.proofs.FoundOutputs.{nothing_found}
use Rattle.net_syntax.proofs.needs.leaves.Goals as goal

pub unreachable-requires : goal.unreachable-requires
unreachable-requires c =
    whole_found c.args.net.now c.new.result.items c.new-2.result (type_of c.input.result.now) (tree_of c.net.result.now) (map need_of c.new-3.result.items)
    c.new.ensures.items c.new-2.ensures c.input.ensures c.net.ensures.net (ap (map need_of) c.new-3.ensures.items) c.net.ensures.limits.fits.typed
    (nothing_found (λ t. (type_of t, map need_of c.network.new.self.needs.items)) c.in-Err-NoType.field-0 _ c.in-Err-NoType.field-0-is
    c.in-Err-NoType.ensures.added)

pub returns-in-Ok : goal.returns-in-Ok
returns-in-Ok c =
    whole_leaves c.args.net.now c.new.result.items c.new-2.result (type_of c.input.result.now) (tree_of c.net.result.now) (map need_of c.new-3.result.items)
    (map need_of c.network.new.self.needs.items) (type_of c.in-Ok.output) c.new.ensures.items c.new-2.ensures c.input.ensures c.net.ensures.net
    (ap (map need_of) c.new-3.ensures.items) c.net.ensures.limits.fits.typed c.in-Ok.ensures.added
