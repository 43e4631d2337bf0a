use Rattle.std.proofs.Common.{◌+◌, ◌∙◌, suc, Err, add-one, ap, arith}
use Rattle.std.proofs.lemmas.Result.{err_from_is_err_and}
use Rattle.sample_core.specs.TypeTree.{list_ty}
use Rattle.sample_core.specs.TypeView.{type_of}
use Rattle.leaf_core.specs.ExpressionView.{expression_of}
use Rattle.net_syntax.specs.ArrowView.{arrow_of}
use Rattle.net_tree.specs.Network.{map_network, map_networks}
use Rattle.net_tree.specs.NetworkView.{members_of}
use Rattle.net_types.proofs.WalkParts.{freezing_gives, p_switch_gives, rp_switch_gives, collection_gives, collection_stops, collection_fails}
use Rattle.net_types.proofs.walk.Walk.+walk.Goals as goal

pub gathered-returns-clause-answer : goal.gathered-returns-clause-answer
gathered-returns-clause-answer t c =
    let n = c.args.count in
    freezing_gives type_of c.next.result c.args.self.now.path.items c.watched.new.self.path.items (suc n) (n + 1) (n + 2) n c.args.self.now.scope
    c.in_ok-inner.inner c.add_olds.new.self (type_of c.args.input.now) _ _ (arrow_of c.args.types.now) (map_network expression_of c.args.e.now)
    (map_network expression_of c.args.t.now) (c.in_ok-list.ensures ∙ ap (λ o. list_ty (type_of o)) c.in_ok-output.ensures) (add-one n) (omega arith) c.in_ok-inner.ensures.kept.0 c.in_ok-add_olds.ensures
    c.in_ok-inner.ensures.answer c.next.ensures.answer

pub p_switch-returns-clause-answer : goal.p_switch-returns-clause-answer
p_switch-returns-clause-answer t c =
    p_switch_gives type_of c.gathered-next.result c.args.self.now.path.items c.routed.new.self.path.items c.args.self.now.scope (type_of c.args.input.now)
    (expression_of c.args.r.now) c.args.fs.now c.as_slice-members.result.now c.in_ok-count.count (arrow_of c.in_ok-types.types)
    (map_network expression_of c.args.e.now) (map_network expression_of c.args.t.now) c.as_slice-members.ensures c.in_ok-count.ensures.counted
    c.in_ok-types.ensures.kept.0 c.in_ok-count.ensures.answer c.in_ok-types.ensures.answer (rw c.in_ok-types.ensures.kept.1 at c.gathered-next.ensures.answer)

pub network-returns-in-RpSwitch-clause-answer : goal.network-returns-in-RpSwitch-clause-answer
network-returns-in-RpSwitch-clause-answer t c = rw c.in-RpSwitch.is c.rp_switch.ensures.answer

pub rp_switch-returns-in_err-output-clause-answer : goal.rp_switch-returns-in_err-output-clause-answer
rp_switch-returns-in_err-output-clause-answer t c =
    let p = err_from_is_err_and c.from_residual-in_err-output.result c.from_residual-in_err-output.ensures.1 in
    rp_switch_gives type_of c.from_residual-in_err-output.result c.args.self.now.path.items c.args.self.now.scope (type_of c.args.input.now)
    (type_of c.in_ok-sample.sample.now) (type_of c.in_ok-sample.event.now) (type_of c.in_ok-carried.carried.now) c.args.fs.now c.as_slice-members.result.now
    c.in_ok-count.count (expression_of c.args.m.now) (map_network expression_of c.args.t.now) c.as_slice-members.ensures c.in_ok-count.ensures.counted
    c.in_ok-count.ensures.answer c.in_ok-sample.ensures
    c.in_ok-carried.ensures
    (rw (p.1, p.2)
    (λ h. collection_fails c.args.self.now.path.items c.in_ok-count.count c.args.self.now.scope (type_of c.in_ok-sample.sample.now) (type_of c.in_ok-carried.carried.now)
    (map_networks expression_of (members_of c.as_slice-members.result.now)) (expression_of c.args.m.now) (map_network expression_of c.args.t.now)
    c.in_err-output.field-0.0 (c.in_err-output.ensures.answer h)))

pub rp_switch-returns-in-Ok-clause-answer : goal.rp_switch-returns-in-Ok-clause-answer
rp_switch-returns-in-Ok-clause-answer t c =
    let n = c.in_ok-count.count in
    rp_switch_gives type_of c.started-list.result c.args.self.now.path.items c.args.self.now.scope (type_of c.args.input.now) (type_of c.in_ok-sample.sample.now)
    (type_of c.in_ok-sample.event.now) (type_of c.in_ok-carried.carried.now) c.args.fs.now c.as_slice-members.result.now n (expression_of c.args.m.now)
    (map_network expression_of c.args.t.now) c.as_slice-members.ensures c.in_ok-count.ensures.counted
    c.in_ok-count.ensures.answer c.in_ok-sample.ensures
    c.in_ok-carried.ensures
    (collection_gives type_of c.started-list.result c.args.self.now.path.items c.members_type.new.self.path.items n (n + 1) c.args.self.now.scope c.in-Ok.inner
    (type_of c.in_ok-sample.sample.now) (type_of c.in_ok-carried.carried.now) (type_of c.in_ok-output.output)
    (map_networks expression_of (members_of c.as_slice-members.result.now)) (expression_of c.args.m.now) (map_network expression_of c.args.t.now)
    (add-one n) c.in_ok-output.ensures.kept.0 c.in_ok-output.ensures.answer (rw c.in_ok-output.ensures.kept.1 at c.in-Ok.ensures) c.started-list.ensures.answer)

pub rp_switch-returns-in-Err-clause-answer : goal.rp_switch-returns-in-Err-clause-answer
rp_switch-returns-in-Err-clause-answer t c =
    rp_switch_gives type_of (Err c.in-Err.fault) c.args.self.now.path.items c.args.self.now.scope (type_of c.args.input.now) (type_of c.in_ok-sample.sample.now)
    (type_of c.in_ok-sample.event.now) (type_of c.in_ok-carried.carried.now) c.args.fs.now c.as_slice-members.result.now c.in_ok-count.count
    (expression_of c.args.m.now) (map_network expression_of c.args.t.now) c.as_slice-members.ensures c.in_ok-count.ensures.counted
    c.in_ok-count.ensures.answer c.in_ok-sample.ensures
    c.in_ok-carried.ensures
    (λ h. collection_stops c.args.self.now.path.items c.members_type.new.self.path.items c.in_ok-count.count c.args.self.now.scope (type_of c.in_ok-sample.sample.now)
    (type_of c.in_ok-carried.carried.now) (type_of c.in_ok-output.output) (map_networks expression_of (members_of c.as_slice-members.result.now))
    (expression_of c.args.m.now) (map_network expression_of c.args.t.now) c.in-Err.fault c.in_ok-output.ensures.kept.0 c.in_ok-output.ensures.answer
    (rw c.in_ok-output.ensures.kept.1 at (c.in-Err.ensures h)))
