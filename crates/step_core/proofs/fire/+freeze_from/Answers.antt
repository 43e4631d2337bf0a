use Rattle.std.proofs.Common.{rules, arith, ap, ◌∙◌, length}
use Rattle.net_tree.specs.Network.{map_networks}
use Rattle.net_tree.specs.NetworkView.{members_of}
use Rattle.state_core.specs.RowsView.{rows_in, row_number}
use Rattle.state_core.specs.StateView.{scope_of}
use Rattle.step_core.specs.Flow.{past_behind, past_in, placed}
use Rattle.step_core.proofs.Flows.{no_items}
use Rattle.step_core.proofs.FrozenMembers.{none_left, one_frozen}
use Rattle.step_core.proofs.RunJoins.{if_ok}
use Rattle.step_core.proofs.fire.+freeze_from.Goals as goal

pub freeze_from-requires : goal.freeze_from-requires
freeze_from-requires g t c κs within = (omega (arith, c.decreases, ap length c.in-Some.ensures.cases.0), search rules)

pub returns-in_ok-push-in-Some : goal.returns-in_ok-push-in-Some
returns-in_ok-push-in-Some g t c =
    let s = scope_of c.args.on.now.env.now in
    let p = past_in c.args.on.now.before c.args.on.now.dt in
    if_ok c.freeze_from.result _ _ (λ n h. one_frozen _ (rows_in c.in-Some.f.now) (map_networks row_number (members_of c.in-Some.rest.now)) s p
    c.args.frozen.now.items c.push.new.self.items c.freeze_from.new.frozen.items c.in_ok-one-in-Some.one
    (ap (λ fs. map_networks row_number (members_of fs)) c.in-Some.ensures.cases.0) (c.in_ok-one-in-Some.ensures ∙ ap (λ n. placed (rows_in c.in-Some.f.now) s (past_behind (0, n) p)) (c.len.ensures ∙ c.args.frozen.now.ok.0))
    c.in_ok-push-in-Some.ensures.items h)
    c.freeze_from.ensures

pub returns-in-None : goal.returns-in-None
returns-in-None g t c = none_left _ _ _ _ (ap (λ fs. map_networks row_number (members_of fs)) (no_items _ c.in-None.ensures.cases))
