use Rattle.std.proofs.Common.{rules, ◌≡◌, ◌++◌, ◌∷◌, [], Some, None, map, length, ap, ◌∙◌, sym, refl, subst, arith, inl, inr, length-set}
use Rattle.std.specs.Prelude.{slice_set}
use Rattle.sample_core.specs.Datum.{right, unit}
use Rattle.sample_core.specs.ValueView.{datum_of}
use Rattle.net_tree.specs.Network.{map_network, map_networks, seq, initial_out, initial_in}
use Rattle.net_tree.specs.NetworkView.{members_of}
use Rattle.cell_core.specs.Cell.{previous}
use Rattle.state_core.specs.RowsView.{rows_in, row_number}
use Rattle.state_core.specs.State.{paused, push_param, push_old, push_olds}
use Rattle.state_core.specs.StateView.{frozen_of, kept_of, running_of, scope_of, state_of}
use Rattle.state_core.specs.Tree.{width_of}
use Rattle.step_core.specs.Called.{Called}
use Rattle.step_core.specs.EventView.{restart_found}
use Rattle.step_core.specs.Flow as F
use Rattle.step_core.specs.Rank.{frozen_rank}
use Rattle.step_core.specs.Flow.{all_placed, members_before, past_behind, past_in, placed, standing, Runs}
use Rattle.step_core.specs.Runs.{RunsWhere}
use Rattle.step_core.specs.Switching.{IsChosen}
use Rattle.step_core.proofs.Flows.{is_switch, is_k_switch, is_p_switch, is_rp_switch, is_old, placed_by, arr_flows, cell_as, seq_flows, first_flows, loop_flows, par_flows, none_flow, chain_goes, each_begins, each_goes, no_items, placed_flows, restart_goes, restart_cuts, late_cuts, initial_out_starts, initial_in_starts}
use Rattle.step_core.proofs.CollectionRuns.{members_fall, turned_event, turned_none, collection_runs, members_begin, member_goes, members_end, initial_out_begins, initial_in_begins}
use Rattle.step_core.proofs.Levels.{level_most}
use Rattle.step_core.proofs.ListedMembers.{before_listed, first_before}
use Rattle.step_core.proofs.MembersFall.{load, one_falls}
use Rattle.step_core.proofs.PassedNetworks.{passed_falls, passed_flows}
use Rattle.step_core.proofs.Plain.{plain, flows_run}
use Rattle.step_core.proofs.RunJoins.{if_ok, both_ok, fires_by, ran_as, runs_as}
use Rattle.step_core.proofs.StateLists.{one_answered}
use Rattle.step_core.proofs.Switches.{same_rank, late_start_falls, rest_falls, par_members_fall, one_cell_wider, flows_width, runs_width, others_fall, others_placed_fall, loop_part_falls, k_over_falls, p_over_falls, p_members_fall, p_watch_falls, resumed_falls, switch_stays, switch_ends, k_switch_stays, k_switch_ends, none_run, each_run_begins, each_run_goes, p_switch_stays, p_switch_ends, old_resumes}
use Rattle.step_core.proofs.+run.Goals as goal

pub flow::flow-returns-in-Arr : goal.flow::flow-returns-in-Arr
flow::flow-returns-in-Arr g t c =
    both_ok c.call_into.result _ _ _ (λ n called one. arr_flows _ _ c.in-Arr.e.0 _ _ _ _ _ n (ap rows_in c.in-Arr.is) one called)
    c.call_into.ensures.called c.call_into.ensures.one

pub flow::flow-returns-in-Switch : goal.flow::flow-returns-in-Switch
flow::flow-returns-in-Switch g t c = if_ok c.run_place.result _ _ (λ n h. placed_flows _ _ _ _ _ _ _ _ n (elim c.in-Switch.is [
  | inl e ↦ placed_by _ _ (ap rows_in e.2) is_switch
  | inr others ↦ elim others [
    | inl e ↦ placed_by _ _ (ap rows_in e.2) is_switch
    | inr others ↦ elim others [
      | inl e ↦ placed_by _ _ (ap rows_in e.3) is_k_switch
      | inr others ↦ elim others [
        | inl e ↦ placed_by _ _ (ap rows_in e.4) is_p_switch
        | inr others ↦ elim others [
          | inl e ↦ placed_by _ _ (ap rows_in e.3) is_rp_switch
          | inr e ↦ placed_by _ _ (ap rows_in e.1) is_old
        ]
      ]
    ]
  ]
]) h) c.run_place.ensures

pub flow::flow-flow_cell-requires : goal.flow::flow-flow_cell-requires
flow::flow-flow_cell-requires g t c = elim c.in-IPre.is [
  | inl e ↦ cell_as _ _ _ _ (ap rows_in e.1) F.is_i_pre
  | inr others ↦ elim others [
    | inl e ↦ cell_as _ _ _ _ (ap rows_in e.2) F.is_delay
    | inr others ↦ elim others [
      | inl e ↦ cell_as _ _ _ _ (ap rows_in e.1) F.is_hold
      | inr others ↦ elim others [
        | inl e ↦ cell_as _ _ _ _ (ap rows_in e.2) F.is_after
        | inr others ↦ elim others [
          | inl e ↦ cell_as _ _ _ _ (ap rows_in e.2) F.is_repeatedly
          | inr others ↦ elim others [
            | inl e ↦ cell_as _ _ _ _ (ap rows_in e) F.is_time
            | inr e ↦ cell_as _ _ _ _ (ap rows_in e) F.is_integral
          ]
        ]
      ]
    ]
  ]
]

pub flow::flow_first-returns-in_ok-done-in-Ok : goal.flow::flow_first-returns-in_ok-done-in-Ok
flow::flow_first-returns-in_ok-done-in-Ok g t c =
    first_flows _ _ _ _ _ _ _ _ _ _ _ _ _ c.left.ensures c.right.ensures c.in_ok-done-in-Ok.ensures c.in-Ok.ensures c.node.ensures

pub flow::flow_loop-flow-done-requires : goal.flow::flow_loop-flow-done-requires
flow::flow_loop-flow-done-requires g t c κs within =
    let fed = c.in_ok-input.ensures in (
      omega (
        arith,
        c.decreases,
        level_most (rows_in c.args.f.now),
        loop_part_falls (row_number c.args.c) (rows_in c.args.f.now) (scope_of c.args.on.now.env.now) (past_in c.args.on.now.before c.args.on.now.dt)
            (kept_of c.args.kept.now) _ (one_cell_wider _ _ _ _ fed.3),
      ),
      search rules,
    )

pub flow::flow_loop-returns-in_ok-keep_fed-in-Ok : goal.flow::flow_loop-returns-in_ok-keep_fed-in-Ok
flow::flow_loop-returns-in_ok-keep_fed-in-Ok g t c =
    loop_flows _ _ _ _ _ _ _ _ _ _ _ _ _ _ _ c.in_ok-input.ensures c.in-Ok.ensures c.in_ok-keep_fed-in-Ok.ensures.0
    (c.in_ok-keep_fed-in-Ok.ensures.1 ∙ ap (λ n. slice_set c.flow-done.new.kept.cells n (previous (right (datum_of c.flow-done.new.out)))) c.len-at.ensures)
    c.node.ensures

pub flow::flow_par-flow_each-requires : goal.flow::flow_par-flow_each-requires
flow::flow_par-flow_each-requires g t c κs within = (
  omega (
    arith,
    c.decreases,
    par_members_fall (map_networks row_number (members_of c.args.members.now)) (scope_of c.args.on.now.env.now)
        (past_behind (width_of (kept_of c.args.kept.now)) (past_in c.args.on.now.before c.args.on.now.dt)),
  ),
  search rules,
)

pub flow::flow_rest-chain-preserved : goal.flow::flow_rest-chain-preserved
flow::flow_rest-chain-preserved g t c =
    let form : rows_in c.chain.rest.now ≡ seq (rows_in c.get.result.now) (rows_in c.get-rest.result.now) = ap rows_in c.in-Seq.is ∙ (λ i. seq
    (map_network row_number (sym c.get.ensures i)) (map_network row_number (sym c.get-rest.ensures i))) in
    let falls = rest_falls (g.R.Rows.keys c.args.on.now.rows.now) (rows_in c.chain.rest.now) (rows_in c.get.result.now) (rows_in c.get-rest.result.now)
    (scope_of c.args.on.now.env.now) (past_in c.args.on.now.before c.args.on.now.dt) (datum_of c.chain.between) (datum_of c.flow.new.out) (kept_of c.chain.kept)
    (kept_of c.flow.new.kept) c.in-Ok.one form c.in-Ok.ensures in (
      omega (arith, falls.1, c.chain.invariant.0),
      chain_goes _ _ _ _ _ _ _ _ _ _ _ _ _ _ _ _ _ form (ap datum_of c.swap.ensures.x_after) c.chain.invariant.1 c.in-Ok.ensures c.node-visits.ensures,
    )

pub flow::flow_seq-returns-in_ok-others-in-Ok : goal.flow::flow_seq-returns-in_ok-others-in-Ok
flow::flow_seq-returns-in_ok-others-in-Ok g t c = seq_flows _ _ _ _ _ _ _ _ _ _ _ _ _ _ c.in-Ok.ensures c.in_ok-others-in-Ok.ensures c.node.ensures

pub flow::flow_each-returns : goal.flow::flow_each-returns
flow::flow_each-returns g t c =
    c.members.invariant.2 (kept_of c.members.kept) _ 0 c.members.visits
    (none_flow _ _ _ _ _ _ _ _ (ap (λ fs. map_networks row_number (members_of fs)) (no_items _ c.in_default.ensures.cases))
    (ap (map datum_of) c.truncate.ensures.items)) (λ _. omega arith)

pub flow::flow_each-members-init : goal.flow::flow_each-members-init
flow::flow_each-members-init g t c = (omega arith, omega arith, each_begins _ _ _ _ _ _ _ refl)

pub flow::flow_each-members-preserved : goal.flow::flow_each-members-preserved
flow::flow_each-members-preserved g t c =
    let form = ap (λ fs. map_networks row_number (members_of fs)) c.in-Some.ensures.cases.0 in
    let room = c.in_ok-make_place.ensures in
    let answered = one_answered c.members.answers.items c.make_place.new.places.items c.members.before c.flow.new.out room.0 room.1 in (
      omega (
        arith,
        c.members.invariant.0,
        others_fall (map_networks row_number (members_of c.members.rest.now)) (rows_in c.in-Some.f.now) (map_networks row_number (members_of c.in-Some.others.now)) (scope_of c.args.on.now.env.now) (past_in c.args.on.now.before c.args.on.now.dt)
            (kept_of c.members.kept) (kept_of c.flow.new.kept) form (flows_width _ _ _ _ _ _ _ _ _ c.in_ok-one.ensures),
      ),
      omega (arith, room.0, length-set c.make_place.new.places.items c.members.before c.flow.new.out),
      each_goes _ _ _ _ _ _ _ _ _ _ _ _ _ _ _ _ _ form c.members.invariant.2 c.in_ok-one.ensures answered c.both-visits.ensures,
    )

pub flow::flow_par-returns-in_ok-put_list-in-Ok : goal.flow::flow_par-returns-in_ok-put_list-in-Ok
flow::flow_par-returns-in_ok-put_list-in-Ok g t c = par_flows _ _ _ _ _ _ _ _ _ _ _ _ c.in-Ok.ensures refl c.in_ok-put_list-in-Ok.ensures c.node.ensures

pub flow::flow_restart-returns-in_ok-one-in-Some : goal.flow::flow_restart-returns-in_ok-one-in-Some
flow::flow_restart-returns-in_ok-one-in-Some g t c =
    restart_cuts _ _ _ _ _ _ _ _ _ _ _ _ _ _ _ (sym c.restart_of.ensures ∙ ap restart_found c.in-Some.is) (c.started.ensures.scope ∙ c.in_ok-env-in-Some.ensures)
    c.started.ensures.past (subst (λ r. Runs (g.R.Rows.keys r) (placed (rows_in c.args.t.now) (scope_of c.started.result.env.now)
    (past_behind (0, length (kept_of c.args.kept.now).1) (past_in c.started.result.before c.started.result.dt))) (datum_of c.in-Some.sample.now)
    (kept_of c.args.kept.now) (kept_of c.run_place-one.new.kept) (datum_of c.run_place-one.new.out) c.in_ok-one-in-Some.field-0) c.started.ensures.rows
    c.in_ok-one-in-Some.ensures) c.node.ensures

pub flow::flow_restart-returns-in_ok-run_place-in-None : goal.flow::flow_restart-returns-in_ok-run_place-in-None
flow::flow_restart-returns-in_ok-run_place-in-None g t c =
    restart_goes _ _ _ _ _ _ _ _ _ _ _ _ _ c.left.ensures (sym c.restart_of.ensures ∙ ap restart_found c.in-None.is) c.in_ok-run_place-in-None.ensures
    c.node-in-None.ensures

pub run::run_place-run_at_next-requires : goal.run::run_place-run_at_next-requires
run::run_place-run_at_next-requires g t c κs within =
    let at = ap (λ i. frozen_rank (placed (rows_in c.args.net.now) (scope_of c.args.on.now.env.now) (past_behind (0, i) (past_in c.args.on.now.before c.args.on.now.dt)))) c.len.ensures in
    (omega (arith, c.decreases, at, same_rank _ _ c.in_ok-going.ensures.stands), search rules)

pub run::run_place-returns : goal.run::run_place-returns
run::run_place-returns g t c =
    let at = ap (λ i. placed (rows_in c.args.net.now) (scope_of c.args.on.now.env.now) (past_behind (0, i) (past_in c.args.on.now.before c.args.on.now.dt))) c.len.ensures in
    if_ok c.run_at_next.result _ _ (λ n h. runs_as _ _ _ _ _ _ _ _ n (ap g.R.Rows.keys c.in_ok-going.ensures.rows) (c.in_ok-going.ensures.stands ∙ at) h) c.run_at_next.ensures

pub run::go_on-run_over-requires : goal.run::go_on-run_over-requires
run::go_on-run_over-requires g t c κs within = (omega (arith, c.decreases, same_rank _ _ c.in_ok-going.ensures.stands), search rules)

pub run::go_on-returns : goal.run::go_on-returns
run::go_on-returns g t c =
    if_ok c.run_over.result _ _ (λ n h. ran_as _ _ _ _ _ _ _ n (ap g.R.Rows.keys c.in_ok-going.ensures.rows) c.in_ok-going.ensures.stands h) c.run_over.ensures

pub run::run_in-returns-in_ok-visits-in_default-net : goal.run::run_in-returns-in_ok-visits-in_default-net
run::run_in-returns-in_ok-visits-in_default-net g t c =
    let begins = c.in_ok-renew-in_default.ensures in
    flows_run _ _ _ _ _ _ _ _ _ _ _ _ (plain c.args.net.now c.in_default.not-Old c.in_default-net.not-Switch c.in_default-net.not-DSwitch
    c.in_default-net.not-KSwitch c.in_default-net.not-PSwitch c.in_default-net.not-RpSwitch (scope_of c.args.on.now.env.now)) (ap rows_in begins.0, begins.1, begins.2) c.end.ensures
    c.in_ok-visits-in_default-net.ensures

pub run::run_switch-returns-in_ok-done-in-Ok-None : goal.run::run_switch-returns-in_ok-done-in-Ok-None
run::run_switch-returns-in_ok-done-in-Ok-None g t c =
    let fires = fires_by _ _ (push_param (scope_of c.args.on.now.env.now)) _ _ c.right.ensures c.in-Ok-None.field-0-is c.in-Ok-None.ensures in
    switch_stays _ _ _ _ _ _ _ _ _ _ _ _ _ _ _ _ _ c.requires c.end.ensures c.in-Ok.ensures fires c.left.ensures c.in_ok-done-in-Ok-None.ensures c.node-in-Ok-None.ensures

pub run::run_switch-returns-in_ok-two-in-Ok-Some : goal.run::run_switch-returns-in_ok-two-in-Ok-Some
run::run_switch-returns-in_ok-two-in-Ok-Some g t c =
    let fires = fires_by _ _ (push_param (scope_of c.args.on.now.env.now)) _ _ c.right.ensures c.in-Ok-Some.field-0-is c.in-Ok-Some.ensures in
    switch_ends _ _ _ _ _ _ _ _ _ _ _ _ _ _ _ _ _ _ _ _ c.requires.2 c.in-Ok.ensures fires.1 fires.2 c.started.ensures.scope c.started.ensures.past
    (subst (λ r. RunsWhere (g.R.Rows.keys r) (standing (rows_in c.args.over.net.now) (scope_of c.started.result.env.now)
    (past_in c.started.result.before c.started.result.dt)) (datum_of c.args.x.now) (running_of c.run_in-two.new.running) (datum_of c.run_in-two.new.out) c.in_ok-two-in-Ok-Some.field-0)
    c.started.ensures.rows c.in_ok-two-in-Ok-Some.ensures) c.in_ok-done-in-Ok-Some.ensures c.node.ensures

pub run::run_k_switch-run_in-three-requires : goal.run::run_k_switch-run_in-three-requires
run::run_k_switch-run_in-three-requires g t c κs within =
    let s = scope_of c.args.on.now.env.now in
    let p = past_in c.args.on.now.before c.args.on.now.dt in
    let fires = fires_by _ _ (λ u. push_old (push_param s u) (placed (rows_in c.args.f.now) s p)) _ _ refl c.in-Some.is c.in_ok-env.ensures in (
      omega (
        arith,
        c.decreases,
        k_over_falls (rows_in c.args.f.now) (rows_in c.args.rest.watch.now) (rows_in c.args.rest.over.now) s _ _ p _ fires.0 fires.2
            c.started.ensures.scope c.started.ensures.past,
      ),
      search rules,
    )

pub run::run_k_switch-returns-in_ok-three-in-Some : goal.run::run_k_switch-returns-in_ok-three-in-Some
run::run_k_switch-returns-in_ok-three-in-Some g t c =
    let s = scope_of c.args.on.now.env.now in
    let p = past_in c.args.on.now.before c.args.on.now.dt in
    let fires = fires_by _ _ (λ u. push_old (push_param s u) (placed (rows_in c.args.f.now) s p)) _ _ refl c.in-Some.is c.in_ok-env.ensures in
    k_switch_ends _ _ _ _ _ _ _ _ _ _ _ _ _ _ _ _ _ _ _ _ _ _ _ c.requires.2 c.in_ok-one.ensures c.in_ok-two.ensures fires.1 fires.2 c.started.ensures.scope
    c.started.ensures.past (subst (λ r. RunsWhere (g.R.Rows.keys r) (standing (rows_in c.args.rest.over.now) (scope_of c.started.result.env.now)
    (past_in c.started.result.before c.started.result.dt)) (datum_of c.args.x.now) (running_of c.run_in-three.new.running) (datum_of c.run_in-three.new.out) c.in_ok-three-in-Some.field-0)
    c.started.ensures.rows c.in_ok-three-in-Some.ensures) c.node.ensures c.both.ensures

pub run::run_k_switch-returns-in-None : goal.run::run_k_switch-returns-in-None
run::run_k_switch-returns-in-None g t c =
    let s = scope_of c.args.on.now.env.now in
    let p = past_in c.args.on.now.before c.args.on.now.dt in
    let fires = fires_by _ _ (λ u. push_old (push_param s u) (placed (rows_in c.args.f.now) s p)) _ _ refl c.in-None.is c.in_ok-env.ensures in
    k_switch_stays _ _ _ _ _ _ _ _ _ _ _ _ _ _ _ _ _ _ c.requires c.end.ensures c.in_ok-one.ensures c.in_ok-two.ensures fires c.node-in-None.ensures

pub run::run_p_switch-run_members-requires : goal.run::run_p_switch-run_members-requires
run::run_p_switch-run_members-requires g t c κs within = (
  omega (
    arith,
    c.decreases,
    p_members_fall (row_number c.args.members.router) (map_networks row_number (members_of c.args.members.nets.now))
        (rows_in c.args.rest.watch.now) (rows_in c.args.rest.over.now) (scope_of c.args.on.now.env.now) (past_in c.args.on.now.before c.args.on.now.dt) _ c.requires.2,
  ),
  search rules,
)

pub run::run_p_switch-run_watch-requires : goal.run::run_p_switch-run_watch-requires
run::run_p_switch-run_watch-requires g t c κs within = (
  omega (arith, c.decreases, p_watch_falls _ _ _ (rows_in c.args.rest.watch.now) (rows_in c.args.rest.over.now) _ _ _ _ _ _ _ c.requires.2 c.in_ok-one.ensures),
  search rules,
)

pub run::run_p_switch-run_in-three-requires : goal.run::run_p_switch-run_in-three-requires
run::run_p_switch-run_in-three-requires g t c κs within =
    let s = scope_of c.args.on.now.env.now in
    let p = past_in c.args.on.now.before c.args.on.now.dt in
    let fs = map_networks row_number (members_of c.args.members.nets.now) in
    let fires = fires_by _ _ (λ u. push_olds (push_param s u) (all_placed fs s p)) _ _ refl c.in-Some.is c.in_ok-env.ensures in (
      omega (
        arith,
        c.decreases,
        p_over_falls (row_number c.args.members.router) fs (rows_in c.args.rest.watch.now) (rows_in c.args.rest.over.now) s _ _ p _ fires.0
            fires.2 c.started.ensures.scope c.started.ensures.past,
      ),
      search rules,
    )

pub run::run_p_switch-returns-in_ok-three-in-Some : goal.run::run_p_switch-returns-in_ok-three-in-Some
run::run_p_switch-returns-in_ok-three-in-Some g t c =
    let s = scope_of c.args.on.now.env.now in
    let p = past_in c.args.on.now.before c.args.on.now.dt in
    let fs = map_networks row_number (members_of c.args.members.nets.now) in
    let fires = fires_by _ _ (λ u. push_olds (push_param s u) (all_placed fs s p)) _ _ refl c.in-Some.is c.in_ok-env.ensures in
    p_switch_ends _ _ _ _ _ _ _ _ _ _ _ _ _ _ _ _ _ _ _ _ _ _ _ _ c.requires.2 c.in_ok-one.ensures c.in_ok-two.ensures fires.1 fires.2 c.started.ensures.scope
    c.started.ensures.past (subst (λ r. RunsWhere (g.R.Rows.keys r) (standing (rows_in c.args.rest.over.now) (scope_of c.started.result.env.now)
    (past_in c.started.result.before c.started.result.dt)) (datum_of c.args.x.now) (running_of c.run_in-three.new.running) (datum_of c.run_in-three.new.out) c.in_ok-three-in-Some.field-0)
    c.started.ensures.rows c.in_ok-three-in-Some.ensures) c.node.ensures c.both.ensures

pub run::run_p_switch-returns-in-None : goal.run::run_p_switch-returns-in-None
run::run_p_switch-returns-in-None g t c =
    let s = scope_of c.args.on.now.env.now in
    let p = past_in c.args.on.now.before c.args.on.now.dt in
    let fs = map_networks row_number (members_of c.args.members.nets.now) in
    let fires = fires_by _ _ (λ u. push_olds (push_param s u) (all_placed fs s p)) _ _ refl c.in-None.is c.in_ok-env.ensures in
    p_switch_stays _ _ _ _ _ _ _ _ _ _ _ _ _ _ _ _ _ _ _ c.requires c.end.ensures c.in_ok-one.ensures c.in_ok-two.ensures fires c.node-in-None.ensures

pub run::run_each-returns : goal.run::run_each-returns
run::run_each-returns g t c =
    c.members.invariant.2 (kept_of c.members.kept) _ 0 c.members.visits
    (none_run _ _ _ _ _ _ _ _ _ _ (ap (λ fs. map_networks row_number (members_of fs)) (no_items _ c.in_default.ensures.cases))
    (ap (map datum_of) c.truncate.ensures.items)) (λ _. omega arith)

pub run::run_each-members-init : goal.run::run_each-members-init
run::run_each-members-init g t c = (omega arith, omega arith, each_run_begins _ _ _ _ _ _ _ _ refl)

pub run::run_each-members-preserved : goal.run::run_each-members-preserved
run::run_each-members-preserved g t c =
    let form = ap (λ fs. map_networks row_number (members_of fs)) c.in-Some.ensures.cases.0 in
    let room = c.in_ok-make_place.ensures in
    let answered = one_answered c.members.answers.items c.make_place.new.places.items c.members.before c.run_place-one.new.out room.0 room.1 in (
      omega (
        arith,
        c.members.invariant.0,
        others_placed_fall (map_networks row_number (members_of c.members.rest.now)) (rows_in c.in-Some.f.now) (map_networks row_number (members_of c.in-Some.others.now)) (scope_of c.args.on.now.env.now) (past_in c.args.on.now.before c.args.on.now.dt)
            (kept_of c.members.kept) (kept_of c.run_place-one.new.kept) form (runs_width _ _ _ _ _ _ _ c.in_ok-one.ensures),
      ),
      omega (arith, room.0, length-set c.make_place.new.places.items c.members.before c.run_place-one.new.out),
      each_run_goes _ _ _ _ _ _ _ _ _ _ _ _ _ _ _ _ _ _ _ _ form c.members.invariant.2 c.in_ok-input.ensures c.in_ok-one.ensures answered c.both-visits.ensures,
    )

pub run::run_old-run_in-requires : goal.run::run_old-run_in-requires
run::run_old-run_in-requires g t c κs within = (
  omega (
    arith,
    c.decreases,
    same_rank _ _ c.in_ok-going-in-Some-get.ensures.stands,
    resumed_falls c.args.k (scope_of c.args.on.now.env.now) (past_in c.args.on.now.before c.args.on.now.dt) _
        (ap (λ b. past_in b c.args.on.now.dt) c.in-None.is) c.in-Some-get.ensures,
  ),
  search rules,
)

pub run::run_old-returns-in_ok-run_in-in-Some-get : goal.run::run_old-returns-in_ok-run_in-in-Some-get
run::run_old-returns-in_ok-run_in-in-Some-get g t c =
    old_resumes _ _ _ _ _ _ _ _ _ _ (ap (λ b. past_in b c.args.on.now.dt) c.in-None.is) c.in-Some-get.ensures
    (ran_as _ _ _ _ _ _ _ _ (ap g.R.Rows.keys c.in_ok-going-in-Some-get.ensures.rows) c.in_ok-going-in-Some-get.ensures.stands c.in_ok-run_in-in-Some-get.ensures) c.node.ensures

pub flow::flow_initial_out-flow-requires : goal.flow::flow_initial_out-flow-requires
flow::flow_initial_out-flow-requires g t c κs within =
    let same = passed_falls (initial_out (row_number c.args.c) (rows_in c.args.f.now)) (rows_in c.passed.result.now) (scope_of c.args.on.now.env.now)
    (width_of (kept_of c.args.kept.now)) (past_in c.args.on.now.before c.args.on.now.dt) _ _ c.passed.ensures (ap (λ b. past_in b c.args.on.now.dt) c.in-Some.is) in
    (omega (arith, c.decreases, same.0, same.1), search rules)

pub flow::flow_initial_out-returns-in-Some : goal.flow::flow_initial_out-returns-in-Some
flow::flow_initial_out-returns-in-Some g t c =
    if_ok c.flow.result _ _ (λ n h. passed_flows _ (initial_out (row_number c.args.c) (rows_in c.args.f.now)) _ _ _ _ _ _ _ _ _ n c.passed.ensures
    (ap (λ b. past_in b c.args.on.now.dt) c.in-Some.is) h) c.flow.ensures

pub flow::flow_initial_out-returns-in_ok-call_into-in-None : goal.flow::flow_initial_out-returns-in_ok-call_into-in-None
flow::flow_initial_out-returns-in_ok-call_into-in-None g t c =
    initial_out_starts _ _ _ _ _ _ _ _ _ _ _ _ (ap (λ b. past_in b c.args.on.now.dt) c.in-None.is) c.in_ok-visits-in-None.ensures
    c.in_ok-call_into-in-None.ensures.called c.node.ensures

pub flow::flow_initial_in-flow-requires : goal.flow::flow_initial_in-flow-requires
flow::flow_initial_in-flow-requires g t c κs within =
    let same = passed_falls (initial_in (row_number c.args.c) (rows_in c.args.f.now)) (rows_in c.passed.result.now) (scope_of c.args.on.now.env.now)
    (width_of (kept_of c.args.kept.now)) (past_in c.args.on.now.before c.args.on.now.dt) _ _ c.passed.ensures (ap (λ b. past_in b c.args.on.now.dt) c.in-Some.is) in
    (omega (arith, c.decreases, same.0, same.1), search rules)

pub flow::flow_initial_in-returns-in-Some : goal.flow::flow_initial_in-returns-in-Some
flow::flow_initial_in-returns-in-Some g t c =
    if_ok c.flow.result _ _ (λ n h. passed_flows _ (initial_in (row_number c.args.c) (rows_in c.args.f.now)) _ _ _ _ _ _ _ _ _ n c.passed.ensures
    (ap (λ b. past_in b c.args.on.now.dt) c.in-Some.is) h) c.flow.ensures

pub flow::flow_initial_in-returns-in_ok-visits-in-None : goal.flow::flow_initial_in-returns-in_ok-visits-in-None
flow::flow_initial_in-returns-in_ok-visits-in-None g t c =
    initial_in_starts _ _ _ _ _ _ _ _ _ _ _ _ (ap (λ b. past_in b c.args.on.now.dt) c.in-None.is) c.in_ok-visits-in-None.ensures
    (subst (λ ps. Called (g.R.Rows.keys c.args.on.now.rows.now) (row_number c.args.c) ps unit (datum_of c.in_ok-input-in-None.input)) c.params.ensures
    c.in_ok-input-in-None.ensures) c.node.ensures

pub flow::flow_late_restart-start_under-two-requires : goal.flow::flow_late_restart-start_under-two-requires
flow::flow_late_restart-start_under-two-requires g t c κs within = (
  omega (
    arith,
    c.decreases,
    late_start_falls (rows_in c.args.f.now) (rows_in c.args.t.now) (scope_of c.args.on.now.env.now)
        (past_behind (width_of (kept_of c.args.kept.now)) (past_in c.args.on.now.before c.args.on.now.dt)) (datum_of c.in-Some.value.now),
  ),
  search rules,
)

pub flow::flow_late_restart-returns-in_ok-run_place-in-None : goal.flow::flow_late_restart-returns-in_ok-run_place-in-None
flow::flow_late_restart-returns-in_ok-run_place-in-None g t c =
    restart_goes _ _ _ _ _ _ _ _ _ _ _ _ _ c.left.ensures (sym c.restart_of.ensures ∙ ap restart_found c.in-None.is) c.in_ok-run_place-in-None.ensures
    c.node-in-None.ensures

pub flow::flow_late_restart-returns-in_ok-push-in-Ok-two : goal.flow::flow_late_restart-returns-in_ok-push-in-Ok-two
flow::flow_late_restart-returns-in_ok-push-in-Ok-two g t c =
    late_cuts _ _ _ _ _ _ _ _ _ _ _ _ _ _ _ _ _ _ _ (sym c.restart_of.ensures ∙ ap restart_found c.in-Some.is) c.len-at.ensures c.in-Ok.ensures
    c.in-Ok-two.ensures refl (c.in_ok-push-in-Ok-two.ensures ∙ ap (λ as'. as' ++ state_of c.start_under-two.new.place ∷ []) c.spare-place.ensures) c.node.ensures

pub run::run_initial_out-returns-in_ok-call_into-in-None : goal.run::run_initial_out-returns-in_ok-call_into-in-None
run::run_initial_out-returns-in_ok-call_into-in-None g t c =
    initial_out_begins _ _ _ _ _ _ _ _ _ _ _ (ap (λ b. past_in b c.args.on.now.dt) c.in-None.is) c.in_ok-visits-in-None.ensures
    c.in_ok-call_into-in-None.ensures.called c.node.ensures

pub run::run_initial_in-returns-in_ok-visits-in-None : goal.run::run_initial_in-returns-in_ok-visits-in-None
run::run_initial_in-returns-in_ok-visits-in-None g t c =
    initial_in_begins _ _ _ _ _ _ _ _ _ _ _ (ap (λ b. past_in b c.args.on.now.dt) c.in-None.is) c.in_ok-visits-in-None.ensures
    (subst (λ ps. Called (g.R.Rows.keys c.args.on.now.rows.now) (row_number c.args.c) ps unit (datum_of c.in_ok-input-in-None.input)) c.params.ensures
    c.in_ok-input-in-None.ensures) c.node.ensures

pub collection::run_collection-returns-in_ok-put_list-in-Ok : goal.collection::run_collection-returns-in_ok-put_list-in-Ok
collection::run_collection-returns-in_ok-put_list-in-Ok g t c =
    collection_runs _ _ _ _ _ _ _ _ _ _ _ _ _ _ _ _ c.requires c.end.ensures c.in-Ok.ensures c.in_ok-put_list-in-Ok.ensures c.node.ensures

pub collection::run_turned-resume_each-visits-requires : goal.collection::run_turned-resume_each-visits-requires
collection::run_turned-resume_each-visits-requires g t c κs within =
    let same = ap (λ fs. load (map frozen_of fs)) c.as_slice.ensures.value in (
      omega (
        arith,
        c.decreases,
        same,
        members_fall (g.R.Rows.keys c.args.on.now.rows.now) (map_networks row_number (members_of c.args.members.now)) (row_number c.args.choice.chooser)
            (rows_in c.args.choice.starts.now) (scope_of c.args.on.now.env.now) (past_in c.args.on.now.before c.args.on.now.dt)
            (Some (datum_of c.in-Some.sample.now, datum_of c.in-Some.value.now)) _ c.in_ok-all-in-Some.ensures,
      ),
      search rules,
    )

pub collection::run_turned-resume_each-visits-requires-in-None-before : goal.collection::run_turned-resume_each-visits-requires-in-None-before
collection::run_turned-resume_each-visits-requires-in-None-before g t c κs within =
    let fs = map_networks row_number (members_of c.args.members.now) in
    let s = scope_of c.args.on.now.env.now in
    let p = past_in c.args.on.now.before c.args.on.now.dt in
    let same = ap (λ ms. load (map frozen_of ms)) c.as_slice-in-None-before.ensures.value in (
      omega (
        arith,
        c.decreases,
        same,
        members_fall (g.R.Rows.keys c.args.on.now.rows.now) fs (row_number c.args.choice.chooser) (rows_in c.args.choice.starts.now) s p None _
            (c.in_ok-all-in-None-before.ensures ∙ first_before fs s p (ap (λ b. past_in b c.args.on.now.dt) c.in-None-before.is)),
      ),
      search rules,
    )

pub collection::run_turned-step_each-requires : goal.collection::run_turned-step_each-requires
collection::run_turned-step_each-requires g t c κs within =
    let fs = map_networks row_number (members_of c.args.members.now) in
    let s = scope_of c.args.on.now.env.now in
    let p = past_in c.args.on.now.before c.args.on.now.dt in (
      omega (
        arith,
        c.decreases,
        members_fall (g.R.Rows.keys c.args.on.now.rows.now) fs (row_number c.args.choice.chooser) (rows_in c.args.choice.starts.now) s p None _
            (before_listed fs s p _ c.args.on.now.dt _ (ap (λ b. past_in b c.args.on.now.dt) c.in-Some-before.is) c.as_slice-in-Some-before.ensures),
      ),
      search rules,
    )

pub collection::run_turned-returns-in_ok-all-in-Some : goal.collection::run_turned-returns-in_ok-all-in-Some
collection::run_turned-returns-in_ok-all-in-Some g t c =
    let s = scope_of c.args.on.now.env.now in
    let before = members_before (map_networks row_number (members_of c.args.members.now)) s (past_in c.args.on.now.before c.args.on.now.dt) in
    let chosen = subst (λ fs. IsChosen (g.R.Rows.keys c.args.on.now.rows.now) (row_number c.args.choice.chooser) (rows_in c.args.choice.starts.now) s before
    (datum_of c.in-Some.value.now) (map frozen_of fs)) (sym c.as_slice.ensures.value) c.in_ok-all-in-Some.ensures in
    if_ok c.resume_each-visits.result _ _ (λ n h. turned_event _ _ _ _ _ _ _ _ _ _ _ _ _ n (sym c.restart_of.ensures ∙ ap restart_found c.in-Some.is)
    chosen h) c.resume_each-visits.ensures

pub collection::run_turned-returns-in-Some-before : goal.collection::run_turned-returns-in-Some-before
collection::run_turned-returns-in-Some-before g t c =
    if_ok c.step_each.result _ _ (λ n h. turned_none _ _ _ _ _ _ _ _ _ _ _ _ n (sym c.restart_of.ensures ∙ ap restart_found c.in-None.is) c.left.ensures
    (before_listed _ _ _ _ c.args.on.now.dt _ (ap (λ b. past_in b c.args.on.now.dt) c.in-Some-before.is) c.as_slice-in-Some-before.ensures) h) c.step_each.ensures

pub collection::resume_each-run_at_next-requires : goal.collection::resume_each-run_at_next-requires
collection::resume_each-run_at_next-requires g t c κs within = (
  omega (arith, c.decreases, one_falls frozen_of c.args.members.now c.loop-member.member-index _ c.loop-member-test.true c.member-item.is, same_rank _ _ c.in_ok-going.ensures.stands),
  search rules,
)

pub collection::resume_each-loop-member-init : goal.collection::resume_each-loop-member-init
collection::resume_each-loop-member-init g t c = (refl, omega arith, members_begin _ _ _ _ _ refl)

pub collection::resume_each-loop-member-preserved : goal.collection::resume_each-loop-member-preserved
collection::resume_each-loop-member-preserved g t c =
    let room = c.in_ok-make_place.ensures in
    let answered = one_answered c.loop-member.answers.items c.make_place.new.places.items c.loop-member.before c.run_at_next.new.out room.0 room.1 in (
      omega (arith, c.loop-member.invariant.0),
      omega (arith, room.0, length-set c.make_place.new.places.items c.loop-member.before c.run_at_next.new.out),
      member_goes _ frozen_of c.args.members.now c.loop-member.member-index _ _ _ _ _ _ _ _ _ _ _ _ c.loop-member-test.true c.member-item.is refl
          c.loop-member.invariant.2
          (runs_as _ _ _ _ _ _ _ _ _ (ap g.R.Rows.keys c.in_ok-going.ensures.rows) c.in_ok-going.ensures.stands c.in_ok-one.ensures) answered c.both-visits.ensures,
    )

pub collection::resume_each-returns : goal.collection::resume_each-returns
collection::resume_each-returns g t c =
    members_end _ frozen_of c.args.members.now _ _ _ _ _ _ _ c.loop-member-test.false c.loop-member.invariant.2 (ap (map datum_of) c.truncate.ensures.items)

pub collection::step_each-run_at_next-requires : goal.collection::step_each-run_at_next-requires
collection::step_each-run_at_next-requires g t c κs within = (
  omega (
    arith,
    c.decreases,
    one_falls (λ a. paused (state_of a) c.args.on.now.dt) c.args.members.now c.loop-member.member-index _ c.loop-member-test.true c.member-item.is,
    same_rank _ _ c.in_ok-going.ensures.stands,
  ),
  search rules,
)

pub collection::step_each-loop-member-init : goal.collection::step_each-loop-member-init
collection::step_each-loop-member-init g t c = (refl, omega arith, members_begin _ _ _ _ _ refl)

pub collection::step_each-loop-member-preserved : goal.collection::step_each-loop-member-preserved
collection::step_each-loop-member-preserved g t c =
    let room = c.in_ok-make_place.ensures in
    let answered = one_answered c.loop-member.answers.items c.make_place.new.places.items c.loop-member.before c.run_at_next.new.out room.0 room.1 in (
      omega (arith, c.loop-member.invariant.0),
      omega (arith, room.0, length-set c.make_place.new.places.items c.loop-member.before c.run_at_next.new.out),
      member_goes _ (λ a. paused (state_of a) c.args.on.now.dt) c.args.members.now c.loop-member.member-index _ _ _ _ _ _ _ _ _ _ _ _ c.loop-member-test.true c.member-item.is refl
          c.loop-member.invariant.2
          (runs_as _ _ _ _ _ _ _ _ _ (ap g.R.Rows.keys c.in_ok-going.ensures.rows) c.in_ok-going.ensures.stands c.in_ok-one.ensures) answered c.both-visits.ensures,
    )

pub collection::step_each-returns : goal.collection::step_each-returns
collection::step_each-returns g t c =
    members_end _ (λ a. paused (state_of a) c.args.on.now.dt) c.args.members.now _ _ _ _ _ _ _ c.loop-member-test.false c.loop-member.invariant.2 (ap (map datum_of) c.truncate.ensures.items)
