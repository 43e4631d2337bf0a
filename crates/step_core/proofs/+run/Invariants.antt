use Rattle.std.proofs.Common.{◌+◌, ◌*◌, ◌≡◌, ◌≤◌, drop, length, map, take}
use Rattle.net_tree.specs.Network.{map_networks, seq, first, par, loop_pre, initial_out, initial_in, at_once, delayed, switch, r_switch, rp_switch, k_switch, p_switch, old}
use Rattle.net_tree.specs.NetworkView.{members_of}
use Rattle.net_tree.specs.Weight.{total}
use Rattle.state_core.specs.RowsView.{rows_in, row_number}
use Rattle.state_core.specs.State.{paused, unstarted, push_param}
use Rattle.state_core.specs.StateView.{frozen_of, kept_of, scope_of, state_of}
use Rattle.state_core.specs.Tree.{width_of}
use Rattle.step_core.specs.Flow.{flowed, all_flowed, placed, all_placed, standing, past_behind, past_in}
use Rattle.step_core.specs.Rank.{frozen_rank, frozen_ranks}
use Rattle.step_core.specs.Switching.{timing_of}
use Rattle.net_tree.proofs.Sizes.{net_size}
use Rattle.sample_core.specs.ValueView.{datum_of}
use Rattle.step_core.proofs.Flows.{ChainFlows, EachFlows}
use Rattle.step_core.proofs.CollectionRuns.{MembersGo}
use Rattle.step_core.proofs.Levels.{level}
use Rattle.step_core.proofs.MembersFall.{load}
use Rattle.step_core.proofs.Switches.{EachRun}
use Rattle.step_core.proofs.+run.Given as goal

abbrev pub decreases-flow::flow : goal.decreases-flow::flow
decreases-flow::flow g l =
    20 * frozen_rank (flowed (rows_in l.net.now) (scope_of l.on.now.env.now) (past_behind (width_of (kept_of l.kept.now)) (past_in l.on.now.before l.on.now.dt))) + level (rows_in l.net.now)

abbrev pub decreases-flow::flow_seq : goal.decreases-flow::flow_seq
decreases-flow::flow_seq g l =
    20 * frozen_rank (flowed (seq (rows_in l.f.now) (rows_in l.g.now)) (scope_of l.on.now.env.now) (past_behind (width_of (kept_of l.kept.now)) (past_in l.on.now.before l.on.now.dt))) + 11

abbrev pub decreases-flow::flow_rest : goal.decreases-flow::flow_rest
decreases-flow::flow_rest g l =
    20 * frozen_rank (flowed (rows_in l.net.now) (scope_of l.on.now.env.now) (past_behind (width_of (kept_of l.kept.now)) (past_in l.on.now.before l.on.now.dt))) + 22

abbrev pub decreases-flow::flow_first : goal.decreases-flow::flow_first
decreases-flow::flow_first g l =
    20 * frozen_rank (flowed (first (rows_in l.f.now)) (scope_of l.on.now.env.now) (past_behind (width_of (kept_of l.kept.now)) (past_in l.on.now.before l.on.now.dt))) + 11

abbrev pub decreases-flow::flow_par : goal.decreases-flow::flow_par
decreases-flow::flow_par g l =
    20 * frozen_rank (flowed (par (map_networks row_number (members_of l.members.now))) (scope_of l.on.now.env.now) (past_behind (width_of (kept_of l.kept.now)) (past_in l.on.now.before l.on.now.dt))) + 11

abbrev pub decreases-flow::flow_each : goal.decreases-flow::flow_each
decreases-flow::flow_each g l =
    20 * total (frozen_ranks (all_flowed (map_networks row_number (members_of l.members.now)) (scope_of l.on.now.env.now) (past_behind (width_of (kept_of l.kept.now)) (past_in l.on.now.before l.on.now.dt)))) + 22

abbrev pub decreases-flow::flow_loop : goal.decreases-flow::flow_loop
decreases-flow::flow_loop g l =
    20 * frozen_rank (flowed (loop_pre (row_number l.c) (rows_in l.f.now)) (scope_of l.on.now.env.now) (past_behind (width_of (kept_of l.kept.now)) (past_in l.on.now.before l.on.now.dt))) + 11

abbrev pub decreases-flow::flow_restart : goal.decreases-flow::flow_restart
decreases-flow::flow_restart g l =
    20 * frozen_rank (flowed (r_switch at_once (rows_in l.f.now) (rows_in l.t.now)) (scope_of l.on.now.env.now) (past_behind (width_of (kept_of l.kept.now)) (past_in l.on.now.before l.on.now.dt))) + 11

abbrev pub decreases-flow::flow_late_restart : goal.decreases-flow::flow_late_restart
decreases-flow::flow_late_restart g l =
    20 * frozen_rank (flowed (r_switch delayed (rows_in l.f.now) (rows_in l.t.now)) (scope_of l.on.now.env.now) (past_behind (width_of (kept_of l.kept.now)) (past_in l.on.now.before l.on.now.dt))) + 11

abbrev pub decreases-flow::flow_initial_out : goal.decreases-flow::flow_initial_out
decreases-flow::flow_initial_out g l =
    20 * frozen_rank (flowed (initial_out (row_number l.c) (rows_in l.f.now)) (scope_of l.on.now.env.now) (past_behind (width_of (kept_of l.kept.now)) (past_in l.on.now.before l.on.now.dt))) + 20

abbrev pub decreases-flow::flow_initial_in : goal.decreases-flow::flow_initial_in
decreases-flow::flow_initial_in g l =
    20 * frozen_rank (flowed (initial_in (row_number l.c) (rows_in l.f.now)) (scope_of l.on.now.env.now) (past_behind (width_of (kept_of l.kept.now)) (past_in l.on.now.before l.on.now.dt))) + 20

abbrev pub decreases-collection::run_collection : goal.decreases-collection::run_collection
decreases-collection::run_collection g l =
    20 * frozen_rank (standing (rp_switch (map_networks row_number (members_of l.members.now)) (row_number l.choice.chooser) (rows_in l.choice.starts.now)) (scope_of l.on.now.env.now) (past_in l.on.now.before l.on.now.dt)) + 12

abbrev pub decreases-collection::run_turned : goal.decreases-collection::run_turned
decreases-collection::run_turned g l =
    20 * frozen_rank (standing (rp_switch (map_networks row_number (members_of l.members.now)) (row_number l.choice.chooser) (rows_in l.choice.starts.now)) (scope_of l.on.now.env.now) (past_in l.on.now.before l.on.now.dt)) + 11

abbrev pub decreases-collection::resume_each : goal.decreases-collection::resume_each
decreases-collection::resume_each g l = 20 * load (map frozen_of l.members.now) + 20

abbrev pub decreases-collection::step_each : goal.decreases-collection::step_each
decreases-collection::step_each g l = 20 * load (map (λ a. paused (state_of a) l.on.now.dt) l.members.now) + 20

abbrev pub invariant-collection::resume_each-loop-member : goal.invariant-collection::resume_each-loop-member
invariant-collection::resume_each-loop-member g l =
    (l.before ≡ l.member-index) × (l.before ≤ length l.answers.items)
    × MembersGo (g.R.Rows.keys l.on.rows.now) (map frozen_of l.members) (map frozen_of (drop l.member-index l.members)) (datum_of l.x) (kept_of l.fn.kept)
    (kept_of l.kept) (map datum_of (take l.before l.answers.items)) l.visits

abbrev pub invariant-collection::step_each-loop-member : goal.invariant-collection::step_each-loop-member
invariant-collection::step_each-loop-member g l =
    (l.before ≡ l.member-index) × (l.before ≤ length l.answers.items)
    × MembersGo (g.R.Rows.keys l.on.rows.now) (map (λ a. paused (state_of a) l.on.dt) l.members)
    (map (λ a. paused (state_of a) l.on.dt) (drop l.member-index l.members)) (datum_of l.x) (kept_of l.fn.kept) (kept_of l.kept)
    (map datum_of (take l.before l.answers.items)) l.visits

abbrev pub decreases-run::run_place : goal.decreases-run::run_place
decreases-run::run_place g l =
    20 * frozen_rank (placed (rows_in l.net.now) (scope_of l.on.now.env.now) (past_behind (0, length (kept_of l.kept.now).1) (past_in l.on.now.before l.on.now.dt))) + 18

abbrev pub decreases-run::go_on : goal.decreases-run::go_on
decreases-run::go_on g l =
    20 * frozen_rank (placed (rows_in l.net.now) (scope_of l.on.now.env.now) (past_behind (0, l.at) (past_in l.on.now.before l.on.now.dt))) + 17

abbrev pub decreases-run::run_at_next : goal.decreases-run::run_at_next
decreases-run::run_at_next g l =
    20 * frozen_rank (standing (rows_in l.net.now) (scope_of l.on.now.env.now) (past_in l.on.now.before l.on.now.dt)) + 16

abbrev pub decreases-run::start_under : goal.decreases-run::start_under
decreases-run::start_under g l =
    20 * frozen_rank (unstarted (rows_in l.net.now) (push_param (scope_of l.on.now.env.now) (datum_of l.value.now))) + 16

abbrev pub decreases-run::run_initial_out : goal.decreases-run::run_initial_out
decreases-run::run_initial_out g l =
    20 * frozen_rank (standing (initial_out (row_number l.c) (rows_in l.f.now)) (scope_of l.on.now.env.now) (past_in l.on.now.before l.on.now.dt)) + 12

abbrev pub decreases-run::run_initial_in : goal.decreases-run::run_initial_in
decreases-run::run_initial_in g l =
    20 * frozen_rank (standing (initial_in (row_number l.c) (rows_in l.f.now)) (scope_of l.on.now.env.now) (past_in l.on.now.before l.on.now.dt)) + 12

abbrev pub decreases-run::run_over : goal.decreases-run::run_over
decreases-run::run_over g l =
    20 * frozen_rank (standing (rows_in l.net.now) (scope_of l.on.now.env.now) (past_in l.on.now.before l.on.now.dt)) + 15

abbrev pub decreases-run::run_apart : goal.decreases-run::run_apart
decreases-run::run_apart g l =
    20 * frozen_rank (standing (rows_in l.net.now) (scope_of l.on.now.env.now) (past_in l.on.now.before l.on.now.dt)) + 14

abbrev pub decreases-run::run_in : goal.decreases-run::run_in
decreases-run::run_in g l =
    20 * frozen_rank (standing (rows_in l.net.now) (scope_of l.on.now.env.now) (past_in l.on.now.before l.on.now.dt)) + 13

abbrev pub decreases-run::run_old : goal.decreases-run::run_old
decreases-run::run_old g l =
    20 * frozen_rank (standing (old l.k) (scope_of l.on.now.env.now) (past_in l.on.now.before l.on.now.dt)) + 12

abbrev pub decreases-run::run_switch : goal.decreases-run::run_switch
decreases-run::run_switch g l =
    20 * frozen_rank (standing (switch (timing_of l.over.delayed) (rows_in l.f.now) (rows_in l.over.net.now)) (scope_of l.on.now.env.now) (past_in l.on.now.before l.on.now.dt)) + 12

abbrev pub decreases-run::run_k_switch : goal.decreases-run::run_k_switch
decreases-run::run_k_switch g l =
    20 * frozen_rank (standing (k_switch (rows_in l.f.now) (rows_in l.rest.watch.now) (rows_in l.rest.over.now)) (scope_of l.on.now.env.now) (past_in l.on.now.before l.on.now.dt)) + 12

abbrev pub decreases-run::run_p_switch : goal.decreases-run::run_p_switch
decreases-run::run_p_switch g l =
    20 * frozen_rank (standing (p_switch (row_number l.members.router) (map_networks row_number (members_of l.members.nets.now)) (rows_in l.rest.watch.now) (rows_in l.rest.over.now)) (scope_of l.on.now.env.now) (past_in l.on.now.before l.on.now.dt)) + 12

abbrev pub decreases-run::run_watch : goal.decreases-run::run_watch
decreases-run::run_watch g l =
    20 * frozen_rank (placed (rows_in l.e.now) (scope_of l.on.now.env.now) (past_behind (0, length (kept_of l.kept.now).1) (past_in l.on.now.before l.on.now.dt))) + 19

abbrev pub decreases-run::run_members : goal.decreases-run::run_members
decreases-run::run_members g l =
    20 * total (frozen_ranks (all_placed (map_networks row_number (members_of l.members.nets.now)) (scope_of l.on.now.env.now) (past_behind (width_of (kept_of l.kept.now)) (past_in l.on.now.before l.on.now.dt)))) + 21

abbrev pub decreases-run::run_each : goal.decreases-run::run_each
decreases-run::run_each g l =
    20 * total (frozen_ranks (all_placed (map_networks row_number (members_of l.members.nets.now)) (scope_of l.on.now.env.now) (past_behind (width_of (kept_of l.kept.now)) (past_in l.on.now.before l.on.now.dt)))) + 20

-- the same of members that run at a place each
abbrev pub invariant-run::run_each-members : goal.invariant-run::run_each-members
invariant-run::run_each-members g l =
    (total (frozen_ranks (all_placed (map_networks row_number (members_of l.rest)) (scope_of l.on.env.now)
    (past_behind (width_of (kept_of l.kept)) (past_in l.on.before l.on.dt))))
    ≤ total (frozen_ranks (all_placed (map_networks row_number (members_of l.members.nets.now)) (scope_of l.on.env.now)
    (past_behind (width_of (kept_of l.fn.kept)) (past_in l.on.before l.on.dt)))))
    × (l.before ≤ length l.answers.items)
    × EachRun (g.R.Rows.keys l.on.rows.now) (row_number l.members.router) (map_networks row_number (members_of l.members.nets.now))
    (map_networks row_number (members_of l.rest)) (scope_of l.on.env.now) (past_in l.on.before l.on.dt) l.before (datum_of l.x) (kept_of l.fn.kept)
    (kept_of l.kept) (map datum_of (take l.before l.answers.items)) l.visits

abbrev pub decreases-run::run_each-members : goal.decreases-run::run_each-members
decreases-run::run_each-members g l = length l.rest

-- what the rest of the chain leads to from here, the whole leads to from the start
abbrev pub invariant-flow::flow_rest-chain : goal.invariant-flow::flow_rest-chain
invariant-flow::flow_rest-chain g l =
    (frozen_rank (flowed (rows_in l.rest) (scope_of l.on.env.now) (past_behind (width_of (kept_of l.kept)) (past_in l.on.before l.on.dt)))
    ≤ frozen_rank (flowed (rows_in l.net) (scope_of l.on.env.now) (past_behind (width_of (kept_of l.fn.kept)) (past_in l.on.before l.on.dt))))
    × ChainFlows (g.R.Rows.keys l.on.rows.now) (rows_in l.net) (rows_in l.rest) (scope_of l.on.env.now) (past_in l.on.before l.on.dt)
    (datum_of l.fn.between) (datum_of l.between) (kept_of l.fn.kept) (kept_of l.kept) l.visits

-- what the members to come lead to from here, all lead to from the start
abbrev pub invariant-flow::flow_each-members : goal.invariant-flow::flow_each-members
invariant-flow::flow_each-members g l =
    (total (frozen_ranks (all_flowed (map_networks row_number (members_of l.rest)) (scope_of l.on.env.now)
    (past_behind (width_of (kept_of l.kept)) (past_in l.on.before l.on.dt))))
    ≤ total (frozen_ranks (all_flowed (map_networks row_number (members_of l.members)) (scope_of l.on.env.now)
    (past_behind (width_of (kept_of l.fn.kept)) (past_in l.on.before l.on.dt)))))
    × (l.before ≤ length l.answers.items)
    × EachFlows (g.R.Rows.keys l.on.rows.now) (map_networks row_number (members_of l.members)) (map_networks row_number (members_of l.rest))
    (scope_of l.on.env.now) (past_in l.on.before l.on.dt) (datum_of l.x) (kept_of l.fn.kept) (kept_of l.kept)
    (map datum_of (take l.before l.answers.items)) l.visits

abbrev pub decreases-flow::flow_each-members : goal.decreases-flow::flow_each-members
decreases-flow::flow_each-members g l = length l.rest

abbrev pub decreases-flow::flow_rest-chain : goal.decreases-flow::flow_rest-chain
decreases-flow::flow_rest-chain g l = net_size l.rest
