use Rattle.std.proofs.Common.{rules, ◌≡◌, ◌≤◌, [], map, refl, ap, sym, subst, ◌∙◌, IfErr}
use Rattle.sample_core.specs.TypeView.{type_of}
use Rattle.leaf_table.specs.Rows.{rows_of}
use Rattle.net_syntax.specs.NeedView.{need_of}
use Rattle.net_tree.specs.NetworkView.{tree_of}
use Rattle.net_tree.specs.Weight.{weight}
use Rattle.state_core.specs.RowsView.{row_number, rows_in}
use Rattle.step_core.specs.Lookup.{Misses, AddsRows}
use Rattle.step_core.specs.RowTyping.{RowsTyped, network_by}
use Rattle.step_core.proofs.Lowerings.{LoweredTo, all_rows_found, found_some, if_err, light_rows, missed_in, one_answer, whole_lowered}
use Rattle.step_core.proofs.binding.bind_needs.Goals.{After-deref}
use Rattle.step_core.proofs.binding.bind_needs.Goals as goal

pub returns-in_err-add_rows-clause-missing : goal.returns-in_err-add_rows-clause-missing
returns-in_err-add_rows-clause-missing g c =
    let refused : IfErr c.from_residual.result (Misses (rows_of c.args.table.now) (map need_of c.args.needs.now)) = search rules in
    if_err c.from_residual.result _ _
    (λ f h. missed_in _ c.args.net.now _ _ f refl c.requires h) refused

-- the rows of all needs
added : (g : _) (c : After-deref g) → AddsRows (rows_of c.args.table.now) (map need_of c.args.needs.now) [] (map row_number c.deref.result.now)
added g c =
    subst (λ o. AddsRows (rows_of c.args.table.now) (map need_of c.args.needs.now) o (map row_number c.deref.result.now))
    (ap (map row_number) c.new-rows.ensures.items)
    (subst (λ o. AddsRows (rows_of c.args.table.now) (map need_of c.args.needs.now) (map row_number c.new-rows.result.items) (map row_number o))
    (sym c.deref.ensures.value) c.in_ok-add_rows.ensures.found)

-- the network that they make
made : (g : _) (c : After-deref g) → LoweredTo (rows_of c.args.table.now) c.args.net.now (tree_of c.net.result.now) (map row_number c.deref.result.now)
made g c = whole_lowered _ c.args.net.now _ _ _ c.net.ensures.net c.requires (added g c)

pub lower-requires : goal.lower-requires
lower-requires g c = found_some _ _ (made g c).filled

pub returns-clause-network : goal.returns-clause-network
returns-clause-network g c =
    let m = made g (goal.at.returns-clause-network g c).After-deref in
    ap (network_by (rows_of c.args.table.now)) (one_answer _ _ _ _ _ c.in_ok-lowered.ensures m.filled) ∙ m.same

pub returns-clause-fits : goal.returns-clause-fits
returns-clause-fits g c =
    let m = made g (goal.at.returns-clause-fits g c).After-deref in
    let input : type_of c.in_ok-input.input ≡ c.args.net.now.input = ap type_of c.in_ok-input.ensures ∙ c.input.ensures in
    let rows : rows_in c.in_ok-lowered.lowered ≡ m.low = one_answer _ _ _ _ _ c.in_ok-lowered.ensures m.filled in (
      c.args.net.now.output,
      subst (λ A. RowsTyped (rows_of c.args.table.now) (rows_in c.in_ok-lowered.lowered) A c.args.net.now.output) (sym input)
          (subst (λ o. RowsTyped (rows_of c.args.table.now) o c.args.net.now.input c.args.net.now.output) (sym rows) m.typed),
      subst (λ o. weight o [] ≤ 1000000) (sym rows) (light_rows _ c.args.net.now _ m.same c.net.ensures.limits.fits.light),
    )

pub returns-clause-found : goal.returns-clause-found
returns-clause-found g c =
    (map need_of c.args.needs.now, c.requires, all_rows_found _ _ [] _ (added g (goal.at.returns-clause-found g c).After-deref))
