use Rattle.std.proofs.Common.{rules, ◌≡◌, [], ◌∷◌, map, ap, sym, subst, ◌∙◌, append-nil}
use Rattle.std.proofs.lemmas.List.{map-append}
use Rattle.leaf_table.specs.Rows.{rows_of}
use Rattle.net_syntax.specs.NeedView.{need_of}
use Rattle.state_core.specs.RowsView.{row_number}
use Rattle.step_core.specs.Lookup.{AddsRows, Misses, RowsOf, no_rows}
use Rattle.step_core.proofs.Lowerings.{first_missed, missed_later, nothing_there, row_added}
use Rattle.step_core.proofs.binding.add_rows.Goals as goal

pub returns-in-None-clause-missing : goal.returns-in-None-clause-missing
returns-in-None-clause-missing g c =
    let same : c.loop-need.left.now ≡ c.in-Some.need.now ∷ c.in-Some.rest.now = search rules in
    c.loop-need.invariant.1 _ (subst (λ o. Misses (rows_of c.args.table.now) (map need_of o) c.missing.result) (sym same)
    (first_missed _ (need_of c.in-Some.need.now) _ _ c.in-None.ensures.missing c.missing.ensures))

pub loop-need-preserved : goal.loop-need-preserved
loop-need-preserved g c =
    let same : c.loop-need.left.now ≡ c.in-Some.need.now ∷ c.in-Some.rest.now = search rules in (
      λ now h. c.loop-need.invariant.0 now (subst (λ o. AddsRows (rows_of c.args.table.now) (map need_of o) (map row_number c.loop-need.rows.items) now) (sym same)
          (row_added _ _ _ _ _ _ _ c.in-Some-find.ensures.found (ap (map row_number) c.in_ok-push-in-Some-find.ensures.items ∙ map-append row_number _ _) h)),
      λ f h. c.loop-need.invariant.1 f (subst (λ o. Misses (rows_of c.args.table.now) (map need_of o) f) (sym same)
          (missed_later _ (need_of c.in-Some.need.now) _ _ f c.in-Some-find.ensures.found h)),
    )

pub returns-clause-found : goal.returns-clause-found
returns-clause-found g c =
    c.loop-need.invariant.0 _ ([], subst (λ o. RowsOf (rows_of c.args.table.now) (map need_of o) []) (sym (nothing_there _ c.in_default.ensures.cases)) no_rows, sym (append-nil _))
