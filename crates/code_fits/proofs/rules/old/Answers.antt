use Rattle.std.proofs.Common.{ℕ, List, take, sym, ap, ◌∙◌}
use Rattle.code_fits.proofs.RuleTests.{if_ok, old-ok, old-here}
use Rattle.code_fits.proofs.rules.old.Goals as goal

pub returns : goal.returns
returns c =
    if_ok _ (old-ok c.args.around.types.now c.args.around.bounds.now c.args.around.earlier.now c.args.around.layout.now
    c.args.k c.args.f c.args.params c.args.olds (rw c.as_slice-5.ensures.value at c.in_ok-stands_at.ensures)
    (old-here c.args.around.types.now c.args.around.earlier.now c.args.around.layout.now c.args.f c.in_ok-callee.callee.now c.args.params c.args.olds c.in_ok-callee.ensures c.in_ok-same.ensures c.in_ok-same-2.ensures
    (sym c.as_slice.ensures.value ∙ c.in_ok-starts.ensures ∙ ap (λ (xs : List ℕ). take c.args.params xs) c.as_slice-2.ensures.value)
    (sym c.as_slice-3.ensures.value ∙ c.in_ok-starts-2.ensures ∙ ap (λ (xs : List ℕ). take c.args.olds xs) c.as_slice-4.ensures.value))
    c.in_ok-has.ensures) c.keeps_none.ensures
