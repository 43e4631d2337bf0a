use Rattle.std.proofs.Common.{sym, ◌∙◌}
use Rattle.code_fits.proofs.RuleTests.{goes-here}
use Rattle.code_fits.proofs.around.goes.Goals as goal

pub returns : goal.returns
returns c =
    goes-here c.args.around.types.now c.args.around.earlier.now c.args.around.layout.now c.args.j c.in_ok-callee.callee.now c.args.a c.args.b c.in_ok-callee.ensures c.in_ok-same.ensures c.in_ok-same-2.ensures
    (sym c.as_slice.ensures.value ∙ c.in_ok-equal.ensures ∙ c.as_slice-2.ensures.value) (sym c.as_slice-3.ensures.value ∙ c.in_ok-equal-2.ensures ∙ c.as_slice-4.ensures.value)
