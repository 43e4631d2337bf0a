use Rattle.std.proofs.Common.{◌<◌, length, arith, ap, ◌∙◌}
use Rattle.sample_core.specs.TypeView.{type_of}
use Rattle.expr_laws.proofs.Elements.{spread-some}
use Rattle.expr_laws.proofs.spread.spread_list.Goals as goal

pub returns : goal.returns
returns c =
    let h : 0 < length c.as_slice-all.result.now = omega (arith, c.if-all-eq0.false) in
    spread-some c.args.f.now (type_of c.args.element.now) (type_of c.in_ok-element.element) c.args.all.now c.in_ok-all-2.all c.as_slice-all.result.now c.as_slice-all.ensures h
    (c.in_ok-all-2.ensures ∙ c.in_ok-all.ensures) (ap type_of c.in_ok-element.ensures)
