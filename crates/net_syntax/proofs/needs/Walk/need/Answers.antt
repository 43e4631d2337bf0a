use Rattle.std.proofs.Common.{Some, ap, sym, ◌∙◌}
use Rattle.sample_core.specs.TypeView.{type_of}
use Rattle.leaf_core.specs.ExpressionView.{expression_of}
use Rattle.net_syntax.proofs.FoundLeaves.{answered_key}
use Rattle.net_syntax.proofs.needs.Walk.need.Goals as goal

pub invariant_of-result : goal.invariant_of-result
invariant_of-result c = record {
  typed = answered_key c.args.self.now.scope (type_of c.args.input.now) (type_of c.in_ok-output.output) (expression_of c.args.e.now) c.in_ok-key.key
      c.in_ok-key.ensures (c.requires ∙ ap (λ o. Some (type_of o)) (sym c.in_ok-output.ensures));
}
