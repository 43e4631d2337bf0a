use Rattle.std.proofs.Common.{ap, sym, arith}
use Rattle.std.proofs.lemmas.Grind.{common_steps}
use Rattle.std.specs.Option.{option_map}
use Rattle.sample_core.specs.TypeView.{type_of}
use Rattle.leaf_core.specs.Expression.{expressions_of, list_expr}
use Rattle.leaf_core.specs.ExpressionView.{expression_of}
use Rattle.leaf_core.specs.Inside.{many}
use Rattle.leaf_core.specs.Parts.{refilled}
use Rattle.leaf_core.proofs.PartNumbers.{no_element_there, element_put}
use Rattle.leaf_core.proofs.parts.with_element.Goals as goal

pub returns-then-k-elements : goal.returns-then-k-elements
returns-then-k-elements c =
    let h = no_element_there c.as_slice-elements.result.now c.args.all.now c.args.k (expression_of c.args.other) c.as_slice-elements.ensures (omega arith) in
    sym (ap (λ o. option_map (refilled (list_expr (type_of c.args.element.now) (expressions_of c.args.all.now))) (option_map (many (type_of c.args.element.now)) o)) h)

pub returns : goal.returns
returns c =
    let h = element_put c.as_slice-elements.result.now c.in_ok-changed.changed.items c.args.all.now c.args.k c.args.other c.as_slice-elements.ensures (omega arith) c.in_ok-changed.ensures in
    grind (arith, common_steps, h)
