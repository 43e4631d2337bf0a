use Rattle.leaf_core.specs.ExpressionView.{expression_of}
use Rattle.leaf_core.specs.Inside.{with_three}
use Rattle.expr_laws.proofs.Lifting.{later-lifted}
use Rattle.expr_laws.proofs.lift.lift_three.Goals as goal

pub returns-in_default : goal.returns-in_default
returns-in_default c =
    later-lifted c.lift_later.result (λ l m n. expression_of (with_three c.args.form.now l m n)) c.get.result.now c.args.d.now c.args.e.now c.args.f.now c.get.ensures c.in_default.not-If c.lift_later.ensures
