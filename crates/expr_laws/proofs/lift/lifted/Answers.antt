use Rattle.expr_laws.proofs.Lifting.{two-lifted, three-lifted, on-lifted}
use Rattle.expr_laws.proofs.lift.lifted.Goals as goal

pub returns-in-On-default : goal.returns-in-On-default
returns-in-On-default c = on-lifted c.lift_on.result c.args.expr.now c.in-On-default.e c.in-On-default.d c.in-On-default.b c.in-On-default.is-0 c.lift_on.ensures

pub returns-in_default-Two : goal.returns-in_default-Two
returns-in_default-Two c =
    two-lifted c.lift_two.result c.args.expr.now c.in_default-Two.a.now c.in_default-Two.b.now c.in_default-Two.not-Then-0 c.in_default-Two.ensures.whole c.lift_two.ensures

pub returns-in_default-Three : goal.returns-in_default-Three
returns-in_default-Three c =
    three-lifted c.lift_three.result c.args.expr.now c.in_default-Three.a.now c.in_default-Three.b.now c.in_default-Three.c.now c.in_default-Three.not-On-0 c.in_default-Three.ensures.whole c.lift_three.ensures
