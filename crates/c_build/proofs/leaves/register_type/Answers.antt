use Rattle.std.proofs.Common.{arith}
use Rattle.std.proofs.lemmas.Grind.{common_steps}
use Rattle.sample_core.specs.TypeView.{type_of}
use Rattle.leaf_code.proofs.Types.{found}
use Rattle.c_build.proofs.leaves.register_type.Goals as goal

pub returns-in-Some : goal.returns-in-Some
returns-in-Some c = grind (arith, common_steps, found (type_of c.args.input.now) c.args.steps.now c.args.k c.in-Some.step.now (omega (arith, c.if-k-eq0.false)) c.in-Some.ensures.lookup.3.0)
