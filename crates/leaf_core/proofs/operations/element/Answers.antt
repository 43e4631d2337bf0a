use Rattle.std.proofs.Common.{◌≡◌, arith, pos}
use Rattle.std.proofs.lemmas.Grind.{common_steps}
use Rattle.leaf_core.proofs.Places.{element_found, element_missing}
use Rattle.leaf_core.proofs.operations.element.Goals as goal

pub returns-in-Some : goal.returns-in-Some
returns-in-Some c d =
    let place : c.args.at ≡ pos c.in-Ok.at = grind (arith, common_steps) in
    grind (arith, common_steps, element_found c.as_slice.result.now c.args.at c.in-Ok.at d c.in-Some.found.now place c.in-Some.ensures.lookup.3.0)

pub returns-in-None : goal.returns-in-None
returns-in-None c d =
    let place : c.args.at ≡ pos c.in-Ok.at = grind (arith, common_steps) in
    grind (arith, common_steps, element_missing c.as_slice.result.now c.args.at c.in-Ok.at d place c.in-None.ensures.lookup.3)
