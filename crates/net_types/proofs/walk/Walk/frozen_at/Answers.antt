use Rattle.std.proofs.Common.{arith, ap, sym, ◌∙◌, Err}
use Rattle.std.proofs.lemmas.Grind.{common_steps}
use Rattle.net_types.specs.declared.fault.TypeFault.TheVariants.{NoOld}
use Rattle.net_types.proofs.ScopeLists.{old_found, old_missing}
use Rattle.net_types.proofs.walk.Walk.frozen_at.Goals as goal

pub returns-in-Some : goal.returns-in-Some
returns-in-Some c = grind (arith, common_steps, old_found c.args.self.now.path.items c.olds.result.now c.args.k c.in-Some.types.now c.in-Some.ensures.lookup.3.0)

pub returns : goal.returns
returns c = λ h. rw c.olds.ensures at (old_missing c.args.self.now.path.items c.olds.result.now c.args.k c.in_default.ensures.lookup.3) ∙ ap (λ Q. Err (NoOld Q)) (sym (c.in_ok-position.ensures ∙ c.deref.ensures.value))
