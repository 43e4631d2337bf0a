use Rattle.std.proofs.Common.{[], refl}
use Rattle.step_core.proofs.Pushing.{new_stands}
use Rattle.step_core.proofs.runner.Runner.new.Goals as goal

pub invariant_of-result : goal.invariant_of-result
invariant_of-result g c = record { past = ∣ ([], new_stands _ refl refl refl c.requires) ∣₁ }

pub returns-clause-stands : goal.returns-clause-stands
returns-clause-stands g c = new_stands _ refl refl refl c.requires
