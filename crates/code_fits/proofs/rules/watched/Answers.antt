use Rattle.std.proofs.Common.{ℕ, subst}
use Rattle.code_fits.specs.Parts.{IsPair}
use Rattle.code_fits.proofs.rules.watched.Goals as goal

pub returns : goal.returns
returns c = record {
  kept = c.in_ok-by.ensures;
  pairs = subst (λ (x : ℕ). IsPair c.args.around.types.now c.in_ok-answer.field-0.now.output x c.in_ok-b.event) c.in_ok-same.ensures c.in_ok-b.ensures;
  events = c.in_ok-events.ensures;
  front = c.in_ok-goes.ensures;
  taker = c.in_ok-takes_over.ensures;
}
