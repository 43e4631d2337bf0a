use Rattle.code_fits.proofs.rules.restarted.Goals as goal

pub returns : goal.returns
returns c = record {
  kept = c.in_ok-by.ensures;
  pairs = c.in_ok-a.ensures;
  events = c.in_ok-events.ensures;
  front = c.in_ok-goes.ensures;
  taker = c.in_ok-takes_over.ensures;
}
