use Rattle.code_fits.proofs.rules.frozen.Goals as goal

pub returns : goal.returns
returns c = record {
  kept = c.in_ok-by.ensures;
  pairs = c.in_ok-pairs.ensures;
  events = c.in_ok-events.ensures;
  watcher = c.in_ok-goes.ensures;
  resumer = c.in_ok-resumes.ensures;
  values = c.in_ok-has.ensures;
}
