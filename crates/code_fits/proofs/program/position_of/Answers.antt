use Rattle.std.proofs.Common.{◌∙◌}
use Rattle.code_fits.proofs.program.position_of.Goals as goal

pub returns : goal.returns
returns c = record {
  layout = c.in_ok-layout.layout.now;
  there = c.in_ok-layout.ensures;
  position = c.in_ok-of_node.ensures ∙ c.as_slice.ensures.value;
}
