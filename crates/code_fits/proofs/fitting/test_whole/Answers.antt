use Rattle.std.proofs.Common.{sym, ◌∙◌, arith}
use Rattle.code_fits.proofs.Programs.{last-there}
use Rattle.code_fits.proofs.fitting.test_whole.Goals as goal

pub returns : goal.returns
returns c = record {
  layout = c.in_ok-layout.layout.now;
  last = last-there c.args.functions.now c.args.layouts.now _ c.in_ok-layout.layout.now c.in_ok-layout.ensures (omega arith);
  whole = record {
    params = sym c.as_slice.ensures.value ∙ c.in_ok-equal.ensures;
    olds = sym c.as_slice-2.ensures.value ∙ c.in_ok-equal-2.ensures;
    input = c.in_ok-test_type.ensures ∙ c.input.ensures;
    output = c.in_ok-test_type-2.ensures ∙ c.output.ensures;
  };
}
