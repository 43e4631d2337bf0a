use Rattle.std.proofs.Common.{ap, ◌∙◌}
use Rattle.c_build.specs.Symbols.{run}
use Rattle.c_build.proofs.Runs.{run_joined}
use Rattle.c_build.proofs.lines.push_all.Goals as goal

pub returns : goal.returns
returns c = λ Ts t. ap (run Ts t) c.in_ok-extend_from_slice.ensures.items ∙ run_joined Ts t c.args.out.now.items c.args.syms.now
