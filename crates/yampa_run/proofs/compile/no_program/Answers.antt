use Rattle.std.proofs.Common.{subst}
use Rattle.code_fits.specs.Programs.{HasNoProgram}
use Rattle.command_line.specs.CommandLine.{printing_view}
use Rattle.yampa_run.proofs.CText.{too_large_is}
use Rattle.yampa_run.proofs.compile.no_program.Goals as goal

pub returns-in-State : goal.returns-in-State
returns-in-State c = λ most m k.
    too_large_is c.args.net.now (printing_view c.args.printing) most c.in-State.at c.asks_most.result c.too_large.result m (subst (λ r. HasNoProgram c.args.net.now most r) c.in-State.is k) c.asks_most.ensures
    c.too_large.ensures
