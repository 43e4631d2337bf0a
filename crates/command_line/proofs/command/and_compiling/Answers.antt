use Rattle.std.proofs.Common.{◌≡◌, ap, codes, subst, IfOk}
use Rattle.clap.specs.Words.{App, app_of}
use Rattle.command_line.specs.CommandLine.{and_command, and_compiling}
use Rattle.command_line.specs.declared.command.Takes.TheVariants as T
use Rattle.command_line.proofs.command.and_compiling.Goals as goal

-- each subcommand behind the one before it
joined : (a b : App) → b ≡ and_command a T.Printing (codes "compile") → and_command b T.CheckedPrinting (codes "compile-checked") ≡ and_compiling a
joined a b p = ap (λ (x : App). and_command x T.CheckedPrinting (codes "compile-checked")) p

pub returns : goal.returns
returns c = record {
  app = subst (λ (x : App). IfOk c.and_command-2.result (λ d. app_of d ≡ x))
      (joined (app_of c.args.command) (app_of c.in_ok-command.command) c.in_ok-command.ensures.app)
      c.and_command-2.ensures.app;
}
