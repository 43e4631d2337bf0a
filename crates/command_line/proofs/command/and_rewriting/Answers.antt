use Rattle.std.proofs.Common.{◌≡◌, ◌∙◌, ap, codes, subst, IfOk}
use Rattle.clap.specs.Words.{App, app_of}
use Rattle.command_line.specs.CommandLine.{and_command, and_rewriting}
use Rattle.command_line.specs.declared.command.Takes.TheVariants as T
use Rattle.command_line.proofs.command.and_rewriting.Goals as goal

-- each subcommand behind those before it
joined : (a b c d : App) → b ≡ and_command a T.Network (codes "outline") → c ≡ and_command b T.Place (codes "laws")
    → d ≡ and_command c T.Steps (codes "apply") → and_command d T.Wanted (codes "optimise") ≡ and_rewriting a
joined a b c d p q r =
    ap (λ (x : App). and_command x T.Wanted (codes "optimise")) (r ∙ ap (λ (x : App). and_command x T.Steps (codes "apply"))
    (q ∙ ap (λ (x : App). and_command x T.Place (codes "laws")) p))

pub returns : goal.returns
returns c = record {
  app = subst (λ (x : App). IfOk c.and_command-4.result (λ d. app_of d ≡ x))
      (joined (app_of c.args.command) (app_of c.in_ok-command.command) (app_of c.in_ok-command-2.command) (app_of c.in_ok-command-3.command)
      c.in_ok-command.ensures.app c.in_ok-command-2.ensures.app c.in_ok-command-3.ensures.app)
      c.and_command-4.ensures.app;
}
