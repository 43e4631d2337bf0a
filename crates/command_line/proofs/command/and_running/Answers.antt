use Rattle.std.proofs.Common.{◌≡◌, ◌∙◌, ap, codes, subst, IfOk}
use Rattle.clap.specs.Words.{App, app_of}
use Rattle.command_line.specs.CommandLine.{and_command, and_running}
use Rattle.command_line.specs.declared.command.Takes.TheVariants as T
use Rattle.command_line.proofs.command.and_running.Goals as goal

-- each subcommand behind those before it
joined : (a b c d : App) → b ≡ and_command a T.Network (codes "types") → c ≡ and_command b T.Network (codes "run")
    → d ≡ and_command c T.Derivation (codes "check") → and_command d T.Derivation (codes "run-checked") ≡ and_running a
joined a b c d p q r =
    ap (λ (x : App). and_command x T.Derivation (codes "run-checked")) (r ∙ ap (λ (x : App). and_command x T.Derivation (codes "check"))
    (q ∙ ap (λ (x : App). and_command x T.Network (codes "run")) p))

pub returns : goal.returns
returns c = record {
  app = subst (λ (x : App). IfOk c.and_command-4.result (λ d. app_of d ≡ x))
      (joined (app_of c.args.command) (app_of c.in_ok-command.command) (app_of c.in_ok-command-2.command) (app_of c.in_ok-command-3.command)
      c.in_ok-command.ensures.app c.in_ok-command-2.ensures.app c.in_ok-command-3.ensures.app)
      c.and_command-4.ensures.app;
}
