use Rattle.std.proofs.Common.{◌≡◌, ◌∙◌, ap, codes, subst, IfOk}
use Rattle.clap.specs.Words.{App, app_of, with_rule}
use Rattle.command_line.specs.CommandLine.{flag, valued, with_parts, with_printing}
use Rattle.command_line.proofs.command.with_printing.Goals as goal

-- each option behind those before it
joined : (a b c : App) → b ≡ with_parts a → c ≡ with_rule b (valued (codes "N") (codes "most"))
    → with_rule c (flag (codes "unchecked")) ≡ with_printing a
joined a b c p q =
    ap (λ (x : App). with_rule x (flag (codes "unchecked")))
    (q ∙ ap (λ (x : App). with_rule x (valued (codes "N") (codes "most"))) p)

pub returns-clause-app : goal.returns-clause-app
returns-clause-app c =
    subst (λ (x : App). IfOk c.and_flag.result (λ d. app_of d ≡ x))
    (joined (app_of c.args.command) (app_of c.in_ok-command.command) (app_of c.in_ok-command-2.command)
    c.in_ok-command.ensures.app c.in_ok-command-2.ensures.app)
    c.and_flag.ensures.app
