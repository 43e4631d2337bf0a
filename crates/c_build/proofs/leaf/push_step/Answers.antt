use Rattle.std.proofs.Common.{ap, ◌∙◌}
use Rattle.c_meaning.specs.Syntax.{Command}
use Rattle.c_build.specs.Symbols.{and_command}
use Rattle.c_build.specs.Scopes.{made}
use Rattle.c_build.proofs.LeafRows.{plain_step}
use Rattle.c_build.proofs.leaf.push_step.Goals as goal

pub returns-in_ok-push_plain_line-in_default : goal.returns-in_ok-push_plain_line-in_default
returns-in_ok-push_plain_line-in_default c = λ h.
    c.in_ok-push_plain_line-in_default.ensures h
    ∙ ap (λ (d : Command). and_command d (made c.args.lines.frame.scope c.args.out.now.items))
    (plain_step c.args.lines c.args.step.now c.in_default.not-Equal)
