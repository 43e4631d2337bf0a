use Rattle.std.proofs.Common.{List, ap, ◌∙◌}
use Rattle.c_forms.specs.Checked.{checked_body}
use Rattle.c_build.specs.declared.sym.Sym.{Sym}
use Rattle.c_build.specs.Symbols.{Stacks, built, top_command}
use Rattle.c_build.specs.Scopes.{table}
use Rattle.c_build.proofs.ends.checked_lines.Goals as goal

pub returns : goal.returns
returns c = λ n d h.
    let T = table c.args.scope in
    c.in_ok-body.ensures T
    ∙ (ap (λ (xs : List Sym). top_command (built T xs).commands) c.as_slice.ensures.value
    ∙ (ap (λ (s : Stacks). top_command s.commands) (c.in_ok-push_checked.ensures n d.output h.output)
    ∙ ap (checked_body n d.output) h.number))
