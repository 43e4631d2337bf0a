use Rattle.std.proofs.Common.{Some, ◌∙◌}
use Rattle.c_text.specs.declared.tree.CType.TheVariants as T
use Rattle.c_build.specs.Scopes.{table, made}
use Rattle.c_build.specs.Making.{registers_from}
use Rattle.c_build.proofs.Many.{braced_made, registers_length, registers_braces}
use Rattle.c_build.proofs.members.push_answers.Goals as goal

pub returns : goal.returns
returns c = λ n Ps Os B counts is_element.
    let e1 = c.in_ok-push_registers.ensures n Ps Os counts in
    let e2 = rw e1 at c.in_ok-add.ensures in
    let e3 = braced_made (table c.args.scope) (registers_from n Ps Os 0 c.args.count) c.args.count
    (Some (T.Array c.args.left c.args.element)) (made c.args.scope c.args.out.now.items)
    (registers_length n Ps Os 0 c.args.count) in
    rw (e2 ∙ e3, is_element, registers_braces n Ps Os B 0 c.args.count c.args.left)
