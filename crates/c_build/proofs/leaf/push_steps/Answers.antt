use Rattle.std.proofs.Common.{◌≡◌, ℕ, ◌+◌, List, map, length, ap, sym, ◌∙◌}
use Rattle.std.proofs.lemmas.List.{length-map}
use Rattle.leaf_code.specs.CodeView.{step_of, steps_in}
use Rattle.c_meaning.specs.Syntax.{Command}
use Rattle.c_build.specs.declared.sym.Sym.TheVariants as S
use Rattle.c_build.specs.Symbols.{Stacks, and_command, step}
use Rattle.c_build.specs.Scopes.{made, table}
use Rattle.c_build.specs.LeafLines.{step_at}
use Rattle.c_build.proofs.LeafRows.{block_row, steps_lines}
use Rattle.c_build.proofs.leaf.push_steps.Goals as goal

pub returns : goal.returns
returns c = λ h.
    let L = c.args.lines in
    let T = table L.frame.scope in
    let cs = map (step_at L) (steps_in L.steps.now) in
    let s = made L.frame.scope c.args.out.now.items in
    let k = length L.steps.now + 1 in
    let e : k ≡ length cs + 1 = ap (λ (j : ℕ). j + 1)
    (sym (length-map (steps_in L.steps.now) (step_at L) ∙ length-map L.steps.now step_of)) in
    c.in_ok-add.ensures
    ∙ (ap (λ (t : Stacks). step T (S.Block k) (step T S.Skip t)) (c.in_ok-push_each.ensures h)
    ∙ (block_row T cs s k e
    ∙ ap (λ (d : Command). and_command d s) (steps_lines L (steps_in L.steps.now))))
