use Rattle.std.proofs.Common.{◌≡◌, ◌-◌, length, arith}
use Rattle.std.proofs.lemmas.Grind.{common_steps}
use Rattle.c_text.specs.Meant.{base_meant}
use Rattle.c_leaf.specs.Representing.{c_type}
use Rattle.c_build.specs.Scopes.{made, table}
use Rattle.c_build.specs.Frames.{bounds_in}
use Rattle.c_build.specs.LeafLines.{compared_in, register_at}
use Rattle.c_build.proofs.LeafRows.{list_row}
use Rattle.c_build.proofs.operation.push_elements.Goals as goal

pub returns : goal.returns
returns c = λ h.
    let L = c.args.lines in
    let n = bounds_in L.frame in
    let js = c.args.registers.now in
    let A = c_type n c.args.element.now in
    let m = n c.args.element.now - length js in
    let eb : base_meant (table L.frame.scope) c.in_ok-base.base ≡ A =
    grind (arith, common_steps, c.in_ok-base.ensures h, c.get-2.ensures) in
    let ez : c.saturating_sub-rest.result ≡ m =
    grind (arith, common_steps, c.in_ok-most.ensures, c.get.ensures, c.saturating_sub-rest.ensures) in
    let ek : c.in-Ok.count ≡ length js = grind (arith, common_steps, c.in-Ok.ensures) in
    list_row n (compared_in L) (length L.frame.scope.params.now) (register_at L) (table L.frame.scope) A js m
    c.saturating_sub-rest.result c.in-Ok.count c.in_ok-base.base
    (made L.frame.scope c.args.out.now.items) _ _ _ eb ez ek c.in_ok-add.ensures
    c.in_ok-push_registers.ensures c.in_ok-add-2.ensures
