use Rattle.std.proofs.Common.{◌≡◌, suc, ◌-◌, Some, option_map, sym, ap, ◌∙◌, subst, arith}
use Rattle.net_tree.specs.NetworkView.{tree_of}
use Rattle.net_tree.specs.Place.{a_network, child}
use Rattle.net_tree.specs.LawStep.{seen}
use Rattle.net_opt.specs.Nesting.{IsNested, not_nested, nested_in}
use Rattle.net_opt.proofs.nesting.+is_nested.Goals as goal

pub returns-then-depth-eq0 : goal.returns-then-depth-eq0
returns-then-depth-eq0 t c = λ e. subst (λ n. IsNested n (tree_of c.args.net.now)) (sym c.if-depth-eq0.true) not_nested

pub returns-in-Some-Net : goal.returns-in-Some-Net
returns-in-Some-Net t c = λ e.
    let found : child (tree_of c.args.net.now) c.if-j-lt3.k ≡ Some (a_network (tree_of c.in-Some-Net.inner.now)) =
    sym c.child.ensures ∙ ap (option_map seen) c.in-Some-Net.is ∙ ap (λ x. Some (seen x)) c.in-Some-Net.field-0-is in
    let one_more : suc (c.args.depth - 1) ≡ c.args.depth = omega (arith, c.if-depth-eq0.false) in
    subst (λ n. IsNested n (tree_of c.args.net.now)) one_more
    (nested_in c.if-j-lt3.k (tree_of c.in-Some-Net.inner.now) found (c.if-is_nested.ensures e))
