use Rattle.std.proofs.Common.{◌/◌, leb-true, refl, arith}
use Rattle.net_tree.specs.NetworkView.{tree_of}
use Rattle.net_types.proofs.Checks.{is_measured}
use Rattle.net_view.proofs.Spots.{little}
use Rattle.net_view.proofs.may_stand.grows_little.Goals as goal

pub returns-then-after-saturating_mul : goal.returns-then-after-saturating_mul
returns-then-after-saturating_mul c = λ h.
    let b = c.in-Some-Some.before in
    let a = c.in-Some-Some.after in
    let old = is_measured c.in_ok-before.before b _ (tree_of c.args.before.now) c.in-Some-Some.is-0 c.in_ok-before.ensures in
    let new = is_measured c.in_ok-after.after a _ (tree_of c.args.after.now) c.in-Some-Some.is-1 c.in_ok-after.ensures in
    little c.args.net.now (tree_of c.args.before.now) (tree_of c.args.after.now) b.weight b.height a.weight a.height c.max-times.result (1000000 / c.max-times.result)
    c.saturating_sub-rise.result c.requires (omega (arith, old.0.1, old.1.1)) (omega (arith, old.0.2, old.1.2)) (omega (arith, new.0.1, new.1.1)) (omega (arith, new.0.2, new.1.2))
    (omega (arith, c.max-times.ensures, c.weight.ensures)) refl (omega (arith, c.saturating_sub-rise.ensures, c.height.ensures))
    (omega (arith, c.if-after-saturating_mul.true, c.saturating_mul.ensures)) (omega (arith, leb-true a.height c.saturating_add.result h, c.saturating_add.ensures))
