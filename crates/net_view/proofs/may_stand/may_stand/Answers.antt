use Rattle.std.proofs.Common.{◌≡◌, false, [], IfOk, IsTrue, sym, ap, ◌∙◌, subst, arith}
use Rattle.leaf_core.specs.ExpressionView.{expression_of}
use Rattle.net_tree.specs.LawStep.{part_of, seen}
use Rattle.net_tree.specs.NetworkView.{tree_of}
use Rattle.net_tree.specs.Place.{a_network, a_leaf}
use Rattle.net_syntax.specs.ChildParts.{seen_place}
use Rattle.net_syntax.specs.StandingWalk.{standing_of}
use Rattle.net_types.specs.KeptTypes.{type_kept}
use Rattle.net_view.specs.Spots.{MayStand}
use Rattle.net_view.proofs.Spots.{ok_network, ok_part, part_too_large}
use Rattle.net_view.proofs.may_stand.may_stand.Goals as goal

pub returns-then-not-fits_there : goal.returns-then-not-fits_there
returns-then-not-fits_there c =
    let new : part_of c.args.new.now ≡ a_leaf (expression_of c.in-Expr-Expr.after) = ap part_of c.in-Expr-Expr.is-1 in
    subst (λ z. MayStand c.args.net.now c.args.path.now z false) (sym new)
    (part_too_large c.args.net.now c.args.path.now (seen_place c.args.spot.place) (standing_of c.args.at.now) c.args.spot.height c.args.spot.more
    (expression_of c.in-Expr-Expr.before.now) (expression_of c.in-Expr-Expr.after) c.requires.reached c.requires.around (ap seen c.in-Expr-Expr.is-0)
    (sym c.fits_there.ensures ∙ c.if-not-fits_there.true))

pub returns-else-not-fits_there : goal.returns-else-not-fits_there
returns-else-not-fits_there c =
    let new : part_of c.args.new.now ≡ a_leaf (expression_of c.in-Expr-Expr.after) = ap part_of c.in-Expr-Expr.is-1 in
    subst (λ z. IfOk c.keeps_type_at.result (MayStand c.args.net.now c.args.path.now z)) (sym new)
    (ok_part c.args.net.now c.args.path.now (seen_place c.args.spot.place) (standing_of c.args.at.now) c.args.spot.height c.args.spot.more
    (expression_of c.in-Expr-Expr.before.now) (expression_of c.in-Expr-Expr.after) c.keeps_type_at.result c.requires.reached c.requires.around
    (ap seen c.in-Expr-Expr.is-0) (sym c.fits_there.ensures ∙ c.if-not-fits_there.false)
    (subst (λ z. IfOk c.keeps_type_at.result
    (λ kept. kept ≡ type_kept (standing_of c.args.at.now) (a_leaf (expression_of c.in-Expr-Expr.before.now)) [] z)) new c.keeps_type_at.ensures))

pub returns-else-not-branch : goal.returns-else-not-branch
returns-else-not-branch c =
    let new : part_of c.args.new.now ≡ a_network (tree_of c.in-Net-Net.after) = ap part_of c.in-Net-Net.is-1 in
    let little : IsTrue c.in_ok-grows_little-in-Net-Net.field-0 = grind arith in
    subst (λ z. IfOk c.keeps_type_at-in-Net-Net.result (MayStand c.args.net.now c.args.path.now z)) (sym new)
    (ok_network c.args.net.now c.args.path.now (seen_place c.args.spot.place) (standing_of c.args.at.now) c.args.spot.height c.args.spot.more
    (tree_of c.in-Net-Net.before.now) (tree_of c.in-Net-Net.after) c.keeps_type_at-in-Net-Net.result c.requires.reached c.requires.around
    (ap seen c.in-Net-Net.is-0) c.if-spot-eq0.true (c.in_ok-grows_little-in-Net-Net.ensures little)
    (subst (λ z. IfOk c.keeps_type_at-in-Net-Net.result
    (λ kept. kept ≡ type_kept (standing_of c.args.at.now) (a_network (tree_of c.in-Net-Net.before.now)) [] z)) new c.keeps_type_at-in-Net-Net.ensures))
