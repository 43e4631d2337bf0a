use Rattle.std.proofs.Common.{◌≡◌, ◌↔◌, IsTrue, ap₂, subst}
use Rattle.expr_laws.proofs.NamedLaws.{same-made, other-made}
use Rattle.expr_laws.proofs.compare.turned_equal.Goals as goal

pub returns-then-same_expr : goal.returns-then-same_expr
returns-then-same_expr c =
    let h : IsTrue c.same_expr.result ↔ (c.args.a.now ≡ c.args.b.now) = subst (λ t. IsTrue c.same_expr.result ↔ t) (ap₂ (λ d e. d ≡ e) c.get.ensures c.get-2.ensures) c.same_expr.ensures in
    same-made c.args.a.now c.args.b.now c.same_expr.result h c.if-same_expr.true

pub returns : goal.returns
returns c =
    let h : IsTrue c.same_expr.result ↔ (c.args.a.now ≡ c.args.b.now) = subst (λ t. IsTrue c.same_expr.result ↔ t) (ap₂ (λ d e. d ≡ e) c.get.ensures c.get-2.ensures) c.same_expr.ensures in
    other-made c.args.a.now c.args.b.now c.in_ok-first.first c.in_ok-second.second c.same_expr.result h c.if-same_expr.false c.in_ok-first.ensures c.in_ok-second.ensures
