-- The steps that the printer's proofs take, for `using` on its module.
use Rattle.std.proofs.Common.{◌≡◌, ℕ, List, sym, subst, Result}
use Rattle.sample_core.specs.Adding.{Adds}
use Rattle.leaf_core.specs.ExpressionView.{expression_of}
use Rattle.leaf_core.specs.declared.expr.Expr.{Expr}
use Rattle.leaf_expr.specs.Sexpr.{sexpr_spelling}
use Rattle.leaf_expr.specs.Printing.{expression_sexpr}
use Rattle.leaf_expr.proofs.Joined.{adds_behind, adds_next}

-- an expression that is another is printed as that
pub printed_as : {T E : Type 0} (r : Result T E) (old new : List ℕ) (e f : Expr) → e ≡ f → Adds r old new (sexpr_spelling (expression_sexpr (expression_of f)))
    → Adds r old new (sexpr_spelling (expression_sexpr (expression_of e)))
printed_as r old new e f i h = subst (λ x. Adds r old new (sexpr_spelling (expression_sexpr (expression_of x)))) (sym i) h

pub ruleset printing = (printed_as, adds_behind, adds_next)
