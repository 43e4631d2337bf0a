-- What a rewriting by the two patterns of a law answers, by the relation.
use Rattle.std.proofs.Common.{List, Option, Some, None, Result, Ok, Err, IfOk, MatchOption, subst}
use Rattle.leaf_core.specs.Expression.{Expression}
use Rattle.leaf_core.specs.ExpressionView.{expression_of}
use Rattle.leaf_core.specs.declared.expr.Expr.{Expr}
use Rattle.law_patterns.specs.declared.sym.Sym.{Sym}
use Rattle.law_patterns.specs.Pattern.{filled, PatternSides}
use Rattle.law_patterns.specs.Rule.{Related, RuleInstance}

-- sides of the patterns are related
pub sides-related : (P : Expression → Expression → Type 0) (left right : List Sym) (l r : Expression) → RuleInstance P left right → PatternSides left right l r → P l r
sides-related P left right l r rule sides =
    let at_left : Related P (Some l) (filled sides.letters right) = subst (λ o. Related P o (filled sides.letters right)) sides.left_is (rule.gives sides.letters) in
    subst (Related P (Some l)) sides.right_is at_left

-- what is answered, by the patterns
abbrev pub ByPatterns : {E : Type 0} → List Sym → List Sym → Expression → Result (Option Expr) E → Type 0
ByPatterns left right e x = IfOk x (λ o. MatchOption o ((r : Expression) → PatternSides left right e r → ⊥) (λ r. PatternSides left right e (expression_of r)))

-- what is answered, by the relation
abbrev pub ByRelation : {E : Type 0} → (Expression → Expression → Type 0) → Expression → Result (Option Expr) E → Type 0
ByRelation P e x = IfOk x (λ o. MatchOption o ((r : Expression) → P e r → ⊥) (λ r. P e (expression_of r)))

pub by-rule : {E : Type 0} (P : Expression → Expression → Type 0) (left right : List Sym) (e : Expression) (x : Result (Option Expr) E) → RuleInstance P left right → ByPatterns left right e x → ByRelation P e x
by-rule P left right e (Ok None) rule h = λ r p. h r (rule.comes e r p)
by-rule P left right e (Ok (Some r)) rule h = sides-related P left right e (expression_of r) rule h
by-rule P left right e (Err m) rule h = tt
