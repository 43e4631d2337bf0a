-- A law answers exactly what its sides allow.
use Rattle.std.proofs.Common.{◌≡◌, ℕ, List, Option, Some, None, Result, Ok, Err, IfOk, MatchOption, option_map, refl, sym, ◌∙◌, subst}
use Rattle.sample_core.specs.Datum.{Datum}
use Rattle.sample_core.specs.TypeTree.{TypeTree}
use Rattle.sample_core.specs.HasType.{HasType, TypedParams}
use Rattle.leaf_core.specs.Expression.{Expression}
use Rattle.leaf_core.specs.ExpressionValue.{value_of}
use Rattle.leaf_core.specs.ExpressionTyping.{ExpressionTyped}
use Rattle.leaf_core.specs.ExpressionView.{expression_of}
use Rattle.leaf_core.specs.declared.expr.Expr.{Expr}
use Rattle.net_tree.specs.declared.law_step.Law.{Law}
use Rattle.net_tree.specs.declared.law_step.Law.TheVariants as L
use Rattle.net_tree.specs.declared.law_step.Direction.{Direction}
use Rattle.net_tree.specs.declared.law_step.Direction.TheVariants.{Forward, Backward}
use Rattle.expr_laws.specs.ExpressionLaw.{ExpressionLaw}
use Rattle.expr_laws.specs.Table.{rule_at, left_at, right_at}
use Rattle.expr_laws.specs.Answer.{ExpressionAnswer, forward_answer, backward_answer, IsExpressionAnswer, IsRightSide}
use Rattle.expr_laws.specs.declared.table.Rule.{Rule}
use Rattle.expr_laws.specs.declared.table.Rule.TheVariants as R
use Rattle.law_patterns.specs.declared.sym.Sym.{Sym}
use Rattle.law_patterns.proofs.Rules.{ByPatterns, by-rule}
use Rattle.expr_laws.proofs.NamedLaws.{IsRight}
use Rattle.expr_laws.proofs.TableLaws.{made, made-is, Stands, stands, two-patterns}
use Rattle.expr_laws.proofs.SideValues.{side_value}
use Rattle.expr_laws.proofs.Numbers.{one_right_side}

-- what a rule makes right sides of
abbrev MakesRight : ℕ → Rule → Type 0
MakesRight n rule = (e : Expression) → IsRight n e (made rule (left_at n) (right_at n) e)

only-made : (n : ℕ) (e r : Expression) (rule : Rule) → rule ≡ rule_at n → ExpressionLaw n e r → made rule (left_at n) (right_at n) e ≡ Some r
only-made n e r rule q k = subst (λ v. made v (left_at n) (right_at n) e ≡ Some r) (sym q) (made-is k)

-- a number whose rule is none has no sides
pub no-law : (n : ℕ) (e : Expression) → R.Nothing ≡ rule_at n → (r : Expression) → ExpressionLaw n e r → ⊥
no-law n e q r k = let p : None ≡ Some r = only-made n e r R.Nothing q k in absurd (cc)

right-answer : {E : Type 0} (n : ℕ) (e : Expression) (rule : Rule) (x : Result (Option Expr) E) → rule ≡ rule_at n → MakesRight n rule
    → IfOk x (λ o. option_map expression_of o ≡ made rule (left_at n) (right_at n) e) → IfOk x (IsRightSide n e)
right-answer n e rule (Ok None) q g h = λ r k. let p : None ≡ Some r = h ∙ only-made n e r rule q k in absurd (cc)
right-answer n e rule (Ok (Some r)) q g h = subst (IsRight n e) (sym h) (g e)
right-answer n e rule (Err f) q g h = tt

-- what a rule by name answers is what the law of its number does
pub by-name : {E : Type 0} (n : ℕ) (e : Expression) (rule : Rule) (x : Result (Option Expr) E) → rule ≡ rule_at n → (Stands n rule (left_at n) (right_at n) → MakesRight n rule)
    → IfOk x (λ o. option_map expression_of o ≡ made rule (left_at n) (right_at n) e) → IfOk x (IsRightSide n e)
by-name n e rule x q g h = right-answer n e rule x q (g (subst (λ v. Stands n v (left_at n) (right_at n)) (sym q) (stands n))) h

-- what two patterns answer is what the law of their number does
pub by-patterns : {E : Type 0} (n : ℕ) (e : Expression) (left right : List Sym) (x : Result (Option Expr) E) → R.Sides ≡ rule_at n → left ≡ left_at n → right ≡ right_at n
    → ByPatterns left right e x → IfOk x (IsRightSide n e)
by-patterns n e left right x q s t h =
    by-rule (ExpressionLaw n) (left_at n) (right_at n) e x (two-patterns n q) (subst (λ v. ByPatterns v (right_at n) e x) s (subst (λ v. ByPatterns left v e x) t h))

forward-none : (n : ℕ) (e : Expression) → ((r : Expression) → ExpressionLaw n e r → ⊥) → (r : Expression) → ExpressionAnswer (L.E n) Forward e None r → ⊥
forward-none n e q r (forward_answer h) = q r h

backward-none : (n : ℕ) (e g : Expression) → (ExpressionLaw n g e → ⊥) → (r : Expression) → ExpressionAnswer (L.E n) Backward e (Some g) r → ⊥
backward-none n e g q r (backward_answer h) = q h

plain-forward : {E : Type 0} (n : ℕ) (e : Expression) (x : Result (Option Expr) E) → IfOk x (IsRightSide n e) → IfOk x (IsExpressionAnswer (L.E n) Forward e None)
plain-forward n e (Ok None) h = forward-none n e h
plain-forward n e (Ok (Some r)) h = forward_answer h
plain-forward n e (Err f) h = tt

plain-backward : {E : Type 0} (n : ℕ) (e g : Expression) (x : Result (Option Expr) E)
    → IfOk x (λ o. MatchOption o (ExpressionLaw n g e → ⊥) (λ r. ExpressionLaw n g e × (expression_of r ≡ g))) → IfOk x (IsExpressionAnswer (L.E n) Backward e (Some g))
plain-backward n e g (Ok None) h = backward-none n e g h
plain-backward n e g (Ok (Some r)) h = subst (ExpressionAnswer (L.E n) Backward e (Some g)) (sym h.1) (backward_answer h.0)
plain-backward n e g (Err f) h = tt

moved : {E : Type 0} (l m : Law) (d k : Direction) (e : Expression) (g h : Option Expression) (x : Result (Option Expr) E) → l ≡ m → d ≡ k → g ≡ h → IfOk x (IsExpressionAnswer m k e h)
    → IfOk x (IsExpressionAnswer l d e g)
moved l m d k e g h x p q r a =
    subst (λ v. IfOk x (IsExpressionAnswer v d e g)) (sym p)
    (subst (λ v. IfOk x (IsExpressionAnswer m v e g)) (sym q) (subst (λ v. IfOk x (IsExpressionAnswer m k e v)) (sym r) a))

-- forward, with none given
pub forward-answered : {E : Type 0} (l : Law) (d : Direction) (n : ℕ) (e : Expression) (g : Option Expression) (x : Result (Option Expr) E) → l ≡ L.E n → d ≡ Forward → g ≡ None
    → IfOk x (IsRightSide n e) → IfOk x (IsExpressionAnswer l d e g)
forward-answered l d n e g x p q r h = moved l (L.E n) d Forward e g None x p q r (plain-forward n e x h)

-- backward, with one given
pub backward-answered : {E : Type 0} (l : Law) (d : Direction) (n : ℕ) (e v : Expression) (g : Option Expression) (x : Result (Option Expr) E) → l ≡ L.E n → d ≡ Backward → g ≡ Some v
    → IfOk x (λ o. MatchOption o (ExpressionLaw n v e → ⊥) (λ r. ExpressionLaw n v e × (expression_of r ≡ v))) → IfOk x (IsExpressionAnswer l d e g)
backward-answered l d n e v g x p q r h = moved l (L.E n) d Backward e g (Some v) x p q r (plain-backward n e v x h)

-- there is at most one answer
pub one_answer : (l : Law) (d : Direction) (e : Expression) (g : Option Expression) (r s : Expression) → ExpressionAnswer l d e g r → ExpressionAnswer l d e g s → r ≡ s
one_answer l d e g r s (forward_answer {n = n} h) (forward_answer k) = one_right_side n e r s h k
one_answer l d e g r s (backward_answer h) (backward_answer k) = refl

-- the answer, where there is one, is a right side
pub found-law : (n : ℕ) (e : Expression) (o : Option Expr) (r : Expr) → IsRightSide n e o → o ≡ Some r → ExpressionLaw n e (expression_of r)
found-law n e o r h q = subst (IsRightSide n e) q h

-- a right side that isn't e is the only one
pub other-side : (n : ℕ) (g e r : Expression) → ExpressionLaw n g r → (r ≡ e → ⊥) → ExpressionLaw n g e → ⊥
other-side n g e r h q k = q (one_right_side n g r e h k)

-- the expression at hand and the answer have one value
pub answer_value : (l : Law) (d : Direction) (e : Expression) (g : Option Expression) (r : Expression) → ExpressionAnswer l d e g r → (Ps : List TypeTree) (A B : TypeTree)
    → ExpressionTyped e Ps A B → ExpressionTyped r Ps A B → (ps : List Datum) (x : Datum) → TypedParams Ps ps → HasType x A → value_of e ps x ≡ value_of r ps x
answer_value l d e g r (forward_answer {n = n} h) Ps A B i j ps x k m = side_value n e r h Ps A B i ps x k m
answer_value l d e g r (backward_answer {n = n} h) Ps A B i j ps x k m = sym (side_value n r e h Ps A B j ps x k m)
