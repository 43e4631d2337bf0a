-- A law answers exactly what its sides allow.
use Rattle.std.proofs.Common.{◌≡◌, ℕ, List, length, Option, Some, None, Result, Ok, Err, IfOk, MatchOption, option_map, refl, sym, ◌∙◌, subst}
use Rattle.sample_core.specs.TypeTree.{TypeTree}
use Rattle.leaf_core.specs.Expression.{Expression}
use Rattle.leaf_core.specs.ExpressionValue.{value_of}
use Rattle.leaf_core.specs.declared.expr.Expr.{Expr}
use Rattle.net_tree.specs.Network.{Network}
use Rattle.net_tree.specs.NetworkView.{tree_of}
use Rattle.net_meaning.specs.Typing.{Arrow}
use Rattle.net_meaning.specs.TypedNetwork.{NetTyped}
use Rattle.net_meaning.specs.Sameness.{SameNet}
use Rattle.net_tree.specs.declared.net.Net.{Net}
use Rattle.net_tree.specs.declared.law_step.Law.{Law}
use Rattle.net_tree.specs.declared.law_step.Law.TheVariants as L
use Rattle.net_tree.specs.declared.law_step.Direction.{Direction}
use Rattle.net_tree.specs.declared.law_step.Direction.TheVariants.{Forward, Backward}
use Rattle.law_rules.specs.NetworkLaw.{NetworkLaw}
use Rattle.law_rules.specs.Answer.{NetworkAnswer, forward_answer, backward_answer, IsNetworkAnswer, IsNetworkRightSide}
use Rattle.law_rules.proofs.SameSides.{same-sides, same-sides_back}
use Rattle.law_patterns.specs.declared.net_sym.NetSym.{NetSym}
use Rattle.law_patterns.proofs.NetRules.{ByNetPatterns, by-net_rule}
use Rattle.law_rules.specs.Table.{rule_at, left_at, right_at}
use Rattle.law_rules.specs.declared.table.Rule.{Rule}
use Rattle.law_rules.specs.declared.table.Rule.TheVariants as R
use Rattle.law_rules.proofs.NamedLaws.{IsRight}
use Rattle.law_rules.proofs.TableLaws.{made, made-is, Stands, stands, two-patterns}
use Rattle.law_rules.proofs.Numbers.{one-right_side}

-- what a rule makes right sides of
abbrev MakesRight : ℕ → ℕ → Rule → Type 0
MakesRight n olds rule = (net : Network Expression) → IsRight n olds net (made rule olds (left_at n) (right_at n) net)

only-made : (n olds : ℕ) (net r : Network Expression) (rule : Rule) → rule ≡ rule_at n → NetworkLaw n olds net r → made rule olds (left_at n) (right_at n) net ≡ Some r
only-made n olds net r rule q k = subst (λ v. made v olds (left_at n) (right_at n) net ≡ Some r) (sym q) (made-is k)

-- a number whose rule is none has no sides
pub no-law : (n olds : ℕ) (net : Network Expression) → R.Nothing ≡ rule_at n → (r : Network Expression) → NetworkLaw n olds net r → ⊥
no-law n olds net q r k = let p : None ≡ Some r = only-made n olds net r R.Nothing q k in absurd (cc)

right-answer : {E : Type 0} (n olds : ℕ) (net : Network Expression) (rule : Rule) (x : Result (Option (Net Expr)) E) → rule ≡ rule_at n → MakesRight n olds rule
    → IfOk x (λ o. option_map tree_of o ≡ made rule olds (left_at n) (right_at n) net) → IfOk x (IsNetworkRightSide n olds net)
right-answer n olds net rule (Ok None) q g h = λ r k. let p : None ≡ Some r = h ∙ only-made n olds net r rule q k in absurd (cc)
right-answer n olds net rule (Ok (Some r)) q g h = subst (IsRight n olds net) (sym h) (g net)
right-answer n olds net rule (Err f) q g h = tt

-- what a rule by name answers is what the law of its number does
pub by-name : {E : Type 0} (n olds : ℕ) (net : Network Expression) (rule : Rule) (x : Result (Option (Net Expr)) E) → rule ≡ rule_at n → (Stands n rule (left_at n) (right_at n) → MakesRight n olds rule)
    → IfOk x (λ o. option_map tree_of o ≡ made rule olds (left_at n) (right_at n) net) → IfOk x (IsNetworkRightSide n olds net)
by-name n olds net rule x q g h = right-answer n olds net rule x q (g (subst (λ v. Stands n v (left_at n) (right_at n)) (sym q) (stands n))) h

-- what two patterns answer is what the law of their number does
pub by-patterns : {E : Type 0} (n olds : ℕ) (net : Network Expression) (left right : List NetSym) (x : Result (Option (Net Expr)) E) → R.Sides ≡ rule_at n → left ≡ left_at n → right ≡ right_at n
    → ByNetPatterns left right net x → IfOk x (IsNetworkRightSide n olds net)
by-patterns n olds net left right x q s t h =
    by-net_rule (NetworkLaw n olds) (left_at n) (right_at n) net x (two-patterns n olds q) (subst (λ v. ByNetPatterns v (right_at n) net x) s (subst (λ v. ByNetPatterns left v net x) t h))

forward-none : (n olds : ℕ) (net : Network Expression) → ((r : Network Expression) → NetworkLaw n olds net r → ⊥) → (r : Network Expression) → NetworkAnswer (L.L n) Forward net None olds r → ⊥
forward-none n olds net q r (forward_answer h) = q r h

backward-none : (n olds : ℕ) (net g : Network Expression) → (NetworkLaw n olds g net → ⊥) → (r : Network Expression) → NetworkAnswer (L.L n) Backward net (Some g) olds r → ⊥
backward-none n olds net g q r (backward_answer h) = q h

plain-forward : {E : Type 0} (n olds : ℕ) (net : Network Expression) (x : Result (Option (Net Expr)) E) → IfOk x (IsNetworkRightSide n olds net) → IfOk x (IsNetworkAnswer (L.L n) Forward net None olds)
plain-forward n olds net (Ok None) h = forward-none n olds net h
plain-forward n olds net (Ok (Some r)) h = forward_answer h
plain-forward n olds net (Err f) h = tt

-- the network that is given, where the law leads from it to the one at hand
abbrev IsGivenBack : ℕ → ℕ → Network Expression → Network Expression → Option (Net Expr) → Type 0
IsGivenBack n olds net g o = MatchOption o (NetworkLaw n olds g net → ⊥) (λ r. NetworkLaw n olds g net × (tree_of r ≡ g))

plain-backward : {E : Type 0} (n olds : ℕ) (net g : Network Expression) (x : Result (Option (Net Expr)) E) → IfOk x (IsGivenBack n olds net g)
    → IfOk x (IsNetworkAnswer (L.L n) Backward net (Some g) olds)
plain-backward n olds net g (Ok None) h = backward-none n olds net g h
plain-backward n olds net g (Ok (Some r)) h = subst (NetworkAnswer (L.L n) Backward net (Some g) olds) (sym h.1) (backward_answer h.0)
plain-backward n olds net g (Err f) h = tt

moved : {E : Type 0} (l m : Law) (d k : Direction) (net : Network Expression) (g h : Option (Network Expression)) (olds : ℕ) (x : Result (Option (Net Expr)) E) → l ≡ m → d ≡ k → g ≡ h
    → IfOk x (IsNetworkAnswer m k net h olds) → IfOk x (IsNetworkAnswer l d net g olds)
moved l m d k net g h olds x p q r a =
    subst (λ v. IfOk x (IsNetworkAnswer v d net g olds)) (sym p)
    (subst (λ v. IfOk x (IsNetworkAnswer m v net g olds)) (sym q) (subst (λ v. IfOk x (IsNetworkAnswer m k net v olds)) (sym r) a))

-- forward, with none given
pub forward-answered : {E : Type 0} (l : Law) (d : Direction) (n : ℕ) (net : Network Expression) (g : Option (Network Expression)) (olds : ℕ) (x : Result (Option (Net Expr)) E)
    → l ≡ L.L n → d ≡ Forward → g ≡ None → IfOk x (IsNetworkRightSide n olds net) → IfOk x (IsNetworkAnswer l d net g olds)
forward-answered l d n net g olds x p q r h = moved l (L.L n) d Forward net g None olds x p q r (plain-forward n olds net x h)

-- backward, with one given
pub backward-answered : {E : Type 0} (l : Law) (d : Direction) (n : ℕ) (net v : Network Expression) (g : Option (Network Expression)) (olds : ℕ) (x : Result (Option (Net Expr)) E)
    → l ≡ L.L n → d ≡ Backward → g ≡ Some v → IfOk x (IsGivenBack n olds net v) → IfOk x (IsNetworkAnswer l d net g olds)
backward-answered l d n net v g olds x p q r h = moved l (L.L n) d Backward net g (Some v) olds x p q r (plain-backward n olds net v x h)

-- there is at most one answer
pub one_answer : (l : Law) (d : Direction) (net : Network Expression) (g : Option (Network Expression)) (olds : ℕ) (r s : Network Expression) → NetworkAnswer l d net g olds r
    → NetworkAnswer l d net g olds s → r ≡ s
one_answer l d net g olds r s (forward_answer {n = n} h) (forward_answer k) = one-right_side n olds net r s h k
one_answer l d net g olds r s (backward_answer h) (backward_answer k) = refl

-- the answer, where there is one, is a right side
pub found-law : (n olds : ℕ) (net : Network Expression) (o : Option (Net Expr)) (r : Net Expr) → IsNetworkRightSide n olds net o → o ≡ Some r → NetworkLaw n olds net (tree_of r)
found-law n olds net o r h q = subst (IsNetworkRightSide n olds net) q h

-- a right side that isn't the network is the only one
pub other-side : (n olds : ℕ) (g net r : Network Expression) → NetworkLaw n olds g r → (r ≡ net → ⊥) → NetworkLaw n olds g net → ⊥
other-side n olds g net r h q k = q (one-right_side n olds g r net h k)

-- the network at hand and the answer do the same
pub same_answer : (l : Law) (d : Direction) (net : Network Expression) (g : Option (Network Expression)) (olds : ℕ) (r : Network Expression) → NetworkAnswer l d net g olds r
    → (Ps : List TypeTree) (Os : List Arrow) (A B : TypeTree) → length Os ≡ olds → NetTyped Ps Os net A B → NetTyped Ps Os r A B → SameNet value_of Ps Os A B net r
same_answer l d net g olds r (forward_answer {n = n} h) Ps Os A B q i j = same-sides n olds Ps Os A B net r h q i j
same_answer l d net g olds r (backward_answer {n = n} h) Ps Os A B q i j = same-sides_back n olds Ps Os A B r net h q j i
