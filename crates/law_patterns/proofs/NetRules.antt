-- What a rewriting by the two patterns of a law answers, by the relation.
use Rattle.std.proofs.Common.{List, Option, Some, None, Result, Ok, Err, IfOk, MatchOption, subst}
use Rattle.leaf_core.specs.Expression.{Expression}
use Rattle.leaf_core.specs.declared.expr.Expr.{Expr}
use Rattle.net_tree.specs.Network.{Network}
use Rattle.net_tree.specs.NetworkView.{tree_of}
use Rattle.net_tree.specs.declared.net.Net.{Net}
use Rattle.law_patterns.specs.declared.net_sym.NetSym.{NetSym}
use Rattle.law_patterns.specs.NetPattern.{net_filled, NetPatternSides}
use Rattle.law_patterns.specs.Rule.{Related}
use Rattle.law_patterns.specs.NetRule.{NetRuleInstance}

-- sides of the patterns are related
pub net_sides-related : (P : Network Expression → Network Expression → Type 0) (left right : List NetSym) (l r : Network Expression) → NetRuleInstance P left right → NetPatternSides left right l r → P l r
net_sides-related P left right l r rule sides =
    let at_left : Related P (Some l) (net_filled sides.letters right) = subst (λ o. Related P o (net_filled sides.letters right)) sides.left_is (rule.gives sides.letters) in
    subst (Related P (Some l)) sides.right_is at_left

-- what is answered, by the patterns
abbrev pub ByNetPatterns : {E : Type 0} → List NetSym → List NetSym → Network Expression → Result (Option (Net Expr)) E → Type 0
ByNetPatterns left right n x =
    IfOk x (λ o. MatchOption o ((r : Network Expression) → NetPatternSides left right n r → ⊥) (λ r. NetPatternSides left right n (tree_of r)))

-- what is answered, by the relation
abbrev pub ByNetRelation : {E : Type 0} → (Network Expression → Network Expression → Type 0) → Network Expression → Result (Option (Net Expr)) E → Type 0
ByNetRelation P n x = IfOk x (λ o. MatchOption o ((r : Network Expression) → P n r → ⊥) (λ r. P n (tree_of r)))

pub by-net_rule : {E : Type 0} (P : Network Expression → Network Expression → Type 0) (left right : List NetSym) (n : Network Expression) (x : Result (Option (Net Expr)) E)
    → NetRuleInstance P left right → ByNetPatterns left right n x → ByNetRelation P n x
by-net_rule P left right n (Ok None) rule h = λ r p. h r (rule.comes n r p)
by-net_rule P left right n (Ok (Some r)) rule h = net_sides-related P left right n (tree_of r) rule h
by-net_rule P left right n (Err m) rule h = tt
