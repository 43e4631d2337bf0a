-- The table's laws are those of the relation.
use Rattle.std.proofs.Common.{◌≡◌, ℕ, ◌+◌, ◌≤◌, cond, length, List, [], Option, Some, None, refl, sym, ap, ◌∙◌, subst, arith}
use Rattle.std.proofs.lemmas.Bool.{le-leb}
use Rattle.sample_core.specs.TypeTree.{TypeTree, unit_ty}
use Rattle.leaf_core.specs.Expression.{Expression, input, no_more, and_then}
use Rattle.leaf_core.specs.ExpressionCode.{expression_code}
use Rattle.leaf_core.specs.EqualityByCode.{same_by, same_by_decides}
use Rattle.net_tree.specs.Network.{Network, Networks, no_members, and_member, arr, seq, par, time}
use Rattle.net_tree.specs.Place.{member}
use Rattle.net_meaning.specs.Typing.{members}
use Rattle.law_patterns.specs.declared.net_sym.NetSym.{NetSym}
use Rattle.law_patterns.specs.Matching.{going}
use Rattle.law_patterns.specs.Rule.{Related}
use Rattle.law_patterns.specs.NetMatching.{NetFound, beside, net_ended, net_built, net_rewritten}
use Rattle.law_patterns.specs.NetPattern.{NetAssignment, net_filled}
use Rattle.law_patterns.specs.NetRule.{NetRuleInstance}
use Rattle.law_patterns.proofs.NetSides.{net_rewritten-some}
use Rattle.law_patterns.proofs.Tables.{Each, each-at}
use Rattle.law_rules.specs.NetworkLaw.{behind_routes, each_after, each_arr, count, time_sees, NetworkLaw, law_l1, law_l2, law_l3, law_l4, law_l5, law_l6, law_l7, law_l8, law_l9, law_l10, law_l11, law_l12, law_l13, law_l14, law_l15, law_l16, law_l17, law_l18, law_l19, law_l20, law_l21, law_l22, law_l23, law_l24, law_l25, law_l26, law_l27, law_l28, law_l29, law_l30, law_l31, law_l32, law_l33, law_l34, law_l35, law_l36, law_l37, law_l38, law_l39, law_l40, law_l41, law_l42, law_l43, law_l44, law_l45, law_l46, law_l47, law_l48, law_l49, law_l50, law_l51, law_l52, law_l53, law_l54, law_l55, law_l56, law_l57, law_l58, law_l59, law_l60, law_l61, law_l62, law_l63, law_l64, law_l65}
use Rattle.law_rules.specs.Forward.{law20, law38, law39, law40, law41, law42, law46}
use Rattle.law_rules.specs.Table.{rule_at, left_at, right_at}
use Rattle.law_rules.specs.declared.table.Rule.{Rule}
use Rattle.law_rules.specs.declared.table.Rule.TheVariants as R
use Rattle.law_rules.specs.declared.table.TheConstants.{LAWS}
use Rattle.law_rules.proofs.NamedLaws.{IsRight, law20-gives, law38-gives, law39-gives, law40-gives, law41-gives, law42-gives, law46-gives, sees-is, same-number, in_bounds}

-- what a rule makes of a network, where so many frozen networks are in scope, if anything
abbrev pub made : Rule → ℕ → List NetSym → List NetSym → Network Expression → Option (Network Expression)
made R.Nothing olds left right n = None
made R.Sides olds left right n = net_rewritten left right n
made R.WithoutInput olds left right n = law20 n
made R.Resumed olds left right n = law38 olds n
made R.MembersApart olds left right n = law39 n
made R.OneMember olds left right n = law40 n
made R.BeforeMembers olds left right n = law41 n
made R.ElementsApart olds left right n = law42 n
made R.Unchanging olds left right n = law46 n

-- at the second place of a letter the same expression stands
again : (n : ℕ) (s : NetFound) (e : Expression) → net_built (right_at n) (net_ended (beside [] s (going (same_by expression_code e e) [] s.exprs))) ≡ net_built (right_at n) (Some s)
again n s e =
    ap (λ b. net_built (right_at n) (net_ended (beside [] s (going b [] s.exprs)))) ((same_by_decides expression_code e e).1 refl)

-- letters of which f, g and that of a type stand for these, where there are any
abbrev found_letters : Option Expression → Option Expression → Option TypeTree → NetFound
found_letters f g t = record { f = None; g = None; h = None; q = None; exprs = record { f = f; g = g; h = None; i = None; j = None; t = t } }

-- a right side is what the law of its number makes of the left one
pub made-is : {n olds : ℕ} {l r : Network Expression} → NetworkLaw n olds l r → made (rule_at n) olds (left_at n) (right_at n) l ≡ Some r
made-is (law_l20 {f = f} s) = sees-is f s
made-is (law_l23 {T = T} {c = c} {g = g}) = again 23 (found_letters (Some c) (Some g) (Some T)) g
made-is {olds = olds} (law_l38 {f = f}) = ap (λ b. cond b (Some f) None) (same-number olds)
made-is (law_l39 {r = r} {fs = fs} some few) = ap (λ b. cond b (Some (par (behind_routes r 0 fs))) None) (in_bounds (members fs) some few)
made-is (law_l40 {i = i} {fs = fs} few h) = ap (λ b. cond b (member fs i) None) (le-leb (members fs) 64 few) ∙ h
made-is (law_l41 {h = h} {fs = fs} some few) = ap (λ b. cond b (Some (par (each_after h fs))) None) (in_bounds (members fs) some few)
made-is (law_l42 {es = es} some few) = ap (λ b. cond b (Some (par (each_arr es))) None) (in_bounds (count es) some few)
made-is (law_l46 {e = e} {fs = fs} some few) = ap (λ b. cond b (Some (seq (arr e) (par fs))) None) (in_bounds (members fs) some few)
made-is (law_l53 {g = g} {z = z}) = again 53 (found_letters (Some z) (Some g) None) z
made-is (law_l64 {e = e} {v = v}) = again 64 (found_letters (Some e) (Some v) None) e
made-is (law_l65 {e = e} {v = v}) = again 65 (found_letters (Some e) (Some v) None) e
made-is law_l1 = refl
made-is _ = refl

-- sides of a law
abbrev pub SomeLaw : ℕ → ℕ → Type 0
SomeLaw olds n = (l : Network Expression) × (r : Network Expression) × NetworkLaw n olds l r

-- what stands in the table at a number: no law outside of the laws' numbers; two sides that are
-- filled to a law's; or a rule that makes right sides, and a law
abbrev pub Stands : ℕ → Rule → List NetSym → List NetSym → Type 0
Stands n R.Nothing left right = 1 ≤ n → n + 1 ≤ length LAWS → ⊥
Stands n R.Sides left right = (olds : ℕ) (a : NetAssignment) → Related (NetworkLaw n olds) (net_filled a left) (net_filled a right)
Stands n rule left right = (olds : ℕ) → SomeLaw olds n × ((net : Network Expression) → IsRight n olds net (made rule olds left right net))

infixr 5 ◌and◌
◌and◌ : {A B : Type 0} → A → B → A × B
a and b = (a, b)

found : {olds n : ℕ} {l r : Network Expression} → NetworkLaw n olds l r → SomeLaw olds n
found {l = l} {r = r} h = (l, r, h)

abbrev one_member : Networks Expression
one_member = and_member time no_members

all : Each Stands LAWS 0
all =
    (λ h k. absurd (omega (arith, h))) and
    (λ olds a. law_l1) and
    (λ olds a. law_l2) and
    (λ olds a. law_l3) and
    (λ olds a. law_l4) and
    (λ olds a. law_l5) and
    (λ olds a. law_l6) and
    (λ olds a. law_l7) and
    (λ olds a. law_l8) and
    (λ olds a. law_l9) and
    (λ olds a. law_l10) and
    (λ olds a. law_l11) and
    (λ olds a. law_l12) and
    (λ olds a. law_l13) and
    (λ olds a. law_l14) and
    (λ olds a. law_l15) and
    (λ olds a. law_l16) and
    (λ olds a. law_l17) and
    (λ olds a. law_l18) and
    (λ olds a. law_l19) and
    (λ olds. (found (law_l20 {f = time} time_sees), law20-gives olds)) and
    (λ olds a. law_l21) and
    (λ olds a. law_l22) and
    (λ olds a. law_l23) and
    (λ olds a. law_l24) and
    (λ olds a. law_l25) and
    (λ olds a. law_l26) and
    (λ olds a. law_l27) and
    (λ olds a. law_l28) and
    (λ olds a. law_l29) and
    (λ olds a. law_l30) and
    (λ olds a. law_l31) and
    (λ olds a. law_l32) and
    (λ olds a. law_l33) and
    (λ olds a. law_l34) and
    (λ olds a. law_l35) and
    (λ olds a. law_l36) and
    (λ olds a. law_l37) and
    (λ olds. (found (law_l38 {f = time} {e = time}), law38-gives olds)) and
    (λ olds. (found (law_l39 {C = unit_ty} {r = input} {fs = one_member} {t = time} (omega arith) (omega arith)), law39-gives olds)) and
    (λ olds. (found (law_l40 {i = 0} {d = input} {fs = one_member} {f = time} (omega arith) refl), law40-gives olds)) and
    (λ olds. (found (law_l41 {h = time} {fs = one_member} (omega arith) (omega arith)), law41-gives olds)) and
    (λ olds. (found (law_l42 {T = unit_ty} {es = and_then input no_more} (omega arith) (omega arith)), law42-gives olds)) and
    (λ olds a. law_l43) and
    (λ olds a. law_l44) and
    (λ olds a. law_l45) and
    (λ olds. (found (law_l46 {C = unit_ty} {e = input} {m = input} {fs = one_member} {t = time} (omega arith) (omega arith)), law46-gives olds)) and
    (λ olds a. law_l47) and
    (λ olds a. law_l48) and
    (λ olds a. law_l49) and
    (λ olds a. law_l50) and
    (λ olds a. law_l51) and
    (λ olds a. law_l52) and
    (λ olds a. law_l53) and
    (λ olds a. law_l54) and
    (λ olds a. law_l55) and
    (λ olds a. law_l56) and
    (λ olds a. law_l57) and
    (λ olds a. law_l58) and
    (λ olds a. law_l59) and
    (λ olds a. law_l60) and
    (λ olds a. law_l61) and
    (λ olds a. law_l62) and
    (λ olds a. law_l63) and
    (λ olds a. law_l64) and
    (λ olds a. law_l65) and
    tt

-- what stands at any number
pub stands : (n : ℕ) → Stands n (rule_at n) (left_at n) (right_at n)
stands n = each-at Stands LAWS R.Nothing n (λ m b h l. absurd (omega (arith, b, l))) all

-- what a law of two patterns makes is a right side, and no other is
pub two-patterns : (n olds : ℕ) → R.Sides ≡ rule_at n → NetRuleInstance (NetworkLaw n olds) (left_at n) (right_at n)
two-patterns n olds q = record {
  gives = subst (λ v. Stands n v (left_at n) (right_at n)) (sym q) (stands n) olds;
  comes = λ l r h. net_rewritten-some (left_at n) (right_at n) l r (subst (λ v. made v olds (left_at n) (right_at n) l ≡ Some r) (sym q) (made-is h));
}

some-related : (n olds : ℕ) (l r : Option (Network Expression)) → Related (NetworkLaw n olds) l r → SomeLaw olds n
some-related n olds (Some l) (Some r) h = (l, r, h)
some-related n olds _ _ h = absurd h

-- where a law stands there are sides
pub some-law : (n olds : ℕ) (rule : Rule) (left right : List NetSym) → 1 ≤ n → n + 1 ≤ length LAWS → Stands n rule left right → SomeLaw olds n
some-law n olds R.Nothing left right p q h = absurd (h p q)
some-law n olds R.Sides left right p q h =
    let a : NetAssignment = record { f = time; g = time; h = time; q = 0; exprs = record { f = input; g = input; h = input; i = input; j = input; t = unit_ty } } in
    some-related n olds (net_filled a left) (net_filled a right) (h olds a)
some-law n olds _ left right p q h = (h olds).0
