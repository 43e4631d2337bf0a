-- The table's laws are those of the relation.
use Rattle.std.proofs.Common.{◌≡◌, ℕ, ◌+◌, ◌≤◌, pos, cond, length, List, [], ◌∷◌, Option, Some, None, refl, sym, ap, subst, arith}
use Rattle.sample_core.specs.Datum.{unit}
use Rattle.sample_core.specs.TypeTree.{unit_ty}
use Rattle.leaf_core.specs.Expression.{Expression, input, no_more}
use Rattle.leaf_core.specs.ExpressionCode.{expression_code}
use Rattle.leaf_core.specs.ExpressionValue.{value_of}
use Rattle.leaf_core.specs.EqualityByCode.{same_by, same_by_decides}
use Rattle.law_patterns.specs.declared.sym.Sym.{Sym}
use Rattle.law_patterns.specs.declared.sym.TheConstants.{G, H, I}
use Rattle.law_patterns.specs.Matching.{FoundLetters, matching, going, matched, ended, built, rewritten}
use Rattle.law_patterns.specs.Pattern.{Assignment, filled}
use Rattle.law_patterns.specs.Rule.{Related, RuleInstance}
use Rattle.law_patterns.proofs.Sides.{rewritten-some}
use Rattle.law_patterns.proofs.Tables.{Each, each-at}
use Rattle.expr_laws.specs.ExpressionLaw.{literal_for, neg_spread, unit_constant, equal_units, ExpressionLaw, law_e1, law_e2, law_e3, law_e4, law_e5, law_e6, law_e7, law_e8, law_e9, law_e10, law_e11, law_e12, law_e13, law_e14, law_e15, law_e16, law_e17, law_e18, law_e19, law_e20, law_e21, law_e22, law_e23, law_e24, law_e25, law_e26, law_e27, law_e28, law_e29, law_e30, law_e31, law_e32, law_e33, law_e34, law_e35, law_e36, law_e37, law_e38, law_e39, law_e40, law_e41, law_e42, law_e43, law_e44, law_e45, law_e46, law_e47, law_e48, law_e49, law_e50, law_e51, law_e52, law_e53, law_e54, law_e55, neg_lifted, and_true, equal_same}
use Rattle.expr_laws.specs.Direct.{law4, law6, law15, law18, law23, law26, law49}
use Rattle.expr_laws.specs.Table.{rule_at, left_at, right_at}
use Rattle.expr_laws.specs.declared.table.Rule.{Rule}
use Rattle.expr_laws.specs.declared.table.Rule.TheVariants as R
use Rattle.expr_laws.specs.declared.table.TheConstants.{LAWS}
use Rattle.expr_laws.proofs.NamedLaws.{IsRight, law4-gives, law6-gives, law15-gives, law18-gives, law23-gives, law26-gives, spread-is, constant-is, on_literals-is, turned-is, compared-is}
use Rattle.expr_laws.proofs.Lifting.{law49-gives, lifted-is}

-- what a rule makes of an expression, if anything
abbrev pub made : Rule → List Sym → List Sym → Expression → Option Expression
made R.Nothing left right e = None
made R.Sides left right e = rewritten left right e
made R.Spread left right e = law4 e
made R.Constant left right e = law6 e
made R.Compute left right e = law15 e
made R.Pick left right e = law18 e
made R.Turn left right e = law23 e
made R.Compare left right e = law26 e
made R.Lift left right e = law49 e

-- at the second place of a letter the same expression stands
again : (n : ℕ) (s : FoundLetters) (e : Expression) → built (right_at n) (ended (going (same_by expression_code e e) [] s)) ≡ built (right_at n) (Some s)
again n s e = ap (λ b. built (right_at n) (ended (going b [] s))) ((same_by_decides expression_code e e).1 refl)

-- the same with more of the pattern and of the expressions behind it
again-before : (n : ℕ) (ys : List Sym) (es : List Expression) (s : FoundLetters) (e : Expression)
    → built (right_at n) (ended (matched ys (going (same_by expression_code e e) es s))) ≡ built (right_at n) (ended (matched ys (matching es s)))
again-before n ys es s e = ap (λ b. built (right_at n) (ended (matched ys (going b es s)))) ((same_by_decides expression_code e e).1 refl)

-- a right side is what the law of its number makes of the left one
pub made-is : {n : ℕ} {l r : Expression} → ExpressionLaw n l r → made (rule_at n) (left_at n) (right_at n) l ≡ Some r
made-is (law_e4 s) = spread-is s
made-is (law_e6 {k = k} c) = ap (λ b. cond b (Some k) None) (constant-is c)
made-is (law_e9 {e = e}) = again 9 _ e
made-is (law_e12 {e = e}) = again 12 _ e
made-is (law_e15 {o = o} c) = ap (λ b. cond b (Some (literal_for (value_of o [] unit))) None) (on_literals-is c)
made-is (law_e23 t) = turned-is t
made-is (law_e26 c) = compared-is c
made-is (law_e33 {a = a}) = again 33 _ a
made-is (law_e34 {a = a}) = again 34 _ a
made-is (law_e35 {a = a}) = again 35 _ a
made-is (law_e36 {a = a}) = again 36 _ a
made-is (law_e39 {a = a}) = again 39 _ a
made-is (law_e40 {a = a}) = again 40 _ a
made-is (law_e47 {c = c} {a = a} {b = b} {d = d}) = again-before 47 (G ∷ H ∷ I ∷ []) (a ∷ b ∷ d ∷ []) _ c
made-is (law_e48 {c = c} {b = b} {d = d}) = again-before 48 (H ∷ I ∷ []) (b ∷ d ∷ []) _ c
made-is (law_e49 c) = lifted-is c
made-is (law_e52 {d = d}) = again 52 _ d
made-is law_e1 = refl
made-is _ = refl

abbrev pub SomeLaw : ℕ → Type 0
SomeLaw n = (l : Expression) × (r : Expression) × ExpressionLaw n l r

-- what stands in the table at a number: no law outside of the laws' numbers; two sides that are
-- filled to a law's; or a rule that makes right sides, and a law
abbrev pub Stands : ℕ → Rule → List Sym → List Sym → Type 0
Stands n R.Nothing left right = 1 ≤ n → n + 1 ≤ length LAWS → ⊥
Stands n R.Sides left right = (a : Assignment) → Related (ExpressionLaw n) (filled a left) (filled a right)
Stands n rule left right = SomeLaw n × ((e : Expression) → IsRight n e (made rule left right e))

infixr 5 ◌and◌
◌and◌ : {A B : Type 0} → A → B → A × B
a and b = (a, b)

found : {n : ℕ} {l r : Expression} → ExpressionLaw n l r → SomeLaw n
found {l = l} {r = r} h = (l, r, h)

all : Each Stands LAWS 0
all =
    (λ h k. absurd (omega (arith, h))) and
    (λ a. law_e1) and
    (λ a. law_e2) and
    (λ a. law_e3) and
    (found (law_e4 {f = input} (neg_spread {a = input})), law4-gives) and
    (λ a. law_e5) and
    (found (law_e6 {f = input} unit_constant), law6-gives) and
    (λ a. law_e7) and
    (λ a. law_e8) and
    (λ a. law_e9) and
    (λ a. law_e10) and
    (λ a. law_e11) and
    (λ a. law_e12) and
    (λ a. law_e13) and
    (λ a. law_e14) and
    (found (law_e15 equal_units), law15-gives) and
    (λ a. law_e16) and
    (λ a. law_e17) and
    (found (law_e18 {T = unit_ty} {e = input} {es = no_more} {i = pos 0} {d = input}), law18-gives) and
    (λ a. law_e19) and
    (λ a. law_e20) and
    (λ a. law_e21) and
    (λ a. law_e22) and
    (found (law_e23 (and_true {b = input})), law23-gives) and
    (λ a. law_e24) and
    (λ a. law_e25) and
    (found (law_e26 (equal_same {a = input})), law26-gives) and
    (λ a. law_e27) and
    (λ a. law_e28) and
    (λ a. law_e29) and
    (λ a. law_e30) and
    (λ a. law_e31) and
    (λ a. law_e32) and
    (λ a. law_e33) and
    (λ a. law_e34) and
    (λ a. law_e35) and
    (λ a. law_e36) and
    (λ a. law_e37) and
    (λ a. law_e38) and
    (λ a. law_e39) and
    (λ a. law_e40) and
    (λ a. law_e41) and
    (λ a. law_e42) and
    (λ a. law_e43) and
    (λ a. law_e44) and
    (λ a. law_e45) and
    (λ a. law_e46) and
    (λ a. law_e47) and
    (λ a. law_e48) and
    (found (law_e49 (neg_lifted {c = input} {a = input} {b = input})), law49-gives) and
    (λ a. law_e50) and
    (λ a. law_e51) and
    (λ a. law_e52) and
    (λ a. law_e53) and
    (λ a. law_e54) and
    (λ a. law_e55) and
    tt

-- what stands at any number
pub stands : (n : ℕ) → Stands n (rule_at n) (left_at n) (right_at n)
stands n = each-at Stands LAWS R.Nothing n (λ m b h l. absurd (omega (arith, b, l))) all

-- what a law of two patterns makes is a right side, and no other is
pub two-patterns : (n : ℕ) → R.Sides ≡ rule_at n → RuleInstance (ExpressionLaw n) (left_at n) (right_at n)
two-patterns n q = record {
  gives = subst (λ v. Stands n v (left_at n) (right_at n)) (sym q) (stands n);
  comes = λ l r h. rewritten-some (left_at n) (right_at n) l r (subst (λ v. made v (left_at n) (right_at n) l ≡ Some r) (sym q) (made-is h));
}

some-related : (n : ℕ) (l r : Option Expression) → Related (ExpressionLaw n) l r → SomeLaw n
some-related n (Some l) (Some r) h = (l, r, h)
some-related n _ _ h = absurd h

-- where a law stands there are sides
pub some-law : (n : ℕ) (rule : Rule) (left right : List Sym) → 1 ≤ n → n + 1 ≤ length LAWS → Stands n rule left right → SomeLaw n
some-law n R.Nothing left right p q h = absurd (h p q)
some-law n R.Sides left right p q h =
    let a : Assignment = record { f = input; g = input; h = input; i = input; j = input; t = unit_ty } in
    some-related n (filled a left) (filled a right) (h a)
some-law n _ left right p q h = h.0
