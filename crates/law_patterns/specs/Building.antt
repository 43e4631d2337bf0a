-- Building symbol by symbol.
use Rattle.std.specs.Prelude.{Bool, true, false, List, Option, Some, None}
use Rattle.leaf_core.specs.Expression.{Expression, fst, snd, event_expr, pair_expr, then_expr, neg, add, sub, mul, less, not_expr, and_expr, or_expr, if_expr, on}
use Rattle.law_patterns.specs.declared.sym.Sym.{Sym}
use Rattle.law_patterns.specs.declared.sym.Sym.TheVariants as S

-- the trees that are there, or None where some were missing
abbrev pub there : {A : Type 0} → Bool → List A → Option (List A)
there true es = Some es
there false es = None

-- the form of one part that a symbol is
abbrev pub one_form : Sym → Expression → Expression
one_form S.Fst a = fst a
one_form S.Snd a = snd a
one_form S.Neg a = neg a
one_form S.Not a = not_expr a
one_form _ a = event_expr a

-- the form of two parts
abbrev pub two_form : Sym → Expression → Expression → Expression
two_form S.Pair a b = pair_expr a b
two_form S.Then a b = then_expr a b
two_form S.Sub a b = sub a b
two_form S.Mul a b = mul a b
two_form S.Less a b = less a b
two_form S.And a b = and_expr a b
two_form S.Or a b = or_expr a b
two_form _ a b = add a b

-- the form of three parts
abbrev pub three_form : Sym → Expression → Expression → Expression → Expression
three_form S.If a b c = if_expr a b c
three_form _ a b c = on a b c
