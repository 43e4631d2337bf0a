-- Matching symbol by symbol.
use Rattle.std.specs.Prelude.{Bool, true, false, not, List, [], ◌∷◌, map, Option, Some, None}
use Rattle.std.specs.Ordering.{int_eq}
use Rattle.std.proofs.Common.{Bor}
use Rattle.sample_core.specs.TypeTree.{TypeTree, unit_ty}
use Rattle.sample_core.specs.TypeCode.{type_code}
use Rattle.sample_core.specs.TypeView.{type_of}
use Rattle.sample_core.specs.declared.ty.Ty.{Ty}
use Rattle.leaf_core.specs.Expression.{Expression, input, unit_expr, bool_expr, int_expr, no_event_expr, fst, snd, event_expr, pair_expr, then_expr, neg, add, sub, mul, less, not_expr, and_expr, or_expr, if_expr, on}
use Rattle.leaf_core.specs.ExpressionCode.{expression_code}
use Rattle.leaf_core.specs.EqualityByCode.{same_by}
use Rattle.leaf_core.specs.ExpressionView.{expression_of}
use Rattle.leaf_core.specs.declared.expr.Expr.{Expr}
use Rattle.law_patterns.specs.declared.sym.Letter.{Letter}
use Rattle.law_patterns.specs.declared.sym.Letter.TheVariants as L
use Rattle.law_patterns.specs.declared.sym.Sym.{Sym}
use Rattle.law_patterns.specs.declared.sym.Sym.TheVariants as S
use Rattle.law_patterns.specs.declared.letters.Letters.{Letters}
use Rattle.law_patterns.specs.Pattern.{Assignment, filled}

-- the trees that letters have by now
pub record FoundLetters : Type 0 where
  pub f : Option Expression
  pub g : Option Expression
  pub h : Option Expression
  pub i : Option Expression
  pub j : Option Expression
  pub t : Option TypeTree

-- no letter has a tree
abbrev pub nothing_found : FoundLetters
nothing_found = record { f = None; g = None; h = None; i = None; j = None; t = None }

-- the expression that the code holds, if there is one
abbrev pub held_expression : Option (Bor Expr) → Option Expression
held_expression None = None
held_expression (Some e) = Some (expression_of e.now)

-- the expressions that the code has on a stack
abbrev pub todo_of : List (Bor Expr) → List Expression
todo_of es = map (λ e. expression_of e.now) es

-- the type that the code holds, if there is one
abbrev pub held_type : Option (Bor Ty) → Option TypeTree
held_type None = None
held_type (Some t) = Some (type_of t.now)

-- what the code's `Letters` hold
abbrev pub found_of : Letters → FoundLetters
found_of s = record {
  f = held_expression s.f;
  g = held_expression s.g;
  h = held_expression s.h;
  i = held_expression s.i;
  j = held_expression s.j;
  t = held_type s.t;
}

-- the expression of a letter, if it has one
abbrev pub found_at : FoundLetters → Letter → Option Expression
found_at s L.F = s.f
found_at s L.G = s.g
found_at s L.H = s.h
found_at s L.I = s.i
found_at s L.J = s.j

-- with this expression for a letter
abbrev pub found_with : FoundLetters → Letter → Expression → FoundLetters
found_with s L.F e = record s { f = Some e }
found_with s L.G e = record s { g = Some e }
found_with s L.H e = record s { h = Some e }
found_with s L.I e = record s { i = Some e }
found_with s L.J e = record s { j = Some e }

-- how far a match has come: the expressions that are still to be matched, and the trees of the
-- letters
pub data Matching : Type 0 where
  failed : Matching
  matching : List Expression → FoundLetters → Matching

-- a match that goes on, or has failed
abbrev pub going : Bool → List Expression → FoundLetters → Matching
going true es s = matching es s
going false es s = failed

-- a letter that had that expression, if any, at this one
abbrev pub letter_bound : Option Expression → Letter → Expression → List Expression → FoundLetters → Matching
letter_bound None k e es s = matching es (found_with s k e)
letter_bound (Some d) k e es s = going (same_by expression_code d e) es s

-- the type letter, which had that type, if any, at this one
abbrev pub bound_type : Option TypeTree → TypeTree → List Expression → FoundLetters → Matching
bound_type None t es s = matching es (record s { t = Some t })
bound_type (Some u) t es s = going (same_by type_code u t) es s

-- one of the two truth values
abbrev pub same_truth : Bool → Bool → Bool
same_truth true b = b
same_truth false b = not b

-- a symbol at an expression: the parts of a form are to be matched next
abbrev pub met : Sym → Expression → List Expression → FoundLetters → Matching
met (S.Letter k) e es s = letter_bound (found_at s k) k e es s
met S.Input input es s = matching es s
met S.Unit unit_expr es s = matching es s
met (S.Truth b) (bool_expr c) es s = going (same_truth b c) es s
met (S.Number n) (int_expr m) es s = going (int_eq n m) es s
met S.NoEvent (no_event_expr t) es s = bound_type s.t t es s
met S.Fst (fst d) es s = matching (d ∷ es) s
met S.Snd (snd d) es s = matching (d ∷ es) s
met S.Event (event_expr d) es s = matching (d ∷ es) s
met S.Pair (pair_expr c d) es s = matching (c ∷ d ∷ es) s
met S.Then (then_expr c d) es s = matching (c ∷ d ∷ es) s
met S.Neg (neg d) es s = matching (d ∷ es) s
met S.Not (not_expr d) es s = matching (d ∷ es) s
met S.Add (add c d) es s = matching (c ∷ d ∷ es) s
met S.Sub (sub c d) es s = matching (c ∷ d ∷ es) s
met S.Mul (mul c d) es s = matching (c ∷ d ∷ es) s
met S.Less (less c d) es s = matching (c ∷ d ∷ es) s
met S.And (and_expr c d) es s = matching (c ∷ d ∷ es) s
met S.Or (or_expr c d) es s = matching (c ∷ d ∷ es) s
met S.If (if_expr b c d) es s = matching (b ∷ c ∷ d ∷ es) s
met S.On (on b c d) es s = matching (b ∷ c ∷ d ∷ es) s
met _ _ es s = failed

-- one symbol of a pattern
abbrev pub step : Sym → Matching → Matching
step y failed = failed
step y (matching [] s) = failed
step y (matching (e ∷ es) s) = met y e es s

-- a pattern, symbol by symbol
abbrev pub matched : List Sym → Matching → Matching
matched [] m = m
matched (y ∷ ys) m = matched ys (step y m)

-- the trees of the letters at the end, where nothing is left to match
abbrev pub ended : Matching → Option FoundLetters
ended (matching [] s) = Some s
ended _ = None

-- the trees of the letters where the pattern fits the expressions
abbrev pub fitted : List Sym → List Expression → FoundLetters → Option FoundLetters
fitted pattern es s = ended (matched pattern (matching es s))

-- the expression, or `x`
abbrev pub or_input : Option Expression → Expression
or_input (Some e) = e
or_input None = input

-- the type, or `Unit`
abbrev pub or_unit : Option TypeTree → TypeTree
or_unit (Some t) = t
or_unit None = unit_ty

-- trees for all letters: a letter that has none stands for `x`, or for `Unit`
abbrev pub completed : FoundLetters → Assignment
completed s = record {
  f = or_input s.f;
  g = or_input s.g;
  h = or_input s.h;
  i = or_input s.i;
  j = or_input s.j;
  t = or_unit s.t;
}

-- the right side, with the trees that were found
abbrev pub built : List Sym → Option FoundLetters → Option Expression
built right None = None
built right (Some s) = filled (completed s) right

-- what matching the left side and building the right side makes of an expression
abbrev pub rewritten : List Sym → List Sym → Expression → Option Expression
rewritten left right e = built right (fitted left (e ∷ []) nothing_found)
