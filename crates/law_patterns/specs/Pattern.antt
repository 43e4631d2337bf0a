-- Patterns of expressions: what they stand for, and the laws that pairs of them make.
use Rattle.std.specs.Prelude.{◌≡◌, List, [], ◌∷◌, Option, Some, None}
use Rattle.sample_core.specs.TypeTree.{TypeTree}
use Rattle.leaf_core.specs.Expression.{Expression, input, unit_expr, bool_expr, int_expr, no_event_expr, fst, snd, event_expr, pair_expr, then_expr, neg, add, sub, mul, less, not_expr, and_expr, or_expr, if_expr, on}
use Rattle.law_patterns.specs.declared.sym.Letter.{Letter}
use Rattle.law_patterns.specs.declared.sym.Letter.TheVariants as L
use Rattle.law_patterns.specs.declared.sym.Sym.{Sym}
use Rattle.law_patterns.specs.declared.sym.Sym.TheVariants as S

-- a choice of trees for the letters: expressions f, g, h, i and j, and a type t
pub record Assignment : Type 0 where
  pub f : Expression
  pub g : Expression
  pub h : Expression
  pub i : Expression
  pub j : Expression
  pub t : TypeTree

-- the expression that a letter stands for
abbrev pub letter_choice : Assignment → Letter → Expression
letter_choice a L.F = a.f
letter_choice a L.G = a.g
letter_choice a L.H = a.h
letter_choice a L.I = a.i
letter_choice a L.J = a.j

-- a form of one part, around the first of some trees; None if there is none
abbrev pub around_one : {A : Type 0} → (A → A) → List A → Option (List A)
around_one form (d ∷ es) = Some (form d ∷ es)
around_one form _ = None

-- a form of two parts, around the first two
abbrev pub around_two : {A : Type 0} → (A → A → A) → List A → Option (List A)
around_two form (c ∷ d ∷ es) = Some (form c d ∷ es)
around_two form _ = None

-- a form of three parts, around the first three
abbrev pub around_three : {A : Type 0} → (A → A → A → A) → List A → Option (List A)
around_three form (b ∷ c ∷ d ∷ es) = Some (form b c d ∷ es)
around_three form _ = None

-- a symbol before expressions, of which a form takes the first ones as its parts; None where there
-- are too few
abbrev pub put_before : Assignment → Sym → List Expression → Option (List Expression)
put_before a (S.Letter k) es = Some (letter_choice a k ∷ es)
put_before a S.Input es = Some (input ∷ es)
put_before a S.Unit es = Some (unit_expr ∷ es)
put_before a (S.Truth b) es = Some (bool_expr b ∷ es)
put_before a (S.Number n) es = Some (int_expr n ∷ es)
put_before a S.NoEvent es = Some (no_event_expr a.t ∷ es)
put_before a S.Fst es = around_one fst es
put_before a S.Snd es = around_one snd es
put_before a S.Event es = around_one event_expr es
put_before a S.Pair es = around_two pair_expr es
put_before a S.Then es = around_two then_expr es
put_before a S.Neg es = around_one neg es
put_before a S.Not es = around_one not_expr es
put_before a S.Add es = around_two add es
put_before a S.Sub es = around_two sub es
put_before a S.Mul es = around_two mul es
put_before a S.Less es = around_two less es
put_before a S.And es = around_two and_expr es
put_before a S.Or es = around_two or_expr es
put_before a S.If es = around_three if_expr es
put_before a S.On es = around_three on es

-- a symbol before expressions, if there are any
abbrev pub put_before_some : Assignment → Sym → Option (List Expression) → Option (List Expression)
put_before_some a s None = None
put_before_some a s (Some es) = put_before a s es

-- the expressions that some symbols write, one behind the other; None where a form lacks parts
abbrev pub written : Assignment → List Sym → Option (List Expression)
written a [] = Some []
written a (s ∷ ss) = put_before_some a s (written a ss)

-- the tree of a list that has one alone
abbrev pub only : {A : Type 0} → Option (List A) → Option A
only (Some (e ∷ [])) = Some e
only _ = None

-- a pattern with its letters filled in; None where it isn't one expression
abbrev pub filled : Assignment → List Sym → Option Expression
filled a pattern = only (written a pattern)

-- what a law whose sides are these patterns makes of l is r: one choice of trees for the letters
-- fills the left side to l and the right side to r
pub record PatternSides (left right : List Sym) (l r : Expression) : Type 0 where
  pub letters : Assignment
  pub left_is : filled letters left ≡ Some l
  pub right_is : filled letters right ≡ Some r
