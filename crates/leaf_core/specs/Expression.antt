-- Expressions as mathematical trees: total functions of an input and of parameters.
use Rattle.std.specs.Prelude.{ℕ, suc, ◌+◌, max, ℤ, Bool, List, [], ◌∷◌}
use Rattle.sample_core.specs.TypeTree.{TypeTree}

mutual
  -- an expression: what each form does is its line in `value_of`
  pub data Expression : Type 0 where
    input : Expression
    param : ℕ → Expression
    unit_expr : Expression
    bool_expr : Bool → Expression
    int_expr : ℤ → Expression
    pair_expr : Expression → Expression → Expression
    fst : Expression → Expression
    snd : Expression → Expression
    then_expr : Expression → Expression → Expression
    neg : Expression → Expression
    add : Expression → Expression → Expression
    sub : Expression → Expression → Expression
    mul : Expression → Expression → Expression
    less : Expression → Expression → Expression
    equal : Expression → Expression → Expression
    not_expr : Expression → Expression
    and_expr : Expression → Expression → Expression
    or_expr : Expression → Expression → Expression
    if_expr : Expression → Expression → Expression → Expression
    no_event_expr : TypeTree → Expression
    event_expr : Expression → Expression
    on : Expression → Expression → Expression → Expression
    list_expr : TypeTree → Expressions → Expression
    nth : Expression → Expression → Expression → Expression
    len : Expression → Expression

  -- the elements of a list expression, in order
  pub data Expressions : Type 0 where
    no_more : Expressions
    and_then : Expression → Expressions → Expressions

-- a list of expressions as the elements of a list expression
abbrev pub expressions_of : List Expression → Expressions
expressions_of [] = no_more
expressions_of (e ∷ es) = and_then e (expressions_of es)

-- what is counted in an expression: 1 where it has no parts, else 1 more than what the counts of
-- its parts join to
abbrev mutual
  pub counted : (ℕ → ℕ → ℕ) → Expression → ℕ
  counted join input = 1
  counted join (param k) = 1
  counted join unit_expr = 1
  counted join (bool_expr b) = 1
  counted join (int_expr n) = 1
  counted join (pair_expr a b) = suc (join (counted join a) (counted join b))
  counted join (fst e) = suc (counted join e)
  counted join (snd e) = suc (counted join e)
  counted join (then_expr f g) = suc (join (counted join f) (counted join g))
  counted join (neg a) = suc (counted join a)
  counted join (add a b) = suc (join (counted join a) (counted join b))
  counted join (sub a b) = suc (join (counted join a) (counted join b))
  counted join (mul a b) = suc (join (counted join a) (counted join b))
  counted join (less a b) = suc (join (counted join a) (counted join b))
  counted join (equal a b) = suc (join (counted join a) (counted join b))
  counted join (not_expr a) = suc (counted join a)
  counted join (and_expr a b) = suc (join (counted join a) (counted join b))
  counted join (or_expr a b) = suc (join (counted join a) (counted join b))
  counted join (if_expr c a b) =
      suc (join (join (counted join c) (counted join a)) (counted join b))
  counted join (no_event_expr t) = 1
  counted join (event_expr e) = suc (counted join e)
  counted join (on e d b) = suc (join (join (counted join e) (counted join d)) (counted join b))
  counted join (list_expr t es) = suc (all_counted join es)
  counted join (nth e i d) = suc (join (join (counted join e) (counted join i)) (counted join d))
  counted join (len e) = suc (counted join e)

  -- what the counts of the elements of a list join to; 0 where there are none
  pub all_counted : (ℕ → ℕ → ℕ) → Expressions → ℕ
  all_counted join no_more = 0
  all_counted join (and_then e es) = join (counted join e) (all_counted join es)

-- how many expressions stand in one another, at most
abbrev pub height_of : Expression → ℕ
height_of e = counted max e

-- the greatest height of the elements of a list; 0 where there are none
abbrev pub heights_of : Expressions → ℕ
heights_of es = all_counted max es

-- how many expressions an expression is made of, itself counted; the types in it are none
abbrev pub nodes_in : Expression → ℕ
nodes_in e = counted ◌+◌ e

-- how many expressions the elements of a list are made of
abbrev pub nodes_in_all : Expressions → ℕ
nodes_in_all es = all_counted ◌+◌ es
