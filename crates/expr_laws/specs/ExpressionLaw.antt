-- The laws of expressions: each one's left and right side, over letters that stand for any
-- expressions, types, parameters and numbers, typed or not.
use Rattle.std.specs.Prelude.{ℕ, zero, suc, ℤ, pos, negsuc, Bool, true, false, ◌≡◌, []}
use Rattle.sample_core.specs.TypeTree.{TypeTree}
use Rattle.sample_core.specs.Datum.{Datum, unit, bool, int}
use Rattle.leaf_core.specs.Expression.{Expression, Expressions, input, param, unit_expr, bool_expr, int_expr, pair_expr, fst, snd, then_expr, neg, add, sub, mul, less, equal, not_expr, and_expr, or_expr, if_expr, no_event_expr, event_expr, on, list_expr, nth, len, no_more, and_then}
use Rattle.leaf_core.specs.ExpressionValue.{value_of}

-- each of a list's elements behind f
abbrev pub each_then : Expression → Expressions → Expressions
each_then f no_more = no_more
each_then f (and_then e es) = and_then (then_expr f e) (each_then f es)

-- an operator, and the operator with each of its parts behind f
pub data Spread (f : Expression) : Expression → Expression → Type 0 where
  pair_spread : {a b : Expression}
      → Spread f (pair_expr a b) (pair_expr (then_expr f a) (then_expr f b))
  fst_spread : {e : Expression} → Spread f (fst e) (fst (then_expr f e))
  snd_spread : {e : Expression} → Spread f (snd e) (snd (then_expr f e))
  neg_spread : {a : Expression} → Spread f (neg a) (neg (then_expr f a))
  add_spread : {a b : Expression} → Spread f (add a b) (add (then_expr f a) (then_expr f b))
  sub_spread : {a b : Expression} → Spread f (sub a b) (sub (then_expr f a) (then_expr f b))
  mul_spread : {a b : Expression} → Spread f (mul a b) (mul (then_expr f a) (then_expr f b))
  less_spread : {a b : Expression} → Spread f (less a b) (less (then_expr f a) (then_expr f b))
  equal_spread : {a b : Expression} → Spread f (equal a b) (equal (then_expr f a) (then_expr f b))
  not_spread : {a : Expression} → Spread f (not_expr a) (not_expr (then_expr f a))
  and_spread : {a b : Expression}
      → Spread f (and_expr a b) (and_expr (then_expr f a) (then_expr f b))
  or_spread : {a b : Expression} → Spread f (or_expr a b) (or_expr (then_expr f a) (then_expr f b))
  if_spread : {c a b : Expression}
      → Spread f (if_expr c a b) (if_expr (then_expr f c) (then_expr f a) (then_expr f b))
  event_spread : {e : Expression} → Spread f (event_expr e) (event_expr (then_expr f e))
  nth_spread : {e i d : Expression}
      → Spread f (nth e i d) (nth (then_expr f e) (then_expr f i) (then_expr f d))
  len_spread : {e : Expression} → Spread f (len e) (len (then_expr f e))
  list_spread : {T : TypeTree} {e : Expression} {es : Expressions}
      → Spread f (list_expr T (and_then e es)) (list_expr T (each_then f (and_then e es)))

-- a literal, a parameter, no event or the empty list: what has no part and isn't the input
pub data HasNoPart : Expression → Type 0 where
  param_constant : {k : ℕ} → HasNoPart (param k)
  unit_constant : HasNoPart unit_expr
  bool_constant : {b : Bool} → HasNoPart (bool_expr b)
  int_constant : {n : ℤ} → HasNoPart (int_expr n)
  no_event_constant : {T : TypeTree} → HasNoPart (no_event_expr T)
  list_constant : {T : TypeTree} → HasNoPart (list_expr T no_more)

-- an operator on literals of the types that it takes
pub data OnLiterals : Expression → Type 0 where
  neg_literal : {m : ℤ} → OnLiterals (neg (int_expr m))
  add_literals : {m n : ℤ} → OnLiterals (add (int_expr m) (int_expr n))
  sub_literals : {m n : ℤ} → OnLiterals (sub (int_expr m) (int_expr n))
  mul_literals : {m n : ℤ} → OnLiterals (mul (int_expr m) (int_expr n))
  less_literals : {m n : ℤ} → OnLiterals (less (int_expr m) (int_expr n))
  equal_units : OnLiterals (equal unit_expr unit_expr)
  equal_bools : {b c : Bool} → OnLiterals (equal (bool_expr b) (bool_expr c))
  equal_ints : {m n : ℤ} → OnLiterals (equal (int_expr m) (int_expr n))
  not_literal : {b : Bool} → OnLiterals (not_expr (bool_expr b))
  and_literals : {b c : Bool} → OnLiterals (and_expr (bool_expr b) (bool_expr c))
  or_literals : {b c : Bool} → OnLiterals (or_expr (bool_expr b) (bool_expr c))

-- the literal of a value; `unit` where no literal has it
abbrev pub literal_for : Datum → Expression
literal_for (bool b) = bool_expr b
literal_for (int n) = int_expr n
literal_for _ = unit_expr

-- the element at a place, from 0; d outside
abbrev pub element_or : Expressions → ℕ → Expression → Expression
element_or no_more n d = d
element_or (and_then e es) zero d = e
element_or (and_then e es) (suc n) d = element_or es n d

-- the same at a signed place
abbrev pub picked : Expressions → ℤ → Expression → Expression
picked es (pos n) d = element_or es n d
picked es (negsuc n) d = d

-- whether an expression is `true` or `false`
abbrev pub is_bool : Expression → Bool
is_bool (bool_expr b) = true
is_bool _ = false

-- `and` or `or`, and what it is where its first part is a literal, else the same with its parts
-- exchanged
pub data Turned : Expression → Expression → Type 0 where
  and_true : {b : Expression} → Turned (and_expr (bool_expr true) b) b
  and_false : {b : Expression} → Turned (and_expr (bool_expr false) b) (bool_expr false)
  or_true : {b : Expression} → Turned (or_expr (bool_expr true) b) (bool_expr true)
  or_false : {b : Expression} → Turned (or_expr (bool_expr false) b) b
  and_turned : {a b : Expression} → is_bool a ≡ false → Turned (and_expr a b) (and_expr b a)
  or_turned : {a b : Expression} → is_bool a ≡ false → Turned (or_expr a b) (or_expr b a)

-- `equal` of two expressions: `true` where they are the same, else with its parts exchanged
pub data Compared : Expression → Expression → Type 0 where
  equal_same : {a : Expression} → Compared (equal a a) (bool_expr true)
  equal_turned : {a b : Expression} → (a ≡ b → ⊥) → Compared (equal a b) (equal b a)

-- whether an expression is an `if`
abbrev pub is_if : Expression → Bool
is_if (if_expr c a b) = true
is_if _ = false

-- one expression
abbrev pub one_of : Expression → Expressions
one_of d = and_then d no_more

-- two expressions
abbrev pub two_of : Expression → Expression → Expressions
two_of d e = and_then d (one_of e)

-- three expressions
abbrev pub three_of : Expression → Expression → Expression → Expressions
three_of d e f = and_then d (two_of e f)

-- some expressions, of which the first that is an `if` has the test c; and they with that `if`'s
-- first part in its place, and with its second
pub data FirstIf (c : Expression) : Expressions → Expressions → Expressions → Type 0 where
  here : {a b : Expression} {es : Expressions}
      → FirstIf c (and_then (if_expr c a b) es) (and_then a es) (and_then b es)
  later : {e : Expression} {es ls rs : Expressions} → is_if e ≡ false → FirstIf c es ls rs
      → FirstIf c (and_then e es) (and_then e ls) (and_then e rs)

-- an operator with an `if` among its parts that have its input, and the `if` between the operators
-- with the first `if`'s parts in its place
pub data Lifted : Expression → Expression → Type 0 where
  fst_lifted : {c a b : Expression}
      → Lifted (fst (if_expr c a b)) (if_expr c (fst a) (fst b))
  snd_lifted : {c a b : Expression}
      → Lifted (snd (if_expr c a b)) (if_expr c (snd a) (snd b))
  neg_lifted : {c a b : Expression}
      → Lifted (neg (if_expr c a b)) (if_expr c (neg a) (neg b))
  not_lifted : {c a b : Expression}
      → Lifted (not_expr (if_expr c a b)) (if_expr c (not_expr a) (not_expr b))
  event_lifted : {c a b : Expression}
      → Lifted (event_expr (if_expr c a b)) (if_expr c (event_expr a) (event_expr b))
  len_lifted : {c a b : Expression}
      → Lifted (len (if_expr c a b)) (if_expr c (len a) (len b))
  then_lifted : {c a b g : Expression}
      → Lifted (then_expr (if_expr c a b) g) (if_expr c (then_expr a g) (then_expr b g))
  pair_lifted : {c d e l m r s : Expression} → FirstIf c (two_of d e) (two_of l m) (two_of r s)
      → Lifted (pair_expr d e) (if_expr c (pair_expr l m) (pair_expr r s))
  add_lifted : {c d e l m r s : Expression} → FirstIf c (two_of d e) (two_of l m) (two_of r s)
      → Lifted (add d e) (if_expr c (add l m) (add r s))
  sub_lifted : {c d e l m r s : Expression} → FirstIf c (two_of d e) (two_of l m) (two_of r s)
      → Lifted (sub d e) (if_expr c (sub l m) (sub r s))
  mul_lifted : {c d e l m r s : Expression} → FirstIf c (two_of d e) (two_of l m) (two_of r s)
      → Lifted (mul d e) (if_expr c (mul l m) (mul r s))
  less_lifted : {c d e l m r s : Expression} → FirstIf c (two_of d e) (two_of l m) (two_of r s)
      → Lifted (less d e) (if_expr c (less l m) (less r s))
  equal_lifted : {c d e l m r s : Expression} → FirstIf c (two_of d e) (two_of l m) (two_of r s)
      → Lifted (equal d e) (if_expr c (equal l m) (equal r s))
  and_lifted : {c d e l m r s : Expression} → FirstIf c (two_of d e) (two_of l m) (two_of r s)
      → Lifted (and_expr d e) (if_expr c (and_expr l m) (and_expr r s))
  or_lifted : {c d e l m r s : Expression} → FirstIf c (two_of d e) (two_of l m) (two_of r s)
      → Lifted (or_expr d e) (if_expr c (or_expr l m) (or_expr r s))
  on_lifted : {c d e l m r s g : Expression} → FirstIf c (two_of d e) (two_of l m) (two_of r s)
      → Lifted (on d e g) (if_expr c (on l m g) (on r s g))
  if_lifted : {c d e f l m n r s t : Expression}
      → FirstIf c (three_of d e f) (three_of l m n) (three_of r s t)
      → Lifted (if_expr d e f) (if_expr c (if_expr l m n) (if_expr r s t))
  nth_lifted : {c d e f l m n r s t : Expression}
      → FirstIf c (three_of d e f) (three_of l m n) (three_of r s t)
      → Lifted (nth d e f) (if_expr c (nth l m n) (nth r s t))
  list_lifted : {c : Expression} {T : TypeTree} {es ls rs : Expressions} → FirstIf c es ls rs
      → Lifted (list_expr T es) (if_expr c (list_expr T ls) (list_expr T rs))

-- a law's number, its left side and its right side; a letter that comes twice on the left stands
-- for one expression
pub data ExpressionLaw : ℕ → Expression → Expression → Type 0 where
  law_e1 : {f : Expression} → ExpressionLaw 1 (then_expr input f) f
  law_e2 : {f : Expression} → ExpressionLaw 2 (then_expr f input) f
  law_e3 : {f g h : Expression}
      → ExpressionLaw 3 (then_expr (then_expr f g) h) (then_expr f (then_expr g h))
  law_e4 : {f o r : Expression} → Spread f o r → ExpressionLaw 4 (then_expr f o) r
  law_e5 : {f g d b : Expression}
      → ExpressionLaw 5 (then_expr f (on g d b))
      (on (then_expr f g) (then_expr f d)
      (then_expr (pair_expr (then_expr (fst input) f) (snd input)) b))
  law_e6 : {f k : Expression} → HasNoPart k → ExpressionLaw 6 (then_expr f k) k
  law_e7 : {e f : Expression} → ExpressionLaw 7 (fst (pair_expr e f)) e
  law_e8 : {e f : Expression} → ExpressionLaw 8 (snd (pair_expr e f)) f
  law_e9 : {e : Expression} → ExpressionLaw 9 (pair_expr (fst e) (snd e)) e
  law_e10 : {e f : Expression} → ExpressionLaw 10 (if_expr (bool_expr true) e f) e
  law_e11 : {e f : Expression} → ExpressionLaw 11 (if_expr (bool_expr false) e f) f
  law_e12 : {c e : Expression} → ExpressionLaw 12 (if_expr c e e) e
  law_e13 : {T : TypeTree} {d b : Expression} → ExpressionLaw 13 (on (no_event_expr T) d b) d
  law_e14 : {v d b : Expression}
      → ExpressionLaw 14 (on (event_expr v) d b) (then_expr (pair_expr input v) b)
  law_e15 : {o : Expression} → OnLiterals o → ExpressionLaw 15 o (literal_for (value_of o [] unit))
  law_e16 : {a b : Expression} → ExpressionLaw 16 (add a b) (add b a)
  law_e17 : {a b c : Expression} → ExpressionLaw 17 (add (add a b) c) (add a (add b c))
  law_e18 : {T : TypeTree} {e : Expression} {es : Expressions} {i : ℤ} {d : Expression}
      → ExpressionLaw 18 (nth (list_expr T (and_then e es)) (int_expr i) d)
      (picked (and_then e es) i d)
  law_e19 : {a b : Expression} → ExpressionLaw 19 (sub a b) (add a (neg b))
  law_e20 : {a b : Expression} → ExpressionLaw 20 (mul a b) (mul b a)
  law_e21 : {a b c : Expression} → ExpressionLaw 21 (mul (mul a b) c) (mul a (mul b c))
  law_e22 : {a b c : Expression} → ExpressionLaw 22 (mul a (add b c)) (add (mul a b) (mul a c))
  law_e23 : {o r : Expression} → Turned o r → ExpressionLaw 23 o r
  law_e24 : {a : Expression} → ExpressionLaw 24 (not_expr (not_expr a)) a
  law_e25 : {c a b : Expression} → ExpressionLaw 25 (if_expr (not_expr c) a b) (if_expr c b a)
  law_e26 : {o r : Expression} → Compared o r → ExpressionLaw 26 o r
  law_e27 : {a : Expression} → ExpressionLaw 27 (add a (int_expr (pos 0))) a
  law_e28 : {a : Expression} → ExpressionLaw 28 (mul a (int_expr (pos 1))) a
  law_e29 : {a : Expression} → ExpressionLaw 29 (mul a (int_expr (pos 0))) (int_expr (pos 0))
  law_e30 : {a : Expression} → ExpressionLaw 30 (neg (neg a)) a
  law_e31 : {a b : Expression} → ExpressionLaw 31 (neg (add a b)) (add (neg a) (neg b))
  law_e32 : {a b : Expression} → ExpressionLaw 32 (neg (mul a b)) (mul (neg a) b)
  law_e33 : {a : Expression} → ExpressionLaw 33 (add a (neg a)) (int_expr (pos 0))
  law_e34 : {a : Expression} → ExpressionLaw 34 (less a a) (bool_expr false)
  law_e35 : {a : Expression} → ExpressionLaw 35 (and_expr a a) a
  law_e36 : {a : Expression} → ExpressionLaw 36 (or_expr a a) a
  law_e37 : {a b c : Expression}
      → ExpressionLaw 37 (and_expr (and_expr a b) c) (and_expr a (and_expr b c))
  law_e38 : {a b c : Expression} → ExpressionLaw 38 (or_expr (or_expr a b) c) (or_expr a (or_expr b c))
  law_e39 : {a : Expression} → ExpressionLaw 39 (and_expr a (not_expr a)) (bool_expr false)
  law_e40 : {a : Expression} → ExpressionLaw 40 (or_expr a (not_expr a)) (bool_expr true)
  law_e41 : {a b : Expression}
      → ExpressionLaw 41 (not_expr (and_expr a b)) (or_expr (not_expr a) (not_expr b))
  law_e42 : {a b : Expression}
      → ExpressionLaw 42 (not_expr (or_expr a b)) (and_expr (not_expr a) (not_expr b))
  law_e43 : {a b c : Expression}
      → ExpressionLaw 43 (and_expr a (or_expr b c)) (or_expr (and_expr a b) (and_expr a c))
  law_e44 : {c : Expression} → ExpressionLaw 44 (if_expr c (bool_expr true) (bool_expr false)) c
  law_e45 : {a b : Expression} → ExpressionLaw 45 (and_expr a b) (if_expr a b (bool_expr false))
  law_e46 : {a b : Expression} → ExpressionLaw 46 (or_expr a b) (if_expr a (bool_expr true) b)
  law_e47 : {c a b d : Expression} → ExpressionLaw 47 (if_expr c (if_expr c a b) d) (if_expr c a d)
  law_e48 : {c a b d : Expression} → ExpressionLaw 48 (if_expr c a (if_expr c b d)) (if_expr c a d)
  law_e49 : {o r : Expression} → Lifted o r → ExpressionLaw 49 o r
  law_e50 : {e d b g h : Expression}
      → ExpressionLaw 50 (on (on e d b) g h)
      (on e (on d g h)
      (on b (then_expr (fst input) g)
      (then_expr (pair_expr (fst (fst input)) (snd input)) h)))
  law_e51 : {T : TypeTree} {e : Expression}
      → ExpressionLaw 51 (on e (no_event_expr T) (event_expr (snd input))) e
  law_e52 : {e d : Expression} → ExpressionLaw 52 (on e d (then_expr (fst input) d)) d
  law_e53 : {e d b f : Expression}
      → ExpressionLaw 53 (then_expr (on e d b) f) (on e (then_expr d f) (then_expr b f))
  law_e54 : {e d b f : Expression}
      → ExpressionLaw 54 (pair_expr (on e d b) f)
      (on e (pair_expr d f) (pair_expr b (then_expr (fst input) f)))
  law_e55 : {f e d b : Expression}
      → ExpressionLaw 55 (pair_expr f (on e d b))
      (on e (pair_expr f d) (pair_expr (then_expr (fst input) f) b))
