-- What an expression's value is.
use Rattle.std.specs.Prelude.{ℕ, ℤ, pos, neg_ℤ, ◌+ℤ◌, ◌-ℤ◌, ◌*ℤ◌, int_lt, Bool, true, false, not, ◌&&◌, ◌||◌, List, [], ◌∷◌, length, get_or}
use Rattle.std.specs.Int.{int_wrap, w64}
use Rattle.std.specs.Ordering.{int_eq}
use Rattle.std.specs.Bool.{beq}
use Rattle.sample_core.specs.Datum.{Datum, Datums, unit, bool, int, pair, no_event, event, list, end, more, left, right, int_of, elements, list_of}
use Rattle.leaf_core.specs.Expression.{Expression, Expressions, input, param, unit_expr, bool_expr, int_expr, pair_expr, fst, snd, then_expr, neg, add, sub, mul, less, equal, not_expr, and_expr, or_expr, if_expr, no_event_expr, event_expr, on, list_expr, nth, len, no_more, and_then}

-- whether two values are the same
abbrev mutual
  pub same_datum : Datum → Datum → Bool
  same_datum unit unit = true
  same_datum (bool a) (bool b) = beq a b
  same_datum (int m) (int n) = int_eq m n
  same_datum (pair a b) (pair c d) = same_datum a c && same_datum b d
  same_datum no_event no_event = true
  same_datum (event a) (event b) = same_datum a b
  same_datum (list as1) (list bs) = same_datums as1 bs
  same_datum _ _ = false

  -- the same of the elements of two lists
  pub same_datums : Datums → Datums → Bool
  same_datums end end = true
  same_datums (more a as1) (more b bs) = same_datum a b && same_datums as1 bs
  same_datums _ _ = false

-- whether a value is `true`
abbrev pub is_true : Datum → Bool
is_true (bool b) = b
is_true _ = false

-- the first value where the test holds, else the second
abbrev pub choose : Bool → Datum → Datum → Datum
choose true v w = v
choose false v w = w

-- a number modulo 2^64, read as signed
abbrev pub wrap : ℤ → Datum
wrap z = int (int_wrap w64 z)

-- the element at a place, from 0; d outside
abbrev pub nth_of : Datums → ℕ → Datum → Datum
nth_of vs n d = get_or (elements vs) n d

-- the same of a list value and a signed place; d also where the value is no list
abbrev pub element_at : Datum → ℤ → Datum → Datum
element_at (list vs) (pos n) d = nth_of vs n d
element_at _ _ d = d

-- how many elements a list value has; 0 where it is no list
abbrev pub count_of : Datum → ℕ
count_of (list vs) = length (elements vs)
count_of _ = 0

-- parameter k, from 0; `unit` if there is none
abbrev pub param_at : List Datum → ℕ → Datum
param_at vs k = get_or vs k unit

-- with an event v, b at the pair of the input and v; else d
abbrev pub on_event : Datum → Datum → (Datum → Datum) → Datum
on_event (event v) d b = b v
on_event _ d b = d

-- the sum, the difference or the product of two numbers, as the form says; 0 under another form
abbrev pub sum_by : Expression → ℤ → ℤ → ℤ
sum_by (add _ _) m n = int_wrap w64 (m +ℤ n)
sum_by (sub _ _) m n = int_wrap w64 (m -ℤ n)
sum_by (mul _ _) m n = int_wrap w64 (m *ℤ n)
sum_by _ m n = pos 0

-- whether both hold, or whether one or both do, as the form says
abbrev pub logic_by : Expression → Bool → Bool → Bool
logic_by (and_expr _ _) p q = p && q
logic_by _ p q = p || q

-- the first or the second part of a pair, as the form says
abbrev pub part_of : Expression → Datum → Datum
part_of (fst _) v = left v
part_of _ v = right v

-- the value under parameters ps at the input x; a default where it is ill typed
abbrev mutual
  pub value_of : Expression → List Datum → Datum → Datum
  value_of input ps x = x
  value_of (param k) ps x = param_at ps k
  value_of unit_expr ps x = unit
  value_of (bool_expr b) ps x = bool b
  value_of (int_expr n) ps x = int n
  value_of (pair_expr a b) ps x = pair (value_of a ps x) (value_of b ps x)
  value_of (fst e) ps x = left (value_of e ps x)
  value_of (snd e) ps x = right (value_of e ps x)
  value_of (then_expr f g) ps x = value_of g ps (value_of f ps x)
  value_of (neg a) ps x = wrap (neg_ℤ (int_of (value_of a ps x)))
  value_of (add a b) ps x = wrap (int_of (value_of a ps x) +ℤ int_of (value_of b ps x))
  value_of (sub a b) ps x = wrap (int_of (value_of a ps x) -ℤ int_of (value_of b ps x))
  value_of (mul a b) ps x = wrap (int_of (value_of a ps x) *ℤ int_of (value_of b ps x))
  value_of (less a b) ps x = bool (int_lt (int_of (value_of a ps x)) (int_of (value_of b ps x)))
  value_of (equal a b) ps x = bool (same_datum (value_of a ps x) (value_of b ps x))
  value_of (not_expr a) ps x = bool (not (is_true (value_of a ps x)))
  value_of (and_expr a b) ps x = bool (is_true (value_of a ps x) && is_true (value_of b ps x))
  value_of (or_expr a b) ps x = bool (is_true (value_of a ps x) || is_true (value_of b ps x))
  value_of (if_expr c a b) ps x =
      choose (is_true (value_of c ps x)) (value_of a ps x) (value_of b ps x)
  value_of (no_event_expr t) ps x = no_event
  value_of (event_expr e) ps x = event (value_of e ps x)
  value_of (on e d b) ps x = on_event (value_of e ps x) (value_of d ps x)
      (λ v. value_of b ps (pair x v))
  value_of (list_expr t es) ps x = list (list_of (values_of es ps x))
  value_of (nth e i d) ps x = element_at (value_of e ps x) (int_of (value_of i ps x))
      (value_of d ps x)
  value_of (len e) ps x = wrap (pos (count_of (value_of e ps x)))

  -- the values of the elements of a list, in order
  pub values_of : Expressions → List Datum → Datum → List Datum
  values_of no_more ps x = []
  values_of (and_then e es) ps x = value_of e ps x ∷ values_of es ps x
