-- The code of an expression, by which the check tells expressions apart.
use Rattle.std.specs.Prelude.{◌≡◌, refl}
use Rattle.std.proofs.Common.{ap, arith}
use Rattle.std.specs.Coded.{Coded, coded_ℤ, coded_bool}
use base.Stored.{Gv, gnil, gnum, gcons, num, coded_via}
use denote.Struct.Codes.{itself}
use Rattle.sample_core.specs.CodeNode.{node, tag_of, one, two, three, row}
use Rattle.sample_core.specs.TypeCode.{type_code}
use Rattle.leaf_core.specs.Expression.{Expression, Expressions, input, param, unit_expr, bool_expr, int_expr, pair_expr, fst, snd, then_expr, neg, add, sub, mul, less, equal, not_expr, and_expr, or_expr, if_expr, no_event_expr, event_expr, on, list_expr, nth, len, no_more, and_then}

abbrev mutual
  -- an expression's code: the number of its form, and then its parts
  pub to_code : Expression → Gv
  to_code input = node 0 gnil gnil gnil gnil
  to_code (param k) = node 1 (gnum k) gnil gnil gnil
  to_code unit_expr = node 2 gnil gnil gnil gnil
  to_code (bool_expr p) = node 3 (coded_bool.code p) gnil gnil gnil
  to_code (int_expr n) = node 4 (coded_ℤ.code n) gnil gnil gnil
  to_code (pair_expr a b) = node 5 (to_code a) (to_code b) gnil gnil
  to_code (fst a) = node 6 (to_code a) gnil gnil gnil
  to_code (snd a) = node 7 (to_code a) gnil gnil gnil
  to_code (then_expr a b) = node 8 (to_code a) (to_code b) gnil gnil
  to_code (neg a) = node 9 (to_code a) gnil gnil gnil
  to_code (add a b) = node 10 (to_code a) (to_code b) gnil gnil
  to_code (sub a b) = node 11 (to_code a) (to_code b) gnil gnil
  to_code (mul a b) = node 12 (to_code a) (to_code b) gnil gnil
  to_code (less a b) = node 13 (to_code a) (to_code b) gnil gnil
  to_code (equal a b) = node 14 (to_code a) (to_code b) gnil gnil
  to_code (not_expr a) = node 15 (to_code a) gnil gnil gnil
  to_code (and_expr a b) = node 16 (to_code a) (to_code b) gnil gnil
  to_code (or_expr a b) = node 17 (to_code a) (to_code b) gnil gnil
  to_code (if_expr a b c) = node 18 (to_code a) (to_code b) (to_code c) gnil
  to_code (no_event_expr t) = node 19 (type_code.code t) gnil gnil gnil
  to_code (event_expr a) = node 20 (to_code a) gnil gnil gnil
  to_code (on a b c) = node 21 (to_code a) (to_code b) (to_code c) gnil
  to_code (list_expr t es) = node 22 (type_code.code t) (to_codes es) gnil gnil
  to_code (nth a b c) = node 23 (to_code a) (to_code b) (to_code c) gnil
  to_code (len a) = node 24 (to_code a) gnil gnil gnil

  -- the code of the elements of a list
  pub to_codes : Expressions → Gv
  to_codes no_more = gnil
  to_codes (and_then e es) = gcons (to_code e) (to_codes es)

mutual
  -- expressions with one code are the same
  pub code_inj : (x y : Expression) → to_code x ≡ to_code y → x ≡ y
  code_inj input input e = refl
  code_inj (param k) (param k') e = one param (ap num) e
  code_inj unit_expr unit_expr e = refl
  code_inj (bool_expr p) (bool_expr p') e = one bool_expr (coded_bool.inj p p') e
  code_inj (int_expr n) (int_expr n') e = one int_expr (coded_ℤ.inj n n') e
  code_inj (pair_expr a b) (pair_expr a' b') e = two pair_expr (code_inj a a') (code_inj b b') e
  code_inj (fst a) (fst a') e = one fst (code_inj a a') e
  code_inj (snd a) (snd a') e = one snd (code_inj a a') e
  code_inj (then_expr a b) (then_expr a' b') e = two then_expr (code_inj a a') (code_inj b b') e
  code_inj (neg a) (neg a') e = one neg (code_inj a a') e
  code_inj (add a b) (add a' b') e = two add (code_inj a a') (code_inj b b') e
  code_inj (sub a b) (sub a' b') e = two sub (code_inj a a') (code_inj b b') e
  code_inj (mul a b) (mul a' b') e = two mul (code_inj a a') (code_inj b b') e
  code_inj (less a b) (less a' b') e = two less (code_inj a a') (code_inj b b') e
  code_inj (equal a b) (equal a' b') e = two equal (code_inj a a') (code_inj b b') e
  code_inj (not_expr a) (not_expr a') e = one not_expr (code_inj a a') e
  code_inj (and_expr a b) (and_expr a' b') e = two and_expr (code_inj a a') (code_inj b b') e
  code_inj (or_expr a b) (or_expr a' b') e = two or_expr (code_inj a a') (code_inj b b') e
  code_inj (if_expr a b c) (if_expr a' b' c') e =
      three if_expr (code_inj a a') (code_inj b b') (code_inj c c') e
  code_inj (no_event_expr t) (no_event_expr t') e = one no_event_expr (type_code.inj t t') e
  code_inj (event_expr a) (event_expr a') e = one event_expr (code_inj a a') e
  code_inj (on a b c) (on a' b' c') e = three on (code_inj a a') (code_inj b b') (code_inj c c') e
  code_inj (list_expr t es) (list_expr t' es') e =
      two list_expr (type_code.inj t t') (codes_inj es es') e
  code_inj (nth a b c) (nth a' b' c') e =
      three nth (code_inj a a') (code_inj b b') (code_inj c c') e
  code_inj (len a) (len a') e = one len (code_inj a a') e
  code_inj _ _ e = absurd (omega (arith, ap tag_of e))

  -- elements with one code are the same
  pub codes_inj : (x y : Expressions) → to_codes x ≡ to_codes y → x ≡ y
  codes_inj no_more no_more e = refl
  codes_inj (and_then x es) (and_then y fs) e = row and_then (code_inj x y) (codes_inj es fs) e
  codes_inj _ _ e = cc

-- expressions told apart by their codes
abbrev pub expression_code : Coded Expression
expression_code = coded_via itself to_code code_inj
