-- An expression is the number of its form and what stands inside it.
use Rattle.std.proofs.Common.{◌≡◌, ◌↔◌, ℕ, true, false, nat_eq, if◌then◌else◌, ◌++◌, refl, ap, sym, ◌∙◌}
use Rattle.std.specs.Hash as fed
use Rattle.leaf_core.specs.Expression.{Expression, nodes_in, input, param, unit_expr, bool_expr, int_expr, pair_expr, fst, snd, then_expr, neg, add, sub, mul, less, equal, not_expr, and_expr, or_expr, if_expr, no_event_expr, event_expr, on, list_expr, nth, len}
use Rattle.leaf_core.specs.HashWrites.{tag_of, expression_writes}
use Rattle.leaf_core.specs.Inside.{Inside, nothing, index, literal, one, two, three, one_type, many, inside_of, inside_nodes, inside_fed}

-- the expression of a form with this inside
abbrev form_with : ℕ → Inside → Expression
form_with n nothing = if nat_eq n 2 then unit_expr else if nat_eq n 3 then bool_expr false else if nat_eq n 25 then bool_expr true else input
form_with n (index k) = param k
form_with n (literal z) = int_expr z
form_with n (one a) = if nat_eq n 6 then fst a else if nat_eq n 7 then snd a else if nat_eq n 9 then neg a else if nat_eq n 15 then not_expr a
    else if nat_eq n 20 then event_expr a else len a
form_with n (two a b) = if nat_eq n 5 then pair_expr a b else if nat_eq n 8 then then_expr a b else if nat_eq n 10 then add a b else if nat_eq n 11 then sub a b
    else if nat_eq n 12 then mul a b else if nat_eq n 13 then less a b else if nat_eq n 14 then equal a b else if nat_eq n 16 then and_expr a b else or_expr a b
form_with n (three a b c) = if nat_eq n 18 then if_expr a b c else if nat_eq n 21 then on a b c else nth a b c
form_with n (one_type t) = no_event_expr t
form_with n (many t es) = list_expr t es

-- what is said of an expression by its form and what stands inside it
forms : (e : Expression) →
    (form_with (tag_of e) (inside_of e) ≡ e)
    × (expression_writes e ≡ fed.u8 (tag_of e) ++ inside_fed (inside_of e))
    × (nodes_in e ≡ inside_nodes (inside_of e))
forms input = (refl, refl, refl)
forms (param k) = (refl, refl, refl)
forms unit_expr = (refl, refl, refl)
forms (bool_expr false) = (refl, refl, refl)
forms (bool_expr true) = (refl, refl, refl)
forms (int_expr n) = (refl, refl, refl)
forms (pair_expr a b) = (refl, refl, refl)
forms (fst a) = (refl, refl, refl)
forms (snd a) = (refl, refl, refl)
forms (then_expr a b) = (refl, refl, refl)
forms (neg a) = (refl, refl, refl)
forms (add a b) = (refl, refl, refl)
forms (sub a b) = (refl, refl, refl)
forms (mul a b) = (refl, refl, refl)
forms (less a b) = (refl, refl, refl)
forms (equal a b) = (refl, refl, refl)
forms (not_expr a) = (refl, refl, refl)
forms (and_expr a b) = (refl, refl, refl)
forms (or_expr a b) = (refl, refl, refl)
forms (if_expr a b c) = (refl, refl, refl)
forms (no_event_expr t) = (refl, refl, refl)
forms (event_expr a) = (refl, refl, refl)
forms (on a b c) = (refl, refl, refl)
forms (list_expr t es) = (refl, refl, refl)
forms (nth a b c) = (refl, refl, refl)
forms (len a) = (refl, refl, refl)

-- what a hasher is fed at an expression
pub fed_inside : (e : Expression) → expression_writes e ≡ fed.u8 (tag_of e) ++ inside_fed (inside_of e)
fed_inside e = (forms e).1

-- how many expressions it is made of
pub nodes_inside : (e : Expression) → nodes_in e ≡ inside_nodes (inside_of e)
nodes_inside e = (forms e).2

pub same_inside_is : (a b : Expression) → ((tag_of a ≡ tag_of b) × (inside_of a ≡ inside_of b)) ↔ (a ≡ b)
same_inside_is a b = (
  λ h. sym (forms a).0 ∙ (ap (λ n. form_with n (inside_of a)) h.0 ∙ ap (form_with (tag_of b)) h.1)
      ∙ (forms b).0,
  λ e. (ap tag_of e, ap inside_of e),
)
