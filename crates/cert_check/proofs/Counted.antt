-- What is in scope where a part stands, counted.
use Rattle.std.proofs.Common.{◌≡◌, ℕ, zero, suc, ◌+◌, List, [], ◌∷◌, length, Some, option_map, refl, sym, ap, ◌∙◌, subst, arith, length-append}
use Rattle.sample_core.specs.TypeTree.{TypeTree}
use Rattle.leaf_core.specs.Expression.{Expression}
use Rattle.net_tree.specs.Network.{Network}
use Rattle.net_meaning.specs.Typing.{Arrow, arrow, copies, members}
use Rattle.net_tree.specs.Place as P
use Rattle.net_tree.specs.Place.{Tree, a_leaf}
use Rattle.net_syntax.specs.Placed.{Bound, bound_in, bound_behind, bound_started, placed, placed_at}
use Rattle.net_syntax.specs.Standing.{Standing, ChildStands, continuation_in_switch, continuation_in_r_switch, continuation_in_k_switch, member_in_p_switch, event_in_p_switch, continuation_in_p_switch, member_in_rp_switch, choice_in_rp_switch, continuation_in_rp_switch, StandsAt, at_network, inside_network, inside_expression}
use Rattle.net_syntax.proofs.Children.{event_is, continuation_is}
use Rattle.net_syntax.proofs.SamePlaces.{member_below}

-- R has as much more in scope than the types Ps and Os as b says
record Counts (Ps : List TypeTree) (Os : List Arrow) (b : Bound) (R : Standing) : Type 0 where
  params_are : length R.params ≡ length Ps + b.params
  olds_are : length R.olds ≡ length Os + b.olds

length-copies : (n : ℕ) (o : Arrow) → length (copies n o) ≡ n
length-copies zero o = refl
length-copies (suc n) o = ap suc (length-copies n o)

child_counts : (Ps : List TypeTree) (Os : List Arrow) (A : TypeTree) (net : Network Expression) (k : ℕ) (R : Standing) → ChildStands Ps Os A net k R
    → Counts Ps Os (bound_in net k) R
child_counts Ps Os A net k R (continuation_in_switch {C = C} d) =
    record { params_are = omega (arith, length-append Ps (C ∷ [])); olds_are = omega arith }
child_counts Ps Os A net k R (continuation_in_r_switch {C = C}) =
    record { params_are = omega (arith, length-append Ps (C ∷ [])); olds_are = omega arith }
child_counts Ps Os A net k R (continuation_in_k_switch {B = B} {C = C} d e) =
    record { params_are = omega (arith, length-append Ps (C ∷ [])); olds_are = omega (arith, length-append Os (arrow A B ∷ [])) }
child_counts Ps Os A net k R (member_in_p_switch {fs = fs} {k = j} d l) =
    subst (λ c. Counts Ps Os (bound_behind c fs) R) (sym (member_below fs j l)) (record { params_are = omega arith; olds_are = omega arith })
child_counts Ps Os A net k R (event_in_p_switch {fs = fs} d e) =
    subst (λ c. Counts Ps Os (bound_behind c fs) R) (sym (event_is fs)) (record { params_are = omega arith; olds_are = omega arith })
child_counts Ps Os A net k R (continuation_in_p_switch {B = B} {C = C} {D = D} {fs = fs} d e h) =
    subst (λ c. Counts Ps Os (bound_behind c fs) R) (sym (continuation_is fs)) (record {
      params_are = omega (arith, length-append Ps (C ∷ []));
      olds_are = omega (arith, length-append Os (copies (members fs) (arrow D B)), length-copies (members fs) (arrow D B));
    })
child_counts Ps Os A net k R (member_in_rp_switch {fs = fs} {k = j} l) =
    subst (λ c. Counts Ps Os (bound_started c) R) (sym (member_below fs j l)) (record { params_are = omega arith; olds_are = omega arith })
child_counts Ps Os A net k R (choice_in_rp_switch {fs = fs}) =
    subst (λ c. Counts Ps Os (bound_started c) R) (sym (event_is fs)) (record { params_are = omega arith; olds_are = omega arith })
child_counts Ps Os A net k R (continuation_in_rp_switch {V = V} {fs = fs} h) =
    subst (λ c. Counts Ps Os (bound_started c) R) (sym (continuation_is fs))
    (record { params_are = omega (arith, length-append Ps (V ∷ [])); olds_are = omega arith })
child_counts Ps Os A net k R _ = record { params_are = omega arith; olds_are = omega arith }

-- what stands at a position is found there, with as much in scope as it stands in
pub placed-stands : (S : Standing) (tree : Tree Expression) (p : List ℕ) (there : Tree Expression) (Q : Standing) (m n : ℕ) → m ≡ length S.params
    → n ≡ length S.olds → StandsAt S tree p there Q → placed_at m n tree p ≡ Some (placed (length Q.params) (length Q.olds) there)
placed-stands S tree p there Q m n hm hn at_network = λ i. Some (placed (hm i) (hn i) tree)
placed-stands S tree p there Q m n hm hn (inside_expression {c = c} is i) =
    ap (option_map (λ e. placed m n (a_leaf e))) is ∙ (λ i. Some (placed (hm i) (hn i) (a_leaf c)))
placed-stands S tree p there Q m n hm hn (inside_network {R = R} {f = f} {c = c} {k = k} {p = p'} is i s) =
    let h : Counts S.params S.olds (bound_in f k) R = child_counts S.params S.olds S.input f k R i in
    let hp : length R.params ≡ length S.params + (bound_in f k).params = h.params_are in
    let ho : length R.olds ≡ length S.olds + (bound_in f k).olds = h.olds_are in
    ap (λ o. P.◌>>=◌ o (λ t. placed_at (m + (bound_in f k).params) (n + (bound_in f k).olds) t p')) is
    ∙ placed-stands R c p' there Q (m + (bound_in f k).params) (n + (bound_in f k).olds) (omega arith) (omega arith) s
