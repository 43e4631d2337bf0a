-- Answers that are a `parB`.
use Rattle.std.proofs.Common.{◌≡◌, ℕ, suc, true, false, cond, List, [], ◌∷◌, map, length, Some, None, refl, sym, ap, ◌∙◌}
use Rattle.std.proofs.lemmas.List.{length-map}
use Rattle.sample_core.specs.TypeTree.{TypeTree}
use Rattle.leaf_core.specs.Expression.{Expression, list_expr, expressions_of}
use Rattle.leaf_core.specs.ExpressionView.{expression_of}
use Rattle.leaf_core.specs.declared.expr.Expr.{Expr}
use Rattle.net_tree.specs.Network.{Network, Networks, arr, seq, par, networks_of, and_member}
use Rattle.net_tree.specs.NetworkView.{members_of, tree_of, trees}
use Rattle.net_tree.specs.declared.net.Net.{Net}
use Rattle.net_meaning.specs.Typing.{members}
use Rattle.net_meaning.proofs.NetMembers.{members-trees}
use Rattle.law_rules.specs.NetworkLaw.{each_after, each_arr, count, route_to, behind_routes}
use Rattle.law_rules.specs.Forward.{one_to_64, law41, law42, routed_apart, routed_each, kept_apart}

pub trees-of : (fs : List (Net Expr)) → trees (members_of fs) ≡ networks_of (map tree_of fs)
trees-of [] = refl
trees-of (f ∷ fs) = ap (and_member (tree_of f)) (trees-of fs)

pub gathered-members : (fs : Networks Expr) (all : List (Net Expr)) → fs ≡ members_of all → Some (par (trees fs)) ≡ Some (par (networks_of (map tree_of all)))
gathered-members fs all e = ap (λ gs. Some (par (trees gs))) e ∙ ap (λ gs. Some (par gs)) (trees-of all)

-- where there are too few or too many
pub not_gathered : (h : Network Expression) (fs : Networks Expr) (all : List (Net Expr)) → members_of all ≡ fs → false ≡ one_to_64 (length all) → None ≡ law41 (seq h (par (trees fs)))
not_gathered h fs all e b =
    ap (λ x. cond x (Some (par (each_after h (trees (members_of all))))) None) (b ∙ ap one_to_64 (sym (members-trees all))) ∙ ap (λ gs. law41 (seq h (par (trees gs)))) e

after-each : (h : Network Expression) (fs : List (Net Expr)) → networks_of (map (λ f. seq h (tree_of f)) fs) ≡ each_after h (trees (members_of fs))
after-each h [] = refl
after-each h (f ∷ fs) = ap (and_member (seq h (tree_of f))) (after-each h fs)

pub gathered-behind : (h : Network Expression) (fs : Networks Expr) (all : List (Net Expr)) (done : List (Network Expression)) → members_of all ≡ fs → true ≡ one_to_64 (length all) → done ≡ map (λ f. seq h (tree_of f)) all
    → Some (par (networks_of done)) ≡ law41 (seq h (par (trees fs)))
gathered-behind h fs all done e b d =
    ap (λ gs. Some (par (networks_of gs))) d ∙ ap (λ gs. Some (par gs)) (after-each h all)
    ∙ ap (λ x. cond x (Some (par (each_after h (trees (members_of all))))) None) (b ∙ ap one_to_64 (sym (members-trees all))) ∙ ap (λ gs. law41 (seq h (par (trees gs)))) e

count-of : (es : List Expression) → count (expressions_of es) ≡ length es
count-of [] = refl
count-of (e ∷ es) = ap suc (count-of es)

count-seen : (all : List Expr) → count (expressions_of (map expression_of all)) ≡ length all
count-seen all = count-of (map expression_of all) ∙ length-map all expression_of

pub not_apart : (T : TypeTree) (es : List Expression) (all : List Expr) → map expression_of all ≡ es → false ≡ one_to_64 (length all) → None ≡ law42 (arr (list_expr T (expressions_of es)))
not_apart T es all e b =
    ap (λ x. cond x (Some (par (each_arr (expressions_of (map expression_of all))))) None) (b ∙ ap one_to_64 (sym (count-seen all)))
    ∙ ap (λ xs. law42 (arr (list_expr T (expressions_of xs)))) e

arr-each : (all : List Expr) → networks_of (map (λ e. arr (expression_of e)) all) ≡ each_arr (expressions_of (map expression_of all))
arr-each [] = refl
arr-each (e ∷ es) = ap (and_member (arr (expression_of e))) (arr-each es)

pub gathered-apart : (T : TypeTree) (es : List Expression) (all : List Expr) (done : List (Network Expression)) → map expression_of all ≡ es → true ≡ one_to_64 (length all) → done ≡ map (λ e. arr (expression_of e)) all
    → Some (par (networks_of done)) ≡ law42 (arr (list_expr T (expressions_of es)))
gathered-apart T es all done e b d =
    ap (λ gs. Some (par (networks_of gs))) d ∙ ap (λ gs. Some (par gs)) (arr-each all)
    ∙ ap (λ x. cond x (Some (par (each_arr (expressions_of (map expression_of all))))) None) (b ∙ ap one_to_64 (sym (count-seen all)))
    ∙ ap (λ xs. law42 (arr (list_expr T (expressions_of xs)))) e

pub not_routed : (r : Expression) (fs : Networks Expr) (all : List (Net Expr)) → members_of all ≡ fs → false ≡ one_to_64 (length all) → None ≡ routed_apart r (trees fs)
not_routed r fs all e b =
    ap (λ x. cond x (Some (par (behind_routes r 0 (trees (members_of all))))) None) (b ∙ ap one_to_64 (sym (members-trees all))) ∙ ap (λ gs. routed_apart r (trees gs)) e

route-each : (r : Expression) (i : ℕ) (fs : List (Net Expr)) → networks_of (routed_each r i (map tree_of fs)) ≡ behind_routes r i (trees (members_of fs))
route-each r i [] = refl
route-each r i (f ∷ fs) = ap (and_member (seq (arr (route_to r i)) (tree_of f))) (route-each r (suc i) fs)

pub gathered-routed : (r s : Expression) (fs : Networks Expr) (all : List (Net Expr)) (done : List (Network Expression)) → members_of all ≡ fs → true ≡ one_to_64 (length all) → s ≡ r → done ≡ routed_each s 0 (map tree_of all)
    → Some (par (networks_of done)) ≡ routed_apart r (trees fs)
gathered-routed r s fs all done e b q d =
    ap (λ gs. Some (par (networks_of gs))) d ∙ ap (λ t. Some (par (networks_of (routed_each t 0 (map tree_of all))))) q ∙ ap (λ gs. Some (par gs)) (route-each r 0 all)
    ∙ ap (λ x. cond x (Some (par (behind_routes r 0 (trees (members_of all))))) None) (b ∙ ap one_to_64 (sym (members-trees all))) ∙ ap (λ gs. routed_apart r (trees gs)) e

pub not_kept : (e : Expression) (fs : Networks Expr) (all : List (Net Expr)) → members_of all ≡ fs → false ≡ one_to_64 (length all) → None ≡ kept_apart (trees fs) (Some e)
not_kept e fs all q b =
    ap (λ x. cond x (Some (seq (arr e) (par (trees (members_of all))))) None) (b ∙ ap one_to_64 (sym (members-trees all))) ∙ ap (λ gs. kept_apart (trees gs) (Some e)) q

pub gathered-kept : (e : Expression) (fs : Networks Expr) (all : List (Net Expr)) → members_of all ≡ fs → true ≡ one_to_64 (length all) → Some (seq (arr e) (par (trees fs))) ≡ kept_apart (trees fs) (Some e)
gathered-kept e fs all q b =
    ap (λ gs. Some (seq (arr e) (par (trees gs)))) (sym q)
    ∙ ap (λ x. cond x (Some (seq (arr e) (par (trees (members_of all))))) None) (b ∙ ap one_to_64 (sym (members-trees all))) ∙ ap (λ gs. kept_apart (trees gs) (Some e)) q
