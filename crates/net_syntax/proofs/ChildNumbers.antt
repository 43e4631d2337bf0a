-- The children of a network by their numbers.
use Rattle.std.proofs.Common.{◌≡◌, ℕ, zero, suc, ◌+◌, ◌-◌, ◌≤◌, ◌<◌, List, [], ◌∷◌, length, get_or, Option, Some, None, option_map, IfSome, refl, ap, sym, ◌∙◌, arith}
use Rattle.std.specs.Option.{MatchOption}
use Rattle.std.specs.List.{HoldsAt}
use denote.Bor.{Bor}
use Rattle.leaf_core.specs.Expression.{Expression}
use Rattle.leaf_core.specs.declared.expr.Expr.{Expr}
use Rattle.net_tree.specs.Network.{Network, Networks, p_switch, no_members, and_member}
use Rattle.net_tree.specs.NetworkView.{members_of, tree_of, trees}
use Rattle.net_tree.specs.Place.{member, member_child, continuation_child, p_switch_child}
use Rattle.net_syntax.specs.Placed.{bound, bound_behind, bound_in}
use Rattle.net_meaning.specs.Typing.{members}
use Rattle.net_meaning.proofs.NetMembers.{members-trees, member-there, member-missing}
use Rattle.net_tree.specs.declared.net.Net.{Net}
use Rattle.net_syntax.specs.LeafWalk.{few}
use Rattle.std.proofs.lemmas.Bool.{le-leb, lt-leb}

-- up to 64 members are few
pub few_passed : (all : List (Net Expr)) → length all ≤ 64 → few (trees (members_of all)) ≡ Some (length all)
few_passed all h = rw (members-trees all, le-leb (length all) 64 h) refl

pub few_failed : (all : List (Net Expr)) → 64 < length all → few (trees (members_of all)) ≡ None
few_failed all h = rw (members-trees all, lt-leb (length all) 64 h) refl

pub member_found : (all : List (Net Expr)) (fs : Networks Expr) (k : ℕ) (r : Option (Bor (Net Expr))) → members_of all ≡ fs
    → IfSome r (λ x. x.now ≡ get_or all k x.now) → MatchOption r (length all ≤ k) (λ x. (k < length all) × HoldsAt (λ y. x.now ≡ y) all k)
    → option_map (λ f. tree_of f.now) r ≡ member (trees fs) k
member_found all fs k None p found within = sym (member-missing all k within) ∙ ap (λ z. member (trees z) k) p
member_found all fs k (Some x) p found within =
    ap (λ z. Some (tree_of z)) found ∙ (sym (member-there all k x.now within.0) ∙ ap (λ z. member (trees z) k) p)

pub below : (all : List (Net Expr)) (k : ℕ) → k < length all → p_switch_child (trees (members_of all)) k ≡ member_child
below [] k h = absurd (omega arith)
below (f ∷ fs) zero h = refl
below (f ∷ fs) (suc k) h = below fs k (omega arith)

pub past : (all : List (Net Expr)) (k j : ℕ) → k ≡ length all + j → p_switch_child (trees (members_of all)) k ≡ p_switch_child {L = Expression} no_members j
past [] k j h = let q : k ≡ j = omega arith in ap (p_switch_child {L = Expression} no_members) q
past (f ∷ fs) zero j h = absurd (omega arith)
past (f ∷ fs) (suc k) j h = past fs k j (omega arith)

-- the continuation of a pSwitch stands behind all members and the event
pub continuation_at : (fs : Networks Expression) (k : ℕ) → p_switch_child fs k ≡ continuation_child → k ≡ suc (members fs)
continuation_at no_members zero e = absurd (cc)
continuation_at no_members (suc zero) e = refl
continuation_at no_members (suc (suc k)) e = absurd (cc)
continuation_at (and_member f fs) zero e = absurd (cc)
continuation_at (and_member f fs) (suc k) e = ap suc (continuation_at fs k e)

-- it binds the frozen members
pub binds_all : (fs : Networks Expression) (r : Expression) (e t : Network Expression) (k : ℕ) → 0 < k → p_switch_child fs (k - 1) ≡ continuation_child
    → bound_in (p_switch r fs e t) k ≡ bound 1 (k - 2)
binds_all fs r e t zero h p = absurd (omega arith)
binds_all fs r e t (suc k) h p =
    let e : k ≡ suc k - 1 = omega arith in
    let p' = ap (p_switch_child fs) e ∙ p in
    let q = continuation_at fs k p' in
    let n : members fs ≡ suc k - 2 = omega (arith, q) in
    ap (λ c. bound_behind c fs) p' ∙ ap (bound 1) n
