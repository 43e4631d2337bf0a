-- Answers that are parts of the network.
use Rattle.std.proofs.Common.{◌≡◌, ℕ, ◌<◌, ◌≤◌, Bool, true, false, cond, nat_le, List, length, get_or, Option, Some, None, option_map, Result, Ok, Err, IfOk, refl, sym, ap, ◌∙◌, arith}
use Rattle.std.proofs.lemmas.Bool.{le-leb}
use Rattle.leaf_core.specs.Expression.{Expression}
use Rattle.leaf_core.specs.declared.expr.Expr.{Expr}
use Rattle.net_tree.specs.Network.{Network, Networks, seq, k_switch}
use Rattle.net_tree.specs.NetworkView.{network_of, members_of, tree_of, tree, trees}
use Rattle.net_tree.specs.declared.net.Net.{Net}
use Rattle.net_tree.specs.declared.net.Net.TheVariants as V
use Rattle.net_meaning.specs.Typing.{members}
use Rattle.net_meaning.proofs.NetMembers.{members-trees, member-there, member-missing}
use Rattle.net_tree.specs.Place.{member}
use Rattle.law_rules.specs.Forward.{law20, law38, member_by}

-- an answer, by an equal one
pub answered : {E : Type 0} (r : Result (Option (Net Expr)) E) (x y : Option (Network Expression)) → x ≡ y → IfOk r (λ o. option_map tree_of o ≡ x) → IfOk r (λ o. option_map tree_of o ≡ y)
answered (Ok o) x y e h = h ∙ e
answered (Err f) x y e h = tt

pub behind : (net s : Net Expr) (f' s' : Network Expr) → net ≡ V.Seq f' s' → network_of s ≡ s' → law20 (seq (tree f') (tree_of s)) ≡ law20 (tree_of net)
behind net s f' s' p q = ap (λ w. law20 (seq (tree f') (tree w))) q ∙ ap (λ n. law20 (tree_of n)) (sym p)

pub frozen_again : (net f t : Net Expr) (f' e' t' : Network Expr) (olds : ℕ) (b : Bool) → net ≡ V.KSwitch f' e' t' → network_of f ≡ f' → network_of t ≡ t' → b ≡ true
    → cond b (Some (tree f')) None ≡ law38 olds (k_switch (tree f') (tree e') (tree_of t)) → Some (tree_of f) ≡ law38 olds (tree_of net)
frozen_again net f t f' e' t' olds b p q r k h =
    ap (λ w. Some (tree w)) q ∙ ap (λ x. cond x (Some (tree f')) None) (sym k) ∙ h
    ∙ ap (λ w. law38 olds (k_switch (tree f') (tree e') (tree w))) r ∙ ap (λ n. law38 olds (tree_of n)) (sym p)

few : (n : ℕ) → n ≤ 64 → nat_le n 64 ≡ true
few n h = le-leb n 64 h

pub found : (fs : Networks Expr) (all : List (Net Expr)) (i : ℕ) (f : Net Expr) → members_of all ≡ fs → length all ≤ 64 → i < length all → f ≡ get_or all i f
    → Some (tree_of f) ≡ member_by (trees fs) (Some i)
found fs all i f p h l e =
    ap (λ g. Some (tree_of g)) e ∙ sym (member-there all i f l)
    ∙ ap (λ b. cond b (member (trees (members_of all)) i) None) (sym (ap (λ n. nat_le n 64) (members-trees all) ∙ few (length all) h))
    ∙ ap (λ gs. member_by (trees gs) (Some i)) p

nothing-either : (b : Bool) → None ≡ cond b (let o : Option (Network Expression) = None in o) None
nothing-either true = refl
nothing-either false = refl

pub missing : (fs : Networks Expr) (all : List (Net Expr)) (i : ℕ) → members_of all ≡ fs → length all ≤ i → None ≡ member_by (trees fs) (Some i)
missing fs all i p h =
    nothing-either (nat_le (members (trees (members_of all))) 64)
    ∙ ap (λ o. cond (nat_le (members (trees (members_of all))) 64) o None) (sym (member-missing all i h)) ∙ ap (λ gs. member_by (trees gs) (Some i)) p

pub too_many : (fs : Networks Expr) (all : List (Net Expr)) (i : ℕ) → members_of all ≡ fs → 64 < length all → None ≡ member_by (trees fs) (Some i)
too_many fs all i p h =
    ap (λ b. cond b (member (trees (members_of all)) i) None) (sym (ap (λ n. nat_le n 64) (members-trees all) ∙ many (length all) h))
    ∙ ap (λ gs. member_by (trees gs) (Some i)) p
  where
    many : (n : ℕ) → 64 < n → nat_le n 64 ≡ false
    many n h = grind arith
