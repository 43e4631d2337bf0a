-- What the laws that aren't two patterns make of a network is a right side.
use Rattle.std.proofs.Common.{◌≡◌, ℕ, ◌≤◌, Bool, true, false, cond, nat_le, nat_eq, ◌&&◌, pos, Option, Some, None, refl, sym, ap₂, subst, arith}
use Rattle.std.proofs.lemmas.Bool.{leb-true, le-leb}
use Rattle.leaf_core.specs.Expression.{Expression, input, int_expr, pair_expr, no_event_expr, list_expr, nth}
use Rattle.net_tree.specs.Network.{Network, Networks, arr, seq, par, after, repeatedly, time, rp_switch, k_switch, p_switch, old}
use Rattle.net_meaning.specs.Typing.{members}
use Rattle.net_tree.specs.Place.{member}
use Rattle.law_rules.specs.NetworkLaw.{SeesSteps, after_sees, repeatedly_sees, time_sees, behind_routes, each_after, each_arr, count, NetworkLaw, law_l20, law_l38, law_l39, law_l40, law_l41, law_l42, law_l46}
use Rattle.law_rules.specs.Forward.{one_to_64, law20, law38, law39, law40, law41, law42, beside_none, kept_apart, law46}

-- an answer, if there is one, is a right side
abbrev pub IsRight : ℕ → ℕ → Network Expression → Option (Network Expression) → Type 0
IsRight n olds net (Some r) = NetworkLaw n olds net r
IsRight n olds net None = Unit {0}

-- a right side that asks for a test
gives-where : (n olds : ℕ) (net : Network Expression) (b : Bool) (o : Option (Network Expression)) → (b ≡ true → IsRight n olds net o) → IsRight n olds net (cond b o None)
gives-where n olds net true o h = h refl
gives-where n olds net false o h = tt

both : (a b : Bool) → a && b ≡ true → (a ≡ true) × (b ≡ true)
both true b e = (refl, e)
both false b e = absurd (cc)

from_1 : (n : ℕ) → one_to_64 n ≡ true → 1 ≤ n
from_1 n e = leb-true 1 n (both (nat_le 1 n) (nat_le n 64) e).0

to_64 : (n : ℕ) → one_to_64 n ≡ true → n ≤ 64
to_64 n e = leb-true n 64 (both (nat_le 1 n) (nat_le n 64) e).1

same_number : (m n : ℕ) → nat_eq m n ≡ true → m ≡ n
same_number m n e = grind arith

pub same-number : (n : ℕ) → nat_eq n n ≡ true
same-number n = grind arith

pub in_bounds : (n : ℕ) → 1 ≤ n → n ≤ 64 → one_to_64 n ≡ true
in_bounds n l h = ap₂ (λ a b. a && b) (le-leb 1 n l) (le-leb n 64 h)

module _ (olds : ℕ) where
  pub law20-gives : (net : Network Expression) → IsRight 20 olds net (law20 net)
  law20-gives (seq f (after q c)) = law_l20 after_sees
  law20-gives (seq f (repeatedly q c)) = law_l20 repeatedly_sees
  law20-gives (seq f time) = law_l20 time_sees
  law20-gives _ = tt

  pub law38-gives : (net : Network Expression) → IsRight 38 olds net (law38 olds net)
  law38-gives (k_switch f e (old k)) = gives-where 38 olds (k_switch f e (old k)) (nat_eq k olds) (Some f) (λ q. subst (λ v. NetworkLaw 38 olds (k_switch f e (old v)) f) (sym (same_number k olds q)) law_l38)
  law38-gives _ = tt

  pub law39-gives : (net : Network Expression) → IsRight 39 olds net (law39 net)
  law39-gives (p_switch r fs (arr (no_event_expr C)) t) =
      gives-where 39 olds (p_switch r fs (arr (no_event_expr C)) t) (one_to_64 (members fs)) (Some (par (behind_routes r 0 fs)))
      (λ e. law_l39 (from_1 (members fs) e) (to_64 (members fs) e))
  law39-gives _ = tt

  member-gives : (fs : Networks Expression) (i : ℕ) (d : Expression) → members fs ≤ 64 → (o : Option (Network Expression)) → member fs i ≡ o → IsRight 40 olds (seq (par fs) (arr (nth input (int_expr (pos i)) d))) o
  member-gives fs i d few (Some f) e = law_l40 few e
  member-gives fs i d few None e = tt

  pub law40-gives : (net : Network Expression) → IsRight 40 olds net (law40 net)
  law40-gives (seq (par fs) (arr (nth input (int_expr (pos i)) d))) = gives-where 40 olds (seq (par fs) (arr (nth input (int_expr (pos i)) d))) (nat_le (members fs) 64) (member fs i) (λ e. member-gives fs i d (leb-true (members fs) 64 e) (member fs i) refl)
  law40-gives _ = tt

  pub law41-gives : (net : Network Expression) → IsRight 41 olds net (law41 net)
  law41-gives (seq h (par fs)) = gives-where 41 olds (seq h (par fs)) (one_to_64 (members fs)) (Some (par (each_after h fs))) (λ e. law_l41 (from_1 (members fs) e) (to_64 (members fs) e))
  law41-gives _ = tt

  pub law42-gives : (net : Network Expression) → IsRight 42 olds net (law42 net)
  law42-gives (arr (list_expr T es)) = gives-where 42 olds (arr (list_expr T es)) (one_to_64 (count es)) (Some (par (each_arr es))) (λ e. law_l42 (from_1 (count es) e) (to_64 (count es) e))
  law42-gives _ = tt

  kept-gives : (e m : Expression) (fs : Networks Expression) (t : Network Expression) → IsRight 46 olds (seq (arr e) (rp_switch fs m t)) (kept_apart fs (beside_none e))
  kept-gives (pair_expr e (no_event_expr C)) m fs t =
      gives-where 46 olds (seq (arr (pair_expr e (no_event_expr C))) (rp_switch fs m t)) (one_to_64 (members fs)) (Some (seq (arr e) (par fs)))
      (λ q. law_l46 (from_1 (members fs) q) (to_64 (members fs) q))
  kept-gives _ m fs t = tt

  pub law46-gives : (net : Network Expression) → IsRight 46 olds net (law46 net)
  law46-gives (seq (arr e) (rp_switch fs m t)) = kept-gives e m fs t
  law46-gives _ = tt

pub sees-is : (f : Network Expression) {s : Network Expression} → SeesSteps s → law20 (seq f s) ≡ Some s
sees-is f after_sees = refl
sees-is f _ = refl
