-- Where a part gets no more than so many times heavier, the whole does so too.
use Rattle.std.proofs.Common.{◌≡◌, ℕ, zero, suc, ◌+◌, ◌*◌, ◌≤◌, max, List, [], ◌∷◌, ◌++◌, Some, refl, sym, ap, ◌∙◌, subst, arith}
use Rattle.std.proofs.lemmas.Nat.{mul-le}
use Rattle.std.proofs.Math.Nat.{mul-add, mul_assoc, mul_comm, mul-one}
use Rattle.leaf_core.specs.Expression.{Expression}
use Rattle.net_tree.specs.Network.{Network, Networks, at_once, delayed, seq, first, par, loop_pre, switch, r_switch, k_switch, p_switch, old, initial_out, initial_in, rp_switch, no_members, and_member}
use Rattle.net_tree.specs.Height.{greatest}
use Rattle.net_tree.specs.Weight.{weight, weights, total}
use Rattle.net_tree.specs.Place.{a_network, a_leaf}
use Rattle.net_syntax.specs.Placed.{placed, placed_at, replaced}
use Rattle.net_view.proofs.Growing.{Measure, Allows, Under, none_under, one_under, measured, measures, whole_allowed, whole_inside}

-- the weight as a measure
abbrev by_weight : Measure
by_weight = record { members = total; two = λ a b. a + b; late = λ a b. a + 2 * b; collection = λ a us. 64 * greatest (a ∷ us) }

mutual
  is_weight : (f : Network Expression) (ws : List ℕ) → measured by_weight f ws ≡ weight f ws
  is_weight (seq f g) ws = omega (arith, is_weight f ws, is_weight g ws)
  is_weight (first f) ws = ap suc (is_weight f ws)
  is_weight (par fs) ws = ap (λ z. suc (total z)) (are_weights fs ws)
  is_weight (loop_pre c f) ws = ap suc (is_weight f ws)
  is_weight (switch tm f t) ws = omega (arith, is_weight f ws, is_weight t ws)
  is_weight (r_switch at_once f t) ws = omega (arith, is_weight f ws, is_weight t ws)
  is_weight (r_switch delayed f t) ws = omega (arith, is_weight f ws, is_weight t ws)
  is_weight (k_switch f e t) ws =
      let behind : measured by_weight t (ws ++ measured by_weight f ws ∷ []) ≡ weight t (ws ++ weight f ws ∷ []) =
      ap (λ z. measured by_weight t (ws ++ z ∷ [])) (is_weight f ws) ∙ is_weight t (ws ++ weight f ws ∷ []) in
      omega (arith, is_weight f ws, is_weight e ws, behind)
  is_weight (p_switch r fs e t) ws =
      let behind : measured by_weight t (ws ++ measures by_weight fs ws) ≡ weight t (ws ++ weights fs ws) =
      ap (λ z. measured by_weight t (ws ++ z)) (are_weights fs ws) ∙ is_weight t (ws ++ weights fs ws) in
      omega (arith, ap total (are_weights fs ws), is_weight e ws, behind)
  is_weight (old k) ws = refl
  is_weight (initial_out c f) ws = ap suc (is_weight f ws)
  is_weight (initial_in c f) ws = ap suc (is_weight f ws)
  is_weight (rp_switch fs m t) ws =
      ap (λ z. suc (64 * greatest (z ∷ measures by_weight fs ws))) (is_weight t ws) ∙ ap (λ z. suc (64 * greatest (weight t ws ∷ z))) (are_weights fs ws)
  is_weight _ ws = refl

  are_weights : (fs : Networks Expression) (ws : List ℕ) → measures by_weight fs ws ≡ weights fs ws
  are_weights no_members ws = refl
  are_weights (and_member f fs) ws = ap (λ z. z ∷ measures by_weight fs ws) (is_weight f ws) ∙ ap (λ z. weight f ws ∷ z) (are_weights fs ws)

-- a node weighs something
pub heavy : (net : Network Expression) (ws : List ℕ) → 1 ≤ weight net ws
heavy (seq f g) ws = omega arith
heavy (r_switch at_once f t) ws = omega arith
heavy _ ws = omega arith

-- so many times as much
module _ (r : ℕ) (some : 1 ≤ r) where
  abbrev Times : ℕ → ℕ
  Times w = r * w

  adds : (a b : ℕ) → r * a + r * b ≤ r * (a + b)
  adds a b = omega (arith, mul-add r a b)

  grows : (a b : ℕ) → a ≤ b → r * a ≤ r * b
  grows a b l = mul-le r a r b (omega arith) l

  more : (a : ℕ) → suc (r * a) ≤ r * suc a
  more a = omega (arith, some, mul-add r 1 a, mul-one r)

  times_many : (a : ℕ) → 64 * (r * a) ≤ r * (64 * a)
  times_many a =
      let e : 64 * (r * a) ≡ r * (64 * a) = sym (mul_assoc 64 r a) ∙ ap (λ z. z * a) (mul_comm 64 r) ∙ mul_assoc r 64 a in omega (arith, e)

  under_total : {us ws : List ℕ} → Under Times us ws → total us ≤ r * total ws
  under_total none_under = omega arith
  under_total (one_under {x = x} {y = y} {xs = xs} {ys = ys} h hs) = omega (arith, h, under_total hs, adds y (total ys))

  under_greatest : {us ws : List ℕ} → Under Times us ws → greatest us ≤ r * greatest ws
  under_greatest none_under = omega arith
  under_greatest (one_under {x = x} {y = y} {xs = xs} {ys = ys} h hs) =
      omega (arith, h, under_greatest hs, grows y (max y (greatest ys)) (omega arith), grows (greatest ys) (max y (greatest ys)) (omega arith))

  collection : (a x : ℕ) {us ws : List ℕ} → a ≤ r * x → Under Times us ws → 64 * greatest (a ∷ us) ≤ r * (64 * greatest (x ∷ ws))
  collection a x {us = us} {ws = ws} h u = omega (arith, under_greatest (one_under h u), times_many (greatest (x ∷ ws)))

  times_allowed : Allows by_weight Times
  times_allowed = record {
    one_more = more;
    two_grow = λ a b x y h k. omega (arith, h, k, adds x y);
    late_grow = λ a b x y h k. omega (arith, h, k, adds x y, adds (x + y) y, grows (x + y + y) (x + 2 * y) (omega arith));
    members_grow = under_total;
    collection_grows = collection;
  }

-- where a part with nothing frozen in scope gets at most so many times heavier, the whole is there with it, and does so too
pub whole_times : (r : ℕ) (f : Network Expression) (p : List ℕ) (g s : Network Expression) (m : ℕ) → placed_at 0 0 (a_network f) p ≡ Some (placed m 0 (a_network g))
    → weight s [] ≤ r * weight g []
    → (v : Network Expression) × (replaced (a_network f) p (a_network s) ≡ Some (a_network v)) × (weight v [] ≤ r * weight f [])
whole_times r f p g s m i h =
    let w = whole_allowed by_weight (λ w. r * w) (times_allowed r (some r refl)) f p g s m i (omega (arith, h, is_weight s [], ap (λ z. r * z) (is_weight g []))) in
    (w.0, w.1, omega (arith, w.2, is_weight w.0 [], ap (λ z. r * z) (is_weight f [])))
  where
    -- a network weighs something, so r isn't 0
    some : (n : ℕ) → r ≡ n → 1 ≤ r
    some zero e = absurd (omega (arith, heavy s [], subst (λ z. weight s [] ≤ z * weight g []) e h))
    some (suc n) e = omega (arith, e)

-- and where a part of an expression is another, the whole weighs the same
pub whole_light : (f : Network Expression) (p : List ℕ) (e s : Expression) (m n : ℕ) → placed_at 0 0 (a_network f) p ≡ Some (placed m n (a_leaf e))
    → (v : Network Expression) × (replaced (a_network f) p (a_leaf s) ≡ Some (a_network v)) × (weight v [] ≤ weight f [])
whole_light f p e s m n i =
    let w = whole_inside by_weight (λ w. 1 * w) (times_allowed 1 (omega arith)) f p e s m n i in
    (w.0, w.1, omega (arith, w.2, is_weight w.0 [], is_weight f []))
