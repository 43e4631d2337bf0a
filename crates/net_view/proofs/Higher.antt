-- Where a part gets at most so much higher, the whole does so too.
use Rattle.std.proofs.Common.{◌≡◌, ℕ, suc, ◌+◌, ◌≤◌, max, List, [], ◌∷◌, ◌++◌, Some, refl, ap, ◌∙◌, arith}
use Rattle.leaf_core.specs.Expression.{Expression}
use Rattle.net_tree.specs.Network.{Network, Networks, at_once, delayed, seq, first, par, loop_pre, switch, r_switch, k_switch, p_switch, old, initial_out, initial_in, rp_switch, no_members, and_member}
use Rattle.net_tree.specs.Height.{height, heights, greatest}
use Rattle.net_tree.specs.Place.{a_network, a_leaf}
use Rattle.net_syntax.specs.Placed.{placed, placed_at, replaced}
use Rattle.net_view.proofs.Growing.{Measure, Allows, Under, none_under, one_under, measured, measures, whole_allowed, whole_inside}

-- the height as a measure
abbrev by_height : Measure
by_height = record { members = greatest; two = λ a b. max a b; late = λ a b. max a b; collection = λ a us. max (greatest us) a }

mutual
  is_height : (f : Network Expression) (hs : List ℕ) → measured by_height f hs ≡ height f hs
  is_height (seq f g) hs = omega (arith, is_height f hs, is_height g hs)
  is_height (first f) hs = ap suc (is_height f hs)
  is_height (par fs) hs = ap (λ z. suc (greatest z)) (are_heights fs hs)
  is_height (loop_pre c f) hs = ap suc (is_height f hs)
  is_height (switch tm f t) hs = omega (arith, is_height f hs, is_height t hs)
  is_height (r_switch at_once f t) hs = omega (arith, is_height f hs, is_height t hs)
  is_height (r_switch delayed f t) hs = omega (arith, is_height f hs, is_height t hs)
  is_height (k_switch f e t) hs =
      let behind : measured by_height t (hs ++ measured by_height f hs ∷ []) ≡ height t (hs ++ height f hs ∷ []) =
      ap (λ z. measured by_height t (hs ++ z ∷ [])) (is_height f hs) ∙ is_height t (hs ++ height f hs ∷ []) in
      omega (arith, is_height f hs, is_height e hs, behind)
  is_height (p_switch r fs e t) hs =
      let behind : measured by_height t (hs ++ measures by_height fs hs) ≡ height t (hs ++ heights fs hs) =
      ap (λ z. measured by_height t (hs ++ z)) (are_heights fs hs) ∙ is_height t (hs ++ heights fs hs) in
      omega (arith, ap greatest (are_heights fs hs), is_height e hs, behind)
  is_height (old k) hs = refl
  is_height (initial_out c f) hs = ap suc (is_height f hs)
  is_height (initial_in c f) hs = ap suc (is_height f hs)
  is_height (rp_switch fs m t) hs = omega (arith, ap greatest (are_heights fs hs), is_height t hs)
  is_height _ hs = refl

  are_heights : (fs : Networks Expression) (hs : List ℕ) → measures by_height fs hs ≡ heights fs hs
  are_heights no_members hs = refl
  are_heights (and_member f fs) hs = ap (λ z. z ∷ measures by_height fs hs) (is_height f hs) ∙ ap (λ z. height f hs ∷ z) (are_heights fs hs)

-- so much more
module _ (rise : ℕ) where
  abbrev Rises : ℕ → ℕ
  Rises h = rise + h

  under_greatest : {us hs : List ℕ} → Under Rises us hs → greatest us ≤ rise + greatest hs
  under_greatest none_under = omega arith
  under_greatest (one_under {x = x} {y = y} {xs = xs} {ys = ys} h hs) = omega (arith, h, under_greatest hs)

  rises_allowed : Allows by_height Rises
  rises_allowed = record {
    one_more = λ a. omega arith;
    two_grow = λ a b x y h k. omega (arith, h, k);
    late_grow = λ a b x y h k. omega (arith, h, k);
    members_grow = under_greatest;
    collection_grows = λ a x h u. omega (arith, h, under_greatest u);
  }

-- where a part with nothing frozen in scope gets at most so much higher, the whole is there with it, and does so too
pub whole_rises : (rise : ℕ) (f : Network Expression) (p : List ℕ) (g s : Network Expression) (m : ℕ) → placed_at 0 0 (a_network f) p ≡ Some (placed m 0 (a_network g))
    → height s [] ≤ rise + height g []
    → (v : Network Expression) × (replaced (a_network f) p (a_network s) ≡ Some (a_network v)) × (height v [] ≤ rise + height f [])
whole_rises rise f p g s m i h =
    let w = whole_allowed by_height (λ w. rise + w) (rises_allowed rise) f p g s m i (omega (arith, h, is_height s [], is_height g [])) in
    (w.0, w.1, omega (arith, w.2, is_height w.0 [], is_height f []))

-- and where a part of an expression is another, the whole is as high
pub whole_low : (f : Network Expression) (p : List ℕ) (e s : Expression) (m n : ℕ) → placed_at 0 0 (a_network f) p ≡ Some (placed m n (a_leaf e))
    → (v : Network Expression) × (replaced (a_network f) p (a_leaf s) ≡ Some (a_network v)) × (height v [] ≤ height f [])
whole_low f p e s m n i =
    let w = whole_inside by_height (λ w. 0 + w) (rises_allowed 0) f p e s m n i in
    (w.0, w.1, omega (arith, w.2, is_height w.0 [], is_height f []))
