-- What is measured of a node, by what is measured of its parts.
use Rattle.std.proofs.Common.{◌≡◌, ◌⊎◌, ◌∙◌, ℕ, suc, ◌+◌, ◌<◌, ◌≤◌, max, List, [], ◌∷◌, map, Result, Ok, Err, refl, ap, ap₂, inl, inr, arith}
use Rattle.std.proofs.lemmas.Bool.{cases_lt}
use Rattle.net_tree.specs.Height.{greatest}
use Rattle.net_tree.specs.Measured.{Counts, GathersMeasures, capped}
use Rattle.net_tree.specs.Weight.{total}
use Rattle.net_tree.specs.declared.measure.Measures.{Measures}
use Rattle.net_tree.specs.declared.measure.Stop.{Stop}
use Rattle.net_tree.specs.declared.measure.Stop.TheVariants.{Large, Heavy, High, Memory}

-- numbers that are capped the same
pub recount : (r : Result Measures Stop) (most : Measures) (s s' w w' h h' : ℕ) → Counts r most s w h → capped s ≡ capped s' → capped w ≡ capped w'
    → capped h ≡ capped h' → Counts r most s' w' h'
recount (Ok m) most s s' w w' h h' c i j k = (c.0 ∙ i, c.1 ∙ j, c.2 ∙ k, c.3, c.4, c.5)
recount (Err Large) most s s' w w' h h' c i j k = omega (arith, c, i)
recount (Err Heavy) most s s' w w' h h' c i j k = omega (arith, c, j)
recount (Err High) most s s' w w' h h' c i j k = omega (arith, c, k)
recount (Err (Memory m)) most s s' w w' h h' c i j k = c

-- where members are over a limit, so is a node over them
pub over_node : (e : Stop) (most : Measures) (s s' : ℕ) (ws hs : List ℕ) (w h : ℕ) → GathersMeasures (Err e) most s ws hs → s ≤ s' → greatest ws ≤ w
    → greatest hs ≤ h → Counts (Err e) most s' w h
over_node Large most s s' ws hs w h c i j k = omega (arith, c, i)
over_node Heavy most s s' ws hs w h c i j k = omega (arith, c, j)
over_node High most s s' ws hs w h c i j k = omega (arith, c, k)
over_node (Memory m) most s s' ws hs w h c i j k = c

-- the greatest is at most the sum
pub greatest_in_total : (ws : List ℕ) → greatest ws ≤ total ws
greatest_in_total [] = omega arith
greatest_in_total (w ∷ ws) = omega (arith, greatest_in_total ws)

-- numbers of a list are capped to the end, or one is over all that is capped
exact_or_full : (ws : List ℕ) → (map capped ws ≡ ws) ⊎ (4294967295 ≤ greatest ws)
exact_or_full [] = inl refl
exact_or_full (w ∷ ws) = go (exact_or_full ws) (cases_lt 4294967295 w)
  where
    go : (map capped ws ≡ ws) ⊎ (4294967295 ≤ greatest ws) → (4294967295 < w) ⊎ (w ≤ 4294967295)
        → (map capped (w ∷ ws) ≡ w ∷ ws) ⊎ (4294967295 ≤ greatest (w ∷ ws))
    go (inl e) (inl h) = inr (omega (arith, h))
    go (inl e) (inr h) = let i : capped w ≡ w = omega (arith, h) in inl (ap₂ (λ o os. o ∷ os) i e)
    go (inr h) k = inr (omega (arith, h))

-- what is measured under frozen networks by their capped weights is, beside these weights, what it is by the weights themselves
pub beside_frozen : (X : List ℕ → ℕ) (ws us : List ℕ) (a : ℕ) → us ≡ map capped ws → greatest ws ≤ a → capped (a + X us) ≡ capped (a + X ws)
beside_frozen X ws us a e h = ap (λ o. capped (a + X o)) e ∙ go (exact_or_full ws)
  where
    go : (map capped ws ≡ ws) ⊎ (4294967295 ≤ greatest ws) → capped (a + X (map capped ws)) ≡ capped (a + X ws)
    go (inl i) = ap (λ o. capped (a + X o)) i
    go (inr k) = omega (arith, h, k)

-- and so of heights
pub above_frozen : (X : List ℕ → ℕ) (hs us : List ℕ) (a : ℕ) → us ≡ map capped hs → greatest hs ≤ a → capped (max a (X us)) ≡ capped (max a (X hs))
above_frozen X hs us a e h = ap (λ o. capped (max a (X o))) e ∙ go (exact_or_full hs)
  where
    go : (map capped hs ≡ hs) ⊎ (4294967295 ≤ greatest hs) → capped (max a (X (map capped hs))) ≡ capped (max a (X hs))
    go (inl i) = ap (λ o. capped (max a (X o))) i
    go (inr k) = omega (arith, h, k)

-- what is over a limit under frozen networks is so beside these
pub over_frozen : (e : Stop) (most : Measures) (s s' w w' x x' h h' y y' : ℕ) → Counts (Err e) most s x y → s ≤ s' → capped (w + x) ≡ capped (w + x') → w + x' ≤ w'
    → capped (max h y) ≡ capped (max h y') → max h y' ≤ h' → Counts (Err e) most s' w' h'
over_frozen Large most s s' w w' x x' h h' y y' c i j k l m = omega (arith, c, i)
over_frozen Heavy most s s' w w' x x' h h' y y' c i j k l m = omega (arith, c, j, k)
over_frozen High most s s' w w' x x' h h' y y' c i j k l m = omega (arith, c, l, m)
over_frozen (Memory r) most s s' w w' x x' h h' y y' c i j k l m = c

-- the size, the weight and the height of a node over three parts, the last of which is under the first
pub node_size : (n m sf se st f e t : ℕ) → m ≡ capped (suc n) → f ≡ capped (m + sf) → e ≡ capped (f + se) → t ≡ capped (e + st)
    → capped t ≡ capped (n + suc (sf + se + st))
node_size n m sf se st f e t h i j k = omega (arith, h, i, j, k)

pub node_weight : (wf we wt wt' f e t u v : ℕ) → f ≡ capped wf → e ≡ capped we → t ≡ capped wt → u ≡ capped (f + e) → v ≡ capped (u + t)
    → capped (wf + we + wt) ≡ capped (wf + we + wt') → capped (suc v) ≡ capped (suc (wf + we + wt'))
node_weight wf we wt wt' f e t u v i j k l m o =
    let p : u ≡ capped (wf + we) = omega (arith, i, j, l) in
    let q : v ≡ capped (wf + we + wt) = omega (arith, k, m, p) in
    omega (arith, o, q)

pub node_height : (hf he ht ht' f e t u v : ℕ) → f ≡ capped hf → e ≡ capped he → t ≡ capped ht → u ≡ max f e → v ≡ max u t
    → capped (max (max hf he) ht) ≡ capped (max (max hf he) ht') → capped (suc v) ≡ capped (suc (max (max hf he) ht'))
node_height hf he ht ht' f e t u v i j k l m o =
    let p : u ≡ capped (max hf he) = omega (arith, i, j, l) in
    let q : v ≡ capped (max (max hf he) ht) = omega (arith, k, m, p) in
    omega (arith, o, q)
