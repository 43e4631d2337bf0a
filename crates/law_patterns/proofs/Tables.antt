-- What holds of each law of a table holds at any number.
use Rattle.std.proofs.Common.{◌≡◌, ℕ, zero, suc, ◌+◌, ◌≤◌, length, List, [], ◌∷◌, ◌∙◌, subst, arith}
use Rattle.law_patterns.specs.Table.{rule_in, left_in, right_in}

-- what stands at each number of a table, from number k on
abbrev pub Each : {R S : Type 0} → (ℕ → R → List S → List S → Type 0) → List (R × record { now : List S } × record { now : List S }) → ℕ → Type 0
Each Stands [] k = Unit {0}
Each Stands (law ∷ laws) k = Stands k law.0 law.1.now law.2.now × Each Stands laws (suc k)

abbrev shifted : ℕ → ℕ → ℕ
shifted k zero = k
shifted k (suc n) = shifted (suc k) n

shifted-is : (k n : ℕ) → shifted k n ≡ k + n
shifted-is k zero = omega arith
shifted-is k (suc n) = let e : shifted (suc k) n ≡ suc k + n = shifted-is (suc k) n in omega arith

each-from : {R S : Type 0} (Stands : ℕ → R → List S → List S → Type 0) (laws : List (R × record { now : List S } × record { now : List S })) (nothing : R) (k n : ℕ)
    → ((m : ℕ) → k + length laws ≤ m → Stands m nothing [] []) → Each Stands laws k → Stands (shifted k n) (rule_in laws nothing n) (left_in laws n) (right_in laws n)
each-from Stands [] nothing k n outside all = outside (shifted k n) (let e = shifted-is k n in omega (arith, e))
each-from Stands (law ∷ laws) nothing k zero outside all = all.0
each-from Stands (law ∷ laws) nothing k (suc n) outside all = each-from Stands laws nothing (suc k) n (λ m h. outside m (omega (arith, h))) all.1

-- what stands at a number, if nothing that stands outside is the law of one
pub each-at : {R S : Type 0} (Stands : ℕ → R → List S → List S → Type 0) (laws : List (R × record { now : List S } × record { now : List S })) (nothing : R) (n : ℕ)
    → ((m : ℕ) → length laws ≤ m → Stands m nothing [] []) → Each Stands laws 0 → Stands n (rule_in laws nothing n) (left_in laws n) (right_in laws n)
each-at Stands laws nothing n outside all =
    subst (λ k. Stands k (rule_in laws nothing n) (left_in laws n) (right_in laws n)) (shifted-is 0 n ∙ omega arith)
    (each-from Stands laws nothing 0 n (λ m h. outside m (omega (arith, h))) all)
