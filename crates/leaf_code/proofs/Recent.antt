-- Looking through the last steps, one by one.
use Rattle.std.proofs.Common.{◌≡◌, ◌<◌, ◌≤◌, ◌-◌, ℕ, zero, suc, true, false, List, [], ◌∷◌, length, drop, get_or, Some, None, refl, sym, ap, ◌∙◌, arith, map}
use Rattle.std.specs.Prelude.{if◌then◌else◌}
use Rattle.std.proofs.lemmas.List.{length-map}
use Rattle.sample_core.specs.TypeTree.{TypeTree}
use Rattle.leaf_code.specs.declared.operation.Step.{Step}
use Rattle.leaf_code.specs.declared.key.Key.{Key}
use Rattle.leaf_code.specs.Keys.{is_computed, register_of}
use Rattle.leaf_code.specs.CodeView.{step_of, steps_in}
use Rattle.leaf_code.specs.CodeOf.{computed}

-- the steps from number k on
from : (ss : List Step) (k : ℕ) (s : Step) → k < length ss → s ≡ get_or ss k s
    → drop k (steps_in ss) ≡ step_of s ∷ drop (suc k) (steps_in ss)
from [] k s l e = absurd (omega (arith, l))
from (t ∷ ss) zero s l e = ap (λ u. step_of u ∷ steps_in ss) (sym e)
from (t ∷ ss) (suc k) s l e = from ss k s (omega (arith, l)) e

module _ (T : TypeTree) (key : Key) (ss : List Step) (k j : ℕ) (s : Step) (next : j ≡ suc k) (l : k < length ss) (is : s ≡ get_or ss k s) where
  by : register_of T key (suc k) (drop k (steps_in ss))
      ≡ (if is_computed j T key (step_of s) then Some j else register_of T key (suc j) (drop j (steps_in ss)))
  by =
      ap (register_of T key (suc k)) (from ss k s l is)
      ∙ ap (λ i. if is_computed i T key (step_of s) then Some i else register_of T key (suc i) (drop i (steps_in ss))) (sym next)

  pub found-here : is_computed j T key (step_of s) ≡ true → register_of T key (suc k) (drop k (steps_in ss)) ≡ Some j
  found-here e = by ∙ ap (λ b. if b then Some j else register_of T key (suc j) (drop j (steps_in ss))) e

  pub found-later : is_computed j T key (step_of s) ≡ false
      → register_of T key (suc k) (drop k (steps_in ss)) ≡ register_of T key (suc j) (drop j (steps_in ss))
  found-later e = by ∙ ap (λ b. if b then Some j else register_of T key (suc j) (drop j (steps_in ss))) e

dropped : (ss : List Step) (k : ℕ) → length ss ≤ k → drop k (steps_in ss) ≡ []
dropped [] zero l = refl
dropped [] (suc k) l = refl
dropped (s ∷ ss) zero l = absurd (omega (arith, l))
dropped (s ∷ ss) (suc k) l = dropped ss k (omega (arith, l))

pub found-none : (T : TypeTree) (key : Key) (ss : List Step) (k : ℕ) → length ss ≤ k
    → register_of T key (suc k) (drop k (steps_in ss)) ≡ None
found-none T key ss k l = ap (register_of T key (suc k)) (dropped ss k l)

-- the first of the last
pub begins : (T : TypeTree) (key : Key) (ss : List Step) (k : ℕ) → k ≡ length ss - 1000
    → computed T (steps_in ss) (Some key) ≡ register_of T key (suc k) (drop k (steps_in ss))
begins T key ss k e =
    let m : length (map step_of ss) ≡ length ss = length-map ss step_of in
    ap (λ i. register_of T key (suc i) (drop i (steps_in ss))) (ap (λ i. i - 1000) m ∙ sym e)
