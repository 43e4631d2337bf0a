-- What resumes a frozen network.
use Rattle.std.proofs.Common.{◌≡◌, ℕ, zero, suc, List, [], ◌∷◌, None, Some, refl, sym, ap}
use Rattle.std.specs.List.{slice_get}
use Rattle.net_code.specs.declared.freezable.Freezable.{Freezable}
use Rattle.net_code.specs.Bodies.{old_body, same_body}
use Rattle.net_code.specs.CodeOf.{body_of_old}

at : (ps : List Freezable) (k i : ℕ) (p : Freezable) → slice_get ps k ≡ Some p → old_body i p.function p.params p.olds ≡ body_of_old ps k i
at [] k i p e = cc
at (q ∷ ps) zero i p e = let same : q ≡ p = cc in ap (λ (o : Freezable). old_body i o.function o.params o.olds) (sym same)
at (q ∷ ps) (suc k) i p e = at ps k i p e

none-at : (ps : List Freezable) (k i : ℕ) → slice_get ps k ≡ None → same_body ≡ body_of_old ps k i
none-at [] k i e = refl
none-at (q ∷ ps) zero i e = cc
none-at (q ∷ ps) (suc k) i e = none-at ps k i e

pub found : (ps : List Freezable) (k : ℕ) (p : Freezable) → slice_get ps k ≡ Some p → old_body k p.function p.params p.olds ≡ body_of_old ps k k
found ps k p e = at ps k k p e

pub absent : (ps : List Freezable) (k : ℕ) → slice_get ps k ≡ None → same_body ≡ body_of_old ps k k
absent ps k e = none-at ps k k e
