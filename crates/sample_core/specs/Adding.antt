-- What a call that adds bytes at the end of a text leaves there.
use Rattle.std.specs.Prelude.{◌≡◌, ◌++◌, ℕ, List, Result, MatchResult}

-- the old text is the beginning of the new one
pub record Extends (old new : List ℕ) : Type 0 where
  pub behind : List ℕ
  pub joined : new ≡ old ++ behind

-- the bytes were added; or, after a refusal, the old text is still the beginning
abbrev pub Adds : {T E : Type 0} → Result T E → List ℕ → List ℕ → List ℕ → Type 0
Adds result old new bytes = MatchResult result (λ _. new ≡ old ++ bytes) (λ _. Extends old new)
