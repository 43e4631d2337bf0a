-- The order of the positions in the walk.
use Rattle.std.specs.Prelude.{ℕ, ◌<◌, List, [], ◌∷◌, cond, nat_eq}

-- the first position is beside the way to the second one, at a lower number
pub data LeftOf : List ℕ → List ℕ → Type 0 where
  lower : {j k : ℕ} {q p : List ℕ} → j < k → LeftOf (j ∷ q) (k ∷ p)
  deeper : {k : ℕ} {q p : List ℕ} → LeftOf q p → LeftOf (k ∷ q) (k ∷ p)

-- the walk comes to the first position before the second one: it is on the way there, or left of it
pub data Before : List ℕ → List ℕ → Type 0 where
  on_the_way : {k : ℕ} {p : List ℕ} → Before [] (k ∷ p)
  before_at : {j k : ℕ} {q p : List ℕ} → j < k → Before (j ∷ q) (k ∷ p)
  before_below : {k : ℕ} {q p : List ℕ} → Before q p → Before (k ∷ q) (k ∷ p)

-- what is left of a position behind number k; nothing where it begins otherwise
abbrev pub onward : List ℕ → ℕ → List ℕ
onward [] k = []
onward (j ∷ p) k = cond (nat_eq j k) p []
