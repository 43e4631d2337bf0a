-- What a word is where a number may stand.
use Rattle.std.specs.Prelude.{ℕ, Bool, ◌&&◌, not, nat_le, List, ℤ, pos, negsuc, Option, Some, None, if◌then◌else◌, ◌≡◌, ◌≤◌, ◌<◌, ◌^◌, FitsSigned}
use Rattle.sample_core.specs.Number.{is_minus, is_number_word, is_well_spelt, magnitude, number_of, is_in_64}
use Rattle.std.specs.Int.{w64}
use Rattle.std.specs.Fmt.{decimal, signed_decimal}

-- What a word is at a place: a tree, a number word that is badly spelt or out of range, or neither.
pub data WordReading (T : Type 0) : Type 0 where
  reads : T → WordReading T
  misspelt : WordReading T
  unfit : WordReading T

-- a natural number from low to high
abbrev pub is_between : ℕ → ℕ → List ℕ → Bool
is_between low high w = not (is_minus w) && nat_le low (magnitude w) && nat_le (magnitude w) high

-- where a number of 64 bits may stand
abbrev pub integer_at : List ℕ → WordReading ℤ
integer_at w = if is_number_word w then
    (if is_well_spelt w && is_in_64 w then reads (number_of w) else misspelt) else unfit

-- where a natural number from low to high may stand
abbrev pub natural_at : ℕ → ℕ → List ℕ → WordReading ℕ
natural_at low high w = if is_number_word w then
    (if is_well_spelt w && is_between low high w then reads (magnitude w) else misspelt) else unfit

-- the same with what is read made into something else
abbrev pub map_reading : {A B : Type 0} → (A → B) → WordReading A → WordReading B
map_reading f (reads x) = reads (f x)
map_reading f misspelt = misspelt
map_reading f unfit = unfit

-- a number as a natural number from low to high
abbrev pub natural : ℕ → ℕ → ℤ → Option ℕ
natural low high (pos k) = if nat_le low k && nat_le k high then Some k else None
natural low high (negsuc k) = None

-- a number word that is read is the one spelling of its number, and each number in range is read
-- from it
abbrev pub NumberLaw : Type 0
NumberLaw = (w : List ℕ) (z : ℤ)
    → (integer_at w ≡ reads z → FitsSigned w64 z × (w ≡ signed_decimal z))
    × (FitsSigned w64 z → integer_at (signed_decimal z) ≡ reads z)

-- the same for natural numbers from low to high
abbrev pub NaturalLaw : Type 0
NaturalLaw = (low high n : ℕ) (w : List ℕ) → high < 2 ^ 64
    → (natural_at low high w ≡ reads n → (low ≤ n) × (n ≤ high) × (w ≡ decimal n))
    × (low ≤ n → n ≤ high → natural_at low high (decimal n) ≡ reads n)
