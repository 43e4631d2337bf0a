-- Sizes as numbers of 64 bits.
use Rattle.std.specs.Prelude.{◌≡◌, ◌-◌, ◌^◌, ℕ, List, min, slice_get, Some}
use Rattle.code_fits.specs.declared.types.Types.{Types}
use Rattle.code_fits.specs.Sizes.{value_size}
use Rattle.code_fits.specs.Tables.{tree_at, bound_of}

-- a size, or the greatest number of 64 bits where it is more
abbrev pub saturated : ℕ → ℕ
saturated n = min n (2 ^ 64 - 1)

-- number k is the size of the table's type k
abbrev pub AreSizes : Types → List ℕ → List ℕ → Type 0
AreSizes ts ns all = (k n : ℕ) → slice_get all k ≡ Some n
    → n ≡ saturated (value_size (bound_of ts ns) (tree_at ts k))
