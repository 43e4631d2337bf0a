-- What ties a header and a file of C together.
use Rattle.std.specs.Prelude.{ℕ, ◌*◌, ◌%◌, ◌^◌, List, bit_xor}
use Rattle.std.specs.List.{fold}

-- a sum with one more byte
abbrev pub mixed : ℕ → ℕ → ℕ
mixed sum byte = bit_xor sum byte * 1099511628211 % 2 ^ 64

-- FNV-1a, of 64 bits
abbrev pub fingerprint : List ℕ → ℕ
fingerprint bytes = fold mixed 14695981039346656037 bytes
