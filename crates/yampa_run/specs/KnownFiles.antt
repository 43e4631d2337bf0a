-- What is known of files.
use Rattle.std.specs.Prelude.{◌≡◌, ℕ, List, Option, None, Some, ⊤}

-- what is told of files by their names: their bytes, or nothing
abbrev pub KnownFiles : Type 0
KnownFiles = List ℕ → Option (List ℕ)

-- the bytes are those that are told, where any are
abbrev pub AgreesWith : Option (List ℕ) → List ℕ → Type 0
AgreesWith None bytes = ⊤
AgreesWith (Some told) bytes = bytes ≡ told

-- the bytes of a file are told
abbrev pub IsTold : Option (List ℕ) → Type 0
IsTold told = (bytes : List ℕ) × (told ≡ Some bytes)
