-- Tables of structs, each over earlier ones.
use Rattle.std.specs.Prelude.{◌≡◌, ◌<◌, ℕ, suc, Bool, true, ◌&&◌, ltb, List, [], ◌∷◌, length, get_or}
use Rattle.c_text.specs.declared.tree.Base.{Base}
use Rattle.c_text.specs.declared.tree.Base.TheVariants as B
use Rattle.c_text.specs.declared.tree.CType.{CType}
use Rattle.c_text.specs.declared.tree.CType.TheVariants as T
use Rattle.c_text.specs.declared.tree.Struct.{Struct}

-- whether a type's struct, if it has one, has a number below k
abbrev pub is_below : ℕ → Base → Bool
is_below k (B.Struct j) = ltb j k
is_below k b = true

abbrev pub type_below : ℕ → CType → Bool
type_below k (T.One b) = is_below k b
type_below k (T.Array n b) = is_below k b
type_below k (T.Grid m n b) = is_below k b

abbrev pub all_below : ℕ → List CType → Bool
all_below k [] = true
all_below k (A ∷ As) = type_below k A && all_below k As

-- whether structs, from number k on, are each over earlier ones
abbrev pub closed_from : ℕ → List Struct → Bool
closed_from k [] = true
closed_from k (s ∷ ss) = all_below k s.members.items && closed_from (suc k) ss

-- struct k has these members
pub record IsAt (ss : List Struct) (As : List CType) (k : ℕ) : Type 0 where
  pub struct : Struct
  pub within : k < length ss
  pub there : struct ≡ get_or ss k struct
  pub members : struct.members.items ≡ As
