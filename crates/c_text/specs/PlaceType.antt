-- The types of places, and so the kinds of structs whose members they name.
use Rattle.std.specs.Prelude.{ℕ, List, slice_get, Option, Some, None}
use Rattle.c_text.specs.declared.tree.Base.TheVariants as B
use Rattle.c_text.specs.declared.tree.CType.{CType}
use Rattle.c_text.specs.declared.tree.CType.TheVariants as T
use Rattle.c_text.specs.declared.tree.Kind.{Kind}
use Rattle.c_text.specs.declared.tree.Kind.TheVariants as K
use Rattle.c_text.specs.declared.tree.Struct.{Struct}
use Rattle.c_text.specs.declared.tree.Local.{Local}
use Rattle.c_text.specs.declared.tree.Term.{Term}
use Rattle.c_text.specs.declared.tree.Term as E

-- a type that is not there
abbrev pub no_type : CType
no_type = T.One B.Bool

abbrev pub type_or : Option CType → CType
type_or None = no_type
type_or (Some T) = T

abbrev pub local_type : List Local → ℕ → CType
local_type L k = elim (slice_get L k) [ None ↦ no_type | Some l ↦ l.ty ]

-- the elements of a grid are arrays
abbrev pub element_type : CType → CType
element_type (T.Grid m n b) = T.Array n b
element_type (T.Array n b) = T.One b
element_type (T.One b) = T.One b

-- Ss: the structs
abbrev pub member_type : List Struct → CType → ℕ → CType
member_type Ss (T.One (B.Struct j)) k =
    elim (slice_get Ss j) [ None ↦ no_type | Some s ↦ type_or (slice_get s.members.items k) ]
member_type Ss T k = no_type

-- the kind of a type's struct
abbrev pub kind_of : List Struct → CType → Kind
kind_of Ss (T.One (B.Struct j)) = elim (slice_get Ss j) [ None ↦ K.Kept | Some s ↦ s.kind ]
kind_of Ss T = K.Kept

-- the type of what a term designates; both sides of a choice are of one type
abbrev pub place_type : List Struct → List Local → Term → CType
place_type Ss L (E.Local k) = local_type L k
place_type Ss L (E.Dot' p e k) = member_type Ss (place_type Ss L e) k
place_type Ss L (E.At' p e q i) = element_type (place_type Ss L e)
place_type Ss L (E.Zeroed T) = T
place_type Ss L (E.Choice' p c q a r b) = place_type Ss L a
place_type Ss L _ = no_type
