-- The text of types and literals.
use Rattle.std.specs.Prelude.{ℕ, ℤ, pos, neg_ℤ, ◌^◌, Bool, true, false, ◌&&◌, if◌then◌else◌, List, [], ◌∷◌, ◌++◌, codes, get_or}
use Rattle.std.specs.Fmt.{decimal, signed_decimal}
use Rattle.std.specs.Ordering.{int_eq}
use Rattle.c_text.specs.declared.name.Name.{Name}
use Rattle.c_text.specs.declared.name.Name.TheVariants as N
use Rattle.c_text.specs.declared.tree.Scalar.{Scalar}
use Rattle.c_text.specs.declared.tree.Scalar.TheVariants as S
use Rattle.c_text.specs.declared.tree.Base.{Base}
use Rattle.c_text.specs.declared.tree.Base.TheVariants as B
use Rattle.c_text.specs.declared.tree.CType.{CType}
use Rattle.c_text.specs.declared.tree.CType.TheVariants as T
use Rattle.c_text.specs.declared.tree.Literal.{Literal}
use Rattle.c_text.specs.declared.tree.Literal.TheVariants as L
use Rattle.c_text.specs.declared.tree.Struct.{Struct}
use Rattle.c_text.specs.NameText.{name_text}

abbrev pub scalar_text : Scalar → List ℕ
scalar_text S.Uint8 = codes "uint8_t"
scalar_text S.Int64 = codes "int64_t"
scalar_text S.Uint64 = codes "uint64_t"
scalar_text S.Uint32 = codes "uint32_t"

abbrev pub base_text : List ℕ → Base → List ℕ
base_text P B.Bool = codes "bool"
base_text P (B.Number S) = scalar_text S
base_text P (B.Struct k) = codes "struct " ++ name_text P (N.Struct k)

-- of arrays, that of their elements
abbrev pub base_of : CType → Base
base_of (T.One b) = b
base_of (T.Array n b) = b
base_of (T.Grid m n b) = b

abbrev pub type_text : List ℕ → CType → List ℕ
type_text P T = base_text P (base_of T)

-- how many there are, behind the name
abbrev pub count_text : CType → List ℕ
count_text (T.One b) = []
count_text (T.Array n b) = codes "[" ++ (decimal n ++ codes "]")
count_text (T.Grid m n b) = codes "[" ++ (decimal m ++ (codes "][" ++ (decimal n ++ codes "]")))

-- `T name`, `T name[n]`, `T name[m][n]`
abbrev pub declared_text : List ℕ → CType → Name → List ℕ
declared_text P T x = type_text P T ++ (codes " " ++ (name_text P x ++ count_text T))

abbrev pub truth_text : Bool → List ℕ
truth_text true = codes "true"
truth_text false = codes "false"

-- the least `int64_t` has a name, since C has no literal of it
abbrev pub signed_text : ℤ → List ℕ
signed_text z =
    if int_eq z (neg_ℤ (pos (2 ^ 63))) then codes "INT64_MIN"
    else codes "INT64_C(" ++ (signed_decimal z ++ codes ")")

abbrev pub literal_text : Literal → List ℕ
literal_text (L.Bool b) = truth_text b
literal_text (L.Uint8 n) = codes "UINT8_C(" ++ (decimal n ++ codes ")")
literal_text (L.Int64 z) = signed_text z
literal_text (L.Uint64 n) = codes "UINT64_C(" ++ (decimal n ++ codes ")")
literal_text (L.Uint32 n) = codes "UINT32_C(" ++ (decimal n ++ codes ")")

-- the number 0 of a type
abbrev pub zero_text : Scalar → List ℕ
zero_text S.Uint8 = codes "UINT8_C(0)"
zero_text S.Int64 = codes "INT64_C(0)"
zero_text S.Uint64 = codes "UINT64_C(0)"
zero_text S.Uint32 = codes "UINT32_C(0)"

-- before braces that are no initialiser: their type, of a struct by a macro
abbrev pub of_base : List ℕ → Base → List ℕ
of_base P B.Bool = codes "(bool)"
of_base P (B.Number S) = codes "(" ++ (scalar_text S ++ codes ")")
of_base P (B.Struct k) = name_text P N.Of ++ (codes "(" ++ (name_text P (N.Struct k) ++ codes ")"))

-- `{0}` of a type, as an expression, of a struct by a macro
abbrev pub zeroed_base : List ℕ → Base → List ℕ
zeroed_base P B.Bool = codes "false"
zeroed_base P (B.Number S) = zero_text S
zeroed_base P (B.Struct k) = name_text P N.Zeros ++ (codes "(" ++ (name_text P (N.Struct k) ++ codes ")"))

-- of arrays, which C takes as an initialiser alone: the first, and behind it zeros
abbrev pub zeroed_text : List ℕ → CType → List ℕ
zeroed_text P (T.One b) = zeroed_base P b
zeroed_text P (T.Array n b) = codes "{" ++ (zeroed_base P b ++ codes "}")
zeroed_text P (T.Grid m n b) = codes "{{" ++ (zeroed_base P b ++ codes "}}")

-- whether a struct has no member at all, not even in its members: C has no such struct, and all that is
-- of such a type is left out. E: which structs have none
module _ (E : List Bool) where
  abbrev pub is_empty_base : Base → Bool
  is_empty_base (B.Struct k) = get_or E k false
  is_empty_base b = false

  abbrev pub is_empty : CType → Bool
  is_empty T = is_empty_base (base_of T)

  abbrev pub all_empty : List CType → Bool
  all_empty [] = true
  all_empty (T ∷ Ts) = is_empty T && all_empty Ts

  abbrev pub left_out : CType → List ℕ → List ℕ
  left_out T s = if is_empty T then [] else s

-- which structs have no member, each over the earlier ones
abbrev pub empties_from : List Bool → List Struct → List Bool
empties_from E [] = E
empties_from E (s ∷ ss) = empties_from (E ++ all_empty E s.members.items ∷ []) ss

abbrev pub empties : List Struct → List Bool
empties ss = empties_from [] ss
