-- Types, places, results and numbers, worked by hand, under the prefix `P`.
use Rattle.std.specs.Prelude.{◌≡◌, ℕ, pos, true, false, List, [], ◌∷◌, ◌++◌, codes, Box, Some}
use Rattle.std.specs.declared.alloc.Global.{Global}
use Rattle.c_text.specs.declared.name.Name.TheVariants as N
use Rattle.c_text.specs.declared.tree.Scalar.TheVariants as S
use Rattle.c_text.specs.declared.tree.Operator.TheVariants as O'
use Rattle.c_text.specs.declared.tree.Base.TheVariants as B
use Rattle.c_text.specs.declared.tree.CType.{CType}
use Rattle.c_text.specs.declared.tree.CType.TheVariants as T
use Rattle.c_text.specs.declared.tree.Literal.TheVariants as L
use Rattle.c_text.specs.declared.tree.Kind.TheVariants as K
use Rattle.c_text.specs.declared.tree.Struct.{Struct}
use Rattle.c_text.specs.declared.tree.Local.{Local}
use Rattle.c_text.specs.declared.tree.Term.{Term}
use Rattle.c_text.specs.declared.tree.Term as E
use Rattle.c_text.specs.TypeText.{declared_text, zeroed_text}
use Rattle.c_text.specs.TermText.{braces_text, operand_text, term_text}
use Rattle.c_text.specs.PlaceType.{place_type}
use Rattle.c_text.specs.CommandText.{by_pointer, answer_text, called_text}
use Rattle.c_text.specs.FileText.{result_text, wrapped_text}
use Rattle.c_text.specs.Meant.{type_meant, term_meant}
use Rattle.c_meaning.specs.Object as O

abbrev pub number : CType
number = T.One (B.Number S.Uint32)

-- what is declared
abbrev pub DeclaredRows : Type 0
DeclaredRows =
    (declared_text (codes "P") (T.One B.Bool) (N.Local 0) ≡ codes "bool r0")
    × (declared_text (codes "P") (T.One (B.Struct 3)) (N.Member K.Kept 2) ≡ codes "struct P_t3 m2")
    × (declared_text (codes "P") (T.One B.Bool) (N.Member K.Kept 0) ≡ codes "bool m0")
    × (declared_text (codes "P") (T.One B.Bool) (N.Member K.Pair 0) ≡ codes "bool a")
    × (declared_text (codes "P") (T.One (B.Struct 1)) (N.Member K.Pair 1) ≡ codes "struct P_t1 b")
    × (declared_text (codes "P") (T.One B.Bool) (N.Member K.Event 0) ≡ codes "bool is")
    × (declared_text (codes "P") (T.One (B.Number S.Uint8)) (N.Member K.Event 1) ≡ codes "uint8_t v")
    × (declared_text (codes "P") number (N.Member K.List 0) ≡ codes "uint32_t n")
    × (declared_text (codes "P") (T.Array 5 (B.Number S.Int64)) (N.Member K.List 1) ≡ codes "int64_t e[5]")
    × (declared_text (codes "P") (T.Grid 2 64 (B.Struct 0)) (N.Member K.Kept 2) ≡ codes "struct P_t0 m2[2][64]")

-- its zeros
abbrev pub ZeroedRows : Type 0
ZeroedRows =
    (zeroed_text (codes "P") (T.One (B.Struct 3)) ≡ codes "P_zeros(P_t3)")
    × (zeroed_text (codes "P") (T.Array 5 (B.Number S.Int64)) ≡ codes "{INT64_C(0)}")
    × (zeroed_text (codes "P") (T.Grid 2 64 (B.Struct 0)) ≡ codes "{{P_zeros(P_t0)}}")

-- lists of two elements, and of none, as they are initialised
abbrev pub BracesRows : Type 0
BracesRows =
    (braces_text (codes "P") false (Some (T.Array 3 (B.Struct 0))) (codes "r1, r2") ≡ codes "{r1, r2}")
    × (braces_text (codes "P") true (Some (T.Array 5 (B.Struct 0))) [] ≡ codes "{P_zeros(P_t0)}")

-- what it means, where struct 0 means A
abbrev pub MeantRows : Type 0
MeantRows = (A : O.CType)
    → (type_meant (A ∷ []) (T.One (B.Struct 0)) ≡ A)
    × (type_meant (A ∷ []) (T.One (B.Struct 1)) ≡ O.no_member)
    × (type_meant (A ∷ []) (T.Array 5 (B.Number S.Int64)) ≡ O.array 5 (O.number_type O.i64))
    × (type_meant (A ∷ []) (T.Grid 2 64 (B.Struct 0)) ≡ O.array 2 (O.array 64 A))

-- a struct with two sides of 64 each, by pointer; b: a pointer in a tree, whatever it is
abbrev pub sided : List Local
sided = by_pointer (T.One (B.Struct 0)) ∷ []

module _ (b : Box (Unit {0}) Global) where
  -- `r0->m2[r0->m1]`; its element 3
  abbrev pub side : Term
  side = E.At' b (E.Dot' b (E.Local 0) 2) b (E.Dot' b (E.Local 0) 1)

  abbrev pub element : Term
  element = E.At' b side b (E.Literal (L.Uint32 3))

  -- as they are printed, and their types
  abbrev pub PlacesIn : List Struct → Type 0
  PlacesIn Ss =
      (term_text (codes "P") Ss sided element ≡ codes "r0->m2[r0->m1][UINT32_C(3)]")
      × (place_type Ss sided side ≡ T.Array 64 (B.Struct 1))
      × (place_type Ss sided element ≡ T.One (B.Struct 1))

abbrev pub PlaceRows : Type 0
PlaceRows = (b : Box (Unit {0}) Global) (s : Struct)
    → s.kind ≡ K.Kept → s.members.items ≡ number ∷ number ∷ T.Grid 2 64 (B.Struct 1) ∷ [] → PlacesIn b (s ∷ [])

-- a pair by pointer, whose first is an event, which carries a list
abbrev pub ListsAre : Struct → Struct → Struct → Type 0
ListsAre s t u =
    (s.kind ≡ K.Pair) × (s.members.items ≡ T.One (B.Struct 1) ∷ number ∷ [])
    × (t.kind ≡ K.Event) × (t.members.items ≡ T.One B.Bool ∷ T.One (B.Struct 2) ∷ [])
    × (u.kind ≡ K.List)

module _ (b : Box (Unit {0}) Global) where
  abbrev pub list : Term
  list = E.Dot' b (E.Dot' b (E.Local 0) 0) 1

  -- its element of the number of them; of one of two lists, how many
  abbrev pub last : Term
  last = E.At' b (E.Dot' b list 1) b (E.Dot' b list 0)

  abbrev pub chosen : Term
  chosen = E.Dot' b (E.Choice' b (E.Local 1) b list b list) 0

abbrev pub KindRows : Type 0
KindRows = (b : Box (Unit {0}) Global) (s t u : Struct) → ListsAre s t u
    → (term_text (codes "P") (s ∷ t ∷ u ∷ []) sided (last b) ≡ codes "r0->a.v.e[r0->a.v.n]")
    × (term_text (codes "P") (s ∷ t ∷ u ∷ []) sided (chosen b) ≡ codes "(r1 ? r0->a.v : r0->a.v).n")

-- struct 0 as a result
abbrev pub struct : CType
struct = T.One (B.Struct 0)

-- which has no member, and which has, of a local that isn't used and of one that is
abbrev pub ResultRows : Type 0
ResultRows =
    (result_text (codes "P") (true ∷ []) struct ≡ codes "void")
    × (result_text (codes "P") (false ∷ []) struct ≡ codes "struct P_t0")
    × ((e : Term) → answer_text (codes "P") (true ∷ []) [] struct [] (codes "  ") [] e ≡ codes "  return;\n")
    × (answer_text (codes "P") (false ∷ []) [] struct [] (codes "  ") [] (E.Local 7) ≡ codes "  return r7;\n")
    × ((s : List ℕ) → called_text (codes "P") (true ∷ []) [] struct [] (codes "  ") [] struct s
    ≡ codes "  " ++ (s ++ codes ";\n"))
    × (called_text (codes "P") (false ∷ []) [] struct [] (codes "  ") [] struct (codes "P_f3()")
    ≡ codes "  const struct P_t0 r0 = P_f3(); (void)r0;\n")
    × (called_text (codes "P") (false ∷ []) [] struct (true ∷ []) (codes "  ") [] struct (codes "P_f3()")
    ≡ codes "  const struct P_t0 r0 = P_f3();\n")

-- what `P_signed(e)` means, as a tree
module _ (b : Box (Unit {0}) Global) where
  abbrev pub signed_tree : Term → Term
  signed_tree e =
      E.Choice' b (E.Binary' O'.AtMost S.Uint64 b e b (E.Literal (L.Uint64 9223372036854775807))) b
      (E.Cast' S.Int64 b e) b
      (E.Binary' O'.Minus S.Int64 b
      (E.Binary' O'.Minus S.Int64 b (E.Literal (L.Int64 (pos 0))) b
      (E.Cast' S.Int64 b
      (E.Binary' O'.Minus S.Uint64 b (E.Literal (L.Uint64 18446744073709551615)) b e))) b
      (E.Literal (L.Int64 (pos 1))))

-- so the macro has the text of that tree, with `(n)` in the place of an operand in parentheses
abbrev pub SignedRows : Type 0
SignedRows = (b : Box (Unit {0}) Global) (Ts : List O.CType) (P : List ℕ) (Ss : List Struct)
    (L : List Local) (e : Term)
    → (term_meant Ts (E.Signed' b e) ≡ term_meant Ts (signed_tree b e))
    × (term_text P Ss L (signed_tree b e) ≡ wrapped_text (operand_text e (term_text P Ss L e)))
