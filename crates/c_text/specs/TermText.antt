-- The text of expressions. An operand that has an operator is in parentheses, and so is `*r`; nothing
-- else is.
use Rattle.std.specs.Prelude.{ℕ, zero, suc, Bool, true, false, if◌then◌else◌, List, [], ◌∷◌, ◌++◌, codes, slice_get, Option, Some, None}
use Rattle.c_text.specs.declared.name.Name.TheVariants as N
use Rattle.c_text.specs.declared.tree.CType.{CType}
use Rattle.c_text.specs.declared.tree.Operator.{Operator}
use Rattle.c_text.specs.declared.tree.Operator.TheVariants as O
use Rattle.c_text.specs.declared.tree.Struct.{Struct}
use Rattle.c_text.specs.declared.tree.Local.{Local}
use Rattle.c_text.specs.declared.tree.Term.{Term, Row_of-Term, end_of-Term, more_of-Term}
use Rattle.c_text.specs.declared.tree.Term as E
use Rattle.c_text.specs.NameText.{name_text}
use Rattle.c_text.specs.PlaceType.{kind_of, place_type}
use Rattle.c_text.specs.TypeText.{base_of, of_base, scalar_text, literal_text, zeroed_text}

abbrev pub operator_text : Operator → List ℕ
operator_text O.Plus = codes " + "
operator_text O.Minus = codes " - "
operator_text O.Times = codes " * "
operator_text O.Remainder = codes " % "
operator_text O.Less = codes " < "
operator_text O.AtMost = codes " <= "
operator_text O.Equals = codes " == "

abbrev pub has_operator : Term → Bool
has_operator (E.Binary' o S p a q b) = true
has_operator (E.Inverse' p a) = true
has_operator (E.Both' p a q b) = true
has_operator (E.Either' p a q b) = true
has_operator (E.Choice' p a q b r c) = true
has_operator (E.Cast' S p a) = true
has_operator _ = false

-- an expression, whose text is s, as an operand
abbrev pub operand_text : Term → List ℕ → List ℕ
operand_text e s = if has_operator e then codes "(" ++ (s ++ codes ")") else s

-- an expression, whose text is s, as what is assigned or returned, of type T: braces say their type
abbrev pub valued_text : List ℕ → CType → Term → List ℕ → List ℕ
valued_text P T (E.Braced' shape all tail) s = of_base P (base_of T) ++ s
valued_text P T e s = s

-- braces, whose elements are s, with zeros behind; none alone, since C99 has no empty braces
abbrev pub braces_text : List ℕ → Bool → Option CType → List ℕ → List ℕ
braces_text P true (Some T) s = zeroed_text P T
braces_text P true None s = codes "{" ++ (s ++ codes "}")
braces_text P false tail s = codes "{" ++ (s ++ codes "}")

-- whether there are no elements
abbrev pub is_end : {m : _} → Row_of-Term m → Bool
is_end end_of-Term = true
is_end (more_of-Term t ts) = false

-- the same of a list
abbrev pub has_none : List Term → Bool
has_none [] = true
has_none (t ∷ ts) = false

-- before an element of braces
abbrev pub comma_text : ℕ → List ℕ
comma_text zero = []
comma_text (suc i) = codes ", "

-- whether a local is a pointer
abbrev pub is_pointer : List Local → ℕ → Bool
is_pointer L k = elim (slice_get L k) [ None ↦ false | Some l ↦ l.pointer ]

-- P: the prefix of names; Ss: the structs; L: the locals
module _ (P : List ℕ) (Ss : List Struct) (L : List Local) where
  -- what a pointer leads to is what the tree calls a local
  abbrev pub local_text : ℕ → List ℕ
  local_text k =
      if is_pointer L k then codes "(*" ++ (name_text P (N.Local k) ++ codes ")") else name_text P (N.Local k)

  -- before the name of a member
  abbrev pub pointed_text : ℕ → List ℕ
  pointed_text k =
      if is_pointer L k then name_text P (N.Local k) ++ codes "->" else name_text P (N.Local k) ++ codes "."

  abbrev pub owner_text : Term → List ℕ → List ℕ
  owner_text (E.Local k) s = pointed_text k
  owner_text e s = operand_text e s ++ codes "."

  abbrev mutual
    pub term_text : Term → List ℕ
    term_text (E.Local k) = local_text k
    term_text (E.Dot' p e k) = owner_text e (term_text e) ++ name_text P (N.Member (kind_of Ss (place_type Ss L e)) k)
    term_text (E.At' p e q i) =
        operand_text e (term_text e) ++ (codes "[" ++ (term_text i ++ codes "]"))
    term_text (E.Literal l) = literal_text l
    term_text (E.Zeroed T) = zeroed_text P T
    term_text (E.Braced' shape all tail) = braces_text P (is_end all) tail (row_text 0 all)
    term_text (E.Binary' o S p a q b) =
        operand_text a (term_text a) ++ (operator_text o ++ operand_text b (term_text b))
    term_text (E.Inverse' p a) = codes "!" ++ operand_text a (term_text a)
    term_text (E.Both' p a q b) =
        operand_text a (term_text a) ++ (codes " && " ++ operand_text b (term_text b))
    term_text (E.Either' p a q b) =
        operand_text a (term_text a) ++ (codes " || " ++ operand_text b (term_text b))
    term_text (E.Choice' p c q a r b) =
        operand_text c (term_text c)
        ++ (codes " ? " ++ (operand_text a (term_text a) ++ (codes " : " ++ operand_text b (term_text b))))
    term_text (E.Cast' S p a) =
        codes "(" ++ (scalar_text S ++ (codes ")" ++ operand_text a (term_text a)))
    term_text (E.Signed' p a) = name_text P N.Signed ++ (codes "(" ++ (term_text a ++ codes ")"))

    -- elements, from number i on
    pub row_text : ℕ → {m : _} → Row_of-Term m → List ℕ
    row_text i end_of-Term = []
    row_text i (more_of-Term t ts) =
        comma_text i ++ (term_text t ++ row_text (suc i) ts)

  -- the same of a list
  abbrev pub elements_text : ℕ → List Term → List ℕ
  elements_text i [] = []
  elements_text i (t ∷ ts) =
      comma_text i ++ (term_text t ++ elements_text (suc i) ts)

  -- `&e`
  abbrev pub address_text : Term → List ℕ
  address_text (E.Local k) = if is_pointer L k then name_text P (N.Local k) else codes "&" ++ name_text P (N.Local k)
  address_text e = codes "&" ++ operand_text e (term_text e)
