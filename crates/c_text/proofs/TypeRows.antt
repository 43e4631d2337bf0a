-- Types, places and results, as they are worked by hand.
use Rattle.std.proofs.Common.{◌≡◌, ℕ, List, [], ◌∷◌, ◌++◌, codes, refl, ap, ◌∙◌, slice_get, append_assoc}
use Rattle.std.specs.Fmt.{digits}
use Rattle.c_text.specs.declared.tree.Kind.{Kind}
use Rattle.c_text.specs.declared.tree.Kind.TheVariants as K
use Rattle.c_text.specs.declared.tree.Struct.{Struct}
use Rattle.c_text.specs.NameText.{member_text}
use Rattle.c_text.specs.PlaceType.{type_or, element_type, member_type, kind_of}
use Rattle.c_text.specs.TermText.{operand_text, term_text}
use Rattle.c_text.specs.TypeRows.{DeclaredRows, ZeroedRows, BracesRows, MeantRows, PlaceRows, ListsAre, KindRows, ResultRows, SignedRows}

pub declared_rows : DeclaredRows
unfolding digits
declared_rows = (refl, refl, refl, refl, refl, refl, refl, refl, refl, refl)

pub zeroed_rows : ZeroedRows
unfolding digits
zeroed_rows = (refl, refl, refl)

pub braces_rows : BracesRows
unfolding digits
braces_rows = (refl, refl)

pub meant_rows : MeantRows
meant_rows A = (refl, refl, refl, refl)

pub place_rows : PlaceRows
unfolding digits
place_rows b s k e = (
  ap (λ Q. ((codes "r0->" ++ member_text Q 2) ++ (codes "[" ++ ((codes "r0->" ++ member_text Q 1) ++ codes "]"))) ++ codes "[UINT32_C(3)]") k,
  ap (λ Ts. element_type (type_or (slice_get Ts 2))) e,
  ap (λ Ts. element_type (element_type (type_or (slice_get Ts 2)))) e,
)

-- a part of a pair, and a part of a list there, by the kinds of their structs
abbrev part_text : Kind → Kind → List ℕ
part_text Q R = ((codes "r0->" ++ member_text Q 0) ++ codes ".") ++ member_text R 1

abbrev list_text : Kind → Kind → Kind → ℕ → List ℕ
list_text Q R S k = (part_text Q R ++ codes ".") ++ member_text S k

abbrev last_text : Kind → Kind → Kind → List ℕ
last_text Q R S = list_text Q R S 1 ++ (codes "[" ++ (list_text Q R S 0 ++ codes "]"))

abbrev chosen_text : Kind → Kind → Kind → List ℕ
chosen_text Q R S =
    ((codes "(" ++ ((codes "r1" ++ (codes " ? " ++ (part_text Q R ++ (codes " : " ++ part_text Q R)))) ++ codes ")"))
    ++ codes ".")
    ++ member_text S 0

shown : (f : Kind → Kind → Kind → List ℕ) (Q R S : Kind) → Q ≡ K.Pair → R ≡ K.Event → S ≡ K.List
    → f Q R S ≡ f K.Pair K.Event K.List
shown f Q R S q r s = rw (q, r, s)

-- the kinds of both structs behind the first
event_in : (s t u : Struct) → ListsAre s t u
    → kind_of (s ∷ t ∷ u ∷ []) (type_or (slice_get s.members.items 0)) ≡ K.Event
event_in s t u (k1, e1, k2, e2, k3) =
    ap (λ Ts. kind_of (s ∷ t ∷ u ∷ []) (type_or (slice_get Ts 0))) e1 ∙ k2

list_in : (s t u : Struct) → ListsAre s t u
    → kind_of (s ∷ t ∷ u ∷ []) (member_type (s ∷ t ∷ u ∷ []) (type_or (slice_get s.members.items 0)) 1) ≡ K.List
list_in s t u (k1, e1, k2, e2, k3) =
    ap (λ Ts. kind_of (s ∷ t ∷ u ∷ []) (member_type (s ∷ t ∷ u ∷ []) (type_or (slice_get Ts 0)) 1)) e1
    ∙ (ap (λ Ts. kind_of (s ∷ t ∷ u ∷ []) (type_or (slice_get Ts 1))) e2 ∙ k3)

pub kind_rows : KindRows
unfolding digits
kind_rows b s t u h = (
  shown last_text _ _ _ h.0 (event_in s t u h) (list_in s t u h),
  shown chosen_text _ _ _ h.0 (event_in s t u h) (list_in s t u h),
)

pub result_rows : ResultRows
unfolding digits
result_rows = (refl, refl, (λ e. refl), refl, (λ s. refl), refl, refl)

-- three parentheses behind a number, and the difference in which it stands
ends : (s : List ℕ)
    → ((((s ++ codes ")") ++ codes ")") ++ codes ")") ++ codes " - INT64_C(1)") ++ codes ")"
    ≡ s ++ codes "))) - INT64_C(1))"
ends s =
    ap (λ (l : List ℕ). ((l ++ codes ")") ++ codes " - INT64_C(1)") ++ codes ")") (append_assoc s (codes ")") (codes ")"))
    ∙ ap (λ (l : List ℕ). (l ++ codes " - INT64_C(1)") ++ codes ")") (append_assoc s (codes "))") (codes ")"))
    ∙ ap (λ (l : List ℕ). l ++ codes ")") (append_assoc s (codes ")))") (codes " - INT64_C(1)"))
    ∙ append_assoc s (codes "))) - INT64_C(1)") (codes ")")

-- the text of a tree, with a number's text in its three places, joined from the right
abbrev negative : List ℕ → List ℕ
negative s = codes " : ((INT64_C(0) - ((int64_t)(UINT64_C(18446744073709551615) - " ++ s

joined : (s : List ℕ)
    → ((s ++ codes " <= UINT64_C(9223372036854775807)") ++ codes ")")
    ++ (codes " ? ((int64_t)"
    ++ ((s ++ codes ")")
    ++ negative (((((s ++ codes ")") ++ codes ")") ++ codes ")") ++ codes " - INT64_C(1)") ++ codes ")")))
    ≡ s
    ++ (codes " <= UINT64_C(9223372036854775807)) ? ((int64_t)"
    ++ (s ++ (codes ")" ++ negative (s ++ codes "))) - INT64_C(1))"))))
joined s =
    append_assoc (s ++ codes " <= UINT64_C(9223372036854775807)") (codes ")") _
    ∙ append_assoc s (codes " <= UINT64_C(9223372036854775807)") _
    ∙ ap (λ (l : List ℕ). s ++ (codes " <= UINT64_C(9223372036854775807)) ? ((int64_t)" ++ l))
    (append_assoc s (codes ")") _ ∙ ap (λ (l : List ℕ). s ++ (codes ")" ++ negative l)) (ends s))

pub signed_rows : SignedRows
unfolding digits
signed_rows b Ts P Ss L e =
    (refl, ap (λ (l : List ℕ). codes "(" ++ l) (joined (operand_text e (term_text P Ss L e))))
