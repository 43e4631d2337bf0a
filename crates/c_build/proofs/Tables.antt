-- A struct of a table is one of its members' types.
use Rattle.std.proofs.Common.{◌≡◌, ℕ, zero, suc, ◌+◌, ◌<◌, arith, Bool, true, false, ◌&&◌, ltb, List, [], ◌∷◌, ◌++◌, length, get_or, refl, sym, ap, ap₂, ◌∙◌, append_assoc, add-zero}
use Rattle.std.proofs.lemmas.List.{append-nil, get_or_append_left, get_or_at}
use Rattle.std.proofs.lemmas.Grind.{common_steps}
use Rattle.std.proofs.lemmas.Bool.Decides.{nat_tests}
use Rattle.c_meaning.specs.Object.{CType, no_member, member, array}
use Rattle.c_text.specs.declared.tree.Base.{Base}
use Rattle.c_text.specs.declared.tree.Base.TheVariants as B
use Rattle.c_text.specs.declared.tree.CType as Y
use Rattle.c_text.specs.declared.tree.CType.TheVariants as T
use Rattle.c_text.specs.declared.tree.Struct.{Struct}
use Rattle.c_text.specs.Meant.{base_meant, type_meant, members_meant, structs_from, structs_meant}
use Rattle.c_build.specs.Tables.{is_below, type_below, all_below, closed_from, IsAt}

and_left : (a b : Bool) → a && b ≡ true → a ≡ true
and_left true b h = refl
and_left false b h = h

and_right : (a b : Bool) → a && b ≡ true → b ≡ true
and_right true b h = h
and_right false b h = absurd (cc)

-- more structs behind those that are there change none of these
base_grown : (Ts Us : List CType) (b : Base) → is_below (length Ts) b ≡ true
    → base_meant (Ts ++ Us) b ≡ base_meant Ts b
base_grown Ts Us B.Bool h = refl
base_grown Ts Us (B.Number S) h = refl
base_grown Ts Us (B.Struct j) h =
    let lt : j < length Ts = grind (arith, nat_tests) in get_or_append_left Ts Us no_member j lt

type_grown : (Ts Us : List CType) (A : Y.CType) → type_below (length Ts) A ≡ true
    → type_meant (Ts ++ Us) A ≡ type_meant Ts A
type_grown Ts Us (T.One b) h = base_grown Ts Us b h
type_grown Ts Us (T.Array n b) h = ap (array n) (base_grown Ts Us b h)
type_grown Ts Us (T.Grid m n b) h = ap (λ A. array m (array n A)) (base_grown Ts Us b h)

members_grown : (Ts Us : List CType) (As : List Y.CType) → all_below (length Ts) As ≡ true
    → members_meant (Ts ++ Us) As ≡ members_meant Ts As
members_grown Ts Us [] h = refl
members_grown Ts Us (A ∷ As) h =
    let first = type_grown Ts Us A (and_left (type_below (length Ts) A) _ h) in
    let rest = members_grown Ts Us As (and_right (type_below (length Ts) A) _ h) in cc

-- all structs are those there, and more
structs_grown : (Ts : List CType) (ss : List Struct)
    → (Us : List CType) × (structs_from Ts ss ≡ Ts ++ Us)
structs_grown Ts [] = ([], sym (append-nil Ts))
structs_grown Ts (s ∷ ss) =
    let m : CType = members_meant Ts s.members.items in
    let more : (Us : List CType) × (structs_from (Ts ++ m ∷ []) ss ≡ (Ts ++ m ∷ []) ++ Us)
    = structs_grown (Ts ++ m ∷ []) ss in
    (m ∷ more.0, more.1 ∙ append_assoc Ts (m ∷ []) more.0)

-- struct k behind those that are there
struct_behind : (Ts : List CType) (ss : List Struct) (k : ℕ) (d : Struct)
    → closed_from (length Ts) ss ≡ true → k < length ss
    → get_or (structs_from Ts ss) (length Ts + k) no_member
    ≡ members_meant (structs_from Ts ss) (get_or ss k d).members.items
struct_behind Ts [] k d h lt = absurd (omega arith)
struct_behind Ts (s ∷ ss) zero d h lt =
    let m : CType = members_meant Ts s.members.items in
    let more : (Us : List CType) × (structs_from (Ts ++ m ∷ []) ss ≡ (Ts ++ m ∷ []) ++ Us)
    = structs_grown (Ts ++ m ∷ []) ss in
    let all : structs_from Ts (s ∷ ss) ≡ Ts ++ m ∷ more.0
    = more.1 ∙ append_assoc Ts (m ∷ []) more.0 in
    let here : get_or (Ts ++ m ∷ more.0) (length Ts + 0) no_member ≡ m
    = get_or_at Ts m more.0 no_member (length Ts + 0) (sym (add-zero (length Ts))) in
    let same : members_meant (Ts ++ m ∷ more.0) s.members.items ≡ m
    = members_grown Ts (m ∷ more.0) s.members.items (and_left (all_below (length Ts) s.members.items) _ h) in
    ap (λ Vs. get_or Vs (length Ts + 0) no_member) all ∙ here ∙ sym same
    ∙ ap (λ Vs. members_meant Vs s.members.items) (sym all)
struct_behind Ts (s ∷ ss) (suc k) d h lt =
    let m : CType = members_meant Ts s.members.items in
    let at : length (Ts ++ m ∷ []) ≡ suc (length Ts) = grind (arith, common_steps) in
    let closed : closed_from (length (Ts ++ m ∷ [])) ss ≡ true
    = ap (λ j. closed_from j ss) at ∙ and_right (all_below (length Ts) s.members.items) _ h in
    let place : length Ts + suc k ≡ length (Ts ++ m ∷ []) + k = omega (arith, at) in
    ap (λ j. get_or (structs_from (Ts ++ m ∷ []) ss) j no_member) place
    ∙ struct_behind (Ts ++ m ∷ []) ss k d closed (omega arith)

-- the struct with these members
pub struct_found : (ss : List Struct) (k : ℕ) (s : Struct) (As : List Y.CType)
    → closed_from 0 ss ≡ true → k < length ss → s ≡ get_or ss k s → s.members.items ≡ As
    → get_or (structs_meant ss) k no_member ≡ members_meant (structs_meant ss) As
struct_found ss k s As h lt is same =
    let at : 0 + k ≡ k = omega arith in
    ap (λ j. get_or (structs_meant ss) j no_member) (sym at) ∙ struct_behind [] ss k s h lt
    ∙ ap (λ t. members_meant (structs_meant ss) t.members.items) (sym is)
    ∙ ap (members_meant (structs_meant ss)) same

pub struct_is : (ss : List Struct) (As : List Y.CType) (k : ℕ)
    → closed_from 0 ss ≡ true → IsAt ss As k
    → get_or (structs_meant ss) k no_member ≡ members_meant (structs_meant ss) As
struct_is ss As k h at = struct_found ss k at.struct As h at.within at.there at.members
