-- The names of a file, by number.
use Rattle.std.specs.Prelude.{◌≡◌, ◌<◌, ◌^◌, ℕ, zero, suc, List, ◌++◌, codes}
use Rattle.std.specs.Fmt.{decimal}
use Rattle.c_text.specs.declared.name.Name.{Name}
use Rattle.c_text.specs.declared.name.Name.TheVariants as N
use Rattle.c_text.specs.declared.tree.Kind.{Kind}
use Rattle.c_text.specs.declared.tree.Kind.TheVariants as K

-- `m3`
abbrev pub numbered_text : ℕ → List ℕ
numbered_text k = codes "m" ++ decimal k

-- the first member and the second, and behind them by number
abbrev pub member_from : List ℕ → List ℕ → ℕ → List ℕ
member_from one other zero = one
member_from one other (suc zero) = other
member_from one other (suc (suc k)) = numbered_text (suc (suc k))

-- member k, by the kind of its struct
abbrev pub member_text : Kind → ℕ → List ℕ
member_text K.Pair k = member_from (codes "a") (codes "b") k
member_text K.Event k = member_from (codes "is") (codes "v") k
member_text K.List k = member_from (codes "n") (codes "e") k
member_text K.Kept k = numbered_text k

-- `r3`, a member, `P_f3`, `P_init`, `P_step`, `P_t3`, `P_of`, `P_zeros`, `P_signed`
abbrev pub name_text : List ℕ → Name → List ℕ
name_text P (N.Local k) = codes "r" ++ decimal k
name_text P (N.Member K k) = member_text K k
name_text P (N.Function k) = P ++ (codes "_f" ++ decimal k)
name_text P N.Init = P ++ codes "_init"
name_text P N.Step = P ++ codes "_step"
name_text P (N.Struct k) = P ++ (codes "_t" ++ decimal k)
name_text P N.Of = P ++ codes "_of"
name_text P N.Zeros = P ++ codes "_zeros"
name_text P N.Signed = P ++ codes "_signed"

-- its number
abbrev pub number_of : Name → ℕ
number_of (N.Local k) = k
number_of (N.Member K k) = k
number_of (N.Function k) = k
number_of N.Init = 0
number_of N.Step = 0
number_of (N.Struct k) = k
number_of N.Of = 0
number_of N.Zeros = 0
number_of N.Signed = 0

-- of members: those of structs of one kind
abbrev pub OfOneKind : Name → Name → Type 0
OfOneKind (N.Member K j) (N.Member L k) = K ≡ L
OfOneKind m n = Unit {0}

-- under any prefix two names are two texts; the members of two kinds never stand in one struct
abbrev pub NameLaw : Type 0
NameLaw = (P : List ℕ) (m n : Name) → OfOneKind m n → number_of m < 2 ^ 64 → number_of n < 2 ^ 64
    → name_text P m ≡ name_text P n → m ≡ n
