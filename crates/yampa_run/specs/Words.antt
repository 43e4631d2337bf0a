-- What the words of options tell: a number of steps, a position, what names begin with, and how many
-- elements lists have.
use Rattle.std.specs.Prelude.{◌≡◌, ◌≤◌, ◌^◌, ◌-◌, ◌&&◌, ◌||◌, ℕ, Bool, true, false, not, List, [], ◌++◌, length, min, nat_eq, nat_le, nat_lt, Option, Some, None, option_and_then, MatchOption, IsSome, ◌∷◌, codes, if◌then◌else◌}
use Rattle.std.specs.Char.{is_ascii_alphanumeric, is_ascii_digit}
use Rattle.std.specs.Str.{all_ascii_digits}
use Rattle.std.specs.Str.Parse.{digits_value}
use Rattle.net_tree.specs.LawStep.{Step}
use Rattle.net_tree.specs.Position.{position_spelling}
use Rattle.net_tree.specs.declared.law_step.Direction.TheVariants.{Forward}
use Rattle.net_tree.specs.declared.law_step.Law.TheVariants as L
use Rattle.net_text.specs.CertificatePrinting.{ChildrenFit}
use Rattle.yampa_run.specs.declared.words.TheConstants.{MOST_ELEMENTS, MOST_NAME, MOST_PLACE}

-- a word of digits, and at least one
abbrev pub is_digits_word : List ℕ → Bool
is_digits_word word = nat_lt 0 (length word) && all_ascii_digits word

-- the number that a word of digits is, at most 2^64 - 1
abbrev pub number_in : List ℕ → Option ℕ
number_in word =
    if is_digits_word word then Some (min (2 ^ 64 - 1) (digits_value 10 word)) else None

-- how many steps a word tells; all, where there is no word
abbrev pub TellsFirst : Option (List ℕ) → Option ℕ → Type 0
TellsFirst None first = first ≡ None
TellsFirst (Some word) first = IsSome first × (first ≡ number_in word)

-- a letter or a digit, or a `_` where no part begins
abbrev pub is_name_byte : ℕ → Bool → Bool
is_name_byte b begins = is_ascii_alphanumeric b || (nat_eq b 95 && not begins)

-- letters and digits, in parts between which one `_` stands; whether a part begins here
abbrev pub parts_from : Bool → List ℕ → Bool
parts_from begins [] = not begins
parts_from begins (b ∷ bs) = is_name_byte b begins && parts_from (nat_eq b 95) bs

-- there is a first byte, and it is no digit
abbrev pub begins_name : List ℕ → Bool
begins_name [] = false
begins_name (b ∷ bs) = not (is_ascii_digit b)

-- at most 32 letters and digits, of which the first is a letter, in parts between which one `_` stands:
-- C keeps names for itself that begin with `_`, and C++ those that have `__`, also before what is put behind
abbrev pub is_name : List ℕ → Bool
is_name word =
    (nat_le (length word) MOST_NAME && begins_name word) && parts_from true word

-- what all names begin with, by a word; `yampa`, where there is no word
abbrev pub TellsName : Option (List ℕ) → List ℕ → Type 0
TellsName None name = name ≡ codes "yampa"
TellsName (Some word) name = (name ≡ word) × (is_name word ≡ true)

-- a number of elements, from 1 to what a line can hold
abbrev pub is_most : ℕ → Bool
is_most n = nat_le 1 n && nat_le n MOST_ELEMENTS

-- the number of elements that a word is
abbrev pub most_in : List ℕ → Option ℕ
most_in word =
    option_and_then (λ n. if is_most n then Some n else None) (number_in word)

-- how many elements a list of the input may have, by a word; as many as a line can hold, where there
-- is no word
abbrev pub TellsMost : Option (List ℕ) → ℕ → Type 0
TellsMost None most = most ≡ MOST_ELEMENTS
TellsMost (Some word) most = most_in word ≡ Some most

-- the word is the position as it is printed, of at most a million bytes, with the child numbers
-- that files may have
abbrev pub IsPlace : List ℕ → List ℕ → Type 0
IsPlace word p = (length word ≤ MOST_PLACE) × ChildrenFit p × (word ≡ position_spelling p)

-- the position that a word is, or the root, where there is no word
abbrev pub TellsPlace : Option (List ℕ) → List ℕ → Type 0
TellsPlace None p = p ≡ []
TellsPlace (Some word) p = IsPlace word p

-- the position that a word is, if it is one
abbrev pub IsPlaceIn : List ℕ → Option (List ℕ) → Type 0
IsPlaceIn word place = MatchOption place ((p : List ℕ) → IsPlace word p → ⊥) (IsPlace word)

-- a step at a position
abbrev pub step_at : List ℕ → Step
step_at p = record { law = L.L 1; direction = Forward; position = p; given = None }

-- the position that a word is, where the steps of its file are these
abbrev pub IsPlaceOfStep : List ℕ → List Step → Option (List ℕ) → Type 0
IsPlaceOfStep word steps None = (p : List ℕ) → IsPlace word p → steps ≡ (step_at p ∷ []) → ⊥
IsPlaceOfStep word steps (Some p) = ChildrenFit p × (word ≡ position_spelling p)

-- the certificate of a step at the place of a word
abbrev pub placed_file : List ℕ → List ℕ
placed_file word = codes "laws 1\n(step L1 forward " ++ (word ++ codes ")\n")

-- how many elements lists may have; bytes of a name, and of a position
abbrev pub WordLimitsAre : Type 0
WordLimitsAre = (MOST_ELEMENTS ≡ 32765) × (MOST_NAME ≡ 32) × (MOST_PLACE ≡ 1000000)
