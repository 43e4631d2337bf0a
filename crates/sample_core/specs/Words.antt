-- Words in the spelling of values.
use Rattle.std.specs.Prelude.{ℕ, Bool, false, ◌&&◌, ◌||◌, nat_eq, nat_le, List, [], ◌∷◌, if◌then◌else◌}

-- letters, digits and '-'
abbrev pub is_value_byte : ℕ → Bool
is_value_byte b = (nat_le 48 b && nat_le b 57) || (nat_le 65 b && nat_le b 90)
    || (nat_le 97 b && nat_le b 122) || nat_eq b 45

-- whether the first byte is one of these
abbrev pub goes_on : List ℕ → Bool
goes_on [] = false
goes_on (b ∷ bs) = is_value_byte b

-- the word at the front: the longest run of these
abbrev pub word_of : List ℕ → List ℕ
word_of [] = []
word_of (b ∷ bs) = if is_value_byte b then b ∷ word_of bs else []

-- what is behind the word at the front
abbrev pub after_word : List ℕ → List ℕ
after_word [] = []
after_word (b ∷ bs) = if is_value_byte b then after_word bs else b ∷ bs

-- the word directly behind a '(' at the front
abbrev pub form_word : List ℕ → List ℕ
form_word [] = []
form_word (b ∷ bs) = if nat_eq b 40 then word_of bs else []

-- what is behind that word
abbrev pub after_form : List ℕ → List ℕ
after_form [] = []
after_form (b ∷ bs) = if nat_eq b 40 then after_word bs else b ∷ bs
