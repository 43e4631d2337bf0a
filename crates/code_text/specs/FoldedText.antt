-- The network in the first comment, on lines that end by column 100.
use Rattle.std.specs.Prelude.{ℕ, ◌-◌, ◌==◌, nat_lt, if◌then◌else◌, List, [], ◌∷◌, ◌++◌, codes}
use Rattle.std.specs.List.{position_or_len}

-- how long the first word is
abbrev pub word_length : List ℕ → ℕ
word_length bs = position_or_len (λ b. b == 32) bs

-- what stands before a text where a blank has so much room: the blank, where the first word has room
-- too, else a line's beginning; and how much room there is behind that
abbrev pub gap : ℕ → List ℕ → List ℕ
gap room bs = if nat_lt (word_length bs) room then codes " " else codes "\n * "

abbrev pub room_behind : ℕ → List ℕ → ℕ
room_behind room bs = if nat_lt (word_length bs) room then room - 1 else 97

-- a line that has so much room, broken at blanks
abbrev pub folded : ℕ → List ℕ → List ℕ
folded room [] = []
folded room (b ∷ bs) =
    if b == 32 then gap room bs ++ folded (room_behind room bs) bs else b ∷ folded (room - 1) bs

-- the lines of a text, of which the first begins with these bytes
abbrev pub folded_lines : List ℕ → List ℕ → List ℕ
folded_lines line [] = folded 97 line
folded_lines line (b ∷ bs) =
    if b == 10 then folded 97 line ++ (codes "\n * " ++ folded_lines [] bs)
    else folded_lines (line ++ (b ∷ [])) bs
