-- A line is its first word, what stands behind that, and the rest; lines are the first one, and the rest.
use Rattle.std.proofs.Common.{◌≡◌, ◌<◌, ◌==◌, ◌+◌, ◌-◌, ◌++◌, ℕ, suc, Bool, true, false, cond, not, List, [], ◌∷◌, length, take, drop, Option, Some, None, Bor, codes, refl, sym, ap, ◌∙◌, arith, append_assoc, append-nil, length-take}
use Rattle.std.proofs.lemmas.Str.Pattern.{IsSplitOnceResult, split_once_first}
use Rattle.std.specs.List.{before_first, after_first, position_or_len}
use Rattle.code_text.specs.FoldedText.{folded, folded_lines, gap, room_behind}

-- what stands behind the first word, with the rest
abbrev behind : ℕ → List ℕ → List ℕ
behind room bs = gap room bs ++ folded (room_behind room bs) bs

-- the same behind the first line
abbrev below : List ℕ → List ℕ
below bs = codes "\n * " ++ folded_lines [] bs

-- n bytes behind this one there is a blank, if this is none
word_here : (room c : ℕ) (cs : List ℕ) (n : ℕ) (b : Bool)
    → (n < length cs → folded (room - 1) cs ≡ take n cs ++ behind (room - 1 - n) (drop (n + 1) cs))
    → cond (not b) (1 + n) 0 < suc (length cs)
    → cond b (behind room cs) (c ∷ folded (room - 1) cs)
    ≡ take (cond (not b) (1 + n) 0) (c ∷ cs)
    ++ behind (room - cond (not b) (1 + n) 0) (drop (cond (not b) (1 + n) 0 + 1) (c ∷ cs))
word_here room c cs n true ih l =
    let e : room - 0 ≡ room = omega arith in rw e refl
word_here room c cs n false ih l =
    let e : 1 + n ≡ suc n = omega arith in
    let f : suc n + 1 ≡ suc (n + 1) = omega arith in
    let g : room - suc n ≡ room - 1 - n = omega arith in
    let h : folded (room - 1) cs ≡ take n cs ++ behind (room - 1 - n) (drop (n + 1) cs) = ih (omega arith) in
    rw (e, f, g) (ap (λ s. c ∷ s) h)

word_split : (room : ℕ) (bs : List ℕ) → position_or_len (λ b. b == 32) bs < length bs
    → folded room bs
    ≡ before_first (λ b. b == 32) bs
    ++ behind (room - position_or_len (λ b. b == 32) bs) (after_first (λ b. b == 32) bs)
word_split room [] l = absurd (omega (arith, l))
word_split room (c ∷ cs) l = word_here room c cs (position_or_len (λ b. b == 32) cs) (c == 32) (word_split (room - 1) cs) l

-- a line without a blank
last_here : (room c : ℕ) (cs : List ℕ) (n : ℕ) (b : Bool) → (n ≡ length cs → folded (room - 1) cs ≡ cs)
    → cond (not b) (1 + n) 0 ≡ suc (length cs)
    → cond b (behind room cs) (c ∷ folded (room - 1) cs) ≡ c ∷ cs
last_here room c cs n true ih l = absurd (omega (arith, l))
last_here room c cs n false ih l = ap (λ s. c ∷ s) (ih (omega (arith, l)))

word_last : (room : ℕ) (bs : List ℕ) → position_or_len (λ b. b == 32) bs ≡ length bs → folded room bs ≡ bs
word_last room [] l = refl
word_last room (c ∷ cs) l = last_here room c cs (position_or_len (λ b. b == 32) cs) (c == 32) (word_last (room - 1) cs) l

-- n bytes behind this one there is a line feed, if this is none
line_here : (line : List ℕ) (c : ℕ) (cs : List ℕ) (n : ℕ) (b : Bool)
    → (n < length cs → folded_lines (line ++ (c ∷ [])) cs
    ≡ folded 97 ((line ++ (c ∷ [])) ++ take n cs) ++ below (drop (n + 1) cs))
    → cond (not b) (1 + n) 0 < suc (length cs)
    → cond b (folded 97 line ++ below cs) (folded_lines (line ++ (c ∷ [])) cs)
    ≡ folded 97 (line ++ take (cond (not b) (1 + n) 0) (c ∷ cs))
    ++ below (drop (cond (not b) (1 + n) 0 + 1) (c ∷ cs))
line_here line c cs n true ih l = rw (append-nil line) refl
line_here line c cs n false ih l =
    let e : 1 + n ≡ suc n = omega arith in
    let f : suc n + 1 ≡ suc (n + 1) = omega arith in
    rw (e, f)
    (ih (omega arith) ∙ ap (λ s. folded 97 s ++ below (drop (n + 1) cs)) (append_assoc line (c ∷ []) (take n cs)))

line_split : (line bs : List ℕ) → position_or_len (λ b. b == 10) bs < length bs
    → folded_lines line bs
    ≡ folded 97 (line ++ before_first (λ b. b == 10) bs) ++ below (after_first (λ b. b == 10) bs)
line_split line [] l = absurd (omega (arith, l))
line_split line (c ∷ cs) l =
    line_here line c cs (position_or_len (λ b. b == 10) cs) (c == 10) (line_split (line ++ (c ∷ [])) cs) l

-- one line alone
end_here : (line : List ℕ) (c : ℕ) (cs : List ℕ) (n : ℕ) (b : Bool)
    → (n ≡ length cs → folded_lines (line ++ (c ∷ [])) cs ≡ folded 97 ((line ++ (c ∷ [])) ++ cs))
    → cond (not b) (1 + n) 0 ≡ suc (length cs)
    → cond b (folded 97 line ++ below cs) (folded_lines (line ++ (c ∷ [])) cs)
    ≡ folded 97 (line ++ (c ∷ cs))
end_here line c cs n true ih l = absurd (omega (arith, l))
end_here line c cs n false ih l = ih (omega (arith, l)) ∙ ap (folded 97) (append_assoc line (c ∷ []) cs)

line_last : (line bs : List ℕ) → position_or_len (λ b. b == 10) bs ≡ length bs
    → folded_lines line bs ≡ folded 97 (line ++ bs)
line_last line [] l = ap (folded 97) (sym (append-nil line))
line_last line (c ∷ cs) l =
    end_here line c cs (position_or_len (λ b. b == 10) cs) (c == 10) (line_last (line ++ (c ∷ [])) cs) l

-- what `split_once` gives of a line, where it finds a blank and where it finds none
module _ (rest : List ℕ) (r : Option (Bor (List ℕ) × Bor (List ℕ))) (split : IsSplitOnceResult 32 rest r) where
  pub word_step : (room : ℕ) (x : Bor (List ℕ) × Bor (List ℕ)) → r ≡ Some x
      → folded room rest ≡ x.0.now ++ behind (room - length x.0.now) x.1.now
  word_step room x is =
      let (inside, front, back) = rw is at (split_once_first 32 rest r split (omega arith)) in
      let n : length x.0.now ≡ position_or_len (λ b. b == 32) rest =
      omega (arith, ap length front, length-take (position_or_len (λ b. b == 32) rest) rest, inside) in
      rw (n, front, back) (word_split room rest inside)

  pub word_ends : (room : ℕ) → r ≡ None → folded room rest ≡ rest
  word_ends room is = word_last room rest (rw is at (split_once_first 32 rest r split (omega arith)))

  -- the first word's length
  pub length_some : (x : Bor (List ℕ) × Bor (List ℕ)) → r ≡ Some x
      → length x.0.now ≡ position_or_len (λ b. b == 32) rest
  length_some x is =
      let (inside, front, back) = rw is at (split_once_first 32 rest r split (omega arith)) in
      omega (arith, ap length front, length-take (position_or_len (λ b. b == 32) rest) rest, inside)

  pub length_none : r ≡ None → length rest ≡ position_or_len (λ b. b == 32) rest
  length_none is = sym (rw is at (split_once_first 32 rest r split (omega arith)))

-- what it gives of lines
module _ (rest : List ℕ) (r : Option (Bor (List ℕ) × Bor (List ℕ))) (split : IsSplitOnceResult 10 rest r) where
  pub line_step : (x : Bor (List ℕ) × Bor (List ℕ)) → r ≡ Some x
      → folded_lines [] rest ≡ folded 97 x.0.now ++ below x.1.now
  line_step x is =
      let (inside, front, back) = rw is at (split_once_first 10 rest r split (omega arith)) in
      rw (front, back) (line_split [] rest inside)

  pub line_ends : r ≡ None → folded_lines [] rest ≡ folded 97 rest
  line_ends is = line_last [] rest (rw is at (split_once_first 10 rest r split (omega arith)))
