-- The tokens of a text, each with the place of its first byte.
use Rattle.std.specs.Prelude.{ℕ, suc, Bool, true, false, ◌||◌, not, nat_eq, List, [], ◌∷◌, drop, if◌then◌else◌}

-- a parenthesis, or a word
pub data Token : Type 0 where
  opening : Token
  closing : Token
  word : List ℕ → Token

-- a token and the place of its first byte
abbrev pub PlacedToken : Type 0
PlacedToken = ℕ × Token

-- space, tab, line feed, carriage return
abbrev pub is_blank : ℕ → Bool
is_blank b = nat_eq b 32 || nat_eq b 9 || nat_eq b 10 || nat_eq b 13

-- all but blanks, '(', ')' and ';'
abbrev pub is_word_byte : ℕ → Bool
is_word_byte b = not (is_blank b || nat_eq b 40 || nat_eq b 41 || nat_eq b 59)

-- the text goes on with a byte of a word
abbrev pub begins_word : List ℕ → Bool
begins_word [] = false
begins_word (b ∷ bs) = is_word_byte b

-- the byte b at n, and the tokens after it: the first of them goes on b's word, or b is a word
-- alone
abbrev pub join_byte : ℕ → ℕ → Bool → List PlacedToken → List PlacedToken
join_byte n b true ((m, word w) ∷ ts) = (n, word (b ∷ w)) ∷ ts
join_byte n b _ ts = (n, word (b ∷ [])) ∷ ts

-- the tokens of bytes that begin at place n, within a comment or not; a comment ends with its line
abbrev pub tokens_in : Bool → ℕ → List ℕ → List PlacedToken
tokens_in c n [] = []
tokens_in true n (b ∷ bs) = tokens_in (not (nat_eq b 10)) (suc n) bs
tokens_in false n (b ∷ bs) =
    if is_word_byte b then join_byte n b (begins_word bs) (tokens_in false (suc n) bs)
    else if nat_eq b 40 then (n, opening) ∷ tokens_in false (suc n) bs
    else if nat_eq b 41 then (n, closing) ∷ tokens_in false (suc n) bs
    else tokens_in (nat_eq b 59) (suc n) bs

-- the tokens of the text as it stands from byte n on
abbrev pub tokens_from : ℕ → List ℕ → List PlacedToken
tokens_from n text = tokens_in false n (drop n text)

-- the tokens of a whole text
abbrev pub tokens : List ℕ → List PlacedToken
tokens text = tokens_in false 0 text

-- a byte that a token begins with, where no comment is
abbrev pub begins_token : ℕ → Bool
begins_token b = is_word_byte b || nat_eq b 40 || nat_eq b 41

-- the token that these bytes spell
abbrev pub token_of : List ℕ → Token
token_of (b ∷ []) = if nat_eq b 40 then opening else if nat_eq b 41 then closing else word (b ∷ [])
token_of bs = word bs
