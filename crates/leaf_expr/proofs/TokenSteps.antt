-- How the tokens of a text go on from byte to byte.
use Rattle.std.proofs.Common.{◌≡◌, ℕ, zero, suc, nat_lt, ◌+◌, ◌-◌, ◌<◌, ◌≤◌, Bool, true, false, not, nat_eq, ◌||◌, List, [], ◌∷◌, drop, take, length, get_or, refl, sym, ap, ◌∙◌, arith, drop-cons, length-drop, drop_of_length-le}
use Rattle.std.specs.List.{slice_range}
use Rattle.std.proofs.lemmas.Bool.{ltb-true, ltb-false}
use Rattle.std.proofs.lemmas.List.{get_or-drop, length-take-le}
use Rattle.std.proofs.lemmas.List.Folds.{drop_split}
use Rattle.leaf_expr.specs.Token.{opening, closing, word, is_word_byte, begins_token, begins_word, tokens_in, tokens_from, token_of}
use Rattle.leaf_expr.specs.Lexeme.{IsLexeme}
use Rattle.leaf_expr.specs.declared.token.Lexeme.TheVariants as V
use Rattle.leaf_expr.specs.Sexpr.{all_word_bytes, is_word}
use Rattle.leaf_expr.proofs.TokenLaws.{word_tokens}

-- the bytes from place i on are the byte there and the rest
pub tokens_cons : (c : Bool) (i : ℕ) (text : List ℕ) → i < length text → tokens_in c i (drop i text) ≡ tokens_in c i (get_or text i 0 ∷ drop (suc i) text)
tokens_cons c i text h = ap (tokens_in c i) (drop-cons text i 0 h)

-- in a comment
pub comment_step : (i : ℕ) (text : List ℕ) → i < length text
    → tokens_in (not (nat_eq (get_or text i 0) 10)) (suc i) (drop (suc i) text) ≡ tokens_in true i (drop i text)
comment_step i text h = sym (tokens_cons true i text h)

-- before a token
pub blank_step : (i : ℕ) (text : List ℕ) → i < length text → begins_token (get_or text i 0) ≡ false
    → tokens_in (nat_eq (get_or text i 0) 59) (suc i) (drop (suc i) text) ≡ tokens_in false i (drop i text)
blank_step i text h e = sym (tokens_cons false i text h ∙ go (get_or text i 0) (drop (suc i) text) e)
  where
    go : (b : ℕ) (bs : List ℕ) → begins_token b ≡ false → tokens_in false i (b ∷ bs) ≡ tokens_in (nat_eq b 59) (suc i) bs
    go b bs p = steps (is_word_byte b) (nat_eq b 40) (nat_eq b 41) refl refl refl p
      where
        steps : (x y z : Bool) → is_word_byte b ≡ x → nat_eq b 40 ≡ y → nat_eq b 41 ≡ z → (x || y || z) ≡ false
            → tokens_in false i (b ∷ bs) ≡ tokens_in (nat_eq b 59) (suc i) bs
        steps false false false k l m q = rw (k, l, m) refl
        steps true y z k l m q = absurd (cc)
        steps false true z k l m q = absurd (cc)
        steps false false true k l m q = absurd (cc)

-- bytes of words at the first m places
all_words : (m : ℕ) (bs : List ℕ) → ((k : ℕ) → k < m → is_word_byte (get_or bs k 0) ≡ true) → m ≤ length bs → all_word_bytes (take m bs) ≡ true
all_words zero bs h l = refl
all_words (suc m) [] h l = absurd (omega arith)
all_words (suc m) (b ∷ bs) h l =
    let i : is_word_byte b ≡ true = h 0 (omega arith) in
    let j : all_word_bytes (take m bs) ≡ true = all_words m bs (λ k q. h (suc k) (omega arith)) (omega arith) in
    rw (i, j) refl

pub is_words : (m : ℕ) (bs : List ℕ) → 0 < m → ((k : ℕ) → k < m → is_word_byte (get_or bs k 0) ≡ true) → m ≤ length bs → is_word (take m bs) ≡ true
is_words zero bs p h l = absurd (omega arith)
is_words (suc m) [] p h l = absurd (omega arith)
is_words (suc m) (b ∷ bs) p h l = all_words (suc m) (b ∷ bs) h l

no_word_at : (n : ℕ) (text : List ℕ) → n ≤ length text → (n < length text → is_word_byte (get_or text n 0) ≡ false) → begins_word (drop n text) ≡ false
no_word_at n text l h = go (nat_lt n (length text)) refl
  where
    go : (b : Bool) → nat_lt n (length text) ≡ b → begins_word (drop n text) ≡ false
    go true e = let i : n < length text = ltb-true n (length text) e in ap begins_word (drop-cons text n 0 i) ∙ h i
    go false e = let i : length text ≤ n = ltb-false n (length text) e in ap begins_word (drop_of_length-le text i)

-- a word from start up to byte n: it is spelt so, and takes so many bytes
pub word_spelt : (start n : ℕ) (text : List ℕ) → start < n → n ≤ length text → ((k : ℕ) → start ≤ k → k < n → is_word_byte (get_or text k 0) ≡ true)
    → is_word (slice_range text start n) ≡ true
word_spelt start n text s l h = is_words (n - start) (drop start text) (omega arith) (λ k q. ap is_word_byte (get_or-drop start text k 0)
    ∙ h (start + k) (omega arith) (omega arith)) (omega (arith, length-drop start text))

pub word_takes : (start n : ℕ) (text : List ℕ) → start ≤ n → n ≤ length text → start + length (slice_range text start n) ≡ n
word_takes start n text s l = omega (arith, length-take-le (n - start) (drop start text) (omega (arith, length-drop start text)))

-- and it ends there
pub word_stands : (start n : ℕ) (text : List ℕ) → start < n → n ≤ length text →
    ((k : ℕ) → start ≤ k → k < n → is_word_byte (get_or text k 0) ≡ true) → (n < length text → is_word_byte (get_or text n 0) ≡ false) →
    tokens_from start text ≡ (start, word (slice_range text start n)) ∷ tokens_from n text
word_stands start n text s l h e =
    let w = word_spelt start n text s l h in
    let within : start ≤ n = omega arith in
    let taken = word_takes start n text within l in
    ap (tokens_in false start) (drop_split text start n within)
    ∙ word_tokens start (slice_range text start n) (drop n text) w (no_word_at n text l e)
    ∙ ap (λ m. (start, word (slice_range text start n)) ∷ tokens_in false m (drop n text)) taken

-- the same with the next place counted as the code does
pub comment_next : (i : ℕ) (text : List ℕ) (c d : Bool) → i < length text → c ≡ true → d ≡ not (nat_eq (get_or text i 0) 10)
    → tokens_in d (i + 1) (drop (i + 1) text) ≡ tokens_in c i (drop i text)
comment_next i text c d h e f = let n : i + 1 ≡ suc i = omega arith in rw (n, e, f) (comment_step i text h)

pub blank_next : (i : ℕ) (text : List ℕ) (c d : Bool) → i < length text → c ≡ false → begins_token (get_or text i 0) ≡ false → d ≡ nat_eq (get_or text i 0) 59
    → tokens_in d (i + 1) (drop (i + 1) text) ≡ tokens_in c i (drop i text)
blank_next i text c d h e g f = let n : i + 1 ≡ suc i = omega arith in rw (n, e, f) (blank_step i text h g)

-- a parenthesis at a place
pub open_stands : (i : ℕ) (text : List ℕ) → i < length text → get_or text i 0 ≡ 40 → tokens_from i text ≡ (i, opening) ∷ tokens_from (i + 1) text
open_stands i text h e = let n : i + 1 ≡ suc i = omega arith in rw n (tokens_cons false i text h ∙ ap (λ b. tokens_in false i (b ∷ drop (suc i) text)) e)

pub close_stands : (i : ℕ) (text : List ℕ) → i < length text → get_or text i 0 ≡ 41 → tokens_from i text ≡ (i, closing) ∷ tokens_from (i + 1) text
close_stands i text h e = let n : i + 1 ≡ suc i = omega arith in rw n (tokens_cons false i text h ∙ ap (λ b. tokens_in false i (b ∷ drop (suc i) text)) e)

-- what a parenthesis or a word is as a token of the bytes that it takes
pub cut_one : (i : ℕ) (text : List ℕ) → i < length text → slice_range text i (i + 1) ≡ get_or text i 0 ∷ []
cut_one i text h = let one : i + 1 - i ≡ 1 = omega arith in ap (λ n. take n (drop i text)) one ∙ ap (take 1) (drop-cons text i 0 h)

pub opening_cut : (at start : ℕ) (text : List ℕ) → IsLexeme text at (V.Open start)
    → tokens_from at text ≡ (start, token_of (slice_range text start (start + 1))) ∷ tokens_from (start + 1) text
opening_cut at start text h = h.0 ∙ ap (λ w. (start, token_of w) ∷ tokens_from (start + 1) text) (sym (cut_one start text h.2 ∙ ap (λ b. b ∷ []) h.3))

pub closing_cut : (at start : ℕ) (text : List ℕ) → IsLexeme text at (V.Close start)
    → tokens_from at text ≡ (start, token_of (slice_range text start (start + 1))) ∷ tokens_from (start + 1) text
closing_cut at start text h = h.0 ∙ ap (λ w. (start, token_of w) ∷ tokens_from (start + 1) text) (sym (cut_one start text h.2 ∙ ap (λ b. b ∷ []) h.3))
