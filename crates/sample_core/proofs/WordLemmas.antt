-- Words and what is behind them.
use Rattle.std.proofs.Common.{◌≡◌, ◌≢◌, true≢false, ℕ, suc, Bool, true, false, ◌&&◌, nat_eq, nat_le, List, [], ◌∷◌, ◌++◌, refl, ap, sym, ◌∙◌, arith, ℤ, pos, negsuc, if◌then◌else◌, w64, FitsSigned}
use Rattle.std.specs.Prelude.{bytes_eq}
use Rattle.std.specs.Fmt.{decimal, signed_decimal}
use Rattle.std.specs.Str.{all_ascii_digits}
use Rattle.std.proofs.lemmas.Bool.{le-leb, eqb-true}
use Rattle.std.proofs.lemmas.List.{append_cancel_left}
use Rattle.std.proofs.lemmas.Slice.Eq.{bytes_eq-Decides}
use Rattle.std.proofs.lemmas.Str.Parse.{tells_all_ascii_digits}
use Rattle.sample_core.specs.Words.{is_value_byte, goes_on, word_of, after_word, form_word, after_form}
use Rattle.sample_core.proofs.Numbers.{parts_of, both, signed_digits}

abbrev tail_of : List ℕ → List ℕ
tail_of [] = []
tail_of (b ∷ bs) = bs

pub no_word : (bs : List ℕ) → goes_on bs ≡ false → word_of bs ≡ []
no_word [] e = refl
no_word (b ∷ bs) e = ap (λ p. if p then b ∷ word_of bs else []) e

pub all_behind : (bs : List ℕ) → goes_on bs ≡ false → after_word bs ≡ bs
all_behind [] e = refl
all_behind (b ∷ bs) e = ap (λ p. if p then after_word bs else b ∷ bs) e

abbrev pub is_one_word : List ℕ → Bool
is_one_word [] = true
is_one_word (b ∷ bs) = is_value_byte b && is_one_word bs

pub word_all : (w rest : List ℕ) → is_one_word w ≡ true → goes_on rest ≡ false → word_of (w ++ rest) ≡ w
word_all [] rest h e = no_word rest e
word_all (b ∷ w) rest h e =
    let t : (is_value_byte b ≡ true) × (is_one_word w ≡ true) = parts_of (is_value_byte b) (is_one_word w) h in
    ap (λ p. if p then b ∷ word_of (w ++ rest) else []) t.0 ∙ ap (λ x. b ∷ x) (word_all w rest t.1 e)

pub behind_all : (w rest : List ℕ) → is_one_word w ≡ true → goes_on rest ≡ false → after_word (w ++ rest) ≡ rest
behind_all [] rest h e = all_behind rest e
behind_all (b ∷ w) rest h e =
    let t : (is_value_byte b ≡ true) × (is_one_word w ≡ true) = parts_of (is_value_byte b) (is_one_word w) h in
    ap (λ p. if p then after_word (w ++ rest) else b ∷ w ++ rest) t.0 ∙ behind_all w rest t.1 e

-- bytes are the word in front and what is behind it, which does not go on it
pub split : (bs : List ℕ) → (bs ≡ word_of bs ++ after_word bs) × (goes_on (after_word bs) ≡ false)
split [] = (refl, refl)
split (b ∷ bs) = go (is_value_byte b) refl (split bs)
  where
    go : (p : Bool) → is_value_byte b ≡ p → (bs ≡ word_of bs ++ after_word bs) × (goes_on (after_word bs) ≡ false)
        → (b ∷ bs ≡ (if is_value_byte b then b ∷ word_of bs else []) ++ (if is_value_byte b then after_word bs else b ∷ bs))
        × (goes_on (if is_value_byte b then after_word bs else b ∷ bs) ≡ false)
    go true q i = (
      ap (λ x. b ∷ x) i.0
          ∙ ap (λ p. (if p then b ∷ word_of bs else []) ++ (if p then after_word bs else b ∷ bs)) (sym q),
      ap (λ p. goes_on (if p then after_word bs else b ∷ bs))
          q ∙ i.1,
    )
    go false q i = (
      ap (λ p. (if p then b ∷ word_of bs else []) ++ (if p then after_word bs else b ∷ bs)) (sym q),
      ap (λ p. goes_on (if p then after_word bs else b ∷ bs))
          q ∙ q,
    )

-- bytes that begin with a word
pub at_word : (bs w : List ℕ) → bytes_eq (word_of bs) w ≡ true → bs ≡ w ++ after_word bs
at_word bs w e = (split bs).0 ∙ ap (λ x. x ++ after_word bs) ((bytes_eq-Decides (word_of bs) w).0 e)

-- bytes that begin with '(' and a word
pub at_form : (bs : List ℕ) (c : ℕ) (w : List ℕ) → bytes_eq (form_word bs) (c ∷ w) ≡ true
    → (bs ≡ 40 ∷ c ∷ w ++ after_form bs) × (goes_on (after_form bs) ≡ false)
at_form [] c w e = absurd (cc)
at_form (b ∷ bs) c w e = go (nat_eq b 40) refl e
  where
    go : (p : Bool) → nat_eq b 40 ≡ p → bytes_eq (if p then word_of bs else []) (c ∷ w) ≡ true
        → (b ∷ bs ≡ 40 ∷ c ∷ w ++ (if nat_eq b 40 then after_word bs else b ∷ bs)) × (goes_on (if nat_eq b 40 then after_word bs else b ∷ bs) ≡ false)
    go true q e' =
        let i : b ≡ 40 = eqb-true b 40 q in
        rw q (ap (λ x. x ∷ bs) i ∙ ap (λ x. 40 ∷ x) (at_word bs (c ∷ w) e'), (split bs).1)
    go false q e' = absurd (cc)

digits_word : (ds : List ℕ) → all_ascii_digits ds ≡ true → is_one_word ds ≡ true
digits_word [] e = refl
digits_word (d ∷ ds) e =
    let i = tells_all_ascii_digits.parts d ds e in
    let a : nat_le 48 d ≡ true = le-leb 48 d (omega (arith, i.0)) in
    let b : nat_le d 57 ≡ true = le-leb d 57 (omega (arith, i.0)) in
    both (is_value_byte d) (is_one_word ds) (rw (a, b) refl) (digits_word ds i.1)

-- a number's spelling is one word
pub number_is_word : (z : ℤ) → FitsSigned w64 z → is_one_word (signed_decimal z) ≡ true
number_is_word (pos n) f = digits_word (decimal n) (signed_digits (pos n) f)
number_is_word (negsuc n) f = digits_word (decimal (suc n)) (signed_digits (negsuc n) f)

-- a word's bytes go on it
pub one_word : (w : List ℕ) → word_of w ≡ w → is_one_word w ≡ true
one_word [] e = refl
one_word (b ∷ w) e = go (is_value_byte b) refl e (one_word w)
  where
    go : (p : Bool) → is_value_byte b ≡ p → (if p then b ∷ word_of w else []) ≡ b ∷ w → (word_of w ≡ w → is_one_word w ≡ true)
        → (is_value_byte b && is_one_word w) ≡ true
    go true q h i = both (is_value_byte b) (is_one_word w) q (i (ap tail_of h))
    go false q h i = absurd (cc)

-- the name in front, and nothing that goes on it
pub word_found : (text w rest : List ℕ) → word_of w ≡ w → text ≡ w ++ rest → goes_on rest ≡ false →
    (bytes_eq (word_of text) w ≡ true) × (after_word text ≡ rest)
word_found text w rest o e g = (
  (bytes_eq-Decides (word_of text) w).1 (ap word_of e ∙ word_all w rest (one_word w o) g),
  ap after_word e ∙ behind_all w rest (one_word w o) g,
)

-- the name in front, and a byte that goes on it
pub word_longer : (text w rest : List ℕ) → text ≡ w ++ rest → goes_on rest ≡ true → bytes_eq (word_of text) w ≡ false
word_longer text w rest e g = go (bytes_eq (word_of text) w) refl
  where
    go : (p : Bool) → bytes_eq (word_of text) w ≡ p → p ≡ false
    go false q = refl
    go true q =
        let r : rest ≡ after_word text = append_cancel_left w rest (after_word text) (sym e ∙ at_word text w q) in
        absurd (true≢false (sym g ∙ ap goes_on r ∙ (split text).1))

-- another beginning
pub word_missing : (text w : List ℕ) → ((rest : List ℕ) → text ≢ w ++ rest) → bytes_eq (word_of text) w ≡ false
word_missing text w n = go (bytes_eq (word_of text) w) refl
  where
    go : (p : Bool) → bytes_eq (word_of text) w ≡ p → p ≡ false
    go false q = refl
    go true q = absurd (n (after_word text) (at_word text w q))
