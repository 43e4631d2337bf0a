-- Digits at the front of a text, one by one, and the number that they spell.
use Rattle.std.proofs.Common.{◌≡◌, ℕ, zero, suc, ◌+◌, ◌-◌, ◌*◌, ◌^◌, ◌≤◌, ◌<◌, true, false, List, [], ◌∷◌, ◌++◌, length, get_or, take, drop, refl, sym, ap, ◌∙◌, arith, pos, neg_ℤ}
use Rattle.std.specs.Char.{is_ascii_digit}
use Rattle.std.specs.Fmt.{decimal}
use Rattle.std.specs.Str.{all_ascii_digits}
use Rattle.std.specs.Str.Parse.{digits_value}
use Rattle.std.proofs.lemmas.Bool.Decides.{nat_tests}
use Rattle.std.proofs.lemmas.Fmt.{decimal-digits_value}
use Rattle.std.proofs.lemmas.List.{take-append-drop, take_all, length-take}
use Rattle.std.proofs.lemmas.Int.Digits.{digits_value_more}
use Rattle.std.proofs.lemmas.Str.{digit_value_digit}
use Rattle.std.proofs.lemmas.Str.Parse.{numerals_by_value, tells_all_ascii_digits, digits_value_short}
use Rattle.sample_core.specs.Datum.{int}
use Rattle.sample_core.specs.HasType.{int_has}
use Rattle.sample_core.specs.SpellsValue.{SpellsValue}
use Rattle.sample_core.specs.TypeTree.{int_ty}
use Rattle.sample_core.specs.Words.{goes_on}

pub digit_in_range : (b : ℕ) → is_ascii_digit b ≡ true → (48 ≤ b) × (b ≤ 57)
digit_in_range b h = (grind (arith, nat_tests), grind (arith, nat_tests))

-- one digit more is digits
pub digits_more : (ds : List ℕ) (i : ℕ) → i < length ds → is_ascii_digit (get_or ds i 0) ≡ true → all_ascii_digits (take i ds) ≡ true →
    all_ascii_digits (take (i + 1) ds) ≡ true
digits_more [] i l h e = absurd (omega arith)
digits_more (d ∷ ds) zero l h e = tells_all_ascii_digits.more d [] (digit_in_range d h) refl
digits_more (d ∷ ds) (suc i) l h e =
    let p = tells_all_ascii_digits.parts d (take i ds) e in
    let k : suc (i + 1) ≡ suc i + 1 = omega arith in
    ap (λ n. all_ascii_digits (take n (d ∷ ds))) (sym k) ∙ tells_all_ascii_digits.more d (take (i + 1) ds) p.0 (digits_more ds i (omega arith) h p.1)

-- one digit more, ten times the number and the digit
pub value_more : (ds : List ℕ) (i : ℕ) → i < length ds → is_ascii_digit (get_or ds i 0) ≡ true →
    digits_value 10 (take (i + 1) ds) ≡ digits_value 10 (take i ds) * 10 + (get_or ds i 0 - 48)
value_more ds i l h =
    let r : (48 ≤ get_or ds i 0) × (get_or ds i 0 ≤ 57) = digit_in_range (get_or ds i 0) h in
    omega (arith, digits_value_more 10 ds i l, digit_value_digit (get_or ds i 0) r)

-- a number with no '-'
pub plain_spelled : (n : ℕ) (text rest : List ℕ) → n < 10 ^ 18 → text ≡ decimal n ++ rest → goes_on rest ≡ false → SpellsValue (int (pos n)) int_ty text rest
plain_spelled n text rest l e g = record { typed = int_has (record { sfits = omega arith }); spells = e; apart = g }

-- a number with a '-'
pub minus_spelled : (n : ℕ) (text rest : List ℕ) → 0 < n → n < 10 ^ 18 → text ≡ decimal n ++ rest → goes_on rest ≡ false →
    SpellsValue (int (neg_ℤ (pos n))) int_ty (45 ∷ text) rest
minus_spelled zero text rest s l e g = absurd (omega arith)
minus_spelled (suc n) text rest s l e g = record { typed = int_has (record { sfits = omega arith }); spells = ap (λ x. 45 ∷ x) e; apart = g }

-- what is behind a '-' that stands in front
pub behind_minus : (text digits : List ℕ) → get_or text 0 0 ≡ 45 → 1 ≤ length text → take (length text - 1) (drop 1 text) ≡ digits → text ≡ 45 ∷ digits
behind_minus [] digits e l h = absurd (omega arith)
behind_minus (b ∷ bs) digits e l h =
    ap (λ x. x ∷ bs) e ∙ ap (λ x. 45 ∷ x) (sym (take_all (length (b ∷ bs) - 1) bs (omega arith)) ∙ h)

-- the spelling of a number in front, and what is behind it
pub front_spelled : (text : List ℕ) (i : ℕ) → all_ascii_digits (take i text) ≡ true → 0 < length (take i text) →
    (get_or (take i text) 0 0 ≡ 48 → length (take i text) ≡ 1) → digits_value 10 (take i text) < 10 ^ 18 →
    text ≡ decimal (digits_value 10 (take i text)) ++ drop i text
front_spelled text i a s f l = sym (take-append-drop i text) ∙
    ap (λ x. x ++ drop i text) (sym (decimal-digits_value (numerals_by_value _ tells_all_ascii_digits) (take i text) a s f (omega arith)))

-- few digits write a small number
pub few_digits : (text : List ℕ) (i k : ℕ) → i ≤ k → all_ascii_digits (take i text) ≡ true → digits_value 10 (take i text) < 10 ^ k
few_digits text i k l a =
    digits_value_short (numerals_by_value _ tells_all_ascii_digits) (take i text) k a (omega (arith, length-take i text))
