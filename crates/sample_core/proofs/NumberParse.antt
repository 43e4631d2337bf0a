-- What std's `parse` gives for a number word.
use Rattle.std.proofs.Common.{◌≡◌, ◌≢◌, ℕ, ◌<◌, ◌≤◌, ◌^◌, Bool, true, false, if◌then◌else◌, nat_eq, nat_le, nat_lt, neg_ℤ, List, [], ◌∷◌, length, get_or, refl, sym, ap, ◌∙◌, arith, ℤ, pos, w64, Result, Ok, Err, Some, None}
use Rattle.std.specs.Result.{result_ok, OkIff}
use Rattle.std.specs.Str.{all_ascii_digits, IsAscii}
use Rattle.std.specs.Str.Parse.{digits_value, ParsesSigned}
use Rattle.std.proofs.lemmas.Bool.{le-leb, lt-ltb, leb-true, ltb-true, eqb-true}
use Rattle.std.proofs.lemmas.Fmt.{IsAscii-from_digits}
use Rattle.std.proofs.lemmas.Str.Ascii.{IsAscii-cons}
use Rattle.std.proofs.lemmas.Str.Parse.{IsNumeralModel, numerals_by_value, tells_all_ascii_digits, parse_signed_minus, parse_signed_plain}
use Rattle.sample_core.specs.Number.{is_number, is_number_word, is_well_spelt, digits_part, is_in_64, number_of}
use Rattle.sample_core.proofs.Numbers.{parts_of}

own : IsNumeralModel (λ ds. all_ascii_digits ds ≡ true) (digits_value 10)
own = numerals_by_value _ tells_all_ascii_digits

-- the digits of a number word
has_digits : (w : List ℕ) → is_number w ≡ true → (0 < length (digits_part w)) × (all_ascii_digits (digits_part w) ≡ true)
has_digits w e =
    let a : (is_number_word w ≡ true) × (is_well_spelt w ≡ true) = parts_of (is_number_word w) (is_well_spelt w) e in
    let b : (nat_lt 0 (length (digits_part w)) ≡ true)
    × (all_ascii_digits (digits_part w) ≡ true) = parts_of (nat_lt 0 (length (digits_part w))) (all_ascii_digits (digits_part w)) a.0 in
    (ltb-true 0 (length (digits_part w)) b.0, b.1)

-- a number word is ASCII
pub number_is_ascii : (w : List ℕ) → is_number w ≡ true → IsAscii w
number_is_ascii [] e = absurd (cc)
number_is_ascii (b ∷ ds) e = go (nat_eq b 45) refl (has_digits (b ∷ ds) e).1
  where
    go : (m : Bool) → nat_eq b 45 ≡ m → all_ascii_digits (if nat_eq b 45 then ds else b ∷ ds) ≡ true → IsAscii (b ∷ ds)
    go true m h =
        let i : b ≡ 45 = eqb-true b 45 m in
        let d : all_ascii_digits ds ≡ true = ap (λ q. all_ascii_digits (if q then ds else b ∷ ds)) (sym m) ∙ h in
        IsAscii-cons b ds (omega arith) (IsAscii-from_digits ds (own.to ds d))
    go false m h =
        let d : all_ascii_digits (b ∷ ds) ≡ true = ap (λ q. all_ascii_digits (if q then ds else b ∷ ds)) (sym m) ∙ h in
        IsAscii-from_digits (b ∷ ds) (own.to (b ∷ ds) d)

if_it_fits : {E : Type 0} (r : Result ℤ E) (Q : Type 0) (x : ℤ) (t : Bool) → OkIff r Q x → (Q → t ≡ true) → (t ≡ true → Q)
    → result_ok r ≡ (if t then Some x else None)
if_it_fits (Ok z) Q x true h f g = ap Some h.1
if_it_fits (Ok z) Q x false h f g = absurd (let e : false ≡ true = f h.0 in cc)
if_it_fits (Err e) Q x true h f g = absurd (h (g refl))
if_it_fits (Err e) Q x false h f g = refl

-- parsing a number word gives its number exactly where it has 64 bits
pub parse_is : {E : Type 0} (w : List ℕ) (r : Result ℤ E) → ParsesSigned w64 10 w r → is_number w ≡ true
    → result_ok r ≡ (if is_in_64 w then Some (number_of w) else None)
parse_is [] r h e = absurd (cc)
parse_is (b ∷ ds) r h e = go (nat_eq b 45) refl (has_digits (b ∷ ds) e)
  where
    go : (m : Bool) → nat_eq b 45 ≡ m → (0 < length (if nat_eq b 45 then ds else b ∷ ds)) × (all_ascii_digits (if nat_eq b 45 then ds else b ∷ ds) ≡ true)
        → result_ok r
        ≡ (if (if nat_eq b 45 then nat_le (digits_value 10 (if nat_eq b 45 then ds else b ∷ ds)) (2 ^ 63)
        else nat_lt (digits_value 10 (if nat_eq b 45 then ds else b ∷ ds)) (2 ^ 63)) then Some
        (if nat_eq b 45 then neg_ℤ (pos (digits_value 10 (if nat_eq b 45 then ds else b ∷ ds))) else pos (digits_value 10 (if nat_eq b 45 then ds else b ∷ ds)))
        else None)
    go true m d =
        let i : get_or (b ∷ ds) 0 0 ≡ 45 = eqb-true b 45 m in
        let k : (0 < length ds) × (all_ascii_digits ds ≡ true) = rw m at d in
        rw m (if_it_fits r ((all_ascii_digits ds ≡ true) × (0 < length ds) × (digits_value 10 ds ≤ 2 ^ 63)) (neg_ℤ (pos (digits_value 10 ds)))
        (nat_le (digits_value 10 ds) (2 ^ 63)) (parse_signed_minus own w64 (b ∷ ds) r h i) (λ q. le-leb (digits_value 10 ds) (2 ^ 63) q.2)
        (λ t. (k.1, k.0, leb-true (digits_value 10 ds) (2 ^ 63) t)))
    go false m d =
        let k : (0 < length (b ∷ ds)) × (all_ascii_digits (b ∷ ds) ≡ true) = rw m at d in
        let j = tells_all_ascii_digits.parts b ds k.1 in
        let l : get_or (b ∷ ds) 0 0 ≢ 43 = λ u. omega (arith, j.0) in
        let n : get_or (b ∷ ds) 0 0 ≢ 45 = λ u. omega (arith, j.0) in
        rw m (if_it_fits r ((all_ascii_digits (b ∷ ds) ≡ true) × (0 < length (b ∷ ds)) × (digits_value 10 (b ∷ ds) < 2 ^ 63)) (pos (digits_value 10 (b ∷ ds)))
        (nat_lt (digits_value 10 (b ∷ ds)) (2 ^ 63)) (parse_signed_plain own w64 (b ∷ ds) r h l n) (λ q. lt-ltb (digits_value 10 (b ∷ ds)) (2 ^ 63) q.2)
        (λ t. (k.1, k.0, ltb-true (digits_value 10 (b ∷ ds)) (2 ^ 63) t)))
