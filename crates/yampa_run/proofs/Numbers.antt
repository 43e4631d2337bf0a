-- A word of digits that doesn't fit is larger than what fits.
use Rattle.std.proofs.Common.{◌≡◌, ◌∙◌, ◌<◌, ◌-◌, ◌^◌, ℕ, List, Err, Some, None, true, ap, sym, arith, length, min, nat_lt, if◌then◌else◌}
use Rattle.std.specs.Str.{all_ascii_digits}
use Rattle.std.specs.Str.Parse.{ParsesUnsigned, digits_value}
use Rattle.std.proofs.lemmas.Bool.{and_parts}
use Rattle.std.proofs.lemmas.Str.Parse.{numerals_by_value, tells_all_ascii_digits, parse_digits, IsNumeralModel}
use Rattle.yampa_run.specs.Words.{is_digits_word, number_in}

own : IsNumeralModel (λ ds. all_ascii_digits ds ≡ true) (digits_value 10)
own = numerals_by_value (λ ds. all_ascii_digits ds ≡ true) tells_all_ascii_digits

too_large : {E : Type 0} (word : List ℕ) (e : E) → ParsesUnsigned {E = E} 64 10 word (Err e) → all_ascii_digits word ≡ true → 0 < length word
    → min (2 ^ 64 - 1) (digits_value 10 word) ≡ 2 ^ 64 - 1
too_large word e h d n = let none = parse_digits own 64 word (Err e) h d in grind arith

pub greatest : {E : Type 0} (word : List ℕ) (e : E) → ParsesUnsigned {E = E} 64 10 word (Err e) → true ≡ is_digits_word word → Some (2 ^ 64 - 1) ≡ number_in word
greatest word e h d =
    let both = and_parts (nat_lt 0 (length word)) (all_ascii_digits word) (sym d) in
    ap Some (sym (too_large word e h both.1 (grind arith)))
    ∙ ap (λ b. if b then Some (min (2 ^ 64 - 1) (digits_value 10 word)) else None) d
