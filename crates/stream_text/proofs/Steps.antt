-- The number that digits write, one digit on.
use Rattle.std.proofs.Common.{◌≡◌, ◌<◌, ◌≤◌, ◌+◌, ◌-◌, ◌*◌, ◌^◌, ℕ, true, false, List, [], ◌∷◌, length, take, get_or, refl, ap, ◌∙◌, sym, arith, Some, None, Option, if◌then◌else◌}
use Rattle.std.specs.Char.{is_ascii_digit}
use Rattle.std.specs.Str.Parse.{digits_value}
use Rattle.std.proofs.lemmas.Bool.Decides.{nat_tests}
use Rattle.std.proofs.lemmas.Int.Digits.{digits_value_more}
use Rattle.std.proofs.lemmas.Str.{digit_value_digit}
use Rattle.std.proofs.lemmas.Str.Parse.{digits_value-take-le}
use Rattle.stream_text.specs.StepText.{is_step}

pub digit_in_range : (b : ℕ) → is_ascii_digit b ≡ true → (48 ≤ b) × (b ≤ 57)
digit_in_range b h = (grind (arith, nat_tests), grind (arith, nat_tests))

pub next_value : (ds : List ℕ) (i : ℕ) → i < length ds → is_ascii_digit (get_or ds i 0) ≡ true
    → digits_value 10 (take (i + 1) ds) ≡ digits_value 10 (take i ds) * 10 + (get_or ds i 0 - 48)
next_value ds i l h =
    let r : (48 ≤ get_or ds i 0) × (get_or ds i 0 ≤ 57) = digit_in_range (get_or ds i 0) h in
    omega (arith, digits_value_more 10 ds i l, digit_value_digit (get_or ds i 0) r)

-- too large already at the front
pub not_step : (ds : List ℕ) (n : ℕ) → 2 ^ 63 ≤ digits_value 10 (take n ds) → is_step ds ≡ false
not_step ds n h = go ds (omega (arith, digits_value-take-le 10 ds n (omega arith)))
  where
    go : (cs : List ℕ) → 2 ^ 63 ≤ digits_value 10 cs → is_step cs ≡ false
    go [] l = refl
    go (c ∷ cs) l = grind (arith, nat_tests)

pub no_step : (ds : List ℕ) (n : ℕ) (r : Option ℕ) → r ≡ None → 2 ^ 63 ≤ digits_value 10 (take n ds)
    → r ≡ (if is_step ds then Some (digits_value 10 ds) else None)
no_step ds n r e h = e ∙ sym (ap (λ p. if p then Some (digits_value 10 ds) else None) (not_step ds n h))
