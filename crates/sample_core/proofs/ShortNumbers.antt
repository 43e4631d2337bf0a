-- The spelling of a number of few digits, digit by digit.
use Rattle.std.proofs.Common.{◌≡◌, ℕ, ◌+◌, ◌/◌, ◌%◌, ◌^◌, ◌<◌, ◌≤◌, [], ◌∷◌, ◌++◌, arith, append_assoc}
use Rattle.std.proofs.lemmas.Fmt.{decimal_digit, decimal_step}
use Rattle.std.specs.Fmt.{decimal}

-- a number of two digits
pub decimal_two : (n : ℕ) → 10 ≤ n → n < 100 → decimal n ≡ (48 + n / 10) ∷ (48 + n % 10) ∷ []
decimal_two n more fits = rw (decimal_step n more (omega arith), decimal_digit (n / 10) (omega arith))

-- a number of three digits or more: that of its hundreds, and two digits behind it
pub decimal_pair : (n : ℕ) → 100 ≤ n → n < 2 ^ 63
    → decimal n ≡ decimal (n / 100) ++ ((48 + n % 100 / 10) ∷ (48 + n % 100 % 10) ∷ [])
decimal_pair n more fits =
    let tens : n / 10 / 10 ≡ n / 100 = omega arith
    in let ten : n / 10 % 10 ≡ n % 100 / 10 = omega arith
    in let one : n % 10 ≡ n % 100 % 10 = omega arith
    in rw (decimal_step n (omega arith) (omega arith), decimal_step (n / 10) (omega arith) (omega arith), append_assoc, tens, ten, ← one)
