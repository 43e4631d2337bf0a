-- The step at the front of a line.
use Rattle.std.specs.Prelude.{ℕ, ◌^◌, Bool, true, false, ◌&&◌, not, nat_eq, nat_lt, List, [], ◌∷◌, drop, Option, Some, None, if◌then◌else◌}
use Rattle.std.specs.Char.{is_ascii_digit}
use Rattle.std.specs.List.{prefix_len, take_while}
use Rattle.std.specs.Str.Parse.{digits_value}

-- what stands behind the byte b, where it stands first
abbrev pub stripped : ℕ → List ℕ → Option (List ℕ)
stripped b [] = None
stripped b (c ∷ cs) = if nat_eq c b then Some cs else None

-- whether digits write a step: the first is not 0, and the number is below 2^63
abbrev pub is_step : List ℕ → Bool
is_step [] = false
is_step (d ∷ ds) = not (nat_eq d 48) && nat_lt (digits_value 10 (d ∷ ds)) (2 ^ 63)

-- a step and what follows it, where it is one and something may follow
abbrev pub step_then : Bool → ℕ → Option (List ℕ) → Option (ℕ × List ℕ)
step_then true d (Some rest) = Some (d, rest)
step_then _ d _ = None

-- the digits at the front as a step, and what stands behind them and a space
abbrev pub step_at_front : List ℕ → Option (ℕ × List ℕ)
step_at_front bs =
    step_then (is_step (take_while is_ascii_digit bs))
    (digits_value 10 (take_while is_ascii_digit bs))
    (stripped 32 (drop (prefix_len is_ascii_digit bs) bs))

-- the step at the front, and what stands behind it and a space, where there are bytes
abbrev pub step_if : Option (List ℕ) → Option (ℕ × List ℕ)
step_if None = None
step_if (Some bs) = step_at_front bs

-- The step of a line that begins with `+`, a step and a space, and what stands behind these.
abbrev pub step_in : List ℕ → Option (ℕ × List ℕ)
step_in line = step_if (stripped 43 line)
