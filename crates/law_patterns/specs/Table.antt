-- Laws by number, as a table of code has them: a line is what the law is, and its two sides.
use Rattle.std.specs.Prelude.{ℕ, List, [], get_or, map}

-- what the law of a number is; outside of the table what is no law
abbrev pub rule_in : {R S : Type 0} → List (R × record { now : List S } × record { now : List S }) → R → ℕ → R
rule_in laws nothing n = get_or (map (λ law. law.0) laws) n nothing

-- its left side
abbrev pub left_in : {R S : Type 0} → List (R × record { now : List S } × record { now : List S }) → ℕ → List S
left_in laws n = get_or (map (λ law. law.1.now) laws) n []

-- its right side
abbrev pub right_in : {R S : Type 0} → List (R × record { now : List S } × record { now : List S }) → ℕ → List S
right_in laws n = get_or (map (λ law. law.2.now) laws) n []
