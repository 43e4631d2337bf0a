-- What a step answers, something or a fault, and when a call gives that answer.
use Rattle.std.specs.Prelude.{◌≡◌, ◌≢◌, Result, Ok, Err, MatchResult}

-- the next step where the one before answers something, and else its fault
infixl 20 ◌>>=◌
abbrev pub ◌>>=◌ : {F A B : Type 0} → Result A F → (A → Result B F) → Result B F
(Ok x) >>= f = f x
(Err e) >>= f = Err e

-- what a call returned, seen by view, is the answer; only the fault memory, a refused allocation,
-- says nothing of it
abbrev pub GivesUnless : {F X Y : Type 0} → F → (X → Y) → Result X F → Result Y F → Type 0
GivesUnless memory view result answer =
    MatchResult result (λ x. answer ≡ Ok (view x)) (λ f. f ≢ memory → answer ≡ Err f)
