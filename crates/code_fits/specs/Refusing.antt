-- What is told of why there is no program, part by part.
use Rattle.std.specs.Prelude.{ℕ, List}
use Rattle.code_fits.specs.declared.layout.Layout.{Layout}
use Rattle.code_fits.specs.declared.program.Refused.{Refused}
use Rattle.code_fits.specs.declared.program.Refused.TheVariants as R
use Rattle.code_fits.specs.Programs.{IsTooLarge, StandsAt}

-- it isn't that the state is too large
abbrev pub IsNoState : Refused → Type 0
IsNoState (R.State P) = ⊥
IsNoState refused = Unit {0}

-- if the state is too large, function k stands at that position
abbrev pub RefusesAt : List Layout → ℕ → Refused → Type 0
RefusesAt Ls k (R.State P) = StandsAt Ls k P
RefusesAt Ls k refused = Unit {0}

-- if the state is too large, the first function that keeps too much does
abbrev pub RefusesSizes : List ℕ → List Layout → Refused → Type 0
RefusesSizes ns Ls (R.State P) = IsTooLarge ns Ls P
RefusesSizes ns Ls refused = Unit {0}
