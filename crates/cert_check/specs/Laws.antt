-- What is to hold of certificates.
use Rattle.std.specs.Prelude.{◌≡◌, List, [], Some, Result, Ok, Err}
use Rattle.net_meaning.specs.SignalFunction.{TimedList}
use Rattle.net_meaning.specs.Typing.{TypedSamples}
use Rattle.net_meaning.specs.TypedNetwork.{TypedNetwork, HasItsTypes, stream_of}
use Rattle.net_meaning.specs.NetworkLimits.{WithinLimits}
use Rattle.net_meaning.specs.AlikeEnvironments.{SameOutputs}
use Rattle.net_tree.specs.LawStep.{Step}
use Rattle.cert_check.specs.declared.answer.Accepted.{Accepted}
use Rattle.cert_check.specs.declared.answer.CheckFault.{CheckFault}
use Rattle.cert_check.specs.declared.answer.CheckFault.TheVariants.{Memory}
use Rattle.cert_check.specs.declared.derivation.TheConstants.{MOST_STEPS}
use Rattle.cert_check.specs.Derives.{Next, Derives, standing_tree}
use Rattle.cert_check.specs.CheckAnswer.{CheckAnswer}
use Rattle.cert_check.specs.StepAnswers.{ApplyAnswer}

-- how many steps a certificate may have
abbrev pub MostStepsIs : Type 0
MostStepsIs = MOST_STEPS ≡ 10000

-- a network that is derived from another outputs the same in alike environments
abbrev pub DerivedSameLaw : Type 0
DerivedSameLaw = (source target : TypedNetwork) (steps : List Step)
    → HasItsTypes source → Derives source target steps
    → SameOutputs [] [] source.input source.net target.net

-- so it outputs the same on every stream of typed samples
abbrev pub SameStreamLaw : Type 0
SameStreamLaw = (source target : TypedNetwork) (steps : List Step) (xs : TimedList)
    → HasItsTypes source → Derives source target steps → TypedSamples source.input xs
    → stream_of source.net xs ≡ stream_of target.net xs

-- and where both have their types, these are the same
abbrev pub KeptTypesLaw : Type 0
KeptTypesLaw = (source target : TypedNetwork) (steps : List Step)
    → HasItsTypes source → HasItsTypes target → Derives source target steps
    → (source.input ≡ target.input) × (source.output ≡ target.output)

-- what at most 10,000 steps lead to, as `apply_steps` answers it, is derived by them, and within the
-- limits where the source is
abbrev pub AppliedLaw : Type 0
AppliedLaw = (source last : TypedNetwork) (steps : List Step) → ApplyAnswer source steps (Ok last)
    → WithinLimits source → Derives source last steps × WithinLimits last

-- where a step led, its law's answer stands at the step's position
abbrev pub AnswerStandsLaw : Type 0
AnswerStandsLaw = (t u : TypedNetwork) (s : Step) (x : Next t s u)
    → standing_tree u s.position ≡ Some x.new

-- a step leads from a network to at most one other
abbrev pub OneNextLaw : Type 0
OneNextLaw = (t u v : TypedNetwork) (s : Step) → Next t s u → Next t s v → u ≡ v

-- two answers are one, but for lack of memory
abbrev pub OneCheckAnswerLaw : Type 0
OneCheckAnswerLaw = (source target : TypedNetwork) (steps : List Step) (a b : Result Accepted CheckFault)
    → CheckAnswer source target steps a → CheckAnswer source target steps b
    → (a ≡ Err Memory → ⊥) → (b ≡ Err Memory → ⊥) → a ≡ b
