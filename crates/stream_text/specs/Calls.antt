-- What the calls of a reader of lines keep to, beside what they answer.
use Rattle.std.specs.Prelude.{◌≡◌, ℕ, IfErr, Option, Some, None, Result, Ok, Err}
use Rattle.sample_core.specs.TypeTree.{TypeTree}
use Rattle.sample_core.specs.declared.sample.Sample.{Sample}
use Rattle.stream_text.specs.Answers.{ReaderState, TakesNext}
use Rattle.stream_text.specs.Failures.{Rose}
use Rattle.stream_text.specs.StreamText.{IsBefore}
use Rattle.stream_text.specs.declared.fault.StreamFault.{StreamFault}
use Rattle.stream_text.specs.declared.fault.StreamFault.TheVariants as S

-- the value that was answered last, if there is one, is of the type
abbrev pub LastFits : TypeTree → ReaderState → Type 0
LastFits A s = IsBefore A s.lines s.before

-- a failed read is answered only where the reader failed more often than so many times
abbrev pub FailsBySource : {T : Type 0} → ℕ → Result T StreamFault → ℕ → Type 0
FailsBySource failures result count = IfErr result (λ fault. fault ≡ S.Read → Rose failures count)

-- the next line, where it is kept whole, is answered by its step; or all is as it was
abbrev pub MayTakeNext : TypeTree → ReaderState → Option ℕ → ReaderState → Type 0
MayTakeNext A s (Some d) s' = TakesNext A s d s'
MayTakeNext A s None s' = s' ≡ s

-- the answer with the sample's step alone
abbrev pub step_alone : Result (Option (ℕ × Sample)) StreamFault → Result (Option ℕ) StreamFault
step_alone (Ok (Some x)) = Ok (Some x.0)
step_alone (Ok None) = Ok None
step_alone (Err fault) = Err fault
