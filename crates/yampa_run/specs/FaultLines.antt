-- What the program prints of a run that ended early, and its exit status.
use Rattle.std.specs.Prelude.{ℕ, List, ◌++◌, codes, ⊤}
use Rattle.std.specs.Fmt.{decimal}
use Rattle.sample_core.specs.declared.fault.ValueFault.{ValueFault}
use Rattle.sample_core.specs.declared.fault.ValueFault.TheVariants as V
use Rattle.stream_text.specs.declared.fault.StreamFault.{StreamFault}
use Rattle.stream_text.specs.declared.fault.StreamFault.TheVariants as S
use Rattle.yampa_run.specs.declared.fault.RunFault.{RunFault}
use Rattle.yampa_run.specs.declared.fault.RunFault.TheVariants as U

-- a run meets every fault of a stream but the one of a stream that is used past its fault
abbrev pub IsMet : StreamFault → Type 0
IsMet S.Ended = ⊥
IsMet _ = ⊤

-- a fault that a run answers
abbrev pub EndsRun : RunFault → Type 0
EndsRun (U.Stream lines fault) = IsMet fault
EndsRun _ = ⊤

-- what is printed of line n of the stream: its number, and what is wrong in it
abbrev pub at_line : ℕ → List ℕ → List ℕ
at_line n what = codes "stream: line " ++ (decimal n ++ (codes ": " ++ what))

-- what is printed of a faulty value in line n
abbrev pub value_words : ℕ → ValueFault → List ℕ
value_words n (V.NotAValue at) = at_line n (codes "no value at " ++ decimal at)
value_words n (V.OtherType at) = at_line n (codes "other type at " ++ decimal at)
value_words n (V.NumberRange at) = at_line n (codes "number range at " ++ decimal at)
value_words n V.Memory = codes "memory"

-- what is printed of a fault of the stream
abbrev pub stream_words : StreamFault → List ℕ
stream_words (S.Step n) = at_line n (codes "step")
stream_words (S.Value n fault) = value_words n fault
stream_words (S.NothingBefore n) = at_line n (codes "nothing before")
stream_words (S.LineTooLong n) = at_line n (codes "too long")
stream_words (S.TooManySamples n) = at_line n (codes "too many samples")
stream_words S.ReadTurns = codes "stream: too many reads"
stream_words S.Read = codes "stream: cannot be read"
stream_words S.Memory = codes "memory"
stream_words S.Ended = codes "stream: ended"

-- The line on standard error, without its line feed.
abbrev pub line_of : RunFault → List ℕ
line_of (U.Stream lines fault) = stream_words fault
line_of (U.Write lines) = codes "output: cannot be written"
line_of (U.Memory lines) = codes "memory"

-- the exit status at a faulty value: 1 for its text, 3 because memory ran out
abbrev pub value_status : ValueFault → ℕ
value_status V.Memory = 3
value_status _ = 1

-- the exit status at a fault of the stream
abbrev pub stream_status : StreamFault → ℕ
stream_status S.ReadTurns = 3
stream_status S.Read = 3
stream_status S.Memory = 3
stream_status (S.Value n fault) = value_status fault
stream_status _ = 1

-- The exit status: 1 for what is wrong with the stream's text, 3 for reading, writing and memory.
abbrev pub status_of : RunFault → ℕ
status_of (U.Stream lines fault) = stream_status fault
status_of (U.Write lines) = 3
status_of (U.Memory lines) = 3
