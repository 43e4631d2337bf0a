-- What a run does, from a reader to a writer.
use Rattle.std.specs.Prelude.{◌≡◌, ◌⊎◌, ◌<◌, ◌^◌, ℕ, List, [], ◌++◌, length, Option, None, Some, ⊤}
use Rattle.std.specs.Io.KnownBytes.{Appends, Consumes, IsAtEnd}
use Rattle.sample_core.specs.Datum.{Datum}
use Rattle.sample_core.specs.TypeTree.{TypeTree}
use Rattle.leaf_core.specs.Expression.{Expression}
use Rattle.net_tree.specs.Network.{Network}
use Rattle.step_core.specs.RunnerState.{RunnerState, Pushes}
use Rattle.stream_text.specs.Failures.{Rose}
use Rattle.stream_text.specs.Hearing.{HoldsOfText}
use Rattle.stream_text.specs.Pieces.{ReadBy}
use Rattle.stream_text.specs.StreamText.{IsOfText, front, samples}
use Rattle.stream_text.specs.declared.fault.StreamFault.{StreamFault}
use Rattle.stream_text.specs.declared.fault.StreamFault.TheVariants as S
use Rattle.yampa_run.specs.Output.{line_feeds, line_of_value, most_visits_of, output_of, front_output_of}
use Rattle.yampa_run.specs.declared.fault.RunFault.{RunFault}
use Rattle.yampa_run.specs.declared.fault.RunFault.TheVariants as U
use Rattle.yampa_run.specs.declared.stream_run.WriteStop.{WriteStop}
use Rattle.yampa_run.specs.declared.stream_run.WriteStop.TheVariants as T

-- The bytes `read` were read of what the reader had, and the bytes `written` were given to the
-- writer.
pub record Moves (has has' holds holds' : Option (List ℕ)) (read written : List ℕ) : Type 0 where
  pub reads : Consumes has has' read
  pub writes : Appends holds holds' written

-- A run to the end of a text without a fault: it is read whole, and its output is written, a line
-- for each sample.
pub record RunsToEnd (A : TypeTree) (net : Network Expression)
    (has has' holds holds' : Option (List ℕ)) (lines most : ℕ) : Type 0 where
  pub read : List ℕ
  pub written : List ℕ
  pub moves : Moves has has' holds holds' read written
  pub whole : IsAtEnd has'
  pub bytes : written ≡ (output_of A net read).bytes
  pub faultless : (output_of A net read).fault ≡ None
  pub counted : lines ≡ length (samples A read).taken
  pub visited : most ≡ most_visits_of net (samples A read).taken

-- these bytes are what a run writes on a text up to its first fault, and so many are its lines
pub record IsOutput (A : TypeTree) (net : Network Expression) (written : List ℕ) (lines : ℕ)
    (fault : StreamFault) (text : List ℕ) : Type 0 where
  pub bytes : written ≡ (output_of A net text).bytes
  pub first : (output_of A net text).fault ≡ Some fault
  pub counted : lines ≡ length (samples A text).taken

-- A run that the text's first faulty line ends, where the text begins with the bytes that were
-- read: its output is written.
pub record StopsAtFault (A : TypeTree) (net : Network Expression)
    (has has' holds holds' : Option (List ℕ)) (lines : ℕ) (fault : StreamFault) : Type 0 where
  pub read : List ℕ
  pub written : List ℕ
  pub moves : Moves has has' holds holds' read written
  pub of_text : IsOfText fault
  pub output : HoldsOfText (IsAtEnd has') read (IsOutput A net written lines fault)

-- A run whose reader could not be read on: the bytes that were read show no fault, and the output
-- of these is written.
pub record StopsUnread (A : TypeTree) (net : Network Expression)
    (has has' holds holds' : Option (List ℕ)) (lines : ℕ) : Type 0 where
  pub read : List ℕ
  pub written : List ℕ
  pub moves : Moves has has' holds holds' read written
  pub bytes : written ≡ (front_output_of A net read).bytes
  pub faultless : (front_output_of A net read).fault ≡ None
  pub counted : lines ≡ length (front A read).taken

-- a run that stops unread after so many claimed reads, failed ones among them: these gave the bytes
-- that were read, and none met the end
abbrev pub StopsAfterTurns : TypeTree → Network Expression → Option (List ℕ) → Option (List ℕ)
    → Option (List ℕ) → Option (List ℕ) → ℕ → Type 0
StopsAfterTurns A net has has' holds holds' lines =
    (stop : StopsUnread A net has has' holds holds' lines) × ReadBy ⊥ stop.read (2 ^ 40)

-- the bytes begin what a run writes on a text
abbrev pub BeginsOutput : TypeTree → Network Expression → List ℕ → List ℕ → Type 0
BeginsOutput A net written text = (rest : List ℕ)
    × (written ++ rest ≡ (output_of A net text).bytes)

-- A run that ends within its output: what is written begins the output of the text, which begins
-- with the bytes that were read, and the lines are those that are whole.
pub record StopsWithin (A : TypeTree) (net : Network Expression)
    (has has' holds holds' : Option (List ℕ)) (lines : ℕ) : Type 0 where
  pub read : List ℕ
  pub written : List ℕ
  pub moves : Moves has has' holds holds' read written
  pub begins : HoldsOfText (IsAtEnd has') read (BeginsOutput A net written)
  pub counted : lines ≡ line_feeds written

-- what each fault of a run tells
abbrev pub StopsRun : TypeTree → Network Expression → Option (List ℕ) → Option (List ℕ)
    → Option (List ℕ) → Option (List ℕ) → RunFault → Type 0
StopsRun A net has has' holds holds' (U.Stream lines S.Read) =
    StopsUnread A net has has' holds holds' lines
StopsRun A net has has' holds holds' (U.Stream lines S.ReadTurns) =
    StopsAfterTurns A net has has' holds holds' lines
StopsRun A net has has' holds holds' (U.Stream lines fault) =
    StopsAtFault A net has has' holds holds' lines fault
StopsRun A net has has' holds holds' (U.Write lines) = StopsWithin A net has has' holds holds' lines
StopsRun A net has has' holds holds' (U.Memory lines) =
    StopsWithin A net has has' holds holds' lines

-- a read or a write is told to have failed only where the reader or the writer failed more often:
-- `reads` of the one and `writes` of the other are their counts before the run and after it
abbrev pub FailsByDevice : ℕ → ℕ → ℕ → ℕ → RunFault → Type 0
FailsByDevice reads reads' writes writes' (U.Stream lines S.Read) = Rose reads reads'
FailsByDevice reads reads' writes writes' (U.Write lines) = Rose writes writes'
FailsByDevice reads reads' writes writes' _ = ⊤

-- The network takes the sample x in and answers y, and y's line is written.
pub record Answers (r : RunnerState) (x : ℕ × Datum) (holds : Option (List ℕ)) (r' : RunnerState)
    (holds' : Option (List ℕ)) : Type 0 where
  pub y : Datum
  pub pushes : Pushes r x y r'
  pub writes : Appends holds holds' (line_of_value y)

-- a part of the line of what the network answers to the sample, but not all
pub record IsPartOfLine (r : RunnerState) (x : ℕ × Datum) (r' : RunnerState) (part : List ℕ) : Type
    0 where
  pub y : Datum
  pub pushes : Pushes r x y r'
  pub rest : List ℕ
  pub parts : part ++ rest ≡ line_of_value y
  pub more : 0 < length rest

-- of the bytes a part as a prefix is given to the writer, but not all
pub record BreaksOff (holds holds' : Option (List ℕ)) (bytes : List ℕ) : Type 0 where
  pub part : List ℕ
  pub rest : List ℕ
  pub parts : part ++ rest ≡ bytes
  pub more : 0 < length rest
  pub writes : Appends holds holds' part

-- The line of what the network answers to the sample is not written whole.
pub record Breaks (r : RunnerState) (x : ℕ × Datum) (holds : Option (List ℕ)) (r' : RunnerState)
    (holds' : Option (List ℕ)) : Type 0 where
  pub part : List ℕ
  pub writes : Appends holds holds' part
  pub of_line : (part ≡ []) ⊎ IsPartOfLine r x r' part

-- what stops a run at a line
abbrev pub run_fault_of : ℕ → WriteStop → RunFault
run_fault_of lines T.Write = U.Write lines
run_fault_of lines T.Memory = U.Memory lines

-- `Memory` ends a run as such, another fault of the stream as the stream's
abbrev pub stream_fault_of : ℕ → StreamFault → RunFault
stream_fault_of lines S.Memory = U.Memory lines
stream_fault_of lines fault = U.Stream lines fault
