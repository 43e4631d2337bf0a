-- A run of a typed network over a table of stored closures: what it does, and what is told of it.
use Rattle.std.specs.Prelude.{◌≡◌, ◌⊎◌, ℕ, List, [], Option, Result, Ok, Err, codes}
use Rattle.leaf_core.specs.KeyTree.{KeyTree}
use Rattle.net_meaning.specs.TypedNetwork.{TypedNetwork}
use Rattle.step_core.specs.Lookup.{FindsAll, MissesIn}
use Rattle.step_core.specs.declared.fault.BindFault.{BindFault}
use Rattle.step_core.specs.declared.fault.BindFault.TheVariants as B
use Rattle.stream_text.specs.Failures.{Rose}
use Rattle.yampa_run.specs.FaultLines.{line_of, status_of}
use Rattle.yampa_run.specs.Headline.{RunsSo}
use Rattle.yampa_run.specs.Loading.{RefusesWith}
use Rattle.yampa_run.specs.RefusalLines.{refusal_line, refusal_status}
use Rattle.yampa_run.specs.Runs.{Moves, StopsWithin}
use Rattle.yampa_run.specs.declared.fault.RunFault.{RunFault}
use Rattle.yampa_run.specs.declared.fault.RunReport.{RunReport}
use Rattle.yampa_run.specs.declared.preparation.Refusal.{Refusal}
use Rattle.yampa_run.specs.declared.preparation.Refusal.TheVariants as Refused

-- an expression of the network has no row in a table with these keys
abbrev pub LacksRow : List KeyTree → TypedNetwork → Type 0
LacksRow keys t = (at : List ℕ) × MissesIn keys t (B.MissingLeaf at)

-- A run that a fault stopped, over a table with a row for each expression: the status and the line
-- are that fault's.
pub record StopsTold (keys : List KeyTree) (t : TypedNetwork)
    (has has' holds holds' : Option (List ℕ)) (refusal : Refusal) : Type 0 where
  pub found : FindsAll keys t
  pub fault : RunFault
  pub stops : RunsSo t has has' holds holds' (Err fault)
  pub status_is : refusal_status refusal ≡ status_of fault
  pub line_is : refusal_line refusal ≡ line_of fault

-- No run, since the table lacks a row: nothing is read or written, and that is told.
pub record StopsUnbound (keys : List KeyTree) (t : TypedNetwork)
    (has has' holds holds' : Option (List ℕ)) (refusal : Refusal) : Type 0 where
  pub lacks : LacksRow keys t
  pub still : Moves has has' holds holds' [] []
  pub status_is : refusal_status refusal ≡ 3
  pub line_is : refusal_line refusal ≡ codes "no row"

-- What is answered of a run of a typed network over a table with these keys: the report of a run to
-- the stream's end; the status and the line of what stopped it; or that memory was short, where
-- what is written begins the output.
abbrev pub RunsOver : List KeyTree → TypedNetwork → Option (List ℕ) → Option (List ℕ)
    → Option (List ℕ) → Option (List ℕ) → Result RunReport Refusal → Type 0
RunsOver keys t has has' holds holds' (Ok report) = FindsAll keys t
    × RunsSo t has has' holds holds' (Ok report)
RunsOver keys t has has' holds holds' (Err (Refused.Line status line)) =
    StopsTold keys t has has' holds holds' (Refused.Line status line)
    ⊎ StopsUnbound keys t has has' holds holds' (Refused.Line status line)
RunsOver keys t has has' holds holds' (Err Refused.Memory) = (lines : ℕ)
    × StopsWithin t.input t.net has has' holds holds' lines

-- A read or a write is told to have failed only where the reader or the writer failed more often:
-- `reads` of the one and `writes` of the other are their counts before the run and after it.
pub record FailsAsTold (reads reads' writes writes' : ℕ) (refusal : Refusal) : Type 0 where
  pub unread : refusal_line refusal ≡ codes "stream: cannot be read" → Rose reads reads'
  pub unwritten : refusal_line refusal ≡ codes "output: cannot be written" → Rose writes writes'

-- a refusal for that fault of a run: its status and line, or memory was short
abbrev pub RefusesRun : RunFault → Refusal → Type 0
RefusesRun fault refusal = RefusesWith (status_of fault) (line_of fault) refusal

-- a refusal for that fault of binding: `no row` with status 3, or memory was short
abbrev pub RefusesBinding : BindFault → Refusal → Type 0
RefusesBinding (B.MissingLeaf at) refusal = RefusesWith 3 (codes "no row") refusal
RefusesBinding B.Memory refusal = refusal ≡ Refused.Memory
