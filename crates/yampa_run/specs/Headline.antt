-- What holds of a network and one that is derived from it: whatever is read, runs of both write the
-- same.
use Rattle.std.specs.Prelude.{◌≡◌, ◌⊎◌, ℕ, List, length, Option, Some, None, Result, Ok, Err, ⊤}
use Rattle.std.specs.Io.KnownBytes.{Appends}
use Rattle.net_tree.specs.LawStep.{Step}
use Rattle.net_meaning.specs.TypedNetwork.{TypedNetwork, HasItsTypes}
use Rattle.cert_check.specs.Derives.{Derives}
use Rattle.stream_text.specs.StreamText.{samples}
use Rattle.stream_text.specs.declared.fault.StreamFault.{StreamFault}
use Rattle.stream_text.specs.declared.fault.StreamFault.TheVariants as S
use Rattle.yampa_run.specs.Output.{Output, output_of, front_output_of}
use Rattle.yampa_run.specs.Runs.{RunsToEnd, StopsRun}
use Rattle.yampa_run.specs.declared.fault.RunReport.{RunReport}
use Rattle.yampa_run.specs.declared.fault.RunFault.{RunFault}
use Rattle.yampa_run.specs.declared.fault.RunFault.TheVariants as U

-- what a run of a typed network writes on a text, and the text's first fault
abbrev pub text_output : TypedNetwork → List ℕ → Output
text_output t text = output_of t.input t.net text

-- the same of bytes that aren't known to be all
abbrev pub front_output_in : TypedNetwork → List ℕ → Output
front_output_in t bs = front_output_of t.input t.net bs

-- where steps derive a network from another, the output of both is the same on every text
abbrev pub SameOutputLaw : Type 0
SameOutputLaw = (source target : TypedNetwork) (steps : List Step) (text : List ℕ)
    → HasItsTypes source → Derives source target steps
    → text_output source text ≡ text_output target text

-- and so it is on bytes that aren't known to be all
abbrev pub SameFrontLaw : Type 0
SameFrontLaw = (source target : TypedNetwork) (steps : List Step) (bs : List ℕ)
    → HasItsTypes source → Derives source target steps
    → front_output_in source bs ≡ front_output_in target bs

-- what is promised of a run of a typed network: the reader had and has, and the writer held and
-- holds these bytes, as far as they are told, and this is the run's result
abbrev pub RunsSo : TypedNetwork → Option (List ℕ) → Option (List ℕ) → Option (List ℕ)
    → Option (List ℕ) → Result RunReport RunFault → Type 0
RunsSo t has has' holds holds' (Ok report) =
    RunsToEnd t.input t.net has has' holds holds' report.lines report.most_visits
RunsSo t has has' holds holds' (Err fault) = StopsRun t.input t.net has has' holds holds' fault

-- no allocation, read or write was refused, nor a read for the number of reads
abbrev pub Unhindered : Result RunReport RunFault → Type 0
Unhindered (Ok report) = ⊤
Unhindered (Err (U.Stream lines S.Read)) = ⊥
Unhindered (Err (U.Stream lines S.ReadTurns)) = ⊥
Unhindered (Err (U.Stream lines fault)) = ⊤
Unhindered (Err (U.Write lines)) = ⊥
Unhindered (Err (U.Memory lines)) = ⊥

-- a run that tells a text's first fault, or that there is none, and so many lines
pub data TellsFault (lines : ℕ) : Option StreamFault → Result RunReport RunFault → Type 0 where
  tells_none : {report : RunReport} → report.lines ≡ lines → TellsFault lines None (Ok report)
  tells_first : {fault : StreamFault} → TellsFault lines (Some fault) (Err (U.Stream lines fault))

-- a run that writes exactly the output of a typed network on a text, a line for each sample, and
-- returns the text's first fault
pub record WritesOutput (t : TypedNetwork) (text : List ℕ) (holds holds' : Option (List ℕ))
    (result : Result RunReport RunFault) : Type 0 where
  pub bytes : Appends holds holds' (text_output t text).bytes
  pub told : TellsFault (length (samples t.input text).taken) (text_output t text).fault result

-- a run of a typed network on a text, in whatever pieces it is read, writes exactly its output
abbrev pub WritesOutputLaw : Type 0
WritesOutputLaw = (t : TypedNetwork) (text : List ℕ) (has' holds holds' : Option (List ℕ))
    (result : Result RunReport RunFault)
    → RunsSo t (Some text) has' holds holds' result → Unhindered result
    → WritesOutput t text holds holds' result

-- where steps derive a network from another, a run of either on a text, in whatever pieces it is
-- read, writes exactly the source's output
abbrev pub HeadlineLaw : Type 0
HeadlineLaw = (source target t : TypedNetwork) (steps : List Step) (text : List ℕ)
    (has' holds holds' : Option (List ℕ)) (result : Result RunReport RunFault)
    → HasItsTypes source → Derives source target steps → (t ≡ source) ⊎ (t ≡ target)
    → RunsSo t (Some text) has' holds holds' result → Unhindered result
    → WritesOutput source text holds holds' result
