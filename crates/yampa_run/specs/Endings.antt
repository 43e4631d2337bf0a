-- What the program ends with, by what was to be done and whether the host took all output.
use Rattle.std.specs.Prelude.{◌≡◌, ℕ, Bool, true, false, Result, Ok, Err}
use Rattle.yampa_run.specs.NetworkRun.{RefusesRun}
use Rattle.yampa_run.specs.RefusalLines.{refusal_status}
use Rattle.yampa_run.specs.declared.ending.Ending.{Ending}
use Rattle.yampa_run.specs.declared.ending.Ending.TheVariants.{Done, Refused}
use Rattle.yampa_run.specs.declared.fault.RunFault.TheVariants as F
use Rattle.yampa_run.specs.declared.fault.RunReport.{RunReport}
use Rattle.yampa_run.specs.declared.preparation.Job.{Job}
use Rattle.yampa_run.specs.declared.preparation.Job.TheVariants as J
use Rattle.yampa_run.specs.declared.preparation.Refusal.{Refusal}
use Rattle.yampa_run.specs.declared.preparation.Refusal.TheVariants as R

-- the exit status
abbrev pub ending_status : Ending → ℕ
ending_status Done = 0
ending_status (Refused refusal) = refusal_status refusal

-- that the host refused output is told, or that memory was short
abbrev pub RefusesOutput : Ending → Type 0
RefusesOutput Done = ⊥
RefusesOutput (Refused refusal) = RefusesRun (F.Write 0) refusal

-- what a job ends with whose text was printed: its own line with status 1, or nothing is told
abbrev pub EndsJob : Job → Bool → Ending → Type 0
EndsJob job false ending = RefusesOutput ending
EndsJob (J.PrintAndRefuse text line) true ending = ending ≡ Refused (R.Line 1 line)
EndsJob job true ending = ending ≡ Done

-- what a run ends with: its refusal, or nothing is told
abbrev pub EndsRun : Result RunReport Refusal → Bool → Ending → Type 0
EndsRun answer false ending = RefusesOutput ending
EndsRun (Ok report) true ending = ending ≡ Done
EndsRun (Err refusal) true ending = ending ≡ Refused refusal
