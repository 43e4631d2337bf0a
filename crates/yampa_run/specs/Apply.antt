-- What the command `apply` prints, and why it refuses.
use Rattle.std.specs.Prelude.{◌≡◌, ◌≤◌, ℕ, Bool, true, false, List, length, map, Option, Some, None, option_map, Err, string_bytes}
use Rattle.net_meaning.specs.TypedNetwork.{TypedNetwork}
use Rattle.net_tree.specs.LawStep.{Step}
use Rattle.cert_check.specs.StepAnswers.{ApplyAnswer}
use Rattle.cert_check.specs.declared.answer.CheckFault.{CheckFault}
use Rattle.cert_check.specs.declared.derivation.TheConstants.{MOST_STEPS}
use Rattle.command_line.specs.CommandLine.{LeadingNames}
use Rattle.net_view.specs.Applied.{PrintsApplied}
use Rattle.net_view.specs.Trace.{Stopped, TraceAnswer, changed_of, first_steps, stopped_of}
use Rattle.net_view.specs.TraceText.{TellsTrace, trace_lines}
use Rattle.net_view.specs.declared.trace.RefusedStep.{RefusedStep}
use Rattle.net_view.specs.declared.trace.Trace.{Trace}
use Rattle.yampa_run.specs.RefusalLines.{check_words, no_number_words}
use Rattle.yampa_run.specs.Words.{TellsFirst, number_in}
use Rattle.yampa_run.specs.declared.refused.Role.TheVariants as R
use Rattle.yampa_run.specs.declared.preparation.Job.{Job}
use Rattle.yampa_run.specs.declared.preparation.Job.TheVariants as J
use Rattle.yampa_run.specs.declared.preparation.Refusal.{Refusal}
use Rattle.yampa_run.specs.KnownFiles.{KnownFiles}
use Rattle.yampa_run.specs.Loading.{HasNoNetwork, IsNetworkOf, RefusesWith}
use Rattle.yampa_run.specs.Check.{AreStepsOf, HasNoSteps, RefusesCheck}

-- the text tells what the steps do, at most 10,000, up to the one that is refused, if one is
abbrev pub ShowsSteps : TypedNetwork → List Step → Option Stopped → List ℕ → Type 0
ShowsSteps source steps stop text = (length steps ≤ MOST_STEPS) × TellsTrace source steps stop text

-- the text tells what the steps do up to one that is refused, and the line is check's on that
pub record ShowsStop (source : TypedNetwork) (steps : List Step) (text line : List ℕ) : Type 0
  where
    pub stop : Stopped
    pub shows : ShowsSteps source steps (Some stop) text
    pub told : line ≡ check_words stop.fault

-- the job is to print the network that the steps lead to; or, where they are shown, what they do
abbrev pub IsApplied : TypedNetwork → List Step → Bool → Job → Type 0
IsApplied source steps false (J.Print text) = PrintsApplied source steps (string_bytes text)
IsApplied source steps true (J.Print text) = ShowsSteps source steps None (string_bytes text)
IsApplied source steps true (J.PrintAndRefuse text line) =
    ShowsStop source steps (string_bytes text) (string_bytes line)
IsApplied _ _ _ _ = ⊥

-- the job is to print what came of steps, as their trace tells it, and check's line on the one that
-- was refused, if one was
abbrev pub IsShown : List Step → Trace → Job → Type 0
IsShown steps trace (J.Print text) = (option_map stopped_of trace.stop ≡ None)
    × (string_bytes text ≡ trace_lines steps (map changed_of trace.changes.items) None)
IsShown steps trace (J.PrintAndRefuse text line) =
    (stop : RefusedStep) × (trace.stop ≡ Some stop)
    × (string_bytes text
    ≡ trace_lines steps (map changed_of trace.changes.items) (Some (stopped_of stop)))
    × (string_bytes line ≡ check_words stop.fault)
IsShown steps trace (J.Run t) = ⊥

-- the fault for which nothing is printed: the first of the steps; where they are shown, that they
-- are too many
abbrev pub IsUnapplied : TypedNetwork → List Step → Bool → CheckFault → Type 0
IsUnapplied source steps false f = ApplyAnswer source steps (Err f)
IsUnapplied source steps true f = TraceAnswer source steps (Err f)

-- the steps are refused so
pub record RefusesSteps (source : TypedNetwork) (steps : List Step) (shows : Bool)
    (refusal : Refusal) : Type 0 where
  pub fault : CheckFault
  pub unapplied : IsUnapplied source steps shows fault
  pub refuses : RefusesCheck fault refusal

-- a source and the steps of a certificate that are to be taken from it, where their bytes are told
pub record IsLeading (told : KnownFiles) (names : LeadingNames) (source : TypedNetwork)
    (steps : List Step) : Type 0 where
  pub is_source : IsNetworkOf (told names.source) source
  pub all : List Step
  pub are_steps : AreStepsOf (told names.certificate) all
  pub first : Option ℕ
  pub is_first : TellsFirst names.first first
  pub leading : steps ≡ first_steps first all

-- the job is what is wanted of the steps that are to be taken
pub record TellsApplied (told : KnownFiles) (names : LeadingNames) (job : Job) : Type 0 where
  pub source : TypedNetwork
  pub steps : List Step
  pub leading : IsLeading told names source steps
  pub applied : IsApplied source steps names.shows job

-- the word is no number of steps, and that is told with status 2
abbrev pub IsNoNumber : Option (List ℕ) → Refusal → Type 0
IsNoNumber (Some word) refusal = (number_in word ≡ None) × RefusesWith 2 no_number_words refusal
IsNoNumber None refusal = ⊥

-- why nothing is printed of steps: the word is no number; or it is one, and the first of the two
-- files, in this order, is no network or has no steps; or the steps are refused
pub data IsNotApplied (told : KnownFiles) (names : LeadingNames) (refusal : Refusal) : Type 0 where
  no_number : IsNoNumber names.first refusal → IsNotApplied told names refusal
  without_source : (first : Option ℕ) → TellsFirst names.first first
      → HasNoNetwork R.Source (told names.source) refusal → IsNotApplied told names refusal
  without_steps : (first : Option ℕ) → TellsFirst names.first first → (source : TypedNetwork)
      → IsNetworkOf (told names.source) source → HasNoSteps (told names.certificate) refusal
      → IsNotApplied told names refusal
  not_applied : (source : TypedNetwork) (steps : List Step) → IsLeading told names source steps
      → RefusesSteps source steps names.shows refusal → IsNotApplied told names refusal
