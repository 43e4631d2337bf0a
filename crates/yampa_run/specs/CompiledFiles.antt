-- What the commands `compile` and `compile-checked` print of files: C that by the rules of C99 outputs
-- the stream meaning of the file's network, or of the source. What a C compiler makes of the text isn't
-- said.
use Rattle.std.specs.Prelude.{◌≡◌, ◌⊎◌, ℕ, Bool, true, false, List, [], ◌∷◌, Some, string_bytes, ⊤}
use Rattle.sample_core.specs.Datum.{Datum}
use Rattle.sample_core.specs.TypeTree.{TypeTree}
use Rattle.leaf_code.specs.Fitting.{Bounds}
use Rattle.net_meaning.specs.SignalFunction.{TimedList}
use Rattle.net_meaning.specs.TypedNetwork.{TypedNetwork, stream_of}
use Rattle.code_fits.specs.FitLaw.{SamplesFit}
use Rattle.code_fits.specs.Room.{all_at}
use Rattle.code_fits.specs.declared.layout.Program.{Program}
use Rattle.c_meaning.specs.Object.{CType, Object, end, has_type}
use Rattle.c_meaning.specs.Meaning.{Linked}
use Rattle.c_file.specs.FileLaw.{bounds, c_function}
use Rattle.c_file.specs.Guarded.{Offers}
use Rattle.c_file.specs.Samples.{Answers, Handed, Hands, Outputs}
use Rattle.c_text.specs.Meant.{file_meant, structs_meant, type_meant}
use Rattle.c_build.specs.declared.file.Built.{Built}
use Rattle.command_line.specs.CommandLine.{AsksHelp, PrintingWords, RequestTree, compile, compile_checked, request_in}
use Rattle.yampa_run.specs.Check.{DerivationIn}
use Rattle.yampa_run.specs.Compile.{PrintsC}
use Rattle.yampa_run.specs.KnownFiles.{KnownFiles}
use Rattle.yampa_run.specs.Loading.{IsNetworkIn}
use Rattle.yampa_run.specs.Preparation.{IsRequested}
use Rattle.yampa_run.specs.declared.preparation.Job.{Job}
use Rattle.yampa_run.specs.declared.preparation.Job.TheVariants as J

-- what a program may hand to `step` for samples: the samples that an unchecked one can take; whatever
-- calls, where it tests what it is given
abbrev pub AreCalls : Bool → Bounds → TypeTree → TypeTree → TimedList → List Handed → Type 0
AreCalls true n A B xs hs = Hands n A B false xs hs
AreCalls false n A B xs hs = Offers n A B false xs hs

-- from a state on, an unchecked `step` leaves what represents these values as its outputs; the other one
-- does too at each call that it takes, and else answers that it doesn't, and changes nothing
abbrev pub Steps : Bool → Bounds → TypeTree → Linked → Object → List Handed → List Datum → Type 0
Steps true n B f s hs vs = Outputs n B f s hs vs
Steps false n B f s hs vs = Answers n B f s hs vs

-- samples can be handed over
pub record HasCalls (unchecked : Bool) (n : Bounds) (A B : TypeTree) (xs : TimedList) : Type 0 where
  pub all : List Handed
  pub are_calls : AreCalls unchecked n A B xs all

-- the C type of the state
abbrev pub state_in : Built → CType
state_in b = type_meant (structs_meant b.file.structs.items) b.state

-- `P_init` and `P_step` of the printed C (`name_at` of code_text), by the rules of C99: from any state
-- on, the one has a result, and from what it leaves the other has one at each call, and outputs these
-- values
pub record RunsC (unchecked : Bool) (n : Bounds) (B : TypeTree) (b : Built) (s : Object)
    (hs : List Handed) (vs : List Datum) : Type 0 where
  pub state : Object
  pub starts : c_function (file_meant b.file) b.init (s ∷ []) ≡ Some (state ∷ [], end)
  pub steps : Steps unchecked n B (c_function (file_meant b.file) b.step) state hs vs

-- the printed C of a program outputs a network's stream meaning on whatever samples are handed to it; and
-- all samples of its input type can be, whose lists have at most so many elements
pub record OutputsStream (t : TypedNetwork) (most : ℕ) (unchecked : Bool) (p : Program) (b : Built)
    : Type 0 where
  pub outputs : (s : Object) → has_type (state_in b) s ≡ true → (xs : TimedList) (hs : List Handed)
      → AreCalls unchecked (bounds p) t.input t.output xs hs
      → RunsC unchecked (bounds p) t.output b s hs (stream_of t.net xs)
  pub calls : (xs : TimedList) → SamplesFit (all_at most) t.input false xs
      → HasCalls unchecked (bounds p) t.input t.output xs

-- the C that a text is outputs that
abbrev pub PrintedOutputs : (t net : TypedNetwork) (words : PrintingWords) (text : List ℕ)
    → PrintsC net words text → Type 0
PrintedOutputs t net words text c =
    OutputsStream t c.most words.unchecked c.prints.program c.prints.is_c.built

-- the bytes are those of a network file, and the text is its network's C, which outputs its stream
-- meaning
pub record CompilesFile (file : List ℕ) (words : PrintingWords) (text : List ℕ) : Type 0 where
  pub net : TypedNetwork
  pub net_is : IsNetworkIn file net
  pub prints : PrintsC net words text
  pub outputs : PrintedOutputs net net words text prints

-- the bytes are those of a source, a target and a certificate, whose steps derive the target from the
-- source, and the text is the target's C, which outputs the source's stream meaning
pub record CompilesChecked (source_file target_file certificate : List ℕ) (words : PrintingWords)
    (text : List ℕ) : Type 0 where
  pub files : DerivationIn source_file target_file certificate
  pub prints : PrintsC files.target words text
  pub outputs : PrintedOutputs files.source files.target words text prints

-- the text is the C that is asked for, if C is, where the bytes of the files that are named are told
abbrev pub CompilesAsAsked : KnownFiles → RequestTree → List ℕ → Type 0
CompilesAsAsked told (compile words name) text = (file : List ℕ) → told name ≡ Some file
    → CompilesFile file words text
CompilesAsAsked told (compile_checked words names) text =
    (source_file target_file certificate : List ℕ) → told names.source ≡ Some source_file
    → told names.target ≡ Some target_file → told names.certificate ≡ Some certificate
    → CompilesChecked source_file target_file certificate words text
CompilesAsAsked told _ text = ⊤

-- the job is to print that text, if it is to print
abbrev pub PrintsAsAsked : KnownFiles → RequestTree → Job → Type 0
PrintsAsAsked told what (J.Print text) = CompilesAsAsked told what (string_bytes text)
PrintsAsAsked told what (J.Run t) = ⊤
PrintsAsAsked told what (J.PrintAndRefuse text line) = ⊤

-- where the words ask for C and not for help, and a text is to be printed, that text is the C
abbrev pub CompiledFilesLaw : Type 0
CompiledFilesLaw = (told : KnownFiles) (words : List (List ℕ)) (what : RequestTree) (job : Job)
    → request_in words ≡ Some what → IsRequested told words job
    → AsksHelp words ⊎ PrintsAsAsked told what job
