-- What a command line leads to, by its words and by what is known of files.
use Rattle.std.specs.Prelude.{◌≡◌, ◌⊎◌, ℕ, List, Some, codes, string_bytes, ⊤}
use Rattle.net_meaning.specs.TypedNetwork.{TypedNetwork}
use Rattle.leaf_table.specs.declared.fault.TableFault.{TableFault}
use Rattle.leaf_table.specs.declared.fault.TableFault.TheVariants as A
use Rattle.command_line.specs.CommandLine.{RequestTree, types, run, outline, laws, optimise, check as checks, run_checked, apply, compile, compile_checked, request_in, AsksHelp, AsksNothing}
use Rattle.yampa_run.specs.declared.refused.Role.TheVariants as R
use Rattle.yampa_run.specs.declared.network_commands.NetworkCommand.TheVariants as S
use Rattle.yampa_run.specs.declared.preparation.Job.{Job}
use Rattle.yampa_run.specs.declared.preparation.Job.TheVariants as J
use Rattle.yampa_run.specs.declared.preparation.Refusal.{Refusal}
use Rattle.yampa_run.specs.declared.preparation.Refusal.TheVariants as Refused
use Rattle.yampa_run.specs.KnownFiles.{IsTold, KnownFiles}
use Rattle.yampa_run.specs.Loading.{HasNoNetwork, IsNetworkOf, RefusesWith}
use Rattle.yampa_run.specs.NetworkCommands.{Prints}
use Rattle.yampa_run.specs.Check.{HasNoDerivation, IsChecked, TellsAccepted}
use Rattle.yampa_run.specs.Laws.{HasNoPlace, TellsLaws}
use Rattle.yampa_run.specs.Apply.{IsNotApplied, TellsApplied}
use Rattle.yampa_run.specs.Compile.{HasNoC, IsNotCheckedC, IsNotCompiled, TellsC, TellsCheckedC}

-- the job is what is asked for: the lines on a file's types, a run of its network, its outline, the
-- lines on its steps, what is wanted of an optimised one, the line on a derivation, a run of a target
-- that is derived, what is wanted of steps, or C
abbrev pub Meets : KnownFiles → RequestTree → Job → Type 0
Meets told (types name) (J.Print text) = Prints S.Types (told name) (string_bytes text)
Meets told (run name) (J.Run t) = IsNetworkOf (told name) t
Meets told (outline name) (J.Print text) = Prints S.Outline (told name) (string_bytes text)
Meets told (laws at name) (J.Print text) = TellsLaws (told name) at (string_bytes text)
Meets told (optimise wanted name) (J.Print text) =
    Prints (S.Optimise wanted) (told name) (string_bytes text)
Meets told (checks names) (J.Print text) = TellsAccepted told names (string_bytes text)
Meets told (run_checked names) (J.Run t) = IsChecked told names t
Meets told (apply names) job = TellsApplied told names job
Meets told (compile words name) (J.Print text) = TellsC (told name) words (string_bytes text)
Meets told (compile_checked words names) (J.Print text) =
    TellsCheckedC told names words (string_bytes text)
Meets told _ _ = ⊥

-- why what is asked for isn't done
abbrev pub Fails : KnownFiles → RequestTree → Refusal → Type 0
Fails told (types name) refusal = HasNoNetwork R.Network (told name) refusal
Fails told (run name) refusal = HasNoNetwork R.Network (told name) refusal
Fails told (outline name) refusal = HasNoNetwork R.Network (told name) refusal
Fails told (laws at name) refusal = HasNoPlace (told name) at refusal
Fails told (optimise wanted name) refusal = HasNoNetwork R.Network (told name) refusal
Fails told (checks names) refusal = HasNoDerivation told names refusal
Fails told (run_checked names) refusal = HasNoDerivation told names refusal
Fails told (apply names) refusal = IsNotApplied told names refusal
Fails told (compile words name) refusal = IsNotCompiled (told name) words refusal
Fails told (compile_checked words names) refusal = IsNotCheckedC told names words refusal

-- the words ask for something that the job is
pub record MeetsWords (told : KnownFiles) (words : List (List ℕ)) (job : Job) : Type 0 where
  pub what : RequestTree
  pub asks : request_in words ≡ Some what
  pub meets : Meets told what job

-- what is to be done is what the words ask for: a run, or a text, which may be help
abbrev pub IsRequested : KnownFiles → List (List ℕ) → Job → Type 0
IsRequested told words (J.Print text) = AsksHelp words ⊎ MeetsWords told words (J.Print text)
IsRequested told words job = MeetsWords told words job

-- the words ask for something that isn't done
pub record FailsWords (told : KnownFiles) (words : List (List ℕ)) (refusal : Refusal) : Type 0
  where
    pub what : RequestTree
    pub asks : request_in words ≡ Some what
    pub fails : Fails told what refusal

-- why nothing is done: the words ask for nothing that is there, with status 2; or what they ask for
-- fails by its files; or memory was short
abbrev pub IsRefusal : KnownFiles → List (List ℕ) → Refusal → Type 0
IsRefusal told words (Refused.Line status line) = ((status ≡ 2) × AsksNothing words)
    ⊎ FailsWords told words (Refused.Line status line)
IsRefusal told words Refused.Memory = ⊤

-- the bytes of the files that are asked about are told
abbrev pub AreTold : KnownFiles → RequestTree → Type 0
AreTold told (types name) = IsTold (told name)
AreTold told (run name) = IsTold (told name)
AreTold told (outline name) = IsTold (told name)
AreTold told (laws at name) = IsTold (told name)
AreTold told (optimise wanted name) = IsTold (told name)
AreTold told (checks names) = IsTold (told names.source) × IsTold (told names.target)
    × IsTold (told names.certificate)
AreTold told (run_checked names) = IsTold (told names.source) × IsTold (told names.target)
    × IsTold (told names.certificate)
AreTold told (apply names) = IsTold (told names.source) × IsTold (told names.certificate)
AreTold told (compile words name) = IsTold (told name)
AreTold told (compile_checked words names) = IsTold (told names.source)
    × IsTold (told names.target) × IsTold (told names.certificate)

-- the refusal is of the network that is to be printed as C, and is too large
abbrev pub IsTooLarge : KnownFiles → RequestTree → Refusal → Type 0
IsTooLarge told (compile words name) refusal =
    (t : TypedNetwork) × IsNetworkOf (told name) t × HasNoC t words refusal
IsTooLarge told (compile_checked words names) refusal =
    (t : TypedNetwork) × IsChecked told names t × HasNoC t words refusal
IsTooLarge told _ refusal = ⊥

-- where the files' bytes are told and some job is what is asked for, memory alone is a reason to
-- refuse it, and of C that it is too large
abbrev pub OnlyMemoryLaw : Type 0
OnlyMemoryLaw = (told : KnownFiles) (words : List (List ℕ)) (what : RequestTree) (job : Job)
    (refusal : Refusal) → request_in words ≡ Some what → AreTold told what → Meets told what job
    → IsRefusal told words refusal → (refusal ≡ Refused.Memory) ⊎ IsTooLarge told what refusal

-- a refusal for a table that takes no more: its line with status 1 where it is full, or memory was
-- short
abbrev pub RefusesTable : TableFault → Refusal → Type 0
RefusesTable A.Full refusal = RefusesWith 1 (codes "table full") refusal
RefusesTable A.Memory refusal = refusal ≡ Refused.Memory
