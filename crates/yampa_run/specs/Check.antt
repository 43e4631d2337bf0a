-- What `check` prints of three files, what `run-checked` runs, and why they refuse.
use Rattle.std.specs.Prelude.{◌≡◌, ◌≢◌, ◌⊎◌, ℕ, List, ◌++◌, length, Option, Some, None, Err, codes, string_bytes, ⊤}
use Rattle.std.specs.Fmt.{decimal}
use Rattle.net_meaning.specs.TypedNetwork.{TypedNetwork}
use Rattle.net_tree.specs.LawStep.{Step}
use Rattle.net_text.specs.CertificateLaws.{IsCertificate, IsCertificateFault}
use Rattle.net_text.specs.declared.fault.NetTextFault.{NetTextFault}
use Rattle.net_text.specs.declared.fault.NetTextFault.TheVariants as V
use Rattle.cert_check.specs.Derives.{Derives}
use Rattle.cert_check.specs.CheckAnswer.{CheckAnswer}
use Rattle.cert_check.specs.declared.answer.CheckFault.{CheckFault}
use Rattle.cert_check.specs.declared.answer.CheckFault.TheVariants as C
use Rattle.command_line.specs.CommandLine.{DerivationNames}
use Rattle.yampa_run.specs.RefusalLines.{check_words, text_words}
use Rattle.yampa_run.specs.declared.refused.Role.TheVariants as R
use Rattle.yampa_run.specs.declared.preparation.Refusal.{Refusal}
use Rattle.yampa_run.specs.declared.preparation.Refusal.TheVariants as Refused
use Rattle.yampa_run.specs.KnownFiles.{KnownFiles}
use Rattle.yampa_run.specs.Loading.{HasNoNetwork, IsNetworkIn, IsNetworkOf, IsUnread}

-- the steps are those of a certificate file, where its bytes are told
abbrev pub AreStepsOf : Option (List ℕ) → List Step → Type 0
AreStepsOf None steps = ⊤
AreStepsOf (Some bytes) steps = IsCertificate bytes steps

-- a file is no certificate file, where its bytes are told, and the line says why
abbrev pub IsNoCertificate : Option (List ℕ) → List ℕ → Type 0
IsNoCertificate None line = ⊤
IsNoCertificate (Some bytes) line = (f : NetTextFault) × (f ≢ V.Memory)
    × IsCertificateFault bytes f × (line ≡ text_words R.Certificate f)

-- why there are no steps of a file: it wasn't read; or it is refused, with status 1; or memory was
-- short
abbrev pub HasNoSteps : Option (List ℕ) → Refusal → Type 0
HasNoSteps told (Refused.Line status line) =
    IsUnread R.Certificate told (Refused.Line status line)
    ⊎ ((status ≡ 1) × IsNoCertificate told (string_bytes line))
HasNoSteps told Refused.Memory = ⊤

-- a refusal for that fault of a check: its line with status 1, or memory was short
abbrev pub RefusesCheck : CheckFault → Refusal → Type 0
RefusesCheck f (Refused.Line status line) = (f ≢ C.Memory) × (status ≡ 1)
    × (string_bytes line ≡ check_words f)
RefusesCheck f Refused.Memory = ⊤

-- source, target and steps of three files, where their bytes are told
pub record AreOf (told : KnownFiles) (names : DerivationNames) (source target : TypedNetwork)
    (steps : List Step) : Type 0 where
  pub is_source : IsNetworkOf (told names.source) source
  pub is_target : IsNetworkOf (told names.target) target
  pub are_steps : AreStepsOf (told names.certificate) steps

-- t is the typed network of the target's file, and the steps of the certificate's, so many, derive
-- it from that of the source's
pub record IsDerivedIn (told : KnownFiles) (names : DerivationNames) (t : TypedNetwork) (count : ℕ)
    : Type 0 where
  pub source : TypedNetwork
  pub steps : List Step
  pub files : AreOf told names source t steps
  pub derives : Derives source t steps
  pub counted : count ≡ length steps

-- the bytes are those of a source, a target and a certificate, whose steps derive the target from the
-- source
pub record DerivationIn (source_file target_file certificate : List ℕ) : Type 0 where
  pub source : TypedNetwork
  pub target : TypedNetwork
  pub steps : List Step
  pub source_is : IsNetworkIn source_file source
  pub target_is : IsNetworkIn target_file target
  pub certificate_is : IsCertificate certificate steps
  pub derives : Derives source target steps

-- why there is no derivation: the first of the three files, in this order, that is no network or
-- has no steps; or the steps don't derive the target from the source
pub data HasNoDerivation (told : KnownFiles) (names : DerivationNames) (refusal : Refusal) : Type 0
  where
    no_source : HasNoNetwork R.Source (told names.source) refusal
        → HasNoDerivation told names refusal
    no_target : (source : TypedNetwork) → IsNetworkOf (told names.source) source
        → HasNoNetwork R.Target (told names.target) refusal → HasNoDerivation told names refusal
    no_steps : (source target : TypedNetwork) → IsNetworkOf (told names.source) source
        → IsNetworkOf (told names.target) target → HasNoSteps (told names.certificate) refusal
        → HasNoDerivation told names refusal
    not_accepted : (source target : TypedNetwork) (steps : List Step)
        → AreOf told names source target steps → (f : CheckFault)
        → CheckAnswer source target steps (Err f) → RefusesCheck f refusal
        → HasNoDerivation told names refusal

-- the line of the command `check`
abbrev pub accepted_line : ℕ → List ℕ
accepted_line count = codes "accepted " ++ (decimal count ++ codes "\n")

-- the line is that on a derivation of the target's network
pub record TellsAccepted (told : KnownFiles) (names : DerivationNames) (text : List ℕ) : Type 0
  where
    pub target : TypedNetwork
    pub count : ℕ
    pub derived : IsDerivedIn told names target count
    pub line : text ≡ accepted_line count

-- t is the target's network of a derivation
pub record IsChecked (told : KnownFiles) (names : DerivationNames) (t : TypedNetwork) : Type 0 where
  pub count : ℕ
  pub derived : IsDerivedIn told names t count
