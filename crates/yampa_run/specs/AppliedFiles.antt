-- What the command `apply` prints, put into a file: a target that the certificate derives.
use Rattle.std.specs.Prelude.{◌≡◌, ◌≤◌, ℕ, List, length, Some, None, false}
use Rattle.leaf_expr.specs.Printing.{type_sexpr}
use Rattle.leaf_expr.specs.Sexpr.{depth}
use Rattle.leaf_expr.specs.declared.type_reader.TheConstants.{MOST_OPEN}
use Rattle.leaf_expr.specs.declared.expr_reader.TheConstants.{MOST_LENGTH}
use Rattle.net_tree.specs.LawStep.{Step}
use Rattle.net_meaning.specs.TypedNetwork.{TypedNetwork}
use Rattle.net_text.specs.Printing.{Writable, file_spelling, network_sexpr}
use Rattle.net_view.specs.Applied.{PrintsApplied}
use Rattle.command_line.specs.CommandLine.{DerivationNames, LeadingNames}
use Rattle.yampa_run.specs.KnownFiles.{IsTold, KnownFiles}
use Rattle.yampa_run.specs.Check.{IsDerivedIn}
use Rattle.yampa_run.specs.Apply.{IsLeading}

-- the printed network is within the limits of files
pub record FitsFile (t : TypedNetwork) : Type 0 where
  pub numbers : Writable t.net
  pub type_depth : depth (type_sexpr t.input) ≤ MOST_OPEN
  pub net_depth : depth (network_sexpr t.net) ≤ MOST_OPEN
  pub size : length (file_spelling t.input t.net) ≤ MOST_LENGTH

-- the source and the certificate of a derivation, of which all steps are to be taken
abbrev pub all_steps : DerivationNames → LeadingNames
all_steps names =
    record { source = names.source; certificate = names.certificate; first = None; shows = false }

-- three files: those of a source and of a certificate, and what the command prints of both
pub record HoldApplied (told : KnownFiles) (names : DerivationNames) : Type 0 where
  pub source_told : IsTold (told names.source)
  pub source : TypedNetwork
  pub steps : List Step
  pub leading : IsLeading told (all_steps names) source steps
  pub text : List ℕ
  pub prints : PrintsApplied source steps text
  pub target_told : told names.target ≡ Some text

-- What the command prints of a source and a certificate, put into a file, within the limits of
-- files, is derived by the certificate from the source.
abbrev pub AppliedFilesLaw : Type 0
AppliedFilesLaw = (told : KnownFiles) (names : DerivationNames) (held : HoldApplied told names)
    → FitsFile held.prints.last → IsDerivedIn told names held.prints.last (length held.steps)
