-- What two runs of the command `optimise` print of one file, put into files: a certificate that
-- leads from the source to the network that is printed.
use Rattle.std.specs.Prelude.{◌≡◌, ◌≤◌, ℕ, List, length, Some}
use Rattle.std.specs.List.{All}
use Rattle.sample_core.specs.TypeTree.{TypeTree}
use Rattle.leaf_core.specs.Expression.{Expression}
use Rattle.leaf_expr.specs.Printing.{type_sexpr}
use Rattle.leaf_expr.specs.Sexpr.{depth}
use Rattle.leaf_expr.specs.declared.type_reader.TheConstants.{MOST_OPEN}
use Rattle.leaf_expr.specs.declared.expr_reader.TheConstants.{MOST_LENGTH}
use Rattle.net_tree.specs.LawStep.{Step}
use Rattle.net_tree.specs.Network.{Network}
use Rattle.net_meaning.specs.TypedNetwork.{TypedNetwork}
use Rattle.net_text.specs.CertificatePrinting.{ChildrenFit, certificate_spelling}
use Rattle.net_text.specs.Printing.{Writable, file_spelling, network_sexpr}
use Rattle.command_line.specs.CommandLine.{DerivationNames}
use Rattle.command_line.specs.declared.command.Wanted.TheVariants as W
use Rattle.yampa_run.specs.KnownFiles.{IsTold, KnownFiles}
use Rattle.yampa_run.specs.NetworkCommands.{Prints}
use Rattle.yampa_run.specs.Check.{IsDerivedIn}
use Rattle.yampa_run.specs.declared.network_commands.NetworkCommand.TheVariants as S

-- a network with inputs of type A, the positions of the steps that lead to it, and both printed
-- texts are within the limits of files
pub record FitFiles (A : TypeTree) (net : Network Expression) (steps : List Step) : Type 0 where
  pub numbers : Writable net
  pub type_depth : depth (type_sexpr A) ≤ MOST_OPEN
  pub net_depth : depth (network_sexpr net) ≤ MOST_OPEN
  pub net_size : length (file_spelling A net) ≤ MOST_LENGTH
  pub positions : All (λ s. ChildrenFit s.position) steps
  pub certificate_size : length (certificate_spelling steps) ≤ MOST_LENGTH

-- three files: that of a source, and what the command printed of it in two runs, one without its
-- flag and one with it
pub record HoldOptimised (told : KnownFiles) (names : DerivationNames) : Type 0 where
  pub source_told : IsTold (told names.source)
  pub target_file : List ℕ
  pub target_told : told names.target ≡ Some target_file
  pub target : Prints (S.Optimise W.Network) (told names.source) target_file
  pub certificate_file : List ℕ
  pub certificate_told : told names.certificate ≡ Some certificate_file
  pub certificate : Prints (S.Optimise W.Certificate) (told names.source) certificate_file

-- the three files hold a derivation of the optimised network
pub record DerivesOptimised (told : KnownFiles) (names : DerivationNames)
    (net : Network Expression) (steps : List Step) : Type 0 where
  pub target : TypedNetwork
  pub target_is : target.net ≡ net
  pub derived : IsDerivedIn told names target (length steps)

-- Where the network of a file is optimised in two runs, and the network that the one prints and the
-- steps that the other prints are put into files, within the limits of files, the printed steps
-- derive the printed network from that of the file.
abbrev pub OptimisedFilesLaw : Type 0
OptimisedFilesLaw = (told : KnownFiles) (names : DerivationNames) (held : HoldOptimised told names)
    → FitFiles held.target.net.input held.target.tells.net held.certificate.tells.steps
    → DerivesOptimised told names held.target.tells.net held.certificate.tells.steps
