-- What `types`, `outline` and `optimise` print on the network of a file.
use Rattle.std.specs.Prelude.{◌≡◌, ℕ, List, Option}
use Rattle.sample_core.specs.TypeTree.{TypeTree}
use Rattle.leaf_core.specs.Expression.{Expression}
use Rattle.net_tree.specs.Network.{Network}
use Rattle.net_meaning.specs.TypedNetwork.{TypedNetwork}
use Rattle.net_tree.specs.LawStep.{Step}
use Rattle.net_text.specs.CertificatePrinting.{certificate_spelling}
use Rattle.net_text.specs.Printing.{file_spelling}
use Rattle.net_opt.specs.Optimising.{Optimised}
use Rattle.command_line.specs.declared.command.Wanted.{Wanted}
use Rattle.command_line.specs.declared.command.Wanted.TheVariants as W
use Rattle.net_view.specs.Texts.{OutlineText}
use Rattle.yampa_run.specs.declared.network_commands.NetworkCommand.{NetworkCommand}
use Rattle.yampa_run.specs.declared.network_commands.NetworkCommand.TheVariants as S
use Rattle.yampa_run.specs.Loading.{IsNetworkOf}
use Rattle.yampa_run.specs.Types.{types_lines}

-- what is printed of a network with inputs of type A and of the steps that lead to it: the file of
-- the network, or the certificate of the steps
abbrev pub wanted_text : Wanted → TypeTree → Network Expression → List Step → List ℕ
wanted_text W.Network A net steps = file_spelling A net
wanted_text W.Certificate A net steps = certificate_spelling steps

-- the text is what is wanted of a network that is made of the source so, and of the steps to it
pub record PrintsMade (Made : TypedNetwork → Network Expression → List Step → Type 0)
    (source : TypedNetwork) (wanted : Wanted) (text : List ℕ) : Type 0 where
  pub net : Network Expression
  pub steps : List Step
  pub made : Made source net steps
  pub printed : text ≡ wanted_text wanted source.input net steps

-- the text is what the command prints on the network
abbrev pub PrintsOf : NetworkCommand → TypedNetwork → List ℕ → Type 0
PrintsOf S.Types net text = text ≡ types_lines net
PrintsOf S.Outline net text = OutlineText net text
PrintsOf (S.Optimise wanted) net text = PrintsMade Optimised net wanted text

-- the text is what the command prints on the typed network of a file, where its bytes are told
pub record Prints (command : NetworkCommand) (told : Option (List ℕ)) (text : List ℕ) : Type 0 where
  pub net : TypedNetwork
  pub network : IsNetworkOf told net
  pub tells : PrintsOf command net text
