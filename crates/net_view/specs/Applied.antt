-- The text of where steps lead.
use Rattle.std.specs.Prelude.{◌≡◌, ℕ, List, Ok}
use Rattle.net_tree.specs.LawStep.{Step}
use Rattle.net_meaning.specs.TypedNetwork.{TypedNetwork}
use Rattle.net_text.specs.Printing.{file_spelling}
use Rattle.cert_check.specs.StepAnswers.{ApplyAnswer}

-- the text is the network file of what at most 10,000 steps lead to
pub record PrintsApplied (t : TypedNetwork) (ss : List Step) (text : List ℕ) : Type 0 where
  pub last : TypedNetwork
  pub applied : ApplyAnswer t ss (Ok last)
  pub printed : text ≡ file_spelling last.input last.net
