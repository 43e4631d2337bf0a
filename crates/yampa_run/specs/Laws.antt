-- What the command `laws` prints, and why it refuses.
use Rattle.std.specs.Prelude.{ℕ, List, Option, ⊤}
use Rattle.net_meaning.specs.TypedNetwork.{TypedNetwork}
use Rattle.net_view.specs.Listed.{IsThere}
use Rattle.net_view.specs.Texts.{PossibleText}
use Rattle.yampa_run.specs.RefusalLines.{no_place_words, not_there_words}
use Rattle.yampa_run.specs.Words.{TellsPlace}
use Rattle.yampa_run.specs.declared.refused.Role.TheVariants as R
use Rattle.yampa_run.specs.declared.preparation.Refusal.{Refusal}
use Rattle.yampa_run.specs.declared.preparation.Refusal.TheVariants as Refused
use Rattle.yampa_run.specs.Loading.{HasNoNetwork, IsNetworkOf, RefusesWith}

-- the lines are those on the steps that may be taken at a place of a network and below, where
-- something stands there
abbrev pub TellsSteps : TypedNetwork → List ℕ → List ℕ → Type 0
TellsSteps net place text = IsThere net place × PossibleText net place text

-- the lines are those on the steps that may be taken in the typed network of a file, where its bytes
-- are told, at the place of a word and below
pub record TellsLaws (told at : Option (List ℕ)) (text : List ℕ) : Type 0 where
  pub net : TypedNetwork
  pub network : IsNetworkOf told net
  pub place : List ℕ
  pub place_is : TellsPlace at place
  pub tells : TellsSteps net place text

-- no position is the place of the word, and that is told with status 2; or memory was short
abbrev pub IsNowhere : Option (List ℕ) → Refusal → Type 0
IsNowhere at (Refused.Line status line) = ((p : List ℕ) → TellsPlace at p → ⊥)
    × RefusesWith 2 no_place_words (Refused.Line status line)
IsNowhere at Refused.Memory = ⊤

-- nothing stands at the position of the network, and that is told; or memory was short
abbrev pub IsNotThere : TypedNetwork → List ℕ → Refusal → Type 0
IsNotThere net p (Refused.Line status line) = (IsThere net p → ⊥)
    × RefusesWith 1 (not_there_words p) (Refused.Line status line)
IsNotThere net p Refused.Memory = ⊤

-- why the steps that may be taken aren't printed: the word is no position; or it is one, and there is
-- no network of the file; or nothing stands at the position in it
pub data HasNoPlace (told at : Option (List ℕ)) (refusal : Refusal) : Type 0 where
  no_place : IsNowhere at refusal → HasNoPlace told at refusal
  no_network : (p : List ℕ) → TellsPlace at p → HasNoNetwork R.Network told refusal
      → HasNoPlace told at refusal
  not_there : (net : TypedNetwork) (p : List ℕ) → IsNetworkOf told net → TellsPlace at p
      → IsNotThere net p refusal → HasNoPlace told at refusal
