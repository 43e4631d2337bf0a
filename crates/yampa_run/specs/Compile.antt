-- What the command `compile` prints, and why it refuses.
use Rattle.std.specs.Prelude.{◌≡◌, ℕ, Bool, false, List, Option, Some, None, if◌then◌else◌, codes}
use Rattle.net_meaning.specs.TypedNetwork.{TypedNetwork}
use Rattle.net_text.specs.Printing.{file_spelling}
use Rattle.code_fits.specs.Programs.{IsProgramOf, KeepsTooMuch, StateFits}
use Rattle.code_fits.specs.declared.layout.Program.{Program}
use Rattle.code_text.specs.FileText.{IsCOf, Options}
use Rattle.code_text.specs.Lists.{has_lists}
use Rattle.code_text.specs.declared.file.Printed.{Printed}
use Rattle.code_text.specs.declared.file.Printed.TheVariants as P
use Rattle.command_line.specs.CommandLine.{PrintingWords, DerivationNames}
use Rattle.command_line.specs.declared.help.TheConstants.{VERSION}
use Rattle.yampa_run.specs.Words.{TellsMost, TellsName, is_name, most_in}
use Rattle.yampa_run.specs.declared.compile.Form.{Form}
use Rattle.yampa_run.specs.RefusalLines.{no_layout_words, no_most_words, no_name_words, too_large_words}
use Rattle.yampa_run.specs.declared.refused.Role.TheVariants as R
use Rattle.yampa_run.specs.declared.preparation.Refusal.{Refusal}
use Rattle.yampa_run.specs.KnownFiles.{KnownFiles}
use Rattle.yampa_run.specs.Loading.{HasNoNetwork, IsNetworkOf, RefusesWith}
use Rattle.yampa_run.specs.Check.{HasNoDerivation, IsChecked}

-- what is printed, by the words: the declarations alone, all but the `main`, or all
abbrev pub printed_by : PrintingWords → Printed
printed_by words =
    if words.header then P.Header else (if words.no_main then P.Functions else P.Filter)

-- the words tell to print so: with that name, and lists of the input of at most so many elements
pub record IsForm (words : PrintingWords) (form : Form) : Type 0 where
  pub name_is : TellsName words.name form.name.now
  pub most_is : TellsMost words.most form.most

-- how a network is printed as C, with that name, and lists of the input of at most so many elements
abbrev pub options_for : TypedNetwork → PrintingWords → List ℕ → ℕ → Options
options_for t words name most = record {
  prefix = name;
  printed = printed_by words;
  most = most;
  unchecked = words.unchecked;
  version = VERSION.now;
  network = file_spelling t.input t.net;
  weight = t.weight;
  input = t.input;
  output = t.output;
}

-- the text is a program of the network's code as C, whose functions fit their layouts and keep no more
-- than a state may have, and which has room for lists of the input of at most so many elements, with
-- that name
pub record PrintsNamed (t : TypedNetwork) (words : PrintingWords) (name : List ℕ) (most : ℕ)
    (text : List ℕ) : Type 0 where
  pub program : Program
  pub fits : IsProgramOf t most program
  pub state : StateFits program
  pub is_c : IsCOf program (options_for t words name most) text

-- the text is a program of the network's code as C, as the words tell
pub record PrintsC (t : TypedNetwork) (words : PrintingWords) (text : List ℕ) : Type 0 where
  pub name : List ℕ
  pub most : ℕ
  pub name_is : TellsName words.name name
  pub most_is : TellsMost words.most most
  pub prints : PrintsNamed t words name most text

-- where no word says how long they are
abbrev pub unless_told : Option (List ℕ) → Bool → Bool
unless_told None asks = asks
unless_told (Some word) asks = false

-- `--most` may help: the input has lists, and the words don't say how long they are
abbrev pub asks_most : TypedNetwork → PrintingWords → Bool
asks_most t words = unless_told words.most (has_lists t.input)

-- the word is no name, and that is told with status 2
abbrev pub IsNoName : Option (List ℕ) → Refusal → Type 0
IsNoName (Some word) refusal = (is_name word ≡ false) × RefusesWith 2 no_name_words refusal
IsNoName None refusal = ⊥

-- the word is no number of elements, and that is told with status 2
abbrev pub IsNoMost : Option (List ℕ) → Refusal → Type 0
IsNoMost (Some word) refusal = (most_in word ≡ None) × RefusesWith 2 no_most_words refusal
IsNoMost None refusal = ⊥

-- why the words don't tell how C is printed: the one is no name; or the other is no number
pub data IsNoForm (words : PrintingWords) (refusal : Refusal) : Type 0 where
  bad_name : IsNoName words.name refusal → IsNoForm words refusal
  bad_most : IsNoMost words.most refusal → IsNoForm words refusal

-- the words tell how C is printed
pub record TellsForm (words : PrintingWords) : Type 0 where
  pub name : List ℕ
  pub most : ℕ
  pub name_is : TellsName words.name name
  pub most_is : TellsMost words.most most

-- why a network isn't printed as C: with room for lists as the words tell, the first function that keeps
-- more than a state may have stands at a position; or it has no layout; and that is told, or memory was
-- short
pub data HasNoC (t : TypedNetwork) (words : PrintingWords) (refusal : Refusal) : Type 0 where
  state_too_large : {most : ℕ} {P : List ℕ} → TellsMost words.most most → KeepsTooMuch t most P
      → RefusesWith 1 (too_large_words (codes "state") P (asks_most t words)) refusal
      → HasNoC t words refusal
  without_layout : RefusesWith 1 no_layout_words refusal → HasNoC t words refusal

-- the text is the typed network of a file as C, where its bytes are told
pub record TellsC (told : Option (List ℕ)) (words : PrintingWords) (text : List ℕ) : Type 0 where
  pub net : TypedNetwork
  pub network : IsNetworkOf told net
  pub prints : PrintsC net words text

-- why that isn't printed: the words don't tell how; or there is no network of the file; or it has no C
pub data IsNotCompiled (told : Option (List ℕ)) (words : PrintingWords) (refusal : Refusal) : Type 0
  where
    unformed : IsNoForm words refusal → IsNotCompiled told words refusal
    without_network : TellsForm words → HasNoNetwork R.Network told refusal
        → IsNotCompiled told words refusal
    without_c : (net : TypedNetwork) → TellsForm words → IsNetworkOf told net → HasNoC net words refusal
        → IsNotCompiled told words refusal

-- the text is the target's network of a derivation as C
pub record TellsCheckedC (told : KnownFiles) (names : DerivationNames) (words : PrintingWords)
    (text : List ℕ) : Type 0 where
  pub net : TypedNetwork
  pub is_checked : IsChecked told names net
  pub prints : PrintsC net words text

-- why that isn't printed: the words don't tell how; or there is no derivation; or the target has no C
pub data IsNotCheckedC (told : KnownFiles) (names : DerivationNames) (words : PrintingWords)
    (refusal : Refusal) : Type 0 where
  checked_unformed : IsNoForm words refusal → IsNotCheckedC told names words refusal
  without_derivation : TellsForm words → HasNoDerivation told names refusal
      → IsNotCheckedC told names words refusal
  checked_without_c : (net : TypedNetwork) → TellsForm words → IsChecked told names net
      → HasNoC net words refusal → IsNotCheckedC told names words refusal
