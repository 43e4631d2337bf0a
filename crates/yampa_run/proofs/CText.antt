-- What is printed of a network as C, and why it isn't.
use Rattle.std.proofs.Common.{◌≡◌, ℕ, Bool, List, Option, Result, Ok, Err, IfOk, codes, subst}
use Rattle.std.specs.Result.{IfErr}
use Rattle.net_meaning.specs.TypedNetwork.{TypedNetwork}
use Rattle.code_fits.specs.Programs.{IsProgramOf, KeepsTooMuch, StateFits}
use Rattle.code_fits.specs.declared.layout.Program.{Program}
use Rattle.code_text.specs.FileText.{IsCOf}
use Rattle.command_line.specs.CommandLine.{DerivationNames, PrintingWords}
use Rattle.yampa_run.specs.Compile.{IsForm, PrintsC, PrintsNamed, asks_most, options_for}
use Rattle.yampa_run.specs.KnownFiles.{KnownFiles}
use Rattle.yampa_run.specs.Loading.{IsNetworkOf, RefusesWith}
use Rattle.yampa_run.specs.Check.{IsChecked}
use Rattle.yampa_run.specs.Compile.{HasNoC, IsNotCheckedC, IsNotCompiled, TellsC, TellsCheckedC, TellsForm, checked_without_c, state_too_large, without_c}
use Rattle.yampa_run.specs.RefusalLines.{too_large_words}
use Rattle.yampa_run.specs.Words.{TellsMost}
use Rattle.yampa_run.specs.declared.compile.Form.{Form}
use Rattle.yampa_run.specs.declared.preparation.Refusal.{Refusal}

-- a program's C is that of its network
pub prints_named : {T E : Type 0} (bytes : T → List ℕ) (t : TypedNetwork) (words : PrintingWords) (name : List ℕ) (most : ℕ) (p : Program) (r : Result T E)
    → IsProgramOf t most p → StateFits p → IfOk r (λ text. IsCOf p (options_for t words name most) (bytes text)) → IfOk r (λ text. PrintsNamed t words name most (bytes text))
prints_named bytes t words name most p (Ok text) f s c = record { program = p; fits = f; state = s; is_c = c }
prints_named bytes t words name most p (Err e) f s c = tt

pub tells_form : (words : PrintingWords) (form : Form) → IsForm words form → TellsForm words
tells_form words form f = record { name = form.name.now; most = form.most; name_is = f.name_is; most_is = f.most_is }

prints_c : (t : TypedNetwork) (words : PrintingWords) (form : Form) (text : List ℕ) → IsForm words form → PrintsNamed t words form.name.now form.most text
    → PrintsC t words text
prints_c t words form text f h = record { name = form.name.now; most = form.most; name_is = f.name_is; most_is = f.most_is; prints = h }

-- where a file's network is printed, that is its C
pub tells_c : {T : Type 0} (bytes : T → List ℕ) (known : Option (List ℕ)) (words : PrintingWords) (net : TypedNetwork) (form : Form) (r : Result T Refusal)
    → IsNetworkOf known net → IsForm words form → IfOk r (λ text. PrintsNamed net words form.name.now form.most (bytes text))
    → IfOk r (λ text. TellsC known words (bytes text))
tells_c bytes known words net form (Ok text) i f h = record { net = net; network = i; prints = prints_c net words form (bytes text) f h }
tells_c bytes known words net form (Err e) i f h = tt

-- where it has no C, it isn't
pub not_compiled : {T : Type 0} (known : Option (List ℕ)) (words : PrintingWords) (net : TypedNetwork) (form : Form) (r : Result T Refusal)
    → IsNetworkOf known net → IsForm words form → IfErr r (HasNoC net words) → IfErr r (IsNotCompiled known words)
not_compiled known words net form (Ok text) i f h = tt
not_compiled known words net form (Err e) i f h = without_c net (tells_form words form f) i h

-- and so it is of the target of a derivation
pub tells_checked_c : {T : Type 0} (bytes : T → List ℕ) (told : KnownFiles) (names : DerivationNames) (words : PrintingWords) (net : TypedNetwork) (form : Form)
    (r : Result T Refusal) → IsChecked told names net → IsForm words form → IfOk r (λ text. PrintsNamed net words form.name.now form.most (bytes text))
    → IfOk r (λ text. TellsCheckedC told names words (bytes text))
tells_checked_c bytes told names words net form (Ok text) i f h =
    record { net = net; is_checked = i; prints = prints_c net words form (bytes text) f h }
tells_checked_c bytes told names words net form (Err e) i f h = tt

pub not_checked_c : {T : Type 0} (told : KnownFiles) (names : DerivationNames) (words : PrintingWords) (net : TypedNetwork) (form : Form) (r : Result T Refusal)
    → IsChecked told names net → IsForm words form → IfErr r (HasNoC net words) → IfErr r (IsNotCheckedC told names words)
not_checked_c told names words net form (Ok text) i f h = tt
not_checked_c told names words net form (Err e) i f h = checked_without_c net (tells_form words form f) i h

-- what is too large at a position has no C
pub too_large_is : {E : Type 0} (t : TypedNetwork) (words : PrintingWords) (most : ℕ) (P : List ℕ) (asks : Bool) (r : Result Refusal E) → TellsMost words.most most
    → KeepsTooMuch t most P → asks ≡ asks_most t words → IfOk r (RefusesWith 1 (too_large_words (codes "state") P asks)) → IfOk r (HasNoC t words)
too_large_is t words most P asks (Ok refusal) m k e h =
    state_too_large m k (subst (λ a. RefusesWith 1 (too_large_words (codes "state") P a) refusal) e h)
too_large_is t words most P asks (Err f) m k e h = tt
