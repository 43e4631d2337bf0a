-- What a file leads to, and a command line on it.
use Rattle.std.proofs.Common.{◌≡◌, ◌≢◌, ◌≤◌, inr, ℕ, true, List, length, Option, Some, Result, Ok, Err, subst, sym}
use Rattle.cert_check.specs.declared.answer.CheckFault.TheVariants as C
use Rattle.cert_check.specs.declared.derivation.TheConstants.{MOST_STEPS}
use Rattle.std.specs.Result.{IfErr}
use Rattle.command_line.specs.CommandLine.{LeadingNames}
use Rattle.net_tree.specs.LawStep.{Step}
use Rattle.yampa_run.specs.Words.{TellsPlace}
use Rattle.sample_core.specs.TypeTree.{TypeTree}
use Rattle.leaf_core.specs.Expression.{Expression}
use Rattle.net_tree.specs.Network.{Network}
use Rattle.net_meaning.specs.TypedNetwork.{TypedNetwork}
use Rattle.net_text.specs.FileLaws.{IsFile, IsFileFault}
use Rattle.net_text.specs.declared.fault.NetTextFault.{NetTextFault}
use Rattle.net_types.proofs.Checks.{check_exact}
use Rattle.net_types.specs.Check.{check}
use Rattle.net_types.specs.declared.fault.TypeFault.{TypeFault}
use Rattle.net_types.specs.declared.fault.TypeFault.TheVariants as T
use Rattle.yampa_run.specs.KnownFiles.{KnownFiles}
use Rattle.yampa_run.specs.Loading.{HasNoNetwork, IsNetworkOf, IsNetworkIn, RefusesText, RefusesTypes, by_text, by_types}
use Rattle.yampa_run.specs.Check.{RefusesCheck}
use Rattle.yampa_run.specs.Laws.{HasNoPlace, IsNotThere, not_there}
use Rattle.yampa_run.specs.Apply.{IsLeading, IsNotApplied, RefusesSteps, not_applied}
use Rattle.yampa_run.specs.declared.refused.Role.{Role}
use Rattle.yampa_run.specs.declared.preparation.Refusal.{Refusal}
use Rattle.yampa_run.specs.declared.preparation.Refusal.TheVariants as Refused

-- what is read and then checked is the network of the bytes
pub network_in : (bytes : List ℕ) (A : TypeTree) (net : Network Expression) (t : TypedNetwork) → IsFile bytes A net → check A net ≡ Ok t → IsNetworkIn bytes t
network_in bytes A net t f e =
    let h = (check_exact A net t).0 e in
    record { file = rw (h.0, h.1) f; typed = h.2 }

pub text_refused : (role : Role) (bytes : List ℕ) (f : NetTextFault) → IsFileFault bytes f → (r : Refusal) → RefusesText role f r
    → HasNoNetwork role (Some bytes) r
text_refused role bytes f wrong (Refused.Line status line) h = inr (h.1, by_text f h.0 wrong h.2)
text_refused role bytes f wrong Refused.Memory h = tt

pub types_refused : (role : Role) (bytes : List ℕ) (A : TypeTree) (net : Network Expression) (f : TypeFault) → IsFile bytes A net
    → (f ≢ T.Memory → check A net ≡ Err f) → (r : Refusal) → RefusesTypes role f r → HasNoNetwork role (Some bytes) r
types_refused role bytes A net f file e (Refused.Line status line) h = inr (h.1, by_types A net f file (e h.0) h.2)
types_refused role bytes A net f file e Refused.Memory h = tt

-- where nothing stands at the place of a word, the steps there aren't printed
pub nothing_there : {T : Type 0} (known at : Option (List ℕ)) (net : TypedNetwork) (p : List ℕ) (r : Result T Refusal) → IsNetworkOf known net
    → TellsPlace at p → IfErr r (IsNotThere net p) → IfErr r (HasNoPlace known at)
nothing_there known at net p (Ok text) i j h = tt
nothing_there known at net p (Err e) i j h = not_there net p i j h

-- where the steps that are to be taken are refused, nothing is printed of them
pub not_taken : {T : Type 0} (told : KnownFiles) (names : LeadingNames) (source : TypedNetwork) (steps : List Step) (r : Result T Refusal)
    → IsLeading told names source steps → IfErr r (RefusesSteps source steps names.shows) → IfErr r (IsNotApplied told names)
not_taken told names source steps (Ok job) l h = tt
not_taken told names source steps (Err e) l h = not_applied source steps l h

-- where memory is short, nothing is shown of at most 10,000 steps
pub short_of_memory : {T : Type 0} (source : TypedNetwork) (steps : List Step) (r : Result T Refusal) → length steps ≤ MOST_STEPS
    → IfErr r (λ e. e ≡ Refused.Memory) → IfErr r (RefusesSteps source steps true)
short_of_memory source steps (Ok job) few h = tt
short_of_memory source steps (Err e) few h = record { fault = C.Memory; unapplied = few; refuses = subst (RefusesCheck C.Memory) (sym h) tt }
