-- What the command `apply` prints is read back, and is derived.
use Rattle.std.proofs.Common.{ℕ, List, Option, refl, sym, ap, ◌∙◌, subst}
use Rattle.net_tree.specs.LawStep.{Step}
use Rattle.net_meaning.specs.NetworkLimits.{WithinLimits}
use Rattle.net_meaning.specs.TypedNetwork.{TypedNetwork}
use Rattle.net_text.specs.FileLaws.{IsFile, PrintedFileLaw}
use Rattle.net_text.specs.Printing.{file_spelling}
use Rattle.cert_check.specs.Derives.{Derives}
use Rattle.cert_check.specs.Laws.{AppliedLaw}
use Rattle.net_view.specs.Trace.{first_steps}
use Rattle.command_line.specs.CommandLine.{DerivationNames}
use Rattle.yampa_run.specs.AppliedFiles.{AppliedFilesLaw, all_steps}
use Rattle.yampa_run.specs.KnownFiles.{IsTold, KnownFiles}
use Rattle.yampa_run.specs.Loading.{IsNetworkIn, IsNetworkOf}
use Rattle.yampa_run.specs.Check.{AreStepsOf}
use Rattle.yampa_run.specs.Apply.{IsLeading}

-- a known file has a network within the limits
pub typed_of : (known : Option (List ℕ)) (t : TypedNetwork) → IsTold known → IsNetworkOf known t → WithinLimits t
typed_of known t (bytes, e) n = let i : IsNetworkIn bytes t = subst (λ o. IsNetworkOf o t) e n in i.typed

-- where no number is given, the steps that are to be taken are all of the certificate
pub all_taken : (told : KnownFiles) (names : DerivationNames) (source : TypedNetwork) (steps : List Step) → IsLeading told (all_steps names) source steps
    → AreStepsOf (told names.certificate) steps
all_taken told names source steps lead =
    subst (AreStepsOf (told names.certificate)) (sym (lead.leading ∙ ap (λ o. first_steps o lead.all) lead.is_first)) lead.are_steps

pub applied_files : PrintedFileLaw → AppliedLaw → AppliedFilesLaw
applied_files nets applied told names held fit =
    let last : TypedNetwork = held.prints.last in
    let limits : WithinLimits held.source = typed_of (told names.source) held.source held.source_told held.leading.is_source in
    let there : Derives held.source last held.steps × WithinLimits last = applied held.source last held.steps held.prints.applied limits in
    let printed : IsFile (file_spelling last.input last.net) last.input last.net = nets last.input last.net fit.numbers fit.type_depth fit.net_depth fit.size in
    let target : IsNetworkIn (file_spelling last.input last.net) last = record { file = printed; typed = there.1 } in
    record {
      source = held.source;
      steps = held.steps;
      files = record {
        is_source = held.leading.is_source;
        is_target = subst (λ known. IsNetworkOf known last) (sym held.target_told) (subst (λ bytes. IsNetworkIn bytes last) (sym held.prints.printed) target);
        are_steps = all_taken told names held.source held.steps held.leading;
      };
      derives = there.0;
      counted = refl;
    }
