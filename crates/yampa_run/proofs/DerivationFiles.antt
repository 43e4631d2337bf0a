-- The networks of files have their types, and what is derived is derived in the files' bytes.
use Rattle.std.proofs.Common.{◌≡◌, ℕ, List, [], Some, subst}
use Rattle.net_meaning.specs.Laws.{WithinLaw}
use Rattle.net_meaning.specs.NetworkLimits.{NetworkFits, WithinLimits}
use Rattle.net_meaning.specs.TypedNetwork.{HasItsTypes, TypedNetwork}
use Rattle.command_line.specs.CommandLine.{DerivationNames}
use Rattle.yampa_run.specs.KnownFiles.{KnownFiles}
use Rattle.yampa_run.specs.Loading.{IsNetworkIn, IsNetworkOf}
use Rattle.yampa_run.specs.Check.{AreStepsOf, DerivationIn, IsDerivedIn}

-- a file's network has its types
pub typed_in : WithinLaw → (file : List ℕ) (t : TypedNetwork) → IsNetworkIn file t → HasItsTypes t
typed_in within file t i =
    let limits : WithinLimits t = i.typed in
    let fits : NetworkFits t.net t.input t.output = limits.fits in
    within [] [] t.net t.input t.output fits.typed

-- a derivation in files, where their bytes are told
abbrev pub in_files : (told : KnownFiles) (names : DerivationNames) (t : TypedNetwork) (count : ℕ) → IsDerivedIn told names t count
    → (source_file target_file certificate : List ℕ) → told names.source ≡ Some source_file → told names.target ≡ Some target_file
    → told names.certificate ≡ Some certificate → DerivationIn source_file target_file certificate
in_files told names t count d source_file target_file certificate e f g = record {
  source = d.source;
  target = t;
  steps = d.steps;
  source_is = subst (λ known. IsNetworkOf known d.source) e d.files.is_source;
  target_is = subst (λ known. IsNetworkOf known t) f d.files.is_target;
  certificate_is = subst (λ known. AreStepsOf known d.steps) g d.files.are_steps;
  derives = d.derives;
}
