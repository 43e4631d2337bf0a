-- What two runs of the command `optimise` print of one file is read back, and derives what is printed.
use Rattle.std.proofs.Common.{◌≡◌, ℕ, Bool, true, false, List, [], ◌∷◌, Some, refl, sym, ap, ◌∙◌, subst, arith}
use Rattle.std.specs.List.{All, Contains, list_all}
use Rattle.std.proofs.lemmas.Bool.{leb-true}
use Rattle.std.proofs.lemmas.List.Elements.{All-head, All-tail}
use Rattle.std.proofs.lemmas.List.Folds.{list_all_at}
use Rattle.std.proofs.Math.Dec.{leb}
use Rattle.leaf_core.specs.Expression.{Expression}
use Rattle.net_tree.specs.LawStep.{Step}
use Rattle.net_tree.specs.Network.{Network}
use Rattle.net_meaning.specs.NetworkLimits.{WithinLimits}
use Rattle.net_meaning.specs.TypedNetwork.{TypedNetwork}
use Rattle.net_tree.specs.declared.law_step.Law.{Law}
use Rattle.net_tree.specs.declared.law_step.Law.TheVariants as L
use Rattle.net_text.specs.CertificateLaws.{IsCertificate}
use Rattle.net_text.specs.CertificatePrinting.{ChildrenFit, GivenFits, IsLaw, PrintedCertificateLaw, StepFits, StepsFit, certificate_spelling}
use Rattle.net_text.specs.FileLaws.{IsFile, PrintedFileLaw}
use Rattle.net_text.specs.Grammar.{version_4}
use Rattle.net_text.specs.StepGrammar.{last_law, last_leaf_law}
use Rattle.net_text.specs.Printing.{file_spelling}
use Rattle.cert_check.proofs.Taken.{led}
use Rattle.net_opt.specs.Laws.{OptimisedDerivesLaw, OneOptimisedLaw}
use Rattle.net_opt.specs.Optimising.{IsTried, MayTake, Optimised, expression_laws, network_laws}
use Rattle.command_line.specs.CommandLine.{DerivationNames}
use Rattle.yampa_run.specs.OptimisedFiles.{DerivesOptimised, FitFiles, OptimisedFilesLaw}
use Rattle.command_line.specs.declared.command.Wanted.TheVariants as W
use Rattle.yampa_run.specs.KnownFiles.{KnownFiles}
use Rattle.yampa_run.specs.Loading.{IsNetworkOf}
use Rattle.yampa_run.specs.NetworkCommands.{PrintsMade}
use Rattle.yampa_run.specs.Check.{AreStepsOf}
use Rattle.yampa_run.proofs.Refusals.{one_of_file}
use Rattle.yampa_run.proofs.AppliedFiles.{typed_of}
use Rattle.yampa_run.proofs.Places.{flat}

-- a test that each number of a list passes is passed by one that stands in it
passes : (test : ℕ → Bool) (ns : List ℕ) (n : ℕ) → list_all test ns ≡ true → Contains ns n → test n ≡ true
passes test ns n all c = go (test n) refl
  where
    go : (b : Bool) → test n ≡ b → test n ≡ true
    go true e = e
    go false e = let none : list_all test ns ≡ false = list_all_at test ns c.0 n c.1 (ap test c.2 ∙ e) in cc

-- a law that is tried has a number that files may have
is_law : (law : Law) → IsTried law → IsLaw law
is_law (L.L n) tried = (leb-true 1 n (passes (leb 1) network_laws n refl tried), leb-true n (last_law version_4) (passes (λ k. leb k (last_law version_4)) network_laws n refl tried))
is_law (L.E n) tried = (leb-true 1 n (passes (leb 1) expression_laws n refl tried), leb-true n (last_leaf_law version_4) (passes (λ k. leb k (last_leaf_law version_4)) expression_laws n refl tried))

-- a step that may be taken is within the limits of files where its position is
step_fits : (s : Step) → MayTake s → ChildrenFit s.position → StepFits s
step_fits s may fit = record {
  law = is_law s.law may.tried;
  position = fit;
  given = subst (GivenFits s.law) (sym may.none_given) tt;
  within = rw (may.none_given, flat s.position) (omega arith);
}

steps_fit : (ss : List Step) → All MayTake ss → All (λ s. ChildrenFit s.position) ss → StepsFit ss
steps_fit [] may fit = tt
steps_fit (s ∷ ss) may fit = (
  step_fits s (All-head MayTake s ss may) (All-head (λ s. ChildrenFit s.position) s ss fit),
  steps_fit ss (All-tail MayTake s ss may) (All-tail (λ s. ChildrenFit s.position) s ss fit),
)

-- files that hold a source, its optimised network and the steps that lead there hold a derivation
derives_files : PrintedFileLaw → PrintedCertificateLaw → OptimisedDerivesLaw → (told : KnownFiles) (names : DerivationNames) (source : TypedNetwork)
    (net : Network Expression) (steps : List Step) → IsNetworkOf (told names.source) source → WithinLimits source → Optimised source net steps
    → told names.target ≡ Some (file_spelling source.input net) → told names.certificate ≡ Some (certificate_spelling steps)
    → FitFiles source.input net steps → DerivesOptimised told names net steps
derives_files nets certificates derives told names source net steps network typed optimised target_told steps_told fit =
    let target : TypedNetwork = optimised.last in
    let ends : target.net ≡ net = optimised.ends in
    let there = led source steps target typed optimised.exhausts.lead in
    let printed : IsFile (file_spelling source.input net) source.input net = nets source.input net fit.numbers fit.type_depth fit.net_depth fit.net_size in
    let listed : IsCertificate (certificate_spelling steps) steps =
    certificates steps (steps_fit steps optimised.exhausts.may_be_taken fit.positions) fit.certificate_size in
    record {
      target = target;
      target_is = ends;
      derived = record {
        source = source;
        steps = steps;
        files = record {
          is_source = network;
          is_target = subst (λ known. IsNetworkOf known target) (sym target_told) (record {
            file = subst (λ m. IsFile (file_spelling source.input net) target.input m) (sym ends)
                (subst (λ A. IsFile (file_spelling source.input net) A net) (sym there.0) printed);
            typed = there.1;
          });
          are_steps = subst (λ known. AreStepsOf known steps) (sym steps_told) listed;
        };
        derives = derives source target steps (subst (λ m. Optimised source m steps) (sym ends) optimised) (sym there.0);
        counted = refl;
      };
    }

-- two runs on one file print of one answer
pub optimised_files : PrintedFileLaw → PrintedCertificateLaw → OptimisedDerivesLaw → OneOptimisedLaw → OptimisedFilesLaw
optimised_files nets certificates derives one told names held fit =
    let a = held.target in
    let b = held.certificate in
    let x : PrintsMade Optimised a.net W.Network held.target_file = a.tells in
    let y : PrintsMade Optimised b.net W.Certificate held.certificate_file = b.tells in
    let source : a.net ≡ b.net = one_of_file (told names.source) a.net b.net held.source_told a.network b.network in
    let other : Optimised a.net y.net y.steps = subst (λ t. Optimised t y.net y.steps) (sym source) y.made in
    let same : (x.net ≡ y.net) × (x.steps ≡ y.steps) = one a.net x.net y.net x.steps y.steps x.made other in
    derives_files nets certificates derives told names a.net x.net y.steps a.network
    (typed_of (told names.source) a.net held.source_told a.network) (subst (λ ss. Optimised a.net x.net ss) same.1 x.made)
    (held.target_told ∙ ap Some x.printed) (held.certificate_told ∙ ap Some y.printed) fit
