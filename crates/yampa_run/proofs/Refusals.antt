-- Bytes are refused with one line, and have no network then. So nothing that can be done is refused,
-- but C that is too large.
use Rattle.std.proofs.Common.{◌≡◌, ◌≢◌, ◌≤◌, ℕ, Bool, true, false, List, arith, refl, sym, ap, ◌∙◌, subst, inl, inr, Option, Some, None, Result, Ok, Err, length}
use Rattle.std.specs.Prelude.{IsSome, string_bytes}
use Rattle.sample_core.specs.TypeTree.{TypeTree}
use Rattle.leaf_core.specs.Expression.{Expression}
use Rattle.net_tree.specs.Network.{Network}
use Rattle.net_tree.specs.LawStep.{Step}
use Rattle.net_meaning.specs.TypedNetwork.{TypedNetwork}
use Rattle.net_text.specs.CertificateLaws.{IsCertificate, IsCertificateFault}
use Rattle.net_text.specs.FileLaws.{IsFile, IsFileFault}
use Rattle.net_text.specs.declared.fault.NetTextFault.{NetTextFault}
use Rattle.net_text.specs.declared.fault.NetTextFault.TheVariants as V
use Rattle.net_text.proofs.CertificateRead.{certificate_fault_law, one_certificate, read_certificate_law}
use Rattle.net_text.proofs.FileRead.{read_file_law, file_fault_law, one_file}
use Rattle.net_types.proofs.Checks.{check_exact}
use Rattle.net_types.specs.Check.{check}
use Rattle.cert_check.specs.CheckAnswer.{BeginsCheck, CheckAnswer}
use Rattle.cert_check.specs.StepAnswers.{ApplyAnswer}
use Rattle.cert_check.specs.Derives.{Derives}
use Rattle.cert_check.specs.declared.answer.Accepted.{Accepted}
use Rattle.cert_check.specs.declared.answer.CheckFault.{CheckFault}
use Rattle.cert_check.specs.declared.answer.CheckFault.TheVariants as C
use Rattle.cert_check.proofs.OneAnswer.{one_answer}
use Rattle.cert_check.proofs.Taken.{applied}
use Rattle.cert_check.specs.declared.derivation.TheConstants.{MOST_STEPS}
use Rattle.net_meaning.specs.NetworkLimits.{WithinLimits}
use Rattle.net_view.specs.Listed.{IsThere}
use Rattle.net_view.specs.Trace.{TraceAnswer, first_steps}
use Rattle.yampa_run.specs.Words.{TellsFirst, TellsMost, TellsName}
use Rattle.yampa_run.proofs.Places.{one_place}
use Rattle.command_line.specs.CommandLine.{DerivationNames, LeadingNames, PrintingWords, RequestTree, types, run, outline, laws, optimise, check as checks, run_checked, apply, compile, compile_checked, request_in, AsksNothing}
use Rattle.yampa_run.specs.RefusalLines.{text_words, type_words}
use Rattle.yampa_run.specs.KnownFiles.{IsTold, KnownFiles}
use Rattle.yampa_run.specs.Loading.{HasNoNetwork, IsNetworkIn, IsNetworkOf, OneRefusalLaw, NoNetworkLaw, by_text, by_types}
use Rattle.yampa_run.specs.Check.{HasNoDerivation, HasNoSteps, IsChecked, IsDerivedIn, AreStepsOf, RefusesCheck, no_source, no_target, no_steps, not_accepted}
use Rattle.yampa_run.specs.Laws.{HasNoPlace, TellsLaws, no_place, no_network as no_such_network, not_there}
use Rattle.yampa_run.specs.Apply.{IsApplied, IsNoNumber, IsNotApplied, IsUnapplied, TellsApplied, no_number, without_source, without_steps, not_applied}
use Rattle.yampa_run.specs.Compile.{HasNoC, IsNoForm, IsNoMost, IsNoName, IsNotCheckedC, IsNotCompiled, TellsC, TellsCheckedC, bad_most, bad_name, checked_unformed, checked_without_c, unformed, without_c, without_derivation, without_network}
use Rattle.yampa_run.specs.Preparation.{AreTold, Fails, Meets, OnlyMemoryLaw, IsTooLarge}
use Rattle.yampa_run.specs.declared.refused.Role.{Role}
use Rattle.yampa_run.specs.declared.refused.Role.TheVariants as R
use Rattle.yampa_run.specs.declared.preparation.Job.{Job}
use Rattle.yampa_run.specs.declared.preparation.Job.TheVariants as J
use Rattle.yampa_run.specs.declared.preparation.Refusal.{Refusal}
use Rattle.yampa_run.specs.declared.preparation.Refusal.TheVariants as Refused
use Rattle.yampa_run.proofs.AppliedFiles.{typed_of}

err_is : {A F : Type 0} {x y : F} → ◌≡◌ {A = Result A F} (Err x) (Err y) → x ≡ y
err_is e = cc

not_ok : {A F : Type 0} {x : F} {y : A} → ◌≡◌ {A = Result A F} (Err x) (Ok y) → ⊥
not_ok e = cc

-- a file has no fault
no_fault : (bytes : List ℕ) (f : NetTextFault) (A : TypeTree) (net : Network Expression) → f ≢ V.Memory → IsFileFault bytes f → IsFile bytes A net → ⊥
no_fault bytes f A net d h i = not_ok (sym ((file_fault_law bytes f d).1 h) ∙ (read_file_law bytes A net).1 i)

pub one_refusal : OneRefusalLaw
one_refusal r bytes line other (by_text f d h e) (by_text g c i j) =
    e ∙ ap (text_words r) (err_is (sym ((file_fault_law bytes f d).1 h) ∙ (file_fault_law bytes g c).1 i)) ∙ sym j
one_refusal r bytes line other (by_text f d h e) (by_types A net g i c j) = absurd (no_fault bytes f A net d h i)
one_refusal r bytes line other (by_types A net g i c j) (by_text f d h e) = absurd (no_fault bytes f A net d h i)
one_refusal r bytes line other (by_types A net f h c e) (by_types B body g i d j) =
    let same : (A ≡ B) × (net ≡ body) = one_file bytes A B net body h i in
    let checks : check A net ≡ check B body = λ k. check (same.0 k) (same.1 k) in
    e ∙ ap (type_words r) (err_is (sym c ∙ checks ∙ d)) ∙ sym j

pub no_network : NoNetworkLaw
no_network r bytes line t (by_text f d h e) n = no_fault bytes f t.input t.net d h n.file
no_network r bytes line t (by_types A net f h c e) n =
    let same = one_file bytes t.input A t.net net n.file h in
    not_ok (sym c ∙ (check_exact A net t).1 (same.0, same.1, n.typed))

-- bytes have one network
one_network : (bytes : List ℕ) (t u : TypedNetwork) → IsNetworkIn bytes t → IsNetworkIn bytes u → t ≡ u
one_network bytes t u n m =
    let same = one_file bytes u.input t.input u.net t.net m.file n.file in
    let a : check t.input t.net ≡ Ok t = (check_exact t.input t.net t).1 (refl, refl, n.typed) in
    let b : check t.input t.net ≡ Ok u = (check_exact t.input t.net u).1 (same.0, same.1, m.typed) in
    ok_is (sym a ∙ b)
  where
    ok_is : {A F : Type 0} {x y : A} → ◌≡◌ {A = Result A F} (Ok x) (Ok y) → x ≡ y
    ok_is e = cc

-- a certificate file has no fault
no_certificate_fault : (bytes : List ℕ) (f : NetTextFault) (steps : List Step) → f ≢ V.Memory → IsCertificateFault bytes f → IsCertificate bytes steps → ⊥
no_certificate_fault bytes f steps d h i = not_ok (sym ((certificate_fault_law bytes f d).1 h) ∙ (read_certificate_law bytes steps).1 i)

-- where steps derive the target, a check tells no fault
no_check_fault : (source target : TypedNetwork) (steps : List Step) (f : CheckFault) → f ≢ C.Memory → Derives source target steps
    → CheckAnswer source target steps (Err f) → ⊥
no_check_fault source target steps f d h a =
    let accepted : Accepted = record { steps = length steps } in
    not_ok (one_answer source target steps (Err f) (Ok accepted) a (h, refl) (λ e. d (err_is e)) (λ e. not_ok (sym e)))

-- a file whose bytes are told and have a network isn't refused with a line
no_file : (r : Role) (known : Option (List ℕ)) (t : TypedNetwork) (refusal : Refusal) → refusal ≢ Refused.Memory → IsTold known → IsNetworkOf known t
    → HasNoNetwork r known refusal → ⊥
no_file r known t Refused.Memory d k n h = d refl
no_file r known t (Refused.Line status line) d (bytes, e) n h =
    go (subst (λ o. IsNetworkOf o t) e n) (subst (λ o. HasNoNetwork r o (Refused.Line status line)) e h)
  where
    go : IsNetworkIn bytes t → HasNoNetwork r (Some bytes) (Refused.Line status line) → ⊥
    go i (inl u) = let q : Some bytes ≡ None = u.1 in absurd (cc)
    go i (inr w) = no_network r bytes (string_bytes line) t w.1 i

-- and so it is of a certificate's steps
no_certificate : (known : Option (List ℕ)) (steps : List Step) (refusal : Refusal) → refusal ≢ Refused.Memory → IsTold known → AreStepsOf known steps
    → HasNoSteps known refusal → ⊥
no_certificate known steps Refused.Memory d k n h = d refl
no_certificate known steps (Refused.Line status line) d (bytes, e) n h =
    go (subst (λ o. AreStepsOf o steps) e n) (subst (λ o. HasNoSteps o (Refused.Line status line)) e h)
  where
    go : IsCertificate bytes steps → HasNoSteps (Some bytes) (Refused.Line status line) → ⊥
    go i (inl u) = let q : Some bytes ≡ None = u.1 in absurd (cc)
    go i (inr w) = no_certificate_fault bytes w.1.0 steps w.1.1 w.1.2 i

pub one_of_file : (known : Option (List ℕ)) (t u : TypedNetwork) → IsTold known → IsNetworkOf known t → IsNetworkOf known u → t ≡ u
one_of_file known t u (bytes, e) n m = one_network bytes t u (subst (λ o. IsNetworkOf o t) e n) (subst (λ o. IsNetworkOf o u) e m)

same_steps : (known : Option (List ℕ)) (ss us : List Step) → IsTold known → AreStepsOf known ss → AreStepsOf known us → ss ≡ us
same_steps known ss us (bytes, e) n m = one_certificate bytes ss us (subst (λ o. AreStepsOf o ss) e n) (subst (λ o. AreStepsOf o us) e m)

tells_fault : (f : CheckFault) (refusal : Refusal) → refusal ≢ Refused.Memory → RefusesCheck f refusal → f ≢ C.Memory
tells_fault f Refused.Memory d h = absurd (d refl)
tells_fault f (Refused.Line status line) d h = h.0

no_derivation : (told : KnownFiles) (names : DerivationNames) (t : TypedNetwork) (count : ℕ) (refusal : Refusal) → refusal ≢ Refused.Memory
    → AreTold told (run_checked names) → IsDerivedIn told names t count → HasNoDerivation told names refusal → ⊥
no_derivation told names t count refusal m k d (no_source h) = no_file R.Source (told names.source) d.source refusal m k.0 d.files.is_source h
no_derivation told names t count refusal m k d (no_target source i h) = no_file R.Target (told names.target) t refusal m k.1 d.files.is_target h
no_derivation told names t count refusal m k d (no_steps source target i j h) =
    no_certificate (told names.certificate) d.steps refusal m k.2 d.files.are_steps h
no_derivation told names t count refusal m k d (not_accepted source target steps files f a h) =
    let x : source ≡ d.source = one_of_file (told names.source) source d.source k.0 files.is_source d.files.is_source in
    let y : target ≡ t = one_of_file (told names.target) target t k.1 files.is_target d.files.is_target in
    let z : steps ≡ d.steps = same_steps (told names.certificate) steps d.steps k.2 files.are_steps d.files.are_steps in
    no_check_fault d.source t d.steps f (tells_fault f refusal m h) d.derives
    (subst (λ s. CheckAnswer s t d.steps (Err f)) x (subst (λ u. CheckAnswer source u d.steps (Err f)) y
    (subst (λ ss. CheckAnswer source target ss (Err f)) z a)))

-- the steps that may be taken at a place that is there are printed
no_place_fails : (known at : Option (List ℕ)) (text : List ℕ) (refusal : Refusal) → refusal ≢ Refused.Memory → IsTold known → TellsLaws known at text
    → HasNoPlace known at refusal → ⊥
no_place_fails known at text Refused.Memory m k n f = m refl
no_place_fails known at text (Refused.Line status line) m k n (no_place h) = h.0 n.place n.place_is
no_place_fails known at text (Refused.Line status line) m k n (no_such_network p i h) = no_file R.Network known n.net (Refused.Line status line) m k n.network h
no_place_fails known at text (Refused.Line status line) m k n (not_there net p i j h) =
    let x : net ≡ n.net = one_of_file known net n.net k i n.network in
    let y : p ≡ n.place = one_place at p n.place j n.place_is in
    h.0 (subst (λ t. IsThere t p) (sym x) (subst (λ q. IsThere n.net q) (sym y) n.tells.0))

-- where steps lead to a network, a check of them tells no fault
no_step_fault : (source last : TypedNetwork) (steps : List Step) (f : CheckFault) → f ≢ C.Memory → WithinLimits source
    → ApplyAnswer source steps (Ok last) → ApplyAnswer source steps (Err f) → ⊥
no_step_fault source last steps f d l a b =
    let there : Derives source last steps × WithinLimits last = applied source last steps a l in
    no_check_fault source last steps f d there.0 (go f b)
  where
    begins : BeginsCheck source last steps
    begins = let there : Derives source last steps × WithinLimits last = applied source last steps a l in
        record { same_input = there.0.same_input; few = a.0 }

    go : (g : CheckFault) → ApplyAnswer source steps (Err g) → CheckAnswer source last steps (Err g)
    go C.InputsDiffer b = absurd b.1
    go C.TooManySteps b = absurd (omega (arith, a.0, b))
    go (C.NoPosition n) b = (begins, b.1)
    go (C.NoMatch n) b = (begins, b.1)
    go (C.IllTyped n) b = (begins, b.1)
    go C.EndsElsewhere b = absurd b.1
    go C.Memory b = begins

-- what is shown of at most 10,000 steps is no fault
no_trace_fault : (source : TypedNetwork) (steps : List Step) (f : CheckFault) → f ≢ C.Memory → length steps ≤ MOST_STEPS → TraceAnswer source steps (Err f) → ⊥
no_trace_fault source steps C.TooManySteps d few b = omega (arith, few, b)
no_trace_fault source steps C.Memory d few b = d refl
no_trace_fault source steps C.InputsDiffer d few b = b
no_trace_fault source steps (C.NoPosition n) d few b = b
no_trace_fault source steps (C.NoMatch n) d few b = b
no_trace_fault source steps (C.IllTyped n) d few b = b
no_trace_fault source steps C.EndsElsewhere d few b = b

-- steps of which something is printed aren't refused
no_unapplied : (source : TypedNetwork) (steps : List Step) (shows : Bool) (job : Job) (f : CheckFault) → f ≢ C.Memory → WithinLimits source
    → IsApplied source steps shows job → IsUnapplied source steps shows f → ⊥
no_unapplied source steps false (J.Print text) f d l n u = no_step_fault source n.last steps f d l n.applied u
no_unapplied source steps false (J.Run t) f d l n u = n
no_unapplied source steps false (J.PrintAndRefuse text line) f d l n u = n
no_unapplied source steps true (J.Print text) f d l n u = no_trace_fault source steps f d n.0 u
no_unapplied source steps true (J.Run t) f d l n u = n
no_unapplied source steps true (J.PrintAndRefuse text line) f d l n u = no_trace_fault source steps f d n.shows.0 u

none_is_some : IsSome {T = ℕ} None → ⊥
none_is_some e = cc

-- a word that tells a number of steps isn't refused
no_number_fails : (word : Option (List ℕ)) (first : Option ℕ) (refusal : Refusal) → TellsFirst word first → IsNoNumber word refusal → ⊥
no_number_fails None first refusal t h = h
no_number_fails (Some word) first refusal t h = none_is_some (subst (λ o. IsSome o) (t.1 ∙ h.0) t.0)

one_first : (word : Option (List ℕ)) (first other : Option ℕ) → TellsFirst word first → TellsFirst word other → first ≡ other
one_first None first other t u = t ∙ sym u
one_first (Some word) first other t u = t.1 ∙ sym u.1

no_applied_fails : (told : KnownFiles) (names : LeadingNames) (job : Job) (refusal : Refusal) → refusal ≢ Refused.Memory → AreTold told (apply names)
    → TellsApplied told names job → IsNotApplied told names refusal → ⊥
no_applied_fails told names job refusal m k n (no_number h) = no_number_fails names.first n.leading.first refusal n.leading.is_first h
no_applied_fails told names job refusal m k n (without_source first t h) = no_file R.Source (told names.source) n.source refusal m k.0 n.leading.is_source h
no_applied_fails told names job refusal m k n (without_steps first t source i h) =
    no_certificate (told names.certificate) n.leading.all refusal m k.1 n.leading.are_steps h
no_applied_fails told names job refusal m k n (not_applied source steps l h) =
    let x : source ≡ n.source = one_of_file (told names.source) source n.source k.0 l.is_source n.leading.is_source in
    let y : l.all ≡ n.leading.all = same_steps (told names.certificate) l.all n.leading.all k.1 l.are_steps n.leading.are_steps in
    let z : l.first ≡ n.leading.first = one_first names.first l.first n.leading.first l.is_first n.leading.is_first in
    let s : steps ≡ n.steps = l.leading ∙ ap (λ o. first_steps o l.all) z ∙ ap (first_steps n.leading.first) y ∙ sym n.leading.leading in
    no_unapplied n.source n.steps names.shows job h.fault (tells_fault h.fault refusal m h.refuses)
    (typed_of (told names.source) n.source k.0 n.leading.is_source) n.applied
    (subst (λ t. IsUnapplied t n.steps names.shows h.fault) x (subst (λ ss. IsUnapplied source ss names.shows h.fault) s h.unapplied))

-- a word that tells what names begin with isn't refused
no_name_fails : (word : Option (List ℕ)) (name : List ℕ) (refusal : Refusal) → TellsName word name → IsNoName word refusal → ⊥
no_name_fails None name refusal t h = h
no_name_fails (Some word) name refusal t h = let q : true ≡ false = sym t.1 ∙ h.0 in absurd (cc)

-- nor one that tells how many elements a list may have
no_most_fails : (word : Option (List ℕ)) (most : ℕ) (refusal : Refusal) → TellsMost word most → IsNoMost word refusal → ⊥
no_most_fails None most refusal t h = h
no_most_fails (Some word) most refusal t h = let q : Some most ≡ None = sym t ∙ h.0 in absurd (cc)

no_form_fails : (words : PrintingWords) (name : List ℕ) (most : ℕ) (refusal : Refusal) → TellsName words.name name
    → TellsMost words.most most → IsNoForm words refusal → ⊥
no_form_fails words name most refusal t u (bad_name h) = no_name_fails words.name name refusal t h
no_form_fails words name most refusal t u (bad_most h) = no_most_fails words.most most refusal u h

-- C that can be printed of a file is refused only where it is too large
too_large : (known : Option (List ℕ)) (words : PrintingWords) (text : List ℕ) (refusal : Refusal) → refusal ≢ Refused.Memory → IsTold known
    → TellsC known words text → IsNotCompiled known words refusal → (t : TypedNetwork) × IsNetworkOf known t × HasNoC t words refusal
too_large known words text refusal m k n (unformed h) = absurd (no_form_fails words n.prints.name n.prints.most refusal n.prints.name_is n.prints.most_is h)
too_large known words text refusal m k n (without_network f h) = absurd (no_file R.Network known n.net refusal m k n.network h)
too_large known words text refusal m k n (without_c net f i h) = (net, i, h)

checked_too_large : (told : KnownFiles) (names : DerivationNames) (words : PrintingWords) (text : List ℕ) (refusal : Refusal) → refusal ≢ Refused.Memory
    → AreTold told (run_checked names) → TellsCheckedC told names words text → IsNotCheckedC told names words refusal
    → (t : TypedNetwork) × IsChecked told names t × HasNoC t words refusal
checked_too_large told names words text refusal m k n (checked_unformed h) =
    absurd (no_form_fails words n.prints.name n.prints.most refusal n.prints.name_is n.prints.most_is h)
checked_too_large told names words text refusal m k n (without_derivation f h) =
    absurd (no_derivation told names n.net n.is_checked.count refusal m k n.is_checked.derived h)
checked_too_large told names words text refusal m k n (checked_without_c net f i h) = (net, i, h)

not_failed : (told : KnownFiles) (what : RequestTree) (job : Job) (refusal : Refusal) → refusal ≢ Refused.Memory → AreTold told what
    → Meets told what job → Fails told what refusal → IsTooLarge told what refusal
not_failed told (types name) (J.Print text) refusal m k n f = no_file R.Network (told name) n.net refusal m k n.network f
not_failed told (types name) (J.Run t) refusal m k n f = n
not_failed told (types name) (J.PrintAndRefuse text line) refusal m k n f = n
not_failed told (run name) (J.Print text) refusal m k n f = n
not_failed told (run name) (J.Run t) refusal m k n f = no_file R.Network (told name) t refusal m k n f
not_failed told (run name) (J.PrintAndRefuse text line) refusal m k n f = n
not_failed told (outline name) (J.Print text) refusal m k n f = no_file R.Network (told name) n.net refusal m k n.network f
not_failed told (outline name) (J.Run t) refusal m k n f = n
not_failed told (outline name) (J.PrintAndRefuse text line) refusal m k n f = n
not_failed told (laws at name) (J.Print text) refusal m k n f = no_place_fails (told name) at (string_bytes text) refusal m k n f
not_failed told (laws at name) (J.Run t) refusal m k n f = n
not_failed told (laws at name) (J.PrintAndRefuse text line) refusal m k n f = n
not_failed told (optimise wanted name) (J.Print text) refusal m k n f = no_file R.Network (told name) n.net refusal m k n.network f
not_failed told (optimise wanted name) (J.Run t) refusal m k n f = n
not_failed told (optimise wanted name) (J.PrintAndRefuse text line) refusal m k n f = n
not_failed told (checks names) (J.Print text) refusal m k n f = no_derivation told names n.target n.count refusal m k n.derived f
not_failed told (checks names) (J.Run t) refusal m k n f = n
not_failed told (checks names) (J.PrintAndRefuse text line) refusal m k n f = n
not_failed told (run_checked names) (J.Print text) refusal m k n f = n
not_failed told (run_checked names) (J.Run t) refusal m k n f = no_derivation told names t n.count refusal m k n.derived f
not_failed told (run_checked names) (J.PrintAndRefuse text line) refusal m k n f = n
not_failed told (apply names) job refusal m k n f = no_applied_fails told names job refusal m k n f
not_failed told (compile words name) (J.Print text) refusal m k n f = too_large (told name) words (string_bytes text) refusal m k n f
not_failed told (compile words name) (J.Run t) refusal m k n f = absurd n
not_failed told (compile words name) (J.PrintAndRefuse text line) refusal m k n f = absurd n
not_failed told (compile_checked words names) (J.Print text) refusal m k n f = checked_too_large told names words (string_bytes text) refusal m k n f
not_failed told (compile_checked words names) (J.Run t) refusal m k n f = absurd n
not_failed told (compile_checked words names) (J.PrintAndRefuse text line) refusal m k n f = absurd n

nothing_asked : (words : List (List ℕ)) (what : RequestTree) → request_in words ≡ Some what → AsksNothing words → ⊥
unfolding AsksNothing
nothing_asked words what e h = let q : request_in words ≡ None = h.0 in absurd (cc)

pub only_memory : OnlyMemoryLaw
only_memory told words what job Refused.Memory asks known n h = inl refl
only_memory told words what job (Refused.Line status line) asks known n (inl h) = absurd (nothing_asked words what asks h.1)
only_memory told words what job (Refused.Line status line) asks known n (inr h) =
    let again : request_in words ≡ Some h.what = h.asks in
    let same : h.what ≡ what = cc in
    let fails : Fails told what (Refused.Line status line) = subst (λ w. Fails told w (Refused.Line status line)) same h.fails in
    inr (not_failed told what job (Refused.Line status line) (λ q. cc) known n fails)
