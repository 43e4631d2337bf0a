-- A word is one position at most, and is read as one where it is.
use Rattle.std.proofs.Common.{◌≡◌, ◌≢◌, ◌∙◌, ◌≤◌, ◌++◌, ℕ, List, [], ◌∷◌, Option, Some, None, Result, Ok, Err, refl, sym, ap, subst, arith, codes, length, length-append, ◌+◌}
use Rattle.std.proofs.lemmas.Fmt.{decimal_digit}
use Rattle.std.specs.Result.{IfOk}
use Rattle.leaf_expr.specs.Sexpr.{depths}
use Rattle.leaf_expr.specs.declared.expr_reader.TheConstants.{MOST_LENGTH}
use Rattle.net_tree.specs.LawStep.{Step}
use Rattle.net_tree.specs.Position.{position_spelling}
use Rattle.net_text.specs.CertificateLaws.{IsCertificate}
use Rattle.net_text.specs.declared.fault.NetTextFault.{NetTextFault}
use Rattle.net_text.specs.declared.fault.NetTextFault.TheVariants as V
use Rattle.net_text.specs.CertificatePrinting.{StepFits, certificate_spelling, child_sexprs}
use Rattle.net_text.proofs.CertificateLines.{step_spelled}
use Rattle.net_text.proofs.CertificateRead.{one_certificate}
use Rattle.net_text.proofs.PrintedCertificate.{printed_certificate}
use Rattle.yampa_run.specs.Words.{IsPlace, IsPlaceIn, IsPlaceOfStep, TellsPlace, placed_file, step_at}
use Rattle.yampa_run.specs.declared.words.TheConstants.{MOST_PLACE}

-- child numbers nest no deeper than the position
pub flat : (p : List ℕ) → depths (child_sexprs p) ≡ 0
flat [] = refl
flat (k ∷ ks) = let e : depths (child_sexprs ks) ≡ 0 = flat ks in rw e refl

-- the file of a word that is a position is the printed certificate of a step there
file_of : (word p : List ℕ) → word ≡ position_spelling p → certificate_spelling (step_at p ∷ []) ≡ placed_file word
file_of word p e =
    ap (λ t. codes "laws 1\n" ++ t) (step_spelled (step_at p))
    ∙ ap (λ d. codes "laws 1\n" ++ (codes "(step " ++ ((codes "L" ++ d) ++ ((32 ∷ codes "forward" ++ 32 ∷ []) ++ (position_spelling p ++ codes ")\n")))))
    (decimal_digit 1 (omega arith)) ∙ ap placed_file (sym e)

fits : (p : List ℕ) (word : List ℕ) → IsPlace word p → StepFits (step_at p)
fits p word h = record {
  law = (omega arith, omega arith);
  position = h.1;
  given = tt;
  within = rw (flat p) (omega arith);
}

-- the file of a word that is a position is read as a step there
pub placed : (word p : List ℕ) → IsPlace word p → IsCertificate (placed_file word) (step_at p ∷ [])
placed word p h =
    subst (λ bs. IsCertificate bs (step_at p ∷ [])) (file_of word p h.2) (printed_certificate (step_at p ∷ []) (fits p word h, tt)
    (subst (λ bs. length bs ≤ MOST_LENGTH) (sym (file_of word p h.2)) short))
  where
    short : length (placed_file word) ≤ MOST_LENGTH
    short = let l : length word ≤ MOST_PLACE = h.0 in let m : length (word ++ codes ")\n") ≡ length word + 2 = length-append word (codes ")\n") in grind arith

abbrev first_position : List Step → List ℕ
first_position [] = []
first_position (s ∷ ss) = s.position

-- a word is one position at most
pub one_place : (at : Option (List ℕ)) (p q : List ℕ) → TellsPlace at p → TellsPlace at q → p ≡ q
one_place None p q h k = h ∙ sym k
one_place (Some word) p q h k =
    ap first_position (one_certificate (placed_file word) (step_at p ∷ []) (step_at q ∷ []) (placed word p h) (placed word q k))

-- a word whose file can't be read is no position
pub unread : (word p text : List ℕ) (f : NetTextFault) → f ≢ V.Memory
    → ((ss : List Step) → IsCertificate text ss → f ≢ V.Memory → ◌≡◌ {A = Result (List Step) NetTextFault} (Ok ss) (Err f)) → text ≡ placed_file word
    → IsPlace word p → ⊥
unread word p text f d only e h =
    let q = only (step_at p ∷ []) (subst (λ bs. IsCertificate bs (step_at p ∷ [])) (sym e) (placed word p h)) d in absurd (cc)

-- where the file of a word is read as steps, these tell its position
pub read_place : (word text : List ℕ) (steps : List Step) (place : Option (List ℕ)) → length word ≤ MOST_PLACE
    → ((ss : List Step) → IsCertificate text ss → ◌≡◌ {A = Result (List Step) NetTextFault} (Ok ss) (Ok steps)) → text ≡ placed_file word
    → IsPlaceOfStep word steps place → IsPlaceIn word place
read_place word text steps None short only e told = λ p h.
    told p h (sym (ok_is (only (step_at p ∷ []) (subst (λ bs. IsCertificate bs (step_at p ∷ [])) (sym e) (placed word p h)))))
  where
    ok_is : {A F : Type 0} {x y : A} → ◌≡◌ {A = Result A F} (Ok x) (Ok y) → x ≡ y
    ok_is q = cc
read_place word text steps (Some p) short only e told = (short, told.0, told.1)

pub all_read : {E : Type 0} (word text : List ℕ) (steps : List Step) (r : Result (Option (List ℕ)) E) → length word ≤ MOST_PLACE
    → ((ss : List Step) → IsCertificate text ss → ◌≡◌ {A = Result (List Step) NetTextFault} (Ok ss) (Ok steps)) → text ≡ placed_file word
    → IfOk r (IsPlaceOfStep word steps) → IfOk r (IsPlaceIn word)
all_read word text steps (Ok place) short only e told = read_place word text steps place short only e told
all_read word text steps (Err f) short only e told = tt
