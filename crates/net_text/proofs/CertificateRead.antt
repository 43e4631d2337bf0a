-- The reader of certificates answers exactly the certificate files, and why bytes are none.
use Rattle.std.proofs.Common.{◌≡◌, ◌≢◌, ℕ, zero, suc, ◌≤◌, ◌<◌, List, [], ◌∷◌, ◌++◌, length, refl, sym, ap, ◌∙◌, subst, Option, Some, Result, Ok, Err, IfOk, arith, append_assoc}
use Rattle.std.specs.Prelude.{codes, IfErr}
use Rattle.std.proofs.lemmas.List.{append-nil}
use Rattle.leaf_expr.specs.Token.{closing, word, PlacedToken, tokens}
use Rattle.leaf_expr.proofs.ReadFound.{bind_ok, ok_is}
use Rattle.leaf_expr.proofs.ReadOnly.{shorter, some_bind}
use Rattle.leaf_expr.proofs.ReadFaults.{stops_not_long}
use Rattle.leaf_core.specs.Expression.{Expression}
use Rattle.net_tree.specs.Place.{Tree}
use Rattle.net_tree.specs.LawStep.{Step}
use Rattle.net_tree.specs.declared.law_step.Law.{Law}
use Rattle.net_text.specs.Grammar.{Version, version_1, version_2, version_3, version_4, networks}
use Rattle.net_text.specs.StepGrammar.{step_parts, law_sort, direction_sort, position_sort}
use Rattle.net_text.specs.File.{behind_word, behind_version}
use Rattle.net_text.specs.Printing.{version_word}
use Rattle.net_text.specs.Certificate.{given_sort, behind_laws, read_step, read_steps, read_all_steps, read_certificate}
use Rattle.net_text.specs.CertificateLaws.{laws_tokens, step_tokens, HasLaws, IsGiven, no_tree, one_tree, IsStep, AreSteps, no_step, a_step, IsCertificate, missing, other, NoStep, unopened, unnamed, no_law, no_direction, no_position, no_end, unclosed, NoSteps, NoCertificate, IsCertificateFault, ReadCertificateLaw, OneCertificateLaw, CertificateFaultLaw}
use Rattle.net_text.specs.declared.fault.NetTextFault.{NetTextFault}
use Rattle.net_text.specs.declared.fault.NetTextFault.TheVariants as V
use Rattle.net_text.proofs.FileRead.{word_found, version_found}
use Rattle.net_text.proofs.HeadedText.{Behind, headed_found, headed_read, headed_fault, headed_refuses, headed_told, one_reading}
use Rattle.net_text.proofs.StepRead.{bind_on, bind_gone, bind_err, step_read, step_found, step_refused, refuses_step}
use Rattle.net_text.specs.ReadCertificate.{GivesSteps}
use Rattle.net_text.specs.declared.certificate_reader.TheConstants.{STEP_ROOM}
use Rattle.sample_core.specs.Answer.{◌>>=◌}
use Rattle.leaf_expr.specs.declared.text_fault.ExprTextFault.{ExprTextFault}
use Rattle.leaf_expr.specs.declared.text_fault.ExprTextFault.TheVariants as E
use Rattle.leaf_expr.specs.declared.expr_reader.TheConstants.{MOST_LENGTH}

-- a step takes some tokens
given_shortens : (v : Version) (law : Law) (o : Option (Tree Expression)) (ts rest : List PlacedToken) → IsGiven v law o ts rest → length rest < length ts
given_shortens v law o ts rest (no_tree n us) = omega arith
given_shortens v law o ts rest (one_tree t n m us vs b) =
    let i : length ((m, closing) ∷ rest) < length ts = shorter b.part ts n ((m, closing) ∷ rest) b.spells in omega arith

is_shorter : (v : Version) (s : Step) (ts rest : List PlacedToken) → IsStep v s ts rest → length rest < length ts
is_shorter v s ts rest h =
    let f = h.front in
    let a : length ts ≡ length (step_tokens f.opened f.named f.behind_name) = ap length f.starts in
    let b : length f.behind_law < length f.behind_name = shorter f.is_law.part f.behind_name f.law_end f.behind_law f.is_law.spells in
    let c : length f.behind_direction < length f.behind_law = shorter f.is_direction.part f.behind_law f.direction_end f.behind_direction f.is_direction.spells in
    let d : length h.behind < length f.behind_direction = shorter f.is_position.part f.behind_direction f.position_end h.behind f.is_position.spells in
    let e : length rest < length h.behind = given_shortens v s.law s.given h.behind rest h.ends in
    omega arith

-- steps behind others
abbrev pub with_steps : List Step → Result (List Step) ExprTextFault → Result (List Step) ExprTextFault
with_steps front r = r >>= (λ ss. Ok (front ++ ss))

with_none : (r : Result (List Step) ExprTextFault) → with_steps [] r ≡ r
with_none (Ok ss) = refl
with_none (Err e) = refl

with_one : (s : Step) (ss : List Step) (r : Result (List Step) ExprTextFault) → (with_steps ss r >>= (λ us. Ok (s ∷ us))) ≡ with_steps (s ∷ ss) r
with_one s ss (Ok us) = refl
with_one s ss (Err e) = refl

with_more : (front : List Step) (s : Step) (r : Result (List Step) ExprTextFault)
    → with_steps (front ++ s ∷ []) r ≡ with_steps front (r >>= (λ ss. Ok (s ∷ ss)))
with_more front s (Ok ss) = ap (λ us. Ok us) (append_assoc front (s ∷ []) ss)
with_more front s (Err e) = refl

-- in a text of so many bytes
module _ (size : ℕ) (v : Version) where
  pub step_shortens : (ts : List PlacedToken) (x : Step × List PlacedToken) → read_step size v ts ≡ Ok x → length x.1 < length ts
  step_shortens ts x e = is_shorter v x.0 ts x.1 (step_found size v ts x e)

  -- the steps behind a step, with it before them
  abbrev pub and_behind : ℕ → Step × List PlacedToken → Result (List Step) ExprTextFault
  and_behind n s = read_steps size v n s.1 >>= (λ ss. Ok (s.0 ∷ ss))

  -- the count of steps is no bound
  count : (n m : ℕ) (ts : List PlacedToken) → length ts ≤ n → length ts ≤ m → read_steps size v n ts ≡ read_steps size v m ts
  count n m [] l k = refl
  count zero m (t ∷ ts) l k = absurd (omega arith)
  count (suc n) zero (t ∷ ts) l k = absurd (omega arith)
  count (suc n) (suc m) (t ∷ ts) l k = go (λ us. count n m us) (read_step size v (t ∷ ts)) refl
    where
      go : ((us : List PlacedToken) → length us ≤ n → length us ≤ m → read_steps size v n us ≡ read_steps size v m us)
          → (r : Result (Step × List PlacedToken) ExprTextFault) → read_step size v (t ∷ ts) ≡ r → (r >>= and_behind n) ≡ (r >>= and_behind m)
      go same (Err e) p = refl
      go same (Ok x) p = let i : length x.1 < length (t ∷ ts) = step_shortens (t ∷ ts) x p in
          ap (λ r. r >>= (λ ss. Ok (x.0 ∷ ss))) (same x.1 (omega arith) (omega arith))

  -- one step, and then the others
  pub one_more : (t : PlacedToken) (ts us : List PlacedToken) (s : Step) → read_step size v (t ∷ ts) ≡ Ok (s, us)
      → read_all_steps size v (t ∷ ts) ≡ (read_all_steps size v us >>= (λ ss. Ok (s ∷ ss)))
  one_more t ts us s e = let l : length us < length (t ∷ ts) = step_shortens (t ∷ ts) (s, us) e in
      bind_on (read_step size v (t ∷ ts)) (and_behind (length ts)) (s, us) _ e
      (ap (λ r. r >>= (λ ss. Ok (s ∷ ss))) (count (length ts) (length us) us (omega arith) (omega arith)))

  pub no_more : (t : PlacedToken) (ts : List PlacedToken) (e : ExprTextFault) → read_step size v (t ∷ ts) ≡ Err e → read_all_steps size v (t ∷ ts) ≡ Err e
  no_more t ts e p = bind_gone (read_step size v (t ∷ ts)) (and_behind (length ts)) e p

  -- steps that stand at the front are read, and then what follows
  all_read : (ss : List Step) (ts rest : List PlacedToken) → AreSteps v ss ts rest → read_all_steps size v ts ≡ with_steps ss (read_all_steps size v rest)
  all_read ss ts rest (no_step us) = sym (with_none (read_all_steps size v ts))
  all_read ss [] rest (a_step s us vs mid ws h hs) = let i : length mid < 0 = is_shorter v s [] mid h in absurd (omega arith)
  all_read ss (t ∷ ts) rest (a_step s us vs mid ws h hs) = one_more t ts mid s (step_read size v s (t ∷ ts) mid h)
      ∙ ap (λ r. r >>= (λ ss. Ok (s ∷ ss))) (all_read us mid rest hs) ∙ with_one s us (read_all_steps size v rest)

  pub steps_more : (front new : List Step) (s : Step) (ts us : List PlacedToken) (all : Result (List Step) ExprTextFault)
      → with_steps front (read_all_steps size v ts) ≡ all → read_step size v ts ≡ Ok (s, us) → new ≡ front ++ s ∷ []
      → with_steps new (read_all_steps size v us) ≡ all
  steps_more front new s [] us all e r n = absurd (cc)
  steps_more front new s (t ∷ ts) us all e r n = ap (λ ss. with_steps ss (read_all_steps size v us)) n ∙ with_more front s (read_all_steps size v us)
      ∙ ap (with_steps front) (sym (one_more t ts us s r)) ∙ e

  all_found : (n : ℕ) (ts : List PlacedToken) (ss : List Step) → read_steps size v n ts ≡ Ok ss → AreSteps v ss ts []
  all_found n [] ss e = subst (λ us. AreSteps v us [] []) (ok_is e) (no_step [])
  all_found zero (t ∷ ts) ss e = absurd (cc)
  all_found (suc n) (t ∷ ts) ss e =
      let i : (x : Step × List PlacedToken) × (read_step size v (t ∷ ts) ≡ Ok x) × (and_behind n x ≡ Ok ss) =
      bind_ok (read_step size v (t ∷ ts)) (and_behind n) ss e in
      let j : (us : List Step) × (read_steps size v n i.0.1 ≡ Ok us) × (◌≡◌ {A = Result (List Step) ExprTextFault} (Ok (i.0.0 ∷ us)) (Ok ss)) =
      bind_ok (read_steps size v n i.0.1) _ ss i.2 in
      subst (λ us. AreSteps v us (t ∷ ts) []) (ok_is j.2)
      (a_step i.0.0 j.0 (t ∷ ts) i.0.1 [] (step_found size v (t ∷ ts) i.0 i.1) (all_found n i.0.1 j.0 j.1))

  with_step : (s : Step) (ts mid : List PlacedToken) (e : ExprTextFault) → IsStep v s ts mid → NoSteps v size mid e → NoSteps v size ts e
  with_step s ts mid e h n =
      record {
        before = s ∷ n.before;
        next = n.next;
        after = n.after;
        steps = a_step s n.before ts mid (n.next ∷ n.after) h n.steps;
        stops = n.stops;
      }

  all_refused : (n : ℕ) (ts : List PlacedToken) (e : ExprTextFault) → length ts ≤ n → read_steps size v n ts ≡ Err e → NoSteps v size ts e
  all_refused n [] e l p = absurd (cc)
  all_refused zero (t ∷ ts) e l p = absurd (omega arith)
  all_refused (suc n) (t ∷ ts) e l p =
      bind_err (read_step size v (t ∷ ts)) (and_behind n) e p
      (λ q. record { before = []; next = t; after = ts; steps = no_step (t ∷ ts); stops = step_refused size v (t ∷ ts) e q })
      (λ x q r. let i : length x.1 < length (t ∷ ts) = step_shortens (t ∷ ts) x q in
      bind_err (read_steps size v n x.1) _ e r (λ h. with_step x.0 (t ∷ ts) x.1 e (step_found size v (t ∷ ts) x q) (all_refused n x.1 e (omega arith) h))
      (λ y h k. absurd (cc)))

  refuses_all : (ts : List PlacedToken) (e : ExprTextFault) → NoSteps v size ts e → read_all_steps size v ts ≡ Err e
  refuses_all ts e n = all_read n.before ts (n.next ∷ n.after) n.steps
      ∙ ap (with_steps n.before) (no_more n.next n.after e (refuses_step size v (n.next ∷ n.after) e n.stops))

  not_long : (ts : List PlacedToken) → NoStep v size ts E.TooLong → ⊥
  not_long ts (unopened (missing p q)) = cc
  not_long ts (unopened (other x us p d q)) = cc
  not_long ts (unnamed a us s (missing p q)) = cc
  not_long ts (unnamed a us s (other x vs p d q)) = cc
  not_long ts (no_law a b us s h) = stops_not_long (step_parts v) size STEP_ROOM law_sort us h
  not_long ts (no_direction a b n law us vs s l h) = stops_not_long (step_parts v) size STEP_ROOM direction_sort vs h
  not_long ts (no_position a b n m law direction us vs ws s l d h) = stops_not_long (step_parts v) size STEP_ROOM position_sort ws h
  not_long ts (no_end law direction at us f b h) = stops_not_long (networks v) size STEP_ROOM (given_sort law) us h
  not_long ts (unclosed law direction at us f t n vs b (missing p q)) = cc
  not_long ts (unclosed law direction at us f t n vs b (other x ws p d q)) = cc

laws_found : (v : Version) (ts us : List PlacedToken) → behind_laws ts ≡ Some (v, us) → (a : ℕ) × (b : ℕ) × (ts ≡ laws_tokens v a b us)
laws_found v ts us e =
    let i : (vs : List PlacedToken) × (behind_word (codes "laws") ts ≡ Some vs) × (behind_version vs ≡ Some (v, us)) =
    some_bind (behind_word (codes "laws") ts) behind_version (v, us) e in
    let p : (a : ℕ) × (ts ≡ (a, word (codes "laws")) ∷ i.0) = word_found (codes "laws") ts i.0 i.1 in
    let q : (b : ℕ) × (i.0 ≡ (b, word (version_word v)) ∷ us) = version_found v i.0 us i.2 in
    (p.0, q.0, p.1 ∙ ap (λ vs. (p.0, word (codes "laws")) ∷ vs) q.1)

-- the version that a header names is the one that it has
laws_name : (v : Version) (a b : ℕ) (ts : List PlacedToken) → behind_laws (laws_tokens v a b ts) ≡ Some (v, ts)
laws_name version_1 a b ts = refl
laws_name version_2 a b ts = refl
laws_name version_3 a b ts = refl
laws_name version_4 a b ts = refl

module _ (bs : List ℕ) where
  has_laws : (v : Version) (ts : List PlacedToken) → HasLaws bs v ts → behind_laws (tokens bs) ≡ Some (v, ts)
  has_laws v ts h = ap behind_laws h.starts ∙ laws_name v h.laws h.number ts

  headed_by : (v : Version) (ts : List PlacedToken) → behind_laws (tokens bs) ≡ Some (v, ts) → HasLaws bs v ts
  headed_by v ts e = let i : (a : ℕ) × (b : ℕ) × (tokens bs ≡ laws_tokens v a b ts) = laws_found v (tokens bs) ts e in
      record { laws = i.0; number = i.1; starts = i.2 }

  steps_behind : (ss : List Step) → IsCertificate bs ss → Behind behind_laws read_all_steps bs (Ok ss)
  steps_behind ss h =
      record {
        short = h.short;
        version = h.version;
        behind = h.behind;
        headed = has_laws h.version h.behind h.headed;
        reads = all_read (length bs) h.version ss h.behind [] h.steps ∙ ap (λ us. Ok us) (append-nil ss);
      }

  wrong : (e : ExprTextFault) → Behind behind_laws read_all_steps bs (Err e) → NoCertificate bs e
  wrong e b =
      record {
        version = b.version;
        behind = b.behind;
        headed = headed_by b.version b.behind b.headed;
        stops = all_refused (length bs) b.version (length b.behind) b.behind e (omega arith) b.reads;
      }

  long : NoCertificate bs E.TooLong → ⊥
  long n = not_long (length bs) n.version (n.stops.next ∷ n.stops.after) n.stops.stops

  refuse : (e : ExprTextFault) → length bs ≤ MOST_LENGTH → NoCertificate bs e → Behind behind_laws read_all_steps bs (Err e)
  refuse e l n =
      record {
        short = l;
        version = n.version;
        behind = n.behind;
        headed = has_laws n.version n.behind n.headed;
        reads = refuses_all (length bs) n.version n.behind e n.stops;
      }

  pub certificate_read : (ss : List Step) → IsCertificate bs ss → read_certificate bs ≡ Ok ss
  certificate_read ss h = headed_read behind_laws read_all_steps bs ss (steps_behind ss h)

  pub certificate_found : (ss : List Step) → read_certificate bs ≡ Ok ss → IsCertificate bs ss
  certificate_found ss e = let b = headed_found behind_laws read_all_steps bs ss e in
      record {
        short = b.short;
        version = b.version;
        behind = b.behind;
        headed = headed_by b.version b.behind b.headed;
        steps = all_found (length bs) b.version (length b.behind) b.behind ss b.reads;
      }

  pub certificate_fault : (e : NetTextFault) → e ≢ V.Memory → read_certificate bs ≡ Err e → IsCertificateFault bs e
  certificate_fault e d p = headed_fault behind_laws read_all_steps bs (HasLaws bs) (NoCertificate bs) has_laws headed_by wrong long e d p

  pub refuses_certificate : (e : NetTextFault) → e ≢ V.Memory → IsCertificateFault bs e → read_certificate bs ≡ Err e
  refuses_certificate e d h = headed_refuses behind_laws read_all_steps bs (HasLaws bs) (NoCertificate bs) has_laws headed_by wrong long refuse e d h

  -- what the call returned, said by the grammar alone
  module _ {X : Type 0} (view : X → List Step) (r : Result X NetTextFault) (h : GivesSteps view r (read_certificate bs)) where
    pub cert_found : IfOk r (λ x. IsCertificate bs (view x))
    cert_found = go r h
      where
        go : (r : Result X NetTextFault) → GivesSteps view r (read_certificate bs) → IfOk r (λ x. IsCertificate bs (view x))
        go (Ok x) h = certificate_found (view x) h
        go (Err e) h = tt

    pub cert_only : (ss : List Step) → IsCertificate bs ss → GivesSteps view r (Ok ss)
    cert_only ss i = subst (λ z. GivesSteps view r z) (certificate_read ss i) h

    pub certificate_refused : IfErr r (IsCertificateFault bs)
    certificate_refused = headed_told behind_laws read_all_steps bs (HasLaws bs) (NoCertificate bs) has_laws headed_by wrong long view r h

pub read_certificate_law : ReadCertificateLaw
read_certificate_law bs ss = (certificate_found bs ss, certificate_read bs ss)

pub certificate_fault_law : CertificateFaultLaw
certificate_fault_law bs e d = (certificate_fault bs e d, refuses_certificate bs e d)

pub one_certificate : OneCertificateLaw
one_certificate bs ss us h i = one_reading behind_laws read_all_steps bs ss us (steps_behind bs ss h) (steps_behind bs us i)
