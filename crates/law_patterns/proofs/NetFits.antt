-- Matching networks finds a choice of trees exactly where there is one.
use Rattle.std.proofs.Common.{◌≡◌, ℕ, Bool, true, false, nat_eq, List, [], ◌∷◌, Option, Some, None, refl, sym, ap, ◌∙◌, subst}
use Rattle.std.proofs.lemmas.Bool.Decides.{Decides-eqb}
use Rattle.leaf_core.specs.Expression.{Expression}
use Rattle.leaf_core.specs.ExpressionCode.{expression_code}
use Rattle.leaf_core.specs.EqualityByCode.{same_by, same_by_decides}
use Rattle.net_tree.specs.Network.{Network, arr, seq, first, loop_pre, initial_out, initial_in, i_pre, delay, hold, accum_by, after, repeatedly, time, integral, at_once, delayed, switch, r_switch, k_switch}
use Rattle.net_tree.specs.NetworkCode.{network_code}
use Rattle.law_patterns.specs.declared.sym.Sym.{Sym}
use Rattle.law_patterns.specs.declared.net_sym.NetLetter.{NetLetter}
use Rattle.law_patterns.specs.declared.net_sym.NetLetter.TheVariants as L
use Rattle.law_patterns.specs.declared.net_sym.NetSym.{NetSym}
use Rattle.law_patterns.specs.declared.net_sym.NetSym.TheVariants as S
use Rattle.law_patterns.specs.Pattern.{put_before}
use Rattle.law_patterns.specs.Matching.{Matching, failed, matching, step}
use Rattle.law_patterns.specs.NetPattern.{NetAssignment, net_chosen, Written, both, with_nets, net_put_before, net_put_before_some, net_written}
use Rattle.law_patterns.specs.NetMatching.{NetFound, net_found_at, net_found_with, NetMatching, net_failed, net_matching, net_going, net_bound, number_bound, beside, net_met, next_met, met_by, net_step, net_matched, net_ended, net_fitted}
use Rattle.law_patterns.proofs.Fits.{AgreesAt, Agrees, agrees-none, fits-made, step-sound}
use Rattle.law_patterns.proofs.NetSteps.{net_matched-failed}

-- the trees that were found are the chosen ones
pub record NetAgrees (a : NetAssignment) (s : NetFound) : Type 0 where
  pub f : AgreesAt s.f a.f
  pub g : AgreesAt s.g a.g
  pub h : AgreesAt s.h a.h
  pub q : AgreesAt s.q a.q
  pub exprs : Agrees a.exprs s.exprs

agrees-at : (a : NetAssignment) (s : NetFound) (k : NetLetter) → NetAgrees a s → AgreesAt (net_found_at s k) (net_chosen a k)
agrees-at a s L.F c = c.f
agrees-at a s L.G c = c.g
agrees-at a s L.H c = c.h

agrees-with : (a : NetAssignment) (s : NetFound) (k : NetLetter) → NetAgrees a s → NetAgrees a (net_found_with s k (net_chosen a k))
agrees-with a s L.F c = record { f = refl; g = c.g; h = c.h; q = c.q; exprs = c.exprs }
agrees-with a s L.G c = record { f = c.f; g = refl; h = c.h; q = c.q; exprs = c.exprs }
agrees-with a s L.H c = record { f = c.f; g = c.g; h = refl; q = c.q; exprs = c.exprs }

-- a match that goes on: the rest to match is w, and the chosen trees agree
abbrev GoesOn : NetAssignment → Written → NetMatching → Type 0
GoesOn a (both es fs) m = (s : NetFound) × (m ≡ net_matching es fs s) × NetAgrees a s

bound-complete : (o : Option (Network Expression)) (k : NetLetter) (a : NetAssignment) (es : List Expression) (fs : List (Network Expression)) (s : NetFound)
    → AgreesAt o (net_chosen a k) → NetAgrees a s → GoesOn a (both es fs) (net_bound o k (net_chosen a k) es fs s)
bound-complete None k a es fs s h c = (net_found_with s k (net_chosen a k), refl, agrees-with a s k c)
bound-complete (Some m) k a es fs s h c =
    (s, ap (λ b. net_going b es fs s) ((same_by_decides (network_code expression_code) m (net_chosen a k)).1 h), c)

number-complete : (o : Option ℕ) (a : NetAssignment) (es : List Expression) (fs : List (Network Expression)) (s : NetFound) → AgreesAt o a.q → NetAgrees a s → GoesOn a (both es fs) (number_bound o a.q es fs s)
number-complete None a es fs s h c =
    (record s { q = Some a.q }, refl, record { f = c.f; g = c.g; h = c.h; q = refl; exprs = c.exprs })
number-complete (Some r) a es fs s h c = (s, ap (λ b. net_going b es fs s) ((Decides-eqb r a.q).1 h), c)

-- what is written, as a match that begins there
abbrev from-written : Written → NetFound → NetMatching
from-written (both es fs) s = net_matching es fs s

-- a symbol fits what it writes before w, if anything
abbrev FitsMade : NetSym → NetAssignment → NetFound → Written → Option Written → Type 0
FitsMade y a s w None = Unit {0}
FitsMade y a s w (Some v) = GoesOn a w (net_step y (from-written v s))

expr-made : (y : Sym) (a : NetAssignment) (s : NetFound) (es : List Expression) (fs : List (Network Expression)) (o : Option (List Expression)) → put_before a.exprs y es ≡ o → NetAgrees a s
    → FitsMade (S.Leaf y) a s (both es fs) (with_nets o fs)
expr-made y a s es fs None q c = tt
expr-made y a s es fs (Some xs) q c =
    let m = fits-made y a.exprs s.exprs es xs q c.exprs in
    (record s { exprs = m.0 }, ap (beside fs s) m.1, record { f = c.f; g = c.g; h = c.h; q = c.q; exprs = m.2 })

fits-put : (y : NetSym) (a : NetAssignment) (s : NetFound) (w : Written) → NetAgrees a s → FitsMade y a s w (net_put_before a y w)
fits-put (S.Letter k) a s (both es fs) c = bound-complete (net_found_at s k) k a es fs s (agrees-at a s k c) c
fits-put (S.Leaf y) a s (both es fs) c = expr-made y a s es fs (put_before a.exprs y es) refl c
fits-put S.Arr a s (both (e ∷ es) fs) c = (s, refl, c)
fits-put S.IPre a s (both (e ∷ es) fs) c = (s, refl, c)
fits-put S.Hold a s (both (e ∷ es) fs) c = (s, refl, c)
fits-put S.Delay a s (both (e ∷ es) fs) c = number-complete s.q a (e ∷ es) fs s c.q c
fits-put S.After a s (both (e ∷ es) fs) c = number-complete s.q a (e ∷ es) fs s c.q c
fits-put S.Repeatedly a s (both (e ∷ es) fs) c = number-complete s.q a (e ∷ es) fs s c.q c
fits-put S.Now a s (both (e ∷ es) fs) c = (s, refl, c)
fits-put S.Time a s (both es fs) c = (s, refl, c)
fits-put S.Integral a s (both es fs) c = (s, refl, c)
fits-put S.AccumBy a s (both (d ∷ e ∷ es) fs) c = (s, refl, c)
fits-put S.LoopPre a s (both (e ∷ es) (f ∷ fs)) c = (s, refl, c)
fits-put S.InitialOut a s (both (e ∷ es) (f ∷ fs)) c = (s, refl, c)
fits-put S.InitialIn a s (both (e ∷ es) (f ∷ fs)) c = (s, refl, c)
fits-put S.First a s (both es (f ∷ fs)) c = (s, refl, c)
fits-put S.Seq a s (both es (f ∷ g ∷ fs)) c = (s, refl, c)
fits-put S.Switch a s (both es (f ∷ g ∷ fs)) c = (s, refl, c)
fits-put S.DSwitch a s (both es (f ∷ g ∷ fs)) c = (s, refl, c)
fits-put S.RSwitch a s (both es (f ∷ g ∷ fs)) c = (s, refl, c)
fits-put S.DrSwitch a s (both es (f ∷ g ∷ fs)) c = (s, refl, c)
fits-put S.KSwitch a s (both es (f ∷ g ∷ h ∷ fs)) c = (s, refl, c)
fits-put _ a s _ c = tt

fits-made-net : (y : NetSym) (a : NetAssignment) (s : NetFound) (w v : Written) → net_put_before a y w ≡ Some v → NetAgrees a s → GoesOn a w (net_step y (from-written v s))
fits-made-net y a s w v p c = subst (FitsMade y a s w) p (fits-put y a s w c)

-- a pattern fits what it writes
abbrev FitsAll : NetAssignment → List NetSym → Written → NetFound → Type 0
FitsAll a ss w s = (r : NetFound) × (net_ended (net_matched ss (from-written w s)) ≡ Some r) × NetAgrees a r

-- the same where the rest of the pattern does
fits-behind : (y : NetSym) (ys : List NetSym) (a : NetAssignment) (v : Written) (s : NetFound) (o : Option Written) → net_written a ys ≡ o
    → ((w : Written) (t : NetFound) → net_written a ys ≡ Some w → NetAgrees a t → FitsAll a ys w t) → net_put_before_some a y o ≡ Some v → NetAgrees a s → FitsAll a (y ∷ ys) v s
fits-behind y ys a v s None q ih p c = absurd (cc)
fits-behind y ys a (both ds gs) s (Some (both es fs)) q ih p c =
    let m = fits-made-net y a s (both es fs) (both ds gs) p c in
    let r = ih (both es fs) m.0 q m.2 in
    (r.0, ap (λ n. net_ended (net_matched ys n)) m.1 ∙ r.1, r.2)

all-fits : (ss : List NetSym) (a : NetAssignment) (w : Written) (s : NetFound) → net_written a ss ≡ Some w → NetAgrees a s → FitsAll a ss w s
all-fits [] a (both [] []) s p c = (s, refl, c)
all-fits [] a (both (e ∷ es) fs) s p c = absurd (cc)
all-fits [] a (both [] (f ∷ fs)) s p c = absurd (cc)
all-fits (y ∷ ys) a w s p c =
    fits-behind y ys a w s (net_written a ys) refl (λ v t q d. all-fits ys a v t q d) p c

pub net_fits-written : (ss : List NetSym) (a : NetAssignment) (es : List Expression) (fs : List (Network Expression)) (s : NetFound) → net_written a ss ≡ Some (both es fs) → NetAgrees a s
    → (r : NetFound) × (net_fitted ss es fs s ≡ Some r) × NetAgrees a r
net_fits-written ss a es fs s p c = all-fits ss a (both es fs) s p c

-- what is left to match and the trees, from a match
abbrev Same : List Expression → List Expression → List (Network Expression) → List (Network Expression) → NetFound → NetFound → Type 0
Same es xs fs gs s r = (es ≡ xs) × (fs ≡ gs) × (s ≡ r)

from-matching : (es xs : List Expression) (fs gs : List (Network Expression)) (s r : NetFound) → net_matching es fs s ≡ net_matching xs gs r → Same es xs fs gs s r
from-matching es xs fs gs s r p = (cc, cc, cc)

never-failed : {P : Type 0} (xs : List Expression) (gs : List (Network Expression)) (r : NetFound) → net_failed ≡ net_matching xs gs r → P
never-failed xs gs r p = absurd (cc)

-- what a symbol that has met something writes
abbrev Writes : NetAssignment → NetSym → Written → Written → NetFound → Type 0
Writes a y w v s = (net_put_before a y w ≡ Some v) × NetAgrees a s

form-sound : (y : NetSym) (a : NetAssignment) (v : Written) (ds xs : List Expression) (fs gs : List (Network Expression)) (s r : NetFound) → net_put_before a y (both ds fs) ≡ Some v
    → net_matching ds fs s ≡ net_matching xs gs r → NetAgrees a r → Writes a y (both xs gs) v s
form-sound y a v ds xs fs gs s r p q c =
    let h = from-matching ds xs fs gs s r q in
    ((λ j. net_put_before a y (both (sym h.0 j) (sym h.1 j))) ∙ p, subst (NetAgrees a) (sym h.2) c)

going-sound : (b : Bool) (es xs : List Expression) (fs gs : List (Network Expression)) (s r : NetFound) → net_going b es fs s ≡ net_matching xs gs r → (b ≡ true) × Same es xs fs gs s r
going-sound true es xs fs gs s r p = (refl, from-matching es xs fs gs s r p)
going-sound false es xs fs gs s r p = never-failed xs gs r p

-- a letter that has its network only now
abbrev Before : NetAssignment → NetLetter → Network Expression → NetFound → Type 0
Before a k n s = (net_chosen a k ≡ n) × NetAgrees a s

agrees-before : (k : NetLetter) (a : NetAssignment) (n : Network Expression) (s : NetFound) → net_found_at s k ≡ None → NetAgrees a (net_found_with s k n) → Before a k n s
agrees-before L.F a n s p c = (sym c.f, record { f = agrees-none s.f a.f p; g = c.g; h = c.h; q = c.q; exprs = c.exprs })
agrees-before L.G a n s p c = (sym c.g, record { f = c.f; g = agrees-none s.g a.g p; h = c.h; q = c.q; exprs = c.exprs })
agrees-before L.H a n s p c = (sym c.h, record { f = c.f; g = c.g; h = agrees-none s.h a.h p; q = c.q; exprs = c.exprs })

bound-sound : (o : Option (Network Expression)) (k : NetLetter) (a : NetAssignment) (n : Network Expression) (es xs : List Expression) (fs gs : List (Network Expression)) (s r : NetFound)
    → net_found_at s k ≡ o → net_bound o k n es fs s ≡ net_matching xs gs r → NetAgrees a r → Writes a (S.Letter k) (both xs gs) (both es (n ∷ fs)) s
bound-sound None k a n es xs fs gs s r p q c =
    let h = from-matching es xs fs gs (net_found_with s k n) r q in
    let b = agrees-before k a n s p (subst (NetAgrees a) (sym h.2) c) in
    (λ j. Some (both (sym h.0 j) (b.0 j ∷ sym h.1 j)), b.1)
bound-sound (Some m) k a n es xs fs gs s r p q c =
    let h = going-sound (same_by (network_code expression_code) m n) es xs fs gs s r q in
    let b = subst (NetAgrees a) (sym h.1.2) c in
    let same : m ≡ net_chosen a k = subst (λ o. AgreesAt o (net_chosen a k)) p (agrees-at a s k b) in
    (λ j. Some (both (sym h.1.0 j) ((sym same ∙ (same_by_decides (network_code expression_code) m n).0 h.0) j ∷ sym h.1.1 j)), b)

-- what the number letter stands for, where a match went on
abbrev Numbered : NetAssignment → ℕ → List Expression → List Expression → List (Network Expression) → List (Network Expression) → NetFound → Type 0
Numbered a q es xs fs gs s = (a.q ≡ q) × (es ≡ xs) × (fs ≡ gs) × NetAgrees a s

number-sound : (o : Option ℕ) (a : NetAssignment) (q : ℕ) (es xs : List Expression) (fs gs : List (Network Expression)) (s r : NetFound) → s.q ≡ o → number_bound o q es fs s ≡ net_matching xs gs r → NetAgrees a r
    → Numbered a q es xs fs gs s
number-sound None a q es xs fs gs s r p m c =
    let h = from-matching es xs fs gs (record s { q = Some q }) r m in
    let b = subst (NetAgrees a) (sym h.2) c in
    (sym b.q, h.0, h.1, record { f = b.f; g = b.g; h = b.h; q = agrees-none s.q a.q p; exprs = b.exprs })
number-sound (Some n) a q es xs fs gs s r p m c =
    let h = going-sound (nat_eq n q) es xs fs gs s r m in
    let b = subst (NetAgrees a) (sym h.1.2) c in
    let same : n ≡ a.q = subst (λ o. AgreesAt o a.q) p b.q in
    (sym same ∙ (Decides-eqb n q).0 h.0, h.1.0, h.1.1, b)

timed-writes : (form : ℕ → Expression → Network Expression) (y : NetSym) (q : ℕ) (e : Expression) (a : NetAssignment) (es xs : List Expression) (fs gs : List (Network Expression)) (s r : NetFound)
    → net_put_before a y (both (e ∷ es) fs) ≡ Some (both es (form a.q e ∷ fs)) → number_bound s.q q (e ∷ es) fs s ≡ net_matching xs gs r → NetAgrees a r → Writes a y (both xs gs) (both es (form q e ∷ fs)) s
timed-writes form y q e a es xs fs gs s r put m c =
    let n = number-sound s.q a q (e ∷ es) xs fs gs s r refl m c in
    ((λ j. net_put_before a y (both (sym n.1 j) (sym n.2 j))) ∙ put ∙ (λ j. Some (both es (form (n.0 j) e ∷ fs))), n.3)

now-sound : (n : ℕ) (e : Expression) (a : NetAssignment) (es xs : List Expression) (fs gs : List (Network Expression)) (s r : NetFound) → net_going (nat_eq n 0) (e ∷ es) fs s ≡ net_matching xs gs r → NetAgrees a r
    → Writes a S.Now (both xs gs) (both es (after n e ∷ fs)) s
now-sound n e a es xs fs gs s r q c =
    let h = going-sound (nat_eq n 0) (e ∷ es) xs fs gs s r q in
    let zero : n ≡ 0 = (Decides-eqb n 0).0 h.0 in
    ((λ j. net_put_before a S.Now (both (sym h.1.0 j) (sym h.1.1 j))) ∙ (λ j. Some (both es (after (sym zero j) e ∷ fs))), subst (NetAgrees a) (sym h.1.2) c)

-- a letter or a form writes what it has met
net_met-sound : (y : NetSym) (n : Network Expression) (a : NetAssignment) (es xs : List Expression) (fs gs : List (Network Expression)) (s r : NetFound) → net_met y n es fs s ≡ net_matching xs gs r → NetAgrees a r
    → Writes a y (both xs gs) (both es (n ∷ fs)) s
net_met-sound (S.Letter k) n a es xs fs gs s r q c = bound-sound (net_found_at s k) k a n es xs fs gs s r refl q c
net_met-sound S.Arr (arr e) a es xs fs gs s r q c = form-sound S.Arr a _ (e ∷ es) xs fs gs s r refl q c
net_met-sound S.IPre (i_pre e) a es xs fs gs s r q c = form-sound S.IPre a _ (e ∷ es) xs fs gs s r refl q c
net_met-sound S.Hold (hold e) a es xs fs gs s r q c = form-sound S.Hold a _ (e ∷ es) xs fs gs s r refl q c
net_met-sound S.Delay (delay n e) a es xs fs gs s r q c = timed-writes delay S.Delay n e a es xs fs gs s r refl q c
net_met-sound S.After (after n e) a es xs fs gs s r q c = timed-writes after S.After n e a es xs fs gs s r refl q c
net_met-sound S.Repeatedly (repeatedly n e) a es xs fs gs s r q c = timed-writes repeatedly S.Repeatedly n e a es xs fs gs s r refl q c
net_met-sound S.Now (after n e) a es xs fs gs s r q c = now-sound n e a es xs fs gs s r q c
net_met-sound S.Time time a es xs fs gs s r q c = form-sound S.Time a _ es xs fs gs s r refl q c
net_met-sound S.Integral integral a es xs fs gs s r q c = form-sound S.Integral a _ es xs fs gs s r refl q c
net_met-sound S.AccumBy (accum_by d e) a es xs fs gs s r q c = form-sound S.AccumBy a _ (d ∷ e ∷ es) xs fs gs s r refl q c
net_met-sound S.LoopPre (loop_pre e f) a es xs fs gs s r q c = form-sound S.LoopPre a _ (e ∷ es) xs (f ∷ fs) gs s r refl q c
net_met-sound S.InitialOut (initial_out e f) a es xs fs gs s r q c = form-sound S.InitialOut a _ (e ∷ es) xs (f ∷ fs) gs s r refl q c
net_met-sound S.InitialIn (initial_in e f) a es xs fs gs s r q c = form-sound S.InitialIn a _ (e ∷ es) xs (f ∷ fs) gs s r refl q c
net_met-sound S.First (first f) a es xs fs gs s r q c = form-sound S.First a _ es xs (f ∷ fs) gs s r refl q c
net_met-sound S.Seq (seq f g) a es xs fs gs s r q c = form-sound S.Seq a _ es xs (f ∷ g ∷ fs) gs s r refl q c
net_met-sound S.Switch (switch at_once f g) a es xs fs gs s r q c = form-sound S.Switch a _ es xs (f ∷ g ∷ fs) gs s r refl q c
net_met-sound S.DSwitch (switch delayed f g) a es xs fs gs s r q c = form-sound S.DSwitch a _ es xs (f ∷ g ∷ fs) gs s r refl q c
net_met-sound S.RSwitch (r_switch at_once f g) a es xs fs gs s r q c = form-sound S.RSwitch a _ es xs (f ∷ g ∷ fs) gs s r refl q c
net_met-sound S.DrSwitch (r_switch delayed f g) a es xs fs gs s r q c = form-sound S.DrSwitch a _ es xs (f ∷ g ∷ fs) gs s r refl q c
net_met-sound S.KSwitch (k_switch f g h) a es xs fs gs s r q c = form-sound S.KSwitch a _ es xs (f ∷ g ∷ h ∷ fs) gs s r refl q c
net_met-sound _ _ a es xs fs gs s r q c = never-failed xs gs r q

next_met-sound : (y : NetSym) (a : NetAssignment) (es xs : List Expression) (fs gs : List (Network Expression)) (s r : NetFound) → next_met y es fs s ≡ net_matching xs gs r → NetAgrees a r → Writes a y (both xs gs) (both es fs) s
next_met-sound y a es xs [] gs s r q c = never-failed xs gs r q
next_met-sound y a es xs (n ∷ fs) gs s r q c = net_met-sound y n a es xs fs gs s r q c

expr-sound : (y : Sym) (a : NetAssignment) (es xs : List Expression) (fs gs : List (Network Expression)) (s r : NetFound) (m : Matching) → step y (matching es s.exprs) ≡ m → beside fs s m ≡ net_matching xs gs r → NetAgrees a r
    → Writes a (S.Leaf y) (both xs gs) (both es fs) s
expr-sound y a es xs fs gs s r failed p q c = never-failed xs gs r q
expr-sound y a es xs fs gs s r (matching ds found) p q c =
    let h = from-matching ds xs fs gs (record s { exprs = found }) r q in
    let b = subst (NetAgrees a) (sym h.2) c in
    let w = step-sound y a.exprs es ds s.exprs found p b.exprs in (
      (λ j. net_put_before a (S.Leaf y) (both (sym h.0 j) (sym h.1 j))) ∙ ap (λ o. with_nets o fs) w.0,
      record { f = b.f; g = b.g; h = b.h; q = b.q; exprs = w.1 },
    )

met-sound : (y : NetSym) (a : NetAssignment) (es xs : List Expression) (fs gs : List (Network Expression)) (s r : NetFound) → met_by y es fs s ≡ net_matching xs gs r → NetAgrees a r → Writes a y (both xs gs) (both es fs) s
met-sound (S.Leaf y) a es xs fs gs s r q c = expr-sound y a es xs fs gs s r (step y (matching es s.exprs)) refl q c
met-sound y a es xs fs gs s r q c = next_met-sound y a es xs fs gs s r q c

-- a pattern writes what it fits, with any trees that agree with those found
abbrev WritesAll : NetAssignment → List NetSym → List Expression → List (Network Expression) → NetFound → Type 0
WritesAll a ss es fs s = (net_written a ss ≡ Some (both es fs)) × NetAgrees a s

never-none : {P : Type 0} (r : NetFound) → None ≡ Some r → P
never-none r p = absurd (cc)

never-fitted : {P : Type 0} (ss : List NetSym) (r : NetFound) → net_ended (net_matched ss net_failed) ≡ Some r → P
never-fitted ss r p = never-none r (sym (ap net_ended (net_matched-failed ss)) ∙ p)

-- the same where the rest of the pattern does
written-behind : (y : NetSym) (ys : List NetSym) (a : NetAssignment) (es : List Expression) (fs : List (Network Expression)) (s r : NetFound) (m : NetMatching) → met_by y es fs s ≡ m
    → ((xs : List Expression) (gs : List (Network Expression)) (t : NetFound) → net_fitted ys xs gs t ≡ Some r → WritesAll a ys xs gs t) → net_ended (net_matched ys m) ≡ Some r → WritesAll a (y ∷ ys) es fs s
written-behind y ys a es fs s r net_failed q ih p = never-fitted ys r p
written-behind y ys a es fs s r (net_matching xs gs t) q ih p =
    let w = ih xs gs t p in
    let h = met-sound y a es xs fs gs s t q w.1 in
    (ap (net_put_before_some a y) w.0 ∙ h.0, h.1)

pub net_written-fitted : (ss : List NetSym) (a : NetAssignment) (es : List Expression) (fs : List (Network Expression)) (s r : NetFound) → net_fitted ss es fs s ≡ Some r → NetAgrees a r → WritesAll a ss es fs s
net_written-fitted [] a [] [] s r p c = let same : s ≡ r = cc in (refl, subst (NetAgrees a) (sym same) c)
net_written-fitted [] a [] (f ∷ fs) s r p c = never-none r p
net_written-fitted [] a (e ∷ es) fs s r p c = never-none r p
net_written-fitted (y ∷ ys) a es fs s r p c =
    written-behind y ys a es fs s r (met_by y es fs s) refl (λ xs gs t q. net_written-fitted ys a xs gs t r q c) p
