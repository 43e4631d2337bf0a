-- Matching finds a choice of trees exactly where there is one.
use Rattle.std.proofs.Common.{◌≡◌, Bool, true, false, List, [], ◌∷◌, Option, Some, None, refl, sym, ap, ◌∙◌, subst}
use Rattle.std.specs.Prelude.{ℤ}
use Rattle.std.specs.Ordering.{int_eq}
use Rattle.std.proofs.lemmas.Bool.Decides.{Decides-int_eq}
use Rattle.sample_core.specs.TypeTree.{TypeTree}
use Rattle.sample_core.specs.TypeCode.{type_code}
use Rattle.leaf_core.specs.Expression.{Expression, input, unit_expr, bool_expr, int_expr, no_event_expr, fst, snd, event_expr, pair_expr, then_expr, neg, add, sub, mul, less, not_expr, and_expr, or_expr, if_expr, on}
use Rattle.leaf_core.specs.ExpressionCode.{expression_code}
use Rattle.leaf_core.specs.EqualityByCode.{same_by, same_by_decides}
use Rattle.law_patterns.specs.declared.sym.Letter.{Letter}
use Rattle.law_patterns.specs.declared.sym.Letter.TheVariants as L
use Rattle.law_patterns.specs.declared.sym.Sym.{Sym}
use Rattle.law_patterns.specs.declared.sym.Sym.TheVariants as S
use Rattle.law_patterns.specs.Pattern.{Assignment, letter_choice, put_before, put_before_some, written}
use Rattle.law_patterns.specs.Matching.{FoundLetters, found_at, found_with, Matching, failed, matching, going, letter_bound, bound_type, same_truth, met, step, matched, ended, fitted}
use Rattle.law_patterns.proofs.Steps.{matched-failed}

-- a tree that was found, if any, is this one
abbrev pub AgreesAt : {A : Type 0} → Option A → A → Type 0
AgreesAt None x = Unit {0}
AgreesAt (Some y) x = y ≡ x

-- the trees that were found are the chosen ones
pub record Agrees (a : Assignment) (s : FoundLetters) : Type 0 where
  pub f : AgreesAt s.f a.f
  pub g : AgreesAt s.g a.g
  pub h : AgreesAt s.h a.h
  pub i : AgreesAt s.i a.i
  pub j : AgreesAt s.j a.j
  pub t : AgreesAt s.t a.t

agrees-at : (a : Assignment) (s : FoundLetters) (k : Letter) → Agrees a s → AgreesAt (found_at s k) (letter_choice a k)
agrees-at a s L.F c = c.f
agrees-at a s L.G c = c.g
agrees-at a s L.H c = c.h
agrees-at a s L.I c = c.i
agrees-at a s L.J c = c.j

agrees-with : (a : Assignment) (s : FoundLetters) (k : Letter) → Agrees a s → Agrees a (found_with s k (letter_choice a k))
agrees-with a s L.F c = record { f = refl; g = c.g; h = c.h; i = c.i; j = c.j; t = c.t }
agrees-with a s L.G c = record { f = c.f; g = refl; h = c.h; i = c.i; j = c.j; t = c.t }
agrees-with a s L.H c = record { f = c.f; g = c.g; h = refl; i = c.i; j = c.j; t = c.t }
agrees-with a s L.I c = record { f = c.f; g = c.g; h = c.h; i = refl; j = c.j; t = c.t }
agrees-with a s L.J c = record { f = c.f; g = c.g; h = c.h; i = c.i; j = refl; t = c.t }

-- what goes on from a match: the rest to match is es, and the chosen trees agree
abbrev pub GoesOn : Assignment → List Expression → Matching → Type 0
GoesOn a es m = (s : FoundLetters) × (m ≡ matching es s) × Agrees a s

bound-complete : (o : Option Expression) (k : Letter) (a : Assignment) (es : List Expression) (s : FoundLetters) → AgreesAt o (letter_choice a k) → Agrees a s → GoesOn a es (letter_bound o k (letter_choice a k) es s)
bound-complete None k a es s h c = (found_with s k (letter_choice a k), refl, agrees-with a s k c)
bound-complete (Some d) k a es s h c =
    (s, ap (λ b. going b es s) ((same_by_decides expression_code d (letter_choice a k)).1 h), c)

bound_type-complete : (o : Option TypeTree) (a : Assignment) (es : List Expression) (s : FoundLetters) → AgreesAt o a.t → Agrees a s → GoesOn a es (bound_type o a.t es s)
bound_type-complete None a es s h c =
    (record s { t = Some a.t }, refl, record { f = c.f; g = c.g; h = c.h; i = c.i; j = c.j; t = refl })
bound_type-complete (Some u) a es s h c =
    (s, ap (λ b. going b es s) ((same_by_decides type_code u a.t).1 h), c)

truth-itself : (b : Bool) → same_truth b b ≡ true
truth-itself true = refl
truth-itself false = refl

-- a symbol fits what it writes before xs, if anything
abbrev FitsMade : Sym → Assignment → FoundLetters → List Expression → Option (List Expression) → Type 0
FitsMade y a s xs None = Unit {0}
FitsMade y a s xs (Some es) = GoesOn a xs (step y (matching es s))

fits-put : (y : Sym) (a : Assignment) (s : FoundLetters) (xs : List Expression) → Agrees a s → FitsMade y a s xs (put_before a y xs)
fits-put (S.Letter k) a s xs c = bound-complete (found_at s k) k a xs s (agrees-at a s k c) c
fits-put S.Input a s xs c = (s, refl, c)
fits-put S.Unit a s xs c = (s, refl, c)
fits-put (S.Truth b) a s xs c = (s, ap (λ r. going r xs s) (truth-itself b), c)
fits-put (S.Number n) a s xs c = (s, ap (λ r. going r xs s) ((Decides-int_eq n n).1 refl), c)
fits-put S.NoEvent a s xs c = bound_type-complete s.t a xs s c.t c
fits-put S.Fst a s (d ∷ xs) c = (s, refl, c)
fits-put S.Snd a s (d ∷ xs) c = (s, refl, c)
fits-put S.Event a s (d ∷ xs) c = (s, refl, c)
fits-put S.Pair a s (b ∷ d ∷ xs) c = (s, refl, c)
fits-put S.Then a s (b ∷ d ∷ xs) c = (s, refl, c)
fits-put S.Neg a s (d ∷ xs) c = (s, refl, c)
fits-put S.Not a s (d ∷ xs) c = (s, refl, c)
fits-put S.Add a s (b ∷ d ∷ xs) c = (s, refl, c)
fits-put S.Sub a s (b ∷ d ∷ xs) c = (s, refl, c)
fits-put S.Mul a s (b ∷ d ∷ xs) c = (s, refl, c)
fits-put S.Less a s (b ∷ d ∷ xs) c = (s, refl, c)
fits-put S.And a s (b ∷ d ∷ xs) c = (s, refl, c)
fits-put S.Or a s (b ∷ d ∷ xs) c = (s, refl, c)
fits-put S.If a s (e ∷ b ∷ d ∷ xs) c = (s, refl, c)
fits-put S.On a s (e ∷ b ∷ d ∷ xs) c = (s, refl, c)
fits-put _ a s _ c = tt

pub fits-made : (y : Sym) (a : Assignment) (s : FoundLetters) (xs es : List Expression) → put_before a y xs ≡ Some es → Agrees a s → GoesOn a xs (step y (matching es s))
fits-made y a s xs es p c = subst (FitsMade y a s xs) p (fits-put y a s xs c)

-- a pattern fits what it writes
abbrev FitsAll : Assignment → List Sym → List Expression → FoundLetters → Type 0
FitsAll a ss es s = (r : FoundLetters) × (fitted ss es s ≡ Some r) × Agrees a r

-- the same where the rest of the pattern does
fits-behind : (y : Sym) (ys : List Sym) (a : Assignment) (es : List Expression) (s : FoundLetters) (w : Option (List Expression)) → written a ys ≡ w → ((xs : List Expression) (t : FoundLetters) → written a ys ≡ Some xs → Agrees a t → FitsAll a ys xs t) → put_before_some a y w ≡ Some es → Agrees a s → FitsAll a (y ∷ ys) es s
fits-behind y ys a es s None q ih p c = absurd (cc)
fits-behind y ys a es s (Some xs) q ih p c =
    let m = fits-made y a s xs es p c in
    let r = ih xs m.0 q m.2 in
    (r.0, ap (λ n. ended (matched ys n)) m.1 ∙ r.1, r.2)

pub fits-written : (ss : List Sym) (a : Assignment) (es : List Expression) (s : FoundLetters) → written a ss ≡ Some es → Agrees a s → FitsAll a ss es s
fits-written [] a [] s p c = (s, refl, c)
fits-written [] a (e ∷ es) s p c = absurd (cc)
fits-written (y ∷ ys) a es s p c =
    fits-behind y ys a es s (written a ys) refl (λ xs t q d. fits-written ys a xs t q d) p c

-- what is left to match and the trees, from a match
abbrev Same : List Expression → List Expression → FoundLetters → FoundLetters → Type 0
Same es xs s r = (es ≡ xs) × (s ≡ r)

from-matching : (es xs : List Expression) (s r : FoundLetters) → matching es s ≡ matching xs r → Same es xs s r
from-matching es xs s r p = (cc, cc)

pub never-failed : {P : Type 0} (xs : List Expression) (r : FoundLetters) → failed ≡ matching xs r → P
never-failed xs r p = absurd (cc)

-- what a symbol that has met an expression writes
abbrev pub Writes : Assignment → Sym → List Expression → List Expression → FoundLetters → Type 0
Writes a y xs es s = (put_before a y xs ≡ Some es) × Agrees a s

form-sound : (y : Sym) (a : Assignment) (ds es xs : List Expression) (s r : FoundLetters) → put_before a y ds ≡ Some es → matching ds s ≡ matching xs r → Agrees a r → Writes a y xs es s
form-sound y a ds es xs s r p q c =
    let h = from-matching ds xs s r q in
    (ap (put_before a y) (sym h.0) ∙ p, subst (Agrees a) (sym h.1) c)

going-sound : (b : Bool) (es xs : List Expression) (s r : FoundLetters) → going b es s ≡ matching xs r → (b ≡ true) × Same es xs s r
going-sound true es xs s r p = (refl, from-matching es xs s r p)
going-sound false es xs s r p = never-failed xs r p

-- a letter that has its expression only now
abbrev Before : Assignment → Letter → Expression → FoundLetters → Type 0
Before a k e s = (letter_choice a k ≡ e) × Agrees a s

pub agrees-none : {A : Type 0} (o : Option A) (x : A) → o ≡ None → AgreesAt o x
agrees-none o x p = subst (λ o. AgreesAt o x) (sym p) tt

agrees-before : (k : Letter) (a : Assignment) (e : Expression) (s : FoundLetters) → found_at s k ≡ None → Agrees a (found_with s k e) → Before a k e s
agrees-before L.F a e s p c = (sym c.f, record { f = agrees-none s.f a.f p; g = c.g; h = c.h; i = c.i; j = c.j; t = c.t })
agrees-before L.G a e s p c = (sym c.g, record { f = c.f; g = agrees-none s.g a.g p; h = c.h; i = c.i; j = c.j; t = c.t })
agrees-before L.H a e s p c = (sym c.h, record { f = c.f; g = c.g; h = agrees-none s.h a.h p; i = c.i; j = c.j; t = c.t })
agrees-before L.I a e s p c = (sym c.i, record { f = c.f; g = c.g; h = c.h; i = agrees-none s.i a.i p; j = c.j; t = c.t })
agrees-before L.J a e s p c = (sym c.j, record { f = c.f; g = c.g; h = c.h; i = c.i; j = agrees-none s.j a.j p; t = c.t })

bound-sound : (o : Option Expression) (k : Letter) (a : Assignment) (e : Expression) (es xs : List Expression) (s r : FoundLetters) → found_at s k ≡ o → letter_bound o k e es s ≡ matching xs r → Agrees a r → Writes a (S.Letter k) xs (e ∷ es) s
bound-sound None k a e es xs s r p q c =
    let h = from-matching es xs (found_with s k e) r q in
    let b = agrees-before k a e s p (subst (Agrees a) (sym h.1) c) in
    (λ j. Some (b.0 j ∷ sym h.0 j), b.1)
bound-sound (Some d) k a e es xs s r p q c =
    let h = going-sound (same_by expression_code d e) es xs s r q in
    let b = subst (Agrees a) (sym h.1.1) c in
    let same : d ≡ letter_choice a k = subst (λ o. AgreesAt o (letter_choice a k)) p (agrees-at a s k b) in
    (λ j. Some ((sym same ∙ (same_by_decides expression_code d e).0 h.0) j ∷ sym h.1.0 j), b)

bound_type-sound : (o : Option TypeTree) (a : Assignment) (t : TypeTree) (es xs : List Expression) (s r : FoundLetters) → s.t ≡ o → bound_type o t es s ≡ matching xs r → Agrees a r → Writes a S.NoEvent xs (no_event_expr t ∷ es) s
bound_type-sound None a t es xs s r p q c =
    let h = from-matching es xs (record s { t = Some t }) r q in
    let b = subst (Agrees a) (sym h.1) c in
    (λ j. Some (no_event_expr (sym b.t j) ∷ sym h.0 j), record { f = b.f; g = b.g; h = b.h; i = b.i; j = b.j; t = agrees-none s.t a.t p })
bound_type-sound (Some u) a t es xs s r p q c =
    let h = going-sound (same_by type_code u t) es xs s r q in
    let b = subst (Agrees a) (sym h.1.1) c in
    let same : u ≡ a.t = subst (λ o. AgreesAt o a.t) p b.t in
    (λ j. Some (no_event_expr ((sym same ∙ (same_by_decides type_code u t).0 h.0) j) ∷ sym h.1.0 j), b)

truth-same : (b c : Bool) → same_truth b c ≡ true → b ≡ c
truth-same true true p = refl
truth-same true false p = cc
truth-same false true p = cc
truth-same false false p = refl

truth-sound : (b d : Bool) (a : Assignment) (es xs : List Expression) (s r : FoundLetters) → going (same_truth b d) es s ≡ matching xs r → Agrees a r → Writes a (S.Truth b) xs (bool_expr d ∷ es) s
truth-sound b d a es xs s r q c =
    let h = going-sound (same_truth b d) es xs s r q in
    (λ j. Some (bool_expr (truth-same b d h.0 j) ∷ sym h.1.0 j), subst (Agrees a) (sym h.1.1) c)

number-sound : (n m : ℤ) (a : Assignment) (es xs : List Expression) (s r : FoundLetters) → going (int_eq n m) es s ≡ matching xs r → Agrees a r → Writes a (S.Number n) xs (int_expr m ∷ es) s
number-sound n m a es xs s r q c =
    let h = going-sound (int_eq n m) es xs s r q in
    (λ j. Some (int_expr ((Decides-int_eq n m).0 h.0 j) ∷ sym h.1.0 j), subst (Agrees a) (sym h.1.1) c)

-- a symbol writes what it has met
met-sound : (y : Sym) (e : Expression) (a : Assignment) (es xs : List Expression) (s r : FoundLetters) → met y e es s ≡ matching xs r → Agrees a r → Writes a y xs (e ∷ es) s
met-sound (S.Letter k) e a es xs s r q c = bound-sound (found_at s k) k a e es xs s r refl q c
met-sound S.Input input a es xs s r q c = form-sound S.Input a es (input ∷ es) xs s r refl q c
met-sound S.Unit unit_expr a es xs s r q c = form-sound S.Unit a es (unit_expr ∷ es) xs s r refl q c
met-sound (S.Truth b) (bool_expr d) a es xs s r q c = truth-sound b d a es xs s r q c
met-sound (S.Number n) (int_expr m) a es xs s r q c = number-sound n m a es xs s r q c
met-sound S.NoEvent (no_event_expr t) a es xs s r q c = bound_type-sound s.t a t es xs s r refl q c
met-sound S.Fst (fst d) a es xs s r q c = form-sound S.Fst a (d ∷ es) (fst d ∷ es) xs s r refl q c
met-sound S.Snd (snd d) a es xs s r q c = form-sound S.Snd a (d ∷ es) (snd d ∷ es) xs s r refl q c
met-sound S.Event (event_expr d) a es xs s r q c = form-sound S.Event a (d ∷ es) (event_expr d ∷ es) xs s r refl q c
met-sound S.Pair (pair_expr b d) a es xs s r q c = form-sound S.Pair a (b ∷ d ∷ es) (pair_expr b d ∷ es) xs s r refl q c
met-sound S.Then (then_expr b d) a es xs s r q c = form-sound S.Then a (b ∷ d ∷ es) (then_expr b d ∷ es) xs s r refl q c
met-sound S.Neg (neg d) a es xs s r q c = form-sound S.Neg a (d ∷ es) (neg d ∷ es) xs s r refl q c
met-sound S.Not (not_expr d) a es xs s r q c = form-sound S.Not a (d ∷ es) (not_expr d ∷ es) xs s r refl q c
met-sound S.Add (add b d) a es xs s r q c = form-sound S.Add a (b ∷ d ∷ es) (add b d ∷ es) xs s r refl q c
met-sound S.Sub (sub b d) a es xs s r q c = form-sound S.Sub a (b ∷ d ∷ es) (sub b d ∷ es) xs s r refl q c
met-sound S.Mul (mul b d) a es xs s r q c = form-sound S.Mul a (b ∷ d ∷ es) (mul b d ∷ es) xs s r refl q c
met-sound S.Less (less b d) a es xs s r q c = form-sound S.Less a (b ∷ d ∷ es) (less b d ∷ es) xs s r refl q c
met-sound S.And (and_expr b d) a es xs s r q c = form-sound S.And a (b ∷ d ∷ es) (and_expr b d ∷ es) xs s r refl q c
met-sound S.Or (or_expr b d) a es xs s r q c = form-sound S.Or a (b ∷ d ∷ es) (or_expr b d ∷ es) xs s r refl q c
met-sound S.If (if_expr f b d) a es xs s r q c = form-sound S.If a (f ∷ b ∷ d ∷ es) (if_expr f b d ∷ es) xs s r refl q c
met-sound S.On (on f b d) a es xs s r q c = form-sound S.On a (f ∷ b ∷ d ∷ es) (on f b d ∷ es) xs s r refl q c
met-sound _ _ a es xs s r q c = never-failed xs r q

-- the same where something may be missing
pub step-sound : (y : Sym) (a : Assignment) (es xs : List Expression) (s r : FoundLetters) → step y (matching es s) ≡ matching xs r → Agrees a r → Writes a y xs es s
step-sound y a [] xs s r q c = never-failed xs r q
step-sound y a (e ∷ es) xs s r q c = met-sound y e a es xs s r q c

-- a pattern writes what it fits, with any trees that agree with those found
abbrev WritesAll : Assignment → List Sym → List Expression → FoundLetters → Type 0
WritesAll a ss es s = (written a ss ≡ Some es) × Agrees a s

never-none : {P : Type 0} (r : FoundLetters) → None ≡ Some r → P
never-none r p = absurd (cc)

never-fitted : {P : Type 0} (ss : List Sym) (r : FoundLetters) → ended (matched ss failed) ≡ Some r → P
never-fitted ss r p = never-none r (sym (ap ended (matched-failed ss)) ∙ p)

-- the same where the rest of the pattern does
written-behind : (y : Sym) (ys : List Sym) (a : Assignment) (e : Expression) (es : List Expression) (s r : FoundLetters) (m : Matching) → met y e es s ≡ m → ((xs : List Expression) (t : FoundLetters) → fitted ys xs t ≡ Some r → WritesAll a ys xs t) → ended (matched ys m) ≡ Some r → WritesAll a (y ∷ ys) (e ∷ es) s
written-behind y ys a e es s r failed q ih p = never-fitted ys r p
written-behind y ys a e es s r (matching xs t) q ih p =
    let w = ih xs t p in
    let h = met-sound y e a es xs s t q w.1 in
    (ap (put_before_some a y) w.0 ∙ h.0, h.1)

pub written-fitted : (ss : List Sym) (a : Assignment) (es : List Expression) (s r : FoundLetters) → fitted ss es s ≡ Some r → Agrees a r → WritesAll a ss es s
written-fitted [] a [] s r p c = let same : s ≡ r = cc in (refl, subst (Agrees a) (sym same) c)
written-fitted [] a (e ∷ es) s r p c = never-none r p
written-fitted (y ∷ ys) a [] s r p c = never-fitted ys r p
written-fitted (y ∷ ys) a (e ∷ es) s r p c =
    written-behind y ys a e es s r (met y e es s) refl (λ xs t q. written-fitted ys a xs t r q c) p
