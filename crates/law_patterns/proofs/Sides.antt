-- Matching the left side and building the right side is what two patterns say.
use Rattle.std.proofs.Common.{◌≡◌, List, [], ◌∷◌, Option, Some, None, Result, Ok, Err, IfOk, MatchOption, refl, sym, ap, ◌∙◌}
use Rattle.sample_core.specs.TypeTree.{TypeTree}
use Rattle.leaf_core.specs.Expression.{Expression}
use Rattle.leaf_core.specs.ExpressionView.{expression_of}
use Rattle.leaf_core.specs.declared.expr.Expr.{Expr}
use Rattle.law_patterns.specs.declared.sym.Sym.{Sym}
use Rattle.law_patterns.specs.declared.sym.Sym.TheVariants as S
use Rattle.law_patterns.specs.Pattern.{Assignment, put_before, put_before_some, written, only, filled, PatternSides}
use Rattle.law_patterns.specs.Matching.{FoundLetters, nothing_found, fitted, or_input, or_unit, completed, built, rewritten}
use Rattle.law_patterns.proofs.Fits.{AgreesAt, Agrees, fits-written, written-fitted}

-- lists of one length
abbrev pub SameLength : {A : Type 0} → List A → List A → Type 0
SameLength [] [] = Unit {0}
SameLength (x ∷ xs) (y ∷ ys) = SameLength xs ys
SameLength _ _ = ⊥

-- lists of one length, or two that aren't there
abbrev pub SameLengths : {A : Type 0} → Option (List A) → Option (List A) → Type 0
SameLengths None None = Unit {0}
SameLengths (Some xs) (Some ys) = SameLength xs ys
SameLengths _ _ = ⊥

pub put-alike : (y : Sym) (a b : Assignment) (xs ys : List Expression) → SameLength xs ys → SameLengths (put_before a y xs) (put_before b y ys)
put-alike (S.Letter k) a b xs ys h = h
put-alike S.Input a b xs ys h = h
put-alike S.Unit a b xs ys h = h
put-alike (S.Truth t) a b xs ys h = h
put-alike (S.Number n) a b xs ys h = h
put-alike S.NoEvent a b xs ys h = h
put-alike S.Fst a b (x ∷ xs) (y ∷ ys) h = h
put-alike S.Snd a b (x ∷ xs) (y ∷ ys) h = h
put-alike S.Event a b (x ∷ xs) (y ∷ ys) h = h
put-alike S.Pair a b (x ∷ x' ∷ xs) (y ∷ y' ∷ ys) h = h
put-alike S.Then a b (x ∷ x' ∷ xs) (y ∷ y' ∷ ys) h = h
put-alike S.Neg a b (x ∷ xs) (y ∷ ys) h = h
put-alike S.Not a b (x ∷ xs) (y ∷ ys) h = h
put-alike S.Add a b (x ∷ x' ∷ xs) (y ∷ y' ∷ ys) h = h
put-alike S.Sub a b (x ∷ x' ∷ xs) (y ∷ y' ∷ ys) h = h
put-alike S.Mul a b (x ∷ x' ∷ xs) (y ∷ y' ∷ ys) h = h
put-alike S.Less a b (x ∷ x' ∷ xs) (y ∷ y' ∷ ys) h = h
put-alike S.And a b (x ∷ x' ∷ xs) (y ∷ y' ∷ ys) h = h
put-alike S.Or a b (x ∷ x' ∷ xs) (y ∷ y' ∷ ys) h = h
put-alike S.If a b (x ∷ x' ∷ x'' ∷ xs) (y ∷ y' ∷ y'' ∷ ys) h = h
put-alike S.On a b (x ∷ x' ∷ x'' ∷ xs) (y ∷ y' ∷ y'' ∷ ys) h = h
put-alike _ a b [] [] h = tt
put-alike _ a b (x ∷ []) (y ∷ []) h = tt
put-alike _ a b (x ∷ x' ∷ []) (y ∷ y' ∷ []) h = tt
put-alike _ a b _ _ h = absurd h

put-some-alike : (y : Sym) (a b : Assignment) (v w : Option (List Expression)) → SameLengths v w → SameLengths (put_before_some a y v) (put_before_some b y w)
put-some-alike y a b None None h = tt
put-some-alike y a b (Some xs) (Some ys) h = put-alike y a b xs ys h
put-some-alike y a b _ _ h = absurd h

written-alike : (ss : List Sym) (a b : Assignment) → SameLengths (written a ss) (written b ss)
written-alike [] a b = tt
written-alike (y ∷ ys) a b = put-some-alike y a b (written a ys) (written b ys) (written-alike ys a b)

pub only-alike : {A : Type 0} (v w : Option (List A)) → SameLengths v w → only v ≡ None → only w ≡ None
only-alike None None h p = refl
only-alike (Some []) (Some []) h p = refl
only-alike (Some (x ∷ [])) (Some (y ∷ [])) h p = absurd (cc)
only-alike (Some (x ∷ x' ∷ xs)) (Some (y ∷ y' ∷ ys)) h p = refl
only-alike _ _ h p = absurd h

-- whether a pattern is one expression doesn't depend on its letters' trees
pub filled-alike : (ss : List Sym) (a b : Assignment) → filled a ss ≡ None → filled b ss ≡ None
filled-alike ss a b p = only-alike (written a ss) (written b ss) (written-alike ss a b) p

pub only-is : {A : Type 0} (w : Option (List A)) (e : A) → only w ≡ Some e → w ≡ Some (e ∷ [])
only-is None e p = absurd (cc)
only-is (Some []) e p = absurd (cc)
only-is (Some (x ∷ [])) e p = cc
only-is (Some (x ∷ x' ∷ xs)) e p = absurd (cc)

or_input-agrees : (o : Option Expression) → AgreesAt o (or_input o)
or_input-agrees None = tt
or_input-agrees (Some e) = refl

or_unit-agrees : (o : Option TypeTree) → AgreesAt o (or_unit o)
or_unit-agrees None = tt
or_unit-agrees (Some t) = refl

pub completed-agrees : (s : FoundLetters) → Agrees (completed s) s
completed-agrees s = record {
  f = or_input-agrees s.f;
  g = or_input-agrees s.g;
  h = or_input-agrees s.h;
  i = or_input-agrees s.i;
  j = or_input-agrees s.j;
  t = or_unit-agrees s.t;
}

pub nothing-agrees : (a : Assignment) → Agrees a nothing_found
nothing-agrees a = record { f = tt; g = tt; h = tt; i = tt; j = tt; t = tt }

some-sides : (left right : List Sym) (e r : Expression) (o : Option FoundLetters) → fitted left (e ∷ []) nothing_found ≡ o → built right o ≡ Some r → PatternSides left right e r
some-sides left right e r None q p = absurd (cc)
some-sides left right e r (Some s) q p = record {
  letters = completed s;
  left_is = ap only (written-fitted left (completed s) (e ∷ []) nothing_found s q (completed-agrees s)).0;
  right_is = p;
}

-- what is built is what the patterns make
pub rewritten-some : (left right : List Sym) (e r : Expression) → rewritten left right e ≡ Some r → PatternSides left right e r
rewritten-some left right e r p = some-sides left right e r (fitted left (e ∷ []) nothing_found) refl p

-- where nothing is built, the patterns make nothing
pub rewritten-none : (left right : List Sym) (e r : Expression) → rewritten left right e ≡ None → PatternSides left right e r → ⊥
rewritten-none left right e r p sides =
    let f = fits-written left sides.letters (e ∷ []) nothing_found (only-is (written sides.letters left) e sides.left_is) (nothing-agrees sides.letters) in
    let n = filled-alike right (completed f.0) sides.letters (sym (ap (built right) f.1) ∙ p) in
    absurd (cc (n, sides.right_is))

-- what is built, or not, by the patterns
pub rewritten-answers : {E : Type 0} (left right : List Sym) (e : Expression) (x : Result (Option Expr) E) → IfOk x (λ o. MatchOption o (rewritten left right e ≡ None) (λ r. rewritten left right e ≡ Some (expression_of r))) → IfOk x (λ o. MatchOption o ((r : Expression) → PatternSides left right e r → ⊥) (λ r. PatternSides left right e (expression_of r)))
rewritten-answers left right e (Ok None) h = λ r sides. rewritten-none left right e r h sides
rewritten-answers left right e (Ok (Some r)) h = rewritten-some left right e (expression_of r) h
rewritten-answers left right e (Err m) h = tt
