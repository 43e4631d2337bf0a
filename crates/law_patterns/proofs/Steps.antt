-- Single steps of matching.
use Rattle.std.proofs.Common.{◌≡◌, ℕ, zero, suc, ◌+◌, ◌-◌, ◌<◌, ◌≤◌, arith, Bool, IsTrue, ◌↔◌, List, [], ◌∷◌, Option, Some, None, length, get_or, drop, refl, sym, ap, ◌∙◌}
use Rattle.std.proofs.lemmas.List.{drop_more}
use Rattle.sample_core.specs.TypeTree.{TypeTree}
use Rattle.sample_core.specs.TypeCode.{type_code}
use Rattle.leaf_core.specs.Expression.{Expression}
use Rattle.leaf_core.specs.ExpressionCode.{expression_code}
use Rattle.leaf_core.specs.EqualityByCode.{same_by_is}
use Rattle.law_patterns.specs.declared.sym.Letter.{Letter}
use Rattle.law_patterns.specs.declared.sym.Sym.{Sym}
use Rattle.law_patterns.specs.Pattern.{Assignment, put_before, put_before_some, written, only, filled}
use Rattle.law_patterns.specs.Matching.{FoundLetters, Matching, failed, going, letter_bound, bound_type, step, matched, ended}

-- a letter that has an expression already
pub bound-again : (o : Option Expression) (d e : Expression) (k : Letter) (es : List Expression) (s : FoundLetters) (r : Bool) → Some d ≡ o → IsTrue r ↔ (d ≡ e) → going r es s ≡ letter_bound o k e es s
bound-again o d e k es s r p h =
    ap (λ b. going b es s) (same_by_is expression_code d e r h) ∙ ap (λ o. letter_bound o k e es s) p

-- the type letter that has a type already
pub bound_type-again : (o : Option TypeTree) (u t : TypeTree) (es : List Expression) (s : FoundLetters) (r : Bool) → Some u ≡ o → IsTrue r ↔ (u ≡ t) → going r es s ≡ bound_type o t es s
bound_type-again o u t es s r p h =
    ap (λ b. going b es s) (same_by_is type_code u t r h) ∙ ap (λ o. bound_type o t es s) p

-- a match that has failed stays so
pub matched-failed : (ss : List Sym) → matched ss failed ≡ failed
matched-failed [] = refl
matched-failed (s ∷ ss) = matched-failed ss

-- a pattern whose symbol at i doesn't fit
pub fails-later : (ss : List Sym) (i : ℕ) (d : Sym) (m n : Matching) → i < length ss → failed ≡ step (get_or ss i d) m → matched (drop i ss) m ≡ n → ended n ≡ None
fails-later ss i d m n lt f q =
    ap ended (sym q ∙ ap (λ xs. matched xs m) (drop_more ss i d lt) ∙ ap (matched (drop (i + 1) ss)) (sym f) ∙ matched-failed (drop (i + 1) ss))

-- a pattern whose end writes nothing
pub none-behind : (a : Assignment) (i : ℕ) (ss : List Sym) → written a (drop i ss) ≡ None → written a ss ≡ None
none-behind a zero ss p = p
none-behind a (suc i) [] p = absurd (cc)
none-behind a (suc i) (s ∷ ss) p = ap (put_before_some a s) (none-behind a i ss p)

-- a pattern where the form before the rest lacks parts
pub lacks-parts : (a : Assignment) (ss : List Sym) (n : ℕ) (d : Sym) (es : List Expression) → 0 < n → n ≤ length ss → written a (drop n ss) ≡ Some es → None ≡ put_before a (get_or ss (n - 1) d) es → filled a ss ≡ None
lacks-parts a ss n d es lt le p q =
    let here : (n - 1) + 1 ≡ n = omega arith in
    let within : n - 1 < length ss = omega arith in
    ap only (none-behind a (n - 1) ss
    (ap (written a) (drop_more ss (n - 1) d within)
    ∙ ap (λ m. put_before_some a (get_or ss (n - 1) d) (written a (drop m ss))) here
    ∙ ap (put_before_some a (get_or ss (n - 1) d)) p
    ∙ sym q))
