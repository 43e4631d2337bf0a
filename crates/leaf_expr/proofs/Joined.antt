-- What is printed part by part is the printed form.
use Rattle.std.proofs.Common.{◌≡◌, ℕ, List, [], ◌∷◌, ◌++◌, refl, sym, ap, ◌∙◌, subst, append_assoc, Result, Ok, Err}
use Rattle.std.proofs.lemmas.List.{append-nil}
use Rattle.std.specs.Prelude.{codes}
use Rattle.sample_core.specs.TypeTree.{TypeTree, unit_ty, bool_ty, int_ty, pair_ty, event_ty, list_ty}
use Rattle.sample_core.specs.Spelling.{type_spelling}
use Rattle.sample_core.specs.Adding.{Adds}
use Rattle.sample_core.proofs.Adding.{extends_added}
use Rattle.leaf_expr.specs.Sexpr.{Sexpr, Sexprs, more, sexpr_spelling, sexprs_spelling}
use Rattle.leaf_expr.specs.Printing.{type_sexpr}

pair_joined : (a b : List ℕ) → (a ++ (32 ∷ b ++ [])) ++ 41 ∷ [] ≡ a ++ (codes " " ++ (b ++ codes ")"))
pair_joined a b = append_assoc a (32 ∷ b ++ []) (41 ∷ []) ∙ ap (λ x. a ++ (32 ∷ (x ++ 41 ∷ []))) (append-nil b)

alone_joined : (a : List ℕ) → (a ++ []) ++ 41 ∷ [] ≡ a ++ codes ")"
alone_joined a = ap (λ x. x ++ 41 ∷ []) (append-nil a)

pub type_spelled : (t : TypeTree) → sexpr_spelling (type_sexpr t) ≡ type_spelling t
type_spelled unit_ty = refl
type_spelled bool_ty = refl
type_spelled int_ty = refl
type_spelled (pair_ty a b) = rw (type_spelled a, type_spelled b) (ap (λ x. codes "(Pair " ++ x) (pair_joined (type_spelling a) (type_spelling b)))
type_spelled (event_ty a) = rw (type_spelled a) (ap (λ x. codes "(Event " ++ x) (alone_joined (type_spelling a)))
type_spelled (list_ty a) = rw (type_spelled a) (ap (λ x. codes "(List " ++ x) (alone_joined (type_spelling a)))

-- bytes were added, and then others by a call
pub adds_behind : {T E : Type 0} (r : Result T E) (old mid new a b : List ℕ) → mid ≡ old ++ a → Adds r mid new b → Adds r old new (a ++ b)
adds_behind (Ok x) old mid new a b e h = h ∙ ap (λ t. t ++ b) e ∙ append_assoc old a b
adds_behind (Err y) old mid new a b e h = extends_added old mid new a e h

-- a part, and then further parts and the form's end
pub next_behind : (p : Sexpr) (ps : Sexprs) → (32 ∷ sexpr_spelling p) ++ (sexprs_spelling ps ++ 41 ∷ []) ≡ sexprs_spelling (more p ps) ++ 41 ∷ []
next_behind p ps = sym (append_assoc (32 ∷ sexpr_spelling p) (sexprs_spelling ps) (41 ∷ []))

-- a part, and then a call that adds further parts and the form's end
pub adds_next : {T E : Type 0} (r : Result T E) (old mid new : List ℕ) (p : Sexpr) (ps : Sexprs) → mid ≡ old ++ (32 ∷ sexpr_spelling p) →
    Adds r mid new (sexprs_spelling ps ++ 41 ∷ []) → Adds r old new (sexprs_spelling (more p ps) ++ 41 ∷ [])
adds_next r old mid new p ps e h = subst (Adds r old new) (next_behind p ps) (adds_behind r old mid new (32 ∷ sexpr_spelling p) (sexprs_spelling ps ++ 41 ∷ []) e h)
