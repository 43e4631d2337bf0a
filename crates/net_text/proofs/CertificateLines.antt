-- Steps of printing certificates, as the code takes them.
use Rattle.std.proofs.Common.{◌≡◌, ℕ, List, [], ◌∷◌, ◌++◌, refl, ap, sym, ◌∙◌, append_assoc, Result}
use Rattle.std.specs.Prelude.{codes}
use Rattle.std.specs.Fmt.{decimal}
use Rattle.sample_core.specs.Adding.{Adds}
use Rattle.leaf_expr.specs.Sexpr.{form, sexpr_spelling, sexprs_spelling}
use Rattle.leaf_expr.proofs.Joined.{adds_behind}
use Rattle.net_tree.specs.Position.{position_spelling, child_numbers}
use Rattle.net_tree.specs.LawStep.{Step}
use Rattle.net_text.specs.CertificatePrinting.{law_spelling, direction_spelling, child_sexprs, given_sexprs, step_sexpr}

children_spelled : (ks : List ℕ) → sexprs_spelling (child_sexprs ks) ≡ child_numbers ks
children_spelled [] = refl
children_spelled (k ∷ ks) = ap (λ xs. 32 ∷ decimal k ++ xs) (children_spelled ks)

position_spelled : (ks : List ℕ) → sexpr_spelling (form (codes "at") (child_sexprs ks)) ≡ position_spelling ks
position_spelled ks = ap (λ xs. codes "(at" ++ (xs ++ codes ")")) (children_spelled ks)

-- what stands behind a part, a parenthesis and the end of the line behind that
two_behind : (a b : List ℕ) → ((a ++ b) ++ 41 ∷ []) ++ 10 ∷ [] ≡ a ++ ((b ++ 41 ∷ []) ++ 10 ∷ [])
two_behind a b = ap (λ t. t ++ 10 ∷ []) (append_assoc a b (41 ∷ [])) ∙ append_assoc a (b ++ 41 ∷ []) (10 ∷ [])

-- the bytes of a law, of a direction, of a position and of what is given, as parts of one form and one after the other
joined : (law direction at given : List ℕ) → (codes "(step" ++ ((32 ∷ law ++ (32 ∷ direction ++ (32 ∷ at ++ given))) ++ 41 ∷ [])) ++ 10 ∷ []
    ≡ codes "(step " ++ (law ++ ((32 ∷ direction ++ 32 ∷ []) ++ (at ++ (given ++ codes ")\n"))))
joined law direction at given =
    ap (λ t. codes "(step " ++ t)
    (two_behind law (32 ∷ direction ++ (32 ∷ at ++ given))
    ∙ ap (λ t. law ++ (32 ∷ t))
    (two_behind direction (32 ∷ at ++ given)
    ∙ ap (λ t. direction ++ (32 ∷ t)) (two_behind at given ∙ ap (λ t. at ++ t) (append_assoc given (41 ∷ []) (10 ∷ [])))
    ∙ sym (append_assoc direction (32 ∷ []) (at ++ (given ++ codes ")\n")))))

-- a step's line, part by part
pub step_spelled : (s : Step) → sexpr_spelling (step_sexpr s) ++ 10 ∷ [] ≡
    codes "(step " ++ (law_spelling s.law ++ ((32 ∷ direction_spelling s.direction ++ 32 ∷ [])
    ++ (position_spelling s.position ++ (sexprs_spelling (given_sexprs s.given) ++ codes ")\n"))))
step_spelled s =
    joined (law_spelling s.law) (direction_spelling s.direction) (sexpr_spelling (form (codes "at") (child_sexprs s.position)))
    (sexprs_spelling (given_sexprs s.given))
    ∙ ap (λ at. codes "(step " ++ (law_spelling s.law ++ ((32 ∷ direction_spelling s.direction ++ 32 ∷ [])
    ++ (at ++ (sexprs_spelling (given_sexprs s.given) ++ codes ")\n"))))) (position_spelled s.position)

-- parts added one after the other, the last by a call
pub six_added : {T E : Type 0} (r : Result T E) (old t1 t2 t3 t4 t5 new a b c d e f : List ℕ) → t1 ≡ old ++ a → t2 ≡ t1 ++ b → t3 ≡ t2 ++ c → t4 ≡ t3 ++ d
    → t5 ≡ t4 ++ e → Adds r t5 new f → Adds r old new (a ++ (b ++ (c ++ (d ++ (e ++ f)))))
six_added r old t1 t2 t3 t4 t5 new a b c d e f p q s t u h =
    adds_behind r old t1 new a (b ++ (c ++ (d ++ (e ++ f)))) p
    (adds_behind r t1 t2 new b (c ++ (d ++ (e ++ f))) q
    (adds_behind r t2 t3 new c (d ++ (e ++ f)) s (adds_behind r t3 t4 new d (e ++ f) t (adds_behind r t4 t5 new e f u h))))
