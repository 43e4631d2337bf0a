-- Copies of the types of a frozen network, as the code adds them one by one.
use Rattle.std.proofs.Common.{◌≡◌, ◌∙◌, ℕ, zero, suc, List, [], ◌∷◌, ◌++◌, map, append_assoc, refl, sym, ap}
use Rattle.std.proofs.lemmas.List.{map-append}
use Rattle.net_syntax.specs.ArrowView.{arrow_of}
use Rattle.net_meaning.specs.Typing as T
use Rattle.net_meaning.specs.Typing.{copies}
use Rattle.net_syntax.specs.declared.arrow.Arrow.{Arrow}

-- one copy more
copies_more : (n : ℕ) (o : T.Arrow) → copies (suc n) o ≡ copies n o ++ o ∷ []
copies_more zero o = refl
copies_more (suc n) o = ap (λ os. o ∷ os) (copies_more n o)

pub copied_once : (xs ys zs : List Arrow) (y : Arrow) (n m : ℕ) (o : T.Arrow) → map arrow_of xs ≡ map arrow_of zs ++ copies n o → arrow_of y ≡ o
    → ys ≡ xs ++ y ∷ [] → m ≡ suc n → map arrow_of ys ≡ map arrow_of zs ++ copies m o
copied_once xs ys zs y n m o h e f g =
    ap (map arrow_of) f ∙ (map-append arrow_of xs (y ∷ [])
    ∙ (ap (λ os. os ++ arrow_of y ∷ []) h
    ∙ (ap (λ q. (map arrow_of zs ++ copies n o) ++ q ∷ []) e
    ∙ (append_assoc (map arrow_of zs) (copies n o) (o ∷ [])
    ∙ (ap (λ os. map arrow_of zs ++ os) (sym (copies_more n o)) ∙ ap (λ k. map arrow_of zs ++ copies k o) (sym g))))))
