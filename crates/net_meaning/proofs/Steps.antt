-- One sample more is one output more.
use Rattle.std.proofs.Common.{◌≡◌, ℕ, List, [], ◌∷◌, ◌++◌, length, drop, refl, sym, ap, ◌∙◌, arith, length-append, length-drop, take-append-drop}
use Rattle.std.proofs.lemmas.List.{take_at}
use Rattle.sample_core.specs.Datum.{Datum, unit}
use Rattle.net_meaning.specs.SignalFunction.{TimedList, SignalFunction, last_or, zip_with, IsSignalFunction, answer}

pub last_or-push : {A : Type 0} (d : A) (xs : List A) (y : A) → last_or d (xs ++ y ∷ []) ≡ y
last_or-push d [] y = refl
last_or-push d (x ∷ xs) y = last_or-push x xs y

one_item : (vs : List Datum) → length vs ≡ 1 → vs ≡ last_or unit vs ∷ []
one_item [] e = absurd (omega arith)
one_item (v ∷ []) e = refl
one_item (v ∷ w ∷ vs) e = absurd (omega arith)

pub push_zip_with : {A B C : Type 0} (h : A → B → C) (xs : List A) (ys : List B) (x : A) (y : B) → length ys ≡ length xs
    → zip_with h (xs ++ x ∷ []) (ys ++ y ∷ []) ≡ zip_with h xs ys ++ h x y ∷ []
push_zip_with h [] [] x y e = refl
push_zip_with h [] (y' ∷ ys) x y e = absurd (omega arith)
push_zip_with h (x' ∷ xs) [] x y e = absurd (omega arith)
push_zip_with h (x' ∷ xs) (y' ∷ ys) x y e = let e' : length ys ≡ length xs = omega arith in ap (λ zs. h x' y' ∷ zs) (push_zip_with h xs ys x y e')

-- the outputs so far stay, whatever follows
pub signal-append : (f : SignalFunction) → IsSignalFunction f → (p r : TimedList) → f (p ++ r) ≡ f p ++ drop (length p) (f (p ++ r))
signal-append f sf p r =
    sym (take-append-drop (length p) (f (p ++ r)))
    ∙ ap (λ vs. vs ++ drop (length p) (f (p ++ r))) (sym (sf.causal (length p) (p ++ r)) ∙ ap f (take_at p r (length p) refl))

pub signal-push : (f : SignalFunction) → IsSignalFunction f → (p : TimedList) (x : ℕ × Datum) → f (p ++ x ∷ []) ≡ f p ++ answer f p x ∷ []
signal-push f sf p x =
    let rest : List Datum = drop (length p) (f (p ++ x ∷ [])) in
    let l : length (f (p ++ x ∷ [])) ≡ length (p ++ x ∷ []) = sf.sized (p ++ x ∷ []) in
    let r : length rest ≡ 1 = omega (arith, length-drop (length p) (f (p ++ x ∷ [])), length-append p (x ∷ [])) in
    let e : f (p ++ x ∷ []) ≡ f p ++ last_or unit rest ∷ [] = signal-append f sf p (x ∷ []) ∙ ap (λ vs. f p ++ vs) (one_item rest r) in
    e ∙ ap (λ v. f p ++ v ∷ []) (sym (last_or-push unit (f p) (last_or unit rest)) ∙ ap (last_or unit) (sym e))

-- where the outputs are known, the answer is their last
pub answer_is : (f : SignalFunction) (p : TimedList) (x : ℕ × Datum) (vs : List Datum) (y : Datum) → f (p ++ x ∷ []) ≡ vs ++ y ∷ [] → answer f p x ≡ y
answer_is f p x vs y e = ap (last_or unit) e ∙ last_or-push unit vs y

-- nothing was seen, nothing is output
pub signal-nil : (f : SignalFunction) → IsSignalFunction f → f [] ≡ []
signal-nil f sf = sf.causal 0 []
