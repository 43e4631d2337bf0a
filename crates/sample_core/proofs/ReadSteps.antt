-- The steps of reading a list's elements.
use Rattle.std.proofs.Common.{◌≡◌, ℕ, zero, suc, ◌-◌, ◌<◌, false, List, [], ◌∷◌, ◌++◌, refl, sym, ap, ◌∙◌, arith, Result, Ok, Err, append_assoc, append-nil}
use Rattle.sample_core.specs.Datum.{Datum}
use Rattle.sample_core.specs.Answer.{◌>>=◌}
use Rattle.sample_core.specs.Reading.{begins_with, elements_at}
use Rattle.sample_core.specs.declared.fault.ValueFault.{ValueFault}

-- the elements found before, and those found now
abbrev pub with_front : List Datum → Result (List Datum × List ℕ) ValueFault → Result (List Datum × List ℕ) ValueFault
with_front front (Ok x) = Ok (front ++ x.0, x.1)
with_front front (Err e) = Err e

front_more : (front : List Datum) (v : Datum) (r : Result (List Datum × List ℕ) ValueFault)
    → with_front front (r >>= (λ y. Ok (v ∷ y.0, y.1))) ≡ with_front (front ++ v ∷ []) r
front_more front v (Ok y) = ap (λ vs. Ok (vs, y.1)) (sym (append_assoc front (v ∷ []) y.0))
front_more front v (Err e) = refl

-- one element more
pub one_more : (reader : List ℕ → Result (Datum × List ℕ) ValueFault) (n : ℕ) (front : List Datum) (rest element after : List ℕ) (v : Datum)
    → rest ≡ 32 ∷ element → 0 < n → reader element ≡ Ok (v, after)
    → with_front front (elements_at reader n rest) ≡ with_front (front ++ v ∷ []) (elements_at reader (n - 1) after)
unfolding elements_at
one_more reader zero front rest element after v e l h = absurd (omega arith)
one_more reader (suc n) front rest element after v e l h =
    let k : suc n - 1 ≡ n = omega arith in
    ap (λ r. with_front front (elements_at reader (suc n) r)) e
    ∙ ap (λ r. with_front front (r >>= (λ x. elements_at reader n x.1 >>= (λ y. Ok (x.0 ∷ y.0, y.1))))) h ∙ front_more front v (elements_at reader n after)
    ∙ ap (λ m. with_front (front ++ v ∷ []) (elements_at reader m after)) (sym k)

-- a fault in an element is the list's
pub fault_inside : (reader : List ℕ → Result (Datum × List ℕ) ValueFault) (n : ℕ) (front : List Datum) (rest element : List ℕ) (f : ValueFault)
    → rest ≡ 32 ∷ element → 0 < n → reader element ≡ Err f → with_front front (elements_at reader n rest) ≡ Err f
unfolding elements_at
fault_inside reader zero front rest element f e l h = absurd (omega arith)
fault_inside reader (suc n) front rest element f e l h =
    ap (λ r. with_front front (elements_at reader (suc n) r)) e
    ∙ ap (λ r. with_front front (r >>= (λ x. elements_at reader n x.1 >>= (λ y. Ok (x.0 ∷ y.0, y.1))))) h

-- no element more
pub none_more : (reader : List ℕ → Result (Datum × List ℕ) ValueFault) (n : ℕ) (rest : List ℕ) → begins_with 32 rest ≡ false
    → elements_at reader n rest ≡ Ok ([], rest)
unfolding elements_at
none_more reader zero rest h = refl
none_more reader (suc n) [] h = refl
none_more reader (suc n) (b ∷ bs) h = rw h refl

pub front_none : (r : Result (List Datum × List ℕ) ValueFault) → with_front [] r ≡ r
front_none (Ok x) = refl
front_none (Err e) = refl

pub front_alone : (front : List Datum) (rest : List ℕ) → with_front front (Ok ([], rest)) ≡ Ok (front, rest)
front_alone front rest = ap (λ vs. Ok (vs, rest)) (append-nil front)
