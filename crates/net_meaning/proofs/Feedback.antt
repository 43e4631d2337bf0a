-- `loopPre` of a signal is a signal.
use Rattle.std.proofs.Common.{◌≡◌, ℕ, zero, suc, ◌≤◌, List, ◌∷◌, map, length, take, min, refl, sym, ap, ◌∙◌, arith, length-take, take_all, take-take, le_refl, le_of_eq, inl, inr}
use native.Mathlib.Nat.{eq-or-lt_of_le}
use Rattle.std.proofs.lemmas.List.{length-map, take-map, take_min}
use Rattle.sample_core.specs.Datum.{Datum, left, right}
use Rattle.net_meaning.specs.SignalFunction.{TimedList, SignalFunction, pair_samples, retime, feedback_values, loop_pre_function, IsSignalFunction}
use Rattle.net_meaning.proofs.Zips.{length-zip_with, take-zip_with, retime-pair_samples, length-retime, take-retime}
use Rattle.net_meaning.proofs.Plain.{IsSignal-after}

pub length-fed_back : (c : Datum) (f : SignalFunction) → IsSignalFunction f → (xs : TimedList) (n : ℕ) → n ≤ length xs → length (feedback_values c f xs n) ≡ n
length-fed_back c f sf xs zero l = refl
length-fed_back c f sf xs (suc n) l =
    let l' : n ≤ length xs = omega arith in
    let t : length (take n xs) ≡ n = omega (arith, length-take n xs) in
    ap suc (length-map (f (pair_samples (take n xs) (feedback_values c f xs n))) right
    ∙ sf.sized (pair_samples (take n xs) (feedback_values c f xs n))
    ∙ length-zip_with _ (take n xs) (feedback_values c f xs n) (length-fed_back c f sf xs n l' ∙ sym t)
    ∙ t)

-- what is fed back at first n samples does not turn on later ones
pub fed_back-take : (c : Datum) (f : SignalFunction) (xs : TimedList) (m n : ℕ) → n ≤ m → feedback_values c f (take m xs) n ≡ feedback_values c f xs n
fed_back-take c f xs m zero l = refl
fed_back-take c f xs m (suc n) l =
    let l' : n ≤ m = omega arith in
    ap (λ ys. c ∷ map right (f ys)) (ap (λ ys. pair_samples ys (feedback_values c f (take m xs) n)) (take-take n m xs l')
    ∙ ap (pair_samples (take n xs)) (fed_back-take c f xs m n l'))

-- one item more leaves those before
fed_back-one_more : (c : Datum) (f : SignalFunction) → IsSignalFunction f → (xs : TimedList) (n : ℕ)
    → take n (feedback_values c f xs (suc n)) ≡ feedback_values c f xs n
fed_back-one_more c f sf xs zero = refl
fed_back-one_more c f sf xs (suc n) =
    let ys : TimedList = pair_samples (take (suc n) xs) (feedback_values c f xs (suc n)) in
    let z : take n ys ≡ pair_samples (take n xs) (feedback_values c f xs n) =
    take-zip_with _ n (take (suc n) xs) (feedback_values c f xs (suc n))
    ∙ ap (λ zs. pair_samples zs (take n (feedback_values c f xs (suc n)))) (take-take n (suc n) xs (omega arith))
    ∙ ap (pair_samples (take n xs)) (fed_back-one_more c f sf xs n) in
    ap (λ vs. c ∷ vs) (take-map right n (f ys) ∙ ap (map right) (sym (sf.causal n ys) ∙ ap f z))

pub fed_back-more : (c : Datum) (f : SignalFunction) → IsSignalFunction f → (xs : TimedList) (m n : ℕ) → n ≤ m → m ≤ length xs
    → take n (feedback_values c f xs m) ≡ feedback_values c f xs n
fed_back-more c f sf xs zero zero l b = refl
fed_back-more c f sf xs zero (suc n) l b = absurd (omega arith)
fed_back-more c f sf xs (suc m) n l b =
    elim (eq-or-lt_of_le l) [
      | inl e ↦ ap (λ k. take k (feedback_values c f xs (suc m))) e
          ∙ take_all (suc m) (feedback_values c f xs (suc m)) (le_of_eq (length-fed_back c f sf xs (suc m) b)) ∙ ap (feedback_values c f xs) (sym e)
      | inr h ↦
          let l' : n ≤ m = omega arith in
          let b' : m ≤ length xs = omega arith in
          sym (take-take n m (feedback_values c f xs (suc m)) l') ∙ ap (take n) (fed_back-one_more c f sf xs m) ∙ fed_back-more c f sf xs m n l' b'
    ]

pub fed_back-retime : (c : Datum) (f : SignalFunction) → IsSignalFunction f → (d : ℕ) (xs : TimedList) (n : ℕ)
    → feedback_values c f (retime d xs) n ≡ feedback_values c f xs n
fed_back-retime c f sf d xs zero = refl
fed_back-retime c f sf d xs (suc zero) = refl
fed_back-retime c f sf d xs (suc (suc n)) =
    ap (λ vs. c ∷ map right vs) (
    ap (λ ys. f (pair_samples ys (feedback_values c f (retime d xs) (suc n)))) (take-retime n d xs)
    ∙ ap (λ vs. f (pair_samples (retime d (take (suc n) xs)) vs)) (fed_back-retime c f sf d xs (suc n))
    ∙ ap f (retime-pair_samples d (take (suc n) xs) (feedback_values c f xs (suc n)))
    ∙ sf.timeless d (pair_samples (take (suc n) xs) (feedback_values c f xs (suc n))))

-- what f gets
abbrev pub fed : Datum → SignalFunction → TimedList → TimedList
fed c f xs = pair_samples xs (feedback_values c f xs (length xs))

pub length-fed : (c : Datum) (f : SignalFunction) → IsSignalFunction f → (xs : TimedList) → length (fed c f xs) ≡ length xs
length-fed c f sf xs = length-zip_with _ xs (feedback_values c f xs (length xs)) (length-fed_back c f sf xs (length xs) (le_refl (length xs)))

pub fed-take : (c : Datum) (f : SignalFunction) → IsSignalFunction f → (n : ℕ) (xs : TimedList) → fed c f (take n xs) ≡ take n (fed c f xs)
fed-take c f sf n xs =
    let B : List Datum = feedback_values c f xs (length xs) in
    let k : ℕ = length (take n xs) in
    let kn : k ≤ n = omega (arith, length-take n xs) in
    let kl : k ≤ length xs = omega (arith, length-take n xs) in
    let lb : length B ≡ length xs = length-fed_back c f sf xs (length xs) (le_refl (length xs)) in
    let cut : take k B ≡ take n B = ap (λ i. take i B) (length-take n xs ∙ ap (min n) (sym lb)) ∙ take_min n B in
    ap (pair_samples (take n xs)) (fed_back-take c f xs n k kn ∙ sym (fed_back-more c f sf xs (length xs) k kl (le_refl (length xs))) ∙ cut)
    ∙ sym (take-zip_with _ n xs B)

fed-retime : (c : Datum) (f : SignalFunction) → IsSignalFunction f → (d : ℕ) (xs : TimedList) → fed c f (retime d xs) ≡ retime d (fed c f xs)
fed-retime c f sf d xs =
    ap (pair_samples (retime d xs)) (ap (feedback_values c f (retime d xs)) (length-retime d xs) ∙ fed_back-retime c f sf d xs (length xs))
    ∙ retime-pair_samples d xs (feedback_values c f xs (length xs))

pub IsSignal-feedback : (c : Datum) (f : SignalFunction) → IsSignalFunction f → IsSignalFunction (loop_pre_function c f)
IsSignal-feedback c f sf = IsSignal-after left (λ xs. f (fed c f xs)) (record {
  sized = λ xs. sf.sized (fed c f xs) ∙ length-fed c f sf xs;
  causal = λ n xs. ap f (fed-take c f sf n xs) ∙ sf.causal n (fed c f xs);
  timeless = λ d xs. ap f (fed-retime c f sf d xs) ∙ sf.timeless d (fed c f xs);
})
