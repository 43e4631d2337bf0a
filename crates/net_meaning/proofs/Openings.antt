-- `-->` and `>--` of signals are signals, and agree where their parts do.
use Rattle.std.proofs.Common.{◌≡◌, ℕ, zero, suc, List, [], ◌∷◌, length, take, drop, refl, ap, ◌∙◌, arith}
use Rattle.sample_core.specs.Datum.{Datum}
use Rattle.sample_core.specs.TypeTree.{TypeTree}
use Rattle.sample_core.specs.HasType.{HasType}
use Rattle.net_meaning.specs.SignalFunction.{TimedList, SignalFunction, retime, initial_out_function, with_first, initial_in_function, IsSignalFunction}
use Rattle.net_meaning.specs.Typing.{TypedValues, no_value, and_value, TypedSamples, no_sample, and_sample}
use Rattle.net_meaning.specs.Sameness.{SameAt}
use Rattle.net_meaning.proofs.TypedLists.{typed_drop}

-- `-->`
replaced : (c : Datum) (vs : List Datum) (n : ℕ) → length vs ≡ suc n → length (c ∷ drop 1 vs) ≡ suc n
replaced c [] n e = absurd (omega arith)
replaced c (v ∷ vs) n e = e

replaced-take : (c : Datum) (n : ℕ) (vs : List Datum) → c ∷ drop 1 (take (suc n) vs) ≡ take (suc n) (c ∷ drop 1 vs)
replaced-take c n [] = ap (λ ws. c ∷ ws) (nil n)
  where
    nil : (m : ℕ) → drop 1 (take (suc m) []) ≡ take m (drop 1 (let e : List Datum = [] in e))
    nil zero = refl
    nil (suc m) = refl
replaced-take c n (v ∷ vs) = refl

module _ (c : Datum) (f : SignalFunction) (sf : IsSignalFunction f) where
  length-initial_out : (xs : TimedList) → length (initial_out_function c f xs) ≡ length xs
  length-initial_out [] = refl
  length-initial_out (x ∷ xs) = replaced c (f (x ∷ xs)) (length xs) (sf.sized (x ∷ xs))

  take-initial_out : (n : ℕ) (xs : TimedList) → initial_out_function c f (take n xs) ≡ take n (initial_out_function c f xs)
  take-initial_out zero xs = refl
  take-initial_out (suc n) [] = refl
  take-initial_out (suc n) (x ∷ xs) = ap (λ vs. c ∷ drop 1 vs) (sf.causal (suc n) (x ∷ xs)) ∙ replaced-take c n (f (x ∷ xs))

  retime-initial_out : (d : ℕ) (xs : TimedList) → initial_out_function c f (retime d xs) ≡ initial_out_function c f xs
  retime-initial_out d [] = refl
  retime-initial_out d (x ∷ xs) = ap (λ vs. c ∷ drop 1 vs) (sf.timeless d (x ∷ xs))

  pub IsSignal-initial_out : IsSignalFunction (initial_out_function c f)
  IsSignal-initial_out = record { sized = length-initial_out; causal = take-initial_out; timeless = retime-initial_out }

pub SameAt-initial_out : {A B : TypeTree} (c : Datum) (f f' : SignalFunction) → HasType c B → SameAt A B f f' → SameAt A B (initial_out_function c f) (initial_out_function c f')
SameAt-initial_out {A = A} {B = B} c f f' h hf = record { same = go; typed = go' }
  where
    go : (xs : TimedList) → TypedSamples A xs → initial_out_function c f xs ≡ initial_out_function c f' xs
    go [] k = refl
    go (x ∷ xs) k = ap (λ vs. c ∷ drop 1 vs) (hf.same (x ∷ xs) k)

    go' : (xs : TimedList) → TypedSamples A xs → TypedValues B (initial_out_function c f xs)
    go' [] k = no_value
    go' (x ∷ xs) k = and_value h (typed_drop 1 (f (x ∷ xs)) (hf.typed (x ∷ xs) k))

-- `>--`
pub length-with_first : (c : Datum) (xs : TimedList) → length (with_first c xs) ≡ length xs
length-with_first c [] = refl
length-with_first c (x ∷ xs) = refl

pub take-with_first : (c : Datum) (n : ℕ) (xs : TimedList) → with_first c (take n xs) ≡ take n (with_first c xs)
take-with_first c zero xs = refl
take-with_first c (suc n) [] = refl
take-with_first c (suc n) (x ∷ xs) = refl

retime-with_first : (c : Datum) (d : ℕ) (xs : TimedList) → with_first c (retime d xs) ≡ retime d (with_first c xs)
retime-with_first c d [] = refl
retime-with_first c d (x ∷ xs) = refl

typed_with_first : {A : TypeTree} (c : Datum) → HasType c A → (xs : TimedList) → TypedSamples A xs → TypedSamples A (with_first c xs)
typed_with_first c h [] k = no_sample
typed_with_first c h (x ∷ xs) (and_sample k ks) = and_sample h ks

pub IsSignal-initial_in : (c : Datum) (f : SignalFunction) → IsSignalFunction f → IsSignalFunction (initial_in_function c f)
IsSignal-initial_in c f sf = record {
  sized = λ xs. sf.sized (with_first c xs) ∙ length-with_first c xs;
  causal = λ n xs. ap f (take-with_first c n xs) ∙ sf.causal n (with_first c xs);
  timeless = λ d xs. ap f (retime-with_first c d xs) ∙ sf.timeless d (with_first c xs);
}

pub SameAt-initial_in : {A B : TypeTree} (c : Datum) (f f' : SignalFunction) → HasType c A → SameAt A B f f' → SameAt A B (initial_in_function c f) (initial_in_function c f')
SameAt-initial_in c f f' h hf = record {
  same = λ xs k. hf.same (with_first c xs) (typed_with_first c h xs k);
  typed = λ xs k. hf.typed (with_first c xs) (typed_with_first c h xs k);
}
