-- A formula over the samples so far is a signal where it does not see the first step.
use Rattle.std.proofs.Common.{◌≡◌, ℕ, zero, suc, List, [], ◌∷◌, map, length, take, refl, sym, ap, ◌∙◌}
use Rattle.std.proofs.lemmas.List.{length-map, take-map}
use Rattle.std.proofs.lemmas.Simd.{map-map}
use mathlib.Core.Path.{fun_ext}
use Rattle.sample_core.specs.Datum.{Datum}
use Rattle.net_meaning.specs.SignalFunction.{TimedList, prefixes, by_past, retime, IsSignalFunction}

pub length-prefixes : {A : Type 0} (xs : List A) → length (prefixes xs) ≡ length xs
length-prefixes [] = refl
length-prefixes (x ∷ xs) = ap suc (length-map (prefixes xs) (λ p. x ∷ p) ∙ length-prefixes xs)

pub prefixes-take : {A : Type 0} (n : ℕ) (xs : List A) → prefixes (take n xs) ≡ take n (prefixes xs)
prefixes-take zero xs = refl
prefixes-take (suc n) [] = refl
prefixes-take (suc n) (x ∷ xs) = ap (λ ps. (x ∷ []) ∷ ps) (ap (map (λ p. x ∷ p)) (prefixes-take n xs) ∙ sym (take-map (λ p. x ∷ p) n (prefixes xs)))

pub prefixes-retime : (d : ℕ) (xs : TimedList) → prefixes (retime d xs) ≡ map (retime d) (prefixes xs)
prefixes-retime d [] = refl
prefixes-retime d (x ∷ xs) = ap (λ ps. ((d, x.1) ∷ []) ∷ ps) (sym (map-map (retime d) (λ p. x ∷ p) (prefixes xs)))

pub IsSignal-by_past : (h : TimedList → Datum) → ((d : ℕ) (p : TimedList) → h (retime d p) ≡ h p) → IsSignalFunction (by_past h)
IsSignal-by_past h hr = record {
  sized = λ xs. length-map (prefixes xs) h ∙ length-prefixes xs;
  causal = λ n xs. ap (map h) (prefixes-take n xs) ∙ sym (take-map h n (prefixes xs));
  timeless = λ d xs. ap (map h) (prefixes-retime d xs) ∙ map-map h (retime d) (prefixes xs) ∙ ap (λ k. map k (prefixes xs)) (fun_ext (hr d));
}
