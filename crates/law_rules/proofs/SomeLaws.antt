-- Some of the laws of networks, on signals, to try the shape of the definitions.
use Rattle.std.proofs.Common.{List, [], ap, ap₂, arith, le_refl, length, length-take, map, refl, suc, sym, take, take-append-drop, zero, ℕ, ◌++◌, ◌<◌, ◌∙◌, ◌∷◌, ◌≡◌, ◌≤◌}
use mathlib.Core.Path.{fun_ext}
use Rattle.net_meaning.specs.Examples.{n}
use Rattle.net_meaning.specs.Meaning.{old_at}
use Rattle.net_meaning.specs.SignalFunction.{IsSignalFunction, SignalFunction, TimedList, each_value, feedback_values, first_function, k_switch_function, loop_pre_function, pair_samples, pairs, resume, seq_function, switch_at, values, watch, with_values}
use Rattle.sample_core.specs.Datum.{Datum, left, pair, right}
use Rattle.net_meaning.proofs.Events.{Outlook, never, once, outlook}
use Rattle.net_meaning.proofs.Feedback.{length-fed_back}
use Rattle.net_meaning.proofs.Plain.{IsSignal-watching}
use Rattle.net_meaning.proofs.Switched.{switch_at-none, switch_at-some}
use Rattle.net_meaning.proofs.Switches.{resume-here}
use Rattle.net_meaning.proofs.Zips.{length-zip_with, take-zip_with}

-- L3
with_values-with_values : (xs : TimedList) (ys zs : List Datum) → length ys ≡ length xs → with_values (with_values xs ys) zs ≡ with_values xs zs
with_values-with_values [] ys zs e = refl
with_values-with_values (x ∷ xs) [] zs e = absurd (omega arith)
with_values-with_values (x ∷ xs) (y ∷ ys) [] e = refl
with_values-with_values (x ∷ xs) (y ∷ ys) (z ∷ zs) e = let e' : length ys ≡ length xs = omega arith in ap (λ ws. (x.0, z) ∷ ws) (with_values-with_values xs ys zs e')

pub seq_function_assoc : (f g h : SignalFunction) → IsSignalFunction f → (xs : TimedList) → seq_function (seq_function f g) h xs ≡ seq_function f (seq_function g h) xs
seq_function_assoc f g h sf xs = ap h (sym (with_values-with_values xs (f xs) (g (with_values xs (f xs))) (sf.sized xs)))

-- L38
old_at-append : (os : List SignalFunction) (f : SignalFunction) → old_at (os ++ f ∷ []) (length os) ≡ f
old_at-append [] f = refl
old_at-append (g ∷ os) f = old_at-append os f

switching_to_itself : (f e : SignalFunction) → IsSignalFunction f → IsSignalFunction e → (xs : TimedList) → Outlook (watch f e xs) → switch_at f (watch f e) (λ c p d. resume f p d) xs ≡ f xs
switching_to_itself f e sf se xs (never i) = switch_at-none f (watch f e) (λ c p d. resume f p d) xs i.is
switching_to_itself f e sf se xs (once n c i) =
    let w : n < length (watch f e xs) = i.within in
    let l : length (watch f e xs) ≡ length xs = (IsSignal-watching f e sf se).sized xs in
    switch_at-some f (watch f e) (λ c p d. resume f p d) xs n c i.is ∙ ap (λ zs. take n (f xs) ++ zs) (resume-here f sf n xs (omega arith)) ∙ take-append-drop n (f xs)

pub switching_on-old : (os : List SignalFunction) (f e : SignalFunction) → IsSignalFunction f → IsSignalFunction e → (xs : TimedList) → k_switch_function f e (λ c o. old_at (os ++ o ∷ []) (length os)) xs ≡ f xs
switching_on-old os f e sf se xs = ap (λ t. switch_at f (watch f e) t xs) (fun_ext λ c. fun_ext λ p. fun_ext λ d. old_at-append os (resume f p d)) ∙ switching_to_itself f e sf se xs (outlook (watch f e xs))

-- L13
pub left-paired : (xs : TimedList) (vs : List Datum) → length vs ≡ length xs → each_value left (pair_samples xs vs) ≡ xs
left-paired [] vs e = refl
left-paired (x ∷ xs) [] e = absurd (omega arith)
left-paired (x ∷ xs) (v ∷ vs) e = let e' : length vs ≡ length xs = omega arith in ap (λ ys. x ∷ ys) (left-paired xs vs e')

pub right-paired : (xs : TimedList) (vs : List Datum) → length vs ≡ length xs → map right (values (pair_samples xs vs)) ≡ vs
right-paired [] [] e = refl
right-paired [] (v ∷ vs) e = absurd (omega arith)
right-paired (x ∷ xs) [] e = absurd (omega arith)
right-paired (x ∷ xs) (v ∷ vs) e = let e' : length vs ≡ length xs = omega arith in ap (λ ys. v ∷ ys) (right-paired xs vs e')

with_values-pairs : (xs : TimedList) (vs ys : List Datum) → length vs ≡ length xs → with_values (pair_samples xs vs) (pairs ys vs) ≡ pair_samples (with_values xs ys) vs
with_values-pairs [] vs ys e = refl
with_values-pairs (x ∷ xs) [] ys e = absurd (omega arith)
with_values-pairs (x ∷ xs) (v ∷ vs) [] e = refl
with_values-pairs (x ∷ xs) (v ∷ vs) (y ∷ ys) e = let e' : length vs ≡ length xs = omega arith in ap (λ zs. (x.0, pair y v) ∷ zs) (with_values-pairs xs vs ys e')

module _ (c : Datum) (h f : SignalFunction) (sh : IsSignalFunction h) (sf : IsSignalFunction f) where
  -- what f gets through `first h`
  through : (xs : TimedList) (vs : List Datum) → length vs ≡ length xs → with_values (pair_samples xs vs) (first_function h (pair_samples xs vs)) ≡ pair_samples (with_values xs (h xs)) vs
  through xs vs e =
      ap₂ (λ ys ws. with_values (pair_samples xs vs) (pairs (h ys) ws)) (left-paired xs vs e) (right-paired xs vs e) ∙ with_values-pairs xs vs (h xs) e

  fed_back-through : (xs : TimedList) (n : ℕ) → n ≤ length xs → feedback_values c f (with_values xs (h xs)) n ≡ feedback_values c (seq_function (first_function h) f) xs n
  fed_back-through xs zero l = refl
  fed_back-through xs (suc n) l =
      let l' : n ≤ length xs = omega arith in
      let ih : feedback_values c f (with_values xs (h xs)) n ≡ feedback_values c (seq_function (first_function h) f) xs n = fed_back-through xs n l' in
      let lw : length (with_values xs (h xs)) ≡ length xs = length-zip_with _ xs (h xs) (sh.sized xs) in
      let lb : length (feedback_values c f (with_values xs (h xs)) n) ≡ n = length-fed_back c f sf (with_values xs (h xs)) n (omega arith) in
      let t : length (take n xs) ≡ n = omega (arith, length-take n xs) in
      ap (λ ys. c ∷ map right (f ys)) (
      ap₂ pair_samples (take-zip_with _ n xs (h xs) ∙ ap (with_values (take n xs)) (sym (sh.causal n xs))) ih
      ∙ sym (through (take n xs) (feedback_values c (seq_function (first_function h) f) xs n) (sym (ap length ih) ∙ lb ∙ sym t)))

  pub sequence-feedback : (xs : TimedList) → seq_function h (loop_pre_function c f) xs ≡ loop_pre_function c (seq_function (first_function h) f) xs
  sequence-feedback xs =
      let lw : length (with_values xs (h xs)) ≡ length xs = length-zip_with _ xs (h xs) (sh.sized xs) in
      let ih : feedback_values c f (with_values xs (h xs)) (length xs) ≡ feedback_values c (seq_function (first_function h) f) xs (length xs) = fed_back-through xs (length xs) (le_refl (length xs)) in
      let lb : length (feedback_values c f (with_values xs (h xs)) (length xs)) ≡ length xs = length-fed_back c f sf (with_values xs (h xs)) (length xs) (omega arith) in
      ap (λ k. map left (f (pair_samples (with_values xs (h xs)) (feedback_values c f (with_values xs (h xs)) k)))) lw
      ∙ ap (λ vs. map left (f (pair_samples (with_values xs (h xs)) vs))) ih
      ∙ ap (λ ys. map left (f ys)) (sym (through xs (feedback_values c (seq_function (first_function h) f) xs (length xs)) (sym (ap length ih) ∙ lb)))
