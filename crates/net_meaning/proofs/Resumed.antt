-- A signal resumed after a past is a signal.
use Rattle.std.proofs.Common.{◌≡◌, ℕ, zero, suc, ◌+◌, [], ◌∷◌, ◌++◌, length, take, drop, refl, sym, ap, ◌∙◌, arith, length-drop, length-append}
use Rattle.std.proofs.lemmas.List.{drop-take}
use mathlib.Core.Path.{fun_ext}
use Rattle.net_meaning.specs.SignalFunction.{TimedList, SignalFunction, resume, retime, IsSignalFunction}
use Rattle.net_meaning.proofs.Switched.{take_into}

resume-take : (f : SignalFunction) → IsSignalFunction f → (p : TimedList) (d n : ℕ) (xs : TimedList) → resume f p d (take n xs) ≡ take n (resume f p d xs)
resume-take f sf p d zero xs = refl
resume-take f sf p d (suc n) [] = refl
resume-take f sf p d (suc n) (x ∷ xs) =
    ap (λ ys. drop (length p) (f ys)) (sym (take_into p ((d, x.1) ∷ xs) (suc n)))
    ∙ ap (drop (length p)) (sf.causal (length p + suc n) (p ++ (d, x.1) ∷ xs))
    ∙ drop-take (length p) (suc n) (f (p ++ (d, x.1) ∷ xs))

length-resume : (f : SignalFunction) → IsSignalFunction f → (p : TimedList) (d : ℕ) (xs : TimedList) → length (resume f p d xs) ≡ length xs
length-resume f sf p d [] = refl
length-resume f sf p d (x ∷ xs) =
    let ys : TimedList = p ++ (d, x.1) ∷ xs in
    let l : length (f ys) ≡ length ys = sf.sized ys in
    let a : length ys ≡ length p + suc (length xs) = length-append p ((d, x.1) ∷ xs) in
    omega (arith, length-drop (length p) (f ys))

resume-retime : (f : SignalFunction) (p : TimedList) (d e : ℕ) (xs : TimedList) → resume f p d (retime e xs) ≡ resume f p d xs
resume-retime f p d e [] = refl
resume-retime f p d e (x ∷ xs) = refl

pub IsSignal-resume : (f : SignalFunction) → IsSignalFunction f → (p : TimedList) (d : ℕ) → IsSignalFunction (resume f p d)
IsSignal-resume f sf p d = record { sized = length-resume f sf p d; causal = resume-take f sf p d; timeless = resume-retime f p d }

-- the first step of the past does not count
resume-past_at : (f : SignalFunction) → IsSignalFunction f → (p : TimedList) (d d' : ℕ) (xs : TimedList) → resume f (retime d' p) d xs ≡ resume f p d xs
resume-past_at f sf p d d' [] = refl
resume-past_at f sf [] d d' (x ∷ xs) = refl
resume-past_at f sf (y ∷ p) d d' (x ∷ xs) = ap (drop (suc (length p))) (sf.timeless d' (y ∷ p ++ (d, x.1) ∷ xs))

pub resume-past : (f : SignalFunction) → IsSignalFunction f → (p : TimedList) (d d' : ℕ) → resume f (retime d' p) d ≡ resume f p d
resume-past f sf p d d' = fun_ext (resume-past_at f sf p d d')

resume-fresh_at : (f : SignalFunction) → IsSignalFunction f → (d : ℕ) (xs : TimedList) → resume f [] d xs ≡ f xs
resume-fresh_at f sf d [] = sym (sf.causal 0 [])
resume-fresh_at f sf d (x ∷ xs) = sf.timeless d (x ∷ xs)

-- nothing was seen: it starts
pub resume-fresh : (f : SignalFunction) → IsSignalFunction f → (d : ℕ) → resume f [] d ≡ f
resume-fresh f sf d = fun_ext (resume-fresh_at f sf d)
