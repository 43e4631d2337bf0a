-- The switches of signals are signals.
use Rattle.std.proofs.Common.{◌≡◌, ℕ, zero, suc, ◌+◌, ◌≤◌, ◌<◌, List, [], ◌∷◌, ◌++◌, length, take, drop, refl, sym, ap, ap₂, ◌∙◌, arith, append-nil, append_assoc, length-take, take-append-drop, take-add, subst}
use Rattle.std.proofs.lemmas.List.{drop_all}
use mathlib.Core.Path.{fun_ext}
use Rattle.sample_core.specs.Datum.{Datum, left, right}
use Rattle.net_tree.specs.Network.{Timing, at_once, delayed}
use Rattle.net_meaning.specs.SignalFunction.{TimedList, SignalFunction, step_of, lefts, rights, until, switch_at, switch_function, k_switch_function, p_switch_function, resume, retime, route, route_each, freeze_all, collect, watch, IsSignalFunction}
use Rattle.net_meaning.proofs.Events.{Outlook, never, once, outlook}
use Rattle.net_meaning.proofs.Zips.{retime-each_value}
use Rattle.net_meaning.proofs.Plain.{IsSignal-after, IsSignal-before, IsSignal-watching, IsSignal-in_parallel, AllSignals, no_signal, and_signal}
use Rattle.net_meaning.proofs.Switched.{IsContinuation, IsSignal-switch_at}
use Rattle.net_meaning.proofs.Resumed.{IsSignal-resume, resume-past, resume-fresh}

pub IsSignal-lefts : (f : SignalFunction) → IsSignalFunction f → IsSignalFunction (lefts f)
IsSignal-lefts f sf = IsSignal-after left f sf

pub IsSignal-rights : (f : SignalFunction) → IsSignalFunction f → IsSignalFunction (rights f)
IsSignal-rights f sf = IsSignal-after right f sf

-- what is resumed at once goes on as it was
resume-split : (f : SignalFunction) → IsSignalFunction f → (p r : TimedList) → resume f p (step_of r) r ≡ drop (length p) (f (p ++ r))
resume-split f sf p [] =
    let e : length (f (p ++ [])) ≡ length p = sf.sized (p ++ []) ∙ ap length (append-nil p) in
    sym (drop_all (length p) (f (p ++ [])) (omega arith))
resume-split f sf p (x ∷ r) = refl

pub resume-here : (f : SignalFunction) → IsSignalFunction f → (n : ℕ) (xs : TimedList) → n ≤ length xs
    → resume f (take n xs) (step_of (drop n xs)) (drop n xs) ≡ drop n (f xs)
resume-here f sf n xs l =
    let e : length (take n xs) ≡ n = omega (arith, length-take n xs) in
    resume-split f sf (take n xs) (drop n xs) ∙ ap (λ ys. drop (length (take n xs)) (f ys)) (take-append-drop n xs) ∙ ap (λ k. drop k (f xs)) e

-- the outputs of h, but g's until it is heard
abbrev pub late : Timing → SignalFunction → SignalFunction → SignalFunction
late tm g h xs = take (until tm 0) (g xs) ++ drop (until tm 0) (h xs)

late_lists : (n : ℕ) (vs ws : List Datum) → length vs ≡ length ws → take 1 (take n vs) ++ drop 1 (take n ws) ≡ take n (take 1 vs ++ drop 1 ws)
late_lists zero vs ws e = refl
late_lists (suc n) [] [] e = refl
late_lists (suc n) [] (w ∷ ws) e = absurd (omega arith)
late_lists (suc n) (v ∷ vs) [] e = absurd (omega arith)
late_lists (suc n) (v ∷ vs) (w ∷ ws) e = refl

length-late_lists : (vs ws : List Datum) → length vs ≡ length ws → length (take 1 vs ++ drop 1 ws) ≡ length ws
length-late_lists [] [] e = refl
length-late_lists [] (w ∷ ws) e = absurd (omega arith)
length-late_lists (v ∷ vs) [] e = absurd (omega arith)
length-late_lists (v ∷ vs) (w ∷ ws) e = refl

pub IsSignal-late : (tm : Timing) (g h : SignalFunction) → IsSignalFunction g → IsSignalFunction h → IsSignalFunction (late tm g h)
IsSignal-late at_once g h sg sh = sh
IsSignal-late delayed g h sg sh = record {
  sized = λ xs. length-late_lists (g xs) (h xs) (sg.sized xs ∙ sym (sh.sized xs)) ∙ sh.sized xs;
  causal = λ n xs. ap₂ (λ vs ws. take 1 vs ++ drop 1 ws) (sg.causal n xs) (sh.causal n xs) ∙ late_lists n (g xs) (h xs) (sg.sized xs ∙ sym (sh.sized xs));
  timeless = λ d xs. ap₂ (λ vs ws. take 1 vs ++ drop 1 ws) (sg.timeless d xs) (sh.timeless d xs);
}

until_is : (tm : Timing) (n : ℕ) → until tm n ≡ n + until tm 0
until_is at_once n = omega arith
until_is delayed n = omega arith

-- what takes over
abbrev pub lately : Timing → SignalFunction → (Datum → SignalFunction) → Datum → TimedList → ℕ → SignalFunction
lately tm f t c p d = late tm (resume (lefts f) p d) (t c)

module _ (tm : Timing) (f : SignalFunction) (t : Datum → SignalFunction) (sf : IsSignalFunction f) where
  IsContinuation-lately : ((c : Datum) → IsSignalFunction (t c)) → IsContinuation (lately tm f t)
  IsContinuation-lately st = record {
    signal = λ c p d. IsSignal-late tm (resume (lefts f) p d) (t c) (IsSignal-resume (lefts f) (IsSignal-lefts f sf) p d) (st c);
    past = λ c p d d'. ap (λ g. late tm g (t c)) (resume-past (lefts f) (IsSignal-lefts f sf) p d d');
    fresh = λ c d d'. ap (λ g. late tm g (t c)) (resume-fresh (lefts f) (IsSignal-lefts f sf) d ∙ sym (resume-fresh (lefts f) (IsSignal-lefts f sf) d'));
  }

  switching-at : (xs : TimedList) → Outlook (rights f xs) → switch_function tm f t xs ≡ switch_at (lefts f) (rights f) (lately tm f t) xs
  switching-at xs (never i) = rw i.is
  switching-at xs (once n c i) =
      let w : n < length (rights f xs) = i.within in
      let l : length (rights f xs) ≡ length xs = (IsSignal-rights f sf).sized xs in
      let h : n ≤ length xs = omega arith in
      let o : ℕ = until tm 0 in
      let rest : List Datum = drop o (t c (drop n xs)) in
      rw i.is (
      ap (λ k. take k (lefts f xs) ++ rest) (until_is tm n)
      ∙ ap (λ vs. vs ++ rest) (take-add n o (lefts f xs))
      ∙ append_assoc (take n (lefts f xs)) (take o (drop n (lefts f xs))) rest
      ∙ ap (λ vs. take n (lefts f xs) ++ (take o vs ++ rest)) (sym (resume-here (lefts f) (IsSignal-lefts f sf) n xs h)))

  pub switching-is : switch_function tm f t ≡ switch_at (lefts f) (rights f) (lately tm f t)
  switching-is = fun_ext (λ xs. switching-at xs (outlook (rights f xs)))

  pub IsSignal-switching : ((c : Datum) → IsSignalFunction (t c)) → IsSignalFunction (switch_function tm f t)
  IsSignal-switching st = subst IsSignalFunction (sym switching-is)
      (IsSignal-switch_at (lefts f) (rights f) (lately tm f t) (IsSignal-lefts f sf) (IsSignal-rights f sf) (IsContinuation-lately st))

pub IsContinuation-switching_on : (f : SignalFunction) (t : Datum → SignalFunction → SignalFunction) → IsSignalFunction f
    → ((c : Datum) (o : SignalFunction) → IsSignalFunction o → IsSignalFunction (t c o)) → IsContinuation (λ c p d. t c (resume f p d))
IsContinuation-switching_on f t sf st = record {
  signal = λ c p d. st c (resume f p d) (IsSignal-resume f sf p d);
  past = λ c p d d'. ap (t c) (resume-past f sf p d d');
  fresh = λ c d d'. ap (t c) (resume-fresh f sf d ∙ sym (resume-fresh f sf d'));
}

pub IsSignal-switching_on : (f e : SignalFunction) (t : Datum → SignalFunction → SignalFunction) → IsSignalFunction f → IsSignalFunction e
    → ((c : Datum) (o : SignalFunction) → IsSignalFunction o → IsSignalFunction (t c o)) → IsSignalFunction (k_switch_function f e t)
IsSignal-switching_on f e t sf se st = IsSignal-switch_at f (watch f e) (λ c p d. t c (resume f p d)) sf (IsSignal-watching f e sf se)
    (IsContinuation-switching_on f t sf st)

pub AllSignals-routes : (r : Datum → Datum) (i : ℕ) (fs : List SignalFunction) → AllSignals fs → AllSignals (route_each r i fs)
AllSignals-routes r i [] s = no_signal
AllSignals-routes r i (f ∷ fs) (and_signal sf s) = and_signal (IsSignal-before _ f sf) (AllSignals-routes r (suc i) fs s)

pub AllSignals-frozen_all : (r : Datum → Datum) (i : ℕ) (fs : List SignalFunction) → AllSignals fs → (p : TimedList) (d : ℕ)
    → AllSignals (freeze_all r i fs p d)
AllSignals-frozen_all r i [] s p d = no_signal
AllSignals-frozen_all r i (f ∷ fs) (and_signal sf s) p d = and_signal (IsSignal-resume f sf (route r i p) d) (AllSignals-frozen_all r (suc i) fs s p d)

frozen_all-past : (r : Datum → Datum) (i : ℕ) (fs : List SignalFunction) → AllSignals fs → (p : TimedList) (d d' : ℕ)
    → freeze_all r i fs (retime d' p) d ≡ freeze_all r i fs p d
frozen_all-past r i [] s p d d' = refl
frozen_all-past r i (f ∷ fs) (and_signal sf s) p d d' =
    ap (λ o. o ∷ freeze_all r (suc i) fs (retime d' p) d) (ap (λ q. resume f q d) (retime-each_value _ d' p) ∙ resume-past f sf (route r i p) d d')
    ∙ ap (λ os. resume f (route r i p) d ∷ os) (frozen_all-past r (suc i) fs s p d d')

frozen_all-fresh : (r : Datum → Datum) (i : ℕ) (fs : List SignalFunction) → AllSignals fs → (d d' : ℕ) → freeze_all r i fs [] d ≡ freeze_all r i fs [] d'
frozen_all-fresh r i [] s d d' = refl
frozen_all-fresh r i (f ∷ fs) (and_signal sf s) d d' =
    ap (λ o. o ∷ freeze_all r (suc i) fs [] d) (resume-fresh f sf d ∙ sym (resume-fresh f sf d'))
    ∙ ap (λ os. resume f [] d' ∷ os) (frozen_all-fresh r (suc i) fs s d d')

pub IsContinuation-switching_all : (r : Datum → Datum) (fs : List SignalFunction) (t : Datum → List SignalFunction → SignalFunction) → AllSignals fs
    → ((c : Datum) (os : List SignalFunction) → AllSignals os → IsSignalFunction (t c os)) → IsContinuation (λ c p d. t c (freeze_all r 0 fs p d))
IsContinuation-switching_all r fs t s st = record {
  signal = λ c p d. st c (freeze_all r 0 fs p d) (AllSignals-frozen_all r 0 fs s p d);
  past = λ c p d d'. ap (t c) (frozen_all-past r 0 fs s p d d');
  fresh = λ c d d'. ap (t c) (frozen_all-fresh r 0 fs s d d');
}

pub IsSignal-collect : (r : Datum → Datum) (fs : List SignalFunction) → AllSignals fs → IsSignalFunction (collect r fs)
IsSignal-collect r fs s = IsSignal-in_parallel (route_each r 0 fs) (AllSignals-routes r 0 fs s)

pub IsSignal-switching_all : (r : Datum → Datum) (fs : List SignalFunction) (e : SignalFunction) (t : Datum → List SignalFunction → SignalFunction)
    → AllSignals fs → IsSignalFunction e → ((c : Datum) (os : List SignalFunction) → AllSignals os → IsSignalFunction (t c os))
    → IsSignalFunction (p_switch_function r fs e t)
IsSignal-switching_all r fs e t s se st = IsSignal-switch_at (collect r fs) (watch (collect r fs) e) (λ c p d. t c (freeze_all r 0 fs p d))
    (IsSignal-collect r fs s) (IsSignal-watching (collect r fs) e (IsSignal-collect r fs s) se) (IsContinuation-switching_all r fs t s st)
