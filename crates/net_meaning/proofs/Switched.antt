-- A switch of signals is a signal.
use Rattle.std.proofs.Common.{◌≡◌, ℕ, zero, suc, ◌+◌, ◌-◌, ◌≤◌, ◌<◌, List, [], ◌∷◌, ◌++◌, length, take, drop, refl, sym, ap, ◌∙◌, arith, Some, None, inl, inr, length-take, length-drop, length-append, take-take}
use Rattle.std.proofs.lemmas.List.{drop-take, take-append-le}
use Rattle.std.proofs.lemmas.Bool.{cases_lt}
use Rattle.sample_core.specs.Datum.{Datum}
use Rattle.net_meaning.specs.SignalFunction.{TimedList, SignalFunction, first_event, cut_at, step_of, switch_at, retime, IsSignalFunction}
use Rattle.net_meaning.proofs.Events.{IsFirst, Outlook, never, once, outlook}
use Rattle.net_meaning.proofs.Zips.{take-retime, drop-retime}

-- what may take over: a signal, and the step before the first sample of the past does not count
pub record IsContinuation (t : Datum → TimedList → ℕ → SignalFunction) : Type 0 where
  pub signal : (c : Datum) (p : TimedList) (d : ℕ) → IsSignalFunction (t c p d)
  pub past : (c : Datum) (p : TimedList) (d d' : ℕ) → t c (retime d' p) d ≡ t c p d
  pub fresh : (c : Datum) (d d' : ℕ) → t c [] d ≡ t c [] d'

pub switch_at-none : (f e : SignalFunction) (t : Datum → TimedList → ℕ → SignalFunction) (xs : TimedList) → first_event (e xs) ≡ None
    → switch_at f e t xs ≡ f xs
switch_at-none f e t xs i = ap (λ o. cut_at o (f xs) (λ n c. take n (f xs) ++ t c (take n xs) (step_of (drop n xs)) (drop n xs))) i

pub switch_at-some : (f e : SignalFunction) (t : Datum → TimedList → ℕ → SignalFunction) (xs : TimedList) (n : ℕ) (c : Datum) → first_event (e xs) ≡ Some (n, c)
    → switch_at f e t xs ≡ take n (f xs) ++ t c (take n xs) (step_of (drop n xs)) (drop n xs)
switch_at-some f e t xs n c i = ap (λ o. cut_at o (f xs) (λ n c. take n (f xs) ++ t c (take n xs) (step_of (drop n xs)) (drop n xs))) i

pub take_into : {A : Type 0} (p q : List A) (k : ℕ) → take (length p + k) (p ++ q) ≡ p ++ take k q
take_into [] q k = let e : 0 + k ≡ k = omega arith in ap (λ n. take n q) e
take_into (x ∷ p) q k = let e : suc (length p) + k ≡ suc (length p + k) = omega arith in ap (λ n. take n (x ∷ (p ++ q))) e ∙ ap (λ ys. x ∷ ys) (take_into p q k)

pub take_into_at : {A : Type 0} (p q : List A) (n k : ℕ) → length p ≡ n → take (n + k) (p ++ q) ≡ p ++ take k q
take_into_at p q n k e = ap (λ i. take (i + k) (p ++ q)) (sym e) ∙ take_into p q k

pub step_of-take : (k : ℕ) (xs : TimedList) → step_of (take (suc k) xs) ≡ step_of xs
step_of-take k [] = refl
step_of-take k (x ∷ xs) = refl

module _ (f e : SignalFunction) (t : Datum → TimedList → ℕ → SignalFunction) (sf : IsSignalFunction f) (se : IsSignalFunction e) (st : IsContinuation t) where
  -- what takes over sees no more than it is given
  over-take : (c : Datum) (n k : ℕ) (xs : TimedList)
      → t c (take n (take (n + suc k) xs)) (step_of (drop n (take (n + suc k) xs))) (drop n (take (n + suc k) xs))
      ≡ take (suc k) (t c (take n xs) (step_of (drop n xs)) (drop n xs))
  over-take c n k xs =
      let l : n ≤ n + suc k = omega arith in
      ap (λ p. t c p (step_of (drop n (take (n + suc k) xs))) (drop n (take (n + suc k) xs))) (take-take n (n + suc k) xs l)
      ∙ ap (λ r. t c (take n xs) (step_of r) r) (drop-take n (suc k) xs)
      ∙ ap (λ s. t c (take n xs) s (take (suc k) (drop n xs))) (step_of-take k (drop n xs))
      ∙ (st.signal c (take n xs) (step_of (drop n xs))).causal (suc k) (drop n xs)

  over-retime : (c : Datum) (n d : ℕ) (xs : TimedList)
      → t c (take n (retime d xs)) (step_of (drop n (retime d xs))) (drop n (retime d xs)) ≡ t c (take n xs) (step_of (drop n xs)) (drop n xs)
  over-retime c zero d xs =
      ap (λ g. g (retime d xs)) (st.fresh c (step_of (retime d xs)) (step_of xs)) ∙ (st.signal c [] (step_of xs)).timeless d xs
  over-retime c (suc n) d xs =
      ap (λ r. t c (take (suc n) (retime d xs)) (step_of r) r) (drop-retime n d xs)
      ∙ ap (λ p. t c p (step_of (drop (suc n) xs)) (drop (suc n) xs)) (take-retime n d xs)
      ∙ ap (λ g. g (drop (suc n) xs)) (st.past c (take (suc n) xs) (step_of (drop (suc n) xs)) d)

  length-once : (xs : TimedList) (n : ℕ) (c : Datum) → IsFirst (e xs) n c → length (switch_at f e t xs) ≡ length xs
  length-once xs n c i =
      let over : List Datum = t c (take n xs) (step_of (drop n xs)) (drop n xs) in
      let lo : length over ≡ length (drop n xs) = (st.signal c (take n xs) (step_of (drop n xs))).sized (drop n xs) in
      let w : n < length (e xs) = i.within in
      let le : length (e xs) ≡ length xs = se.sized xs in
      let lf : length (f xs) ≡ length xs = sf.sized xs in
      ap length (switch_at-some f e t xs n c i.is) ∙ (omega (arith, length-append (take n (f xs)) over, length-take n (f xs), length-drop n xs))

  length-switch_at : (xs : TimedList) → Outlook (e xs) → length (switch_at f e t xs) ≡ length xs
  length-switch_at xs (never i) = ap length (switch_at-none f e t xs i.is) ∙ sf.sized xs
  length-switch_at xs (once n c i) = length-once xs n c i

  none-take : (m : ℕ) (xs : TimedList) → first_event (take m (e xs)) ≡ None → switch_at f e t (take m xs) ≡ take m (f xs)
  none-take m xs i = switch_at-none f e t (take m xs) (ap first_event (se.causal m xs) ∙ i) ∙ sf.causal m xs

  -- the first n + suc k samples, the event being at n
  once-take : (n k : ℕ) (c : Datum) (xs : TimedList) → IsFirst (e xs) n c → switch_at f e t (take (n + suc k) xs) ≡ take (n + suc k) (switch_at f e t xs)
  once-take n k c xs i =
      let w : n < length (e xs) = i.within in
      let le : length (e xs) ≡ length xs = se.sized xs in
      let lf : length (f xs) ≡ length xs = sf.sized xs in
      let l : n ≤ n + suc k = omega arith in
      let ln : length (take n (f xs)) ≡ n = omega (arith, length-take n (f xs)) in
      let over : List Datum = t c (take n xs) (step_of (drop n xs)) (drop n xs) in
      switch_at-some f e t (take (n + suc k) xs) n c (ap first_event (se.causal (n + suc k) xs) ∙ i.seen (n + suc k) (omega arith))
      ∙ ap (λ ys. take n ys ++ t c (take n (take (n + suc k) xs)) (step_of (drop n (take (n + suc k) xs))) (drop n (take (n + suc k) xs)))
      (sf.causal (n + suc k) xs)
      ∙ ap (λ ys. ys ++ t c (take n (take (n + suc k) xs)) (step_of (drop n (take (n + suc k) xs))) (drop n (take (n + suc k) xs)))
      (take-take n (n + suc k) (f xs) l)
      ∙ ap (λ zs. take n (f xs) ++ zs) (over-take c n k xs)
      ∙ sym (take_into_at (take n (f xs)) over n (suc k) ln)
      ∙ ap (take (n + suc k)) (sym (switch_at-some f e t xs n c i.is))

  before-take : (m n : ℕ) (c : Datum) (xs : TimedList) → m ≤ n → IsFirst (e xs) n c → switch_at f e t (take m xs) ≡ take m (switch_at f e t xs)
  before-take m n c xs l i =
      let w : n < length (e xs) = i.within in
      let le : length (e xs) ≡ length xs = se.sized xs in
      let lf : length (f xs) ≡ length xs = sf.sized xs in
      let over : List Datum = t c (take n xs) (step_of (drop n xs)) (drop n xs) in
      let ln : m ≤ length (take n (f xs)) = omega (arith, length-take n (f xs)) in
      none-take m xs (i.unseen m l)
      ∙ sym (take-take m n (f xs) l)
      ∙ sym (take-append-le m (take n (f xs)) over ln)
      ∙ ap (take m) (sym (switch_at-some f e t xs n c i.is))

  take-switch_at : (m : ℕ) (xs : TimedList) → Outlook (e xs) → switch_at f e t (take m xs) ≡ take m (switch_at f e t xs)
  take-switch_at m xs (never i) = none-take m xs (i.so_far m) ∙ ap (take m) (sym (switch_at-none f e t xs i.is))
  take-switch_at m xs (once n c i) = elim (cases_lt n m) [
    | inl h ↦ let k : n + suc (m - suc n) ≡ m = omega arith in ap (λ j. switch_at f e t (take j xs)) (sym k) ∙ once-take n (m - suc n) c xs i
        ∙ ap (λ j. take j (switch_at f e t xs)) k
    | inr h ↦ before-take m n c xs h i
  ]

  retime-switch_at : (d : ℕ) (xs : TimedList) → Outlook (e xs) → switch_at f e t (retime d xs) ≡ switch_at f e t xs
  retime-switch_at d xs (never i) = switch_at-none f e t (retime d xs) (ap first_event (se.timeless d xs) ∙ i.is) ∙ sf.timeless d xs
      ∙ sym (switch_at-none f e t xs i.is)
  retime-switch_at d xs (once n c i) =
      switch_at-some f e t (retime d xs) n c (ap first_event (se.timeless d xs) ∙ i.is)
      ∙ ap (λ ys. take n ys ++ t c (take n (retime d xs)) (step_of (drop n (retime d xs))) (drop n (retime d xs))) (sf.timeless d xs)
      ∙ ap (λ zs. take n (f xs) ++ zs) (over-retime c n d xs)
      ∙ sym (switch_at-some f e t xs n c i.is)

  pub IsSignal-switch_at : IsSignalFunction (switch_at f e t)
  IsSignal-switch_at = record {
    sized = λ xs. length-switch_at xs (outlook (e xs));
    causal = λ m xs. take-switch_at m xs (outlook (e xs));
    timeless = λ d xs. retime-switch_at d xs (outlook (e xs));
  }
