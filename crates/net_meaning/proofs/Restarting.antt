-- `rSwitch` and `drSwitch` of signals are signals.
use Rattle.std.proofs.Common.{◌≡◌, ◌⊎◌, ℕ, zero, suc, ◌+◌, ◌-◌, ◌≤◌, List, [], ◌∷◌, ◌++◌, flat_map, length, take, drop, refl, sym, ap, ap₂, ◌∙◌, arith, inl, inr, append-nil, append_assoc, length-append, length-take, length-drop, take_all}
use Rattle.std.proofs.lemmas.List.{drop-take, take-append-le, take_at}
use Rattle.sample_core.specs.Datum.{Datum, left, pair, event}
use Rattle.net_tree.specs.Network.{Timing, at_once, delayed}
use Rattle.net_meaning.specs.SignalFunction.{TimedList, SignalFunction, Pieces, put_sample, pieces, until, lap, each_piece, r_switch_function, retime, IsSignalFunction}
use Rattle.net_meaning.proofs.Switched.{take_into_at}

-- a sample without an event
abbrev pub IsUncut : Datum → Type 0
IsUncut v = (d : ℕ) (p : Pieces) → put_sample d v p ≡ ((d, left v) ∷ p.0, p.1)

pub uncut_or_cut : (v : Datum) → IsUncut v ⊎ ((a c : Datum) × (v ≡ pair a (event c)))
uncut_or_cut (pair a (event c)) = inr (a, c, refl)
uncut_or_cut _ = inl (λ d p. refl)

-- as many items as samples, and no look ahead: outputs, or counts
pub record KeepsPace {Y : Type 0} (f : TimedList → List Y) : Type 0 where
  pub sized : (xs : TimedList) → length (f xs) ≡ length xs
  pub causal : (n : ℕ) (xs : TimedList) → f (take n xs) ≡ take n (f xs)

pub signal_keeps : (f : SignalFunction) → IsSignalFunction f → KeepsPace f
signal_keeps f sf = record { sized = sf.sized; causal = sf.causal }

-- at most the event's own sample is the one of what ran before
pub until_first : (tm : Timing) → until tm 0 ≤ 1
until_first at_once = omega arith
until_first delayed = omega arith

-- that sample, or none
abbrev pub own : Timing → ℕ × Datum → TimedList
own tm x = take (until tm 0) (x ∷ [])

own-retime : (tm : Timing) (f : SignalFunction) → IsSignalFunction f → (d e : ℕ) (a : Datum) → f (own tm (d, a)) ≡ f (own tm (e, a))
own-retime at_once f sf d e a = refl
own-retime delayed f sf d e a = sf.timeless d ((e, a) ∷ [])

-- f has seen q of its piece; its first k outputs aren't put out
abbrev pub from : {Y : Type 0} → Timing → ℕ → (TimedList → List Y) → (Datum → TimedList → List Y) → TimedList → TimedList → List Y
from tm k f t q xs = drop k (f (q ++ ((pieces xs).0 ++ lap tm (pieces xs).1))) ++ each_piece tm t (pieces xs).1

module _ {Y : Type 0} (tm : Timing) (k : ℕ) (f : TimedList → List Y) (t : Datum → TimedList → List Y) (q : TimedList) where
  pub from-uncut : (d : ℕ) (v : Datum) (xs : TimedList) → IsUncut v → from tm k f t q ((d, v) ∷ xs) ≡ from tm k f t (q ++ (d, left v) ∷ []) xs
  from-uncut d v xs u =
      ap (λ ps. drop k (f (q ++ (ps.0 ++ lap tm ps.1))) ++ each_piece tm t ps.1) (u d (pieces xs))
      ∙ ap (λ ys. drop k (f ys) ++ each_piece tm t (pieces xs).1) (sym (append_assoc q ((d, left v) ∷ []) ((pieces xs).0 ++ lap tm (pieces xs).1)))

  pub from-nil : from tm k f t q [] ≡ drop k (f q)
  from-nil = append-nil (drop k (f (q ++ []))) ∙ ap (λ ys. drop k (f ys)) (append-nil q)

pub from-cut : {Y : Type 0} (tm : Timing) (k : ℕ) (f : TimedList → List Y) (t : Datum → TimedList → List Y) (q : TimedList) (d : ℕ) (a c : Datum) (xs : TimedList)
    → from tm k f t q ((d, pair a (event c)) ∷ xs) ≡ drop k (f (q ++ own tm (d, a))) ++ from tm (until tm 0) (t c) t ((d, a) ∷ []) xs
from-cut at_once k f t q d a c xs = refl
from-cut delayed k f t q d a c xs = refl

module _ {Y : Type 0} (tm : Timing) (t : Datum → TimedList → List Y) (lt : (c : Datum) (xs : TimedList) → length (t c xs) ≡ length xs) where
  length-from : (k : ℕ) (f : TimedList → List Y) → ((xs : TimedList) → length (f xs) ≡ length xs) → (q xs : TimedList) → k ≤ length q
      → length (from tm k f t q xs) + k ≡ length q + length xs
  length-from k f lf q [] l =
      let e : length (from tm k f t q []) ≡ length (drop k (f q)) = ap length (from-nil tm k f t q) in
      let s : length (f q) ≡ length q = lf q in
      omega (arith, length-drop k (f q))
  length-from k f lf q (x ∷ xs) l = elim (uncut_or_cut x.1) [
    | inl u ↦
        let q' : TimedList = q ++ (x.0, left x.1) ∷ [] in
        let lq : length q' ≡ length q + 1 = length-append q ((x.0, left x.1) ∷ []) in
        let ih : length (from tm k f t q' xs) + k ≡ length q' + length xs = length-from k f lf q' xs (omega arith) in
        let e : length (from tm k f t q (x ∷ xs)) ≡ length (from tm k f t q' xs) = ap length (from-uncut tm k f t q x.0 x.1 xs u) in
        omega arith
    | inr h ↦
        let s : ℕ × Datum = (x.0, h.0) in
        let q' : TimedList = q ++ own tm s in
        let lq : length q' ≡ length q + length (own tm s) = length-append q (own tm s) in
        let le : length (f q') ≡ length q' = lf q' in
        let over : List Y = from tm (until tm 0) (t h.1) t (s ∷ []) xs in
        let ih : length over + until tm 0 ≡ 1 + length xs = length-from (until tm 0) (t h.1) (lt h.1) (s ∷ []) xs (until_first tm) in
        let e : length (from tm k f t q (x ∷ xs)) ≡ length (drop k (f q') ++ over) =
        ap (λ v. length (from tm k f t q ((x.0, v) ∷ xs))) h.2 ∙ ap length (from-cut tm k f t q x.0 h.0 h.1 xs) in
        omega (arith, until_first tm, length-take (until tm 0) (s ∷ []), length-append (drop k (f q')) over, length-drop k (f q'))
  ]

  pub length-restarting : (f : TimedList → List Y) → ((xs : TimedList) → length (f xs) ≡ length xs) → (xs : TimedList)
      → length (r_switch_function tm f t xs) ≡ length xs
  length-restarting f lf xs = let e : length (from tm 0 f t [] xs) + 0 ≡ 0 + length xs = length-from 0 f lf [] xs (omega arith) in omega arith

module _ {Y : Type 0} (tm : Timing) (t : Datum → TimedList → List Y) (st : (c : Datum) → KeepsPace (t c)) where
  -- the outputs to the samples seen
  from-front : (k m : ℕ) (f : TimedList → List Y) → KeepsPace f → (q xs : TimedList) → k + m ≡ length q → take m (from tm k f t q xs) ≡ drop k (f q)
  from-front k m f sf q xs e =
      let r : TimedList = (pieces xs).0 ++ lap tm (pieces xs).1 in
      let l : length (f (q ++ r)) ≡ length (q ++ r) = sf.sized (q ++ r) in
      let a : length (q ++ r) ≡ length q + length r = length-append q r in
      take-append-le m (drop k (f (q ++ r))) (each_piece tm t (pieces xs).1) (omega (arith, length-drop k (f (q ++ r))))
      ∙ sym (drop-take k m (f (q ++ r)))
      ∙ ap (drop k) (sym (sf.causal (k + m) (q ++ r)) ∙ ap f (take_at q r (k + m) (sym e)))

  from-take : (k m : ℕ) (f : TimedList → List Y) → KeepsPace f → (q : TimedList) (n : ℕ) (xs : TimedList) → k + m ≡ length q
      → from tm k f t q (take n xs) ≡ take (m + n) (from tm k f t q xs)
  from-take k m f sf q zero xs e =
      let z : m + 0 ≡ m = omega arith in
      from-nil tm k f t q ∙ sym (from-front k m f sf q xs e) ∙ ap (λ j. take j (from tm k f t q xs)) (sym z)
  from-take k m f sf q (suc n) [] e =
      let l : length (from tm k f t q []) + k ≡ length q + 0 = length-from tm t (λ c. (st c).sized) k f sf.sized q [] (omega arith) in
      sym (take_all (m + suc n) (from tm k f t q []) (omega arith))
  from-take k m f sf q (suc n) (x ∷ xs) e = elim (uncut_or_cut x.1) [
    | inl u ↦
        let q' : TimedList = q ++ (x.0, left x.1) ∷ [] in
        let lq : length q' ≡ length q + 1 = length-append q ((x.0, left x.1) ∷ []) in
        let z : suc m + n ≡ m + suc n = omega arith in
        from-uncut tm k f t q x.0 x.1 (take n xs) u ∙ from-take k (suc m) f sf q' n xs (omega arith) ∙ ap (λ j. take j (from tm k f t q' xs)) z
        ∙ ap (take (m + suc n)) (sym (from-uncut tm k f t q x.0 x.1 xs u))
    | inr h ↦
        let s : ℕ × Datum = (x.0, h.0) in
        let o : ℕ = until tm 0 in
        let q' : TimedList = q ++ own tm s in
        let lq : length q' ≡ length q + length (own tm s) = length-append q (own tm s) in
        let lf : length (f q') ≡ length q' = sf.sized q' in
        let over : List Y = from tm o (t h.1) t (s ∷ []) xs in
        let ld : length (drop k (f q')) ≡ m + o = omega (arith, until_first tm, length-take o (s ∷ []), length-drop k (f q')) in
        let z : (m + o) + (1 - o + n) ≡ m + suc n = omega (arith, until_first tm) in
        let cut : (ys : TimedList) → from tm k f t q ((x.0, x.1) ∷ ys) ≡ drop k (f q') ++ from tm o (t h.1) t (s ∷ []) ys =
        λ ys. ap (λ v. from tm k f t q ((x.0, v) ∷ ys)) h.2 ∙ from-cut tm k f t q x.0 h.0 h.1 ys in
        cut (take n xs)
        ∙ ap (λ vs. drop k (f q') ++ vs) (from-take o (1 - o) (t h.1) (st h.1) (s ∷ []) n xs (omega (arith, until_first tm)))
        ∙ sym (take_into_at (drop k (f q')) over (m + o) (1 - o + n) ld)
        ∙ ap (λ j. take j (drop k (f q') ++ over)) z
        ∙ ap (take (m + suc n)) (sym (cut xs))
  ]

  pub restarting_keeps : (f : TimedList → List Y) → KeepsPace f → KeepsPace (r_switch_function tm f t)
  restarting_keeps f sf = record {
    sized = length-restarting tm t (λ c. (st c).sized) f sf.sized;
    causal = λ n xs. let e : 0 + n ≡ n = omega arith in from-take 0 0 f sf [] n xs (omega arith) ∙ ap (λ k. take k (from tm 0 f t [] xs)) e;
  }

module _ (tm : Timing) (t : Datum → SignalFunction) (st : (c : Datum) → IsSignalFunction (t c)) where
  from-retime : (f : SignalFunction) → IsSignalFunction f → (d : ℕ) (xs : TimedList) → from tm 0 f t [] (retime d xs) ≡ from tm 0 f t [] xs
  from-retime f sf d [] = refl
  from-retime f sf d (x ∷ xs) =
      let r : TimedList = (pieces xs).0 ++ lap tm (pieces xs).1 in elim (uncut_or_cut x.1) [
        | inl u ↦
            from-uncut tm 0 f t [] d x.1 xs u
            ∙ ap (λ vs. vs ++ each_piece tm t (pieces xs).1) (sf.timeless d ((x.0, left x.1) ∷ r))
            ∙ sym (from-uncut tm 0 f t [] x.0 x.1 xs u)
        | inr h ↦
            ap (λ v. from tm 0 f t [] ((d, v) ∷ xs)) h.2
            ∙ from-cut tm 0 f t [] d h.0 h.1 xs
            ∙ ap₂ (λ vs ws. vs ++ (drop (until tm 0) ws ++ each_piece tm t (pieces xs).1)) (own-retime tm f sf d x.0 h.0) ((st h.1).timeless d ((x.0, h.0) ∷ r))
            ∙ sym (from-cut tm 0 f t [] x.0 h.0 h.1 xs)
            ∙ ap (λ v. from tm 0 f t [] ((x.0, v) ∷ xs)) (sym h.2)
      ]

  pub IsSignal-restarting : (f : SignalFunction) → IsSignalFunction f → IsSignalFunction (r_switch_function tm f t)
  IsSignal-restarting f sf =
      let k = restarting_keeps tm t (λ c. signal_keeps (t c) (st c)) f (signal_keeps f sf) in
      record { sized = k.sized; causal = k.causal; timeless = from-retime f sf }

-- what starts at once runs on its piece alone
lap-at_once : (qs : List (Datum × TimedList)) → lap at_once qs ≡ []
lap-at_once [] = refl
lap-at_once (q ∷ qs) = refl

alone : {Y : Type 0} (f : TimedList → List Y) (q : TimedList) (qs : List (Datum × TimedList)) → f (q ++ lap at_once qs) ≡ f q
alone f q qs = ap f (ap (λ l. q ++ l) (lap-at_once qs) ∙ append-nil q)

each_piece-at_once : {Y : Type 0} (t : Datum → TimedList → List Y) (qs : List (Datum × TimedList)) → each_piece at_once t qs ≡ flat_map (λ p. t p.0 p.1) qs
each_piece-at_once t [] = refl
each_piece-at_once t (q ∷ qs) = ap₂ (λ vs ws. vs ++ ws) (alone (t q.0) q.1 qs) (each_piece-at_once t qs)

pub restarting-at_once : {Y : Type 0} (f : TimedList → List Y) (t : Datum → TimedList → List Y) (xs : TimedList)
    → r_switch_function at_once f t xs ≡ f (pieces xs).0 ++ flat_map (λ p. t p.0 p.1) (pieces xs).1
restarting-at_once f t xs = ap₂ (λ vs ws. vs ++ ws) (alone f (pieces xs).0 (pieces xs).1) (each_piece-at_once t (pieces xs).1)
