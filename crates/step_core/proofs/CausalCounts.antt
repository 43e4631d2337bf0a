-- Counts keep pace: as many as samples, and no look ahead.
use Rattle.std.proofs.Common.{◌≡◌, ℕ, zero, suc, ◌+◌, ◌-◌, ◌≤◌, ◌<◌, List, [], ◌∷◌, ◌++◌, length, take, drop, refl, sym, ap, ◌∙◌, arith, Some, None, inl, inr, length-take, length-drop, length-append, take-take, take_all}
use Rattle.std.proofs.lemmas.List.{length-map, take-map, drop-take, take-append-le}
use Rattle.std.proofs.lemmas.Bool.{cases_lt}
use Rattle.sample_core.specs.Datum.{Datum}
use Rattle.net_tree.specs.Network.{Timing, at_once, delayed}
use Rattle.net_meaning.specs.SignalFunction.{TimedList, SignalFunction, until, first_event, step_of, IsSignalFunction}
use Rattle.state_core.specs.Visits.{VisitCounts, first_and_one, both_at_first, switch_counts, resume_counts, zeros, unheard}
use Rattle.net_meaning.proofs.Events.{IsFirst, Outlook, never, once, outlook}
use Rattle.net_meaning.proofs.Switched.{step_of-take, take_into, take_into_at}
use Rattle.net_meaning.proofs.Restarting.{KeepsPace}

pub length-first_and_one : (ns : List ℕ) → length (first_and_one ns) ≡ length ns
length-first_and_one [] = refl
length-first_and_one (n ∷ ns) = refl

pub take-first_and_one : (k : ℕ) (ns : List ℕ) → first_and_one (take k ns) ≡ take k (first_and_one ns)
take-first_and_one zero ns = refl
take-first_and_one (suc k) [] = refl
take-first_and_one (suc k) (n ∷ ns) = refl

length-both : (ms ns : List ℕ) → length ms ≡ length ns → length (both_at_first ms ns) ≡ length ns
length-both [] [] e = refl
length-both [] (n ∷ ns) e = e
length-both (m ∷ ms) [] e = refl
length-both (m ∷ ms) (n ∷ ns) e = refl

length-taken_over : (vs : List Datum) (ns : List ℕ) (go : ℕ → Datum → List ℕ) → length vs ≡ length ns
    → ((n : ℕ) (c : Datum) → n < length vs → length (go n c) ≡ length ns - n) → Outlook vs → length (switch_counts (first_event vs) ns go) ≡ length ns
length-taken_over vs ns go e l (never i) = ap (λ o. length (switch_counts o ns go)) i.is
length-taken_over vs ns go e l (once n c i) =
    let w : n < length vs = i.within in
    let lg : length (go n c) ≡ length ns - n = l n c w in
    let lb : length (both_at_first (drop n ns) (go n c)) ≡ length (go n c) = length-both (drop n ns) (go n c) (omega (arith, length-drop n ns)) in
    ap (λ o. length (switch_counts o ns go)) i.is ∙ (omega (arith, length-append (take n ns) (both_at_first (drop n ns) (go n c)), length-take n ns))

take-both : (k : ℕ) (ms ns : List ℕ) → both_at_first (take (suc k) ms) (take (suc k) ns) ≡ take (suc k) (both_at_first ms ns)
take-both k [] ns = refl
take-both k (m ∷ ms) [] = refl
take-both k (m ∷ ms) (n ∷ ns) = refl

module _ (e : SignalFunction) (se : IsSignalFunction e) (v : VisitCounts) (cv : KeepsPace v) (u : Datum → TimedList → ℕ → VisitCounts)
    (cu : (c : Datum) (p : TimedList) (d : ℕ) → KeepsPace (u c p d)) where
  -- the counts of what takes over at sample n
  abbrev over : TimedList → ℕ → Datum → List ℕ
  over xs n c = u c (take n xs) (step_of (drop n xs)) (drop n xs)

  abbrev switched : VisitCounts
  switched xs = switch_counts (first_event (e xs)) (v xs) (over xs)

  over-take : (c : Datum) (n k : ℕ) (xs : TimedList) → over (take (n + suc k) xs) n c ≡ take (suc k) (over xs n c)
  over-take c n k xs =
      let l : n ≤ n + suc k = omega arith in
      ap (λ p. u c p (step_of (drop n (take (n + suc k) xs))) (drop n (take (n + suc k) xs))) (take-take n (n + suc k) xs l)
      ∙ ap (λ r. u c (take n xs) (step_of r) r) (drop-take n (suc k) xs)
      ∙ ap (λ s. u c (take n xs) s (take (suc k) (drop n xs))) (step_of-take k (drop n xs))
      ∙ (cu c (take n xs) (step_of (drop n xs))).causal (suc k) (drop n xs)

  switched-none : (xs : TimedList) → first_event (e xs) ≡ None → switched xs ≡ v xs
  switched-none xs i = ap (λ o. switch_counts o (v xs) (over xs)) i

  switched-some : (xs : TimedList) (n : ℕ) (c : Datum) → first_event (e xs) ≡ Some (n, c)
      → switched xs ≡ take n (v xs) ++ both_at_first (drop n (v xs)) (over xs n c)
  switched-some xs n c i = ap (λ o. switch_counts o (v xs) (over xs)) i

  none-take : (m : ℕ) (xs : TimedList) → first_event (take m (e xs)) ≡ None → switched (take m xs) ≡ take m (v xs)
  none-take m xs i = switched-none (take m xs) (ap first_event (se.causal m xs) ∙ i) ∙ cv.causal m xs

  -- the first n + suc k samples, the event being at n
  once-take : (n k : ℕ) (c : Datum) (xs : TimedList) → IsFirst (e xs) n c → switched (take (n + suc k) xs) ≡ take (n + suc k) (switched xs)
  once-take n k c xs i =
      let w : n < length (e xs) = i.within in
      let le : length (e xs) ≡ length xs = se.sized xs in
      let lv : length (v xs) ≡ length xs = cv.sized xs in
      let l : n ≤ n + suc k = omega arith in
      let ln : length (take n (v xs)) ≡ n = omega (arith, length-take n (v xs)) in
      let cut : TimedList = take (n + suc k) xs in
      switched-some cut n c (ap first_event (se.causal (n + suc k) xs) ∙ i.seen (n + suc k) (omega arith))
      ∙ ap (λ ms. take n ms ++ both_at_first (drop n ms) (over cut n c)) (cv.causal (n + suc k) xs)
      ∙ ap (λ ms. ms ++ both_at_first (drop n (take (n + suc k) (v xs))) (over cut n c)) (take-take n (n + suc k) (v xs) l)
      ∙ ap (λ ms. take n (v xs) ++ both_at_first ms (over cut n c)) (drop-take n (suc k) (v xs))
      ∙ ap (λ ns. take n (v xs) ++ both_at_first (take (suc k) (drop n (v xs))) ns) (over-take c n k xs)
      ∙ ap (λ ns. take n (v xs) ++ ns) (take-both k (drop n (v xs)) (over xs n c))
      ∙ sym (take_into_at (take n (v xs)) (both_at_first (drop n (v xs)) (over xs n c)) n (suc k) ln)
      ∙ ap (take (n + suc k)) (sym (switched-some xs n c i.is))

  before-take : (m n : ℕ) (c : Datum) (xs : TimedList) → m ≤ n → IsFirst (e xs) n c → switched (take m xs) ≡ take m (switched xs)
  before-take m n c xs l i =
      let w : n < length (e xs) = i.within in
      let le : length (e xs) ≡ length xs = se.sized xs in
      let lv : length (v xs) ≡ length xs = cv.sized xs in
      let ln : m ≤ length (take n (v xs)) = omega (arith, length-take n (v xs)) in
      none-take m xs (i.unseen m l)
      ∙ sym (take-take m n (v xs) l)
      ∙ sym (take-append-le m (take n (v xs)) (both_at_first (drop n (v xs)) (over xs n c)) ln)
      ∙ ap (take m) (sym (switched-some xs n c i.is))

  take-switched : (m : ℕ) (xs : TimedList) → Outlook (e xs) → switched (take m xs) ≡ take m (switched xs)
  take-switched m xs (never i) = none-take m xs (i.so_far m) ∙ ap (take m) (sym (switched-none xs i.is))
  take-switched m xs (once n c i) = elim (cases_lt n m) [
    | inl h ↦ let k : n + suc (m - suc n) ≡ m = omega arith in ap (λ j. switched (take j xs)) (sym k) ∙ once-take n (m - suc n) c xs i
        ∙ ap (λ j. take j (switched xs)) k
    | inr h ↦ before-take m n c xs h i
  ]

  pub taken_over_keeps : KeepsPace (λ xs. switch_counts (first_event (e xs)) (v xs) (λ n c. u c (take n xs) (step_of (drop n xs)) (drop n xs)))
  taken_over_keeps = record {
    sized = λ xs.
        length-taken_over (e xs) (v xs) (over xs) (se.sized xs ∙ sym (cv.sized xs))
        (λ n c h. (cu c (take n xs) (step_of (drop n xs))).sized (drop n xs) ∙ length-drop n xs ∙ ap (λ k. k - n) (sym (cv.sized xs)))
        (outlook (e xs))
        ∙ cv.sized xs;
    causal = λ m xs. take-switched m xs (outlook (e xs));
  }

-- a switch that starts anew
pub length-unheard : (tm : Timing) (v : VisitCounts) → ((xs : TimedList) → length (v xs) ≡ length xs) → (xs : TimedList)
    → length (unheard tm v xs) ≡ length xs
length-unheard tm v lv xs =
    let k : ℕ = until tm 0 in
    let l : length (v xs) ≡ length xs = lv xs in
    let z : length (zeros (drop k xs)) ≡ length (drop k xs) = length-map (drop k xs) (λ x. 0) in
    omega (arith, length-append (take k (v xs)) (zeros (drop k xs)), length-take k (v xs), length-drop k xs)

take-unheard : (tm : Timing) (v : VisitCounts) → KeepsPace v → (n : ℕ) (xs : TimedList) → unheard tm v (take n xs) ≡ take n (unheard tm v xs)
take-unheard at_once v c n xs = sym (take-map (λ x. 0) n xs)
take-unheard delayed v c zero xs = nothing (unheard delayed v []) (length-unheard delayed v c.sized [])
  where
    nothing : (ns : List ℕ) → length ns ≡ 0 → ns ≡ []
    nothing [] e = refl
    nothing (m ∷ ns) e = absurd (omega arith)
take-unheard delayed v c (suc n) [] =
    let l : length (unheard delayed v []) ≡ 0 = length-unheard delayed v c.sized [] in
    sym (take_all (suc n) (unheard delayed v []) (omega arith))
take-unheard delayed v c (suc n) (x ∷ xs) =
    let ns : List ℕ = v (x ∷ xs) in
    let l : length ns ≡ suc (length xs) = c.sized (x ∷ xs) in
    let e : 1 + n ≡ suc n = omega arith in
    ap (λ ms. take 1 ms ++ zeros (take n xs)) (c.causal (suc n) (x ∷ xs))
    ∙ ap (λ ms. ms ++ zeros (take n xs)) (take-take 1 (suc n) ns (omega arith))
    ∙ ap (λ ms. take 1 ns ++ ms) (sym (take-map (λ x. 0) n xs))
    ∙ sym (take_into_at (take 1 ns) (zeros xs) 1 n (omega (arith, length-take 1 ns)))
    ∙ ap (λ k. take k (take 1 ns ++ zeros xs)) e

pub unheard_keeps : (tm : Timing) (v : VisitCounts) → KeepsPace v → KeepsPace (unheard tm v)
unheard_keeps tm v c = record { sized = length-unheard tm v c.sized; causal = take-unheard tm v c }

-- a frozen network
length-resumed : (v : VisitCounts) → KeepsPace v → (p : TimedList) (d : ℕ) (xs : TimedList) → length (resume_counts v p d xs) ≡ length xs
length-resumed v c p d [] = refl
length-resumed v c p d (x ∷ xs) =
    let ys : TimedList = p ++ (d, x.1) ∷ xs in
    let l : length (v ys) ≡ length ys = c.sized ys in
    let a : length ys ≡ length p + suc (length xs) = length-append p ((d, x.1) ∷ xs) in
    omega (arith, length-drop (length p) (v ys))

take-resumed : (v : VisitCounts) → KeepsPace v → (p : TimedList) (d n : ℕ) (xs : TimedList) → resume_counts v p d (take n xs) ≡ take n (resume_counts v p d xs)
take-resumed v c p d zero xs = refl
take-resumed v c p d (suc n) [] = refl
take-resumed v c p d (suc n) (x ∷ xs) =
    ap (λ ys. drop (length p) (v ys)) (sym (take_into p ((d, x.1) ∷ xs) (suc n)))
    ∙ ap (drop (length p)) (c.causal (length p + suc n) (p ++ (d, x.1) ∷ xs))
    ∙ drop-take (length p) (suc n) (v (p ++ (d, x.1) ∷ xs))

pub resume_keeps : (v : VisitCounts) → KeepsPace v → (p : TimedList) (d : ℕ) → KeepsPace (resume_counts v p d)
resume_keeps v c p d = record { sized = length-resumed v c p d; causal = take-resumed v c p d }
