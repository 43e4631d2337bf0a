-- Cells are loops of one `arr`, on signals.
use Rattle.std.proofs.Common.{List, [], ap, ap₂, arith, le_refl, length, map, refl, suc, sym, take, take_all, zero, ℕ, ◌∙◌, ◌∷◌, ◌≡◌, ◌≤◌}
use Rattle.std.proofs.lemmas.Simd.{map-map}
use Rattle.leaf_core.specs.ExpressionValue.{on_event}
use Rattle.net_meaning.specs.SignalFunction.{TimedList, accum_by_value, by_past, feedback_values, fold_events, i_pre_value, if_event, last_or, latest_event, loop_pre_function, pair_samples, prefixes, seq_function, values, with_values}
use Rattle.sample_core.specs.Datum.{Datum, event, left, no_event, pair, right}
use Rattle.law_rules.proofs.ArrowLaws.{applied, swapped}
use Rattle.law_rules.proofs.CellLaws.{by_past-behind, by_past-same}

-- of a loop of `arr h`: the states before each value, and the outputs
module _ (h : Datum → Datum) where
  abbrev states : Datum → List Datum → List Datum
  states s [] = []
  states s (v ∷ vs) = s ∷ states (right (h (pair v s))) vs

  abbrev stepped : Datum → List Datum → List Datum
  stepped s [] = []
  stepped s (v ∷ vs) = left (h (pair v s)) ∷ stepped (right (h (pair v s))) vs

  next_states : (s : Datum) (n : ℕ) (xs : TimedList) → suc n ≤ length xs → s ∷ map right (map h (values (pair_samples (take n xs) (states s (values (take n xs)))))) ≡ states s (values (take (suc n) xs))
  next_states s n [] l = absurd (omega arith)
  next_states s zero (x ∷ xs) l = refl
  next_states s (suc n) (x ∷ xs) l = let l' : suc n ≤ length xs = omega arith in ap (λ vs. s ∷ vs) (next_states (right (h (pair x.1 s))) n xs l')

  fed_states : (s : Datum) (xs : TimedList) (n : ℕ) → n ≤ length xs → feedback_values s (applied h) xs n ≡ states s (values (take n xs))
  fed_states s xs zero l = refl
  fed_states s xs (suc n) l =
      let l' : n ≤ length xs = omega arith in
      ap (λ vs. s ∷ map right (applied h (pair_samples (take n xs) vs))) (fed_states s xs n l') ∙ next_states s n xs l

  left_states : (s : Datum) (xs : TimedList) → map left (applied h (pair_samples xs (states s (values xs)))) ≡ stepped s (values xs)
  left_states s [] = refl
  left_states s (x ∷ xs) = ap (λ vs. left (h (pair x.1 s)) ∷ vs) (left_states (right (h (pair x.1 s))) xs)

  loop-stepped : (s : Datum) (xs : TimedList) → loop_pre_function s (applied h) xs ≡ stepped s (values xs)
  loop-stepped s xs =
      ap (λ vs. map left (applied h (pair_samples xs vs)))
      (fed_states s xs (length xs) (le_refl (length xs)) ∙ ap (λ ys. states s (values ys)) (take_all (length xs) xs (le_refl (length xs))))
      ∙ left_states s xs

  -- a formula over the past whose start is a state
  module _ (out : Datum → TimedList → Datum)
      (one : (s : Datum) (x : ℕ × Datum) → out s (x ∷ []) ≡ left (h (pair x.1 s)))
      (more : (s : Datum) (x y : ℕ × Datum) (p : TimedList) → out s (x ∷ y ∷ p) ≡ out (right (h (pair x.1 s))) (y ∷ p)) where
    by_past-stepped : (s : Datum) (xs : TimedList) → by_past (out s) xs ≡ stepped s (values xs)
    by_past-stepped s [] = refl
    by_past-stepped s (x ∷ xs) =
        let t : Datum = right (h (pair x.1 s)) in
        ap (λ v. v ∷ map (out s) (map (λ p. x ∷ p) (prefixes xs))) (one s x)
        ∙ ap (λ vs. left (h (pair x.1 s)) ∷ vs)
        (map-map (out s) (λ p. x ∷ p) (prefixes xs) ∙ by_past-same (λ p. out s (x ∷ p)) (out t) xs (more s x) ∙ by_past-stepped t xs)

    pub by_past-looped : (s : Datum) (xs : TimedList) → by_past (out s) xs ≡ loop_pre_function s (applied h) xs
    by_past-looped s xs = by_past-stepped s xs ∙ sym (loop-stepped s xs)

-- L49
pub previous_of-looped : (c : Datum) (xs : TimedList) → by_past (i_pre_value c) xs ≡ loop_pre_function c (applied swapped) xs
previous_of-looped = by_past-looped swapped i_pre_value (λ s x. refl) (λ s x y p. refl)

-- L50
abbrev pub holding : Datum → Datum
holding x = on_event (left x) (pair (right x) (right x)) (λ v. pair v v)

held-one : (s v : Datum) → latest_event s (v ∷ []) ≡ left (holding (pair v s))
held-one s (event v) = refl
held-one s _ = refl

held-more : (s v : Datum) (vs : List Datum) → latest_event s (v ∷ vs) ≡ latest_event (right (holding (pair v s))) vs
held-more s (event v) vs = refl
held-more s _ vs = refl

pub held-looped : (c : Datum) (xs : TimedList) → by_past (λ p. latest_event c (values p)) xs ≡ loop_pre_function c (applied holding) xs
held-looped = by_past-looped holding (λ s p. latest_event s (values p)) (λ s x. held-one s x.1) (λ s x y p. held-more s x.1 (values (y ∷ p)))

-- L51
module _ (g : Datum → Datum) where
  abbrev pub accumulating : Datum → Datum
  accumulating x = on_event (left x) (pair no_event (right x)) (λ v. pair (event (g (pair (right x) v))) (g (pair (right x) v)))

  accumulated-one : (s v : Datum) → if_event v (fold_events g s (v ∷ [])) ≡ left (accumulating (pair v s))
  accumulated-one s (event v) = refl
  accumulated-one s _ = refl

  accumulated-more : (s v : Datum) (vs : List Datum) → fold_events g s (v ∷ vs) ≡ fold_events g (right (accumulating (pair v s))) vs
  accumulated-more s (event v) vs = refl
  accumulated-more s _ vs = refl

  pub accumulation-looped : (z : Datum) (xs : TimedList) → by_past (accum_by_value g z) xs ≡ loop_pre_function z (applied accumulating) xs
  accumulation-looped = by_past-looped accumulating (accum_by_value g)
      (λ s x. accumulated-one s x.1)
      (λ s x y p. ap (if_event (last_or y.1 (values p))) (accumulated-more s x.1 (values (y ∷ p))))

  -- L53
  abbrev pub held_accumulating : Datum → Datum
  held_accumulating x = on_event (left x) (pair (right x) (right x)) (λ v. pair (g (pair (right x) v)) (g (pair (right x) v)))

  -- the accumulator after one more value
  abbrev kept : Datum → Datum → Datum
  kept s v = right (accumulating (pair v s))

  held-first : (s v : Datum) → latest_event s (if_event v (fold_events g s (v ∷ [])) ∷ []) ≡ fold_events g s (v ∷ [])
  held-first s (event v) = refl
  held-first s _ = refl

  held-behind : (s v : Datum) (vs : List Datum) → latest_event s (if_event v (fold_events g s (v ∷ [])) ∷ vs) ≡ latest_event (kept s v) vs
  held-behind s (event v) vs = refl
  held-behind s _ vs = refl

  accumulated-held : (s : Datum) (xs : TimedList) → seq_function (by_past (accum_by_value g s)) (by_past (λ p. latest_event s (values p))) xs ≡ by_past (λ p. fold_events g s (values p)) xs
  accumulated-held s [] = refl
  accumulated-held s (x ∷ xs) =
      let t : Datum = kept s x.1 in
      let w : ℕ × Datum = (x.0, if_event x.1 (fold_events g s (x.1 ∷ []))) in
      let ys : TimedList = with_values xs (by_past (accum_by_value g t) xs) in
      ap (λ vs. by_past (λ p. latest_event s (values p)) (w ∷ with_values xs vs))
      (by_past-behind (accum_by_value g s) (accum_by_value g t) x xs (λ y p. ap (if_event (last_or y.1 (values p))) (accumulated-more s x.1 (values (y ∷ p)))))
      ∙ ap₂ (λ v vs. v ∷ vs) (held-first s x.1)
      (by_past-behind (λ p. latest_event s (values p)) (λ p. latest_event t (values p)) w ys (λ y p. held-behind s x.1 (values (y ∷ p)))
      ∙ accumulated-held t xs
      ∙ sym (by_past-behind (λ p. fold_events g s (values p)) (λ p. fold_events g t (values p)) x xs (λ y p. accumulated-more s x.1 (values (y ∷ p)))))

  held_accumulated-one : (s v : Datum) → fold_events g s (v ∷ []) ≡ left (held_accumulating (pair v s))
  held_accumulated-one s (event v) = refl
  held_accumulated-one s _ = refl

  held_accumulated-more : (s v : Datum) (vs : List Datum) → fold_events g s (v ∷ vs) ≡ fold_events g (right (held_accumulating (pair v s))) vs
  held_accumulated-more s (event v) vs = refl
  held_accumulated-more s _ vs = refl

  pub accumulated-held_looped : (z : Datum) (xs : TimedList)
      → seq_function (by_past (accum_by_value g z)) (by_past (λ p. latest_event z (values p))) xs ≡ loop_pre_function z (applied held_accumulating) xs
  accumulated-held_looped z xs =
      accumulated-held z xs
      ∙ by_past-looped held_accumulating (λ s p. fold_events g s (values p))
      (λ s x. held_accumulated-one s x.1) (λ s x y p. held_accumulated-more s x.1 (values (y ∷ p))) z xs
