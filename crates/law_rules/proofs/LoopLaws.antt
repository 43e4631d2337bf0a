-- Laws of `loopPre`, on signals.
use Rattle.std.proofs.Common.{List, [], ap, ap₂, arith, le_refl, length, length-take, map, refl, suc, sym, take, take-take, take_all, zero, ℕ, ◌∙◌, ◌∷◌, ◌≡◌, ◌≤◌}
use Rattle.std.proofs.lemmas.List.{take-map}
use Rattle.std.proofs.lemmas.Simd.{map-map}
use Rattle.net_meaning.specs.Examples.{n}
use Rattle.net_meaning.specs.SignalFunction.{IsSignalFunction, SignalFunction, TimedList, each_value, feedback_values, first_function, loop_pre_function, pair_samples, pairs, seq_function, values, with_values}
use Rattle.sample_core.specs.Datum.{Datum, left, pair, right}
use Rattle.law_rules.proofs.ArrowLaws.{after_first, applied, each_value-with_values, length-applied, length-each_value, lefts-pairs, length-lefted, regrouped, rights-pairs, sequence-after, sequence-before, values-with_values}
use Rattle.law_rules.proofs.SomeLaws.{left-paired}
use Rattle.net_meaning.proofs.Feedback.{IsSignal-feedback, fed_back-more, fed_back-take, length-fed_back}
use Rattle.net_meaning.proofs.Plain.{IsSignal-on_left}
use Rattle.net_meaning.proofs.Zips.{length-zip_with, take-zip_with}

-- where what is fed back goes through k
fed_back-as : (c d : Datum) (f g : SignalFunction) (k : Datum → Datum) → k c ≡ d → (xs : TimedList) → ((ys : TimedList) (vs : List Datum) → map right (g (pair_samples ys (map k vs))) ≡ map k (map right (f (pair_samples ys vs))))
    → (n : ℕ) → feedback_values d g xs n ≡ map k (feedback_values c f xs n)
fed_back-as c d f g k kc xs e zero = refl
fed_back-as c d f g k kc xs e (suc n) =
    ap₂ (λ v vs. v ∷ vs) (sym kc) (ap (λ vs. map right (g (pair_samples (take n xs) vs))) (fed_back-as c d f g k kc xs e n) ∙ e (take n xs) (feedback_values c f xs n))

fed_back-same : (c : Datum) (f g : SignalFunction) → ((ys : TimedList) → map right (g ys) ≡ map right (f ys)) → (xs : TimedList) (n : ℕ) → feedback_values c g xs n ≡ feedback_values c f xs n
fed_back-same c f g e xs zero = refl
fed_back-same c f g e xs (suc n) = ap (λ vs. c ∷ vs) (ap (λ vs. map right (g (pair_samples (take n xs) vs))) (fed_back-same c f g e xs n) ∙ e (pair_samples (take n xs) (feedback_values c f xs n)))

length-all_fed : (c : Datum) (f : SignalFunction) → IsSignalFunction f → (xs : TimedList) → length (feedback_values c f xs (length xs)) ≡ length xs
length-all_fed c f sf xs = length-fed_back c f sf xs (length xs) (le_refl (length xs))

with_values-paired : (xs : TimedList) (vs ys : List Datum) → length vs ≡ length xs → with_values (pair_samples xs vs) ys ≡ with_values xs ys
with_values-paired [] vs ys e = refl
with_values-paired (x ∷ xs) [] ys e = absurd (omega arith)
with_values-paired (x ∷ xs) (v ∷ vs) [] e = refl
with_values-paired (x ∷ xs) (v ∷ vs) (y ∷ ys) e = let e' : length vs ≡ length xs = omega arith in ap (λ zs. (x.0, y) ∷ zs) (with_values-paired xs vs ys e')

-- L14
module _ (c : Datum) (f h : SignalFunction) (sf : IsSignalFunction f) (sh : IsSignalFunction h) where
  rights-after : (ys : TimedList) → map right (seq_function f (first_function h) ys) ≡ map right (f ys)
  rights-after ys =
      let zs : TimedList = with_values ys (f ys) in
      rights-pairs (h (each_value left zs)) (map right (values zs)) (length-lefted h sh zs) ∙ ap (map right) (values-with_values ys (f ys) (sf.sized ys))

  lefts-after : (ys : TimedList) → map left (seq_function f (first_function h) ys) ≡ h (with_values ys (map left (f ys)))
  lefts-after ys =
      let zs : TimedList = with_values ys (f ys) in
      lefts-pairs (h (each_value left zs)) (map right (values zs)) (length-lefted h sh zs) ∙ ap h (each_value-with_values left ys (f ys))

  pub feedback-sequence : (xs : TimedList) → seq_function (loop_pre_function c f) h xs ≡ loop_pre_function c (seq_function f (first_function h)) xs
  feedback-sequence xs =
      let bs : List Datum = feedback_values c f xs (length xs) in
      sym (ap (λ vs. map left (seq_function f (first_function h) (pair_samples xs vs))) (fed_back-same c f (seq_function f (first_function h)) rights-after xs (length xs))
      ∙ lefts-after (pair_samples xs bs)
      ∙ ap h (with_values-paired xs bs (map left (f (pair_samples xs bs))) (length-all_fed c f sf xs)))

-- L15
righted-paired : (g : Datum → Datum) (xs : TimedList) (vs : List Datum) → each_value (λ v. pair (left v) (g (right v))) (pair_samples xs vs) ≡ pair_samples xs (map g vs)
righted-paired g [] vs = refl
righted-paired g (x ∷ xs) [] = refl
righted-paired g (x ∷ xs) (v ∷ vs) = ap (λ ys. (x.0, pair x.1 (g v)) ∷ ys) (righted-paired g xs vs)

module _ (d : Datum) (g : Datum → Datum) (f : SignalFunction) (sf : IsSignalFunction f) where
  abbrev changed_right : Datum → Datum
  changed_right v = pair (left v) (g (right v))

  before_as : (ys : TimedList) (vs : List Datum) → seq_function (applied changed_right) f (pair_samples ys vs) ≡ f (pair_samples ys (map g vs))
  before_as ys vs = sequence-before changed_right f (pair_samples ys vs) ∙ ap f (righted-paired g ys vs)

  slid : (ys : TimedList) (vs : List Datum) → map right (seq_function f (applied changed_right) (pair_samples ys (map g vs))) ≡ map g (map right (seq_function (applied changed_right) f (pair_samples ys vs)))
  slid ys vs =
      ap (map right) (sequence-after changed_right f sf (pair_samples ys (map g vs)))
      ∙ map-map right changed_right (f (pair_samples ys (map g vs)))
      ∙ sym (map-map g right (f (pair_samples ys (map g vs))))
      ∙ ap (λ us. map g (map right us)) (sym (before_as ys vs))

  pub feedback-slide : (xs : TimedList) → loop_pre_function d (seq_function (applied changed_right) f) xs ≡ loop_pre_function (g d) (seq_function f (applied changed_right)) xs
  feedback-slide xs =
      let bs : List Datum = feedback_values d (seq_function (applied changed_right) f) xs (length xs) in
      ap (map left) (before_as xs bs)
      ∙ sym (map-map left changed_right (f (pair_samples xs (map g bs))))
      ∙ sym (ap (map left) (sequence-after changed_right f sf (pair_samples xs (map g bs))))
      ∙ sym (ap (λ vs. map left (seq_function f (applied changed_right) (pair_samples xs vs))) (fed_back-as d (g d) (seq_function (applied changed_right) f) (seq_function f (applied changed_right)) g refl xs slid (length xs)))

-- L17
pub feedback-on_left : (c : Datum) (f : SignalFunction) → IsSignalFunction f → (xs : TimedList) → loop_pre_function c (first_function f) xs ≡ f xs
feedback-on_left c f sf xs =
    let bs : List Datum = feedback_values c (first_function f) xs (length xs) in
    lefts-pairs (f (each_value left (pair_samples xs bs))) (map right (values (pair_samples xs bs))) (length-lefted f sf (pair_samples xs bs))
    ∙ ap f (left-paired xs bs (length-all_fed c (first_function f) (IsSignal-on_left f sf) xs))

-- L16
abbrev pub regrouped_back : Datum → Datum
regrouped_back v = pair (pair (left v) (left (right v))) (right (right v))

regrouped_back-paired : (xs : TimedList) (us vs : List Datum) → each_value regrouped_back (pair_samples xs (pairs us vs)) ≡ pair_samples (pair_samples xs us) vs
regrouped_back-paired [] us vs = refl
regrouped_back-paired (x ∷ xs) [] vs = refl
regrouped_back-paired (x ∷ xs) (u ∷ us) [] = refl
regrouped_back-paired (x ∷ xs) (u ∷ us) (v ∷ vs) = ap (λ ys. (x.0, pair (pair x.1 u) v) ∷ ys) (regrouped_back-paired xs us vs)

rights-regrouped : (ys : List Datum) → map right (map regrouped ys) ≡ pairs (map right (map left ys)) (map right ys)
rights-regrouped [] = refl
rights-regrouped (y ∷ ys) = ap (λ vs. pair (right (left y)) (right y) ∷ vs) (rights-regrouped ys)

lefts-regrouped : (ys : List Datum) → map left (map regrouped ys) ≡ map left (map left ys)
lefts-regrouped [] = refl
lefts-regrouped (y ∷ ys) = ap (λ vs. left (left y) ∷ vs) (lefts-regrouped ys)

module _ (c d : Datum) (f : SignalFunction) (sf : IsSignalFunction f) where
  abbrev joined : SignalFunction
  joined = seq_function (applied regrouped_back) (seq_function f (applied regrouped))

  joined-is : (ys : TimedList) (us vs : List Datum) → joined (pair_samples ys (pairs us vs)) ≡ map regrouped (f (pair_samples (pair_samples ys us) vs))
  joined-is ys us vs =
      sequence-before regrouped_back (seq_function f (applied regrouped)) (pair_samples ys (pairs us vs))
      ∙ ap (seq_function f (applied regrouped)) (regrouped_back-paired ys us vs)
      ∙ sequence-after regrouped f sf (pair_samples (pair_samples ys us) vs)

  -- what the outer loop and the inner one feed back
  abbrev outer : TimedList → ℕ → List Datum
  outer xs n = feedback_values c (loop_pre_function d f) xs n

  abbrev between : TimedList → ℕ → TimedList
  between xs n = pair_samples (take n xs) (outer xs n)

  abbrev inner : TimedList → ℕ → List Datum
  inner xs n = feedback_values d f (between xs n) n

  length-between : (xs : TimedList) (n : ℕ) → n ≤ length xs → length (between xs n) ≡ n
  length-between xs n l =
      let t : length (take n xs) ≡ n = omega (arith, length-take n xs) in
      length-zip_with _ (take n xs) (outer xs n) (length-fed_back c (loop_pre_function d f) (IsSignal-feedback d f sf) xs n l ∙ sym t) ∙ t

  between-take : (xs : TimedList) (n : ℕ) → suc n ≤ length xs → take n (between xs (suc n)) ≡ between xs n
  between-take xs n l =
      let l' : n ≤ suc n = omega arith in
      take-zip_with _ n (take (suc n) xs) (outer xs (suc n))
      ∙ ap₂ pair_samples (take-take n (suc n) xs l') (fed_back-more c (loop_pre_function d f) (IsSignal-feedback d f sf) xs (suc n) n l' l)

  inner-more : (xs : TimedList) (n : ℕ) → suc n ≤ length xs → feedback_values d f (between xs (suc n)) n ≡ inner xs n
  inner-more xs n l = sym (fed_back-take d f (between xs (suc n)) n n (le_refl n)) ∙ ap (λ ys. feedback_values d f ys n) (between-take xs n l)

  outer-more : (xs : TimedList) (n : ℕ) → n ≤ length xs → outer xs (suc n) ≡ c ∷ map right (map left (f (pair_samples (between xs n) (inner xs n))))
  outer-more xs n l = ap (λ k. c ∷ map right (map left (f (pair_samples (between xs n) (feedback_values d f (between xs n) k))))) (length-between xs n l)

  joined-feeds : (xs : TimedList) (n : ℕ) → n ≤ length xs → feedback_values (pair c d) joined xs n ≡ pairs (outer xs n) (inner xs n)
  joined-feeds xs zero l = refl
  joined-feeds xs (suc n) l =
      let l' : n ≤ length xs = omega arith in
      let ys : List Datum = f (pair_samples (between xs n) (inner xs n)) in
      ap (λ vs. pair c d ∷ map right (joined (pair_samples (take n xs) vs))) (joined-feeds xs n l')
      ∙ ap (λ vs. pair c d ∷ map right vs) (joined-is (take n xs) (outer xs n) (inner xs n))
      ∙ ap (λ vs. pair c d ∷ vs) (rights-regrouped ys)
      ∙ sym (ap₂ pairs (outer-more xs n l') (ap₂ (λ zs vs. d ∷ map right (f (pair_samples zs vs))) (between-take xs n l) (inner-more xs n l)))

  pub feedback-feedback : (xs : TimedList) → loop_pre_function c (loop_pre_function d f) xs ≡ loop_pre_function (pair c d) joined xs
  feedback-feedback xs =
      let n : ℕ = length xs in
      let all : between xs n ≡ pair_samples xs (outer xs n) = ap (λ ys. pair_samples ys (outer xs n)) (take_all n xs (le_refl n)) in
      let ws : TimedList = pair_samples xs (outer xs n) in
      let lw : length ws ≡ n = ap length (sym all) ∙ length-between xs n (le_refl n) in
      sym (ap (λ vs. map left (joined (pair_samples xs vs))) (joined-feeds xs n (le_refl n))
      ∙ ap (map left) (joined-is xs (outer xs n) (inner xs n))
      ∙ lefts-regrouped (f (pair_samples ws (inner xs n)))
      ∙ ap (λ zs. map left (map left (f (pair_samples ws (feedback_values d f zs n))))) all
      ∙ ap (λ k. map left (map left (f (pair_samples ws (feedback_values d f ws k))))) (sym lw))

-- of ((a, b), c): ((a, c), b)
abbrev pub crossed : Datum → Datum
crossed v = pair (pair (left (left v)) (right v)) (right (left v))

crossed-paired : (xs : TimedList) (vs : List Datum) → each_value left (each_value crossed (pair_samples xs vs)) ≡ pair_samples (each_value left xs) vs
crossed-paired [] vs = refl
crossed-paired (x ∷ xs) [] = refl
crossed-paired (x ∷ xs) (v ∷ vs) = ap (λ ys. (x.0, pair (left x.1) v) ∷ ys) (crossed-paired xs vs)

rights-crossed : (xs : TimedList) (vs : List Datum) → length vs ≡ length xs → map right (values (each_value crossed (pair_samples xs vs))) ≡ map right (values xs)
rights-crossed [] vs e = refl
rights-crossed (x ∷ xs) [] e = absurd (omega arith)
rights-crossed (x ∷ xs) (v ∷ vs) e = let e' : length vs ≡ length xs = omega arith in ap (λ ys. right x.1 ∷ ys) (rights-crossed xs vs e')

pub lefts-crossed_pairs : (us ws : List Datum) → map left (map crossed (pairs us ws)) ≡ pairs (map left us) ws
lefts-crossed_pairs [] ws = refl
lefts-crossed_pairs (u ∷ us) [] = refl
lefts-crossed_pairs (u ∷ us) (w ∷ ws) = ap (λ ys. pair (left u) w ∷ ys) (lefts-crossed_pairs us ws)

pub rights-crossed_pairs : (us ws : List Datum) → length us ≡ length ws → map right (map crossed (pairs us ws)) ≡ map right us
rights-crossed_pairs [] ws e = refl
rights-crossed_pairs (u ∷ us) [] e = absurd (omega arith)
rights-crossed_pairs (u ∷ us) (w ∷ ws) e = let e' : length us ≡ length ws = omega arith in ap (λ ys. right u ∷ ys) (rights-crossed_pairs us ws e')

-- L47
module _ (c : Datum) (f : SignalFunction) (sf : IsSignalFunction f) where
  -- f with the right part carried round it
  abbrev carried : SignalFunction
  carried = seq_function (applied crossed) (seq_function (first_function f) (applied crossed))

  carried-is : (xs : TimedList) (vs : List Datum) → length vs ≡ length xs → carried (pair_samples xs vs) ≡ map crossed (pairs (f (pair_samples (each_value left xs) vs)) (map right (values xs)))
  carried-is xs vs e =
      sequence-before crossed (seq_function (first_function f) (applied crossed)) (pair_samples xs vs)
      ∙ after_first crossed f sf (each_value crossed (pair_samples xs vs))
      ∙ ap₂ (λ ys ws. map crossed (pairs (f ys) ws)) (crossed-paired xs vs) (rights-crossed xs vs e)

  rights-carried : (xs : TimedList) (vs : List Datum) → length vs ≡ length xs → map right (carried (pair_samples xs vs)) ≡ map right (f (pair_samples (each_value left xs) vs))
  rights-carried xs vs e =
      let ys : TimedList = pair_samples (each_value left xs) vs in
      let ll : length (each_value left xs) ≡ length xs = length-each_value left xs in
      let l : length (f ys) ≡ length (map right (values xs)) = sf.sized ys ∙ length-zip_with _ (each_value left xs) vs (e ∙ sym ll) ∙ ll ∙ sym (length-applied right xs) in
      ap (map right) (carried-is xs vs e) ∙ rights-crossed_pairs (f ys) (map right (values xs)) l

  carried-feeds : (xs : TimedList) (n : ℕ) → n ≤ length xs → feedback_values c carried xs n ≡ feedback_values c f (each_value left xs) n
  carried-feeds xs zero l = refl
  carried-feeds xs (suc n) l =
      let l' : n ≤ length xs = omega arith in
      let vs : List Datum = feedback_values c f (each_value left xs) n in
      let t : length (take n xs) ≡ n = omega (arith, length-take n xs) in
      let lv : length vs ≡ n = length-fed_back c f sf (each_value left xs) n (omega (arith, length-each_value left xs)) in
      ap (λ ws. c ∷ map right (carried (pair_samples (take n xs) ws))) (carried-feeds xs n l')
      ∙ ap (λ ws. c ∷ ws) (rights-carried (take n xs) vs (lv ∙ sym t))
      ∙ ap (λ ys. c ∷ map right (f (pair_samples ys vs))) (sym (take-map (λ x. (x.0, left x.1)) n xs))

  pub on_left-feedback : (xs : TimedList) → first_function (loop_pre_function c f) xs ≡ loop_pre_function c carried xs
  on_left-feedback xs =
      let ls : TimedList = each_value left xs in
      let vs : List Datum = feedback_values c f ls (length xs) in
      let ll : length ls ≡ length xs = length-each_value left xs in
      let lv : length vs ≡ length xs = length-fed_back c f sf ls (length xs) (omega arith) in
      ap (λ k. pairs (map left (f (pair_samples ls (feedback_values c f ls k)))) (map right (values xs))) ll
      ∙ sym (ap (λ ws. map left (carried (pair_samples xs ws))) (carried-feeds xs (length xs) (le_refl (length xs)))
      ∙ ap (map left) (carried-is xs vs lv)
      ∙ lefts-crossed_pairs (f (pair_samples ls vs)) (map right (values xs)))
