-- Signals that agree on typed lists and answer typed values: each combinator keeps it.
use Rattle.std.proofs.Common.{◌≡◌, ℕ, zero, suc, List, [], ◌∷◌, ◌++◌, map, length, take, drop, refl, sym, ap, ap₂, ◌∙◌, subst}
use Rattle.sample_core.specs.Datum.{Datum, left, right}
use Rattle.net_meaning.specs.SignalFunction.{TimedList, SignalFunction, values, with_values, pair_samples, each_value, pairs, seq_function, first_function, par_function, all_of, gather, feedback_values, loop_pre_function, first_event, step_of, switch_at, watch, resume}
use Rattle.sample_core.specs.TypeTree.{TypeTree, pair_ty, event_ty, list_ty}
use Rattle.sample_core.specs.HasType.{HasType}
use Rattle.leaf_core.proofs.Soundness.{typed_left, typed_right}
use Rattle.net_meaning.specs.Typing.{TypedValues, no_value, and_value, TypedSamples, and_sample}
use Rattle.net_meaning.proofs.Events.{Outlook, never, once, outlook}
use Rattle.net_meaning.proofs.Switched.{switch_at-none, switch_at-some}
use Rattle.net_meaning.proofs.TypedLists.{TypedValues-map, typed_values, typed_with_values, typed_pair_samples, typed_pairs, typed_each_value, typed_append, samples_append, typed_take, typed_drop, samples_take, samples_drop, typed_first, TypedRows, no_typed_row, and_typed_row, typed_gather}
use Rattle.net_meaning.specs.Sameness.{SameAt, AllSameAt, no_twin, and_twin}

-- one signal at typed lists
pub SameAt-one : {A B : TypeTree} (f : SignalFunction) → ((xs : TimedList) → TypedSamples A xs → TypedValues B (f xs)) → SameAt A B f f
SameAt-one f h = record { same = λ xs k. refl; typed = h }

pub SameAt-sequence : {A B C : TypeTree} (f f' g g' : SignalFunction) → SameAt A B f f' → SameAt B C g g' → SameAt A C (seq_function f g) (seq_function f' g')
SameAt-sequence f f' g g' hf hg = record {
  same = λ xs k. hg.same (with_values xs (f xs)) (typed_with_values xs (f xs) (hf.typed xs k)) ∙ ap (λ ys. g' (with_values xs ys)) (hf.same xs k);
  typed = λ xs k. hg.typed (with_values xs (f xs)) (typed_with_values xs (f xs) (hf.typed xs k));
}

pub SameAt-watching : {A B C : TypeTree} (f f' e e' : SignalFunction) → SameAt A B f f' → SameAt (pair_ty A B) C e e' → SameAt A C (watch f e) (watch f' e')
SameAt-watching f f' g g' hf hg = record {
  same = λ xs k. hg.same (pair_samples xs (f xs)) (typed_pair_samples xs (f xs) k (hf.typed xs k)) ∙ ap (λ ys. g' (pair_samples xs ys)) (hf.same xs k);
  typed = λ xs k. hg.typed (pair_samples xs (f xs)) (typed_pair_samples xs (f xs) k (hf.typed xs k));
}

pub SameAt-on_left : {A B C : TypeTree} (f f' : SignalFunction) → SameAt A B f f' → SameAt (pair_ty A C) (pair_ty B C) (first_function f) (first_function f')
SameAt-on_left f f' hf = record {
  same = λ xs k. ap (λ vs. pairs vs (map right (values xs))) (hf.same (each_value left xs) (typed_each_value left xs (λ v h. typed_left h) k));
  typed = λ xs k. typed_pairs (f (each_value left xs)) (map right (values xs))
      (hf.typed (each_value left xs) (typed_each_value left xs (λ v h. typed_left h) k))
      (TypedValues-map right (values xs) (λ v h. typed_right h) (typed_values xs k));
}

pub SameAt-after : {A B C : TypeTree} (h : Datum → Datum) (f f' : SignalFunction) → ((v : Datum) → HasType v B → HasType (h v) C) → SameAt A B f f'
    → SameAt A C (λ xs. map h (f xs)) (λ xs. map h (f' xs))
SameAt-after h f f' s hf = record {
  same = λ xs k. ap (map h) (hf.same xs k);
  typed = λ xs k. TypedValues-map h (f xs) s (hf.typed xs k);
}

all_of-same : {A B : TypeTree} (fs gs : List SignalFunction) → AllSameAt A B fs gs → (xs : TimedList) → TypedSamples A xs → all_of fs xs ≡ all_of gs xs
all_of-same fs gs no_twin xs k = refl
all_of-same fs gs (and_twin {fs = fs'} {gs = gs'} sf sg h a) xs k = ap₂ (λ r rs. r ∷ rs) (h.same xs k) (all_of-same fs' gs' a xs k)

typed_all_of : {A B : TypeTree} (fs gs : List SignalFunction) → AllSameAt A B fs gs → (xs : TimedList) → TypedSamples A xs
    → TypedRows B (length xs) (all_of fs xs)
typed_all_of fs gs no_twin xs k = no_typed_row
typed_all_of fs gs (and_twin {fs = fs'} {gs = gs'} sf sg h a) xs k = and_typed_row (sf.sized xs) (h.typed xs k) (typed_all_of fs' gs' a xs k)

pub SameAt-in_parallel : {A B : TypeTree} (fs gs : List SignalFunction) → AllSameAt A B fs gs → SameAt A (list_ty B) (par_function fs) (par_function gs)
SameAt-in_parallel fs gs a = record {
  same = λ xs k. ap (gather xs) (all_of-same fs gs a xs k);
  typed = λ xs k. typed_gather xs (all_of fs xs) (typed_all_of fs gs a xs k);
}

-- feedback
typed_fed_back : {A B C : TypeTree} (c : Datum) (f f' : SignalFunction) → HasType c C → SameAt (pair_ty A C) (pair_ty B C) f f' → (xs : TimedList)
    → TypedSamples A xs → (n : ℕ) → TypedValues C (feedback_values c f xs n)
typed_fed_back c f f' hc hf xs k zero = no_value
typed_fed_back c f f' hc hf xs k (suc n) =
    let ys : TimedList = pair_samples (take n xs) (feedback_values c f xs n) in
    and_value hc
    (TypedValues-map right (f ys) (λ v h. typed_right h)
    (hf.typed ys (typed_pair_samples (take n xs) (feedback_values c f xs n) (samples_take n xs k) (typed_fed_back c f f' hc hf xs k n))))

fed_back-same : {A B C : TypeTree} (c : Datum) (f f' : SignalFunction) → HasType c C → SameAt (pair_ty A C) (pair_ty B C) f f' → (xs : TimedList)
    → TypedSamples A xs → (n : ℕ) → feedback_values c f xs n ≡ feedback_values c f' xs n
fed_back-same c f f' hc hf xs k zero = refl
fed_back-same c f f' hc hf xs k (suc n) =
    let ys : TimedList = pair_samples (take n xs) (feedback_values c f xs n) in
    ap (λ vs. c ∷ map right vs)
    (hf.same ys (typed_pair_samples (take n xs) (feedback_values c f xs n) (samples_take n xs k) (typed_fed_back c f f' hc hf xs k n))
    ∙ ap (λ vs. f' (pair_samples (take n xs) vs)) (fed_back-same c f f' hc hf xs k n))

pub SameAt-feedback : {A B C : TypeTree} (c : Datum) (f f' : SignalFunction) → HasType c C → SameAt (pair_ty A C) (pair_ty B C) f f'
    → SameAt A B (loop_pre_function c f) (loop_pre_function c f')
SameAt-feedback {A = A} {B = B} {C = C} c f f' hc hf = record {
  same = λ xs k. ap (map left) (hf.same (pair_samples xs (feedback_values c f xs (length xs))) (inputs xs k)
      ∙ ap (λ vs. f' (pair_samples xs vs)) (fed_back-same c f f' hc hf xs k (length xs)));
  typed = λ xs k. TypedValues-map left (f (pair_samples xs (feedback_values c f xs (length xs)))) (λ v h. typed_left h)
      (hf.typed (pair_samples xs (feedback_values c f xs (length xs))) (inputs xs k));
}
  where
    inputs : (xs : TimedList) → TypedSamples A xs → TypedSamples (pair_ty A C) (pair_samples xs (feedback_values c f xs (length xs)))
    inputs xs k = typed_pair_samples xs (feedback_values c f xs (length xs)) k (typed_fed_back c f f' hc hf xs k (length xs))

-- resumed
pub SameAt-resume : {A B : TypeTree} (f f' : SignalFunction) → SameAt A B f f' → (p : TimedList) (d : ℕ) → TypedSamples A p
    → SameAt A B (resume f p d) (resume f' p d)
SameAt-resume {A = A} {B = B} f f' hf p d h = record { same = go; typed = go' }
  where
    go : (xs : TimedList) → TypedSamples A xs → resume f p d xs ≡ resume f' p d xs
    go [] k = refl
    go (x ∷ xs) (and_sample k ks) = ap (drop (length p)) (hf.same (p ++ (d, x.1) ∷ xs) (samples_append p ((d, x.1) ∷ xs) h (and_sample k ks)))

    go' : (xs : TimedList) → TypedSamples A xs → TypedValues B (resume f p d xs)
    go' [] k = no_value
    go' (x ∷ xs) (and_sample k ks) = typed_drop (length p) (f (p ++ (d, x.1) ∷ xs))
        (hf.typed (p ++ (d, x.1) ∷ xs) (samples_append p ((d, x.1) ∷ xs) h (and_sample k ks)))

-- what may take over
abbrev pub SameFrom : TypeTree → TypeTree → TypeTree → (Datum → TimedList → ℕ → SignalFunction) → (Datum → TimedList → ℕ → SignalFunction) → Type 0
SameFrom A B C t t' = (c : Datum) (p : TimedList) (d : ℕ) → HasType c C → TypedSamples A p → SameAt A B (t c p d) (t' c p d)

module _ {A B C : TypeTree} (f f' e e' : SignalFunction) (t t' : Datum → TimedList → ℕ
    → SignalFunction) (hf : SameAt A B f f') (he : SameAt A (event_ty C) e e') (ht : SameFrom A B C t t') where
  switch_at-same : (xs : TimedList) → TypedSamples A xs → Outlook (e xs) → switch_at f e t xs ≡ switch_at f' e' t' xs
  switch_at-same xs k (never i) = switch_at-none f e t xs i.is ∙ hf.same xs k ∙ sym (switch_at-none f' e' t' xs (ap first_event (sym (he.same xs k)) ∙ i.is))
  switch_at-same xs k (once n c i) =
      let hc : HasType c C = typed_first (e xs) n c (he.typed xs k) i.is in
      switch_at-some f e t xs n c i.is
      ∙ ap₂ (λ ys zs. take n ys ++ zs) (hf.same xs k) ((ht c (take n xs) (step_of (drop n xs)) hc (samples_take n xs k)).same (drop n xs) (samples_drop n xs k))
      ∙ sym (switch_at-some f' e' t' xs n c (ap first_event (sym (he.same xs k)) ∙ i.is))

  typed_switch_at : (xs : TimedList) → TypedSamples A xs → Outlook (e xs) → TypedValues B (switch_at f e t xs)
  typed_switch_at xs k (never i) = subst (TypedValues B) (sym (switch_at-none f e t xs i.is)) (hf.typed xs k)
  typed_switch_at xs k (once n c i) =
      let hc : HasType c C = typed_first (e xs) n c (he.typed xs k) i.is in
      subst (TypedValues B) (sym (switch_at-some f e t xs n c i.is))
      (typed_append (take n (f xs)) (t c (take n xs) (step_of (drop n xs)) (drop n xs)) (typed_take n (f xs) (hf.typed xs k))
      ((ht c (take n xs) (step_of (drop n xs)) hc (samples_take n xs k)).typed (drop n xs) (samples_drop n xs k)))

  pub SameAt-switch_at : SameAt A B (switch_at f e t) (switch_at f' e' t')
  SameAt-switch_at = record { same = λ xs k. switch_at-same xs k (outlook (e xs)); typed = λ xs k. typed_switch_at xs k (outlook (e xs)) }
