-- `>>>`, `first` and `parB` of signals are signals.
use Rattle.std.proofs.Common.{◌≡◌, ℕ, List, [], ◌∷◌, map, take, refl, sym, ap, ◌∙◌}
use Rattle.std.proofs.lemmas.List.{length-map, take-map}
use Rattle.sample_core.specs.Datum.{Datum, left, right, pair}
use Rattle.net_meaning.specs.SignalFunction.{TimedList, SignalFunction, with_values, pair_samples, values, each_value, retime, pairs, seq_function, first_function, par_function, all_of, gather, watch, IsSignalFunction}
use Rattle.net_meaning.proofs.Zips.{length-zip_with, take-zip_with, retime-with_values, retime-pair_samples, retime-each_value, values-retime, length-gather, gather-take, gather-retime}

pub IsSignal-sequence : (f g : SignalFunction) → IsSignalFunction f → IsSignalFunction g → IsSignalFunction (seq_function f g)
IsSignal-sequence f g sf sg = record {
  sized = λ xs. sg.sized (with_values xs (f xs)) ∙ length-zip_with _ xs (f xs) (sf.sized xs);
  causal = λ n xs. ap (λ ys. g (with_values (take n xs) ys)) (sf.causal n xs) ∙ ap g (sym (take-zip_with _ n xs (f xs))) ∙ sg.causal n (with_values xs (f xs));
  timeless = λ d xs. ap (λ ys. g (with_values (retime d xs) ys)) (sf.timeless d xs) ∙ ap g (retime-with_values d xs (f xs))
      ∙ sg.timeless d (with_values xs (f xs));
}

pub IsSignal-watching : (f e : SignalFunction) → IsSignalFunction f → IsSignalFunction e → IsSignalFunction (watch f e)
IsSignal-watching f g sf sg = record {
  sized = λ xs. sg.sized (pair_samples xs (f xs)) ∙ length-zip_with _ xs (f xs) (sf.sized xs);
  causal = λ n xs. ap (λ ys. g (pair_samples (take n xs) ys)) (sf.causal n xs) ∙ ap g (sym (take-zip_with _ n xs (f xs)))
      ∙ sg.causal n (pair_samples xs (f xs));
  timeless = λ d xs. ap (λ ys. g (pair_samples (retime d xs) ys)) (sf.timeless d xs) ∙ ap g (retime-pair_samples d xs (f xs))
      ∙ sg.timeless d (pair_samples xs (f xs));
}

-- each output changed
pub IsSignal-after : (h : Datum → Datum) (f : SignalFunction) → IsSignalFunction f → IsSignalFunction (λ xs. map h (f xs))
IsSignal-after h f sf = record {
  sized = λ xs. length-map (f xs) h ∙ sf.sized xs;
  causal = λ n xs. ap (map h) (sf.causal n xs) ∙ sym (take-map h n (f xs));
  timeless = λ d xs. ap (map h) (sf.timeless d xs);
}

-- each input changed
pub IsSignal-before : (h : Datum → Datum) (f : SignalFunction) → IsSignalFunction f → IsSignalFunction (λ xs. f (each_value h xs))
IsSignal-before h f sf = record {
  sized = λ xs. sf.sized (each_value h xs) ∙ length-map xs (λ x. (x.0, h x.1));
  causal = λ n xs. ap f (sym (take-map (λ x. (x.0, h x.1)) n xs)) ∙ sf.causal n (each_value h xs);
  timeless = λ d xs. ap f (retime-each_value h d xs) ∙ sf.timeless d (each_value h xs);
}

pub IsSignal-pairs : (f g : SignalFunction) → IsSignalFunction f → IsSignalFunction g → IsSignalFunction (λ xs. pairs (f xs) (g xs))
IsSignal-pairs f g sf sg = record {
  sized = λ xs. length-zip_with pair (f xs) (g xs) (sg.sized xs ∙ sym (sf.sized xs)) ∙ sf.sized xs;
  causal = λ n xs. ap (λ ys. pairs ys (g (take n xs))) (sf.causal n xs) ∙ ap (pairs (take n (f xs))) (sg.causal n xs)
      ∙ sym (take-zip_with pair n (f xs) (g xs));
  timeless = λ d xs. ap (λ ys. pairs ys (g (retime d xs))) (sf.timeless d xs) ∙ ap (pairs (f xs)) (sg.timeless d xs);
}

-- parts of the samples, with no signal between
pub IsSignal-part : (h : Datum → Datum) → IsSignalFunction (λ xs. map h (values xs))
IsSignal-part h = record {
  sized = λ xs. length-map (values xs) h ∙ length-map xs (λ x. x.1);
  causal = λ n xs. ap (map h) (sym (take-map (λ x. x.1) n xs)) ∙ sym (take-map h n (values xs));
  timeless = λ d xs. ap (map h) (values-retime d xs);
}

pub IsSignal-on_left : (f : SignalFunction) → IsSignalFunction f → IsSignalFunction (first_function f)
IsSignal-on_left f sf = IsSignal-pairs (λ xs. f (each_value left xs)) (λ xs. map right (values xs)) (IsSignal-before left f sf) (IsSignal-part right)

-- each of a list
pub data AllSignals : List SignalFunction → Type 0 where
  no_signal : AllSignals []
  and_signal : {f : SignalFunction} {fs : List SignalFunction} → IsSignalFunction f → AllSignals fs → AllSignals (f ∷ fs)

all_of-take : (fs : List SignalFunction) → AllSignals fs → (n : ℕ) (xs : TimedList) → all_of fs (take n xs) ≡ map (take n) (all_of fs xs)
all_of-take [] s n xs = refl
all_of-take (f ∷ fs) (and_signal sf s) n xs = ap (λ r. r ∷ all_of fs (take n xs)) (sf.causal n xs) ∙ ap (λ rs. take n (f xs) ∷ rs) (all_of-take fs s n xs)

all_of-retime : (fs : List SignalFunction) → AllSignals fs → (d : ℕ) (xs : TimedList) → all_of fs (retime d xs) ≡ all_of fs xs
all_of-retime [] s d xs = refl
all_of-retime (f ∷ fs) (and_signal sf s) d xs = ap (λ r. r ∷ all_of fs (retime d xs)) (sf.timeless d xs) ∙ ap (λ rs. f xs ∷ rs) (all_of-retime fs s d xs)

pub IsSignal-in_parallel : (fs : List SignalFunction) → AllSignals fs → IsSignalFunction (par_function fs)
IsSignal-in_parallel fs s = record {
  sized = λ xs. length-gather xs (all_of fs xs);
  causal = λ n xs. ap (gather (take n xs)) (all_of-take fs s n xs) ∙ gather-take n xs (all_of fs xs);
  timeless = λ d xs. ap (gather (retime d xs)) (all_of-retime fs s d xs) ∙ gather-retime d xs (all_of fs xs);
}
