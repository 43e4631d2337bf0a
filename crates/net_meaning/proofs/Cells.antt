-- The cells are signals.
use Rattle.std.proofs.Common.{◌≡◌, ℕ, [], ◌∷◌, map, refl, sym, ap}
use Rattle.std.proofs.lemmas.List.{length-map, take-map}
use Rattle.sample_core.specs.Datum.{Datum}
use Rattle.net_meaning.specs.SignalFunction.{TimedList, values, by_past, retime, i_pre_value, delay_value, latest_event, accum_by_value, after_value, repeatedly_value, time_value, integral_value, IsSignalFunction}
use Rattle.net_meaning.proofs.Zips.{values-retime}
use Rattle.net_meaning.proofs.Prefixes.{IsSignal-by_past}

pub IsSignal-values : IsSignalFunction values
IsSignal-values = record {
  sized = λ xs. length-map xs (λ x. x.1);
  causal = λ n xs. sym (take-map (λ x. x.1) n xs);
  timeless = values-retime;
}

previous_of-retime : (c : Datum) (d : ℕ) (p : TimedList) → i_pre_value c (retime d p) ≡ i_pre_value c p
previous_of-retime c d [] = refl
previous_of-retime c d (x ∷ []) = refl
previous_of-retime c d (x ∷ y ∷ p) = refl

delay_value-retime : (q : ℕ) (c : Datum) (d : ℕ) (p : TimedList) → delay_value q c (retime d p) ≡ delay_value q c p
delay_value-retime q c d [] = refl
delay_value-retime q c d (x ∷ p) = refl

accumulation-retime : (g : Datum → Datum) (z : Datum) (d : ℕ) (p : TimedList) → accum_by_value g z (retime d p) ≡ accum_by_value g z p
accumulation-retime g z d [] = refl
accumulation-retime g z d (x ∷ p) = refl

after_value-retime : (q : ℕ) (c : Datum) (d : ℕ) (p : TimedList) → after_value q c (retime d p) ≡ after_value q c p
after_value-retime q c d [] = refl
after_value-retime q c d (x ∷ []) = refl
after_value-retime q c d (x ∷ y ∷ p) = refl

repeatedly_value-retime : (q : ℕ) (c : Datum) (d : ℕ) (p : TimedList) → repeatedly_value q c (retime d p) ≡ repeatedly_value q c p
repeatedly_value-retime q c d [] = refl
repeatedly_value-retime q c d (x ∷ []) = refl
repeatedly_value-retime q c d (x ∷ y ∷ p) = refl

clock-retime : (d : ℕ) (p : TimedList) → time_value (retime d p) ≡ time_value p
clock-retime d [] = refl
clock-retime d (x ∷ p) = refl

integral_value-retime : (d : ℕ) (p : TimedList) → integral_value (retime d p) ≡ integral_value p
integral_value-retime d [] = refl
integral_value-retime d (x ∷ p) = refl

pub IsSignal-previous_of : (c : Datum) → IsSignalFunction (by_past (i_pre_value c))
IsSignal-previous_of c = IsSignal-by_past (i_pre_value c) (previous_of-retime c)

pub IsSignal-delay_value : (q : ℕ) (c : Datum) → IsSignalFunction (by_past (delay_value q c))
IsSignal-delay_value q c = IsSignal-by_past (delay_value q c) (delay_value-retime q c)

pub IsSignal-latest_event : (c : Datum) → IsSignalFunction (by_past (λ p. latest_event c (values p)))
IsSignal-latest_event c = IsSignal-by_past (λ p. latest_event c (values p)) (λ d p. ap (latest_event c) (values-retime d p))

pub IsSignal-accumulation : (g : Datum → Datum) (z : Datum) → IsSignalFunction (by_past (accum_by_value g z))
IsSignal-accumulation g z = IsSignal-by_past (accum_by_value g z) (accumulation-retime g z)

pub IsSignal-after_value : (q : ℕ) (c : Datum) → IsSignalFunction (by_past (after_value q c))
IsSignal-after_value q c = IsSignal-by_past (after_value q c) (after_value-retime q c)

pub IsSignal-repeatedly_value : (q : ℕ) (c : Datum) → IsSignalFunction (by_past (repeatedly_value q c))
IsSignal-repeatedly_value q c = IsSignal-by_past (repeatedly_value q c) (repeatedly_value-retime q c)

pub IsSignal-clock : IsSignalFunction (by_past time_value)
IsSignal-clock = IsSignal-by_past time_value clock-retime

pub IsSignal-integral_value : IsSignalFunction (by_past integral_value)
IsSignal-integral_value = IsSignal-by_past integral_value integral_value-retime
