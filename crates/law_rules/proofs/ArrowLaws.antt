-- Laws of `>>>`, `arr` and `first`, on signals.
use Rattle.std.proofs.Common.{List, [], ap, ap₂, arith, length, map, refl, sym, ◌∙◌, ◌∷◌, ◌≡◌}
use Rattle.std.proofs.lemmas.List.{length-map}
use Rattle.std.proofs.lemmas.Simd.{map-map}
use Rattle.net_meaning.specs.SignalFunction.{IsSignalFunction, SignalFunction, TimedList, each_value, first_function, pairs, seq_function, values, with_values}
use Rattle.sample_core.specs.Datum.{Datum, left, pair, right}

-- `arr`
abbrev pub applied : (Datum → Datum) → SignalFunction
applied h xs = map h (values xs)

pub map-same : (vs : List Datum) → map (λ v. v) vs ≡ vs
map-same [] = refl
map-same (v ∷ vs) = ap (λ ws. v ∷ ws) (map-same vs)

pub map-constant : {A B : Type 0} (c : Datum) (as1 : List A) (bs : List B) → length as1 ≡ length bs → map (λ a. c) as1 ≡ map (λ b. c) bs
map-constant c [] [] e = refl
map-constant c [] (b ∷ bs) e = absurd (omega arith)
map-constant c (a ∷ as1) [] e = absurd (omega arith)
map-constant c (a ∷ as1) (b ∷ bs) e = let e' : length as1 ≡ length bs = omega arith in ap (λ vs. c ∷ vs) (map-constant c as1 bs e')

pub with_values-values : (xs : TimedList) → with_values xs (values xs) ≡ xs
with_values-values [] = refl
with_values-values (x ∷ xs) = ap (λ ys. x ∷ ys) (with_values-values xs)

pub values-with_values : (xs : TimedList) (ys : List Datum) → length ys ≡ length xs → values (with_values xs ys) ≡ ys
values-with_values [] [] e = refl
values-with_values [] (y ∷ ys) e = absurd (omega arith)
values-with_values (x ∷ xs) [] e = refl
values-with_values (x ∷ xs) (y ∷ ys) e = let e' : length ys ≡ length xs = omega arith in ap (λ zs. y ∷ zs) (values-with_values xs ys e')

pub with_values-applied : (h : Datum → Datum) (xs : TimedList) → with_values xs (map h (values xs)) ≡ each_value h xs
with_values-applied h [] = refl
with_values-applied h (x ∷ xs) = ap (λ ys. (x.0, h x.1) ∷ ys) (with_values-applied h xs)

pub values-each_value : (h : Datum → Datum) (xs : TimedList) → values (each_value h xs) ≡ map h (values xs)
values-each_value h [] = refl
values-each_value h (x ∷ xs) = ap (λ ys. h x.1 ∷ ys) (values-each_value h xs)

pub each_value-each_value : (h k : Datum → Datum) (xs : TimedList) → each_value h (each_value k xs) ≡ each_value (λ v. h (k v)) xs
each_value-each_value h k [] = refl
each_value-each_value h k (x ∷ xs) = ap (λ ys. (x.0, h (k x.1)) ∷ ys) (each_value-each_value h k xs)

pub each_value-with_values : (h : Datum → Datum) (xs : TimedList) (ys : List Datum) → each_value h (with_values xs ys) ≡ with_values xs (map h ys)
each_value-with_values h [] ys = refl
each_value-with_values h (x ∷ xs) [] = refl
each_value-with_values h (x ∷ xs) (y ∷ ys) = ap (λ zs. (x.0, h y) ∷ zs) (each_value-with_values h xs ys)

pub with_values-each_value : (h : Datum → Datum) (xs : TimedList) (ys : List Datum) → with_values (each_value h xs) ys ≡ with_values xs ys
with_values-each_value h [] ys = refl
with_values-each_value h (x ∷ xs) [] = refl
with_values-each_value h (x ∷ xs) (y ∷ ys) = ap (λ zs. (x.0, y) ∷ zs) (with_values-each_value h xs ys)

pub length-each_value : (h : Datum → Datum) (xs : TimedList) → length (each_value h xs) ≡ length xs
length-each_value h xs = length-map xs (λ x. (x.0, h x.1))

pub length-applied : (h : Datum → Datum) (xs : TimedList) → length (map h (values xs)) ≡ length xs
length-applied h xs = length-map (values xs) h ∙ length-map xs (λ x. x.1)

pub lefts-pairs : (vs ws : List Datum) → length vs ≡ length ws → map left (pairs vs ws) ≡ vs
lefts-pairs [] ws e = refl
lefts-pairs (v ∷ vs) [] e = absurd (omega arith)
lefts-pairs (v ∷ vs) (w ∷ ws) e = let e' : length vs ≡ length ws = omega arith in ap (λ us. v ∷ us) (lefts-pairs vs ws e')

pub rights-pairs : (vs ws : List Datum) → length vs ≡ length ws → map right (pairs vs ws) ≡ ws
rights-pairs [] [] e = refl
rights-pairs [] (w ∷ ws) e = absurd (omega arith)
rights-pairs (v ∷ vs) [] e = refl
rights-pairs (v ∷ vs) (w ∷ ws) e = let e' : length vs ≡ length ws = omega arith in ap (λ us. w ∷ us) (rights-pairs vs ws e')

-- `arr` before and after
pub sequence-before : (h : Datum → Datum) (f : SignalFunction) (xs : TimedList) → seq_function (applied h) f xs ≡ f (each_value h xs)
sequence-before h f xs = ap f (with_values-applied h xs)

pub sequence-after : (h : Datum → Datum) (f : SignalFunction) → IsSignalFunction f → (xs : TimedList) → seq_function f (applied h) xs ≡ map h (f xs)
sequence-after h f sf xs = ap (map h) (values-with_values xs (f xs) (sf.sized xs))

-- L1, L2, L4, L10, L25
pub sample-sequence : (f : SignalFunction) (xs : TimedList) → seq_function (applied (λ v. v)) f xs ≡ f xs
sample-sequence f xs = ap f (ap (with_values xs) (map-same (values xs)) ∙ with_values-values xs)

pub sequence-sample : (f : SignalFunction) → IsSignalFunction f → (xs : TimedList) → seq_function f (applied (λ v. v)) xs ≡ f xs
sequence-sample f sf xs = sequence-after (λ v. v) f sf xs ∙ map-same (f xs)

pub applied-applied : (g h : Datum → Datum) (xs : TimedList) → seq_function (applied g) (applied h) xs ≡ applied (λ v. h (g v)) xs
applied-applied g h xs = sequence-before g (applied h) xs ∙ ap (map h) (values-each_value g xs) ∙ map-map h g (values xs)

pub applied-applied-sequence : (g h : Datum → Datum) (f : SignalFunction) (xs : TimedList) → seq_function (applied g) (seq_function (applied h) f) xs ≡ seq_function (applied (λ v. h (g v))) f xs
applied-applied-sequence g h f xs =
    sequence-before g (seq_function (applied h) f) xs ∙ sequence-before h f (each_value g xs) ∙ ap f (each_value-each_value h g xs) ∙ sym (sequence-before (λ v. h (g v)) f xs)

pub sequence-constant : (c : Datum) (f : SignalFunction) → IsSignalFunction f → (xs : TimedList) → seq_function f (applied (λ v. c)) xs ≡ applied (λ v. c) xs
sequence-constant c f sf xs = sequence-after (λ v. c) f sf xs ∙ map-constant c (f xs) (values xs) (sf.sized xs ∙ sym (length-map xs (λ x. x.1)))

-- L5
pub on_left-applied : (h : Datum → Datum) (xs : TimedList) → first_function (applied h) xs ≡ applied (λ v. pair (h (left v)) (right v)) xs
on_left-applied h [] = refl
on_left-applied h (x ∷ xs) = ap (λ ys. pair (h (left x.1)) (right x.1) ∷ ys) (on_left-applied h xs)

-- L6
pub length-lefted : (f : SignalFunction) → IsSignalFunction f → (xs : TimedList) → length (f (each_value left xs)) ≡ length (map right (values xs))
length-lefted f sf xs = sf.sized (each_value left xs) ∙ length-each_value left xs ∙ sym (length-applied right xs)

pub on_left-sequence : (f g : SignalFunction) → IsSignalFunction f → (xs : TimedList) → first_function (seq_function f g) xs ≡ seq_function (first_function f) (first_function g) xs
on_left-sequence f g sf xs =
    let ys : List Datum = f (each_value left xs) in
    let rs : List Datum = map right (values xs) in
    let l : length ys ≡ length rs = length-lefted f sf xs in
    let lp : length (pairs ys rs) ≡ length xs = sym (length-map (pairs ys rs) right) ∙ ap length (rights-pairs ys rs l) ∙ length-applied right xs in
    sym (ap₂ (λ zs ws. pairs (g zs) ws)
    (each_value-with_values left xs (pairs ys rs) ∙ ap (with_values xs) (lefts-pairs ys rs l) ∙ sym (with_values-each_value left xs ys))
    (ap (map right) (values-with_values xs (pairs ys rs) lp) ∙ rights-pairs ys rs l))

-- L7
rights_changed : (g : Datum → Datum) (vs ws : List Datum) → map (λ v. pair (left v) (g (right v))) (pairs vs ws) ≡ pairs vs (map g ws)
rights_changed g [] ws = refl
rights_changed g (v ∷ vs) [] = refl
rights_changed g (v ∷ vs) (w ∷ ws) = ap (λ us. pair v (g w) ∷ us) (rights_changed g vs ws)

pub length-on_left : (f : SignalFunction) → IsSignalFunction f → (xs : TimedList) → length (first_function f xs) ≡ length xs
length-on_left f sf xs =
    sym (length-map (first_function f xs) right) ∙ ap length (rights-pairs (f (each_value left xs)) (map right (values xs)) (length-lefted f sf xs)) ∙ length-applied right xs

pub after_first : (h : Datum → Datum) (f : SignalFunction) → IsSignalFunction f → (xs : TimedList) → seq_function (first_function f) (applied h) xs ≡ map h (first_function f xs)
after_first h f sf xs = ap (map h) (values-with_values xs (first_function f xs) (length-on_left f sf xs))

pub on_left-right : (g : Datum → Datum) (f : SignalFunction) → IsSignalFunction f → (xs : TimedList)
    → seq_function (first_function f) (applied (λ v. pair (left v) (g (right v)))) xs ≡ seq_function (applied (λ v. pair (left v) (g (right v)))) (first_function f) xs
on_left-right g f sf xs =
    after_first (λ v. pair (left v) (g (right v))) f sf xs
    ∙ rights_changed g (f (each_value left xs)) (map right (values xs))
    ∙ ap₂ (λ ys ws. pairs (f ys) ws)
    (sym (each_value-each_value left (λ v. pair (left v) (g (right v))) xs))
    (map-map g right (values xs) ∙ sym (map-map right (λ v. pair (left v) (g (right v))) (values xs)) ∙ ap (map right) (sym (values-each_value (λ v. pair (left v) (g (right v))) xs)))
    ∙ sym (sequence-before (λ v. pair (left v) (g (right v))) (first_function f) xs)

-- L8
pub on_left-left : (f : SignalFunction) → IsSignalFunction f → (xs : TimedList) → seq_function (first_function f) (applied left) xs ≡ seq_function (applied left) f xs
on_left-left f sf xs =
    after_first left f sf xs ∙ lefts-pairs (f (each_value left xs)) (map right (values xs)) (length-lefted f sf xs) ∙ sym (sequence-before left f xs)

-- L9
abbrev pub regrouped : Datum → Datum
regrouped v = pair (left (left v)) (pair (right (left v)) (right v))

regrouped-pairs : (us vs ws : List Datum) → map regrouped (pairs (pairs us vs) ws) ≡ pairs us (pairs vs ws)
regrouped-pairs [] vs ws = refl
regrouped-pairs (u ∷ us) [] ws = refl
regrouped-pairs (u ∷ us) (v ∷ vs) [] = refl
regrouped-pairs (u ∷ us) (v ∷ vs) (w ∷ ws) = ap (λ ps. pair u (pair v w) ∷ ps) (regrouped-pairs us vs ws)

regrouped-rights : (xs : TimedList) → pairs (map right (values (each_value left xs))) (map right (values xs)) ≡ map right (values (each_value regrouped xs))
regrouped-rights [] = refl
regrouped-rights (x ∷ xs) = ap (λ ps. pair (right (left x.1)) (right x.1) ∷ ps) (regrouped-rights xs)

pub on_left-on_left : (f : SignalFunction) → IsSignalFunction f → IsSignalFunction (first_function f) → (xs : TimedList) → seq_function (first_function (first_function f)) (applied regrouped) xs ≡ seq_function (applied regrouped) (first_function f) xs
on_left-on_left f sf sl xs =
    after_first regrouped (first_function f) sl xs
    ∙ regrouped-pairs (f (each_value left (each_value left xs))) (map right (values (each_value left xs))) (map right (values xs))
    ∙ ap₂ (λ ys ws. pairs (f ys) ws) (each_value-each_value left left xs ∙ sym (each_value-each_value left regrouped xs)) (regrouped-rights xs)
    ∙ sym (sequence-before regrouped (first_function f) xs)

-- L12, L48
abbrev pub swapped : Datum → Datum
swapped v = pair (right v) (left v)

pairs-swapped : (vs ws : List Datum) → map swapped (pairs vs ws) ≡ pairs ws vs
pairs-swapped [] [] = refl
pairs-swapped [] (w ∷ ws) = refl
pairs-swapped (v ∷ vs) [] = refl
pairs-swapped (v ∷ vs) (w ∷ ws) = ap (λ us. pair w v ∷ us) (pairs-swapped vs ws)

-- f on the right
abbrev pub second_function : SignalFunction → SignalFunction
second_function f = seq_function (applied swapped) (seq_function (first_function f) (applied swapped))

pub on_right-is : (f : SignalFunction) → IsSignalFunction f → (xs : TimedList) → second_function f xs ≡ pairs (map left (values xs)) (f (each_value right xs))
on_right-is f sf xs =
    sequence-before swapped (seq_function (first_function f) (applied swapped)) xs
    ∙ after_first swapped f sf (each_value swapped xs)
    ∙ pairs-swapped (f (each_value left (each_value swapped xs))) (map right (values (each_value swapped xs)))
    ∙ ap₂ (λ us ys. pairs us (f ys)) (ap (map right) (values-each_value swapped xs) ∙ map-map right swapped (values xs)) (each_value-each_value left swapped xs)

-- f on the left, g on the right
module _ (f g : SignalFunction) (sf : IsSignalFunction f) (sg : IsSignalFunction g) where
  pub both_sides : (xs : TimedList) → seq_function (first_function f) (second_function g) xs ≡ pairs (f (each_value left xs)) (g (each_value right xs))
  both_sides xs =
      let ys : List Datum = f (each_value left xs) in
      let rs : List Datum = map right (values xs) in
      let l : length ys ≡ length rs = length-lefted f sf xs in
      let zs : TimedList = with_values xs (pairs ys rs) in
      on_right-is g sg zs
      ∙ ap₂ (λ us ws. pairs us (g ws))
      (ap (map left) (values-with_values xs (pairs ys rs) (length-on_left f sf xs)) ∙ lefts-pairs ys rs l)
      (each_value-with_values right xs (pairs ys rs) ∙ ap (with_values xs) (rights-pairs ys rs l) ∙ with_values-applied right xs)

  right_first : (xs : TimedList) → seq_function (second_function g) (first_function f) xs ≡ pairs (f (each_value left xs)) (g (each_value right xs))
  right_first xs =
      let ls : List Datum = map left (values xs) in
      let ys : List Datum = g (each_value right xs) in
      let l : length ls ≡ length ys = length-applied left xs ∙ sym (sg.sized (each_value right xs) ∙ length-each_value right xs) in
      let lp : length (pairs ls ys) ≡ length xs = sym (length-map (pairs ls ys) left) ∙ ap length (lefts-pairs ls ys l) ∙ length-applied left xs in
      ap (λ vs. first_function f (with_values xs vs)) (on_right-is g sg xs)
      ∙ ap₂ (λ us ws. pairs (f us) ws)
      (each_value-with_values left xs (pairs ls ys) ∙ ap (with_values xs) (lefts-pairs ls ys l) ∙ with_values-applied left xs)
      (ap (map right) (values-with_values xs (pairs ls ys) lp) ∙ rights-pairs ls ys l)

  pub exchanged : (xs : TimedList) → seq_function (first_function f) (second_function g) xs ≡ seq_function (second_function g) (first_function f) xs
  exchanged xs = both_sides xs ∙ sym (right_first xs)

-- L52
abbrev pub doubled : Datum → Datum
doubled v = pair v v

pairs-doubled : (vs : List Datum) → map doubled vs ≡ pairs vs vs
pairs-doubled [] = refl
pairs-doubled (v ∷ vs) = ap (λ us. pair v v ∷ us) (pairs-doubled vs)

each_value-same : (xs : TimedList) → each_value (λ v. v) xs ≡ xs
each_value-same [] = refl
each_value-same (x ∷ xs) = ap (λ ys. x ∷ ys) (each_value-same xs)

pub sequence-doubled : (f : SignalFunction) → IsSignalFunction f → (xs : TimedList) → seq_function f (applied doubled) xs ≡ seq_function (applied doubled) (seq_function (first_function f) (second_function f)) xs
sequence-doubled f sf xs =
    sequence-after doubled f sf xs ∙ pairs-doubled (f xs)
    ∙ sym (sequence-before doubled (seq_function (first_function f) (second_function f)) xs
    ∙ both_sides f f sf sf (each_value doubled xs)
    ∙ ap₂ (λ ys zs. pairs (f ys) (f zs))
    (each_value-each_value left doubled xs ∙ each_value-same xs) (each_value-each_value right doubled xs ∙ each_value-same xs))
