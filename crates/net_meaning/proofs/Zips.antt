-- Lists item by item: how the words of the definitions go with `take`, `length` and the first step.
use Rattle.std.proofs.Common.{◌≡◌, ℕ, zero, suc, List, [], ◌∷◌, map, length, take, drop, refl, ap, arith}
use Rattle.sample_core.specs.Datum.{Datum, list_of, unit, list}
use Rattle.net_meaning.specs.SignalFunction.{TimedList, zip_with, with_values, pair_samples, values, each_value, retime, gather, heads, tails}

pub length-zip_with : {A B C : Type 0} (h : A → B → C) (xs : List A) (ys : List B) → length ys ≡ length xs → length (zip_with h xs ys) ≡ length xs
length-zip_with h [] ys e = refl
length-zip_with h (x ∷ xs) [] e = e
length-zip_with h (x ∷ xs) (y ∷ ys) e = let e' : length ys ≡ length xs = omega arith in ap suc (length-zip_with h xs ys e')

pub take-zip_with : {A B C : Type 0} (h : A → B → C) (n : ℕ) (xs : List A) (ys : List B) → take n (zip_with h xs ys) ≡ zip_with h (take n xs) (take n ys)
take-zip_with h zero xs ys = refl
take-zip_with h (suc n) [] ys = refl
take-zip_with h (suc n) (x ∷ xs) [] = refl
take-zip_with h (suc n) (x ∷ xs) (y ∷ ys) = ap (λ zs. h x y ∷ zs) (take-zip_with h n xs ys)

pub retime-with_values : (d : ℕ) (xs : TimedList) (ys : List Datum) → with_values (retime d xs) ys ≡ retime d (with_values xs ys)
retime-with_values d [] ys = refl
retime-with_values d (x ∷ xs) [] = refl
retime-with_values d (x ∷ xs) (y ∷ ys) = refl

pub retime-pair_samples : (d : ℕ) (xs : TimedList) (ys : List Datum) → pair_samples (retime d xs) ys ≡ retime d (pair_samples xs ys)
retime-pair_samples d [] ys = refl
retime-pair_samples d (x ∷ xs) [] = refl
retime-pair_samples d (x ∷ xs) (y ∷ ys) = refl

pub retime-each_value : (h : Datum → Datum) (d : ℕ) (xs : TimedList) → each_value h (retime d xs) ≡ retime d (each_value h xs)
retime-each_value h d [] = refl
retime-each_value h d (x ∷ xs) = refl

pub values-retime : (d : ℕ) (xs : TimedList) → values (retime d xs) ≡ values xs
values-retime d [] = refl
values-retime d (x ∷ xs) = refl

pub length-retime : (d : ℕ) (xs : TimedList) → length (retime d xs) ≡ length xs
length-retime d [] = refl
length-retime d (x ∷ xs) = refl

-- the first step stays the first, or is cut off
pub take-retime : (n d : ℕ) (xs : TimedList) → take (suc n) (retime d xs) ≡ retime d (take (suc n) xs)
take-retime n d [] = refl
take-retime n d (x ∷ xs) = refl

pub drop-retime : (n d : ℕ) (xs : TimedList) → drop (suc n) (retime d xs) ≡ drop (suc n) xs
drop-retime n d [] = refl
drop-retime n d (x ∷ xs) = refl

-- rows cut to n items
pub heads-take : (n : ℕ) (rows : List (List Datum)) → heads (map (take (suc n)) rows) ≡ heads rows
heads-take n [] = refl
heads-take n ([] ∷ rows) = ap (λ vs. unit ∷ vs) (heads-take n rows)
heads-take n ((v ∷ row) ∷ rows) = ap (λ vs. v ∷ vs) (heads-take n rows)

nil_cut : (n : ℕ) → take n (let e : List Datum = [] in e) ≡ []
nil_cut zero = refl
nil_cut (suc n) = refl

pub tails-take : (n : ℕ) (rows : List (List Datum)) → tails (map (take (suc n)) rows) ≡ map (take n) (tails rows)
tails-take n [] = refl
tails-take n ([] ∷ rows) = rw nil_cut (ap (λ vs. [] ∷ vs) (tails-take n rows))
tails-take n ((v ∷ row) ∷ rows) = ap (λ vs. take n row ∷ vs) (tails-take n rows)

pub length-gather : {A : Type 0} (xs : List A) (rows : List (List Datum)) → length (gather xs rows) ≡ length xs
length-gather [] rows = refl
length-gather (x ∷ xs) rows = ap suc (length-gather xs (tails rows))

pub gather-take : {A : Type 0} (n : ℕ) (xs : List A) (rows : List (List Datum)) → gather (take n xs) (map (take n) rows) ≡ take n (gather xs rows)
gather-take zero xs rows = refl
gather-take (suc n) [] rows = refl
gather-take (suc n) (x ∷ xs) rows = rw (heads-take, tails-take) (ap (λ vs. list (list_of (heads rows)) ∷ vs) (gather-take n xs (tails rows)))

pub gather-retime : (d : ℕ) (xs : TimedList) (rows : List (List Datum)) → gather (retime d xs) rows ≡ gather xs rows
gather-retime d [] rows = refl
gather-retime d (x ∷ xs) rows = refl
