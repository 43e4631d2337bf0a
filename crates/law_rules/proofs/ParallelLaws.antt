-- Laws of `parB`.
use Rattle.std.proofs.Common.{List, Some, [], ap, ap₂, arith, length, map, pos, refl, subst, suc, zero, ℕ, ◌∙◌, ◌∷◌, ◌≡◌}
use Rattle.law_rules.specs.NetworkLaw.{each_after, each_arr}
use Rattle.leaf_core.specs.Expression.{Expression, Expressions, and_then, no_more}
use Rattle.leaf_core.specs.ExpressionValue.{element_at, nth_of, value_of, values_of}
use Rattle.net_meaning.specs.Meaning.{Context, meaning, meanings}
use Rattle.net_tree.specs.Network.{Network, Networks, and_member, no_members}
use Rattle.net_tree.specs.Place.{member}
use Rattle.net_meaning.specs.SignalFunction.{IsSignalFunction, TimedList, all_of, gather, heads, par_function, seq_function, tails, values, with_values}
use Rattle.sample_core.specs.Datum.{Datum, list, list_of}
use Rattle.law_rules.proofs.ArrowLaws.{applied, values-with_values}
use Rattle.net_meaning.proofs.Zips.{length-gather, length-zip_with}

pub data RowAt : List (List Datum) → ℕ → List Datum → Type 0 where
  row_here : {row : List Datum} {rows : List (List Datum)} → RowAt (row ∷ rows) zero row
  row_after : {row other : List Datum} {rows : List (List Datum)} {i : ℕ} → RowAt rows i row → RowAt (other ∷ rows) (suc i) row

heads-at : (rows : List (List Datum)) (i : ℕ) (v : Datum) (vs : List Datum) (w : Datum) → RowAt rows i (v ∷ vs) → nth_of (list_of (heads rows)) i w ≡ v
heads-at [] i v vs w h = elim h [ ]
heads-at ([] ∷ rows) zero v vs w h = elim h [ ]
heads-at ((u ∷ us) ∷ rows) zero v vs w row_here = refl
heads-at ([] ∷ rows) (suc i) v vs w (row_after h) = heads-at rows i v vs w h
heads-at ((u ∷ us) ∷ rows) (suc i) v vs w (row_after h) = heads-at rows i v vs w h

tails-at : (rows : List (List Datum)) (i : ℕ) (v : Datum) (vs : List Datum) → RowAt rows i (v ∷ vs) → RowAt (tails rows) i vs
tails-at [] i v vs h = elim h [ ]
tails-at ([] ∷ rows) zero v vs h = elim h [ ]
tails-at ((u ∷ us) ∷ rows) zero v vs row_here = row_here
tails-at ([] ∷ rows) (suc i) v vs (row_after h) = row_after (tails-at rows i v vs h)
tails-at ((u ∷ us) ∷ rows) (suc i) v vs (row_after h) = row_after (tails-at rows i v vs h)

-- one row again
gathered-at : {A : Type 0} (xs : List A) (rows : List (List Datum)) (i : ℕ) (row : List Datum) (d : Datum → Datum) → RowAt rows i row → length row ≡ length xs → map (λ v. element_at v (pos i) (d v)) (gather xs rows) ≡ row
gathered-at [] rows i [] d h e = refl
gathered-at [] rows i (v ∷ vs) d h e = absurd (omega arith)
gathered-at (x ∷ xs) rows i [] d h e = absurd (omega arith)
gathered-at (x ∷ xs) rows i (v ∷ vs) d h e =
    let e' : length vs ≡ length xs = omega arith in
    ap₂ (λ u us. u ∷ us) (heads-at rows i v vs (d (list (list_of (heads rows)))) h) (gathered-at xs (tails rows) i vs d (tails-at rows i v vs h) e')

member_row : (fs : Networks Expression) (i : ℕ) (f : Network Expression) (E : Context) (xs : TimedList) → member fs i ≡ Some f → RowAt (all_of (meanings value_of fs E) xs) i (meaning value_of f E xs)
member_row no_members i f E xs h = absurd (cc)
member_row (and_member g fs) zero f E xs h =
    let e : g ≡ f = cc in subst (λ n. RowAt (all_of (meanings value_of (and_member g fs) E) xs) zero (meaning value_of n E xs)) e row_here
member_row (and_member g fs) (suc i) f E xs h = row_after (member_row fs i f E xs h)

-- L40
pub member_alone : (fs : Networks Expression) (i : ℕ) (f : Network Expression) (E : Context) (d : Datum → Datum) → IsSignalFunction (meaning value_of f E) → member fs i ≡ Some f → (xs : TimedList)
    → seq_function (par_function (meanings value_of fs E)) (applied (λ v. element_at v (pos i) (d v))) xs ≡ meaning value_of f E xs
member_alone fs i f E d sf h xs =
    let rows : List (List Datum) = all_of (meanings value_of fs E) xs in
    ap (map (λ v. element_at v (pos i) (d v))) (values-with_values xs (gather xs rows) (length-gather xs rows))
    ∙ gathered-at xs rows i (meaning value_of f E xs) d (member_row fs i f E xs h) (sf.sized xs)

-- L41
gathered-length : {A B : Type 0} (xs : List A) (ys : List B) (rows : List (List Datum)) → length xs ≡ length ys → gather xs rows ≡ gather ys rows
gathered-length [] [] rows e = refl
gathered-length [] (y ∷ ys) rows e = absurd (omega arith)
gathered-length (x ∷ xs) [] rows e = absurd (omega arith)
gathered-length (x ∷ xs) (y ∷ ys) rows e = let e' : length xs ≡ length ys = omega arith in ap (λ vs. list (list_of (heads rows)) ∷ vs) (gathered-length xs ys (tails rows) e')

all_after : (h : Network Expression) (fs : Networks Expression) (E : Context) (xs : TimedList) → all_of (meanings value_of fs E) (with_values xs (meaning value_of h E xs)) ≡ all_of (meanings value_of (each_after h fs) E) xs
all_after h no_members E xs = refl
all_after h (and_member f fs) E xs = ap (λ rows. meaning value_of f E (with_values xs (meaning value_of h E xs)) ∷ rows) (all_after h fs E xs)

pub sequence-in_parallel : (h : Network Expression) (fs : Networks Expression) (E : Context) → IsSignalFunction (meaning value_of h E) → (xs : TimedList)
    → seq_function (meaning value_of h E) (par_function (meanings value_of fs E)) xs ≡ par_function (meanings value_of (each_after h fs) E) xs
sequence-in_parallel h fs E sh xs =
    let ys : TimedList = with_values xs (meaning value_of h E xs) in
    let l : length ys ≡ length xs = length-zip_with _ xs (meaning value_of h E xs) (sh.sized xs) in
    gathered-length ys xs (all_of (meanings value_of fs E) ys) l ∙ ap (gather xs) (all_after h fs E xs)

-- L42
heads-arr : (es : Expressions) (E : Context) (x : ℕ × Datum) (xs : TimedList) → values_of es E.params x.1 ≡ heads (all_of (meanings value_of (each_arr es) E) (x ∷ xs))
heads-arr no_more E x xs = refl
heads-arr (and_then e es) E x xs = ap (λ vs. value_of e E.params x.1 ∷ vs) (heads-arr es E x xs)

tails-arr : (es : Expressions) (E : Context) (x : ℕ × Datum) (xs : TimedList) → all_of (meanings value_of (each_arr es) E) xs ≡ tails (all_of (meanings value_of (each_arr es) E) (x ∷ xs))
tails-arr no_more E x xs = refl
tails-arr (and_then e es) E x xs = ap (λ rows. map (value_of e E.params) (values xs) ∷ rows) (tails-arr es E x xs)

pub applied-list : (es : Expressions) (E : Context) (xs : TimedList) → applied (λ v. list (list_of (values_of es E.params v))) xs ≡ par_function (meanings value_of (each_arr es) E) xs
applied-list es E [] = refl
applied-list es E (x ∷ xs) = ap₂ (λ vs us. list (list_of vs) ∷ us) (heads-arr es E x xs) (applied-list es E xs ∙ ap (gather xs) (tails-arr es E x xs))
