-- The elements of a list value: which they are, that each is smaller than the value, and that equal rows have equally many.
use Rattle.std.proofs.Common.{◌≡◌, ℕ, zero, suc, ◌+◌, ◌<◌, List, [], ◌∷◌, length, get_or, drop, map, refl, ap, sym, ◌∙◌, arith}
use Rattle.std.proofs.lemmas.List.{drop_more}
use Rattle.sample_core.specs.Datum.{Datum, Datums, end, more, list_of, elements, items_of, datum_size, datums_size}
use Rattle.sample_core.specs.ValueView.{datum_of}
use Rattle.sample_core.specs.declared.sample.Sample.{Sample}
use Rattle.sample_core.specs.declared.sample.Sample.TheVariants as V

pub elements_of_list : (vs : List Datum) → elements (list_of vs) ≡ vs
elements_of_list [] = refl
elements_of_list (v ∷ vs) = ap (λ us. v ∷ us) (elements_of_list vs)

-- the elements of what is a list
pub listed_items : (v : Sample) (vs : List Datum) → v ≡ V.List vs → vs ≡ items_of (datum_of v)
listed_items v vs e = sym (ap (λ s. items_of (datum_of s)) e ∙ elements_of_list vs)

-- an element of a row is smaller than the row
pub element_smaller : (all : List Sample) (i : ℕ) (s : Sample) → i < length all
    → datum_size (datum_of (get_or all i s)) < datums_size (list_of (map datum_of all))
element_smaller [] i s h = absurd (omega arith)
element_smaller (x ∷ xs) zero s h = omega arith
element_smaller (x ∷ xs) (suc i) s h = omega (arith, element_smaller xs i s (omega arith))

-- the elements from the i-th on
pub elements_from : (all : List Sample) (i : ℕ) (s : Sample) → i < length all → s ≡ get_or all i s
    → list_of (map datum_of (drop i all)) ≡ more (datum_of s) (list_of (map datum_of (drop (i + 1) all)))
elements_from all i s h e = ap (λ x. list_of (map datum_of x)) (drop_more all i s h)
    ∙ ap (λ x. more (datum_of x) (list_of (map datum_of (drop (i + 1) all)))) (sym e)

abbrev count : Datums → ℕ
count end = 0
count (more v vs) = suc (count vs)

counted : (vs : List Sample) → count (list_of (map datum_of vs)) ≡ length vs
counted [] = refl
counted (v ∷ vs) = ap suc (counted vs)

-- equal rows have equally many elements
pub same_length : (vs us : List Sample) → list_of (map datum_of vs) ≡ list_of (map datum_of us) → length vs ≡ length us
same_length vs us e = sym (counted vs) ∙ ap count e ∙ counted us
