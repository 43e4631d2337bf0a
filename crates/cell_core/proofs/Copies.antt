-- Entries are copied one by one.
use Rattle.std.proofs.Common.{◌≡◌, ℕ, List, [], ◌∷◌, ◌++◌, ◌<◌, ◌≤◌, ◌+◌, ◌-◌, sym, ap, ap₂, ◌∙◌, length, take, drop, get_or, slice_set, arith}
use Rattle.std.proofs.lemmas.List.{take_more, take_more_set, take-map, take-append-drop, take_all, length-drop, length-map, length-take-le, map-set, map-append, get_or-map, get_or_default}
use Rattle.sample_core.specs.Datum.{unit}
use Rattle.sample_core.specs.ValueView.{datum_of}
use Rattle.cell_core.specs.Entries.{entry_of, entries_of}
use Rattle.cell_core.specs.declared.entry.Entry.{Entry}

-- the next of a list, and those before it
pub next_taken : (es : List Entry) (i : ℕ) (e : Entry) → i < length es → e ≡ get_or es i e
    → take (i + 1) (entries_of es) ≡ take i (entries_of es) ++ entry_of e ∷ []
next_taken es i e h is =
    let len : length (entries_of es) ≡ length es = length-map es entry_of in
    take_more (entries_of es) i (0, unit) (omega (arith, h, len))
    ∙ ap (λ p. take i (entries_of es) ++ p ∷ [])
    (get_or-map entry_of es i e (0, unit) h ∙ ap entry_of (sym is))

-- the next of a list is put in its place
pub next_put : (places from : List Entry) (i : ℕ) (e a b : Entry) → i < length places → i < length from
    → entry_of e ≡ ((get_or from i a).time, datum_of (get_or from i b).value)
    → take i (entries_of places) ≡ take i (entries_of from) → take (i + 1) (entries_of (slice_set places i e)) ≡ take (i + 1) (entries_of from)
next_put places from i e a b room h is so_far =
    let len : length (entries_of places) ≡ length places = length-map places entry_of in
    let next : Entry = get_or from i a in
    let one : entry_of e ≡ entry_of next = is ∙ ap (λ (f : Entry). (next.time, datum_of f.value)) (get_or_default from i b a h) in
    ap (take (i + 1)) (map-set entry_of places i e)
    ∙ take_more_set (entries_of places) i (entry_of e) (omega (arith, room, len))
    ∙ ap₂ (λ xs p. xs ++ p ∷ []) so_far one
    ∙ sym (next_taken from i next h (get_or_default from i a next h))

-- copies of the first stand in front, and the others behind them
pub put_first : (n : ℕ) (all from : List Entry) → n ≤ length from → take (length (take n from)) (entries_of all) ≡ entries_of (take n from)
    → entries_of (take n all) ++ entries_of (take (length from - n) (drop n from)) ≡ entries_of from
put_first n all from h put =
    let rest : take (length from - n) (drop n from) ≡ drop n from = take_all (length from - n) (drop n from) (omega (arith, length-drop n from)) in
    ap (λ xs. xs ++ entries_of (take (length from - n) (drop n from)))
    (sym (take-map entry_of n all) ∙ ap (λ k. take k (entries_of all)) (sym (length-take-le n from h)) ∙ put)
    ∙ sym (map-append entry_of (take n from) (take (length from - n) (drop n from)))
    ∙ ap entries_of (ap (λ xs. take n from ++ xs) rest ∙ take-append-drop n from)
