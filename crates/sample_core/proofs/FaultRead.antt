-- Where the bytes lead to a place at which the wanted does not stand, reading answers that fault.
use Rattle.std.proofs.Common.{◌≡◌, ℕ, ◌-◌, ◌<◌, ◌≤◌, Bool, true, false, ◌||◌, List, [], ◌∷◌, ◌++◌, length, refl, sym, ap, ◌∙◌, arith, Result, Ok, Err}
use Rattle.std.specs.Prelude.{codes, bytes_eq}
use Rattle.sample_core.specs.Answer.{◌>>=◌}
use Rattle.sample_core.specs.Datum.{Datum, Datums, elements}
use Rattle.sample_core.specs.TypeTree.{TypeTree, unit_ty, bool_ty, int_ty, pair_ty, event_ty, list_ty}
use Rattle.sample_core.specs.Number.{is_number, is_in_64}
use Rattle.sample_core.specs.SpellsValue.{SpellsRow}
use Rattle.sample_core.specs.Words.{goes_on, word_of, form_word}
use Rattle.sample_core.specs.Reading.{begins_value, wrong, behind_byte, behind_head, unit_at, truth_at, number_at, elements_at, value_at}
use Rattle.sample_core.specs.Faults.{begins_type, Expectation, a_value, a_byte, a_space_or_close, Leads, at_front, behind_pair, in_first, behind_first, in_second, behind_second, behind_event, in_event, behind_inner, behind_elements, in_element, Wrong, no_value, another_type, too_large, no_byte, neither}
use Rattle.sample_core.specs.declared.fault.ValueFault.{ValueFault}
use Rattle.sample_core.specs.declared.fault.ValueFault.TheVariants as Fault
use Rattle.sample_core.proofs.Behind.{all_spelled, all_spelled_is, row_longer, row_apart}
use Rattle.sample_core.proofs.ReadingIs.{spells_read}
use Rattle.sample_core.proofs.ReadSteps.{with_front, front_none, front_alone, none_more, fault_inside}
use Rattle.sample_core.proofs.ValueRead.{head_only, byte_missing, elements_row}

or_parts : (a b : Bool) → (a || b) ≡ false → (a ≡ false) × (b ≡ false)
or_parts true b e = absurd (cc)
or_parts false b e = (refl, e)

-- no value of a type begins where none of any type does
not_begun : (A : TypeTree) (bs : List ℕ) → begins_value bs ≡ false → begins_type A bs ≡ false
not_begun A bs e =
    go A
    (by_parts (bytes_eq (word_of bs) (codes "unit")) (bytes_eq (word_of bs) (codes "true")) (bytes_eq (word_of bs) (codes "false"))
    (bytes_eq (word_of bs) (codes "none")) (is_number (word_of bs)) (bytes_eq (form_word bs) (codes "pair")) (bytes_eq (form_word bs) (codes "event"))
    (bytes_eq (form_word bs) (codes "list")) e)
  where
    by_parts : (u t f n m p v l : Bool) → (u || t || f || n || m || p || v || l) ≡ false
        → (u ≡ false) × ((t || f) ≡ false) × (m ≡ false) × (p ≡ false) × ((n || v) ≡ false) × (l ≡ false)
    by_parts u t f n m p v l h =
        let a : ((u || t || f || n || m || p || v) ≡ false) × (l ≡ false) = or_parts (u || t || f || n || m || p || v) l h in
        let b : ((u || t || f || n || m || p) ≡ false) × (v ≡ false) = or_parts (u || t || f || n || m || p) v a.0 in
        let c : ((u || t || f || n || m) ≡ false) × (p ≡ false) = or_parts (u || t || f || n || m) p b.0 in
        let d : ((u || t || f || n) ≡ false) × (m ≡ false) = or_parts (u || t || f || n) m c.0 in
        let g : ((u || t || f) ≡ false) × (n ≡ false) = or_parts (u || t || f) n d.0 in
        let i : ((u || t) ≡ false) × (f ≡ false) = or_parts (u || t) f g.0 in
        let j : (u ≡ false) × (t ≡ false) = or_parts u t i.0 in
        (j.0, rw (j.1) i.1, d.1, c.1, rw (g.1) b.1, a.1)

    go : (T : TypeTree)
        → (bytes_eq (word_of bs) (codes "unit") ≡ false) × ((bytes_eq (word_of bs) (codes "true") || bytes_eq (word_of bs) (codes "false")) ≡ false)
        × (is_number (word_of bs) ≡ false) × (bytes_eq (form_word bs) (codes "pair") ≡ false)
        × ((bytes_eq (word_of bs) (codes "none") || bytes_eq (form_word bs) (codes "event")) ≡ false) × (bytes_eq (form_word bs) (codes "list") ≡ false)
        → begins_type T bs ≡ false
    go unit_ty h = h.0
    go bool_ty h = h.1
    go int_ty h = h.2
    go (pair_ty B C) h = h.3
    go (event_ty B) h = h.4
    go (list_ty B) h = h.5

front_refused : (size : ℕ) (A : TypeTree) (bs : List ℕ) → begins_type A bs ≡ false → value_at size A bs ≡ Err (wrong size bs)
unfolding value_at unit_at truth_at number_at behind_head
front_refused size unit_ty bs e = let q : bytes_eq (word_of bs) (codes "unit") ≡ false = e in rw q refl
front_refused size bool_ty bs e =
    let q : (bytes_eq (word_of bs) (codes "true") ≡ false)
    × (bytes_eq (word_of bs) (codes "false") ≡ false) = or_parts (bytes_eq (word_of bs) (codes "true")) (bytes_eq (word_of bs) (codes "false")) e in
    rw (q.0, q.1) refl
front_refused size int_ty bs e = let q : is_number (word_of bs) ≡ false = e in rw q refl
front_refused size (pair_ty A B) bs e = let q : bytes_eq (form_word bs) (codes "pair") ≡ false = e in rw q refl
front_refused size (event_ty A) bs e =
    let q : (bytes_eq (word_of bs) (codes "none") ≡ false)
    × (bytes_eq (form_word bs) (codes "event") ≡ false) = or_parts (bytes_eq (word_of bs) (codes "none")) (bytes_eq (form_word bs) (codes "event")) e in
    rw (q.0, q.1) refl
front_refused size (list_ty A) bs e = let q : bytes_eq (form_word bs) (codes "list") ≡ false = e in rw q refl

wrong_none : (size : ℕ) (bs : List ℕ) → begins_value bs ≡ false → wrong size bs ≡ Fault.NotAValue (size - length bs)
unfolding wrong
wrong_none size bs e = rw e refl

wrong_other : (size : ℕ) (bs : List ℕ) → begins_value bs ≡ true → wrong size bs ≡ Fault.OtherType (size - length bs)
unfolding wrong
wrong_other size bs e = rw e refl

large_refused : (size : ℕ) (bs : List ℕ) → is_number (word_of bs) ≡ true → is_in_64 (word_of bs) ≡ false
    → value_at size int_ty bs ≡ Err (Fault.NumberRange (size - length bs))
unfolding value_at number_at
large_refused size bs h e = rw (h, e) refl

front_read : (size : ℕ) (A : TypeTree) (bs : List ℕ) (f : ValueFault) → Wrong (a_value A) bs (size - length bs) f → value_at size A bs ≡ Err f
front_read size A bs f (no_value e) = front_refused size A bs (not_begun A bs e) ∙ ap Err (wrong_none size bs e)
front_read size A bs f (another_type h e) = front_refused size A bs e ∙ ap Err (wrong_other size bs h)
front_read size A bs f (too_large h e) = large_refused size bs h e

byte_read : (size b : ℕ) (rest : List ℕ) (f : ValueFault) → Wrong (a_byte b) rest (size - length rest) f → behind_byte size b rest ≡ Err f
byte_read size b rest f (no_byte e) = byte_missing size b rest e

space_here : (size : ℕ) (cs : List ℕ) → behind_byte size 32 (32 ∷ cs) ≡ Ok cs
unfolding behind_byte
space_here size cs = refl

row_read : (size : ℕ) (A : TypeTree) (vs : Datums) (cs tail : List ℕ) → SpellsRow vs A cs tail
    → elements_at (value_at size A) (length cs) cs ≡ with_front (elements vs) (elements_at (value_at size A) (length cs - length (elements vs)) tail)
row_read size A vs cs tail s =
    let e : cs ≡ all_spelled vs tail = s.spells ∙ sym (all_spelled_is vs tail) in
    let l : length (all_spelled vs tail) ≤ length cs = omega (arith, ap length e) in
    sym (front_none (elements_at (value_at size A) (length cs) cs)) ∙ ap (λ x. with_front [] (elements_at (value_at size A) (length cs) x)) e
    ∙ elements_row size vs A tail (length cs) [] s.typed l (row_apart vs tail s.apart).1

row_begins : (vs : Datums) (A : TypeTree) (cs tail : List ℕ) → SpellsRow vs A cs tail → goes_on cs ≡ false
row_begins vs A cs tail s = ap goes_on (s.spells ∙ sym (all_spelled_is vs tail)) ∙ (row_apart vs tail s.apart).0

row_room : (vs : Datums) (A : TypeTree) (cs ds : List ℕ) → SpellsRow vs A cs (32 ∷ ds) → 0 < length cs - length (elements vs)
row_room vs A cs ds s =
    let e : length cs ≡ length (all_spelled vs (32 ∷ ds)) = ap length (s.spells ∙ sym (all_spelled_is vs (32 ∷ ds))) in
    omega (arith, row_longer vs (32 ∷ ds))

end_read : (size : ℕ) (A : TypeTree) (vs : Datums) (cs rest : List ℕ) (f : ValueFault) → SpellsRow vs A cs rest
    → Wrong a_space_or_close rest (size - length rest) f → value_at size (list_ty A) (codes "(list" ++ cs) ≡ Err f
unfolding value_at
end_read size A vs cs rest f s (neither d e) =
    let h : behind_head size (codes "list") (codes "(list" ++ cs) ≡ Ok cs = head_only size (codes "list") cs refl (row_begins vs A cs rest s) in
    let r : elements_at (value_at size A) (length cs) cs ≡ Ok (elements vs, rest) = row_read size A vs cs rest s
    ∙ ap (with_front (elements vs)) (none_more (value_at size A) (length cs - length (elements vs)) rest d) ∙ front_alone (elements vs) rest in
    let b : behind_byte size 41 rest ≡ Err (Fault.NotAValue (size - length rest)) = byte_missing size 41 rest e in
    rw (h, r, b) refl

-- a form behind whose word and a space a part is read: the part's fault, and what follows the part
module _ {R : Type 0} (size : ℕ) (A : TypeTree) (name bs cs : List ℕ) where
  space_missing : (f : ValueFault) (k : List ℕ → Result R ValueFault) → behind_head size name bs ≡ Ok cs → Wrong (a_byte 32) cs (size - length cs) f →
      (behind_head size name bs >>= (λ ds. behind_byte size 32 ds >>= k)) ≡ Err f
  space_missing f k h x = let b : behind_byte size 32 cs ≡ Err f = byte_read size 32 cs f x in rw (h, b) refl

  part_fails : (f : ValueFault) (k : Datum × List ℕ → Result R ValueFault) → behind_head size name bs ≡ Ok (32 ∷ cs) → value_at size A cs ≡ Err f →
      (behind_head size name bs >>= (λ ds. behind_byte size 32 ds >>= (λ es. value_at size A es >>= k))) ≡ Err f
  part_fails f k h i = rw (h, space_here size cs, i) refl

  part_read : (rest : List ℕ) (v : Datum) (f : ValueFault) (k : Datum × List ℕ → Result R ValueFault) → behind_head size name bs ≡ Ok (32 ∷ cs) →
      value_at size A cs ≡ Ok (v, rest) → k (v, rest) ≡ Err f →
      (behind_head size name bs >>= (λ ds. behind_byte size 32 ds >>= (λ es. value_at size A es >>= k))) ≡ Err f
  part_read rest v f k h i e = rw (h, space_here size cs, i) e

  byte_after : (b : ℕ) (rest : List ℕ) (v : Datum) (f : ValueFault) (k : Datum × List ℕ → List ℕ → Result R ValueFault) →
      behind_head size name bs ≡ Ok (32 ∷ cs) → value_at size A cs ≡ Ok (v, rest) → Wrong (a_byte b) rest (size - length rest) f →
      (behind_head size name bs >>= (λ ds. behind_byte size 32 ds >>= (λ es. value_at size A es >>= (λ p. behind_byte size b p.1 >>= k p)))) ≡ Err f
  byte_after b rest v f k h i x =
      let e : behind_byte size b rest ≡ Err f = byte_read size b rest f x in
      part_read rest v f (λ p. behind_byte size b p.1 >>= k p) h i (rw e refl)

pub fault_read : (size : ℕ) (A : TypeTree) (bs : List ℕ) (w : Expectation) (rest : List ℕ) (f : ValueFault) → Leads A bs w rest
    → Wrong w rest (size - length rest) f → value_at size A bs ≡ Err f
unfolding value_at
fault_read size A bs w rest f at_front x = front_read size A bs f x
fault_read size A bs w rest f (behind_pair g) x = space_missing size A (codes "pair") (codes "(pair" ++ rest) rest f _ (head_only size _ rest refl g) x
fault_read size A bs w rest f (in_first {A = B} {bs = cs} l) x =
    part_fails size B (codes "pair") (codes "(pair " ++ cs) cs f _ (head_only size (codes "pair") (32 ∷ cs) refl refl) (fault_read size B cs w rest f l x)
fault_read size A bs w rest f (behind_first {A = B} {v = v} {bs = cs} s) x =
    byte_after size B (codes "pair") _ cs 32 rest v f _ (head_only size (codes "pair") (32 ∷ cs) refl refl) (spells_read size B cs v rest s) x
fault_read size A bs w rest f (in_second {A = B} {B = C} {v = v} {bs = cs} {cs = ds} s l) x =
    let j : value_at size C ds ≡ Err f = fault_read size C ds w rest f l x in
    part_read size B (codes "pair") (codes "(pair " ++ cs) cs (32 ∷ ds) v f _ (head_only size (codes "pair") (32 ∷ cs) refl refl)
    (spells_read size B cs v (32 ∷ ds) s) (rw (space_here size ds, j) refl)
fault_read size A bs w rest f (behind_second {A = B} {B = C} {v = v} {x = y} {bs = cs} {cs = ds} s t) x =
    let j : value_at size C ds ≡ Ok (y, rest) = spells_read size C ds y rest t in
    let b : behind_byte size 41 rest ≡ Err f = byte_read size 41 rest f x in
    part_read size B (codes "pair") (codes "(pair " ++ cs) cs (32 ∷ ds) v f _ (head_only size (codes "pair") (32 ∷ cs) refl refl)
    (spells_read size B cs v (32 ∷ ds) s) (rw (space_here size ds, j, b) refl)
fault_read size A bs w rest f (behind_event g) x = space_missing size A (codes "event") (codes "(event" ++ rest) rest f _ (head_only size _ rest refl g) x
fault_read size A bs w rest f (in_event {A = B} {bs = cs} l) x =
    part_fails size B (codes "event") (codes "(event " ++ cs) cs f _ (head_only size (codes "event") (32 ∷ cs) refl refl) (fault_read size B cs w rest f l x)
fault_read size A bs w rest f (behind_inner {A = B} {v = v} {bs = cs} s) x =
    byte_after size B (codes "event") _ cs 41 rest v f _ (head_only size (codes "event") (32 ∷ cs) refl refl) (spells_read size B cs v rest s) x
fault_read size A bs w rest f (behind_elements {A = B} {vs = vs} {bs = cs} s) x = end_read size B vs cs rest f s x
fault_read size A bs w rest f (in_element {A = B} {vs = vs} {bs = cs} {cs = ds} s l) x =
    let h : behind_head size (codes "list") (codes "(list" ++ cs) ≡ Ok cs = head_only size (codes "list") cs refl (row_begins vs B cs (32 ∷ ds) s) in
    let i : value_at size B ds ≡ Err f = fault_read size B ds w rest f l x in
    let r : elements_at (value_at size B) (length cs) cs ≡ Err f = row_read size B vs cs (32 ∷ ds) s
    ∙ fault_inside (value_at size B) (length cs - length (elements vs)) (elements vs) (32 ∷ ds) ds f refl (row_room vs B cs ds s) i in
    rw (h, r) refl
