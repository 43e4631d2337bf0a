-- Each fault of reading is of a place to which the bytes lead, and where the wanted does not stand.
use Rattle.std.proofs.Common.{◌≡◌, ℕ, zero, suc, ◌-◌, ◌⊎◌, inl, inr, Bool, true, false, ◌&&◌, ◌||◌, nat_eq, List, [], ◌∷◌, ◌++◌, length, refl, sym, ap, ◌∙◌, subst, arith, append_assoc, Result, Ok, Err, if◌then◌else◌}
use Rattle.std.specs.Prelude.{codes, bytes_eq}
use Rattle.std.proofs.lemmas.Bool.{eqb-true}
use Rattle.sample_core.specs.Datum.{Datum, Datums, unit, bool, int, pair, no_event, event, list, end, more, list_of}
use Rattle.sample_core.specs.TypeTree.{TypeTree, unit_ty, bool_ty, int_ty, pair_ty, event_ty, list_ty}
use Rattle.sample_core.specs.HasType.{HaveType, end_has, more_has}
use Rattle.sample_core.specs.Number.{is_number, is_in_64, number_of}
use Rattle.sample_core.specs.Spelling.{spelling, spellings}
use Rattle.sample_core.specs.SpellsValue.{SpellsValue, SpellsRow, row_ends_in_word}
use Rattle.sample_core.specs.Words.{goes_on, word_of, after_word, form_word, after_form}
use Rattle.sample_core.specs.Answer.{◌>>=◌}
use Rattle.sample_core.specs.Reading.{begins_value, begins_with, wrong, behind_byte, behind_head, unit_at, truth_at, number_at, elements_at, value_at}
use Rattle.sample_core.specs.Faults.{begins_type, Expectation, a_value, a_byte, a_space_or_close, Leads, at_front, behind_pair, in_first, behind_first, in_second, behind_second, behind_event, in_event, behind_inner, behind_elements, in_element, Wrong, no_value, another_type, too_large, no_byte, neither}
use Rattle.sample_core.specs.declared.fault.ValueFault.{ValueFault}
use Rattle.sample_core.specs.declared.fault.ValueFault.TheVariants as Fault
use Rattle.sample_core.proofs.Behind.{all_spelled_is, row_kept_apart, apart_row}
use Rattle.sample_core.proofs.ReadingIs.{spells_found}
use Rattle.sample_core.proofs.ValueFound.{AreElements, value_found, elements_found, head_found, byte_found, if_is, ifs_are}

-- the bytes lead to a place where the fault is
pub record Fails (size : ℕ) (A : TypeTree) (bs : List ℕ) (f : ValueFault) : Type 0 where
  pub wanted : Expectation
  pub rest : List ℕ
  pub leads : Leads A bs wanted rest
  pub wrongs : Wrong wanted rest (size - length rest) f

-- no value, and no elements, but a fault
abbrev NoValue : Result (Datum × List ℕ) ValueFault → ValueFault → Type 0
NoValue r f = r ≡ Err f

abbrev NoRow : Result (List Datum × List ℕ) ValueFault → ValueFault → Type 0
NoRow r f = r ≡ Err f

pub bind_err : {A B : Type 0} (r : Result A ValueFault) (g : A → Result B ValueFault) (f : ValueFault) → (r >>= g) ≡ Err f
    → (r ≡ Err f) ⊎ ((x : A) × (r ≡ Ok x) × (g x ≡ Err f))
bind_err (Ok x) g f e = inr (x, refl, e)
bind_err (Err h) g f e = inl (ap Err (let i : h ≡ f = cc in i))

err_is : {A : Type 0} {e f : ValueFault} → ◌≡◌ {A = Result A ValueFault} (Err e) (Err f) → e ≡ f
err_is e = cc

pub no_err : {A : Type 0} {x : A} {f : ValueFault} → ◌≡◌ {A = Result A ValueFault} (Ok x) (Err f) → ⊥
no_err e = cc

or_false : (a b : Bool) → a ≡ false → b ≡ false → (a || b) ≡ false
or_false true b e f = e
or_false false b e f = f

wrong_is : (size : ℕ) (A : TypeTree) (bs : List ℕ) → begins_type A bs ≡ false → Wrong (a_value A) bs (size - length bs) (wrong size bs)
unfolding wrong
wrong_is size A bs e = go (begins_value bs) refl
  where
    go : (b : Bool) → begins_value bs ≡ b
        → Wrong (a_value A) bs (size - length bs) (if begins_value bs then Fault.OtherType (size - length bs) else Fault.NotAValue (size - length bs))
    go true q = rw q (another_type q e)
    go false q = rw q (no_value q)

front : (size : ℕ) (A : TypeTree) (bs : List ℕ) (f : ValueFault) → begins_type A bs ≡ false → wrong size bs ≡ f → Fails size A bs f
front size A bs f e i =
    record { wanted = a_value A; rest = bs; leads = at_front; wrongs = subst (Wrong (a_value A) bs (size - length bs)) i (wrong_is size A bs e) }

byte_fails : (size b : ℕ) (bs : List ℕ) (f : ValueFault) → behind_byte size b bs ≡ Err f → Wrong (a_byte b) bs (size - length bs) f
unfolding behind_byte
byte_fails size b [] f e =
    let i : Fault.NotAValue size ≡ f = err_is {A = List ℕ} e in
    let k : size ≡ size - length {A = ℕ} [] = omega arith in
    subst (Wrong (a_byte b) [] (size - length {A = ℕ} [])) (ap Fault.NotAValue (sym k) ∙ i) (no_byte refl)
byte_fails size b (c ∷ cs) f e = go (if_is (nat_eq c b) (Ok cs) (Err (Fault.NotAValue (size - length (c ∷ cs)))) (Err f) e)
  where
    go : ((nat_eq c b ≡ true) × ◌≡◌ {A = Result (List ℕ) ValueFault} (Ok cs) (Err f))
        ⊎ ((nat_eq c b ≡ false) × ◌≡◌ {A = Result (List ℕ) ValueFault} (Err (Fault.NotAValue (size - length (c ∷ cs)))) (Err f))
        → Wrong (a_byte b) (c ∷ cs) (size - length (c ∷ cs)) f
    go (inl p) = absurd (no_err p.1)
    go (inr p) = subst (Wrong (a_byte b) (c ∷ cs) (size - length (c ∷ cs))) (err_is p.1) (no_byte p.0)

head_fails : (size : ℕ) (name bs : List ℕ) (f : ValueFault) → behind_head size name bs ≡ Err f → (bytes_eq (form_word bs) name ≡ false) × (wrong size bs ≡ f)
unfolding behind_head
head_fails size name bs f e = go (if_is (bytes_eq (form_word bs) name) (Ok (after_form bs)) (Err (wrong size bs)) (Err f) e)
  where
    go : ((bytes_eq (form_word bs) name ≡ true) × ◌≡◌ {A = Result (List ℕ) ValueFault} (Ok (after_form bs)) (Err f))
        ⊎ ((bytes_eq (form_word bs) name ≡ false) × ◌≡◌ {A = Result (List ℕ) ValueFault} (Err (wrong size bs)) (Err f))
        → (bytes_eq (form_word bs) name ≡ false) × (wrong size bs ≡ f)
    go (inl p) = absurd (no_err p.1)
    go (inr p) = (p.0, err_is p.1)

unit_fails : (size : ℕ) (bs : List ℕ) (f : ValueFault) → unit_at size bs ≡ Err f → Fails size unit_ty bs f
unfolding unit_at
unit_fails size bs f e = go (if_is (bytes_eq (word_of bs) (codes "unit")) (Ok (unit, after_word bs)) (Err (wrong size bs)) (Err f) e)
  where
    go : ((bytes_eq (word_of bs) (codes "unit") ≡ true) × ◌≡◌ {A = Result (Datum × List ℕ) ValueFault} (Ok (unit, after_word bs)) (Err f))
        ⊎ ((bytes_eq (word_of bs) (codes "unit") ≡ false) × ◌≡◌ {A = Result (Datum × List ℕ) ValueFault} (Err (wrong size bs)) (Err f))
        → Fails size unit_ty bs f
    go (inl p) = absurd (no_err p.1)
    go (inr p) = front size unit_ty bs f p.0 (err_is p.1)

truth_fails : (size : ℕ) (bs : List ℕ) (f : ValueFault) → truth_at size bs ≡ Err f → Fails size bool_ty bs f
unfolding truth_at
truth_fails size bs f e =
    go
    (if_is (bytes_eq (word_of bs) (codes "true")) (Ok (bool true, after_word bs))
    (if bytes_eq (word_of bs) (codes "false") then Ok (bool false, after_word bs) else Err (wrong size bs)) (Err f) e)
  where
    go2 : bytes_eq (word_of bs) (codes "true") ≡ false
        → ((bytes_eq (word_of bs) (codes "false") ≡ true) × ◌≡◌ {A = Result (Datum × List ℕ) ValueFault} (Ok (bool false, after_word bs)) (Err f))
        ⊎ ((bytes_eq (word_of bs) (codes "false") ≡ false) × ◌≡◌ {A = Result (Datum × List ℕ) ValueFault} (Err (wrong size bs)) (Err f))
        → Fails size bool_ty bs f
    go2 t (inl p) = absurd (no_err p.1)
    go2 t (inr p) = front size bool_ty bs f (or_false (bytes_eq (word_of bs) (codes "true")) (bytes_eq (word_of bs) (codes "false")) t p.0) (err_is p.1)

    go : ((bytes_eq (word_of bs) (codes "true") ≡ true) × ◌≡◌ {A = Result (Datum × List ℕ) ValueFault} (Ok (bool true, after_word bs)) (Err f))
        ⊎ ((bytes_eq (word_of bs) (codes "true") ≡ false)
        × (NoValue (if bytes_eq (word_of bs) (codes "false") then Ok (bool false, after_word bs) else Err (wrong size bs)) f)) → Fails size bool_ty bs f
    go (inl p) = absurd (no_err p.1)
    go (inr p) = go2 p.0 (if_is (bytes_eq (word_of bs) (codes "false")) (Ok (bool false, after_word bs)) (Err (wrong size bs)) (Err f) p.1)

number_fails : (size : ℕ) (bs : List ℕ) (f : ValueFault) → number_at size bs ≡ Err f → Fails size int_ty bs f
unfolding number_at
number_fails size bs f e =
    ifs_are (is_number (word_of bs)) (is_in_64 (word_of bs)) (Ok (int (number_of (word_of bs)), after_word bs)) (Err (Fault.NumberRange (size - length bs)))
    (Err (wrong size bs)) (Err f) e (λ h p q. absurd (no_err q))
    (λ h p q. record {
      wanted = a_value int_ty;
      rest = bs;
      leads = at_front;
      wrongs = subst (Wrong (a_value int_ty) bs (size - length bs)) (err_is q) (too_large h p);
    })
    (λ h q. front size int_ty bs f h (err_is q))

-- some elements, a space, and an element that fails
record RowFails (size : ℕ) (A : TypeTree) (bs : List ℕ) (f : ValueFault) : Type 0 where
  row : Datums
  behind : List ℕ
  typed : HaveType row A
  spells : bs ≡ spellings row ++ 32 ∷ behind
  inside : Fails size A behind f

row_fails : (size : ℕ) (A : TypeTree) → ((bs : List ℕ) (f : ValueFault) → value_at size A bs ≡ Err f → Fails size A bs f)
    → (n : ℕ) (bs : List ℕ) (f : ValueFault) → elements_at (value_at size A) n bs ≡ Err f → RowFails size A bs f
unfolding elements_at
row_fails size A h zero bs f e = absurd (no_err e)
row_fails size A h (suc n) [] f e = absurd (no_err e)
row_fails size A h (suc n) (b ∷ bs) f e =
    go (if_is (nat_eq b 32) (value_at size A bs >>= (λ x. elements_at (value_at size A) n x.1 >>= (λ z. Ok (x.0 ∷ z.0, z.1)))) (Ok ([], b ∷ bs)) (Err f) e)
    (λ cs q. row_fails size A h n cs f q)
  where
    go3 : (x : Datum × List ℕ) → b ≡ 32 → SpellsValue x.0 A bs x.1 → RowFails size A x.1 f → RowFails size A (b ∷ bs) f
    go3 x i s r = record {
      row = more x.0 r.row;
      behind = r.behind;
      typed = more_has s.typed r.typed;
      spells = ap (λ c. c ∷ bs) i
          ∙ ap (λ c. 32 ∷ c) (s.spells ∙ ap (λ c. spelling x.0 ++ c) r.spells ∙ sym (append_assoc (spelling x.0) (spellings r.row) (32 ∷ r.behind)));
      inside =
          r.inside;
    }

    go2 : b ≡ 32
        → ((value_at size A bs ≡ Err f)
        ⊎ ((x : Datum × List ℕ) × (value_at size A bs ≡ Ok x) × (NoRow (elements_at (value_at size A) n x.1 >>= (λ z. Ok (x.0 ∷ z.0, z.1))) f)))
        → ((cs : List ℕ) → elements_at (value_at size A) n cs ≡ Err f → RowFails size A cs f) → RowFails size A (b ∷ bs) f
    go2 i (inl q) next = record { row = end; behind = bs; typed = end_has; spells = ap (λ c. c ∷ bs) i; inside = h bs f q }
    go2 i (inr q) next = go3 q.0 i (spells_found size A bs q.0 q.1)
        (next q.0.1 (inner (bind_err (elements_at (value_at size A) n q.0.1) (λ z. Ok (q.0.0 ∷ z.0, z.1)) f q.2)))
      where
        inner : ((elements_at (value_at size A) n q.0.1 ≡ Err f)
            ⊎ ((z : List Datum × List ℕ) × (elements_at (value_at size A) n q.0.1 ≡ Ok z)
            × ◌≡◌ {A = Result (List Datum × List ℕ) ValueFault} (Ok (q.0.0 ∷ z.0, z.1)) (Err f))) → elements_at (value_at size A) n q.0.1 ≡ Err f
        inner (inl r) = r
        inner (inr r) = absurd (no_err r.2)

    go : ((nat_eq b 32 ≡ true) × (NoRow (value_at size A bs >>= (λ x. elements_at (value_at size A) n x.1 >>= (λ z. Ok (x.0 ∷ z.0, z.1)))) f))
        ⊎ ((nat_eq b 32 ≡ false) × ◌≡◌ {A = Result (List Datum × List ℕ) ValueFault} (Ok ([], b ∷ bs)) (Err f))
        → ((cs : List ℕ) → elements_at (value_at size A) n cs ≡ Err f → RowFails size A cs f) → RowFails size A (b ∷ bs) f
    go (inl p) next = go2 (eqb-true b 32 p.0) (bind_err (value_at size A bs) _ f p.1) next
    go (inr p) next = absurd (no_err p.1)

in_pair_first : (size : ℕ) (A B : TypeTree) (bs ds : List ℕ) (f : ValueFault) → bs ≡ codes "(pair " ++ ds → Fails size A ds f → Fails size (pair_ty A B) bs f
in_pair_first size A B bs ds f e i =
    record { wanted = i.wanted; rest = i.rest; leads = subst (λ x. Leads (pair_ty A B) x i.wanted i.rest) (sym e) (in_first i.leads); wrongs = i.wrongs }

in_pair_second : (size : ℕ) (A B : TypeTree) (v : Datum) (bs ds es : List ℕ) (f : ValueFault) → bs ≡ codes "(pair " ++ ds → SpellsValue v A ds (32 ∷ es)
    → Fails size B es f → Fails size (pair_ty A B) bs f
in_pair_second size A B v bs ds es f e s i =
    record { wanted = i.wanted; rest = i.rest; leads = subst (λ x. Leads (pair_ty A B) x i.wanted i.rest) (sym e) (in_second s i.leads); wrongs = i.wrongs }

in_an_event : (size : ℕ) (A : TypeTree) (bs ds : List ℕ) (f : ValueFault) → bs ≡ codes "(event " ++ ds → Fails size A ds f → Fails size (event_ty A) bs f
in_an_event size A bs ds f e i =
    record { wanted = i.wanted; rest = i.rest; leads = subst (λ x. Leads (event_ty A) x i.wanted i.rest) (sym e) (in_event i.leads); wrongs = i.wrongs }

in_a_row : (size : ℕ) (A : TypeTree) (bs cs : List ℕ) (f : ValueFault) → bs ≡ codes "(list" ++ cs → RowFails size A cs f → Fails size (list_ty A) bs f
in_a_row size A bs cs f e r =
    let s : SpellsRow r.row A cs (32 ∷ r.behind) = record { typed = r.typed; spells = r.spells; apart = row_kept_apart r.row (32 ∷ r.behind) refl } in
    record {
      wanted = r.inside.wanted;
      rest = r.inside.rest;
      leads =
          subst (λ x. Leads (list_ty A) x r.inside.wanted r.inside.rest) (sym e) (in_element s r.inside.leads);
      wrongs = r.inside.wrongs;
    }

pair_fails : (size : ℕ) (A B : TypeTree) (bs : List ℕ) (f : ValueFault) → ((cs : List ℕ) (g : ValueFault) → value_at size A cs ≡ Err g → Fails size A cs g)
    → ((cs : List ℕ) (g : ValueFault) → value_at size B cs ≡ Err g → Fails size B cs g) → value_at size (pair_ty A B) bs ≡ Err f → Fails size (pair_ty A B) bs f
unfolding value_at
pair_fails size A B bs f h k e = at_head (bind_err (behind_head size (codes "pair") bs) _ f e)
  where
    at_close : (v : Datum) (ds es : List ℕ) → bs ≡ codes "(pair " ++ ds → SpellsValue v A ds (32 ∷ es) → (w : Datum × List ℕ) → SpellsValue w.0 B es w.1
        → ((behind_byte size 41 w.1 ≡ Err f)
        ⊎ ((rest : List ℕ) × (behind_byte size 41 w.1 ≡ Ok rest) × ◌≡◌ {A = Result (Datum × List ℕ) ValueFault} (Ok (pair v w.0, rest)) (Err f)))
        → Fails size (pair_ty A B) bs f
    at_close v ds es i s w t (inl q) =
        record {
          wanted = a_byte 41;
          rest = w.1;
          leads = subst (λ x. Leads (pair_ty A B) x (a_byte 41) w.1) (sym i) (behind_second s t);
          wrongs =
              byte_fails size 41 w.1 f q;
        }
    at_close v ds es i s w t (inr q) = absurd (no_err q.2)

    at_second : (v : Datum) (ds es : List ℕ) → bs ≡ codes "(pair " ++ ds → SpellsValue v A ds (32 ∷ es)
        → ((value_at size B es ≡ Err f)
        ⊎ ((w : Datum × List ℕ) × (value_at size B es ≡ Ok w) × (NoValue (behind_byte size 41 w.1 >>= (λ rest. Ok (pair v w.0, rest))) f)))
        → Fails size (pair_ty A B) bs f
    at_second v ds es i s (inl q) = in_pair_second size A B v bs ds es f i s (k es f q)
    at_second v ds es i s (inr q) = at_close v ds es i s q.0 (spells_found size B es q.0 q.1) (bind_err (behind_byte size 41 q.0.1) _ f q.2)

    at_space : (v : Datum × List ℕ) (ds : List ℕ) → bs ≡ codes "(pair " ++ ds → SpellsValue v.0 A ds v.1
        → ((behind_byte size 32 v.1 ≡ Err f)
        ⊎ ((es : List ℕ) × (behind_byte size 32 v.1 ≡ Ok es)
        × (NoValue (value_at size B es >>= (λ w. behind_byte size 41 w.1 >>= (λ rest. Ok (pair v.0 w.0, rest)))) f))) → Fails size (pair_ty A B) bs f
    at_space v ds i s (inl q) =
        record {
          wanted = a_byte 32;
          rest = v.1;
          leads = subst (λ x. Leads (pair_ty A B) x (a_byte 32) v.1) (sym i) (behind_first s);
          wrongs =
              byte_fails size 32 v.1 f q;
        }
    at_space v ds i s (inr q) = at_second v.0 ds q.0 i (subst (SpellsValue v.0 A ds) (byte_found size 32 v.1 q.0 q.1) s)
        (bind_err (value_at size B q.0) _ f q.2)

    at_first : (ds : List ℕ) → bs ≡ codes "(pair " ++ ds
        → ((value_at size A ds ≡ Err f)
        ⊎ ((v : Datum × List ℕ) × (value_at size A ds ≡ Ok v)
        × (NoValue (behind_byte size 32 v.1 >>= (λ es. value_at size B es >>= (λ w. behind_byte size 41 w.1 >>= (λ rest. Ok (pair v.0 w.0, rest))))) f)))
        → Fails size (pair_ty A B) bs f
    at_first ds i (inl q) = in_pair_first size A B bs ds f i (h ds f q)
    at_first ds i (inr q) = at_space q.0 ds i (spells_found size A ds q.0 q.1) (bind_err (behind_byte size 32 q.0.1) _ f q.2)

    at_word : (cs : List ℕ) → (bs ≡ codes "(pair" ++ cs) × (goes_on cs ≡ false)
        → ((behind_byte size 32 cs ≡ Err f)
        ⊎ ((ds : List ℕ) × (behind_byte size 32 cs ≡ Ok ds)
        × (NoValue
        (value_at size A ds >>=
        (λ v. behind_byte size 32 v.1 >>= (λ es. value_at size B es >>= (λ w. behind_byte size 41 w.1 >>= (λ rest. Ok (pair v.0 w.0, rest)))))) f)))
        → Fails size (pair_ty A B) bs f
    at_word cs i (inl q) =
        record {
          wanted = a_byte 32;
          rest = cs;
          leads = subst (λ x. Leads (pair_ty A B) x (a_byte 32) cs) (sym i.0) (behind_pair i.1);
          wrongs =
              byte_fails size 32 cs f q;
        }
    at_word cs i (inr q) = at_first q.0 (i.0 ∙ ap (λ x. codes "(pair" ++ x) (byte_found size 32 cs q.0 q.1)) (bind_err (value_at size A q.0) _ f q.2)

    at_head : ((behind_head size (codes "pair") bs ≡ Err f)
        ⊎ ((cs : List ℕ) × (behind_head size (codes "pair") bs ≡ Ok cs)
        × (NoValue
        (behind_byte size 32 cs >>=
        (λ ds.
        value_at size A ds >>=
        (λ v. behind_byte size 32 v.1 >>= (λ es. value_at size B es >>= (λ w. behind_byte size 41 w.1 >>= (λ rest. Ok (pair v.0 w.0, rest))))))) f)))
        → Fails size (pair_ty A B) bs f
    at_head (inl q) = let t : (bytes_eq (form_word bs) (codes "pair") ≡ false) × (wrong size bs ≡ f) = head_fails size (codes "pair") bs f q in
        front size (pair_ty A B) bs f t.0 t.1
    at_head (inr q) = at_word q.0 (head_found size 112 (97 ∷ 105 ∷ 114 ∷ []) bs q.0 q.1) (bind_err (behind_byte size 32 q.0) _ f q.2)

event_fails : (size : ℕ) (A : TypeTree) (bs : List ℕ) (f : ValueFault) → ((cs : List ℕ) (g : ValueFault) → value_at size A cs ≡ Err g → Fails size A cs g)
    → value_at size (event_ty A) bs ≡ Err f → Fails size (event_ty A) bs f
unfolding value_at
event_fails size A bs f h e = at_none (if_is (bytes_eq (word_of bs) (codes "none")) (Ok (no_event, after_word bs)) _ (Err f) e)
  where
    at_close : (v : Datum × List ℕ) (ds : List ℕ) → bs ≡ codes "(event " ++ ds → SpellsValue v.0 A ds v.1
        → ((behind_byte size 41 v.1 ≡ Err f)
        ⊎ ((rest : List ℕ) × (behind_byte size 41 v.1 ≡ Ok rest) × ◌≡◌ {A = Result (Datum × List ℕ) ValueFault} (Ok (event v.0, rest)) (Err f)))
        → Fails size (event_ty A) bs f
    at_close v ds i s (inl q) =
        record {
          wanted = a_byte 41;
          rest = v.1;
          leads = subst (λ x. Leads (event_ty A) x (a_byte 41) v.1) (sym i) (behind_inner s);
          wrongs =
              byte_fails size 41 v.1 f q;
        }
    at_close v ds i s (inr q) = absurd (no_err q.2)

    at_inner : (ds : List ℕ) → bs ≡ codes "(event " ++ ds
        → ((value_at size A ds ≡ Err f)
        ⊎ ((v : Datum × List ℕ) × (value_at size A ds ≡ Ok v) × (NoValue (behind_byte size 41 v.1 >>= (λ rest. Ok (event v.0, rest))) f)))
        → Fails size (event_ty A) bs f
    at_inner ds i (inl q) = in_an_event size A bs ds f i (h ds f q)
    at_inner ds i (inr q) = at_close q.0 ds i (spells_found size A ds q.0 q.1) (bind_err (behind_byte size 41 q.0.1) _ f q.2)

    at_word : (cs : List ℕ) → (bs ≡ codes "(event" ++ cs) × (goes_on cs ≡ false)
        → ((behind_byte size 32 cs ≡ Err f)
        ⊎ ((ds : List ℕ) × (behind_byte size 32 cs ≡ Ok ds)
        × (NoValue (value_at size A ds >>= (λ v. behind_byte size 41 v.1 >>= (λ rest. Ok (event v.0, rest)))) f))) → Fails size (event_ty A) bs f
    at_word cs i (inl q) =
        record {
          wanted = a_byte 32;
          rest = cs;
          leads = subst (λ x. Leads (event_ty A) x (a_byte 32) cs) (sym i.0) (behind_event i.1);
          wrongs =
              byte_fails size 32 cs f q;
        }
    at_word cs i (inr q) = at_inner q.0 (i.0 ∙ ap (λ x. codes "(event" ++ x) (byte_found size 32 cs q.0 q.1)) (bind_err (value_at size A q.0) _ f q.2)

    at_head : bytes_eq (word_of bs) (codes "none") ≡ false
        → ((behind_head size (codes "event") bs ≡ Err f)
        ⊎ ((cs : List ℕ) × (behind_head size (codes "event") bs ≡ Ok cs)
        × (NoValue (behind_byte size 32 cs >>= (λ ds. value_at size A ds >>= (λ v. behind_byte size 41 v.1 >>= (λ rest. Ok (event v.0, rest))))) f)))
        → Fails size (event_ty A) bs f
    at_head n (inl q) = let t : (bytes_eq (form_word bs) (codes "event") ≡ false) × (wrong size bs ≡ f) = head_fails size (codes "event") bs f q in
        front size (event_ty A) bs f (or_false (bytes_eq (word_of bs) (codes "none")) (bytes_eq (form_word bs) (codes "event")) n t.0) t.1
    at_head n (inr q) = at_word q.0 (head_found size 101 (118 ∷ 101 ∷ 110 ∷ 116 ∷ []) bs q.0 q.1) (bind_err (behind_byte size 32 q.0) _ f q.2)

    at_none : ((bytes_eq (word_of bs) (codes "none") ≡ true) × ◌≡◌ {A = Result (Datum × List ℕ) ValueFault} (Ok (no_event, after_word bs)) (Err f))
        ⊎ ((bytes_eq (word_of bs) (codes "none") ≡ false)
        × (NoValue
        (behind_head size (codes "event") bs >>=
        (λ cs. behind_byte size 32 cs >>= (λ ds. value_at size A ds >>= (λ v. behind_byte size 41 v.1 >>= (λ rest. Ok (event v.0, rest)))))) f))
        → Fails size (event_ty A) bs f
    at_none (inl p) = absurd (no_err p.1)
    at_none (inr p) = at_head p.0 (bind_err (behind_head size (codes "event") bs) _ f p.1)

-- behind the elements neither a space nor a ')' stands
elements_end : (size : ℕ) (A : TypeTree) (bs cs : List ℕ) (y : List Datum × List ℕ) (f : ValueFault) → bs ≡ codes "(list" ++ cs → goes_on cs ≡ false
    → AreElements A cs y → Wrong (a_byte 41) y.1 (size - length y.1) f → Fails size (list_ty A) bs f
elements_end size A bs cs y f i g r w =
    let a : (row_ends_in_word (list_of y.0) && goes_on y.1) ≡ false = apart_row (list_of y.0) y.1 (rw (← r.spells) g) r.apart in
    let s : SpellsRow (list_of y.0) A cs y.1 = record { typed = r.typed; spells = r.spells ∙ all_spelled_is (list_of y.0) y.1; apart = a } in
    record {
      wanted = a_space_or_close;
      rest = y.1;
      leads = subst (λ x. Leads (list_ty A) x a_space_or_close y.1) (sym i) (behind_elements s);
      wrongs =
          both_missing (size - length y.1) y.1 f r.ended w;
    }
  where
    both_missing : (p : ℕ) (rest : List ℕ) (g : ValueFault) → begins_with 32 rest ≡ false → Wrong (a_byte 41) rest p g → Wrong a_space_or_close rest p g
    both_missing p rest g h (no_byte k) = neither h k

list_fails : (size : ℕ) (A : TypeTree) (bs : List ℕ) (f : ValueFault) → ((cs : List ℕ) (g : ValueFault) → value_at size A cs ≡ Err g → Fails size A cs g)
    → value_at size (list_ty A) bs ≡ Err f → Fails size (list_ty A) bs f
unfolding value_at
list_fails size A bs f h e = at_head (bind_err (behind_head size (codes "list") bs) _ f e)
  where
    at_close : (cs : List ℕ) → (bs ≡ codes "(list" ++ cs) × (goes_on cs ≡ false) → (y : List Datum × List ℕ) → AreElements A cs y
        → ((behind_byte size 41 y.1 ≡ Err f)
        ⊎ ((rest : List ℕ) × (behind_byte size 41 y.1 ≡ Ok rest) × ◌≡◌ {A = Result (Datum × List ℕ) ValueFault} (Ok (list (list_of y.0), rest)) (Err f)))
        → Fails size (list_ty A) bs f
    at_close cs i y r (inl q) = elements_end size A bs cs y f i.0 i.1 r (byte_fails size 41 y.1 f q)
    at_close cs i y r (inr q) = absurd (no_err q.2)

    at_elements : (cs : List ℕ) → (bs ≡ codes "(list" ++ cs) × (goes_on cs ≡ false)
        → ((elements_at (value_at size A) (length cs) cs ≡ Err f)
        ⊎ ((y : List Datum × List ℕ) × (elements_at (value_at size A) (length cs) cs ≡ Ok y)
        × (NoValue (behind_byte size 41 y.1 >>= (λ rest. Ok (list (list_of y.0), rest))) f))) → Fails size (list_ty A) bs f
    at_elements cs i (inl q) = in_a_row size A bs cs f i.0 (row_fails size A h (length cs) cs f q)
    at_elements cs i (inr q) = at_close cs i q.0 (elements_found size A (value_found size A) (length cs) cs q.0 (omega arith) q.1)
        (bind_err (behind_byte size 41 q.0.1) _ f q.2)

    at_head : ((behind_head size (codes "list") bs ≡ Err f)
        ⊎ ((cs : List ℕ) × (behind_head size (codes "list") bs ≡ Ok cs)
        × (NoValue (elements_at (value_at size A) (length cs) cs >>= (λ y. behind_byte size 41 y.1 >>= (λ rest. Ok (list (list_of y.0), rest)))) f)))
        → Fails size (list_ty A) bs f
    at_head (inl q) = let t : (bytes_eq (form_word bs) (codes "list") ≡ false) × (wrong size bs ≡ f) = head_fails size (codes "list") bs f q in
        front size (list_ty A) bs f t.0 t.1
    at_head (inr q) = at_elements q.0 (head_found size 108 (105 ∷ 115 ∷ 116 ∷ []) bs q.0 q.1)
        (bind_err (elements_at (value_at size A) (length q.0) q.0) _ f q.2)

pub fault_found : (size : ℕ) (A : TypeTree) (bs : List ℕ) (f : ValueFault) → value_at size A bs ≡ Err f → Fails size A bs f
unfolding value_at
fault_found size unit_ty bs f e = unit_fails size bs f e
fault_found size bool_ty bs f e = truth_fails size bs f e
fault_found size int_ty bs f e = number_fails size bs f e
fault_found size (pair_ty A B) bs f e = pair_fails size A B bs f (fault_found size A) (fault_found size B) e
fault_found size (event_ty A) bs f e = event_fails size A bs f (fault_found size A) e
fault_found size (list_ty A) bs f e = list_fails size A bs f (fault_found size A) e
