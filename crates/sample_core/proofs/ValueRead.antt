-- A spelled value is read.
use Rattle.std.proofs.Common.{◌≡◌, ℕ, ◌-◌, ◌≤◌, true, false, ◌&&◌, List, [], ◌∷◌, ◌++◌, length, refl, sym, ap, ◌∙◌, arith, ℤ, Ok, Err, w64, FitsSigned, append_assoc, append-nil}
use Rattle.std.specs.Prelude.{codes, bytes_eq}
use Rattle.std.specs.Fmt.{signed_decimal}
use Rattle.std.proofs.lemmas.Slice.Eq.{bytes_eq-Decides}
use Rattle.sample_core.specs.Datum.{Datum, Datums, int, list, elements}
use Rattle.sample_core.specs.TypeTree.{TypeTree, int_ty}
use Rattle.sample_core.specs.HasType.{HasType, HaveType, unit_has, bool_has, int_has, pair_has, no_event_has, event_has, list_has, end_has, more_has}
use Rattle.sample_core.specs.Number.{is_number, is_in_64}
use Rattle.sample_core.specs.Reading.{begins_with, behind_byte, behind_head, unit_at, truth_at, number_at, elements_at, value_at}
use Rattle.sample_core.specs.SpellsValue.{ends_in_word}
use Rattle.sample_core.specs.Words.{goes_on, word_of, after_word}
use Rattle.sample_core.specs.declared.fault.ValueFault.TheVariants as Fault
use Rattle.sample_core.proofs.Behind.{spelled, all_spelled, longer, elements_back, kept_apart, last_ends_in_word, row_parted, last_kept_apart, first_apart, others_apart}
use Rattle.sample_core.proofs.Numbers.{Spells64, integer_spelled}
use Rattle.sample_core.proofs.ReadSteps.{with_front, front_none, front_alone, none_more, one_more}
use Rattle.sample_core.proofs.WordLemmas.{no_word, all_behind, is_one_word, word_all, behind_all, number_is_word}

pub head_only : (size : ℕ) (name cs : List ℕ) → is_one_word name ≡ true → goes_on cs ≡ false → behind_head size name (40 ∷ name ++ cs) ≡ Ok cs
unfolding behind_head
head_only size name cs h e =
    let w : word_of (name ++ cs) ≡ name = word_all name cs h e in
    let b : after_word (name ++ cs) ≡ cs = behind_all name cs h e in
    let q : bytes_eq name name ≡ true = (bytes_eq-Decides name name).1 refl in
    rw (w, b, q) refl

pub byte_missing : (size b : ℕ) (bs : List ℕ) → begins_with b bs ≡ false → behind_byte size b bs ≡ Err (Fault.NotAValue (size - length bs))
unfolding behind_byte
byte_missing size b [] e = ap (λ p. Err (Fault.NotAValue p)) (omega arith)
byte_missing size b (c ∷ cs) e = rw e refl

number_only : (size : ℕ) (z : ℤ) (rest : List ℕ) → FitsSigned w64 z → goes_on rest ≡ false → value_at size int_ty (signed_decimal z ++ rest) ≡ Ok (int z, rest)
unfolding value_at number_at
number_only size z rest f e =
    let w : word_of (signed_decimal z ++ rest) ≡ signed_decimal z = word_all (signed_decimal z) rest (number_is_word z f) e in
    let b : after_word (signed_decimal z ++ rest) ≡ rest = behind_all (signed_decimal z) rest (number_is_word z f) e in
    let s : Spells64 (signed_decimal z) z = integer_spelled z f in
    let s0 : is_number (signed_decimal z) ≡ true = s.word in
    let s1 : is_in_64 (signed_decimal z) ≡ true = s.fits in
    rw (w, b) (rw (s0, s1) (ap (λ n. Ok (int n, rest)) s.value))

mutual
  unfolding value_at unit_at truth_at behind_byte

  pub value_only : (size : ℕ) (v : Datum) (A : TypeTree) (rest : List ℕ) → HasType v A → (ends_in_word v && goes_on rest) ≡ false
      → value_at size A (spelled v rest) ≡ Ok (v, rest)
  value_only size v A rest unit_has e = rw (no_word rest e, all_behind rest e) refl
  value_only size v A rest (bool_has {b = true}) e = rw (no_word rest e, all_behind rest e) refl
  value_only size v A rest (bool_has {b = false}) e = rw (no_word rest e, all_behind rest e) refl
  value_only size v A rest (int_has {n = n} f) e = number_only size n rest f e
  value_only size v A rest (pair_has {v = a} {w = b} {A = B} {B = C} h k) e =
      let g : behind_head size (codes "pair") (codes "(pair " ++ spelled a (32 ∷ spelled b (41 ∷ rest))) ≡ Ok (32 ∷ spelled a (32 ∷ spelled b (41 ∷ rest))) =
      head_only size (codes "pair") (32 ∷ spelled a (32 ∷ spelled b (41 ∷ rest))) refl refl in
      let i : value_at size B (spelled a (32 ∷ spelled b (41 ∷ rest))) ≡ Ok (a, 32 ∷ spelled b (41 ∷ rest)) =
      value_only size a B (32 ∷ spelled b (41 ∷ rest)) h (kept_apart a (32 ∷ spelled b (41 ∷ rest)) refl) in
      let j : value_at size C (spelled b (41 ∷ rest)) ≡ Ok (b, 41 ∷ rest) = value_only size b C (41 ∷ rest) k (kept_apart b (41 ∷ rest) refl) in
      rw (g, i, j) refl
  value_only size v A rest no_event_has e = rw (no_word rest e, all_behind rest e) refl
  value_only size v A rest (event_has {v = a} {A = B} h) e =
      let g : behind_head size (codes "event") (codes "(event " ++ spelled a (41 ∷ rest)) ≡ Ok (32 ∷ spelled a (41 ∷ rest)) =
      head_only size (codes "event") (32 ∷ spelled a (41 ∷ rest)) refl refl in
      let i : value_at size B (spelled a (41 ∷ rest)) ≡ Ok (a, 41 ∷ rest) = value_only size a B (41 ∷ rest) h (kept_apart a (41 ∷ rest) refl) in
      rw (g, i) refl
  value_only size v A rest (list_has {vs = vs} {A = B} h) e =
      let g : behind_head size (codes "list") (codes "(list" ++ all_spelled vs (41 ∷ rest)) ≡ Ok (all_spelled vs (41 ∷ rest)) =
      head_only size (codes "list") (all_spelled vs (41 ∷ rest)) refl (row_parted vs (41 ∷ rest) refl) in
      let n : ℕ = length (all_spelled vs (41 ∷ rest)) in
      let r : elements_at (value_at size B) (length (all_spelled vs (41 ∷ rest))) (all_spelled vs (41 ∷ rest)) ≡ Ok (elements vs, 41 ∷ rest) =
      sym (front_none (elements_at (value_at size B) n (all_spelled vs (41 ∷ rest))))
      ∙ elements_row size vs B (41 ∷ rest) n [] h (omega arith) (last_kept_apart vs (41 ∷ rest) refl)
      ∙ ap (with_front (elements vs)) (none_more (value_at size B) (n - length (elements vs)) (41 ∷ rest) refl)
      ∙ front_alone (elements vs) (41 ∷ rest) in
      rw (g, r) (ap (λ us. Ok (list us, rest)) (elements_back vs))

  -- the elements of a row are read, and then what the rest gives
  pub elements_row : (size : ℕ) (vs : Datums) (A : TypeTree) (rest : List ℕ) (n : ℕ) (front : List Datum) → HaveType vs A → length (all_spelled vs rest) ≤ n
      → (last_ends_in_word vs && goes_on rest) ≡ false
      → with_front front (elements_at (value_at size A) n (all_spelled vs rest))
      ≡ with_front (front ++ elements vs) (elements_at (value_at size A) (n - length (elements vs)) rest)
  elements_row size vs A rest n front end_has l e =
      let a : n ≡ n - 0 = omega arith in
      ap (λ m. with_front front (elements_at (value_at size A) m rest)) a
      ∙ ap (λ fs. with_front fs (elements_at (value_at size A) (n - 0) rest)) (sym (append-nil front))
  elements_row size vs A rest n front (more_has {v = v} {vs = us} h k) l e =
      let i : value_at size A (spelled v (all_spelled us rest)) ≡ Ok (v, all_spelled us rest) =
      value_only size v A (all_spelled us rest) h (first_apart v us rest e) in
      let o = one_more (value_at size A) n front (32 ∷ spelled v (all_spelled us rest)) (spelled v (all_spelled us rest)) (all_spelled us rest) v refl
      (omega arith) i in
      let j : length (all_spelled us rest) ≤ n - 1 = omega (arith, longer v (all_spelled us rest)) in
      let m : n - 1 - length (elements us) ≡ n - length (v ∷ elements us) = omega arith in
      o ∙ elements_row size us A rest (n - 1) (front ++ v ∷ []) k j (others_apart v us rest e)
      ∙ ap (λ fs. with_front fs (elements_at (value_at size A) (n - 1 - length (elements us)) rest)) (append_assoc front (v ∷ []) (elements us))
      ∙ ap (λ q. with_front (front ++ v ∷ elements us) (elements_at (value_at size A) q rest)) m
