-- Spellings with the rest behind them, as reading meets them.
use Rattle.std.proofs.Common.{◌≡◌, ℕ, ◌+◌, ◌≤◌, Bool, true, false, ◌&&◌, List, [], ◌∷◌, ◌++◌, length, refl, ap, sym, ◌∙◌, arith, append_assoc, length-append}
use Rattle.std.specs.Prelude.{codes}
use Rattle.std.specs.Fmt.{signed_decimal}
use Rattle.sample_core.specs.Datum.{Datum, Datums, unit, bool, int, pair, no_event, event, list, end, more, elements, list_of}
use Rattle.sample_core.specs.Spelling.{spelling, spellings}
use Rattle.sample_core.specs.SpellsValue.{ends_in_word, row_ends_in_word}
use Rattle.sample_core.specs.Words.{goes_on}

abbrev mutual
  pub spelled : Datum → List ℕ → List ℕ
  spelled unit rest = codes "unit" ++ rest
  spelled (bool true) rest = codes "true" ++ rest
  spelled (bool false) rest = codes "false" ++ rest
  spelled (int n) rest = signed_decimal n ++ rest
  spelled (pair v w) rest = codes "(pair " ++ spelled v (32 ∷ spelled w (41 ∷ rest))
  spelled no_event rest = codes "none" ++ rest
  spelled (event v) rest = codes "(event " ++ spelled v (41 ∷ rest)
  spelled (list vs) rest = codes "(list" ++ all_spelled vs (41 ∷ rest)

  pub all_spelled : Datums → List ℕ → List ℕ
  all_spelled end rest = rest
  all_spelled (more v vs) rest = 32 ∷ spelled v (all_spelled vs rest)

mutual
  pub spelled_is : (v : Datum) (rest : List ℕ) → spelled v rest ≡ spelling v ++ rest
  spelled_is unit rest = refl
  spelled_is (bool true) rest = refl
  spelled_is (bool false) rest = refl
  spelled_is (int n) rest = refl
  spelled_is (pair v w) rest =
      ap (λ x. codes "(pair " ++ x) (spelled_is v (32 ∷ spelled w (41 ∷ rest)) ∙ ap (λ x. spelling v ++ 32 ∷ x) (spelled_is w (41 ∷ rest)))
      ∙ ap (λ x. codes "(pair " ++ x)
      (sym (append_assoc (spelling v) (32 ∷ spelling w ++ 41 ∷ []) rest ∙ ap (λ x. spelling v ++ 32 ∷ x) (append_assoc (spelling w) (41 ∷ []) rest)))
  spelled_is no_event rest = refl
  spelled_is (event v) rest = ap (λ x. codes "(event " ++ x) (spelled_is v (41 ∷ rest) ∙ sym (append_assoc (spelling v) (41 ∷ []) rest))
  spelled_is (list vs) rest = ap (λ x. codes "(list" ++ x) (all_spelled_is vs (41 ∷ rest) ∙ sym (append_assoc (spellings vs) (41 ∷ []) rest))

  pub all_spelled_is : (vs : Datums) (rest : List ℕ) → all_spelled vs rest ≡ spellings vs ++ rest
  all_spelled_is end rest = refl
  all_spelled_is (more v vs) rest = ap (λ x. 32 ∷ x) (spelled_is v (all_spelled vs rest) ∙ ap (λ x. spelling v ++ x) (all_spelled_is vs rest)
      ∙ sym (append_assoc (spelling v) (spellings vs) rest))

pub longer : (v : Datum) (rest : List ℕ) → length rest ≤ length (spelled v rest)
longer v rest = rw (spelled_is v rest) (omega (arith, length-append (spelling v) rest))

pub row_longer : (vs : Datums) (rest : List ℕ) → length rest + length (elements vs) ≤ length (all_spelled vs rest)
row_longer end rest = omega arith
row_longer (more v vs) rest = omega (arith, longer v (all_spelled vs rest), row_longer vs rest)

pub elements_back : (vs : Datums) → list_of (elements vs) ≡ vs
elements_back end = refl
elements_back (more v vs) = ap (more v) (elements_back vs)

and_false : (b : Bool) → (b && false) ≡ false
and_false true = refl
and_false false = refl

pub kept_apart : (v : Datum) (rest : List ℕ) → goes_on rest ≡ false → (ends_in_word v && goes_on rest) ≡ false
kept_apart v rest e = ap (λ p. ends_in_word v && p) e ∙ and_false (ends_in_word v)

pub row_kept_apart : (vs : Datums) (rest : List ℕ) → goes_on rest ≡ false → (row_ends_in_word vs && goes_on rest) ≡ false
row_kept_apart vs rest e = ap (λ p. row_ends_in_word vs && p) e ∙ and_false (row_ends_in_word vs)

-- whether the last element ends in a word
abbrev pub last_ends_in_word : Datums → Bool
last_ends_in_word end = false
last_ends_in_word (more v end) = ends_in_word v
last_ends_in_word (more v (more w vs)) = last_ends_in_word (more w vs)

-- a row's rest does not go on the row, so an element's rest does not go on the element
pub first_apart : (v : Datum) (vs : Datums) (rest : List ℕ) → (last_ends_in_word (more v vs) && goes_on rest) ≡ false
    → (ends_in_word v && goes_on (all_spelled vs rest)) ≡ false
first_apart v end rest e = e
first_apart v (more w vs) rest e = and_false (ends_in_word v)

pub others_apart : (v : Datum) (vs : Datums) (rest : List ℕ) → (last_ends_in_word (more v vs) && goes_on rest) ≡ false
    → (last_ends_in_word vs && goes_on rest) ≡ false
others_apart v end rest e = refl
others_apart v (more w vs) rest e = e

pub more_apart : (v : Datum) (vs : Datums) (rest : List ℕ) → (ends_in_word v && goes_on (all_spelled vs rest)) ≡ false
    → (last_ends_in_word vs && goes_on rest) ≡ false → (last_ends_in_word (more v vs) && goes_on rest) ≡ false
more_apart v end rest d e = d
more_apart v (more w vs) rest d e = e

pub row_apart : (vs : Datums) (rest : List ℕ) → (row_ends_in_word vs && goes_on rest) ≡ false
    → (goes_on (all_spelled vs rest) ≡ false) × ((last_ends_in_word vs && goes_on rest) ≡ false)
row_apart end rest e = (e, refl)
row_apart (more v end) rest e = (refl, e)
row_apart (more v (more w vs)) rest e = (refl, (row_apart (more w vs) rest e).1)

pub apart_row : (vs : Datums) (rest : List ℕ) → goes_on (all_spelled vs rest) ≡ false → (last_ends_in_word vs && goes_on rest) ≡ false
    → (row_ends_in_word vs && goes_on rest) ≡ false
apart_row end rest d e = d
apart_row (more v end) rest d e = e
apart_row (more v (more w vs)) rest d e = apart_row (more w vs) rest refl e

pub row_parted : (vs : Datums) (rest : List ℕ) → goes_on rest ≡ false → goes_on (all_spelled vs rest) ≡ false
row_parted end rest e = e
row_parted (more v vs) rest e = refl

pub last_kept_apart : (vs : Datums) (rest : List ℕ) → goes_on rest ≡ false → (last_ends_in_word vs && goes_on rest) ≡ false
last_kept_apart vs rest e = ap (λ p. last_ends_in_word vs && p) e ∙ and_false (last_ends_in_word vs)
