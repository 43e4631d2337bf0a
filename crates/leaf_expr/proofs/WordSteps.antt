-- What a word is where a number may stand, by its tests.
use Rattle.std.proofs.Common.{◌≡◌, ℕ, Bool, true, false, List, refl, sym, ◌∙◌}
use Rattle.sample_core.specs.Number.{is_number, is_number_word, is_well_spelt, is_in_64, number_of}
use Rattle.leaf_expr.specs.WordReading.{reads, misspelt, unfit, integer_at}
use Rattle.sample_core.proofs.Numbers.{parts_of}

pub no_number : (w : List ℕ) → is_number_word w ≡ false → unfit ≡ integer_at w
no_number w e = rw e refl

pub bad_number : (w : List ℕ) → is_number_word w ≡ true → is_number w ≡ false → misspelt ≡ integer_at w
bad_number w e f = go (is_well_spelt w) refl
  where
    go : (b : Bool) → is_well_spelt w ≡ b → misspelt ≡ integer_at w
    go true p = absurd (let i : is_number w ≡ true = rw (e, p) refl in let j : true ≡ false = sym i ∙ f in cc)
    go false p = rw (e, p) refl

pub big_number : (w : List ℕ) → is_number w ≡ true → is_in_64 w ≡ false → misspelt ≡ integer_at w
big_number w e f = let b : (is_number_word w ≡ true) × (is_well_spelt w ≡ true) = parts_of (is_number_word w) (is_well_spelt w) e in rw (b.0, b.1, f) refl

pub small_number : (w : List ℕ) → is_number w ≡ true → is_in_64 w ≡ true → reads (number_of w) ≡ integer_at w
small_number w e f = let b : (is_number_word w ≡ true) × (is_well_spelt w ≡ true) = parts_of (is_number_word w) (is_well_spelt w) e in rw (b.0, b.1, f) refl
