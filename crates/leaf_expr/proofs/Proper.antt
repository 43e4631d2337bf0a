-- What every language of this repository has, and the proofs about reading rest on.
use Rattle.std.specs.Prelude.{◌≡◌, ℕ, true, false, ◌&&◌, List, [], ◌∷◌, None}
use Rattle.sample_core.specs.Number.{is_number_word}
use Rattle.leaf_expr.specs.WordReading.{misspelt, unfit}
use Rattle.leaf_expr.specs.Token.{opening}
use Rattle.leaf_expr.specs.Language.{Language}
use Rattle.leaf_expr.specs.ReadLaws.{Completes}

pub record Proper (L : Language) : Type 0 where
  -- a sort without forms has no production
  pub formless : (s : L.Sort) (w : List ℕ) → L.has_form s ≡ false → L.production_at s w ≡ None
  -- a number word that doesn't serve is misspelt exactly where a number may stand
  pub spoilt : (s : L.Sort) (w : List ℕ) → L.word_at s w ≡ misspelt → (L.takes_number s && is_number_word w) ≡ true
  pub foreign : (s : L.Sort) (w : List ℕ) → L.word_at s w ≡ unfit → (L.takes_number s && is_number_word w) ≡ false
  -- each sort has a tree, and one with forms has a form
  pub filler : (s : L.Sort) → Completes L s []
  pub opener : (s : L.Sort) (n : ℕ) → L.has_form s ≡ true → Completes L s ((n, opening) ∷ [])
