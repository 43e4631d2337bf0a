-- What completes a tree of a language.
use Rattle.std.proofs.Common.{◌≡◌, ℕ, List, [], ◌∷◌, ◌+◌, Some, length}
use Rattle.leaf_expr.specs.Token.{opening, closing, word}
use Rattle.leaf_expr.specs.Sexpr.{atom, form, last, atom_spells, form_spells, last_spells}
use Rattle.leaf_expr.specs.Language.{Language, meant}
use Rattle.leaf_expr.specs.ReadLaws.{Completes}

module _ (L : Language) where
  -- a word that is a tree completes it
  pub by_word : (s : L.Sort) (w : List ℕ) {a : L.Tree s} → meant L s (atom w) ≡ Some a → Completes L s []
  by_word s w {a = a} m = record { end = (0, word w) ∷ []; stop = 0 + length w; part = atom w; tree = a; spells = λ ts. atom_spells; means = m }

  -- the word of a form without parts, and its end, complete what the form's parenthesis opens
  pub by_form : (s : L.Sort) (n : ℕ) (w : List ℕ) {a : L.Tree s} → meant L s (form w last) ≡ Some a → Completes L s ((n, opening) ∷ [])
  by_form s n w {a = a} m =
      record { end = (0, word w) ∷ (0, closing) ∷ []; stop = 1; part = form w last; tree = a; spells = λ ts. form_spells last_spells; means = m }

  -- what completes a parenthesis completes a tree together with it
  pub with_opening : (s : L.Sort) → Completes L s ((0, opening) ∷ []) → Completes L s []
  with_opening s c = record { end = (0, opening) ∷ c.end; stop = c.stop; part = c.part; tree = c.tree; spells = c.spells; means = c.means }
