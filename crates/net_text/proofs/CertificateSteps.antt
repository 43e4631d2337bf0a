-- Steps of reading certificates, as the code takes them.
use Rattle.std.proofs.Common.{◌≡◌, ℕ, true, false, List, refl, sym, ◌∙◌, Some, None, Err}
use Rattle.std.specs.Prelude.{codes, bytes_eq}
use Rattle.leaf_expr.specs.Token.{PlacedToken}
use Rattle.leaf_expr.specs.Language.{places}
use Rattle.leaf_expr.specs.Grammar.{leaf, index_sort}
use Rattle.leaf_expr.specs.TreeReader.{word_read, read}
use Rattle.leaf_expr.proofs.ReadSteps.{formless_read}
use Rattle.leaf_expr.proofs.NaturalSteps.{index_read}
use Rattle.leaf_expr.specs.declared.text_fault.ExprTextFault.TheVariants as E
use Rattle.net_text.specs.Grammar.{Version}
use Rattle.net_text.specs.StepGrammar.{step_parts, position_sort, child_sort, step_word_at, step_production_at, position_productions}

-- a child number is read as the number of a parameter is
pub child_read : (v : Version) (size room : ℕ) (ts : List PlacedToken) → read (step_parts v) size room child_sort ts ≡ read leaf size room index_sort ts
unfolding step_word_at
child_read v size room ts = formless_read (step_parts v) size room child_sort ts refl ∙ sym (index_read size room ts)

-- `at` alone begins a position
pub at_named : (w : List ℕ) → bytes_eq w (codes "at") ≡ true
    → Some (record { name = codes "at"; takes = places child_sort; makes = λ ks. ks }) ≡ step_production_at position_sort w
unfolding step_production_at position_productions
at_named w e = rw e refl

pub at_unnamed : (w : List ℕ) → bytes_eq w (codes "at") ≡ false → None ≡ step_production_at position_sort w
unfolding step_production_at position_productions
at_unnamed w e = rw e refl

-- a position is no word
pub at_no_word : (v : Version) (n : ℕ) (w : List ℕ) (ts : List PlacedToken) → word_read n w ts (step_word_at v position_sort w) ≡ Err (E.Syntax n)
unfolding step_word_at
at_no_word v n w ts = refl
