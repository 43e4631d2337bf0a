-- What a row uses its list uses; and how a local is marked.
use Rattle.std.proofs.Common.{◌≡◌, ◌≤◌, ◌<◌, ℕ, zero, suc, Bool, true, false, List, [], ◌∷◌, ◌++◌, length, slice_set, Option, Vec, Global, refl, ap, ◌∙◌, arith}
use Rattle.c_text.specs.declared.tree.CType.{CType}
use Rattle.c_text.specs.declared.tree.Term.{Term, Braced, Row_of-Term, end_of-Term, more_of-Term, items-the_row-Term, items_hidden-the_row-Term-0}
use Rattle.c_text.specs.declared.tree.Command.{Command, Block, Row_of-Command, end_of-Command, more_of-Command, items-the_row-Command, items_hidden-the_row-Command-0}
use Rattle.c_text.specs.Used.{mark, term_used, elements_used, terms_used, command_used, row_used, commands_used}
use Rattle.c_text.proofs.Rows.{elements_of, commands_of}

terms-in : (U : List Bool) (n : _) (row : Row_of-Term n) → elements_used U row ≡ terms_used U (items-the_row-Term n row)
terms-in U n end_of-Term = refl
terms-in U n (more_of-Term e es) = terms-in (term_used U e) _ es

pub braced_used : (U : List Bool) (all : Vec Term Global) (tail : Option CType) → term_used U (Braced all tail) ≡ terms_used U all.items
braced_used U all tail =
    let row = elements_of (Braced all tail) in
    terms-in U row.0 row.1 ∙ ap (terms_used U) (items_hidden-the_row-Term-0 all)

commands-in : (U : List Bool) (n : _) (row : Row_of-Command n) → row_used U row ≡ commands_used U (items-the_row-Command n row)
commands-in U n end_of-Command = refl
commands-in U n (more_of-Command c cs) = commands-in (command_used U c) _ cs

pub block_used : (U : List Bool) (all : Vec Command Global) → command_used U (Block all) ≡ commands_used U all.items
block_used U all =
    let row = commands_of (Block all) in
    commands-in U row.0 row.1 ∙ ap (commands_used U) (items_hidden-the_row-Command-0 all)

-- one more that isn't marked changes nothing
pub mark-more : (k : ℕ) (U : List Bool) → length U ≤ k → mark k (U ++ false ∷ []) ≡ mark k U
mark-more zero [] l = refl
mark-more zero (b ∷ U) l = absurd (omega (arith, l))
mark-more (suc k) [] l = refl
mark-more (suc k) (b ∷ U) l = ap (λ (V : List Bool). b ∷ V) (mark-more k U (omega (arith, l)))

-- where it is there, it is set
pub mark-set : (k : ℕ) (U : List Bool) → k < length U → mark k U ≡ slice_set U k true
mark-set k [] l = absurd (omega (arith, l))
mark-set zero (b ∷ U) l = refl
mark-set (suc k) (b ∷ U) l = ap (λ (V : List Bool). b ∷ V) (mark-set k U (omega (arith, l)))
