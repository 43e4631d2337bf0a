-- What is said of a row is said of its list.
use Rattle.std.proofs.Common.{◌≡◌, ℕ, suc, Bool, List, ◌++◌, Option, Vec, Global, refl, ap, ap₂, ◌∙◌}
use mathlib.Core.Former.{Count}
use Rattle.c_text.specs.declared.tree.CType.{CType}
use Rattle.c_text.specs.declared.tree.Struct.{Struct}
use Rattle.c_text.specs.declared.tree.Local.{Local}
use Rattle.c_text.specs.declared.tree.Term.{Term, Braced, Braced', Row_of-Term, end_of-Term, more_of-Term, items-the_row-Term, items_hidden-the_row-Term-0}
use Rattle.c_text.specs.declared.tree.Command.{Command, Block, Block', Row_of-Command, end_of-Command, more_of-Command, items-the_row-Command, items_hidden-the_row-Command-0}
use Rattle.c_text.specs.TermText.{braces_text, comma_text, has_none, is_end, term_text, row_text as elements_row, elements_text}
use Rattle.c_text.specs.CommandText.{after, after_row, after_all, command_text, row_text, lines_text}

abbrev pub elements_of : Term → (n : Count) × Row_of-Term n
elements_of (Braced' shape all tail) = (_, all)
elements_of _ = (_, end_of-Term)

abbrev pub commands_of : Command → (n : Count) × Row_of-Command n
commands_of (Block' shape all) = (_, all)
commands_of _ = (_, end_of-Command)

none_in : (n : _) (row : Row_of-Term n) → is_end row ≡ has_none (items-the_row-Term n row)
none_in n end_of-Term = refl
none_in n (more_of-Term t ts) = refl

module _ (P : List ℕ) (Ss : List Struct) (L : List Local) where
  elements_in : (i : ℕ) (n : _) (row : Row_of-Term n)
      → elements_row P Ss L i row ≡ elements_text P Ss L i (items-the_row-Term n row)
  elements_in i n end_of-Term = refl
  elements_in i n (more_of-Term t ts) =
      ap (λ s. comma_text i ++ (term_text P Ss L t ++ s)) (elements_in (suc i) _ ts)

  pub braced_text : (all : Vec Term Global) (tail : Option CType)
      → term_text P Ss L (Braced all tail)
      ≡ braces_text P (has_none all.items) tail (elements_text P Ss L 0 all.items)
  braced_text all tail =
      let row = elements_of (Braced all tail) in
      let same = items_hidden-the_row-Term-0 all in
      ap₂ (λ b s. braces_text P b tail s) (none_in row.0 row.1 ∙ ap has_none same)
      (elements_in 0 row.0 row.1 ∙ ap (elements_text P Ss L 0) same)

after_in : (L : List Local) (n : _) (row : Row_of-Command n)
    → after_row L row ≡ after_all L (items-the_row-Command n row)
after_in L n end_of-Command = refl
after_in L n (more_of-Command c cs) = after_in (after L c) _ cs

pub after_block : (L : List Local) (all : Vec Command Global) → after L (Block all) ≡ after_all L all.items
after_block L all =
    let row = commands_of (Block all) in
    after_in L row.0 row.1 ∙ ap (after_all L) (items_hidden-the_row-Command-0 all)

module _ (P : List ℕ) (E : List Bool) (Ss : List Struct) (R : CType) (U : List Bool) (m : List ℕ) where
  lines_in : (L : List Local) (n : _) (row : Row_of-Command n)
      → row_text P E Ss R U m L row ≡ lines_text P E Ss R U m L (items-the_row-Command n row)
  lines_in L n end_of-Command = refl
  lines_in L n (more_of-Command c cs) =
      ap (λ s. command_text P E Ss R U m L c ++ s) (lines_in (after L c) _ cs)

  pub block_text : (L : List Local) (all : Vec Command Global)
      → command_text P E Ss R U m L (Block all) ≡ lines_text P E Ss R U m L all.items
  block_text L all =
      let row = commands_of (Block all) in
      lines_in L row.0 row.1 ∙ ap (lines_text P E Ss R U m L) (items_hidden-the_row-Command-0 all)
