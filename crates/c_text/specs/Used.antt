-- Which locals of a function its terms name.
use Rattle.std.specs.Prelude.{ℕ, zero, suc, Bool, true, false, List, [], ◌∷◌, get_or}
use Rattle.c_text.specs.declared.tree.Term.{Term, Row_of-Term, end_of-Term, more_of-Term}
use Rattle.c_text.specs.declared.tree.Term as E
use Rattle.c_text.specs.declared.tree.Argument.{Argument}
use Rattle.c_text.specs.declared.tree.Argument.TheVariants as A
use Rattle.c_text.specs.declared.tree.Command.{Command, Row_of-Command, end_of-Command, more_of-Command}
use Rattle.c_text.specs.declared.tree.Command as C

-- with local k, the locals being counted from 0
abbrev pub mark : ℕ → List Bool → List Bool
mark zero [] = true ∷ []
mark zero (b ∷ U) = true ∷ U
mark (suc k) [] = false ∷ mark k []
mark (suc k) (b ∷ U) = b ∷ mark k U

-- with those of an expression
abbrev mutual
  pub term_used : List Bool → Term → List Bool
  term_used U (E.Local k) = mark k U
  term_used U (E.Dot' p e k) = term_used U e
  term_used U (E.At' p e q i) = term_used (term_used U e) i
  term_used U (E.Literal l) = U
  term_used U (E.Zeroed T) = U
  term_used U (E.Braced' shape all tail) = elements_used U all
  term_used U (E.Binary' o S p a q b) = term_used (term_used U a) b
  term_used U (E.Inverse' p a) = term_used U a
  term_used U (E.Both' p a q b) = term_used (term_used U a) b
  term_used U (E.Either' p a q b) = term_used (term_used U a) b
  term_used U (E.Choice' p c q a r b) = term_used (term_used (term_used U c) a) b
  term_used U (E.Cast' S p a) = term_used U a
  term_used U (E.Signed' p a) = term_used U a

  pub elements_used : List Bool → {m : _} → Row_of-Term m → List Bool
  elements_used U end_of-Term = U
  elements_used U (more_of-Term e es) = elements_used (term_used U e) es

-- the same of a list
abbrev pub terms_used : List Bool → List Term → List Bool
terms_used U [] = U
terms_used U (e ∷ es) = terms_used (term_used U e) es

-- of what is passed
abbrev pub argument_used : List Bool → Argument → List Bool
argument_used U (A.Value e) = term_used U e
argument_used U (A.Const e) = term_used U e
argument_used U (A.Pointer e) = term_used U e

abbrev pub arguments_used : List Bool → List Argument → List Bool
arguments_used U [] = U
arguments_used U (a ∷ as1) = arguments_used (argument_used U a) as1

-- of a command
abbrev mutual
  pub command_used : List Bool → Command → List Bool
  command_used U C.Skip = U
  command_used U (C.Block' shape all) = row_used U all
  command_used U (C.Declare T) = U
  command_used U (C.Define T e) = term_used U e
  command_used U (C.Refer T e) = term_used U e
  command_used U (C.Assign e v) = term_used (term_used U e) v
  command_used U (C.Call T k as1) = arguments_used U as1.items
  command_used U (C.Branch' c p a q b) = command_used (command_used (term_used U c) a) b
  command_used U (C.Loop' n c p a) = command_used (term_used U c) a
  command_used U (C.Answer e) = term_used U e

  pub row_used : List Bool → {m : _} → Row_of-Command m → List Bool
  row_used U end_of-Command = U
  row_used U (more_of-Command c cs) = row_used (command_used U c) cs

abbrev pub commands_used : List Bool → List Command → List Bool
commands_used U [] = U
commands_used U (c ∷ cs) = commands_used (command_used U c) cs

-- whether local k is one of them
abbrev pub is_used : List Bool → ℕ → Bool
is_used U k = get_or U k false
