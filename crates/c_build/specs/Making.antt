-- What symbols add to what is built.
use Rattle.std.specs.Prelude.{◌≡◌, ℕ, zero, suc, List, [], ◌∷◌}
use Rattle.c_meaning.specs.Object.{CType}
use Rattle.c_meaning.specs.Syntax.{Term, local, Command}
use Rattle.sample_core.specs.TypeTree.{TypeTree}
use Rattle.leaf_code.specs.Fitting.{Bounds}
use Rattle.c_forms.specs.Keeping.{Shape}
use Rattle.c_forms.specs.Standing.{behind, part_call}
use Rattle.c_forms.specs.Cells.{kept_at}
use Rattle.c_build.specs.declared.sym.Sym.{Sym}
use Rattle.c_build.specs.declared.scope.Scope.{Scope}
use Rattle.c_build.specs.Symbols.{Stacks, and_term, and_command, run}
use Rattle.c_build.specs.Scopes.{table, made}

-- symbols make a term, whatever stands there
abbrev pub Makes : Scope → List Sym → Term → Type 0
Makes s xs e = (t : Stacks) → run (table s) t xs ≡ and_term e t

-- symbols make a command
abbrev pub MakesLine : Scope → List Sym → Command → Type 0
MakesLine s xs c = (t : Stacks) → run (table s) t xs ≡ and_command c t

-- where symbols were xs, and are ys now: a term more, whatever stands there; a command more
abbrev pub AddsTerm : Scope → List Sym → List Sym → Term → Type 0
AddsTerm s xs ys e = (t : Stacks) → run (table s) t ys ≡ and_term e (run (table s) t xs)

abbrev pub Adds : Scope → List Sym → List Sym → Command → Type 0
Adds s xs ys c = made s ys ≡ and_command c (made s xs)

-- symbols zs are ys behind xs
abbrev pub Joins : List Sym → List Sym → List Sym → Type 0
Joins xs ys zs = (Ts : List CType) (t : Stacks) → run Ts t zs ≡ run Ts (run Ts t xs) ys

-- commands, terms more, the last one on top
abbrev pub and_commands : List Command → Stacks → Stacks
and_commands [] s = s
and_commands (c ∷ cs) s = and_commands cs (and_command c s)

abbrev pub and_terms : List Term → Stacks → Stacks
and_terms [] s = s
and_terms (e ∷ es) s = and_terms es (and_term e s)

module _ (n : Bounds) (Ps : List TypeTree) (Os : List Shape) where
  -- the calls of members from number i on
  abbrev pub calls_from : TypeTree → ℕ → List ℕ → List Command
  calls_from B i [] = []
  calls_from B i (j ∷ js) = part_call n Ps Os B j (kept_at i) (local 2) ∷ calls_from B (suc i) js

  -- so many registers from number i on
  abbrev pub registers_from : ℕ → ℕ → List Term
  registers_from i zero = []
  registers_from i (suc m) = behind n Ps Os i ∷ registers_from (suc i) m
