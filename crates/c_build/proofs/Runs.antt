-- Symbols, one after the other.
use Rattle.std.proofs.Common.{◌≡◌, ℕ, List, [], ◌∷◌, ◌++◌, refl}
use Rattle.c_meaning.specs.Object.{CType}
use Rattle.c_build.specs.declared.sym.Sym.{Sym}
use Rattle.c_build.specs.Symbols.{Stacks, run, step}

pub run_joined : (Ts : List CType) (s : Stacks) (xs ys : List Sym) → run Ts s (xs ++ ys) ≡ run Ts (run Ts s xs) ys
run_joined Ts s [] ys = refl
run_joined Ts s (x ∷ xs) ys = run_joined Ts (step Ts x s) xs ys
