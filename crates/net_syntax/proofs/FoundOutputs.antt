-- What the code finds of frozen networks.
use Rattle.std.proofs.Common.{◌≡◌, ℕ, zero, suc, ◌≤◌, ◌<◌, List, [], ◌∷◌, length, map, get_or, Option, Some, None, Err, refl, subst, arith}
use Rattle.sample_core.specs.TypeView.{type_of}
use Rattle.net_syntax.specs.FoundType.{Finds}
use Rattle.net_syntax.specs.declared.output.Untyped.{Untyped}
use Rattle.net_syntax.specs.declared.output.Untyped.TheVariants.{NoType}
use Rattle.net_syntax.specs.ArrowView.{arrow_of}
use Rattle.net_syntax.specs.StandingWalk.{old_output}
use Rattle.net_syntax.specs.declared.arrow.Arrow.{Arrow}

pub old_there : (olds : List Arrow) (k : ℕ) (o : Arrow) → k < length olds → old_output (map arrow_of olds) k ≡ Some (type_of (get_or olds k o).output)
old_there [] k o h = absurd (omega arith)
old_there (x ∷ xs) zero o h = refl
old_there (x ∷ xs) (suc k) o h = old_there xs k o (omega arith)

pub old_missing : (olds : List Arrow) (k : ℕ) → length olds ≤ k → old_output (map arrow_of olds) k ≡ None
old_missing [] k h = refl
old_missing (x ∷ xs) zero h = absurd (omega arith)
old_missing (x ∷ xs) (suc k) h = old_missing xs k (omega arith)

-- no type was found
pub nothing_found : {X Y : Type 0} (view : X → Y) (u : Untyped) (found : Option Y) → u ≡ NoType → Finds view (Err u) found → found ≡ None
nothing_found {X = X} view u found is h = subst (λ w. Finds {X = X} view (Err w) found) is h
