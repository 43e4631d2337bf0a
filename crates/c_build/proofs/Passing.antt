-- What is passed, one by one.
use Rattle.std.proofs.Common.{◌≡◌, ℕ, suc, ◌+◌, ◌-◌, ◌*◌, ◌<◌, arith, List, [], ◌∷◌, ◌++◌, refl, ap, ◌∙◌, append_assoc}
use Rattle.c_meaning.specs.Syntax.{Argument, local, by_const, by_value}
use Rattle.c_forms.specs.Standing.{param_args, old_args}
use Rattle.c_build.specs.Symbols.{Stacks, and_arguments}

-- arguments behind others
behind_passed : (s : Stacks) (as1 bs : List Argument)
    → and_arguments bs (and_arguments as1 s) ≡ and_arguments (as1 ++ bs) s
behind_passed s as1 bs =
    ap (λ (cs : List Argument). and_arguments cs (record { terms = s.terms; arguments = []; commands = s.commands }))
    (append_assoc s.arguments as1 bs)

-- the next local, and those behind it
pub local_next : (s : Stacks) (i end : ℕ) → i < end
    → and_arguments (param_args (i + 1) (end - (i + 1))) (and_arguments (by_const (local i) ∷ []) s)
    ≡ and_arguments (param_args i (end - i)) s
local_next s i end lt =
    let many : suc (end - (i + 1)) ≡ end - i = omega arith in
    let next : i + 1 ≡ suc i = omega arith in
    behind_passed s (by_const (local i) ∷ []) (param_args (i + 1) (end - (i + 1)))
    ∙ ap (λ j. and_arguments (by_const (local i) ∷ param_args j (end - (i + 1))) s) next
    ∙ ap (λ m. and_arguments (param_args i m) s) many

-- the same of frozen networks
pub pair_next : (s : Stacks) (k i count : ℕ) → i < count
    → and_arguments (old_args (k + 2 * (i + 1)) (count - (i + 1)))
    (and_arguments (by_const (local (k + 2 * i)) ∷ by_value (local (k + 2 * i + 1)) ∷ []) s)
    ≡ and_arguments (old_args (k + 2 * i) (count - i)) s
pair_next s k i count lt =
    let many : suc (count - (i + 1)) ≡ count - i = omega arith in
    let next : k + 2 * (i + 1) ≡ suc (suc (k + 2 * i)) = omega arith in
    let one : k + 2 * i + 1 ≡ suc (k + 2 * i) = omega arith in
    behind_passed s (by_const (local (k + 2 * i)) ∷ by_value (local (k + 2 * i + 1)) ∷ [])
    (old_args (k + 2 * (i + 1)) (count - (i + 1)))
    ∙ ap (λ j. and_arguments (by_const (local (k + 2 * i)) ∷ by_value (local (k + 2 * i + 1))
    ∷ old_args j (count - (i + 1))) s) next
    ∙ ap (λ j. and_arguments (by_const (local (k + 2 * i)) ∷ by_value (local j)
    ∷ old_args (suc (suc (k + 2 * i))) (count - (i + 1))) s) one
    ∙ ap (λ m. and_arguments (old_args (k + 2 * i) m) s) many
