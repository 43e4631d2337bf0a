-- What is frozen is passed, one member after the other.
use Rattle.std.proofs.Common.{◌≡◌, ℕ, suc, ◌+◌, ◌-◌, ◌<◌, arith, List, [], ◌∷◌, ◌++◌, ap, ◌∙◌, append_assoc}
use Rattle.c_meaning.specs.Syntax.{Argument, dot, by_const, by_value}
use Rattle.c_forms.specs.Freezing.{frozen_of, when_of, frozen_members}
use Rattle.c_build.specs.Symbols.{Stacks, and_arguments}

-- two behind others, and more behind these
two_behind : (xs ys : List Argument) (a b : Argument) → ((xs ++ a ∷ []) ++ b ∷ []) ++ ys ≡ xs ++ (a ∷ b ∷ ys)
two_behind xs ys a b = append_assoc (xs ++ a ∷ []) (b ∷ []) ys ∙ append_assoc xs (a ∷ []) (b ∷ ys)

-- the next member, and those behind it
pub frozen_next : (s : Stacks) (i end : ℕ) → i < end
    → and_arguments (frozen_members (i + 1) (end - (i + 1)))
    (and_arguments (by_value when_of ∷ []) (and_arguments (by_const (dot frozen_of i) ∷ []) s))
    ≡ and_arguments (frozen_members i (end - i)) s
frozen_next s i end lt =
    let many : suc (end - (i + 1)) ≡ end - i = omega arith in
    let next : i + 1 ≡ suc i = omega arith in
    ap (λ (cs : List Argument). record { terms = s.terms; arguments = cs; commands = s.commands })
    (two_behind s.arguments (frozen_members (i + 1) (end - (i + 1))) (by_const (dot frozen_of i)) (by_value when_of))
    ∙ (ap (λ (j : ℕ). and_arguments (by_const (dot frozen_of i) ∷ by_value when_of ∷ frozen_members j (end - (i + 1))) s) next
    ∙ ap (λ (m : ℕ). and_arguments (frozen_members i m) s) many)
