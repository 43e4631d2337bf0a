-- The C function of `parB`.
use Rattle.std.specs.Prelude.{◌≤◌, ◌<◌, ◌^◌, ℕ, zero, suc, pos, ◌-◌, List, [], ◌∷◌, map, length}
use Rattle.sample_core.specs.TypeTree.{TypeTree, list_ty}
use Rattle.leaf_code.specs.Fitting.{Bounds}
use Rattle.net_machine.specs.Stepper.{Stepper, par_step}
use Rattle.net_code.specs.Running.{Given}
use Rattle.c_meaning.specs.Object.{u32, array}
use Rattle.c_meaning.specs.Syntax.{Term, local, literal, zeroed, braced, Command, sequence, define, answer, Function}
use Rattle.c_meaning.specs.Meaning.{Linked, function_run}
use Rattle.c_leaf.specs.Representing.{c_type}
use Rattle.c_leaf.specs.LeafC.{pair_of}
use Rattle.c_forms.specs.Keeping.{Shape, keeps_none, and_member}
use Rattle.c_forms.specs.Standing.{Right, behind, part_call, stepping}
use Rattle.c_forms.specs.Cells.{kept_at}

-- what members keep
abbrev pub members_shape : List Shape → Shape
members_shape [] = keeps_none
members_shape (S ∷ Ss) = and_member S (members_shape Ss)

module _ (n : Bounds) (Ps : List TypeTree) (Os : List Shape) where
  -- functions js do members' steps
  pub data MembersRight (F : ℕ → Linked) (A B : TypeTree) : List ℕ → List Shape → List (Given → Stepper) → Type 0
    where
      no_members : MembersRight F A B [] [] []
      one_member : {j : ℕ} {js : List ℕ} {S : Shape} {Ss : List Shape} {f : Given → Stepper} {fs : List (Given → Stepper)}
          → Right n Ps Os S A B f (F j) → MembersRight F A B js Ss fs
          → MembersRight F A B (j ∷ js) (S ∷ Ss) (f ∷ fs)

  -- each member on the input, from number i on, and then c
  abbrev pub member_calls : TypeTree → ℕ → List ℕ → Command → Command
  member_calls B i [] c = c
  member_calls B i (j ∷ js) c =
      sequence (part_call n Ps Os B j (kept_at i) (local 2)) (member_calls B (suc i) js c)

  -- so many registers, from number i on, and l zeros behind them
  abbrev pub answers_term : TypeTree → ℕ → ℕ → ℕ → Term
  answers_term B i zero l = zeroed (array l (c_type n B))
  answers_term B i (suc m) l = braced (behind n Ps Os i) (answers_term B (suc i) m l)

  -- the list of them
  abbrev pub list_lines : TypeTree → ℕ → Command
  list_lines B m =
      sequence
      (define (c_type n (list_ty B)) (pair_of (literal u32 (pos m)) (answers_term B 0 m (n B - m))))
      (answer (behind n Ps Os m))

  abbrev pub par_function : List Shape → TypeTree → TypeTree → List ℕ → Function
  par_function Ss A B js =
      stepping n Ps Os (members_shape Ss) A (list_ty B) (member_calls B 0 js (list_lines B (length js)))

  abbrev pub ParLaw : (ℕ → Linked) → Type 0
  ParLaw F = (Ss : List Shape) (A B : TypeTree) (js : List ℕ) (fs : List (Given → Stepper))
      → length js ≤ n B → n B < 2 ^ 32 → MembersRight F A B js Ss fs
      → Right n Ps Os (members_shape Ss) A (list_ty B) (λ g. par_step (map (λ f. f g) fs))
      (function_run F (par_function Ss A B js))
