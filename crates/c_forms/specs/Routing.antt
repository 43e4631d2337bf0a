-- The C functions of a `pSwitch`'s members, each of which gets what a route makes of the input.
use Rattle.std.specs.Prelude.{◌≤◌, ◌<◌, ◌^◌, ℕ, suc, List, [], ◌∷◌, map, length}
use Rattle.sample_core.specs.Datum.{Datum}
use Rattle.sample_core.specs.TypeTree.{TypeTree, int_ty, pair_ty, list_ty}
use Rattle.leaf_code.specs.Fitting.{Bounds}
use Rattle.net_machine.specs.Stepper.{Stepper, routed_step, routed, par_step}
use Rattle.net_code.specs.Running.{Given}
use Rattle.c_meaning.specs.Syntax.{Term, local, define, answer, Function}
use Rattle.c_meaning.specs.Meaning.{Linked, function_run}
use Rattle.c_leaf.specs.Representing.{c_type}
use Rattle.c_leaf.specs.LeafC.{pair_of}
use Rattle.c_leaf.specs.LeafCLaw.{Computes}
use Rattle.c_forms.specs.Keeping.{Shape}
use Rattle.c_forms.specs.Standing.{Right, behind, leaf_call, part_call, stepping}
use Rattle.c_forms.specs.Forms.{lines}
use Rattle.c_forms.specs.Cells.{number_term}
use Rattle.c_forms.specs.Members.{members_shape, MembersRight, par_function}

-- members' steps from number i on, each on what the route h gives it
abbrev pub routed_steps : (List Datum → Datum → Datum) → ℕ → List (Given → Stepper) → List (Given → Stepper)
routed_steps h i [] = []
routed_steps h i (f ∷ fs) = (λ g. routed_step (h g.params) i (f g)) ∷ routed_steps h (suc i) fs

module _ (n : Bounds) (Ps : List TypeTree) (Os : List Shape) where
  abbrev pub register : ℕ → Term
  register k = behind n Ps Os k

  -- function j, on what function r makes of the input and the number i
  abbrev pub routed_function : Shape → TypeTree → TypeTree → TypeTree → ℕ → ℕ → ℕ → Function
  routed_function S A D B i r j =
      stepping n Ps Os S A B
      (lines
      (define (c_type n (pair_ty A int_ty)) (pair_of (local 2) (number_term i))
      ∷ leaf_call n Ps Os D r (register 0)
      ∷ part_call n Ps Os B j (local 0) (register 1)
      ∷ []) (answer (register 2)))

  abbrev pub RoutedLaw : (ℕ → Linked) → Type 0
  RoutedLaw F = (S : Shape) (A D B : TypeTree) (i r j : ℕ) (h : List Datum → Datum → Datum) (f : Given → Stepper)
      → i < 2 ^ 63 → Computes n Ps (pair_ty A int_ty) D h (F r) → Right n Ps Os S D B f (F j)
      → Right n Ps Os S A B (λ g. routed_step (h g.params) i (f g))
      (function_run F (routed_function S A D B i r j))

  -- functions js do the steps of members, each on what it is given: so `parB` of them does all
  abbrev pub RoutedParLaw : (ℕ → Linked) → Type 0
  RoutedParLaw F = (Ss : List Shape) (A B : TypeTree) (js : List ℕ) (h : List Datum → Datum → Datum)
      (fs : List (Given → Stepper)) → length js ≤ n B → n B < 2 ^ 32
      → MembersRight n Ps Os F A B js Ss (routed_steps h 0 fs)
      → Right n Ps Os (members_shape Ss) A (list_ty B)
      (λ g. par_step (routed (h g.params) 0 (map (λ f. f g) fs)))
      (function_run F (par_function n Ps Os Ss A B js))
