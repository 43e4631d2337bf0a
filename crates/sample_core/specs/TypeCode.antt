-- The code of a type, by which the check tells types apart.
use Rattle.std.specs.Prelude.{◌≡◌, ℕ, zero, suc, refl}
use Rattle.std.proofs.Common.{ap}
use Rattle.std.specs.Coded.{Coded, code_by}
use base.Stored.{Gv, gnil, gnum, gcons, num}
use denote.Struct.Codes.{itself}
use Rattle.sample_core.specs.TypeTree.{TypeTree, unit_ty, bool_ty, int_ty, pair_ty, event_ty, list_ty}

-- a type's code: the number of its form, and then its parts
abbrev pub to_code : TypeTree → Gv
to_code unit_ty = gcons (gnum 0) (gcons gnil gnil)
to_code bool_ty = gcons (gnum 1) (gcons gnil gnil)
to_code int_ty = gcons (gnum 2) (gcons gnil gnil)
to_code (pair_ty t u) = gcons (gnum 3) (gcons (to_code t) (to_code u))
to_code (event_ty t) = gcons (gnum 4) (gcons (to_code t) gnil)
to_code (list_ty t) = gcons (gnum 5) (gcons (to_code t) gnil)

-- the type of the form with that number, from the parts given
abbrev pub type_of_form : ℕ → TypeTree → TypeTree → TypeTree
type_of_form zero t u = unit_ty
type_of_form (suc zero) t u = bool_ty
type_of_form (suc (suc zero)) t u = int_ty
type_of_form (suc (suc (suc zero))) t u = pair_ty t u
type_of_form (suc (suc (suc (suc zero)))) t u = event_ty t
type_of_form (suc (suc (suc (suc (suc k))))) t u = list_ty t

-- the type that a code stands for
abbrev pub of_code : Gv → TypeTree
of_code gnil = unit_ty
of_code (gnum n) = unit_ty
of_code (gcons t gnil) = unit_ty
of_code (gcons t (gnum n)) = unit_ty
of_code (gcons t (gcons a b)) = type_of_form (num t) (of_code a) (of_code b)

-- a type's code stands for that type
pub of_code-to_code : (t : TypeTree) → of_code (to_code t) ≡ t
of_code-to_code unit_ty = refl
of_code-to_code bool_ty = refl
of_code-to_code int_ty = refl
of_code-to_code (pair_ty t u) = λ i. pair_ty (of_code-to_code t i) (of_code-to_code u i)
of_code-to_code (event_ty t) = ap event_ty (of_code-to_code t)
of_code-to_code (list_ty t) = ap list_ty (of_code-to_code t)

-- types told apart by their codes
abbrev pub type_code : Coded TypeTree
type_code = code_by Gv itself to_code of_code of_code-to_code
