-- What a type of the code is as a tree.
use Rattle.sample_core.specs.TypeTree.{TypeTree, unit_ty, bool_ty, int_ty, pair_ty, event_ty, list_ty}
use Rattle.sample_core.specs.declared.ty.Ty.{Ty}
use Rattle.sample_core.specs.declared.ty.Ty.TheVariants as V

-- the type that a `Ty` is
abbrev pub type_of : Ty → TypeTree
type_of V.Unit = unit_ty
type_of V.Bool = bool_ty
type_of V.Int = int_ty
type_of (V.Pair A B) = pair_ty A B
type_of (V.Event A) = event_ty A
type_of (V.List A) = list_ty A
