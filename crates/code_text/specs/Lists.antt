-- Which types have lists in them.
use Rattle.std.specs.Prelude.{Bool, true, false, ◌||◌}
use Rattle.sample_core.specs.TypeTree.{TypeTree, unit_ty, bool_ty, int_ty, pair_ty, event_ty, list_ty}

abbrev pub has_lists : TypeTree → Bool
has_lists unit_ty = false
has_lists bool_ty = false
has_lists int_ty = false
has_lists (pair_ty A B) = has_lists A || has_lists B
has_lists (event_ty A) = has_lists A
has_lists (list_ty A) = true
