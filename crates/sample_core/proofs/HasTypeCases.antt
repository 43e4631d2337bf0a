-- Typing by cases.
use Rattle.std.proofs.Common.{◌↔◌}
use Rattle.sample_core.specs.Datum.{Datum, Datums, pair, event, list, more}
use Rattle.sample_core.specs.TypeTree.{TypeTree, pair_ty, event_ty, list_ty}
use Rattle.sample_core.specs.HasType.{HasType, HaveType, pair_has, event_has, list_has, more_has}

pub pair_is : (v w : Datum) (A B : TypeTree) → HasType (pair v w) (pair_ty A B) ↔ (HasType v A × HasType w B)
pair_is v w A B = (pair_parts, λ h. pair_has h.0 h.1)
  where
    pair_parts : HasType (pair v w) (pair_ty A B) → HasType v A × HasType w B
    pair_parts (pair_has h k) = (h, k)

pub event_is : (v : Datum) (A : TypeTree) → HasType (event v) (event_ty A) ↔ HasType v A
event_is v A = (event_part, event_has)
  where
    event_part : HasType (event v) (event_ty A) → HasType v A
    event_part (event_has h) = h

pub list_is : (vs : Datums) (A : TypeTree) → HasType (list vs) (list_ty A) ↔ HaveType vs A
list_is vs A = (elements_of, list_has)
  where
    elements_of : HasType (list vs) (list_ty A) → HaveType vs A
    elements_of (list_has h) = h

pub more_is : (v : Datum) (vs : Datums) (A : TypeTree) → HaveType (more v vs) A ↔ (HasType v A × HaveType vs A)
more_is v vs A = (parts, λ h. more_has h.0 h.1)
  where
    parts : HaveType (more v vs) A → HasType v A × HaveType vs A
    parts (more_has h k) = (h, k)
