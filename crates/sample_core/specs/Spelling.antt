-- The one spelling of a value, and of a type.
use Rattle.std.specs.Prelude.{ℕ, List, [], ◌++◌, codes, true, false}
use Rattle.std.specs.Fmt.{signed_decimal}
use Rattle.sample_core.specs.Datum.{Datum, Datums, unit, bool, int, pair, no_event, event, list, end, more}
use Rattle.sample_core.specs.TypeTree.{TypeTree, unit_ty, bool_ty, int_ty, pair_ty, event_ty, list_ty}

abbrev mutual
  -- the bytes of a value: a number is '0', or an optional '-' and digits of which the first is not
  -- 0
  pub spelling : Datum → List ℕ
  spelling unit = codes "unit"
  spelling (bool true) = codes "true"
  spelling (bool false) = codes "false"
  spelling (int n) = signed_decimal n
  spelling (pair v w) = codes "(pair " ++ (spelling v ++ (codes " " ++ (spelling w ++ codes ")")))
  spelling no_event = codes "none"
  spelling (event v) = codes "(event " ++ (spelling v ++ codes ")")
  spelling (list vs) = codes "(list" ++ (spellings vs ++ codes ")")

  -- each element with a space before it
  pub spellings : Datums → List ℕ
  spellings end = []
  spellings (more v vs) = codes " " ++ (spelling v ++ spellings vs)

-- the bytes of a type
abbrev pub type_spelling : TypeTree → List ℕ
type_spelling unit_ty = codes "Unit"
type_spelling bool_ty = codes "Bool"
type_spelling int_ty = codes "Int"
type_spelling (pair_ty A B) = codes "(Pair "
    ++ (type_spelling A ++ (codes " " ++ (type_spelling B ++ codes ")")))
type_spelling (event_ty A) = codes "(Event " ++ (type_spelling A ++ codes ")")
type_spelling (list_ty A) = codes "(List " ++ (type_spelling A ++ codes ")")
