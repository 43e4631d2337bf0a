-- Which values are of which type.
use Rattle.std.specs.Prelude.{ℤ, Bool, FitsSigned, List, [], ◌∷◌}
use Rattle.std.specs.Int.{w64}
use Rattle.sample_core.specs.Datum.{Datum, Datums, unit, bool, int, pair, no_event, event, list, end, more}
use Rattle.sample_core.specs.TypeTree.{TypeTree, unit_ty, bool_ty, int_ty, pair_ty, event_ty, list_ty}

mutual
  -- a value is of a type: a number has 64 bits, signed; no event and the empty list are of every
  -- event and list type
  pub data HasType : Datum → TypeTree → Type 0 where
    unit_has : HasType unit unit_ty
    bool_has : {b : Bool} → HasType (bool b) bool_ty
    int_has : {n : ℤ} → FitsSigned w64 n → HasType (int n) int_ty
    pair_has : {v w : Datum} {A B : TypeTree} → HasType v A → HasType w B
        → HasType (pair v w) (pair_ty A B)
    no_event_has : {A : TypeTree} → HasType no_event (event_ty A)
    event_has : {v : Datum} {A : TypeTree} → HasType v A → HasType (event v) (event_ty A)
    list_has : {vs : Datums} {A : TypeTree} → HaveType vs A → HasType (list vs) (list_ty A)

  -- each element is of the type
  pub data HaveType : Datums → TypeTree → Type 0 where
    end_has : {A : TypeTree} → HaveType end A
    more_has : {v : Datum} {vs : Datums} {A : TypeTree} → HasType v A → HaveType vs A
        → HaveType (more v vs) A

-- values under types, one by one
pub data TypedParams : List TypeTree → List Datum → Type 0 where
  no_params : TypedParams [] []
  and_param : {A : TypeTree} {Ps : List TypeTree} {v : Datum} {ps : List Datum} → HasType v A
      → TypedParams Ps ps → TypedParams (A ∷ Ps) (v ∷ ps)
