-- Which C objects represent which values.
use Rattle.std.specs.Prelude.{◌≡◌, ◌<◌, ◌^◌, ℕ, suc, ℤ, pos, Bool, true, false, FitsSigned, List, [], ◌∷◌, length}
use Rattle.std.specs.Int.{w64}
use Rattle.sample_core.specs.Datum.{Datum, Datums, unit, bool, int, pair, no_event, event, list, end, more, elements}
use Rattle.sample_core.specs.TypeTree.{TypeTree, unit_ty, bool_ty, int_ty, pair_ty, event_ty, list_ty}
use Rattle.leaf_code.specs.Fitting.{Bounds}
use Rattle.c_meaning.specs.Object.{CType, truth_type, number_type, no_member, member, array, u8, i64, u32, Object, truth, number, has_type, each_has}
use Rattle.c_meaning.specs.Object as C

-- a struct of two members
abbrev pub two : Object → Object → Object
two a b = C.more a (C.more b C.end)

abbrev pub two_types : CType → CType → CType
two_types A B = member A (member B no_member)

-- the C type of a type
abbrev pub c_type : Bounds → TypeTree → CType
c_type n unit_ty = number_type u8
c_type n bool_ty = truth_type
c_type n int_ty = number_type i64
c_type n (pair_ty A B) = two_types (c_type n A) (c_type n B)
c_type n (event_ty A) = two_types truth_type (c_type n A)
c_type n (list_ty A) = two_types (number_type u32) (array (n A) (c_type n A))

mutual
  pub data Represents (n : TypeTree → ℕ) : TypeTree → Datum → Object → Type 0 where
    c_unit : Represents n unit_ty unit (number u8 (pos 0))
    c_bool : {b : Bool} → Represents n bool_ty (bool b) (truth b)
    c_int : {z : ℤ} → FitsSigned w64 z → Represents n int_ty (int z) (number i64 z)
    c_pair : {A B : TypeTree} {v w : Datum} {o p : Object} → Represents n A v o → Represents n B w p
        → Represents n (pair_ty A B) (pair v w) (two o p)
    -- what no event carries does not matter
    c_no_event : {A : TypeTree} {o : Object} → has_type (c_type n A) o ≡ true
        → Represents n (event_ty A) no_event (two (truth false) o)
    c_event : {A : TypeTree} {v : Datum} {o : Object} → Represents n A v o
        → Represents n (event_ty A) (event v) (two (truth true) o)
    c_list : {A : TypeTree} {vs : Datums} {k : ℕ} {o : Object} → k ≡ length (elements vs)
        → k < 2 ^ 32 → AllRepresent n A (n A) vs o
        → Represents n (list_ty A) (list vs) (two (number u32 (pos k)) o)

  -- elements represent values; what stands behind them does not matter
  pub data AllRepresent (n : TypeTree → ℕ) : TypeTree → ℕ → Datums → Object → Type 0 where
    c_end : {A : TypeTree} {m : ℕ} {o : Object} → each_has (has_type (c_type n A)) m o ≡ true
        → AllRepresent n A m end o
    c_more : {A : TypeTree} {m : ℕ} {v : Datum} {vs : Datums} {o os : Object} → Represents n A v o
        → AllRepresent n A m vs os → AllRepresent n A (suc m) (more v vs) (C.more o os)

-- objects represent values, one by one
pub data Registers (n : TypeTree → ℕ) : List TypeTree → List Datum → List Object → Type 0 where
  no_register : Registers n [] [] []
  and_register : {A : TypeTree} {As : List TypeTree} {v : Datum} {vs : List Datum} {o : Object}
      {os : List Object} → Represents n A v o → Registers n As vs os
      → Registers n (A ∷ As) (v ∷ vs) (o ∷ os)
