-- Types of C that stand for the types of a program.
use Rattle.std.specs.Prelude.{◌≡◌, ℕ, List, slice_get, Some}
use Rattle.code_fits.specs.declared.types.Types.{Types}
use Rattle.code_fits.specs.Tables.{tree_at, bound_of, TableHolds}
use Rattle.c_text.specs.declared.tree.CType as Y
use Rattle.c_text.specs.Meant.{type_meant}
use Rattle.c_meaning.specs.Object.{CType}
use Rattle.c_leaf.specs.Representing.{c_type}

-- each entry of a program's table is its tree; and types of C are of its types, one by one
pub record Typed (Ts : List CType) (ts : Types) (ns : List ℕ) (Cs : List Y.CType) : Type 0 where
  pub table : TableHolds ts
  pub each : (k : ℕ) (T : Y.CType) → slice_get Cs k ≡ Some T
      → type_meant Ts T ≡ c_type (bound_of ts ns) (tree_at ts k)
