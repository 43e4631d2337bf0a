-- What a function's lines are built under.
use Rattle.std.specs.Prelude.{◌≡◌, List, length}
use Rattle.sample_core.specs.TypeTree.{TypeTree}
use Rattle.leaf_code.specs.Fitting.{Bounds}
use Rattle.c_text.specs.Meant.{type_meant, structs_meant}
use Rattle.c_text.specs.declared.tree.CType as Y
use Rattle.c_meaning.specs.Object.{CType}
use Rattle.c_leaf.specs.Representing.{c_type}
use Rattle.c_forms.specs.Keeping.{Shape, shape_type}
use Rattle.c_build.specs.declared.sym.Sym.{Sym}
use Rattle.c_build.specs.declared.scope.Scope.{Scope}
use Rattle.c_build.specs.Symbols.{Stacks, built}

-- the structs of a scope as types; what symbols build over them
abbrev pub table : Scope → List CType
table s = structs_meant s.table.structs.now

abbrev pub made : Scope → List Sym → Stacks
made s xs = built (table s) xs

-- a type of C is one of values; of what a function keeps
abbrev pub IsType : Scope → Bounds → Y.CType → TypeTree → Type 0
IsType s n T A = type_meant (table s) T ≡ c_type n A

abbrev pub IsShape : Scope → Bounds → Y.CType → Shape → Type 0
IsShape s n T S = type_meant (table s) T ≡ shape_type n S

-- a scope has so many parameters and frozen networks as there are types and shapes
pub record Counts (s : Scope) (Ps : List TypeTree) (Os : List Shape) : Type 0 where
  pub params : length Ps ≡ length s.params.now
  pub olds : length Os ≡ length s.olds.now
