-- What the functions of code work on.
use Rattle.std.specs.Prelude.{ℕ, List, Option, Some, None}
use Rattle.sample_core.specs.TypeTree.{TypeTree, unit_ty}

-- the types of a function's parameters, the functions of the frozen networks in its scope, the types
-- of its input, its answer and its statements' values, and of the value that it keeps itself
pub record Layout : Type 0 where
  pub params : List TypeTree
  pub olds : List ℕ
  pub input : TypeTree
  pub output : TypeTree
  pub values : List TypeTree
  pub kept : Option TypeTree

-- with these
abbrev pub layout : List TypeTree → List ℕ → TypeTree → TypeTree → List TypeTree → Option TypeTree
    → Layout
layout Ps Os A B Ts K =
    record { params = Ps; olds = Os; input = A; output = B; values = Ts; kept = K }

-- the type, if there is one
abbrev pub type_or_unit : Option TypeTree → TypeTree
type_or_unit None = unit_ty
type_or_unit (Some T) = T

-- the type of the value that a function keeps itself
abbrev pub kept_type : Layout → TypeTree
kept_type L = type_or_unit L.kept
