-- A file as it grows, a function of the code after the other.
use Rattle.std.specs.Prelude.{◌≡◌, suc, Bool, true, false, List, [], ◌∷◌, ◌++◌, map, length}
use Rattle.sample_core.specs.TypeTree.{TypeTree}
use Rattle.sample_core.specs.TypeView.{type_of}
use Rattle.leaf_code.specs.Fitting.{Bounds}
use Rattle.code_fits.specs.Tables.{bound_of}
use Rattle.code_fits.specs.Layouts.{Layout}
use Rattle.c_meaning.specs.Object.{CType}
use Rattle.c_text.specs.declared.tree.Function.{Function}
use Rattle.c_text.specs.Meant.{function_meant, structs_meant, type_meant}
use Rattle.c_file.specs.FunctionC.{Callee}
use Rattle.c_meaning.specs.Syntax as C
use Rattle.c_file.specs.ProgramC.{Printed, checked_step, init_function, state_type, step_function}
use Rattle.c_file.specs.Guarded.{and_guarded}
use Rattle.c_build.specs.declared.types.Known.{Known}
use Rattle.c_build.specs.declared.growing.Setting.{Setting}
use Rattle.c_build.specs.declared.frame.Called.{Called}
use Rattle.c_build.specs.declared.ends.Whole.{Whole}
use Rattle.c_build.specs.Frames.{AreCallees, IsCallee}

-- functions, and what is known of those of the code, are of a file
pub record IsGrown (Ts : List CType) (n : Bounds) (s : Printed) (fs : List Function) (rs : List Called)
    : Type 0 where
  pub file : map (function_meant Ts) fs ≡ s.file
  pub callees : AreCallees Ts n s.callees rs

-- the structs and the bounds of types; those of a setting, and its compared types
abbrev pub known_structs : Known → List CType
known_structs k = structs_meant k.table.structs.now

abbrev pub known_limits : Known → Bounds
known_limits k = bound_of k.types.now k.bounds.now

abbrev pub structs_in : Setting → List CType
structs_in s = known_structs s.known

abbrev pub limits_in : Setting → Bounds
limits_in s = known_limits s.known

abbrev pub compared_by : Setting → List TypeTree
compared_by s = map type_of s.compared.now

-- earlier functions go from their layouts' inputs, one by one
abbrev pub FromInputs : List Callee → List Layout → Type 0
FromInputs [] Ls = Unit {0}
FromInputs (c ∷ cs) [] = ⊥
FromInputs (c ∷ cs) (L ∷ Ls) = (c.input ≡ L.input) × FromInputs cs Ls

-- a whole network is a function of the code, with its input's type and the struct of the state
pub record IsWhole (Ts : List CType) (n : Bounds) (c : Callee) (w : Whole) : Type 0 where
  pub callee : IsCallee Ts n c w.called
  pub input : type_of w.input ≡ c.input
  pub state : type_meant Ts w.state ≡ state_type n c.shape

-- a file with the functions that a program calls behind it
abbrev pub ended : Bool → Bounds → Callee → C.File → C.File
ended true n c a = a ++ init_function n c.shape ∷ step_function n c ∷ []
ended false n c a =
    and_guarded n c (suc (length a)) (a ++ init_function n c.shape ∷ checked_step n c ∷ [])
