-- What is built of a function of the code.
use Rattle.std.specs.Prelude.{◌≡◌, ℕ, List, map}
use Rattle.sample_core.specs.TypeTree.{TypeTree, int_ty, list_ty, pair_ty, event_ty}
use Rattle.sample_core.specs.TypeView.{type_of}
use Rattle.sample_core.specs.declared.ty.Ty.{Ty}
use Rattle.leaf_code.specs.CodeOf.{left_type}
use Rattle.net_code.specs.declared.statement.Function as N
use Rattle.code_fits.specs.Layouts.{kept_type}
use Rattle.c_meaning.specs.Syntax as C
use Rattle.c_text.specs.declared.tree.CType as Y
use Rattle.c_text.specs.declared.tree.CType.TheVariants as T
use Rattle.c_text.specs.declared.tree.Function as V
use Rattle.c_text.specs.Meant.{function_meant}
use Rattle.c_leaf.specs.LeafC.{is_struct}
use Rattle.c_forms.specs.Keeping.{Shape}
use Rattle.c_file.specs.Compared.{number_among}
use Rattle.c_file.specs.FunctionC.{Callee, step_c, c_of_function, element_type, number_at}
use Rattle.c_file.specs.ProgramC.{Printed, and_function, callee_of}
use Rattle.c_build.specs.declared.frame.Called.{Called}
use Rattle.c_build.specs.declared.frame.Frame.{Frame}
use Rattle.c_build.specs.declared.parts.Listed.{Listed}
use Rattle.c_build.specs.declared.switches.Restarted.{Restarted}
use Rattle.c_build.specs.declared.switches.Switched.{Switched}
use Rattle.c_build.specs.declared.freezing.Freezing.{Freezing}
use Rattle.c_build.specs.declared.collection.Gathering.{Gathering}
use Rattle.c_build.specs.Scopes.{table, IsType, IsShape}
use Rattle.c_build.specs.Frames.{IsCallee, bounds_in, layout_in}

-- a type of C in a frame: of values of a type; of what a function keeps
abbrev pub TypeIn : Frame → Y.CType → TypeTree → Type 0
TypeIn f A T = IsType f.scope (bounds_in f) A T

abbrev pub KeptIn : Frame → Y.CType → Shape → Type 0
KeptIn f A S = IsShape f.scope (bounds_in f) A S

-- a C function in a frame, and several
abbrev pub function_in : Frame → V.Function → C.Function
function_in f r = function_meant (table f.scope) r

abbrev pub functions_in : Frame → List V.Function → List C.Function
functions_in f rs = map (function_meant (table f.scope)) rs

-- the step of a function of the code whose expressions are functions k and the next, in a frame with the
-- earlier functions cs
abbrev pub step_in : Frame → List Callee → ℕ → N.Function → C.Function
step_in f cs k g = step_c cs (layout_in f) (bounds_in f) k g

-- all C functions of a function of the code, behind k others; these types are compared by functions
abbrev pub all_in : Frame → List Ty → List Callee → ℕ → N.Function → List C.Function
all_in f Ts cs k g = c_of_function (bounds_in f) (number_among (map type_of Ts)) cs (layout_in f) k g

-- the types of C of lists are those of lists of a type
pub record IsListed (f : Frame) (A : TypeTree) (l : Listed) : Type 0 where
  pub element : TypeIn f (T.One l.element) A
  pub list : TypeIn f l.list (list_ty A)
  pub room : l.room ≡ bounds_in f A

-- the types of a switch are those of its layout
pub record IsSwitched (f : Frame) (t : Switched) : Type 0 where
  pub beside : TypeIn f t.beside (pair_ty (layout_in f).output (event_ty (kept_type (layout_in f))))
  pub answer : TypeIn f t.answer (layout_in f).output

-- those of a switch that freezes function j, which function e watches, until function t takes over
pub record IsFreezing (f : Frame) (cs : List Callee) (j e t : ℕ) (s : Freezing) : Type 0 where
  pub answer : TypeIn f s.answer (layout_in f).output
  pub both : TypeIn f s.both (pair_ty (layout_in f).input (layout_in f).output)
  pub event : TypeIn f s.event (event_ty (kept_type (layout_in f)))
  pub front : s.front ≡ j
  pub watcher : s.watcher ≡ number_at cs e
  pub taker : s.taker ≡ number_at cs t

-- those of a collection, whose choice is function k, and whose members that a value starts are function t
pub record IsGathered (f : Frame) (cs : List Callee) (k t : ℕ) (g : Gathering) : Type 0 where
  pub chosen : TypeIn f g.chosen (pair_ty (list_ty int_ty) (list_ty (kept_type (layout_in f))))
  pub answer : TypeIn f g.answer (element_type (layout_in f).output)
  pub answers : TypeIn f g.answers (list_ty (element_type (layout_in f).output))
  pub chooser : g.chooser ≡ k
  pub taker : g.taker ≡ number_at cs t
  pub named : bounds_in f int_ty ≡ g.named
  pub values : bounds_in f (kept_type (layout_in f)) ≡ g.values

-- the types of a switch that starts anew are those of its layout
pub record IsRestarted (f : Frame) (t : Restarted) : Type 0 where
  pub left : TypeIn f t.left (left_type (layout_in f).input)
  pub is_struct : t.is_struct ≡ is_struct (left_type (layout_in f).input)
  pub answer : TypeIn f t.answer (layout_in f).output

-- what a file has of a function more, behind those there
pub record IsPushed (f : Frame) (Ts : List Ty) (s : Printed) (g : N.Function) (rs : List V.Function)
    (r : Called) : Type 0 where
  pub functions : functions_in f rs ≡ (and_function (bounds_in f) (number_among (map type_of Ts)) s (layout_in f) g).file
  pub callee : IsCallee (table f.scope) (bounds_in f)
      (callee_of (bounds_in f) (number_among (map type_of Ts)) s (layout_in f) g) r
