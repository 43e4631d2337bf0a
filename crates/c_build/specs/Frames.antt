-- What a function of the code is built in.
use Rattle.std.specs.Prelude.{◌≡◌, List, [], ◌∷◌, ◌++◌, map}
use Rattle.sample_core.specs.TypeTree.{TypeTree}
use Rattle.leaf_code.specs.Fitting.{Bounds}
use Rattle.code_fits.specs.Layouts.{Layout}
use Rattle.code_fits.specs.Tables.{layout_of, bound_of}
use Rattle.c_text.specs.declared.tree.CType as Y
use Rattle.c_text.specs.declared.tree.CType.TheVariants as T
use Rattle.c_text.specs.declared.tree.Base.TheVariants as B
use Rattle.c_text.specs.declared.tree.Scalar.TheVariants as S
use Rattle.c_text.specs.declared.tree.Param.{Param}
use Rattle.c_text.specs.declared.tree.Param.TheVariants as Q
use Rattle.c_text.specs.Meant.{type_meant}
use Rattle.c_meaning.specs.Object.{CType, number_type, i64}
use Rattle.c_meaning.specs.Syntax.{Command, const_param, value_param, pointer_param}
use Rattle.c_meaning.specs.Syntax as C
use Rattle.c_leaf.specs.Representing.{c_type}
use Rattle.c_leaf.specs.LeafC.{const_params}
use Rattle.c_forms.specs.Keeping.{Shape, shape_type}
use Rattle.c_forms.specs.Standing.{old_params}
use Rattle.c_file.specs.FunctionC.{Callee}
use Rattle.c_file.specs.FunctionC as K
use Rattle.c_build.specs.declared.frame.Called.{Called}
use Rattle.c_build.specs.declared.frame.Frame.{Frame}
use Rattle.c_build.specs.Scopes.{table, Counts}
use Rattle.c_build.specs.Types.{Typed}

-- what is known of a function of the code is of what the file has of it
pub record IsCallee (Ts : List CType) (n : Bounds) (c : Callee) (r : Called) : Type 0 where
  pub number : r.number ≡ c.number
  pub kept : type_meant Ts r.kept ≡ shape_type n c.shape
  pub input : type_meant Ts r.input ≡ c_type n c.input
  pub output : type_meant Ts r.output ≡ c_type n c.output

-- the same of all, one by one
abbrev pub AreCallees : List CType → Bounds → List Callee → List Called → Type 0
AreCallees Ts n [] [] = Unit {0}
AreCallees Ts n (c ∷ cs) (r ∷ rs) = IsCallee Ts n c r × AreCallees Ts n cs rs
AreCallees Ts n _ _ = ⊥

-- the bounds and the layout of a frame
abbrev pub bounds_in : Frame → Bounds
bounds_in f = bound_of f.types.now f.bounds.now

abbrev pub layout_in : Frame → Layout
layout_in f = layout_of f.types.now f.layout.now

-- a frame has the earlier functions cs, and its layout's parameters and frozen networks in scope
pub record Stands (f : Frame) (cs : List Callee) : Type 0 where
  pub typed : Typed (table f.scope) f.types.now f.bounds.now f.all.now
  pub callees : AreCallees (table f.scope) (bounds_in f) cs f.callees.now
  pub params : map (type_meant (table f.scope)) f.scope.params.now ≡ map (c_type (bounds_in f)) (layout_in f).params
  pub olds : map (type_meant (table f.scope)) f.scope.olds.now ≡ map (shape_type (bounds_in f)) (K.olds cs (layout_in f))
  pub counts : Counts f.scope (layout_in f).params (K.olds cs (layout_in f))

-- the C function of a step
abbrev pub step_of : Bounds → List TypeTree → List Shape → CType → CType → CType → Command → C.Function
step_of n Ps Os s a b c = record {
  params = pointer_param s ∷ value_param (number_type i64) ∷ const_param a ∷ const_params n Ps
      ++ old_params n Os;
  result = b;
  body = c;
}

-- parameters by pointer; frozen networks, each with its moment
abbrev pub const_rows : List Y.CType → List Param
const_rows As = map (λ A. Q.Const A) As

abbrev pub old_rows : List Y.CType → List Param
old_rows [] = []
old_rows (A ∷ As) = Q.Const A ∷ Q.Value (T.One (B.Number S.Int64)) ∷ old_rows As

-- what a step that is called from outside is passed
abbrev pub handed_rows : Y.CType → Called → List Param
handed_rows A r =
    Q.Pointer A ∷ Q.Value (T.One (B.Number S.Int64)) ∷ Q.Const r.input ∷ Q.Pointer r.output ∷ []
