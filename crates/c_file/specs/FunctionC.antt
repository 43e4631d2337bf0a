-- The C of a function of the code: that of its expressions, and its step.
use Rattle.std.specs.Prelude.{ℕ, suc, ◌+◌, List, [], ◌∷◌, ◌++◌, map, length, take, drop, get_or}
use Rattle.sample_core.specs.TypeTree.{TypeTree, unit_ty, int_ty, list_ty}
use Rattle.leaf_code.specs.Fitting.{Bounds}
use Rattle.leaf_code.specs.CodeOf.{left_type, right_type, carried_type}
use Rattle.net_tree.specs.Network.{Timing, at_once, delayed}
use Rattle.cell_core.specs.declared.form.Form.{Form}
use Rattle.cell_core.specs.declared.form.Form.TheVariants as M
use Rattle.net_code.specs.declared.statement.Function.{Function}
use Rattle.net_code.specs.declared.statement.Function.TheVariants as F
use Rattle.code_fits.specs.Layouts.{Layout, kept_type}
use Rattle.c_meaning.specs.Syntax as C
use Rattle.c_leaf.specs.LeafC.{leaf_function, constant_function}
use Rattle.c_forms.specs.Keeping.{Shape, keeps_none, keeps_cell, keeps_both, keeps_fed, keeps_mode, keeps_frozen, keeps_collection}
use Rattle.c_forms.specs.Forms.{arr_function, same_function, seq_function, first_function, loop_function, out_function, in_function}
use Rattle.c_forms.specs.Cells.{i_pre_function, hold_function, accum_function, after_function, repeatedly_function, time_function, integral_function}
use Rattle.c_forms.specs.Delay.{delay_function}
use Rattle.c_forms.specs.Members.{members_shape, par_function}
use Rattle.c_forms.specs.Routing.{routed_function}
use Rattle.c_forms.specs.Collection.{collection_function}
use Rattle.c_forms.specs.Switches.{switch_function, r_switch_function}
use Rattle.c_forms.specs.Freezing.{k_switch_function, p_switch_function, old_function}
use Rattle.c_file.specs.Compared.{Leaf, constant, at_input, leaves_of, code_of_leaf}

-- what a file has of a function of the code: the number of its step's C function, what that keeps, and the
-- types that it goes from and to
pub record Callee : Type 0 where
  pub number : ℕ
  pub shape : Shape
  pub input : TypeTree
  pub output : TypeTree

-- function k of the code; where there is none, nothing that is called
abbrev pub callee_at : List Callee → ℕ → Callee
callee_at cs k =
    get_or cs k (record { number = 0; shape = keeps_none; input = unit_ty; output = unit_ty })

-- the type of a list's elements; a type that is no list's is its own
abbrev pub element_type : TypeTree → TypeTree
element_type (list_ty A) = A
element_type A = A

-- as many numbers as there are here, from k on
abbrev pub numbers_from : ℕ → List ℕ → List ℕ
numbers_from k [] = []
numbers_from k (j ∷ js) = k ∷ numbers_from (suc k) js

-- cs: the earlier functions of the code; L: what a function works on
module _ (cs : List Callee) where
  abbrev pub number_at : ℕ → ℕ
  number_at k = (callee_at cs k).number

  abbrev pub shape_at : ℕ → Shape
  shape_at k = (callee_at cs k).shape

  module _ (L : Layout) where
    -- what the frozen networks in scope keep; the type of value k
    abbrev pub olds : List Shape
    olds = map shape_at L.olds

    abbrev pub value : ℕ → TypeTree
    value k = get_or L.values k unit_ty

    -- what a function keeps
    abbrev pub shape_of : Function → Shape
    shape_of (F.Seq f g) = keeps_both (shape_at f) (shape_at g)
    shape_of (F.First f) = shape_at f
    shape_of (F.Par fs) = members_shape (map shape_at fs.items)
    shape_of (F.Loop c f) = keeps_fed (kept_type L) (shape_at f)
    shape_of (F.Cell form c) = keeps_cell form (kept_type L)
    shape_of (F.Clock form) = keeps_cell form int_ty
    shape_of (F.Accum g z) = keeps_cell M.AccumBy (kept_type L)
    shape_of (F.Switch f t) = keeps_mode (kept_type L) (shape_at f) (shape_at t)
    shape_of (F.DSwitch f t) = keeps_mode (kept_type L) (shape_at f) (shape_at t)
    shape_of (F.RSwitch f t) = keeps_mode (kept_type L) (shape_at f) (shape_at t)
    shape_of (F.DrSwitch f t) = keeps_mode (kept_type L) (shape_at f) (shape_at t)
    shape_of (F.KSwitch f e t) =
        keeps_mode (kept_type L) (keeps_both (shape_at f) (shape_at e))
        (keeps_frozen (shape_at f) (shape_at t))
    shape_of (F.PSwitch r fs e t) =
        keeps_mode (kept_type L) (keeps_both (members_shape (map shape_at fs.items)) (shape_at e))
        (keeps_frozen (members_shape (map shape_at fs.items)) (shape_at t))
    shape_of (F.Old i f a b) = shape_at f
    shape_of (F.InitialOut c f) = shape_at f
    shape_of (F.InitialIn c f) = shape_at f
    shape_of (F.Collection fs m t) =
        keeps_collection (kept_type L) (members_shape (map shape_at fs.items)) (shape_at t)
    shape_of _ = keeps_none

    module _ (n : Bounds) where
      -- a function that answers its input
      abbrev pub same_c : C.Function
      same_c = same_function n L.params olds L.input

      -- the step of a cell, from a constant on, which function k answers
      abbrev pub cell_c : Form → ℕ → C.Function
      cell_c M.IPre k = i_pre_function n L.params olds (kept_type L) k
      cell_c (M.Delay q) k = delay_function n L.params olds q (kept_type L) k
      cell_c M.Hold k = hold_function n L.params olds (kept_type L) k
      cell_c (M.After q) k = after_function n L.params olds q (kept_type L) L.input k
      cell_c (M.Repeatedly q) k = repeatedly_function n L.params olds q (kept_type L) L.input k
      cell_c _ k = same_c

      -- the step of a cell without a constant
      abbrev pub clock_c : Form → C.Function
      clock_c M.Time = time_function n L.params olds int_ty L.input
      clock_c M.Integral = integral_function n L.params olds int_ty
      clock_c _ = same_c

      -- the step of a switch of functions f and t, and of one that starts t anew at each event
      abbrev pub switch_c : Timing → ℕ → ℕ → C.Function
      switch_c tm f t =
          switch_function n L.params olds tm (shape_at f) (shape_at t) L.input L.output (kept_type L)
          (number_at f) (number_at t)

      abbrev pub r_switch_c : Timing → ℕ → ℕ → C.Function
      r_switch_c tm f t =
          r_switch_function n L.params olds tm (shape_at f) (shape_at t) (left_type L.input) L.output
          (kept_type L) (number_at f) (number_at t)

      -- the members of a `pSwitch` from number i on, each behind the route, which function k answers
      abbrev pub routed_c : ℕ → ℕ → List ℕ → List C.Function
      routed_c k i [] = []
      routed_c k i (f ∷ fs) =
          routed_function n L.params olds (shape_at f) L.input (callee_at cs f).input
          (element_type L.output) i k (number_at f)
          ∷ routed_c k (suc i) fs

      -- what a function has between its expressions, which are functions k and the next, and its step
      abbrev pub helpers_c : ℕ → Function → List C.Function
      helpers_c k (F.PSwitch r fs e t) =
          routed_c k 0 fs.items
          ++ par_function n L.params olds (map shape_at fs.items) L.input (element_type L.output)
          (numbers_from (suc k) fs.items)
          ∷ []
      helpers_c k _ = []

      -- the step of a function, whose expressions are functions k and the next
      abbrev pub step_c : ℕ → Function → C.Function
      step_c k (F.Arr e) = arr_function n L.params olds L.input L.output k
      step_c k (F.Seq f g) =
          seq_function n L.params olds (shape_at f) (shape_at g) L.input (value 0) L.output
          (number_at f) (number_at g)
      step_c k (F.First f) =
          first_function n L.params olds (shape_at f) (value 0) (value 1) (value 2) (number_at f)
      step_c k (F.Par fs) =
          par_function n L.params olds (map shape_at fs.items) L.input (element_type L.output)
          (map number_at fs.items)
      step_c k (F.Loop c f) =
          loop_function n L.params olds (shape_at f) L.input L.output (kept_type L) k (number_at f)
      step_c k (F.Cell form c) = cell_c form k
      step_c k (F.Clock form) = clock_c form
      step_c k (F.Accum g z) =
          accum_function n L.params olds (carried_type L.input) (kept_type L) k (suc k)
      step_c k (F.Switch f t) = switch_c at_once f t
      step_c k (F.DSwitch f t) = switch_c delayed f t
      step_c k (F.RSwitch f t) = r_switch_c at_once f t
      step_c k (F.DrSwitch f t) = r_switch_c delayed f t
      step_c k (F.KSwitch f e t) =
          k_switch_function n L.params olds (shape_at f) (shape_at e) (shape_at t) L.input L.output
          (kept_type L) (number_at f) (number_at e) (number_at t)
      step_c k (F.PSwitch r fs e t) =
          p_switch_function n L.params olds (map shape_at fs.items) (shape_at e) (shape_at t) L.input
          L.output (kept_type L) (suc (k + length fs.items)) (number_at e) (number_at t)
      step_c k (F.Old i f a b) =
          old_function n (take a L.params) (drop a L.params) (take b olds) (drop b olds) (shape_at f)
          L.input L.output i (number_at f)
      step_c k (F.InitialOut c f) =
          out_function n L.params olds (shape_at f) L.input L.output k (number_at f)
      step_c k (F.InitialIn c f) =
          in_function n L.params olds (shape_at f) L.input L.output k (number_at f)
      step_c k (F.Collection fs m t) =
          collection_function n L.params olds (map shape_at fs.items) (shape_at t) (left_type L.input)
          (element_type L.output) (kept_type L) (carried_type (right_type L.input))
          (map number_at fs.items) k (number_at t)
      step_c k F.Same = same_c

-- h: the numbers of the functions that compare values with lists
module _ (n : Bounds) (h : TypeTree → ℕ) where
  -- an expression's function, under parameters of types Ps
  abbrev pub leaf_c : List TypeTree → Leaf → C.Function
  leaf_c Ps (constant e) = constant_function n h Ps (code_of_leaf Ps (constant e))
  leaf_c Ps (at_input A e) = leaf_function n h Ps A (code_of_leaf Ps (at_input A e))

  -- what stands before the step of a function of the code, which stands behind k others
  abbrev pub before_step : List Callee → Layout → ℕ → Function → List C.Function
  before_step cs L k f = map (leaf_c L.params) (leaves_of L f) ++ helpers_c cs L n k f

  -- all of the function
  abbrev pub c_of_function : List Callee → Layout → ℕ → Function → List C.Function
  c_of_function cs L k f = before_step cs L k f ++ step_c cs L n k f ∷ []
