-- The C of a program: a file.
use Rattle.std.specs.Prelude.{ℕ, suc, pos, ◌+◌, ◌-◌, true, List, [], ◌∷◌, ◌++◌, map, length}
use Rattle.sample_core.specs.TypeTree.{TypeTree}
use Rattle.leaf_code.specs.Fitting.{Bounds}
use Rattle.net_code.specs.declared.statement.Function.{Function}
use Rattle.code_fits.specs.declared.layout.Program.{Program}
use Rattle.code_fits.specs.Layouts.{Layout}
use Rattle.code_fits.specs.Tables.{layout_of, bound_of}
use Rattle.c_meaning.specs.Object.{CType, truth_type, number_type, no_member, i64}
use Rattle.c_meaning.specs.Syntax.{Term, local, dot, boolean, literal, zeroed, none, choice, value_param, const_param, pointer_param, by_value, by_const, by_pointer, Command, sequence, define, assign, call, answer}
use Rattle.c_meaning.specs.Syntax as C
use Rattle.c_leaf.specs.Representing.{c_type, two_types}
use Rattle.c_leaf.specs.LeafC.{same_function}
use Rattle.c_forms.specs.Keeping.{Shape, shape_type}
use Rattle.c_forms.specs.Forms.{lines}
use Rattle.c_forms.specs.Checked.{checked_function}
use Rattle.c_file.specs.Compared.{number_among, with_functions}
use Rattle.c_file.specs.FunctionC.{Callee, callee_at, shape_of, before_step, c_of_function}

-- a file as it grows, and what it has of each function of the code
pub record Printed : Type 0 where
  pub file : C.File
  pub callees : List Callee

module _ (n : Bounds) (h : TypeTree → ℕ) where
  -- what a file gets of a function: its step is the last
  abbrev pub callee_of : Printed → Layout → Function → Callee
  callee_of s L f = record {
    number = length s.file + length (before_step n h s.callees L (length s.file) f);
    shape = shape_of s.callees L f;
    input = L.input;
    output = L.output;
  }

  -- with a function more
  abbrev pub and_function : Printed → Layout → Function → Printed
  and_function s L f = record {
    file = s.file ++ c_of_function n h s.callees L (length s.file) f;
    callees = s.callees ++ callee_of s L f ∷ [];
  }

  -- with functions more
  abbrev pub and_functions : Printed → List Function → List Layout → Printed
  and_functions s [] Ls = s
  and_functions s (f ∷ fs) [] = s
  and_functions s (f ∷ fs) (L ∷ Ls) = and_functions (and_function s L f) fs Ls

-- `struct { bool started; struct S s; }`
abbrev pub state_type : Bounds → Shape → CType
state_type n S = two_types truth_type (shape_type n S)

-- `void init(struct state *state)`: a state of zeros
abbrev pub init_function : Bounds → Shape → C.Function
init_function n S = record {
  params = pointer_param (state_type n S) ∷ [];
  result = no_member;
  body = sequence (assign (local 0) (zeroed (state_type n S))) (answer none);
}

-- `void step(struct state *state, int64_t dt, const A *input, B *output)`: function j does a step, of which
-- the first has no dt
abbrev pub step_function : Bounds → Callee → C.Function
step_function n c = record {
  params = pointer_param (state_type n c.shape) ∷ value_param (number_type i64)
      ∷ const_param (c_type n c.input) ∷ pointer_param (c_type n c.output) ∷ [];
  result = no_member;
  body = lines
      (define (number_type i64) (choice (dot (local 0) 0) (local 1) (literal i64 (pos 0)))
      ∷ assign (dot (local 0) 0) (boolean true)
      ∷ call (c_type n c.output) c.number
      (by_pointer (dot (local 0) 1) ∷ by_value (local 4) ∷ by_const (local 2) ∷ [])
      ∷ assign (local 3) (local 5)
      ∷ []) (answer none);
}

-- `bool step(..)`: the same, which refuses a dt below 1 after the first sample
abbrev pub checked_step : Bounds → Callee → C.Function
checked_step n c = checked_function n c.shape c.input c.output c.number

module _ (n : Bounds) (fs : List Function) (Ls : List Layout) where
  -- the types whose values are compared
  abbrev pub compared : List TypeTree
  compared = with_functions fs Ls []

  -- the functions that compare them, the first of the file
  abbrev pub comparing : Printed
  comparing = record {
    file = map (same_function n (number_among compared)) compared;
    callees = [];
  }

  -- the functions of the code
  abbrev pub printed : Printed
  printed = and_functions n (number_among compared) comparing fs Ls

  -- the last function of the code, which is the whole network
  abbrev pub whole : Callee
  whole = callee_at printed.callees (length printed.callees - 1)

  -- all of it, and the functions that a program calls: `init`, and this one at each sample
  abbrev pub c_with : C.Function → C.File
  c_with f = printed.file ++ init_function n whole.shape ∷ f ∷ []

  -- with `step`; with one that refuses a dt below 1
  abbrev pub c_of_code : C.File
  c_of_code = c_with (step_function n whole)

  abbrev pub checked_code : C.File
  checked_code = c_with (checked_step n whole)

-- the layouts of a program
abbrev pub layouts_of : Program → List Layout
layouts_of p = map (layout_of p.types) p.layouts.items

-- its functions, and the last one
abbrev pub printed_of : Program → Printed
printed_of p = printed (bound_of p.types p.bounds.items) p.functions.items (layouts_of p)

abbrev pub whole_of : Program → Callee
whole_of p = whole (bound_of p.types p.bounds.items) p.functions.items (layouts_of p)

-- the C of a program
abbrev pub c_of_program : Program → C.File
c_of_program p = c_of_code (bound_of p.types p.bounds.items) p.functions.items (layouts_of p)

abbrev pub checked_program : Program → C.File
checked_program p = checked_code (bound_of p.types p.bounds.items) p.functions.items (layouts_of p)

-- the numbers of its last two functions
abbrev pub init_number : Program → ℕ
init_number p = length (printed_of p).file

abbrev pub step_number : Program → ℕ
step_number p = suc (init_number p)
