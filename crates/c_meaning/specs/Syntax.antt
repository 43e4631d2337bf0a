-- The C that is printed, as data.
use Rattle.std.specs.Prelude.{ℕ, ℤ, Bool, List}
use Rattle.c_meaning.specs.Object.{Scalar, CType}

pub data Operator : Type 0 where
  plus : Operator
  minus : Operator
  times : Operator
  remainder : Operator
  less : Operator
  at_most : Operator
  equals : Operator

-- expressions do nothing but compute. Both operands of an operator have the type that it names
pub data Term : Type 0 where
  -- local k. A parameter by pointer is one too: `*p`, and `p->m` is its member
  local : ℕ → Term
  -- `e.m`, e[i]
  dot : Term → ℕ → Term
  at : Term → Term → Term
  -- literals
  boolean : Bool → Term
  literal : Scalar → ℤ → Term
  -- `{0}`
  zeroed : CType → Term
  -- `{e, ..}`
  none : Term
  braced : Term → Term → Term
  binary : Operator → Scalar → Term → Term → Term
  -- `!e`, `a && b`, `a || b`, `c ? a : b`
  inverse : Term → Term
  both : Term → Term → Term
  either : Term → Term → Term
  choice : Term → Term → Term → Term
  -- `(T)e`
  cast : Scalar → Term → Term

-- what is passed: a value, `&e` to a `const`, `&e`
pub data Argument : Type 0 where
  by_value : Term → Argument
  by_const : Term → Argument
  by_pointer : Term → Argument

pub data Command : Type 0 where
  skip : Command
  -- a; b
  sequence : Command → Command → Command
  -- `T r;`, `const T r = e;`
  declare : CType → Command
  define : CType → Term → Command
  -- `const T *const r = &e;`
  refer : CType → Term → Command
  -- `e = f;`
  assign : Term → Term → Command
  -- `const T r = f(..);`
  call : CType → ℕ → List Argument → Command
  -- `if (c) { a } else { b }`
  branch : Term → Command → Command → Command
  -- `for (uint32_t i = 0; (i < n) && c; i++) { a }`: i is the next local
  loop : ℕ → Term → Command → Command
  -- `return e;`
  answer : Term → Command

-- a parameter: a value, a pointer to a `const`, a pointer
pub data Parameter : Type 0 where
  value_param : CType → Parameter
  const_param : CType → Parameter
  pointer_param : CType → Parameter

-- a function: its parameters, its result's type, and its body
pub record Function : Type 0 where
  pub params : List Parameter
  pub result : CType
  pub body : Command

-- functions, each of which calls earlier ones
abbrev pub File : Type 0
File = List Function
