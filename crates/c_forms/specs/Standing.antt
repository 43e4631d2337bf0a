-- C functions of networks: what they are passed, and when one is right.
use Rattle.std.specs.Prelude.{◌≡◌, ℕ, zero, suc, pos, ◌+◌, ◌*◌, List, [], ◌∷◌, ◌++◌, length, Option, Some}
use Rattle.sample_core.specs.Datum.{Datum}
use Rattle.sample_core.specs.TypeTree.{TypeTree}
use Rattle.leaf_code.specs.Fitting.{Bounds}
use Rattle.net_machine.specs.Store.{Moment, Store}
use Rattle.net_machine.specs.Stepper.{Stepper}
use Rattle.net_code.specs.Running.{Kept, Given}
use Rattle.c_meaning.specs.Object.{number_type, i64, Object}
use Rattle.c_meaning.specs.Syntax.{equals, Term, local, literal, binary, Parameter, value_param, const_param, pointer_param, Argument, by_value, by_const, by_pointer, Command, call, Function}
use Rattle.c_meaning.specs.Meaning.{Linked}
use Rattle.c_leaf.specs.Representing.{c_type, Represents, Registers}
use Rattle.c_leaf.specs.LeafC.{const_params}
use Rattle.c_forms.specs.Keeping.{Shape, shape_type, Keeps, KeepsAt, dt_object, MomentFits}

-- objects have frozen networks, each with the moment of the sample that it was frozen at
pub data Frozen (n : TypeTree → ℕ) : List Shape → List Kept → List Object → Type 0 where
  none_frozen : Frozen n [] [] []
  one_frozen : {S : Shape} {Os : List Shape} {a : Store} {m : Moment} {ks : List Kept} {o : Object}
      {os : List Object} → MomentFits m → KeepsAt n m S a o → Frozen n Os ks os
      → Frozen n (S ∷ Os) ((a, m) ∷ ks) (o ∷ dt_object m ∷ os)

-- objects have what is in scope: parameters of types Ps, frozen networks of shapes Os
pub record InScope (n : TypeTree → ℕ) (Ps : List TypeTree) (Os : List Shape) (g : Given)
    (qs : List Object) : Type 0 where
  pub params : List Object
  pub olds : List Object
  pub are : qs ≡ params ++ olds
  pub are_params : Registers n Ps g.params params
  pub are_olds : Frozen n Os g.olds olds

-- what a C function comes to: what it keeps then, and its answer. Nothing else is written
pub record Steps (n : TypeTree → ℕ) (S : Shape) (B : TypeTree) (r : Store × Datum) (os : List Object)
    (c : Option (List Object × Object)) : Type 0 where
  pub state : Object
  pub answer : Object
  pub result : c ≡ Some (state ∷ os, answer)
  pub keeps : Keeps n S r.0 state
  pub represents : Represents n B r.1 answer

-- `B f(struct S *s, int64_t dt, const A *x, ..)` does a step, in whatever scope
abbrev pub Right : Bounds → List TypeTree → List Shape → Shape → TypeTree → TypeTree
    → (Given → Stepper) → Linked → Type 0
Right n Ps Os S A B f c = (g : Given) (qs : List Object) → InScope n Ps Os g qs
    → (m : Moment) (s : Store) (x : Datum) (o i : Object) → MomentFits m → KeepsAt n m S s o
    → Represents n A x i
    → Steps n S B (f g s (m, x)) (dt_object m ∷ i ∷ qs) (c (o ∷ dt_object m ∷ i ∷ qs))

-- the frozen networks as parameters
abbrev pub old_params : Bounds → List Shape → List Parameter
old_params n [] = []
old_params n (S ∷ Os) =
    const_param (shape_type n S) ∷ value_param (number_type i64) ∷ old_params n Os

-- so many parameters, from local k on, as arguments; and so many frozen networks
abbrev pub param_args : ℕ → ℕ → List Argument
param_args k zero = []
param_args k (suc m) = by_const (local k) ∷ param_args (suc k) m

abbrev pub old_args : ℕ → ℕ → List Argument
old_args k zero = []
old_args k (suc m) = by_const (local k) ∷ by_value (local (suc k)) ∷ old_args (suc (suc k)) m

-- `dt == 0`
abbrev pub is_first : Term
is_first = binary equals i64 (local 1) (literal i64 (pos 0))

module _ (n : Bounds) (Ps : List TypeTree) (Os : List Shape) where
  -- register k of a function, its first local behind what it is passed
  abbrev pub behind : ℕ → Term
  behind k = local (3 + (length Ps + 2 * length Os) + k)

  -- what is in scope, handed on
  abbrev pub scope_args : List Argument
  scope_args = param_args 3 (length Ps) ++ old_args (3 + length Ps) (length Os)

  -- `const T r = f(&part, dt, &x, ..);`
  abbrev pub part_call : TypeTree → ℕ → Term → Term → Command
  part_call T j part x =
      call (c_type n T) j (by_pointer part ∷ by_value (local 1) ∷ by_const x ∷ scope_args)

  -- `const T r = leaf(.., &x);`, `const T r = constant(..);`
  abbrev pub leaf_call : TypeTree → ℕ → Term → Command
  leaf_call T j x = call (c_type n T) j (param_args 3 (length Ps) ++ by_const x ∷ [])

  abbrev pub constant_call : TypeTree → ℕ → Command
  constant_call T j = call (c_type n T) j (param_args 3 (length Ps))

  -- `B f(struct S *s, int64_t dt, const A *x, ..)`
  abbrev pub stepping : Shape → TypeTree → TypeTree → Command → Function
  stepping S A B c = record {
    params = pointer_param (shape_type n S) ∷ value_param (number_type i64)
        ∷ const_param (c_type n A) ∷ const_params n Ps ++ old_params n Os;
    result = c_type n B;
    body = c;
  }
