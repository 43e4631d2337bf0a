-- What the C functions of expressions do.
use Rattle.std.specs.Prelude.{◌≡◌, ◌<◌, ◌^◌, ℕ, false, List, [], ◌∷◌, ◌++◌, get_or, Option, Some}
use Rattle.sample_core.specs.Datum.{Datum, unit}
use Rattle.sample_core.specs.TypeTree.{TypeTree, unit_ty, pair_ty, event_ty, list_ty}
use Rattle.leaf_core.specs.Expression.{Expression}
use Rattle.leaf_core.specs.ExpressionTyping.{ExpressionTyped}
use Rattle.leaf_core.specs.ExpressionValue.{value_of, same_datum}
use Rattle.leaf_code.specs.Fitting.{Bounds, ListsWithin}
use Rattle.leaf_code.specs.CodeOf.{leaf_code}
use Rattle.leaf_code.specs.Operation.{Operation}
use Rattle.leaf_code.specs.Operation as O
use Rattle.leaf_code.specs.Running.{Step}
use Rattle.c_meaning.specs.Object.{Object, truth}
use Rattle.c_meaning.specs.Meaning.{Linked, function_run}
use Rattle.c_leaf.specs.Representing.{Represents, Registers}
use Rattle.c_leaf.specs.LeafC.{has_no_list, same_function, leaf_function, constant_function}

-- a length has 32 bits
abbrev pub FewElements : Bounds → Type 0
FewElements n = (T : TypeTree) → n T < 2 ^ 32

-- a C function answers whether two objects represent the same value
abbrev pub Compares : Bounds → TypeTree → Linked → Type 0
Compares n A f = (v w : Datum) (o p : Object) → Represents n A v o → Represents n A w p
    → f (o ∷ p ∷ []) ≡ Some (o ∷ p ∷ [], truth (same_datum v w))

-- a C function answers what represents g's value at parameters and an input; nothing is written
pub record Answers (n : TypeTree → ℕ) (B : TypeTree) (v : Datum) (os : List Object)
    (c : Option (List Object × Object)) : Type 0 where
  pub object : Object
  pub result : c ≡ Some (os, object)
  pub represents : Represents n B v object

abbrev pub Computes : Bounds → List TypeTree → TypeTree → TypeTree
    → (List Datum → Datum → Datum) → Linked → Type 0
Computes n Ps A B g f = (ps : List Datum) (x : Datum) (qs : List Object) (i : Object)
    → Registers n Ps ps qs → Represents n A x i
    → Answers n B (g ps x) (qs ++ i ∷ []) (f (qs ++ i ∷ []))

-- the same of a constant, which has no input
abbrev pub IsConstant : Bounds → List TypeTree → TypeTree → (List Datum → Datum) → Linked → Type 0
IsConstant n Ps B g f = (ps : List Datum) (qs : List Object) → Registers n Ps ps qs
    → Answers n B (g ps) qs (f qs)

module _ (n : Bounds) (F : ℕ → Linked) (h : TypeTree → ℕ) where
  -- values with lists are compared by a function
  abbrev pub IsCompared : TypeTree → Type 0
  IsCompared A = has_no_list A ≡ false → Compares n A (F (h A))

  -- the same of the parts of a type
  abbrev pub PartsCompared : TypeTree → Type 0
  PartsCompared (pair_ty A B) = IsCompared A × IsCompared B
  PartsCompared (event_ty A) = IsCompared A
  PartsCompared (list_ty A) = IsCompared A
  PartsCompared _ = Unit {0}

  -- and of what a step compares, over registers of types Ts
  abbrev pub StepCompared : List TypeTree → Operation → Type 0
  StepCompared Ts (O.equal j k) = IsCompared (get_or Ts j unit_ty)
  StepCompared Ts o = Unit {0}

  abbrev pub StepsCompared : List TypeTree → List Step → Type 0
  StepsCompared Ts [] = Unit {0}
  StepsCompared Ts (s ∷ ss) = StepCompared Ts s.operation × StepsCompared (Ts ++ s.ty ∷ []) ss

-- such a function compares, where those that it calls do
abbrev pub SameLaw : Type 0
SameLaw = (n : Bounds) (F : ℕ → Linked) (h : TypeTree → ℕ) (A : TypeTree) → FewElements n
    → PartsCompared n F h A → Compares n A (function_run F (same_function n h A))

-- a typed expression's code, as C, computes the expression's value
abbrev pub LeafCLaw : Type 0
LeafCLaw = (n : Bounds) (F : ℕ → Linked) (h : TypeTree → ℕ) (e : Expression) (Ps : List TypeTree)
    (A B : TypeTree) → FewElements n → ExpressionTyped e Ps A B
    → ListsWithin n (leaf_code Ps A e).0 → StepsCompared n F h (A ∷ []) (leaf_code Ps A e).0
    → Computes n Ps A B (value_of e) (function_run F (leaf_function n h Ps A (leaf_code Ps A e)))

-- the same of an expression that is a constant
abbrev pub ConstantLaw : Type 0
ConstantLaw = (n : Bounds) (F : ℕ → Linked) (h : TypeTree → ℕ) (e : Expression)
    (Ps : List TypeTree) (B : TypeTree) → FewElements n → ExpressionTyped e Ps unit_ty B
    → ListsWithin n (leaf_code Ps unit_ty e).0
    → StepsCompared n F h (unit_ty ∷ []) (leaf_code Ps unit_ty e).0
    → IsConstant n Ps B (λ ps. value_of e ps unit)
    (function_run F (constant_function n h Ps (leaf_code Ps unit_ty e)))
