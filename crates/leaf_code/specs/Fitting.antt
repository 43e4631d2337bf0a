-- Which values fit a place of C: they are of its type, each number has 64 bits, and no list is longer
-- than the bound of its elements' type.
use Rattle.std.specs.Prelude.{◌≡◌, ◌≤◌, ℕ, Bool, FitsSigned, List, [], ◌∷◌, ◌++◌, length}
use Rattle.std.specs.Int.{w64}
use Rattle.std.specs.Prelude.{ℤ}
use Rattle.sample_core.specs.Datum.{Datum, Datums, unit, bool, int, pair, no_event, event, list, end, more, elements}
use Rattle.sample_core.specs.TypeTree.{TypeTree, unit_ty, bool_ty, int_ty, pair_ty, event_ty, list_ty}
use Rattle.leaf_core.specs.Expression.{Expression}
use Rattle.leaf_core.specs.ExpressionTyping.{ExpressionTyped}
use Rattle.leaf_core.specs.ExpressionValue.{value_of}
use Rattle.leaf_code.specs.Operation.{Operation}
use Rattle.leaf_code.specs.Operation as O
use Rattle.leaf_code.specs.Running.{Step, step_value, leaf_value}
use Rattle.leaf_code.specs.CodeOf.{leaf_code, type_at}

-- how long lists may be, by the type of their elements
abbrev pub Bounds : Type 0
Bounds = TypeTree → ℕ

mutual
  pub data Fits (bound : TypeTree → ℕ) : Datum → TypeTree → Type 0 where
    unit_fits : Fits bound unit unit_ty
    bool_fits : {b : Bool} → Fits bound (bool b) bool_ty
    int_fits : {n : ℤ} → FitsSigned w64 n → Fits bound (int n) int_ty
    pair_fits : {v w : Datum} {A B : TypeTree} → Fits bound v A → Fits bound w B
        → Fits bound (pair v w) (pair_ty A B)
    no_event_fits : {A : TypeTree} → Fits bound no_event (event_ty A)
    event_fits : {v : Datum} {A : TypeTree} → Fits bound v A → Fits bound (event v) (event_ty A)
    list_fits : {vs : Datums} {A : TypeTree} → length (elements vs) ≤ bound A → AllFit bound vs A
        → Fits bound (list vs) (list_ty A)

  -- each element fits
  pub data AllFit (bound : TypeTree → ℕ) : Datums → TypeTree → Type 0 where
    end_fits : {A : TypeTree} → AllFit bound end A
    more_fits : {v : Datum} {vs : Datums} {A : TypeTree} → Fits bound v A → AllFit bound vs A
        → AllFit bound (more v vs) A

-- values fit types, one by one
pub data ParamsFit (bound : TypeTree → ℕ) : List TypeTree → List Datum → Type 0 where
  no_param : ParamsFit bound [] []
  and_param : {A : TypeTree} {Ps : List TypeTree} {v : Datum} {ps : List Datum} → Fits bound v A
      → ParamsFit bound Ps ps → ParamsFit bound (A ∷ Ps) (v ∷ ps)

-- a list that a step of this type makes is within its bound
abbrev pub ListWithin : Bounds → TypeTree → Operation → Type 0
ListWithin bound (list_ty A) (O.list js) = length js ≤ bound A
ListWithin bound T o = Unit {0}

-- the lists that steps make are within their bounds
abbrev pub ListsWithin : Bounds → List Step → Type 0
ListsWithin bound [] = Unit {0}
ListsWithin bound (s ∷ ss) = ListWithin bound s.ty s.operation × ListsWithin bound ss

-- each step's value fits its type, under parameters, over registers
abbrev pub StepsFit : Bounds → List Datum → List Datum → List Step → Type 0
StepsFit bound ps rs [] = Unit {0}
StepsFit bound ps rs (s ∷ ss) =
    Fits bound (step_value ps rs s) s.ty × StepsFit bound ps (rs ++ step_value ps rs s ∷ []) ss

-- all that the code of an expression of type B computes fits
pub record LeafFits (bound : TypeTree → ℕ) (Ps : List TypeTree) (A : TypeTree) (e : Expression)
    (ps : List Datum) (x : Datum) (B : TypeTree) : Type 0 where
  pub steps : StepsFit bound ps (x ∷ []) (leaf_code Ps A e).0
  pub answer : type_at A (leaf_code Ps A e).0 (leaf_code Ps A e).1 ≡ B
  pub value : Fits bound (value_of e ps x) B

-- the code of an expression computes its value
abbrev pub LeafValueLaw : Type 0
LeafValueLaw = (e : Expression) (Ps : List TypeTree) (A : TypeTree) (ps : List Datum) (x : Datum)
    → leaf_value (leaf_code Ps A e) ps x ≡ value_of e ps x

-- all that the code of a typed expression computes fits, where the lists that it makes do
abbrev pub LeafFitLaw : Type 0
LeafFitLaw = (bound : TypeTree → ℕ) (e : Expression) (Ps : List TypeTree) (A B : TypeTree)
    → ExpressionTyped e Ps A B → ListsWithin bound (leaf_code Ps A e).0
    → (ps : List Datum) (x : Datum) → ParamsFit bound Ps ps → Fits bound x A
    → LeafFits bound Ps A e ps x B
