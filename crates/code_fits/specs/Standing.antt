-- What stands at the places of C while code runs.
use Rattle.std.specs.Prelude.{◌≤◌, ◌^◌, ℕ, suc, ℤ, pos, Bool, true, false, if◌then◌else◌, FitsSigned, List, [], ◌∷◌, ◌++◌, length, get_or, Option, Some, None}
use Rattle.std.specs.Int.{w64}
use Rattle.sample_core.specs.Datum.{Datum, unit, pair, left, int}
use Rattle.sample_core.specs.TypeTree.{TypeTree, unit_ty, int_ty, pair_ty}
use Rattle.leaf_core.specs.declared.expr.Expr.{Expr}
use Rattle.leaf_core.specs.ExpressionView.{expression_of}
use Rattle.leaf_code.specs.CodeOf.{right_type, carried_type}
use Rattle.leaf_code.specs.Fitting.{Bounds, Fits, LeafFits}
use Rattle.net_meaning.specs.SignalFunction.{TimedList, event_in}
use Rattle.cell_core.specs.Cell.{Cell, previous, queue, latest as held, accumulating, waiting, over, recurring, ticking, summing, accumulator_of}
use Rattle.cell_core.specs.declared.form.Form.{Form}
use Rattle.cell_core.specs.declared.form.Form.TheVariants as C
use Rattle.net_machine.specs.Store.{Moment, start, step, Store, Origin, written, made, one, other, mode_of, front_part, taker_part, cell_in}
use Rattle.net_machine.specs.Stepper.{Timed, Stepper, moment, event_beside, Turn, members_at, members_in}
use Rattle.net_code.specs.declared.statement.Action.{Action}
use Rattle.net_code.specs.declared.statement.Action.TheVariants as A
use Rattle.net_code.specs.declared.statement.Effect.{Effect}
use Rattle.net_code.specs.declared.statement.Effect.TheVariants as E
use Rattle.net_code.specs.declared.statement.Statement.TheVariants as S
use Rattle.net_code.specs.Running.{Body, Code, Given, Linked, Local, load, scope_for, moment_for, register, given_value, with_register, act, holds, affect, entered, body_step, numbered, link, latest, nothing_given}
use Rattle.net_code.specs.CodeLaw.{value_in}
use Rattle.code_fits.specs.Layouts.{Layout, kept_type}

-- what stands at a place, or runs there
pub data Stand : Type 0 where
  -- a value at a place of this type
  value : TypeTree → Datum → Stand
  -- what a cell keeps, whose values have this type
  kept : Form → TypeTree → Cell → Stand
  -- an expression's code runs, under parameters of these types, at an input of this type
  leaf : List TypeTree → TypeTree → Expr → List Datum → Datum → Stand
  -- something for which no type is given
  untyped : Stand

-- what waits in a delay: at least l and at most q is left to each, more to the later ones
pub data Waits (bound : Bounds) (q : ℕ) (T : TypeTree) : ℕ → List (ℕ × Datum) → Type 0 where
  none_waits : {l : ℕ} → Waits bound q T l []
  one_waits : {l t : ℕ} {v : Datum} {is : List (ℕ × Datum)} → l ≤ t → t ≤ q → Fits bound v T
      → Waits bound q T (suc t) is → Waits bound q T l ((t, v) ∷ is)

-- what a cell of a form keeps, whose values have type T, fits its fields: values their type, a queue
-- its room, counts 63 bits
pub data CellFits (bound : Bounds) : Form → TypeTree → Cell → Type 0 where
  previous_fits : {T : TypeTree} {v : Datum} → Fits bound v T → CellFits bound C.IPre T (previous v)
  queue_fits : {q : ℕ} {T : TypeTree} {v : Datum} {is : List (ℕ × Datum)} → q ≤ 4096
      → Fits bound v T → Waits bound q T 1 is → length is ≤ q
      → CellFits bound (C.Delay q) T (queue q v is)
  held_fits : {T : TypeTree} {v : Datum} → Fits bound v T → CellFits bound C.Hold T (held v)
  accumulator_fits : {T : TypeTree} {v : Datum} → Fits bound v T
      → CellFits bound C.AccumBy T (accumulating v)
  waiting_fits : {q t : ℕ} {T : TypeTree} {v : Datum} → t ≤ 2 ^ 62 → Fits bound v T
      → CellFits bound (C.After q) T (waiting t v)
  over_fits : {q : ℕ} {T : TypeTree} → CellFits bound (C.After q) T over
  recurring_fits : {q t : ℕ} {T : TypeTree} {v : Datum} → 1 ≤ q → q ≤ 2 ^ 62 → t ≤ q
      → Fits bound v T → CellFits bound (C.Repeatedly q) T (recurring q t v)
  ticking_fits : {T : TypeTree} {z : ℤ} → FitsSigned w64 z → CellFits bound C.Time T (ticking z)
  summing_fits : {T : TypeTree} {z x : ℤ} → FitsSigned w64 z → FitsSigned w64 x
      → CellFits bound C.Integral T (summing z x)

-- what stands there fits
abbrev pub StandsWell : Bounds → Stand → Type 0
StandsWell bound (value T v) = Fits bound v T
StandsWell bound (kept form T k) = CellFits bound form T k
StandsWell bound (leaf Ps A e ps x) =
    (B : TypeTree) × LeafFits bound Ps A (expression_of e) ps x B
StandsWell bound untyped = ⊥

-- all of it does
abbrev pub AllStandWell : Bounds → List Stand → Type 0
AllStandWell bound [] = Unit {0}
AllStandWell bound (w ∷ ws) = StandsWell bound w × AllStandWell bound ws

-- what stands while a step runs
abbrev pub Tracer : Type 0
Tracer = Store → Timed → List Stand

-- the same of a function
abbrev pub Traced : Type 0
Traced = Given → Tracer

-- values at places of these types
abbrev pub values_stand : List TypeTree → List Datum → List Stand
values_stand [] [] = []
values_stand (T ∷ Ts) (v ∷ vs) = value T v ∷ values_stand Ts vs
values_stand Ts vs = untyped ∷ []

-- a value, if there is one
abbrev pub event_stands : TypeTree → Option Datum → List Stand
event_stands T None = []
event_stands T (Some v) = value T v ∷ []

-- an expression's code, where there is an event's value to run at
abbrev pub leaf_stands : List TypeTree → TypeTree → Expr → List Datum → Option Datum → List Stand
leaf_stands Ps A e ps None = []
leaf_stands Ps A e ps (Some v) = value A v ∷ leaf Ps A e ps v ∷ []

-- members, each on its part
abbrev pub each_stand : List Tracer → Tracer
each_stand [] s x = []
each_stand (n ∷ ns) s x = n (one s) x ++ each_stand ns (other s) x

-- members from number i on, each on what the expression gives it
abbrev pub routed_stand : List TypeTree → TypeTree → Expr → List Datum → ℕ → List Tracer → Tracer
routed_stand Ps A e ps i [] s x = []
routed_stand Ps A e ps i (n ∷ ns) s x =
    value (pair_ty A int_ty) (pair x.1 (int (pos i)))
    ∷ leaf Ps (pair_ty A int_ty) e ps (pair x.1 (int (pos i)))
    ∷ n (one s) (x.0, value_in e ps (pair x.1 (int (pos i))))
    ++ routed_stand Ps A e ps (suc i) ns (other s) x

-- where there is no function
abbrev pub nothing_stands : Tracer
nothing_stands s x = untyped ∷ []

-- a member of a collection
abbrev pub member_stands : List Tracer → (Datum → Tracer) → Origin → Tracer
member_stands ns t (written k) = get_or ns k nothing_stands
member_stands ns t (made v) = t v

-- the members of a collection on one value
abbrev pub turns_stand : (Origin → Tracer) → List Turn → Datum → List Stand
turns_stand f [] v = []
turns_stand f (m ∷ ms) v = f m.1.0 m.1.1 (m.0, v) ++ turns_stand f ms v

-- what an `accumBy` runs its expression at
abbrev pub accumulated : Moment → Datum → Cell → Option Datum → Option Datum
accumulated m z k None = None
accumulated start z k (Some v) = Some (pair z v)
accumulated (step d) z k (Some v) = Some (pair (accumulator_of k) v)

module _ (L : Layout) (F : ℕ → Linked) (N : ℕ → Traced) (g : Given) where
  -- the type of register k, among the types so far
  abbrev pub type_of_register : List TypeTree → ℕ → TypeTree
  type_of_register Ts k = get_or Ts k unit_ty

  -- f, or t by the value that has taken over
  abbrev pub going_stand : ℕ → ℕ → Store → Timed → Option Datum → List Stand
  going_stand f t s x None = N f g (front_part s) x
  going_stand f t s x (Some c) = N t (given_value g c) (taker_part s) x

  -- an action, over registers of these types
  abbrev pub act_stands : Action → List TypeTree → Local → List Tracer → List Stand
  act_stands (A.Leaf e k) Ts l ns =
      leaf L.params (type_of_register Ts k) e g.params (register l k) ∷ []
  act_stands (A.Constant e) Ts l ns = leaf L.params unit_ty e g.params unit ∷ []
  act_stands (A.Call j c p w k) Ts l ns =
      N j (scope_for c g l.store) (load p l.store) (moment_for w l.now, register l k)
  act_stands (A.GoesOn f t k) Ts l ns =
      going_stand f t l.store (l.now, register l k) (mode_of l.store)
  act_stands (A.Each p k) Ts l ns = each_stand ns (load p l.store) (l.now, register l k)
  act_stands (A.Routed e p k) Ts l ns =
      routed_stand L.params (type_of_register Ts k) e g.params 0 ns (load p l.store)
      (l.now, register l k)
  act_stands (A.Cell form j k) Ts l ns =
      kept form (kept_type L) (cell_in (act value_in F g (A.Cell form j k) l).0) ∷ []
  act_stands (A.Accumulate e j k) Ts l ns =
      leaf_stands L.params (pair_ty (kept_type L) (carried_type (type_of_register Ts k))) e g.params
      (accumulated l.now (register l j) (cell_in l.store) (event_in (register l k)))
      ++ kept C.AccumBy (kept_type L) (cell_in (act value_in F g (A.Accumulate e j k) l).0) ∷ []
  act_stands (A.Collect e j k) Ts l ns =
      leaf_stands L.params (carried_type (right_type (type_of_register Ts k))) e g.params
      (event_beside (register l k))
      ++ turns_stand (member_stands ns (λ v. N j (given_value g v)))
      (members_in (value_in e g.params) (members_at l.now l.members l.store)
      (event_beside (register l k))) (left (register l k))
  act_stands a Ts l ns = []

  -- an effect
  abbrev pub effect_stands : Effect → Local → List Stand
  effect_stands (E.Take k) l = event_stands (kept_type L) (event_in (register l k))
  effect_stands (E.Feed k) l = value (kept_type L) (register l k) ∷ []
  effect_stands e l = []

  -- the members after an effect
  abbrev pub effect_members : Effect → List Tracer → List Tracer
  effect_members (E.Member j) ns = ns ++ N j g ∷ []
  effect_members e ns = ns

  -- a statement's value of the type, where that is given
  abbrev pub value_stands : List TypeTree → Datum → List Stand
  value_stands [] v = untyped ∷ []
  value_stands (T ∷ Ts) v = value T v ∷ []

  -- the types of the statements behind
  abbrev pub behind : List TypeTree → List TypeTree
  behind [] = []
  behind (T ∷ Ts) = Ts

  -- the types of the registers with one more
  abbrev pub and_type : List TypeTree → List TypeTree → List TypeTree
  and_type Ts [] = Ts
  and_type Ts (T ∷ Us) = Ts ++ T ∷ []

  -- a function's statements, whose values have the types Us, over registers of the types Ts
  abbrev pub body_stands : Body → List TypeTree → List TypeTree → Local → List Tracer → List Stand
  body_stands [] Us Ts l ns = untyped ∷ []
  body_stands (S.Set a ∷ ss) Us Ts l ns =
      act_stands a Ts l ns ++ value_stands Us (act value_in F g a l).1
      ++ body_stands ss (behind Us) (and_type Ts Us) (with_register l (act value_in F g a l)) ns
  body_stands (S.Exit c a ∷ ss) Us Ts l ns =
      if holds value_in F g c l then act_stands a Ts l ns ++ value_stands Us (act value_in F g a l).1
      else body_stands ss (behind Us) Ts l ns
  body_stands (S.Do e ∷ ss) Us Ts l ns =
      effect_stands e l
      ++ body_stands ss Us Ts (affect value_in F g e l) (effect_members e ns)

-- a function: its parameters, its input, and its statements
abbrev pub function_stands : (ℕ → Linked) → (ℕ → Traced) → Body → Layout → Traced
function_stands F N b L g s x =
    values_stand L.params g.params
    ++ value L.input x.1 ∷ body_stands L F N g b L.values (L.input ∷ []) (entered s x) []

-- function k
abbrev pub traced : List Traced → ℕ → Traced
traced ns k = get_or ns k (λ g. nothing_stands)

-- functions, each over the earlier ones, behind these
abbrev pub link_stands : List Linked → List Traced → Code → List Layout → List Traced
link_stands fs ns [] Ls = ns
link_stands fs ns (b ∷ bs) [] = ns
link_stands fs ns (b ∷ bs) (L ∷ Ls) =
    link_stands (fs ++ body_step value_in (numbered fs) b ∷ [])
    (ns ++ function_stands (numbered fs) (traced ns) b L ∷ []) bs Ls

-- at each of some samples
abbrev pub run_stands : Stepper → Tracer → Bool → Store → TimedList → List (List Stand)
run_stands f n b s [] = []
run_stands f n b s (x ∷ xs) =
    n s (moment b x.0, x.1) ∷ run_stands f n true (f s (moment b x.0, x.1)).0 xs

-- what stands while code runs, at each of some samples
abbrev pub stands_of : Code → List Layout → Store → TimedList → List (List Stand)
stands_of c Ls s xs =
    run_stands (numbered (link value_in [] c) (latest c) nothing_given)
    (traced (link_stands [] [] c Ls) (latest c) nothing_given) false s xs
