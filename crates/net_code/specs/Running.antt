-- What code does: a function after the other, each over the earlier ones.
use Rattle.std.specs.Prelude.{◌<◌, ℕ, zero, suc, Bool, true, false, if◌then◌else◌, List, [], ◌∷◌, ◌++◌, take, get_or, length, ◌-◌, Option, Some, None}
use Rattle.sample_core.specs.Datum.{Datum, unit, pair, left, right, no_event}
use Rattle.leaf_core.specs.declared.expr.Expr.{Expr}
use Rattle.net_meaning.specs.SignalFunction.{SignalFunction, event_in}
use Rattle.cell_core.specs.declared.form.Form.TheVariants as CellForm
use Rattle.net_machine.specs.Store.{Moment, start, step, Store, nothing, both, fed, mode, frozen, one, other, fed_value, looped, mode_of, front_part, taker_part, frozen_when, frozen_part, resumer_part}
use Rattle.net_machine.specs.Stepper.{Timed, Stepper, run, par_step, routed, cell_form_step, rp_switch_step}
use Rattle.net_machine.specs.Machine.{no_leaf}
use Rattle.net_code.specs.declared.statement.Part.{Part}
use Rattle.net_code.specs.declared.statement.Part.TheVariants as P
use Rattle.net_code.specs.declared.statement.When.{When}
use Rattle.net_code.specs.declared.statement.When.TheVariants as W
use Rattle.net_code.specs.declared.statement.Scope.{Scope}
use Rattle.net_code.specs.declared.statement.Scope.TheVariants as C
use Rattle.net_code.specs.declared.statement.Action.{Action}
use Rattle.net_code.specs.declared.statement.Action.TheVariants as A
use Rattle.net_code.specs.declared.statement.Guard.{Guard}
use Rattle.net_code.specs.declared.statement.Guard.TheVariants as G
use Rattle.net_code.specs.declared.statement.Effect.{Effect}
use Rattle.net_code.specs.declared.statement.Effect.TheVariants as E
use Rattle.net_code.specs.declared.statement.Statement.{Statement}
use Rattle.net_code.specs.declared.statement.Statement.TheVariants as S

-- a function's statements
abbrev pub Body : Type 0
Body = List Statement

-- functions, each of which calls earlier ones
abbrev pub Code : Type 0
Code = List Body

-- a frozen network: what it kept, and the moment of the sample that it was frozen at
abbrev pub Kept : Type 0
Kept = Store × Moment

-- the frozen network k
abbrev pub kept_at : List Kept → ℕ → Kept
kept_at ks k = get_or ks k (nothing, start)

-- so many members, frozen together
abbrev pub split : ℕ → Store → Moment → List Kept
split zero a m = []
split (suc n) a m = (one a, m) ∷ split n (other a) m

-- what a function has in scope: parameters, and frozen networks
pub record Given : Type 0 where
  pub params : List Datum
  pub olds : List Kept

-- a function: of what is in scope a step
abbrev pub Linked : Type 0
Linked = Given → Stepper

-- what there is while a function runs
pub record Local : Type 0 where
  pub registers : List Datum
  pub store : Store
  pub now : Moment
  pub members : List Stepper

-- register k
abbrev pub register : Local → ℕ → Datum
register l k = get_or l.registers k unit

-- what a part keeps
abbrev pub load : Part → Store → Store
load P.Whole s = s
load P.One s = one s
load P.Other s = other s
load P.Looped s = looped s
load P.Front s = front_part s
load P.Taker s = taker_part s
load P.Watched s = one (front_part s)
load P.Watcher s = other (front_part s)
load P.Resumer s = resumer_part (taker_part s)

-- the store with another f of a switch
abbrev pub with_front : Store → Store → Store
with_front s a = mode (mode_of s) a (taker_part s)

-- the store with another t of a switch
abbrev pub with_taker : Store → Store → Store
with_taker s b = mode (mode_of s) (front_part s) b

-- the store with that kept by the part
abbrev pub save : Part → Store → Store → Store
save P.Whole s a = a
save P.One s a = both a (other s)
save P.Other s a = both (one s) a
save P.Looped s a = fed (fed_value s) a
save P.Front s a = with_front s a
save P.Taker s a = with_taker s a
save P.Watched s a = with_front s (both a (other (front_part s)))
save P.Watcher s a = with_front s (both (one (front_part s)) a)
save P.Resumer s a =
    with_taker s (frozen (frozen_when (taker_part s)) (frozen_part (taker_part s)) a)

-- the value, if there is one
abbrev pub value_or_unit : Option Datum → Datum
value_or_unit (Some c) = c
value_or_unit None = unit

-- the value by which something has taken over
abbrev pub value_taken : Store → Datum
value_taken s = value_or_unit (mode_of s)

-- with one parameter more
abbrev pub given_value : Given → Datum → Given
given_value g c = record { params = g.params ++ c ∷ []; olds = g.olds }

-- with frozen networks more
abbrev pub given_kept : Given → List Kept → Given
given_kept g ks = record { params = g.params; olds = g.olds ++ ks }

-- with the first so many of each
abbrev pub given_first : Given → ℕ → ℕ → Given
given_first g n m = record { params = take n g.params; olds = take m g.olds }

-- what a called function has in scope
abbrev pub scope_for : Scope → Given → Store → Given
scope_for C.Same g s = g
scope_for C.Value g s = given_value g (value_taken s)
scope_for C.Frozen g s =
    given_kept (given_value g (value_taken s))
    ((frozen_part (taker_part s), frozen_when (taker_part s)) ∷ [])
scope_for (C.Members n) g s =
    given_kept (given_value g (value_taken s))
    (split n (frozen_part (taker_part s)) (frozen_when (taker_part s)))
scope_for (C.First n m) g s = given_first g n m

-- the moment of a call
abbrev pub moment_for : When → Moment → Moment
moment_for W.Now m = m
moment_for W.Start m = start

-- an answer, what was kept put back
abbrev pub saved : Part → Store → Store × Datum → Store × Datum
saved p s r = (save p s r.0, r.1)

-- a step of what a part keeps
abbrev pub on_part : Stepper → Part → Store → Timed → Store × Datum
on_part f p s x = saved p s (f (load p s) x)

-- the event on the right of a pair
abbrev pub beside_in : Datum → Datum
beside_in (pair a v) = v
beside_in _ = no_event

-- v at the first sample, and else w
abbrev pub first_or : Moment → Datum → Datum → Datum
first_or start v w = v
first_or (step d) v w = w

-- whether there is none
abbrev pub is_none : Option Datum → Bool
is_none None = true
is_none (Some c) = false

-- whether there is one
abbrev pub is_some : Option Datum → Bool
is_some None = false
is_some (Some c) = true

-- nothing has taken over at the first sample
abbrev pub cleared : Moment → Store → Store
cleared start s = mode None (front_part s) (taker_part s)
cleared (step d) s = s

-- the value takes over, if there is one
abbrev pub taken_by : Option Datum → Store → Store
taken_by None s = s
taken_by (Some c) s = mode (Some c) (front_part s) (taker_part s)

-- what is watched is frozen as it is
abbrev pub frozen_now : Moment → Store → Store
frozen_now m s = with_taker s (frozen m (one (front_part s)) (resumer_part (taker_part s)))

-- with another store
abbrev pub with_store : Local → Store → Local
with_store l s =
    record { registers = l.registers; store = s; now = l.now; members = l.members }

-- with one register more, and what is kept then
abbrev pub with_register : Local → Store × Datum → Local
with_register l r = record {
  registers = l.registers ++ r.1 ∷ [];
  store = r.0;
  now = l.now;
  members = l.members;
}

-- with one member more
abbrev pub with_member : Local → Stepper → Local
with_member l f = record {
  registers = l.registers;
  store = l.store;
  now = l.now;
  members = l.members ++ f ∷ [];
}

-- at the first sample with a copy of what is frozen, and its moment
abbrev pub resumed_from : Kept → Local → Moment → Local
resumed_from k l start =
    record { registers = l.registers; store = k.0; now = k.1; members = l.members }
resumed_from k l (step d) = l

-- a function that is not there
abbrev pub nothing_done : Linked
nothing_done g s x = (s, unit)

-- each is below n
abbrev pub AllBelow : ℕ → List ℕ → Type 0
AllBelow n [] = Unit {0}
AllBelow n (j ∷ js) = (j < n) × AllBelow n js

-- function k
abbrev pub numbered : List Linked → ℕ → Linked
numbered fs k = get_or fs k nothing_done

module _ (val : Expr → List Datum → Datum → Datum) (F : ℕ → Linked) (g : Given) where
  -- f, or t by the value that has taken over
  abbrev pub going : ℕ → ℕ → Store → Timed → Option Datum → Store × Datum
  going f t s x None = on_part (F f g) P.Front s x
  going f t s x (Some c) = on_part (F t (given_value g c)) P.Taker s x

  -- an action's value, and what is kept then
  abbrev pub act : Action → Local → Store × Datum
  act (A.Register k) l = (l.store, register l k)
  act (A.Leaf e k) l = (l.store, val e g.params (register l k))
  act (A.Constant e) l = (l.store, val e g.params unit)
  act (A.Left k) l = (l.store, left (register l k))
  act (A.Right k) l = (l.store, right (register l k))
  act (A.Beside k) l = (l.store, beside_in (register l k))
  act (A.Pair j k) l = (l.store, pair (register l j) (register l k))
  act (A.FirstOr j k) l = (l.store, first_or l.now (register l j) (register l k))
  act (A.FedOr j) l = (l.store, first_or l.now (register l j) (fed_value l.store))
  act (A.Call j c p w k) l =
      on_part (F j (scope_for c g l.store)) p l.store (moment_for w l.now, register l k)
  act (A.GoesOn f t k) l = going f t l.store (l.now, register l k) (mode_of l.store)
  act (A.Each p k) l = on_part (par_step l.members) p l.store (l.now, register l k)
  act (A.Routed e p k) l =
      on_part (par_step (routed (val e g.params) 0 l.members)) p l.store (l.now, register l k)
  act (A.Cell form j k) l =
      cell_form_step form (register l j) no_leaf l.store (l.now, register l k)
  act (A.Accumulate e j k) l =
      cell_form_step CellForm.AccumBy (register l j) (val e g.params) l.store (l.now, register l k)
  act (A.Collect e j k) l =
      rp_switch_step (val e g.params) l.members (λ v. F j (given_value g v)) l.store
      (l.now, register l k)

  -- whether a guard holds
  abbrev pub holds : Guard → Local → Bool
  holds G.Always l = true
  holds (G.NoEvent k) l = is_none (event_in (register l k))
  holds G.Taken l = is_some (mode_of l.store)

  -- what is there after an effect
  abbrev pub affect : Effect → Local → Local
  affect E.Clear l = with_store l (cleared l.now l.store)
  affect (E.Take k) l = with_store l (taken_by (event_in (register l k)) l.store)
  affect (E.Feed k) l = with_store l (fed (register l k) (looped l.store))
  affect E.Freeze l = with_store l (frozen_now l.now l.store)
  affect (E.Resume k) l = resumed_from (kept_at g.olds k) l l.now
  affect (E.Member j) l = with_member l (F j g)

  -- a function's statements, one after the other
  abbrev pub exec : Body → Local → Store × Datum
  exec [] l = (l.store, unit)
  exec (S.Set a ∷ ss) l = exec ss (with_register l (act a l))
  exec (S.Exit c a ∷ ss) l = if holds c l then act a l else exec ss l
  exec (S.Do e ∷ ss) l = exec ss (affect e l)

-- register 0 is the input
abbrev pub entered : Store → Timed → Local
entered s x = record { registers = x.1 ∷ []; store = s; now = x.0; members = [] }

-- a function over these
abbrev pub body_step : (Expr → List Datum → Datum → Datum) → (ℕ → Linked) → Body → Linked
body_step val F b g s x = exec val F g b (entered s x)

-- functions, each over the earlier ones, behind these
abbrev pub link : (Expr → List Datum → Datum → Datum) → List Linked → Code → List Linked
link val fs [] = fs
link val fs (b ∷ bs) = link val (fs ++ body_step val (numbered fs) b ∷ []) bs

-- the number of the last function
abbrev pub latest : Code → ℕ
latest c = length c - 1

-- nothing in scope
abbrev pub nothing_given : Given
nothing_given = record { params = []; olds = [] }

-- what code answers on samples from whatever it keeps at the start: its last function does
abbrev pub run_code : (Expr → List Datum → Datum → Datum) → Code → Store → SignalFunction
run_code val c s = run (numbered (link val [] c) (latest c) nothing_given) false s
