-- How many steps code calls at a sample.
use Rattle.std.specs.Prelude.{ℕ, suc, pos, ◌+◌, ◌≤◌, Bool, true, false, if◌then◌else◌, List, [], ◌∷◌, ◌++◌, All, get_or, Option, Some, None}
use Rattle.sample_core.specs.Datum.{Datum, pair, left, int}
use Rattle.leaf_core.specs.declared.expr.Expr.{Expr}
use Rattle.net_tree.specs.Network.{Network}
use Rattle.net_tree.specs.Weight.{weight}
use Rattle.net_meaning.specs.SignalFunction.{TimedList}
use Rattle.net_machine.specs.Store.{Store, Origin, written, made, one, other, mode_of, front_part, taker_part}
use Rattle.net_machine.specs.Stepper.{Timed, Stepper, moment, event_beside, Turn, members_at, members_in}
use Rattle.net_code.specs.declared.statement.Action.{Action}
use Rattle.net_code.specs.declared.statement.Action.TheVariants as A
use Rattle.net_code.specs.declared.statement.Effect.{Effect}
use Rattle.net_code.specs.declared.statement.Effect.TheVariants as E
use Rattle.net_code.specs.declared.statement.Statement.TheVariants as S
use Rattle.net_code.specs.Running.{Body, Code, Given, Linked, Local, load, scope_for, moment_for, register, given_value, with_register, act, holds, affect, entered, body_step, numbered, link, latest, nothing_given}
use Rattle.net_code.specs.CodeOf.{code_of}
use Rattle.net_code.specs.CodeLaw.{value_in}

-- how many steps a step calls, itself among them
abbrev pub Counter : Type 0
Counter = Store → Timed → ℕ

-- the same of a function
abbrev pub Counted : Type 0
Counted = Given → Counter

-- members, each on its part
abbrev pub each_calls : List Counter → Counter
each_calls [] s x = 0
each_calls (n ∷ ns) s x = n (one s) x + each_calls ns (other s) x

-- members from number i on, each on what r gives it
abbrev pub routed_calls : (Datum → Datum) → ℕ → List Counter → Counter
routed_calls r i [] s x = 0
routed_calls r i (n ∷ ns) s x =
    n (one s) (x.0, r (pair x.1 (int (pos i)))) + routed_calls r (suc i) ns (other s) x

-- a member that is not there
abbrev pub no_calls : Counter
no_calls s x = 0

-- a member of a collection
abbrev pub member_calls : List Counter → (Datum → Counter) → Origin → Counter
member_calls ns t (written k) = get_or ns k no_calls
member_calls ns t (made v) = t v

-- the members of a collection on one value
abbrev pub turns_calls : (Origin → Counter) → List Turn → Datum → ℕ
turns_calls f [] v = 0
turns_calls f (m ∷ ms) v = f m.1.0 m.1.1 (m.0, v) + turns_calls f ms v

module _ (val : Expr → List Datum → Datum → Datum) (F : ℕ → Linked) (N : ℕ → Counted)
    (g : Given) where
  -- f, or t by the value that has taken over
  abbrev pub going_calls : ℕ → ℕ → Store → Timed → Option Datum → ℕ
  going_calls f t s x None = N f g (front_part s) x
  going_calls f t s x (Some c) = N t (given_value g c) (taker_part s) x

  -- an action
  abbrev pub act_calls : Action → Local → List Counter → ℕ
  act_calls (A.Call j c p w k) l ns =
      N j (scope_for c g l.store) (load p l.store) (moment_for w l.now, register l k)
  act_calls (A.GoesOn f t k) l ns =
      going_calls f t l.store (l.now, register l k) (mode_of l.store)
  act_calls (A.Each p k) l ns = each_calls ns (load p l.store) (l.now, register l k)
  act_calls (A.Routed e p k) l ns =
      routed_calls (val e g.params) 0 ns (load p l.store) (l.now, register l k)
  act_calls (A.Collect e j k) l ns =
      turns_calls (member_calls ns (λ v. N j (given_value g v)))
      (members_in (val e g.params) (members_at l.now l.members l.store)
      (event_beside (register l k))) (left (register l k))
  act_calls _ l ns = 0

  -- the members after an effect
  abbrev pub affect_calls : Effect → List Counter → List Counter
  affect_calls (E.Member j) ns = ns ++ N j g ∷ []
  affect_calls _ ns = ns

  -- a function's statements
  abbrev pub body_calls : Body → Local → List Counter → ℕ
  body_calls [] l ns = 0
  body_calls (S.Set a ∷ ss) l ns =
      act_calls a l ns + body_calls ss (with_register l (act val F g a l)) ns
  body_calls (S.Exit c a ∷ ss) l ns =
      if holds val F g c l then act_calls a l ns else body_calls ss l ns
  body_calls (S.Do e ∷ ss) l ns = body_calls ss (affect val F g e l) (affect_calls e ns)

-- a function, over these
abbrev pub function_calls : (Expr → List Datum → Datum → Datum) → (ℕ → Linked) → (ℕ → Counted)
    → Body → Counted
function_calls val F N b g s x = suc (body_calls val F N g b (entered s x) [])

-- function k
abbrev pub counted : List Counted → ℕ → Counted
counted ns k = get_or ns k (λ g. no_calls)

-- functions, each over the earlier ones, behind these
abbrev pub link_calls : (Expr → List Datum → Datum → Datum) → List Linked → List Counted → Code
    → List Counted
link_calls val fs ns [] = ns
link_calls val fs ns (b ∷ bs) =
    link_calls val (fs ++ body_step val (numbered fs) b ∷ [])
    (ns ++ function_calls val (numbered fs) (counted ns) b ∷ []) bs

-- at each of some samples
abbrev pub run_calls : Stepper → Counter → Bool → Store → TimedList → List ℕ
run_calls f n b s [] = []
run_calls f n b s (x ∷ xs) =
    n s (moment b x.0, x.1) ∷ run_calls f n true (f s (moment b x.0, x.1)).0 xs

-- how many steps code calls at each of some samples
abbrev pub calls_of : (Expr → List Datum → Datum → Datum) → Code → Store → TimedList → List ℕ
calls_of val c s xs =
    run_calls (numbered (link val [] c) (latest c) nothing_given)
    (counted (link_calls val [] [] c) (latest c) nothing_given) false s xs

-- at each sample at most as many as the network weighs
abbrev pub CallsLaw : Type 0
CallsLaw = (net : Network Expr) (s : Store) (xs : TimedList)
    → All (λ n. n ≤ weight net []) (calls_of value_in (code_of net) s xs)
