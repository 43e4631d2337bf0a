-- Environments as data: binder by binder, the innermost last.
use Rattle.std.specs.Prelude.{ℕ, List, [], ◌∷◌, ◌++◌}
use Rattle.sample_core.specs.Datum.{Datum}
use Rattle.net_meaning.specs.SignalFunction.{TimedList, resume}
use Rattle.net_tree.specs.Network.{Network}
use Rattle.net_meaning.specs.Meaning.{Context, meaning, with_param, with_olds}
use Rattle.sample_core.specs.TypeTree.{TypeTree}
use Rattle.sample_core.specs.HasType.{HasType}
use Rattle.net_meaning.specs.Typing.{TypedSamples, Arrow, LeafTyping, Typed, AnyType, arrow}

-- nothing in scope; one parameter more; one frozen network more, with its own environment, its past
-- and the step that it was frozen with
pub data Environment (L : Type 0) : Type 0 where
  closed : Environment L
  param : Environment L → Datum → Environment L
  frozen : Environment L → Network L → Environment L → TimedList → ℕ → Environment L

-- what is in scope there: each frozen network once resumed
abbrev pub context_of : {L : Type 0} → (L → List Datum → Datum → Datum) → Environment L → Context
context_of val closed = record { params = []; olds = [] }
context_of val (param E c) = with_param (context_of val E) c
context_of val (frozen E net E' p d) =
    with_olds (context_of val E) (resume (meaning val net (context_of val E')) p d ∷ [])

-- what a network outputs in an environment
abbrev pub outputs : {L : Type 0} → (L → List Datum → Datum → Datum) → Network L → Environment L
    → TimedList → List Datum
outputs val net E xs = meaning val net (context_of val E) xs

-- the parameters have the types, and each frozen network is typed in its own environment, after a
-- past of its input type
pub data TypedEnvironment {L : Type 0} (T : LeafTyping L) : List TypeTree → List Arrow
    → Environment L → Type 0 where
  closed_typed : TypedEnvironment T [] [] closed
  param_typed : {Ps : List TypeTree} {Os : List Arrow} {E : Environment L} {c : Datum}
      {C : TypeTree}
      → TypedEnvironment T Ps Os E → HasType c C → TypedEnvironment T (Ps ++ C ∷ []) Os (param E c)
  frozen_typed : {Ps Qs : List TypeTree} {Os Rs : List Arrow} {E E' : Environment L}
      {net : Network L}
      {A B : TypeTree} {p : TimedList} {d : ℕ}
      → TypedEnvironment T Ps Os E → TypedEnvironment T Qs Rs E' → Typed T AnyType Qs Rs net A B
      → TypedSamples A p → TypedEnvironment T Ps (Os ++ arrow A B ∷ []) (frozen E net E' p d)
