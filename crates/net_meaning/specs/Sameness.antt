-- Signals, leaves and networks that do the same on typed samples.
use Rattle.std.specs.Prelude.{◌≡◌, List, [], ◌∷◌}
use Rattle.sample_core.specs.Datum.{Datum}
use Rattle.sample_core.specs.TypeTree.{TypeTree}
use Rattle.sample_core.specs.HasType.{HasType, TypedParams}
use Rattle.net_meaning.specs.SignalFunction.{TimedList, SignalFunction, IsSignalFunction}
use Rattle.net_tree.specs.Network.{Network, Networks}
use Rattle.net_meaning.specs.Meaning.{Context, meaning, meanings}
use Rattle.net_meaning.specs.Typing.{Arrow, LeafTyping, TypedValues, TypedSamples}

-- on samples of type A both signals output the same values, of type B
pub record SameAt (A B : TypeTree) (f g : SignalFunction) : Type 0 where
  pub same : (xs : TimedList) → TypedSamples A xs → f xs ≡ g xs
  pub typed : (xs : TimedList) → TypedSamples A xs → TypedValues B (f xs)

-- signals and their twins, one by one
pub data AllSameAt (A B : TypeTree) : List SignalFunction → List SignalFunction → Type 0 where
  no_twin : AllSameAt A B [] []
  and_twin : {f g : SignalFunction} {fs gs : List SignalFunction} → IsSignalFunction f
      → IsSignalFunction g → SameAt A B f g → AllSameAt A B fs gs → AllSameAt A B (f ∷ fs) (g ∷ gs)

-- frozen networks and their twins, each at its own types
pub data AllOlds : List Arrow → List SignalFunction → List SignalFunction → Type 0 where
  no_olds : AllOlds [] [] []
  and_old : {o : Arrow} {Os : List Arrow} {f g : SignalFunction} {fs gs : List SignalFunction}
      → IsSignalFunction f → IsSignalFunction g → SameAt o.input o.output f g → AllOlds Os fs gs
      → AllOlds (o ∷ Os) (f ∷ fs) (g ∷ gs)

-- these parameters and these frozen networks in scope
abbrev pub context : List Datum → List SignalFunction → Context
context ps os = record { params = ps; olds = os }

module _ {L : Type 0} (val : L → List Datum → Datum → Datum) where
  -- typed leaves have typed values
  abbrev pub LeavesTyped : LeafTyping L → Type 0
  LeavesTyped T = (e : L) (Ps : List TypeTree) (A B : TypeTree) → T e Ps A B
      → (ps : List Datum) (x : Datum) → TypedParams Ps ps → HasType x A → HasType (val e ps x) B

  -- at typed arguments both leaves have the same value, of type B
  pub record SameLeaf (Ps : List TypeTree) (A B : TypeTree) (e e' : L) : Type 0 where
    pub leaf_same : (ps : List Datum) (x : Datum) → TypedParams Ps ps → HasType x A
        → val e ps x ≡ val e' ps x
    pub leaf_typed : (ps : List Datum) (x : Datum) → TypedParams Ps ps → HasType x A
        → HasType (val e ps x) B

  -- under equal typed parameters, and frozen networks that do the same, both networks do the same
  pub record SameNet (Ps : List TypeTree) (Os : List Arrow) (A B : TypeTree) (f g : Network L) :
      Type 0 where
    pub here : (ps : List Datum) (os os' : List SignalFunction) → TypedParams Ps ps
        → AllOlds Os os os'
        → SameAt A B (meaning val f (context ps os)) (meaning val g (context ps os'))

  -- each member does the same as its twin
  pub record SameNets (Ps : List TypeTree) (Os : List Arrow) (A B : TypeTree) (fs gs : Networks L) :
      Type 0 where
    pub here : (ps : List Datum) (os os' : List SignalFunction) → TypedParams Ps ps
        → AllOlds Os os os'
        → AllSameAt A B (meanings val fs (context ps os)) (meanings val gs (context ps os'))
