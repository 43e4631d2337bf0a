-- Typed networks in typed environments have typed answers, and alike environments give equal ones.
use Rattle.std.proofs.Common.{◌≡◌, ℕ, zero, suc, List, [], ◌∷◌, sym, ap, ◌∙◌}
use Rattle.sample_core.specs.Datum.{Datum}
use Rattle.net_meaning.specs.SignalFunction.{TimedList, SignalFunction}
use Rattle.net_tree.specs.Network.{Network}
use Rattle.net_meaning.specs.Meaning.{Context, meaning, old_at}
use Rattle.net_meaning.specs.Environment.{Environment, context_of, outputs, TypedEnvironment, closed_typed, param_typed, frozen_typed}
use Rattle.sample_core.specs.TypeTree.{TypeTree}
use Rattle.sample_core.specs.HasType.{TypedParams, no_params, and_param}
use Rattle.net_meaning.specs.Typing.{TypedValues, TypedSamples, Arrow, OldAt, old_here, old_after, LeafTyping, Typed, AnyType}
use Rattle.net_meaning.proofs.Meanings.{IsSignal-meaning, AllSignals-context_of}
use Rattle.net_meaning.proofs.Resumed.{IsSignal-resume}
use Rattle.net_meaning.proofs.SameAt.{SameAt-resume}
use Rattle.net_meaning.proofs.SameSwitches.{AllOlds-append}
use Rattle.net_meaning.proofs.SameNets.{TypedParams-append, same-typed}
use Rattle.net_meaning.specs.Sameness.{AllOlds, no_olds, and_old, LeavesTyped, SameNet}

module _ {L : Type 0} (val : L → List Datum → Datum → Datum) (T : LeafTyping L) (lt : LeavesTyped val T) where
  -- what a typed environment holds
  pub record Holds (Ps : List TypeTree) (Os : List Arrow) (E : Context) : Type 0 where
    pub scope_params : TypedParams Ps E.params
    pub scope_olds : AllOlds Os E.olds E.olds

  pub holds : (Ps : List TypeTree) (Os : List Arrow) (E : Environment L) → TypedEnvironment T Ps Os E → Holds Ps Os (context_of val E)
  holds Ps Os E closed_typed = record { scope_params = no_params; scope_olds = no_olds }
  holds Ps Os E (param_typed {Ps = Ps'} {E = E'} {c = c} {C = C} e h) =
      let r : Holds Ps' Os (context_of val E') = holds Ps' Os E' e in
      record {
        scope_params = TypedParams-append Ps' (C ∷ []) (context_of val E').params (c ∷ []) r.scope_params (and_param h no_params);
        scope_olds =
            r.scope_olds;
      }
  holds Ps Os E (frozen_typed {Qs = Qs} {Os = Os'} {Rs = Rs} {E = E'} {E' = F} {net = net} {A = A} {B = B} {p = p} {d = d} e f h k) =
      let r : Holds Ps Os' (context_of val E') = holds Ps Os' E' e in
      let q : Holds Qs Rs (context_of val F) = holds Qs Rs F f in
      let g : SignalFunction = meaning val net (context_of val F) in
      let sg = IsSignal-resume g (IsSignal-meaning val net (context_of val F) (AllSignals-context_of val F)) p d in
      record {
        scope_params = r.scope_params;
        scope_olds = AllOlds-append Os' _ (context_of val E').olds (context_of val E').olds _ _ r.scope_olds
            (and_old sg sg
            (SameAt-resume g g
            ((same-typed val T lt Qs Rs net A B h).here (context_of val F).params (context_of val F).olds (context_of val F).olds q.scope_params
            q.scope_olds) p d k) no_olds);
      }

  pub typed_outputs : (Ps : List TypeTree) (Os : List Arrow) (net : Network L) (A B : TypeTree) (E : Environment L) (xs : TimedList)
      → TypedEnvironment T Ps Os E → Typed T AnyType Ps Os net A B → TypedSamples A xs → TypedValues B (outputs val net E xs)
  typed_outputs Ps Os net A B E xs e h k =
      let r : Holds Ps Os (context_of val E) = holds Ps Os E e in
      ((same-typed val T lt Ps Os net A B h).here (context_of val E).params (context_of val E).olds (context_of val E).olds r.scope_params r.scope_olds).typed
      xs k

  -- equal parameters, and frozen networks that agree on typed lists
  pub record AlikeAt (Ps : List TypeTree) (Os : List Arrow) (E F : Environment L) : Type 0 where
    pub alike_params : (context_of val F).params ≡ (context_of val E).params
    pub alike_typed : TypedParams Ps (context_of val E).params
    pub alike_olds : AllOlds Os (context_of val E).olds (context_of val F).olds

  pub outputs_alike : (Ps : List TypeTree) (Os : List Arrow) (f g : Network L) (A B : TypeTree) (E F : Environment L) (xs : TimedList) → AlikeAt Ps Os E F
      → SameNet val Ps Os A B f g → TypedSamples A xs → outputs val f E xs ≡ outputs val g F xs
  outputs_alike Ps Os f g A B E F xs a s k =
      (s.here (context_of val E).params (context_of val E).olds (context_of val F).olds a.alike_typed a.alike_olds).same xs k
      ∙ ap (λ ps. meaning val g (record { params = ps; olds = (context_of val F).olds }) xs) (sym a.alike_params)

-- typed frozen networks that give equal lists, one by one, are alike
pub alike_from_equal : (Os : List Arrow) (os qs : List SignalFunction) → AllOlds Os os os → AllOlds Os qs qs
    → ((k : ℕ) (o : Arrow) → OldAt Os k o → (xs : TimedList) → TypedSamples o.input xs → old_at os k xs ≡ old_at qs k xs) → AllOlds Os os qs
alike_from_equal [] [] [] a b e = no_olds
alike_from_equal [] [] (q ∷ qs) a b e = elim b [ ]
alike_from_equal [] (f ∷ os) qs a b e = elim a [ ]
alike_from_equal (o ∷ Os) [] qs a b e = elim a [ ]
alike_from_equal (o ∷ Os) (f ∷ os) [] a b e = elim b [ ]
alike_from_equal (o ∷ Os) (f ∷ os) (q ∷ qs) (and_old sf sf' h a) (and_old sq sq' i b) e =
    and_old sf sq (record { same = e zero o old_here; typed = h.typed }) (alike_from_equal Os os qs a b (λ k p j. e (suc k) p (old_after j)))
