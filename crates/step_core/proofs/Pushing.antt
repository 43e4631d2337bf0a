-- What a push answers is the next output of the network's stream, and the runner stands for one sample more.
use Rattle.std.proofs.Common.{◌≡◌, ℕ, suc, ◌≤◌, List, [], ◌∷◌, ◌++◌, Option, Some, None, Bor, option_copied, length, refl, sym, ap, ◌∙◌, subst, arith, length-append, add-one}
use Rattle.std.proofs.Math.Logic.{∥∥₁_map}
use Rattle.sample_core.specs.Datum.{Datum}
use Rattle.sample_core.specs.TypeTree.{TypeTree}
use Rattle.sample_core.specs.HasType.{HasType}
use Rattle.leaf_core.specs.ExpressionValue.{value_of}
use Rattle.net_meaning.specs.Environment.{closed, context_of, outputs}
use Rattle.net_tree.specs.Network.{Network}
use Rattle.net_meaning.specs.SignalFunction.{TimedList, last_or}
use Rattle.net_meaning.specs.TypedNetwork.{stream_of}
use Rattle.net_tree.specs.Weight.{weight}
use Rattle.net_tree.proofs.MappedMeasures.{weight_map}
use Rattle.state_core.specs.CountedContext.{counted_meaning}
use Rattle.state_core.specs.CountedFunction.{TakesSample}
use Rattle.state_core.specs.EmptyScope.{empty_context, empty_scope}
use Rattle.state_core.specs.Stands.{Stands}
use Rattle.state_core.specs.State.{State, Scope, Frozen, scope, no_frozen, unstarted, paused}
use Rattle.step_core.specs.Binding.{FitsTable}
use Rattle.step_core.specs.EnvironmentVisits.{visits_of}
use Rattle.step_core.specs.RowTyping.{row_expression}
use Rattle.step_core.specs.RunnerState.{RunnerState, network_in, HasState, StandsAfter, StandsFor, HasPast, Pushes}
use Rattle.step_core.specs.Runs.{Ran, RunsWhere}
use Rattle.step_core.specs.StateTyping.{FrozenTyped, unstarted_typed, paused_typed, row_value}
use Rattle.state_core.specs.StateView.{state_of, frozen_from}
use Rattle.state_core.specs.declared.state.State.{State as CodeState}
use Rattle.step_core.specs.StateOption.{state_in}
use Rattle.step_core.specs.Stepping as G
use Rattle.step_core.specs.Stepping.{Resumes}
use Rattle.step_core.proofs.EnvironmentBounds.{IsCount-visited}
use Rattle.step_core.proofs.MappedNetworks.{meaning-map, visits-map}
use Rattle.step_core.proofs.Runners.{Pushed, pushed, first_push, next_push}
use Rattle.step_core.proofs.StateTypings.{empty_typed, resumes_typed}

-- the runner one sample later
abbrev pub later : RunnerState → State ℕ → ℕ → RunnerState
later r a n = record { input = r.input; keys = r.keys; rows = r.rows; state = Some a; samples = suc r.samples; visits = n }

module _ (r : RunnerState) where
  -- what the network over rows outputs and visits is what the network of their expressions does
  same_outputs : (xs : TimedList) → outputs (row_value r.keys) r.rows closed xs ≡ stream_of (network_in r) xs
  same_outputs xs = sym (λ i. meaning-map (row_expression r.keys) value_of r.rows (context_of value_of closed) i xs)

  same_visits : (xs : TimedList) → visits_of (row_value r.keys) r.rows closed xs ≡ visits_of value_of (network_in r) closed xs
  same_visits xs = sym (λ i. visits-map (row_expression r.keys) value_of r.rows (context_of value_of closed) [] i xs)

  same_weight : weight r.rows [] ≡ weight (network_in r) []
  same_weight = sym (weight_map (row_expression r.keys) r.rows [])

  -- what one sample more leads to
  record Later (p : TimedList) (x : ℕ × Datum) (y : Datum) (now : RunnerState) : Type 0 where
    stands : StandsFor now (p ++ x ∷ [])
    answers : stream_of (network_in r) (p ++ x ∷ []) ≡ stream_of (network_in r) p ++ y ∷ []
    bounded : now.visits ≤ weight (network_in r) []

  -- behind samples that a state stands for there is a state
  has_state : (p : TimedList) (x : ℕ × Datum) (now : RunnerState) → HasState now (p ++ x ∷ []) → StandsAfter now (p ++ x ∷ [])
  has_state [] x now h = h
  has_state (z ∷ p) x now h = h

  after_one : (f : Frozen ℕ) (p : TimedList) (x : ℕ × Datum) (y : Datum) (a : State ℕ) (m : ℕ) (B : TypeTree) → StandsFor r p → FrozenTyped r.keys f r.input B
      → HasType x.1 r.input → (ran : Ran r.keys f x.1 a y m)
      → TakesSample (Stands (row_value r.keys) a) (counted_meaning (row_value r.keys) r.rows empty_context) p x y ran.visits → Later p x y (later r a m)
  after_one f p x y a m B s ft t ran took =
      let one : Pushed (row_value r.keys) r.rows p x y ran.visits = pushed (row_value r.keys) r.rows p x y ran.visits took in
      let light : ran.visits ≤ 1000000 = omega (arith, one.bounded, same_weight, s.light) in
      let counted : m ≡ ran.visits = ran.is_count (omega (arith, light)) in
      let typed = resumes_typed r.keys ran.resumes ft t in
      record {
        stands = record {
          counted = ap suc s.counted ∙ sym (length-append p (x ∷ []) ∙ add-one (length p));
          visited = counted ∙ one.counted ∙ ap (last_or 0) (same_visits (p ++ x ∷ []));
          light = s.light;
          holds_past = has_state p x (later r a m)
              (record { output = B; its = a; is_state = refl; typed = typed.0; stands = took.stands });
        };
        answers = sym (same_outputs (p ++ x ∷ [])) ∙ one.one_more ∙ ap (λ o. o ++ y ∷ []) (same_outputs p);
        bounded = omega (arith, counted, one.bounded, same_weight);
      }

  -- the next output and the next state, once each past leads there
  pushes : (x : ℕ × Datum) (y : Datum) (a : State ℕ) (m : ℕ) → ((p : TimedList) → StandsFor r p → Later p x y (later r a m)) → Pushes r x y (later r a m)
  pushes x y a m h = record {
    same_network = refl;
    same_input = refl;
    counted = refl;
    stands = λ p s. (h p s).stands;
    answers = λ p s. (h p s).answers;
    visits = λ p s. (h p s).stands.visited;
    bounded = λ p s. (h p s).bounded;
  }

  -- the first sample
  pub first_pushed : (x : ℕ × Datum) (y : Datum) (a : State ℕ) (m : ℕ) → r.state ≡ None → HasType x.1 r.input
      → RunsWhere r.keys (unstarted r.rows empty_scope) x.1 a y m → Pushes r x y (later r a m)
  first_pushed x y a m none t runs = pushes x y a m one
    where
      one : (p : TimedList) → StandsFor r p → Later p x y (later r a m)
      one [] s =
          let typed : FrozenTyped r.keys (unstarted r.rows empty_scope) r.input s.holds_past.output = unstarted_typed s.holds_past.typed (empty_typed r.keys) in
          let ran : Ran r.keys (unstarted r.rows empty_scope) x.1 a y m = runs r.input s.holds_past.output typed t in
          after_one (unstarted r.rows empty_scope) [] x y a m s.holds_past.output s typed t ran (taken ran.resumes)
        where
          taken : {n : ℕ} → Resumes (row_value r.keys) (unstarted r.rows empty_scope) x.1 a y n
              → TakesSample (Stands (row_value r.keys) a) (counted_meaning (row_value r.keys) r.rows empty_context) [] x y n
          taken (G.resume_unstarted k) = first_push (row_value r.keys) r.rows k x.0
      one (z ∷ p) s = absurd (let some = s.holds_past.is_state in cc)

  -- a further sample
  pub next_pushed : (x : ℕ × Datum) (y : Datum) (b a : State ℕ) (m : ℕ) → r.state ≡ Some b → HasType x.1 r.input
      → RunsWhere r.keys (paused b x.0) x.1 a y m → Pushes r x y (later r a m)
  next_pushed x y b a m some t runs = pushes x y a m one
    where
      one : (p : TimedList) → StandsFor r p → Later p x y (later r a m)
      one [] s = absurd (let none = s.holds_past.no_state in cc)
      one (z ∷ p) s =
          let same : s.holds_past.its ≡ b = cc in
          let typed : FrozenTyped r.keys (paused b x.0) r.input s.holds_past.output =
          subst (λ o. FrozenTyped r.keys (paused o x.0) r.input s.holds_past.output) same (paused_typed s.holds_past.typed) in
          let ran : Ran r.keys (paused b x.0) x.1 a y m = runs r.input s.holds_past.output typed t in
          after_one (paused b x.0) (z ∷ p) x y a m s.holds_past.output s typed t ran (taken same s.holds_past.stands ran.resumes)
        where
          taken : {n : ℕ} {c : State ℕ} → c ≡ b → Stands (row_value r.keys) c (counted_meaning (row_value r.keys) r.rows empty_context) (z ∷ p)
              → Resumes (row_value r.keys) (paused b x.0) x.1 a y n
              → TakesSample (Stands (row_value r.keys) a) (counted_meaning (row_value r.keys) r.rows empty_context) (z ∷ p) x y n
          taken e st (G.resume_paused k) = next_push (row_value r.keys) r.rows k (z ∷ p)
              (subst (λ o. Stands (row_value r.keys) o (counted_meaning (row_value r.keys) r.rows empty_context) (z ∷ p)) e st)

-- one sample on there are samples still
pub past_later : (r now : RunnerState) (x : ℕ × Datum) (y : Datum) → HasPast r → Pushes r x y now → HasPast now
past_later r now x y h one = ∥∥₁_map h (λ s. (s.0 ++ x ∷ [], one.stands s.0 s.1))

none_last : (ns : List ℕ) → length ns ≡ 0 → 0 ≡ last_or 0 ns
none_last [] h = refl
none_last (n ∷ ns) h = absurd (omega (arith, h))

-- before its first sample
pub new_stands : (r : RunnerState) → r.samples ≡ 0 → r.visits ≡ 0 → r.state ≡ None → FitsTable r.keys (record { input = r.input; rows = r.rows })
    → StandsFor r []
new_stands r none unvisited nothing h = record {
  counted = none;
  visited = unvisited ∙ none_last _ ((IsCount-visited value_of (network_in r) closed).counted []);
  light = omega (arith, h.2, same_weight r);
  holds_past = record { output = h.0; typed = h.1; no_state = nothing };
}

-- the first sample, where the network and its scope are these by equations
pub first_pushed_from : (r : RunnerState) (x : ℕ × Datum) (y : Datum) (a : State ℕ) (m : ℕ) (rows : Network ℕ) (s : Scope ℕ) → r.state ≡ None
    → HasType x.1 r.input → rows ≡ r.rows → s ≡ scope [] no_frozen → RunsWhere r.keys (unstarted rows s) x.1 a y m → Pushes r x y (later r a m)
first_pushed_from r x y a m rows s none t same empty runs = first_pushed r x y a m none t
    (subst (λ o. RunsWhere r.keys (unstarted r.rows o) x.1 a y m) empty
    (subst (λ o. RunsWhere r.keys (unstarted o s) x.1 a y m) same runs))

-- the same for a runner whose values are these by equations
pub pushed_as : (r : RunnerState) (x : ℕ × Datum) (y y' : Datum) (a : State ℕ) (m m' n : ℕ) (s : Option (State ℕ)) → s ≡ Some a → n ≡ suc r.samples
    → m' ≡ m → y' ≡ y → Pushes r x y (later r a m)
    → Pushes r x y' (record { input = r.input; keys = r.keys; rows = r.rows; state = s; samples = n; visits = m' })
pushed_as r x y y' a m m' n s e k v w one =
    subst (λ o. Pushes r x y' (record { input = r.input; keys = r.keys; rows = r.rows; state = o; samples = n; visits = m' })) (sym e)
    (subst (λ o. Pushes r x y' (record { input = r.input; keys = r.keys; rows = r.rows; state = Some a; samples = o; visits = m' })) (sym k)
    (subst (λ o. Pushes r x y' (later r a o)) (sym v) (subst (λ o. Pushes r x o (later r a m)) (sym w) one)))

-- the first sample, or a further one, by the state that was found
pub pushed_from : (r : RunnerState) (x : ℕ × Datum) (y : Datum) (a : State ℕ) (m : ℕ) (rows : Network ℕ) (s : Scope ℕ) (o : Option (Bor CodeState))
    → r.state ≡ state_in (option_copied o) → HasType x.1 r.input → rows ≡ r.rows → s ≡ scope [] no_frozen
    → RunsWhere r.keys (frozen_from rows s o x.0) x.1 a y m → Pushes r x y (later r a m)
pushed_from r x y a m rows s None none t same empty runs = first_pushed_from r x y a m rows s none t same empty runs
pushed_from r x y a m rows s (Some b) some t same empty runs = next_pushed r x y (state_of b.now) a m some t runs
