-- What a scope stands for: an environment, binder by binder.
use Rattle.std.specs.Prelude.{◌≡◌, ℕ, List, [], ◌∷◌}
use Rattle.sample_core.specs.Datum.{Datum}
use Rattle.net_meaning.specs.SignalFunction.{TimedList}
use Rattle.net_tree.specs.Network.{Network}
use Rattle.net_meaning.specs.Environment.{Environment, closed, param, frozen, context_of}
use Rattle.state_core.specs.CountedForms.{counted_resume, counts_of_all}
use Rattle.state_core.specs.CountedContext.{CountedContext, context_in, context_with_param, context_with_olds, counted_meaning}
use Rattle.state_core.specs.State.{State, Scope, Frozen, scope, no_frozen, unstarted, paused, push_param, push_old}
use Rattle.state_core.specs.Stands.{Denotes, FrozenDenotes, Stands}
use Rattle.step_core.specs.EnvironmentVisits.{counts_of}

-- what an environment's parameters and frozen networks are, with their visits
abbrev pub counted_context_of : {L : Type 0} → (L → List Datum → Datum → Datum) → Environment L
    → CountedContext
counted_context_of val closed = record { params = []; olds = [] }
counted_context_of val (param E c) = context_with_param (counted_context_of val E) c
counted_context_of val (frozen E net E' p d) = context_with_olds (counted_context_of val E)
    (counted_resume (counted_meaning val net (counted_context_of val E')) p d ∷ [])

-- the scope stands for the environment: it has its parameters, and its frozen networks stand for
-- those of the environment
abbrev pub StandsForEnvironment : {L : Type 0} → (L → List Datum → Datum → Datum) → Scope L
    → Environment L → Type 0
StandsForEnvironment val s E = Denotes val s (counted_context_of val E)

-- the frozen network stands for this network in this environment, after this past, which resumes
-- with this step
abbrev pub StandsForEntry : {L : Type 0} → (L → List Datum → Datum → Datum) → Frozen L → Network L
    → Environment L → TimedList → ℕ → Type 0
StandsForEntry val f net E p d = FrozenDenotes val f
    (counted_resume (counted_meaning val net (counted_context_of val E)) p d)

-- What scopes stand for grows as they do. An empty scope stands for the closed environment; one
-- parameter more and one frozen network more append to the environment. A network frozen before
-- its first sample has no past; one frozen later has the past that its state stands for. What an
-- environment stands for here is its context, and the counts of its frozen networks.
pub record ScopeLaw (val : ℕ → List Datum → Datum → Datum) : Type 0 where
  pub empty : StandsForEnvironment val (scope [] no_frozen) closed
  pub with_param : (s : Scope ℕ) (E : Environment ℕ) (c : Datum) → StandsForEnvironment val s E
      → StandsForEnvironment val (push_param s c) (param E c)
  pub with_old : (s : Scope ℕ) (E : Environment ℕ) (f : Frozen ℕ) (net : Network ℕ)
      (E' : Environment ℕ) (p : TimedList) (d : ℕ) → StandsForEnvironment val s E
      → StandsForEntry val f net E' p d
      → StandsForEnvironment val (push_old s f) (frozen E net E' p d)
  pub frozen_new : (net : Network ℕ) (s : Scope ℕ) (E : Environment ℕ) (d : ℕ)
      → StandsForEnvironment val s E → StandsForEntry val (unstarted net s) net E [] d
  pub frozen_later : (a : State ℕ) (net : Network ℕ) (E : Environment ℕ) (p : TimedList) (d : ℕ)
      → Stands val a (counted_meaning val net (counted_context_of val E)) p
      → StandsForEntry val (paused a d) net E p d
  pub same_context : (E : Environment ℕ)
      → context_in (counted_context_of val E) ≡ context_of val E
  pub same_counts : (E : Environment ℕ)
      → counts_of_all (counted_context_of val E).olds ≡ counts_of val E

-- the same whatever the rows' expressions compute
abbrev pub ScopesLaw : Type 0
ScopesLaw = (val : ℕ → List Datum → Datum → Datum) → ScopeLaw val
