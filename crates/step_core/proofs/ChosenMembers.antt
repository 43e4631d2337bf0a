-- What holds of each member before an event, and of each that starts, holds of each that the event
-- chooses.
use Rattle.std.proofs.Common.{ℕ, zero, suc, pos, negsuc, List, [], ◌∷◌, ◌++◌, take}
use Rattle.sample_core.specs.Datum.{Datum, unit, bool, int, pair, no_event, event, list, left, right, items_of}
use Rattle.net_tree.specs.Network.{Network}
use Rattle.net_meaning.specs.SignalFunction.{item_at, item_named, items_named}
use Rattle.state_core.specs.State.{Scope, Frozen, unstarted, push_param, each_started, chosen_frozen}
use Rattle.step_core.specs.Runs.{EachIs}

module _ {X : Type 0} (P : X → Type 0) where
  pub each-append : (ms ns : List X) → EachIs P ms → EachIs P ns → EachIs P (ms ++ ns)
  each-append [] ns h k = k
  each-append (m ∷ ms) ns h k = (h.0, each-append ms ns h.1 k)

  pub each-take : (i : ℕ) (ms : List X) → EachIs P ms → EachIs P (take i ms)
  each-take zero ms h = tt
  each-take (suc i) [] h = tt
  each-take (suc i) (m ∷ ms) h = (h.0, each-take i ms h.1)

  each-at : (ms : List X) (k : ℕ) → EachIs P ms → EachIs P (item_at ms k)
  each-at [] k h = tt
  each-at (m ∷ ms) zero h = (h.0, tt)
  each-at (m ∷ ms) (suc k) h = each-at ms k h.1

  each-named : (ms : List X) (v : Datum) → EachIs P ms → EachIs P (item_named ms v)
  each-named ms unit h = tt
  each-named ms (bool b) h = tt
  each-named ms (int (pos k)) h = each-at ms k h
  each-named ms (int (negsuc k)) h = tt
  each-named ms (pair v w) h = tt
  each-named ms no_event h = tt
  each-named ms (event v) h = tt
  each-named ms (list vs) h = tt

  each-chosen : (ms : List X) (ks : List Datum) → EachIs P ms → EachIs P (items_named ms ks)
  each-chosen ms [] h = tt
  each-chosen ms (k ∷ ks) h = each-append (item_named ms k) (items_named ms ks) (each-named ms k h) (each-chosen ms ks h)

-- the first 64 of these are chosen
abbrev pub choices : Network ℕ → Scope ℕ → List (Frozen ℕ) → Datum → List (Frozen ℕ)
choices t s ms w = items_named ms (items_of (left w)) ++ each_started t s (items_of (right w))

module _ (P : Frozen ℕ → Type 0) (t : Network ℕ) (s : Scope ℕ) where
  -- each that starts
  abbrev pub EachStarts : List Datum → Type 0
  EachStarts vs = EachIs (λ v. P (unstarted t (push_param s v))) vs

  each-started : (vs : List Datum) → EachStarts vs → EachIs P (each_started t s vs)
  each-started [] h = tt
  each-started (v ∷ vs) h = (h.0, each-started vs h.1)

  pub each-choices : (ms : List (Frozen ℕ)) (w : Datum) → EachIs P ms → EachStarts (items_of (right w)) → EachIs P (choices t s ms w)
  each-choices ms w h k =
      each-append P (items_named ms (items_of (left w))) (each_started t s (items_of (right w))) (each-chosen P ms (items_of (left w)) h)
      (each-started (items_of (right w)) k)

  pub each-chosen_frozen : (ms : List (Frozen ℕ)) (w : Datum) → EachIs P ms → EachStarts (items_of (right w)) → EachIs P (chosen_frozen t s ms w)
  each-chosen_frozen ms w h k = each-take P 64 (choices t s ms w) (each-choices ms w h k)
