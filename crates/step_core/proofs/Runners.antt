-- What a push answers is the next output of the meaning; what it visits is counted, and at most the weight.
use Rattle.std.proofs.Common.{◌≡◌, ℕ, ◌≤◌, List, [], ◌∷◌, ◌++◌, refl, sym, ap, ◌∙◌, arith}
use Rattle.sample_core.specs.Datum.{Datum}
use Rattle.net_meaning.specs.SignalFunction.{TimedList, last_or}
use Rattle.net_tree.specs.Network.{Network}
use Rattle.net_meaning.specs.Environment.{closed, outputs}
use Rattle.step_core.specs.EnvironmentVisits.{visits_of}
use Rattle.net_tree.specs.Weight.{weight}
use Rattle.state_core.specs.Visits.{AtMost, no_item, and_item}
use Rattle.state_core.specs.CountedFunction.{CountedFunction, IsCountedFunction, TakesSample}
use Rattle.state_core.specs.CountedContext.{counted_meaning}
use Rattle.state_core.specs.State.{State}
use Rattle.state_core.specs.Stands.{Stands}
use Rattle.step_core.specs.Stepping.{Starts, Steps}
use Rattle.state_core.specs.EmptyScope.{empty_context, empty_scope}
use Rattle.net_meaning.proofs.Steps.{signal-push}
use Rattle.step_core.proofs.EnvironmentBounds.{IsCount-visited}
use Rattle.step_core.proofs.MemberCounts.{no_counted}
use Rattle.step_core.proofs.CountedContexts.{IsCounted-counted}
use Rattle.step_core.proofs.EngineMeets.{starts, steps}

AtMost-last : (w a : ℕ) (ns : List ℕ) → a ≤ w → AtMost w ns → last_or a ns ≤ w
AtMost-last w a [] l no_item = l
AtMost-last w a (n ∷ ns) l (and_item k m) = AtMost-last w n ns k m

module _ {L : Type 0} (val : L → List Datum → Datum → Datum) (net : Network L) where
  pub first_push : {x : Datum} {a : State L} {y : Datum} {n : ℕ} → Starts val net empty_scope x a y n → (d : ℕ)
      → TakesSample (Stands val a) (counted_meaning val net empty_context) [] (d, x) y n
  first_push k d = starts val k empty_context d (refl, tt)

  pub next_push : {a b : State L} {x : ℕ × Datum} {y : Datum} {n : ℕ} → Steps val a x b y n → (p : TimedList)
      → Stands val a (counted_meaning val net empty_context) p → TakesSample (Stands val b) (counted_meaning val net empty_context) p x y n
  next_push k p s = steps val k (counted_meaning val net empty_context) p s

  -- what a push answers, in the words of meanings and visits
  pub record Pushed (p : TimedList) (x : ℕ × Datum) (y : Datum) (n : ℕ) : Type 0 where
    pub one_more : outputs val net closed (p ++ x ∷ []) ≡ outputs val net closed p ++ y ∷ []
    pub counted : n ≡ last_or 0 (visits_of val net closed (p ++ x ∷ []))
    pub bounded : n ≤ weight net []

  pub pushed : {P : CountedFunction → TimedList → Type 0} (p : TimedList) (x : ℕ × Datum) (y : Datum) (n : ℕ)
      → TakesSample P (counted_meaning val net empty_context) p x y n → Pushed p x y n
  pushed p x y n t =
      let c : IsCountedFunction (counted_meaning val net empty_context) = IsCounted-counted val net empty_context no_counted in
      let most : last_or 0 (visits_of val net closed (p ++ x ∷ [])) ≤ weight net [] =
      AtMost-last (weight net []) 0 (visits_of val net closed (p ++ x ∷ [])) (omega arith) ((IsCount-visited val net closed).bounded (p ++ x ∷ [])) in
      let e : n ≡ last_or 0 (visits_of val net closed (p ++ x ∷ [])) = t.counted in
      record {
        one_more = signal-push (counted_meaning val net empty_context).function c.is_signal_function p x
            ∙ ap (λ v. outputs val net closed p ++ v ∷ []) (sym t.answered);
        counted = e;
        bounded = omega arith;
      }
