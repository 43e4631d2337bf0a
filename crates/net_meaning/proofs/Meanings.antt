-- Every network denotes a signal, where the frozen networks in scope do.
use Rattle.std.proofs.Common.{◌≡◌, ℕ, zero, suc, List, [], ◌∷◌, ◌++◌, length, take}
use Rattle.sample_core.specs.Datum.{Datum, unit}
use Rattle.net_meaning.specs.SignalFunction.{TimedList, SignalFunction, retime, IsSignalFunction}
use Rattle.net_tree.specs.Network.{Network, Networks, arr, seq, first, par, loop_pre, initial_out, initial_in, i_pre, delay, hold, accum_by, after, repeatedly, time, integral, switch, r_switch, rp_switch, k_switch, p_switch, old, no_members, and_member}
use Rattle.net_meaning.specs.Meaning.{Context, with_param, with_olds, old_at, meaning, meanings}
use Rattle.net_meaning.specs.Environment.{Environment, context_of, outputs, closed, param, frozen}
use Rattle.net_meaning.proofs.Cells.{IsSignal-values, IsSignal-previous_of, IsSignal-delay_value, IsSignal-latest_event, IsSignal-accumulation, IsSignal-after_value, IsSignal-repeatedly_value, IsSignal-clock, IsSignal-integral_value}
use Rattle.net_meaning.proofs.Plain.{AllSignals, no_signal, and_signal, IsSignal-sequence, IsSignal-on_left, IsSignal-in_parallel, IsSignal-part}
use Rattle.net_meaning.proofs.Feedback.{IsSignal-feedback}
use Rattle.net_meaning.proofs.Resumed.{IsSignal-resume}
use Rattle.net_meaning.proofs.Switches.{IsSignal-switching, IsSignal-switching_on, IsSignal-switching_all}
use Rattle.net_meaning.proofs.Restarting.{IsSignal-restarting}
use Rattle.net_meaning.proofs.Openings.{IsSignal-initial_out, IsSignal-initial_in}
use Rattle.net_meaning.proofs.Collections.{IsSignal-reselecting}

pub AllSignals-append : (fs gs : List SignalFunction) → AllSignals fs → AllSignals gs → AllSignals (fs ++ gs)
AllSignals-append [] gs s r = r
AllSignals-append (f ∷ fs) gs (and_signal sf s) r = and_signal sf (AllSignals-append fs gs s r)

pub IsSignal-old_at : (fs : List SignalFunction) → AllSignals fs → (k : ℕ) → IsSignalFunction (old_at fs k)
IsSignal-old_at [] s k = IsSignal-values
IsSignal-old_at (f ∷ fs) (and_signal sf s) zero = sf
IsSignal-old_at (f ∷ fs) (and_signal sf s) (suc k) = IsSignal-old_at fs s k

mutual
  pub IsSignal-meaning : {L : Type 0} (val : L → List Datum → Datum → Datum) (net : Network L) (E : Context) → AllSignals E.olds
      → IsSignalFunction (meaning val net E)
  IsSignal-meaning val (arr e) E s = IsSignal-part (val e E.params)
  IsSignal-meaning val (seq f g) E s = IsSignal-sequence (meaning val f E) (meaning val g E) (IsSignal-meaning val f E s) (IsSignal-meaning val g E s)
  IsSignal-meaning val (first f) E s = IsSignal-on_left (meaning val f E) (IsSignal-meaning val f E s)
  IsSignal-meaning val (par fs) E s = IsSignal-in_parallel (meanings val fs E) (AllSignals-meanings val fs E s)
  IsSignal-meaning val (loop_pre c f) E s = IsSignal-feedback (val c E.params unit) (meaning val f E) (IsSignal-meaning val f E s)
  IsSignal-meaning val (i_pre c) E s = IsSignal-previous_of (val c E.params unit)
  IsSignal-meaning val (delay q c) E s = IsSignal-delay_value q (val c E.params unit)
  IsSignal-meaning val (hold c) E s = IsSignal-latest_event (val c E.params unit)
  IsSignal-meaning val (accum_by g z) E s = IsSignal-accumulation (val g E.params) (val z E.params unit)
  IsSignal-meaning val (after q c) E s = IsSignal-after_value q (val c E.params unit)
  IsSignal-meaning val (repeatedly q c) E s = IsSignal-repeatedly_value q (val c E.params unit)
  IsSignal-meaning val time E s = IsSignal-clock
  IsSignal-meaning val integral E s = IsSignal-integral_value
  IsSignal-meaning val (switch tm f t) E s = IsSignal-switching tm (meaning val f E) (λ c. meaning val t (with_param E c)) (IsSignal-meaning val f E s)
      (λ c. IsSignal-meaning val t (with_param E c) s)
  IsSignal-meaning val (r_switch tm f t) E s = IsSignal-restarting tm (λ c. meaning val t (with_param E c)) (λ c. IsSignal-meaning val t (with_param E c) s)
      (meaning val f E) (IsSignal-meaning val f E s)
  IsSignal-meaning val (k_switch f e t) E s =
      IsSignal-switching_on (meaning val f E) (meaning val e E) (λ c o. meaning val t (with_olds (with_param E c) (o ∷ [])))
      (IsSignal-meaning val f E s) (IsSignal-meaning val e E s)
      (λ c o so. IsSignal-meaning val t (with_olds (with_param E c) (o ∷ [])) (AllSignals-append E.olds (o ∷ []) s (and_signal so no_signal)))
  IsSignal-meaning val (p_switch r fs e t) E s =
      IsSignal-switching_all (val r E.params) (meanings val fs E) (meaning val e E) (λ c os. meaning val t (with_olds (with_param E c) os))
      (AllSignals-meanings val fs E s) (IsSignal-meaning val e E s)
      (λ c os so. IsSignal-meaning val t (with_olds (with_param E c) os) (AllSignals-append E.olds os s so))
  IsSignal-meaning val (old k) E s = IsSignal-old_at E.olds s k
  IsSignal-meaning val (initial_out c f) E s = IsSignal-initial_out (val c E.params unit) (meaning val f E) (IsSignal-meaning val f E s)
  IsSignal-meaning val (initial_in c f) E s = IsSignal-initial_in (val c E.params unit) (meaning val f E) (IsSignal-meaning val f E s)
  IsSignal-meaning val (rp_switch fs m t) E s = IsSignal-reselecting (val m E.params) (λ v. meaning val t (with_param E v))
      (λ v. IsSignal-meaning val t (with_param E v) s) (meanings val fs E) (AllSignals-meanings val fs E s)

  pub AllSignals-meanings : {L : Type 0} (val : L → List Datum → Datum → Datum) (fs : Networks L) (E : Context) → AllSignals E.olds
      → AllSignals (meanings val fs E)
  AllSignals-meanings val no_members E s = no_signal
  AllSignals-meanings val (and_member f fs) E s = and_signal (IsSignal-meaning val f E s) (AllSignals-meanings val fs E s)

-- environments as data have signals alone
pub AllSignals-context_of : {L : Type 0} (val : L → List Datum → Datum → Datum) (E : Environment L) → AllSignals (context_of val E).olds
AllSignals-context_of val closed = no_signal
AllSignals-context_of val (param E c) = AllSignals-context_of val E
AllSignals-context_of val (frozen E net E' p d) =
    AllSignals-append (context_of val E).olds _ (AllSignals-context_of val E)
    (and_signal (IsSignal-resume (meaning val net (context_of val E')) (IsSignal-meaning val net (context_of val E') (AllSignals-context_of val E')) p d)
    no_signal)

-- the laws of every network in every environment
pub length-outputs : {L : Type 0} (val : L → List Datum → Datum → Datum) (net : Network L) (E : Environment L) (xs : TimedList)
    → length (outputs val net E xs) ≡ length xs
length-outputs val net E = (IsSignal-meaning val net (context_of val E) (AllSignals-context_of val E)).sized

pub outputs-take : {L : Type 0} (val : L → List Datum → Datum → Datum) (net : Network L) (E : Environment L) (n : ℕ) (xs : TimedList)
    → outputs val net E (take n xs) ≡ take n (outputs val net E xs)
outputs-take val net E = (IsSignal-meaning val net (context_of val E) (AllSignals-context_of val E)).causal

pub outputs-retime : {L : Type 0} (val : L → List Datum → Datum → Datum) (net : Network L) (E : Environment L) (d : ℕ) (xs : TimedList)
    → outputs val net E (retime d xs) ≡ outputs val net E xs
outputs-retime val net E = (IsSignal-meaning val net (context_of val E) (AllSignals-context_of val E)).timeless
