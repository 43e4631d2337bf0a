-- The answers of a switch: before its event as its parts; from the event on what takes over.
use Rattle.std.proofs.Common.{◌≡◌, ℕ, suc, List, [], ◌∷◌, ◌++◌, length, take, drop, refl, sym, ap, ◌∙◌, arith, Option, Some, None, append_assoc}
use Rattle.std.proofs.lemmas.List.{take_at, drop_at}
use Rattle.sample_core.specs.Datum.{Datum, unit, event}
use Rattle.net_tree.specs.Network.{Timing, at_once, delayed}
use Rattle.net_meaning.specs.SignalFunction.{TimedList, SignalFunction, last_or, first_event, later, step_of, switch_at, resume, IsSignalFunction, answer}
use Rattle.net_meaning.proofs.Events.{IsPlain}
use Rattle.net_meaning.proofs.Switched.{switch_at-none, switch_at-some}
use Rattle.net_meaning.proofs.Switches.{late}
use Rattle.net_meaning.proofs.Steps.{last_or-push, signal-push, signal-append}

later-none : (o : Option (ℕ × Datum)) → later o ≡ None → o ≡ None
later-none None e = refl
later-none (Some p) e = cc

-- an event behind values without one
pub first_event-append : (vs : List Datum) (c : Datum) (ws : List Datum) → first_event vs ≡ None → first_event (vs ++ event c ∷ ws) ≡ Some (length vs, c)
first_event-append [] c ws e = refl
first_event-append (event d ∷ vs) c ws e = cc
first_event-append (v ∷ vs) c ws e = ap later (first_event-append vs c ws (later-none (first_event vs) e))

-- a value without an event behind such
pub first_event-push : (vs : List Datum) (v : Datum) → first_event vs ≡ None → IsPlain v → first_event (vs ++ v ∷ []) ≡ None
first_event-push [] v e p = p []
first_event-push (event d ∷ vs) v e p = cc
first_event-push (w ∷ vs) v e p = ap later (first_event-push vs v (later-none (first_event vs) e) p)

module _ (f e : SignalFunction) (t : Datum → TimedList → ℕ → SignalFunction) (sf : IsSignalFunction f) (se : IsSignalFunction e) where
  -- no event yet, and none at the new sample
  pub quiet_push : (p : TimedList) (x : ℕ × Datum) → first_event (e p) ≡ None → IsPlain (answer e p x) → first_event (e (p ++ x ∷ [])) ≡ None
  quiet_push p x i q = ap first_event (signal-push e se p x) ∙ first_event-push (e p) (answer e p x) i q

  pub answer_before : (p : TimedList) (x : ℕ × Datum) → first_event (e (p ++ x ∷ [])) ≡ None → answer (switch_at f e t) p x ≡ answer f p x
  answer_before p x i = ap (last_or unit) (switch_at-none f e t (p ++ x ∷ []) i)

  pub event_seen : (p : TimedList) (x : ℕ × Datum) (c : Datum) (rest : TimedList) → first_event (e p) ≡ None → answer e p x ≡ event c
      → first_event (e (p ++ x ∷ rest)) ≡ Some (length p, c)
  event_seen p x c rest i a =
      let q : TimedList = p ++ x ∷ [] in
      let ws : List Datum = drop (length q) (e (q ++ rest)) in
      ap (λ ys. first_event (e ys)) (sym (append_assoc p (x ∷ []) rest))
      ∙ ap first_event (signal-append e se q rest ∙ ap (λ vs. vs ++ ws) (signal-push e se p x ∙ ap (λ v. e p ++ v ∷ []) a)
      ∙ append_assoc (e p) (event c ∷ []) ws)
      ∙ first_event-append (e p) c ws i
      ∙ ap (λ n. Some (n, c)) (se.sized p)

  -- at the event, and ever after
  pub switch_at_place : (p : TimedList) (x : ℕ × Datum) (c : Datum) (rest : TimedList) → first_event (e p) ≡ None → answer e p x ≡ event c
      → switch_at f e t (p ++ x ∷ rest) ≡ f p ++ t c p x.0 (x ∷ rest)
  switch_at_place p x c rest i a =
      let n : ℕ = length p in
      switch_at-some f e t (p ++ x ∷ rest) n c (event_seen p x c rest i a)
      ∙ ap (λ r. take n (f (p ++ x ∷ rest)) ++ t c (take n (p ++ x ∷ rest)) (step_of r) r) (drop_at p (x ∷ rest) n refl)
      ∙ ap (λ q. take n (f (p ++ x ∷ rest)) ++ t c q x.0 (x ∷ rest)) (take_at p (x ∷ rest) n refl)
      ∙ ap (λ vs. vs ++ t c p x.0 (x ∷ rest)) (sym (sf.causal n (p ++ x ∷ rest)) ∙ ap f (take_at p (x ∷ rest) n refl))

-- f goes on as g from x on
pub record GoesOn (f : SignalFunction) (p : TimedList) (g : SignalFunction) (x : ℕ × Datum) : Type 0 where
  pub fired : (rest : TimedList) → f (p ++ x ∷ rest) ≡ f p ++ g (x ∷ rest)

last_of_two : (vs : List Datum) (ws : List Datum) (y : Datum) → last_or unit (vs ++ (ws ++ y ∷ [])) ≡ last_or unit (ws ++ y ∷ [])
last_of_two vs ws y = ap (last_or unit) (sym (append_assoc vs ws (y ∷ []))) ∙ last_or-push unit (vs ++ ws) y ∙ sym (last_or-push unit ws y)

-- what took over answers at its first sample, and at each one after
pub answer-first : (f g : SignalFunction) → IsSignalFunction g → (p : TimedList) (x : ℕ × Datum) → GoesOn f p g x → answer f p x ≡ answer g [] x
answer-first f g sg p x go =
    ap (last_or unit) (go.fired [] ∙ ap (λ vs. f p ++ vs) (signal-push g sg [] x))
    ∙ last_of_two (f p) (g []) (answer g [] x)
    ∙ ap (last_or unit) (sym (signal-push g sg [] x))

pub answer-later : (f g : SignalFunction) → IsSignalFunction g → (p : TimedList) (x : ℕ × Datum) → GoesOn f p g x → (r : TimedList) (y : ℕ × Datum)
    → answer f (p ++ x ∷ r) y ≡ answer g (x ∷ r) y
answer-later f g sg p x go r y =
    ap (λ xs. last_or unit (f xs)) (append_assoc p (x ∷ r) (y ∷ []))
    ∙ ap (last_or unit) (go.fired (r ++ y ∷ []) ∙ ap (λ vs. f p ++ vs) (signal-push g sg (x ∷ r) y))
    ∙ last_of_two (f p) (g (x ∷ r)) (answer g (x ∷ r) y)
    ∙ last_or-push unit (g (x ∷ r)) (answer g (x ∷ r) y)

pub GoesOn-switch_at : (f e : SignalFunction) (t : Datum → TimedList → ℕ → SignalFunction) → IsSignalFunction f → IsSignalFunction e
    → (p : TimedList) (x : ℕ × Datum) (c : Datum) → first_event (e p) ≡ None → answer e p x ≡ event c → GoesOn (switch_at f e t) p (t c p x.0) x
GoesOn-switch_at f e t sf se p x c i a = record {
  fired = λ rest. switch_at_place f e t sf se p x c rest i a ∙ ap (λ vs. vs ++ t c p x.0 (x ∷ rest)) (sym (switch_at-none f e t p i));
}

-- what is resumed sees the samples behind its past
pub answer-resume_first : (f : SignalFunction) → IsSignalFunction f → (p : TimedList) (d : ℕ) (x : ℕ × Datum) → answer (resume f p d) [] x ≡ answer f p (d, x.1)
answer-resume_first f sf p d x = ap (last_or unit) (ap (drop (length p)) (signal-push f sf p (d, x.1))
    ∙ drop_at (f p) (answer f p (d, x.1) ∷ []) (length p) (sf.sized p))

pub answer-resume : (f : SignalFunction) → IsSignalFunction f → (p : TimedList) (d : ℕ) (z : ℕ × Datum) (q : TimedList) (x : ℕ × Datum)
    → answer (resume f p d) (z ∷ q) x ≡ answer f (p ++ (d, z.1) ∷ q) x
answer-resume f sf p d z q x =
    let r : TimedList = p ++ (d, z.1) ∷ q in
    let v : Datum = answer f r x in
    let a : f r ≡ f p ++ drop (length p) (f r) = signal-append f sf p ((d, z.1) ∷ q) in
    ap (λ ys. last_or unit (drop (length p) (f ys))) (sym (append_assoc p ((d, z.1) ∷ q) (x ∷ [])))
    ∙ ap (λ vs. last_or unit (drop (length p) vs)) (signal-push f sf r x ∙ ap (λ vs. vs ++ v ∷ []) a ∙ append_assoc (f p) (drop (length p) (f r)) (v ∷ []))
    ∙ ap (last_or unit) (drop_at (f p) (drop (length p) (f r) ++ v ∷ []) (length p) (sf.sized p))
    ∙ last_or-push unit (drop (length p) (f r)) v

pub answer-late_first : (g h : SignalFunction) → IsSignalFunction g → IsSignalFunction h → (x : ℕ × Datum) → answer (late delayed g h) [] x ≡ answer g [] x
answer-late_first g h sg sh x =
    ap (λ vs. last_or unit (take 1 vs ++ drop 1 (h (x ∷ [])))) (signal-push g sg [] x ∙ ap (λ vs. vs ++ answer g [] x ∷ []) (sg.causal 0 []))
    ∙ ap (λ vs. last_or unit (answer g [] x ∷ drop 1 vs)) (signal-push h sh [] x ∙ ap (λ vs. vs ++ answer h [] x ∷ []) (sh.causal 0 []))

pub answer-late : (tm : Timing) (g h : SignalFunction) → IsSignalFunction h → (x : ℕ × Datum) (q : TimedList) (y : ℕ × Datum)
    → answer (late tm g h) (x ∷ q) y ≡ answer h (x ∷ q) y
answer-late at_once g h sh x q y = refl
answer-late delayed g h sh x q y =
    let l : length (h (x ∷ q)) ≡ suc (length q) = sh.sized (x ∷ q) in
    ap (λ vs. last_or unit (take 1 (g (x ∷ q ++ y ∷ [])) ++ drop 1 vs)) (signal-push h sh (x ∷ q) y)
    ∙ last_dropped (take 1 (g (x ∷ q ++ y ∷ []))) (h (x ∷ q)) (answer h (x ∷ q) y) (length q) l
  where
    last_dropped : (vs ws : List Datum) (v : Datum) (n : ℕ) → length ws ≡ suc n → last_or unit (vs ++ drop 1 (ws ++ v ∷ [])) ≡ v
    last_dropped vs [] v n e = absurd (omega arith)
    last_dropped vs (w ∷ ws) v n e = ap (last_or unit) (sym (append_assoc vs ws (v ∷ []))) ∙ last_or-push unit (vs ++ ws) v
