-- What counts: its bound, and that it keeps pace.
use Rattle.std.proofs.Common.{◌≡◌, ℕ, zero, suc, ◌+◌, ◌≤◌, List, [], ◌∷◌, ◌++◌, map, length, take, drop, sym, ap, ap₂, ◌∙◌, arith, le_trans}
use Rattle.std.proofs.lemmas.List.{length-map, take-map}
use Rattle.sample_core.specs.Datum.{Datum}
use Rattle.net_meaning.specs.SignalFunction.{TimedList, SignalFunction, zip_with, pieces, until, lap, each_piece, r_switch_function, route, first_event, step_of, IsSignalFunction}
use Rattle.state_core.specs.Visits.{VisitCounts, zeros, add_counts, and_one, first_and_one, both_at_first, switch_counts, resume_counts, freeze_counts, sum_by_route, sum_of_all, counts_at, unheard, restart_counts}
use Rattle.net_tree.specs.Network.{Timing, at_once, delayed}
use Rattle.net_tree.specs.Weight.{total, weight_at}
use Rattle.net_meaning.proofs.Zips.{length-zip_with, take-zip_with}
use Rattle.net_meaning.proofs.Events.{Outlook, never, once, outlook}
use Rattle.net_meaning.proofs.Restarting.{KeepsPace, restarting_keeps}
use Rattle.step_core.proofs.CausalCounts.{length-first_and_one, take-first_and_one, taken_over_keeps, unheard_keeps, resume_keeps}
pub use Rattle.state_core.specs.Visits.{AtMost, no_item, and_item, IsCount}

pub AtMost-weaker : (v w : ℕ) (ns : List ℕ) → v ≤ w → AtMost v ns → AtMost w ns
AtMost-weaker v w [] l a = no_item
AtMost-weaker v w (n ∷ ns) l (and_item h a) = and_item (le_trans h l) (AtMost-weaker v w ns l a)

pub IsCount-weaker : (v w : ℕ) (f : VisitCounts) → v ≤ w → IsCount v f → IsCount w f
IsCount-weaker v w f l c = record { counted = c.counted; bounded = λ xs. AtMost-weaker v w (f xs) l (c.bounded xs); causal = c.causal }

keeps : (w : ℕ) (v : VisitCounts) → IsCount w v → KeepsPace v
keeps w v c = record { sized = c.counted; causal = c.causal }

pub kept_count : (w : ℕ) (v : VisitCounts) → KeepsPace v → ((xs : TimedList) → AtMost w (v xs)) → IsCount w v
kept_count w v k b = record { counted = k.sized; bounded = b; causal = k.causal }

pub AtMost-append : (w : ℕ) (ms ns : List ℕ) → AtMost w ms → AtMost w ns → AtMost w (ms ++ ns)
AtMost-append w [] ns a b = b
AtMost-append w (m ∷ ms) ns (and_item h a) b = and_item h (AtMost-append w ms ns a b)

pub AtMost-take : (w n : ℕ) (ns : List ℕ) → AtMost w ns → AtMost w (take n ns)
AtMost-take w zero ns a = no_item
AtMost-take w (suc n) [] a = no_item
AtMost-take w (suc n) (m ∷ ns) (and_item h a) = and_item h (AtMost-take w n ns a)

pub AtMost-drop : (w n : ℕ) (ns : List ℕ) → AtMost w ns → AtMost w (drop n ns)
AtMost-drop w zero ns a = a
AtMost-drop w (suc n) [] a = no_item
AtMost-drop w (suc n) (m ∷ ns) (and_item h a) = AtMost-drop w n ns a

pub AtMost-and_one : (w : ℕ) (ns : List ℕ) → AtMost w ns → AtMost (suc w) (and_one ns)
AtMost-and_one w [] a = no_item
AtMost-and_one w (n ∷ ns) (and_item h a) = and_item (omega arith) (AtMost-and_one w ns a)

pub AtMost-first_and_one : (w : ℕ) (ns : List ℕ) → AtMost w ns → AtMost (suc w) (first_and_one ns)
AtMost-first_and_one w [] a = no_item
AtMost-first_and_one w (n ∷ ns) (and_item h a) = and_item (omega arith) (AtMost-weaker w (suc w) ns (omega arith) a)

pub AtMost-added : (v w : ℕ) (ms ns : List ℕ) → AtMost v ms → AtMost w ns → AtMost (v + w) (add_counts ms ns)
AtMost-added v w [] ns a b = no_item
AtMost-added v w (m ∷ ms) [] a b = no_item
AtMost-added v w (m ∷ ms) (n ∷ ns) (and_item g a) (and_item h b) = and_item (omega arith) (AtMost-added v w ms ns a b)

pub AtMost-both : (v w : ℕ) (ms ns : List ℕ) → AtMost v ms → AtMost w ns → AtMost (v + w) (both_at_first ms ns)
AtMost-both v w [] ns a b = no_item
AtMost-both v w (m ∷ ms) [] a b = no_item
AtMost-both v w (m ∷ ms) (n ∷ ns) (and_item g a) (and_item h b) = and_item (omega arith) (AtMost-weaker w (v + w) ns (omega arith) b)

pub AtMost-map : (n w : ℕ) (xs : TimedList) → n ≤ w → AtMost w (map (λ x. n) xs)
AtMost-map n w [] l = no_item
AtMost-map n w (x ∷ xs) l = and_item l (AtMost-map n w xs l)

pub IsCount-constant : (n : ℕ) → IsCount n (λ xs. map (λ x. n) xs)
IsCount-constant n = record {
  counted = λ xs. length-map xs (λ x. n);
  bounded = λ xs. AtMost-map n n xs (omega arith);
  causal = λ k xs. sym (take-map (λ x. n) k xs);
}

pub IsCount-and_one : (w : ℕ) (v : VisitCounts) → IsCount w v → IsCount (suc w) (λ xs. and_one (v xs))
IsCount-and_one w v c = record {
  counted = λ xs. length-map (v xs) suc ∙ c.counted xs;
  bounded = λ xs. AtMost-and_one w (v xs) (c.bounded xs);
  causal = λ n xs. ap and_one (c.causal n xs) ∙ sym (take-map suc n (v xs));
}

pub IsCount-first_and_one : (w : ℕ) (v : VisitCounts) → IsCount w v → IsCount (suc w) (λ xs. first_and_one (v xs))
IsCount-first_and_one w v c = record {
  counted = λ xs. length-first_and_one (v xs) ∙ c.counted xs;
  bounded = λ xs. AtMost-first_and_one w (v xs) (c.bounded xs);
  causal = λ n xs. ap first_and_one (c.causal n xs) ∙ take-first_and_one n (v xs);
}

pub IsCount-added : (v w : ℕ) (f g : VisitCounts) → IsCount v f → IsCount w g → IsCount (v + w) (λ xs. add_counts (f xs) (g xs))
IsCount-added v w f g cf cg = record {
  counted = λ xs. length-zip_with _ (f xs) (g xs) (cg.counted xs ∙ sym (cf.counted xs)) ∙ cf.counted xs;
  bounded = λ xs. AtMost-added v w (f xs) (g xs) (cf.bounded xs) (cg.bounded xs);
  causal = λ n xs. ap₂ add_counts (cf.causal n xs) (cg.causal n xs) ∙ sym (take-zip_with _ n (f xs) (g xs));
}

-- a part that gets another list, as long and without a look ahead
pub IsCount-before : (w : ℕ) (h : TimedList → TimedList) (v : VisitCounts) → ((xs : TimedList) → length (h xs) ≡ length xs)
    → ((n : ℕ) (xs : TimedList) → h (take n xs) ≡ take n (h xs)) → IsCount w v → IsCount w (λ xs. v (h xs))
IsCount-before w h v lh th c = record {
  counted = λ xs. c.counted (h xs) ∙ lh xs;
  bounded = λ xs. c.bounded (h xs);
  causal = λ n xs. ap v (th n xs) ∙ c.causal n (h xs);
}

-- each sample changed
pub IsCount-each : (w : ℕ) (h : ℕ × Datum → ℕ × Datum) (v : VisitCounts) → IsCount w v → IsCount w (λ xs. v (map h xs))
IsCount-each w h v c = IsCount-before w (map h) v (λ xs. length-map xs h) (λ n xs. sym (take-map h n xs)) c

-- each sample changed by what a signal has there
pub IsCount-beside : (w : ℕ) (h : ℕ × Datum → Datum → ℕ × Datum) (f : SignalFunction) → IsSignalFunction f → (v : VisitCounts) → IsCount w v
    → IsCount w (λ xs. v (zip_with h xs (f xs)))
IsCount-beside w h f sf v c =
    IsCount-before w (λ xs. zip_with h xs (f xs)) v (λ xs. length-zip_with h xs (f xs) (sf.sized xs))
    (λ n xs. ap (zip_with h (take n xs)) (sf.causal n xs) ∙ sym (take-zip_with h n xs (f xs))) c

AtMost-taken_over : (vs : List Datum) (ns : List ℕ) (go : ℕ → Datum → List ℕ) (v w : ℕ) → AtMost v ns → ((n : ℕ) (c : Datum) → AtMost w (go n c)) → Outlook vs
    → AtMost (v + w) (switch_counts (first_event vs) ns go)
AtMost-taken_over vs ns go v w a b (never i) = rw i.is (AtMost-weaker v (v + w) ns (omega arith) a)
AtMost-taken_over vs ns go v w a b (once n c i) =
    rw i.is (AtMost-append (v + w) (take n ns) (both_at_first (drop n ns) (go n c))
    (AtMost-weaker v (v + w) (take n ns) (omega arith) (AtMost-take v n ns a))
    (AtMost-both v w (drop n ns) (go n c) (AtMost-drop v n ns a) (b n c)))

pub IsCount-taken_over : (e : SignalFunction) → IsSignalFunction e → (v w : ℕ) (ns : VisitCounts) → IsCount v ns → (u : Datum → TimedList → ℕ → VisitCounts)
    → ((c : Datum) (p : TimedList) (d : ℕ) → IsCount w (u c p d))
    → IsCount (v + w) (λ xs. switch_counts (first_event (e xs)) (ns xs) (λ n c. u c (take n xs) (step_of (drop n xs)) (drop n xs)))
IsCount-taken_over e se v w ns cn u cu =
    kept_count (v + w) _ (taken_over_keeps e se ns (keeps v ns cn) u (λ c p d. keeps w (u c p d) (cu c p d)))
    (λ xs. AtMost-taken_over (e xs) (ns xs) (λ n c. u c (take n xs) (step_of (drop n xs)) (drop n xs)) v w (cn.bounded xs)
    (λ n c. (cu c (take n xs) (step_of (drop n xs))).bounded (drop n xs)) (outlook (e xs)))

-- a switch that starts anew
-- how much of what weighs w is unheard at an event
abbrev pub unheard_weight : Timing → ℕ → ℕ
unheard_weight at_once w = 0
unheard_weight delayed w = w

AtMost-unheard : (tm : Timing) (w : ℕ) (v : VisitCounts) → IsCount w v → (xs : TimedList) → AtMost (unheard_weight tm w) (unheard tm v xs)
AtMost-unheard at_once w v c xs = AtMost-map 0 0 xs (omega arith)
AtMost-unheard delayed w v c xs =
    AtMost-append w (take 1 (v xs)) (zeros (drop 1 xs)) (AtMost-take w 1 (v xs) (c.bounded xs)) (AtMost-map 0 w (drop 1 xs) (omega arith))

module _ (tm : Timing) (f : VisitCounts) (t : Datum → VisitCounts) (v w : ℕ) (cf : IsCount v f) (ct : (c : Datum) → IsCount w (t c)) where
  AtMost-each : (qs : List (Datum × TimedList)) → AtMost (v + w) (each_piece tm t qs)
  AtMost-each [] = no_item
  AtMost-each (q ∷ qs) =
      let r : TimedList = q.1 ++ lap tm qs in
      AtMost-append (v + w) (drop (until tm 0) (t q.0 r)) (each_piece tm t qs)
      (AtMost-weaker w (v + w) (drop (until tm 0) (t q.0 r)) (omega arith) (AtMost-drop w (until tm 0) (t q.0 r) ((ct q.0).bounded r))) (AtMost-each qs)

  -- what runs counts as one of the two
  IsCount-running : IsCount (v + w) (r_switch_function tm f t)
  IsCount-running = kept_count (v + w) _ (restarting_keeps tm t (λ c. keeps w (t c) (ct c)) f (keeps v f cf)) (λ xs.
      let p : TimedList = (pieces xs).0 ++ lap tm (pieces xs).1 in
      AtMost-append (v + w) (f p) (each_piece tm t (pieces xs).1) (AtMost-weaker v (v + w) (f p) (omega arith) (cf.bounded p)) (AtMost-each (pieces xs).1))

-- what starts unheard counts once more
pub IsCount-restart : (tm : Timing) (f : VisitCounts) (t : Datum → VisitCounts) (v w : ℕ) → IsCount v f → ((c : Datum) → IsCount w (t c))
    → IsCount (v + w + unheard_weight tm w) (restart_counts tm f t)
IsCount-restart tm f t v w cf ct =
    let k : ℕ = unheard_weight tm w in
    IsCount-added (v + w) k _ _ (IsCount-running tm f t v w cf ct)
    (IsCount-weaker (0 + k) k _ (omega arith)
    (IsCount-running at_once zeros (λ c. unheard tm (t c)) 0 k (IsCount-constant 0)
    (λ c. kept_count k (unheard tm (t c)) (unheard_keeps tm (t c) (keeps w (t c) (ct c))) (AtMost-unheard tm w (t c) (ct c)))))

AtMost-resume_counts : (w : ℕ) (v : VisitCounts) → IsCount w v → (p : TimedList) (d : ℕ) (xs : TimedList) → AtMost w (resume_counts v p d xs)
AtMost-resume_counts w v c p d [] = no_item
AtMost-resume_counts w v c p d (x ∷ xs) = AtMost-drop w (length p) (v (p ++ (d, x.1) ∷ xs)) (c.bounded (p ++ (d, x.1) ∷ xs))

pub IsCount-resume : (w : ℕ) (v : VisitCounts) → IsCount w v → (p : TimedList) (d : ℕ) → IsCount w (resume_counts v p d)
IsCount-resume w v c p d = kept_count w (resume_counts v p d) (resume_keeps v (keeps w v c) p d) (AtMost-resume_counts w v c p d)

-- each of a list
pub data AllCounts : List ℕ → List VisitCounts → Type 0 where
  no_count : AllCounts [] []
  and_count : {w : ℕ} {ws : List ℕ} {v : VisitCounts} {vs : List VisitCounts} → IsCount w v → AllCounts ws vs → AllCounts (w ∷ ws) (v ∷ vs)

pub AllCounts-append : (us ws : List ℕ) (fs gs : List VisitCounts) → AllCounts us fs → AllCounts ws gs → AllCounts (us ++ ws) (fs ++ gs)
AllCounts-append us ws fs gs no_count b = b
AllCounts-append us ws fs gs (and_count {ws = us'} {vs = fs'} c a) b = and_count c (AllCounts-append us' ws fs' gs a b)

pub AllCounts-frozen : (r : Datum → Datum) (i : ℕ) (ws : List ℕ) (vs : List VisitCounts) → AllCounts ws vs → (p : TimedList) (d : ℕ)
    → AllCounts ws (freeze_counts r i vs p d)
AllCounts-frozen r i ws vs no_count p d = no_count
AllCounts-frozen r i ws vs (and_count {w = w} {ws = ws'} {v = v} {vs = vs'} c a) p d =
    and_count (IsCount-resume w v c (route r i p) d) (AllCounts-frozen r (suc i) ws' vs' a p d)

pub IsCount-sum_of_all : (ws : List ℕ) (vs : List VisitCounts) → AllCounts ws vs → IsCount (total ws) (sum_of_all vs)
IsCount-sum_of_all ws vs no_count = IsCount-constant 0
IsCount-sum_of_all ws vs (and_count {w = w} {ws = ws'} {v = v} {vs = vs'} c a) = IsCount-added w (total ws') v (sum_of_all vs') c (IsCount-sum_of_all ws' vs' a)

pub IsCount-sum_by_route : (r : Datum → Datum) (i : ℕ) (ws : List ℕ) (vs : List VisitCounts) → AllCounts ws vs → IsCount (total ws) (sum_by_route r i vs)
IsCount-sum_by_route r i ws vs no_count = IsCount-constant 0
IsCount-sum_by_route r i ws vs (and_count {w = w} {ws = ws'} {v = v} {vs = vs'} c a) =
    IsCount-added w (total ws') (λ xs. v (route r i xs)) (sum_by_route r (suc i) vs') (IsCount-each w _ v c)
    (IsCount-sum_by_route r (suc i) ws' vs' a)

pub IsCount-counts_at : (ws : List ℕ) (vs : List VisitCounts) → AllCounts ws vs → (k : ℕ) → IsCount (weight_at ws k) (counts_at vs k)
IsCount-counts_at ws vs no_count k = IsCount-constant 0
IsCount-counts_at ws vs (and_count c a) zero = c
IsCount-counts_at ws vs (and_count {ws = ws'} {vs = vs'} c a) (suc k) = IsCount-counts_at ws' vs' a k
