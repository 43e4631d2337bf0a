-- The laws of switches, on signals: equations of functions.
use Rattle.std.proofs.Common.{List, None, Option, Some, [], ap, append-nil, ap₂, arith, drop, take_all, ◌≤◌, length, map, refl, suc, sym, take, take-append-drop, zero, ℕ, ◌++◌, ◌∙◌, ◌∷◌, ◌≡◌}
use Rattle.std.proofs.lemmas.List.{drop-map, length-map, map-append, take-map}
use Rattle.std.proofs.lemmas.Simd.{map-map}
use mathlib.Core.Path.{fun_ext}
use Rattle.net_meaning.specs.Examples.{n}
use Rattle.net_meaning.specs.SignalFunction.{IsSignalFunction, Pieces, SignalFunction, TimedList, all_of, by_members, collect, cut_at, each_piece, each_value, first_event, first_members, gather, member_outputs, new_members, par_function, rp_switch_function, first_function, freeze_all, k_switch_function, lap, later, lefts, p_switch_function, pair_samples, pairs, pieces, put_sample, r_switch_function, resume, rights, seq_function, switch_function, until, values, watch, with_values}
use Rattle.net_tree.specs.Network.{Timing, at_once, delayed}
use Rattle.net_meaning.specs.Typing.{TypedSamples, and_sample, no_sample}
use Rattle.sample_core.specs.Datum.{Datum, event, left, no_event, pair, right}
use Rattle.sample_core.specs.HasType.{HasType, pair_has}
use Rattle.sample_core.specs.TypeTree.{TypeTree, pair_ty}
use Rattle.net_meaning.proofs.Plain.{IsSignal-on_left}
use Rattle.net_meaning.proofs.Restarting.{IsSignal-restarting}
use Rattle.net_meaning.proofs.RelatedMembers.{rows_of}
use Rattle.net_meaning.proofs.Switched.{switch_at-none}
use Rattle.net_meaning.proofs.Switches.{IsSignal-switching}
use Rattle.law_rules.proofs.ArrowLaws.{map-same, values-with_values, with_values-applied}
use Rattle.law_rules.proofs.LoopLaws.{crossed, lefts-crossed_pairs, rights-crossed_pairs}

-- `arr`
abbrev pub pointwise : (Datum → Datum) → SignalFunction
pointwise h xs = map h (values xs)

pub pointwise-before : (h : Datum → Datum) (f : SignalFunction) → seq_function (pointwise h) f ≡ (λ xs. f (each_value h xs))
pointwise-before h f = fun_ext λ xs. ap f (with_values-applied h xs)

pub pointwise-after : (h : Datum → Datum) (f : SignalFunction) → IsSignalFunction f → seq_function f (pointwise h) ≡ (λ xs. map h (f xs))
pointwise-after h f sf = fun_ext λ xs. ap (map h) (values-with_values xs (f xs) (sf.sized xs))

-- what is done to all that a switch answers
cut_at-through : (F : List Datum → List Datum) (o : Option (ℕ × Datum)) (ys : List Datum) (go : ℕ → Datum → List Datum) → F (cut_at o ys go) ≡ cut_at o (F ys) (λ n c. F (go n c))
cut_at-through F None ys go = refl
cut_at-through F (Some e) ys go = refl

cut_at-same : (o : Option (ℕ × Datum)) (ys : List Datum) (go go' : ℕ → Datum → List Datum) → ((n : ℕ) (c : Datum) → go n c ≡ go' n c) → cut_at o ys go ≡ cut_at o ys go'
cut_at-same o ys go go' e = ap (cut_at o ys) (fun_ext λ n. fun_ext (e n))

-- changed inputs
switching-before : (tm : Timing) (h : Datum → Datum) (f : SignalFunction) (t : Datum → SignalFunction)
    → (λ xs. switch_function tm f t (each_value h xs)) ≡ switch_function tm (λ xs. f (each_value h xs)) (λ c xs. t c (each_value h xs))
switching-before tm h f t = fun_ext λ xs.
    let ys : TimedList = each_value h xs in
    cut_at-same (first_event (rights f ys)) (lefts f ys) _ _
    (λ n c. ap (λ zs. take (until tm n) (lefts f ys) ++ drop (until tm 0) (t c zs)) (drop-map (λ x. (x.0, h x.1)) n xs))

-- L27, L28
pub sequence-switching : (tm : Timing) (h : Datum → Datum) (f : SignalFunction) (t : Datum → SignalFunction)
    → seq_function (pointwise h) (switch_function tm f t) ≡ switch_function tm (seq_function (pointwise h) f) (λ c. seq_function (pointwise h) (t c))
sequence-switching tm h f t =
    pointwise-before h (switch_function tm f t) ∙ switching-before tm h f t
    ∙ sym (ap₂ (switch_function tm) (pointwise-before h f) (fun_ext λ c. pointwise-before h (t c)))

-- outputs changed, before and after the switch alike
through : (F : List Datum → List Datum) (o : Option (ℕ × Datum)) (ys : List Datum) (go go' : ℕ → Datum → List Datum) → ((n : ℕ) (c : Datum) → F (go n c) ≡ go' n c) → F (cut_at o ys go) ≡ cut_at o (F ys) go'
through F o ys go go' e = cut_at-through F o ys go ∙ cut_at-same o (F ys) (λ n c. F (go n c)) go' e

-- the left of a pair changed
abbrev pub change_left : (Datum → Datum) → Datum → Datum
change_left h v = pair (h (left v)) (right v)

module _ (tm : Timing) (h : Datum → Datum) (f : SignalFunction) (t : Datum → SignalFunction) where
  lefts-changed : (xs : TimedList) → map left (map (change_left h) (f xs)) ≡ map h (lefts f xs)
  lefts-changed xs = map-map left (change_left h) (f xs) ∙ sym (map-map h left (f xs))

  rights-changed : (xs : TimedList) → map right (map (change_left h) (f xs)) ≡ rights f xs
  rights-changed xs = map-map right (change_left h) (f xs)

  map-joined : (n : ℕ) (vs ws : List Datum) → map h (take n vs ++ ws) ≡ take n (map h vs) ++ map h ws
  map-joined n vs ws = map-append h (take n vs) ws ∙ ap (λ us. us ++ map h ws) (sym (take-map h n vs))

  switching-after : (λ xs. map h (switch_function tm f t xs)) ≡ switch_function tm (λ xs. map (change_left h) (f xs)) (λ c xs. map h (t c xs))
  switching-after = fun_ext λ xs.
      through (map h) (first_event (rights f xs)) (lefts f xs) _ _
      (λ n c.
      let over : List Datum = t c (drop n xs) in
      map-joined (until tm n) (lefts f xs) (drop (until tm 0) over) ∙ ap (λ us. take (until tm n) (map h (lefts f xs)) ++ us) (sym (drop-map h (until tm 0) over)))
      ∙ sym (ap₂ (λ rs ls. cut_at (first_event rs) ls (λ n c. take (until tm n) ls ++ drop (until tm 0) (map h (t c (drop n xs))))) (rights-changed xs)
      (lefts-changed xs))

  -- L29, L30
  pub switching-pointwise : IsSignalFunction f → ((c : Datum) → IsSignalFunction (t c))
      → seq_function (switch_function tm f t) (pointwise h) ≡ switch_function tm (seq_function f (pointwise (change_left h))) (λ c. seq_function (t c) (pointwise h))
  switching-pointwise sf st =
      pointwise-after h (switch_function tm f t) (IsSignal-switching tm f t sf st) ∙ switching-after
      ∙ sym (ap₂ (switch_function tm) (pointwise-after (change_left h) f sf) (fun_ext λ c. pointwise-after h (t c) (st c)))

-- no events
pub no_events : {A : Type 0} (xs : List A) → first_event (map (λ x. no_event) xs) ≡ None
no_events [] = refl
no_events (x ∷ xs) = ap later (no_events xs)

abbrev pub quiet : Datum → Datum
quiet v = pair v no_event

module _ (tm : Timing) (f : SignalFunction) (t : Datum → SignalFunction) where
  lefts-quiet : (xs : TimedList) → map left (map quiet (f xs)) ≡ f xs
  lefts-quiet xs = map-map left quiet (f xs) ∙ map-same (f xs)

  rights-quiet : (xs : TimedList) → first_event (map right (map quiet (f xs))) ≡ None
  rights-quiet xs = ap first_event (map-map right quiet (f xs)) ∙ no_events (f xs)

  -- L31, L32
  pub switching-quiet : IsSignalFunction f → switch_function tm (seq_function f (pointwise quiet)) t ≡ f
  switching-quiet sf =
      ap (λ g. switch_function tm g t) (pointwise-after quiet f sf)
      ∙ (fun_ext λ xs.
      let ls : List Datum = map left (map quiet (f xs)) in
      ap (λ o. cut_at o ls (λ n c. take (until tm n) ls ++ drop (until tm 0) (t c (drop n xs)))) (rights-quiet xs) ∙ lefts-quiet xs)

pairs-joined : (n : ℕ) (vs ws rs : List Datum) → length vs ≡ length rs → pairs (take n vs ++ ws) rs ≡ take n (pairs vs rs) ++ pairs ws (drop n rs)
pairs-joined zero vs ws rs e = refl
pairs-joined (suc n) [] ws [] e = pairs-nil ws
  where
    pairs-nil : (us : List Datum) → pairs us [] ≡ pairs us (drop (suc n) [])
    pairs-nil us = refl
pairs-joined (suc n) [] ws (r ∷ rs) e = absurd (omega arith)
pairs-joined (suc n) (v ∷ vs) ws [] e = absurd (omega arith)
pairs-joined (suc n) (v ∷ vs) ws (r ∷ rs) e = let e' : length vs ≡ length rs = omega arith in ap (λ us. pair v r ∷ us) (pairs-joined n vs ws rs e')

drop-pairs : (tm : Timing) (vs rs : List Datum) → drop (until tm 0) (pairs vs rs) ≡ pairs (drop (until tm 0) vs) (drop (until tm 0) rs)
drop-pairs at_once vs rs = refl
drop-pairs delayed [] rs = refl
drop-pairs delayed (v ∷ []) [] = refl
drop-pairs delayed (v ∷ w ∷ vs) [] = refl
drop-pairs delayed (v ∷ vs) (r ∷ rs) = refl

drop-until : {A : Type 0} (tm : Timing) (n : ℕ) (xs : List A) → drop (until tm n) xs ≡ drop (until tm 0) (drop n xs)
drop-until at_once n xs = refl
drop-until delayed zero xs = refl
drop-until delayed (suc n) [] = refl
drop-until delayed (suc n) (x ∷ xs) = drop-until delayed n xs

module _ (tm : Timing) (f : SignalFunction) (t : Datum → SignalFunction) (sf : IsSignalFunction f) where
  others-drop : (n : ℕ) (xs : TimedList) → drop n (map right (values xs)) ≡ map right (values (drop n xs))
  others-drop n xs = drop-map right n (values xs) ∙ ap (map right) (drop-map (λ x. x.1) n xs)

  lefts-length : (xs : TimedList) → length (lefts f (each_value left xs)) ≡ length (map right (values xs))
  lefts-length xs =
      length-map (f (each_value left xs)) left ∙ sf.sized (each_value left xs) ∙ length-map xs (λ x. (x.0, left x.1)) ∙ sym (length-map (values xs) right ∙ length-map xs (λ x. x.1))

  same-length : (xs : TimedList) → length (f (each_value left xs)) ≡ length (map right (values xs))
  same-length xs = sym (length-map (f (each_value left xs)) left) ∙ lefts-length xs

  over-first : (n : ℕ) (c : Datum) (xs : TimedList) → pairs (t c (drop n (each_value left xs))) (drop n (map right (values xs))) ≡ first_function (t c) (drop n xs)
  over-first n c xs = ap₂ (λ ys rs. pairs (t c ys) rs) (drop-map (λ x. (x.0, left x.1)) n xs) (others-drop n xs)

  first-switching : first_function (switch_function tm f t) ≡ switch_function tm (λ xs. map crossed (first_function f xs)) (λ c. first_function (t c))
  first-switching = fun_ext λ xs.
      let ys : TimedList = each_value left xs in
      let rs : List Datum = map right (values xs) in
      let o : ℕ = until tm 0 in
      through (λ vs. pairs vs rs) (first_event (rights f ys)) (lefts f ys) _ _
      (λ n c.
      let over : List Datum = t c (drop n ys) in
      pairs-joined (until tm n) (lefts f ys) (drop o over) rs (lefts-length xs)
      ∙ ap (λ us. take (until tm n) (pairs (lefts f ys) rs) ++ us)
      (ap (pairs (drop o over)) (drop-until tm n rs) ∙ sym (drop-pairs tm over (drop n rs)) ∙ ap (drop o) (over-first n c xs)))
      ∙ sym (ap₂ (λ es ls. cut_at (first_event es) ls (λ n c. take (until tm n) ls ++ drop o (first_function (t c) (drop n xs))))
      (rights-crossed_pairs (f ys) rs (same-length xs)) (lefts-crossed_pairs (f ys) rs))

  -- L33, L34
  pub on_left-switching : first_function (switch_function tm f t) ≡ switch_function tm (seq_function (first_function f) (pointwise crossed)) (λ c. first_function (t c))
  on_left-switching = first-switching
      ∙ ap (λ g. switch_function tm g (λ c. first_function (t c))) (sym (pointwise-after crossed (first_function f) (IsSignal-on_left f sf)))

-- L35, L54
pub pieces-quiet : (e : Datum → Datum) (xs : TimedList) → pieces (each_value (λ v. pair (e v) no_event) xs) ≡ (each_value e xs, [])
pieces-quiet e [] = refl
pieces-quiet e (x ∷ xs) = ap (put_sample x.0 (pair (e x.1) no_event)) (pieces-quiet e xs)

pub restarting-quiet : (tm : Timing) (e : Datum → Datum) (f : SignalFunction) (t : Datum → SignalFunction)
    → seq_function (pointwise (λ v. pair (e v) no_event)) (r_switch_function tm f t) ≡ seq_function (pointwise e) f
restarting-quiet tm e f t =
    pointwise-before (λ v. pair (e v) no_event) (r_switch_function tm f t)
    ∙ (fun_ext λ xs.
    ap (λ p. f (p.0 ++ lap tm p.1) ++ each_piece tm t p.1) (pieces-quiet e xs)
    ∙ append-nil (f (each_value e xs ++ [])) ∙ ap f (append-nil (each_value e xs)))
    ∙ sym (pointwise-before e f)

-- L56, L57: pieces whose values are changed
abbrev each_before : (Datum → Datum) → List (Datum × TimedList) → List (Datum × TimedList)
each_before h qs = map (λ q. (q.0, each_value h q.1)) qs

abbrev pieces_before : (Datum → Datum) → Pieces → Pieces
pieces_before h p = (each_value h p.0, each_before h p.1)

put_pair-before : (h : Datum → Datum) (d : ℕ) (a b : Datum) (p : Pieces) → put_sample d (pair (h a) b) (pieces_before h p) ≡ pieces_before h (put_sample d (pair a b) p)
put_pair-before h d a (event c) p = refl
put_pair-before h d a _ p = refl

put_sample-before : {A B : TypeTree} (h : Datum → Datum) (d : ℕ) (v : Datum) (p : Pieces) → HasType v (pair_ty A B) → put_sample d (change_left h v) (pieces_before h p) ≡ pieces_before h (put_sample d v p)
put_sample-before h d v p (pair_has {v = a} {w = b} i j) = put_pair-before h d a b p

pieces-before : {A B : TypeTree} (h : Datum → Datum) (xs : TimedList) → TypedSamples (pair_ty A B) xs → pieces (each_value (change_left h) xs) ≡ pieces_before h (pieces xs)
pieces-before h xs no_sample = refl
pieces-before h xs (and_sample {x = x} {xs = xs'} i is) = ap (put_sample x.0 (change_left h x.1)) (pieces-before h xs' is) ∙ put_sample-before h x.0 x.1 (pieces xs') i

lap-before : (tm : Timing) (h : Datum → Datum) (qs : List (Datum × TimedList)) → lap tm (each_before h qs) ≡ each_value h (lap tm qs)
lap-before tm h [] = refl
lap-before tm h (q ∷ qs) = take-map (λ x. (x.0, h x.1)) (until tm 0) q.1

each_piece-before : (tm : Timing) (h : Datum → Datum) (t : Datum → SignalFunction) (qs : List (Datum × TimedList)) → each_piece tm t (each_before h qs) ≡ each_piece tm (λ c ys. t c (each_value h ys)) qs
each_piece-before tm h t [] = refl
each_piece-before tm h t (q ∷ qs) =
    ap₂ (λ ys vs. drop (until tm 0) (t q.0 ys) ++ vs)
    (ap (λ ys. each_value h q.1 ++ ys) (lap-before tm h qs) ∙ sym (map-append (λ x. (x.0, h x.1)) q.1 (lap tm qs)))
    (each_piece-before tm h t qs)

pub sequence-restarting : {A B : TypeTree} (tm : Timing) (h : Datum → Datum) (f : SignalFunction) (t : Datum → SignalFunction) (xs : TimedList) → TypedSamples (pair_ty A B) xs
    → seq_function (pointwise (change_left h)) (r_switch_function tm f t) xs ≡ r_switch_function tm (seq_function (pointwise h) f) (λ c. seq_function (pointwise h) (t c)) xs
sequence-restarting tm h f t xs j =
    let p : Pieces = pieces xs in
    ap (λ g. g xs) (pointwise-before (change_left h) (r_switch_function tm f t))
    ∙ ap (λ qs. f (qs.0 ++ lap tm qs.1) ++ each_piece tm t qs.1) (pieces-before h xs j)
    ∙ ap₂ (λ ys vs. f ys ++ vs)
    (ap (λ ys. each_value h p.0 ++ ys) (lap-before tm h p.1) ∙ sym (map-append (λ x. (x.0, h x.1)) p.0 (lap tm p.1)))
    (each_piece-before tm h t p.1)
    ∙ ap (λ g. g xs) (sym (ap₂ (r_switch_function tm) (pointwise-before h f) (fun_ext λ c. pointwise-before h (t c))))

-- L36, L45
map-each_piece : (tm : Timing) (h : Datum → Datum) (t : Datum → SignalFunction) (qs : List (Datum × TimedList))
    → map h (each_piece tm t qs) ≡ each_piece tm (λ c ys. map h (t c ys)) qs
map-each_piece tm h t [] = refl
map-each_piece tm h t (q ∷ qs) =
    let over : List Datum = t q.0 (q.1 ++ lap tm qs) in
    map-append h (drop (until tm 0) over) (each_piece tm t qs)
    ∙ ap₂ (λ vs ws. vs ++ ws) (sym (drop-map h (until tm 0) over)) (map-each_piece tm h t qs)

pub restarting-pointwise : (tm : Timing) (h : Datum → Datum) (f : SignalFunction) (t : Datum → SignalFunction) → IsSignalFunction f
    → ((c : Datum) → IsSignalFunction (t c))
    → seq_function (r_switch_function tm f t) (pointwise h) ≡ r_switch_function tm (seq_function f (pointwise h)) (λ c. seq_function (t c) (pointwise h))
restarting-pointwise tm h f t sf st =
    pointwise-after h (r_switch_function tm f t) (IsSignal-restarting tm t st f sf)
    ∙ (fun_ext λ xs.
    let ys : TimedList = (pieces xs).0 ++ lap tm (pieces xs).1 in
    map-append h (f ys) (each_piece tm t (pieces xs).1) ∙ ap (λ vs. map h (f ys) ++ vs) (map-each_piece tm h t (pieces xs).1))
    ∙ sym (ap₂ (r_switch_function tm) (pointwise-after h f sf) (fun_ext λ c. pointwise-after h (t c) (st c)))

-- L46: members that have got nothing yet are the members of a `parB`
rows-new : (fs : List SignalFunction) (xs : TimedList) → rows_of (new_members fs) xs ≡ all_of fs xs
rows-new [] xs = refl
rows-new (f ∷ fs) xs = ap (λ rows. f xs ∷ rows) (rows-new fs xs)

pub choosing-quiet : (e r : Datum → Datum) (fs : List SignalFunction) (t : Datum → SignalFunction) → length fs ≤ 64
    → seq_function (pointwise (λ v. pair (e v) no_event)) (rp_switch_function r fs t) ≡ seq_function (pointwise e) (par_function fs)
choosing-quiet e r fs t few =
    let l : length (new_members fs) ≡ length fs = length-map fs (λ f. (f, [])) in
    pointwise-before (λ v. pair (e v) no_event) (rp_switch_function r fs t)
    ∙ (fun_ext λ xs.
    ap (λ p. by_members member_outputs r t (first_members fs) p.0 p.1) (pieces-quiet e xs)
    ∙ ap (λ ms. member_outputs ms (each_value e xs)) (take_all 64 (new_members fs) (omega arith))
    ∙ ap (gather (each_value e xs)) (rows-new fs (each_value e xs)))
    ∙ sym (pointwise-before e (par_function fs))

-- L37, and the switch of L39
pub switching_on-quiet : (f : SignalFunction) (t : Datum → SignalFunction → SignalFunction) → k_switch_function f (pointwise (λ v. no_event)) t ≡ f
switching_on-quiet f t = fun_ext λ xs. switch_at-none f (watch f (pointwise (λ v. no_event))) (λ c p d. t c (resume f p d)) xs (no_events (values (pair_samples xs (f xs))))

pub switching_all-quiet : (r : Datum → Datum) (fs : List SignalFunction) (t : Datum → List SignalFunction → SignalFunction) → p_switch_function r fs (pointwise (λ v. no_event)) t ≡ collect r fs
switching_all-quiet r fs t = fun_ext λ xs. switch_at-none (collect r fs) (watch (collect r fs) (pointwise (λ v. no_event))) (λ c p d. t c (freeze_all r 0 fs p d)) xs (no_events (values (pair_samples xs (collect r fs xs))))

-- L64, L65: a switch between the same
cut_at-always : (o : Option (ℕ × Datum)) (ys : List Datum) (go : ℕ → Datum → List Datum) → ((n : ℕ) (c : Datum) → go n c ≡ ys) → cut_at o ys go ≡ ys
cut_at-always None ys go e = refl
cut_at-always (Some p) ys go e = e p.0 p.1

module _ (tm : Timing) (e v : Datum → Datum) where
  lefts-both : (xs : TimedList) → map left (map (λ x. pair (e x) (v x)) (values xs)) ≡ map e (values xs)
  lefts-both xs = map-map left (λ x. pair (e x) (v x)) (values xs)

  go-on : (n : ℕ) (xs : TimedList) → take (until tm n) (map e (values xs)) ++ drop (until tm 0) (map e (values (drop n xs))) ≡ map e (values xs)
  go-on n xs =
      ap (λ us. take (until tm n) (map e (values xs)) ++ drop (until tm 0) us) (sym (ap (map e) (drop-map (λ x. x.1) n xs)) ∙ sym (drop-map e n (values xs)))
      ∙ ap (λ us. take (until tm n) (map e (values xs)) ++ us) (sym (drop-until tm n (map e (values xs))))
      ∙ take-append-drop (until tm n) (map e (values xs))

  pub switching-same : switch_function tm (pointwise (λ x. pair (e x) (v x))) (λ c. pointwise e) ≡ pointwise e
  switching-same = fun_ext λ xs.
      let ls : List Datum = map left (map (λ x. pair (e x) (v x)) (values xs)) in
      cut_at-always (first_event (rights (pointwise (λ x. pair (e x) (v x))) xs)) ls _
      (λ n c. ap (λ us. take (until tm n) us ++ drop (until tm 0) (map e (values (drop n xs)))) (lefts-both xs) ∙ go-on n xs ∙ sym (lefts-both xs))
      ∙ lefts-both xs
