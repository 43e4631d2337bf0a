-- The answers of `>>>`, `first`, `parB` and `loopPre`, by those of their parts.
use Rattle.std.proofs.Common.{◌≡◌, ℕ, zero, suc, List, [], ◌∷◌, ◌++◌, map, length, take, refl, sym, ap, ◌∙◌, ◌≤◌, arith, length-append, le_refl}
use Rattle.std.proofs.lemmas.List.{take_at, map_push}
use Rattle.sample_core.specs.Datum.{Datum, unit, left, right, pair, list, list_of}
use Rattle.net_meaning.specs.SignalFunction.{TimedList, SignalFunction, last_or, zip_with, with_values, pair_samples, values, each_value, pairs, seq_function, first_function, par_function, all_of, gather, heads, tails, prefixes, by_past, watch, loop_pre_function, feedback_values, IsSignalFunction, answer}
use Rattle.net_meaning.proofs.Plain.{AllSignals, and_signal, IsSignal-after}
use Rattle.net_meaning.proofs.Feedback.{fed, length-fed, length-fed_back, fed_back-take, fed_back-more}
use Rattle.net_meaning.proofs.Steps.{push_zip_with, signal-push, answer_is}

pub prefixes_push : {A : Type 0} (xs : List A) (x : A) → prefixes (xs ++ x ∷ []) ≡ prefixes xs ++ (xs ++ x ∷ []) ∷ []
prefixes_push [] x = refl
prefixes_push (y ∷ xs) x = ap (λ ps. (y ∷ []) ∷ ps) (ap (map (λ p. y ∷ p)) (prefixes_push xs x) ∙ map_push (λ p. y ∷ p) (prefixes xs) (xs ++ x ∷ []))

pub answer-by_past : (h : TimedList → Datum) (p : TimedList) (x : ℕ × Datum) → answer (by_past h) p x ≡ h (p ++ x ∷ [])
answer-by_past h p x = answer_is (by_past h) p x (map h (prefixes p)) (h (p ++ x ∷ [])) (ap (map h) (prefixes_push p x) ∙ map_push h (prefixes p) (p ++ x ∷ []))

pub answer-map : (h : Datum → Datum) (p : TimedList) (x : ℕ × Datum) → answer (λ xs. map h (values xs)) p x ≡ h x.1
answer-map h p x = answer_is (λ xs. map h (values xs)) p x (map h (values p)) (h x.1) (ap (map h) (map_push (λ y. y.1) p x) ∙ map_push h (values p) x.1)

-- what g gets
pub push_with_values : (f : SignalFunction) → IsSignalFunction f → (p : TimedList) (x : ℕ × Datum)
    → with_values (p ++ x ∷ []) (f (p ++ x ∷ [])) ≡ with_values p (f p) ++ (x.0, answer f p x) ∷ []
push_with_values f sf p x = ap (with_values (p ++ x ∷ [])) (signal-push f sf p x) ∙ push_zip_with _ p (f p) x (answer f p x) (sf.sized p)

pub push_pair_samples : (f : SignalFunction) → IsSignalFunction f → (p : TimedList) (x : ℕ × Datum)
    → pair_samples (p ++ x ∷ []) (f (p ++ x ∷ [])) ≡ pair_samples p (f p) ++ (x.0, pair x.1 (answer f p x)) ∷ []
push_pair_samples f sf p x = ap (pair_samples (p ++ x ∷ [])) (signal-push f sf p x) ∙ push_zip_with _ p (f p) x (answer f p x) (sf.sized p)

pub answer-sequence : (f g : SignalFunction) → IsSignalFunction f → (p : TimedList) (x : ℕ × Datum)
    → answer (seq_function f g) p x ≡ answer g (with_values p (f p)) (x.0, answer f p x)
answer-sequence f g sf p x = ap (λ ys. last_or unit (g ys)) (push_with_values f sf p x)

pub answer-watching : (f e : SignalFunction) → IsSignalFunction f → (p : TimedList) (x : ℕ × Datum)
    → answer (watch f e) p x ≡ answer e (pair_samples p (f p)) (x.0, pair x.1 (answer f p x))
answer-watching f g sf p x = ap (λ ys. last_or unit (g ys)) (push_pair_samples f sf p x)

pub answer-after : (h : Datum → Datum) (f : SignalFunction) → IsSignalFunction f → (p : TimedList) (x : ℕ × Datum)
    → answer (λ xs. map h (f xs)) p x ≡ h (answer f p x)
answer-after h f sf p x = answer_is (λ xs. map h (f xs)) p x (map h (f p)) (h (answer f p x)) (ap (map h) (signal-push f sf p x)
    ∙ map_push h (f p) (answer f p x))

pub answer-before : (h : Datum → Datum) (f : SignalFunction) (p : TimedList) (x : ℕ × Datum)
    → answer (λ xs. f (each_value h xs)) p x ≡ answer f (each_value h p) (x.0, h x.1)
answer-before h f p x = ap (λ ys. last_or unit (f ys)) (map_push (λ y. (y.0, h y.1)) p x)

pub answer-on_left : (f : SignalFunction) → IsSignalFunction f → (p : TimedList) (x : ℕ × Datum)
    → answer (first_function f) p x ≡ pair (answer f (each_value left p) (x.0, left x.1)) (right x.1)
answer-on_left f sf p x =
    let v : Datum = answer f (each_value left p) (x.0, left x.1) in
    let fs : List Datum = f (each_value left p) in
    let l : length (map right (values p)) ≡ length fs = sym (sf.sized (each_value left p) ∙ lengths p) in
    answer_is (first_function f) p x (pairs fs (map right (values p))) (pair v (right x.1)) (
    ap (λ vs. pairs vs (map right (values (p ++ x ∷ [])))) (ap f (map_push (λ y. (y.0, left y.1)) p x) ∙ signal-push f sf (each_value left p) (x.0, left x.1))
    ∙ ap (pairs (fs ++ v ∷ [])) (ap (map right) (map_push (λ y. y.1) p x) ∙ map_push right (values p) x.1)
    ∙ push_zip_with pair fs (map right (values p)) v (right x.1) l)
  where
    lengths : (q : TimedList) → length (each_value left q) ≡ length (map right (values q))
    lengths [] = refl
    lengths (y ∷ q) = ap suc (lengths q)

-- rows of n items
pub data AllLong : ℕ → List (List Datum) → Type 0 where
  no_rows : {n : ℕ} → AllLong n []
  and_row : {n : ℕ} {row : List Datum} {rows : List (List Datum)} → length row ≡ n → AllLong n rows → AllLong n (row ∷ rows)

abbrev pub push_each : List (List Datum) → List Datum → List (List Datum)
push_each rows vs = zip_with (λ row v. row ++ v ∷ []) rows vs

heads_push : (rows : List (List Datum)) (vs : List Datum) → length vs ≡ length rows → AllLong 0 rows → heads (push_each rows vs) ≡ vs
heads_push [] [] e a = refl
heads_push [] (v ∷ vs) e a = absurd (omega arith)
heads_push (row ∷ rows) [] e a = absurd (omega arith)
heads_push ([] ∷ rows) (v ∷ vs) e (and_row l a) = let e' : length vs ≡ length rows = omega arith in ap (λ ws. v ∷ ws) (heads_push rows vs e' a)
heads_push ((w ∷ row) ∷ rows) (v ∷ vs) e (and_row l a) = absurd (omega arith)

-- a further item at each row's end changes the rest of the rows, and not their first items
push_each_more : (n : ℕ) (rows : List (List Datum)) (vs : List Datum) → length vs ≡ length rows → AllLong (suc n) rows
    → (heads (push_each rows vs) ≡ heads rows) × (tails (push_each rows vs) ≡ push_each (tails rows) vs)
push_each_more n [] [] e a = (refl, refl)
push_each_more n [] (v ∷ vs) e a = absurd (omega arith)
push_each_more n (row ∷ rows) [] e a = absurd (omega arith)
push_each_more n ([] ∷ rows) (v ∷ vs) e (and_row l a) = absurd (omega arith)
push_each_more n ((w ∷ row) ∷ rows) (v ∷ vs) e (and_row l a) =
    let e' : length vs ≡ length rows = omega arith in
    let both = push_each_more n rows vs e' a in
    (ap (λ ws. w ∷ ws) both.0, ap (λ ws. (row ++ v ∷ []) ∷ ws) both.1)

tails-long : (n : ℕ) (rows : List (List Datum)) → AllLong (suc n) rows → AllLong n (tails rows)
tails-long n [] a = no_rows
tails-long n ([] ∷ rows) (and_row l a) = absurd (omega arith)
tails-long n ((w ∷ row) ∷ rows) (and_row l a) = let l' : length row ≡ n = omega arith in and_row l' (tails-long n rows a)

length-tails : (rows : List (List Datum)) → length (tails rows) ≡ length rows
length-tails [] = refl
length-tails ([] ∷ rows) = ap suc (length-tails rows)
length-tails ((w ∷ row) ∷ rows) = ap suc (length-tails rows)

gather_push : {A : Type 0} (p : List A) (x : A) (rows : List (List Datum)) (vs : List Datum) → length vs ≡ length rows → AllLong (length p) rows
    → gather (p ++ x ∷ []) (push_each rows vs) ≡ gather p rows ++ list (list_of vs) ∷ []
gather_push [] x rows vs e a = ap (λ ws. list (list_of ws) ∷ []) (heads_push rows vs e a)
gather_push (y ∷ p) x rows vs e a =
    ap (λ ws. list (list_of ws) ∷ gather (p ++ x ∷ []) (tails (push_each rows vs))) (push_each_more (length p) rows vs e a).0
    ∙ ap (λ ws. list (list_of (heads rows)) ∷ gather (p ++ x ∷ []) ws) (push_each_more (length p) rows vs e a).1
    ∙ ap (λ ws. list (list_of (heads rows)) ∷ ws) (gather_push p x (tails rows) vs (e ∙ sym (length-tails rows)) (tails-long (length p) rows a))

abbrev pub answers : List SignalFunction → TimedList → ℕ × Datum → List Datum
answers fs p x = map (λ f. answer f p x) fs

all_of_push : (fs : List SignalFunction) → AllSignals fs → (p : TimedList) (x : ℕ × Datum) → all_of fs (p ++ x ∷ []) ≡ push_each (all_of fs p) (answers fs p x)
all_of_push [] s p x = refl
all_of_push (f ∷ fs) (and_signal sf s) p x = ap (λ r. r ∷ all_of fs (p ++ x ∷ [])) (signal-push f sf p x)
    ∙ ap (λ rs. (f p ++ answer f p x ∷ []) ∷ rs) (all_of_push fs s p x)

all_of-long : (fs : List SignalFunction) → AllSignals fs → (p : TimedList) → AllLong (length p) (all_of fs p)
all_of-long [] s p = no_rows
all_of-long (f ∷ fs) (and_signal sf s) p = and_row (sf.sized p) (all_of-long fs s p)

length-answers : (fs : List SignalFunction) (p : TimedList) (x : ℕ × Datum) → length (answers fs p x) ≡ length (all_of fs p)
length-answers [] p x = refl
length-answers (f ∷ fs) p x = ap suc (length-answers fs p x)

pub answer-in_parallel : (fs : List SignalFunction) → AllSignals fs → (p : TimedList) (x : ℕ × Datum)
    → answer (par_function fs) p x ≡ list (list_of (answers fs p x))
answer-in_parallel fs s p x = answer_is (par_function fs) p x (par_function fs p) (list (list_of (answers fs p x)))
    (ap (gather (p ++ x ∷ [])) (all_of_push fs s p x) ∙ gather_push p x (all_of fs p) (answers fs p x) (length-answers fs p x) (all_of-long fs s p))

-- what `loopPre` feeds back next
abbrev pub fed_next : Datum → SignalFunction → TimedList → Datum
fed_next c f p = last_or c (map right (f (fed c f p)))

last_cons : (c : Datum) (vs : List Datum) (n : ℕ) → length vs ≡ n → c ∷ vs ≡ take n (c ∷ vs) ++ last_or c vs ∷ []
last_cons c [] n e = rw (sym e) refl
last_cons c (v ∷ vs) zero e = absurd (omega arith)
last_cons c (v ∷ vs) (suc n) e = let e' : length vs ≡ n = omega arith in ap (λ ws. c ∷ ws) (last_cons v vs n e')

fed_back_push : (c : Datum) (f : SignalFunction) → IsSignalFunction f → (p : TimedList) (x : ℕ × Datum)
    → feedback_values c f (p ++ x ∷ []) (length (p ++ x ∷ [])) ≡ feedback_values c f p (length p) ++ fed_next c f p ∷ []
fed_back_push c f sf p x =
    let n : ℕ = length p in
    let more : TimedList = p ++ x ∷ [] in
    let l : length more ≡ suc n = length-append p (x ∷ []) ∙ (omega arith) in
    let front : take n more ≡ p = take_at p (x ∷ []) n refl in
    let kept : feedback_values c f more n ≡ feedback_values c f p n = sym (fed_back-take c f more n n (le_refl n)) ∙ ap (λ q. feedback_values c f q n) front in
    let now : feedback_values c f more (suc n) ≡ c ∷ map right (f (fed c f p)) = ap (λ q. c ∷ map right (f (pair_samples q (feedback_values c f more n)))) front
    ∙ ap (λ vs. c ∷ map right (f (pair_samples p vs))) kept in
    let lf : length (map right (f (fed c f p))) ≡ n = (IsSignal-after right f sf).sized (fed c f p) ∙ length-fed c f sf p in
    let nl : n ≤ suc n = omega arith in
    let lm : suc n ≤ length more = omega arith in
    ap (feedback_values c f more) l
    ∙ now
    ∙ last_cons c (map right (f (fed c f p))) n lf
    ∙ ap (λ vs. take n vs ++ fed_next c f p ∷ []) (sym now)
    ∙ ap (λ vs. vs ++ fed_next c f p ∷ []) (fed_back-more c f sf more (suc n) n nl lm ∙ kept)

pub fed_push : (c : Datum) (f : SignalFunction) → IsSignalFunction f → (p : TimedList) (x : ℕ × Datum)
    → fed c f (p ++ x ∷ []) ≡ fed c f p ++ (x.0, pair x.1 (fed_next c f p)) ∷ []
fed_push c f sf p x =
    ap (pair_samples (p ++ x ∷ [])) (fed_back_push c f sf p x)
    ∙ push_zip_with _ p (feedback_values c f p (length p)) x (fed_next c f p) (length-fed_back c f sf p (length p) (le_refl (length p)))

pub answer-feedback : (c : Datum) (f : SignalFunction) → IsSignalFunction f → (p : TimedList) (x : ℕ × Datum)
    → answer (loop_pre_function c f) p x ≡ left (answer f (fed c f p) (x.0, pair x.1 (fed_next c f p)))
answer-feedback c f sf p x =
    let y : ℕ × Datum = (x.0, pair x.1 (fed_next c f p)) in
    answer_is (loop_pre_function c f) p x (map left (f (fed c f p))) (left (answer f (fed c f p) y))
    (ap (λ ys. map left (f ys)) (fed_push c f sf p x) ∙ ap (map left) (signal-push f sf (fed c f p) y) ∙ map_push left (f (fed c f p)) (answer f (fed c f p) y))
