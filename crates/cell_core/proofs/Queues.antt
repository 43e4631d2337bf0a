-- What waits in a delay, in front and behind.
use Rattle.std.proofs.Common.{◌≡◌, Bool, true, false, nat_le, ℕ, zero, suc, ◌+◌, ◌-◌, ◌≤◌, ◌<◌, if◌then◌else◌, List, [], ◌∷◌, ◌++◌, length, reverse, Option, Some, None, refl, sym, ap, ap₂, ◌∙◌, arith, append_assoc, subst, length-append}
use Rattle.std.proofs.lemmas.Bool.{le-leb, lt-leb}
use Rattle.std.proofs.lemmas.List.{reverse-append, map-append}
use Rattle.sample_core.specs.Datum.{Datum}
use Rattle.sample_core.specs.ValueView.{datum_of}
use Rattle.cell_core.specs.Entries.{entries_of}
use Rattle.cell_core.specs.declared.entry.Entry.{Entry}
use Rattle.cell_core.specs.Cell.{Cell, queue, due, enqueue, count_down}
use Rattle.cell_core.specs.Queue.{times_behind, place, fronted, IsPassed, IsFront, then_found, Gathers}

-- one that is due is out
pub due-passes : (d : ℕ) (out : Datum) (left : ℕ) (v : Datum) (es : List (ℕ × Datum)) → left ≤ d → due d out ((left, v) ∷ es) ≡ due d v es
due-passes d out left v es h = ap (λ b. if b then due d v es else (out, count_down d ((left, v) ∷ es))) (le-leb left d h)

-- one that is not due stays in front
pub due-stops : (d : ℕ) (out : Datum) (left : ℕ) (v : Datum) (es : List (ℕ × Datum)) → d < left
    → due d out ((left, v) ∷ es) ≡ (out, count_down d ((left, v) ∷ es))
due-stops d out left v es h = ap (λ b. if b then due d v es else (out, count_down d ((left, v) ∷ es))) (lt-leb left d h)

count_down-append : (d : ℕ) (es fs : List (ℕ × Datum)) → count_down d (es ++ fs) ≡ count_down d es ++ count_down d fs
count_down-append d [] fs = refl
count_down-append d (e ∷ es) fs = ap (λ xs. (e.0 - d, e.1) ∷ xs) (count_down-append d es fs)

-- time goes on for those in front
count_down-fronted : (d : ℕ) (es : List (ℕ × Datum)) (now n : ℕ) → count_down d (fronted es now n) ≡ fronted es (now + d) n
count_down-fronted d es now zero = refl
count_down-fronted d es now (suc n) =
    let e : (place es n).0 - now - d ≡ (place es n).0 - (now + d) = omega arith in
    ap (λ t. (t, (place es n).1) ∷ count_down d (fronted es now n)) e
    ∙ ap (λ xs. ((place es n).0 - (now + d), (place es n).1) ∷ xs) (count_down-fronted d es now n)

-- time goes on for those behind
count_down-behind : (d t : ℕ) (es : List (ℕ × Datum)) → count_down d (times_behind t es) ≡ times_behind (t - d) es
count_down-behind d t [] = refl
count_down-behind d t (e ∷ es) =
    let swapped : t - e.0 - d ≡ t - d - e.0 = omega arith in
    count_down-append d (times_behind (t - e.0) es) ((t, e.1) ∷ [])
    ∙ ap (λ xs. xs ++ (t - d, e.1) ∷ []) (count_down-behind d (t - e.0) es ∙ ap (λ u. times_behind u es) swapped)

-- where one that is due comes last, all pass
all_pass : (d t : ℕ) (es : List (ℕ × Datum)) (out : Datum) (u : ℕ) (v : Datum) (more : List (ℕ × Datum)) → t ≤ d → u ≤ d
    → due d out (times_behind t es ++ (u, v) ∷ more) ≡ due d v more
all_pass d t [] out u v more h k = due-passes d out u v more k
all_pass d t (e ∷ es) out u v more h k =
    ap (due d out) (append_assoc (times_behind (t - e.0) es) ((t, e.1) ∷ []) ((u, v) ∷ more))
    ∙ all_pass d (t - e.0) es out t e.1 ((u, v) ∷ more) (omega arith) h
    ∙ due-passes d e.1 u v more k

-- the newest of those behind is due
pub behind-passes : (d t : ℕ) (out : Datum) (e : ℕ × Datum) (es : List (ℕ × Datum)) → t ≤ d → due d out (times_behind t (e ∷ es)) ≡ (e.1, [])
behind-passes d t out e es h = all_pass d (t - e.0) es out t e.1 [] (omega arith) h

last-by : (b : Bool) (d : ℕ) (out : Datum) (e : ℕ × Datum) (es : List (ℕ × Datum)) (t : ℕ) (v : Datum)
    → due d e.1 (es ++ (t, v) ∷ []) ≡ ((due d e.1 es).0, (due d e.1 es).1 ++ (t - d, v) ∷ [])
    → (if b then due d e.1 (es ++ (t, v) ∷ []) else (out, count_down d (e ∷ (es ++ (t, v) ∷ []))))
    ≡ ((if b then due d e.1 es else (out, count_down d (e ∷ es))).0, (if b then due d e.1 es else (out, count_down d (e ∷ es))).1 ++ (t - d, v) ∷ [])
last-by true d out e es t v h = h
last-by false d out e es t v h = ap (λ xs. (out, (e.0 - d, e.1) ∷ xs)) (count_down-append d es ((t, v) ∷ []))

-- one that isn't due comes last
due-last : (d : ℕ) (out : Datum) (es : List (ℕ × Datum)) (t : ℕ) (v : Datum) → d < t
    → due d out (es ++ (t, v) ∷ []) ≡ ((due d out es).0, (due d out es).1 ++ (t - d, v) ∷ [])
due-last d out [] t v h = due-stops d out t v [] h
due-last d out (e ∷ es) t v h = last-by (nat_le e.0 d) d out e es t v (due-last d e.1 es t v h)

-- what waits in front and isn't due stays
waits_on : (d : ℕ) (es : List (ℕ × Datum)) (now n : ℕ) (out : Datum) (more : List (ℕ × Datum)) → 0 < n → d < (place es (n - 1)).0 - now
    → due d out (fronted es now n ++ more) ≡ (out, count_down d (fronted es now n ++ more))
waits_on d es now zero out more h k = absurd (omega (arith, h))
waits_on d es now (suc n) out more h k =
    let e : suc n - 1 ≡ n = omega arith in
    due-stops d out ((place es n).0 - now) (place es n).1 (fronted es now n ++ more) (subst (λ i. d < (place es i).0 - now) e k)

-- a step where some in front still wait
pub moved_on : (q d now from to : ℕ) (es back : List (ℕ × Datum)) (x : Datum) (r : Cell × Datum) → IsPassed es now d from to → 0 < to
    → (queue q (place es to).1 (fronted es (now + d) to ++ times_behind q ((d, x) ∷ back)), (place es to).1) ≡ r
    → enqueue q x (due d (place es from).1 (fronted es now from ++ times_behind q back)) ≡ r
moved_on q d now from to es back x r p h is =
    ap (enqueue q x) (p.1 (times_behind q back) ∙ waits_on d es now to (place es to).1 (times_behind q back) h (p.2 h)
    ∙ ap (λ xs. ((place es to).1, xs)) (count_down-append d (fronted es now to) (times_behind q back)
    ∙ ap₂ (λ f b. f ++ b) (count_down-fronted d es now to) (count_down-behind d q back)))
    ∙ ap (λ xs. (queue q (place es to).1 xs, (place es to).1)) (append_assoc (fronted es (now + d) to) (times_behind (q - d) back) ((q, x) ∷ []))
    ∙ is

-- the newest of those behind waits
pub one_found : (d t left s : ℕ) (out v : Datum) (back next es found : List (ℕ × Datum)) (all : Datum × List (ℕ × Datum)) → d < t
    → then_found (due d out (times_behind t ((s, v) ∷ back))) es ≡ all → found ≡ es ++ (t - d, v) ∷ [] → left ≡ t - s → back ≡ next
    → then_found (due d out (times_behind left next)) found ≡ all
one_found d t left s out v back next es found all h is more later same =
    let r : Datum × List (ℕ × Datum) = due d out (times_behind (t - s) back) in
    ap (λ u. then_found (due d out (times_behind u next)) found) later
    ∙ ap (λ b. then_found (due d out (times_behind (t - s) b)) found) (sym same)
    ∙ ap (λ xs. (r.0, r.1 ++ xs)) (ap reverse more ∙ reverse-append es ((t - d, v) ∷ []))
    ∙ ap (λ xs. (r.0, xs)) (sym (append_assoc r.1 ((t - d, v) ∷ []) (reverse es)))
    ∙ ap (λ u. then_found u es) (sym (due-last d out (times_behind (t - s) back) t v h))
    ∙ is

-- those in front but the first, by one more before them
fronted-cons : (e : ℕ × Datum) (es : List (ℕ × Datum)) (now n : ℕ) → fronted (e ∷ es) now (suc n) ≡ fronted es now n ++ (e.0 - now, e.1) ∷ []
fronted-cons e es now zero = refl
fronted-cons e es now (suc n) = ap (λ xs. ((place es n).0 - now, (place es n).1) ∷ xs) (fronted-cons e es now n)

-- a new front
new_front : (es : List (ℕ × Datum)) (out : ℕ × Datum) → fronted (es ++ out ∷ []) 0 (length es) ≡ reverse es
new_front [] out = refl
new_front (e ∷ es) out =
    let now : e.0 - 0 ≡ e.0 = omega arith in
    fronted-cons e (es ++ out ∷ []) 0 (length es)
    ∙ ap (λ t. fronted (es ++ out ∷ []) 0 (length es) ++ (t, e.1) ∷ []) now
    ∙ ap (λ xs. xs ++ (e.0, e.1) ∷ []) (new_front es out)
    ∙ sym (reverse-append (e ∷ []) es)

-- its last is out
new_out : (es : List (ℕ × Datum)) (out : ℕ × Datum) → place (es ++ out ∷ []) (length es) ≡ out
new_out [] out = refl
new_out (e ∷ es) out = new_out es out

-- all that wait are found
pub all_found : (es front : List (ℕ × Datum)) (v : Datum) (all : Datum × List (ℕ × Datum)) → then_found (v, []) es ≡ all → front ≡ es ++ (0, v) ∷ []
    → IsFront front all
all_found es front v all is e =
    let n : length front ≡ length es + 1 = ap length e ∙ length-append es ((0, v) ∷ []) in
    let m : length front - 1 ≡ length es = omega (arith, n) in
    let at : (place front (length front - 1)).1 ≡ v = ap₂ (λ f i. (place f i).1) e m ∙ ap (λ p. p.1) (new_out es (0, v)) in
    let waits : fronted front 0 (length front - 1) ≡ reverse es = ap₂ (λ f i. fronted f 0 i) e m ∙ new_front es (0, v) in
    (omega (arith, n), sym is ∙ ap₂ (λ o xs. (o, xs)) (sym at) (sym waits))

-- the newest of samples comes first
pub newest_first : (xs rest : List Entry) (e : Entry) → xs ≡ rest ++ e ∷ [] → reverse (entries_of xs) ≡ (e.time, datum_of e.value) ∷ reverse (entries_of rest)
newest_first xs rest e is =
    ap (λ es. reverse (entries_of es)) is
    ∙ ap reverse (map-append (λ (f : Entry). (f.time, datum_of f.value)) rest (e ∷ []))
    ∙ reverse-append (entries_of rest) ((e.time, datum_of e.value) ∷ [])

-- the newest of those behind is due, and is found last
pub one_due : (d t : ℕ) (e : ℕ × Datum) (all back es front : List (ℕ × Datum)) → all ≡ e ∷ back → t ≤ d → front ≡ es ++ (0, e.1) ∷ []
    → Gathers d t all es None front
one_due d t e all back es front is h more = λ out older.
    all_found es front e.1 _
    (ap (λ r. then_found r es) (sym (behind-passes d t out e (back ++ older) h)) ∙ ap (λ xs. then_found (due d out (times_behind t (xs ++ older))) es) (sym is)) more

-- the newest of those behind waits, and those before it are found
pub gathers_on : (d t left : ℕ) (e : ℕ × Datum) (all back es found fs : List (ℕ × Datum)) (r : Option ℕ) → all ≡ e ∷ back → d < t
    → found ≡ es ++ (t - d, e.1) ∷ [] → left ≡ t - e.0 → Gathers d left back found r fs → Gathers d t all es r fs
gathers_on d t left e all back es found fs (Some rest) is h more later g = λ out older.
    ap (λ xs. then_found (due d out (times_behind t (xs ++ older))) es) is
    ∙ sym (one_found d t left e.0 out e.1 (back ++ older) (back ++ older) es found _ h refl more later refl)
    ∙ g out older
gathers_on d t left e all back es found fs None is h more later g = λ out older.
    subst (IsFront fs)
    (one_found d t left e.0 out e.1 (back ++ older) (back ++ older) es found _ h refl more later refl
    ∙ ap (λ xs. then_found (due d out (times_behind t (xs ++ older))) es) (sym is))
    (g out older)

-- all behind are found, and what was out in front comes last
pub gathered : (d t left : ℕ) (out v : Datum) (back older es found front : List (ℕ × Datum)) (all : Datum × List (ℕ × Datum)) (r : Option ℕ)
    → then_found (due d out (times_behind t (back ++ older))) es ≡ all → Gathers d t back es r found → r ≡ Some left → older ≡ [] → out ≡ v
    → front ≡ found ++ (0, v) ∷ [] → IsFront front all
gathered d t left out v back older es found front all r is g rest none same more =
    let through : Gathers d t back es (Some left) found = subst (λ o. Gathers d t back es o found) rest g in
    all_found found front v all
    (ap (λ o. then_found (o, []) found) (sym same) ∙ ap (λ xs. then_found (due d out (times_behind left xs)) found) (sym none) ∙ sym (through out older) ∙ is)
    more
