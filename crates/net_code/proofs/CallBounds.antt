-- Code calls at most as many steps as its network weighs.
use Rattle.std.proofs.Common.{◌≡◌, ◌≤◌, ◌<◌, ℕ, zero, suc, ◌+◌, ◌*◌, max, Bool, true, false, if◌then◌else◌, List, [], ◌∷◌, ◌++◌, map, length, take, Option, Some, None, get_or, refl, sym, ap, ◌∙◌, arith, subst, append-nil, append_assoc}
use Rattle.std.proofs.lemmas.List.{length-map}
use Rattle.sample_core.specs.Datum.{Datum, left}
use Rattle.leaf_core.specs.declared.expr.Expr.{Expr}
use Rattle.net_tree.specs.Network.{at_once, delayed, Network, Networks, arr, seq, first, par, loop_pre, initial_out, initial_in, i_pre, delay, hold, accum_by, after, repeatedly, time, integral, switch, r_switch, rp_switch, k_switch, p_switch, old, no_members, and_member}
use Rattle.net_tree.specs.Height.{greatest}
use Rattle.net_tree.specs.Weight.{weight, weights, weight_at, total}
use Rattle.net_meaning.specs.SignalFunction.{TimedList, event_in}
use Rattle.net_machine.specs.Store.{Moment, start, step, Store, Origin, written, made, one, other, mode_of, front_part, taker_part, entries}
use Rattle.net_machine.specs.Stepper.{Timed, Stepper, event_beside, Turn, turns, members_at, members_in}
use Rattle.net_machine.proofs.Collections.{few-taken}
use Rattle.net_code.specs.declared.freezable.Freezable.{Freezable}
use Rattle.net_code.specs.Running.{Body, Code, Given, given_value, value_taken, cleared, taken_by, frozen_now, beside_in, is_none, going, Linked, Local, entered, latest, nothing_given, AllBelow}
use Rattle.net_code.specs.Bodies.{member_statements}
use Rattle.net_code.specs.CodeOf.{freezable, and_body, body_of_old, emit, emit_all, code_of}
use Rattle.net_code.specs.CodeLaw.{value_in}
use Rattle.net_code.specs.Calls.{Counter, Counted, no_calls, each_calls, routed_calls, member_calls, turns_calls, going_calls, body_calls, function_calls, run_calls, CallsLaw}
use Rattle.net_code.proofs.BodyLaws.{steps_of}
use Rattle.net_code.proofs.Links.{Begins, function_of}
use Rattle.net_code.proofs.Emitted.{begins-trans, before, adds, adds_all, below-more, latest_below, all_below, latest_body}
use Rattle.net_code.proofs.CallLinks.{counter_of, same_counter, next_counter}

-- at most so many
within-sum : (a b m n : ℕ) → a ≤ m → b ≤ n → a + b ≤ m + n
within-sum a b m n i j = omega arith

within-if : (b : Bool) (m n w : ℕ) → m ≤ w → n ≤ w → (if b then m else n) ≤ w
within-if true m n w i j = i
within-if false m n w i j = j

none : (n : ℕ) → 0 ≤ n
none n = omega arith

and-none : (a m : ℕ) → a ≤ m → a + 0 ≤ m
and-none a m i = omega arith

zero-and : (a m : ℕ) → a ≤ m → 0 + a ≤ m
zero-and a m i = omega arith

at-last : (a b m : ℕ) → a ≤ b → b ≤ m → a ≤ m
at-last a b m i j = omega arith

within-three : (a b c m n k : ℕ) → a ≤ m → b ≤ n → c ≤ k → a + (0 + (b + c)) ≤ m + n + k
within-three a b c m n k i j l = omega arith

within-twice : (a m n : ℕ) → a ≤ (m + n) + n → a ≤ m + 2 * n
within-twice a m n i = omega arith

-- so many times w
abbrev times : ℕ → ℕ → ℕ
times zero w = 0
times (suc n) w = w + times n w

times-more : (m n w : ℕ) → m ≤ n → times m w ≤ times n w
times-more zero n w l = none _
times-more (suc m) zero w l = absurd (omega arith)
times-more (suc m) (suc n) w l = within-sum _ _ _ _ (omega arith) (times-more m n w (omega arith))

times-is : (w : ℕ) → times 64 w ≡ 64 * w
times-is w = omega arith

left-of-sum : (a m n : ℕ) → a ≤ m → a ≤ m + n
left-of-sum a m n i = omega arith

right-of-sum : (b m n : ℕ) → b ≤ n → b ≤ m + n
right-of-sum b m n i = omega arith

-- a counter is at most w
abbrev Below : Counter → ℕ → Type 0
Below n w = (s : Store) (x : Timed) → n s x ≤ w

-- counters are each at most one of these
abbrev AllWithin : List Counter → List ℕ → Type 0
AllWithin [] ws = ws ≡ []
AllWithin (n ∷ ns) [] = ⊥
AllWithin (n ∷ ns) (w ∷ ws) = Below n w × AllWithin ns ws

each-within : (ns : List Counter) (ws : List ℕ) (s : Store) (x : Timed) → AllWithin ns ws → each_calls ns s x ≤ total ws
each-within [] ws s x i = omega arith
each-within (n ∷ ns) [] s x i = absurd i
each-within (n ∷ ns) (w ∷ ws) s x i = within-sum _ _ _ _ (i.0 (one s) x) (each-within ns ws (other s) x i.1)

routed-within : (r : Datum → Datum) (k : ℕ) (ns : List Counter) (ws : List ℕ) (s : Store) (x : Timed) → AllWithin ns ws → routed_calls r k ns s x ≤ total ws
routed-within r k [] ws s x i = omega arith
routed-within r k (n ∷ ns) [] s x i = absurd i
routed-within r k (n ∷ ns) (w ∷ ws) s x i = within-sum _ _ _ _ (i.0 (one s) _) (routed-within r (suc k) ns ws (other s) x i.1)

turns-within : (f : Origin → Counter) (w : ℕ) (ms : List Turn) (v : Datum) → ((o : Origin) → Below (f o) w) → turns_calls f ms v ≤ times (length ms) w
turns-within f w [] v i = omega arith
turns-within f w (m ∷ ms) v i = within-sum _ _ w (times (length ms) w) (i m.1.0 m.1.1 (m.0, v)) (turns-within f w ms v i)

few-turns : (r : Datum → Datum) (m : Moment) (fs : List Stepper) (s : Store) (o : Option Datum) → length (members_in r (members_at m fs s) o) ≤ 64
few-turns r start fs s None = few-taken _
few-turns r (step d) fs s None =
    let e : length (turns (step d) (take 64 (entries s))) ≡ length (take 64 (entries s)) = length-map (take 64 (entries s)) _ in
    let k : length (take 64 (entries s)) ≤ 64 = few-taken (entries s) in
    omega arith
few-turns r m fs s (Some c) = few-taken _

-- each is at most the greatest
member-within : (ns : List Counter) (ws : List ℕ) (k : ℕ) (w : ℕ) → AllWithin ns ws → greatest ws ≤ w → Below (get_or ns k no_calls) w
member-within [] ws k w i l s x = omega arith
member-within (n ∷ ns) [] k w i l s x = absurd i
member-within (n ∷ ns) (u ∷ ws) zero w i l s x =
    let h : n s x ≤ u = i.0 s x in let m : max u (greatest ws) ≤ w = l in omega arith
member-within (n ∷ ns) (u ∷ ws) (suc k) w i l s x =
    let m : max u (greatest ws) ≤ w = l in member-within ns ws k w i.1 (omega arith) s x

-- of a collection
origin-within : (ns : List Counter) (ws : List ℕ) (t : Datum → Counter) (wt : ℕ) → AllWithin ns ws → ((v : Datum) → Below (t v) wt)
    → (o : Origin) → Below (member_calls ns t o) (max wt (greatest ws))
origin-within ns ws t wt i h (written k) s x = member-within ns ws k (max wt (greatest ws)) i (omega arith) s x
origin-within ns ws t wt i h (made v) s x = let k : t v s x ≤ wt = h v s x in omega arith

module _ (val : Expr → List Datum → Datum → Datum) (D : Code) where
  -- function j calls at most w
  abbrev AtMost : ℕ → ℕ → Type 0
  AtMost j w = (g : Given) → Below (counter_of val D j g) w

  -- the same in the code before a node
  at-most-earlier : (d : Code) (j w : ℕ) → Begins d D → j < length d → AtMost j w → (g : Given) → Below (counter_of val d j g) w
  at-most-earlier d j w i l h = subst (λ (n : Counted). (g : Given) → Below (n g) w) (same_counter val d D j i l) h

  -- a node calls one more than its statements
  node-calls : (d : Code) (b : Body) (w : ℕ) → Begins (and_body d b) D
      → ((g : Given) (s : Store) (x : Timed) → body_calls val (function_of val d) (counter_of val d) g b (entered s x) [] ≤ w)
      → AtMost (latest (and_body d b)) (suc w)
  node-calls d b w i h g s x =
      let e : counter_of val D (latest (and_body d b)) ≡ function_calls val (function_of val d) (counter_of val d) b =
      ap (counter_of val D) (latest_body d b) ∙ next_counter val d b D i in
      let k : body_calls val (function_of val d) (counter_of val d) g b (entered s x) [] ≤ w = h g s x in
      subst (λ (n : Counted). n g s x ≤ suc w) (sym e) (omega arith)

  -- members' counters, within these
  abbrev CountersWithin : List ℕ → List ℕ → Type 0
  CountersWithin [] ws = ws ≡ []
  CountersWithin (j ∷ js) [] = ⊥
  CountersWithin (j ∷ js) (w ∷ ws) = AtMost j w × CountersWithin js ws

  counters-earlier : (d : Code) (js ws : List ℕ) (g : Given) → Begins d D → AllBelow (length d) js → CountersWithin js ws
      → AllWithin (map (λ j. counter_of val d j g) js) ws
  counters-earlier d [] ws g i l h = h
  counters-earlier d (j ∷ js) [] g i l h = absurd h
  counters-earlier d (j ∷ js) (w ∷ ws) g i l h = (at-most-earlier d j w i l.0 h.0 g, counters-earlier d js ws g i l.1 h.1)

  -- what may be frozen is among q functions, and calls at most so many
  abbrev Weighs : ℕ → List Freezable → List ℕ → Type 0
  Weighs q [] ws = ws ≡ []
  Weighs q (p ∷ ps) [] = ⊥
  Weighs q (p ∷ ps) (w ∷ ws) = (p.function < q) × AtMost p.function w × Weighs q ps ws

  weighs-more : (q r : ℕ) (ps : List Freezable) (ws : List ℕ) → q ≤ r → Weighs q ps ws → Weighs r ps ws
  weighs-more q r [] ws l h = h
  weighs-more q r (p ∷ ps) [] l h = absurd h
  weighs-more q r (p ∷ ps) (w ∷ ws) l h = let k : p.function < q = h.0 in (omega arith, h.1, weighs-more q r ps ws l h.2)

  weighs-append : (q n m : ℕ) (ps : List Freezable) (ws js us : List ℕ) → Weighs q ps ws → AllBelow q js → CountersWithin js us
      → Weighs q (ps ++ map (freezable n m) js) (ws ++ us)
  weighs-append q n m [] [] js us h i k = members js us i k
    where
      members : (js us : List ℕ) → AllBelow q js → CountersWithin js us → Weighs q (map (freezable n m) js) us
      members [] us i k = k
      members (j ∷ js) [] i k = absurd k
      members (j ∷ js) (u ∷ us) i k = (i.0, k.0, members js us i.1 k.1)
  weighs-append q n m [] (w ∷ ws) js us h i k = cc
  weighs-append q n m (p ∷ ps) [] js us h i k = absurd h
  weighs-append q n m (p ∷ ps) (w ∷ ws) js us h i k = (h.0, h.1, weighs-append q n m ps ws js us h.2 i k)

  -- the statements of members, behind others
  abbrev local : List Datum → Store → Moment → List Stepper → Local
  local rs s m fs = record { registers = rs; store = s; now = m; members = fs }

  members_calls : (d : Code) (g : Given) (fs : List ℕ) (b : Body) (rs : List Datum) (s : Store) (m : Moment) (hs : List Stepper) (ns : List Counter)
      → body_calls val (function_of val d) (counter_of val d) g (member_statements fs ++ b) (local rs s m hs) ns
      ≡ body_calls val (function_of val d) (counter_of val d) g b (local rs s m (hs ++ steps_of val (function_of val d) g fs)) (ns ++ map (λ j. counter_of val d j g) fs)
  members_calls d g [] b rs s m hs ns =
      ap (λ hs. body_calls val (function_of val d) (counter_of val d) g b (local rs s m hs) ns) (sym (append-nil hs))
      ∙ ap (λ ns. body_calls val (function_of val d) (counter_of val d) g b (local rs s m (hs ++ [])) ns) (sym (append-nil ns))
  members_calls d g (f ∷ fs) b rs s m hs ns =
      let F : ℕ → Linked = function_of val d in
      let N : ℕ → Counted = counter_of val d in
      members_calls d g fs b rs s m (hs ++ F f g ∷ []) (ns ++ N f g ∷ [])
      ∙ ap (λ hs. body_calls val F N g b (local rs s m hs) ((ns ++ N f g ∷ []) ++ map (λ j. N j g) fs)) (append_assoc hs (F f g ∷ []) (steps_of val F g fs))
      ∙ ap (λ ns. body_calls val F N g b (local rs s m (hs ++ F f g ∷ steps_of val F g fs)) ns) (append_assoc ns (N f g ∷ []) (map (λ j. N j g) fs))

  old-calls : (d : Code) (ps : List Freezable) (ws : List ℕ) (k i : ℕ) → Begins d D → Weighs (length d) ps ws → (g : Given) (s : Store) (x : Timed)
      → body_calls val (function_of val d) (counter_of val d) g (body_of_old ps k i) (entered s x) [] ≤ weight_at ws k
  old-calls d [] ws k i b h g s x = none _
  old-calls d (p ∷ ps) [] k i b h g s x = absurd h
  old-calls d (p ∷ ps) (w ∷ ws) zero i b h g s x = at-most-earlier d p.function w b h.0 h.1 _ _ _
  old-calls d (p ∷ ps) (w ∷ ws) (suc k) i b h g s x = old-calls d ps ws k i b h.2 g s x

  -- what goes on calls at most both
  going-within : (H : ℕ → Counted) (f t : ℕ) (m n : ℕ) → ((g : Given) → Below (H f g) m) → ((g : Given) → Below (H t g) n)
      → (F : ℕ → Linked) (g : Given) (s : Store) (x : Timed) (o : Option Datum) → going_calls val F H g f t s x o ≤ m + n
  going-within H f t m n i j F g s x None = left-of-sum _ m n (i _ _ _)
  going-within H f t m n i j F g s x (Some c) = right-of-sum _ m n (j _ _ _)

  -- the part of a node, whose function is the last one before it
  one-part : (f : Network Expr) (n : ℕ) (ps : List Freezable) (c : Code) (b : Body) (w : ℕ) → Begins (and_body (emit f n ps c) b) D
      → (Begins (emit f n ps c) D → AtMost (latest (emit f n ps c)) w)
      → (g : Given) → Below (counter_of val (emit f n ps c) (latest (emit f n ps c)) g) w
  one-part f n ps c b w i h =
      let id : Begins (emit f n ps c) D = before D (emit f n ps c) b i in
      at-most-earlier (emit f n ps c) (latest (emit f n ps c)) w id (latest_below f n ps c) (h id)

  -- two parts of a node, the code of the second behind that of the first
  two-parts : (f t : Network Expr) (n m : ℕ) (ps : List Freezable) (ws : List ℕ) (c : Code) (s : Body) (u v : ℕ)
      → Weighs (length c) ps ws → Begins (and_body (emit t m ps (emit f n ps c)) s) D
      → (Begins (emit f n ps c) D → AtMost (latest (emit f n ps c)) u)
      → (Weighs (length (emit f n ps c)) ps ws → Begins (emit t m ps (emit f n ps c)) D → AtMost (latest (emit t m ps (emit f n ps c))) v)
      → ((g : Given) → Below (counter_of val (emit t m ps (emit f n ps c)) (latest (emit f n ps c)) g) u)
      × ((g : Given) → Below (counter_of val (emit t m ps (emit f n ps c)) (latest (emit t m ps (emit f n ps c))) g) v)
  two-parts f t n m ps ws c s u v w i hf ht =
      let d : Code = emit f n ps c in
      let b : Code = emit t m ps d in
      let ib : Begins b D = before D b s i in
      let lc : length c < length d = (adds f n ps c).1 in
      let lb : length d < length b = (adds t m ps d).1 in
      let ld : latest d < length d = latest_below f n ps c in (
        at-most-earlier b (latest d) u ib (omega arith) (hf (begins-trans d b D (adds t m ps d).0 ib)),
        one-part t m ps d s v i (ht (weighs-more (length c) (length d) ps ws (omega arith) w)),
      )

  -- parts of a node that freezes them, the watcher, and what takes over
  frozen-parts : (d : Code) (e t : Network Expr) (n : ℕ) (ps : List Freezable) (ws js us : List ℕ) (s : Body) (u v : ℕ)
      → Weighs (length d) ps ws → AllBelow (length d) js
      → Begins (and_body (emit t (suc n) (ps ++ map (freezable n (length ps)) js) (emit e n ps d)) s) D
      → (Begins d D → CountersWithin js us)
      → (Begins (emit e n ps d) D → AtMost (latest (emit e n ps d)) u)
      → (Weighs (length (emit e n ps d)) (ps ++ map (freezable n (length ps)) js) (ws ++ us)
      → Begins (emit t (suc n) (ps ++ map (freezable n (length ps)) js) (emit e n ps d)) D
      → AtMost (latest (emit t (suc n) (ps ++ map (freezable n (length ps)) js) (emit e n ps d))) v)
      → ((g : Given) → AllWithin (map (λ j. counter_of val (emit t (suc n) (ps ++ map (freezable n (length ps)) js) (emit e n ps d)) j g) js) us)
      × ((g : Given) → Below (counter_of val (emit t (suc n) (ps ++ map (freezable n (length ps)) js) (emit e n ps d)) (latest (emit e n ps d)) g) u)
      × ((g : Given) → Below (counter_of val (emit t (suc n) (ps ++ map (freezable n (length ps)) js) (emit e n ps d)) (latest (emit t (suc n) (ps ++ map (freezable n (length ps)) js) (emit e n ps d))) g) v)
  frozen-parts d e t n ps ws js us s u v w md i hf he ht =
      let qs : List Freezable = ps ++ map (freezable n (length ps)) js in
      let k : Code = emit e n ps d in
      let b : Code = emit t (suc n) qs k in
      let ib : Begins b D = before D b s i in
      let ik : Begins k D = begins-trans k b D (adds t (suc n) qs k).0 ib in
      let lk : length d < length k = (adds e n ps d).1 in
      let lb : length k < length b = (adds t (suc n) qs k).1 in
      let mk : latest k < length k = latest_below e n ps d in
      let cf : CountersWithin js us = hf (begins-trans d k D (adds e n ps d).0 ik) in
      let wk : Weighs (length k) qs (ws ++ us) =
      weighs-append (length k) n (length ps) ps ws js us (weighs-more (length d) (length k) ps ws (omega arith) w)
      (below-more (length d) (length k) js (omega arith) md) cf in (
        (λ g. counters-earlier b js us g ib (below-more (length d) (length b) js (omega arith) md) cf),
        at-most-earlier b (latest k) u ib (omega arith) (he ik),
        one-part t (suc n) qs k s v i (ht wk),
      )

  mutual
    pub calls : (net : Network Expr) (n : ℕ) (ps : List Freezable) (ws : List ℕ) (c : Code) → Weighs (length c) ps ws → Begins (emit net n ps c) D
        → AtMost (latest (emit net n ps c)) (weight net ws)
    calls (arr e) n ps ws c w i = node-calls c _ 0 i (λ g s x. none _)
    calls (seq f h) n ps ws c w i =
        let hs = two-parts f h n n ps ws c _ (weight f ws) (weight h ws) w i (calls f n ps ws c w) (calls h n ps ws (emit f n ps c)) in
        node-calls _ _ _ i (λ g s x. within-sum _ _ _ _ (hs.0 _ _ _) (hs.1 _ _ _))
    calls (first f) n ps ws c w i =
        let hf = one-part f n ps c _ (weight f ws) i (calls f n ps ws c w) in
        node-calls _ _ _ i (λ g s x. zero-and _ _ (and-none _ _ (hf _ _ _)))
    calls (par fs) n ps ws c w i =
        let r : Code × List ℕ = emit_all fs n ps c in
        let ir : Begins r.0 D = before D r.0 _ i in
        node-calls r.0 _ _ i (λ g s x. subst (λ k. k ≤ total (weights fs ws)) (sym (members_calls r.0 g r.1 _ (x.1 ∷ []) s x.0 [] []))
        (each-within _ _ _ _ (counters-earlier r.0 r.1 _ g ir (all_below fs n ps c) (all_calls fs n ps ws c w ir))))
    calls (loop_pre e f) n ps ws c w i =
        let hf = one-part f n ps c _ (weight f ws) i (calls f n ps ws c w) in
        node-calls _ _ _ i (λ g s x. zero-and _ _ (zero-and _ _ (zero-and _ _ (and-none _ _ (hf _ _ _)))))
    calls (i_pre e) n ps ws c w i = node-calls c _ 0 i (λ g s x. none _)
    calls (delay q e) n ps ws c w i = node-calls c _ 0 i (λ g s x. none _)
    calls (hold e) n ps ws c w i = node-calls c _ 0 i (λ g s x. none _)
    calls (accum_by h z) n ps ws c w i = node-calls c _ 0 i (λ g s x. none _)
    calls (after q e) n ps ws c w i = node-calls c _ 0 i (λ g s x. none _)
    calls (repeatedly q e) n ps ws c w i = node-calls c _ 0 i (λ g s x. none _)
    calls time n ps ws c w i = node-calls c _ 0 i (λ g s x. none _)
    calls integral n ps ws c w i = node-calls c _ 0 i (λ g s x. none _)
    calls (switch at_once f t) n ps ws c w i =
        let hs = two-parts f t n (suc n) ps ws c _ (weight f ws) (weight t ws) w i (calls f n ps ws c w) (calls t (suc n) ps ws (emit f n ps c)) in
        node-calls _ _ _ i (λ g s x. within-if _ _ _ _ (right-of-sum _ _ _ (hs.1 _ _ _)) (within-sum _ _ _ _ (hs.0 _ _ _) (zero-and _ _ (zero-and _ _ (within-if _ _ _ _ (none _) (hs.1 _ _ _))))))
    calls (switch delayed f t) n ps ws c w i =
        let hs = two-parts f t n (suc n) ps ws c _ (weight f ws) (weight t ws) w i (calls f n ps ws c w) (calls t (suc n) ps ws (emit f n ps c)) in
        node-calls _ _ _ i (λ g s x. within-if _ _ _ _ (right-of-sum _ _ _ (hs.1 _ _ _)) (within-sum _ _ _ _ (hs.0 _ _ _) (zero-and _ _ (zero-and _ _ (within-if _ _ _ _ (none _) (and-none _ _ (hs.1 _ _ _)))))))
    calls (r_switch at_once f t) n ps ws c w i =
        let d : Code = emit f n ps c in
        let b : Code = emit t (suc n) ps d in
        let hs = two-parts f t n (suc n) ps ws c _ (weight f ws) (weight t ws) w i (calls f n ps ws c w) (calls t (suc n) ps ws d) in
        node-calls b _ _ i (λ g s x.
        let T : Store = taken_by (event_in (beside_in x.1)) (cleared x.0 s) in
        zero-and _ _ (zero-and _ _ (within-if (is_none (event_in (beside_in x.1))) _ _ _
        (going-within (counter_of val b) (latest d) (latest b) _ _ hs.0 hs.1 (function_of val b) g (cleared x.0 s) (x.0, left x.1) (mode_of (cleared x.0 s)))
        (right-of-sum _ _ _ (hs.1 (given_value g (value_taken T)) (taker_part T) (start, left x.1))))))
    calls (r_switch delayed f t) n ps ws c w i =
        let d : Code = emit f n ps c in
        let b : Code = emit t (suc n) ps d in
        let hs = two-parts f t n (suc n) ps ws c _ (weight f ws) (weight t ws) w i (calls f n ps ws c w) (calls t (suc n) ps ws d) in
        node-calls b _ _ i (λ g s x.
        let q : Store × Datum = going val (function_of val b) g (latest d) (latest b) (cleared x.0 s) (x.0, left x.1) (mode_of (cleared x.0 s)) in
        let T : Store = taken_by (event_in (beside_in x.1)) q.0 in
        within-twice _ _ _ (zero-and _ _ (zero-and _ _ (within-sum _ _ _ _
        (going-within (counter_of val b) (latest d) (latest b) _ _ hs.0 hs.1 (function_of val b) g (cleared x.0 s) (x.0, left x.1) (mode_of (cleared x.0 s)))
        (within-if (is_none (event_in (beside_in x.1))) _ _ _ (none _)
        (and-none _ _ (hs.1 (given_value g (value_taken T)) (taker_part T) (start, left x.1))))))))
    calls (k_switch f e t) n ps ws c w i =
        let d : Code = emit f n ps c in
        let us : List ℕ = weight f ws ∷ [] in
        let qs : List Freezable = ps ++ map (freezable n (length ps)) (latest d ∷ []) in
        let lc : length c < length d = (adds f n ps c).1 in
        let wd : Weighs (length d) ps ws = weighs-more (length c) (length d) ps ws (omega arith) w in
        let hs = frozen-parts d e t n ps ws (latest d ∷ []) us _ (weight e ws) (weight t (ws ++ us)) wd (latest_below f n ps c, tt) i
        (λ id. (calls f n ps ws c w id, refl)) (calls e n ps ws d wd) (calls t (suc n) qs (ws ++ us) (emit e n ps d)) in
        node-calls _ _ _ i (λ g s x. within-if _ _ _ _ (right-of-sum _ _ _ (hs.2 _ _ _))
        (within-three _ _ _ _ _ _ ((hs.0 g).0 _ _) (hs.1 _ _ _) (within-if _ _ _ _ (none _) (hs.2 _ _ _))))
    calls (p_switch r fs e t) n ps ws c w i =
        let d : Code × List ℕ = emit_all fs n ps c in
        let us : List ℕ = weights fs ws in
        let qs : List Freezable = ps ++ map (freezable n (length ps)) d.1 in
        let b : Code = emit t (suc n) qs (emit e n ps d.0) in
        let wd : Weighs (length d.0) ps ws = weighs-more (length c) (length d.0) ps ws (adds_all fs n ps c).1 w in
        let hs = frozen-parts d.0 e t n ps ws d.1 us _ (weight e ws) (weight t (ws ++ us)) wd (all_below fs n ps c) i
        (all_calls fs n ps ws c w) (calls e n ps ws d.0 wd) (calls t (suc n) qs (ws ++ us) (emit e n ps d.0)) in
        node-calls b _ _ i (λ g s x.
        subst (λ a. a ≤ total us + weight e ws + weight t (ws ++ us)) (sym (members_calls b g d.1 _ (x.1 ∷ []) s x.0 [] []))
        (within-if _ _ _ _ (right-of-sum _ _ _ (hs.2 _ _ _))
        (within-three _ _ _ _ _ _ (routed-within (val r g.params) 0 (map (λ j. counter_of val b j g) d.1) us (one (front_part (frozen_now x.0 (cleared x.0 s)))) (x.0, x.1) (hs.0 g)) (hs.1 _ _ _) (within-if _ _ _ _ (none _) (hs.2 _ _ _)))))
    calls (old k) n ps ws c w i = node-calls c _ _ i (old-calls c ps ws k k (before D c _ i) w)
    calls (initial_out e f) n ps ws c w i =
        let hf = one-part f n ps c _ (weight f ws) i (calls f n ps ws c w) in
        node-calls _ _ _ i (λ g s x. zero-and _ _ (and-none _ _ (hf _ _ _)))
    calls (initial_in e f) n ps ws c w i =
        let hf = one-part f n ps c _ (weight f ws) i (calls f n ps ws c w) in
        node-calls _ _ _ i (λ g s x. zero-and _ _ (zero-and _ _ (hf _ _ _)))
    calls (rp_switch fs m t) n ps ws c w i =
        let d : Code × List ℕ = emit_all fs n ps c in
        let b : Code = emit t (suc n) ps d.0 in
        let us : List ℕ = weights fs ws in
        let most : ℕ = greatest (weight t ws ∷ us) in
        let ib : Begins b D = before D b _ i in
        let id : Begins d.0 D = begins-trans d.0 b D (adds t (suc n) ps d.0).0 ib in
        let lc : length c ≤ length d.0 = (adds_all fs n ps c).1 in
        let lb : length d.0 < length b = (adds t (suc n) ps d.0).1 in
        let ht = one-part t (suc n) ps d.0 _ (weight t ws) i (calls t (suc n) ps ws d.0 (weighs-more (length c) (length d.0) ps ws lc w)) in
        let hf : (g : Given) → AllWithin (map (λ j. counter_of val b j g) d.1) us =
        λ g. counters-earlier b d.1 us g ib (below-more (length d.0) (length b) d.1 (omega arith) (all_below fs n ps c)) (all_calls fs n ps ws c w id) in
        let chosen_now : Given → Store → Timed → List Turn =
        λ g s x. members_in (val m g.params) (members_at x.0 (steps_of val (function_of val b) g d.1) s) (event_beside x.1) in
        node-calls b _ _ i (λ g s x.
        subst (λ a. a ≤ 64 * most) (sym (members_calls b g d.1 _ (x.1 ∷ []) s x.0 [] []))
        (at-last _ (times (length (chosen_now g s x)) most) _
        (turns-within _ most (chosen_now g s x) (left x.1) (origin-within _ _ _ _ (hf g) (λ v. ht (given_value g v))))
        (subst (λ a. times (length (chosen_now g s x)) most ≤ a) (times-is most)
        (times-more (length (chosen_now g s x)) 64 most (few-turns (val m g.params) x.0 (steps_of val (function_of val b) g d.1) s (event_beside x.1))))))

    all_calls : (fs : Networks Expr) (n : ℕ) (ps : List Freezable) (ws : List ℕ) (c : Code) → Weighs (length c) ps ws → Begins (emit_all fs n ps c).0 D
        → CountersWithin (emit_all fs n ps c).1 (weights fs ws)
    all_calls no_members n ps ws c w i = refl
    all_calls (and_member f fs) n ps ws c w i =
        let d : Code = emit f n ps c in
        let id : Begins d D = begins-trans d (emit_all fs n ps d).0 D (adds_all fs n ps d).0 i in
        let lc : length c < length d = (adds f n ps c).1 in
        (calls f n ps ws c w id, all_calls fs n ps ws d (weighs-more (length c) (length d) ps ws (omega arith) w) i)

-- at each sample
run-within : (f : Stepper) (n : Counter) (w : ℕ) → Below n w → (b : Bool) (s : Store) (xs : TimedList) (k d : ℕ)
    → k < length (run_calls f n b s xs) → get_or (run_calls f n b s xs) k d ≤ w
run-within f n w h b s [] k d l = absurd (omega arith)
run-within f n w h b s (x ∷ xs) zero d l = h _ _
run-within f n w h b s (x ∷ xs) (suc k) d l = run-within f n w h true _ xs k d (omega arith)

pub calls_law : CallsLaw
calls_law net s xs =
    run-within (function_of value_in (code_of net) (latest (code_of net)) nothing_given) _ _
    (calls value_in (code_of net) net 0 [] [] [] refl ([], sym (append-nil (code_of net))) nothing_given) false s xs
