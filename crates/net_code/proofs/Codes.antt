-- The code of a network does what the network's machine does.
use Rattle.std.proofs.Common.{◌≡◌, ◌≤◌, ◌<◌, ℕ, zero, suc, ◌+◌, List, [], ◌∷◌, ◌++◌, map, length, take, refl, sym, ap, ap₂, ◌∙◌, arith, length-append, append-nil}
use Rattle.std.proofs.Math.Path.{fun_ext}
use Rattle.std.proofs.lemmas.List.{take-append-le, take_at}
use Rattle.sample_core.specs.Datum.{Datum, unit}
use Rattle.leaf_core.specs.declared.expr.Expr.{Expr}
use Rattle.net_tree.specs.Network.{Network, Networks, arr, seq, first, par, loop_pre, initial_out, initial_in, i_pre, delay, hold, accum_by, after, repeatedly, time, integral, switch, r_switch, rp_switch, k_switch, p_switch, old, no_members, and_member}
use Rattle.cell_core.specs.declared.form.Form.TheVariants as Form
use Rattle.net_machine.specs.Store.{Moment, Store, nothing, both, one, other}
use Rattle.net_machine.specs.Stepper.{Stepper, Frozen, freeze, seq_step, first_step, par_step, loop_step, switch_step, r_switch_step, initial_out_step, initial_in_step, resume_step, old_step, freezing_step, freeze_each, routed, rp_switch_step}
use Rattle.net_machine.specs.Machine.{Scope, push_param, push_olds, machine, machines}
use Rattle.net_code.specs.declared.freezable.Freezable.{Freezable}
use Rattle.net_code.specs.Running.{Body, Code, Kept, kept_at, split, Given, Linked, given_value, given_kept, given_first, body_step, latest, AllBelow}
use Rattle.net_code.specs.Bodies.{par_body}
use Rattle.net_code.specs.CodeOf.{freezable, and_body, body_of_old, emit, emit_all}
use Rattle.net_code.proofs.BodyLaws.{steps_of, arr_done, seq_done, first_done, par_done, loop_done, cell_done, accum_done, time_done, integral_done, switch_done, r_switch_done, k_switch_done, p_switch_done, old_done, same_done, out_done, in_done, collection_done}
use Rattle.net_code.proofs.Links.{Begins, function_of, same_function, next_function}
use Rattle.net_code.proofs.Emitted.{begins-trans, before, adds, adds_all, below-more, latest_below, all_below, latest_body}

-- what may be frozen is among q functions, and within n parameters and m frozen networks
pub data Fits (q n m : ℕ) : List Freezable → Type 0 where
  no_freezable : Fits q n m []
  and_freezable : {p : Freezable} {ps : List Freezable} → p.function < q → p.params ≤ n → p.olds ≤ m → Fits q n m ps → Fits q n m (p ∷ ps)

fits-more : (q n m q' n' m' : ℕ) (ps : List Freezable) → q ≤ q' → n ≤ n' → m ≤ m' → Fits q n m ps → Fits q' n' m' ps
fits-more q n m q' n' m' [] i l k no_freezable = no_freezable
fits-more q n m q' n' m' (p ∷ ps) i l k (and_freezable h a b f) = and_freezable (omega arith) (omega arith) (omega arith) (fits-more q n m q' n' m' ps i l k f)

fits-append : (q n m : ℕ) (ps qs : List Freezable) → Fits q n m ps → Fits q n m qs → Fits q n m (ps ++ qs)
fits-append q n m [] qs no_freezable g = g
fits-append q n m (p ∷ ps) qs (and_freezable h a b f) g = and_freezable h a b (fits-append q n m ps qs f g)

-- the networks of these functions, which may be frozen
abbrev freezables : ℕ → ℕ → List ℕ → List Freezable
freezables n m js = map (freezable n m) js

fits-freezables : (q n m n' m' : ℕ) (js : List ℕ) → AllBelow q js → n ≤ n' → m ≤ m' → Fits q n' m' (freezables n m js)
fits-freezables q n m n' m' [] i l k = no_freezable
fits-freezables q n m n' m' (j ∷ js) i l k = and_freezable i.0 l k (fits-freezables q n m n' m' js i.1 l k)

length-freezables : (n m : ℕ) (js : List ℕ) (a : Store) (w : Moment) → length (split (length js) a w) ≡ length (freezables n m js)
length-freezables n m [] a w = refl
length-freezables n m (j ∷ js) a w = ap suc (length-freezables n m js (other a) w)

module _ (val : Expr → List Datum → Datum → Datum) (D : Code) where
  -- the functions of the whole code
  abbrev F : ℕ → Linked
  F = function_of val D

  -- what is in scope
  abbrev given : List Datum → List Kept → Given
  given vs ks = record { params = vs; olds = ks }

  -- the frozen networks that these and what they kept are
  abbrev olds_by : List Freezable → List Datum → List Kept → List Kept → List Frozen
  olds_by [] vs ks gs = []
  olds_by (p ∷ ps) vs ks [] = []
  olds_by (p ∷ ps) vs ks (g ∷ gs) = freeze (F p.function (given (take p.params vs) (take p.olds ks))) g.0 g.1 ∷ olds_by ps vs ks gs

  abbrev scope_by : List Freezable → Given → Scope
  scope_by ps g = record { params = g.params; olds = olds_by ps g.params g.olds g.olds }

  -- what may be frozen sees no more than it saw
  olds-later : (q : ℕ) (ps : List Freezable) (vs : List Datum) (ks : List Kept) (vs' : List Datum) (ks' gs : List Kept) → Fits q (length vs) (length ks) ps
      → olds_by ps (vs ++ vs') (ks ++ ks') gs ≡ olds_by ps vs ks gs
  olds-later q [] vs ks vs' ks' gs f = refl
  olds-later q (p ∷ ps) vs ks vs' ks' [] f = refl
  olds-later q (p ∷ ps) vs ks vs' ks' (g ∷ gs) (and_freezable h l k f) =
      ap₂ (λ (h : Stepper) (os : List Frozen). freeze h g.0 g.1 ∷ os)
      (ap₂ (λ us is. F p.function (given us is)) (take-append-le p.params vs vs' l) (take-append-le p.olds ks ks' k))
      (olds-later q ps vs ks vs' ks' gs f)

  olds-append : (ps qs : List Freezable) (vs : List Datum) (ks gs hs : List Kept) → length gs ≡ length ps
      → olds_by (ps ++ qs) vs ks (gs ++ hs) ≡ olds_by ps vs ks gs ++ olds_by qs vs ks hs
  olds-append [] qs vs ks [] hs e = refl
  olds-append [] qs vs ks (g ∷ gs) hs e = absurd (omega arith)
  olds-append (p ∷ ps) qs vs ks [] hs e = absurd (omega arith)
  olds-append (p ∷ ps) qs vs ks (g ∷ gs) hs e =
      let e' : length gs ≡ length ps = omega arith in
      ap (λ (os : List Frozen). freeze (F p.function (given (take p.params vs) (take p.olds ks))) g.0 g.1 ∷ os) (olds-append ps qs vs ks gs hs e')

  -- members frozen are frozen steps
  olds-freezables : (n m : ℕ) (js : List ℕ) (vs : List Datum) (ks : List Kept) (vs' : List Datum) (ks' : List Kept) → n ≡ length vs → m ≡ length ks → (a : Store) (w : Moment)
      → olds_by (freezables n m js) (vs ++ vs') (ks ++ ks') (split (length js) a w) ≡ freeze_each (map (λ j. F j (given vs ks)) js) a w
  olds-freezables n m [] vs ks vs' ks' e h a w = refl
  olds-freezables n m (j ∷ js) vs ks vs' ks' e h a w =
      ap₂ (λ (g : Stepper) (os : List Frozen). freeze g (one a) w ∷ os)
      (ap₂ (λ us is. F j (given us is)) (take_at vs vs' n (sym e)) (take_at ks ks' m (sym h)))
      (olds-freezables n m js vs ks vs' ks' e h (other a) w)

  -- how much is in scope, behind so many functions
  pub record Sees (q n : ℕ) (ps : List Freezable) (g : Given) : Type 0 where
    pub all_params : length g.params ≡ n
    pub all_olds : length g.olds ≡ length ps
    pub fits : Fits q (length g.params) (length g.olds) ps

  sees-more : (q r n : ℕ) (ps : List Freezable) (g : Given) → q ≤ r → Sees q n ps g → Sees r n ps g
  sees-more q r n ps g l w = record {
    all_params = w.all_params;
    all_olds = w.all_olds;
    fits = fits-more q (length g.params) (length g.olds) r (length g.params) (length g.olds) ps l (omega arith) (omega arith) w.fits;
  }

  sees-value : (q n : ℕ) (ps : List Freezable) (g : Given) (c : Datum) → Sees q n ps g → Sees q (suc n) ps (given_value g c)
  sees-value q n ps g c w =
      let vs : List Datum = g.params in
      let l : length (vs ++ c ∷ []) ≡ length vs + 1 = length-append vs (c ∷ []) in
      let a : length vs ≡ n = w.all_params in
      record {
        all_params = omega arith;
        all_olds = w.all_olds;
        fits = fits-more q (length vs) (length g.olds) q (length (vs ++ c ∷ [])) (length g.olds) ps (omega arith) (omega arith) (omega arith) w.fits;
      }

  scope-value : (q n : ℕ) (ps : List Freezable) (g : Given) (c : Datum) → Sees q n ps g
      → scope_by ps (given_value g c) ≡ push_param (scope_by ps g) c
  scope-value q n ps g c w =
      let vs : List Datum = g.params in
      let ks : List Kept = g.olds in
      ap (λ (os : List Frozen). let s : Scope = record { params = vs ++ c ∷ []; olds = os } in s)
      (ap (λ js. olds_by ps (vs ++ c ∷ []) js ks) (sym (append-nil ks)) ∙ olds-later q ps vs ks (c ∷ []) [] ks w.fits)

  -- with members frozen
  abbrev given_members : Given → Datum → List ℕ → Store → Moment → Given
  given_members g c js a m = given_kept (given_value g c) (split (length js) a m)

  sees-members : (q n : ℕ) (ps : List Freezable) (g : Given) (c : Datum) (js : List ℕ) (a : Store) (m : Moment) → AllBelow q js → Sees q n ps g
      → Sees q (suc n) (ps ++ freezables n (length ps) js) (given_members g c js a m)
  sees-members q n ps g c js a m i w =
      let vs : List Datum = g.params in
      let ks : List Kept = g.olds in
      let hs : List Kept = split (length js) a m in
      let l : length (vs ++ c ∷ []) ≡ length vs + 1 = length-append vs (c ∷ []) in
      let h : length vs ≡ n = w.all_params in
      let k : length ks ≡ length ps = w.all_olds in
      let j : length (ks ++ hs) ≡ length ks + length hs = length-append ks hs in
      let o : length (ps ++ freezables n (length ps) js) ≡ length ps + length (freezables n (length ps) js) = length-append ps (freezables n (length ps) js) in
      let e : length hs ≡ length (freezables n (length ps) js) = length-freezables n (length ps) js a m in
      record {
        all_params = omega arith;
        all_olds = omega arith;
        fits = fits-append _ _ _ ps (freezables n (length ps) js)
            (fits-more q (length vs) (length ks) q (length (vs ++ c ∷ [])) (length (ks ++ hs)) ps (omega arith) (omega arith) (omega arith) w.fits)
            (fits-freezables q n (length ps) (length (vs ++ c ∷ [])) (length (ks ++ hs)) js i (omega arith) (omega arith));
      }

  scope-members : (q n : ℕ) (ps : List Freezable) (g : Given) (c : Datum) (js : List ℕ) (a : Store) (m : Moment) → Sees q n ps g
      → scope_by (ps ++ freezables n (length ps) js) (given_members g c js a m) ≡ push_olds (push_param (scope_by ps g) c) (freeze_each (map (λ j. F j g) js) a m)
  scope-members q n ps g c js a m w =
      let vs : List Datum = g.params in
      let ks : List Kept = g.olds in
      let hs : List Kept = split (length js) a m in
      ap (λ (os : List Frozen). let s : Scope = record { params = vs ++ c ∷ []; olds = os } in s)
      (olds-append ps (freezables n (length ps) js) (vs ++ c ∷ []) (ks ++ hs) ks hs w.all_olds
      ∙ ap₂ (λ (os qs : List Frozen). os ++ qs) (olds-later q ps vs ks (c ∷ []) hs ks w.fits)
      (olds-freezables n (length ps) js vs ks (c ∷ []) hs (sym w.all_params) (sym w.all_olds) a m))

  -- a node's function, over those of the code before it
  node : (d : Code) (b : Body) (g : Given) → Begins (and_body d b) D → F (latest (and_body d b)) g ≡ body_step val (function_of val d) b g
  node d b g i = ap (λ k. F k g) (latest_body d b) ∙ ap (λ (h : Linked). h g) (next_function val d b D i)

  -- which are those of the whole code
  earlier : (d : Code) (j : ℕ) → Begins d D → j < length d → function_of val d j ≡ F j
  earlier d j i l = sym (same_function val d D j i l)

  all-earlier : (d : Code) (js : List ℕ) (g : Given) → Begins d D → AllBelow (length d) js → steps_of val (function_of val d) g js ≡ map (λ j. F j g) js
  all-earlier d [] g i l = refl
  all-earlier d (j ∷ js) g i l = ap₂ (λ (f : Stepper) (fs : List Stepper). f ∷ fs) (ap (λ (h : Linked). h g) (earlier d j i l.0)) (all-earlier d js g i l.1)

  -- the frozen network k
  old-is : (d : Code) (ps : List Freezable) (g : Given) (gs : List Kept) (k i : ℕ) → Begins d D → Fits (length d) (length g.params) (length g.olds) ps
      → length gs ≡ length ps → kept_at gs k ≡ kept_at g.olds i
      → body_step val (function_of val d) (body_of_old ps k i) g ≡ old_step (olds_by ps g.params g.olds gs) k
  old-is d [] g gs k i b f e h = same_done val (function_of val d) g
  old-is d (p ∷ ps) g [] k i b f e h = absurd (omega arith)
  old-is d (p ∷ ps) g (o ∷ gs) zero i b (and_freezable q l m f) e h =
      old_done val (function_of val d) g i p.function p.params p.olds
      ∙ ap (λ (t : Linked). resume_step (t (given_first g p.params p.olds)) (kept_at g.olds i).0 (kept_at g.olds i).1) (earlier d p.function b q)
      ∙ ap (λ (o : Kept). resume_step (F p.function (given_first g p.params p.olds)) o.0 o.1) (sym h)
  old-is d (p ∷ ps) g (o ∷ gs) (suc k) i b (and_freezable q l m f) e h = old-is d ps g gs k i b f (omega arith) h

  -- a step by a value, over functions that are there
  abbrev by_value : (ℕ → Linked) → ℕ → Given → Datum → Stepper
  by_value H k g c = H k (given_value g c)

  -- the part of a node, whose function is the last one before it
  one-part : (f : Network Expr) (n : ℕ) (ps : List Freezable) (c : Code) (g : Given) (b : Body) (m : Stepper) → Begins (and_body (emit f n ps c) b) D
      → (Begins (emit f n ps c) D → F (latest (emit f n ps c)) g ≡ m)
      → function_of val (emit f n ps c) (latest (emit f n ps c)) g ≡ m
  one-part f n ps c g b m i h =
      let id : Begins (emit f n ps c) D = before D (emit f n ps c) b i in
      ap (λ (h : Linked). h g) (earlier (emit f n ps c) (latest (emit f n ps c)) id (latest_below f n ps c)) ∙ h id

  -- two parts of a node, the code of the second behind that of the first: the first, and what the second sees
  two-parts : (f t : Network Expr) (n m : ℕ) (ps : List Freezable) (c : Code) (g : Given) (s : Body) (h : Stepper)
      → Sees (length c) n ps g → Begins (and_body (emit t m ps (emit f n ps c)) s) D
      → (Begins (emit f n ps c) D → F (latest (emit f n ps c)) g ≡ h)
      → (function_of val (emit t m ps (emit f n ps c)) (latest (emit f n ps c)) g ≡ h) × Sees (length (emit f n ps c)) n ps g
  two-parts f t n m ps c g s h w i hf =
      let d : Code = emit f n ps c in
      let b : Code = emit t m ps d in
      let ib : Begins b D = before D b s i in
      let lc : length c < length d = (adds f n ps c).1 in
      let lb : length d < length b = (adds t m ps d).1 in
      let ld : latest d < length d = latest_below f n ps c in (
        ap (λ (h : Linked). h g) (earlier b (latest d) ib (omega arith)) ∙ hf (begins-trans d b D (adds t m ps d).0 ib),
        sees-more (length c) (length d) n ps g (omega arith) w,
      )

  mutual
    pub code_is : (net : Network Expr) (n : ℕ) (ps : List Freezable) (c : Code) (g : Given) → Sees (length c) n ps g → Begins (emit net n ps c) D
        → F (latest (emit net n ps c)) g ≡ machine val net (scope_by ps g)
    code_is (arr e) n ps c g w i = node c _ g i ∙ arr_done val (function_of val c) g e
    code_is (seq f h) n ps c g w i =
        let d : Code = emit f n ps c in
        let b : Code = emit h n ps d in
        let hs = two-parts f h n n ps c g _ (machine val f (scope_by ps g)) w i (code_is f n ps c g w) in
        node b _ g i ∙ seq_done val (function_of val b) g (latest d) (latest b)
        ∙ ap₂ seq_step hs.0 (one-part h n ps d g _ _ i (code_is h n ps d g hs.1))
    code_is (first f) n ps c g w i =
        let d : Code = emit f n ps c in
        node d _ g i ∙ first_done val (function_of val d) g (latest d) ∙ ap first_step (one-part f n ps c g _ _ i (code_is f n ps c g w))
    code_is (par fs) n ps c g w i =
        let r : Code × List ℕ = emit_all fs n ps c in
        let ir : Begins r.0 D = before D r.0 (par_body r.1) i in
        node r.0 (par_body r.1) g i ∙ par_done val (function_of val r.0) g r.1
        ∙ ap par_step (all-earlier r.0 r.1 g ir (all_below fs n ps c) ∙ codes_are fs n ps c g w ir)
    code_is (loop_pre e f) n ps c g w i =
        let d : Code = emit f n ps c in
        node d _ g i ∙ loop_done val (function_of val d) g e (latest d)
        ∙ ap (loop_step (val e g.params unit)) (one-part f n ps c g _ _ i (code_is f n ps c g w))
    code_is (i_pre e) n ps c g w i = node c _ g i ∙ cell_done val (function_of val c) g Form.IPre e
    code_is (delay q e) n ps c g w i = node c _ g i ∙ cell_done val (function_of val c) g (Form.Delay q) e
    code_is (hold e) n ps c g w i = node c _ g i ∙ cell_done val (function_of val c) g Form.Hold e
    code_is (accum_by h z) n ps c g w i = node c _ g i ∙ accum_done val (function_of val c) g h z
    code_is (after q e) n ps c g w i = node c _ g i ∙ cell_done val (function_of val c) g (Form.After q) e
    code_is (repeatedly q e) n ps c g w i = node c _ g i ∙ cell_done val (function_of val c) g (Form.Repeatedly q) e
    code_is time n ps c g w i = node c _ g i ∙ time_done val (function_of val c) g
    code_is integral n ps c g w i = node c _ g i ∙ integral_done val (function_of val c) g
    code_is (switch tm f t) n ps c g w i =
        let d : Code = emit f n ps c in
        let b : Code = emit t (suc n) ps d in
        let hs = two-parts f t n (suc n) ps c g _ (machine val f (scope_by ps g)) w i (code_is f n ps c g w) in
        node b _ g i ∙ switch_done val (function_of val b) g tm (latest d) (latest b)
        ∙ ap₂ (switch_step tm) hs.0 (fun_ext (λ v.
        one-part t (suc n) ps d (given_value g v) _ _ i (code_is t (suc n) ps d (given_value g v) (sees-value (length d) n ps g v hs.1))
        ∙ ap (machine val t) (scope-value (length c) n ps g v w)))
    code_is (r_switch tm f t) n ps c g w i =
        let d : Code = emit f n ps c in
        let b : Code = emit t (suc n) ps d in
        let hs = two-parts f t n (suc n) ps c g _ (machine val f (scope_by ps g)) w i (code_is f n ps c g w) in
        node b _ g i ∙ r_switch_done val (function_of val b) g tm (latest d) (latest b)
        ∙ ap₂ (r_switch_step tm) hs.0 (fun_ext (λ v.
        one-part t (suc n) ps d (given_value g v) _ _ i (code_is t (suc n) ps d (given_value g v) (sees-value (length d) n ps g v hs.1))
        ∙ ap (machine val t) (scope-value (length c) n ps g v w)))
    code_is (k_switch f e t) n ps c g w i =
        let d : Code = emit f n ps c in
        let k : Code = emit e n ps d in
        let js : List ℕ = latest d ∷ [] in
        let qs : List Freezable = ps ++ freezables n (length ps) js in
        let b : Code = emit t (suc n) qs k in
        let s : Scope = scope_by ps g in
        let ib : Begins b D = before D b _ i in
        let ik : Begins k D = begins-trans k b D (adds t (suc n) qs k).0 ib in
        let id : Begins d D = begins-trans d k D (adds e n ps d).0 ik in
        let lc : length c < length d = (adds f n ps c).1 in
        let lk : length d < length k = (adds e n ps d).1 in
        let lb : length k < length b = (adds t (suc n) qs k).1 in
        let md : latest d < length d = latest_below f n ps c in
        let mk : latest k < length k = latest_below e n ps d in
        let wd : Sees (length d) n ps g = sees-more (length c) (length d) n ps g (omega arith) w in
        let wk : Sees (length k) n ps g = sees-more (length c) (length k) n ps g (omega arith) w in
        let fd : F (latest d) g ≡ machine val f s = code_is f n ps c g w id in
        let over : (v : Datum) (a : Store) (m : Moment) → function_of val b (latest b) (given_kept (given_value g v) ((a, m) ∷ []))
        ≡ machine val t (push_olds (push_param s v) (freeze (machine val f s) a m ∷ [])) =
        λ v a m.
        ap (λ (h : Linked). h (given_kept (given_value g v) ((a, m) ∷ []))) (earlier b (latest b) ib (latest_below t (suc n) qs k))
        ∙ code_is t (suc n) qs k (given_kept (given_value g v) ((a, m) ∷ [])) (sees-members (length k) n ps g v js (both a nothing) m (omega arith, tt) wk) ib
        ∙ ap (machine val t) (scope-members (length c) n ps g v js (both a nothing) m w
        ∙ ap (λ (h : Stepper). push_olds (push_param s v) (freeze h a m ∷ [])) fd) in
        let O : Datum → Store → Moment → Stepper = λ v a m. function_of val b (latest b) (given_kept (given_value g v) ((a, m) ∷ [])) in
        let M : Datum → Store → Moment → Stepper = λ v a m. machine val t (push_olds (push_param s v) (freeze (machine val f s) a m ∷ [])) in
        let over_all : O ≡ M =
        fun_ext (λ v. fun_ext (λ a. fun_ext (λ m. over v a m))) in
        node b _ g i ∙ k_switch_done val (function_of val b) g (latest d) (latest k) (latest b)
        ∙ ap₂ (λ (p q : Stepper). freezing_step p q O)
        (ap (λ (h : Linked). h g) (earlier b (latest d) ib (omega arith)) ∙ fd)
        (ap (λ (h : Linked). h g) (earlier b (latest k) ib (omega arith)) ∙ code_is e n ps d g wd ik)
        ∙ ap (λ (h : Datum → Store → Moment → Stepper). freezing_step (machine val f s) (machine val e s) h) over_all
    code_is (p_switch r fs e t) n ps c g w i =
        let d : Code × List ℕ = emit_all fs n ps c in
        let k : Code = emit e n ps d.0 in
        let js : List ℕ = d.1 in
        let qs : List Freezable = ps ++ freezables n (length ps) js in
        let b : Code = emit t (suc n) qs k in
        let s : Scope = scope_by ps g in
        let ib : Begins b D = before D b _ i in
        let ik : Begins k D = begins-trans k b D (adds t (suc n) qs k).0 ib in
        let id : Begins d.0 D = begins-trans d.0 k D (adds e n ps d.0).0 ik in
        let lc : length c ≤ length d.0 = (adds_all fs n ps c).1 in
        let lk : length d.0 < length k = (adds e n ps d.0).1 in
        let lb : length k < length b = (adds t (suc n) qs k).1 in
        let md : AllBelow (length d.0) js = all_below fs n ps c in
        let mk : latest k < length k = latest_below e n ps d.0 in
        let wd : Sees (length d.0) n ps g = sees-more (length c) (length d.0) n ps g lc w in
        let wk : Sees (length k) n ps g = sees-more (length c) (length k) n ps g (omega arith) w in
        let fd : map (λ j. F j g) js ≡ machines val fs s = codes_are fs n ps c g w id in
        let over : (v : Datum) (a : Store) (m : Moment) → function_of val b (latest b) (given_members g v js a m)
        ≡ machine val t (push_olds (push_param s v) (freeze_each (machines val fs s) a m)) =
        λ v a m.
        ap (λ (h : Linked). h (given_members g v js a m)) (earlier b (latest b) ib (latest_below t (suc n) qs k))
        ∙ code_is t (suc n) qs k (given_members g v js a m)
        (sees-members (length k) n ps g v js a m (below-more (length d.0) (length k) js (omega arith) md) wk) ib
        ∙ ap (machine val t) (scope-members (length c) n ps g v js a m w
        ∙ ap (λ (hs : List Stepper). push_olds (push_param s v) (freeze_each hs a m)) fd) in
        let O : Datum → Store → Moment → Stepper = λ v a m. function_of val b (latest b) (given_members g v js a m) in
        let M : Datum → Store → Moment → Stepper = λ v a m. machine val t (push_olds (push_param s v) (freeze_each (machines val fs s) a m)) in
        let over_all : O ≡ M =
        fun_ext (λ v. fun_ext (λ a. fun_ext (λ m. over v a m))) in
        node b _ g i ∙ p_switch_done val (function_of val b) g r js (latest k) (latest b)
        ∙ ap₂ (λ (hs : List Stepper) (q : Stepper). freezing_step (par_step (routed (val r g.params) 0 hs)) q O)
        (all-earlier b js g ib (below-more (length d.0) (length b) js (omega arith) md) ∙ fd)
        (ap (λ (h : Linked). h g) (earlier b (latest k) ib (omega arith)) ∙ code_is e n ps d.0 g wd ik)
        ∙ ap (λ (h : Datum → Store → Moment → Stepper). freezing_step (par_step (routed (val r g.params) 0 (machines val fs s))) (machine val e s) h) over_all
    code_is (old k) n ps c g w i =
        node c _ g i ∙ old-is c ps g g.olds k k (before D c _ i) w.fits w.all_olds refl
    code_is (initial_out e f) n ps c g w i =
        let d : Code = emit f n ps c in
        node d _ g i ∙ out_done val (function_of val d) g e (latest d)
        ∙ ap (initial_out_step (val e g.params unit)) (one-part f n ps c g _ _ i (code_is f n ps c g w))
    code_is (initial_in e f) n ps c g w i =
        let d : Code = emit f n ps c in
        node d _ g i ∙ in_done val (function_of val d) g e (latest d)
        ∙ ap (initial_in_step (val e g.params unit)) (one-part f n ps c g _ _ i (code_is f n ps c g w))
    code_is (rp_switch fs m t) n ps c g w i =
        let d : Code × List ℕ = emit_all fs n ps c in
        let b : Code = emit t (suc n) ps d.0 in
        let ib : Begins b D = before D b _ i in
        let id : Begins d.0 D = begins-trans d.0 b D (adds t (suc n) ps d.0).0 ib in
        let lc : length c ≤ length d.0 = (adds_all fs n ps c).1 in
        let lb : length d.0 < length b = (adds t (suc n) ps d.0).1 in
        let wd : Sees (length d.0) n ps g = sees-more (length c) (length d.0) n ps g lc w in
        node b _ g i ∙ collection_done val (function_of val b) g d.1 m (latest b)
        ∙ ap₂ (rp_switch_step (val m g.params))
        (all-earlier b d.1 g ib (below-more (length d.0) (length b) d.1 (omega arith) (all_below fs n ps c)) ∙ codes_are fs n ps c g w id)
        (fun_ext (λ v.
        one-part t (suc n) ps d.0 (given_value g v) _ _ i (code_is t (suc n) ps d.0 (given_value g v) (sees-value (length d.0) n ps g v wd))
        ∙ ap (machine val t) (scope-value (length c) n ps g v w)))

    pub codes_are : (fs : Networks Expr) (n : ℕ) (ps : List Freezable) (c : Code) (g : Given) → Sees (length c) n ps g → Begins (emit_all fs n ps c).0 D
        → map (λ j. F j g) (emit_all fs n ps c).1 ≡ machines val fs (scope_by ps g)
    codes_are no_members n ps c g w i = refl
    codes_are (and_member f fs) n ps c g w i =
        let d : Code = emit f n ps c in
        let id : Begins d D = begins-trans d (emit_all fs n ps d).0 D (adds_all fs n ps d).0 i in
        let lc : length c < length d = (adds f n ps c).1 in
        ap₂ (λ (f : Stepper) (fs : List Stepper). f ∷ fs) (code_is f n ps c g w id)
        (codes_are fs n ps d g (sees-more (length c) (length d) n ps g (omega arith) w) i)
