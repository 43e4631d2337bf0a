-- The code of an expression computes the expression's value.
use Rattle.std.proofs.Common.{◌≡◌, ◌≤◌, ◌<◌, ℕ, zero, suc, pos, neg_ℤ, ◌+ℤ◌, ◌-ℤ◌, ◌*ℤ◌, int_lt, ◌+◌, not, ◌&&◌, ◌||◌, List, [], ◌∷◌, ◌++◌, map, length, get_or, refl, sym, ap, ap₂, ◌∙◌, arith, append-nil, append_assoc, length-append}
use Rattle.sample_core.specs.Datum.{Datum, unit, bool, pair, event, list, left, right, int_of, list_of}
use Rattle.sample_core.specs.TypeTree.{TypeTree}
use Rattle.leaf_core.specs.Expression.{Expression, Expressions, input, param, unit_expr, bool_expr, int_expr, pair_expr, fst, snd, then_expr, neg, add, sub, mul, less, equal, not_expr, and_expr, or_expr, if_expr, no_event_expr, event_expr, on, list_expr, nth, len, no_more, and_then}
use Rattle.leaf_core.specs.ExpressionValue.{value_of, values_of, same_datum, is_true, choose, wrap, element_at, count_of, on_event}
use Rattle.leaf_code.specs.Operation.{Operation}
use Rattle.leaf_code.specs.Operation as O
use Rattle.leaf_code.specs.Running.{Step, step, zero_of, is_event, carried_or, register, operation_value, step_value, run_steps, LeafSteps, leaf_value}
use Rattle.leaf_code.specs.CodeOf.{carried_type, type_at, put, beside_carried, emit, emit_all, leaf_code}
use Rattle.leaf_code.proofs.Computed.{value-same, IsPut, fresh, again, put-is}

pub get-front : {X : Type 0} (xs ys : List X) (k : ℕ) (a : X) → k < length xs → get_or (xs ++ ys) k a ≡ get_or xs k a
get-front [] ys k a l = absurd (omega arith)
get-front (x ∷ xs) ys zero a l = refl
get-front (x ∷ xs) ys (suc k) a l = get-front xs ys k a (omega arith)

get-next : {X : Type 0} (xs : List X) (y : X) (ys : List X) (a : X) → get_or (xs ++ y ∷ ys) (length xs) a ≡ y
get-next [] y ys a = refl
get-next (x ∷ xs) y ys a = get-next xs y ys a

of-three : {u w t x y z : Datum} (f : Datum → Datum → Datum → Datum) → u ≡ x → w ≡ y → t ≡ z → f u w t ≡ f x y z
of-three {t = t} {x = x} {y = y} f i j k = ap₂ (λ (a b : Datum). f a b t) i j ∙ ap (f x y) k

-- later steps stand behind earlier ones
abbrev pub Follows : List Step → List Step → Type 0
Follows s t = (d : List Step) × (t ≡ s ++ d)

pub follows-same : (s : List Step) → Follows s s
follows-same s = ([], sym (append-nil s))

pub follows-trans : (s t u : List Step) → Follows s t → Follows t u → Follows s u
follows-trans s t u h k = (h.0 ++ k.0, k.1 ∙ ap (λ w. w ++ k.0) h.1 ∙ append_assoc s h.0 k.0)

follows-by : (s : List Step) (T : TypeTree) (o : Operation) (p : LeafSteps) → IsPut s T o p → Follows s p.0
follows-by s T o p fresh = (step T o ∷ [], refl)
follows-by s T o p (again us vs is b) = follows-same s

pub follows-put : (s : List Step) (T : TypeTree) (o : Operation) → Follows s (put s T o).0
follows-put s T o = follows-by s T o (put s T o) (put-is s T o)

module _ (ps : List Datum) where
  run-append : (rs : List Datum) (s t : List Step) → run_steps ps rs (s ++ t) ≡ run_steps ps (run_steps ps rs s) t
  run-append rs [] t = refl
  run-append rs (o ∷ s) t = run-append (rs ++ step_value ps rs o ∷ []) s t

  -- steps set registers behind those there
  run-more : (rs : List Datum) (t : List Step) → (us : List Datum) × (run_steps ps rs t ≡ rs ++ us)
  run-more rs [] = ([], sym (append-nil rs))
  run-more rs (o ∷ t) =
      let r : (us : List Datum) × (run_steps ps (rs ++ step_value ps rs o ∷ []) t ≡ (rs ++ step_value ps rs o ∷ []) ++ us) = run-more (rs ++ step_value ps rs o ∷ []) t in
      (step_value ps rs o ∷ r.0, r.1 ∙ append_assoc rs (step_value ps rs o ∷ []) r.0)

  length-run : (rs : List Datum) (t : List Step) → length (run_steps ps rs t) ≡ length rs + length t
  length-run rs [] = omega arith
  length-run rs (o ∷ t) =
      let l : length (rs ++ step_value ps rs o ∷ []) ≡ length rs + 1 = length-append rs (step_value ps rs o ∷ []) in
      let h : length (run_steps ps (rs ++ step_value ps rs o ∷ []) t) ≡ length (rs ++ step_value ps rs o ∷ []) + length t = length-run (rs ++ step_value ps rs o ∷ []) t in
      omega arith

  module _ (v : Datum) where
    -- the registers after steps, of which the first has the input
    abbrev pub after : List Step → List Datum
    after s = run_steps ps (v ∷ []) s

    pub length-after : (s : List Step) → length (after s) ≡ suc (length s)
    length-after s = length-run (v ∷ []) s ∙ omega arith

    -- register k holds w after steps
    abbrev pub Holds : List Step → ℕ → Datum → Type 0
    Holds s k w = (k ≤ length s) × (register (after s) k ≡ w)

    -- and after more of them
    pub holds-later : (s t : List Step) (k : ℕ) (w : Datum) → Follows s t → Holds s k w → Holds t k w
    holds-later s t k w f h =
        let m : (us : List Datum) × (run_steps ps (after s) f.0 ≡ after s ++ us) = run-more (after s) f.0 in
        let n : length (after s) ≡ suc (length s) = length-after s in
        let i : k ≤ length s = h.0 in
        let l : length (s ++ f.0) ≡ length s + length f.0 = length-append s f.0 in
        let e : length t ≡ length (s ++ f.0) = ap length f.1 in (
          omega arith,
          ap (λ u. register (after u) k) f.1 ∙ ap (λ rs. register rs k) (run-append (v ∷ []) s f.0 ∙ m.1)
              ∙ get-front (after s) m.0 k unit (omega arith) ∙ h.1,
        )

    -- what emitted code makes of steps: more of them, behind which its register holds w
    abbrev pub Gives : List Step → LeafSteps → Datum → Type 0
    Gives s p w = Follows s p.0 × Holds p.0 p.1 w

    pub gives-later : (s t : List Step) (p : LeafSteps) (w : Datum) → Follows s t → Gives t p w → Gives s p w
    gives-later s t p w f g = (follows-trans s t p.0 f g.0, g.1)

    -- a step more gives its value
    fresh-gives : (s : List Step) (T : TypeTree) (o : Operation) (w : Datum) → operation_value T ps (register (after s)) o ≡ w
        → Gives s (s ++ step T o ∷ [], suc (length s)) w
    fresh-gives s T o w e =
        let l : length (s ++ step T o ∷ []) ≡ length s + 1 = length-append s (step T o ∷ []) in
        let n : length (after s) ≡ suc (length s) = length-after s in (
          (step T o ∷ [], refl),
          (
            omega arith,
            ap (λ rs. register rs (suc (length s))) (run-append (v ∷ []) s (step T o ∷ []))
                ∙ ap (λ k. register (after s ++ step_value ps (after s) (step T o) ∷ []) k) (sym n)
                ∙ get-next (after s) (step_value ps (after s) (step T o)) [] unit ∙ e,
          ),
        )

    -- so does one that was there already
    gives-by : (s : List Step) (T : TypeTree) (o : Operation) (w : Datum) (p : LeafSteps) → IsPut s T o p
        → operation_value T ps (register (after s)) o ≡ w → Gives s p w
    gives-by s T o w p fresh e = fresh-gives s T o w e
    gives-by s T o w p (again us vs is b) e =
        let u : Datum = operation_value T ps (register (after us)) o in
        let h : Holds (us ++ step T o ∷ []) (suc (length us)) u = (fresh-gives us T o u refl).1 in
        let f : Follows (us ++ step T o ∷ []) s = (vs, is ∙ sym (append_assoc us (step T o ∷ []) vs)) in
        let g : Holds s (suc (length us)) u = holds-later (us ++ step T o ∷ []) s (suc (length us)) u f h in
        let same : (j : ℕ) → j < suc (length us) → register (after us) j ≡ register (after s) j
        = λ j l. sym (holds-later us s j (register (after us) j) (step T o ∷ vs, is) (omega (arith, l), refl)).1 in
        (follows-same s, (g.0, g.1 ∙ value-same T ps (register (after us)) (register (after s)) (suc (length us)) same o b ∙ e))

    pub put-gives : (s : List Step) (T : TypeTree) (o : Operation) (w : Datum) → operation_value T ps (register (after s)) o ≡ w → Gives s (put s T o) w
    put-gives s T o w e = gives-by s T o w (put s T o) (put-is s T o) e

    -- an operation on one register, on two, on three
    one-gives : (s : List Step) (p : LeafSteps) (w u : Datum) (T : TypeTree) (o : Operation) → Gives s p w
        → ((r : ℕ → Datum) → r p.1 ≡ w → operation_value T ps r o ≡ u) → Gives s (put p.0 T o) u
    one-gives s p w u T o g h = gives-later s p.0 _ u g.0 (put-gives p.0 T o u (h (register (after p.0)) g.1.1))

    two-gives : (s : List Step) (p q : LeafSteps) (w x u : Datum) (T : TypeTree) (o : Operation) → Gives s p w → Gives p.0 q x
        → ((r : ℕ → Datum) → r p.1 ≡ w → r q.1 ≡ x → operation_value T ps r o ≡ u) → Gives s (put q.0 T o) u
    two-gives s p q w x u T o g h k =
        gives-later s q.0 _ u (follows-trans s p.0 q.0 g.0 h.0)
        (put-gives q.0 T o u (k (register (after q.0)) (holds-later p.0 q.0 p.1 w h.0 g.1).1 h.1.1))

    three-gives : (s : List Step) (p q t : LeafSteps) (w x y u : Datum) (T : TypeTree) (o : Operation) → Gives s p w → Gives p.0 q x → Gives q.0 t y
        → ((r : ℕ → Datum) → r p.1 ≡ w → r q.1 ≡ x → r t.1 ≡ y → operation_value T ps r o ≡ u) → Gives s (put t.0 T o) u
    three-gives s p q t w x y u T o g h i k =
        let f : Follows p.0 t.0 = follows-trans p.0 q.0 t.0 h.0 i.0 in
        gives-later s t.0 _ u (follows-trans s p.0 t.0 g.0 f)
        (put-gives t.0 T o u (k (register (after t.0)) (holds-later p.0 t.0 p.1 w f g.1).1 (holds-later q.0 t.0 q.1 x i.0 h.1).1 i.1.1))

    -- each of these registers holds its value
    abbrev pub AllHold : List Step → List ℕ → List Datum → Type 0
    AllHold s [] ws = ws ≡ []
    AllHold s (k ∷ ks) [] = ⊥
    AllHold s (k ∷ ks) (w ∷ ws) = Holds s k w × AllHold s ks ws

    all-later : (s t : List Step) (ks : List ℕ) (ws : List Datum) → Follows s t → AllHold s ks ws → AllHold t ks ws
    all-later s t [] ws f h = h
    all-later s t (k ∷ ks) [] f h = absurd h
    all-later s t (k ∷ ks) (w ∷ ws) f h = (holds-later s t k w f h.0, all-later s t ks ws f h.1)

    all-values : (s : List Step) (ks : List ℕ) (ws : List Datum) → AllHold s ks ws → map (register (after s)) ks ≡ ws
    all-values s [] ws h = sym h
    all-values s (k ∷ ks) [] h = absurd h
    all-values s (k ∷ ks) (w ∷ ws) h = ap₂ (λ (u : Datum) (us : List Datum). u ∷ us) h.0.1 (all-values s ks ws h.1)

    -- b where there is an event, else d
    on-chosen : (z w d : Datum) (b : Datum → Datum) → choose (is_event w) (b (carried_or z w)) d ≡ on_event w d b
    on-chosen z (event u) d b = refl
    on-chosen z _ d b = refl

    module _ (Ps : List TypeTree) (A : TypeTree) where
      -- what the code of an expression gives, behind whatever steps
      abbrev GivesValue : Expression → ℕ → Datum → Type 0
      GivesValue e x X = (t : List Step) → Holds t x X → Gives t (emit Ps A e x t) (value_of e ps X)

      two : (a b : Expression) (x : ℕ) (s : List Step) (X : Datum) → GivesValue a x X → GivesValue b x X → Holds s x X → (u : Datum) (T : TypeTree) (o : Operation)
          → let p : LeafSteps = emit Ps A a x s in let q : LeafSteps = emit Ps A b x p.0 in
          ((r : ℕ → Datum) → r p.1 ≡ value_of a ps X → r q.1 ≡ value_of b ps X → operation_value T ps r o ≡ u)
          → Gives s (put q.0 T o) u
      two a b x s X ga gb h u T o k =
          let p : LeafSteps = emit Ps A a x s in
          let hp : Gives s p (value_of a ps X) = ga s h in
          two-gives s p _ _ _ u T o hp (gb p.0 (holds-later s p.0 x X hp.0 h)) k

      three : (a b c : Expression) (x : ℕ) (s : List Step) (X : Datum) → GivesValue a x X → GivesValue b x X → GivesValue c x X → Holds s x X → (u : Datum) (T : TypeTree) (o : Operation)
          → let p : LeafSteps = emit Ps A a x s in let q : LeafSteps = emit Ps A b x p.0 in let t : LeafSteps = emit Ps A c x q.0 in
          ((r : ℕ → Datum) → r p.1 ≡ value_of a ps X → r q.1 ≡ value_of b ps X → r t.1 ≡ value_of c ps X → operation_value T ps r o ≡ u)
          → Gives s (put t.0 T o) u
      three a b c x s X ga gb gc h u T o k =
          let p : LeafSteps = emit Ps A a x s in
          let hp : Gives s p (value_of a ps X) = ga s h in
          let q : LeafSteps = emit Ps A b x p.0 in
          let hq : Gives p.0 q (value_of b ps X) = gb p.0 (holds-later s p.0 x X hp.0 h) in
          three-gives s p q _ _ _ _ u T o hp hq (gc q.0 (holds-later s q.0 x X (follows-trans s p.0 q.0 hp.0 hq.0) h)) k

      mutual
        -- emitted code gives the expression's value at what its input's register holds
        pub emit-gives : (e : Expression) (x : ℕ) (s : List Step) (X : Datum) → Holds s x X → Gives s (emit Ps A e x s) (value_of e ps X)
        emit-gives input x s X h = (follows-same s, h)
        emit-gives (param k) x s X h = put-gives s _ _ _ refl
        emit-gives unit_expr x s X h = put-gives s _ _ _ refl
        emit-gives (bool_expr b) x s X h = put-gives s _ _ _ refl
        emit-gives (int_expr n) x s X h = put-gives s _ _ _ refl
        emit-gives (pair_expr a b) x s X h = two a b x s X (λ t i. emit-gives a x t X i) (λ t i. emit-gives b x t X i) h _ _ _ (λ r i j. ap₂ pair i j)
        emit-gives (fst e) x s X h = one-gives s _ _ _ _ _ (emit-gives e x s X h) (λ r i. ap left i)
        emit-gives (snd e) x s X h = one-gives s _ _ _ _ _ (emit-gives e x s X h) (λ r i. ap right i)
        emit-gives (then_expr f g) x s X h =
            let p : LeafSteps = emit Ps A f x s in
            let i : Gives s p (value_of f ps X) = emit-gives f x s X h in
            gives-later s p.0 _ _ i.0 (emit-gives g p.1 p.0 (value_of f ps X) i.1)
        emit-gives (neg a) x s X h = one-gives s _ _ _ _ _ (emit-gives a x s X h) (λ r i. ap (λ u. wrap (neg_ℤ (int_of u))) i)
        emit-gives (add a b) x s X h = two a b x s X (λ t i. emit-gives a x t X i) (λ t i. emit-gives b x t X i) h _ _ _ (λ r i j. ap₂ (λ (u w : Datum). wrap (int_of u +ℤ int_of w)) i j)
        emit-gives (sub a b) x s X h = two a b x s X (λ t i. emit-gives a x t X i) (λ t i. emit-gives b x t X i) h _ _ _ (λ r i j. ap₂ (λ (u w : Datum). wrap (int_of u -ℤ int_of w)) i j)
        emit-gives (mul a b) x s X h = two a b x s X (λ t i. emit-gives a x t X i) (λ t i. emit-gives b x t X i) h _ _ _ (λ r i j. ap₂ (λ (u w : Datum). wrap (int_of u *ℤ int_of w)) i j)
        emit-gives (less a b) x s X h = two a b x s X (λ t i. emit-gives a x t X i) (λ t i. emit-gives b x t X i) h _ _ _ (λ r i j. ap₂ (λ (u w : Datum). bool (int_lt (int_of u) (int_of w))) i j)
        emit-gives (equal a b) x s X h = two a b x s X (λ t i. emit-gives a x t X i) (λ t i. emit-gives b x t X i) h _ _ _ (λ r i j. ap₂ (λ (u w : Datum). bool (same_datum u w)) i j)
        emit-gives (not_expr a) x s X h = one-gives s _ _ _ _ _ (emit-gives a x s X h) (λ r i. ap (λ u. bool (not (is_true u))) i)
        emit-gives (and_expr a b) x s X h = two a b x s X (λ t i. emit-gives a x t X i) (λ t i. emit-gives b x t X i) h _ _ _ (λ r i j. ap₂ (λ (u w : Datum). bool (is_true u && is_true w)) i j)
        emit-gives (or_expr a b) x s X h = two a b x s X (λ t i. emit-gives a x t X i) (λ t i. emit-gives b x t X i) h _ _ _ (λ r i j. ap₂ (λ (u w : Datum). bool (is_true u || is_true w)) i j)
        emit-gives (if_expr c a b) x s X h =
            three c a b x s X (λ t i. emit-gives c x t X i) (λ t i. emit-gives a x t X i) (λ t i. emit-gives b x t X i) h _ _ _ (λ r i j k. of-three (λ u w t. choose (is_true u) w t) i j k)
        emit-gives (no_event_expr T) x s X h = put-gives s _ _ _ refl
        emit-gives (event_expr e) x s X h = one-gives s _ _ _ _ _ (emit-gives e x s X h) (λ r i. ap event i)
        emit-gives (on e d b) x s X h =
            let p : LeafSteps = emit Ps A e x s in
            let q : LeafSteps = emit Ps A d x p.0 in
            let w : Datum = value_of e ps X in
            let u : Datum = value_of d ps X in
            let hp : Gives s p w = emit-gives e x s X h in
            let hq : Gives p.0 q u = emit-gives d x p.0 X (holds-later s p.0 x X hp.0 h) in
            let fq : Follows s q.0 = follows-trans s p.0 q.0 hp.0 hq.0 in
            let z : Datum = zero_of (carried_type (type_at A q.0 p.1)) in
            let c : LeafSteps = put q.0 (carried_type (type_at A q.0 p.1)) (O.carried p.1) in
            let hc : Gives q.0 c (carried_or z w) =
            put-gives q.0 _ _ _ (ap (carried_or z) (holds-later p.0 q.0 p.1 w hq.0 hp.1).1) in
            let i : LeafSteps = beside_carried A p.1 x q.0 in
            let hi : Gives c.0 i (pair X (carried_or z w)) =
            put-gives c.0 _ _ _ (ap₂ pair (holds-later s c.0 x X (follows-trans s q.0 c.0 fq hc.0) h).1 hc.1.1) in
            let r : LeafSteps = emit Ps A b i.1 i.0 in
            let hr : Gives i.0 r (value_of b ps (pair X (carried_or z w))) = emit-gives b i.1 i.0 _ hi.1 in
            let fr : Follows q.0 r.0 = follows-trans q.0 i.0 r.0 (follows-trans q.0 c.0 i.0 hc.0 hi.0) hr.0 in
            let fpr : Follows p.0 r.0 = follows-trans p.0 q.0 r.0 hq.0 fr in
            let k : LeafSteps = put r.0 _ (O.is_event p.1) in
            let hk : Gives r.0 k (bool (is_event w)) =
            put-gives r.0 _ _ _ (ap (λ y. bool (is_event y)) (holds-later p.0 r.0 p.1 w fpr hp.1).1) in
            gives-later s k.0 _ _ (follows-trans s r.0 k.0 (follows-trans s q.0 r.0 fq fr) hk.0)
            (put-gives k.0 _ _ _
            (ap (λ y. choose (is_true y) (register (after k.0) r.1) (register (after k.0) q.1)) hk.1.1
            ∙ ap₂ (λ (y t : Datum). choose (is_event w) y t)
            (holds-later r.0 k.0 r.1 _ hk.0 hr.1).1
            (holds-later q.0 k.0 q.1 u (follows-trans q.0 r.0 k.0 fr hk.0) hq.1).1
            ∙ on-chosen z w u (λ y. value_of b ps (pair X y))))
        emit-gives (list_expr T es) x s X h =
            let p : List Step × List ℕ = emit_all Ps A es x s in
            let hp : Follows s p.0 × AllHold p.0 p.1 (values_of es ps X) = all-give es x s X h in
            gives-later s p.0 _ _ hp.0 (put-gives p.0 _ _ _ (ap (λ ws. list (list_of ws)) (all-values p.0 p.1 _ hp.1)))
        emit-gives (nth e k d) x s X h =
            three e k d x s X (λ t i. emit-gives e x t X i) (λ t i. emit-gives k x t X i) (λ t i. emit-gives d x t X i) h _ _ _ (λ r i j l. of-three (λ u w t. element_at u (int_of w) t) i j l)
        emit-gives (len e) x s X h = one-gives s _ _ _ _ _ (emit-gives e x s X h) (λ r i. ap (λ u. wrap (pos (count_of u))) i)

        pub all-give : (es : Expressions) (x : ℕ) (s : List Step) (X : Datum) → Holds s x X
            → Follows s (emit_all Ps A es x s).0 × AllHold (emit_all Ps A es x s).0 (emit_all Ps A es x s).1 (values_of es ps X)
        all-give no_more x s X h = (follows-same s, refl)
        all-give (and_then e es) x s X h =
            let p : LeafSteps = emit Ps A e x s in
            let hp : Gives s p (value_of e ps X) = emit-gives e x s X h in
            let r : List Step × List ℕ = emit_all Ps A es x p.0 in
            let hr : Follows p.0 r.0 × AllHold r.0 r.1 (values_of es ps X) = all-give es x p.0 X (holds-later s p.0 x X hp.0 h) in
            (follows-trans s p.0 r.0 hp.0 hr.0, (holds-later p.0 r.0 p.1 _ hr.0 hp.1, hr.1))

      -- the code of an expression computes its value
      pub leaf-value : (e : Expression) → leaf_value (leaf_code Ps A e) ps v ≡ value_of e ps v
      leaf-value e = (emit-gives e 0 [] v (omega arith, refl)).1.1
