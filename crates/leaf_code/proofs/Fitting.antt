-- All that the code of a typed expression computes fits.
use Rattle.std.proofs.Common.{◌≡◌, ◌≤◌, ℕ, zero, suc, ℤ, pos, negsuc, Bool, true, false, List, [], ◌∷◌, ◌++◌, map, length, get_or, refl, sym, ap, ap₂, subst, ◌∙◌, arith, w64}
use Rattle.std.specs.Int.{int_wrap}
use Rattle.std.proofs.lemmas.Int.{SFits-int_wrap}
use Rattle.std.proofs.lemmas.List.{length-map}
use Rattle.sample_core.specs.Datum.{Datum, Datums, int, list, left, right, list_of}
use Rattle.sample_core.specs.TypeTree.{TypeTree, unit_ty, bool_ty, int_ty, pair_ty, event_ty, list_ty}
use Rattle.sample_core.proofs.Elements.{elements_of_list}
use Rattle.leaf_core.specs.Expression.{Expression, Expressions, then_expr, on}
use Rattle.leaf_core.specs.ExpressionValue.{value_of, choose, nth_of, element_at, param_at}
use Rattle.leaf_core.specs.ExpressionTyping.{ParamAt, param_here, param_after, ExpressionTyped, ExpressionsTyped, input_typed, param_typed, unit_typed, bool_typed, int_typed, pair_typed, fst_typed, snd_typed, then_typed, neg_typed, add_typed, sub_typed, mul_typed, less_typed, equal_typed, not_typed, and_typed, or_typed, if_typed, no_event_typed, event_typed, on_typed, list_typed, nth_typed, len_typed, no_more_typed, and_then_typed}
use Rattle.leaf_code.specs.Operation.{Operation}
use Rattle.leaf_code.specs.Operation as O
use Rattle.leaf_code.specs.Running.{Step, step, zero_of, carried_or, register, operation_value, step_value, run_steps, LeafSteps}
use Rattle.leaf_code.specs.CodeOf.{left_type, right_type, carried_type, type_at, put, beside_carried, emit, emit_all, leaf_code}
use Rattle.leaf_code.specs.Fitting.{Fits, AllFit, unit_fits, bool_fits, int_fits, pair_fits, no_event_fits, event_fits, list_fits, end_fits, more_fits, ParamsFit, and_param, ListWithin, ListsWithin, StepsFit, LeafFitLaw}
use Rattle.leaf_code.proofs.Computed.{IsPut, fresh, again, put-is}
use Rattle.leaf_code.proofs.Values.{Follows, follows-trans, follows-put, after, Holds, holds-later, put-gives, emit-gives, all-give, leaf-value, get-front}

module _ (bound : TypeTree → ℕ) where
  pub left-fits : {A B : TypeTree} {v : Datum} → Fits bound v (pair_ty A B) → Fits bound (left v) A
  left-fits (pair_fits h k) = h

  pub right-fits : {A B : TypeTree} {v : Datum} → Fits bound v (pair_ty A B) → Fits bound (right v) B
  right-fits (pair_fits h k) = k

  wrapped-fits : (z : ℤ) → Fits bound (int (int_wrap w64 z)) int_ty
  wrapped-fits z = int_fits (SFits-int_wrap w64 z)

  chosen-fits : {B : TypeTree} (b : Bool) {v w : Datum} → Fits bound v B → Fits bound w B → Fits bound (choose b v w) B
  chosen-fits true h k = h
  chosen-fits false h k = k

  pub zero-fits : (T : TypeTree) → Fits bound (zero_of T) T
  unfolding int_wrap
  zero-fits unit_ty = unit_fits
  zero-fits bool_ty = bool_fits
  zero-fits int_ty = int_fits (SFits-int_wrap w64 (pos 0))
  zero-fits (pair_ty A B) = pair_fits (zero-fits A) (zero-fits B)
  zero-fits (event_ty A) = no_event_fits
  zero-fits (list_ty A) = list_fits (omega arith) end_fits

  carried-fits : {V : TypeTree} {v : Datum} (d : Datum) → Fits bound v (event_ty V) → Fits bound d V → Fits bound (carried_or d v) V
  carried-fits d no_event_fits k = k
  carried-fits d (event_fits h) k = h

  nth-fits : {A : TypeTree} {vs : Datums} {d : Datum} (n : ℕ) → AllFit bound vs A → Fits bound d A → Fits bound (nth_of vs n d) A
  nth-fits n end_fits k = k
  nth-fits zero (more_fits h hs) k = h
  nth-fits (suc n) (more_fits h hs) k = nth-fits n hs k

  element-fits : {A : TypeTree} {v d : Datum} (i : ℤ) → Fits bound v (list_ty A) → Fits bound d A → Fits bound (element_at v i d) A
  element-fits (pos n) (list_fits l h) k = nth-fits n h k
  element-fits (negsuc n) (list_fits l h) k = k

  pub param-fits : {Ps : List TypeTree} {k : ℕ} {B : TypeTree} (ps : List Datum) → ParamAt Ps k B → ParamsFit bound Ps ps → Fits bound (param_at ps k) B
  param-fits ps param_here (and_param h hs) = h
  param-fits ps (param_after i) (and_param {ps = qs} h hs) = param-fits qs i hs

  param-type : {Ps : List TypeTree} {k : ℕ} {B : TypeTree} → ParamAt Ps k B → get_or Ps k unit_ty ≡ B
  param-type param_here = refl
  param-type (param_after i) = param-type i

  within-front : (s d : List Step) → ListsWithin bound (s ++ d) → ListsWithin bound s
  within-front [] d w = tt
  within-front (o ∷ s) d w = (w.0, within-front s d w.1)

  within-before : (s t : List Step) → Follows s t → ListsWithin bound t → ListsWithin bound s
  within-before s t f w = within-front s f.0 (subst (ListsWithin bound) f.1 w)

  within-at : (us : List Step) (t : Step) (vs : List Step) → ListsWithin bound (us ++ t ∷ vs) → ListWithin bound t.ty t.operation
  within-at [] t vs w = w.0
  within-at (u ∷ us) t vs w = within-at us t vs w.1

  within-by : (s : List Step) (T : TypeTree) (o : Operation) (p : LeafSteps) → IsPut s T o p → ListsWithin bound p.0 → ListWithin bound T o
  within-by s T o p fresh w = within-at s (step T o) [] w
  within-by s T o p (again us vs is b) w = within-at us (step T o) vs (subst (ListsWithin bound) is w)

  within-put : (s : List Step) (T : TypeTree) (o : Operation) → ListsWithin bound (put s T o).0 → ListWithin bound T o
  within-put s T o w = within-by s T o (put s T o) (put-is s T o) w

  module _ (ps : List Datum) where
    steps-append : (rs : List Datum) (s : List Step) (o : Step) → StepsFit bound ps rs s → Fits bound (step_value ps (run_steps ps rs s) o) o.ty
        → StepsFit bound ps rs (s ++ o ∷ [])
    steps-append rs [] o h k = (k, tt)
    steps-append rs (u ∷ s) o h k = (h.0, steps-append (rs ++ step_value ps rs u ∷ []) s o h.1 k)

    module _ (v : Datum) (Ps : List TypeTree) (A : TypeTree) (params : ParamsFit bound Ps ps) where
      -- all steps so far fit
      abbrev Good : List Step → Type 0
      Good s = StepsFit bound ps (v ∷ []) s

      -- register k is there, has the type, and its value fits
      pub record Typed (s : List Step) (k : ℕ) (B : TypeTree) : Type 0 where
        pub there : k ≤ length s
        pub ty : type_at A s k ≡ B
        pub fits : Fits bound (register (after ps v s) k) B

      holds-of : (s : List Step) (k : ℕ) (B : TypeTree) → Typed s k B → Holds ps v s k (register (after ps v s) k)
      holds-of s k B h = (h.there, refl)

      types-append : (s d : List Step) → map (λ t. t.ty) (s ++ d) ≡ map (λ t. t.ty) s ++ map (λ t. t.ty) d
      types-append [] d = refl
      types-append (o ∷ s) d = ap (λ (Ts : List TypeTree). o.ty ∷ Ts) (types-append s d)

      type-front : (s d : List Step) (k : ℕ) → k ≤ length s → type_at A (s ++ d) k ≡ type_at A s k
      type-front s d k l =
          let n : length (map (λ t. t.ty) s) ≡ length s = length-map s (λ t. t.ty) in
          ap (λ (Ts : List TypeTree). get_or (A ∷ Ts) k unit_ty) (types-append s d)
          ∙ get-front (A ∷ map (λ t. t.ty) s) (map (λ t. t.ty) d) k unit_ty (omega arith)

      typed-later : (s t : List Step) (k : ℕ) (B : TypeTree) → Follows s t → Typed s k B → Typed t k B
      typed-later s t k B f h =
          let i : Holds ps v t k (register (after ps v s) k) = holds-later ps v s t k _ f (holds-of s k B h) in
          record {
            there = i.0;
            ty = ap (λ u. type_at A u k) f.1 ∙ type-front s f.0 k h.there ∙ h.ty;
            fits = subst (λ w. Fits bound w B) (sym i.1) h.fits;
          }

      -- the register that a step sets has its type
      ty-there : (us : List Step) (t : Step) (vs : List Step) → type_at A (us ++ t ∷ vs) (suc (length us)) ≡ t.ty
      ty-there [] t vs = refl
      ty-there (u ∷ us) t vs = ty-there us t vs

      -- steps fit, and register k is typed
      abbrev Sound : LeafSteps → TypeTree → Type 0
      Sound p B = Good p.0 × Typed p.0 p.1 B

      sound-by : (s : List Step) (T : TypeTree) (o : Operation) (B : TypeTree) (p : LeafSteps) → IsPut s T o p → Good s → T ≡ B
          → Fits bound (operation_value T ps (register (after ps v s)) o) B
          → Holds ps v p.0 p.1 (operation_value T ps (register (after ps v s)) o) → Sound p B
      sound-by s T o B p fresh g e h i =
          let l : length (map (λ t. t.ty) s) ≡ length s = length-map s (λ t. t.ty) in (
            steps-append (v ∷ []) s (step T o) g (subst (λ C. Fits bound (operation_value T ps (register (after ps v s)) o) C) (sym e) h),
            record {
              there = i.0;
              ty = ty-there s (step T o) [] ∙ e;
              fits = subst (λ w. Fits bound w B) (sym i.1) h;
            },
          )
      sound-by s T o B p (again us vs is b) g e h i = (
        g,
        record {
          there = i.0;
          ty = ap (λ u. type_at A u (suc (length us))) is ∙ ty-there us (step T o) vs ∙ e;
          fits = subst (λ w. Fits bound w B) (sym i.1) h;
        },
      )

      put-sound : (s : List Step) (T : TypeTree) (o : Operation) (B : TypeTree) → Good s → T ≡ B → Fits bound (operation_value T ps (register (after ps v s)) o) B
          → Sound (put s T o) B
      put-sound s T o B g e h = sound-by s T o B (put s T o) (put-is s T o) g e h (put-gives ps v s T o _ refl).1

      -- emitted code follows, whatever the input's register holds
      follows-emit : (e : Expression) (x : ℕ) (s : List Step) (X : TypeTree) → Typed s x X → Follows s (emit Ps A e x s).0
      follows-emit e x s X h = (emit-gives ps v Ps A e x s _ (holds-of s x X h)).0

      -- what the code of an expression comes to, behind steps that fit
      abbrev IsSound : Expression → ℕ → TypeTree → TypeTree → Type 0
      IsSound e x X B = (s : List Step) → Good s → Typed s x X → ListsWithin bound (emit Ps A e x s).0 → Sound (emit Ps A e x s) B

      one-sound : (e : Expression) (x : ℕ) (s : List Step) (X B C : TypeTree) (T : TypeTree) (o : Operation) → IsSound e x X B → Good s → Typed s x X
          → let p : LeafSteps = emit Ps A e x s in
          ListsWithin bound (put p.0 T o).0
          → (Typed p.0 p.1 B → (T ≡ C) × Fits bound (operation_value T ps (register (after ps v p.0)) o) C)
          → Sound (put p.0 T o) C
      one-sound e x s X B C T o f g h w k =
          let p : LeafSteps = emit Ps A e x s in
          let hp : Sound p B = f s g h (within-before p.0 _ (follows-put p.0 T o) w) in
          let r : (T ≡ C) × Fits bound (operation_value T ps (register (after ps v p.0)) o) C = k hp.1 in
          put-sound p.0 T o C hp.0 r.0 r.1

      two-sound : (a b : Expression) (x : ℕ) (s : List Step) (X B C D : TypeTree) (T : TypeTree) (o : Operation) → IsSound a x X B → IsSound b x X C
          → Good s → Typed s x X
          → let p : LeafSteps = emit Ps A a x s in let q : LeafSteps = emit Ps A b x p.0 in
          ListsWithin bound (put q.0 T o).0
          → (Typed q.0 p.1 B → Typed q.0 q.1 C → (T ≡ D) × Fits bound (operation_value T ps (register (after ps v q.0)) o) D)
          → Sound (put q.0 T o) D
      two-sound a b x s X B C D T o fa fb g h w k =
          let p : LeafSteps = emit Ps A a x s in
          let q : LeafSteps = emit Ps A b x p.0 in
          let fp : Follows s p.0 = follows-emit a x s X h in
          let hx : Typed p.0 x X = typed-later s p.0 x X fp h in
          let fq : Follows p.0 q.0 = follows-emit b x p.0 X hx in
          let wq : ListsWithin bound q.0 = within-before q.0 _ (follows-put q.0 T o) w in
          let hp : Sound p B = fa s g h (within-before p.0 q.0 fq wq) in
          let hq : Sound q C = fb p.0 hp.0 hx wq in
          let r : (T ≡ D) × Fits bound (operation_value T ps (register (after ps v q.0)) o) D = k (typed-later p.0 q.0 p.1 B fq hp.1) hq.1 in
          put-sound q.0 T o D hq.0 r.0 r.1

      three-sound : (a b c : Expression) (x : ℕ) (s : List Step) (X B C D E : TypeTree) (T : TypeTree) (o : Operation)
          → IsSound a x X B → IsSound b x X C → IsSound c x X D → Good s → Typed s x X
          → let p : LeafSteps = emit Ps A a x s in let q : LeafSteps = emit Ps A b x p.0 in let r : LeafSteps = emit Ps A c x q.0 in
          ListsWithin bound (put r.0 T o).0
          → (Typed r.0 p.1 B → Typed r.0 q.1 C → Typed r.0 r.1 D → (T ≡ E) × Fits bound (operation_value T ps (register (after ps v r.0)) o) E)
          → Sound (put r.0 T o) E
      three-sound a b c x s X B C D E T o fa fb fc g h w k =
          let p : LeafSteps = emit Ps A a x s in
          let q : LeafSteps = emit Ps A b x p.0 in
          let r : LeafSteps = emit Ps A c x q.0 in
          let fp : Follows s p.0 = follows-emit a x s X h in
          let hx : Typed p.0 x X = typed-later s p.0 x X fp h in
          let fq : Follows p.0 q.0 = follows-emit b x p.0 X hx in
          let hy : Typed q.0 x X = typed-later p.0 q.0 x X fq hx in
          let fr : Follows q.0 r.0 = follows-emit c x q.0 X hy in
          let wr : ListsWithin bound r.0 = within-before r.0 _ (follows-put r.0 T o) w in
          let wq : ListsWithin bound q.0 = within-before q.0 r.0 fr wr in
          let hp : Sound p B = fa s g h (within-before p.0 q.0 fq wq) in
          let hq : Sound q C = fb p.0 hp.0 hx wq in
          let hr : Sound r D = fc q.0 hq.0 hy wr in
          let z : (T ≡ E) × Fits bound (operation_value T ps (register (after ps v r.0)) o) E =
          k (typed-later p.0 r.0 p.1 B (follows-trans p.0 q.0 r.0 fq fr) hp.1) (typed-later q.0 r.0 q.1 C fr hq.1) hr.1 in
          put-sound r.0 T o E hr.0 z.0 z.1

      -- registers of one type
      abbrev AllTyped : List Step → List ℕ → TypeTree → Type 0
      AllTyped s [] T = Unit {0}
      AllTyped s (k ∷ ks) T = Typed s k T × AllTyped s ks T

      all-fit : (s : List Step) (ks : List ℕ) (T : TypeTree) → AllTyped s ks T → AllFit bound (list_of (map (register (after ps v s)) ks)) T
      all-fit s [] T h = end_fits
      all-fit s (k ∷ ks) T h = more_fits h.0.fits (all-fit s ks T h.1)

      list-fits : (s : List Step) (ks : List ℕ) (T : TypeTree) → AllTyped s ks T → length ks ≤ bound T
          → Fits bound (list (list_of (map (register (after ps v s)) ks))) (list_ty T)
      list-fits s ks T h l =
          let n : length (map (register (after ps v s)) ks) ≡ length ks = length-map ks (register (after ps v s)) in
          list_fits (subst (λ vs. length vs ≤ bound T) (sym (elements_of_list (map (register (after ps v s)) ks))) (omega arith)) (all-fit s ks T h)

      then-sound : (f k : Expression) (x : ℕ) (s : List Step) (X C B : TypeTree) → IsSound f x X C → ((y : ℕ) → IsSound k y C B) → Good s → Typed s x X
          → ListsWithin bound (emit Ps A (then_expr f k) x s).0 → Sound (emit Ps A (then_expr f k) x s) B
      then-sound f k x s X C B i j g h w =
          let p : LeafSteps = emit Ps A f x s in
          let hold : Holds ps v p.0 p.1 (value_of f ps (register (after ps v s) x)) = (emit-gives ps v Ps A f x s _ (holds-of s x X h)).1 in
          let fk : Follows p.0 (emit Ps A k p.1 p.0).0 = (emit-gives ps v Ps A k p.1 p.0 _ hold).0 in
          let hp : Sound p C = i s g h (within-before p.0 _ fk w) in
          j p.1 p.0 hp.0 hp.1 w

      on-sound : (f d b : Expression) (x : ℕ) (s : List Step) (X V B : TypeTree) → IsSound f x X (event_ty V) → IsSound d x X B
          → ((y : ℕ) → IsSound b y (pair_ty X V) B) → Good s → Typed s x X
          → ListsWithin bound (emit Ps A (on f d b) x s).0 → Sound (emit Ps A (on f d b) x s) B
      on-sound f d b x s X V B jf jd jb g h w =
          let p : LeafSteps = emit Ps A f x s in
          let q : LeafSteps = emit Ps A d x p.0 in
          let T : TypeTree = carried_type (type_at A q.0 p.1) in
          let c : LeafSteps = put q.0 T (O.carried p.1) in
          let i : LeafSteps = beside_carried A p.1 x q.0 in
          let r : LeafSteps = emit Ps A b i.1 i.0 in
          let k : LeafSteps = put r.0 bool_ty (O.is_event p.1) in
          let fp : Follows s p.0 = follows-emit f x s X h in
          let hx : Typed p.0 x X = typed-later s p.0 x X fp h in
          let fq : Follows p.0 q.0 = follows-emit d x p.0 X hx in
          let hold : Holds ps v i.0 i.1 (operation_value (pair_ty (type_at A c.0 x) (type_at A c.0 c.1)) ps (register (after ps v c.0)) (O.pair x c.1)) = (put-gives ps v c.0 _ _ _ refl).1 in
          let fc : Follows q.0 c.0 = follows-put q.0 T (O.carried p.1) in
          let fi : Follows c.0 i.0 = follows-put c.0 _ _ in
          let fr : Follows i.0 r.0 = (emit-gives ps v Ps A b i.1 i.0 _ hold).0 in
          let fk : Follows r.0 k.0 = follows-put r.0 _ _ in
          let wk : ListsWithin bound k.0 = within-before k.0 _ (follows-put k.0 _ _) w in
          let wr : ListsWithin bound r.0 = within-before r.0 k.0 fk wk in
          let wi : ListsWithin bound i.0 = within-before i.0 r.0 fr wr in
          let wq : ListsWithin bound q.0 = within-before q.0 c.0 fc (within-before c.0 i.0 fi wi) in
          let hp : Sound p (event_ty V) = jf s g h (within-before p.0 q.0 fq wq) in
          let hq : Sound q B = jd p.0 hp.0 hx wq in
          let he : Typed q.0 p.1 (event_ty V) = typed-later p.0 q.0 p.1 (event_ty V) fq hp.1 in
          let te : T ≡ V = ap carried_type he.ty in
          let hc : Sound c V = put-sound q.0 T (O.carried p.1) V hq.0 te (carried-fits (zero_of T) he.fits (subst (λ C. Fits bound (zero_of T) C) te (zero-fits T))) in
          let hy : Typed c.0 x X = typed-later p.0 c.0 x X (follows-trans p.0 q.0 c.0 fq fc) hx in
          let hi : Sound i (pair_ty X V) = put-sound c.0 _ _ (pair_ty X V) hc.0 (ap₂ pair_ty hy.ty hc.1.ty) (pair_fits hy.fits hc.1.fits) in
          let hr : Sound r B = jb i.1 i.0 hi.0 hi.1 wr in
          let hk : Sound k bool_ty = put-sound r.0 bool_ty (O.is_event p.1) bool_ty hr.0 refl bool_fits in
          let fqr : Follows q.0 r.0 = follows-trans q.0 i.0 r.0 (follows-trans q.0 c.0 i.0 fc fi) fr in
          let hd : Typed k.0 q.1 B = typed-later q.0 k.0 q.1 B (follows-trans q.0 r.0 k.0 fqr fk) hq.1 in
          put-sound k.0 _ _ B hk.0 hd.ty (chosen-fits _ (typed-later r.0 k.0 r.1 B fk hr.1).fits hd.fits)

      mutual
        pub sound : (e : Expression) (x : ℕ) (X B : TypeTree) → ExpressionTyped e Ps X B → IsSound e x X B
        sound e x X B input_typed s g h w = (g, h)
        sound e x X B (param_typed i) s g h w = put-sound s _ _ B g (param-type i) (param-fits ps i params)
        sound e x X B unit_typed s g h w = put-sound s _ _ B g refl unit_fits
        sound e x X B bool_typed s g h w = put-sound s _ _ B g refl bool_fits
        sound e x X B (int_typed f) s g h w = put-sound s _ _ B g refl (int_fits f)
        sound e x X B (pair_typed {B = C} {C = D} {a = a} {b = b} i j) s g h w =
            two-sound a b x s X C D B _ _ (sound a x X C i) (sound b x X D j) g h w (λ p q. (ap₂ pair_ty p.ty q.ty, pair_fits p.fits q.fits))
        sound e x X B (fst_typed {C = C} {e = f} i) s g h w =
            one-sound f x s X _ B _ _ (sound f x X _ i) g h w (λ p. (ap left_type p.ty, left-fits p.fits))
        sound e x X B (snd_typed {B = C} {e = f} i) s g h w =
            one-sound f x s X _ B _ _ (sound f x X _ i) g h w (λ p. (ap right_type p.ty, right-fits p.fits))
        sound e x X B (then_typed {B = C} {f = f} {g = k} i j) s g h w =
            then-sound f k x s X C B (sound f x X C i) (λ y. sound k y C B j) g h w
        sound e x X B (neg_typed {a = a} i) s g h w = one-sound a x s X _ B _ _ (sound a x X _ i) g h w (λ p. (refl, wrapped-fits _))
        sound e x X B (add_typed {a = a} {b = b} i j) s g h w = two-sound a b x s X _ _ B _ _ (sound a x X _ i) (sound b x X _ j) g h w (λ p q. (refl, wrapped-fits _))
        sound e x X B (sub_typed {a = a} {b = b} i j) s g h w = two-sound a b x s X _ _ B _ _ (sound a x X _ i) (sound b x X _ j) g h w (λ p q. (refl, wrapped-fits _))
        sound e x X B (mul_typed {a = a} {b = b} i j) s g h w = two-sound a b x s X _ _ B _ _ (sound a x X _ i) (sound b x X _ j) g h w (λ p q. (refl, wrapped-fits _))
        sound e x X B (less_typed {a = a} {b = b} i j) s g h w = two-sound a b x s X _ _ B _ _ (sound a x X _ i) (sound b x X _ j) g h w (λ p q. (refl, bool_fits))
        sound e x X B (equal_typed {B = C} {a = a} {b = b} i j) s g h w = two-sound a b x s X _ _ B _ _ (sound a x X _ i) (sound b x X _ j) g h w (λ p q. (refl, bool_fits))
        sound e x X B (not_typed {a = a} i) s g h w = one-sound a x s X _ B _ _ (sound a x X _ i) g h w (λ p. (refl, bool_fits))
        sound e x X B (and_typed {a = a} {b = b} i j) s g h w = two-sound a b x s X _ _ B _ _ (sound a x X _ i) (sound b x X _ j) g h w (λ p q. (refl, bool_fits))
        sound e x X B (or_typed {a = a} {b = b} i j) s g h w = two-sound a b x s X _ _ B _ _ (sound a x X _ i) (sound b x X _ j) g h w (λ p q. (refl, bool_fits))
        sound e x X B (if_typed {c = c} {a = a} {b = b} i j k) s g h w =
            three-sound c a b x s X _ B B B _ _ (sound c x X _ i) (sound a x X B j) (sound b x X B k) g h w (λ p q r. (q.ty, chosen-fits _ q.fits r.fits))
        sound e x X B no_event_typed s g h w = put-sound s _ _ B g refl no_event_fits
        sound e x X B (event_typed {B = C} {e = f} i) s g h w = one-sound f x s X C B _ _ (sound f x X C i) g h w (λ p. (ap event_ty p.ty, event_fits p.fits))
        sound e x X B (on_typed {V = V} {e = f} {d = d} {b = b} i j k) s g h w =
            on-sound f d b x s X V B (sound f x X _ i) (sound d x X B j) (λ y. sound b y (pair_ty X V) B k) g h w
        sound e x X B (list_typed {T = T} {es = es} i) s g h w =
            let p : List Step × List ℕ = emit_all Ps A es x s in
            let wp : ListsWithin bound p.0 = within-before p.0 _ (follows-put p.0 (list_ty T) (O.list p.1)) w in
            let hp : Good p.0 × AllTyped p.0 p.1 T = all-sound es x X T i s g h wp in
            put-sound p.0 _ _ B hp.0 refl (list-fits p.0 p.1 T hp.1 (within-put p.0 (list_ty T) (O.list p.1) w))
        sound e x X B (nth_typed {e = f} {i = n} {d = d} i j k) s g h w =
            three-sound f n d x s X _ _ B B _ _ (sound f x X _ i) (sound n x X _ j) (sound d x X B k) g h w (λ p q r. (r.ty, element-fits _ p.fits r.fits))
        sound e x X B (len_typed {e = f} i) s g h w = one-sound f x s X _ B _ _ (sound f x X _ i) g h w (λ p. (refl, wrapped-fits _))

        all-sound : (es : Expressions) (x : ℕ) (X T : TypeTree) → ExpressionsTyped es Ps X T → (s : List Step) → Good s → Typed s x X
            → ListsWithin bound (emit_all Ps A es x s).0 → Good (emit_all Ps A es x s).0 × AllTyped (emit_all Ps A es x s).0 (emit_all Ps A es x s).1 T
        all-sound es x X T no_more_typed s g h w = (g, tt)
        all-sound es x X T (and_then_typed {e = e} {es = fs} i is) s g h w =
            let p : LeafSteps = emit Ps A e x s in
            let fp : Follows s p.0 = follows-emit e x s X h in
            let hx : Typed p.0 x X = typed-later s p.0 x X fp h in
            let r : List Step × List ℕ = emit_all Ps A fs x p.0 in
            let fr : Follows p.0 r.0 = (all-give ps v Ps A fs x p.0 _ (holds-of p.0 x X hx)).0 in
            let hp : Sound p T = sound e x X T i s g h (within-before p.0 r.0 fr w) in
            let hr : Good r.0 × AllTyped r.0 r.1 T = all-sound fs x X T is p.0 hp.0 hx w in
            (hr.0, (typed-later p.0 r.0 p.1 T fr hp.1, hr.1))

pub leaf-fits : LeafFitLaw
leaf-fits bound e Ps A B h w ps x params f =
    let there : Typed bound ps x Ps A params [] 0 A = record { there = omega arith; ty = refl; fits = f } in
    let r : Sound bound ps x Ps A params (leaf_code Ps A e) B = sound bound ps x Ps A params e 0 A B h [] tt there w in
    record {
      steps = r.0;
      answer = r.1.ty;
      value = subst (λ u. Fits bound u B) (leaf-value ps x Ps A e) r.1.fits;
    }
