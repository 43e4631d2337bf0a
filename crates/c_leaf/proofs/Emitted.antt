-- The steps of a typed expression's code are typed: as leaf_code's Fitting, with types in place of
-- values.
use Rattle.std.proofs.Common.{◌≡◌, ◌≤◌, ◌<◌, ◌^◌, ℕ, suc, List, [], ◌∷◌, ◌++◌, map, length, get_or, Some, refl, sym, ap, ap₂, subst, ◌∙◌, arith, append_assoc}
use Rattle.std.specs.Prelude.{slice_get, ltb}
use Rattle.std.proofs.lemmas.Bool.{ltb-true}
use Rattle.std.proofs.lemmas.Option.{slice_get_within, get_or_from_slice_get}
use Rattle.std.proofs.lemmas.List.{length-map}
use Rattle.sample_core.specs.Datum.{unit}
use Rattle.sample_core.specs.TypeTree.{TypeTree, unit_ty, bool_ty, pair_ty, event_ty, list_ty}
use Rattle.leaf_core.specs.Expression.{Expression, Expressions, then_expr, on}
use Rattle.leaf_core.specs.ExpressionValue.{value_of}
use Rattle.leaf_core.specs.ExpressionTyping.{ParamAt, param_here, param_after, ExpressionTyped, ExpressionsTyped, input_typed, param_typed, unit_typed, bool_typed, int_typed, pair_typed, fst_typed, snd_typed, then_typed, neg_typed, add_typed, sub_typed, mul_typed, less_typed, equal_typed, not_typed, and_typed, or_typed, if_typed, no_event_typed, event_typed, on_typed, list_typed, nth_typed, len_typed, no_more_typed, and_then_typed}
use Rattle.leaf_code.specs.Operation.{Operation}
use Rattle.leaf_code.specs.Operation as O
use Rattle.leaf_code.specs.Running.{Step, step, register, operation_value, LeafSteps}
use Rattle.leaf_code.specs.CodeOf.{left_type, right_type, carried_type, type_at, put, beside_carried, emit, emit_all}
use Rattle.leaf_code.specs.Fitting.{ListWithin, ListsWithin}
use Rattle.leaf_code.proofs.Computed.{and-left, IsPut, fresh, again, put-is}
use Rattle.leaf_code.proofs.Values.{Follows, follows-trans, follows-put, after, Holds, put-gives, emit-gives, all-give, get-front}
use Rattle.c_leaf.specs.LeafCLaw.{IsCompared, StepCompared, StepsCompared}
use Rattle.c_leaf.proofs.Typed.{AllOf, none_of, one_of, OperationTyped, param_op, unit_op, bool_op, int_op, pair_op, left_op, right_op, neg_op, add_op, sub_op, mul_op, less_op, equal_op, not_op, and_op, or_op, choose_op, no_event_op, event_op, is_event_op, carried_op, list_op, nth_op, len_op, StepsTyped}
use Rattle.c_meaning.specs.Meaning.{Linked}
use Rattle.c_meaning.proofs.Runs.{get-before}

param-type : {Ps : List TypeTree} {k : ℕ} {B : TypeTree} → ParamAt Ps k B → get_or Ps k unit_ty ≡ B
param-type param_here = refl
param-type (param_after i) = param-type i

param-at : {Ps : List TypeTree} {k : ℕ} {B : TypeTree} → ParamAt Ps k B → slice_get Ps k ≡ Some B
param-at param_here = refl
param-at (param_after i) = param-at i

types-append : (s d : List Step) → map (λ t. t.ty) (s ++ d) ≡ map (λ t. t.ty) s ++ map (λ t. t.ty) d
types-append [] d = refl
types-append (o ∷ s) d = ap (λ (Ts : List TypeTree). o.ty ∷ Ts) (types-append s d)

step-type : (us : List Step) (t : Step) (vs : List Step) → slice_get (map (λ t. t.ty) (us ++ t ∷ vs)) (length us) ≡ Some t.ty
step-type [] t vs = refl
step-type (u ∷ us) t vs = step-type us t vs

module _ (n : TypeTree → ℕ) (few : (T : TypeTree) → n T < 2 ^ 32) (F : ℕ → Linked) (H : TypeTree → ℕ) (Ps : List TypeTree) (A : TypeTree) where
  compared-front : (Ts : List TypeTree) (s d : List Step) → StepsCompared n F H Ts (s ++ d) → StepsCompared n F H Ts s
  compared-front Ts [] d w = tt
  compared-front Ts (o ∷ s) d w = (w.0, compared-front (Ts ++ o.ty ∷ []) s d w.1)

  compared-at : (Ts : List TypeTree) (us : List Step) (t : Step) (vs : List Step) → StepsCompared n F H Ts (us ++ t ∷ vs)
      → StepCompared n F H (Ts ++ map (λ t. t.ty) us) t.operation
  compared-at Ts [] t vs w = subst (λ Us. StepCompared n F H Us t.operation) (sym (append_none Ts)) w.0
    where
      append_none : (Ts : List TypeTree) → Ts ++ [] ≡ Ts
      append_none [] = refl
      append_none (T ∷ Ts) = ap (λ (Us : List TypeTree). T ∷ Us) (append_none Ts)
  compared-at Ts (u ∷ us) t vs w = subst (λ Us. StepCompared n F H Us t.operation) (append_assoc Ts (u.ty ∷ []) (map (λ t. t.ty) us)) (compared-at (Ts ++ u.ty ∷ []) us t vs w.1)

  steps-append : (Ts : List TypeTree) (s : List Step) (T : TypeTree) (o : Operation) → StepsTyped n (IsCompared n F H) Ps Ts s → OperationTyped n (IsCompared n F H) Ps (Ts ++ map (λ t. t.ty) s) o T
      → StepsTyped n (IsCompared n F H) Ps Ts (s ++ step T o ∷ [])
  steps-append Ts [] T o h k = (subst (λ Us. OperationTyped n (IsCompared n F H) Ps Us o T) (append-none Ts) k, tt)
    where
      append-none : (Ts : List TypeTree) → Ts ++ [] ≡ Ts
      append-none [] = refl
      append-none (T ∷ Ts) = ap (λ (Us : List TypeTree). T ∷ Us) (append-none Ts)
  steps-append Ts (u ∷ s) T o h k = (h.0, steps-append (Ts ++ u.ty ∷ []) s T o h.1 (subst (λ Us. OperationTyped n (IsCompared n F H) Ps Us o T) (sym (append_assoc Ts (u.ty ∷ []) (map (λ t. t.ty) s))) k))

  within-front : (s d : List Step) → ListsWithin n (s ++ d) → ListsWithin n s
  within-front [] d w = tt
  within-front (o ∷ s) d w = (w.0, within-front s d w.1)

  lists-at : (us : List Step) (t : Step) (vs : List Step) → ListsWithin n (us ++ t ∷ vs) → ListWithin n t.ty t.operation
  lists-at [] t vs w = w.0
  lists-at (u ∷ us) t vs w = lists-at us t vs w.1

  lists-by : (s : List Step) (T : TypeTree) (o : Operation) (p : LeafSteps) → IsPut s T o p → ListsWithin n p.0 → ListWithin n T o
  lists-by s T o p fresh w = lists-at s (step T o) [] w
  lists-by s T o p (again us vs is b) w = lists-at us (step T o) vs (subst (ListsWithin n) is w)

  abbrev pub Within : List Step → Type 0
  Within s = ListsWithin n s × StepsCompared n F H (A ∷ []) s

  within-before : (s t : List Step) → Follows s t → Within t → Within s
  within-before s t f w = (within-front s f.0 (subst (ListsWithin n) f.1 w.0), compared-front (A ∷ []) s f.0 (subst (StepsCompared n F H (A ∷ [])) f.1 w.1))

  within-put : (s : List Step) (T : TypeTree) (o : Operation) → Within (put s T o).0 → ListWithin n T o
  within-put s T o w = lists-by s T o (put s T o) (put-is s T o) w.0

  abbrev pub types_of : List Step → List TypeTree
  types_of s = A ∷ map (λ t. t.ty) s

  -- what a step compares
  compared-by : (s : List Step) (T : TypeTree) (j k : ℕ) (p : LeafSteps) → IsPut s T (O.equal j k) p → StepsCompared n F H (A ∷ []) p.0
      → IsCompared n F H (get_or (types_of s) j unit_ty)
  compared-by s T j k p fresh w = compared-at (A ∷ []) s (step T (O.equal j k)) [] w
  compared-by s T j k p (again us vs is b) w =
      let l : j < suc (length us) = ltb-true j (suc (length us)) (and-left (ltb j (suc (length us))) _ b) in
      let m : length (map (λ t. t.ty) us) ≡ length us = length-map us (λ t. t.ty) in
      subst (IsCompared n F H)
      (sym (get-front (types_of us) (T ∷ map (λ t. t.ty) vs) j unit_ty (omega (arith, l, m)))
      ∙ ap (λ (Ts : List TypeTree). get_or (A ∷ Ts) j unit_ty) (sym (types-append us (step T (O.equal j k) ∷ vs)))
      ∙ ap (λ u. get_or (types_of u) j unit_ty) (sym is))
      (compared-at (A ∷ []) us (step T (O.equal j k)) vs (subst (StepsCompared n F H (A ∷ [])) is w))

  compared-put : (s : List Step) (T : TypeTree) (j k : ℕ) → Within (put s T (O.equal j k)).0 → IsCompared n F H (get_or (types_of s) j unit_ty)
  compared-put s T j k w = compared-by s T j k (put s T (O.equal j k)) (put-is s T (O.equal j k)) w.1

  abbrev pub Good : List Step → Type 0
  Good s = StepsTyped n (IsCompared n F H) Ps (A ∷ []) s

  -- register k is there, and has the type
  pub record At (s : List Step) (k : ℕ) (B : TypeTree) : Type 0 where
    pub at : slice_get (types_of s) k ≡ Some B

  pub ty-of : {s : List Step} {k : ℕ} {B : TypeTree} → At s k B → type_at A s k ≡ B
  ty-of {s = s} {k = k} {B = B} h = get_or_from_slice_get (types_of s) k B unit_ty h.at

  holds-of : (s : List Step) (k : ℕ) (B : TypeTree) → At s k B → Holds [] unit s k (register (after [] unit s) k)
  holds-of s k B h =
      let l : k < length (types_of s) = slice_get_within (types_of s) k B h.at in
      let m : length (map (λ t. t.ty) s) ≡ length s = length-map s (λ t. t.ty) in
      (omega arith, refl)

  typed-later : (s t : List Step) (k : ℕ) (B : TypeTree) → Follows s t → At s k B → At t k B
  typed-later s t k B f h =
      record { at = ap (λ u. slice_get (types_of u) k) f.1 ∙ ap (λ (Ts : List TypeTree). slice_get (A ∷ Ts) k) (types-append s f.0) ∙ get-before (types_of s) (map (λ t. t.ty) f.0) k B h.at }

  abbrev pub Sound : LeafSteps → TypeTree → Type 0
  Sound p B = Good p.0 × At p.0 p.1 B

  sound-by : (s : List Step) (T : TypeTree) (o : Operation) (B : TypeTree) (p : LeafSteps) → IsPut s T o p → Good s → T ≡ B
      → OperationTyped n (IsCompared n F H) Ps (types_of s) o B → Sound p B
  sound-by s T o B p fresh g e h =
      (steps-append (A ∷ []) s T o g (subst (OperationTyped n (IsCompared n F H) Ps (types_of s) o) (sym e) h), record { at = step-type s (step T o) [] ∙ ap (λ U. Some U) e })
  sound-by s T o B p (again us vs is b) g e h =
      (g, record { at = ap (λ u. slice_get (types_of u) (suc (length us))) is ∙ step-type us (step T o) vs ∙ ap (λ U. Some U) e })

  put-sound : (s : List Step) (T : TypeTree) (o : Operation) (B : TypeTree) → Good s → T ≡ B → OperationTyped n (IsCompared n F H) Ps (types_of s) o B → Sound (put s T o) B
  put-sound s T o B g e h = sound-by s T o B (put s T o) (put-is s T o) g e h

  follows-emit : (e : Expression) (x : ℕ) (s : List Step) (X : TypeTree) → At s x X → Follows s (emit Ps A e x s).0
  follows-emit e x s X h = (emit-gives [] unit Ps A e x s _ (holds-of s x X h)).0

  abbrev IsSound : Expression → ℕ → TypeTree → TypeTree → Type 0
  IsSound e x X B = (s : List Step) → Good s → At s x X → Within (emit Ps A e x s).0 → Sound (emit Ps A e x s) B

  abbrev AllTyped : List Step → List ℕ → TypeTree → Type 0
  AllTyped s [] T = Unit {0}
  AllTyped s (k ∷ ks) T = At s k T × AllTyped s ks T

  all-of : (s : List Step) (ks : List ℕ) (T : TypeTree) → AllTyped s ks T → AllOf (types_of s) T ks
  all-of s [] T h = none_of
  all-of s (k ∷ ks) T h = one_of h.0.at (all-of s ks T h.1)

  list-op : {Ts : List TypeTree} (ks : List ℕ) (T : TypeTree) → AllOf Ts T ks → length ks ≤ n T → OperationTyped n (IsCompared n F H) Ps Ts (O.list ks) (list_ty T)
  list-op ks T h l = let f : n T < 2 ^ 32 = few T in list_op h l (omega arith)

  one-sound : (e : Expression) (x : ℕ) (s : List Step) (X B C : TypeTree) (T : TypeTree) (o : Operation) → IsSound e x X B → Good s → At s x X
      → let p : LeafSteps = emit Ps A e x s in
      Within (put p.0 T o).0
      → (At p.0 p.1 B → (T ≡ C) × OperationTyped n (IsCompared n F H) Ps (types_of p.0) o C)
      → Sound (put p.0 T o) C
  one-sound e x s X B C T o f g h w k =
      let p : LeafSteps = emit Ps A e x s in
      let hp : Sound p B = f s g h (within-before p.0 _ (follows-put p.0 T o) w) in
      let r : (T ≡ C) × OperationTyped n (IsCompared n F H) Ps (types_of p.0) o C = k hp.1 in
      put-sound p.0 T o C hp.0 r.0 r.1

  two-sound : (a b : Expression) (x : ℕ) (s : List Step) (X B C D : TypeTree) (T : TypeTree) (o : Operation) → IsSound a x X B → IsSound b x X C
      → Good s → At s x X
      → let p : LeafSteps = emit Ps A a x s in let q : LeafSteps = emit Ps A b x p.0 in
      Within (put q.0 T o).0
      → (At q.0 p.1 B → At q.0 q.1 C → (T ≡ D) × OperationTyped n (IsCompared n F H) Ps (types_of q.0) o D)
      → Sound (put q.0 T o) D
  two-sound a b x s X B C D T o fa fb g h w k =
      let p : LeafSteps = emit Ps A a x s in
      let q : LeafSteps = emit Ps A b x p.0 in
      let fp : Follows s p.0 = follows-emit a x s X h in
      let hx : At p.0 x X = typed-later s p.0 x X fp h in
      let fq : Follows p.0 q.0 = follows-emit b x p.0 X hx in
      let wq : Within q.0 = within-before q.0 _ (follows-put q.0 T o) w in
      let hp : Sound p B = fa s g h (within-before p.0 q.0 fq wq) in
      let hq : Sound q C = fb p.0 hp.0 hx wq in
      let r : (T ≡ D) × OperationTyped n (IsCompared n F H) Ps (types_of q.0) o D = k (typed-later p.0 q.0 p.1 B fq hp.1) hq.1 in
      put-sound q.0 T o D hq.0 r.0 r.1

  three-sound : (a b c : Expression) (x : ℕ) (s : List Step) (X B C D E : TypeTree) (T : TypeTree) (o : Operation)
      → IsSound a x X B → IsSound b x X C → IsSound c x X D → Good s → At s x X
      → let p : LeafSteps = emit Ps A a x s in let q : LeafSteps = emit Ps A b x p.0 in let r : LeafSteps = emit Ps A c x q.0 in
      Within (put r.0 T o).0
      → (At r.0 p.1 B → At r.0 q.1 C → At r.0 r.1 D → (T ≡ E) × OperationTyped n (IsCompared n F H) Ps (types_of r.0) o E)
      → Sound (put r.0 T o) E
  three-sound a b c x s X B C D E T o fa fb fc g h w k =
      let p : LeafSteps = emit Ps A a x s in
      let q : LeafSteps = emit Ps A b x p.0 in
      let r : LeafSteps = emit Ps A c x q.0 in
      let fp : Follows s p.0 = follows-emit a x s X h in
      let hx : At p.0 x X = typed-later s p.0 x X fp h in
      let fq : Follows p.0 q.0 = follows-emit b x p.0 X hx in
      let hy : At q.0 x X = typed-later p.0 q.0 x X fq hx in
      let fr : Follows q.0 r.0 = follows-emit c x q.0 X hy in
      let wr : Within r.0 = within-before r.0 _ (follows-put r.0 T o) w in
      let wq : Within q.0 = within-before q.0 r.0 fr wr in
      let hp : Sound p B = fa s g h (within-before p.0 q.0 fq wq) in
      let hq : Sound q C = fb p.0 hp.0 hx wq in
      let hr : Sound r D = fc q.0 hq.0 hy wr in
      let z : (T ≡ E) × OperationTyped n (IsCompared n F H) Ps (types_of r.0) o E =
      k (typed-later p.0 r.0 p.1 B (follows-trans p.0 q.0 r.0 fq fr) hp.1) (typed-later q.0 r.0 q.1 C fr hq.1) hr.1 in
      put-sound r.0 T o E hr.0 z.0 z.1

  then-sound : (f k : Expression) (x : ℕ) (s : List Step) (X C B : TypeTree) → IsSound f x X C → ((y : ℕ) → IsSound k y C B) → Good s → At s x X
      → Within (emit Ps A (then_expr f k) x s).0 → Sound (emit Ps A (then_expr f k) x s) B
  then-sound f k x s X C B i j g h w =
      let p : LeafSteps = emit Ps A f x s in
      let hold : Holds [] unit p.0 p.1 (value_of f [] (register (after [] unit s) x)) = (emit-gives [] unit Ps A f x s _ (holds-of s x X h)).1 in
      let fk : Follows p.0 (emit Ps A k p.1 p.0).0 = (emit-gives [] unit Ps A k p.1 p.0 _ hold).0 in
      let hp : Sound p C = i s g h (within-before p.0 _ fk w) in
      j p.1 p.0 hp.0 hp.1 w

  on-sound : (f d b : Expression) (x : ℕ) (s : List Step) (X V B : TypeTree) → IsSound f x X (event_ty V) → IsSound d x X B
      → ((y : ℕ) → IsSound b y (pair_ty X V) B) → Good s → At s x X
      → Within (emit Ps A (on f d b) x s).0 → Sound (emit Ps A (on f d b) x s) B
  on-sound f d b x s X V B jf jd jb g h w =
      let p : LeafSteps = emit Ps A f x s in
      let q : LeafSteps = emit Ps A d x p.0 in
      let T : TypeTree = carried_type (type_at A q.0 p.1) in
      let c : LeafSteps = put q.0 T (O.carried p.1) in
      let i : LeafSteps = beside_carried A p.1 x q.0 in
      let r : LeafSteps = emit Ps A b i.1 i.0 in
      let k : LeafSteps = put r.0 bool_ty (O.is_event p.1) in
      let fp : Follows s p.0 = follows-emit f x s X h in
      let hx : At p.0 x X = typed-later s p.0 x X fp h in
      let fq : Follows p.0 q.0 = follows-emit d x p.0 X hx in
      let hold : Holds [] unit i.0 i.1 (operation_value (pair_ty (type_at A c.0 x) (type_at A c.0 c.1)) [] (register (after [] unit c.0)) (O.pair x c.1)) = (put-gives [] unit c.0 _ _ _ refl).1 in
      let fc : Follows q.0 c.0 = follows-put q.0 T (O.carried p.1) in
      let fi : Follows c.0 i.0 = follows-put c.0 _ _ in
      let fr : Follows i.0 r.0 = (emit-gives [] unit Ps A b i.1 i.0 _ hold).0 in
      let fk : Follows r.0 k.0 = follows-put r.0 _ _ in
      let wk : Within k.0 = within-before k.0 _ (follows-put k.0 _ _) w in
      let wr : Within r.0 = within-before r.0 k.0 fk wk in
      let wi : Within i.0 = within-before i.0 r.0 fr wr in
      let wq : Within q.0 = within-before q.0 c.0 fc (within-before c.0 i.0 fi wi) in
      let hp : Sound p (event_ty V) = jf s g h (within-before p.0 q.0 fq wq) in
      let hq : Sound q B = jd p.0 hp.0 hx wq in
      let he : At q.0 p.1 (event_ty V) = typed-later p.0 q.0 p.1 (event_ty V) fq hp.1 in
      let te : T ≡ V = ap carried_type (ty-of he) in
      let hc : Sound c V = put-sound q.0 T (O.carried p.1) V hq.0 te (carried_op he.at) in
      let hy : At c.0 x X = typed-later p.0 c.0 x X (follows-trans p.0 q.0 c.0 fq fc) hx in
      let hi : Sound i (pair_ty X V) = put-sound c.0 _ _ (pair_ty X V) hc.0 (ap₂ pair_ty (ty-of hy) (ty-of hc.1)) (pair_op hy.at hc.1.at) in
      let hr : Sound r B = jb i.1 i.0 hi.0 hi.1 wr in
      let hk : Sound k bool_ty = put-sound r.0 bool_ty (O.is_event p.1) bool_ty hr.0 refl (is_event_op (typed-later q.0 r.0 p.1 (event_ty V) (follows-trans q.0 i.0 r.0 (follows-trans q.0 c.0 i.0 fc fi) fr) he).at) in
      let fqr : Follows q.0 r.0 = follows-trans q.0 i.0 r.0 (follows-trans q.0 c.0 i.0 fc fi) fr in
      let hd : At k.0 q.1 B = typed-later q.0 k.0 q.1 B (follows-trans q.0 r.0 k.0 fqr fk) hq.1 in
      put-sound k.0 _ _ B hk.0 (ty-of hd) (choose_op hk.1.at (typed-later r.0 k.0 r.1 B fk hr.1).at hd.at)

  mutual
    pub sound : (e : Expression) (x : ℕ) (X B : TypeTree) → ExpressionTyped e Ps X B → IsSound e x X B
    sound e x X B input_typed s g h w = (g, h)
    sound e x X B (param_typed i) s g h w = put-sound s _ _ B g (param-type i) (param_op (param-at i))
    sound e x X B unit_typed s g h w = put-sound s _ _ B g refl unit_op
    sound e x X B bool_typed s g h w = put-sound s _ _ B g refl bool_op
    sound e x X B (int_typed f) s g h w = put-sound s _ _ B g refl (int_op f)
    sound e x X B (pair_typed {B = C} {C = D} {a = a} {b = b} i j) s g h w =
        two-sound a b x s X C D B _ _ (sound a x X C i) (sound b x X D j) g h w (λ p q. (ap₂ pair_ty (ty-of p) (ty-of q), pair_op p.at q.at))
    sound e x X B (fst_typed {C = C} {e = f} i) s g h w =
        one-sound f x s X _ B _ _ (sound f x X _ i) g h w (λ p. (ap left_type (ty-of p), left_op p.at))
    sound e x X B (snd_typed {B = C} {e = f} i) s g h w =
        one-sound f x s X _ B _ _ (sound f x X _ i) g h w (λ p. (ap right_type (ty-of p), right_op p.at))
    sound e x X B (then_typed {B = C} {f = f} {g = k} i j) s g h w =
        then-sound f k x s X C B (sound f x X C i) (λ y. sound k y C B j) g h w
    sound e x X B (neg_typed {a = a} i) s g h w = one-sound a x s X _ B _ _ (sound a x X _ i) g h w (λ p. (refl, neg_op p.at))
    sound e x X B (add_typed {a = a} {b = b} i j) s g h w = two-sound a b x s X _ _ B _ _ (sound a x X _ i) (sound b x X _ j) g h w (λ p q. (refl, add_op p.at q.at))
    sound e x X B (sub_typed {a = a} {b = b} i j) s g h w = two-sound a b x s X _ _ B _ _ (sound a x X _ i) (sound b x X _ j) g h w (λ p q. (refl, sub_op p.at q.at))
    sound e x X B (mul_typed {a = a} {b = b} i j) s g h w = two-sound a b x s X _ _ B _ _ (sound a x X _ i) (sound b x X _ j) g h w (λ p q. (refl, mul_op p.at q.at))
    sound e x X B (less_typed {a = a} {b = b} i j) s g h w = two-sound a b x s X _ _ B _ _ (sound a x X _ i) (sound b x X _ j) g h w (λ p q. (refl, less_op p.at q.at))
    sound e x X B (equal_typed {B = C} {a = a} {b = b} i j) s g h w = two-sound a b x s X _ _ B _ _ (sound a x X _ i) (sound b x X _ j) g h w (λ p q. (refl, equal_op p.at q.at (subst (IsCompared n F H) (ty-of p) (compared-put (emit Ps A b x (emit Ps A a x s).0).0 bool_ty (emit Ps A a x s).1 (emit Ps A b x (emit Ps A a x s).0).1 w))))
    sound e x X B (not_typed {a = a} i) s g h w = one-sound a x s X _ B _ _ (sound a x X _ i) g h w (λ p. (refl, not_op p.at))
    sound e x X B (and_typed {a = a} {b = b} i j) s g h w = two-sound a b x s X _ _ B _ _ (sound a x X _ i) (sound b x X _ j) g h w (λ p q. (refl, and_op p.at q.at))
    sound e x X B (or_typed {a = a} {b = b} i j) s g h w = two-sound a b x s X _ _ B _ _ (sound a x X _ i) (sound b x X _ j) g h w (λ p q. (refl, or_op p.at q.at))
    sound e x X B (if_typed {c = c} {a = a} {b = b} i j k) s g h w =
        three-sound c a b x s X _ B B B _ _ (sound c x X _ i) (sound a x X B j) (sound b x X B k) g h w (λ p q r. (ty-of q, choose_op p.at q.at r.at))
    sound e x X B no_event_typed s g h w = put-sound s _ _ B g refl no_event_op
    sound e x X B (event_typed {B = C} {e = f} i) s g h w = one-sound f x s X C B _ _ (sound f x X C i) g h w (λ p. (ap event_ty (ty-of p), event_op p.at))
    sound e x X B (on_typed {V = V} {e = f} {d = d} {b = b} i j k) s g h w =
        on-sound f d b x s X V B (sound f x X _ i) (sound d x X B j) (λ y. sound b y (pair_ty X V) B k) g h w
    sound e x X B (list_typed {T = T} {es = es} i) s g h w =
        let p : List Step × List ℕ = emit_all Ps A es x s in
        let wp : Within p.0 = within-before p.0 _ (follows-put p.0 (list_ty T) (O.list p.1)) w in
        let hp : Good p.0 × AllTyped p.0 p.1 T = all-sound es x X T i s g h wp in
        put-sound p.0 _ _ B hp.0 refl (list-op p.1 T (all-of p.0 p.1 T hp.1) (within-put p.0 (list_ty T) (O.list p.1) w))
    sound e x X B (nth_typed {e = f} {i = m} {d = d} i j k) s g h w =
        three-sound f m d x s X _ _ B B _ _ (sound f x X _ i) (sound m x X _ j) (sound d x X B k) g h w (λ p q r. (ty-of r, nth_op p.at q.at r.at))
    sound e x X B (len_typed {e = f} i) s g h w = one-sound f x s X _ B _ _ (sound f x X _ i) g h w (λ p. (refl, len_op p.at))

    all-sound : (es : Expressions) (x : ℕ) (X T : TypeTree) → ExpressionsTyped es Ps X T → (s : List Step) → Good s → At s x X
        → Within (emit_all Ps A es x s).0 → Good (emit_all Ps A es x s).0 × AllTyped (emit_all Ps A es x s).0 (emit_all Ps A es x s).1 T
    all-sound es x X T no_more_typed s g h w = (g, tt)
    all-sound es x X T (and_then_typed {e = e} {es = fs} i is) s g h w =
        let p : LeafSteps = emit Ps A e x s in
        let fp : Follows s p.0 = follows-emit e x s X h in
        let hx : At p.0 x X = typed-later s p.0 x X fp h in
        let r : List Step × List ℕ = emit_all Ps A fs x p.0 in
        let fr : Follows p.0 r.0 = (all-give [] unit Ps A fs x p.0 _ (holds-of p.0 x X hx)).0 in
        let hp : Sound p T = sound e x X T i s g h (within-before p.0 r.0 fr w) in
        let hr : Good r.0 × AllTyped r.0 r.1 T = all-sound fs x X T is p.0 hp.0 hx w in
        (hr.0, (typed-later p.0 r.0 p.1 T fr hp.1, hr.1))
