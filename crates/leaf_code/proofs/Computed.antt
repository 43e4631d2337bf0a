-- A step that was there already gives what a new one would.
use Rattle.std.proofs.Common.{◌≡◌, ◌≤◌, ◌<◌, ◌+◌, ◌-◌, ℕ, zero, suc, ℤ, pos, negsuc, neg_ℤ, ◌+ℤ◌, ◌-ℤ◌, ◌*ℤ◌, int_lt, Bool, true, false, not, ◌&&◌, ◌||◌, List, [], ◌∷◌, ◌++◌, length, get_or, take, drop, Option, Some, None, refl, sym, ap, ap₂, subst, ◌∙◌, arith, append_assoc, length-append}
use Rattle.std.specs.Prelude.{if◌then◌else◌, nat_eq, ltb}
use Rattle.std.proofs.lemmas.Bool.{ltb-true, eqb-true}
use Rattle.std.proofs.lemmas.Bool.Decides.{Decides-int_eq}
use Rattle.sample_core.specs.Datum.{Datum, bool, pair, event, left, right, int_of}
use Rattle.sample_core.specs.TypeTree.{TypeTree}
use Rattle.leaf_core.specs.TypeLimits.{same_tree}
use Rattle.leaf_core.specs.ExpressionValue.{same_datum, is_true, choose, wrap, element_at, count_of}
use Rattle.leaf_core.proofs.Exactness.{Decides-same_tree}
use Rattle.leaf_code.specs.Operation.{Operation}
use Rattle.leaf_code.specs.Operation as O
use Rattle.leaf_code.specs.Running.{Step, step, zero_of, is_event, carried_or, operation_value, LeafSteps}
use Rattle.leaf_code.specs.declared.key.Key.{Key}
use Rattle.leaf_code.specs.Keys.{key_of, same_key, has_key, reads_below, is_computed, register_of}
use Rattle.leaf_code.specs.CodeOf.{recent_steps, computed, or_more, put}

pub and-left : (a b : Bool) → (a && b) ≡ true → a ≡ true
and-left true b e = refl
and-left false b e = e

and-right : (a b : Bool) → (a && b) ≡ true → b ≡ true
and-right true b e = e
and-right false b e = absurd (cc)

abbrev natural : ℤ → ℕ
natural (pos n) = n
natural (negsuc n) = n

-- the operation that has a key
abbrev operation_in : ℕ → ℕ → ℕ → ℕ → ℤ → Operation
operation_in o i j k z =
    get_or (O.param (natural z)
    ∷ O.unit
    ∷ O.bool false
    ∷ O.bool true
    ∷ O.int z
    ∷ O.pair i j
    ∷ O.left i
    ∷ O.right i
    ∷ O.neg i
    ∷ O.add i j
    ∷ O.sub i j
    ∷ O.mul i j
    ∷ O.less i j
    ∷ O.equal i j
    ∷ O.not i
    ∷ O.and i j
    ∷ O.or i j
    ∷ O.choose i j k
    ∷ O.no_event
    ∷ O.event i
    ∷ O.is_event i
    ∷ O.carried i
    ∷ O.nth i j k
    ∷ O.len i
    ∷ []) o O.unit

abbrev operation_with : Option Key → Operation
operation_with None = O.unit
operation_with (Some k) = operation_in k.operation k.first k.second k.third k.number

known : (o : Operation) (k : Key) → key_of o ≡ Some k → operation_with (key_of o) ≡ o
known (O.param j) k e = refl
known O.unit k e = refl
known (O.bool true) k e = refl
known (O.bool false) k e = refl
known (O.int z) k e = refl
known (O.pair i j) k e = refl
known (O.left i) k e = refl
known (O.right i) k e = refl
known (O.neg i) k e = refl
known (O.add i j) k e = refl
known (O.sub i j) k e = refl
known (O.mul i j) k e = refl
known (O.less i j) k e = refl
known (O.equal i j) k e = refl
known (O.not i) k e = refl
known (O.and i j) k e = refl
known (O.or i j) k e = refl
known (O.choose c i j) k e = refl
known O.no_event k e = refl
known (O.event i) k e = refl
known (O.is_event i) k e = refl
known (O.carried i) k e = refl
known (O.list js) k e = absurd (cc)
known (O.nth i j d) k e = refl
known (O.len i) k e = refl

of-five : {X : Type 0} (f : ℕ → ℕ → ℕ → ℕ → ℤ → X) (a b c d i j k l : ℕ) (y z : ℤ)
    → a ≡ i → b ≡ j → c ≡ k → d ≡ l → y ≡ z → f a b c d y ≡ f i j k l z
of-five f a b c d i j k l y z p q r s t = cc

-- a key is of one operation
one-key : (j k : Key) → same_key j k ≡ true → operation_with (Some j) ≡ operation_with (Some k)
one-key j k e =
    let a = and-left (nat_eq j.operation k.operation) _ e in
    let b = and-right (nat_eq j.operation k.operation) _ e in
    let c = and-right (nat_eq j.first k.first) _ b in
    let d = and-right (nat_eq j.second k.second) _ c in
    of-five operation_in _ _ _ _ _ _ _ _ _ _
    (eqb-true j.operation k.operation a)
    (eqb-true j.first k.first (and-left (nat_eq j.first k.first) _ b))
    (eqb-true j.second k.second (and-left (nat_eq j.second k.second) _ c))
    (eqb-true j.third k.third (and-left (nat_eq j.third k.third) _ d))
    ((Decides-int_eq j.number k.number).0 (and-right (nat_eq j.third k.third) _ d))

one-operation : (o p : Operation) (q : Option Key) (k : Key) → key_of o ≡ q → has_key k q ≡ true → key_of p ≡ Some k → o ≡ p
one-operation o p None k e h f = absurd (cc)
one-operation o p (Some j) k e h f =
    sym (known o j e) ∙ ap operation_with e ∙ one-key j k h ∙ sym (ap operation_with f) ∙ known p k f

-- whether an operation has a key, whose registers are below m
abbrev pub reads : ℕ → Option Key → Bool
reads m None = false
reads m (Some k) = reads_below m k

-- registers that are the same below m
module _ (T : TypeTree) (ps : List Datum) (r q : ℕ → Datum) (m : ℕ) (same : (j : ℕ) → j < m → r j ≡ q j) where
  first : (i : ℕ) (b : Bool) → (ltb i m && b) ≡ true → r i ≡ q i
  first i b e = same i (ltb-true i m (and-left (ltb i m) b e))

  second : (i j : ℕ) (b : Bool) → (ltb i m && (ltb j m && b)) ≡ true → r j ≡ q j
  second i j b e = first j b (and-right (ltb i m) _ e)

  third : (i j k : ℕ) → (ltb i m && (ltb j m && ltb k m)) ≡ true → r k ≡ q k
  third i j k e = same k (ltb-true k m (and-right (ltb j m) _ (and-right (ltb i m) _ e)))

  -- an operation of these alone gives the same
  pub value-same : (o : Operation) → reads m (key_of o) ≡ true → operation_value T ps r o ≡ operation_value T ps q o
  value-same (O.param j) e = refl
  value-same O.unit e = refl
  value-same (O.bool true) e = refl
  value-same (O.bool false) e = refl
  value-same (O.int z) e = refl
  value-same (O.pair i j) e = ap₂ pair (first i _ e) (second i j _ e)
  value-same (O.left i) e = ap left (first i _ e)
  value-same (O.right i) e = ap right (first i _ e)
  value-same (O.neg i) e = ap (λ u. wrap (neg_ℤ (int_of u))) (first i _ e)
  value-same (O.add i j) e = ap₂ (λ (u w : Datum). wrap (int_of u +ℤ int_of w)) (first i _ e) (second i j _ e)
  value-same (O.sub i j) e = ap₂ (λ (u w : Datum). wrap (int_of u -ℤ int_of w)) (first i _ e) (second i j _ e)
  value-same (O.mul i j) e = ap₂ (λ (u w : Datum). wrap (int_of u *ℤ int_of w)) (first i _ e) (second i j _ e)
  value-same (O.less i j) e = ap₂ (λ (u w : Datum). bool (int_lt (int_of u) (int_of w))) (first i _ e) (second i j _ e)
  value-same (O.equal i j) e = ap₂ (λ (u w : Datum). bool (same_datum u w)) (first i _ e) (second i j _ e)
  value-same (O.not i) e = ap (λ u. bool (not (is_true u))) (first i _ e)
  value-same (O.and i j) e = ap₂ (λ (u w : Datum). bool (is_true u && is_true w)) (first i _ e) (second i j _ e)
  value-same (O.or i j) e = ap₂ (λ (u w : Datum). bool (is_true u || is_true w)) (first i _ e) (second i j _ e)
  value-same (O.choose c i j) e =
      ap₂ (λ (u w : Datum). choose (is_true u) w (r j)) (first c _ e) (second c i _ e)
      ∙ ap (choose (is_true (q c)) (q i)) (third c i j e)
  value-same O.no_event e = refl
  value-same (O.event i) e = ap event (first i _ e)
  value-same (O.is_event i) e = ap (λ u. bool (is_event u)) (first i _ e)
  value-same (O.carried i) e = ap (carried_or (zero_of T)) (first i _ e)
  value-same (O.list js) e = absurd (cc)
  value-same (O.nth i j d) e =
      ap₂ (λ (u w : Datum). element_at u (int_of w) (r d)) (first i _ e) (second i j _ e)
      ∙ ap (element_at (q i) (int_of (q j))) (third i j d e)
  value-same (O.len i) e = ap (λ u. wrap (pos (count_of u))) (first i _ e)

-- a step among steps, of which the first sets register m
record Among (T : TypeTree) (k : Key) (m : ℕ) (ss : List Step) (j : ℕ) : Type 0 where
  before : List Step
  found : Step
  behind : List Step
  is : ss ≡ before ++ found ∷ behind
  at : j ≡ m + length before
  gives : is_computed j T k found ≡ true

some-same : {A : Type 0} (x y : A) → Some x ≡ Some y → x ≡ y
some-same x y e = cc

among-by : (T : TypeTree) (k : Key) (m : ℕ) (s : Step) (ss : List Step) (j : ℕ) (b : Bool)
    → (register_of T k (suc m) ss ≡ Some j → Among T k (suc m) ss j) → is_computed m T k s ≡ b
    → (if b then Some m else register_of T k (suc m) ss) ≡ Some j → Among T k m (s ∷ ss) j
among-by T k m s ss j true rest h e =
    let i : m ≡ j = some-same m j e in
    record { before = []; found = s; behind = ss; is = refl; at = omega (arith, i); gives = ap (λ l. is_computed l T k s) (sym i) ∙ h }
among-by T k m s ss j false rest h e =
    let r = rest e in
    let a = r.at in
    record {
      before = s ∷ r.before;
      found = r.found;
      behind = r.behind;
      is = ap (λ (u : List Step). s ∷ u) r.is;
      at = omega (arith, a);
      gives = r.gives;
    }

among : (T : TypeTree) (k : Key) (m : ℕ) (ss : List Step) (j : ℕ) → register_of T k m ss ≡ Some j → Among T k m ss j
among T k m [] j e = absurd (cc)
among T k m (s ∷ ss) j e = among-by T k m s ss j (is_computed m T k s) (λ f. among T k (suc m) ss j f) refl e

-- what `put` makes of steps: a step more, or a register that has its value
pub data IsPut (s : List Step) (T : TypeTree) (o : Operation) : LeafSteps → Type 0 where
  fresh : IsPut s T o (s ++ step T o ∷ [], suc (length s))
  again : (us vs : List Step) → s ≡ us ++ step T o ∷ vs → reads (suc (length us)) (key_of o) ≡ true
      → IsPut s T o (s, suc (length us))

take-drop : (n : ℕ) (s : List Step) → s ≡ take n s ++ drop n s
take-drop zero s = refl
take-drop (suc n) [] = refl
take-drop (suc n) (t ∷ s) = ap (λ (u : List Step). t ∷ u) (take-drop n s)

take-length : (n : ℕ) (s : List Step) → n ≤ length s → length (take n s) ≡ n
take-length zero s l = refl
take-length (suc n) [] l = absurd (omega (arith, l))
take-length (suc n) (t ∷ s) l = ap suc (take-length n s (omega (arith, l)))

by-key : (s : List Step) (T : TypeTree) (o : Operation) (q : Option Key) (r : Option ℕ) → key_of o ≡ q → computed T s q ≡ r
    → IsPut s T o (or_more s (step T o) r)
by-key s T o q None e h = fresh
by-key s T o None (Some j) e h = absurd (cc)
by-key s T o (Some k) (Some j) e h =
    let n : ℕ = length s - recent_steps in
    let a = among T k (suc n) (drop n s) j h in
    let t : Step = a.found in
    let us : List Step = take n s ++ a.before in
    let g = a.gives in
    let x : t.operation ≡ o = one-operation t.operation o (key_of t.operation) k refl (and-left (has_key k (key_of t.operation)) _ g) e in
    let y = and-right (has_key k (key_of t.operation)) _ g in
    let z : t.ty ≡ T = (Decides-same_tree t.ty T).0 (and-left (same_tree t.ty T) _ y) in
    let w : t ≡ step T o = ap₂ step z x in
    let l : length (take n s) ≡ n = take-length n s (omega arith) in
    let m : length us ≡ length (take n s) + length a.before = length-append (take n s) a.before in
    let at = a.at in
    let i : j ≡ suc (length us) = omega (arith, at, l, m) in
    let is : s ≡ us ++ step T o ∷ a.behind =
    take-drop n s ∙ ap (λ u. take n s ++ u) a.is ∙ sym (append_assoc (take n s) a.before (t ∷ a.behind))
    ∙ ap (λ (u : Step). us ++ u ∷ a.behind) w in
    let b : reads (suc (length us)) (key_of o) ≡ true =
    ap (reads (suc (length us))) e ∙ ap (λ l. reads_below l k) (sym i) ∙ and-right (same_tree t.ty T) _ y in
    subst (λ l. IsPut s T o (s, l)) (sym i) (again us a.behind is b)

pub put-is : (s : List Step) (T : TypeTree) (o : Operation) → IsPut s T o (put s T o)
unfolding put
put-is s T o = by-key s T o (key_of o) (computed T s (key_of o)) refl refl
