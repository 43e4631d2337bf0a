-- The parts of a typed expression are typed, and it keeps its type where a part is another of that type.
use Rattle.std.proofs.Common.{◌≡◌, ℕ, zero, suc, List, [], ◌∷◌, Option, Some, None, IfSome, true, false, refl, sym, ap, subst, ◌∙◌}
use Rattle.std.specs.Option.{option_map, option_and_then}
use Rattle.std.specs.Result.{result_ok}
use Rattle.sample_core.specs.TypeTree.{TypeTree, pair_ty, event_ty, list_ty}
use Rattle.leaf_core.specs.Expression.{Expression, Expressions, no_more, and_then, pair_expr, fst, snd, then_expr, neg, add, sub, mul, less, equal, not_expr, and_expr, or_expr, if_expr, event_expr, bool_expr, on, list_expr, nth, len}
use Rattle.leaf_core.specs.ExpressionTyping.{ExpressionTyped, ExpressionsTyped, bool_typed, pair_typed, fst_typed, snd_typed, then_typed, neg_typed, add_typed, sub_typed, mul_typed, less_typed, equal_typed, not_typed, and_typed, or_typed, if_typed, event_typed, on_typed, list_typed, nth_typed, len_typed, no_more_typed, and_then_typed}
use Rattle.leaf_core.specs.ExpressionLimits.{Within, AllWithin}
use Rattle.leaf_core.specs.Inside.{many}
use Rattle.leaf_core.specs.Parts.{element, with_element, refilled, part, with_part, part_at, with_part_at, HasInputOfWhole, PartInput, behind_first, with_event, as_whole, InputAt, input_here, input_inside}
use Rattle.leaf_core.specs.PartWalk.{with_carried, part_input, part_type_at}
use Rattle.leaf_core.proofs.Exactness.{walk-complete}
use Rattle.leaf_core.proofs.Uniqueness.{one_type}

-- part k of an expression of type B, which gets an A: the type of what it gets and its own, within the limits; another of that type leaves the whole a B
pub record TypedPart (Ps : List TypeTree) (A B : TypeTree) (e : Expression) (k : ℕ) (c : Expression) : Type 0 where
  pub input : TypeTree
  pub gets : PartInput Ps A e k input
  pub found : part_input Ps A e k ≡ Some input
  pub output : TypeTree
  pub typed : ExpressionTyped c Ps input output
  pub fits : Within typed
  pub put : (s : Expression) → ExpressionTyped s Ps input output → IfSome (with_part e k s) (λ v. ExpressionTyped v Ps A B)

whole : {Ps : List TypeTree} {A B C : TypeTree} {e c : Expression} {k : ℕ} → HasInputOfWhole e k → part_input Ps A e k ≡ Some A → (d : ExpressionTyped c Ps A C) → Within d
    → ((s : Expression) → ExpressionTyped s Ps A C → IfSome (with_part e k s) (λ v. ExpressionTyped v Ps A B)) → TypedPart Ps A B e k c
whole {A = A} {C = C} i f d w p = record { input = A; gets = as_whole i; found = f; output = C; typed = d; fits = w; put = p }

-- the elements of a list expression
element_typed : {Ps : List TypeTree} {A T : TypeTree} {es : Expressions} (ds : ExpressionsTyped es Ps A T) → AllWithin ds → (k : ℕ)
    → IfSome (element es k)
    (λ c. (d : ExpressionTyped c Ps A T) × Within d × ((s : Expression) → ExpressionTyped s Ps A T → IfSome (with_element es k s) (λ v. ExpressionsTyped v Ps A T)))
element_typed no_more_typed w k = tt
element_typed (and_then_typed d ds) w zero = (d, w.0, λ s h. and_then_typed h ds)
element_typed {Ps = Ps} {A = A} {T = T} (and_then_typed {e = e} {es = es} d ds) w (suc k) = go (element es k) (element_typed ds w.1 k)
  where
    put_on : (o : Option Expressions) → IfSome o (λ v. ExpressionsTyped v Ps A T) → IfSome (option_map (and_then e) o) (λ v. ExpressionsTyped v Ps A T)
    put_on None h = tt
    put_on (Some v) h = and_then_typed d h

    go : (o : Option Expression)
        → IfSome o
        (λ c. (d : ExpressionTyped c Ps A T) × Within d × ((s : Expression) → ExpressionTyped s Ps A T → IfSome (with_element es k s) (λ v. ExpressionsTyped v Ps A T)))
        → IfSome o
        (λ c. (d : ExpressionTyped c Ps A T) × Within d
        × ((s : Expression) → ExpressionTyped s Ps A T → IfSome (option_map (and_then e) (with_element es k s)) (λ v. ExpressionsTyped v Ps A T)))
    go None h = tt
    go (Some c) h = (h.0, h.1, λ s i. put_on (with_element es k s) (h.2 s i))

pub part_typed : {e : Expression} {Ps : List TypeTree} {A B : TypeTree} (d : ExpressionTyped e Ps A B) → Within d → (k : ℕ) → IfSome (part e k) (TypedPart Ps A B e k)
part_typed (pair_typed h i) w zero = whole tt refl h w.0 (λ s d. pair_typed d i)
part_typed (pair_typed h i) w (suc zero) = whole tt refl i w.1 (λ s d. pair_typed h d)
part_typed (fst_typed h) w zero = whole tt refl h w.0 (λ s d. fst_typed d)
part_typed (snd_typed h) w zero = whole tt refl h w.0 (λ s d. snd_typed d)
part_typed (then_typed h i) w zero = whole tt refl h w.0 (λ s d. then_typed d i)
part_typed (then_typed {B = B} {C = C} h i) w (suc zero) =
    record { input = B; gets = behind_first h; found = ap result_ok (walk-complete h w.0); output = C; typed = i; fits = w.1; put = λ s d. then_typed h d }
part_typed (neg_typed h) w zero = whole tt refl h w.0 (λ s d. neg_typed d)
part_typed (add_typed h i) w zero = whole tt refl h w.0 (λ s d. add_typed d i)
part_typed (add_typed h i) w (suc zero) = whole tt refl i w.1 (λ s d. add_typed h d)
part_typed (sub_typed h i) w zero = whole tt refl h w.0 (λ s d. sub_typed d i)
part_typed (sub_typed h i) w (suc zero) = whole tt refl i w.1 (λ s d. sub_typed h d)
part_typed (mul_typed h i) w zero = whole tt refl h w.0 (λ s d. mul_typed d i)
part_typed (mul_typed h i) w (suc zero) = whole tt refl i w.1 (λ s d. mul_typed h d)
part_typed (less_typed h i) w zero = whole tt refl h w.0 (λ s d. less_typed d i)
part_typed (less_typed h i) w (suc zero) = whole tt refl i w.1 (λ s d. less_typed h d)
part_typed (equal_typed h i) w zero = whole tt refl h w.0 (λ s d. equal_typed d i)
part_typed (equal_typed h i) w (suc zero) = whole tt refl i w.1 (λ s d. equal_typed h d)
part_typed (not_typed h) w zero = whole tt refl h w.0 (λ s d. not_typed d)
part_typed (and_typed h i) w zero = whole tt refl h w.0 (λ s d. and_typed d i)
part_typed (and_typed h i) w (suc zero) = whole tt refl i w.1 (λ s d. and_typed h d)
part_typed (or_typed h i) w zero = whole tt refl h w.0 (λ s d. or_typed d i)
part_typed (or_typed h i) w (suc zero) = whole tt refl i w.1 (λ s d. or_typed h d)
part_typed (if_typed h i j) w zero = whole tt refl h w.0 (λ s d. if_typed d i j)
part_typed (if_typed h i j) w (suc zero) = whole tt refl i w.1 (λ s d. if_typed h d j)
part_typed (if_typed h i j) w (suc (suc zero)) = whole tt refl j w.2 (λ s d. if_typed h i d)
part_typed (event_typed h) w zero = whole tt refl h w.0 (λ s d. event_typed d)
part_typed (on_typed h i j) w zero = whole tt refl h w.0 (λ s d. on_typed d i j)
part_typed (on_typed h i j) w (suc zero) = whole tt refl i w.1 (λ s d. on_typed h d j)
part_typed (on_typed {A = A} {C = C} {V = V} h i j) w (suc (suc zero)) =
    record {
      input = pair_ty A V;
      gets = with_event h;
      found = ap (λ r. option_and_then (with_carried A) (result_ok r)) (walk-complete h w.0);
      output = C;
      typed = j;
      fits = w.3;
      put = λ s d. on_typed h i d;
    }
part_typed {Ps = Ps} {A = A} (list_typed {T = T} {es = es} hs) w k = go (element es k) (element_typed hs w.1 k)
  where
    put_in : (o : Option Expressions) → IfSome o (λ v. ExpressionsTyped v Ps A T)
        → IfSome (option_map (refilled (list_expr T es)) (option_map (many T) o)) (λ v. ExpressionTyped v Ps A (list_ty T))
    put_in None h = tt
    put_in (Some v) h = list_typed h

    go : (o : Option Expression)
        → IfSome o
        (λ c. (d : ExpressionTyped c Ps A T) × Within d × ((s : Expression) → ExpressionTyped s Ps A T → IfSome (with_element es k s) (λ v. ExpressionsTyped v Ps A T)))
        → IfSome o (TypedPart Ps A (list_ty T) (list_expr T es) k)
    go None h = tt
    go (Some c) h = whole tt refl h.0 h.1 (λ s i. put_in (with_element es k s) (h.2 s i))
part_typed (nth_typed h i j) w zero = whole tt refl h w.0 (λ s d. nth_typed d i j)
part_typed (nth_typed h i j) w (suc zero) = whole tt refl i w.1 (λ s d. nth_typed h d j)
part_typed (nth_typed h i j) w (suc (suc zero)) = whole tt refl j w.2 (λ s d. nth_typed h i d)
part_typed (len_typed h) w zero = whole tt refl h w.0 (λ s d. len_typed d)
part_typed (bool_typed {b = false}) w k = tt
part_typed (bool_typed {b = true}) w k = tt
part_typed _ w k = tt

-- what a part gets is of one type
abbrev carried : TypeTree → TypeTree
carried (event_ty V) = V
carried A = A

one_part_input : {Ps : List TypeTree} {A B C : TypeTree} {e : Expression} {k : ℕ} → PartInput Ps A e k B → PartInput Ps A e k C → B ≡ C
one_part_input {Ps = Ps} {A = A} (behind_first {f = f} {B = B} h) (behind_first {B = C} i) = one_type f Ps A B C h i
one_part_input (behind_first h) (as_whole i) = absurd i
one_part_input {Ps = Ps} {A = A} (with_event {e = e} {V = V} h) (with_event {V = W} i) = ap (λ E. pair_ty A (carried E)) (one_type e Ps A (event_ty V) (event_ty W) h i)
one_part_input (with_event h) (as_whole i) = absurd i
one_part_input (as_whole i) (behind_first h) = absurd i
one_part_input (as_whole i) (with_event h) = absurd i
one_part_input (as_whole i) (as_whole j) = refl

-- with another part in its place, the part stands there, and gets the same
abbrev Kept : List TypeTree → TypeTree → Expression → ℕ → Expression → Type 0
Kept Ps A e k s = IfSome (with_part e k s) (λ v. (part v k ≡ Some s) × ((B : TypeTree) → PartInput Ps A e k B → PartInput Ps A v k B))

as_before : {Ps : List TypeTree} {A : TypeTree} {e v : Expression} {k : ℕ} → HasInputOfWhole e k → HasInputOfWhole v k → (B : TypeTree) → PartInput Ps A e k B
    → PartInput Ps A v k B
as_before i j B (behind_first h) = absurd i
as_before i j B (with_event h) = absurd i
as_before i j B (as_whole h) = as_whole j

element_there : (es : Expressions) (k : ℕ) (s : Expression) → IfSome (with_element es k s) (λ v. element v k ≡ Some s)
element_there no_more k s = tt
element_there (and_then e es) zero s = refl
element_there (and_then e es) (suc k) s = go (with_element es k s) (element_there es k s)
  where
    go : (o : Option Expressions) → IfSome o (λ v. element v k ≡ Some s) → IfSome (option_map (and_then e) o) (λ v. element v (suc k) ≡ Some s)
    go None h = tt
    go (Some v) h = h

kept : (Ps : List TypeTree) (A : TypeTree) (e : Expression) (k : ℕ) (s : Expression) → Kept Ps A e k s
kept Ps A (pair_expr a b) zero s = (refl, as_before tt tt)
kept Ps A (pair_expr a b) (suc zero) s = (refl, as_before tt tt)
kept Ps A (fst a) zero s = (refl, as_before tt tt)
kept Ps A (snd a) zero s = (refl, as_before tt tt)
kept Ps A (then_expr a b) zero s = (refl, as_before tt tt)
kept Ps A (then_expr a b) (suc zero) s = (refl, go)
  where
    go : (B : TypeTree) → PartInput Ps A (then_expr a b) 1 B → PartInput Ps A (then_expr a s) 1 B
    go B (behind_first h) = behind_first h
    go B (as_whole i) = absurd i
kept Ps A (neg a) zero s = (refl, as_before tt tt)
kept Ps A (add a b) zero s = (refl, as_before tt tt)
kept Ps A (add a b) (suc zero) s = (refl, as_before tt tt)
kept Ps A (sub a b) zero s = (refl, as_before tt tt)
kept Ps A (sub a b) (suc zero) s = (refl, as_before tt tt)
kept Ps A (mul a b) zero s = (refl, as_before tt tt)
kept Ps A (mul a b) (suc zero) s = (refl, as_before tt tt)
kept Ps A (less a b) zero s = (refl, as_before tt tt)
kept Ps A (less a b) (suc zero) s = (refl, as_before tt tt)
kept Ps A (equal a b) zero s = (refl, as_before tt tt)
kept Ps A (equal a b) (suc zero) s = (refl, as_before tt tt)
kept Ps A (not_expr a) zero s = (refl, as_before tt tt)
kept Ps A (and_expr a b) zero s = (refl, as_before tt tt)
kept Ps A (and_expr a b) (suc zero) s = (refl, as_before tt tt)
kept Ps A (or_expr a b) zero s = (refl, as_before tt tt)
kept Ps A (or_expr a b) (suc zero) s = (refl, as_before tt tt)
kept Ps A (if_expr a b c) zero s = (refl, as_before tt tt)
kept Ps A (if_expr a b c) (suc zero) s = (refl, as_before tt tt)
kept Ps A (if_expr a b c) (suc (suc zero)) s = (refl, as_before tt tt)
kept Ps A (event_expr a) zero s = (refl, as_before tt tt)
kept Ps A (on a b c) zero s = (refl, as_before tt tt)
kept Ps A (on a b c) (suc zero) s = (refl, as_before tt tt)
kept Ps A (on a b c) (suc (suc zero)) s = (refl, go)
  where
    go : (B : TypeTree) → PartInput Ps A (on a b c) 2 B → PartInput Ps A (on a b s) 2 B
    go B (with_event h) = with_event h
    go B (as_whole i) = absurd i
kept Ps A (list_expr T es) k s = go (with_element es k s) (element_there es k s)
  where
    go : (o : Option Expressions) → IfSome o (λ v. element v k ≡ Some s)
        → IfSome (option_map (refilled (list_expr T es)) (option_map (many T) o))
        (λ v. (part v k ≡ Some s) × ((B : TypeTree) → PartInput Ps A (list_expr T es) k B → PartInput Ps A v k B))
    go None h = tt
    go (Some v) h = (h, as_before tt tt)
kept Ps A (nth a b c) zero s = (refl, as_before tt tt)
kept Ps A (nth a b c) (suc zero) s = (refl, as_before tt tt)
kept Ps A (nth a b c) (suc (suc zero)) s = (refl, as_before tt tt)
kept Ps A (len a) zero s = (refl, as_before tt tt)
kept Ps A (bool_expr false) k s = tt
kept Ps A (bool_expr true) k s = tt
kept Ps A _ k s = tt

-- the one value of an option
pub value_is : {X : Type 0} (P : X → Type 0) {o : Option X} {x : X} → o ≡ Some x → IfSome o P → P x
value_is P e h = subst (λ o. IfSome o P) e h

nothing_is : {X : Type 0} {x : X} → None ≡ Some x → ⊥
nothing_is e = cc

one_part : {o : Option Expression} {a b : Expression} → o ≡ Some a → o ≡ Some b → a ≡ b
one_part e h = cc

-- what stands at a path: what it gets, and its type
pub record TypedThere (Ps : List TypeTree) (A : TypeTree) (e : Expression) (p : List ℕ) (c : Expression) : Type 0 where
  pub input : TypeTree
  pub gets : InputAt Ps A e p input
  pub output : TypeTree
  pub typed : ExpressionTyped c Ps input output
  pub found : part_type_at Ps A e p ≡ Some output

pub there_typed : {e : Expression} {Ps : List TypeTree} {A B : TypeTree} (d : ExpressionTyped e Ps A B) → Within d → (p : List ℕ) (c : Expression)
    → part_at e p ≡ Some c → TypedThere Ps A e p c
there_typed {e = e} {Ps = Ps} {A = A} {B = B} d w [] c q = record {
  input = A;
  gets = input_here;
  output = B;
  typed = subst (λ z. ExpressionTyped z Ps A B) (cc) d;
  found = ap result_ok (walk-complete d w);
}
there_typed {e = e} {Ps = Ps} {A = A} {B = B} d w (k ∷ p) c q =
    go (λ a t r. there_typed t.typed t.fits p c r) (part e k) refl (part_typed d w k) q
  where
    onward : (a : Expression) → part e k ≡ Some a → (t : TypedPart Ps A B e k a) → TypedThere Ps t.input a p c → TypedThere Ps A e (k ∷ p) c
    onward a j t u = record {
      input = u.input;
      gets = input_inside j t.gets u.gets;
      output = u.output;
      typed = u.typed;
      found = ap (option_and_then (λ z. option_and_then (λ C. part_type_at Ps C z p) (part_input Ps A e k))) j
          ∙ (ap (option_and_then (λ C. part_type_at Ps C a p)) t.found ∙ u.found);
    }

    go : ((a : Expression) (t : TypedPart Ps A B e k a) → part_at a p ≡ Some c → TypedThere Ps t.input a p c) → (o : Option Expression) → part e k ≡ o
        → IfSome o (TypedPart Ps A B e k) → option_and_then (λ z. part_at z p) o ≡ Some c → TypedThere Ps A e (k ∷ p) c
    go rest None j t r = absurd (nothing_is r)
    go rest (Some a) j t r = onward a j t (rest a t r)

-- nothing is found where nothing stands
pub nothing_there : (Ps : List TypeTree) (A : TypeTree) (e : Expression) (p : List ℕ) → part_at e p ≡ None → part_type_at Ps A e p ≡ None
nothing_there Ps A e [] q = absurd (cc)
nothing_there Ps A e (k ∷ p) q = go (λ B a r. nothing_there Ps B a p r) (part e k) (part_input Ps A e k) q
  where
    go : ((B : TypeTree) (a : Expression) → part_at a p ≡ None → part_type_at Ps B a p ≡ None) → (o : Option Expression) (i : Option TypeTree)
        → option_and_then (λ z. part_at z p) o ≡ None → option_and_then (λ z. option_and_then (λ C. part_type_at Ps C z p) i) o ≡ None
    go rest None i r = refl
    go rest (Some a) None r = refl
    go rest (Some a) (Some B) r = rest B a r

-- what a place gets is of one type
pub one_input : {Ps : List TypeTree} {A B C : TypeTree} {e : Expression} (p : List ℕ) → InputAt Ps A e p B → InputAt Ps A e p C → B ≡ C
one_input [] input_here input_here = refl
one_input {Ps = Ps} {A = A} {B = B} {C = C} {e = e} (k ∷ p) (input_inside {B = X} {c = a} j g r) (input_inside {B = Y} {c = b} i h s) =
    one_input {A = X} {e = a} p r
    (subst (λ Z. InputAt Ps Z a p C) (sym (one_part_input g h)) (subst (λ z. InputAt Ps Y z p C) (cc) s))

-- an expression with another in a place, split at its first number
pub record Inner (e : Expression) (k : ℕ) (p : List ℕ) (s v : Expression) : Type 0 where
  pub before : Expression
  pub there : part e k ≡ Some before
  pub now : Expression
  pub changed : with_part_at before p s ≡ Some now
  pub is : with_part e k now ≡ Some v

pub inner : (e : Expression) (k : ℕ) (p : List ℕ) (s v : Expression) → with_part_at e (k ∷ p) s ≡ Some v → Inner e k p s v
inner e k p s v q = go (part e k) refl q
  where
    then : (a : Expression) → part e k ≡ Some a → (o : Option Expression) → with_part_at a p s ≡ o → option_and_then (with_part e k) o ≡ Some v → Inner e k p s v
    then a j None i r = absurd (nothing_is r)
    then a j (Some b) i r = record { before = a; there = j; now = b; changed = i; is = r }

    go : (o : Option Expression) → part e k ≡ o → option_and_then (λ c. option_and_then (with_part e k) (with_part_at c p s)) o ≡ Some v → Inner e k p s v
    go None j r = absurd (nothing_is r)
    go (Some a) j r = then a j (with_part_at a p s) refl r

-- the other one stands there, and gets the same
pub kept_there : {Ps : List TypeTree} {A C : TypeTree} (e : Expression) (p : List ℕ) (s v : Expression) → with_part_at e p s ≡ Some v → InputAt Ps A e p C
    → (part_at v p ≡ Some s) × InputAt Ps A v p C
kept_there e [] s v q input_here = (sym q, input_here)
kept_there {Ps = Ps} {A = A} {C = C} e (k ∷ p) s v q (input_inside {B = B} {c = a} j g r) = go (inner e k p s v q)
    (λ t. kept_there {A = B} t.before p s t.now t.changed (subst (λ z. InputAt Ps B z p C) (one_part j t.there) r))
  where
    go : (t : Inner e k p s v) → ((u : Inner e k p s v) → (part_at u.now p ≡ Some s) × InputAt Ps B u.now p C) → (part_at v (k ∷ p) ≡ Some s) × InputAt Ps A v (k ∷ p) C
    go t rest =
        let w = value_is (λ z. (part z k ≡ Some t.now) × ((D : TypeTree) → PartInput Ps A e k D → PartInput Ps A z k D)) t.is (kept Ps A e k t.now) in
        (ap (option_and_then (λ z. part_at z p)) w.0 ∙ (rest t).0, input_inside w.0 (w.1 B g) (rest t).1)

-- the whole keeps its type, where the other one has the type of what stood there
pub keeps_type : {e : Expression} {Ps : List TypeTree} {A B R C : TypeTree} (d : ExpressionTyped e Ps A B) → Within d → (p : List ℕ) (c s v : Expression)
    → part_at e p ≡ Some c → InputAt Ps A e p R → ExpressionTyped c Ps R C → ExpressionTyped s Ps R C → with_part_at e p s ≡ Some v → ExpressionTyped v Ps A B
keeps_type {e = e} {Ps = Ps} {A = A} {B = B} {C = C} d w [] c s v q input_here h i r =
    subst (λ z. ExpressionTyped z Ps A B) (cc)
    (subst (λ Z. ExpressionTyped s Ps A Z) (one_type c Ps A C B h (subst (λ z. ExpressionTyped z Ps A B) (cc) d)) i)
keeps_type {e = e} {Ps = Ps} {A = A} {B = B} {R = R} {C = C} d w (k ∷ p) c s v q (input_inside {B = X} {c = a} j g f) h i r = go (inner e k p s v r) (part_typed d w k)
    (λ t u. keeps_type u.typed u.fits p c s t.now (sym (ap (option_and_then (λ z. part_at z p)) t.there) ∙ q)
    (subst (λ Z. InputAt Ps Z t.before p R) (one_part_input g u.gets) (subst (λ z. InputAt Ps X z p R) (one_part j t.there) f)) h i t.changed)
  where
    go : (t : Inner e k p s v) → IfSome (part e k) (TypedPart Ps A B e k)
        → ((u : Inner e k p s v) (y : TypedPart Ps A B e k u.before) → ExpressionTyped u.now Ps y.input y.output) → ExpressionTyped v Ps A B
    go t o rest =
        let y = value_is (TypedPart Ps A B e k) t.there o in
        value_is (λ z. ExpressionTyped z Ps A B) t.is (y.put t.now (rest t y))
