-- Functions of types: each over those of the types before it, which its parts are.
use Rattle.std.proofs.Common.{◌≡◌, ◌<◌, ◌+◌, ℕ, suc, Bool, true, false, ◌||◌, List, [], ◌∷◌, ◌++◌, map, length, refl, sym, ap, ◌∙◌, arith, subst, append-nil, append_assoc, length-append}
use Rattle.std.specs.Prelude.{if◌then◌else◌}
use Rattle.sample_core.specs.TypeTree.{TypeTree, unit_ty, bool_ty, int_ty, pair_ty, event_ty, list_ty}
use Rattle.leaf_core.specs.TypeLimits.{same_tree}
use Rattle.leaf_core.proofs.Exactness.{same_tree-refl, same_tree-true}
use Rattle.c_meaning.specs.Syntax.{Function, File}
use Rattle.c_meaning.specs.Meaning.{Linked, function_run}
use Rattle.c_leaf.specs.LeafC.{has_no_list}
use Rattle.c_file.specs.Compared.{is_among, number_among, and_type, with_type}
use Rattle.c_file.proofs.Links.{function_of, same, next}

-- a type with lists is one of these
abbrev pub Among : TypeTree → List TypeTree → Type 0
Among A Ts = has_no_list A ≡ false → is_among A Ts ≡ true

-- each of these is one of those
abbrev pub More : List TypeTree → List TypeTree → Type 0
More Ts Us = (A : TypeTree) → is_among A Ts ≡ true → is_among A Us ≡ true

pub no-yes : {P : Type 0} → true ≡ false → P
no-yes e = absurd (grind arith)

either-first : (a b : Bool) → a ≡ true → (a || b) ≡ true
either-first true b e = refl
either-first false b e = no-yes (sym e)

either-second : (a b : Bool) → b ≡ true → (a || b) ≡ true
either-second true b e = refl
either-second false b e = e

among-front : (A : TypeTree) (Ts Us : List TypeTree) → is_among A Ts ≡ true → is_among A (Ts ++ Us) ≡ true
among-front A [] Us e = no-yes (sym e)
among-front A (T ∷ Ts) Us e = by_first (same_tree T A) (among-front A Ts Us) e
  where
    by_first : (b : Bool) → (is_among A Ts ≡ true → is_among A (Ts ++ Us) ≡ true) → (b || is_among A Ts) ≡ true → (b || is_among A (Ts ++ Us)) ≡ true
    by_first true h e = refl
    by_first false h e = h e

among-last : (A : TypeTree) (Ts : List TypeTree) → is_among A (Ts ++ A ∷ []) ≡ true
among-last A [] = either-first (same_tree A A) false (same_tree-refl A)
among-last A (T ∷ Ts) = either-second (same_tree T A) (is_among A (Ts ++ A ∷ [])) (among-last A Ts)

-- each stands behind its parts
abbrev pub PartsAmong : TypeTree → List TypeTree → Type 0
PartsAmong (pair_ty A B) Ts = Among A Ts × Among B Ts
PartsAmong (event_ty A) Ts = Among A Ts
PartsAmong (list_ty A) Ts = Among A Ts
PartsAmong _ Ts = Unit {0}

pub data Closed : List TypeTree → Type 0 where
  closed_none : Closed []
  closed_one : (Ts : List TypeTree) (A : TypeTree) → Closed Ts → PartsAmong A Ts → Closed (Ts ++ A ∷ [])

-- what holds of types with more
pub record With (A : TypeTree) (Ts Us : List TypeTree) : Type 0 where
  pub more : More Ts Us
  pub among : Among A Us
  pub closed : Closed Us

and-one : (A : TypeTree) (Ts : List TypeTree) → Closed Ts → PartsAmong A Ts → With A Ts (and_type A Ts)
and-one A Ts c p = by_test (has_no_list A) (is_among A Ts) refl refl
  where
    by_test : (a b : Bool) → has_no_list A ≡ a → is_among A Ts ≡ b → With A Ts (if a || b then Ts else Ts ++ A ∷ [])
    by_test true b e h = record { more = λ B k. k; among = λ k. no-yes (sym e ∙ k); closed = c }
    by_test false true e h = record { more = λ B k. k; among = λ k. h; closed = c }
    by_test false false e h = record { more = λ B k. among-front B Ts (A ∷ []) k; among = λ k. among-last A Ts; closed = closed_one Ts A c p }

pub with-one : (A : TypeTree) (Ts : List TypeTree) → Closed Ts → With A Ts (with_type A Ts)
with-one unit_ty Ts c = record { more = λ B k. k; among = λ k. no-yes k; closed = c }
with-one bool_ty Ts c = record { more = λ B k. k; among = λ k. no-yes k; closed = c }
with-one int_ty Ts c = record { more = λ B k. k; among = λ k. no-yes k; closed = c }
with-one (pair_ty A B) Ts c =
    let a = with-one A Ts c in
    let b = with-one B (with_type A Ts) a.closed in
    let w = and-one (pair_ty A B) (with_type B (with_type A Ts)) b.closed (λ k. b.more A (a.among k), b.among) in
    record { more = λ T k. w.more T (b.more T (a.more T k)); among = w.among; closed = w.closed }
with-one (event_ty A) Ts c =
    let a = with-one A Ts c in
    let w = and-one (event_ty A) (with_type A Ts) a.closed a.among in
    record { more = λ T k. w.more T (a.more T k); among = w.among; closed = w.closed }
with-one (list_ty A) Ts c =
    let a = with-one A Ts c in
    let w = and-one (list_ty A) (with_type A Ts) a.closed a.among in
    record { more = λ T k. w.more T (a.more T k); among = w.among; closed = w.closed }

-- the number of a type is that of its first place
number-front : (A : TypeTree) (Ts Us : List TypeTree) → is_among A Ts ≡ true → (number_among (Ts ++ Us) A ≡ number_among Ts A) × (number_among Ts A < length Ts)
number-front A [] Us e = no-yes (sym e)
number-front A (T ∷ Ts) Us e = by_first (same_tree T A) (number-front A Ts Us) e
  where
    by_first : (b : Bool) → (is_among A Ts ≡ true → (number_among (Ts ++ Us) A ≡ number_among Ts A) × (number_among Ts A < length Ts)) → (b || is_among A Ts) ≡ true
        → ((if b then 0 else suc (number_among (Ts ++ Us) A)) ≡ (if b then 0 else suc (number_among Ts A))) × ((if b then 0 else suc (number_among Ts A)) < suc (length Ts))
    by_first true h e = (refl, omega arith)
    by_first false h e = let r = h e in let l : number_among Ts A < length Ts = r.1 in (ap suc r.0, omega arith)

number-new : (A : TypeTree) (Ts Us : List TypeTree) → is_among A Ts ≡ false → number_among (Ts ++ A ∷ Us) A ≡ length Ts
number-new A [] Us e = ap (λ b. if b then 0 else suc (number_among Us A)) (same_tree-refl A)
number-new A (T ∷ Ts) Us e = by_first (same_tree T A) (number-new A Ts Us) e
  where
    by_first : (b : Bool) → (is_among A Ts ≡ false → number_among (Ts ++ A ∷ Us) A ≡ length Ts) → (b || is_among A Ts) ≡ false → (if b then 0 else suc (number_among (Ts ++ A ∷ Us) A)) ≡ suc (length Ts)
    by_first true h e = no-yes e
    by_first false h e = ap suc (h e)

among-split : (A T : TypeTree) (Ts : List TypeTree) → is_among A (Ts ++ T ∷ []) ≡ true → is_among A Ts ≡ false → same_tree T A ≡ true
among-split A T [] e f = by_value (same_tree T A) e
  where
    by_value : (b : Bool) → (b || false) ≡ true → b ≡ true
    by_value true e = refl
    by_value false e = e
among-split A T (U ∷ Ts) e f = by_first (same_tree U A) (among-split A T Ts) e f
  where
    by_first : (b : Bool) → (is_among A (Ts ++ T ∷ []) ≡ true → is_among A Ts ≡ false → same_tree T A ≡ true) → (b || is_among A (Ts ++ T ∷ [])) ≡ true → (b || is_among A Ts) ≡ false → same_tree T A ≡ true
    by_first true h e f = no-yes f
    by_first false h e f = h e f

-- what the function of a part does, where the part has lists
abbrev pub PartDone : (TypeTree → Linked → Type 0) → (TypeTree → ℕ) → (ℕ → Linked) → TypeTree → Type 0
PartDone Does number F A = has_no_list A ≡ false → Does A (F (number A))

abbrev pub PartsDone : (TypeTree → Linked → Type 0) → (TypeTree → ℕ) → (ℕ → Linked) → TypeTree → Type 0
PartsDone Does number F (pair_ty A B) = PartDone Does number F A × PartDone Does number F B
PartsDone Does number F (event_ty A) = PartDone Does number F A
PartsDone Does number F (list_ty A) = PartDone Does number F A
PartsDone Does number F _ = Unit {0}

-- behind the functions of a, those of the types W: each does what it should where those of its parts do
module _ (make : (TypeTree → ℕ) → TypeTree → Function) (Does : TypeTree → Linked → Type 0) (a : File) (W : List TypeTree) (number : TypeTree → ℕ)
    (at : (A : TypeTree) → number A ≡ length a + number_among W A) (law : (F : ℕ → Linked) (A : TypeTree) → PartsDone Does number F A → Does A (function_run F (make number A))) where
  abbrev file_of : List TypeTree → File
  file_of Ts = map (make number) Ts

  length-file : (Ts : List TypeTree) → length (file_of Ts) ≡ length Ts
  length-file [] = refl
  length-file (T ∷ Ts) = ap suc (length-file Ts)

  length-behind : (Ts : List TypeTree) → length (a ++ file_of Ts) ≡ length a + length Ts
  length-behind Ts = length-append a (file_of Ts) ∙ ap (λ k. length a + k) (length-file Ts)

  file-append : (Ts Us : List TypeTree) → file_of (Ts ++ Us) ≡ file_of Ts ++ file_of Us
  file-append [] Us = refl
  file-append (T ∷ Ts) Us = ap (λ (hs : File). make number T ∷ hs) (file-append Ts Us)

  -- of types that W begins with
  record Start (Ts : List TypeTree) : Type 0 where
    done : (A : TypeTree) → is_among A Ts ≡ true → Does A (function_of (a ++ file_of Ts) (number A))

  parts-done : (F : ℕ → Linked) (A : TypeTree) (Ts : List TypeTree) → ((B : TypeTree) → is_among B Ts ≡ true → Does B (F (number B))) → PartsAmong A Ts → PartsDone Does number F A
  parts-done F unit_ty Ts h p = tt
  parts-done F bool_ty Ts h p = tt
  parts-done F int_ty Ts h p = tt
  parts-done F (pair_ty A B) Ts h p = (λ k. h A (p.0 k), λ k. h B (p.1 k))
  parts-done F (event_ty A) Ts h p = λ k. h A (p k)
  parts-done F (list_ty A) Ts h p = λ k. h A (p k)

  starts : {Ts : List TypeTree} → Closed Ts → (Us : List TypeTree) → W ≡ Ts ++ Us → Start Ts
  starts closed_none Us e = record { done = λ A k. no-yes (sym k) }
  starts (closed_one Ts T c p) Us e =
      let w : W ≡ Ts ++ (T ∷ Us) = e ∙ append_assoc Ts (T ∷ []) Us in
      let r = starts c (T ∷ Us) w in
      let g : a ++ file_of (Ts ++ T ∷ []) ≡ (a ++ file_of Ts) ++ make number T ∷ [] = ap (λ (hs : File). a ++ hs) (file-append Ts (T ∷ [])) ∙ sym (append_assoc a (file_of Ts) (make number T ∷ [])) in
      record { done = λ A k. by_place Ts T r w (length-behind Ts) g p A k (is_among A Ts) refl }
    where
      by_place : (Ts : List TypeTree) (T : TypeTree) → Start Ts → W ≡ Ts ++ (T ∷ Us) → length (a ++ file_of Ts) ≡ length a + length Ts
          → a ++ file_of (Ts ++ T ∷ []) ≡ (a ++ file_of Ts) ++ make number T ∷ [] → PartsAmong T Ts
          → (A : TypeTree) → is_among A (Ts ++ T ∷ []) ≡ true → (b : Bool) → is_among A Ts ≡ b
          → Does A (function_of (a ++ file_of (Ts ++ T ∷ [])) (number A))
      by_place Ts T r w l g p A k true i =
          let q = number-front A Ts (T ∷ Us) i in
          let u : number_among W A ≡ number_among Ts A = ap (λ Vs. number_among Vs A) w ∙ q.0 in
          let v : number_among Ts A < length Ts = q.1 in
          let n : number A ≡ length a + number_among W A = at A in
          subst (Does A)
          (sym (ap (λ (b : File). function_of b (number A)) g ∙ same (a ++ file_of Ts) (make number T ∷ []) (number A) (omega (arith, u, v, n, l))))
          (r.done A i)
      by_place Ts T r w l g p A k false i =
          let t : T ≡ A = same_tree-true T A (among-split A T Ts k i) in
          let u : number_among W T ≡ length Ts = ap (λ Vs. number_among Vs T) w ∙ number-new T Ts Us (subst (λ B. is_among B Ts ≡ false) (sym t) i) in
          let n : number T ≡ length (a ++ file_of Ts) = at T ∙ ap (λ k. length a + k) u ∙ sym l in
          subst (λ B. Does B (function_of (a ++ file_of (Ts ++ T ∷ [])) (number B))) t
          (subst (Does T)
          (sym (ap (λ (b : File). function_of b (number T)) g ∙ ap (function_of ((a ++ file_of Ts) ++ make number T ∷ [])) n
          ∙ next (a ++ file_of Ts) (make number T) []))
          (law (function_of (a ++ file_of Ts)) T (parts-done (function_of (a ++ file_of Ts)) T Ts r.done p)))

  -- whatever follows
  pub all-done : Closed W → (b : File) (A : TypeTree) → is_among A W ≡ true → Does A (function_of (a ++ (file_of W ++ b)) (number A))
  all-done c b A k =
      let r = starts c [] (sym (append-nil W)) in
      let q = number-front A W [] k in
      let v : number_among W A < length W = q.1 in
      let l : length (a ++ file_of W) ≡ length a + length W = length-behind W in
      let n : number A ≡ length a + number_among W A = at A in
      subst (Does A)
      (sym (ap (λ (d : File). function_of d (number A)) (sym (append_assoc a (file_of W) b)) ∙ same (a ++ file_of W) b (number A) (omega (arith, v, n, l))))
      (r.done A k)
