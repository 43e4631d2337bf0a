-- The ring buffer is the queue.
use Rattle.std.proofs.Common.{◌≡◌, ◌+◌, ◌-◌, ◌%◌, ◌^◌, ◌<◌, ◌≤◌, ℕ, zero, suc, ◌&&◌, Bool, true, false, List, [], ◌∷◌, ◌++◌, length, refl, subst, sym, ap, ap₂, ◌∙◌, arith, length-append}
use Rattle.std.specs.Prelude.{nat_eq, nat_le, nat_lt, if◌then◌else◌}
use Rattle.sample_core.specs.Datum.{Datum}
use Rattle.cell_core.specs.Cell.{due, count_down}
use Rattle.c_forms.specs.Ring.{Array, stored_at, Ring, age, next, place, left_one, is_due, leaving, later, joined, Holds, holds_none, holds_one, Stores, RingLaw}

-- ages
age-later : (now d t : ℕ) → age ((now + d) % 2 ^ 64) t ≡ (age now t + d) % 2 ^ 64
age-later now d t = grind arith

age-grows : (q d l now t : ℕ) → q + d < 2 ^ 64 → age now t + l ≡ q + 0 → age ((now + d) % 2 ^ 64) t + l ≡ q + d
age-grows q d l now t b e = grind (arith, age-later)

age-now : (now : ℕ) → now < 2 ^ 64 → age now now ≡ 0
age-now now b = grind arith

-- places
pub place-none : (q h : ℕ) → h < q → place q h 0 ≡ h
place-none q h b = grind arith

pub place-next : (q h n : ℕ) → h < q → suc n ≤ q → place q (next q h) n ≡ place q h (suc n)
place-next q h n b c = grind arith

place-other : (q h n : ℕ) → h < q → suc n < q → nat_eq h (place q h (suc n)) ≡ false
place-other q h n b c = grind arith

pub next-below : (q h : ℕ) → h < q → next q h < q
next-below q h b = grind arith

not-stored : {X : Type 0} (a : Array X) (i k : ℕ) (x : X) → nat_eq k i ≡ false → stored_at a i x k ≡ a k
not-stored a i k x e = ap (λ b. if b then x else a k) e

is-stored : {X : Type 0} (a : Array X) (i : ℕ) (x : X) → stored_at a i x i ≡ x
is-stored a i x = ap (λ b. if b then x else a i) (same-number i)
  where
    same-number : (i : ℕ) → nat_eq i i ≡ true
    same-number i = grind arith

module _ (q now : ℕ) (at : Array ℕ) (value : Array Datum) where
  -- time goes on
  holds-later : (d : ℕ) → q + d < 2 ^ 64 → (l h : ℕ) {is : List (ℕ × Datum)} → Holds q 0 now at value l h is → Holds q d ((now + d) % 2 ^ 64) at value l h is
  holds-later d b l h holds_none = holds_none
  holds-later d b l h (holds_one {t = t} c e v hs) = holds_one c (age-grows q d t now (at h) b e) v (holds-later d b t (next q h) hs)

  -- what still waits
  holds-counted : (d l m h : ℕ) {is : List (ℕ × Datum)} → d ≤ l → m + d ≡ l → Holds q d now at value l h is → Holds q 0 now at value m h (count_down d is)
  holds-counted d l m h b c holds_none = holds_none
  holds-counted d l m h b c (holds_one {t = t} p e v hs) =
      holds_one (omega arith) (omega arith) v (holds-counted d t (t - d) (next q h) (omega arith) (omega arith) hs)

  holds-lower : (e l m h : ℕ) {is : List (ℕ × Datum)} → m ≤ l → Holds q e now at value l h is → Holds q e now at value m h is
  holds-lower e l m h b holds_none = holds_none
  holds-lower e l m h b (holds_one p d v hs) = holds_one (omega arith) d v hs

  -- a value behind them does not touch them
  holds-apart : (i t : ℕ) (x : Datum) (l h n : ℕ) {is : List (ℕ × Datum)} → h < q → length is ≤ n → n < q → i ≡ place q h n
      → Holds q 0 now at value l h is → Holds q 0 now (stored_at at i t) (stored_at value i x) l h is
  holds-apart i t x l h n b c d e holds_none = holds_none
  holds-apart i t x l h zero b c d e (holds_one p f v hs) = absurd (omega arith)
  holds-apart i t x l h (suc n) b c d e (holds_one {t = s} p f v hs) =
      let o : nat_eq h i ≡ false = subst (λ j. nat_eq h j ≡ false) (sym e) (place-other q h n b d) in
      holds_one p
      (ap (λ z. age now z + s) (not-stored at i h t o) ∙ f)
      (not-stored value i h x o ∙ v)
      (holds-apart i t x s (next q h) n (next-below q h b) (omega arith) (omega arith) (e ∙ sym (place-next q h n b (omega arith))) hs)

  -- one more behind them
  holds-more : (x : Datum) (l h : ℕ) {is : List (ℕ × Datum)} → h < q → length is < q → now < 2 ^ 64 → l ≤ q
      → at (place q h (length is)) ≡ now → value (place q h (length is)) ≡ x
      → Holds q 0 now at value l h is → Holds q 0 now at value l h (is ++ (q, x) ∷ [])
  holds-more x l h b c s m e v holds_none =
      let p : place q h 0 ≡ h = place-none q h b in
      holds_one m
      (ap (λ z. age now z + q) (ap at (sym p) ∙ e) ∙ ap (λ z. z + q) (age-now now s) ∙ plain q)
      (ap value (sym p) ∙ v) holds_none
    where
      plain : (q : ℕ) → 0 + q ≡ q + 0
      plain q = omega arith
  holds-more x l h b c s m e v (holds_one {t = t} {is = js} p f w hs) =
      let n : place q (next q h) (length js) ≡ place q h (suc (length js)) = place-next q h (length js) b (omega arith) in
      holds_one p f w
      (holds-more x t (next q h) (next-below q h b) (omega arith) s (omega arith) (ap at n ∙ e) (ap value n ∙ v) hs)

-- what the loop leaves: what is out, and what waits
record Left (q : ℕ) (r s : Ring) (w : Datum × List (ℕ × Datum)) : Type 0 where
  now : s.now ≡ r.now
  is_out : s.out ≡ w.0
  head : s.head < q
  size : s.size ≡ length w.1
  holds : Holds q 0 s.now s.at s.value 0 s.head w.1

due-same : (q d a l : ℕ) → a + l ≡ q + d → nat_le q a ≡ nat_le l d
due-same q d a l e = grind arith

length-count_down : (d : ℕ) (is : List (ℕ × Datum)) → length (count_down d is) ≡ length is
length-count_down d [] = refl
length-count_down d (i ∷ is) = ap suc (length-count_down d is)

leaving-step : (q n d : ℕ) (r : Ring) (b : Bool) → is_due q r ≡ b → leaving q (suc n) r ≡ (if b then leaving q n (left_one q r) else r)
leaving-step q n d r b e = ap (λ c. if c then leaving q n (left_one q r) else r) e

some-there : (k n : ℕ) → k ≡ suc n → nat_lt 0 k ≡ true
some-there k n e = grind arith

none-there : (k : ℕ) → k ≡ 0 → nat_lt 0 k ≡ false
none-there k e = grind arith

le-yes : (a b : ℕ) → nat_le a b ≡ true → a ≤ b
le-yes a b e = grind arith

le-no : (a b : ℕ) → nat_le a b ≡ false → b < a
le-no a b e = grind arith

abbrev due-or : ℕ → Datum → ℕ → Datum → List (ℕ × Datum) → Bool → Datum × List (ℕ × Datum)
due-or d out t v is b = if b then due d v is else (out, count_down d ((t, v) ∷ is))

stays : (q d n : ℕ) (r : Ring) → r.head < q → r.size ≡ 0 → Left q r (leaving q n r) (r.out, [])
stays q d zero r h s = record { now = refl; is_out = refl; head = h; size = s; holds = holds_none }
stays q d (suc n) r h s =
    subst (λ z. Left q r z (r.out, [])) (sym (leaving-step q n d r false (ap (λ b. b && nat_le q (age r.now (r.at r.head))) (none-there r.size s))))
    (record { now = refl; is_out = refl; head = h; size = s; holds = holds_none })

leaves-on : (q d n t : ℕ) (v : Datum) (r : Ring) (is : List (ℕ × Datum)) → Left q (left_one q r) (leaving q n (left_one q r)) (due d (r.value r.head) is) → r.head < q → r.size ≡ suc (length is)
    → age r.now (r.at r.head) + t ≡ q + d → r.value r.head ≡ v
    → Holds q d r.now r.at r.value t (next q r.head) is
    → (c : Bool) → nat_le t d ≡ c → Left q r (leaving q (suc n) r) (due-or d r.out t v is (nat_le t d))
leaves-on q d n t v r is k h s f w hs true e =
    let y : is_due q r ≡ true = ap₂ ◌&&◌ (some-there r.size (length is) s) (due-same q d (age r.now (r.at r.head)) t f ∙ e) in
    let g : due d (r.value r.head) is ≡ due-or d r.out t v is (nat_le t d) = ap (λ u. due d u is) w ∙ sym (ap (due-or d r.out t v is) e) in
    let i : Left q r (leaving q n (left_one q r)) (due d (r.value r.head) is) = record { now = k.now; is_out = k.is_out; head = k.head; size = k.size; holds = k.holds } in
    subst (λ z. Left q r z (due-or d r.out t v is (nat_le t d))) (sym (leaving-step q n d r true y)) (subst (Left q r (leaving q n (left_one q r))) g i)
leaves-on q d n t v r is k h s f w hs false e =
    let y : is_due q r ≡ false = ap₂ ◌&&◌ (some-there r.size (length is) s) (due-same q d (age r.now (r.at r.head)) t f ∙ e) in
    let l : d < t = le-no t d e in
    let u : Holds q 0 r.now r.at r.value (t - d) r.head (count_down d ((t, v) ∷ is)) =
    holds-counted q r.now r.at r.value d t (t - d) r.head (omega arith) (omega arith) (holds_one (omega arith) f w hs) in
    let i : Left q r r (r.out, count_down d ((t, v) ∷ is)) =
    record { now = refl; is_out = refl; head = h; size = s ∙ ap suc (sym (length-count_down d is)); holds = holds-lower q r.now r.at r.value 0 (t - d) 0 r.head (omega arith) u } in
    subst (λ z. Left q r z (due-or d r.out t v is (nat_le t d))) (sym (leaving-step q n d r false y)) (subst (Left q r r) (sym (ap (due-or d r.out t v is) e)) i)

record First (q d now : ℕ) (at : Array ℕ) (value : Array Datum) (h : ℕ) (i : ℕ × Datum) (is : List (ℕ × Datum)) : Type 0 where
  ages : age now (at h) + i.0 ≡ q + d
  holds_value : value h ≡ i.1
  rest : Holds q d now at value i.0 (next q h) is

first : (q d now : ℕ) (at : Array ℕ) (value : Array Datum) {l h : ℕ} {i : ℕ × Datum} {is : List (ℕ × Datum)} → Holds q d now at value l h (i ∷ is)
    → First q d now at value h i is
first q d now at value (holds_one p f w hs) = record { ages = f; holds_value = w; rest = hs }

leaves : (q d n l : ℕ) (r : Ring) (is : List (ℕ × Datum)) → length is ≤ n → r.head < q → r.size ≡ length is
    → Holds q d r.now r.at r.value l r.head is → Left q r (leaving q n r) (due d r.out is)
leaves q d n l r [] b h s k = stays q d n r h s
leaves q d zero l r (i ∷ is) b h s k = absurd (omega arith)
leaves q d (suc n) l r (i ∷ is) b h s k =
    let f : First q d r.now r.at r.value r.head i is = first q d r.now r.at r.value k in
    leaves-on q d n i.0 i.1 r is (leaves q d n i.0 (left_one q r) is (omega arith) (next-below q r.head h) (omega arith) f.rest) h s
    f.ages f.holds_value f.rest (nat_le i.0 d) refl

joins : (q : ℕ) (x : Datum) (r s : Ring) (w : Datum × List (ℕ × Datum)) → r.now < 2 ^ 64 → length w.1 < q → Left q r s w
    → Stores q (joined q x s) w.0 (w.1 ++ (q, x) ∷ [])
joins q x r s w b l k =
    let i : ℕ = place q s.head s.size in
    let e : place q s.head (length w.1) ≡ place q s.head s.size = ap (place q s.head) (sym k.size) in
    let m : s.now < 2 ^ 64 = subst (λ n. n < 2 ^ 64) (sym k.now) b in
    let g : length (w.1 ++ (q, x) ∷ []) ≡ length w.1 + 1 = length-append w.1 ((q, x) ∷ []) in
    let z : s.size ≡ length w.1 = k.size in
    record {
      now = m;
      is_out = k.is_out;
      head = k.head;
      size = omega arith;
      room = omega arith;
      holds = holds-more q s.now (stored_at s.at (place q s.head s.size) s.now) (stored_at s.value (place q s.head s.size) x) x 0 s.head k.head l m (omega arith)
          (ap (stored_at s.at (place q s.head s.size) s.now) e ∙ is-stored s.at (place q s.head s.size) s.now)
          (ap (stored_at s.value (place q s.head s.size) x) e ∙ is-stored s.value (place q s.head s.size) x)
          (holds-apart q s.now s.at s.value (place q s.head s.size) s.now x 0 s.head (length w.1) k.head (omega arith) l (sym e) k.holds);
    }

below : (m : ℕ) → m % 2 ^ 64 < 2 ^ 64
below m = omega arith

pub ring_law : RingLaw
ring_law q d x r out is b h l =
    let k : Left q (later d r) (leaving q q (later d r)) (due d r.out is) =
    leaves q d q 0 (later d r) is h.room h.head h.size (holds-later q r.now r.at r.value d b 0 r.head h.holds) in
    joins q x (later d r) (leaving q q (later d r)) (due d out is) (below (r.now + d)) l
    (subst (Left q (later d r) (leaving q q (later d r))) (ap (λ o. due d o is) h.is_out) k)

pub places-apart : (q h k m : ℕ) → h < q → k < m → m < q → nat_eq (place q h k) (place q h m) ≡ false
places-apart q h k m a b c = grind arith
