-- The loop of a `delay` in C is the ring's, and so are its other lines.
use Rattle.std.proofs.Common.{◌≡◌, ◌≤◌, ◌<◌, ◌+◌, ◌-◌, ◌%◌, ◌^◌, ℕ, zero, suc, pos, ◌+ℤ◌, ◌-ℤ◌, Bool, true, false, not, ◌&&◌, List, [], ◌∷◌, ◌++◌, length, Option, Some, None, refl, subst, sym, ap, ap₂, ◌∙◌, arith}
use Rattle.std.specs.Prelude.{nat_eq, nat_le, nat_lt, slice_get, if◌then◌else◌, int_le}
use Rattle.std.specs.Int.{int_rem_euclid}
use Rattle.std.specs.Ordering.{int_eq}
use Rattle.std.proofs.lemmas.Int.{ints}
use Rattle.sample_core.specs.Datum.{Datum}
use Rattle.sample_core.specs.TypeTree.{TypeTree}
use Rattle.c_meaning.specs.Object.{CType, number_type, no_member, member, array, i64, u64, u32, Object, truth, number, end, more, has_type, each_has, in_range, like, part_of, part_at, in_front, with_part}
use Rattle.c_meaning.specs.Syntax.{plus, minus, at_most, equals, Term, local, at, literal, binary, cast, loop}
use Rattle.c_meaning.specs.Meaning.{Frame, Linked, Outcome, bind, eval, value, is_set, operate, converted, arithmetic, checked, choice_of, both_of, write, go_on, leave, looped, by_truth, is_none_of, written, run}
use Rattle.c_meaning.proofs.Wrapping.{check-yes, difference-rem}
use Rattle.c_meaning.proofs.Alike.{no, yes-and, left-yes, right-yes, alike}
use Rattle.c_meaning.proofs.Runs.{Runs, then-run, assigns, take-front}
use Rattle.c_leaf.specs.Representing.{c_type, Represents}
use Rattle.c_leaf.proofs.Values.{has}
use Rattle.c_leaf.proofs.Same.{set-object}
use Rattle.c_forms.specs.Ring.{Ring, Array, stored_at, age, next, place, is_due, left_one, leaving, later, joined}
use Rattle.c_forms.specs.Keeping.{delay_object, HoldsRing}
use Rattle.c_forms.specs.Delay.{now_of, out_of, head_of, size_of, times_of, values_of, go_later, due_test, next_term, leave_body, join_body}
use Rattle.c_forms.proofs.Ring.{next-below, place-none, place-next, places-apart}

pub u32-range : (k : ℕ) → k < 2 ^ 32 → in_range u32 (pos k) ≡ true
u32-range k h = grind arith

pub u64-range : (k : ℕ) → k < 2 ^ 64 → in_range u64 (pos k) ≡ true
u64-range k h = grind arith

one-fewer : (k : ℕ) → 1 ≤ k → pos k -ℤ pos 1 ≡ pos (k - 1)
one-fewer k h = grind (arith, ints)

pub below-64 : (m : ℕ) → m % 2 ^ 64 < 2 ^ 64
below-64 m = omega arith

some-size : (k : ℕ) → nat_lt 0 k ≡ true → 1 ≤ k
some-size k e = grind arith

both-ways : (a b : Bool) (r : Option Object) → (a ≡ true → r ≡ Some (truth b)) → both_of (truth a) r ≡ Some (truth (a && b))
both-ways true b r h = ap (λ E. both_of (truth true) E) (h refl)
both-ways false b r h = refl

-- an array with another element
record Changed (T : CType) (q : ℕ) (a : Object) (k : ℕ) (v : Object) : Type 0 where
  changed : Object
  is : with_part a k v ≡ Some changed
  others : (j : ℕ) → part_of changed j ≡ (if nat_eq j k then Some v else part_of a j)
  typed : has_type (array q T) changed ≡ true

eq-zero : (j : ℕ) → nat_eq (suc j) 0 ≡ false
eq-zero j = grind arith

zero-eq : (k : ℕ) → nat_eq 0 (suc k) ≡ false
zero-eq k = grind arith

eq-suc : (j k : ℕ) → nat_eq (suc j) (suc k) ≡ nat_eq j k
eq-suc j k = grind arith

here : (o os v : Object) (j : ℕ) → part_of (more v os) j ≡ (if nat_eq j 0 then Some v else part_of (more o os) j)
here o os v zero = refl
here o os v (suc j) = sym (ap (λ b. if b then Some v else part_of os j) (eq-zero j))

there : (o os c v : Object) (k : ℕ) → ((j : ℕ) → part_of c j ≡ (if nat_eq j k then Some v else part_of os j))
    → (j : ℕ) → part_of (more o c) j ≡ (if nat_eq j (suc k) then Some v else part_of (more o os) j)
there o os c v k h zero = sym (ap (λ b. if b then Some v else Some o) (zero-eq k))
there o os c v k h (suc j) = h j ∙ sym (ap (λ b. if b then Some v else part_of os j) (eq-suc j k))

change : (T : CType) (q : ℕ) (a : Object) (k : ℕ) (v : Object) → k < q → has_type (array q T) a ≡ true → has_type T v ≡ true → Changed T q a k v
change T zero a k v l e f = absurd (omega arith)
change T (suc q) (more o os) zero v l e f =
    record { changed = more v os; is = refl; others = here o os v; typed = yes-and f (right-yes (has_type T o) (each_has (has_type T) q os) e) }
change T (suc q) (more o os) (suc k) v l e f =
    let r = change T q os k v (omega arith) (right-yes (has_type T o) (each_has (has_type T) q os) e) f in
    record {
      changed = more o r.changed;
      is = ap (in_front o) r.is;
      others = there o os r.changed v k r.others;
      typed = yes-and (left-yes (has_type T o) (each_has (has_type T) q os) e) r.typed;
    }
change T (suc q) _ k v l e f = no e

-- a stored element, and another
stored-time : (c : Object) (times : Array ℕ) (i j now : ℕ) → now < 2 ^ 64 → nat_eq j i ≡ true → part_of c j ≡ Some (number u64 (pos now))
    → (part_of c j ≡ Some (number u64 (pos (stored_at times i now j)))) × (stored_at times i now j < 2 ^ 64)
stored-time c times i j now w e g = (
  g ∙ sym (ap (λ b. Some (number u64 (pos (if b then now else times j)))) e),
  subst (λ z. z < 2 ^ 64) (sym (ap (λ b. if b then now else times j) e)) w,
)

other-time : (c : Object) (times : Array ℕ) (i j now : ℕ) → nat_eq j i ≡ false → part_of c j ≡ Some (number u64 (pos (times j))) → times j < 2 ^ 64
    → (part_of c j ≡ Some (number u64 (pos (stored_at times i now j)))) × (stored_at times i now j < 2 ^ 64)
other-time c times i j now e g w = (
  g ∙ sym (ap (λ b. Some (number u64 (pos (if b then now else times j)))) e),
  subst (λ z. z < 2 ^ 64) (sym (ap (λ b. if b then now else times j) e)) w,
)

less-or-same : (k m : ℕ) → k < suc m → nat_lt k m ≡ false → k ≡ m
less-or-same k m l e = grind arith

is-less : (k m : ℕ) → nat_lt k m ≡ true → k < m
is-less k m e = grind arith

same-eq : (k : ℕ) → nat_eq k k ≡ true
same-eq k = grind arith

module _ (n : TypeTree → ℕ) (q : ℕ) (A : TypeTree) (small : q < 2 ^ 31) (F : ℕ → Linked) where
  -- six members are alike
  pub six-like : (a b h k s t : ℕ) (o p x y u v : Object) → like o p ≡ true → like x y ≡ true → like u v ≡ true
      → like (delay_object a o h s x u) (delay_object b p k t y v) ≡ true
  six-like a b h k s t o p x y u v e f g = yes-and {a = like o p} e (yes-and {a = like x y} f (yes-and {a = like u v} g refl))

  abbrev next-value : Option Object → Option Object
  next-value P = bind (bind P (λ v. bind (checked u32 (pos q)) (λ w. operate equals u32 v w))) (λ c. choice_of c (Some (number u32 (pos 0))) P)

  same-numbers : (a b : ℕ) → int_eq (pos a) (pos b) ≡ nat_eq a b
  same-numbers a b = grind arith

  next-cases : (h : ℕ) (b : Bool) → nat_eq (suc h) q ≡ b → choice_of (truth b) (Some (number u32 (pos 0))) (Some (number u32 (pos (h + 1)))) ≡ Some (number u32 (pos (next q h)))
  next-cases h true e = ap (λ b. Some (number u32 (pos (if b then 0 else suc h)))) (sym e)
  next-cases h false e = ap (λ k. Some (number u32 (pos k))) (plus-one h) ∙ ap (λ b. Some (number u32 (pos (if b then 0 else suc h)))) (sym e)
    where
      plus-one : (h : ℕ) → h + 1 ≡ suc h
      plus-one h = omega arith

  plus-one : (h : ℕ) → h + 1 ≡ suc h
  plus-one h = omega arith

  next-is : (h : ℕ) → h < q → next-value (arithmetic u32 (pos h +ℤ pos 1)) ≡ Some (number u32 (pos (next q h)))
  next-is h l =
      ap next-value (check-yes u32 (pos (h + 1)) (u32-range (h + 1) (omega arith)))
      ∙ ap (λ V. bind (bind V (λ w. operate equals u32 (number u32 (pos (h + 1))) w)) (λ c. choice_of c (Some (number u32 (pos 0))) (Some (number u32 (pos (h + 1)))))) (check-yes u32 (pos q) (u32-range q (omega arith)))
      ∙ ap (λ b. choice_of (truth b) (Some (number u32 (pos 0))) (Some (number u32 (pos (h + 1))))) (same-numbers (h + 1) q ∙ ap (λ k. nat_eq k q) (plus-one h))
      ∙ next-cases h (nat_eq (suc h) q) refl

  pub place-below : (h k : ℕ) → h < q → k < q → place q h k < q
  place-below h k a b = grind arith

  abbrev pub place-value : Option Object → Option Object → Option Object
  place-value Q P = bind (bind Q (λ v. bind P (λ w. operate at_most u32 v w))) (λ c. choice_of c (bind P (λ v. bind Q (λ w. operate minus u32 v w))) P)

  minus-q : (m : ℕ) → q ≤ m → pos m -ℤ pos q ≡ pos (m - q)
  minus-q m h = grind (arith, ints)

  le-true : (a b : ℕ) → nat_le a b ≡ true → a ≤ b
  le-true a b e = grind arith

  place-cases : (h k : ℕ) → h < q → k < q → (b : Bool) → nat_le q (h + k) ≡ b
      → choice_of (truth b) (arithmetic u32 (pos (h + k) -ℤ pos q)) (Some (number u32 (pos (h + k)))) ≡ Some (number u32 (pos (place q h k)))
  place-cases h k a c true e =
      ap (checked u32) (minus-q (h + k) (le-true q (h + k) e)) ∙ check-yes u32 (pos (h + k - q)) (u32-range (h + k - q) (omega arith))
      ∙ ap (λ b. Some (number u32 (pos (if b then h + k - q else h + k)))) (sym e)
  place-cases h k a c false e = ap (λ b. Some (number u32 (pos (if b then h + k - q else h + k)))) (sym e)

  pub place-is : (h k : ℕ) → h < q → k < q → place-value (checked u32 (pos q)) (arithmetic u32 (pos h +ℤ pos k)) ≡ Some (number u32 (pos (place q h k)))
  place-is h k a b =
      ap₂ place-value (check-yes u32 (pos q) (u32-range q (omega arith))) (check-yes u32 (pos (h + k)) (u32-range (h + k) (omega arith)))
      ∙ place-cases h k a b (nat_le q (h + k)) refl

  abbrev due-late : ℕ → Option Object → Option Object
  due-late now E =
      bind (checked u64 (pos q)) (λ v. bind (bind E (λ w. operate minus u64 (number u64 (pos now)) w)) (λ w. operate at_most u64 v w))

  -- rest: what stands behind the state
  module _ (rest : List Object) where
    abbrev pub here-is : (r : Ring) (o : Object) → HoldsRing n q A r o → Frame
    here-is r o h = delay_object r.now h.outs r.head r.size h.ats h.vals ∷ rest

    oldest : (r : Ring) (o : Object) (h : HoldsRing n q A r o) → 1 ≤ r.size → (part_of h.ats r.head ≡ Some (number u64 (pos (r.at r.head)))) × (r.at r.head < 2 ^ 64)
    oldest r o h l = subst (λ k. (part_of h.ats k ≡ Some (number u64 (pos (r.at k)))) × (r.at k < 2 ^ 64)) (place-none q r.head h.head) (h.times 0 (omega arith))

    oldest-value : (r : Ring) (o : Object) (h : HoldsRing n q A r o) → 1 ≤ r.size → (p : Object) × (part_of h.vals r.head ≡ Some p) × Represents n A (r.value r.head) p
    oldest-value r o h l = subst (λ k. (p : Object) × (part_of h.vals k ≡ Some p) × Represents n A (r.value k) p) (place-none q r.head h.head) (h.values 0 (omega arith))

    test : (r : Ring) (o : Object) (h : HoldsRing n q A r o) → eval (here-is r o h) (due_test q) ≡ Some (truth (is_due q r))
    test r o h =
        both-ways (nat_lt 0 r.size) (nat_le q (age r.now (r.at r.head))) _
        (λ e. let t = oldest r o h (some-size r.size e) in
        ap (due-late r.now) t.0
        ∙ ap (λ V. bind V (λ v. operate at_most u64 v (number u64 (int_rem_euclid (pos r.now -ℤ pos (r.at r.head)) (pos (2 ^ 64)))))) (check-yes u64 (pos q) (u64-range q (omega arith)))
        ∙ ap (λ z. Some (truth (int_le (pos q) z))) (difference-rem r.now (r.at r.head) t.1))

    -- what the body leaves
    record Body (r : Ring) (f : Frame) : Type 0 where
      object : Object
      runs : Runs F (leave_body q) f (object ∷ rest, None)
      holds : HoldsRing n q A (left_one q r) object

    body : (r : Ring) (o : Object) (h : HoldsRing n q A r o) → 1 ≤ r.size → Body r (here-is r o h)
    body r o h l =
        let p = oldest-value r o h l in
        let lo : like h.outs p.0 ≡ true = alike (c_type n A) h.outs p.0 (has n h.is_out) (has n p.2) in
        let lp : like p.0 p.0 ≡ true = alike (c_type n A) p.0 p.0 (has n p.2) (has n p.2) in
        let la : like h.ats h.ats ≡ true = alike (array q (number_type u64)) h.ats h.ats h.times_type h.times_type in
        let lv : like h.vals h.vals ≡ true = alike (array q (c_type n A)) h.vals h.vals h.values_type h.values_type in
        let o0 : Object = delay_object r.now h.outs r.head r.size h.ats h.vals in
        let o1 : Object = delay_object r.now p.0 r.head r.size h.ats h.vals in
        let o2 : Object = delay_object r.now p.0 (next q r.head) r.size h.ats h.vals in
        let o3 : Object = delay_object r.now p.0 (next q r.head) (r.size - 1) h.ats h.vals in
        let first = assigns F out_of (at values_of head_of) (o0 ∷ rest) (o1 ∷ rest) p.0 p.1 (set-object n p.2)
        (ap (λ z. if z then Some (o1 ∷ rest) else None) (six-like r.now r.now r.head r.head r.size r.size h.outs p.0 h.ats h.ats h.vals h.vals lo la lv)) in
        let second = assigns F head_of (next_term q) (o1 ∷ rest) (o2 ∷ rest) (number u32 (pos (next q r.head))) (next-is r.head h.head) refl
        (ap (λ z. if z then Some (o2 ∷ rest) else None) (six-like r.now r.now r.head (next q r.head) r.size r.size p.0 p.0 h.ats h.ats h.vals h.vals lp la lv)) in
        let third = assigns F size_of (binary minus u32 size_of (literal u32 (pos 1))) (o2 ∷ rest) (o3 ∷ rest) (number u32 (pos (r.size - 1)))
        (ap (checked u32) (one-fewer r.size l) ∙ check-yes u32 (pos (r.size - 1)) (u32-range (r.size - 1) (omega (arith, h.size)))) refl
        (ap (λ z. if z then Some (o3 ∷ rest) else None) (six-like r.now r.now (next q r.head) (next q r.head) r.size (r.size - 1) p.0 p.0 h.ats h.ats h.vals h.vals lp la lv)) in
        let hs : r.size ≤ q = h.size in
        record {
          object = o3;
          runs = then-run F first (then-run F second third);
          holds = record {
            outs = p.0;
            ats = h.ats;
            vals = h.vals;
            is = refl;
            now = h.now;
            head = next-below q r.head h.head;
            size = omega arith;
            is_out = p.2;
            times = λ k m. subst (λ j. (part_of h.ats j ≡ Some (number u64 (pos (r.at j)))) × (r.at j < 2 ^ 64)) (sym (place-next q r.head k h.head (omega arith))) (h.times (suc k) (omega arith));
            values = λ k m. subst (λ j. (p : Object) × (part_of h.vals j ≡ Some p) × Represents n A (r.value j) p) (sym (place-next q r.head k h.head (omega arith))) (h.values (suc k) (omega arith));
            times_type = h.times_type;
            values_type = h.values_type;
          };
        }

    -- `s->now += (uint64_t)dt;`
    pub record Later (d : ℕ) (r : Ring) (f : Frame) : Type 0 where
      pub object : Object
      pub runs : Runs F go_later f (object ∷ rest, None)
      pub holds : HoldsRing n q A (later d r) object

    pub go-later : (d : ℕ) (r : Ring) (o : Object) (h : HoldsRing n q A r o) → d < 2 ^ 63 → slice_get rest 0 ≡ Some (number i64 (pos d)) → Later d r (here-is r o h)
    go-later d r o h b k =
        let o0 : Object = delay_object r.now h.outs r.head r.size h.ats h.vals in
        let o1 : Object = delay_object ((r.now + d) % 2 ^ 64) h.outs r.head r.size h.ats h.vals in
        let lo : like h.outs h.outs ≡ true = alike (c_type n A) h.outs h.outs (has n h.is_out) (has n h.is_out) in
        let la : like h.ats h.ats ≡ true = alike (array q (number_type u64)) h.ats h.ats h.times_type h.times_type in
        let lv : like h.vals h.vals ≡ true = alike (array q (c_type n A)) h.vals h.vals h.values_type h.values_type in
        record {
          object = o1;
          runs = assigns F now_of (binary plus u64 now_of (cast u64 (local 1))) (o0 ∷ rest) (o1 ∷ rest) (number u64 (pos ((r.now + d) % 2 ^ 64)))
              (ap (λ E. bind (bind E (converted u64)) (λ w. operate plus u64 (number u64 (pos r.now)) w)) k ∙ ap (λ m. Some (number u64 (pos ((r.now + m) % 2 ^ 64)))) (small-mod d b)) refl
              (ap (λ z. if z then Some (o1 ∷ rest) else None) (six-like r.now ((r.now + d) % 2 ^ 64) r.head r.head r.size r.size h.outs h.outs h.ats h.ats h.vals h.vals lo la lv));
          holds = record {
            outs = h.outs;
            ats = h.ats;
            vals = h.vals;
            is = refl;
            now = below-64 (r.now + d);
            head = h.head;
            size = h.size;
            is_out = h.is_out;
            times = h.times;
            values = h.values;
            times_type = h.times_type;
            values_type = h.values_type;
          };
        }
      where
        small-mod : (d : ℕ) → d < 2 ^ 63 → d % 2 ^ 64 ≡ d
        small-mod d b = grind arith

    -- the last lines, with the place in a local
    pub record Joined (r : Ring) (x : Datum) (t : Term) (f : Frame) : Type 0 where
      pub object : Object
      pub runs : Runs F (join_body t) f (object ∷ rest, None)
      pub holds : HoldsRing n q A (joined q x r) object

    pub join : (k : ℕ) (r : Ring) (o i : Object) (x : Datum) (h : HoldsRing n q A r o) → Represents n A x i → r.size < q → slice_get rest 1 ≡ Some i
        → ((u : Object) → slice_get (u ∷ rest) k ≡ Some (number u32 (pos (place q r.head r.size)))) → Joined r x (local k) (here-is r o h)
    join k r o i x h w b ei ek =
        let g : ℕ = place q r.head r.size in
        let l : place q r.head r.size < q = place-below r.head r.size h.head b in
        let a : Changed (number_type u64) q h.ats (place q r.head r.size) (number u64 (pos r.now)) = change (number_type u64) q h.ats (place q r.head r.size) (number u64 (pos r.now)) l h.times_type (u64-range r.now h.now) in
        let v : Changed (c_type n A) q h.vals (place q r.head r.size) i = change (c_type n A) q h.vals (place q r.head r.size) i l h.values_type (has n w) in
        let o0 : Object = delay_object r.now h.outs r.head r.size h.ats h.vals in
        let o1 : Object = delay_object r.now h.outs r.head r.size a.changed h.vals in
        let o2 : Object = delay_object r.now h.outs r.head r.size a.changed v.changed in
        let o3 : Object = delay_object r.now h.outs r.head (suc r.size) a.changed v.changed in
        let lo : like h.outs h.outs ≡ true = alike (c_type n A) h.outs h.outs (has n h.is_out) (has n h.is_out) in
        let la : like h.ats a.changed ≡ true = alike (array q (number_type u64)) h.ats a.changed h.times_type a.typed in
        let lb : like a.changed a.changed ≡ true = alike (array q (number_type u64)) a.changed a.changed a.typed a.typed in
        let lv : like h.vals h.vals ≡ true = alike (array q (c_type n A)) h.vals h.vals h.values_type h.values_type in
        let lw : like h.vals v.changed ≡ true = alike (array q (c_type n A)) h.vals v.changed h.values_type v.typed in
        let lx : like v.changed v.changed ≡ true = alike (array q (c_type n A)) v.changed v.changed v.typed v.typed in
        let first = assigns F (at times_of (local k)) now_of (o0 ∷ rest) (o1 ∷ rest) (number u64 (pos r.now)) refl refl
        (ap (λ E. bind (Some h.ats) (λ o. bind E (λ m. bind (Rattle.c_meaning.specs.Object.with_part_at o m (number u64 (pos r.now))) (write (o0 ∷ rest) times_of)))) (ek o0)
        ∙ ap (λ E. bind E (write (o0 ∷ rest) times_of)) a.is
        ∙ ap (λ z. if z then Some (o1 ∷ rest) else None) (six-like r.now r.now r.head r.head r.size r.size h.outs h.outs h.ats a.changed h.vals h.vals lo la lv)) in
        let second = assigns F (at values_of (local k)) (local 2) (o1 ∷ rest) (o2 ∷ rest) i ei (set-object n w)
        (ap (λ E. bind (Some h.vals) (λ o. bind E (λ m. bind (Rattle.c_meaning.specs.Object.with_part_at o m i) (write (o1 ∷ rest) values_of)))) (ek o1)
        ∙ ap (λ E. bind E (write (o1 ∷ rest) values_of)) v.is
        ∙ ap (λ z. if z then Some (o2 ∷ rest) else None) (six-like r.now r.now r.head r.head r.size r.size h.outs h.outs a.changed a.changed h.vals v.changed lo lb lw)) in
        let third = assigns F size_of (binary plus u32 size_of (literal u32 (pos 1))) (o2 ∷ rest) (o3 ∷ rest) (number u32 (pos (suc r.size)))
        (check-yes u32 (pos (r.size + 1)) (u32-range (r.size + 1) (omega arith)) ∙ ap (λ m. Some (number u32 (pos m))) (one-more r.size)) refl
        (ap (λ z. if z then Some (o3 ∷ rest) else None) (six-like r.now r.now r.head r.head r.size (suc r.size) h.outs h.outs a.changed a.changed v.changed v.changed lo lb lx)) in
        record {
          object = o3;
          runs = then-run F first (then-run F second third);
          holds = record {
            outs = h.outs;
            ats = a.changed;
            vals = v.changed;
            is = refl;
            now = h.now;
            head = h.head;
            size = omega arith;
            is_out = h.is_out;
            times = λ j m. times-are a.changed a.others j m (nat_lt j r.size) refl;
            values = λ j m. values-are v.changed v.others j m (nat_lt j r.size) refl;
            times_type = a.typed;
            values_type = v.typed;
          };
        }
      where
        one-more : (k : ℕ) → k + 1 ≡ suc k
        one-more k = omega arith

        times-are : (c : Object) → ((j : ℕ) → part_of c j ≡ (if nat_eq j (place q r.head r.size) then Some (number u64 (pos r.now)) else part_of h.ats j)) → (j : ℕ) → j < suc r.size → (z : Bool) → nat_lt j r.size ≡ z
            → (part_of c (place q r.head j) ≡ Some (number u64 (pos (stored_at r.at (place q r.head r.size) r.now (place q r.head j))))) × (stored_at r.at (place q r.head r.size) r.now (place q r.head j) < 2 ^ 64)
        times-are c f j m true e =
            let a : nat_eq (place q r.head j) (place q r.head r.size) ≡ false = places-apart q r.head j r.size h.head (is-less j r.size e) b in
            let t = h.times j (is-less j r.size e) in
            other-time c r.at (place q r.head r.size) (place q r.head j) r.now a (f (place q r.head j) ∙ ap (λ z. if z then Some (number u64 (pos r.now)) else part_of h.ats (place q r.head j)) a ∙ t.0) t.1
        times-are c f j m false e =
            let s : j ≡ r.size = less-or-same j r.size m e in
            let a : nat_eq (place q r.head j) (place q r.head r.size) ≡ true = ap (λ k. nat_eq (place q r.head k) (place q r.head r.size)) s ∙ same-eq (place q r.head r.size) in
            stored-time c r.at (place q r.head r.size) (place q r.head j) r.now h.now a (f (place q r.head j) ∙ ap (λ z. if z then Some (number u64 (pos r.now)) else part_of h.ats (place q r.head j)) a)

        values-are : (c : Object) → ((j : ℕ) → part_of c j ≡ (if nat_eq j (place q r.head r.size) then Some i else part_of h.vals j)) → (j : ℕ) → j < suc r.size → (z : Bool) → nat_lt j r.size ≡ z
            → (p : Object) × (part_of c (place q r.head j) ≡ Some p) × Represents n A (stored_at r.value (place q r.head r.size) x (place q r.head j)) p
        values-are c f j m true e =
            let a : nat_eq (place q r.head j) (place q r.head r.size) ≡ false = places-apart q r.head j r.size h.head (is-less j r.size e) b in
            let t = h.values j (is-less j r.size e) in (
              t.0,
              f (place q r.head j) ∙ ap (λ z. if z then Some i else part_of h.vals (place q r.head j)) a ∙ t.1,
              subst (λ y. Represents n A y t.0) (sym (ap (λ z. if z then x else r.value (place q r.head j)) a)) t.2,
            )
        values-are c f j m false e =
            let s : j ≡ r.size = less-or-same j r.size m e in
            let a : nat_eq (place q r.head j) (place q r.head r.size) ≡ true = ap (λ k. nat_eq (place q r.head k) (place q r.head r.size)) s ∙ same-eq (place q r.head r.size) in (
              i,
              f (place q r.head j) ∙ ap (λ z. if z then Some i else part_of h.vals (place q r.head j)) a,
              subst (λ y. Represents n A y i) (sym (ap (λ z. if z then x else r.value (place q r.head j)) a)) w,
            )

  -- what the loop leaves
  pub record Loop (r : Ring) (rest : List Object) (l : Outcome) : Type 0 where
    pub object : Object
    pub is : l ≡ Some (object ∷ rest, None)
    pub holds : HoldsRing n q A r object

  abbrev the-loop : ℕ → ℕ → Frame → Outcome
  the-loop m k f = looped (λ g. value g (due_test q)) (run F (leave_body q)) m k f

  abbrev turned : ℕ → ℕ → Frame → Option Object → Outcome
  turned m k f E =
      bind (bind E is_set) (λ v. by_truth v (bind (bind (run F (leave_body q) (f ++ number u32 (pos k) ∷ [])) (leave f)) (go_on (the-loop m (suc k)))) (Some (f, None)))

  loop-cases : (m k : ℕ) (rest : List Object) (r : Ring) (o : Object) (h : HoldsRing n q A r o)
      → ((s : Ring) (p : Object) → HoldsRing n q A s p → Loop (leaving q m s) rest (the-loop m (suc k) (p ∷ rest)))
      → (b : Bool) → is_due q r ≡ b → Loop (leaving q (suc m) r) rest (the-loop (suc m) k (here-is rest r o h))
  loop-cases m k rest r o h on true e =
      let f : Frame = delay_object r.now h.outs r.head r.size h.ats h.vals ∷ rest in
      let j : List Object = number u32 (pos k) ∷ [] in
      let y : 1 ≤ r.size = some-size r.size (left-yes (nat_lt 0 r.size) (nat_le q (age r.now (r.at r.head))) e) in
      let b : Body (rest ++ number u32 (pos k) ∷ []) r (here-is (rest ++ number u32 (pos k) ∷ []) r o h) = body (rest ++ number u32 (pos k) ∷ []) r o h y in
      let l : Loop (leaving q m (left_one q r)) rest (the-loop m (suc k) (b.object ∷ rest)) = on (left_one q r) b.object b.holds in
      record {
        object = l.object;
        is = ap (turned m k f) (test (rest ++ number u32 (pos k) ∷ []) r o h ∙ ap (λ z. Some (truth z)) e)
            ∙ ap (λ R. bind (bind R (leave f)) (go_on (the-loop m (suc k)))) b.runs.is
            ∙ ap (λ us. the-loop m (suc k) (b.object ∷ us)) (take-front rest j) ∙ l.is;
        holds = subst (λ s. HoldsRing n q A s l.object) (sym (ap (λ z. if z then leaving q m (left_one q r) else r) e)) l.holds;
      }
  loop-cases m k rest r o h on false e =
      let f : Frame = delay_object r.now h.outs r.head r.size h.ats h.vals ∷ rest in
      record {
        object = delay_object r.now h.outs r.head r.size h.ats h.vals;
        is = ap (turned m k f) (test (rest ++ number u32 (pos k) ∷ []) r o h ∙ ap (λ z. Some (truth z)) e);
        holds = subst (λ s. HoldsRing n q A s (delay_object r.now h.outs r.head r.size h.ats h.vals)) (sym (ap (λ z. if z then leaving q m (left_one q r) else r) e)) (subst (HoldsRing n q A r) h.is h);
      }

  pub loops : (m k : ℕ) (rest : List Object) (r : Ring) (o : Object) → HoldsRing n q A r o → Loop (leaving q m r) rest (the-loop m k (o ∷ rest))
  loops zero k rest r o h = record { object = o; is = refl; holds = h }
  loops (suc m) k rest r o h =
      let l = loop-cases m k rest r o h (λ s p g. loops m (suc k) rest s p g) (is_due q r) refl in
      record {
        object = l.object;
        is = ap (λ p. the-loop (suc m) k (p ∷ rest)) h.is ∙ l.is;
        holds = l.holds;
      }

  -- the loop as a command
  pub whole-loop : (rest : List Object) (r : Ring) (o : Object) → HoldsRing n q A r o → (p : Object) × Runs F (loop q (due_test q) (leave_body q)) (o ∷ rest) (p ∷ rest, None) × HoldsRing n q A (leaving q q r) p
  whole-loop rest r o h =
      let l = loops q 0 rest r o h in (
        l.object,
        record { is = ap (λ b. if b then the-loop q 0 (o ∷ rest) else None) (yes-and (counter-free (length rest)) (u32-range q (omega arith))) ∙ l.is },
        l.holds,
      )
    where
      counter-free : (m : ℕ) → is_none_of (suc m) (written (leave_body q)) ≡ true
      counter-free m = yes-and (apart-zero m) (yes-and (apart-zero m) (yes-and (apart-zero m) refl))
        where
          apart-zero : (m : ℕ) → not (nat_eq (suc m) 0) ≡ true
          apart-zero m = ap not (eq-zero m)
