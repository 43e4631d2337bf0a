-- At an event of a collection members go on, on the other side, and others start behind them.
use Rattle.std.proofs.Common.{◌≡◌, ◌≤◌, ◌<◌, ◌+◌, ◌*◌, ◌^◌, ℕ, zero, suc, ℤ, pos, negsuc, ◌+ℤ◌, Bool, true, false, not, ◌&&◌, List, [], ◌∷◌, ◌++◌, map, length, take, Option, Some, None, FitsSigned, w64, refl, subst, sym, ap, ap₂, ◌∙◌, arith, append_assoc, append-nil}
use Rattle.std.specs.Prelude.{nat_lt, int_lt}
use Rattle.std.specs.Int.{int_rem_euclid}
use Rattle.std.proofs.lemmas.Int.{ints}
use Rattle.sample_core.specs.Datum.{Datum, Datums, int, elements}
use Rattle.sample_core.specs.TypeTree.{TypeTree, int_ty, pair_ty, list_ty}
use Rattle.leaf_code.specs.Fitting.{Bounds}
use Rattle.net_meaning.specs.SignalFunction.{item_at, item_named, items_named}
use Rattle.net_machine.specs.Store.{Moment, start, made, nothing}
use Rattle.net_machine.specs.Stepper.{Turn, new_turns, chosen_turns}
use Rattle.net_code.specs.Running.{Given}
use Rattle.c_meaning.specs.Object.{number_type, u32, u64, i64, Object, unset, truth, number, end, more, has_type, part_of, with_part}
use Rattle.c_meaning.specs.Syntax.{plus, less, Term, binary, cast, local, Command, skip, sequence, declare, assign, at, dot}
use Rattle.c_meaning.specs.Meaning.{Linked, bind, eval, both_of, operate, converted, arithmetic, replaced, is_none_of, written}
use Rattle.c_meaning.proofs.Wrapping.{check-yes}
use Rattle.c_meaning.proofs.Alike.{no, yes-and}
use Rattle.c_meaning.proofs.Runs.{Runs, then-run, assigns, skips}
use Rattle.c_leaf.specs.Representing.{two, c_type, Represents, c_int, c_pair, c_list, AllRepresent, c_end, c_more}
use Rattle.c_leaf.specs.LeafCLaw.{Computes}
use Rattle.c_leaf.proofs.Values.{has}
use Rattle.c_leaf.proofs.Same.{both-truths, set-object}
use Rattle.c_forms.specs.Keeping.{Shape, shape_type, most_members, written_count, side_number, collection_object, KeepsTurns, no_turn, made_kept, at_start}
use Rattle.c_forms.specs.Standing.{InScope, leaf_call}
use Rattle.c_forms.specs.Switches.{value_beside}
use Rattle.c_forms.specs.Collection.{count_term, count_of, side_of, other_side, running_of, spare_of, origin_of, started_by, element, one_more, kept_local, chosen_local, named_list, value_list, named_index, all_local, value_index, has_next, name_lines, value_lines, choice_lines}
use Rattle.c_forms.proofs.Lines.{member-range, register-is, turns-type, turns-length, write-state}
use Rattle.c_forms.proofs.Members.{stack, stack-part, stack-with}
use Rattle.c_forms.proofs.Loops.{other-local, declares, first-plain, second-plain, the-loop, goes-round, stops, loop-runs, write-register, counted, frame-length, as-long}
use Rattle.c_forms.proofs.Turns.{one-longer, take-all, take-full, take-again, AllAt, AtMoments, all-append, all-at-moments, moments-append, entry-set, turn-at, free-place}
use Rattle.c_forms.proofs.Sides.{E, all-type, side-type, spot, all-has, running, spare, write-spare, other-number, swapped, eval-at, eval-dot, write-at, write-dot, entry-parts}

-- whether a number names one of so many
abbrev names : ℤ → ℕ → Bool
names (pos j) c = nat_lt j c
names (negsuc j) c = false

named-test : (z : ℤ) (c : ℕ) → FitsSigned w64 z → c ≤ 64 → int_lt (int_rem_euclid z (pos (2 ^ 64))) (int_rem_euclid (pos c) (pos (2 ^ 64))) ≡ names z c
named-test (pos j) c f l = grind (arith, ints)
named-test (negsuc j) c f l = grind (arith, ints)

is-below : (j c : ℕ) → nat_lt j c ≡ true → j < c
is-below j c e = grind arith

not-below : (j c : ℕ) → nat_lt j c ≡ false → c ≤ j
not-below j c e = grind arith

below-is : (j c : ℕ) → j < c → nat_lt j c ≡ true
below-is j c l = grind arith

past-is : (j c : ℕ) → c ≤ j → nat_lt j c ≡ false
past-is j c l = grind arith

none-past : (ts : List Turn) (j : ℕ) → length ts ≤ j → item_at ts j ≡ []
none-past [] j l = refl
none-past (t ∷ ts) zero l = absurd (omega arith)
none-past (t ∷ ts) (suc j) l = none-past ts j (omega arith)

one-past : (k : ℕ) → k < 64 → arithmetic u32 (pos k +ℤ pos 1) ≡ Some (number u32 (pos (suc k)))
one-past k l = check-yes u32 (pos (k + 1)) (member-range (k + 1) (omega arith)) ∙ ap (λ j. Some (number u32 (pos j))) (one-plus k)
  where
    one-plus : (k : ℕ) → k + 1 ≡ suc k
    one-plus k = omega arith

longer-still : (k l : ℕ) → k ≤ l → k ≤ suc l
longer-still k l e = omega arith

zero-plus : (k : ℕ) → 0 + k ≡ k
zero-plus k = omega arith

zero-count : {a b : ℕ} → a ≡ b → a ≡ 0 + b
zero-count e = omega arith

same-size : (k : ℕ) → k ≤ k
same-size k = omega arith

and-no : (t : Bool) → (t && false) ≡ false
and-no true = refl
and-no false = refl

full : (k : ℕ) → k ≤ 64 → 64 ≤ k → k ≡ 64
full k a b = omega arith

plain : (j : ℕ) → j ≡ j + 0
plain j = omega arith

shift : (j k : ℕ) → suc j + k ≡ j + suc k
shift j k = omega arith

abbrev count-object : ℕ → Object
count-object k = number u32 (pos k)

abbrev less-counts : Option Object → Option Object → Option Object
less-counts A B = bind A (λ v. bind B (λ w. operate less u32 v w))

abbrev less-numbers : Option Object → Option Object → Option Object
less-numbers A B = bind (bind A (converted u64)) (λ v. bind (bind B (converted u64)) (λ w. operate less u64 v w))

abbrev both-results : Option Object → Option Object → Option Object
both-results A B = bind A (λ v. both_of v B)

module _ (n : Bounds) (Ps : List TypeTree) (Os : List Shape) (F : ℕ → Linked) (g : Given) (qs : List Object) (h : InScope n Ps Os g qs) (V : TypeTree) (M T : Shape) (few : written_count M ≤ most_members) where
  abbrev here : Object → Object → Object → List Object → List Object
  here o d i rs = spot n Ps Os F g qs h V M T o d i rs

  abbrev Typed : Object → Type 0
  Typed b = has_type (side-type n Ps Os F g qs h V M T) b ≡ true

  abbrev Turns : List Turn → Object → Type 0
  Turns ts b = KeepsTurns n V M T most_members ts b

  -- the test of both loops
  next-test : (f : List Object) (e w k : Term) (x y z : ℕ) (es : Object) → eval f e ≡ Some (count-object x) → eval f w ≡ Some (two (count-object y) es) → eval f k ≡ Some (count-object z)
      → eval f (has_next n Ps Os e w k) ≡ Some (truth (nat_lt x y && nat_lt z 64))
  next-test f e w k x y z es ee ew ek =
      ap₂ both-results (ap₂ less-counts ee (eval-dot f w (two (count-object y) es) (count-object y) 0 ew refl)) (ap (λ E. less-counts E (Some (count-object 64))) ek)
      ∙ both-truths (nat_lt x y) (nat_lt z 64)

  -- lists that an event chooses: c members run; they stand on this side
  module _ (z : Bool) (a d i : Object) (ms : List Turn) (m : Moment) (ka : KeepsTurns n V M T most_members ms a) (same : AllAt m ms) where
    abbrev c : ℕ
    c = length ms

    abbrev state : Object → Object
    state b = collection_object (length ms) z a b

    few-run : length ms ≤ most_members
    few-run = turns-length n ka

    typed-a : Typed a
    typed-a = turns-type n few ka

    record Chose (C : Command) (f1 : List Object) (f2 : ℕ → Object → List Object) (want : List Turn) : Type 0 where
      turns_are : List Turn
      side_is : Object
      runs : Runs F C f1 (f2 (length turns_are) side_is, None)
      keeps : Turns turns_are side_is
      all : AllAt m turns_are
      is : turns_are ≡ want

    -- the list of numbers
    module _ (total : ℕ) (es ws : Object) where
      abbrev chosen : Object
      chosen = two (two (count-object total) es) ws

      abbrev named-at : ℕ → ℕ → Object → List Object
      named-at j k b = here (state b) d i (count-object k ∷ chosen ∷ count-object j ∷ [])

      number-there : (j k : ℕ) (b e : Object) → part_of es j ≡ Some e → eval (named-at j k b) (element (named_list n Ps Os) (named_index n Ps Os)) ≡ Some e
      number-there j k b e p =
          let rs : List Object = count-object k ∷ chosen ∷ count-object j ∷ [] in
          let f : List Object = named-at j k b in
          let l = eval-dot f (chosen_local n Ps Os) chosen (two (count-object total) es) 0 (register-is n Ps Os F g qs h (state b) d i rs 1 chosen refl) refl in
          eval-at f (dot (named_list n Ps Os) 1) (named_index n Ps Os) es e j (eval-dot f (named_list n Ps Os) (two (count-object total) es) es 1 l refl)
          (register-is n Ps Os F g qs h (state b) d i rs 2 (count-object j) refl) p

      -- member v goes on
      goes-on : (j v : ℕ) (acc : List Turn) (b : Object) → part_of es j ≡ Some (number i64 (pos v)) → Turns acc b → AllAt m acc → length acc < most_members → v < length ms
          → Chose (sequence (assign (at spare_of (kept_local n Ps Os)) (at running_of (element (named_list n Ps Os) (named_index n Ps Os)))) (one_more (kept_local n Ps Os)))
          (named-at j (length acc) b) (λ k b. named-at j k b) (acc ++ item_at ms v)
      goes-on j v acc b p kb all room lv =
          let t = turn-at n V M T m v ka same lv in
          let o = free-place n V M T most_members few kb room in
          let rs : List Object = count-object (length acc) ∷ chosen ∷ count-object j ∷ [] in
          let b1 : Object = stack o.front (more t.object o.rest) in
          let k1 : Turns (acc ++ (m, (t.origin, t.store)) ∷ []) b1 = o.keeps m t.origin t.store t.object t.keeps in
          let f0 : List Object = named-at j (length acc) b in
          let f1 : List Object = here (state b1) d i rs in
          let ek = register-is n Ps Os F g qs h (state b) d i rs 0 (count-object (length acc)) refl in
          let put : with_part b (length acc) t.object ≡ Some b1 = ap₂ (λ y j. with_part y j t.object) o.is (sym o.count) ∙ stack-with o.front o.object o.rest t.object in
          let one-line = assigns F (at spare_of (kept_local n Ps Os)) (at running_of (element (named_list n Ps Os) (named_index n Ps Os))) f0 f1 t.object
          (eval-at f0 running_of (element (named_list n Ps Os) (named_index n Ps Os)) a t.object v (running n Ps Os F g qs h V M T (length ms) z a b d i rs) (number-there j (length acc) b (number i64 (pos v)) p) t.at)
          (entry-set n V M T t.keeps)
          (write-at f0 f1 spare_of (kept_local n Ps Os) b b1 t.object (length acc) (spare n Ps Os F g qs h V M T (length ms) z a b d i rs) ek put
          (write-spare n Ps Os F g qs h V M T (length ms) z a b b1 d i rs few-run typed-a (turns-type n few kb) (turns-type n few k1))) in
          let two-line = assigns F (kept_local n Ps Os) _ f1 (here (state b1) d i (count-object (suc (length acc)) ∷ chosen ∷ count-object j ∷ [])) (count-object (suc (length acc)))
          (ap (λ E. bind E (λ v. operate plus u32 v (number u32 (pos 1)))) (register-is n Ps Os F g qs h (state b1) d i rs 0 (count-object (length acc)) refl) ∙ one-past (length acc) room) refl
          (write-register n Ps Os F g qs h 0 (state b1) d i (count-object (length acc)) (count-object (suc (length acc))) [] (chosen ∷ count-object j ∷ []) refl refl) in
          record {
            turns_are = acc ++ (m, (t.origin, t.store)) ∷ [];
            side_is = b1;
            runs = subst (λ k. Runs F (sequence (assign (at spare_of (kept_local n Ps Os)) (at running_of (element (named_list n Ps Os) (named_index n Ps Os)))) (one_more (kept_local n Ps Os))) f0 (named-at j k b1, None))
                (one-longer acc (m, (t.origin, t.store))) (then-run F one-line two-line);
            keeps = k1;
            all = all-append m acc ((m, (t.origin, t.store)) ∷ []) all (refl, tt);
            is = ap (λ (us : List Turn). acc ++ us) (sym t.is);
          }

      abbrev name-test : Term
      name-test = binary less u64 (cast u64 (element (named_list n Ps Os) (named_index n Ps Os))) (cast u64 count_of)

      test-is : (j : ℕ) (acc : List Turn) (b : Object) (v : ℤ) → part_of es j ≡ Some (number i64 v) → FitsSigned w64 v → eval (named-at j (length acc) b) name-test ≡ Some (truth (names v (length ms)))
      test-is j acc b v p fv = ap (λ E. less-numbers E (Some (count-object (length ms)))) (number-there j (length acc) b (number i64 v) p) ∙ ap (λ t. Some (truth t)) (named-test v (length ms) fv few-run)

      stays : (j : ℕ) (acc : List Turn) (b : Object) (v : ℤ) → part_of es j ≡ Some (number i64 v) → FitsSigned w64 v → Turns acc b → AllAt m acc → names v (length ms) ≡ false → item_named ms (int v) ≡ []
          → Chose (name_lines n Ps Os) (named-at j (length acc) b) (λ k b. named-at j k b) (acc ++ item_named ms (int v))
      stays j acc b v p fv kb all e none = record {
        turns_are = acc;
        side_is = b;
        runs = second-plain F _ skip name-test (named-at j (length acc) b) (named-at j (length acc) b) None (test-is j acc b v p fv ∙ ap (λ t. Some (truth t)) e) (skips F) refl;
        keeps = kb;
        all = all;
        is = sym (append-nil acc) ∙ ap (λ (us : List Turn). acc ++ us) (sym none);
      }

      name-cases : (j : ℕ) (acc : List Turn) (b : Object) (v : ℤ) → part_of es j ≡ Some (number i64 v) → FitsSigned w64 v → Turns acc b → AllAt m acc → length acc < most_members → (t : Bool) → names v (length ms) ≡ t
          → Chose (name_lines n Ps Os) (named-at j (length acc) b) (λ k b. named-at j k b) (acc ++ item_named ms (int v))
      name-cases j acc b (pos v) p fv kb all room true e =
          let r = goes-on j v acc b p kb all room (is-below v (length ms) e) in
          record {
            turns_are = r.turns_are;
            side_is = r.side_is;
            runs = first-plain F _ skip name-test (named-at j (length acc) b) (named-at j (length r.turns_are) r.side_is) None (test-is j acc b (pos v) p fv ∙ ap (λ t. Some (truth t)) e) r.runs
                (as-long n Ps Os F g qs h (state b) (state r.side_is) d i (count-object (length acc) ∷ chosen ∷ count-object j ∷ []) (count-object (length r.turns_are) ∷ chosen ∷ count-object j ∷ []) refl);
            keeps = r.keeps;
            all = r.all;
            is = r.is;
          }
      name-cases j acc b (negsuc v) p fv kb all room true e = no e
      name-cases j acc b (pos v) p fv kb all room false e = stays j acc b (pos v) p fv kb all e (none-past ms v (not-below v (length ms) e))
      name-cases j acc b (negsuc v) p fv kb all room false e = stays j acc b (negsuc v) p fv kb all e refl

      name-step : (j : ℕ) (acc : List Turn) (b : Object) {v : Datum} {e : Object} → Represents n int_ty v e → part_of es j ≡ Some e → Turns acc b → AllAt m acc → length acc < most_members
          → Chose (name_lines n Ps Os) (named-at j (length acc) b) (λ k b. named-at j k b) (acc ++ item_named ms v)
      name-step j acc b (c_int {z = v} fv) p kb all room = name-cases j acc b v p fv kb all room (names v (length ms)) refl

      abbrev loop-test : Term
      loop-test = has_next n Ps Os (named_index n Ps Os) (named_list n Ps Os) (kept_local n Ps Os)

      abbrev before : ℕ → Object → List Object
      before k b = here (state b) d i (count-object k ∷ chosen ∷ [])

      record Looped (l j : ℕ) (acc : List Turn) (b : Object) (want : List Turn) : Type 0 where
        turns_are : List Turn
        side_is : Object
        loops : the-loop F loop-test (name_lines n Ps Os) l j (before (length acc) b) ≡ Some (before (length turns_are) side_is, None)
        keeps : Turns turns_are side_is
        all : AllAt m turns_are
        is : turns_are ≡ want

      loop-test-is : (j : ℕ) (acc : List Turn) (b : Object) → eval (named-at j (length acc) b) loop-test ≡ Some (truth (nat_lt j total && nat_lt (length acc) 64))
      loop-test-is j acc b =
          let rs : List Object = count-object (length acc) ∷ chosen ∷ count-object j ∷ [] in
          let f : List Object = named-at j (length acc) b in
          next-test f (named_index n Ps Os) (named_list n Ps Os) (kept_local n Ps Os) j total (length acc) es (register-is n Ps Os F g qs h (state b) d i rs 2 (count-object j) refl)
          (eval-dot f (chosen_local n Ps Os) chosen (two (count-object total) es) 0 (register-is n Ps Os F g qs h (state b) d i rs 1 chosen refl) refl)
          (register-is n Ps Os F g qs h (state b) d i rs 0 (count-object (length acc)) refl)

      no-more : (l j : ℕ) (acc : List Turn) (b : Object) (want : List Turn) → nat_lt j total && nat_lt (length acc) 64 ≡ false → Turns acc b → AllAt m acc → acc ≡ want → Looped (suc l) j acc b want
      no-more l j acc b want e kb all w = record {
        turns_are = acc;
        side_is = b;
        loops = stops F loop-test (name_lines n Ps Os) l j (before (length acc) b) (named-at j (length acc) b) (counted n Ps Os F g qs h (state b) d i (count-object (length acc) ∷ chosen ∷ []) (count-object j))
            (loop-test-is j acc b ∙ ap (λ t. Some (truth t)) e);
        keeps = kb;
        all = all;
        is = w;
      }

      named-more : (l : ℕ) {v : Datum} {e : Object} (us : Datums) → Represents n int_ty v e → (j : ℕ) → part_of es j ≡ Some e → j < total
          → ((acc : List Turn) (b : Object) → Turns acc b → AllAt m acc → Looped l (suc j) acc b (take 64 (acc ++ items_named ms (elements us))))
          → (acc : List Turn) (b : Object) → Turns acc b → AllAt m acc → (t : Bool) → nat_lt (length acc) 64 ≡ t
          → Looped (suc l) j acc b (take 64 (acc ++ (item_named ms v ++ items_named ms (elements us))))
      named-more l us r j look et on acc b kb all false e =
          no-more l j acc b _ (ap (λ t. nat_lt j total && t) e ∙ and-no (nat_lt j total)) kb all (sym (take-full 64 acc _ (full (length acc) (turns-length n kb) (not-below (length acc) 64 e))))
      named-more l {v = v} us r j look et on acc b kb all true e =
          let room : length acc < 64 = is-below (length acc) 64 e in
          let s = name-step j acc b r look kb all room in
          let q = on s.turns_are s.side_is s.keeps s.all in
          let us1 : List Object = count-object (length acc) ∷ chosen ∷ [] in
          record {
            turns_are = q.turns_are;
            side_is = q.side_is;
            loops = goes-round F loop-test (name_lines n Ps Os) l j (before (length acc) b) (named-at j (length acc) b) (before (length s.turns_are) s.side_is) (count-object j ∷ []) (before (length q.turns_are) q.side_is)
                (counted n Ps Os F g qs h (state b) d i us1 (count-object j))
                (loop-test-is j acc b ∙ ap₂ (λ x y. Some (truth (x && y))) (below-is j total et) e)
                (subst (λ y. Runs F (name_lines n Ps Os) (named-at j (length acc) b) (y, None)) (sym (counted n Ps Os F g qs h (state s.side_is) d i (count-object (length s.turns_are) ∷ chosen ∷ []) (count-object j))) s.runs)
                (as-long n Ps Os F g qs h (state b) (state s.side_is) d i us1 (count-object (length s.turns_are) ∷ chosen ∷ []) refl) q.loops;
            keeps = q.keeps;
            all = q.all;
            is = q.is ∙ ap (λ (ts : List Turn). take 64 (ts ++ items_named ms (elements us))) s.is ∙ ap (take 64) (append_assoc acc (item_named ms v) (items_named ms (elements us)));
          }

      -- so many turns are left, of which the list has us
      named-run : (l : ℕ) {us : Datums} {arr : Object} → AllRepresent n int_ty l us arr → (j : ℕ) → ((k : ℕ) → part_of es (j + k) ≡ part_of arr k) → total ≡ j + length (elements us) → (acc : List Turn) (b : Object)
          → Turns acc b → AllAt m acc → Looped l j acc b (take 64 (acc ++ items_named ms (elements us)))
      named-run zero (c_end e) j look et acc b kb all = record { turns_are = acc; side_is = b; loops = refl; keeps = kb; all = all; is = sym (ap (take 64) (append-nil acc) ∙ take-all 64 acc (turns-length n kb)) }
      named-run (suc l) (c_end e) j look et acc b kb all =
          no-more l j acc b _ (ap (λ t. t && nat_lt (length acc) 64) (past-is j total (omega arith))) kb all (sym (ap (take 64) (append-nil acc) ∙ take-all 64 acc (turns-length n kb)))
      named-run (suc l) (c_more {vs = us} r rs) j look et acc b kb all =
          named-more l us r j (ap (part_of es) (plain j) ∙ look 0) (omega arith) (λ acc b kb all. named-run l rs (suc j) (λ k. ap (part_of es) (shift j k) ∙ look (suc k)) (omega arith) acc b kb all) acc b kb all (nat_lt (length acc) 64) refl

    -- the list of values: k members go on
    module _ (k total : ℕ) (ns es : Object) where
      abbrev values-chosen : Object
      values-chosen = two ns (two (count-object total) es)

      abbrev valued-at : ℕ → ℕ → Object → List Object
      valued-at j l b = here (state b) d i (count-object k ∷ values-chosen ∷ count-object l ∷ count-object j ∷ [])

      value-there : (j l : ℕ) (b e : Object) → part_of es j ≡ Some e → eval (valued-at j l b) (element (value_list n Ps Os) (value_index n Ps Os)) ≡ Some e
      value-there j l b e p =
          let rs : List Object = count-object k ∷ values-chosen ∷ count-object l ∷ count-object j ∷ [] in
          let f : List Object = valued-at j l b in
          let w = eval-dot f (chosen_local n Ps Os) values-chosen (two (count-object total) es) 1 (register-is n Ps Os F g qs h (state b) d i rs 1 values-chosen refl) refl in
          eval-at f (dot (value_list n Ps Os) 1) (value_index n Ps Os) es e j (eval-dot f (value_list n Ps Os) (two (count-object total) es) es 1 w refl)
          (register-is n Ps Os F g qs h (state b) d i rs 3 (count-object j) refl) p

      record Valued (C : Command) (f1 : List Object) (f2 : ℕ → Object → List Object) (want : List Turn) : Type 0 where
        turns_are : List Turn
        side_is : Object
        runs : Runs F C f1 (f2 (length turns_are) side_is, None)
        keeps : Turns turns_are side_is
        moments : AtMoments m k turns_are
        many : k ≤ length turns_are
        is : turns_are ≡ want

      -- a member starts, by the value v
      value-step : (j : ℕ) (acc : List Turn) (b : Object) {v : Datum} {e : Object} → Represents n V v e → part_of es j ≡ Some e → Turns acc b → AtMoments m k acc → k ≤ length acc → length acc < most_members
          → Valued (value_lines n Ps Os (written_count M)) (valued-at j (length acc) b) (λ l b. valued-at j l b) (acc ++ (start, (made v, nothing)) ∷ [])
      value-step j acc b {v} {e} r p kb am many room =
          let o = free-place n V M T most_members few kb room in
          let q = entry-parts (c_type n V) (shape_type n T) (shape_type n M) o.object o.has_it in
          let w : ℕ = written_count M in
          let x0 : Object = more q.origin (more q.by (more q.taker q.all)) in
          let x1 : Object = more (count-object (written_count M)) (more q.by (more q.taker q.all)) in
          let x2 : Object = more (count-object (written_count M)) (more e (more q.taker q.all)) in
          let t1 : has_type (E n Ps Os F g qs h V M T) x1 ≡ true = yes-and (member-range (written_count M) few) (yes-and q.has_by (yes-and q.has_taker q.has_all)) in
          let t2 : has_type (E n Ps Os F g qs h V M T) x2 ≡ true = yes-and (member-range (written_count M) few) (yes-and (has n r) (yes-and q.has_taker q.has_all)) in
          let b1 : Object = stack o.front (more x1 o.rest) in
          let b2 : Object = stack o.front (more x2 o.rest) in
          let is0 : b ≡ stack o.front (more x0 o.rest) = o.is ∙ ap (λ y. stack o.front (more y o.rest)) q.is in
          let rs : List Object = count-object k ∷ values-chosen ∷ count-object (length acc) ∷ count-object j ∷ [] in
          let f0 : List Object = valued-at j (length acc) b in
          let f1 : List Object = here (state b1) d i rs in
          let f2 : List Object = here (state b2) d i rs in
          let all = all_local n Ps Os in
          let k0 = register-is n Ps Os F g qs h (state b) d i rs 2 (count-object (length acc)) refl in
          let k1 = register-is n Ps Os F g qs h (state b1) d i rs 2 (count-object (length acc)) refl in
          let one-line = assigns F (origin_of (at spare_of all)) (count_term w) f0 f1 (count-object w) (check-yes u32 (pos w) (member-range w few)) refl
          (write-dot f0 f1 (at spare_of all) x0 x1 (count-object w) 0
          (eval-at f0 spare_of all b x0 (length acc) (spare n Ps Os F g qs h V M T (length ms) z a b d i rs) k0 (ap₂ (λ y j. part_of y j) is0 (sym o.count) ∙ stack-part o.front x0 o.rest)) refl
          (write-at f0 f1 spare_of all b b1 x1 (length acc) (spare n Ps Os F g qs h V M T (length ms) z a b d i rs) k0 (ap₂ (λ y j. with_part y j x1) is0 (sym o.count) ∙ stack-with o.front x0 o.rest x1)
          (write-spare n Ps Os F g qs h V M T (length ms) z a b b1 d i rs few-run typed-a (turns-type n few kb) (o.fits x1 t1)))) in
          let two-line = assigns F (started_by (at spare_of all)) (element (value_list n Ps Os) (value_index n Ps Os)) f1 f2 e (value-there j (length acc) b1 e p) (set-object n r)
          (write-dot f1 f2 (at spare_of all) x1 x2 e 1
          (eval-at f1 spare_of all b1 x1 (length acc) (spare n Ps Os F g qs h V M T (length ms) z a b1 d i rs) k1 (ap (λ j. part_of b1 j) (sym o.count) ∙ stack-part o.front x1 o.rest)) refl
          (write-at f1 f2 spare_of all b1 b2 x2 (length acc) (spare n Ps Os F g qs h V M T (length ms) z a b1 d i rs) k1 (ap (λ j. with_part b1 j x2) (sym o.count) ∙ stack-with o.front x1 o.rest x2)
          (write-spare n Ps Os F g qs h V M T (length ms) z a b1 b2 d i rs few-run typed-a (o.fits x1 t1) (o.fits x2 t2)))) in
          let three = assigns F all (binary plus u32 all (count_term 1)) f2 (here (state b2) d i (count-object k ∷ values-chosen ∷ count-object (suc (length acc)) ∷ count-object j ∷ [])) (count-object (suc (length acc)))
          (ap (λ E. bind E (λ v. operate plus u32 v (count-object 1))) (register-is n Ps Os F g qs h (state b2) d i rs 2 (count-object (length acc)) refl) ∙ one-past (length acc) room) refl
          (write-register n Ps Os F g qs h 2 (state b2) d i (count-object (length acc)) (count-object (suc (length acc))) (count-object k ∷ values-chosen ∷ []) (count-object j ∷ []) refl refl) in
          record {
            turns_are = acc ++ (start, (made v, nothing)) ∷ [];
            side_is = b2;
            runs = subst (λ l. Runs F (value_lines n Ps Os (written_count M)) f0 (valued-at j l b2, None)) (one-longer acc (start, (made v, nothing))) (then-run F one-line (then-run F two-line three));
            keeps = o.keeps start (made v) nothing x2 (made_kept r (at_start q.has_taker) q.has_all);
            moments = moments-append m k acc (made v, nothing) many am;
            many = subst (λ l. k ≤ l) (one-longer acc (start, (made v, nothing))) (longer-still k (length acc) many);
            is = refl;
          }

      abbrev value-test : Term
      value-test = has_next n Ps Os (value_index n Ps Os) (value_list n Ps Os) (all_local n Ps Os)

      abbrev values-before : ℕ → Object → List Object
      values-before l b = here (state b) d i (count-object k ∷ values-chosen ∷ count-object l ∷ [])

      record Started (l j : ℕ) (acc : List Turn) (b : Object) (want : List Turn) : Type 0 where
        turns_are : List Turn
        side_is : Object
        loops : the-loop F value-test (value_lines n Ps Os (written_count M)) l j (values-before (length acc) b) ≡ Some (values-before (length turns_are) side_is, None)
        keeps : Turns turns_are side_is
        moments : AtMoments m k turns_are
        is : turns_are ≡ want

      value-test-is : (j : ℕ) (acc : List Turn) (b : Object) → eval (valued-at j (length acc) b) value-test ≡ Some (truth (nat_lt j total && nat_lt (length acc) 64))
      value-test-is j acc b =
          let rs : List Object = count-object k ∷ values-chosen ∷ count-object (length acc) ∷ count-object j ∷ [] in
          let f : List Object = valued-at j (length acc) b in
          next-test f (value_index n Ps Os) (value_list n Ps Os) (all_local n Ps Os) j total (length acc) es (register-is n Ps Os F g qs h (state b) d i rs 3 (count-object j) refl)
          (eval-dot f (chosen_local n Ps Os) values-chosen (two (count-object total) es) 1 (register-is n Ps Os F g qs h (state b) d i rs 1 values-chosen refl) refl)
          (register-is n Ps Os F g qs h (state b) d i rs 2 (count-object (length acc)) refl)

      none-left : (l j : ℕ) (acc : List Turn) (b : Object) (want : List Turn) → nat_lt j total && nat_lt (length acc) 64 ≡ false → Turns acc b → AtMoments m k acc → acc ≡ want → Started (suc l) j acc b want
      none-left l j acc b want e kb am w = record {
        turns_are = acc;
        side_is = b;
        loops = stops F value-test (value_lines n Ps Os (written_count M)) l j (values-before (length acc) b) (valued-at j (length acc) b) (counted n Ps Os F g qs h (state b) d i (count-object k ∷ values-chosen ∷ count-object (length acc) ∷ []) (count-object j))
            (value-test-is j acc b ∙ ap (λ t. Some (truth t)) e);
        keeps = kb;
        moments = am;
        is = w;
      }

      value-more : (l : ℕ) {v : Datum} {e : Object} (us : Datums) → Represents n V v e → (j : ℕ) → part_of es j ≡ Some e → j < total
          → ((acc : List Turn) (b : Object) → Turns acc b → AtMoments m k acc → k ≤ length acc → Started l (suc j) acc b (take 64 (acc ++ new_turns (map made (elements us)))))
          → (acc : List Turn) (b : Object) → Turns acc b → AtMoments m k acc → k ≤ length acc → (t : Bool) → nat_lt (length acc) 64 ≡ t
          → Started (suc l) j acc b (take 64 (acc ++ ((start, (made v, nothing)) ∷ new_turns (map made (elements us)))))
      value-more l us r j look et on acc b kb am many false e =
          none-left l j acc b _ (ap (λ t. nat_lt j total && t) e ∙ and-no (nat_lt j total)) kb am (sym (take-full 64 acc _ (full (length acc) (turns-length n kb) (not-below (length acc) 64 e))))
      value-more l {v = v} us r j look et on acc b kb am many true e =
          let room : length acc < 64 = is-below (length acc) 64 e in
          let s = value-step j acc b r look kb am many room in
          let q = on s.turns_are s.side_is s.keeps s.moments s.many in
          let us1 : List Object = count-object k ∷ values-chosen ∷ count-object (length acc) ∷ [] in
          let us2 : List Object = count-object k ∷ values-chosen ∷ count-object (length s.turns_are) ∷ [] in
          record {
            turns_are = q.turns_are;
            side_is = q.side_is;
            loops = goes-round F value-test (value_lines n Ps Os (written_count M)) l j (values-before (length acc) b) (valued-at j (length acc) b) (values-before (length s.turns_are) s.side_is) (count-object j ∷ []) (values-before (length q.turns_are) q.side_is)
                (counted n Ps Os F g qs h (state b) d i us1 (count-object j))
                (value-test-is j acc b ∙ ap₂ (λ x y. Some (truth (x && y))) (below-is j total et) e)
                (subst (λ y. Runs F (value_lines n Ps Os (written_count M)) (valued-at j (length acc) b) (y, None)) (sym (counted n Ps Os F g qs h (state s.side_is) d i us2 (count-object j))) s.runs)
                (as-long n Ps Os F g qs h (state b) (state s.side_is) d i us1 us2 refl) q.loops;
            keeps = q.keeps;
            moments = q.moments;
            is = q.is ∙ ap (λ (ts : List Turn). take 64 (ts ++ new_turns (map made (elements us)))) s.is ∙ ap (take 64) (append_assoc acc ((start, (made v, nothing)) ∷ []) (new_turns (map made (elements us))));
          }

      value-run : (l : ℕ) {us : Datums} {arr : Object} → AllRepresent n V l us arr → (j : ℕ) → ((k : ℕ) → part_of es (j + k) ≡ part_of arr k) → total ≡ j + length (elements us) → (acc : List Turn) (b : Object)
          → Turns acc b → AtMoments m k acc → k ≤ length acc → Started l j acc b (take 64 (acc ++ new_turns (map made (elements us))))
      value-run zero (c_end e) j look et acc b kb am many =
          record { turns_are = acc; side_is = b; loops = refl; keeps = kb; moments = am; is = sym (ap (take 64) (append-nil acc) ∙ take-all 64 acc (turns-length n kb)) }
      value-run (suc l) (c_end e) j look et acc b kb am many =
          none-left l j acc b _ (ap (λ t. t && nat_lt (length acc) 64) (past-is j total (omega arith))) kb am (sym (ap (take 64) (append-nil acc) ∙ take-all 64 acc (turns-length n kb)))
      value-run (suc l) (c_more {vs = us} r rs) j look et acc b kb am many =
          value-more l us r j (ap (part_of es) (plain j) ∙ look 0) (omega arith)
          (λ acc b kb am many. value-run l rs (suc j) (λ k. ap (part_of es) (shift j k) ∙ look (suc k)) (omega arith) acc b kb am many) acc b kb am many (nat_lt (length acc) 64) refl

    -- all the lines, from a side that has nothing yet
    module _ (C : TypeTree) (r : ℕ) (v : List Datum → Datum → Datum) (hr : Computes n Ps C (pair_ty (list_ty int_ty) (list_ty V)) v (F r)) (small-named : n int_ty < 2 ^ 32) (small-values : n V < 2 ^ 32) where
      pub record Choice (f : List Object) (want : List Turn) : Type 0 where
        pub turns_are : List Turn
        pub side_is : Object
        pub other_is : Object
        pub kept : ℕ
        pub locals : List Object
        pub runs : Runs F (choice_lines n Ps Os V r (written_count M)) f (here (collection_object (length turns_are) (not z) side_is other_is) d i (count-object kept ∷ locals), None)
        pub keeps : Turns turns_are side_is
        pub typed : Typed other_is
        pub moments : AtMoments m kept turns_are
        pub is : turns_are ≡ want

      -- the loops' counters are not written
      named-free : (o p q : Object) → is_none_of (length (here o d i (p ∷ q ∷ []))) (written (name_lines n Ps Os)) ≡ true
      named-free o p q =
          ap (λ l. is_none_of l (written (name_lines n Ps Os))) (frame-length n Ps Os F g qs h o d i (p ∷ q ∷ []))
          ∙ yes-and (other-local (3 + (length Ps + 2 * length Os) + 2) 0 (omega arith)) (yes-and (other-local (3 + (length Ps + 2 * length Os) + 2) (3 + (length Ps + 2 * length Os) + 0) (omega arith)) refl)

      valued-free : (o p q r : Object) → is_none_of (length (here o d i (p ∷ q ∷ r ∷ []))) (written (value_lines n Ps Os (written_count M))) ≡ true
      valued-free o p q r =
          ap (λ l. is_none_of l (written (value_lines n Ps Os (written_count M)))) (frame-length n Ps Os F g qs h o d i (p ∷ q ∷ r ∷ []))
          ∙ yes-and (other-local (3 + (length Ps + 2 * length Os) + 3) 0 (omega arith)) (yes-and (other-local (3 + (length Ps + 2 * length Os) + 3) 0 (omega arith))
          (yes-and (other-local (3 + (length Ps + 2 * length Os) + 3) (3 + (length Ps + 2 * length Os) + 2) (omega arith)) refl))

      pub chose : (before-it : ℕ) (b : Object) {w : Datum} {y : Object} → Typed b → Represents n (pair_ty (list_ty int_ty) (list_ty V)) w y
          → Runs F (leaf_call n Ps Os (pair_ty (list_ty int_ty) (list_ty V)) r (value_beside n Ps Os (local 2))) (here (state b) d i (count-object before-it ∷ [])) (here (state b) d i (count-object before-it ∷ y ∷ []), None)
          → Choice (here (state b) d i (count-object before-it ∷ [])) (chosen_turns ms w)
      chose k0 b hb (c_pair (c_list {vs = us} {k = t1} {o = es} e1 l1 h1) (c_list {vs = vs} {k = t2} {o = ws} e2 l2 h2)) leaf =
          let ns : Object = two (count-object t1) es in
          let ls : Object = two (count-object t2) ws in
          let y : Object = two ns ls in
          let kept = kept_local n Ps Os in
          let all = all_local n Ps Os in
          let one-line = assigns F kept (count_term 0) (here (state b) d i (count-object k0 ∷ y ∷ [])) (here (state b) d i (count-object 0 ∷ y ∷ [])) (count-object 0) refl refl
          (write-register n Ps Os F g qs h 0 (state b) d i (count-object k0) (count-object 0) [] (y ∷ []) refl refl) in
          let u = named-run t1 es ls (n int_ty) h1 0 (λ k. ap (part_of es) (zero-plus k)) (zero-count e1) [] b (no_turn hb) tt in
          let k1 : ℕ = length u.turns_are in
          let b1 : Object = u.side_is in
          let two-line = loop-runs F (has_next n Ps Os (named_index n Ps Os) (named_list n Ps Os) kept) (name_lines n Ps Os) (n int_ty) (here (state b) d i (count-object 0 ∷ y ∷ [])) (here (state b1) d i (count-object k1 ∷ y ∷ []))
          (named-free (state b) (count-object 0) y) small-named u.loops in
          let f1 : List Object = here (state b1) d i (count-object k1 ∷ y ∷ []) in
          let three = subst (λ f. Runs F (declare (number_type u32)) f1 (f, None)) (counted n Ps Os F g qs h (state b1) d i (count-object k1 ∷ y ∷ []) unset) (declares F (number_type u32) f1 refl) in
          let four = assigns F all kept (here (state b1) d i (count-object k1 ∷ y ∷ unset ∷ [])) (here (state b1) d i (count-object k1 ∷ y ∷ count-object k1 ∷ [])) (count-object k1)
          (register-is n Ps Os F g qs h (state b1) d i (count-object k1 ∷ y ∷ unset ∷ []) 0 (count-object k1) refl) refl
          (write-register n Ps Os F g qs h 2 (state b1) d i unset (count-object k1) (count-object k1 ∷ y ∷ []) [] refl refl) in
          let q = value-run k1 t2 ns ws (n V) h2 0 (λ k. ap (part_of ws) (zero-plus k)) (zero-count e2) u.turns_are b1 u.keeps (all-at-moments m u.turns_are u.all) (same-size k1) in
          let k2 : ℕ = length q.turns_are in
          let b2 : Object = q.side_is in
          let rs : List Object = count-object k1 ∷ y ∷ count-object k2 ∷ [] in
          let five = loop-runs F (has_next n Ps Os (value_index n Ps Os) (value_list n Ps Os) all) (value_lines n Ps Os (written_count M)) (n V) (here (state b1) d i (count-object k1 ∷ y ∷ count-object k1 ∷ [])) (here (state b2) d i rs)
          (valued-free (state b1) (count-object k1) y (count-object k1)) small-values q.loops in
          let l2 : length q.turns_are ≤ most_members = turns-length n q.keeps in
          let hb2 = turns-type n few q.keeps in
          let o2 : Object = collection_object k2 z a b2 in
          let o3 : Object = collection_object k2 (not z) b2 a in
          let six = assigns F count_of all (here (state b2) d i rs) (here o2 d i rs) (count-object k2) (register-is n Ps Os F g qs h (state b2) d i rs 2 (count-object k2) refl) refl
          (write-state n Ps Os F g qs h (all-type n Ps Os F g qs h V M T) (state b2) o2 d i rs (all-has n Ps Os F g qs h V M T (length ms) z a b2 few-run typed-a hb2) (all-has n Ps Os F g qs h V M T k2 z a b2 l2 typed-a hb2)) in
          let seven = assigns F side_of other_side (here o2 d i rs) (here o3 d i rs) (count-object (side_number (not z))) (other-number z) refl
          (ap (λ x. replaced (here o2 d i rs) 0 o2 (more (count-object k2) (more (count-object (side_number (not z))) (more x end)))) (swapped z a b2)
          ∙ write-state n Ps Os F g qs h (all-type n Ps Os F g qs h V M T) o2 o3 d i rs (all-has n Ps Os F g qs h V M T k2 z a b2 l2 typed-a hb2) (all-has n Ps Os F g qs h V M T k2 (not z) b2 a l2 hb2 typed-a)) in
          record {
            turns_are = q.turns_are;
            side_is = b2;
            other_is = a;
            kept = k1;
            locals = y ∷ count-object k2 ∷ [];
            runs = then-run F leaf (then-run F one-line (then-run F two-line (then-run F three (then-run F four (then-run F five (then-run F six seven))))));
            keeps = q.keeps;
            typed = typed-a;
            moments = q.moments;
            is = q.is ∙ ap (λ (ts : List Turn). take 64 (ts ++ new_turns (map made (elements vs)))) u.is ∙ take-again 64 (items_named ms (elements us)) (new_turns (map made (elements vs)));
          }
