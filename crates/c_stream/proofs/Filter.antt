-- The writers and readers of a filter, linked one behind the other.
use Rattle.std.proofs.Common.{◌≡◌, ◌≤◌, ◌<◌, ◌+◌, ◌^◌, ℕ, suc, Bool, true, false, ◌||◌, List, [], ◌∷◌, ◌++◌, map, length, refl, subst, sym, ap, ◌∙◌, arith, append-nil, append_assoc}
use Rattle.std.specs.Prelude.{if◌then◌else◌}
use Rattle.sample_core.specs.TypeTree.{TypeTree, unit_ty, bool_ty, int_ty, pair_ty, event_ty, list_ty}
use Rattle.sample_core.specs.ReadingLaws.{OneValueLaw}
use Rattle.leaf_core.specs.TypeLimits.{same_tree}
use Rattle.leaf_core.proofs.Exactness.{same_tree-refl, same_tree-true}
use Rattle.leaf_code.specs.Fitting.{Bounds}
use Rattle.net_code.specs.Running.{AllBelow}
use Rattle.code_fits.specs.Room.{HasRoom}
use Rattle.code_fits.specs.Tables.{beside}
use Rattle.c_meaning.specs.Object.{Object}
use Rattle.c_meaning.specs.Syntax.{Function, File}
use Rattle.c_meaning.specs.Meaning.{Linked, numbered, function_run, link}
use Rattle.c_leaf.specs.LeafCLaw.{FewElements}
use Rattle.c_file.specs.Compared.{is_among, number_among}
use Rattle.c_file.specs.FileLaw.{bounds}
use Rattle.c_file.proofs.Links.{earlier, newest, link-append, link-more, link-length}
use Rattle.c_stream.specs.Streams.{ByHand, put_pair, put_event, put_list, put_none, put_blank, put_close, put_unit, put_bool, put_int, take_pair, is_event, take_none, take_list, take_blank, take_close, is_close, end_list, read_unit, read_bool, read_int, hand_number, hand_count, HoldsBy, AreStreams, Puts, Writes, Takes, Reads, PutsByHand, TakesByHand}
use Rattle.c_stream.specs.Writing.{has_parts, writer, PartsWritten}
use Rattle.c_stream.specs.Reading.{reader, PartsRead}
use Rattle.c_stream.specs.Filter.{and_new, with_parts, parts_of, first_reader, writer_number, reader_number, writers, readers, filter_file, FilterLaw, ProgramFilterLaw}
use Rattle.c_stream.proofs.Writing.{writing_law}
use Rattle.c_stream.proofs.Lists.{reading_law}

-- an earlier function is the same in a longer file
same-in : (fs : List Linked) (a b : File) (k : ℕ) → k < length (link fs a) → numbered (link fs (a ++ b)) k ≡ numbered (link fs a) k
same-in fs a b k l =
    let r : (gs : List Linked) × (link (link fs a) b ≡ link fs a ++ gs) = link-more (link fs a) b in
    ap (λ gs. numbered gs k) (link-append fs a b ∙ r.1) ∙ earlier (link fs a) r.0 k l

-- one that was there before is, too
same-before : (fs : List Linked) (a : File) (k : ℕ) → k < length fs → numbered (link fs a) k ≡ numbered fs k
same-before fs a k l = let r : (gs : List Linked) × (link fs a ≡ fs ++ gs) = link-more fs a in ap (λ gs. numbered gs k) r.1 ∙ earlier fs r.0 k l

-- a function is run over those before it
last-in : (fs : List Linked) (a : File) (h : Function) → numbered (link fs (a ++ h ∷ [])) (length (link fs a)) ≡ function_run (numbered (link fs a)) h
last-in fs a h =
    let f : Linked = function_run (numbered (link fs a)) h in ap (λ gs. numbered gs (length (link fs a))) (link-append fs a (h ∷ [])) ∙ newest (link fs a) f []

no-yes : {P : Type 0} → true ≡ false → P
no-yes e = absurd (grind arith)

either-first : (a b : Bool) → a ≡ true → (a || b) ≡ true
either-first true b e = refl
either-first false b e = no-yes (sym e)

either-second : (a b : Bool) → b ≡ true → (a || b) ≡ true
either-second true b e = refl
either-second false b e = e

-- a type with parts is one of these
abbrev Among : TypeTree → List TypeTree → Type 0
Among A Ts = has_parts A ≡ true → is_among A Ts ≡ true

-- each of these is one of those
abbrev More : List TypeTree → List TypeTree → Type 0
More Ts Us = (A : TypeTree) → is_among A Ts ≡ true → is_among A Us ≡ true

among-front : (A : TypeTree) (Ts Us : List TypeTree) → is_among A Ts ≡ true → is_among A (Ts ++ Us) ≡ true
among-front A [] Us e = no-yes (sym e)
among-front A (T ∷ Ts) Us e = by_first (same_tree T A) (among-front A Ts Us) e
  where
    by_first : (b : Bool) → (is_among A Ts ≡ true → is_among A (Ts ++ Us) ≡ true) → (b || is_among A Ts) ≡ true → (b || is_among A (Ts ++ Us)) ≡ true
    by_first true h e = refl
    by_first false h e = h e

among-last : (A : TypeTree) (Ts : List TypeTree) → is_among A (Ts ++ A ∷ []) ≡ true
among-last A [] = either-first (same_tree A A) false (same_tree-refl A)
among-last A (T ∷ Ts) = either-second (same_tree T A) (is_among A (Ts ++ A ∷ [])) (among-last A Ts)

among-split : (A T : TypeTree) (Ts : List TypeTree) → is_among A (Ts ++ T ∷ []) ≡ true → is_among A Ts ≡ false → same_tree T A ≡ true
among-split A T [] e f = by_value (same_tree T A) e
  where
    by_value : (b : Bool) → (b || false) ≡ true → b ≡ true
    by_value true e = refl
    by_value false e = e
among-split A T (U ∷ Ts) e f = by_first (same_tree U A) (among-split A T Ts) e f
  where
    by_first : (b : Bool) → (is_among A (Ts ++ T ∷ []) ≡ true → is_among A Ts ≡ false → same_tree T A ≡ true) → (b || is_among A (Ts ++ T ∷ [])) ≡ true → (b || is_among A Ts) ≡ false → same_tree T A ≡ true
    by_first true h e f = no-yes f
    by_first false h e f = h e f

-- the number of a type is that of its first place
number-front : (A : TypeTree) (Ts Us : List TypeTree) → is_among A Ts ≡ true → (number_among (Ts ++ Us) A ≡ number_among Ts A) × (number_among Ts A < length Ts)
number-front A [] Us e = no-yes (sym e)
number-front A (T ∷ Ts) Us e = by_first (same_tree T A) (number-front A Ts Us) e
  where
    by_first : (b : Bool) → (is_among A Ts ≡ true → (number_among (Ts ++ Us) A ≡ number_among Ts A) × (number_among Ts A < length Ts)) → (b || is_among A Ts) ≡ true
        → ((if b then 0 else suc (number_among (Ts ++ Us) A)) ≡ (if b then 0 else suc (number_among Ts A))) × ((if b then 0 else suc (number_among Ts A)) < suc (length Ts))
    by_first true h e = (refl, omega arith)
    by_first false h e = let r = h e in let l : number_among Ts A < length Ts = r.1 in (ap suc r.0, omega arith)

number-new : (A : TypeTree) (Ts Us : List TypeTree) → is_among A Ts ≡ false → number_among (Ts ++ A ∷ Us) A ≡ length Ts
number-new A [] Us e = ap (λ b. if b then 0 else suc (number_among Us A)) (same_tree-refl A)
number-new A (T ∷ Ts) Us e = by_first (same_tree T A) (number-new A Ts Us) e
  where
    by_first : (b : Bool) → (is_among A Ts ≡ false → number_among (Ts ++ A ∷ Us) A ≡ length Ts) → (b || is_among A Ts) ≡ false → (if b then 0 else suc (number_among (Ts ++ A ∷ Us) A)) ≡ suc (length Ts)
    by_first true h e = no-yes e
    by_first false h e = ap suc (h e)

-- each stands behind its parts
abbrev PartsAmong : TypeTree → List TypeTree → Type 0
PartsAmong (pair_ty A B) Ts = Among A Ts × Among B Ts
PartsAmong (event_ty A) Ts = Among A Ts
PartsAmong (list_ty A) Ts = Among A Ts
PartsAmong _ Ts = Unit {0}

module _ (n : TypeTree → ℕ) (most : ℕ) where
  data Closed : List TypeTree → Type 0 where
    closed_none : Closed []
    closed_one : (Ts : List TypeTree) (A : TypeTree) → Closed Ts → PartsAmong A Ts → HasRoom n most A → has_parts A ≡ true → Closed (Ts ++ A ∷ [])

  -- what holds of types with more
  record With (A : TypeTree) (Ts Us : List TypeTree) : Type 0 where
    more : More Ts Us
    among : Among A Us
    closed : Closed Us

  and-one : (A : TypeTree) (Ts : List TypeTree) → Closed Ts → PartsAmong A Ts → HasRoom n most A → has_parts A ≡ true → With A Ts (and_new A Ts)
  and-one A Ts c p r q = by_test (is_among A Ts) refl
    where
      by_test : (b : Bool) → is_among A Ts ≡ b → With A Ts (if b then Ts else Ts ++ A ∷ [])
      by_test true h = record { more = λ B k. k; among = λ k. h; closed = c }
      by_test false h = record { more = λ B k. among-front B Ts (A ∷ []) k; among = λ k. among-last A Ts; closed = closed_one Ts A c p r q }

  with-one : (A : TypeTree) (Ts : List TypeTree) → HasRoom n most A → Closed Ts → With A Ts (with_parts A Ts)
  with-one unit_ty Ts r c = record { more = λ B k. k; among = λ k. no-yes (sym k); closed = c }
  with-one bool_ty Ts r c = record { more = λ B k. k; among = λ k. no-yes (sym k); closed = c }
  with-one int_ty Ts r c = record { more = λ B k. k; among = λ k. no-yes (sym k); closed = c }
  with-one (pair_ty A B) Ts r c =
      let a = with-one A Ts r.0 c in
      let b = with-one B (with_parts A Ts) r.1 a.closed in
      let w = and-one (pair_ty A B) (with_parts B (with_parts A Ts)) b.closed (λ k. b.more A (a.among k), b.among) r refl in
      record { more = λ T k. w.more T (b.more T (a.more T k)); among = w.among; closed = w.closed }
  with-one (event_ty A) Ts r c =
      let a = with-one A Ts r c in
      let w = and-one (event_ty A) (with_parts A Ts) a.closed a.among r refl in
      record { more = λ T k. w.more T (a.more T k); among = w.among; closed = w.closed }
  with-one (list_ty A) Ts r c =
      let a = with-one A Ts r.1 c in
      let w = and-one (list_ty A) (with_parts A Ts) a.closed a.among r refl in
      record { more = λ T k. w.more T (a.more T k); among = w.among; closed = w.closed }

  -- what the functions of a type's parts do
  abbrev PartsDone : (TypeTree → Linked → Type 0) → (TypeTree → ℕ) → (ℕ → Linked) → TypeTree → Type 0
  PartsDone Does number F (pair_ty A B) = Does A (F (number A)) × Does B (F (number B))
  PartsDone Does number F (event_ty A) = Does A (F (number A))
  PartsDone Does number F (list_ty A) = Does A (F (number A))
  PartsDone Does number F _ = Unit {0}

  -- a type without parts
  record Basic (Does : TypeTree → Linked → Type 0) (gs : List Linked) (number : TypeTree → ℕ) (A : TypeTree) : Type 0 where
    before : number A < length gs
    does : Does A (numbered gs (number A))

  -- behind functions gs, those of the types W: each does what it should where those of its parts do
  module _ (make : TypeTree → Function) (Does : TypeTree → Linked → Type 0) (gs : List Linked) (W : List TypeTree) (number : TypeTree → ℕ)
      (at : (A : TypeTree) → has_parts A ≡ true → number A ≡ length gs + number_among W A) (basic : (A : TypeTree) → has_parts A ≡ false → Basic Does gs number A)
      (law : (F : ℕ → Linked) (A : TypeTree) → ((k : ℕ) → k < length gs → F k ≡ numbered gs k) → PartsDone Does number F A → HasRoom n most A → has_parts A ≡ true → Does A (function_run F (make A))) where
    abbrev file_of : List TypeTree → File
    file_of Ts = map make Ts

    abbrev linked : List TypeTree → ℕ → Linked
    linked Ts = numbered (link gs (file_of Ts))

    length-file : (Ts : List TypeTree) → length (file_of Ts) ≡ length Ts
    length-file [] = refl
    length-file (T ∷ Ts) = ap suc (length-file Ts)

    length-linked : (Ts : List TypeTree) → length (link gs (file_of Ts)) ≡ length gs + length Ts
    length-linked Ts = link-length gs (file_of Ts) ∙ ap (λ k. length gs + k) (length-file Ts)

    file-append : (Ts Us : List TypeTree) → file_of (Ts ++ Us) ≡ file_of Ts ++ file_of Us
    file-append [] Us = refl
    file-append (T ∷ Ts) Us = ap (λ (hs : File). make T ∷ hs) (file-append Ts Us)

    -- of types that W begins with
    record Start (Ts : List TypeTree) : Type 0 where
      done : (A : TypeTree) → is_among A Ts ≡ true → has_parts A ≡ true → Does A (linked Ts (number A))

    any-done : (Ts : List TypeTree) → Start Ts → (A : TypeTree) → Among A Ts → Does A (linked Ts (number A))
    any-done Ts s A k = by_parts (has_parts A) refl
      where
        by_parts : (b : Bool) → has_parts A ≡ b → Does A (linked Ts (number A))
        by_parts true e = s.done A (k e) e
        by_parts false e = let b = basic A e in subst (Does A) (sym (same-before gs (file_of Ts) (number A) b.before)) b.does

    parts-done : (A : TypeTree) (Ts : List TypeTree) → Start Ts → PartsAmong A Ts → PartsDone Does number (linked Ts) A
    parts-done unit_ty Ts s p = tt
    parts-done bool_ty Ts s p = tt
    parts-done int_ty Ts s p = tt
    parts-done (pair_ty A B) Ts s p = (any-done Ts s A p.0, any-done Ts s B p.1)
    parts-done (event_ty A) Ts s p = any-done Ts s A p
    parts-done (list_ty A) Ts s p = any-done Ts s A p

    starts : {Ts : List TypeTree} → Closed Ts → (Us : List TypeTree) → W ≡ Ts ++ Us → Start Ts
    starts closed_none Us e = record { done = λ A k q. no-yes (sym k) }
    starts (closed_one Ts T c p r hp) Us e =
        let w : W ≡ Ts ++ (T ∷ Us) = e ∙ append_assoc Ts (T ∷ []) Us in
        let s = starts c (T ∷ Us) w in
        record { done = λ A k q. by_place Ts T s w (length-linked Ts) (file-append Ts (T ∷ [])) p r hp A k q (is_among A Ts) refl }
      where
        by_place : (Ts : List TypeTree) (T : TypeTree) → Start Ts → W ≡ Ts ++ (T ∷ Us) → length (link gs (file_of Ts)) ≡ length gs + length Ts → file_of (Ts ++ T ∷ []) ≡ file_of Ts ++ make T ∷ []
            → PartsAmong T Ts → HasRoom n most T → has_parts T ≡ true → (A : TypeTree) → is_among A (Ts ++ T ∷ []) ≡ true → has_parts A ≡ true → (b : Bool) → is_among A Ts ≡ b
            → Does A (linked (Ts ++ T ∷ []) (number A))
        by_place Ts T s w l g p r hp A k q true i =
            let f = number-front A Ts (T ∷ Us) i in
            let u : number_among W A ≡ number_among Ts A = ap (λ Vs. number_among Vs A) w ∙ f.0 in
            let v : number_among Ts A < length Ts = f.1 in
            let a : number A ≡ length gs + number_among W A = at A q in
            subst (Does A) (sym (ap (λ (b : File). numbered (link gs b) (number A)) g ∙ same-in gs (file_of Ts) (make T ∷ []) (number A) (omega (arith, u, v, a, l)))) (s.done A i q)
        by_place Ts T s w l g p r hp A k q false i =
            let t : T ≡ A = same_tree-true T A (among-split A T Ts k i) in
            let u : number_among W T ≡ length Ts = ap (λ Vs. number_among Vs T) w ∙ number-new T Ts Us (subst (λ B. is_among B Ts ≡ false) (sym t) i) in
            let a : number T ≡ length (link gs (file_of Ts)) = at T hp ∙ ap (λ k. length gs + k) u ∙ sym l in
            subst (λ B. Does B (linked (Ts ++ T ∷ []) (number B))) t
            (subst (Does T)
            (sym (ap (λ (b : File). numbered (link gs b) (number T)) g ∙ ap (numbered (link gs (file_of Ts ++ make T ∷ []))) a ∙ last-in gs (file_of Ts) (make T)))
            (law (linked Ts) T (same-before gs (file_of Ts)) (parts-done T Ts s p) r hp))

    -- the whole type's, whatever follows
    all-done : Closed W → (b : File) (A : TypeTree) → Among A W → Does A (numbered (link gs (file_of W ++ b)) (number A))
    all-done c b A k =
        let s = starts c [] (sym (append-nil W)) in
        subst (Does A) (sym (same-in gs (file_of W) b (number A) (within (has_parts A) refl))) (any-done W s A k)
      where
        within : (z : Bool) → has_parts A ≡ z → number A < length (link gs (file_of W))
        within true e =
            let v : number_among W A < length W = (number-front A W [] (k e)).1 in
            let a : number A ≡ length gs + number_among W A = at A e in
            let l : length (link gs (file_of W)) ≡ length gs + length W = length-linked W in omega (arith, v, a, l)
        within false e =
            let v : number A < length gs = (basic A e).before in
            let l : length (link gs (file_of W)) ≡ length gs + length W = length-linked W in omega (arith, v, l)

-- the functions by hand are the same
module _ (m : ℕ) (F G : ℕ → Linked) (e : (k : ByHand) → F (m + hand_number k) ≡ G (m + hand_number k)) (Holds : List ℕ → Object → Type 0) (n : Bounds) where
  puts-moved : PutsByHand Holds n F m → PutsByHand Holds n G m
  puts-moved p = record {
    pair = subst (Puts Holds _) (e put_pair) p.pair;
    event = subst (Puts Holds _) (e put_event) p.event;
    list = subst (Puts Holds _) (e put_list) p.list;
    none = subst (Puts Holds _) (e put_none) p.none;
    blank = subst (Puts Holds _) (e put_blank) p.blank;
    close = subst (Puts Holds _) (e put_close) p.close;
    unit = subst (Writes Holds n unit_ty) (e put_unit) p.unit;
    bool = subst (Writes Holds n bool_ty) (e put_bool) p.bool;
    int = subst (Writes Holds n int_ty) (e put_int) p.int;
  }

  takes-moved : (most : ℕ) → TakesByHand Holds n most F m → TakesByHand Holds n most G m
  takes-moved most p = record {
    pair = subst (Takes Holds _) (e take_pair) p.pair;
    event = subst (Takes Holds _) (e is_event) p.event;
    none = subst (Takes Holds _) (e take_none) p.none;
    list = subst (Takes Holds _) (e take_list) p.list;
    blank = subst (Takes Holds _) (e take_blank) p.blank;
    close = subst (Takes Holds _) (e take_close) p.close;
    is_close = subst (Takes Holds _) (e is_close) p.is_close;
    end_list = subst (Takes Holds _) (e end_list) p.end_list;
    unit = subst (Reads Holds n most unit_ty) (e read_unit) p.unit;
    bool = subst (Reads Holds n most bool_ty) (e read_bool) p.bool;
    int = subst (Reads Holds n most int_ty) (e read_int) p.int;
  }

hand-few : (k : ByHand) → hand_number k < 20
hand-few put_pair = omega arith
hand-few put_event = omega arith
hand-few put_list = omega arith
hand-few put_none = omega arith
hand-few put_blank = omega arith
hand-few put_close = omega arith
hand-few put_unit = omega arith
hand-few put_bool = omega arith
hand-few put_int = omega arith
hand-few take_pair = omega arith
hand-few is_event = omega arith
hand-few take_none = omega arith
hand-few take_list = omega arith
hand-few take_blank = omega arith
hand-few take_close = omega arith
hand-few is_close = omega arith
hand-few end_list = omega arith
hand-few read_unit = omega arith
hand-few read_bool = omega arith
hand-few read_int = omega arith

room-for-none : (n : Bounds) (A : TypeTree) → HasRoom n 0 A
room-for-none n unit_ty = tt
room-for-none n bool_ty = tt
room-for-none n int_ty = tt
room-for-none n (pair_ty A B) = (room-for-none n A, room-for-none n B)
room-for-none n (event_ty A) = room-for-none n A
room-for-none n (list_ty A) = (omega arith, room-for-none n A)

module _ (one : OneValueLaw) (l : ℕ) (written unread : List ℕ → Object → Bool) (n : Bounds) (most m : ℕ) (A B : TypeTree) (fs : List Linked) (few : FewElements n) (count : length fs ≡ m + hand_count) where
  -- a function by hand stands before
  hand-before : (gs : List Linked) → length fs ≤ length gs → (k : ByHand) → m + hand_number k < length gs
  hand-before gs b k = let c : hand_number k < 20 = hand-few k in omega (arith, b, c, count)

  module _ (streams : AreStreams l (HoldsBy written)) (puts : PutsByHand (HoldsBy written) n (numbered fs) m) where
    writes-parts : (F : ℕ → Linked) (T : TypeTree) → PartsDone n 0 (Writes (HoldsBy written) n) (writer_number m B) F T → PartsWritten (HoldsBy written) n F (writer_number m B) T
    writes-parts F unit_ty p = tt
    writes-parts F bool_ty p = tt
    writes-parts F int_ty p = tt
    writes-parts F (pair_ty T U) p = p
    writes-parts F (event_ty T) p = p
    writes-parts F (list_ty T) p = p

    writer-at : (T : TypeTree) → has_parts T ≡ true → writer_number m B T ≡ length fs + number_among (parts_of B) T
    writer-at unit_ty e = no-yes (sym e)
    writer-at bool_ty e = no-yes (sym e)
    writer-at int_ty e = no-yes (sym e)
    writer-at (pair_ty T U) e = ap (λ k. k + number_among (parts_of B) (pair_ty T U)) (sym count)
    writer-at (event_ty T) e = ap (λ k. k + number_among (parts_of B) (event_ty T)) (sym count)
    writer-at (list_ty T) e = ap (λ k. k + number_among (parts_of B) (list_ty T)) (sym count)

    writer-basic : (T : TypeTree) → has_parts T ≡ false → Basic n 0 (Writes (HoldsBy written) n) fs (writer_number m B) T
    writer-basic unit_ty e = record { before = hand-before fs (omega arith) put_unit; does = puts.unit }
    writer-basic bool_ty e = record { before = hand-before fs (omega arith) put_bool; does = puts.bool }
    writer-basic int_ty e = record { before = hand-before fs (omega arith) put_int; does = puts.int }
    writer-basic (pair_ty T U) e = no-yes e
    writer-basic (event_ty T) e = no-yes e
    writer-basic (list_ty T) e = no-yes e

    output-written : Writes (HoldsBy written) n B (numbered (link fs (filter_file l n most m A B)) (writer_number m B B))
    output-written =
        let w = with-one n 0 B [] (room-for-none n B) closed_none in
        all-done n 0 (writer l n m (writer_number m B)) (Writes (HoldsBy written) n) fs (parts_of B) (writer_number m B) writer-at writer-basic
        (λ F T s p r hp. writing_law l written n F m (writer_number m B) T streams few
        (puts-moved m (numbered fs) F (λ k. sym (s (m + hand_number k) (hand-before fs (omega arith) k))) (HoldsBy written) n puts) (writes-parts F T p) hp)
        w.closed (readers l n most m A B) B w.among

  module _ (streams : AreStreams l (HoldsBy unread)) (room : HasRoom n most A) (takes : TakesByHand (HoldsBy unread) n most (numbered fs) m) where
    abbrev behind-writers : List Linked
    behind-writers = link fs (writers l n most m A B)

    length-map : (f : TypeTree → Function) (Ts : List TypeTree) → length (map f Ts) ≡ length Ts
    length-map f [] = refl
    length-map f (T ∷ Ts) = ap suc (length-map f Ts)

    length-behind : length behind-writers ≡ length fs + length (parts_of B)
    length-behind = link-length fs (writers l n most m A B) ∙ ap (λ k. length fs + k) (length-map (writer l n m (writer_number m B)) (parts_of B))

    longer : length fs ≤ length behind-writers
    longer = let b : length behind-writers ≡ length fs + length (parts_of B) = length-behind in omega (arith, b)

    same-hand : (k : ByHand) → numbered fs (m + hand_number k) ≡ numbered behind-writers (m + hand_number k)
    same-hand k = sym (same-before fs (writers l n most m A B) (m + hand_number k) (hand-before fs (omega arith) k))

    takes-behind : TakesByHand (HoldsBy unread) n most (numbered behind-writers) m
    takes-behind = takes-moved m (numbered fs) (numbered behind-writers) same-hand (HoldsBy unread) n most takes

    reads-parts : (F : ℕ → Linked) (T : TypeTree) → HasRoom n most T → PartsDone n most (Reads (HoldsBy unread) n most) (reader_number m A B) F T → PartsRead (HoldsBy unread) n most F (reader_number m A B) T
    reads-parts F unit_ty r p = tt
    reads-parts F bool_ty r p = tt
    reads-parts F int_ty r p = tt
    reads-parts F (pair_ty T U) r p = p
    reads-parts F (event_ty T) r p = p
    reads-parts F (list_ty T) r p = (r.0, p)

    first-is : first_reader m B ≡ length behind-writers
    first-is = ap (λ k. k + length (parts_of B)) (sym count) ∙ sym length-behind

    reader-at : (T : TypeTree) → has_parts T ≡ true → reader_number m A B T ≡ length behind-writers + number_among (parts_of A) T
    reader-at unit_ty e = no-yes (sym e)
    reader-at bool_ty e = no-yes (sym e)
    reader-at int_ty e = no-yes (sym e)
    reader-at (pair_ty T U) e = ap (λ k. k + number_among (parts_of A) (pair_ty T U)) first-is
    reader-at (event_ty T) e = ap (λ k. k + number_among (parts_of A) (event_ty T)) first-is
    reader-at (list_ty T) e = ap (λ k. k + number_among (parts_of A) (list_ty T)) first-is

    reader-basic : (T : TypeTree) → has_parts T ≡ false → Basic n most (Reads (HoldsBy unread) n most) behind-writers (reader_number m A B) T
    reader-basic unit_ty e = record { before = hand-before behind-writers longer read_unit; does = takes-behind.unit }
    reader-basic bool_ty e = record { before = hand-before behind-writers longer read_bool; does = takes-behind.bool }
    reader-basic int_ty e = record { before = hand-before behind-writers longer read_int; does = takes-behind.int }
    reader-basic (pair_ty T U) e = no-yes e
    reader-basic (event_ty T) e = no-yes e
    reader-basic (list_ty T) e = no-yes e

    input-read : Reads (HoldsBy unread) n most A (numbered (link fs (filter_file l n most m A B)) (reader_number m A B A))
    input-read =
        let w = with-one n most A [] room closed_none in
        subst (Reads (HoldsBy unread) n most A)
        (ap (λ (a : File). numbered (link behind-writers a) (reader_number m A B A)) (append-nil (readers l n most m A B))
        ∙ ap (λ gs. numbered gs (reader_number m A B A)) (sym (link-append fs (writers l n most m A B) (readers l n most m A B))))
        (all-done n most (reader l n most m (reader_number m A B)) (Reads (HoldsBy unread) n most) behind-writers (parts_of A) (reader_number m A B) reader-at reader-basic
        (λ F T s p r hp. reading_law one l unread n most F m (reader_number m A B) T streams few
        (takes-moved m (numbered behind-writers) F (λ k. sym (s (m + hand_number k) (hand-before behind-writers longer k))) (HoldsBy unread) n most takes-behind) (reads-parts F T r p) hp)
        w.closed [] A w.among)

pub filter_law : OneValueLaw → FilterLaw
filter_law one l written unread n most m A B fs few room ws us count puts takes =
    (output-written one l written unread n most m A B fs few count ws puts, input-read one l written unread n most m A B fs few count us room takes)

-- the lengths of a program's lists are small
beside-small : (A : TypeTree) (Ts : List TypeTree) (ns : List ℕ) → AllBelow (2 ^ 32) ns → beside A Ts ns < 2 ^ 32
beside-small A [] ns h = omega arith
beside-small A (T ∷ Ts) [] h = omega arith
beside-small A (T ∷ Ts) (k ∷ ns) h = chosen (same_tree T A) k (beside A Ts ns) h.0 (beside-small A Ts ns h.1)
  where
    chosen : (b : Bool) (i j : ℕ) → i < 2 ^ 32 → j < 2 ^ 32 → (if b then i else j) < 2 ^ 32
    chosen true i j u v = u
    chosen false i j u v = v

pub program_filter_law : OneValueLaw → ProgramFilterLaw
program_filter_law one t most p h l written unread m fs =
    filter_law one l written unread (bounds p) most m t.input t.output fs (λ T. beside-small (list_ty T) _ p.bounds.items h.small) h.room
