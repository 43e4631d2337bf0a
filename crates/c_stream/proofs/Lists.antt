-- Readers of lists, and with these of all types.
use Rattle.std.proofs.Common.{◌≡◌, ◌≤◌, ◌<◌, ◌+◌, ◌^◌, ℕ, zero, suc, pos, true, false, ◌&&◌, List, [], ◌∷◌, ◌++◌, length, Option, Some, None, refl, subst, sym, ap, ◌∙◌, arith}
use Rattle.std.specs.Prelude.{ℤ, ◌+ℤ◌, if◌then◌else◌, codes}
use Rattle.sample_core.specs.Datum.{Datum, Datums, end, more, elements}
use Rattle.sample_core.specs.TypeTree.{TypeTree, unit_ty, bool_ty, int_ty, pair_ty, event_ty, list_ty}
use Rattle.sample_core.specs.ReadingLaws.{OneValueLaw}
use Rattle.leaf_code.specs.Fitting.{Bounds}
use Rattle.c_meaning.specs.Object.{CType, truth_type, number_type, array, u32, Object, truth, number, in_range, has_type, each_has, part_of, with_part, in_front}
use Rattle.c_meaning.specs.Object as C
use Rattle.c_meaning.specs.Syntax.{plus, local, dot, at, boolean, literal, binary, Command, skip, sequence, assign, branch, loop, answer}
use Rattle.c_meaning.specs.Meaning.{Frame, Linked, Outcome, bind, eval, value, write, go_on, leave, looped, is_none_of, written, steady, run}
use Rattle.c_meaning.proofs.Alike.{no, yes-and, left-yes, right-yes, alike}
use Rattle.c_meaning.proofs.Runs.{Runs, then-run, ends, skips, gives-back, assigns, chooses-first, chooses-second, function-runs}
use Rattle.c_leaf.specs.Representing.{two, c_type, Represents, c_list, AllRepresent, c_end, c_more}
use Rattle.c_leaf.specs.LeafCLaw.{FewElements}
use Rattle.c_leaf.proofs.Values.{has, count-range}
use Rattle.c_forms.proofs.Lines.{halves}
use Rattle.c_stream.specs.Streams.{take_list, take_blank, is_close, end_list, take, without_byte, without_word, HoldsBy, AreStreams, Stands, Read, read_value, read_none, Reads, TakesByHand}
use Rattle.c_stream.specs.Writing.{has_parts}
use Rattle.c_stream.specs.Reading.{element_body, reader_body, reader, PartsRead, ReadingLaw}
use Rattle.c_stream.proofs.Standing.{RowStands, row-ended, row-more, no-row-last, no-row-blank, no-row-value, no-row-more, list-joined, no-list-word, no-list-row}
use Rattle.c_stream.proofs.Reading.{TakeLine, took, took_none, take-line, ReadLine, line_value, line_none, Place, read-line, passes, stopped, Comes, comes_value, comes_none, after, tried, pair-read, event-read}

-- elements in front of others
abbrev glue : List Object → Object → Object
glue [] t = t
glue (x ∷ xs) t = C.more x (glue xs t)

part-glue : (xs : List Object) (p t : Object) → part_of (glue xs (C.more p t)) (length xs) ≡ Some p
part-glue [] p t = refl
part-glue (x ∷ xs) p t = part-glue xs p t

with-glue : (xs : List Object) (p y t : Object) → with_part (glue xs (C.more p t)) (length xs) y ≡ Some (glue xs (C.more y t))
with-glue [] p y t = refl
with-glue (x ∷ xs) p y t = ap (in_front x) (with-glue xs p y t)

glue-last : (xs : List Object) (y t : Object) → glue (xs ++ y ∷ []) t ≡ glue xs (C.more y t)
glue-last [] y t = refl
glue-last (x ∷ xs) y t = ap (C.more x) (glue-last xs y t)

length-last : (xs : List Object) (y : Object) → suc (length xs) ≡ length (xs ++ y ∷ [])
length-last [] y = refl
length-last (x ∷ xs) y = ap suc (length-last xs y)

-- a counter goes on
counts-on : (i : ℕ) → suc i < 2 ^ 32 → (if in_range u32 (pos i +ℤ pos 1) then Some (number u32 (pos i +ℤ pos 1)) else None) ≡ Some (number u32 (pos (suc i)))
counts-on i l = ap (λ (z : ℤ). if in_range u32 z then Some (number u32 z) else None) (next i) ∙ ap (λ b. if b then Some (number u32 (pos (suc i))) else None) (count-range (suc i) l)
  where
    next : (i : ℕ) → pos i +ℤ pos 1 ≡ pos (suc i)
    next i = grind arith

module _ (one : OneValueLaw) (l : ℕ) (Holds : List ℕ → Object → Type 0) (n : Bounds) (most : ℕ) (F : ℕ → Linked) (m : ℕ) (h : TypeTree → ℕ) (streams : AreStreams l Holds) (takes : TakesByHand Holds n most F m) where
  module _ (A : TypeTree) (few : FewElements n) (room : most ≤ n A) (f : Reads Holds n most A (F (h A))) where
    abbrev L : CType
    L = c_type n (list_ty A)

    abbrev object : ℕ → Object → Object
    object i es = two (number u32 (pos i)) es

    abbrev frame : Object → Object → Frame
    frame o q = o ∷ q ∷ truth true ∷ []

    abbrev test : Frame → Option Object
    test g = value g (boolean true)

    abbrev tail : Command
    tail = sequence (take m end_list) (answer (local 3))

    -- the elements, and what is behind them
    abbrev steps : ℕ → ℕ → Frame → Outcome
    steps j i g = bind (looped test (run F (element_body m h A)) j i g) (go_on (run F tail))

    -- so many elements of the type
    abbrev Have : ℕ → Object → Type 0
    Have k t = each_has (has_type (c_type n A)) k t ≡ true

    data Rows (j k i : ℕ) (xs : List Object) (s : List ℕ) (c : Outcome) : Type 0 where
      rows_value : {vs : Datums} {r : List ℕ} {count : ℕ} {o t : Object} {us : List Object} → RowStands one most j A vs s r → AllRepresent n A k vs t → Holds r o → count ≡ i + length (elements vs)
          → c ≡ Some (o ∷ object count (glue xs t) ∷ us, Some (truth true)) → Rows j k i xs s c
      rows_none : {r : List ℕ} {o q : Object} {us : List Object} → ((vs : Datums) (t : List ℕ) → RowStands one most j A vs s t → ⊥) → has_type L q ≡ true → Holds r o
          → c ≡ Some (o ∷ q ∷ us, Some (truth false)) → Rows j k i xs s c

    list-type : (i : ℕ) (es : Object) → i < 2 ^ 32 → Have (n A) es → has_type L (object i es) ≡ true
    list-type i es b e = yes-and (count-range i b) (yes-and e refl)

    few-enough : (i j : ℕ) → i + j ≡ most → i < 2 ^ 32
    few-enough i j e = below i j most (n A) e room (few A)
      where
        below : (i j a b : ℕ) → i + j ≡ a → a ≤ b → b < 2 ^ 32 → i < 2 ^ 32
        below i j a b e r u = omega arith

    no-more : (j k i : ℕ) (xs : List Object) (s : List ℕ) (o t : Object) → i + zero ≡ most → Have (n A) (glue xs t) → Have k t → Holds s o → Rows zero k i xs s (steps zero i (frame o (object i (glue xs t))))
    no-more j k i xs s o t e g ht u = by-case (take-line l Holds n most F m h streams end_list (without_byte 41) s o (object i (glue xs t) ∷ truth true ∷ []) takes.end_list u)
      where
        plain : (i : ℕ) → i ≡ i + 0
        plain i = omega arith

        by-case : TakeLine l Holds n most F m h streams end_list s (without_byte 41 s) o (object i (glue xs t) ∷ truth true ∷ []) → Rows zero k i xs s (steps zero i (frame o (object i (glue xs t))))
        by-case (took {x = x} a v runs) =
            rows_value {vs = end} {count = i} (row-ended one most 0 A a) (c_end ht) v (plain i) (then-run F runs (gives-back F (local 3) (frame x (object i (glue xs t)) ++ truth true ∷ []) (truth true) refl refl)).is
        by-case (took_none {x = x} a v runs) =
            rows_none (no-row-last one most A s a) (list-type i (glue xs t) (few-enough i 0 e) g) v (then-run F runs (gives-back F (local 3) (frame x (object i (glue xs t)) ++ truth false ∷ []) (truth false) refl refl)).is

    -- one turn, and what follows
    module _ (j k i : ℕ) (xs : List Object) (s : List ℕ) (o p t : Object) (ei : i ≡ length xs) (em : i + suc j ≡ most) (g : (y : Object) → has_type (c_type n A) y ≡ true → Have (n A) (glue xs (C.more y t)))
        (hp : has_type (c_type n A) p ≡ true) (ht : Have k t)
        (again : (y z : Object) (r : List ℕ) → has_type (c_type n A) y ≡ true → Holds r z → Rows j k (suc i) (xs ++ y ∷ []) r (steps j (suc i) (frame z (object (suc i) (glue xs (C.more y t)))))) where
      abbrev q : Object
      q = object i (glue xs (C.more p t))

      abbrev put : Object → Object
      put y = object i (glue xs (C.more y t))

      abbrev counter : Object
      counter = number u32 (pos i)

      abbrev turns : Outcome → Outcome
      turns R = bind (bind (bind R (leave (frame o q))) (go_on (looped test (run F (element_body m h A)) j (suc i)))) (go_on (run F tail))

      -- a line of the body, which starts here
      abbrev start : Frame
      start = frame o q ++ counter ∷ []

      fits : (y : Object) → has_type (c_type n A) y ≡ true → has_type L (put y) ≡ true
      fits y ty = list-type i (glue xs (C.more y t)) (few-enough i (suc j) em) (g y ty)

      place : Place l Holds n most F m h streams L A (at (dot (local 1) 1) (local 3)) q p (truth true ∷ counter ∷ truth false ∷ truth true ∷ []) put
      place = record {
        away = refl;
        whole = fits p hp;
        part = hp;
        at = λ x. ap (part_of (glue xs (C.more p t))) ei ∙ part-glue xs p t;
        writes =
            λ x y. ap (λ E. bind E (write (x ∷ q ∷ truth true ∷ counter ∷ truth false ∷ truth true ∷ []) (dot (local 1) 1)))
            (ap (λ c. with_part (glue xs (C.more p t)) c y) ei ∙ with-glue xs p y t);
        fits = fits;
      }

      abbrev Turn : Type 0
      Turn = Rows (suc j) (suc k) i xs s (steps (suc j) i (frame o q))

      -- an element is read
      counted : (z y : Object) → has_type (c_type n A) y ≡ true
          → Runs F (assign (dot (local 1) 0) (binary plus u32 (local 3) (literal u32 (pos 1)))) (z ∷ put y ∷ truth true ∷ counter ∷ truth false ∷ truth true ∷ truth true ∷ [])
          (z ∷ object (suc i) (glue xs (C.more y t)) ∷ truth true ∷ counter ∷ truth false ∷ truth true ∷ truth true ∷ [], None)
      counted z y ty =
          let b : suc i < 2 ^ 32 = few-enough (suc i) j (shift i j em) in
          assigns F (dot (local 1) 0) (binary plus u32 (local 3) (literal u32 (pos 1))) (z ∷ put y ∷ truth true ∷ counter ∷ truth false ∷ truth true ∷ truth true ∷ [])
          (z ∷ object (suc i) (glue xs (C.more y t)) ∷ truth true ∷ counter ∷ truth false ∷ truth true ∷ truth true ∷ []) (number u32 (pos (suc i))) (counts-on i b) refl
          (ap (λ c. if c then Some (z ∷ object (suc i) (glue xs (C.more y t)) ∷ truth true ∷ counter ∷ truth false ∷ truth true ∷ truth true ∷ []) else None)
          (alike L (put y) (object (suc i) (glue xs (C.more y t))) (fits y ty) (list-type (suc i) (glue xs (C.more y t)) b (g y ty))))
        where
          shift : (i j : ℕ) → i + suc j ≡ most → suc i + j ≡ most
          shift i j e = omega arith

      module _ (e : without_byte 41 s ≡ None) (x : Object) (opened : Runs F (take m is_close) start (x ∷ q ∷ truth true ∷ counter ∷ truth false ∷ [], None)) where
        skipped : Runs F (branch (local 4) (answer (boolean true)) skip) (x ∷ q ∷ truth true ∷ counter ∷ truth false ∷ []) (x ∷ q ∷ truth true ∷ counter ∷ truth false ∷ [], None)
        skipped =
            chooses-second F {a = answer (boolean true)} (local 4) (x ∷ q ∷ truth true ∷ counter ∷ truth false ∷ []) (x ∷ q ∷ truth true ∷ counter ∷ truth false ∷ []) None refl (skips F)

        module _ (r1 : List ℕ) (y1 : Object) (e1 : without_byte 32 s ≡ Some r1)
            (blank : Runs F (take m take_blank) (x ∷ q ∷ truth true ∷ counter ∷ truth false ∷ []) (y1 ∷ q ∷ truth true ∷ counter ∷ truth false ∷ truth true ∷ [], None)) where
          lifted : {v : Datum} {r2 : List ℕ} {y : Object} {c d : Outcome} → Stands most A v r1 r2 → Represents n A v y → c ≡ d → Rows j k (suc i) (xs ++ y ∷ []) r2 d → Rows (suc j) (suc k) i xs s c
          lifted {v} {r2} {y} st rep eq (rows_value {vs = vs} {count = count} {o = z} {t = t'} {us = us} row all w ec eq') =
              rows_value {vs = more v vs} {count = count} {t = C.more y t'} (row-more one most j A e1 st row) (c_more rep all) w (step i (length (elements vs)) count ec)
              (eq ∙ eq' ∙ ap (λ es. Some (z ∷ object count es ∷ us, Some (truth true))) (glue-last xs y t'))
            where
              step : (i a c : ℕ) → c ≡ suc i + a → c ≡ i + suc a
              step i a c e = omega arith
          lifted {v} {r2} st rep eq (rows_none none ty w eq') = rows_none (no-row-more one most A s e j v r1 r2 e1 st none) ty w (eq ∙ eq')

          by-value : ReadLine l Holds n most F m h streams A (at (dot (local 1) 1) (local 3)) r1 y1 q (truth true ∷ counter ∷ truth false ∷ truth true ∷ []) put → Turn
          by-value (line_value {v = v} {r = r2} {x = z} {y = y} st rep w runs) =
              let body : Runs F (element_body m h A) start (z ∷ object (suc i) (glue xs (C.more y t)) ∷ truth true ∷ counter ∷ truth false ∷ truth true ∷ truth true ∷ [], None) =
              then-run F opened (then-run F skipped (then-run F blank
              (then-run F (passes l Holds n most F m h streams 5 (y1 ∷ q ∷ truth true ∷ counter ∷ truth false ∷ truth true ∷ []) refl)
              (then-run F runs (then-run F (passes l Holds n most F m h streams 6 (z ∷ put y ∷ truth true ∷ counter ∷ truth false ∷ truth true ∷ truth true ∷ []) refl) (counted z y (has n rep))))))) in
              lifted st rep (ap turns body.is) (again y z r2 (has n rep) w)
          by-value (line_none {x = z} {y = y} none ty w runs) =
              let body : Runs F (element_body m h A) start (z ∷ put y ∷ truth true ∷ counter ∷ truth false ∷ truth true ∷ truth false ∷ [], Some (truth false)) =
              then-run F opened (then-run F skipped (then-run F blank
              (then-run F (passes l Holds n most F m h streams 5 (y1 ∷ q ∷ truth true ∷ counter ∷ truth false ∷ truth true ∷ []) refl)
              (then-run F runs (ends F (stopped l Holds n most F m h streams 6 (z ∷ put y ∷ truth true ∷ counter ∷ truth false ∷ truth true ∷ truth false ∷ []) refl)))))) in
              rows_none (no-row-value one most A s e (suc j) r1 e1 none) (fits y ty) w (ap turns body.is)

        by-blank : TakeLine l Holds n most F m h streams take_blank s (without_byte 32 s) x (q ∷ truth true ∷ counter ∷ truth false ∷ []) → Turn
        by-blank (took {r = r1} {x = y1} e1 v runs) =
            by-value r1 y1 e1 runs (read-line l Holds n most F m h streams L A (at (dot (local 1) 1) (local 3)) r1 y1 q p (truth true ∷ counter ∷ truth false ∷ truth true ∷ []) put place f v)
        by-blank (took_none {x = y1} e1 v runs) =
            let body : Runs F (element_body m h A) start (y1 ∷ q ∷ truth true ∷ counter ∷ truth false ∷ truth false ∷ [], Some (truth false)) =
            then-run F opened (then-run F skipped (then-run F runs
            (ends F (stopped l Holds n most F m h streams 5 (y1 ∷ q ∷ truth true ∷ counter ∷ truth false ∷ truth false ∷ []) refl)))) in
            rows_none (no-row-blank one most A s e (suc j) e1) (fits p hp) v (ap turns body.is)

      by-close : TakeLine l Holds n most F m h streams is_close s (without_byte 41 s) o (q ∷ truth true ∷ counter ∷ []) → Turn
      by-close (took {x = x} e v runs) =
          let fr : Frame = x ∷ q ∷ truth true ∷ counter ∷ truth true ∷ [] in
          let body : Runs F (element_body m h A) start (fr, Some (truth true)) =
          then-run F runs (ends F (chooses-first F {b = skip} (local 4) fr fr (Some (truth true)) refl (gives-back F (boolean true) fr (truth true) refl refl))) in
          rows_value {vs = end} {count = i} {t = C.more p t} (row-ended one most (suc j) A e) (c_end (yes-and hp ht)) v (plain i) (ap turns body.is)
        where
          plain : (i : ℕ) → i ≡ i + 0
          plain i = omega arith
      by-close (took_none {x = x} e v runs) = by-blank e x runs (take-line l Holds n most F m h streams take_blank (without_byte 32) s x (q ∷ truth true ∷ counter ∷ truth false ∷ []) takes.blank v)

      turn : Holds s o → Turn
      turn u = by-close (take-line l Holds n most F m h streams is_close (without_byte 41) s o (q ∷ truth true ∷ counter ∷ []) takes.is_close u)

    rows : (j k i : ℕ) (xs : List Object) (s : List ℕ) (o t : Object) → i ≡ length xs → i + j ≡ most → j ≤ k → ((t : Object) → Have k t → Have (n A) (glue xs t)) → Have k t → Holds s o
        → Rows j k i xs s (steps j i (frame o (object i (glue xs t))))
    rows zero k i xs s o t ei em b g ht u = no-more zero k i xs s o t em (g t ht) ht u
    rows (suc j) zero i xs s o t ei em b g ht u = absurd (omega (arith, b))
    rows (suc j) (suc k) i xs s o (C.more p t) ei em b g ht u =
        let hp = left-yes (has_type (c_type n A) p) (each_has (has_type (c_type n A)) k t) ht in
        let hk = right-yes (has_type (c_type n A) p) (each_has (has_type (c_type n A)) k t) ht in
        turn j k i xs s o p t ei em (λ y ty. g (C.more y t) (yes-and ty hk)) hp hk
        (λ y z r ty w. subst (λ es. Rows j k (suc i) (xs ++ y ∷ []) r (steps j (suc i) (frame z (object (suc i) es)))) (glue-last xs y t)
        (rows j k (suc i) (xs ++ y ∷ []) r z t (ap suc ei ∙ length-last xs y) (shift i j em) (less j k b)
        (λ t' ht'. subst (λ es. Have (n A) es) (sym (glue-last xs y t')) (g (C.more y t') (yes-and ty ht'))) hk w)) u
      where
        shift : (i j : ℕ) → i + suc j ≡ most → suc i + j ≡ most
        shift i j e = omega arith

        less : (j k : ℕ) → suc j ≤ suc k → j ≤ k
        less j k e = omega arith
    rows (suc j) (suc k) i xs s o _ ei em b g ht u = no ht

    loop-fits : (is_none_of 3 (written (element_body m h A)) && in_range u32 (pos most)) ≡ true
    loop-fits = yes-and refl (count-range most (few-enough most 0 (plain most)))
      where
        plain : (a : ℕ) → a + 0 ≡ a
        plain a = omega arith

    row-comes : (S s : List ℕ) (x es : Object) → without_word (codes "(list") S ≡ Some s → Rows most (n A) 0 [] s (steps most 0 (frame x (object 0 es)))
        → Comes l Holds n most F m h streams (list_ty A) S (sequence (loop most (boolean true) (element_body m h A)) tail) (frame x (object 0 es))
    row-comes S s x es e (rows_value {vs = vs} {count = count} row all w ec eq) =
        comes_value (list-joined one most A e row) (c_list (ec ∙ zero-plus (length (elements vs))) (small count (length (elements vs)) most (n A) ec row.few room (few A)) all) w (record {
          is = ap (λ z. bind (if z then looped test (run F (element_body m h A)) most 0 (frame x (object 0 es)) else None) (go_on (run F tail))) loop-fits ∙ eq;
        })
      where
        zero-plus : (j : ℕ) → 0 + j ≡ j
        zero-plus j = omega arith

        small : (c a b d : ℕ) → c ≡ 0 + a → a ≤ b → b ≤ d → d < 2 ^ 32 → c < 2 ^ 32
        small c a b d e u v w = omega arith
    row-comes S s x es e (rows_none none ty w eq) = comes_none (no-list-row one most A S s e none) ty w (record {
      is = ap (λ z. bind (if z then looped test (run F (element_body m h A)) most 0 (frame x (object 0 es)) else None) (go_on (run F tail))) loop-fits ∙ eq;
    })

    list-read : (S : List ℕ) (o c es : Object) → Holds S o → has_type (number_type u32) c ≡ true → Have (n A) es → Comes l Holds n most F m h streams (list_ty A) S (reader_body most m h (list_ty A)) (o ∷ two c es ∷ [])
    list-read S o c es u hc he =
        tried l Holds n most F m h streams (list_ty A) S take_list 2 (without_word (codes "(list")) _ S o (two c es) [] takes.list u whole (λ x z. refl) (no-list-word one most A S) (λ s x e v.
        after l Holds n most F m h streams (sets x) (row-comes S s x es e (rows most (n A) 0 [] s x es refl (zero-plus most) room (λ t ht. ht) he v)))
      where
        whole : has_type L (two c es) ≡ true
        whole = yes-and hc (yes-and he refl)

        zero-plus : (j : ℕ) → 0 + j ≡ j
        zero-plus j = omega arith

        sets : (x : Object) → Runs F (assign (dot (local 1) 0) (literal u32 (pos 0))) (x ∷ two c es ∷ truth true ∷ []) (frame x (object 0 es), None)
        sets x =
            assigns F (dot (local 1) 0) (literal u32 (pos 0)) (x ∷ two c es ∷ truth true ∷ []) (frame x (object 0 es)) (number u32 (pos 0)) refl refl
            (ap (λ y. if y then Some (frame x (object 0 es)) else None) (alike L (two c es) (object 0 es) whole (yes-and refl (yes-and he refl))))

  body-reads : (A : TypeTree) (S : List ℕ) (o q : Object) → FewElements n → PartsRead Holds n most F h A → has_parts A ≡ true → Holds S o → has_type (c_type n A) q ≡ true
      → Comes l Holds n most F m h streams A S (reader_body most m h A) (o ∷ q ∷ [])
  body-reads unit_ty S o q few f a u t = no a
  body-reads bool_ty S o q few f a u t = no a
  body-reads int_ty S o q few f a u t = no a
  body-reads (pair_ty A B) S o q few f a u t =
      let w = halves (c_type n A) (c_type n B) q t in
      subst (λ x. Comes l Holds n most F m h streams (pair_ty A B) S (reader_body most m h (pair_ty A B)) (o ∷ x ∷ [])) (sym w.is)
      (pair-read l Holds n most F m h streams one takes A B S o w.a w.b f.0 f.1 u w.has_a w.has_b)
  body-reads (event_ty A) S o q few f a u t =
      let w = halves truth_type (c_type n A) q t in
      subst (λ x. Comes l Holds n most F m h streams (event_ty A) S (reader_body most m h (event_ty A)) (o ∷ x ∷ [])) (sym w.is)
      (event-read l Holds n most F m h streams one takes A S o w.a w.b f u w.has_a w.has_b)
  body-reads (list_ty A) S o q few f a u t =
      let w = halves (number_type u32) (array (n A) (c_type n A)) q t in
      subst (λ x. Comes l Holds n most F m h streams (list_ty A) S (reader_body most m h (list_ty A)) (o ∷ x ∷ [])) (sym w.is) (list-read A few f.0 f.1 S o w.a w.b u w.has_a w.has_b)

pub reading_law : OneValueLaw → ReadingLaw
reading_law one l test n most F m h A streams few takes f a s o q u t = by-case (body-reads one l (HoldsBy test) n most F m h streams takes A s o q few f a u t)
  where
    steady-reader : (A : TypeTree) → steady (reader_body most m h A) ≡ true
    steady-reader unit_ty = refl
    steady-reader bool_ty = refl
    steady-reader int_ty = refl
    steady-reader (pair_ty A B) = refl
    steady-reader (event_ty A) = refl
    steady-reader (list_ty A) = refl

    by-case : Comes l (HoldsBy test) n most F m h streams A s (reader_body most m h A) (o ∷ q ∷ []) → Read (HoldsBy test) n most A s (Rattle.c_meaning.specs.Meaning.function_run F (reader l n most m h A) (o ∷ q ∷ []))
    by-case (comes_value {o = x} {q = y} {us = us} st rep w runs) =
        read_value st rep (function-runs F (reader l n most m h A) (o ∷ q ∷ []) (x ∷ y ∷ us) (x ∷ y ∷ []) (truth true) (yes-and (streams s o u) (yes-and t refl)) (steady-reader A) runs refl refl) w
    by-case (comes_none {o = x} {q = y} {us = us} none ty w runs) =
        read_none none ty (function-runs F (reader l n most m h A) (o ∷ q ∷ []) (x ∷ y ∷ us) (x ∷ y ∷ []) (truth false) (yes-and (streams s o u) (yes-and t refl)) (steady-reader A) runs refl refl) w
