-- Readers read exactly what is spelled.
use Rattle.std.proofs.Common.{◌≡◌, ◌+◌, ℕ, Bool, true, false, List, [], ◌∷◌, ◌++◌, Option, Some, None, refl, ap, ◌∙◌}
use Rattle.std.specs.Prelude.{if◌then◌else◌, slice_get, codes}
use Rattle.sample_core.specs.Datum.{Datum, no_event, event, pair}
use Rattle.sample_core.specs.TypeTree.{TypeTree, pair_ty, event_ty}
use Rattle.sample_core.specs.ReadingLaws.{OneValueLaw}
use Rattle.leaf_code.specs.Fitting.{Bounds}
use Rattle.c_meaning.specs.Object.{CType, truth_type, Object, truth, has_type, like}
use Rattle.c_meaning.specs.Syntax.{Term, local, dot, boolean, by_pointer, Command, skip, sequence, assign, branch, answer}
use Rattle.c_meaning.specs.Meaning.{Frame, Linked, bind, eval, write, replaced, put_back, all_apart}
use Rattle.c_meaning.proofs.Alike.{yes-and, alike}
use Rattle.c_meaning.proofs.Runs.{Runs, then-run, ends, skips, gives-back, assigns, chooses-first, chooses-second, calls}
use Rattle.c_leaf.specs.Representing.{two, two_types, c_type, Represents, c_pair, c_no_event, c_event}
use Rattle.c_leaf.specs.LeafC.{stop_unless}
use Rattle.c_leaf.proofs.Values.{has}
use Rattle.c_forms.proofs.Loops.{first-plain, second-plain}
use Rattle.c_stream.specs.Streams.{stream_type, ByHand, take_pair, is_event, take_none, take_blank, take_close, hand_number, take, read_part, without_byte, without_word, AreStreams, Tried, tried_there, tried_none, Takes, Stands, Read, read_value, read_none, Reads, TakesByHand}
use Rattle.c_stream.specs.Reading.{reader_body, carried_body}
use Rattle.c_stream.proofs.Standing.{pair-joined, no-pair-word, no-pair-blank, no-pair-first, no-pair-middle, no-pair-second, no-pair-close, event-joined, none-joined, no-event-word, no-event-blank, no-event-value, no-event-close}

module _ (l : ℕ) (Holds : List ℕ → Object → Type 0) (n : Bounds) (most : ℕ) (F : ℕ → Linked) (m : ℕ) (h : TypeTree → ℕ) (streams : AreStreams l Holds) where
  same-type : {s t : List ℕ} {o p : Object} → Holds s o → Holds t p → like o p ≡ true
  same-type {s} {t} {o} {p} u v = alike (stream_type l) o p (streams s o u) (streams t p v)

  -- a call that takes
  pub data TakeLine (k : ByHand) (s : List ℕ) (behind : Option (List ℕ)) (o : Object) (us : List Object) : Type 0 where
    took : {r : List ℕ} {x : Object} → behind ≡ Some r → Holds r x → Runs F (take m k) (o ∷ us) (x ∷ (us ++ truth true ∷ []), None) → TakeLine k s behind o us
    took_none : {x : Object} → behind ≡ None → Holds s x → Runs F (take m k) (o ∷ us) (x ∷ (us ++ truth false ∷ []), None) → TakeLine k s behind o us

  take-runs : (k : ByHand) (o x : Object) (us : List Object) (b : Bool) → like o x ≡ true → F (m + hand_number k) (o ∷ []) ≡ Some (x ∷ [], truth b) → Runs F (take m k) (o ∷ us) (x ∷ (us ++ truth b ∷ []), None)
  take-runs k o x us b e r =
      calls F truth_type (m + hand_number k) (by_pointer (local 0) ∷ []) (o ∷ us) (x ∷ us) (o ∷ []) (x ∷ []) (truth b) refl refl r
      (ap (λ z. bind (if z then Some (x ∷ us) else None) (λ g. Some g)) e) refl

  pub take-line : (k : ByHand) (g : List ℕ → Option (List ℕ)) (s : List ℕ) (o : Object) (us : List Object) → Takes Holds g (F (m + hand_number k)) → Holds s o → TakeLine k s (g s) o us
  take-line k g s o us f u = by-case (f s o u)
    where
      by-case : Tried Holds s (g s) (F (m + hand_number k) (o ∷ [])) → TakeLine k s (g s) o us
      by-case (tried_there {o = x} e r v) = took e v (take-runs k o x us true (same-type u v) r)
      by-case (tried_none {o = x} e r v) = took_none e v (take-runs k o x us false (same-type u v) r)

  -- a call of a part's reader
  pub data ReadLine (B : TypeTree) (e : Term) (s : List ℕ) (o q : Object) (us : List Object) (put : Object → Object) : Type 0 where
    line_value : {v : Datum} {r : List ℕ} {x y : Object} → Stands most B v s r → Represents n B v y → Holds r x
        → Runs F (read_part (h B) e) (o ∷ q ∷ us) (x ∷ put y ∷ (us ++ truth true ∷ []), None) → ReadLine B e s o q us put
    line_none : {r : List ℕ} {x y : Object} → ((v : Datum) (t : List ℕ) → Stands most B v s t → ⊥) → has_type (c_type n B) y ≡ true → Holds r x
        → Runs F (read_part (h B) e) (o ∷ q ∷ us) (x ∷ put y ∷ (us ++ truth false ∷ []), None) → ReadLine B e s o q us put

  -- where a part of the second local is; whatever is written there
  pub record Place (T : CType) (B : TypeTree) (e : Term) (q p : Object) (us : List Object) (put : Object → Object) : Type 0 where
    pub away : all_apart (by_pointer (local 0) ∷ by_pointer e ∷ []) ≡ true
    pub whole : has_type T q ≡ true
    pub part : has_type (c_type n B) p ≡ true
    pub at : (o : Object) → eval (o ∷ q ∷ us) e ≡ Some p
    pub writes : (x y : Object) → write (x ∷ q ∷ us) e y ≡ replaced (x ∷ q ∷ us) 1 q (put y)
    pub fits : (y : Object) → has_type (c_type n B) y ≡ true → has_type T (put y) ≡ true

  abbrev two-passed : Object → Option Object → Option (List Object)
  two-passed o E = bind (bind E (λ p. bind (Some []) (λ ps. Some (p ∷ ps)))) (λ ps. Some (o ∷ ps))

  module _ (T : CType) (B : TypeTree) (e : Term) (s : List ℕ) (o q p : Object) (us : List Object) (put : Object → Object) (place : Place T B e q p us put) where
    read-runs : (x y : Object) (b : Bool) → like o x ≡ true → has_type (c_type n B) y ≡ true → F (h B) (o ∷ p ∷ []) ≡ Some (x ∷ y ∷ [], truth b)
        → Runs F (read_part (h B) e) (o ∷ q ∷ us) (x ∷ put y ∷ (us ++ truth b ∷ []), None)
    read-runs x y b u t r =
        let back = ap (λ z. bind (if z then Some (x ∷ q ∷ us) else None) (λ g. put_back g (by_pointer e ∷ []) (y ∷ []))) u
        ∙ ap (λ R. bind R (λ g. put_back g [] [])) (place.writes x y ∙ ap (λ z. if z then Some (x ∷ put y ∷ us) else None) (alike T q (put y) place.whole (place.fits y t))) in
        calls F truth_type (h B) (by_pointer (local 0) ∷ by_pointer e ∷ []) (o ∷ q ∷ us) (x ∷ put y ∷ us) (o ∷ p ∷ []) (x ∷ y ∷ []) (truth b) place.away (ap (two-passed o) (place.at o)) r back refl

    pub read-line : Reads Holds n most B (F (h B)) → Holds s o → ReadLine B e s o q us put
    read-line f u = by-case (f s o p u place.part)
      where
        by-case : Read Holds n most B s (F (h B) (o ∷ p ∷ [])) → ReadLine B e s o q us put
        by-case (read_value {o = x} {p = y} st rep r v) = line_value st rep v (read-runs x y true (same-type u v) (has n rep) r)
        by-case (read_none {o = x} {p = y} none t r v) = line_none none t v (read-runs x y false (same-type u v) t r)

  pub passes : (k : ℕ) (f : Frame) → slice_get f k ≡ Some (truth true) → Runs F (stop_unless (local k)) f (f, None)
  passes k f e = first-plain F skip (answer (boolean false)) (local k) f f None e (skips F) refl

  pub stopped : (k : ℕ) (f : Frame) → slice_get f k ≡ Some (truth false) → Runs F (stop_unless (local k)) f (f, Some (truth false))
  stopped k f e = second-plain F skip (answer (boolean false)) (local k) f f (Some (truth false)) e (gives-back F (boolean false) f (truth false) refl refl) refl

  -- what is left of a reader comes to this, of the bytes S
  pub data Comes (A : TypeTree) (S : List ℕ) (c : Command) (f : Frame) : Type 0 where
    comes_value : {v : Datum} {r : List ℕ} {o q : Object} {us : List Object} → Stands most A v S r → Represents n A v q → Holds r o → Runs F c f (o ∷ q ∷ us, Some (truth true)) → Comes A S c f
    comes_none : {r : List ℕ} {o q : Object} {us : List Object} → ((v : Datum) (t : List ℕ) → Stands most A v S t → ⊥) → has_type (c_type n A) q ≡ true → Holds r o
        → Runs F c f (o ∷ q ∷ us, Some (truth false)) → Comes A S c f

  pub after : {A : TypeTree} {S : List ℕ} {a b : Command} {f g : Frame} → Runs F a f (g, None) → Comes A S b g → Comes A S (sequence a b) f
  after r (comes_value st rep u t) = comes_value st rep u (then-run F r t)
  after r (comes_none none y u t) = comes_none none y u (then-run F r t)

  module _ (A : TypeTree) (S : List ℕ) where
    abbrev pub None-there : Type 0
    None-there = (v : Datum) (t : List ℕ) → Stands most A v S t → ⊥

    -- what must stand there is taken, or nothing stands there
    pub tried : (k : ByHand) (j : ℕ) (g : List ℕ → Option (List ℕ)) (c : Command) (s : List ℕ) (o q : Object) (us : List Object) → Takes Holds g (F (m + hand_number k)) → Holds s o → has_type (c_type n A) q ≡ true
        → ((x : Object) (b : Bool) → slice_get (x ∷ q ∷ (us ++ truth b ∷ [])) j ≡ Some (truth b)) → (g s ≡ None → None-there)
        → ((r : List ℕ) (x : Object) → g s ≡ Some r → Holds r x → Comes A S c (x ∷ q ∷ (us ++ truth true ∷ []))) → Comes A S (sequence (take m k) (sequence (stop_unless (local j)) c)) (o ∷ q ∷ us)
    tried k j g c s o q us f u t i fails goes = by-case (take-line k g s o (q ∷ us) f u)
      where
        by-case : TakeLine k s (g s) o (q ∷ us) → Comes A S (sequence (take m k) (sequence (stop_unless (local j)) c)) (o ∷ q ∷ us)
        by-case (took {r = r} {x = x} e v runs) = after runs (after (passes j (x ∷ q ∷ (us ++ truth true ∷ [])) (i x true)) (goes r x e v))
        by-case (took_none {x = x} e v runs) = comes_none (fails e) t v (then-run F runs (ends F (stopped j (x ∷ q ∷ (us ++ truth false ∷ [])) (i x false))))

    -- the same of a part
    pub part-tried : (B : TypeTree) (e : Term) (j : ℕ) (c : Command) (s : List ℕ) (o q p : Object) (us : List Object) (put : Object → Object) → Place (c_type n A) B e q p us put → Reads Holds n most B (F (h B)) → Holds s o
        → ((x y : Object) (b : Bool) → slice_get (x ∷ y ∷ (us ++ truth b ∷ [])) j ≡ Some (truth b)) → (((v : Datum) (t : List ℕ) → Stands most B v s t → ⊥) → None-there)
        → ((v : Datum) (r : List ℕ) (x y : Object) → Stands most B v s r → Represents n B v y → Holds r x → Comes A S c (x ∷ put y ∷ (us ++ truth true ∷ [])))
        → Comes A S (sequence (read_part (h B) e) (sequence (stop_unless (local j)) c)) (o ∷ q ∷ us)
    part-tried B e j c s o q p us put place f u i fails goes = by-case (read-line (c_type n A) B e s o q p us put place f u)
      where
        by-case : ReadLine B e s o q us put → Comes A S (sequence (read_part (h B) e) (sequence (stop_unless (local j)) c)) (o ∷ q ∷ us)
        by-case (line_value {v = v} {r = r} {x = x} {y = y} st rep w runs) = after runs (after (passes j (x ∷ put y ∷ (us ++ truth true ∷ [])) (i x (put y) true)) (goes v r x y st rep w))
        by-case (line_none {x = x} {y = y} none t w runs) =
            comes_none (fails none) (place.fits y t) w (then-run F runs (ends F (stopped j (x ∷ put y ∷ (us ++ truth false ∷ [])) (i x (put y) false))))

    -- what is taken last is answered
    pub last-tried : (k : ByHand) (j : ℕ) (g : List ℕ → Option (List ℕ)) (v : Datum) (s : List ℕ) (o q : Object) (us : List Object) → Takes Holds g (F (m + hand_number k)) → Holds s o → Represents n A v q
        → ((x : Object) (b : Bool) → slice_get (x ∷ q ∷ (us ++ truth b ∷ [])) j ≡ Some (truth b)) → (g s ≡ None → None-there)
        → ((r : List ℕ) → g s ≡ Some r → Stands most A v S r) → Comes A S (sequence (take m k) (answer (local j))) (o ∷ q ∷ us)
    last-tried k j g v s o q us f u rep i fails goes = by-case (take-line k g s o (q ∷ us) f u)
      where
        by-case : TakeLine k s (g s) o (q ∷ us) → Comes A S (sequence (take m k) (answer (local j))) (o ∷ q ∷ us)
        by-case (took {r = r} {x = x} e w runs) = comes_value (goes r e) rep w (then-run F runs (gives-back F (local j) (x ∷ q ∷ (us ++ truth true ∷ [])) (truth true) (i x true) refl))
        by-case (took_none {x = x} e w runs) = comes_none (fails e) (has n rep) w (then-run F runs (gives-back F (local j) (x ∷ q ∷ (us ++ truth false ∷ [])) (truth false) (i x false) refl))

  first-place : (A B : TypeTree) (a b : Object) (us : List Object) → has_type (c_type n A) a ≡ true → has_type (c_type n B) b ≡ true → Place (c_type n (pair_ty A B)) A (dot (local 1) 0) (two a b) a us (λ y. two y b)
  first-place A B a b us ha hb =
      record { away = refl; whole = yes-and ha (yes-and hb refl); part = ha; at = λ o. refl; writes = λ x y. refl; fits = λ y t. yes-and t (yes-and hb refl) }

  second-place : (A : CType) (B : TypeTree) (a b : Object) (us : List Object) → has_type A a ≡ true → has_type (c_type n B) b ≡ true → Place (two_types A (c_type n B)) B (dot (local 1) 1) (two a b) b us (λ y. two a y)
  second-place A B a b us ha hb =
      record { away = refl; whole = yes-and ha (yes-and hb refl); part = hb; at = λ o. refl; writes = λ x y. refl; fits = λ y t. yes-and ha (yes-and t refl) }

  module _ (one : OneValueLaw) (takes : TakesByHand Holds n most F m) where
    pub pair-read : (A B : TypeTree) (S : List ℕ) (o a b : Object) → Reads Holds n most A (F (h A)) → Reads Holds n most B (F (h B)) → Holds S o → has_type (c_type n A) a ≡ true → has_type (c_type n B) b ≡ true
        → Comes (pair_ty A B) S (reader_body most m h (pair_ty A B)) (o ∷ two a b ∷ [])
    pair-read A B S o a b f g u ha hb =
        let P : TypeTree = pair_ty A B in
        let word : List ℕ → Option (List ℕ) = without_word (codes "(pair") in
        let q : has_type (c_type n P) (two a b) ≡ true = yes-and ha (yes-and hb refl) in
        let t1 : List Object = truth true ∷ [] in
        let t2 : List Object = truth true ∷ t1 in
        let t3 : List Object = truth true ∷ t2 in
        let t4 : List Object = truth true ∷ t3 in
        let t5 : List Object = truth true ∷ t4 in
        tried P S take_pair 2 word _ S o (two a b) [] takes.pair u q (λ x z. refl) (no-pair-word one most A B S) (λ r0 x0 e0 u0.
        tried P S take_blank 3 (without_byte 32) _ r0 x0 (two a b) t1 takes.blank u0 q (λ x z. refl) (no-pair-blank one most A B S r0 e0) (λ r1 x1 e1 u1.
        part-tried P S A (dot (local 1) 0) 4 _ r1 x1 (two a b) a t2 (λ y. two y b) (first-place A B a b t2 ha hb) f u1 (λ x y z. refl) (no-pair-first one most A B S r0 r1 e0 e1) (λ v r2 x2 y2 st2 rep2 u2.
        tried P S take_blank 5 (without_byte 32) _ r2 x2 (two y2 b) t3 takes.blank u2 (yes-and (has n rep2) (yes-and hb refl)) (λ x z. refl) (no-pair-middle one most A B S r0 r1 e0 e1 v r2 st2) (λ r3 x3 e3 u3.
        part-tried P S B (dot (local 1) 1) 6 _ r3 x3 (two y2 b) b t4 (λ y. two y2 y) (second-place (c_type n A) B y2 b t4 (has n rep2) hb) g u3 (λ x y z. refl)
        (no-pair-second one most A B S r0 r1 e0 e1 v r2 st2 r3 e3) (λ w r4 x4 y4 st4 rep4 u4.
        last-tried P S take_close 7 (without_byte 41) (pair v w) r4 x4 (two y2 y4) t5 takes.close u4 (c_pair rep2 rep4) (λ x z. refl)
        (no-pair-close one most A B S r0 r1 e0 e1 v r2 st2 r3 e3 w r4 st4) (λ r5 e5. pair-joined one most A B e0 e1 st2 e3 st4 e5))))))

    carried-read : (A : TypeTree) (S s : List ℕ) (o b : Object) → without_word (codes "(event") S ≡ Some s → Reads Holds n most A (F (h A)) → Holds s o → has_type (c_type n A) b ≡ true
        → Comes (event_ty A) S (carried_body m h A) (o ∷ two (truth true) b ∷ truth true ∷ [])
    carried-read A S s o b e f u hb =
        let P : TypeTree = event_ty A in
        let q : has_type (c_type n P) (two (truth true) b) ≡ true = yes-and refl (yes-and hb refl) in
        let t1 : List Object = truth true ∷ [] in
        let t2 : List Object = truth true ∷ t1 in
        let t3 : List Object = truth true ∷ t2 in
        tried P S take_blank 3 (without_byte 32) _ s o (two (truth true) b) t1 takes.blank u q (λ x z. refl) (no-event-blank one most A S s e) (λ r1 x1 e1 u1.
        part-tried P S A (dot (local 1) 1) 4 _ r1 x1 (two (truth true) b) b t2 (λ y. two (truth true) y) (second-place truth_type A (truth true) b t2 refl hb) f u1 (λ x y z. refl)
        (no-event-value one most A S s e r1 e1) (λ v r2 x2 y2 st2 rep2 u2.
        last-tried P S take_close 5 (without_byte 41) (event v) r2 x2 (two (truth true) y2) t3 takes.close u2 (c_event rep2) (λ x z. refl)
        (no-event-close one most A S s e r1 e1 v r2 st2) (λ r3 e3. event-joined one most A e e1 st2 e3)))

    -- a block answers
    blocks : {A : TypeTree} {S : List ℕ} {c d : Command} (o q : Object) → Comes A S c (o ∷ q ∷ truth true ∷ []) → Comes A S (sequence (branch (local 2) c skip) d) (o ∷ q ∷ truth true ∷ [])
    blocks o q (comes_value {o = x} {q = y} {us = us} st rep u t) =
        comes_value st rep u (ends F (chooses-first F {b = skip} (local 2) (o ∷ q ∷ truth true ∷ []) (x ∷ y ∷ us) (Some (truth true)) refl t))
    blocks o q (comes_none {o = x} {q = y} {us = us} none z u t) =
        comes_none none z u (ends F (chooses-first F {b = skip} (local 2) (o ∷ q ∷ truth true ∷ []) (x ∷ y ∷ us) (Some (truth false)) refl t))

    pub event-read : (A : TypeTree) (S : List ℕ) (o a b : Object) → Reads Holds n most A (F (h A)) → Holds S o → has_type truth_type a ≡ true → has_type (c_type n A) b ≡ true
        → Comes (event_ty A) S (reader_body most m h (event_ty A)) (o ∷ two a b ∷ [])
    event-read A S o a b f u ha hb = by-case (take-line is_event (without_word (codes "(event")) S o (two a b ∷ []) takes.event u)
      where
        whole : has_type (c_type n (event_ty A)) (two a b) ≡ true
        whole = yes-and ha (yes-and hb refl)

        sets : (x : Object) (z : Bool) → Runs F (assign (dot (local 1) 0) (local 2)) (x ∷ two a b ∷ truth z ∷ []) (x ∷ two (truth z) b ∷ truth z ∷ [], None)
        sets x z =
            assigns F (dot (local 1) 0) (local 2) (x ∷ two a b ∷ truth z ∷ []) (x ∷ two (truth z) b ∷ truth z ∷ []) (truth z) refl refl
            (ap (λ y. if y then Some (x ∷ two (truth z) b ∷ truth z ∷ []) else None) (alike (c_type n (event_ty A)) (two a b) (two (truth z) b) whole (yes-and refl (yes-and hb refl))))

        by-case : TakeLine is_event S (without_word (codes "(event") S) o (two a b ∷ []) → Comes (event_ty A) S (reader_body most m h (event_ty A)) (o ∷ two a b ∷ [])
        by-case (took {r = r} {x = x} e v runs) = after runs (after (sets x true) (blocks x (two (truth true) b) (carried-read A S r x b e f v hb)))
        by-case (took_none {x = x} e v runs) =
            after runs
            (after (sets x false)
            (after (chooses-second F {a = carried_body m h A} (local 2) (x ∷ two (truth false) b ∷ truth false ∷ []) (x ∷ two (truth false) b ∷ truth false ∷ []) None refl (skips F))
            (last-tried (event_ty A) S take_none 3 (without_word (codes "none")) no_event S x (two (truth false) b) (truth false ∷ []) takes.none v (c_no_event hb) (λ y z. refl) (no-event-word one most A S e)
            (λ r i. none-joined one most A i))))
