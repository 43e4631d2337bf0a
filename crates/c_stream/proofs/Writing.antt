-- Writers write spellings.
use Rattle.std.proofs.Common.{◌≡◌, ◌<◌, ◌+◌, ◌^◌, ℕ, zero, suc, pos, Bool, true, false, ◌&&◌, List, [], ◌∷◌, ◌++◌, length, Option, Some, None, refl, subst, sym, ap, ◌∙◌, arith, append-nil, append_assoc}
use Rattle.std.specs.Prelude.{if◌then◌else◌, int_lt, codes}
use Rattle.sample_core.specs.Datum.{Datum, Datums, pair, event, list, elements}
use Rattle.sample_core.specs.TypeTree.{TypeTree, unit_ty, bool_ty, int_ty, pair_ty, event_ty, list_ty}
use Rattle.sample_core.specs.Spelling.{spelling, spellings}
use Rattle.leaf_code.specs.Fitting.{Bounds}
use Rattle.c_meaning.specs.Object.{no_member, u32, Object, truth, number, in_range, has_type, part_of, like}
use Rattle.c_meaning.specs.Object as C
use Rattle.c_meaning.specs.Syntax.{less, Term, local, dot, at, none, binary, by_const, by_pointer, Command, sequence, loop, answer}
use Rattle.c_meaning.specs.Meaning.{Frame, Linked, bind, eval, value, all_apart, go_on, leave, by_truth, looped, is_none_of, written, put_back, run}
use Rattle.c_meaning.proofs.Alike.{no, yes-and, alike}
use Rattle.c_meaning.proofs.Runs.{Runs, then-run, gives-back, chooses-first, chooses-second, calls, function-runs}
use Rattle.c_leaf.specs.Representing.{two, Represents, c_pair, c_no_event, c_event, c_list, AllRepresent, c_end, c_more}
use Rattle.c_leaf.specs.LeafCLaw.{FewElements}
use Rattle.c_leaf.proofs.Values.{has}
use Rattle.c_stream.specs.Streams.{stream_type, ByHand, put_pair, put_event, put_list, put_none, put_blank, put_close, hand_number, put, write_part, HoldsBy, AreStreams, Puts, Writes, PutsByHand}
use Rattle.c_stream.specs.Writing.{has_parts, writer_body, writer, PartsWritten, WritingLaw}

module _ (l : ℕ) (Holds : List ℕ → Object → Type 0) (n : Bounds) (F : ℕ → Linked) (m : ℕ) (w : TypeTree → ℕ) (streams : AreStreams l Holds) where
  -- a line writes: the first local holds more bytes
  record Line (c : Command) (o : Object) (rest : List Object) (s : List ℕ) : Type 0 where
    stream : Object
    runs : Runs F c (o ∷ rest) (stream ∷ (rest ++ C.end ∷ []), None)
    holds : Holds s stream

  same-type : {s t : List ℕ} {o p : Object} → Holds s o → Holds t p → like o p ≡ true
  same-type {s} {t} {o} {p} h k = alike (stream_type l) o p (streams s o h) (streams t p k)

  put-line : (k : ByHand) (bs s : List ℕ) (o : Object) (rest : List Object) → Puts Holds bs (F (m + hand_number k)) → Holds s o → Line (put m k) o rest (s ++ bs)
  put-line k bs s o rest f h =
      let r = f s o h in
      let back = ap (λ b. bind (if b then Some (r.stream ∷ rest) else None) (λ g. Some g)) (same-type h r.holds) in
      record {
        stream = r.stream;
        runs = calls F no_member (m + hand_number k) (by_pointer (local 0) ∷ []) (o ∷ rest) (r.stream ∷ rest) (o ∷ []) (r.stream ∷ []) C.end refl refl r.result back refl;
        holds = r.holds;
      }

  abbrev two-passed : Object → Option Object → Option (List Object)
  two-passed o E = bind (bind E (λ p. bind (Some []) (λ ps. Some (p ∷ ps)))) (λ ps. Some (o ∷ ps))

  write-line : (A : TypeTree) (e : Term) (s : List ℕ) (o p : Object) (rest : List Object) {v : Datum} → Writes Holds n A (F (w A)) → all_apart (by_pointer (local 0) ∷ by_const e ∷ []) ≡ true
      → Holds s o → eval (o ∷ rest) e ≡ Some p → Represents n A v p → Line (write_part (w A) e) o rest (s ++ spelling v)
  write-line A e s o p rest {v} f away h is x =
      let r = f v s o p h x in
      let back = ap (λ b. bind (if b then Some (r.stream ∷ rest) else None) (λ g. put_back g (by_const e ∷ []) (p ∷ []))) (same-type h r.holds) in
      record {
        stream = r.stream;
        runs = calls F no_member (w A) (by_pointer (local 0) ∷ by_const e ∷ []) (o ∷ rest) (r.stream ∷ rest) (o ∷ p ∷ []) (r.stream ∷ p ∷ []) C.end away (ap (two-passed o) is) r.result back refl;
        holds = r.holds;
      }

  -- a writer's body
  record Body (A : TypeTree) (o p : Object) (s : List ℕ) : Type 0 where
    stream : Object
    more : List Object
    runs : Runs F (writer_body n m w A) (o ∷ p ∷ []) (stream ∷ p ∷ more, Some C.end)
    holds : Holds s stream

  ended : (f : Frame) → Runs F (answer none) f (f, Some C.end)
  ended f = gives-back F none f C.end refl refl

  three-joined : (s a b c : List ℕ) → ((s ++ a) ++ b) ++ c ≡ s ++ (a ++ (b ++ c))
  three-joined s a b c = append_assoc (s ++ a) b c ∙ append_assoc s a (b ++ c)

  five-joined : (s a b c d e : List ℕ) → ((((s ++ a) ++ b) ++ c) ++ d) ++ e ≡ s ++ (a ++ (b ++ (c ++ (d ++ e))))
  five-joined s a b c d e = three-joined ((s ++ a) ++ b) c d e ∙ three-joined s a b (c ++ (d ++ e))

  module _ (puts : PutsByHand Holds n F m) where
    pair-written : (A B : TypeTree) (s : List ℕ) (o a b : Object) {v x : Datum} → Writes Holds n A (F (w A)) → Writes Holds n B (F (w B)) → Holds s o → Represents n A v a → Represents n B x b
        → Body (pair_ty A B) o (two a b) (s ++ spelling (pair v x))
    pair-written A B s o a b {v} {x} f g h y z =
        let q : Object = two a b in
        let r1 = put-line put_pair (codes "(pair ") s o (q ∷ []) puts.pair h in
        let s1 : List ℕ = s ++ codes "(pair " in
        let r2 = write-line A (dot (local 1) 0) s1 r1.stream a (q ∷ C.end ∷ []) f refl r1.holds refl y in
        let s2 : List ℕ = s1 ++ spelling v in
        let r3 = put-line put_blank (codes " ") s2 r2.stream (q ∷ C.end ∷ C.end ∷ []) puts.blank r2.holds in
        let s3 : List ℕ = s2 ++ codes " " in
        let r4 = write-line B (dot (local 1) 1) s3 r3.stream b (q ∷ C.end ∷ C.end ∷ C.end ∷ []) g refl r3.holds refl z in
        let s4 : List ℕ = s3 ++ spelling x in
        let r5 = put-line put_close (codes ")") s4 r4.stream (q ∷ C.end ∷ C.end ∷ C.end ∷ C.end ∷ []) puts.close r4.holds in
        record {
          stream = r5.stream;
          more = C.end ∷ C.end ∷ C.end ∷ C.end ∷ C.end ∷ [];
          runs = then-run F r1.runs (then-run F r2.runs (then-run F r3.runs (then-run F r4.runs (then-run F r5.runs (ended (r5.stream ∷ q ∷ C.end ∷ C.end ∷ C.end ∷ C.end ∷ C.end ∷ []))))));
          holds = subst (λ t. Holds t r5.stream) (five-joined s (codes "(pair ") (spelling v) (codes " ") (spelling x) (codes ")")) r5.holds;
        }

    event-written : (A : TypeTree) (s : List ℕ) (o a : Object) {v : Datum} → Writes Holds n A (F (w A)) → Holds s o → Represents n A v a → Body (event_ty A) o (two (truth true) a) (s ++ spelling (event v))
    event-written A s o a {v} f h y =
        let q : Object = two (truth true) a in
        let r1 = put-line put_event (codes "(event ") s o (q ∷ []) puts.event h in
        let s1 : List ℕ = s ++ codes "(event " in
        let r2 = write-line A (dot (local 1) 1) s1 r1.stream a (q ∷ C.end ∷ []) f refl r1.holds refl y in
        let s2 : List ℕ = s1 ++ spelling v in
        let r3 = put-line put_close (codes ")") s2 r2.stream (q ∷ C.end ∷ C.end ∷ []) puts.close r2.holds in
        let inside = then-run F r1.runs (then-run F r2.runs r3.runs) in
        record {
          stream = r3.stream;
          more = [];
          runs = then-run F (chooses-first F {b = put m put_none} (dot (local 1) 0) (o ∷ q ∷ []) (r3.stream ∷ q ∷ C.end ∷ C.end ∷ C.end ∷ []) None refl inside) (ended (r3.stream ∷ q ∷ []));
          holds = subst (λ t. Holds t r3.stream) (three-joined s (codes "(event ") (spelling v) (codes ")")) r3.holds;
        }

    no-event-written : (A : TypeTree) (s : List ℕ) (o a : Object) → Holds s o → Body (event_ty A) o (two (truth false) a) (s ++ codes "none")
    no-event-written A s o a h =
        let q : Object = two (truth false) a in
        let r = put-line put_none (codes "none") s o (q ∷ []) puts.none h in
        record {
          stream = r.stream;
          more = [];
          runs = then-run F (chooses-second F {a = sequence (put m put_event) (sequence (write_part (w A) (dot (local 1) 1)) (put m put_close))} (dot (local 1) 0) (o ∷ q ∷ []) (r.stream ∷ q ∷ C.end ∷ []) None refl r.runs) (ended (r.stream ∷ q ∷ []));
          holds = r.holds;
        }

    -- the loop over the elements: k of them, which are es
    module _ (A : TypeTree) (few : FewElements n) (f : Writes Holds n A (F (w A))) (k : ℕ) (es : Object) where
      abbrev q : Object
      q = two (number u32 (pos k)) es

      abbrev frame : Object → Frame
      frame o = o ∷ q ∷ C.end ∷ []

      abbrev test : Frame → Option Object
      test g = value g (binary less u32 (local 3) (dot (local 1) 0))

      abbrev body : Command
      body = sequence (put m put_blank) (write_part (w A) (at (dot (local 1) 1) (local 3)))

      record Looped (j i : ℕ) (o : Object) (s : List ℕ) : Type 0 where
        stream : Object
        is : looped test (run F body) j i (frame o) ≡ Some (frame stream, None)
        holds : Holds s stream

      goes : (j i : ℕ) (o : Object) (b : Bool) → int_lt (pos i) (pos k) ≡ b
          → looped test (run F body) (suc j) i (frame o)
          ≡ by_truth (truth b) (bind (bind (run F body (frame o ++ number u32 (pos i) ∷ [])) (leave (frame o))) (go_on (looped test (run F body) j (suc i)))) (Some (frame o, None))
      goes j i o b e =
          ap (λ z. by_truth (truth z) (bind (bind (run F body (frame o ++ number u32 (pos i) ∷ [])) (leave (frame o))) (go_on (looped test (run F body) j (suc i)))) (Some (frame o, None))) e

      not-below : (i : ℕ) → k ≡ i + 0 → int_lt (pos i) (pos k) ≡ false
      not-below i e = grind arith

      is-below : (i h : ℕ) → k ≡ i + suc h → int_lt (pos i) (pos k) ≡ true
      is-below i h e = grind arith

      all-written : (j i : ℕ) (o : Object) (s : List ℕ) {vs : Datums} {os : Object} → AllRepresent n A j vs os → ((h : ℕ) → part_of es (i + h) ≡ part_of os h) → k ≡ i + length (elements vs) → Holds s o
          → Looped j i o (s ++ spellings vs)
      all-written zero i o s (c_end t) p e h = record { stream = o; is = refl; holds = subst (λ t. Holds t o) (sym (append-nil s)) h }
      all-written (suc j) i o s (c_end t) p e h = record { stream = o; is = goes j i o false (not-below i e); holds = subst (λ t. Holds t o) (sym (append-nil s)) h }
      all-written (suc j) i o s (c_more {v = v} {vs = vs} {o = a} x xs) p e h =
          let r1 = put-line put_blank (codes " ") s o (q ∷ C.end ∷ number u32 (pos i) ∷ []) puts.blank h in
          let s1 : List ℕ = s ++ codes " " in
          let r2 = write-line A (at (dot (local 1) 1) (local 3)) s1 r1.stream a (q ∷ C.end ∷ number u32 (pos i) ∷ C.end ∷ []) f refl r1.holds (sym (ap (part_of es) (plain i)) ∙ p 0) x in
          let c = all-written j (suc i) r2.stream (s1 ++ spelling v) xs (λ h. ap (part_of es) (shift i h) ∙ p (suc h)) (omega arith) r2.holds in
          record {
            stream = c.stream;
            is = goes j i o true (is-below i (length (elements vs)) e) ∙ ap (λ R. bind (bind R (leave (frame o))) (go_on (looped test (run F body) j (suc i)))) (then-run F r1.runs r2.runs).is ∙ c.is;
            holds = subst (λ t. Holds t c.stream) (three-joined s (codes " ") (spelling v) (spellings vs)) c.holds;
          }
        where
          plain : (i : ℕ) → i + 0 ≡ i
          plain i = omega arith

          shift : (i j : ℕ) → suc i + j ≡ i + suc j
          shift i j = omega arith

      list-written : (s : List ℕ) (o : Object) {vs : Datums} → k ≡ length (elements vs) → AllRepresent n A (n A) vs es → Holds s o → Body (list_ty A) o q (s ++ spelling (list vs))
      list-written s o {vs} e xs h =
          let r1 = put-line put_list (codes "(list") s o (q ∷ []) puts.list h in
          let s1 : List ℕ = s ++ codes "(list" in
          let r2 = all-written (n A) 0 r1.stream s1 xs (λ j. ap (part_of es) (zero-plus j)) (e ∙ sym (zero-plus (length (elements vs)))) r1.holds in
          let r3 = put-line put_close (codes ")") (s1 ++ spellings vs) r2.stream (q ∷ C.end ∷ []) puts.close r2.holds in
          let loops : Runs F (loop (n A) (binary less u32 (local 3) (dot (local 1) 0)) body) (frame r1.stream) (frame r2.stream, None) =
          record { is = ap (λ z. if z then looped test (run F body) (n A) 0 (frame r1.stream) else None) (in-range (n A) (few A)) ∙ r2.is } in
          record {
            stream = r3.stream;
            more = C.end ∷ C.end ∷ [];
            runs = then-run F r1.runs (then-run F loops (then-run F r3.runs (ended (r3.stream ∷ q ∷ C.end ∷ C.end ∷ []))));
            holds = subst (λ t. Holds t r3.stream) (three-joined s (codes "(list") (spellings vs) (codes ")")) r3.holds;
          }
        where
          zero-plus : (j : ℕ) → 0 + j ≡ j
          zero-plus j = omega arith

          in-range : (m : ℕ) → m < 2 ^ 32 → (is_none_of 3 (written body) && in_range u32 (pos m)) ≡ true
          in-range m l = yes-and refl (fits m l)
            where
              fits : (m : ℕ) → m < 2 ^ 32 → in_range u32 (pos m) ≡ true
              fits m l = grind arith

    body-writes : (A : TypeTree) (s : List ℕ) (o p : Object) {v : Datum} → FewElements n → PartsWritten Holds n F w A → has_parts A ≡ true → Holds s o → Represents n A v p → Body A o p (s ++ spelling v)
    body-writes unit_ty s o p few f a h x = no a
    body-writes bool_ty s o p few f a h x = no a
    body-writes int_ty s o p few f a h x = no a
    body-writes (pair_ty A B) s o p few f a h (c_pair {o = b} {p = c} x y) = pair-written A B s o b c f.0 f.1 h x y
    body-writes (event_ty A) s o p few f a h (c_no_event {o = b} t) = no-event-written A s o b h
    body-writes (event_ty A) s o p few f a h (c_event {o = b} x) = event-written A s o b f h x
    body-writes (list_ty A) s o p few f a h (c_list {k = k} {o = es} e b xs) = list-written A few f k es s o e xs h

pub writing_law : WritingLaw
writing_law l test n F m w A streams few puts f a v s o p h x =
    let r = body-writes l (HoldsBy test) n F m w streams puts A s o p few f a h x in
    record {
      stream = r.stream;
      result = function-runs F (writer l n m w A) (o ∷ p ∷ []) (r.stream ∷ p ∷ r.more) (r.stream ∷ p ∷ []) C.end (yes-and (streams s o h) (yes-and (has n x) refl)) (steady-writer A) r.runs refl refl;
      holds = r.holds;
    }
  where
    steady-writer : (A : TypeTree) → Rattle.c_meaning.specs.Meaning.steady (writer_body n m w A) ≡ true
    steady-writer unit_ty = refl
    steady-writer bool_ty = refl
    steady-writer int_ty = refl
    steady-writer (pair_ty A B) = refl
    steady-writer (event_ty A) = refl
    steady-writer (list_ty A) = refl
