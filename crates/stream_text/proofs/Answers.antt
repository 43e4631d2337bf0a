-- What is known of the next line gives the answer.
use Rattle.std.proofs.Common.{◌≡◌, ◌≤◌, ◌<◌, ◌+◌, ◌^◌, ℕ, suc, List, [], ◌∷◌, append-nil, length, take, drop, Option, Some, None, Result, Ok, Err, refl, sym, ap, ◌∙◌, subst, arith, inl, inr}
use Rattle.std.specs.Prelude.{◌≢◌, IfOk, IfSome}
use Rattle.std.proofs.lemmas.Grind.{common_steps}
use Rattle.std.specs.Io.KnownBytes.{IsAtEnd}
use Rattle.std.specs.Option.{option_map, option_copied}
use Rattle.std.specs.Borrow.{Bor}
use Rattle.sample_core.specs.Datum.{Datum}
use Rattle.sample_core.specs.HasType.{HasType}
use Rattle.sample_core.specs.ReadingLaws.{ReadingLaw}
use Rattle.sample_core.specs.TypeTree.{TypeTree}
use Rattle.sample_core.specs.ValueView.{datum_of}
use Rattle.sample_core.specs.declared.sample.Sample.{Sample}
use Rattle.stream_text.specs.Calls.{MayTakeNext, step_alone}
use Rattle.stream_text.specs.Answers.{ReaderState, SameLast, TakesLine, AnswersSample, TakesNext, KnownLine, ended, shown, last, FaultyLine, known_bytes, Unfinished, HasFault, IsAnswer, GivesAnswer, GivesStep}
use Rattle.stream_text.specs.LineAhead.{IsAhead}
use Rattle.stream_text.specs.LineTaken.{TakesKept, TakesLast}
use Rattle.stream_text.specs.Pieces.{ReadPieces}
use Rattle.stream_text.specs.Settling.{AsksAsNeeded, IsSettled, IsUnsettled, SettlesLine, Settles}
use Rattle.stream_text.specs.StreamText.{IsBefore, line_read}
use Rattle.stream_text.specs.StreamView.{before_view, sample_view, value_behind}
use Rattle.stream_text.specs.TextLines.{HasLine, front_lines, shows_fault}
use Rattle.stream_text.specs.declared.fault.StreamFault.{StreamFault}
use Rattle.stream_text.specs.declared.fault.StreamFault.TheVariants as S
use Rattle.stream_text.specs.declared.reader.Met.{Met}
use Rattle.stream_text.specs.declared.reader.Met.TheVariants as M
use Rattle.stream_text.specs.declared.settle.Settled.{Settled}
use Rattle.stream_text.specs.declared.settle.Settled.TheVariants as T
use Rattle.stream_text.proofs.Lines.{has_line, one_line}
use Rattle.stream_text.proofs.Settling.{none_read}
use Rattle.stream_text.proofs.Samples.{refused_of_text, shown_no_sample, read_typed, read_step}
use Rattle.stream_text.specs.declared.line.TheConstants.{MOST_SAMPLES}

-- the state with the bytes that are kept after reading on, and the number of reads
abbrev pub read_on : ReaderState → List ℕ → ℕ → ReaderState
read_on s kept reads = record { kept = kept; lines = s.lines; before = s.before; reads = reads; met = s.met }

-- the same with what ended the stream
abbrev pub ended_by : Met → ReaderState → List ℕ → ℕ → ReaderState
ended_by met s kept reads = record { kept = kept; lines = s.lines; before = s.before; reads = reads; met = met }

take_all : (xs : List ℕ) (n : ℕ) → n ≡ length xs → take n xs ≡ xs
take_all xs n e = grind (arith, common_steps)

drop_all : (xs : List ℕ) (n : ℕ) → n ≡ length xs → drop (n + 1) xs ≡ []
drop_all xs n e = grind (arith, common_steps)

-- what is read by the number, the value before and the line as they are borrowed is read by them as
-- they are kept
pub as_kept : (A : TypeTree) (n m : ℕ) (o : Option (Bor Sample)) (kept : Option Sample) (line line' : List ℕ) (r : Result (ℕ × Datum) StreamFault)
    → n ≡ m → option_copied o ≡ kept → line ≡ line' → line_read A n (before_view o) line ≡ r → line_read A m (option_map datum_of kept) line' ≡ r
as_kept A n m o kept line line' r i e f h =
    subst (λ k. line_read A k (option_map datum_of kept) line' ≡ r) i
    (subst (λ (b : Option Datum). line_read A n b line' ≡ r) (seen o ∙ ap (option_map datum_of) e) (subst (λ l. line_read A n (before_view o) l ≡ r) f h))
  where
    seen : (p : Option (Bor Sample)) → before_view p ≡ option_map datum_of (option_copied p)
    seen None = refl
    seen (Some v) = refl

given : (A : TypeTree) (s s' : ReaderState) (has has' : Option (List ℕ)) (n : ℕ) (kept' : List ℕ) (reads : ℕ) (settled : Result Settled StreamFault)
    (answer : Result (Option (ℕ × Sample)) StreamFault) → n ≡ suc s.lines → s.met ≡ M.Nothing → (h : Settles has has' n s.kept kept' s.reads reads settled)
    → s'.reads ≡ reads → IsAnswer A (IsAtEnd has') s h.pieces answer s' → GivesAnswer A s has answer s' has'
given A s s' has has' n kept' reads settled answer e m h r a = record {
  pieces = h.pieces;
  read = h.read;
  asks = subst (λ k. AsksAsNeeded k s.kept h.pieces) e h.asks;
  ended = λ f. absurd (f m);
  counts = r ∙ h.counts;
  gives = a;
}

-- the line that is settled is known
known_line : (end : Type 0) (n : ℕ) (kept : List ℕ) (size : ℕ) → SettlesLine n kept size → KnownLine end n kept (take size kept)
known_line end n kept size (inl h) = ended (drop (size + 1) kept) (has_line kept size h)
known_line end n kept size (inr h) = shown (take_all kept size h.0) h.1 (ap (shows_fault n) (sym h.0) ∙ h.2)

-- a line that holds a sample is settled by its line feed
ended_line : (A : TypeTree) (n : ℕ) (before : Option Datum) (kept : List ℕ) (size : ℕ) (x : ℕ × Datum) → SettlesLine n kept size
    → line_read A n before (take size kept) ≡ Ok x → HasLine kept (take size kept) (drop (size + 1) kept)
ended_line A n before kept size x (inl h) e = has_line kept size h
ended_line A n before kept size x (inr h) e =
    let same : length (take size kept) ≡ size = ap (λ l. length l) (take_all kept size h.0) ∙ sym h.0 in
    absurd (shown_no_sample A n before (take size kept) x (ap (shows_fault n) same ∙ h.2) e)

taken : (end : Type 0) (kept line rest rest' : List ℕ) (met met' : Met) → rest' ≡ rest → met' ≡ met → TakesLine end kept line rest met
    → TakesLine end kept line rest' met'
taken end kept line rest rest' met met' e f h = subst (λ r. TakesLine end kept line r met') (sym e) (subst (λ m. TakesLine end kept line rest m) (sym f) h)

-- the fault of a line that is known
line_fault : (A : TypeTree) (end : Type 0) (s s' : ReaderState) (pieces : ReadPieces) (kept line : List ℕ) (fault : StreamFault) → s.met ≡ M.Nothing
    → kept ≡ known_bytes s pieces → KnownLine end (suc s.lines) kept line
    → (fault ≢ S.Memory → line_read A (suc s.lines) s.before line ≡ Err fault) → HasFault A end s pieces fault s'
line_fault A end s s' pieces kept line fault m k h r = go fault r
  where
    faulty : (f : StreamFault) → line_read A (suc s.lines) s.before line ≡ Err f → (s.met ≡ M.Nothing) × FaultyLine A end s (known_bytes s pieces) f
    faulty f e = (m, record { line = line; known = subst (λ bytes. KnownLine end (suc s.lines) bytes line) k h; refuses = e })

    go : (f : StreamFault) → (f ≢ S.Memory → line_read A (suc s.lines) s.before line ≡ Err f) → HasFault A end s pieces f s'
    go (S.Step n) e = faulty (S.Step n) (e (λ q. cc))
    go (S.Value n v) e = faulty (S.Value n v) (e (λ q. cc))
    go (S.NothingBefore n) e = faulty (S.NothingBefore n) (e (λ q. cc))
    go (S.LineTooLong n) e = faulty (S.LineTooLong n) (e (λ q. cc))
    go (S.TooManySamples n) e = faulty (S.TooManySamples n) (e (λ q. cc))
    go S.ReadTurns e = absurd (refused_of_text A (suc s.lines) s.before line S.ReadTurns (e (λ q. cc)))
    go S.Read e = absurd (refused_of_text A (suc s.lines) s.before line S.Read (e (λ q. cc)))
    go S.Memory e = m
    go S.Ended e = absurd (refused_of_text A (suc s.lines) s.before line S.Ended (e (λ q. cc)))

-- a line that is settled gives the answer
pub line_given : (A : TypeTree) (s s' : ReaderState) (has has' : Option (List ℕ)) (n : ℕ) (kept' : List ℕ) (reads size : ℕ)
    (answer : Result (Option (ℕ × Sample)) StreamFault) → n ≡ suc s.lines → s.met ≡ M.Nothing
    → Settles has has' n s.kept kept' s.reads reads (Ok (T.Line size))
    → TakesKept A (read_on s kept' reads) size answer s' → GivesAnswer A s has answer s' has'
line_given A s s' has has' n kept' reads size (Ok (Some x)) e m h t =
    let settled : SettlesLine (suc s.lines) kept' size = subst (λ k. SettlesLine k kept' size) e h.tells in
    let line : HasLine kept' (take size kept') (drop (size + 1) kept') = ended_line A (suc s.lines) s.before kept' size (sample_view x) settled t.0 in
    given A s s' has has' n kept' reads (Ok (T.Line size)) (Ok (Some x)) e m h t.1.unread
    (subst (λ bytes. AnswersSample A (IsAtEnd has') s bytes (sample_view x) s') h.keeps (record {
      goes_on = m;
      line = take size kept';
      takes = taken (IsAtEnd has') kept' (take size kept') (drop (size + 1) kept') s'.kept M.Nothing s'.met t.1.kept (t.1.met ∙ m) line;
      reads = t.0;
      counts = t.1.counts;
      keeps = t.1.keeps;
    }))
line_given A s s' has has' n kept' reads size (Ok None) e m h t = absurd t
line_given A s s' has has' n kept' reads size (Err fault) e m h t =
    let known = known_line (IsAtEnd has') (suc s.lines) kept' size (subst (λ k. SettlesLine k kept' size) e h.tells) in
    given A s s' has has' n kept' reads (Ok (T.Line size)) (Err fault) e m h t.1.unread (record {
      ends = t.1.ends;
      same = record { lines = t.1.same.lines; before = t.1.same.before };
      why = line_fault A (IsAtEnd has') s s' h.pieces kept' (take size kept') fault m h.keeps known t.0;
    })

-- what is kept at the end gives the answer
pub last_given : (A : TypeTree) (s s' : ReaderState) (has has' : Option (List ℕ)) (n : ℕ) (kept' : List ℕ) (reads : ℕ)
    (answer : Result (Option (ℕ × Sample)) StreamFault) → n ≡ suc s.lines → s.met ≡ M.Nothing → Settles has has' n s.kept kept' s.reads reads (Ok T.Last)
    → TakesLast A (read_on s kept' reads) answer s' → GivesAnswer A s has answer s' has'
last_given A s s' has has' n kept' reads (Ok None) e m h t =
    given A s s' has has' n kept' reads (Ok T.Last) (Ok None) e m h t.4 (record {
      ends = t.2;
      same = record { lines = t.3.lines; before = t.3.before };
      empty = inr (m, h.tells.0, sym h.keeps ∙ t.0);
    })
last_given A s s' has has' n kept' reads (Ok (Some x)) e m h t =
    let all : take (length kept') kept' ≡ kept' = take_all kept' (length kept') refl in
    given A s s' has has' n kept' reads (Ok T.Last) (Ok (Some x)) e m h t.1.1.unread
    (subst (λ bytes. AnswersSample A (IsAtEnd has') s bytes (sample_view x) s') h.keeps (record {
      goes_on = m;
      line = kept';
      takes = taken (IsAtEnd has') kept' kept' [] s'.kept M.End s'.met (t.1.1.kept ∙ drop_all kept' (length kept') refl) t.1.1.met
          (h.tells.0, one_line kept' t.0 h.tells.1, refl);
      reads = subst (λ l. line_read A (suc s.lines) s.before l ≡ Ok (sample_view x)) all t.1.0;
      counts = t.1.1.counts;
      keeps = t.1.1.keeps;
    }))
last_given A s s' has has' n kept' reads (Err fault) e m h t =
    let all : take (length kept') kept' ≡ kept' = take_all kept' (length kept') refl in
    given A s s' has has' n kept' reads (Ok T.Last) (Err fault) e m h t.1.1.unread (record {
      ends = t.1.1.ends;
      same = record { lines = t.1.1.same.lines; before = t.1.1.same.before };
      why = line_fault A (IsAtEnd has') s s' h.pieces kept' (take (length kept') kept') fault m h.keeps
          (last h.tells.0 (one_line kept' t.0 h.tells.1 ∙ ap (λ l. l ∷ []) (sym all))) t.1.0;
    })

-- a reader that could not be read on gives the fault
pub fault_given : (A : TypeTree) (s : ReaderState) (has has' : Option (List ℕ)) (n : ℕ) (kept' : List ℕ) (reads : ℕ) (fault : StreamFault)
    → n ≡ suc s.lines → s.met ≡ M.Nothing → Settles has has' n s.kept kept' s.reads reads (Err fault)
    → GivesAnswer A s has (Err fault) (ended_by M.Fault s kept' reads) has'
fault_given A s has has' n kept' reads fault e m h =
    given A s (ended_by M.Fault s kept' reads) has has' n kept' reads (Err fault) (Err fault) e m h refl
    (record { ends = refl; same = record { lines = refl; before = refl }; why = why fault h.tells })
  where
    unread : IsUnsettled n kept' h.pieces → Unfinished s h.pieces (ended_by M.Fault s kept' reads)
    unread u = record { goes_on = m; unsettled = (ap (front_lines (suc s.lines)) (sym h.keeps) ∙ ap (λ k. front_lines k kept') (sym e) ∙ u.0, u.1); keeps = h.keeps }

    why : (f : StreamFault) → IsSettled (IsAtEnd has') n kept' h.pieces reads (Err f) → HasFault A (IsAtEnd has') s h.pieces f (ended_by M.Fault s kept' reads)
    why (S.Step k) t = absurd t
    why (S.Value k v) t = absurd t
    why (S.NothingBefore k) t = absurd t
    why (S.LineTooLong k) t = absurd t
    why (S.TooManySamples k) t = absurd t
    why S.ReadTurns t = (unread t.0, t.1)
    why S.Read t = unread t
    why S.Memory t = absurd t
    why S.Ended t = absurd t

same_before : (A : TypeTree) (s s' : ReaderState) → SameLast s s' → IsBefore A s.lines s.before → IsBefore A s'.lines s'.before
same_before A s s' same b = subst (λ n. IsBefore A n s'.before) (sym same.lines) (subst (λ v. IsBefore A s.lines v) (sym same.before) b)

-- what is answered is a value of the type
pub typed_answer : ReadingLaw → (A : TypeTree) (s s' : ReaderState) (has has' : Option (List ℕ)) (answer : Result (Option (ℕ × Sample)) StreamFault)
    → IsBefore A s.lines s.before → GivesAnswer A s has answer s' has' → IfOk answer (λ o. IfSome o (λ x. HasType (datum_of x.1) A))
typed_answer law A s s' has has' (Ok (Some x)) b h = read_typed law A (suc s.lines) s.lines s.before h.gives.line (sample_view x) b h.gives.reads
typed_answer law A s s' has has' (Ok None) b h = tt
typed_answer law A s s' has has' (Err fault) b h = tt

-- its step is in range
pub stepped_answer : ReadingLaw → (A : TypeTree) (s s' : ReaderState) (has has' : Option (List ℕ)) (answer : Result (Option (ℕ × Sample)) StreamFault)
    → IsBefore A s.lines s.before → GivesAnswer A s has answer s' has' → IfOk answer (λ o. IfSome o (λ x. 0 < s.lines → (1 ≤ x.0) × (x.0 < 2 ^ 63)))
stepped_answer law A s s' has has' (Ok (Some x)) b h = read_step law A (suc s.lines) s.lines s.before h.gives.line (sample_view x) b h.gives.reads
stepped_answer law A s s' has has' (Ok None) b h = tt
stepped_answer law A s s' has has' (Err fault) b h = tt

-- the value that is kept is one of the type
pub before_kept : ReadingLaw → (A : TypeTree) (s s' : ReaderState) (has has' : Option (List ℕ)) (answer : Result (Option (ℕ × Sample)) StreamFault)
    → IsBefore A s.lines s.before → GivesAnswer A s has answer s' has' → IsBefore A s'.lines s'.before
before_kept law A s s' has has' (Ok (Some x)) b h = subst (IsBefore A s'.lines) (sym h.gives.keeps)
    (read_typed law A (suc s.lines) s.lines s.before h.gives.line (sample_view x) b h.gives.reads)
before_kept law A s s' has has' (Ok None) b h = same_before A s s' h.gives.same b
before_kept law A s s' has has' (Err fault) b h = same_before A s s' h.gives.same b

-- a line that is kept whole and holds a sample is taken
pub next_taken : (A : TypeTree) (s s' : ReaderState) (d size : ℕ) (value : Option Sample) → s.lines < MOST_SAMPLES → s.met ≡ M.Nothing → s.before ≢ None
    → IsAhead A s.kept d size value → s'.kept ≡ drop (size + 1) s.kept → s'.lines ≡ suc s.lines
    → ((v : Datum) → s.before ≡ Some v → s'.before ≡ Some (value_behind v value)) → s'.met ≡ s.met → s'.reads ≡ s.reads → TakesNext A s d s'
next_taken A s s' d size value few m some ahead kept lines keeps met reads = go s.before refl
  where
    go : (o : Option Datum) → s.before ≡ o → TakesNext A s d s'
    go None q = absurd (some q)
    go (Some v) q = record {
      value = value_behind v value;
      unread = reads;
      takes = record {
        goes_on = m;
        line = take size s.kept;
        takes = taken ⊥ s.kept (take size s.kept) (drop (size + 1) s.kept) s'.kept M.Nothing s'.met kept (met ∙ m)
            (has_line s.kept size ahead.feed);
        reads = subst (λ b. line_read A (suc s.lines) b (take size s.kept) ≡ Ok (d, value_behind v value)) (sym q)
            (ahead.reads (suc s.lines) v (omega (arith, few)));
        counts = lines;
        keeps = keeps v q;
      };
    }

-- what is taken so is what a call answers that reads nothing
next_given : (A : TypeTree) (s s' : ReaderState) (has : Option (List ℕ)) (d : ℕ) (y : Sample) → Some (datum_of y) ≡ s'.before → TakesNext A s d s'
    → GivesAnswer A s has (Ok (Some (d, y))) s' has
next_given A s s' has d y e h = record {
  pieces = [];
  read = none_read has;
  asks = tt;
  ended = λ f. refl;
  counts = let r : s'.reads ≡ s.reads = h.unread in omega (arith, r);
  gives = subst (λ bytes. AnswersSample A (IsAtEnd has) s bytes (d, datum_of y) s') (sym (append-nil s.kept)) (record {
    goes_on = h.takes.goes_on;
    line = h.takes.line;
    takes = wider s'.met h.takes.takes;
    reads = let same : h.value ≡ datum_of y = (let q : ◌≡◌ {A = Option Datum} (Some h.value) (Some (datum_of y)) = sym h.takes.keeps ∙ sym e in cc) in
        subst (λ v. line_read A (suc s.lines) s.before h.takes.line ≡ Ok (d, v)) same h.takes.reads;
    counts = h.takes.counts;
    keeps = sym e;
  });
}
  where
    wider : (met : Met) → TakesLine ⊥ s.kept h.takes.line s'.kept met → TakesLine (IsAtEnd has) s.kept h.takes.line s'.kept met
    wider M.Nothing t = t
    wider M.End t = absurd t.0
    wider M.Fault t = absurd t

-- it answers the step of a sample
pub next_step_given : (A : TypeTree) (s s' : ReaderState) (has : Option (List ℕ)) (d : ℕ) (o : Option Sample) → s'.before ≡ option_map datum_of o
    → TakesNext A s d s' → (y : Sample) × GivesAnswer A s has (Ok (Some (d, y))) s' has
next_step_given A s s' has d None e h = absurd (let q : ◌≡◌ {A = Option Datum} None (Some h.value) = sym e ∙ h.takes.keeps in cc)
next_step_given A s s' has d (Some y) e h = (y, next_given A s s' has d y (sym e) h)

-- a sample that was answered by its step is the last with that step
pub last_answered : (A : TypeTree) (s s' : ReaderState) (has has' : Option (List ℕ)) (d : ℕ) (y z : Sample)
    → GivesAnswer A s has (Ok (Some (d, y))) s' has' → Some (datum_of z) ≡ s'.before → GivesAnswer A s has (Ok (Some (d, z))) s' has'
last_answered A s s' has has' d y z h e =
    let same : datum_of y ≡ datum_of z = (let q : ◌≡◌ {A = Option Datum} (Some (datum_of y)) (Some (datum_of z)) = sym h.gives.keeps ∙ sym e in cc) in
    record {
      pieces = h.pieces;
      read = h.read;
      asks = h.asks;
      ended = h.ended;
      counts = h.counts;
      gives = subst (λ v. AnswersSample A (IsAtEnd has') s (known_bytes s h.pieces) (d, v) s') same h.gives;
    }

-- its step is in range
pub next_stepped : ReadingLaw → (A : TypeTree) (s s' : ReaderState) (answer : Option ℕ) → IsBefore A s.lines s.before → s.before ≢ None
    → MayTakeNext A s answer s' → IfSome answer (λ d. (1 ≤ d) × (d < 2 ^ 63))
next_stepped law A s s' None b some h = tt
next_stepped law A s s' (Some d) b some h = go s.before refl
  where
    go : (o : Option Datum) → s.before ≡ o → (1 ≤ d) × (d < 2 ^ 63)
    go None q = absurd (some q)
    go (Some v) q = read_step law A (suc s.lines) 1 (Some v) h.takes.line (d, h.value) (subst (IsBefore A s.lines) q b)
        (subst (λ o. line_read A (suc s.lines) o h.takes.line ≡ Ok (d, h.value)) q h.takes.reads) (omega arith)

-- the value that is kept then is one of the type
pub next_before : ReadingLaw → (A : TypeTree) (s s' : ReaderState) (answer : Option ℕ) → IsBefore A s.lines s.before
    → MayTakeNext A s answer s' → IsBefore A s'.lines s'.before
next_before law A s s' None b same = subst (λ r. IsBefore A r.lines r.before) (sym same) b
next_before law A s s' (Some d) b h = subst (IsBefore A s'.lines) (sym h.takes.keeps)
    (read_typed law A (suc s.lines) s.lines s.before h.takes.line (d, h.value) b h.takes.reads)

-- an answer is one with the step alone
step_answers : (A : TypeTree) (s s' : ReaderState) (has has' : Option (List ℕ)) (answer : Result (Option (ℕ × Sample)) StreamFault)
    → GivesAnswer A s has answer s' has' → GivesStep A s has (step_alone answer) s' has'
step_answers A s s' has has' (Ok (Some x)) h = (x.1, h)
step_answers A s s' has has' (Ok None) h = h
step_answers A s s' has has' (Err fault) h = h

-- where nothing was told before, and all was as it was
pub step_given : (A : TypeTree) (s same s' : ReaderState) (has has' : Option (List ℕ)) (answer : Result (Option (ℕ × Sample)) StreamFault)
    (step : Result (Option ℕ) StreamFault) → same ≡ s → step ≡ step_alone answer → GivesAnswer A same has answer s' has' → GivesStep A s has step s' has'
step_given A s same s' has has' answer step e q h =
    subst (λ r. GivesStep A s has r s' has') (sym q) (step_answers A s s' has has' answer (subst (λ t. GivesAnswer A t has answer s' has') e h))
