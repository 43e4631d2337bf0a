-- Successive calls answer the samples of the stream in order, and then its end or its fault.
use Rattle.std.proofs.Common.{◌≡◌, ◌+◌, ℕ, suc, List, [], ◌∷◌, ◌++◌, length, Option, Some, None, Ok, Err, refl, sym, ap, ◌∙◌, subst, arith, append_assoc, append-nil, length-append, inl, inr}
use Rattle.std.specs.Prelude.{◌⊎◌, ⊤}
use Rattle.std.specs.Io.KnownBytes.{Consumes, IsAtEnd}
use Rattle.sample_core.specs.Datum.{Datum}
use Rattle.sample_core.specs.TypeTree.{TypeTree}
use Rattle.sample_core.specs.declared.sample.Sample.{Sample}
use Rattle.stream_text.specs.Answers.{ReaderState, IsFresh, TakesLine, KnownLine, ended, shown, last, FaultyLine, known_bytes, Unfinished, HasFault, GivesAnswer}
use Rattle.stream_text.specs.Hearing.{HoldsOfText, then_held, HoldSamples, IsHeard, TellsSamples, Heard, HeardAll, HeardSo, HeardFront, BeginsWith, BeginLaw, MoreLaw, EndLaw, FaultyLaw, UnreadLaw, TurnsLaw}
use Rattle.stream_text.specs.Pieces.{ArePieces, ReadBy, ReadPieces, bytes_read}
use Rattle.stream_text.specs.StreamText.{IsOfText, samples, front, samples_from, then_samples, line_read}
use Rattle.stream_text.specs.StreamView.{sample_view}
use Rattle.stream_text.specs.TextLines.{HasLine, front_lines, lines_of}
use Rattle.stream_text.specs.declared.fault.StreamFault.{StreamFault}
use Rattle.stream_text.specs.declared.fault.StreamFault.TheVariants as S
use Rattle.stream_text.specs.declared.reader.Met.{Met}
use Rattle.stream_text.specs.declared.reader.Met.TheVariants as M
use Rattle.stream_text.proofs.Lines.{GoesOn, lines-has, lines-on, front-has}
use Rattle.stream_text.proofs.Samples.{shown_on, shown_some}
use Rattle.stream_text.proofs.Pieces.{never_at_end, pieces-map, read_by_map, read_by_more, read_by_none}
use Rattle.stream_text.proofs.Settling.{consumes_none, consumes_more}

-- no samples are held before the first byte
holds_none : (A : TypeTree) (lines : ℕ) (before : Option Datum) → lines ≡ 0 → before ≡ None → HoldSamples A [] [] lines before
holds_none A lines before e f = record {
  whole = (λ more. ap (λ n. samples_from A (suc n) None (lines_of more)) (sym e) ∙ ap (λ b. samples_from A (suc lines) b (lines_of more)) (sym f));
  so_far = (λ more. ap (λ n. samples_from A (suc n) None (front_lines (suc n) more)) (sym e)
      ∙ ap (λ b. samples_from A (suc lines) b (front_lines (suc lines) more)) (sym f));
}

pub heard_none : (A : TypeTree) (has : Option (List ℕ)) (s : ReaderState) → IsFresh s → Heard A has has s []
heard_none A has s f = record {
  read = [];
  consumes = consumes_none has;
  reads = read_by_none (s.met ≡ M.End) s.reads f.reads;
  tells = subst (TellsSamples A (IsAtEnd has) s [] []) (sym f.met)
      (record { consumed = []; parts = sym f.kept; hold = holds_none A s.lines s.before f.lines f.before });
  count = sym f.lines;
}

-- a line more in front of the lines is a sample more
grown : (A : TypeTree) (p : List (ℕ × Datum)) (lines : ℕ) (before : Option Datum) (line : List ℕ) (x : ℕ × Datum) (rest : List (List ℕ))
    → line_read A (suc lines) before line ≡ Ok x
    → then_held p (samples_from A (suc lines) before (line ∷ rest)) ≡ then_held (p ++ x ∷ []) (samples_from A (suc (suc lines)) (Some x.1) rest)
grown A p lines before line x rest e =
    ap (λ a. then_held p (then_samples a (λ y. samples_from A (suc (suc lines)) (Some y.1) rest))) e
    ∙ ap (λ ys. record { taken = ys; fault = (samples_from A (suc (suc lines)) (Some x.1) rest).fault })
    (sym (append_assoc p (x ∷ []) (samples_from A (suc (suc lines)) (Some x.1) rest).taken))

-- behind a line the bytes go on as they are
behind_line : (consumed line more : List ℕ) → (consumed ++ (line ++ 10 ∷ [])) ++ more ≡ consumed ++ (line ++ (10 ∷ more))
behind_line consumed line more = append_assoc consumed (line ++ 10 ∷ []) more ∙ ap (λ l. consumed ++ l) (append_assoc line (10 ∷ []) more)

holds_more : (A : TypeTree) (consumed : List ℕ) (p : List (ℕ × Datum)) (lines : ℕ) (before : Option Datum) (bytes line rest : List ℕ) (x : ℕ × Datum)
    → HoldSamples A consumed p lines before → HasLine bytes line rest → line_read A (suc lines) before line ≡ Ok x
    → HoldSamples A (consumed ++ (line ++ 10 ∷ [])) (p ++ x ∷ []) (suc lines) (Some x.1)
holds_more A consumed p lines before bytes line rest x h l e = record {
  whole = (
      λ more. ap (samples A) (behind_line consumed line more) ∙ h.whole (line ++ (10 ∷ more))
      ∙ ap (λ ls. then_held p (samples_from A (suc lines) before ls)) (lines-has (line ++ (10 ∷ more)) line more
      (record { one_line = l.one_line; ended = refl }))
      ∙ grown A p lines before line x (lines_of more) e
      );
  so_far = (
      λ more. ap (front A) (behind_line consumed line more) ∙ h.so_far (line ++ (10 ∷ more))
      ∙ ap (λ ls. then_held p (samples_from A (suc lines) before ls))
      (front-has (suc lines) (line ++ (10 ∷ more)) line more (record { one_line = l.one_line; ended = refl }))
      ∙ grown A p lines before line x (front_lines (suc (suc lines)) more) e
      );
}

-- what is told where nothing has ended the stream
within : (A : TypeTree) (end : Type 0) (s : ReaderState) (read : List ℕ) (p : List (ℕ × Datum)) → s.met ≡ M.Nothing → TellsSamples A end s read p s.met
    → IsHeard A s read p
within A end s read p m t = subst (TellsSamples A end s read p) m t

-- while nothing has ended the stream, no read met the end
still_open : (s : ReaderState) (read : List ℕ) → s.met ≡ M.Nothing → ReadBy (s.met ≡ M.End) read s.reads → ReadBy ⊥ read s.reads
still_open s read m h = read_by_map (s.met ≡ M.End) ⊥ read s.reads (λ e. let q : M.Nothing ≡ M.End = sym m ∙ e in cc) h

-- bytes with a line are known to have it
has_front : (n : ℕ) (bytes line rest : List ℕ) → HasLine bytes line rest → front_lines n bytes ≡ [] → ⊥
has_front n bytes line rest h e = let some : front_lines n bytes ≡ line ∷ front_lines (suc n) rest = front-has n bytes line rest h in cc

-- a call that answers a sample
pub heard_more : (A : TypeTree) (has has' has'' : Option (List ℕ)) (s s' : ReaderState) (p : List (ℕ × Datum)) (x : ℕ × Sample) → Heard A has has' s p
    → GivesAnswer A s has' (Ok (Some x)) s' has'' → Heard A has has'' s' (p ++ sample_view x ∷ [])
heard_more A has has' has'' s s' p x h g = record {
  read = h.read ++ got;
  consumes = consumes_more has has' has'' h.read got h.consumes g.read.consumes;
  reads = read_by_more (s'.met ≡ M.End) h.read s.reads s'.reads g.pieces (still_open s h.read g.gives.goes_on h.reads) (met_end s'.met g.gives.takes) g.counts;
  tells = go s'.met g.gives.takes;
  count = let k : length (p ++ sample_view x ∷ []) ≡ length p + length (sample_view x ∷ []) = length-append p (sample_view x ∷ []) in
      omega (arith, k, h.count, g.gives.counts);
}
  where
    got : List ℕ
    got = bytes_read g.pieces

    -- behind the end nothing is open, and a line that has its line feed was read before it
    met_end : (m : Met) → TakesLine (IsAtEnd has'') (s.kept ++ got) g.gives.line s'.kept m → ArePieces (m ≡ M.End) g.pieces
    met_end M.Nothing t = pieces-map ⊥ (M.Nothing ≡ M.End) (λ f. absurd f) g.pieces
        (never_at_end (IsAtEnd has'') (suc s.lines) s.kept g.pieces g.read.are g.asks (has_front (suc s.lines) (s.kept ++ got) g.gives.line s'.kept t))
    met_end M.End t = pieces-map (IsAtEnd has'') (M.End ≡ M.End) (λ e. refl) g.pieces g.read.are
    met_end M.Fault t = absurd t

    w : IsHeard A s h.read p
    w = within A (IsAtEnd has') s h.read p g.gives.goes_on h.tells

    all : h.read ++ got ≡ w.consumed ++ (s.kept ++ got)
    all = ap (λ r. r ++ got) w.parts ∙ append_assoc w.consumed s.kept got

    go : (m : Met) → TakesLine (IsAtEnd has'') (s.kept ++ got) g.gives.line s'.kept m
        → TellsSamples A (IsAtEnd has'') s' (h.read ++ got) (p ++ sample_view x ∷ []) m
    go M.Nothing t = record {
      consumed = w.consumed ++ (g.gives.line ++ 10 ∷ []);
      parts = all ∙ ap (λ b. w.consumed ++ b) t.ended ∙ sym (behind_line w.consumed g.gives.line s'.kept);
      hold = subst (λ n. HoldSamples A (w.consumed ++ (g.gives.line ++ 10 ∷ [])) (p ++ sample_view x ∷ []) n s'.before) (sym g.gives.counts)
          (subst (λ b. HoldSamples A (w.consumed ++ (g.gives.line ++ 10 ∷ [])) (p ++ sample_view x ∷ []) (suc s.lines) b) (sym g.gives.keeps)
          (holds_more A w.consumed p s.lines s.before (s.kept ++ got) g.gives.line s'.kept (sample_view x) w.hold t g.gives.reads));
    }
    go M.End t = (
      t.0,
      ap (samples A) all ∙ w.hold.whole (s.kept ++ got) ∙ ap (λ ls. then_held p (samples_from A (suc s.lines) s.before ls)) t.1
          ∙ grown A p s.lines s.before g.gives.line (sample_view x) [] g.gives.reads
          ∙ ap (λ ys. record { taken = ys; fault = None }) (append-nil (p ++ sample_view x ∷ [])),
    )
    go M.Fault t = absurd t

-- a call that answers that there is no line more
pub heard_end : (A : TypeTree) (has has' has'' : Option (List ℕ)) (s s' : ReaderState) (p : List (ℕ × Datum)) → Heard A has has' s p
    → GivesAnswer A s has' (Ok None) s' has'' → HeardAll A has has'' p
heard_end A has has' has'' s s' p h g = go g.gives.empty
  where
    got : List ℕ
    got = bytes_read g.pieces

    go : (s.met ≡ M.End) ⊎ ((s.met ≡ M.Nothing) × IsAtEnd has'' × (s.kept ++ got ≡ [])) → HeardAll A has has'' p
    go (inl m) =
        let t = subst (TellsSamples A (IsAtEnd has') s h.read p) m h.tells in
        let none : g.pieces ≡ [] = g.ended (λ e. let q : M.Nothing ≡ M.End = sym e ∙ m in cc) in
        record {
          read = h.read ++ got;
          consumes = consumes_more has has' has'' h.read got h.consumes g.read.consumes;
          at_end = subst IsAtEnd (sym (g.read.unread none)) t.0;
          all = ap (λ ps. samples A (h.read ++ bytes_read ps)) none ∙ ap (samples A) (append-nil h.read) ∙ t.1;
        }
    go (inr (m, e, empty)) =
        let w : IsHeard A s h.read p = within A (IsAtEnd has') s h.read p m h.tells in
        record {
          read = h.read ++ got;
          consumes = consumes_more has has' has'' h.read got h.consumes g.read.consumes;
          at_end = e;
          all = ap (λ r. samples A (r ++ got)) w.parts ∙ ap (samples A) (append_assoc w.consumed s.kept got) ∙ w.hold.whole (s.kept ++ got)
              ∙ ap (λ b. then_held p (samples_from A (suc s.lines) s.before (lines_of b))) empty
              ∙ ap (λ ys. record { taken = ys; fault = None }) (append-nil p);
        }

-- where the first line that is known has a fault, every text that goes on so has it
faulty_text : (A : TypeTree) (end : Type 0) (s : ReaderState) (bytes : List ℕ) (fault : StreamFault) → FaultyLine A end s bytes fault
    → HoldsOfText end bytes (λ text. samples_from A (suc s.lines) s.before (lines_of text) ≡ record { taken = []; fault = Some fault })
faulty_text A end s bytes fault f = go f.known
  where
    refused : (line : List ℕ) (rest : List (List ℕ)) → line_read A (suc s.lines) s.before line ≡ Err fault
        → samples_from A (suc s.lines) s.before (line ∷ rest) ≡ record { taken = []; fault = Some fault }
    refused line rest e = ap (λ a. then_samples a (λ y. samples_from A (suc (suc s.lines)) (Some y.1) rest)) e

    go : KnownLine end (suc s.lines) bytes f.line
        → HoldsOfText end bytes (λ text. samples_from A (suc s.lines) s.before (lines_of text) ≡ record { taken = []; fault = Some fault })
    go (ended rest h) = inr (
        λ more. ap (samples_from A (suc s.lines) s.before)
        (lines-has (bytes ++ more) f.line (rest ++ more)
        (record { one_line = h.one_line; ended = ap (λ b. b ++ more) h.ended ∙ append_assoc f.line (10 ∷ rest) more }))
        ∙ refused f.line (lines_of (rest ++ more)) f.refuses
        )
    go (shown e free h) = inr (
        λ more. let on : GoesOn bytes more = lines-on bytes more (shown_some (suc s.lines) (length bytes) h) free in
        ap (samples_from A (suc s.lines) s.before) on.2
        ∙ refused (bytes ++ on.0) on.1
        (shown_on A (suc s.lines) s.before bytes on.0 fault h (subst (λ l. line_read A (suc s.lines) s.before l ≡ Err fault) e f.refuses))
        )
    go (last e h) = inl (e, ap (samples_from A (suc s.lines) s.before) h ∙ refused f.line [] f.refuses)

-- a text's part behind what is consumed
map_text : (end : Type 0) (read consumed bytes : List ℕ) (P Q : List ℕ → Type 0) → read ≡ consumed ++ bytes → ((text : List ℕ) → P text
    → Q (consumed ++ text))
    → HoldsOfText end bytes P → HoldsOfText end read Q
map_text end read consumed bytes P Q e f (inl h) = inl (h.0, subst Q (sym e) (f bytes h.1))
map_text end read consumed bytes P Q e f (inr h) =
    inr (λ more. subst Q (sym (append_assoc consumed bytes more) ∙ ap (λ r. r ++ more) (sym e)) (f (bytes ++ more) (h more)))

-- a call that answers the fault of a line
pub heard_fault : (A : TypeTree) (has has' has'' : Option (List ℕ)) (s : ReaderState) (p : List (ℕ × Datum)) (got : List ℕ) (fault : StreamFault)
    → Heard A has has' s p → Consumes has' has'' got → s.met ≡ M.Nothing → FaultyLine A (IsAtEnd has'') s (s.kept ++ got) fault
    → HeardSo has has'' (λ text. samples A text ≡ record { taken = p; fault = Some fault })
heard_fault A has has' has'' s p got fault h c m f =
    let w : IsHeard A s h.read p = within A (IsAtEnd has') s h.read p m h.tells in
    record {
      read = h.read ++ got;
      consumes = consumes_more has has' has'' h.read got h.consumes c;
      so = map_text (IsAtEnd has'') (h.read ++ got) w.consumed (s.kept ++ got)
          (λ text. samples_from A (suc s.lines) s.before (lines_of text) ≡ record { taken = []; fault = Some fault })
          (λ text. samples A text ≡ record { taken = p; fault = Some fault })
          (ap (λ r. r ++ got) w.parts ∙ append_assoc w.consumed s.kept got)
          (λ text e. w.hold.whole text ∙ ap (then_held p) e ∙ ap (λ ys. record { taken = ys; fault = Some fault }) (append-nil p))
          (faulty_text A (IsAtEnd has'') s (s.kept ++ got) fault f);
    }

pub heard_so_far : (A : TypeTree) (has has' : Option (List ℕ)) (s : ReaderState) (p : List (ℕ × Datum)) → Heard A has has' s p
    → HeardSo has has' (BeginsWith A p)
heard_so_far A has has' s p h = record { read = h.read; consumes = h.consumes; so = go s.met h.tells }
  where
    go : (m : Met) → TellsSamples A (IsAtEnd has') s h.read p m → HoldsOfText (IsAtEnd has') h.read (BeginsWith A p)
    go M.Nothing w = inr (
        λ more. (
          (samples_from A (suc s.lines) s.before (lines_of (s.kept ++ more))).taken,
          ap (λ r. (samples A (r ++ more)).taken) w.parts ∙ ap (λ t. (samples A t).taken) (append_assoc w.consumed s.kept more)
              ∙ ap (λ h. h.taken) (w.hold.whole (s.kept ++ more)),
        )
        )
    go M.End t = inl (t.0, ([], ap (λ h. h.taken) t.1 ∙ sym (append-nil p)))
    go M.Fault t = absurd t

-- also where the next line has been read on
pub heard_short : (A : TypeTree) (has has' has'' : Option (List ℕ)) (s : ReaderState) (p : List (ℕ × Datum)) (got : List ℕ) → Heard A has has' s p
    → Consumes has' has'' got → s.met ≡ M.Nothing → HeardSo has has'' (BeginsWith A p)
heard_short A has has' has'' s p got h c m =
    let w : IsHeard A s h.read p = within A (IsAtEnd has') s h.read p m h.tells in
    record {
      read = h.read ++ got;
      consumes = consumes_more has has' has'' h.read got h.consumes c;
      so = map_text (IsAtEnd has'') (h.read ++ got) w.consumed (s.kept ++ got) (λ text. ⊤) (BeginsWith A p)
          (ap (λ r. r ++ got) w.parts ∙ append_assoc w.consumed s.kept got)
          (λ text e. ((samples_from A (suc s.lines) s.before (lines_of text)).taken, ap (λ k. k.taken) (w.hold.whole text)))
          (inr (λ more. tt));
    }

-- a call that could not read on
pub heard_unread : (A : TypeTree) (has has' has'' : Option (List ℕ)) (s s' : ReaderState) (p : List (ℕ × Datum)) (pieces : ReadPieces) → Heard A has has' s p
    → Consumes has' has'' (bytes_read pieces) → s'.reads ≡ s.reads + length pieces → Unfinished s pieces s' → HeardFront A has has'' p s'.reads
heard_unread A has has' has'' s s' p pieces h c e u =
    let got : List ℕ = bytes_read pieces in
    let w : IsHeard A s h.read p = within A (IsAtEnd has') s h.read p u.goes_on h.tells in
    record {
      read = h.read ++ got;
      consumes = consumes_more has has' has'' h.read got h.consumes c;
      reads = read_by_more ⊥ h.read s.reads s'.reads pieces (still_open s h.read u.goes_on h.reads) u.unsettled.1 e;
      all = ap (λ r. front A (r ++ got)) w.parts ∙ ap (front A) (append_assoc w.consumed s.kept got) ∙ w.hold.so_far (s.kept ++ got)
          ∙ ap (λ ls. then_held p (samples_from A (suc s.lines) s.before ls)) u.unsettled.0 ∙ ap (λ ys. record { taken = ys; fault = None }) (append-nil p);
    }

pub begin_law : BeginLaw
begin_law A has s f = heard_none A has s f

pub more_law : MoreLaw
more_law A has has' has'' s s' p x h g = heard_more A has has' has'' s s' p x h g

pub end_law : EndLaw
end_law A has has' has'' s s' p h g = heard_end A has has' has'' s s' p h g

pub faulty_law : FaultyLaw
faulty_law A has has' has'' s s' p fault h g o = go fault o g.gives.why
  where
    heard : (f : StreamFault) → (s.met ≡ M.Nothing) × FaultyLine A (IsAtEnd has'') s (known_bytes s g.pieces) f
        → HeardSo has has'' (λ text. samples A text ≡ record { taken = p; fault = Some f })
    heard f w = heard_fault A has has' has'' s p (bytes_read g.pieces) f h g.read.consumes w.0 w.1

    go : (f : StreamFault) → IsOfText f → HasFault A (IsAtEnd has'') s g.pieces f s'
        → HeardSo has has'' (λ text. samples A text ≡ record { taken = p; fault = Some f })
    go (S.Step k) t w = heard (S.Step k) w
    go (S.Value k v) t w = heard (S.Value k v) w
    go (S.NothingBefore k) t w = heard (S.NothingBefore k) w
    go (S.LineTooLong k) t w = heard (S.LineTooLong k) w
    go (S.TooManySamples k) t w = heard (S.TooManySamples k) w
    go S.ReadTurns t w = absurd t
    go S.Read t w = absurd t
    go S.Memory t w = absurd t
    go S.Ended t w = absurd t

pub unread_law : UnreadLaw
unread_law A has has' has'' s s' p h g = heard_unread A has has' has'' s s' p g.pieces h g.read.consumes g.counts g.gives.why

pub turns_law : TurnsLaw
turns_law A has has' has'' s s' p h g =
    subst (HeardFront A has has'' p) g.gives.why.1 (heard_unread A has has' has'' s s' p g.pieces h g.read.consumes g.counts g.gives.why.0)
