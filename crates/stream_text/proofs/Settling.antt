-- Reading on, piece by piece.
use Rattle.std.proofs.Common.{◌≡◌, ◌≤◌, ◌<◌, ◌+◌, ℕ, false, List, [], ◌∷◌, ◌++◌, length, length-append, Option, Some, None, Result, Ok, Err, refl, sym, ap, ◌∙◌, subst, arith, append_assoc, append-nil, inl, inr, if◌then◌else◌}
use Rattle.std.specs.Prelude.{◌⊎◌}
use Rattle.std.specs.Io.KnownBytes.{Consumes, IsAtEnd, Keeps}
use Rattle.stream_text.specs.Pieces.{ArePieces, ReadPieces, Reads, bytes_read, piece_bytes}
use Rattle.stream_text.specs.Settling.{AsksAsNeeded, IsSettled, Settles, SettlesLine}
use Rattle.stream_text.specs.TextLines.{IsFeedFree, shows_fault, front_lines}
use Rattle.stream_text.specs.declared.fault.StreamFault.{StreamFault}
use Rattle.stream_text.specs.declared.fault.StreamFault.TheVariants as S
use Rattle.stream_text.specs.declared.settle.Settled.{Settled}
use Rattle.stream_text.specs.declared.settle.Settled.TheVariants as T
use Rattle.stream_text.proofs.Lines.{front-free}
use Rattle.stream_text.proofs.Pieces.{asks-more, bytes-behind, pieces-append, pieces-map}
use Rattle.stream_text.specs.declared.kept.TheConstants.{PIECE}
use Rattle.stream_text.specs.declared.settle.TheConstants.{MOST_READS}

pub consumes_none : (has : Option (List ℕ)) → Consumes has has []
consumes_none None = tt
consumes_none (Some xs) = refl

pub consumes_more : (has has' has'' : Option (List ℕ)) (got piece : List ℕ) → Consumes has has' got → Consumes has' has'' piece
    → Consumes has has'' (got ++ piece)
consumes_more None b c got piece h k = tt
consumes_more (Some xs) None c got piece h k = absurd h
consumes_more (Some xs) (Some ys) None got piece h k = absurd k
consumes_more (Some xs) (Some ys) (Some zs) got piece h k = h ∙ ap (λ r. got ++ r) k ∙ sym (append_assoc got piece zs)

-- where no read was made
pub none_read : (has : Option (List ℕ)) → Reads has [] has
none_read has = record { consumes = consumes_none has; are = tt; unread = λ e. refl }

-- So far: pieces were read as they were needed, and none met the end; they are kept, and counted.
pub record Asked (has has' : Option (List ℕ)) (n : ℕ) (kept kept' : List ℕ) (reads reads' : ℕ) : Type 0 where
  pub pieces : ReadPieces
  pub consumes : Consumes has has' (bytes_read pieces)
  pub are : ArePieces ⊥ pieces
  pub unread : pieces ≡ [] → has' ≡ has
  pub asks : AsksAsNeeded n kept pieces
  pub keeps : kept' ≡ kept ++ bytes_read pieces
  pub counts : reads' ≡ reads + length pieces

-- no pieces are those with one behind them
no_more : (ps : ReadPieces) (p : Option (List ℕ)) → ps ++ p ∷ [] ≡ [] → ⊥
no_more [] p e = cc
no_more (q ∷ ps) p e = cc

-- a read more, where what is kept settles no line
read_more : (has has' has'' : Option (List ℕ)) (n : ℕ) (kept kept' : List ℕ) (reads reads' : ℕ) (p : Option (List ℕ))
    → (h : Asked has has' n kept kept' reads reads') → front_lines n kept' ≡ [] → Consumes has' has'' (piece_bytes p) → ArePieces (IsAtEnd has'') (p ∷ [])
    → Reads has (h.pieces ++ p ∷ []) has'' × AsksAsNeeded n kept (h.pieces ++ p ∷ []) × (kept' ++ piece_bytes p ≡ kept ++ bytes_read (h.pieces ++ p ∷ []))
    × (reads' + 1 ≡ reads + length (h.pieces ++ p ∷ []))
read_more has has' has'' n kept kept' reads reads' p h u c a =
    let l : length (h.pieces ++ p ∷ []) ≡ length h.pieces + length (p ∷ []) = length-append h.pieces (p ∷ []) in (
      record {
        consumes = subst (Consumes has has'') (sym (bytes-behind [] h.pieces p)) (consumes_more has has' has'' (bytes_read h.pieces) (piece_bytes p) h.consumes c);
        are = pieces-append (IsAtEnd has'') h.pieces (p ∷ []) h.are a;
        unread = λ e. absurd (no_more h.pieces p e);
      },
      asks-more n kept h.pieces p h.asks (ap (front_lines n) (sym h.keeps) ∙ u),
      ap (λ k. k ++ piece_bytes p) h.keeps ∙ sym (bytes-behind kept h.pieces p),
      omega (arith, l, h.counts),
    )

open_more : (has has' has'' : Option (List ℕ)) (n : ℕ) (kept kept' kept'' : List ℕ) (reads reads' : ℕ) (p : Option (List ℕ))
    → Asked has has' n kept kept' reads reads' → front_lines n kept' ≡ [] → kept'' ≡ kept' ++ piece_bytes p → Consumes has' has'' (piece_bytes p)
    → ArePieces ⊥ (p ∷ []) → Asked has has'' n kept kept'' reads (reads' + 1)
open_more has has' has'' n kept kept' kept'' reads reads' p h u e c a =
    let more = read_more has has' has'' n kept kept' reads reads' p h u c (pieces-map ⊥ (IsAtEnd has'') (λ f. absurd f) (p ∷ []) a) in
    record {
      pieces = h.pieces ++ p ∷ [];
      consumes = more.0.consumes;
      are = pieces-append ⊥ h.pieces (p ∷ []) h.are a;
      unread = more.0.unread;
      asks = more.1;
      keeps = e ∙ more.2;
      counts = more.3;
    }

some_bytes : (bytes : List ℕ) → 0 < length bytes → length bytes ≤ PIECE → ArePieces ⊥ (Some bytes ∷ [])
some_bytes [] l m = absurd (omega arith)
some_bytes (b ∷ bs) l m = (m, tt)

keeps_none : (has has' : Option (List ℕ)) → Keeps has has' → Consumes has has' []
keeps_none None b k = tt
keeps_none (Some xs) None k = absurd k
keeps_none (Some xs) (Some ys) k = sym k

-- a piece more
pub asked_more : (has has' has'' : Option (List ℕ)) (n : ℕ) (kept kept' kept'' piece : List ℕ) (reads reads' : ℕ) → Asked has has' n kept kept' reads reads'
    → front_lines n kept' ≡ [] → kept'' ≡ kept' ++ piece → 0 < length piece → length piece ≤ PIECE → Consumes has' has'' piece
    → Asked has has'' n kept kept'' reads (reads' + 1)
asked_more has has' has'' n kept kept' kept'' piece reads reads' h u e l m c =
    open_more has has' has'' n kept kept' kept'' reads reads' (Some piece) h u e c (some_bytes piece l m)

-- a read that failed
pub asked_failed : (has has' has'' : Option (List ℕ)) (n : ℕ) (kept kept' kept'' : List ℕ) (reads reads' : ℕ) → Asked has has' n kept kept' reads reads'
    → front_lines n kept' ≡ [] → kept'' ≡ kept' → Keeps has' has'' → Asked has has'' n kept kept'' reads (reads' + 1)
asked_failed has has' has'' n kept kept' kept'' reads reads' h u e k =
    open_more has has' has'' n kept kept' kept'' reads reads' None h u (e ∙ sym (append-nil kept')) (keeps_none has' has'' k) tt

pub settles : (has has' : Option (List ℕ)) (n : ℕ) (kept kept' : List ℕ) (reads reads' : ℕ) (answer : Result Settled StreamFault)
    → (h : Asked has has' n kept kept' reads reads') → IsSettled (IsAtEnd has') n kept' h.pieces reads' answer
    → Settles has has' n kept kept' reads reads' answer
settles has has' n kept kept' reads reads' answer h t = record {
  pieces = h.pieces;
  read = record { consumes = h.consumes; are = pieces-map ⊥ (IsAtEnd has') (λ f. absurd f) h.pieces h.are; unread = h.unread };
  asks = h.asks;
  keeps = h.keeps;
  counts = h.counts;
  tells = t;
}

-- the line is known
pub line_settles : (has has' : Option (List ℕ)) (n : ℕ) (kept kept' : List ℕ) (reads reads' size : ℕ) → Asked has has' n kept kept' reads reads'
    → SettlesLine n kept' size → Settles has has' n kept kept' reads reads' (Ok (T.Line size))
line_settles has has' n kept kept' reads reads' size h t = settles has has' n kept kept' reads reads' (Ok (T.Line size)) h t

-- a read met the end
pub last_settles : (has has' has'' : Option (List ℕ)) (n : ℕ) (kept kept' kept'' : List ℕ) (reads reads' : ℕ) → Asked has has' n kept kept' reads reads'
    → front_lines n kept' ≡ [] → IsFeedFree kept' → kept'' ≡ kept' → Keeps has' has'' → IsAtEnd has''
    → Settles has has'' n kept kept'' reads (reads' + 1) (Ok T.Last)
last_settles has has' has'' n kept kept' kept'' reads reads' h u f e k end =
    let more = read_more has has' has'' n kept kept' reads reads' (Some []) h u (keeps_none has' has'' k) (end, refl) in
    record {
      pieces = h.pieces ++ Some [] ∷ [];
      read = more.0;
      asks = more.1;
      keeps = e ∙ sym (append-nil kept') ∙ more.2;
      counts = more.3;
      tells = (end, subst IsFeedFree (sym e) f);
    }

-- a read failed, and is told
pub read_settles : (has has' has'' : Option (List ℕ)) (n : ℕ) (kept kept' kept'' : List ℕ) (reads reads' : ℕ) → Asked has has' n kept kept' reads reads'
    → front_lines n kept' ≡ [] → kept'' ≡ kept' → Keeps has' has'' → Settles has has'' n kept kept'' reads (reads' + 1) (Err S.Read)
read_settles has has' has'' n kept kept' kept'' reads reads' h u e k =
    let g = asked_failed has has' has'' n kept kept' kept'' reads reads' h u e k in
    settles has has'' n kept kept'' reads (reads' + 1) (Err S.Read) g (ap (front_lines n) e ∙ u, g.are)

-- no read may be made any more
pub turns_settle : (has has' : Option (List ℕ)) (n : ℕ) (kept kept' : List ℕ) (reads reads' : ℕ) → Asked has has' n kept kept' reads reads'
    → front_lines n kept' ≡ [] → reads' ≡ MOST_READS → Settles has has' n kept kept' reads reads' (Err S.ReadTurns)
turns_settle has has' n kept kept' reads reads' h u e = settles has has' n kept kept' reads reads' (Err S.ReadTurns) h ((u, h.are), e)

-- where what is kept settles no line, what was kept first settles none
pub needed_first : {S : Type 0} (n : ℕ) (first kept : List ℕ) (old now : S) → ((kept ≡ first) × (now ≡ old)) ⊎ (front_lines n first ≡ [])
    → front_lines n kept ≡ [] → front_lines n first ≡ []
needed_first n first kept old now (inl h) u = ap (front_lines n) (sym h.0) ∙ u
needed_first n first kept old now (inr h) u = h

-- where no fault shows, bytes without line feed settle no line
pub unsettled : (n : ℕ) (kept : List ℕ) → IsFeedFree kept → shows_fault n (length kept) ≡ false → front_lines n kept ≡ []
unsettled n kept free s = front-free n kept free ∙ ap (λ b. if b then kept ∷ [] else []) s
