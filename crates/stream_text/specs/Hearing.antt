-- What the answers of successive calls tell of a stream.
use Rattle.std.specs.Prelude.{◌≡◌, ◌⊎◌, ℕ, suc, List, [], ◌∷◌, ◌++◌, length, Option, Some, None, Ok, Err}
use Rattle.std.specs.Io.KnownBytes.{Consumes, IsAtEnd}
use Rattle.sample_core.specs.Datum.{Datum}
use Rattle.sample_core.specs.TypeTree.{TypeTree}
use Rattle.sample_core.specs.declared.sample.Sample.{Sample}
use Rattle.stream_text.specs.Answers.{ReaderState, IsFresh, GivesAnswer}
use Rattle.stream_text.specs.Pieces.{ReadBy}
use Rattle.stream_text.specs.StreamText.{IsOfText, Samples, samples, front, samples_from}
use Rattle.stream_text.specs.StreamView.{sample_view}
use Rattle.stream_text.specs.TextLines.{lines_of, front_lines}
use Rattle.stream_text.specs.declared.fault.StreamFault.{StreamFault}
use Rattle.stream_text.specs.declared.fault.StreamFault.TheVariants as S
use Rattle.stream_text.specs.declared.reader.Met.{Met}
use Rattle.stream_text.specs.declared.reader.Met.TheVariants as M
use Rattle.stream_text.specs.declared.settle.TheConstants.{MOST_READS}

-- P holds of the text that begins with the bytes that were read: of these alone, where there are no
-- more, or of every text that begins with them
abbrev pub HoldsOfText : Type 0 → List ℕ → (List ℕ → Type 0) → Type 0
HoldsOfText end read P = (end × P read) ⊎ ((more : List ℕ) → P (read ++ more))

-- the samples p, and then what is held further
abbrev pub then_held : List (ℕ × Datum) → Samples → Samples
then_held p h = record { taken = p ++ h.taken; fault = h.fault }

-- The bytes `consumed` hold the samples p and nothing else: whatever follows them is read from the
-- next line on.
pub record HoldSamples (A : TypeTree) (consumed : List ℕ) (p : List (ℕ × Datum)) (lines : ℕ)
    (before : Option Datum) : Type 0 where
  pub whole : (more : List ℕ) → samples A (consumed ++ more)
      ≡ then_held p (samples_from A (suc lines) before (lines_of more))
  pub so_far : (more : List ℕ) → front A (consumed ++ more)
      ≡ then_held p (samples_from A (suc lines) before (front_lines (suc lines) more))

-- what was read is the bytes of the samples p, and what is kept
pub record IsHeard (A : TypeTree) (s : ReaderState) (read : List ℕ) (p : List (ℕ × Datum)) : Type 0
  where
    pub consumed : List ℕ
    pub parts : read ≡ consumed ++ s.kept
    pub hold : HoldSamples A consumed p s.lines s.before

-- the samples p are those of the bytes that were read, so far or, at the end, in all
abbrev pub TellsSamples : TypeTree → Type 0 → ReaderState → List ℕ → List (ℕ × Datum) → Met → Type 0
TellsSamples A end s read p M.Nothing = IsHeard A s read p
TellsSamples A end s read p M.End = end × (samples A read ≡ record { taken = p; fault = None })
TellsSamples A end s read p M.Fault = ⊥

-- The calls so far, since the reader had `has`, answered the samples p. They made as many reads as
-- are counted, and met the end only where the stream has ended.
pub record Heard (A : TypeTree) (has has' : Option (List ℕ)) (s : ReaderState)
    (p : List (ℕ × Datum)) : Type 0 where
  pub read : List ℕ
  pub consumes : Consumes has has' read
  pub reads : ReadBy (s.met ≡ M.End) read s.reads
  pub tells : TellsSamples A (IsAtEnd has') s read p s.met
  pub count : length p ≡ s.lines

-- all bytes were read: they hold the samples p, and no fault
pub record HeardAll (A : TypeTree) (has has' : Option (List ℕ)) (p : List (ℕ × Datum)) : Type 0
  where
    pub read : List ℕ
    pub consumes : Consumes has has' read
    pub at_end : IsAtEnd has'
    pub all : samples A read ≡ record { taken = p; fault = None }

-- the bytes that were read, of which P is known as far as they tell the text
pub record HeardSo (has has' : Option (List ℕ)) (P : List ℕ → Type 0) : Type 0 where
  pub read : List ℕ
  pub consumes : Consumes has has' read
  pub so : HoldsOfText (IsAtEnd has') read P

-- the samples so far are the first of the text
abbrev pub BeginsWith : TypeTree → List (ℕ × Datum) → List ℕ → Type 0
BeginsWith A p text = (later : List (ℕ × Datum)) × ((samples A text).taken ≡ p ++ later)

-- so many reads are claimed, failed ones among them, and none met the end; their bytes hold the
-- samples so far, and show no fault
pub record HeardFront (A : TypeTree) (has has' : Option (List ℕ)) (p : List (ℕ × Datum))
    (made : ℕ) : Type 0 where
  pub read : List ℕ
  pub consumes : Consumes has has' read
  pub reads : ReadBy ⊥ read made
  pub all : front A read ≡ record { taken = p; fault = None }

-- a stream of which nothing was read has answered nothing
abbrev pub BeginLaw : Type 0
BeginLaw = (A : TypeTree) (has : Option (List ℕ)) (s : ReaderState) → IsFresh s
    → Heard A has has s []

-- a call that answers a sample answers the next
abbrev pub MoreLaw : Type 0
MoreLaw = (A : TypeTree) (has has' has'' : Option (List ℕ)) (s s' : ReaderState)
    (p : List (ℕ × Datum)) (x : ℕ × Sample) → Heard A has has' s p
    → GivesAnswer A s has' (Ok (Some x)) s' has'' → Heard A has has'' s' (p ++ sample_view x ∷ [])

-- where a call answers that there is none more, the samples so far are those of the text
abbrev pub EndLaw : Type 0
EndLaw = (A : TypeTree) (has has' has'' : Option (List ℕ)) (s s' : ReaderState)
    (p : List (ℕ × Datum)) → Heard A has has' s p → GivesAnswer A s has' (Ok None) s' has''
    → HeardAll A has has'' p

-- where a call answers a line's fault, the samples so far and this fault are those of the text
abbrev pub FaultyLaw : Type 0
FaultyLaw = (A : TypeTree) (has has' has'' : Option (List ℕ)) (s s' : ReaderState)
    (p : List (ℕ × Datum)) (fault : StreamFault) → Heard A has has' s p
    → GivesAnswer A s has' (Err fault) s' has'' → IsOfText fault
    → HeardSo has has'' (λ text. samples A text ≡ record { taken = p; fault = Some fault })

-- where a call answers `Read`, the samples so far are those of the bytes that were read
abbrev pub UnreadLaw : Type 0
UnreadLaw = (A : TypeTree) (has has' has'' : Option (List ℕ)) (s s' : ReaderState)
    (p : List (ℕ × Datum)) → Heard A has has' s p → GivesAnswer A s has' (Err S.Read) s' has''
    → HeardFront A has has'' p s'.reads

-- and so they are where a call might read no more: then 2^40 reads are claimed, failed ones among
-- them
abbrev pub TurnsLaw : Type 0
TurnsLaw = (A : TypeTree) (has has' has'' : Option (List ℕ)) (s s' : ReaderState)
    (p : List (ℕ × Datum)) → Heard A has has' s p → GivesAnswer A s has' (Err S.ReadTurns) s' has''
    → HeardFront A has has'' p MOST_READS
