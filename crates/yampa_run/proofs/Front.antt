-- Bytes that aren't known to be all, and what a text that begins with them holds.
use Rattle.std.proofs.Common.{◌≡◌, ◌+◌, ℕ, suc, Bool, true, false, nat_eq, nat_lt, List, [], ◌∷◌, ◌++◌, length, Option, Some, None, Result, Ok, Err, refl, sym, ap, ◌∙◌, subst, arith, append_assoc, append-nil, if◌then◌else◌}
use Rattle.std.specs.Prelude.{◌||◌, ◌&&◌}
use Rattle.sample_core.specs.Datum.{Datum}
use Rattle.sample_core.specs.TypeTree.{TypeTree}
use Rattle.leaf_core.specs.Expression.{Expression}
use Rattle.net_tree.specs.Network.{Network}
use Rattle.net_meaning.specs.TypedNetwork.{stream_of}
use Rattle.stream_text.specs.Hearing.{BeginsWith}
use Rattle.stream_text.specs.StreamText.{front, line_after, line_read, samples, samples_from, then_samples}
use Rattle.stream_text.specs.TextLines.{Split, split, led_by, last_line, lines_of, shows_fault}
use Rattle.stream_text.specs.declared.fault.StreamFault.{StreamFault}
use Rattle.stream_text.specs.declared.fault.StreamFault.TheVariants as S
use Rattle.stream_text.specs.declared.line.TheConstants.{MOST_SAMPLES, MOST_BYTES}
use Rattle.yampa_run.specs.Output.{front_output_of, spelled_lines}
use Rattle.yampa_run.specs.Runs.{BeginsOutput}
use Rattle.yampa_run.proofs.Runs.{later_lines}

-- a byte in front of what bytes are split into; p tells whether it is a line feed
abbrev led : ℕ → Bool → Split → Split
led b p s = if p then record { lines = [] ∷ s.lines; behind = s.behind } else led_by b s.lines s.behind

-- lines, and then what other bytes behind them are split into
abbrev go_on : List ℕ → Split → Split
go_on more s = record { lines = s.lines ++ (split (s.behind ++ more)).lines; behind = (split (s.behind ++ more)).behind }

led_on : (b : ℕ) (more : List ℕ) (p : Bool) → nat_eq b 10 ≡ p → (lines : List (List ℕ)) (behind : List ℕ)
    → led b p (go_on more (record { lines = lines; behind = behind })) ≡ go_on more (led b p (record { lines = lines; behind = behind }))
led_on b more true e lines behind = refl
led_on b more false e [] behind = ap (λ q. led b q (split (behind ++ more))) (sym e)
led_on b more false e (line ∷ lines) behind = refl

-- bytes that go on are split where they were
split_on : (bs more : List ℕ) → split (bs ++ more) ≡ go_on more (split bs)
split_on [] more = refl
split_on (b ∷ bs) more = ap (led b (nat_eq b 10)) (split_on bs more) ∙ led_on b more (nat_eq b 10) refl (split bs).lines (split bs).behind

-- lines of which none has a fault are read before those that follow
read_on : (A : TypeTree) (n : ℕ) (before : Option Datum) (lines more : List (List ℕ)) → (samples_from A n before lines).fault ≡ None
    → (later : List (ℕ × Datum)) × ((samples_from A n before (lines ++ more)).taken ≡ (samples_from A n before lines).taken ++ later)
read_on A n before [] more e = ((samples_from A n before more).taken, refl)
read_on A n before (line ∷ lines) more e = go (line_read A n before line) (λ x. read_on A (suc n) (Some x.1) lines more) e
  where
    go : (r : Result (ℕ × Datum) StreamFault)
        → ((x : ℕ × Datum) → (samples_from A (suc n) (Some x.1) lines).fault ≡ None → (later : List (ℕ × Datum))
        × ((samples_from A (suc n) (Some x.1) (lines ++ more)).taken ≡ (samples_from A (suc n) (Some x.1) lines).taken ++ later))
        → (then_samples r (λ x. samples_from A (suc n) (Some x.1) lines)).fault ≡ None
        → (later : List (ℕ × Datum)) × ((then_samples r (λ x. samples_from A (suc n) (Some x.1) (lines ++ more))).taken
        ≡ (then_samples r (λ x. samples_from A (suc n) (Some x.1) lines)).taken ++ later)
    go (Err f) i k = absurd (cc)
    go (Ok x) i k = let rest = i x k in (rest.0, ap (λ xs. x ∷ xs) rest.1)

-- a line that shows its fault ends what is read
shown : (A : TypeTree) (n : ℕ) (before : Option Datum) (bs : List ℕ) → shows_fault n (length bs) ≡ true
    → (f : StreamFault) × (line_read A n before bs ≡ Err f)
shown A n before bs s = go (nat_lt MOST_SAMPLES n) (nat_lt MOST_BYTES (length bs)) (nat_lt 0 (length bs)) s
  where
    go : (p q r : Bool) → (q || (p && r)) ≡ true
        → (f : StreamFault) × ((if p then Err (S.TooManySamples n) else (if q then Err (S.LineTooLong n) else line_after A n before bs)) ≡ Err f)
    go true q r e = (S.TooManySamples n, refl)
    go false true r e = (S.LineTooLong n, refl)
    go false false r e = absurd (cc)

-- so what is read without a fault has no such line behind its lines
not_shown : (A : TypeTree) (n : ℕ) (before : Option Datum) (lines : List (List ℕ)) (bs : List ℕ) → shows_fault (n + length lines) (length bs) ≡ true
    → (samples_from A n before (lines ++ bs ∷ [])).fault ≡ None → ⊥
not_shown A n before [] bs s e =
    let f = shown A n before bs (subst (λ m. shows_fault m (length bs) ≡ true) (omega arith) s) in
    let k : (then_samples (line_read A n before bs) (λ x. samples_from A (suc n) (Some x.1) [])).fault ≡ Some f.0 =
    ap (λ r. (then_samples r (λ x. samples_from A (suc n) (Some x.1) [])).fault) f.1 in
    cc
not_shown A n before (line ∷ lines) bs s e = go (line_read A n before line)
    (λ x. not_shown A (suc n) (Some x.1) lines bs (subst (λ m. shows_fault m (length bs) ≡ true) (omega arith) s)) e
  where
    go : (r : Result (ℕ × Datum) StreamFault)
        → ((x : ℕ × Datum) → (samples_from A (suc n) (Some x.1) (lines ++ bs ∷ [])).fault ≡ None → ⊥)
        → (then_samples r (λ x. samples_from A (suc n) (Some x.1) (lines ++ bs ∷ []))).fault ≡ None → ⊥
    go (Err f) i k = absurd (cc)
    go (Ok x) i k = i x k

-- what bytes hold, as far as they show no fault, begins what a text holds that begins with them
front_begins : (A : TypeTree) (bs more : List ℕ) → (front A bs).fault ≡ None → BeginsWith A (front A bs).taken (bs ++ more)
front_begins A bs more e = go (shows_fault (1 + length (split bs).lines) (length (split bs).behind)) refl e
  where
    go : (p : Bool) → shows_fault (1 + length (split bs).lines) (length (split bs).behind) ≡ p
        → (samples_from A 1 None ((split bs).lines ++ (if p then (split bs).behind ∷ [] else []))).fault ≡ None
        → (later : List (ℕ × Datum))
        × ((samples A (bs ++ more)).taken ≡ (samples_from A 1 None ((split bs).lines ++ (if p then (split bs).behind ∷ [] else []))).taken ++ later)
    go true s k = absurd (not_shown A 1 None (split bs).lines (split bs).behind s k)
    go false s k =
        let lines : List (List ℕ) = (split bs).lines in
        let none : lines ++ [] ≡ lines = append-nil lines in
        let rest : List (List ℕ) = lines_of ((split bs).behind ++ more) in
        let all : lines_of (bs ++ more) ≡ lines ++ rest = ap (λ p. p.lines ++ last_line p.behind) (split_on bs more)
        ∙ append_assoc lines (split ((split bs).behind ++ more)).lines (last_line (split ((split bs).behind ++ more)).behind) in
        let found = read_on A 1 None lines rest (subst (λ ls. (samples_from A 1 None ls).fault ≡ None) none k) in
        (found.0, ap (λ ls. (samples_from A 1 None ls).taken) all ∙ found.1 ∙ ap (λ ls. (samples_from A 1 None ls).taken ++ found.0) (sym none))

-- so what is written of them begins the text's output
pub front_output_begins : (A : TypeTree) (net : Network Expression) (read more : List ℕ) → (front_output_of A net read).fault ≡ None
    → BeginsOutput A net (front_output_of A net read).bytes (read ++ more)
front_output_begins A net read more e =
    let b : BeginsWith A (front A read).taken (read ++ more) = front_begins A read more e in
    let later = later_lines net (front A read).taken b.0 in
    (spelled_lines later.0, later.1 ∙ ap (λ k. spelled_lines (stream_of net k)) (sym b.1))
