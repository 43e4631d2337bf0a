-- A timed list that is written is read back.
use Rattle.std.proofs.Common.{◌≡◌, ◌≤◌, ◌<◌, ◌+◌, ℕ, suc, List, [], ◌∷◌, ◌++◌, length, Option, Some, None, Ok, refl, ap, ◌∙◌, arith, inr}
use Rattle.std.specs.Prelude.{codes}
use Rattle.std.specs.Fmt.{decimal}
use Rattle.sample_core.specs.Datum.{Datum}
use Rattle.sample_core.specs.Spelling.{spelling}
use Rattle.sample_core.specs.TypeTree.{TypeTree}
use Rattle.stream_text.specs.LineLaws.{LineLaw}
use Rattle.stream_text.specs.StreamText.{samples_from, then_samples, line_read}
use Rattle.stream_text.specs.TextLines.{IsFeedFree, lines_of}
use Rattle.stream_text.specs.WrittenStreams.{sample_line, later_lines, LaterFit, WrittenLaw}
use Rattle.stream_text.proofs.FeedFree.{free_append, decimal_free, plus_free, space_free, spelling_free}
use Rattle.stream_text.proofs.Lines.{lines-has}
use Rattle.stream_text.specs.declared.line.TheConstants.{MOST_SAMPLES}

step_free : (x : ℕ × Datum) → IsFeedFree (sample_line x)
step_free x = free_append (codes "+") (decimal x.0 ++ (codes " " ++ spelling x.1)) plus_free
    (free_append (decimal x.0) (codes " " ++ spelling x.1) (decimal_free x.0) (free_append (codes " ") (spelling x.1) space_free (spelling_free x.1)))

-- a line that holds a sample, in front of lines
led : (A : TypeTree) (n : ℕ) (before : Option Datum) (line more : List ℕ) (x : ℕ × Datum) (xs : List (ℕ × Datum)) → IsFeedFree line
    → line_read A n before line ≡ Ok x → samples_from A (suc n) (Some x.1) (lines_of more) ≡ record { taken = xs; fault = None }
    → samples_from A n before (lines_of (line ++ (10 ∷ more))) ≡ record { taken = x ∷ xs; fault = None }
led A n before line more x xs f e i =
    ap (samples_from A n before) (lines-has (line ++ (10 ∷ more)) line more (record { one_line = f; ended = refl }))
    ∙ ap (λ a. then_samples a (λ y. samples_from A (suc n) (Some y.1) (lines_of more))) e
    ∙ ap (λ s. record { taken = x ∷ s.taken; fault = s.fault }) i

later_read : LineLaw → (A : TypeTree) (n : ℕ) (before : Datum) (xs : List (ℕ × Datum)) → LaterFit A xs → n + length xs ≤ 1000001
    → samples_from A n (Some before) (lines_of (later_lines xs)) ≡ record { taken = xs; fault = None }
later_read law A n before [] h l = refl
later_read law A n before (x ∷ xs) h l =
    led A n (Some before) (sample_line x) (later_lines xs) x xs (step_free x)
    ((law A n (Some before) (sample_line x) x).1 (omega (arith, l), h.3, (spelling x.1, (h.0, h.1, refl), inr (h.2, refl))))
    (later_read law A (suc n) x.1 xs h.4 (omega (arith, l)))

pub written_law : LineLaw → WrittenLaw
written_law law A [] h = refl
written_law law A (x ∷ xs) h =
    led A 1 None (spelling x.1) (later_lines xs) x xs (spelling_free x.1)
    ((law A 1 None (spelling x.1) x).1 (omega arith, h.2, (h.0, h.1, refl)))
    (later_read law A 2 x.1 xs h.3 (let k : length xs < MOST_SAMPLES = h.4 in omega (arith, k)))
