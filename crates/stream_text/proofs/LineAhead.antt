-- A later line is read alike with and without what follows it.
use Rattle.std.proofs.Common.{◌≡◌, ◌≤◌, ◌<◌, ◌+◌, ℕ, suc, List, [], ◌∷◌, ◌++◌, length, length-append, take, get_or, Option, Some, None, refl, sym, ap, ◌∙◌, subst, arith, append_assoc, inl, inr}
use Rattle.std.specs.Prelude.{◌⊎◌, codes}
use Rattle.std.specs.Fmt.{decimal}
use Rattle.std.proofs.Math.Seq.{take-append_seam}
use Rattle.std.proofs.lemmas.Grind.{common_steps}
use Rattle.sample_core.specs.Datum.{Datum}
use Rattle.sample_core.specs.HasType.{HasType}
use Rattle.sample_core.specs.ReadingLaws.{ReadingLaw}
use Rattle.sample_core.specs.Spelling.{spelling}
use Rattle.sample_core.specs.TypeTree.{TypeTree}
use Rattle.sample_core.specs.ValueView.{datum_of}
use Rattle.sample_core.specs.declared.sample.Sample.{Sample}
use Rattle.stream_text.specs.LineAhead.{behind_step, EndsLine, IsAhead}
use Rattle.stream_text.specs.LineLaws.{IsStepped}
use Rattle.stream_text.specs.StepText.{step_in}
use Rattle.stream_text.specs.StreamText.{line_read}
use Rattle.stream_text.specs.StreamView.{value_behind}
use Rattle.stream_text.specs.TextLines.{IsFeedFree, IsFirstFeed}
use Rattle.stream_text.proofs.FeedFree.{cons_free, decimal_free, equals_free, free_append, none_free, plus_free, space_free, spelling_free}
use Rattle.stream_text.proofs.LineLaws.{line_law}
use Rattle.stream_text.proofs.StepLaws.{step_law}
use Rattle.stream_text.proofs.WholeValues.{whole_values}
use Rattle.stream_text.specs.declared.line.TheConstants.{MOST_BYTES}

-- bytes without line feed, in front of one, are all that stands before the first
feed_behind : (line more : List ℕ) → IsFeedFree line → IsFirstFeed (line ++ (10 ∷ more)) (length line)
feed_behind [] more f = record { within = omega arith; feed = refl; none_before = none_free }
feed_behind (b ∷ bs) more f =
    let i : IsFirstFeed (bs ++ (10 ∷ more)) (length bs) = feed_behind bs more (λ k l. f (suc k) (omega arith)) in
    record {
      within = (let l : length bs < length (bs ++ (10 ∷ more)) = i.within in omega arith);
      feed = i.feed;
      none_before = cons_free b (take (length bs) (bs ++ (10 ∷ more))) (f 0 (omega arith)) i.none_before;
    }

behind_free : (value : Option Sample) → IsFeedFree (behind_step value)
behind_free None = equals_free
behind_free (Some v) = spelling_free (datum_of v)

-- the line with the step and what stands behind it
abbrev line_of : ℕ → Option Sample → List ℕ
line_of d value = codes "+" ++ (decimal d ++ (codes " " ++ behind_step value))

line_free : (d : ℕ) (value : Option Sample) → IsFeedFree (line_of d value)
line_free d value = free_append (codes "+") (decimal d ++ (codes " " ++ behind_step value)) plus_free
    (free_append (decimal d) (codes " " ++ behind_step value) (decimal_free d)
    (free_append (codes " ") (behind_step value) space_free (behind_free value)))

-- what follows the line is what follows its value
line_then : (d : ℕ) (value : Option Sample) (more : List ℕ)
    → codes "+" ++ (decimal d ++ (codes " " ++ (behind_step value ++ more))) ≡ line_of d value ++ more
line_then d value more = ap (λ r. 43 ∷ r) (sym (append_assoc (decimal d) (codes " " ++ behind_step value) more))

-- it holds the value, or the one before
line_holds : (A : TypeTree) (value : Option Sample) (before : Datum) (bytes : List ℕ) (size : ℕ) → EndsLine A bytes size value
    → ((behind_step value ≡ codes "=") × (value_behind before value ≡ before))
    ⊎ (HasType (value_behind before value) A × (behind_step value ≡ spelling (value_behind before value)))
line_holds A None before bytes size h = inl (refl, refl)
line_holds A (Some v) before bytes size h = inr (h.typed, refl)

-- what stands behind a step is less than the line
pub behind_within : (bytes rest : List ℕ) (d : ℕ) → step_in bytes ≡ Some (d, rest) → length rest ≤ length bytes
behind_within bytes rest d e =
    let s : IsStepped bytes d rest = (step_law bytes rest d).0 e in
    let k : length bytes ≡ length (codes "+" ++ (decimal d ++ (codes " " ++ rest))) = ap (λ l. length l) s.2 in
    let m : length (decimal d ++ (codes " " ++ rest)) ≡ length (decimal d) + length (codes " " ++ rest) = length-append (decimal d) (codes " " ++ rest) in
    omega (arith, k, m)

-- a step, and behind it the end of a line, are the line
pub is_ahead : ReadingLaw → (A : TypeTree) (bytes rest : List ℕ) (d size taken : ℕ) (value : Option Sample) → step_in bytes ≡ Some (d, rest)
    → EndsLine A rest taken value → size + length rest ≡ length bytes + taken → length bytes ≤ MOST_BYTES + 1 → IsAhead A bytes d size value
is_ahead law A bytes rest d size taken value e h same short = record {
  feed = subst (λ k. IsFirstFeed bytes k) (sym size_is)
      (subst (λ bs. IsFirstFeed bs (length line)) (sym bytes_are) (feed_behind line h.more (line_free d value)));
  reads = λ n before few. ap (line_read A n (Some before)) line_is
      ∙ (line_law (whole_values law) step_law A n (Some before) line (d, value_behind before value)).1
      (few, omega (arith, length_is, short), (behind_step value, (s.0, s.1, refl), line_holds A value before rest taken h));
}
  where
    line : List ℕ
    line = line_of d value

    s : IsStepped bytes d rest
    s = (step_law bytes rest d).0 e

    bytes_are : bytes ≡ line ++ (10 ∷ h.more)
    bytes_are = s.2 ∙ ap (λ r. codes "+" ++ (decimal d ++ (codes " " ++ r))) h.begins ∙ line_then d value (10 ∷ h.more)

    length_is : length bytes ≡ length line + length (10 ∷ h.more)
    length_is = ap (λ l. length l) bytes_are ∙ length-append line (10 ∷ h.more)

    size_is : size ≡ length line
    size_is =
        let m : length rest ≡ length (behind_step value) + length (10 ∷ h.more) = ap (λ l. length l) h.begins
        ∙ length-append (behind_step value) (10 ∷ h.more) in
        let t : taken ≡ length (behind_step value) = h.counts in
        omega (arith, length_is, m, t, same)

    line_is : take size bytes ≡ line
    line_is = ap (λ k. take k bytes) size_is ∙ ap (take (length line)) bytes_are ∙ take-append_seam line (10 ∷ h.more)

-- what the first bytes begin with, all begin with
pub ahead_of_all : (A : TypeTree) (bytes : List ℕ) (most d size : ℕ) (value : Option Sample) → IsAhead A (take most bytes) d size value
    → IsAhead A bytes d size value
ahead_of_all A bytes most d size value h =
    let l : size < length (take most bytes) = h.feed.within in
    let same : take size (take most bytes) ≡ take size bytes = grind (arith, common_steps) in
    record {
      feed = record {
        within = grind (arith, common_steps);
        feed = (let f : get_or (take most bytes) size 0 ≡ 10 = h.feed.feed in grind (arith, common_steps));
        none_before = subst IsFeedFree same h.feed.none_before;
      };
      reads = λ n before few. ap (line_read A n (Some before)) (sym same) ∙ h.reads n before few;
    }
