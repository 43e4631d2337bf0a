-- The first fault of a text is one of the text, with status 1.
use Rattle.std.proofs.Common.{◌≡◌, ℕ, suc, List, [], ◌∷◌, Option, Some, None, Result, Ok, Err, refl}
use Rattle.sample_core.specs.Datum.{Datum}
use Rattle.sample_core.specs.Faults.{Expectation, Wrong, no_value, another_type, too_large, no_byte, neither}
use Rattle.sample_core.specs.ReadingLaws.{FaultLaw}
use Rattle.sample_core.specs.TypeTree.{TypeTree}
use Rattle.sample_core.specs.declared.fault.ValueFault.{ValueFault}
use Rattle.sample_core.specs.declared.fault.ValueFault.TheVariants as V
use Rattle.stream_text.specs.LineFaults.{ValueFaulty, none_in_front, goes_on, LineFaulty, too_many, too_long, first_with_plus, nothing_before, first_no_value, later_no_step, later_no_value, LineFaultLaw}
use Rattle.stream_text.specs.StreamText.{line_read, samples, samples_from, then_samples}
use Rattle.stream_text.specs.TextLines.{lines_of}
use Rattle.stream_text.specs.declared.fault.StreamFault.{StreamFault}
use Rattle.stream_text.specs.declared.fault.StreamFault.TheVariants as S
use Rattle.yampa_run.specs.FaultLines.{value_status}

-- nothing that stands wrong is lack of memory
not_wrong : {w : Expectation} {rest : List ℕ} {p : ℕ} {f : ValueFault} → Wrong w rest p f → f ≡ V.Memory → ⊥
not_wrong (no_value h) e = absurd (cc)
not_wrong (another_type h k) e = absurd (cc)
not_wrong (too_large h k) e = absurd (cc)
not_wrong (no_byte h) e = absurd (cc)
not_wrong (neither h k) e = absurd (cc)

not_of_value : FaultLaw → (A : TypeTree) (bs : List ℕ) (f : ValueFault) → ValueFaulty A bs f → f ≡ V.Memory → ⊥
not_of_value law A bs f (none_in_front q) e = not_wrong ((law A bs f).0 q).wrong e
not_of_value law A bs f (goes_on q t) e = absurd (cc)

not_of_line : FaultLaw → (A : TypeTree) (n m : ℕ) (line : List ℕ) (before : Option Datum) (f : StreamFault) → LineFaulty A n line before f
    → f ≡ S.Value m V.Memory → ⊥
not_of_line law A n m line before f (too_many h) e = absurd (cc)
not_of_line law A n m line before f (too_long h k) e = absurd (cc)
not_of_line law A n m line before f (first_with_plus h k) e = absurd (cc)
not_of_line law A n m line before f (nothing_before h k) e = absurd (cc)
not_of_line law A n m line before f (first_no_value {fault = g} h k l v) e = not_of_value law A line g v (cc)
not_of_line law A n m line before f (later_no_step h k) e = absurd (cc)
not_of_line law A n m line before f (later_no_value {rest = rest} {fault = g} h k l v) e = not_of_value law A rest g v (cc)

not_of_lines : FaultLaw → LineFaultLaw → (A : TypeTree) (n m : ℕ) (before : Option Datum) (lines : List (List ℕ))
    → (samples_from A n before lines).fault ≡ Some (S.Value m V.Memory) → ⊥
not_of_lines law faults A n m before [] e = absurd (cc)
not_of_lines law faults A n m before (line ∷ lines) e =
    go (line_read A n before line) refl (λ x. not_of_lines law faults A (suc n) m (Some x.1) lines) e
  where
    go : (r : Result (ℕ × Datum) StreamFault) → line_read A n before line ≡ r
        → ((x : ℕ × Datum) → (samples_from A (suc n) (Some x.1) lines).fault ≡ Some (S.Value m V.Memory) → ⊥)
        → (then_samples r (λ x. samples_from A (suc n) (Some x.1) lines)).fault ≡ Some (S.Value m V.Memory) → ⊥
    go (Err f) q i k = not_of_line law A n m line before f ((faults A n before line f).0 q) (cc)
    go (Ok x) q i k = i x k

-- so the first fault of a text that is one of a value has status 1
pub value_status_one : FaultLaw → LineFaultLaw → (A : TypeTree) (text : List ℕ) (n : ℕ) (v : ValueFault) → (samples A text).fault ≡ Some (S.Value n v)
    → value_status v ≡ 1
value_status_one law faults A text n (V.NotAValue at) e = refl
value_status_one law faults A text n (V.OtherType at) e = refl
value_status_one law faults A text n (V.NumberRange at) e = refl
value_status_one law faults A text n V.Memory e = absurd (not_of_lines law faults A 1 n None (lines_of text) e)
