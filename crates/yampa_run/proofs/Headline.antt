-- What is derived from a network writes the same.
use Rattle.std.proofs.Common.{◌≡◌, ℕ, suc, List, [], ◌∷◌, ◌++◌, length, Option, Some, None, Result, Ok, Err, refl, sym, ap, ◌∙◌, subst, append-nil, inl, inr}
use Rattle.std.specs.Io.KnownBytes.{Appends, Consumes, IsAtEnd}
use Rattle.sample_core.specs.Datum.{Datum}
use Rattle.sample_core.specs.HasType.{HasType}
use Rattle.sample_core.specs.ReadingLaws.{ReadingLaw}
use Rattle.sample_core.specs.TypeTree.{TypeTree}
use Rattle.net_tree.specs.LawStep.{Step}
use Rattle.net_meaning.specs.TypedNetwork.{TypedNetwork, HasItsTypes, stream_of}
use Rattle.net_meaning.specs.Typing.{TypedSamples, no_sample, and_sample}
use Rattle.cert_check.specs.Derives.{Derives}
use Rattle.cert_check.specs.Laws.{SameStreamLaw}
use Rattle.stream_text.specs.Hearing.{HoldsOfText}
use Rattle.stream_text.specs.StreamText.{IsBefore, Samples, front, line_read, samples, samples_from, then_samples}
use Rattle.stream_text.specs.TextLines.{lines_of, front_lines}
use Rattle.stream_text.specs.declared.fault.StreamFault.{StreamFault}
use Rattle.stream_text.specs.declared.fault.StreamFault.TheVariants as S
use Rattle.stream_text.proofs.Samples.{read_typed}
use Rattle.yampa_run.specs.Output.{Output, output_on, output_of, front_output_of, spelled_lines}
use Rattle.yampa_run.specs.Runs.{RunsToEnd, IsOutput, StopsAtFault}
use Rattle.yampa_run.specs.Headline.{SameOutputLaw, SameFrontLaw, TellsFault, tells_none, tells_first, WritesOutput, WritesOutputLaw, HeadlineLaw}
use Rattle.yampa_run.specs.declared.fault.RunReport.{RunReport}
use Rattle.yampa_run.specs.declared.fault.RunFault.{RunFault}
use Rattle.yampa_run.specs.declared.fault.RunFault.TheVariants as U

-- the samples of lines have the type
samples_typed : ReadingLaw → (A : TypeTree) (n taken : ℕ) (before : Option Datum) (lines : List (List ℕ)) → IsBefore A taken before
    → TypedSamples A (samples_from A n before lines).taken
samples_typed law A n taken before [] h = no_sample
samples_typed law A n taken before (line ∷ lines) h =
    go (line_read A n before line) (λ x e. read_typed law A n taken before line x h e) (λ v k. samples_typed law A (suc n) taken (Some v) lines k)
  where
    go : (r : Result (ℕ × Datum) StreamFault) → ((x : ℕ × Datum) → r ≡ Ok x → HasType x.1 A)
        → ((v : Datum) → HasType v A → TypedSamples A (samples_from A (suc n) (Some v) lines).taken)
        → TypedSamples A (then_samples r (λ x. samples_from A (suc n) (Some x.1) lines)).taken
    go (Err fault) t rest = no_sample
    go (Ok x) t rest = and_sample (t x refl) (rest x.1 (t x refl))

-- on what bytes hold the output is the same
same_on : SameStreamLaw → (source target : TypedNetwork) (steps : List Step) (held : Samples) → HasItsTypes source → Derives source target steps
    → TypedSamples source.input held.taken → output_on source.net held ≡ output_on target.net held
same_on law source target steps held h x k =
    let same : stream_of source.net held.taken ≡ stream_of target.net held.taken = law source target steps held.taken h x k in
    ap (output_with held.fault) same
  where
    output_with : Option StreamFault → List Datum → Output
    output_with fault vs = record { bytes = spelled_lines vs; fault = fault }

pub same_output : ReadingLaw → SameStreamLaw → SameOutputLaw
same_output reads law source target steps text h x =
    same_on law source target steps (samples source.input text) h x (samples_typed reads source.input 1 0 None (lines_of text) refl)
    ∙ ap (λ A. output_of A target.net text) x.same_input

pub same_front : ReadingLaw → SameStreamLaw → SameFrontLaw
same_front reads law source target steps bs h x =
    same_on law source target steps (front source.input bs) h x (samples_typed reads source.input 1 0 None (front_lines 1 bs) refl)
    ∙ ap (λ A. front_output_of A target.net bs) x.same_input

-- what was read to the end is the text
all_read : (text read : List ℕ) (has' : Option (List ℕ)) → Consumes (Some text) has' read → IsAtEnd has' → text ≡ read
all_read text read None c e = absurd c
all_read text read (Some left) c e = c ∙ ap (λ l. read ++ l) e ∙ append-nil read

-- what holds of the text that begins with the bytes that were read holds of the text that the reader had
pub of_text : (P : List ℕ → Type 0) (text read : List ℕ) (has' : Option (List ℕ)) → Consumes (Some text) has' read → HoldsOfText (IsAtEnd has') read P → P text
of_text P text read has' c (inl h) = subst P (sym (all_read text read has' c h.0)) h.1
of_text P text read None c (inr h) = absurd c
of_text P text read (Some left) c (inr h) = subst P (sym c) (h left)

to_end : (t : TypedNetwork) (text : List ℕ) (has' holds holds' : Option (List ℕ)) (report : RunReport)
    → RunsToEnd t.input t.net (Some text) has' holds holds' report.lines report.most_visits → WritesOutput t text holds holds' (Ok report)
to_end t text has' holds holds' report r =
    let whole : text ≡ r.read = all_read text r.read has' r.moves.reads r.whole in
    record {
      bytes = subst (Appends holds holds') (r.bytes ∙ ap (λ b. (output_of t.input t.net b).bytes) (sym whole)) r.moves.writes;
      told = subst (λ f. TellsFault (length (samples t.input text).taken) f (Ok report))
          (sym (ap (λ b. (output_of t.input t.net b).fault) whole ∙ r.faultless))
          (tells_none (r.counted ∙ ap (λ b. length (samples t.input b).taken) (sym whole)));
    }

at_first : (t : TypedNetwork) (text : List ℕ) (has' holds holds' : Option (List ℕ)) (lines : ℕ) (fault : StreamFault)
    → StopsAtFault t.input t.net (Some text) has' holds holds' lines fault → WritesOutput t text holds holds' (Err (U.Stream lines fault))
at_first t text has' holds holds' lines fault s =
    let o : IsOutput t.input t.net s.written lines fault text =
    of_text (IsOutput t.input t.net s.written lines fault) text s.read has' s.moves.reads s.output in
    record {
      bytes = subst (Appends holds holds') o.bytes s.moves.writes;
      told = subst (λ f. TellsFault (length (samples t.input text).taken) f (Err (U.Stream lines fault))) (sym o.first)
          (subst (λ n. TellsFault n (Some fault) (Err (U.Stream lines fault))) o.counted tells_first);
    }

pub writes_output : WritesOutputLaw
writes_output t text has' holds holds' (Ok report) r u = to_end t text has' holds holds' report r
writes_output t text has' holds holds' (Err (U.Stream lines (S.Step n))) r u = at_first t text has' holds holds' lines (S.Step n) r
writes_output t text has' holds holds' (Err (U.Stream lines (S.Value n v))) r u = at_first t text has' holds holds' lines (S.Value n v) r
writes_output t text has' holds holds' (Err (U.Stream lines (S.NothingBefore n))) r u = at_first t text has' holds holds' lines (S.NothingBefore n) r
writes_output t text has' holds holds' (Err (U.Stream lines (S.LineTooLong n))) r u = at_first t text has' holds holds' lines (S.LineTooLong n) r
writes_output t text has' holds holds' (Err (U.Stream lines (S.TooManySamples n))) r u = at_first t text has' holds holds' lines (S.TooManySamples n) r
writes_output t text has' holds holds' (Err (U.Stream lines S.ReadTurns)) r u = absurd u
writes_output t text has' holds holds' (Err (U.Stream lines S.Read)) r u = absurd u
writes_output t text has' holds holds' (Err (U.Stream lines S.Memory)) r u = at_first t text has' holds holds' lines S.Memory r
writes_output t text has' holds holds' (Err (U.Stream lines S.Ended)) r u = at_first t text has' holds holds' lines S.Ended r
writes_output t text has' holds holds' (Err (U.Write lines)) r u = absurd u
writes_output t text has' holds holds' (Err (U.Memory lines)) r u = absurd u

-- what a run writes of the target is what it writes of the source
pub of_source : (source target : TypedNetwork) (text : List ℕ) (holds holds' : Option (List ℕ)) (result : Result RunReport RunFault)
    → source.input ≡ target.input → output_of source.input source.net text ≡ output_of target.input target.net text
    → WritesOutput target text holds holds' result → WritesOutput source text holds holds' result
of_source source target text holds holds' result i e w = record {
  bytes = subst (λ o. Appends holds holds' o.bytes) (sym e) w.bytes;
  told = subst (λ A. TellsFault (length (samples A text).taken) (output_of source.input source.net text).fault result) (sym i)
      (subst (λ o. TellsFault (length (samples target.input text).taken) o.fault result) (sym e) w.told);
}

pub headline : ReadingLaw → SameStreamLaw → HeadlineLaw
headline reads law source target t steps text has' holds holds' result h x (inl e) r u =
    subst (λ s. WritesOutput s text holds holds' result) e (writes_output t text has' holds holds' result r u)
headline reads law source target t steps text has' holds holds' result h x (inr e) r u =
    of_source source target text holds holds' result x.same_input (same_output reads law source target steps text h x)
    (subst (λ s. WritesOutput s text holds holds' result) e (writes_output t text has' holds holds' result r u))
