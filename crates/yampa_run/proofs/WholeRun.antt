-- The whole way of a run, from files and a text to what is written.
use Rattle.std.proofs.Common.{◌≡◌, ℕ, Bool, true, false, List, [], Option, Some, Result, Ok, Err, refl, sym, ap, ◌∙◌, subst, arith, inl, inr}
use Rattle.sample_core.specs.ReadingLaws.{FaultLaw, ReadingLaw}
use Rattle.leaf_core.specs.KeyTree.{KeyTree}
use Rattle.net_meaning.specs.Laws.{WithinLaw}
use Rattle.net_tree.specs.LawStep.{Step}
use Rattle.net_meaning.specs.TypedNetwork.{TypedNetwork}
use Rattle.cert_check.specs.Laws.{SameStreamLaw}
use Rattle.stream_text.specs.LineFaults.{LineFaultLaw}
use Rattle.stream_text.specs.declared.fault.StreamFault.TheVariants as S
use Rattle.command_line.specs.CommandLine.{RequestTree, types, run, outline, laws, optimise, check as checks, run_checked, apply, compile, compile_checked}
use Rattle.yampa_run.specs.FaultLines.{line_of, status_of}
use Rattle.yampa_run.specs.Headline.{RunsSo, text_output}
use Rattle.yampa_run.specs.NetworkRun.{RunsOver}
use Rattle.yampa_run.specs.Loading.{IsNetworkOf}
use Rattle.yampa_run.specs.Check.{DerivationIn}
use Rattle.yampa_run.specs.Apply.{IsApplied}
use Rattle.yampa_run.specs.Preparation.{Meets}
use Rattle.yampa_run.specs.RefusalLines.{refusal_line, refusal_status}
use Rattle.yampa_run.specs.Runs.{BeginsOutput, IsOutput, StopsWithin}
use Rattle.yampa_run.specs.WholeRun.{RunsAsAsked, WholeRunLaw, WritesPart, WritesAsTold, part, up_to_fault, whole}
use Rattle.yampa_run.specs.declared.fault.RunFault.{RunFault}
use Rattle.yampa_run.specs.declared.fault.RunFault.TheVariants as U
use Rattle.yampa_run.specs.declared.fault.RunReport.{RunReport}
use Rattle.yampa_run.specs.declared.preparation.Job.TheVariants as J
use Rattle.yampa_run.specs.declared.preparation.Refusal.{Refusal}
use Rattle.yampa_run.specs.declared.preparation.Refusal.TheVariants as Refused
use Rattle.yampa_run.proofs.DerivationFiles.{in_files, typed_in}
use Rattle.yampa_run.proofs.Headline.{of_source, of_text, same_output, writes_output}
use Rattle.yampa_run.proofs.NetworkRun.{stops_within}
use Rattle.yampa_run.proofs.TextFaults.{value_status_one}

module _ (law : FaultLaw) (faults : LineFaultLaw) (t : TypedNetwork) (text : List ℕ) (has' holds holds' : Option (List ℕ)) where
  part_of : (lines : ℕ) → StopsWithin t.input t.net (Some text) has' holds holds' lines → WritesPart t text holds holds'
  part_of lines s = record {
    written = s.written;
    writes = s.moves.writes;
    begins = of_text (BeginsOutput t.input t.net s.written) text s.read has' s.moves.reads s.begins;
  }

  fault_told : (refusal : Refusal) (fault : RunFault) → RunsSo t (Some text) has' holds holds' (Err fault) → refusal_status refusal ≡ status_of fault
      → refusal_line refusal ≡ line_of fault → WritesAsTold t text holds holds' (Err refusal)
  fault_told refusal (U.Stream lines (S.Step n)) s e l = up_to_fault (writes_output t text has' holds holds' (Err (U.Stream lines (S.Step n))) s tt) e l
  fault_told refusal (U.Stream lines (S.Value n v)) s e l =
      let o : IsOutput t.input t.net s.written lines (S.Value n v) text =
      of_text (IsOutput t.input t.net s.written lines (S.Value n v)) text s.read has' s.moves.reads s.output in
      up_to_fault (writes_output t text has' holds holds' (Err (U.Stream lines (S.Value n v))) s tt)
      (e ∙ value_status_one law faults t.input text n v o.first) l
  fault_told refusal (U.Stream lines (S.NothingBefore n)) s e l =
      up_to_fault (writes_output t text has' holds holds' (Err (U.Stream lines (S.NothingBefore n))) s tt) e l
  fault_told refusal (U.Stream lines (S.LineTooLong n)) s e l =
      up_to_fault (writes_output t text has' holds holds' (Err (U.Stream lines (S.LineTooLong n))) s tt) e l
  fault_told refusal (U.Stream lines (S.TooManySamples n)) s e l =
      up_to_fault (writes_output t text has' holds holds' (Err (U.Stream lines (S.TooManySamples n))) s tt) e l
  fault_told refusal (U.Stream lines S.ReadTurns) s e l =
      let w = stops_within t.input t.net (Some text) has' holds holds' (U.Stream lines S.ReadTurns) s in part (part_of w.0 w.1) e (2, omega arith, sym l)
  fault_told refusal (U.Stream lines S.Read) s e l =
      let w = stops_within t.input t.net (Some text) has' holds holds' (U.Stream lines S.Read) s in part (part_of w.0 w.1) e (1, omega arith, sym l)
  fault_told refusal (U.Stream lines S.Memory) s e l = absurd s.of_text
  fault_told refusal (U.Stream lines S.Ended) s e l = absurd s.of_text
  fault_told refusal (U.Write lines) s e l = part (part_of lines s) e (3, omega arith, sym l)
  fault_told refusal (U.Memory lines) s e l = part (part_of lines s) e (0, omega arith, sym l)

  -- what is answered of a run tells how much of the output is written
  told_so : (keys : List KeyTree) (answer : Result RunReport Refusal) → RunsOver keys t (Some text) has' holds holds' answer
      → WritesAsTold t text holds holds' answer
  told_so keys (Ok report) r = whole (writes_output t text has' holds holds' (Ok report) r.1 tt) refl
  told_so keys (Err (Refused.Line status line)) (inl s) = fault_told (Refused.Line status line) s.fault s.stops s.status_is s.line_is
  told_so keys (Err (Refused.Line status line)) (inr u) =
      part (record { written = []; writes = u.still.writes; begins = ((text_output t text).bytes, refl) }) u.status_is (4, omega arith, sym u.line_is)
  told_so keys (Err Refused.Memory) r = part (part_of r.0 r.1) refl (0, omega arith, refl)

-- a run isn't what is wanted of steps
not_run : (source : TypedNetwork) (steps : List Step) (shows : Bool) (t : TypedNetwork) → IsApplied source steps shows (J.Run t) → ⊥
not_run source steps false t n = n
not_run source steps true t n = n

-- what is written of the target is written of the source
as_source : (source target : TypedNetwork) (text : List ℕ) (holds holds' : Option (List ℕ)) (answer : Result RunReport Refusal)
    → source.input ≡ target.input → text_output source text ≡ text_output target text → WritesAsTold target text holds holds' answer
    → WritesAsTold source text holds holds' answer
as_source source target text holds holds' (Ok report) i e (whole w s) = whole (of_source source target text holds holds' (Ok report) i e w) s
as_source source target text holds holds' (Err refusal) i e (up_to_fault {lines = lines} {fault = fault} w s l) =
    up_to_fault (of_source source target text holds holds' (Err (U.Stream lines fault)) i e w) s l
as_source source target text holds holds' (Err refusal) i e (part w s l) = part (record {
  written = w.written;
  writes = w.writes;
  begins = (w.begins.0, w.begins.1 ∙ ap (λ o. o.bytes) (sym e));
}) s l

pub whole_run : ReadingLaw → FaultLaw → LineFaultLaw → SameStreamLaw → WithinLaw → WholeRunLaw
whole_run reads law faults same within told words t keys text has' holds holds' answer asked r =
    record { what = asked.what; asks = asked.asks; runs = go asked.what asked.meets }
  where
    so : WritesAsTold t text holds holds' answer
    so = told_so law faults t text has' holds holds' keys answer r

    go : (what : RequestTree) → Meets told what (J.Run t) → RunsAsAsked told what text holds holds' answer
    go (types name) m = m
    go (run name) m = λ file e. record { net = t; net_is = subst (λ known. IsNetworkOf known t) e m; writes = so }
    go (outline name) m = m
    go (laws at name) m = m
    go (optimise wanted name) m = m
    go (checks names) m = m
    go (run_checked names) m = λ source_file target_file certificate e f g.
        let d : DerivationIn source_file target_file certificate = in_files told names t m.count m.derived source_file target_file certificate e f g in
        record {
          files = d;
          writes = as_source d.source t text holds holds' answer d.derives.same_input
              (same_output reads same d.source t d.steps text (typed_in within source_file d.source d.source_is) d.derives) so;
        }
    go (apply names) m = absurd (not_run m.source m.steps names.shows t m.applied)
    go (compile words name) m = m
    go (compile_checked words names) m = m
