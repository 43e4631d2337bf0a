-- The whole way of the commands `run` and `run-checked`: from the words, the bytes of the files that
-- they name and the bytes of the stream to the bytes written, the status and the line.
--
-- `run-checked` names three files: the source, the target and the certificate. The target is run
-- only where the certificate's steps derive it from the source, and what is written is the source's
-- output: so whoever trusts the source need not read the target.
--
-- That rests on these, one behind the other:
-- - reading files: what is read of a network file or a certificate file is what its bytes say, and
--   bytes say one thing at most;
-- - typing: a network that is accepted has its types within the limits;
-- - the check of a certificate: it accepts only where the steps derive the target;
-- - binding: a network that is bound to a table has the input type and the expressions of the
--   network that it was made of;
-- - the run: it writes the lines of the stream meaning of what it runs;
-- - the law that what is derived outputs the same.
use Rattle.std.specs.Prelude.{◌≡◌, ℕ, List, [], ◌∷◌, Contains, Option, Some, Result, Ok, Err, codes}
use Rattle.std.specs.Io.KnownBytes.{Appends}
use Rattle.leaf_core.specs.KeyTree.{KeyTree}
use Rattle.net_meaning.specs.TypedNetwork.{TypedNetwork}
use Rattle.stream_text.specs.declared.fault.StreamFault.{StreamFault}
use Rattle.command_line.specs.CommandLine.{RequestTree, types, run, outline, laws, optimise, check as checks, run_checked, apply, compile, compile_checked, request_in}
use Rattle.yampa_run.specs.Check.{DerivationIn}
use Rattle.yampa_run.specs.FaultLines.{stream_words}
use Rattle.yampa_run.specs.Headline.{WritesOutput}
use Rattle.yampa_run.specs.NetworkRun.{RunsOver}
use Rattle.yampa_run.specs.KnownFiles.{KnownFiles}
use Rattle.yampa_run.specs.Loading.{IsNetworkIn}
use Rattle.yampa_run.specs.Preparation.{IsRequested}
use Rattle.yampa_run.specs.RefusalLines.{answer_status, refusal_line}
use Rattle.yampa_run.specs.Runs.{BeginsOutput}
use Rattle.yampa_run.specs.declared.fault.RunFault.TheVariants as U
use Rattle.yampa_run.specs.declared.fault.RunReport.{RunReport}
use Rattle.yampa_run.specs.declared.preparation.Job.TheVariants as J
use Rattle.yampa_run.specs.declared.preparation.Refusal.{Refusal}

-- of a typed network's output on a text a part as a prefix is written, maybe all
pub record WritesPart (t : TypedNetwork) (text : List ℕ) (holds holds' : Option (List ℕ)) : Type 0
  where
    pub written : List ℕ
    pub writes : Appends holds holds' written
    pub begins : BeginsOutput t.input t.net written text

-- the lines of what hinders a run: lack of memory, its reader, its writer, or its table
abbrev pub hindrances : List (List ℕ)
hindrances = codes "memory" ∷ codes "stream: cannot be read" ∷ codes "stream: too many reads"
    ∷ codes "output: cannot be written" ∷ codes "no row" ∷ []

-- What is written of a typed network's output on a text, by the status and the line of what is
-- answered. With status 0 it is all, and the text has no fault; with status 1 it is all up to the
-- text's first fault, which the line names; with status 3 it is a part as a prefix, and the line
-- tells what hindered the run. There is no other status.
pub data WritesAsTold (t : TypedNetwork) (text : List ℕ) (holds holds' : Option (List ℕ)) :
    Result RunReport Refusal → Type 0 where
  whole : {report : RunReport} → WritesOutput t text holds holds' (Ok report)
      → answer_status (Ok report) ≡ 0 → WritesAsTold t text holds holds' (Ok report)
  up_to_fault : {refusal : Refusal} {lines : ℕ} {fault : StreamFault}
      → WritesOutput t text holds holds' (Err (U.Stream lines fault))
      → answer_status (Err refusal) ≡ 1 → refusal_line refusal ≡ stream_words fault
      → WritesAsTold t text holds holds' (Err refusal)
  part : {refusal : Refusal} → WritesPart t text holds holds' → answer_status (Err refusal) ≡ 3
      → Contains hindrances (refusal_line refusal) → WritesAsTold t text holds holds' (Err refusal)

-- A plain run: the bytes are those of a network file, and its network's output is written.
pub record RunsFile (file text : List ℕ) (holds holds' : Option (List ℕ))
    (answer : Result RunReport Refusal) : Type 0 where
  pub net : TypedNetwork
  pub net_is : IsNetworkIn file net
  pub writes : WritesAsTold net text holds holds' answer

-- A checked run: the bytes are those of a source, a target and a certificate, whose steps derive the
-- target from the source, and the source's output is written.
pub record RunsChecked (source_file target_file certificate text : List ℕ)
    (holds holds' : Option (List ℕ)) (answer : Result RunReport Refusal) : Type 0 where
  pub files : DerivationIn source_file target_file certificate
  pub writes : WritesAsTold files.source text holds holds' answer

-- the run is the one that is asked for, where the bytes of the files that are named are told
abbrev pub RunsAsAsked : KnownFiles → RequestTree → List ℕ → Option (List ℕ) → Option (List ℕ)
    → Result RunReport Refusal → Type 0
RunsAsAsked told (types name) text holds holds' answer = ⊥
RunsAsAsked told (run name) text holds holds' answer = (file : List ℕ) → told name ≡ Some file
    → RunsFile file text holds holds' answer
RunsAsAsked told (outline name) text holds holds' answer = ⊥
RunsAsAsked told (laws at name) text holds holds' answer = ⊥
RunsAsAsked told (optimise wanted name) text holds holds' answer = ⊥
RunsAsAsked told (checks names) text holds holds' answer = ⊥
RunsAsAsked told (apply names) text holds holds' answer = ⊥
RunsAsAsked told (compile words name) text holds holds' answer = ⊥
RunsAsAsked told (compile_checked words names) text holds holds' answer = ⊥
RunsAsAsked told (run_checked names) text holds holds' answer =
    (source_file target_file certificate : List ℕ) → told names.source ≡ Some source_file
    → told names.target ≡ Some target_file → told names.certificate ≡ Some certificate
    → RunsChecked source_file target_file certificate text holds holds' answer

-- The whole way: what the words ask for is run on the text.
pub record WholeRun (told : KnownFiles) (words : List (List ℕ)) (text : List ℕ)
    (holds holds' : Option (List ℕ)) (answer : Result RunReport Refusal) : Type 0 where
  pub what : RequestTree
  pub asks : request_in words ≡ Some what
  pub runs : RunsAsAsked told what text holds holds' answer

-- Where `prepare` answers a network to run for words and files, and `run_network` runs it on a text
-- over whatever table, in whatever pieces the text is read, that is the whole way.
abbrev pub WholeRunLaw : Type 0
WholeRunLaw = (told : KnownFiles) (words : List (List ℕ)) (t : TypedNetwork) (keys : List KeyTree)
    (text : List ℕ) (has' holds holds' : Option (List ℕ)) (answer : Result RunReport Refusal)
    → IsRequested told words (J.Run t) → RunsOver keys t (Some text) has' holds holds' answer
    → WholeRun told words text holds holds' answer
