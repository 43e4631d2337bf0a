-- What stops a run of a typed network over a table, by what binding and the run answer.
use Rattle.std.proofs.Common.{◌≡◌, ℕ, List, [], ◌++◌, Option, Err, refl, sym, ◌∙◌, subst, append-nil, inl, inr}
use Rattle.std.specs.Io.KnownBytes.{IsAtEnd}
use Rattle.sample_core.specs.TypeTree.{TypeTree}
use Rattle.leaf_core.specs.Expression.{Expression}
use Rattle.leaf_core.specs.KeyTree.{KeyTree}
use Rattle.net_tree.specs.Network.{Network}
use Rattle.net_meaning.specs.TypedNetwork.{TypedNetwork}
use Rattle.step_core.specs.Lookup.{FindsAll, MissesIn}
use Rattle.step_core.specs.declared.fault.BindFault.{BindFault}
use Rattle.step_core.specs.declared.fault.BindFault.TheVariants as B
use Rattle.stream_text.specs.declared.fault.StreamFault.{StreamFault}
use Rattle.stream_text.specs.declared.fault.StreamFault.TheVariants as S
use Rattle.stream_text.proofs.Settling.{consumes_none}
use Rattle.yampa_run.specs.NetworkRun.{RefusesBinding, RefusesRun, RunsOver}
use Rattle.yampa_run.specs.Output.{line_feeds}
use Rattle.yampa_run.specs.Runs.{BeginsOutput, IsOutput, StopsRun, StopsAtFault, StopsUnread, StopsWithin}
use Rattle.yampa_run.specs.declared.fault.RunFault.{RunFault}
use Rattle.yampa_run.specs.declared.fault.RunFault.TheVariants as U
use Rattle.yampa_run.specs.declared.preparation.Refusal.{Refusal}
use Rattle.yampa_run.specs.declared.preparation.Refusal.TheVariants as Refused
use Rattle.yampa_run.proofs.Front.{front_output_begins}
use Rattle.yampa_run.proofs.Runs.{map_holds, nothing_moved}
use Rattle.yampa_run.proofs.Written.{appends_none}

module _ (A : TypeTree) (net : Network Expression) (has has' holds holds' : Option (List ℕ)) where
  at_fault : (lines : ℕ) (fault : StreamFault) → StopsAtFault A net has has' holds holds' lines fault
      → (count : ℕ) × StopsWithin A net has has' holds holds' count
  at_fault lines fault s = (
    line_feeds s.written,
    record {
      read = s.read;
      written = s.written;
      moves = s.moves;
      begins = map_holds (IsAtEnd has') s.read (IsOutput A net s.written lines fault) (BeginsOutput A net s.written)
          (λ text o. ([], append-nil s.written ∙ o.bytes)) s.output;
      counted = refl;
    },
  )

  unread : (lines : ℕ) → StopsUnread A net has has' holds holds' lines → (count : ℕ) × StopsWithin A net has has' holds holds' count
  unread lines s = (
    line_feeds s.written,
    record {
      read = s.read;
      written = s.written;
      moves = s.moves;
      begins = inr (λ more. subst (λ w. BeginsOutput A net w (s.read ++ more)) (sym s.bytes) (front_output_begins A net s.read more s.faultless));
      counted = refl;
    },
  )

  -- whatever stops a run, what is written begins the output
  pub stops_within : (fault : RunFault) → StopsRun A net has has' holds holds' fault → (count : ℕ) × StopsWithin A net has has' holds holds' count
  stops_within (U.Stream lines (S.Step n)) s = at_fault lines (S.Step n) s
  stops_within (U.Stream lines (S.Value n v)) s = at_fault lines (S.Value n v) s
  stops_within (U.Stream lines (S.NothingBefore n)) s = at_fault lines (S.NothingBefore n) s
  stops_within (U.Stream lines (S.LineTooLong n)) s = at_fault lines (S.LineTooLong n) s
  stops_within (U.Stream lines (S.TooManySamples n)) s = at_fault lines (S.TooManySamples n) s
  stops_within (U.Stream lines S.ReadTurns) s = unread lines s.0
  stops_within (U.Stream lines S.Read) s = unread lines s
  stops_within (U.Stream lines S.Memory) s = at_fault lines S.Memory s
  stops_within (U.Stream lines S.Ended) s = at_fault lines S.Ended s
  stops_within (U.Write lines) s = (lines, s)
  stops_within (U.Memory lines) s = (lines, s)

-- where what is bound is the network, its run is the network's
module _ (keys : List KeyTree) (t : TypedNetwork) (A : TypeTree) (net : Network Expression) (same_input : A ≡ t.input) (same_net : net ≡ t.net)
    (has has' holds holds' : Option (List ℕ)) where
  pub stopped : (fault : RunFault) (refusal : Refusal) → FindsAll keys t → StopsRun A net has has' holds holds' fault → RefusesRun fault refusal
      → RunsOver keys t has has' holds holds' (Err refusal)
  stopped fault refusal f s = go refusal
    where
      stops : StopsRun t.input t.net has has' holds holds' fault
      stops = subst (λ B. StopsRun B t.net has has' holds holds' fault) same_input (subst (λ m. StopsRun A m has has' holds holds' fault) same_net s)

      go : (r : Refusal) → RefusesRun fault r → RunsOver keys t has has' holds holds' (Err r)
      go (Refused.Line status line) h = inl (record { found = f; fault = fault; stops = stops; status_is = h.0; line_is = h.1 })
      go Refused.Memory h = stops_within t.input t.net has has' holds holds' fault stops

-- a network that isn't bound isn't run
pub unbound : (keys : List KeyTree) (t : TypedNetwork) (has holds : Option (List ℕ)) (fault : BindFault) (refusal : Refusal) → MissesIn keys t fault
    → RefusesBinding fault refusal → RunsOver keys t has has holds holds (Err refusal)
unbound keys t has holds (B.MissingLeaf at) (Refused.Line status line) m h = inr (record {
  lacks = (at, m);
  still = record { reads = consumes_none has; writes = appends_none holds };
  status_is = h.0;
  line_is = h.1;
})
unbound keys t has holds B.Memory (Refused.Line status line) m h = absurd (cc)
unbound keys t has holds fault Refused.Memory m h = (0, nothing_moved t.input t.net has holds)
