-- A run, sample by sample.
use Rattle.std.proofs.Common.{◌≡◌, ◌≤◌, ◌+◌, ℕ, suc, List, [], ◌∷◌, ◌++◌, length, take, drop, Option, Some, None, Ok, Err, refl, sym, ap, ◌∙◌, subst, arith, append_assoc, append-nil, take-append-drop, inl, inr}
use Rattle.std.specs.Prelude.{◌⊎◌, max, IfErr, Result}
use Rattle.std.specs.Io.KnownBytes.{Appends, IsAtEnd}
use Rattle.std.proofs.lemmas.List.{take_at}
use Rattle.sample_core.specs.Datum.{Datum}
use Rattle.sample_core.specs.Spelling.{spelling}
use Rattle.sample_core.specs.TypeTree.{TypeTree}
use Rattle.sample_core.specs.declared.sample.Sample.{Sample}
use Rattle.leaf_core.specs.Expression.{Expression}
use Rattle.leaf_core.specs.ExpressionValue.{value_of}
use Rattle.net_meaning.specs.Environment.{closed}
use Rattle.net_tree.specs.Height.{greatest}
use Rattle.net_tree.specs.Network.{Network}
use Rattle.net_meaning.specs.SignalFunction.{TimedList}
use Rattle.net_meaning.specs.TypedNetwork.{stream_of}
use Rattle.net_meaning.proofs.Meanings.{outputs-take, length-outputs}
use Rattle.step_core.specs.EnvironmentVisits.{visits_of}
use Rattle.step_core.specs.RunnerState.{RunnerState, StandsFor, network_in, last_visits_of}
use Rattle.step_core.proofs.CausalVisits.{visits-take, visits-push}
use Rattle.stream_text.specs.Answers.{ReaderState, IsFresh, FaultyLine, known_bytes, Unfinished, HasFault, GivesAnswer}
use Rattle.stream_text.specs.Hearing.{HoldsOfText, Heard, HeardAll, HeardSo, HeardFront, BeginsWith, TellsSamples}
use Rattle.stream_text.specs.Pieces.{ReadBy, bytes_read}
use Rattle.stream_text.specs.StreamText.{IsBefore, IsOfText, samples}
use Rattle.stream_text.specs.StreamView.{sample_view}
use Rattle.stream_text.specs.declared.fault.StreamFault.{StreamFault}
use Rattle.stream_text.specs.declared.fault.StreamFault.TheVariants as S
use Rattle.stream_text.specs.declared.reader.Met.TheVariants as M
use Rattle.stream_text.proofs.Hearing.{heard_none, heard_more, heard_end, heard_fault, heard_so_far, heard_short, heard_unread}
use Rattle.stream_text.proofs.FeedFree.{spelling_free}
use Rattle.stream_text.proofs.Settling.{consumes_none}
use Rattle.stream_text.specs.declared.line.TheConstants.{MOST_SAMPLES}
use Rattle.yampa_run.specs.Output.{spelled_lines, line_feeds, line_of_value, most_visits_of, output_of}
use Rattle.yampa_run.specs.Runs.{RunsToEnd, IsOutput, StopsAtFault, StopsUnread, BeginsOutput, StopsWithin, StopsRun, Answers, IsPartOfLine, Breaks, run_fault_of, stream_fault_of}
use Rattle.yampa_run.specs.declared.fault.RunFault.{RunFault}
use Rattle.yampa_run.specs.declared.fault.RunReport.{RunReport}
use Rattle.yampa_run.specs.declared.stream_run.WriteStop.{WriteStop}
use Rattle.yampa_run.specs.declared.stream_run.WriteStop.TheVariants as T
use Rattle.yampa_run.proofs.Written.{appends_none, appends_both, feeds-free, feeds-append, feeds-lines, part_free}

-- So far: the samples p were answered, the runner stands for them, and their lines are written.
pub record Progress (A : TypeTree) (net : Network Expression) (has has' holds holds' : Option (List ℕ)) (s : ReaderState) (r : RunnerState)
    (lines most : ℕ) : Type 0 where
  pub p : TimedList
  pub heard : Heard A has has' s p
  pub stands : StandsFor r p
  pub of_type : r.input ≡ A
  pub of_network : network_in r ≡ net
  pub wrote : Appends holds holds' (spelled_lines (stream_of net p))
  pub counted : lines ≡ s.lines
  pub visited : most ≡ most_visits_of net p
  pub before : IsBefore A s.lines s.before
  pub few : s.lines ≤ MOST_SAMPLES

no_output : (net : Network Expression) → stream_of net [] ≡ []
no_output net = outputs-take value_of net closed 0 []

pub begins : (A : TypeTree) (net : Network Expression) (has holds : Option (List ℕ)) (s : ReaderState) (r : RunnerState) → IsFresh s → StandsFor r []
    → r.input ≡ A → network_in r ≡ net → Progress A net has has holds holds s r 0 0
begins A net has holds s r f st i n = record {
  p = [];
  heard = heard_none A has s f;
  stands = st;
  of_type = i;
  of_network = n;
  wrote = subst (λ vs. Appends holds holds (spelled_lines vs)) (sym (no_output net)) (appends_none holds);
  counted = sym f.lines;
  visited = sym (ap greatest (visits-take value_of net closed 0 []));
  before = subst (IsBefore A s.lines) (sym f.before) f.lines;
  few = let l : s.lines ≡ 0 = f.lines in omega (arith, l);
}

spelled-append : (vs ws : List Datum) → spelled_lines (vs ++ ws) ≡ spelled_lines vs ++ spelled_lines ws
spelled-append [] ws = refl
spelled-append (v ∷ vs) ws = ap (λ ls. spelling v ++ (10 ∷ ls)) (spelled-append vs ws)
    ∙ sym (append_assoc (spelling v) (10 ∷ spelled_lines vs) (spelled_lines ws))

-- what comes later leaves the lines so far
pub later_lines : (net : Network Expression) (p later : TimedList)
    → (vs : List Datum) × (spelled_lines (stream_of net p) ++ spelled_lines vs ≡ spelled_lines (stream_of net (p ++ later)))
later_lines net p later =
    let all : List Datum = stream_of net (p ++ later) in
    let front : stream_of net p ≡ take (length p) all =
    ap (stream_of net) (sym (take_at p later (length p) refl)) ∙ outputs-take value_of net closed (length p) (p ++ later) in (
      drop (length p) all,
      ap (λ vs. spelled_lines vs ++ spelled_lines (drop (length p) all)) front
          ∙ sym (spelled-append (take (length p) all) (drop (length p) all)) ∙ ap spelled_lines (take-append-drop (length p) all),
    )

greatest-push : (ns : List ℕ) (n : ℕ) → greatest (ns ++ n ∷ []) ≡ max (greatest ns) n
greatest-push [] n = grind arith
greatest-push (m ∷ ns) n = let i : greatest (ns ++ n ∷ []) ≡ max (greatest ns) n = greatest-push ns n in ap (max m) i ∙ max_three m (greatest ns) n
  where
    max_three : (a b c : ℕ) → max a (max b c) ≡ max (max a b) c
    max_three a b c = grind arith

most_visits-push : (net : Network Expression) (p : TimedList) (x : ℕ × Datum)
    → most_visits_of net (p ++ x ∷ []) ≡ max (most_visits_of net p) (last_visits_of net (p ++ x ∷ []))
most_visits-push net p x =
    ap greatest (visits-push value_of net closed p x) ∙ greatest-push (visits_of value_of net closed p) (last_visits_of net (p ++ x ∷ []))

-- one sample more
pub goes_on : (A : TypeTree) (net : Network Expression) (has has' has'' holds holds' holds'' : Option (List ℕ)) (s s' : ReaderState) (r r' : RunnerState)
    (lines most : ℕ) (x : ℕ × Sample) → Progress A net has has' holds holds' s r lines most → GivesAnswer A s has' (Ok (Some x)) s' has''
    → IsBefore A s'.lines s'.before → s'.lines ≤ MOST_SAMPLES → Answers r (sample_view x) holds' r' holds''
    → Progress A net has has'' holds holds'' s' r' (lines + 1) (max most r'.visits)
goes_on A net has has' has'' holds holds' holds'' s s' r r' lines most x g a b f w =
    let next : stream_of (network_in r) (g.p ++ sample_view x ∷ []) ≡ stream_of (network_in r) g.p ++ w.y ∷ [] = w.pushes.answers g.p g.stands in
    let grown : stream_of net (g.p ++ sample_view x ∷ []) ≡ stream_of net g.p ++ w.y ∷ [] =
    subst (λ m. stream_of m (g.p ++ sample_view x ∷ []) ≡ stream_of m g.p ++ w.y ∷ []) g.of_network next in
    let seen : r'.visits ≡ last_visits_of net (g.p ++ sample_view x ∷ []) =
    subst (λ m. r'.visits ≡ last_visits_of m (g.p ++ sample_view x ∷ [])) g.of_network (w.pushes.visits g.p g.stands) in
    record {
      p = g.p ++ sample_view x ∷ [];
      heard = heard_more A has has' has'' s s' g.p x g.heard a;
      stands = w.pushes.stands g.p g.stands;
      of_type = w.pushes.same_input ∙ g.of_type;
      of_network = w.pushes.same_network ∙ g.of_network;
      wrote = subst (Appends holds holds'')
          (sym (ap spelled_lines grown ∙ spelled-append (stream_of net g.p) (w.y ∷ [])))
          (appends_both holds holds' holds'' (spelled_lines (stream_of net g.p)) (line_of_value w.y) g.wrote w.writes);
      counted = let l : s'.lines ≡ suc s.lines = a.gives.counts in omega (arith, l, g.counted);
      visited = ap (λ m. max m r'.visits) g.visited ∙ ap (max (most_visits_of net g.p)) seen ∙ sym (most_visits-push net g.p (sample_view x));
      before = b;
      few = f;
    }

-- the end
pub ends : (A : TypeTree) (net : Network Expression) (has has' has'' holds holds' : Option (List ℕ)) (s s' : ReaderState) (r : RunnerState) (lines most : ℕ)
    → Progress A net has has' holds holds' s r lines most → GivesAnswer A s has' (Ok None) s' has'' → RunsToEnd A net has has'' holds holds' lines most
ends A net has has' has'' holds holds' s s' r lines most g a =
    let h : HeardAll A has has'' g.p = heard_end A has has' has'' s s' g.p g.heard a in
    record {
      read = h.read;
      written = spelled_lines (stream_of net g.p);
      moves = record { reads = h.consumes; writes = g.wrote };
      whole = h.at_end;
      bytes = ap (λ k. spelled_lines (stream_of net k.taken)) (sym h.all);
      faultless = ap (λ k. k.fault) h.all;
      counted = g.counted ∙ sym g.heard.count ∙ ap (λ k. length k.taken) (sym h.all);
      visited = g.visited ∙ ap (λ k. most_visits_of net k.taken) (sym h.all);
    }

pub map_holds : (end : Type 0) (read : List ℕ) (P Q : List ℕ → Type 0) → ((text : List ℕ) → P text → Q text) → HoldsOfText end read P → HoldsOfText end read Q
map_holds end read P Q f (inl h) = inl (h.0, f read h.1)
map_holds end read P Q f (inr h) = inr (λ more. f (read ++ more) (h more))

line_count : (net : Network Expression) (p : TimedList) → line_feeds (spelled_lines (stream_of net p)) ≡ length p
line_count net p = feeds-lines (stream_of net p) ∙ length-outputs value_of net closed p

-- what is written of the samples p and a part of later lines begins the output of a text that begins with samples of p
within : (A : TypeTree) (net : Network Expression) (has has' holds holds' : Option (List ℕ)) (lines : ℕ) (p : TimedList) (written rest : List ℕ)
    → HeardSo has has' (BeginsWith A p) → Appends holds holds' written → written ++ rest ≡ spelled_lines (stream_of net p) → lines ≡ line_feeds written
    → StopsWithin A net has has' holds holds' lines
within A net has has' holds holds' lines p written rest h w e c = record {
  read = h.read;
  written = written;
  moves = record { reads = h.consumes; writes = w };
  begins = map_holds (IsAtEnd has') h.read (BeginsWith A p) (BeginsOutput A net written) begun h.so;
  counted = c;
}
  where
    begun : (text : List ℕ) → BeginsWith A p text → BeginsOutput A net written text
    begun text t =
        let more = later_lines net p t.0 in (
          rest ++ spelled_lines more.0,
          sym (append_assoc written rest (spelled_lines more.0)) ∙ ap (λ b. b ++ spelled_lines more.0) e ∙ more.1
              ∙ ap (λ k. spelled_lines (stream_of net k)) (sym t.1),
        )

-- a fault of the stream
pub stream_stops : (A : TypeTree) (net : Network Expression) (has has' has'' holds holds' : Option (List ℕ)) (s s' : ReaderState) (r : RunnerState)
    (lines most : ℕ)
    (fault : StreamFault) → Progress A net has has' holds holds' s r lines most → GivesAnswer A s has' (Err fault) s' has''
    → StopsRun A net has has'' holds holds' (stream_fault_of lines fault)
stream_stops A net has has' has'' holds holds' s s' r lines most fault g a = go fault a.gives.why
  where
    at_fault : (f : StreamFault) → IsOfText f → HeardSo has has'' (λ text. samples A text ≡ record { taken = g.p; fault = Some f })
        → StopsAtFault A net has has'' holds holds' lines f
    at_fault f o h = record {
      read = h.read;
      written = spelled_lines (stream_of net g.p);
      moves = record { reads = h.consumes; writes = g.wrote };
      of_text = o;
      output = map_holds (IsAtEnd has'') h.read (λ text. samples A text ≡ record { taken = g.p; fault = Some f })
          (IsOutput A net (spelled_lines (stream_of net g.p)) lines f)
          (λ text e. record {
            bytes = ap (λ k. spelled_lines (stream_of net k.taken)) (sym e);
            first = ap (λ k. k.fault) e;
            counted = g.counted ∙ sym g.heard.count ∙ ap (λ k. length k.taken) (sym e);
          }) h.so;
    }

    unread : {reads : ℕ} → HeardFront A has has'' g.p reads → StopsUnread A net has has'' holds holds' lines
    unread h = record {
      read = h.read;
      written = spelled_lines (stream_of net g.p);
      moves = record { reads = h.consumes; writes = g.wrote };
      bytes = ap (λ k. spelled_lines (stream_of net k.taken)) (sym h.all);
      faultless = ap (λ k. k.fault) h.all;
      counted = g.counted ∙ sym g.heard.count ∙ ap (λ k. length k.taken) (sym h.all);
    }

    heard : Unfinished s a.pieces s' → HeardFront A has has'' g.p s'.reads
    heard u = heard_unread A has has' has'' s s' g.p a.pieces g.heard a.read.consumes a.counts u

    faulty : (f : StreamFault) → IsOfText f → (s.met ≡ M.Nothing) × FaultyLine A (IsAtEnd has'') s (known_bytes s a.pieces) f
        → StopsAtFault A net has has'' holds holds' lines f
    faulty f o w = at_fault f o (heard_fault A has has' has'' s g.p (bytes_read a.pieces) f g.heard a.read.consumes w.0 w.1)

    go : (f : StreamFault) → HasFault A (IsAtEnd has'') s a.pieces f s' → StopsRun A net has has'' holds holds' (stream_fault_of lines f)
    go (S.Step k) w = faulty (S.Step k) tt w
    go (S.Value k v) w = faulty (S.Value k v) tt w
    go (S.NothingBefore k) w = faulty (S.NothingBefore k) tt w
    go (S.LineTooLong k) w = faulty (S.LineTooLong k) tt w
    go (S.TooManySamples k) w = faulty (S.TooManySamples k) tt w
    go S.ReadTurns w = (unread (heard w.0), subst (ReadBy ⊥ (heard w.0).read) w.1 (heard w.0).reads)
    go S.Read w = unread (heard w)
    go S.Memory w = within A net has has'' holds holds' lines g.p (spelled_lines (stream_of net g.p)) []
        (heard_short A has has' has'' s g.p (bytes_read a.pieces) g.heard a.read.consumes w) g.wrote (append-nil (spelled_lines (stream_of net g.p)))
        (g.counted ∙ sym g.heard.count ∙ sym (line_count net g.p))
    go S.Ended w = absurd (subst (TellsSamples A (IsAtEnd has') s g.heard.read g.p) w g.heard.tells)

-- a line that isn't written whole
pub line_stops : (A : TypeTree) (net : Network Expression) (has has' has'' holds holds' holds'' : Option (List ℕ)) (s s' : ReaderState) (r r' : RunnerState)
    (lines most : ℕ) (x : ℕ × Sample) → Progress A net has has' holds holds' s r lines most → GivesAnswer A s has' (Ok (Some x)) s' has''
    → Breaks r (sample_view x) holds' r' holds'' → StopsWithin A net has has'' holds holds'' lines
line_stops A net has has' has'' holds holds' holds'' s s' r r' lines most x g a b = go b.of_line
  where
    p' : TimedList
    p' = g.p ++ sample_view x ∷ []

    so_far : List ℕ
    so_far = spelled_lines (stream_of net g.p)

    wrote : Appends holds holds'' (so_far ++ b.part)
    wrote = appends_both holds holds' holds'' so_far b.part g.wrote b.writes

    heard : HeardSo has has'' (BeginsWith A p')
    heard = heard_so_far A has has'' s' p' (heard_more A has has' has'' s s' g.p x g.heard a)

    whole : lines ≡ line_feeds so_far
    whole = g.counted ∙ sym g.heard.count ∙ sym (line_count net g.p)

    count : line_feeds b.part ≡ 0 → lines ≡ line_feeds (so_far ++ b.part)
    count e = let f : line_feeds (so_far ++ b.part) ≡ line_feeds so_far + line_feeds b.part = feeds-append so_far b.part in
        let w : lines ≡ line_feeds so_far = whole in omega (arith, e, f, w)

    go : (b.part ≡ []) ⊎ IsPartOfLine r (sample_view x) r' b.part → StopsWithin A net has has'' holds holds'' lines
    go (inl e) =
        let later = later_lines net g.p (sample_view x ∷ []) in
        within A net has has'' holds holds'' lines p' (so_far ++ b.part) (spelled_lines later.0) heard wrote
        (ap (λ q. (so_far ++ q) ++ spelled_lines later.0) e ∙ ap (λ q. q ++ spelled_lines later.0) (append-nil so_far) ∙ later.1) (count (ap line_feeds e))
    go (inr l) =
        let next : stream_of (network_in r) (g.p ++ sample_view x ∷ []) ≡ stream_of (network_in r) g.p ++ l.y ∷ [] = l.pushes.answers g.p g.stands in
        let grown : stream_of net (g.p ++ sample_view x ∷ []) ≡ stream_of net g.p ++ l.y ∷ [] =
        subst (λ m. stream_of m (g.p ++ sample_view x ∷ []) ≡ stream_of m g.p ++ l.y ∷ []) g.of_network next in
        within A net has has'' holds holds'' lines p' (so_far ++ b.part) l.rest heard wrote
        (append_assoc so_far b.part l.rest ∙ ap (λ q. so_far ++ q) l.parts ∙ sym (ap spelled_lines grown ∙ spelled-append (stream_of net g.p) (l.y ∷ [])))
        (count (feeds-free b.part (part_free b.part l.rest (spelling l.y) l.parts l.more (spelling_free l.y))))

-- the same as what ends the run
pub stops : (A : TypeTree) (net : Network Expression) (has has' holds holds' : Option (List ℕ)) (lines : ℕ) (stop : WriteStop)
    → StopsWithin A net has has' holds holds' lines
    → StopsRun A net has has' holds holds' (run_fault_of lines stop)
stops A net has has' holds holds' lines T.Write h = h
stops A net has has' holds holds' lines T.Memory h = h

-- where the network that is run is another's, that is how the other stops
pub stops_same : (A B : TypeTree) (net net' : Network Expression) (has has' holds holds' : Option (List ℕ)) (result : Result RunReport RunFault)
    → A ≡ B → net ≡ net' → IfErr result (StopsRun A net has has' holds holds') → IfErr result (StopsRun B net' has has' holds holds')
stops_same A B net net' has has' holds holds' result e f h = subst (λ C. IfErr result (StopsRun C net' has has' holds holds')) e
    (subst (λ m. IfErr result (StopsRun A m has has' holds holds')) f h)

-- a run that ends before its first read
pub nothing_moved : (A : TypeTree) (net : Network Expression) (has holds : Option (List ℕ)) → StopsWithin A net has has holds holds 0
nothing_moved A net has holds = record {
  read = [];
  written = [];
  moves = record { reads = consumes_none has; writes = appends_none holds };
  begins = inr (λ more. ((output_of A net more).bytes, refl));
  counted = refl;
}
