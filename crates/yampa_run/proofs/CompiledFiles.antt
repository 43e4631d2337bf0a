-- What is printed as C outputs the stream meaning.
use Rattle.std.proofs.Common.{◌≡◌, ◌+◌, ◌-◌, ℕ, suc, pos, Bool, true, false, List, [], ◌∷◌, ◌++◌, length, Some, FitsSigned, w64, sym, ap, ap₂, ◌∙◌, subst, inl, inr, arith}
use Rattle.std.specs.Prelude.{string_bytes}
use Rattle.std.proofs.lemmas.List.{length-append}
use Rattle.sample_core.specs.Datum.{Datum, Datums}
use Rattle.sample_core.specs.HasType.{HasType, unit_has, bool_has, int_has, pair_has, no_event_has, event_has, list_has, HaveType, end_has, more_has}
use Rattle.sample_core.specs.TypeTree.{TypeTree}
use Rattle.net_meaning.specs.Laws.{WithinLaw}
use Rattle.net_meaning.specs.SignalFunction.{TimedList}
use Rattle.net_meaning.specs.Typing.{TypedSamples, no_sample, and_sample}
use Rattle.net_meaning.specs.TypedNetwork.{HasItsTypes, TypedNetwork, stream_of}
use Rattle.code_fits.specs.FitLaw.{SamplesFit}
use Rattle.code_fits.specs.Programs.{IsProgramOf}
use Rattle.code_fits.specs.Room.{all_at}
use Rattle.code_fits.specs.declared.layout.Program.{Program}
use Rattle.cert_check.specs.Laws.{KeptTypesLaw, SameStreamLaw}
use Rattle.c_meaning.specs.Object.{Object, end, i64, number, has_type}
use Rattle.c_leaf.specs.Representing.{Represents, c_unit, c_bool, c_int, c_pair, c_no_event, c_event, c_list, AllRepresent, c_end, c_more}
use Rattle.c_file.specs.FileLaw.{FileLaw, HandsLaw, bounds, c_function}
use Rattle.c_file.specs.Guarded.{GuardedFileLaw, Offers, offers_none, offers_first, offers_next, offers_early, offers_long}
use Rattle.c_file.specs.ProgramC.{c_of_program, init_number, printed_of, state_type, whole_of}
use Rattle.c_file.specs.Samples.{Handed, handed, HandedFor, Hands, hands_none, hands_first, hands_next, Outputs}
use Rattle.c_build.specs.Building.{IsBuilt, program_with}
use Rattle.c_build.specs.declared.file.Built.{Built}
use Rattle.command_line.specs.CommandLine.{RequestTree, types, run, outline, laws, optimise, check as checks, run_checked, apply, compile, compile_checked}
use Rattle.yampa_run.specs.CompiledFiles.{AreCalls, CompiledFilesLaw, CompilesAsAsked, HasCalls, OutputsStream, RunsC, Steps}
use Rattle.yampa_run.specs.Loading.{IsNetworkIn, IsNetworkOf}
use Rattle.yampa_run.specs.Check.{DerivationIn}
use Rattle.yampa_run.specs.Preparation.{Meets}
use Rattle.yampa_run.specs.declared.preparation.Job.TheVariants as J
use Rattle.yampa_run.proofs.DerivationFiles.{in_files, typed_in}

-- what is represented is of the type
mutual
  typed-value : {n : TypeTree → ℕ} {A : TypeTree} {v : Datum} {o : Object} → Represents n A v o → HasType v A
  typed-value c_unit = unit_has
  typed-value c_bool = bool_has
  typed-value (c_int f) = int_has f
  typed-value (c_pair h k) = pair_has (typed-value h) (typed-value k)
  typed-value (c_no_event e) = no_event_has
  typed-value (c_event h) = event_has (typed-value h)
  typed-value (c_list e l h) = list_has (typed-values h)

  typed-values : {n : TypeTree → ℕ} {A : TypeTree} {m : ℕ} {vs : Datums} {o : Object} → AllRepresent n A m vs o → HaveType vs A
  typed-values (c_end e) = end_has
  typed-values (c_more h k) = more_has (typed-value h) (typed-values k)

zero-fits : FitsSigned w64 (pos 0)
zero-fits = grind arith

module _ (n : TypeTree → ℕ) (A B : TypeTree) where
  typed-hands : {b : Bool} {xs : TimedList} {hs : List Handed} → Hands n A B b xs hs → TypedSamples A xs
  typed-hands hands_none = no_sample
  typed-hands (hands_first d r t h) = and_sample (typed-value r) (typed-hands h)
  typed-hands (hands_next l m r t h) = and_sample (typed-value r) (typed-hands h)

  typed-offers : {b : Bool} {xs : TimedList} {hs : List Handed} → Offers n A B b xs hs → TypedSamples A xs
  typed-offers offers_none = no_sample
  typed-offers (offers_first d r t h) = and_sample (typed-value r) (typed-offers h)
  typed-offers (offers_next l m r t h) = and_sample (typed-value r) (typed-offers h)
  typed-offers (offers_early d e r t h) = typed-offers h
  typed-offers (offers_long d o t h) = typed-offers h

  typed-calls : (u : Bool) (xs : TimedList) (hs : List Handed) → AreCalls u n A B xs hs → TypedSamples A xs
  typed-calls true xs hs h = typed-hands h
  typed-calls false xs hs h = typed-offers h

  -- samples are calls too
  offers-later : {xs : TimedList} {hs : List Handed} → Hands n A B true xs hs → Offers n A B true xs hs
  offers-later hands_none = offers_none
  offers-later (hands_next l m r t h) = offers_next l m r t (offers-later h)

  offers-all : {xs : TimedList} {hs : List Handed} → Hands n A B false xs hs → HasCalls false n A B xs
  offers-all hands_none = record { all = []; are_calls = offers_none }
  offers-all (hands_first {i = i} {o = o} {hs = hs} d r t h) =
      record { all = handed (number i64 (pos 0)) i o ∷ hs; are_calls = offers_first zero-fits r t (offers-later h) }

  has-calls : (u : Bool) {xs : TimedList} → HandedFor n A B xs → HasCalls u n A B xs
  has-calls true h = record { all = h.all; are_calls = h.hands }
  has-calls false h = offers-all h.hands

-- `step` is the last function
last-number : {X : Type 0} (xs : List X) (a b : X) → suc (length xs) ≡ length (xs ++ a ∷ b ∷ []) - 1
last-number xs a b = sym (ap (λ k. k - 1) (length-append xs (a ∷ b ∷ [])) ∙ less-one (length xs))
  where
    less-one : (k : ℕ) → k + 2 - 1 ≡ suc k
    less-one k = omega arith

-- the C of a program runs so
record ProgramRuns (u : Bool) (p : Program) (B : TypeTree) (s : Object) (hs : List Handed) (vs : List Datum) : Type 0 where
  state : Object
  starts : c_function (program_with u p) (init_number p) (s ∷ []) ≡ Some (state ∷ [], end)
  steps : Steps u (bounds p) B (c_function (program_with u p) (length (program_with u p) - 1)) state hs vs

module _ (file : FileLaw) (guarded : GuardedFileLaw) (hands : HandsLaw) where
  program-runs : (u : Bool) (t : TypedNetwork) (most : ℕ) (p : Program) → HasItsTypes t → IsProgramOf t most p
      → (s : Object) → has_type (state_type (bounds p) (whole_of p).shape) s ≡ true
      → (xs : TimedList) (hs : List Handed) → AreCalls u (bounds p) t.input t.output xs hs → ProgramRuns u p t.output s hs (stream_of t.net xs)
  program-runs true t most p typed fits s e xs hs c =
      let r = file t most p typed fits s e xs hs c in
      record {
        state = r.state;
        starts = r.starts;
        steps = subst (λ k. Outputs (bounds p) t.output (c_function (c_of_program p) k) r.state hs (stream_of t.net xs)) (last-number (printed_of p).file _ _) r.outputs;
      }
  program-runs false t most p typed fits s e xs hs c =
      let r = guarded t most p typed fits s e xs hs c in record { state = r.state; starts = r.starts; steps = r.answers }

  pub outputs : (u : Bool) (t : TypedNetwork) (most : ℕ) (p : Program) (b : Built) → HasItsTypes t → IsProgramOf t most p → IsBuilt p u b → OutputsStream t most u p b
  outputs u t most p b typed fits is = record {
    outputs = λ s e xs hs c.
        let r = program-runs u t most p typed fits s (subst (λ T. has_type T s ≡ true) is.state e) xs hs c in
        record {
          state = r.state;
          starts = ap₂ (λ f k. c_function f k (s ∷ [])) is.file is.init ∙ r.starts;
          steps = subst (λ f. Steps u (bounds p) t.output f r.state hs (stream_of t.net xs)) (sym (ap₂ c_function is.file is.step)) r.steps;
        };
    calls = λ xs h. has-calls (bounds p) t.input t.output u (hands t most p fits xs h);
  }

-- so it does of a network that has the same stream
outputs-source : (u : Bool) (t net : TypedNetwork) (most : ℕ) (p : Program) (b : Built) → t.input ≡ net.input → t.output ≡ net.output
    → ((xs : TimedList) → TypedSamples t.input xs → stream_of t.net xs ≡ stream_of net.net xs) → OutputsStream net most u p b → OutputsStream t most u p b
outputs-source u t net most p b ei eo stream o = record {
  outputs = λ s e xs hs c.
      let d : AreCalls u (bounds p) net.input net.output xs hs = subst (λ A. AreCalls u (bounds p) A net.output xs hs) ei (subst (λ B. AreCalls u (bounds p) t.input B xs hs) eo c) in
      let r : RunsC u (bounds p) t.output b s hs (stream_of net.net xs) = subst (λ B. RunsC u (bounds p) B b s hs (stream_of net.net xs)) (sym eo) (o.outputs s e xs hs d) in
      subst (λ vs. RunsC u (bounds p) t.output b s hs vs) (sym (stream xs (typed-calls (bounds p) t.input t.output u xs hs c))) r;
  calls = λ xs h.
      let c : HasCalls u (bounds p) net.input net.output xs = o.calls xs (subst (λ A. SamplesFit (all_at most) A false xs) ei h) in
      subst (λ A. HasCalls u (bounds p) A t.output xs) (sym ei) (subst (λ B. HasCalls u (bounds p) net.input B xs) (sym eo) c);
}

pub compiled_files : FileLaw → GuardedFileLaw → HandsLaw → WithinLaw → SameStreamLaw → KeptTypesLaw → CompiledFilesLaw
compiled_files file guarded hands within same kept told words what (J.Run t) asks h = inr tt
compiled_files file guarded hands within same kept told words what (J.PrintAndRefuse text line) asks h = inr tt
compiled_files file guarded hands within same kept told words what (J.Print text) asks (inl h) = inl h
compiled_files file guarded hands within same kept told words what (J.Print text) asks (inr h) =
    inr (go what (subst (λ w. Meets told w (J.Print text)) (same_request (sym h.asks ∙ asks)) h.meets))
  where
    same_request : {A : Type 0} {x y : A} → Some x ≡ Some y → x ≡ y
    same_request e = cc

    go : (what : RequestTree) → Meets told what (J.Print text) → CompilesAsAsked told what (string_bytes text)
    go (types name) m = tt
    go (run name) m = tt
    go (outline name) m = tt
    go (laws at name) m = tt
    go (optimise wanted name) m = tt
    go (checks names) m = tt
    go (run_checked names) m = tt
    go (apply names) m = tt
    go (compile form name) m = λ bytes e.
        let net_is : IsNetworkIn bytes m.net = subst (λ known. IsNetworkOf known m.net) e m.network in
        let c = m.prints.prints in
        record {
          net = m.net;
          net_is = net_is;
          prints = m.prints;
          outputs = outputs file guarded hands form.unchecked m.net m.prints.most c.program c.is_c.built (typed_in within bytes m.net net_is) c.fits c.is_c.is_built;
        }
    go (compile_checked form names) m = λ source_file target_file certificate e f g.
        let d : DerivationIn source_file target_file certificate =
        in_files told names m.net m.is_checked.count m.is_checked.derived source_file target_file certificate e f g in
        let c = m.prints.prints in
        let source_typed : HasItsTypes d.source = typed_in within source_file d.source d.source_is in
        let typed : HasItsTypes m.net = typed_in within target_file m.net d.target_is in
        let k = kept d.source m.net d.steps source_typed typed d.derives in
        record {
          files = d;
          prints = m.prints;
          outputs = outputs-source form.unchecked d.source m.net m.prints.most c.program c.is_c.built k.0 k.1 (λ xs y. same d.source m.net d.steps xs source_typed d.derives y)
              (outputs file guarded hands form.unchecked m.net m.prints.most c.program c.is_c.built typed c.fits c.is_c.is_built);
        }
