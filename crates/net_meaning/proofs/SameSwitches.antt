-- The switches of signals that agree on typed lists agree there.
use Rattle.std.proofs.Common.{◌≡◌, ℕ, suc, ◌+◌, ◌≤◌, ◌<◌, pos, List, [], ◌∷◌, ◌++◌, length, take, drop, refl, sym, ap, ap₂, ◌∙◌, arith, subst, subst₂, w64}
use Rattle.std.proofs.lemmas.Int.{fits_signed_from_abs}
use Rattle.sample_core.specs.Datum.{Datum, left, right, pair, int}
use Rattle.net_tree.specs.Network.{Timing}
use Rattle.net_meaning.specs.SignalFunction.{TimedList, SignalFunction, each_value, lefts, rights, watch, until, lap, each_piece, switch_function, k_switch_function, p_switch_function, r_switch_function, pieces, resume, route, route_each, freeze_all, collect, IsSignalFunction}
use Rattle.sample_core.specs.TypeTree.{TypeTree, int_ty, pair_ty, event_ty, list_ty}
use Rattle.sample_core.specs.HasType.{HasType, int_has, pair_has}
use Rattle.leaf_core.proofs.Soundness.{typed_left, typed_right}
use Rattle.net_meaning.specs.Typing.{TypedValues, no_value, TypedSamples, no_sample, and_sample, Arrow, copies}
use Rattle.net_meaning.proofs.Plain.{IsSignal-before}
use Rattle.net_meaning.proofs.Resumed.{IsSignal-resume}
use Rattle.net_meaning.proofs.Switches.{late, lately, switching-is}
use Rattle.net_meaning.proofs.TypedLists.{typed_each_value, typed_append, typed_take, typed_drop, samples_append, samples_take, TypedPieces, no_piece, and_piece, typed_pieces}
use Rattle.net_meaning.proofs.SameAt.{SameAt-after, SameAt-watching, SameAt-in_parallel, SameAt-resume, SameAt-switch_at}
use Rattle.net_meaning.specs.Sameness.{SameAt, AllSameAt, no_twin, and_twin, AllOlds, no_olds, and_old}

pub SameAt-lefts : {A B C : TypeTree} (f f' : SignalFunction) → SameAt A (pair_ty B C) f f' → SameAt A B (lefts f) (lefts f')
SameAt-lefts f f' h = SameAt-after left f f' (λ v k. typed_left k) h

pub SameAt-rights : {A B C : TypeTree} (f f' : SignalFunction) → SameAt A (pair_ty B C) f f' → SameAt A C (rights f) (rights f')
SameAt-rights f f' h = SameAt-after right f f' (λ v k. typed_right k) h

-- continuations that agree for a typed event
abbrev pub SameFor : TypeTree → TypeTree → TypeTree → (Datum → SignalFunction) → (Datum → SignalFunction) → Type 0
SameFor A B C t t' = (c : Datum) → HasType c C → SameAt A B (t c) (t' c)

pub SameAt-late : {A B : TypeTree} (tm : Timing) (g g' h h' : SignalFunction) → SameAt A B g g' → SameAt A B h h' → SameAt A B (late tm g h) (late tm g' h')
SameAt-late tm g g' h h' sg sh = record {
  same = λ xs k. ap₂ (λ vs ws. take (until tm 0) vs ++ drop (until tm 0) ws) (sg.same xs k) (sh.same xs k);
  typed = λ xs k. typed_append (take (until tm 0) (g xs)) (drop (until tm 0) (h xs)) (typed_take (until tm 0) (g xs) (sg.typed xs k))
      (typed_drop (until tm 0) (h xs) (sh.typed xs k));
}

pub SameAt-switching : {A B C : TypeTree} (tm : Timing) (f f' : SignalFunction) (t t' : Datum → SignalFunction) → IsSignalFunction f → IsSignalFunction f'
    → SameAt A (pair_ty B (event_ty C)) f f' → SameFor A B C t t' → SameAt A B (switch_function tm f t) (switch_function tm f' t')
SameAt-switching {A = A} {B = B} tm f f' t t' sf sf' hf ht =
    subst₂ (SameAt A B) (sym (switching-is tm f t sf)) (sym (switching-is tm f' t' sf'))
    (SameAt-switch_at (lefts f) (lefts f') (rights f) (rights f') (lately tm f t) (lately tm f' t') (SameAt-lefts f f' hf) (SameAt-rights f f' hf)
    (λ c p d k j. SameAt-late tm (resume (lefts f) p d) (resume (lefts f') p d) (t c) (t' c)
    (SameAt-resume (lefts f) (lefts f') (SameAt-lefts f f' hf) p d j) (ht c k)))

module _ {D B C : TypeTree} (tm : Timing) (f f' : SignalFunction) (t t' : Datum → SignalFunction) (hf : SameAt D B f f') (ht : SameFor D B C t t') where
  -- a piece, and what it goes on to
  typed_run : (q : TimedList) (qs : List (Datum × TimedList)) → TypedSamples D q → TypedPieces D C qs → TypedSamples D (q ++ lap tm qs)
  typed_run q qs j no_piece = samples_append q [] j no_sample
  typed_run q qs j (and_piece {q = r} k i ks) = samples_append q (take (until tm 0) r.1) j (samples_take (until tm 0) r.1 i)

  pieces-same : (qs : List (Datum × TimedList)) → TypedPieces D C qs → each_piece tm t qs ≡ each_piece tm t' qs
  pieces-same qs no_piece = refl
  pieces-same qs (and_piece {q = q} {qs = qs'} k j ks) =
      ap₂ (λ vs ws. drop (until tm 0) vs ++ ws) ((ht q.0 k).same (q.1 ++ lap tm qs') (typed_run q.1 qs' j ks)) (pieces-same qs' ks)

  typed_outputs : (qs : List (Datum × TimedList)) → TypedPieces D C qs → TypedValues B (each_piece tm t qs)
  typed_outputs qs no_piece = no_value
  typed_outputs qs (and_piece {q = q} {qs = qs'} k j ks) =
      let r : TimedList = q.1 ++ lap tm qs' in
      typed_append (drop (until tm 0) (t q.0 r)) (each_piece tm t qs')
      (typed_drop (until tm 0) (t q.0 r) ((ht q.0 k).typed r (typed_run q.1 qs' j ks))) (typed_outputs qs' ks)

  pub SameAt-restarting : SameAt (pair_ty D (event_ty C)) B (r_switch_function tm f t) (r_switch_function tm f' t')
  SameAt-restarting = record {
    same = λ xs k. let h : TypedSamples D (pieces xs).0 × TypedPieces D C (pieces xs).1 = typed_pieces xs k in
        ap₂ (λ vs ws. vs ++ ws) (hf.same ((pieces xs).0 ++ lap tm (pieces xs).1) (typed_run (pieces xs).0 (pieces xs).1 h.0 h.1)) (pieces-same (pieces xs).1 h.1);
    typed = λ xs k. let h : TypedSamples D (pieces xs).0 × TypedPieces D C (pieces xs).1 = typed_pieces xs k in
        let r : TimedList = (pieces xs).0 ++ lap tm (pieces xs).1 in
        typed_append (f r) (each_piece tm t (pieces xs).1) (hf.typed r (typed_run (pieces xs).0 (pieces xs).1 h.0 h.1)) (typed_outputs (pieces xs).1 h.1);
  }

pub AllOlds-append : (Os Qs : List Arrow) (fs gs hs ks : List SignalFunction) → AllOlds Os fs gs → AllOlds Qs hs ks → AllOlds (Os ++ Qs) (fs ++ hs) (gs ++ ks)
AllOlds-append Os Qs fs gs hs ks no_olds b = b
AllOlds-append Os Qs fs gs hs ks (and_old {Os = Os'} {fs = fs'} {gs = gs'} sf sg h a) b = and_old sf sg h (AllOlds-append Os' Qs fs' gs' hs ks a b)

-- `kSwitch`
pub SameAt-switching_on : {A B C : TypeTree} (f f' e e' : SignalFunction) (t t' : Datum → SignalFunction → SignalFunction) → IsSignalFunction f
    → IsSignalFunction f' → SameAt A B f f' → SameAt (pair_ty A B) (event_ty C) e e'
    → ((c : Datum) (o o' : SignalFunction) → HasType c C → IsSignalFunction o → IsSignalFunction o' → SameAt A B o o' → SameAt A B (t c o) (t' c o'))
    → SameAt A B (k_switch_function f e t) (k_switch_function f' e' t')
SameAt-switching_on f f' e e' t t' sf sf' hf he ht =
    SameAt-switch_at f f' (watch f e) (watch f' e') (λ c p d. t c (resume f p d)) (λ c p d. t' c (resume f' p d)) hf (SameAt-watching f f' e e' hf he)
    (λ c p d k j. ht c (resume f p d) (resume f' p d) k (IsSignal-resume f sf p d) (IsSignal-resume f' sf' p d) (SameAt-resume f f' hf p d j))

-- `pSwitch`: routes that agree on typed values
abbrev pub SameRoute : TypeTree → TypeTree → (Datum → Datum) → (Datum → Datum) → Type 0
SameRoute A D r r' = (v : Datum) → HasType v (pair_ty A int_ty) → (r v ≡ r' v) × HasType (r v) D

typed_number : (i : ℕ) → i < 64 → HasType (int (pos i)) int_ty
typed_number i h = int_has (fits_signed_from_abs w64 (pos i) (omega arith))

each_value-same : {A : TypeTree} (h h' : Datum → Datum) → ((v : Datum) → HasType v A → h v ≡ h' v) → (xs : TimedList) → TypedSamples A xs
    → each_value h xs ≡ each_value h' xs
each_value-same h h' e xs no_sample = refl
each_value-same h h' e xs (and_sample {x = x} {xs = xs'} k ks) = ap₂ (λ v ys. (x.0, v) ∷ ys) (e x.1 k) (each_value-same h h' e xs' ks)

module _ {A D : TypeTree} (r r' : Datum → Datum) (hr : SameRoute A D r r') where
  route-same : (i : ℕ) → i < 64 → (xs : TimedList) → TypedSamples A xs → route r i xs ≡ route r' i xs
  route-same i l xs k = each_value-same _ _ (λ v j. (hr (pair v (int (pos i))) (pair_has j (typed_number i l))).0) xs k

  pub typed_route : (i : ℕ) → i < 64 → (xs : TimedList) → TypedSamples A xs → TypedSamples D (route r i xs)
  typed_route i l xs k = typed_each_value _ xs (λ v j. (hr (pair v (int (pos i))) (pair_has j (typed_number i l))).1) k

  SameAt-route : {B : TypeTree} (i : ℕ) → i < 64 → (f g : SignalFunction) → SameAt D B f g → SameAt A B (λ xs. f (route r i xs)) (λ xs. g (route r' i xs))
  SameAt-route i l f g h = record {
    same = λ xs k. h.same (route r i xs) (typed_route i l xs k) ∙ ap g (route-same i l xs k);
    typed = λ xs k. h.typed (route r i xs) (typed_route i l xs k);
  }

  pub AllSameAt-routes : {B : TypeTree} (i : ℕ) (fs gs : List SignalFunction) → i + length fs ≤ 64 → AllSameAt D B fs gs
      → AllSameAt A B (route_each r i fs) (route_each r' i gs)
  AllSameAt-routes i fs gs l no_twin = no_twin
  AllSameAt-routes i fs gs l (and_twin {f = f} {g = g} {fs = fs'} {gs = gs'} sf sg h a) =
      let l' : i < 64 = omega arith in
      let l'' : suc i + length fs' ≤ 64 = omega arith in
      and_twin (IsSignal-before _ f sf) (IsSignal-before _ g sg) (SameAt-route i l' f g h) (AllSameAt-routes (suc i) fs' gs' l'' a)

  pub AllOlds-frozen_all : {B : TypeTree} (i : ℕ) (fs gs : List SignalFunction) → i + length fs ≤ 64 → AllSameAt D B fs gs → (p : TimedList) (d : ℕ)
      → TypedSamples A p → AllOlds (copies (length fs) (record { input = D; output = B })) (freeze_all r i fs p d) (freeze_all r' i gs p d)
  AllOlds-frozen_all i fs gs l no_twin p d j = no_olds
  AllOlds-frozen_all {B = B} i fs gs l (and_twin {f = f} {g = g} {fs = fs'} {gs = gs'} sf sg h a) p d j =
      let l' : i < 64 = omega arith in
      let l'' : suc i + length fs' ≤ 64 = omega arith in
      and_old (IsSignal-resume f sf (route r i p) d) (IsSignal-resume g sg (route r' i p) d)
      (subst (λ q. SameAt D B (resume f (route r i p) d) (resume g q d)) (route-same i l' p j) (SameAt-resume f g h (route r i p) d (typed_route i l' p j)))
      (AllOlds-frozen_all (suc i) fs' gs' l'' a p d j)

pub SameAt-switching_all : {A B C D : TypeTree} (r r' : Datum → Datum) (fs gs : List SignalFunction) (e e' : SignalFunction) (t t' : Datum → List SignalFunction
    → SignalFunction) → SameRoute A D r r' → length fs ≤ 64 → AllSameAt D B fs gs → SameAt (pair_ty A (list_ty B)) (event_ty C) e e'
    → ((c : Datum) (os os' : List SignalFunction) → HasType c C → AllOlds (copies (length fs) (record { input = D; output = B })) os os'
    → SameAt A (list_ty B) (t c os) (t' c os')) → SameAt A (list_ty B) (p_switch_function r fs e t) (p_switch_function r' gs e' t')
SameAt-switching_all r r' fs gs e e' t t' hr l a he ht =
    let l' : 0 + length fs ≤ 64 = omega arith in
    let hf : SameAt _ _ (collect r fs) (collect r' gs) = SameAt-in_parallel (route_each r 0 fs) (route_each r' 0 gs) (AllSameAt-routes r r' hr 0 fs gs l' a) in
    SameAt-switch_at (collect r fs) (collect r' gs) (watch (collect r fs) e) (watch (collect r' gs) e') (λ c p d. t c (freeze_all r 0 fs p d))
    (λ c p d. t' c (freeze_all r' 0 gs p d)) hf (SameAt-watching (collect r fs) (collect r' gs) e e' hf he)
    (λ c p d k j. ht c (freeze_all r 0 fs p d) (freeze_all r' 0 gs p d) k (AllOlds-frozen_all r r' hr 0 fs gs l' a p d j))
