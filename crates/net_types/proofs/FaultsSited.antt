-- Each fault of the walk stands at a position of the network: an expression's at an expression, the others at a network, types that differ at a choice too.
use Rattle.std.proofs.Common.{◌≡◌, ◌∙◌, ℕ, zero, suc, ◌^◌, Bool, true, false, leb, ◌&&◌, List, [], ◌∷◌, ◌++◌, Option, Some, option_map, Result, Ok, Err, refl, sym, ap, subst, append_assoc, append-nil}
use Rattle.sample_core.specs.TypeTree.{TypeTree, unit_ty, int_ty, pair_ty, event_ty, list_ty}
use Rattle.leaf_core.specs.TypeLimits.{type_fits, same_tree}
use Rattle.leaf_core.specs.Expression.{Expression}
use Rattle.leaf_core.specs.ExpressionCheck.{type_answer}
use Rattle.leaf_core.specs.declared.typing.ExprFault.{ExprFault}
use Rattle.net_tree.specs.Network.{Network, Networks, network_size, arr, seq, first, par, loop_pre, i_pre, delay, hold, accum_by, after, repeatedly, time, integral, switch, r_switch, k_switch, p_switch, old, initial_out, initial_in, rp_switch, no_members, and_member}
use Rattle.net_meaning.specs.Typing.{Arrow, copies, members}
use Rattle.net_tree.specs.Height.{height}
use Rattle.net_tree.specs.Weight.{weight}
use Rattle.net_tree.specs.Place as place
use Rattle.net_tree.specs.Place.{a_network, a_leaf, member, child_network, collection_child, child}
use Rattle.net_syntax.proofs.Children.{member_is, event_is, continuation_is}
use Rattle.net_types.specs.declared.fault.TypeFault.{TypeFault}
use Rattle.net_types.specs.declared.fault.TypeFault.TheVariants as Fault
use Rattle.net_types.specs.Walk.{LeafChecker, ◌>>=◌, ◌↓◌, test, within, expect_same, as_pair, as_event, as_choice, test_range, test_members, old_at, all_same, one_output, leaf_fault_at, leaf, switched, walk, walk_all}
use Rattle.net_types.specs.Check.{check}
use Rattle.net_types.specs.FaultPlaces.{FaultStandsIn, NetworkPlace, LeafPlace, JointPlace, joint_at_network, joint_at_choice}
use Rattle.net_types.specs.TypingLaws.{TypeFaultLaw}
use Rattle.net_types.proofs.WalkTests.{either}

asked : {A B : Type 0} {r : Option A} (k : A → Option B) {a : A} {v : Option B} → r ≡ Some a → k a ≡ v → place.◌>>=◌ r k ≡ v
asked k e d = ap (λ r. place.◌>>=◌ r k) e ∙ d

-- an answer has P, a fault S
pub data Ends {A : Type 0} (S : TypeFault → Type 0) (P : A → Type 0) : Result A TypeFault → Type 0 where
  ended : {a : A} → P a → Ends S P (Ok a)
  failed : {f : TypeFault} → S f → Ends S P (Err f)

ends_next : {A B : Type 0} {S : TypeFault → Type 0} {P : A → Type 0} {Q : B → Type 0} {r : Result A TypeFault} {k : A → Result B TypeFault} → Ends S P r
    → ((a : A) → P a → Ends S Q (k a)) → Ends S Q (r >>= k)
ends_next (ended {a = a} p) s = s a p
ends_next (failed q) s = failed q

data AsMany {L : Type 0} : Networks L → List TypeTree → Type 0 where
  no_more : AsMany no_members []
  one_each : {f : Network L} {fs : Networks L} {B : TypeTree} {Bs : List TypeTree} → AsMany fs Bs → AsMany (and_member f fs) (B ∷ Bs)

-- k + i, by steps of i
abbrev from : ℕ → ℕ → ℕ
from k zero = k
from k (suc i) = from (suc k) i

from_suc : (k i : ℕ) → from (suc k) i ≡ suc (from k i)
from_suc k zero = refl
from_suc k (suc i) = from_suc (suc k) i

from_zero : (i : ℕ) → from 0 i ≡ i
from_zero zero = refl
from_zero (suc i) = from_suc 0 i ∙ ap suc (from_zero i)

module _ {L : Type 0} where
  par_child : (fs : Networks L) (i : ℕ) (f : Network L) → member fs i ≡ Some f → child (par fs) (from 0 i) ≡ Some (a_network f)
  par_child fs i f e = ap (λ k. option_map a_network (member fs k)) (from_zero i) ∙ ap (option_map a_network) e

  switch_child : (r : L) (fs : Networks L) (e n : Network L) (i : ℕ) (f : Network L) → member fs i ≡ Some f
      → child (p_switch r fs e n) (from 1 i) ≡ Some (a_network f)
  switch_child r fs e n i f q =
      let to : from 1 i ≡ suc i = from_suc 0 i ∙ ap suc (from_zero i) in
      ap (λ k. child (p_switch r fs e n) k) to ∙ (ap (λ w. option_map a_network (child_network w fs e n i)) (member_is fs i f q) ∙ ap (option_map a_network) q)

  event_net_child : (r : L) (fs : Networks L) (e n : Network L) → child (p_switch r fs e n) (suc (members fs)) ≡ Some (a_network e)
  event_net_child r fs e n = ap (λ w. option_map a_network (child_network w fs e n (members fs))) (event_is fs)

  after_child : (r : L) (fs : Networks L) (e n : Network L) → child (p_switch r fs e n) (suc (suc (members fs))) ≡ Some (a_network n)
  after_child r fs e n = ap (λ w. option_map a_network (child_network w fs e n (suc (members fs)))) (continuation_is fs)

  collected_child : (fs : Networks L) (m : L) (n : Network L) (i : ℕ) (f : Network L) → member fs i ≡ Some f → child (rp_switch fs m n) (from 0 i) ≡ Some (a_network f)
  collected_child fs m n i f q =
      ap (λ k. child (rp_switch fs m n) k) (from_zero i) ∙ (ap (λ w. collection_child w fs m n i) (member_is fs i f q) ∙ ap (option_map a_network) q)

  choice_child : (fs : Networks L) (m : L) (n : Network L) → child (rp_switch fs m n) (members fs) ≡ Some (a_leaf m)
  choice_child fs m n = ap (λ w. collection_child w fs m n (members fs)) (event_is fs)

  started_child : (fs : Networks L) (m : L) (n : Network L) → child (rp_switch fs m n) (suc (members fs)) ≡ Some (a_network n)
  started_child fs m n = ap (λ w. collection_child w fs m n (suc (members fs))) (continuation_is fs)

module _ {L : Type 0} (t : LeafChecker L) where
  here : (net : Network L) (P : List ℕ) → NetworkPlace net P P
  here net P = record { path = []; rest = net; is = sym (append-nil P); there = refl }

  at_child : (net : Network L) (P : List ℕ) (k : ℕ) (f : Network L) → child net k ≡ Some (a_network f) → NetworkPlace net P (P ↓ k)
  at_child net P k f e = record { path = k ∷ []; rest = f; is = refl; there = asked _ e refl }

  at_leaf : (net : Network L) (P : List ℕ) (k : ℕ) (e : L) → child net k ≡ Some (a_leaf e) → LeafPlace net P (P ↓ k)
  at_leaf net P k e i = record { path = k ∷ []; rest = e; is = refl; there = asked _ i refl }

  up : (net : Network L) (P : List ℕ) (k : ℕ) (f : Network L) → child net k ≡ Some (a_network f) → (Q : List ℕ) → NetworkPlace f (P ↓ k) Q
      → NetworkPlace net P Q
  up net P k f e Q n = record { path = k ∷ n.path; rest = n.rest; is = n.is ∙ append_assoc P (k ∷ []) n.path; there = asked _ e n.there }

  up_leaf : (net : Network L) (P : List ℕ) (k : ℕ) (f : Network L) → child net k ≡ Some (a_network f) → (Q : List ℕ) → LeafPlace f (P ↓ k) Q → LeafPlace net P Q
  up_leaf net P k f e Q n = record { path = k ∷ n.path; rest = n.rest; is = n.is ∙ append_assoc P (k ∷ []) n.path; there = asked _ e n.there }

  up_joint : (net : Network L) (P : List ℕ) (k : ℕ) (f : Network L) → child net k ≡ Some (a_network f) → (Q : List ℕ) → JointPlace f (P ↓ k) Q
      → JointPlace net P Q
  up_joint net P k f e Q (joint_at_network n) = joint_at_network (up net P k f e Q n)
  up_joint net P k f e Q (joint_at_choice n) = joint_at_choice (record {
    path = k ∷ n.path;
    fs = n.fs;
    m = n.m;
    t = n.t;
    is = n.is ∙ append_assoc P (k ∷ []) (n.path ++ members n.fs ∷ []);
    there = asked _ e n.there;
  })

  lifted : (net : Network L) (P : List ℕ) (k : ℕ) (f : Network L) → child net k ≡ Some (a_network f) → (x : TypeFault) → FaultStandsIn f (P ↓ k) x
      → FaultStandsIn net P x
  lifted net P k f e (Fault.Expr Q x) s = up_leaf net P k f e Q s
  lifted net P k f e (Fault.Joint Q) s = up_joint net P k f e Q s
  lifted net P k f e (Fault.NoOld Q) s = up net P k f e Q s
  lifted net P k f e (Fault.NotEvent Q) s = up net P k f e Q s
  lifted net P k f e (Fault.NotPair Q) s = up net P k f e Q s
  lifted net P k f e (Fault.Members Q) s = up net P k f e Q s
  lifted net P k f e (Fault.Number Q) s = up net P k f e Q s
  lifted net P k f e Fault.TooDeep s = tt
  lifted net P k f e Fault.TooHeavy s = tt
  lifted net P k f e Fault.Memory s = s

  in_child : {A : Type 0} {Z : A → Type 0} {r : Result A TypeFault} (net : Network L) (P : List ℕ) (k : ℕ) (f : Network L) → child net k ≡ Some (a_network f)
      → Ends (FaultStandsIn f (P ↓ k)) Z r → Ends (FaultStandsIn net P) Z r
  in_child net P k f e (ended z) = ended z
  in_child net P k f e (failed {f = x} s) = failed (lifted net P k f e x s)

  module _ (net : Network L) (P : List ℕ) where
    by_test : (b : Bool) (x : TypeFault) → FaultStandsIn net P x → Ends (FaultStandsIn net P) (λ u. Unit {0}) (test b x)
    by_test true x s = ended tt
    by_test false x s = failed s

    by_within : (A : TypeTree) → Ends (FaultStandsIn net P) (λ B. Unit {0}) (within A)
    by_within A = ends_next (by_test (type_fits A) Fault.TooDeep tt) (λ u v. ended tt)

    by_same : (Q : List ℕ) (A B : TypeTree) → NetworkPlace net P Q → Ends (FaultStandsIn net P) (λ B. Unit {0}) (expect_same Q A B)
    by_same Q A B n = ends_next (by_test (same_tree A B) (Fault.Joint Q) (joint_at_network n)) (λ u v. ended tt)

    by_pair : (Q : List ℕ) (A : TypeTree) → NetworkPlace net P Q → Ends (FaultStandsIn net P) (λ q. Unit {0}) (as_pair Q A)
    by_pair Q (pair_ty A B) n = ended tt
    by_pair Q _ n = failed n

    by_event : (Q : List ℕ) (A : TypeTree) → NetworkPlace net P Q → Ends (FaultStandsIn net P) (λ q. Unit {0}) (as_event Q A)
    by_event Q (event_ty A) n = ended tt
    by_event Q _ n = failed n

    by_choice : (fs : Networks L) (m : L) (n : Network L) → net ≡ rp_switch fs m n → (K : TypeTree)
        → Ends (FaultStandsIn net P) (λ V. Unit {0}) (as_choice (P ↓ members fs) K)
    by_choice fs m n e K = go K
      where
        no_choice : JointPlace net P (P ↓ members fs)
        no_choice = joint_at_choice (record { path = []; fs = fs; m = m; t = n; is = refl; there = ap (λ z. Some (a_network z, [])) e })

        go : (K : TypeTree) → Ends (FaultStandsIn net P) (λ V. Unit {0}) (as_choice (P ↓ members fs) K)
        go (pair_ty (list_ty int_ty) (list_ty V)) = ended tt
        go _ = failed no_choice

    by_counted : {M : Type 0} (fs : Networks M) → Ends (FaultStandsIn net P) (λ u. Unit {0}) (test_members P fs)
    by_counted fs = by_test (leb 1 (members fs) && leb (members fs) 64) (Fault.Members P) (here net P)

    by_between : (low high q : ℕ) → Ends (FaultStandsIn net P) (λ u. Unit {0}) (test_range P low high q)
    by_between low high q = by_test (leb low q && leb q high) (Fault.Number P) (here net P)

    by_frozen : (Os : List Arrow) (k : ℕ) → Ends (FaultStandsIn net P) (λ o. Unit {0}) (old_at P Os k)
    by_frozen [] k = failed (here net P)
    by_frozen (o ∷ Os) zero = ended tt
    by_frozen (o ∷ Os) (suc k) = by_frozen Os k

    by_leaf : (k : ℕ) (Ps : List TypeTree) (A : TypeTree) (e : L) → child net k ≡ Some (a_leaf e)
        → Ends (FaultStandsIn net P) (λ B. Unit {0}) (leaf t (P ↓ k) Ps A e)
    by_leaf k Ps A e i = go (t e Ps A)
      where
        go : (r : Result TypeTree ExprFault) → Ends (FaultStandsIn net P) (λ B. Unit {0}) (leaf_fault_at (P ↓ k) r)
        go (Ok B) = ended tt
        go (Err x) = failed (at_leaf net P k e i)

    by_all_same : (k : ℕ) (fs : Networks L) (B : TypeTree) (Bs : List TypeTree)
        → ((i : ℕ) (f : Network L) → member fs i ≡ Some f → child net (from k i) ≡ Some (a_network f)) → AsMany fs Bs
        → Ends (FaultStandsIn net P) (λ B. Unit {0}) (all_same P k B Bs)
    by_all_same k fs B Bs h no_more = ended tt
    by_all_same k fs B Bs h (one_each {f = f} {fs = gs} {B = C} {Bs = Cs} m) =
        ends_next (by_same (P ↓ k) B C (at_child net P k f (h 0 f refl))) (λ u v. by_all_same (suc k) gs B Cs (λ i. h (suc i)) m)

    by_one_output : (k : ℕ) (fs : Networks L) (Bs : List TypeTree)
        → ((i : ℕ) (f : Network L) → member fs i ≡ Some f → child net (from k i) ≡ Some (a_network f)) → AsMany fs Bs
        → Ends (FaultStandsIn net P) (λ B. Unit {0}) (one_output P k Bs)
    by_one_output k fs Bs h no_more = failed (here net P)
    by_one_output k fs Bs h (one_each {fs = gs} {B = B} {Bs = Cs} m) = by_all_same (suc k) gs B Cs (λ i. h (suc i)) m

    by_switched : (f n : Network L) → child net 0 ≡ Some (a_network f) → child net 1 ≡ Some (a_network n) → (F : TypeTree)
        (go : TypeTree → Result TypeTree TypeFault)
        → ((C : TypeTree) → Ends (FaultStandsIn net P) (λ D. Unit {0}) (go C)) → Ends (FaultStandsIn net P) (λ D. Unit {0}) (switched P F go)
    by_switched f n i j F go s = ends_next (by_pair (P ↓ 0) F (at_child net P 0 f i))
        (λ q u. ends_next (by_event (P ↓ 0) q.1 (at_child net P 0 f i))
        (λ C v. ends_next (s C) (λ D w. by_same (P ↓ 1) q.0 D (at_child net P 1 n j))))

  mutual
    pub sited : (P : List ℕ) (Ps : List TypeTree) (Os : List Arrow) (A : TypeTree) (net : Network L)
        → Ends (FaultStandsIn net P) (λ B. Unit {0}) (walk t P Ps Os A net)
    sited P Ps Os A (arr e) = by_leaf (arr e) P 0 Ps A e refl
    sited P Ps Os A (seq f g) = ends_next (in_child (seq f g) P 0 f refl (sited (P ↓ 0) Ps Os A f))
        (λ B u. in_child (seq f g) P 1 g refl (sited (P ↓ 1) Ps Os B g))
    sited P Ps Os A (first f) = ends_next (by_pair (first f) P P A (here (first f) P))
        (λ q u. ends_next (in_child (first f) P 0 f refl (sited (P ↓ 0) Ps Os q.0 f)) (λ D v. by_within (first f) P (pair_ty D q.1)))
    sited P Ps Os A (par fs) =
        ends_next (by_counted (par fs) P fs)
        (λ u v. ends_next (all_sited (par fs) P 0 Ps Os A fs (par_child fs))
        (λ Bs m. ends_next (by_one_output (par fs) P 0 fs Bs (par_child fs) m) (λ B w. by_within (par fs) P (list_ty B))))
    sited P Ps Os A (loop_pre c f) =
        ends_next (by_leaf (loop_pre c f) P 0 Ps unit_ty c refl)
        (λ C u. ends_next (by_within (loop_pre c f) P (pair_ty A C))
        (λ Z v. ends_next (in_child (loop_pre c f) P 1 f refl (sited (P ↓ 1) Ps Os (pair_ty A C) f))
        (λ E w. ends_next (by_pair (loop_pre c f) P (P ↓ 1) E (at_child (loop_pre c f) P 1 f refl))
        (λ q i. ends_next (by_same (loop_pre c f) P (P ↓ 1) C q.1 (at_child (loop_pre c f) P 1 f refl)) (λ D j. ended tt)))))
    sited P Ps Os A (i_pre c) = ends_next (by_leaf (i_pre c) P 0 Ps unit_ty c refl) (λ C u. by_same (i_pre c) P P A C (here (i_pre c) P))
    sited P Ps Os A (delay q c) = ends_next (by_between (delay q c) P 1 4096 q)
        (λ v w. ends_next (by_leaf (delay q c) P 0 Ps unit_ty c refl) (λ C u. by_same (delay q c) P P A C (here (delay q c) P)))
    sited P Ps Os A (hold c) = ends_next (by_event (hold c) P P A (here (hold c) P))
        (λ B v. ends_next (by_leaf (hold c) P 0 Ps unit_ty c refl) (λ C u. by_same (hold c) P P B C (here (hold c) P)))
    sited P Ps Os A (accum_by g z) =
        ends_next (by_event (accum_by g z) P P A (here (accum_by g z) P))
        (λ V u. ends_next (by_leaf (accum_by g z) P 1 Ps unit_ty z refl)
        (λ Z v. ends_next (by_within (accum_by g z) P (pair_ty Z V))
        (λ N w. ends_next (by_leaf (accum_by g z) P 0 Ps (pair_ty Z V) g refl)
        (λ Y i. ends_next (by_same (accum_by g z) P P Z Y (here (accum_by g z) P)) (λ M j. by_within (accum_by g z) P (event_ty Z))))))
    sited P Ps Os A (after q c) = ends_next (by_between (after q c) P 0 (2 ^ 62) q)
        (λ v w. ends_next (by_leaf (after q c) P 0 Ps unit_ty c refl) (λ C u. by_within (after q c) P (event_ty C)))
    sited P Ps Os A (repeatedly q c) = ends_next (by_between (repeatedly q c) P 1 (2 ^ 62) q)
        (λ v w. ends_next (by_leaf (repeatedly q c) P 0 Ps unit_ty c refl) (λ C u. by_within (repeatedly q c) P (event_ty C)))
    sited P Ps Os A time = ended tt
    sited P Ps Os A integral = by_same integral P P int_ty A (here integral P)
    sited P Ps Os A (switch tm f n) = ends_next (in_child (switch tm f n) P 0 f refl (sited (P ↓ 0) Ps Os A f))
        (λ F u. by_switched (switch tm f n) P f n refl refl F _ (λ C. in_child (switch tm f n) P 1 n refl (sited (P ↓ 1) (Ps ++ C ∷ []) Os A n)))
    sited P Ps Os A (r_switch tm f n) =
        ends_next (by_pair (r_switch tm f n) P P A (here (r_switch tm f n) P))
        (λ q v. ends_next (by_event (r_switch tm f n) P P q.1 (here (r_switch tm f n) P))
        (λ C w. ends_next (in_child (r_switch tm f n) P 0 f refl (sited (P ↓ 0) Ps Os q.0 f))
        (λ B u. ends_next (in_child (r_switch tm f n) P 1 n refl (sited (P ↓ 1) (Ps ++ C ∷ []) Os q.0 n))
        (λ D i. by_same (r_switch tm f n) P (P ↓ 1) B D (at_child (r_switch tm f n) P 1 n refl)))))
    sited P Ps Os A (k_switch f e n) =
        ends_next (in_child (k_switch f e n) P 0 f refl (sited (P ↓ 0) Ps Os A f))
        (λ B u. ends_next (by_within (k_switch f e n) P (pair_ty A B))
        (λ N v. ends_next (in_child (k_switch f e n) P 1 e refl (sited (P ↓ 1) Ps Os (pair_ty A B) e))
        (λ E w. ends_next (by_event (k_switch f e n) P (P ↓ 1) E (at_child (k_switch f e n) P 1 e refl))
        (λ C i. ends_next (in_child (k_switch f e n) P 2 n refl (sited (P ↓ 2) (Ps ++ C ∷ []) (Os ++ record { input = A; output = B } ∷ []) A n))
        (λ D j. by_same (k_switch f e n) P (P ↓ 2) B D (at_child (k_switch f e n) P 2 n refl))))))
    sited P Ps Os A (p_switch r fs e n) =
        ends_next (by_counted (p_switch r fs e n) P fs)
        (λ u v. ends_next (by_within (p_switch r fs e n) P (pair_ty A int_ty))
        (λ N w. ends_next (by_leaf (p_switch r fs e n) P 0 Ps (pair_ty A int_ty) r refl)
        (λ D i. ends_next (all_sited (p_switch r fs e n) P 1 Ps Os D fs (switch_child r fs e n))
        (λ Bs m. ends_next (by_one_output (p_switch r fs e n) P 1 fs Bs (switch_child r fs e n) m)
        (λ B j. ends_next (by_within (p_switch r fs e n) P (pair_ty A (list_ty B)))
        (λ N k.
        ends_next
        (in_child (p_switch r fs e n) P (suc (members fs)) e (event_net_child r fs e n) (sited (P ↓ suc (members fs)) Ps Os (pair_ty A (list_ty B)) e))
        (λ E a.
        ends_next (by_event (p_switch r fs e n) P (P ↓ suc (members fs)) E (at_child (p_switch r fs e n) P (suc (members fs)) e (event_net_child r fs e n)))
        (λ C b.
        ends_next
        (in_child (p_switch r fs e n) P (suc (suc (members fs))) n (after_child r fs e n)
        (sited (P ↓ suc (suc (members fs))) (Ps ++ C ∷ []) (Os ++ copies (members fs) (record { input = D; output = B })) A n))
        (λ G c. by_same (p_switch r fs e n) P (P ↓ suc (suc (members fs))) (list_ty B) G
        (at_child (p_switch r fs e n) P (suc (suc (members fs))) n (after_child r fs e n)))))))))))
    sited P Ps Os A (old k) = ends_next (by_frozen (old k) P Os k) (λ o u. ends_next (by_same (old k) P P o.input A (here (old k) P)) (λ Z v. ended tt))
    sited P Ps Os A (initial_out c f) =
        ends_next (by_leaf (initial_out c f) P 0 Ps unit_ty c refl)
        (λ C u. ends_next (in_child (initial_out c f) P 1 f refl (sited (P ↓ 1) Ps Os A f))
        (λ B v. by_same (initial_out c f) P P B C (here (initial_out c f) P)))
    sited P Ps Os A (initial_in c f) =
        ends_next (by_leaf (initial_in c f) P 0 Ps unit_ty c refl)
        (λ C u. ends_next (by_same (initial_in c f) P P A C (here (initial_in c f) P))
        (λ N v. in_child (initial_in c f) P 1 f refl (sited (P ↓ 1) Ps Os A f)))
    sited P Ps Os A (rp_switch fs m n) =
        ends_next (by_counted (rp_switch fs m n) P fs)
        (λ u v. ends_next (by_pair (rp_switch fs m n) P P A (here (rp_switch fs m n) P))
        (λ q w. ends_next (by_event (rp_switch fs m n) P P q.1 (here (rp_switch fs m n) P))
        (λ C i. ends_next (all_sited (rp_switch fs m n) P 0 Ps Os q.0 fs (collected_child fs m n))
        (λ Bs j. ends_next (by_one_output (rp_switch fs m n) P 0 fs Bs (collected_child fs m n) j)
        (λ B k. ends_next (by_leaf (rp_switch fs m n) P (members fs) Ps C m (choice_child fs m n))
        (λ K a. ends_next (by_choice (rp_switch fs m n) P fs m n refl K)
        (λ V b. ends_next (in_child (rp_switch fs m n) P (suc (members fs)) n (started_child fs m n) (sited (P ↓ suc (members fs)) (Ps ++ V ∷ []) Os q.0 n))
        (λ E c. ends_next (by_same (rp_switch fs m n) P (P ↓ suc (members fs)) B E (at_child (rp_switch fs m n) P (suc (members fs)) n (started_child fs m n)))
        (λ N d. by_within (rp_switch fs m n) P (list_ty B))))))))))

    all_sited : (net : Network L) (P : List ℕ) (k : ℕ) (Ps : List TypeTree) (Os : List Arrow) (A : TypeTree) (fs : Networks L)
        → ((i : ℕ) (f : Network L) → member fs i ≡ Some f → child net (from k i) ≡ Some (a_network f))
        → Ends (FaultStandsIn net P) (λ Bs. AsMany fs Bs) (walk_all t P k Ps Os A fs)
    all_sited net P k Ps Os A no_members h = ended no_more
    all_sited net P k Ps Os A (and_member f fs) h =
        ends_next (in_child net P k f (h 0 f refl) (sited (P ↓ k) Ps Os A f))
        (λ B u. ends_next (all_sited net P (suc k) Ps Os A fs (λ i. h (suc i))) (λ Bs m. ended (one_each m)))

faulting : {A : Type 0} {S : TypeFault → Type 0} {P : A → Type 0} {r : Result A TypeFault} {f : TypeFault} → Ends S P r → r ≡ Err f → S f
faulting {A = A} {S = S} (failed {f = g} q) e = subst S (ap fault e) q
  where
    fault : Result A TypeFault → TypeFault
    fault (Err x) = x
    fault (Ok a) = g
faulting (ended p) e = absurd (cc)

check_sited : (A : TypeTree) (net : Network Expression) → Ends (FaultStandsIn net []) (λ t. Unit {0}) (check A net)
check_sited A net =
    let t : LeafChecker Expression = λ e Qs B. type_answer Qs B e in
    either (Ends (FaultStandsIn net []) (λ t. Unit {0})) (leb (network_size net) 5000000)
    (ends_next (by_within t net [] A)
    (λ Z u. ends_next (sited t [] [] [] A net)
    (λ B v. ends_next (by_test t net [] (leb (height net []) 256) Fault.TooDeep tt)
    (λ w i. ends_next (by_test t net [] (leb (weight net []) 1000000) Fault.TooHeavy tt) (λ j k. ended tt)))))
    (ends_next (by_within t net [] A) (λ Z u. failed tt))

pub faults_sited : TypeFaultLaw
faults_sited A net f e = faulting (check_sited A net) e
