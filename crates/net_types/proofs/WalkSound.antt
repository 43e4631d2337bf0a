-- What the walk answers is a type of the network within the limits.
use Rattle.std.proofs.Common.{◌≡◌, ◌∙◌, ℕ, suc, List, [], ◌∷◌, ◌++◌, Result, Ok, Err, refl, sym, ap, subst, ◌^◌}
use Rattle.net_tree.specs.Network.{Network, Networks, arr, seq, first, par, loop_pre, i_pre, delay, hold, accum_by, after, repeatedly, time, integral, switch, r_switch, k_switch, p_switch, old, initial_out, initial_in, rp_switch, no_members, and_member}
use Rattle.sample_core.specs.TypeTree.{TypeTree, unit_ty, int_ty, pair_ty, event_ty, list_ty}
use Rattle.net_meaning.specs.Typing.{Arrow, LeafTyping, copies, members, Typed, AllTyped, arr_typed, seq_typed, first_typed, par_typed, loop_typed, i_pre_typed, delay_typed, hold_typed, accum_typed, after_typed, repeatedly_typed, time_typed, integral_typed, switch_typed, r_switch_typed, k_switch_typed, p_switch_typed, old_typed, initial_out_typed, initial_in_typed, rp_switch_typed, no_members_typed, and_member_typed}
use Rattle.leaf_core.specs.TypeLimits.{TypeFits}
use Rattle.leaf_core.specs.declared.typing.ExprFault.{ExprFault}
use Rattle.net_types.specs.declared.fault.TypeFault.{TypeFault}
use Rattle.net_types.specs.Walk.{LeafChecker, ◌↓◌, within, expect_same, all_same, one_output, leaf_fault_at, leaf, switched, walk, walk_all}
use Rattle.net_types.proofs.WalkTests.{Holds, ok_holds, err_holds, next, weaker, within_tells, same_tells, pair_tells, event_tells, choice_tells, between_tells, counted_tells, frozen_tells, IsExact}

-- the outputs of the members one by one
pub data EachTyped {L : Type 0} (T : LeafTyping L) (M : TypeTree → Type 0) (Ps : List TypeTree) (Os : List Arrow) (A : TypeTree) : Networks L → List TypeTree
    → Type 0 where
  no_members_each : EachTyped T M Ps Os A no_members []
  and_member_each : {f : Network L} {fs : Networks L} {B : TypeTree} {Bs : List TypeTree} → Typed T M Ps Os f A B → EachTyped T M Ps Os A fs Bs
      → EachTyped T M Ps Os A (and_member f fs) (B ∷ Bs)

within_ends : {Q : TypeTree → Type 0} (A : TypeTree) → (TypeFits A → Q A) → Holds Q (within A)
within_ends {Q = Q} A s = weaker (within_tells A) (λ B w. subst Q w.0 (s w.1))

same_ends : {Q : TypeTree → Type 0} (M : TypeTree → Type 0) (P : List ℕ) (A B : TypeTree) → M B → (M A → Q A) → Holds Q (expect_same P A B)
same_ends {Q = Q} M P A B m s = weaker (same_tells P A B) (λ C w. subst Q w.0 (s (subst M w.1 m)))

module _ {L : Type 0} (t : LeafChecker L) (T : LeafTyping L) (ex : IsExact t T) where
  turn : {Ps : List TypeTree} {Os : List Arrow} {f : Network L} {A B C : TypeTree} → B ≡ C → Typed T TypeFits Ps Os f A B → Typed T TypeFits Ps Os f A C
  turn {Ps = Ps} {Os = Os} {f = f} {A = A} e d = subst (λ Z. Typed T TypeFits Ps Os f A Z) e d

  under : {Ps : List TypeTree} {Os : List Arrow} {f : Network L} {A B C : TypeTree} → A ≡ C → Typed T TypeFits Ps Os f C B → Typed T TypeFits Ps Os f A B
  under {Ps = Ps} {Os = Os} {f = f} {B = B} e d = subst (λ Z. Typed T TypeFits Ps Os f Z B) (sym e) d

  leaf_tells : (P : List ℕ) (Ps : List TypeTree) (A : TypeTree) (e : L) → Holds (λ B. T e Ps A B) (leaf t P Ps A e)
  leaf_tells P Ps A e = go (t e Ps A) refl
    where
      go : (r : Result TypeTree ExprFault) → t e Ps A ≡ r → Holds (λ B. T e Ps A B) (leaf_fault_at P r)
      go (Ok B) q = ok_holds ((ex e Ps A B).0 q)
      go (Err x) q = err_holds

  all_same_tells : (P : List ℕ) (Ps : List TypeTree) (Os : List Arrow) (A : TypeTree) (k : ℕ) (fs : Networks L) (B : TypeTree) (Cs : List TypeTree)
      → EachTyped T TypeFits Ps Os A fs Cs → Holds (λ D. (B ≡ D) × AllTyped T TypeFits Ps Os fs A B) (all_same P k B Cs)
  all_same_tells P Ps Os A k fs B Cs no_members_each = ok_holds (refl, no_members_typed)
  all_same_tells P Ps Os A k fs B Cs (and_member_each {fs = gs} {B = C} {Bs = Ds} d ds) =
      next (same_tells (P ↓ k) B C) (λ Z s. weaker (all_same_tells P Ps Os A (suc k) gs B Ds ds) (λ D w. (w.0, and_member_typed (turn s.1 d) w.1)))

  one_output_tells : (P : List ℕ) (k : ℕ) (Ps : List TypeTree) (Os : List Arrow) (A : TypeTree) (fs : Networks L) (Bs : List TypeTree)
      → EachTyped T TypeFits Ps Os A fs Bs → Holds (λ B. AllTyped T TypeFits Ps Os fs A B) (one_output P k Bs)
  one_output_tells P k Ps Os A fs Bs no_members_each = err_holds
  one_output_tells P k Ps Os A fs Bs (and_member_each {f = g} {fs = gs} {B = B} {Bs = Cs} d ds) =
      weaker (all_same_tells P Ps Os A (suc k) gs B Cs ds) (λ D w. subst (λ Z. AllTyped T TypeFits Ps Os (and_member g gs) A Z) w.0 (and_member_typed d w.1))

  -- a switch is typed, where its network outputs F and its continuation is typed under each parameter
  switched_tells : {Ps : List TypeTree} {Os : List Arrow} {f n : Network L} {A F : TypeTree} {go : TypeTree → Result TypeTree TypeFault} {Q : TypeTree → Type 0}
      (P : List ℕ)
      → Typed T TypeFits Ps Os f A F → ((C : TypeTree) → Holds (λ D. Typed T TypeFits (Ps ++ C ∷ []) Os n A D) (go C))
      → ((B C : TypeTree) → Typed T TypeFits Ps Os f A (pair_ty B (event_ty C)) → Typed T TypeFits (Ps ++ C ∷ []) Os n A B → Q B) → Holds Q (switched P F go)
  switched_tells {Ps = Ps} {Os = Os} {n = n} {A = A} {F = F} P d s typed =
      next (pair_tells (P ↓ 0) F)
      (λ q e. next (event_tells (P ↓ 0) q.1)
      (λ C i. next (s C)
      (λ D k. same_ends (λ Z. Typed T TypeFits (Ps ++ C ∷ []) Os n A Z) (P ↓ 1) q.0 D k (λ m. typed q.0 C (turn (e ∙ ap (pair_ty q.0) i) d) m))))

  mutual
    pub sound : (P : List ℕ) (Ps : List TypeTree) (Os : List Arrow) (A : TypeTree) (net : Network L)
        → Holds (λ B. Typed T TypeFits Ps Os net A B) (walk t P Ps Os A net)
    sound P Ps Os A (arr e) = weaker (leaf_tells (P ↓ 0) Ps A e) (λ B h. arr_typed h)
    sound P Ps Os A (seq f g) = next (sound (P ↓ 0) Ps Os A f) (λ B d. weaker (sound (P ↓ 1) Ps Os B g) (λ C e. seq_typed d e))
    sound P Ps Os A (first f) =
        next (pair_tells P A) (λ q e. next (sound (P ↓ 0) Ps Os q.0 f) (λ D d. within_ends (pair_ty D q.1) (λ w. under e (first_typed d w))))
    sound P Ps Os A (par fs) =
        next (counted_tells P fs)
        (λ u n. next (all_sound P 0 Ps Os A fs)
        (λ Bs ds. next (one_output_tells P 0 Ps Os A fs Bs ds) (λ B es. within_ends (list_ty B) (λ w. par_typed n.0 n.1 es w))))
    sound P Ps Os A (loop_pre c f) =
        next (leaf_tells (P ↓ 0) Ps unit_ty c)
        (λ C h. next (within_tells (pair_ty A C))
        (λ Z w. next (sound (P ↓ 1) Ps Os (pair_ty A C) f)
        (λ E d. next (pair_tells (P ↓ 1) E)
        (λ q e. next (same_tells (P ↓ 1) C q.1) (λ D s. ok_holds (loop_typed h w.1 (turn (e ∙ ap (pair_ty q.0) s.1) d)))))))
    sound P Ps Os A (i_pre c) = next (leaf_tells (P ↓ 0) Ps unit_ty c) (λ C h. same_ends (λ Z. T c Ps unit_ty Z) P A C h (λ k. i_pre_typed k))
    sound P Ps Os A (delay q c) =
        next (between_tells P 1 4096 q)
        (λ u n. next (leaf_tells (P ↓ 0) Ps unit_ty c) (λ C h. same_ends (λ Z. T c Ps unit_ty Z) P A C h (λ k. delay_typed n.0 n.1 k)))
    sound P Ps Os A (hold c) =
        next (event_tells P A) (λ B e. next (leaf_tells (P ↓ 0) Ps unit_ty c) (λ C h. same_ends (λ Z. T c Ps unit_ty Z) P B C h (λ k. under e (hold_typed k))))
    sound P Ps Os A (accum_by g z) =
        next (event_tells P A)
        (λ V e. next (leaf_tells (P ↓ 1) Ps unit_ty z)
        (λ Z h. next (within_tells (pair_ty Z V))
        (λ N w. next (leaf_tells (P ↓ 0) Ps (pair_ty Z V) g)
        (λ Y k.
        next (same_tells P Z Y) (λ D s. within_ends (event_ty Z) (λ v. under e (accum_typed h w.1 (subst (λ N. T g Ps (pair_ty Z V) N) s.1 k) v)))))))
    sound P Ps Os A (after q c) =
        next (between_tells P 0 (2 ^ 62) q) (λ u n. next (leaf_tells (P ↓ 0) Ps unit_ty c) (λ C h. within_ends (event_ty C) (λ w. after_typed n.1 h w)))
    sound P Ps Os A (repeatedly q c) =
        next (between_tells P 1 (2 ^ 62) q)
        (λ u n. next (leaf_tells (P ↓ 0) Ps unit_ty c) (λ C h. within_ends (event_ty C) (λ w. repeatedly_typed n.0 n.1 h w)))
    sound P Ps Os A time = ok_holds time_typed
    sound P Ps Os A integral = same_ends (λ Z. Typed T TypeFits Ps Os integral Z int_ty
        → Typed T TypeFits Ps Os integral A int_ty) P int_ty A (λ d. d) (λ s. s integral_typed)
    sound P Ps Os A (switch tm f n) =
        next (sound (P ↓ 0) Ps Os A f) (λ F d. switched_tells P d (λ C. sound (P ↓ 1) (Ps ++ C ∷ []) Os A n) (λ B C k m. switch_typed k m))
    sound P Ps Os A (r_switch tm f n) =
        next (pair_tells P A)
        (λ q e.
        next (event_tells P q.1)
        (λ C i. next (sound (P ↓ 0) Ps Os q.0 f)
        (λ B d. next (sound (P ↓ 1) (Ps ++ C ∷ []) Os q.0 n)
        (λ E k. same_ends (λ Z. Typed T TypeFits (Ps ++ C ∷ []) Os n q.0 Z) (P ↓ 1) B E k (λ m. under (e ∙ ap (pair_ty q.0) i) (r_switch_typed d m))))))
    sound P Ps Os A (k_switch f e n) =
        next (sound (P ↓ 0) Ps Os A f)
        (λ B d. next (within_tells (pair_ty A B))
        (λ N w. next (sound (P ↓ 1) Ps Os (pair_ty A B) e)
        (λ E h. next (event_tells (P ↓ 1) E)
        (λ C i. next (sound (P ↓ 2) (Ps ++ C ∷ []) (Os ++ record { input = A; output = B } ∷ []) A n)
        (λ D k. same_ends (λ Z. Typed T TypeFits (Ps ++ C ∷ []) (Os ++ record { input = A; output = B } ∷ []) n A Z) (P ↓ 2) B D k
        (λ m. k_switch_typed d w.1 (turn i h) m))))))
    sound P Ps Os A (p_switch r fs e n) =
        next (counted_tells P fs)
        (λ u c. next (within_tells (pair_ty A int_ty))
        (λ N w. next (leaf_tells (P ↓ 0) Ps (pair_ty A int_ty) r)
        (λ D h. next (all_sound P 1 Ps Os D fs)
        (λ Bs ds. next (one_output_tells P 1 Ps Os D fs Bs ds)
        (λ B es. next (within_tells (pair_ty A (list_ty B)))
        (λ N v. next (sound (P ↓ suc (members fs)) Ps Os (pair_ty A (list_ty B)) e)
        (λ E d. next (event_tells (P ↓ suc (members fs)) E)
        (λ C i. next (sound (P ↓ suc (suc (members fs))) (Ps ++ C ∷ []) (Os ++ copies (members fs) (record { input = D; output = B })) A n)
        (λ G k. same_ends (λ Z. Typed T TypeFits (Ps ++ C ∷ []) (Os ++ copies (members fs) (record { input = D; output = B })) n A Z)
        (P ↓ suc (suc (members fs))) (list_ty B) G k (λ m. p_switch_typed c.0 c.1 w.1 h es v.1 (turn i d) m))))))))))
    sound P Ps Os A (old k) =
        next (frozen_tells P Os k) (λ o i. next (same_tells P o.input A) (λ N s. ok_holds (under s.1 (old_typed i))))
    sound P Ps Os A (initial_out c f) =
        next (leaf_tells (P ↓ 0) Ps unit_ty c)
        (λ C h. next (sound (P ↓ 1) Ps Os A f) (λ B d. same_ends (λ Z. T c Ps unit_ty Z) P B C h (λ k. initial_out_typed k d)))
    sound P Ps Os A (initial_in c f) =
        next (leaf_tells (P ↓ 0) Ps unit_ty c)
        (λ C h. next (same_tells P A C)
        (λ N s. weaker (sound (P ↓ 1) Ps Os A f) (λ B d. initial_in_typed (subst (λ Z. T c Ps unit_ty Z) s.1 h) d)))
    sound P Ps Os A (rp_switch fs m n) =
        next (counted_tells P fs)
        (λ u c. next (pair_tells P A)
        (λ q e. next (event_tells P q.1)
        (λ C i. next (all_sound P 0 Ps Os q.0 fs)
        (λ Bs ds. next (one_output_tells P 0 Ps Os q.0 fs Bs ds)
        (λ B es. next (leaf_tells (P ↓ members fs) Ps C m)
        (λ K h. next (choice_tells (P ↓ members fs) K)
        (λ V j. next (sound (P ↓ suc (members fs)) (Ps ++ V ∷ []) Os q.0 n)
        (λ E d. next (same_tells (P ↓ suc (members fs)) B E)
        (λ N s. within_ends (list_ty B)
        (λ w. under (e ∙ ap (pair_ty q.0) i) (rp_switch_typed c.0 c.1 es (subst (λ Z. T m Ps C Z) j h) (turn s.1 d) w)))))))))))

    all_sound : (P : List ℕ) (k : ℕ) (Ps : List TypeTree) (Os : List Arrow) (A : TypeTree) (fs : Networks L)
        → Holds (λ Bs. EachTyped T TypeFits Ps Os A fs Bs) (walk_all t P k Ps Os A fs)
    all_sound P k Ps Os A no_members = ok_holds no_members_each
    all_sound P k Ps Os A (and_member f fs) = next (sound (P ↓ k) Ps Os A f)
        (λ B d. next (all_sound P (suc k) Ps Os A fs) (λ Bs ds. ok_holds (and_member_each d ds)))
