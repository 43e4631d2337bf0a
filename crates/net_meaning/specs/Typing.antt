-- When a network is typed: under the types of the parameters and of the frozen networks in scope.
use Rattle.std.specs.Prelude.{ℕ, zero, suc, ◌≤◌, List, [], ◌∷◌, ◌++◌, ◌^◌}
use Rattle.sample_core.specs.Datum.{Datum}
use Rattle.sample_core.specs.TypeTree.{TypeTree, unit_ty, int_ty, pair_ty, event_ty, list_ty}
use Rattle.sample_core.specs.HasType.{HasType}
use Rattle.net_tree.specs.Network.{Timing, Network, Networks, arr, seq, first, par, loop_pre, initial_out, initial_in, i_pre, delay, hold, accum_by, after, repeatedly, time, integral, switch, r_switch, rp_switch, k_switch, p_switch, old, no_members, and_member}

-- a frozen network's input and output
pub record Arrow : Type 0 where
  pub input : TypeTree
  pub output : TypeTree

-- from A to B
abbrev pub arrow : TypeTree → TypeTree → Arrow
arrow A B = record { input = A; output = B }

-- frozen network k has this input and this output
pub data OldAt : List Arrow → ℕ → Arrow → Type 0 where
  old_here : {o : Arrow} {Os : List Arrow} → OldAt (o ∷ Os) zero o
  old_after : {o : Arrow} {Os : List Arrow} {k : ℕ} {q : Arrow} → OldAt Os k q
      → OldAt (o ∷ Os) (suc k) q

-- n frozen networks of one input and output
abbrev pub copies : ℕ → Arrow → List Arrow
copies zero o = []
copies (suc n) o = o ∷ copies n o

-- how many members there are
abbrev pub members : {L : Type 0} → Networks L → ℕ
members no_members = 0
members (and_member f fs) = suc (members fs)

-- how leaves are typed: under parameters and an input
abbrev pub LeafTyping : Type 0 → Type 1
LeafTyping L = L → List TypeTree → TypeTree → TypeTree → Type 0

-- no test: any type passes
abbrev pub AnyType : TypeTree → Type 0
AnyType A = Unit {0}

mutual
  -- under parameters and frozen networks of these types, the network has these types, and each type
  -- that a node makes meets M; one constructor a form
  pub data Typed {L : Type 0} (T : LeafTyping L) (M : TypeTree → Type 0)
      : List TypeTree → List Arrow → Network L → TypeTree → TypeTree → Type 0 where
    arr_typed : {Ps : List TypeTree} {Os : List Arrow} {e : L} {A B : TypeTree}
        → T e Ps A B → Typed T M Ps Os (arr e) A B
    seq_typed : {Ps : List TypeTree} {Os : List Arrow} {f g : Network L} {A B C : TypeTree}
        → Typed T M Ps Os f A B → Typed T M Ps Os g B C → Typed T M Ps Os (seq f g) A C
    first_typed : {Ps : List TypeTree} {Os : List Arrow} {f : Network L} {A B C : TypeTree}
        → Typed T M Ps Os f A B → M (pair_ty B C)
        → Typed T M Ps Os (first f) (pair_ty A C) (pair_ty B C)
    par_typed : {Ps : List TypeTree} {Os : List Arrow} {fs : Networks L} {A B : TypeTree}
        → 1 ≤ members fs → members fs ≤ 64 → AllTyped T M Ps Os fs A B → M (list_ty B)
        → Typed T M Ps Os (par fs) A (list_ty B)
    loop_typed : {Ps : List TypeTree} {Os : List Arrow} {c : L} {f : Network L} {A B C : TypeTree}
        → T c Ps unit_ty C → M (pair_ty A C) → Typed T M Ps Os f (pair_ty A C) (pair_ty B C)
        → Typed T M Ps Os (loop_pre c f) A B
    i_pre_typed : {Ps : List TypeTree} {Os : List Arrow} {c : L} {A : TypeTree}
        → T c Ps unit_ty A → Typed T M Ps Os (i_pre c) A A
    delay_typed : {Ps : List TypeTree} {Os : List Arrow} {q : ℕ} {c : L} {A : TypeTree}
        → 1 ≤ q → q ≤ 4096 → T c Ps unit_ty A → Typed T M Ps Os (delay q c) A A
    hold_typed : {Ps : List TypeTree} {Os : List Arrow} {c : L} {A : TypeTree}
        → T c Ps unit_ty A → Typed T M Ps Os (hold c) (event_ty A) A
    accum_typed : {Ps : List TypeTree} {Os : List Arrow} {g z : L} {V Z : TypeTree}
        → T z Ps unit_ty Z → M (pair_ty Z V) → T g Ps (pair_ty Z V) Z → M (event_ty Z)
        → Typed T M Ps Os (accum_by g z) (event_ty V) (event_ty Z)
    after_typed : {Ps : List TypeTree} {Os : List Arrow} {q : ℕ} {c : L} {A C : TypeTree}
        → q ≤ 2 ^ 62 → T c Ps unit_ty C → M (event_ty C)
        → Typed T M Ps Os (after q c) A (event_ty C)
    repeatedly_typed : {Ps : List TypeTree} {Os : List Arrow} {q : ℕ} {c : L} {A C : TypeTree}
        → 1 ≤ q → q ≤ 2 ^ 62 → T c Ps unit_ty C → M (event_ty C)
        → Typed T M Ps Os (repeatedly q c) A (event_ty C)
    time_typed : {Ps : List TypeTree} {Os : List Arrow} {A : TypeTree}
        → Typed T M Ps Os time A int_ty
    integral_typed : {Ps : List TypeTree} {Os : List Arrow} → Typed T M Ps Os integral int_ty int_ty
    switch_typed : {Ps : List TypeTree} {Os : List Arrow} {tm : Timing} {f t : Network L}
        {A B C : TypeTree}
        → Typed T M Ps Os f A (pair_ty B (event_ty C)) → Typed T M (Ps ++ C ∷ []) Os t A B
        → Typed T M Ps Os (switch tm f t) A B
    r_switch_typed : {Ps : List TypeTree} {Os : List Arrow} {tm : Timing} {f t : Network L}
        {D B C : TypeTree}
        → Typed T M Ps Os f D B → Typed T M (Ps ++ C ∷ []) Os t D B
        → Typed T M Ps Os (r_switch tm f t) (pair_ty D (event_ty C)) B
    k_switch_typed : {Ps : List TypeTree} {Os : List Arrow} {f e t : Network L} {A B C : TypeTree}
        → Typed T M Ps Os f A B → M (pair_ty A B) → Typed T M Ps Os e (pair_ty A B) (event_ty C)
        → Typed T M (Ps ++ C ∷ []) (Os ++ arrow A B ∷ []) t A B
        → Typed T M Ps Os (k_switch f e t) A B
    p_switch_typed : {Ps : List TypeTree} {Os : List Arrow} {r : L} {fs : Networks L}
        {e t : Network L} {A B C D : TypeTree}
        → 1 ≤ members fs → members fs ≤ 64
        → M (pair_ty A int_ty) → T r Ps (pair_ty A int_ty) D → AllTyped T M Ps Os fs D B
        → M (pair_ty A (list_ty B)) → Typed T M Ps Os e (pair_ty A (list_ty B)) (event_ty C)
        → Typed T M (Ps ++ C ∷ []) (Os ++ copies (members fs) (arrow D B)) t A (list_ty B)
        → Typed T M Ps Os (p_switch r fs e t) A (list_ty B)
    old_typed : {Ps : List TypeTree} {Os : List Arrow} {k : ℕ} {A B : TypeTree}
        → OldAt Os k (arrow A B) → Typed T M Ps Os (old k) A B
    initial_out_typed : {Ps : List TypeTree} {Os : List Arrow} {c : L} {f : Network L}
        {A B : TypeTree}
        → T c Ps unit_ty B → Typed T M Ps Os f A B → Typed T M Ps Os (initial_out c f) A B
    initial_in_typed : {Ps : List TypeTree} {Os : List Arrow} {c : L} {f : Network L}
        {A B : TypeTree}
        → T c Ps unit_ty A → Typed T M Ps Os f A B → Typed T M Ps Os (initial_in c f) A B
    rp_switch_typed : {Ps : List TypeTree} {Os : List Arrow} {fs : Networks L} {m : L}
        {t : Network L} {D B C V : TypeTree}
        → 1 ≤ members fs → members fs ≤ 64 → AllTyped T M Ps Os fs D B
        → T m Ps C (pair_ty (list_ty int_ty) (list_ty V)) → Typed T M (Ps ++ V ∷ []) Os t D B
        → M (list_ty B)
        → Typed T M Ps Os (rp_switch fs m t) (pair_ty D (event_ty C)) (list_ty B)

  -- each member has the same types
  pub data AllTyped {L : Type 0} (T : LeafTyping L) (M : TypeTree → Type 0)
      : List TypeTree → List Arrow → Networks L → TypeTree → TypeTree → Type 0 where
    no_members_typed : {Ps : List TypeTree} {Os : List Arrow} {A B : TypeTree}
        → AllTyped T M Ps Os no_members A B
    and_member_typed : {Ps : List TypeTree} {Os : List Arrow} {f : Network L} {fs : Networks L}
        {A B : TypeTree}
        → Typed T M Ps Os f A B → AllTyped T M Ps Os fs A B
        → AllTyped T M Ps Os (and_member f fs) A B

-- each value has the type
pub data TypedValues (A : TypeTree) : List Datum → Type 0 where
  no_value : TypedValues A []
  and_value : {v : Datum} {vs : List Datum} → HasType v A → TypedValues A vs
      → TypedValues A (v ∷ vs)

-- each sample's value has the type
pub data TypedSamples (A : TypeTree) : List (ℕ × Datum) → Type 0 where
  no_sample : TypedSamples A []
  and_sample : {x : ℕ × Datum} {xs : List (ℕ × Datum)} → HasType x.1 A → TypedSamples A xs
      → TypedSamples A (x ∷ xs)
