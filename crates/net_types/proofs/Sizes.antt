-- A typed network of many networks is heavy.
use Rattle.std.proofs.Common.{◌≡◌, ℕ, suc, ◌+◌, ◌*◌, ◌<◌, ◌≤◌, Bool, true, false, leb, leb-true, leb-false, List, [], ◌∷◌, ◌++◌, refl, arith}
use Rattle.std.proofs.Math.Nat.{mul-le-mul_right, suc-mul}
use Rattle.sample_core.specs.TypeTree.{TypeTree}
use Rattle.net_tree.specs.Network.{Network, Networks, at_once, delayed, network_size, networks_size, seq, r_switch}
use Rattle.net_tree.specs.Height.{greatest}
use Rattle.net_meaning.specs.Typing.{Arrow, LeafTyping, members, Typed, AllTyped, seq_typed, first_typed, par_typed, loop_typed, switch_typed, r_switch_typed, k_switch_typed, p_switch_typed, old_typed, initial_out_typed, initial_in_typed, rp_switch_typed, no_members_typed, and_member_typed}
use Rattle.net_tree.specs.Weight.{weight, weights, weight_at, total}
use Rattle.net_types.specs.TypingLaws.{SizeLaw}

-- a node weighs something
heavy : {L : Type 0} (net : Network L) (ws : List ℕ) → 1 ≤ weight net ws
heavy (seq f g) ws = omega arith
heavy (r_switch at_once f t) ws = omega arith
heavy _ ws = omega arith

module _ {L : Type 0} (T : LeafTyping L) (M : TypeTree → Type 0) where
  -- up to that weight a typed network has fewer networks in it than B of what it weighs
  abbrev Below : (ℕ → ℕ) → ℕ → Type 0
  Below B top = (Ps : List TypeTree) (Os : List Arrow) (net : Network L) (A C : TypeTree) → Typed T M Ps Os net A C → (ws : List ℕ)
      → weight net ws ≤ top → network_size net < B (weight net ws)

  -- and so has an `rpSwitchB` with these parts
  abbrev BelowCollected : (ℕ → ℕ) → ℕ → Type 0
  BelowCollected B top = (Ps Qs : List TypeTree) (Os : List Arrow) (fs : Networks L) (t : Network L) (D C : TypeTree) → members fs ≤ 64 → AllTyped T M Ps Os fs D C
      → Typed T M Qs Os t D C → (ws : List ℕ) → suc (64 * greatest (weight t ws ∷ weights fs ws)) ≤ top
      → suc (networks_size fs + network_size t) < B (suc (64 * greatest (weight t ws ∷ weights fs ws)))

  module _ (B : ℕ → ℕ) (grows : (a b : ℕ) → a ≤ b → B a ≤ B b) (adds : (a b : ℕ) → B a + B b ≤ B (a + b)) (one_more : (a : ℕ) → 2 + B a ≤ B (suc a))
      (top : ℕ) (collected : BelowCollected B top) where
    mutual
      sized : {Ps : List TypeTree} {Os : List Arrow} {net : Network L} {A C : TypeTree} → Typed T M Ps Os net A C → (ws : List ℕ)
          → weight net ws ≤ top → network_size net < B (weight net ws)
      sized (seq_typed {f = f} {g = g} d e) ws h =
          omega (arith, sized d ws (omega arith), sized e ws (omega arith), adds (weight f ws) (weight g ws), one_more (weight f ws + weight g ws))
      sized (first_typed {f = f} d w) ws h = omega (arith, sized d ws (omega arith), one_more (weight f ws))
      sized (par_typed {fs = fs} some few ds w) ws h = omega (arith, all_sized ds ws (omega arith), one_more (total (weights fs ws)))
      sized (loop_typed {f = f} c w d) ws h = omega (arith, sized d ws (omega arith), one_more (weight f ws))
      sized (switch_typed {f = f} {t = t} d e) ws h =
          omega (arith, sized d ws (omega arith), sized e ws (omega arith), adds (weight f ws) (weight t ws), one_more (weight f ws + weight t ws))
      sized (r_switch_typed {tm = at_once} {f = f} {t = t} d e) ws h =
          omega (arith, sized d ws (omega arith), sized e ws (omega arith), adds (weight f ws) (weight t ws), one_more (weight f ws + weight t ws))
      sized (r_switch_typed {tm = delayed} {f = f} {t = t} d e) ws h =
          omega (
            arith,
            sized d ws (omega arith),
            sized e ws (omega arith),
            adds (weight f ws) (weight t ws),
            grows (weight f ws + weight t ws) (weight f ws + 2 * weight t ws) (omega arith),
            one_more (weight f ws + 2 * weight t ws),
          )
      sized (k_switch_typed {f = f} {e = e} {t = t} df w de dt) ws h =
          let us = ws ++ weight f ws ∷ [] in
          omega (
            arith,
            sized df ws (omega arith),
            sized de ws (omega arith),
            sized dt us (omega arith),
            adds (weight f ws) (weight e ws),
            adds (weight f ws + weight e ws) (weight t us),
            one_more (weight f ws + weight e ws + weight t us),
          )
      sized (p_switch_typed {fs = fs} {e = e} {t = t} some few w r ds v de dt) ws h =
          let us = ws ++ weights fs ws in
          omega (
            arith,
            all_sized ds ws (omega arith),
            sized de ws (omega arith),
            sized dt us (omega arith),
            adds (total (weights fs ws)) (weight e ws),
            adds (total (weights fs ws) + weight e ws) (weight t us),
            one_more (total (weights fs ws) + weight e ws + weight t us),
          )
      sized (old_typed {k = k} i) ws h = omega (arith, one_more (weight_at ws k))
      sized (initial_out_typed {f = f} c d) ws h = omega (arith, sized d ws (omega arith), one_more (weight f ws))
      sized (initial_in_typed {f = f} c d) ws h = omega (arith, sized d ws (omega arith), one_more (weight f ws))
      sized (rp_switch_typed {Ps = Ps} {Os = Os} {fs = fs} {t = t} {D = D} {B = C} {V = V} some few ds m d w) ws h =
          collected Ps (Ps ++ V ∷ []) Os fs t D C few ds d ws h
      sized _ ws h = omega (arith, one_more 0)

      all_sized : {Ps : List TypeTree} {Os : List Arrow} {fs : Networks L} {A C : TypeTree} → AllTyped T M Ps Os fs A C → (ws : List ℕ)
          → total (weights fs ws) ≤ top → networks_size fs ≤ B (total (weights fs ws))
      all_sized no_members_typed ws h = omega arith
      all_sized (and_member_typed {f = f} {fs = fs} d ds) ws h =
          omega (arith, sized d ws (omega arith), all_sized ds ws (omega arith), adds (weight f ws) (total (weights fs ws)))

  -- the networks in what may run in an `rpSwitchB`, each of which weighs m or less
  module _ (B : ℕ → ℕ) (grows : (a b : ℕ) → a ≤ b → B a ≤ B b) (top : ℕ) (below : Below B top) where
    in_members : {Ps : List TypeTree} {Os : List Arrow} {fs : Networks L} {A C : TypeTree} → AllTyped T M Ps Os fs A C → (ws : List ℕ) (m : ℕ)
        → m ≤ top → greatest (weights fs ws) ≤ m → networks_size fs ≤ members fs * B m
    in_members no_members_typed ws m l h = omega arith
    in_members (and_member_typed {Ps = Ps} {Os = Os} {f = f} {fs = fs} {A = A} {B = C} d ds) ws m l h =
        omega (
          arith,
          below Ps Os f A C d ws (omega arith),
          grows (weight f ws) m (omega arith),
          in_members ds ws m l (omega arith),
          suc-mul (members fs) (B m),
        )

    in_collection : (Ps Qs : List TypeTree) (Os : List Arrow) (fs : Networks L) (t : Network L) (D C : TypeTree) → members fs ≤ 64 → AllTyped T M Ps Os fs D C
        → Typed T M Qs Os t D C → (ws : List ℕ) (m : ℕ) → m ≤ top → greatest (weight t ws ∷ weights fs ws) ≤ m
        → networks_size fs + suc (network_size t) ≤ 65 * B m
    in_collection Ps Qs Os fs t D C few ds d ws m l h =
        omega (
          arith,
          in_members ds ws m l (omega arith),
          mul-le-mul_right (B m) few,
          below Qs Os t D C d ws (omega arith),
          grows (weight t ws) m (omega arith),
        )

  -- fewer than twice its weight, where it is light; with each further `rpSwitchB` round it once more
  below_two : Below (λ w. 2 * w) 64
  below_two Ps Os net A C d ws h =
      sized (λ w. 2 * w) (λ a b i. omega arith) (λ a b. omega arith) (λ a. omega arith) 64
      (λ Qs Rs Ns fs t D E few ds dt vs i. absurd (omega (arith, heavy t vs))) d ws h

  below_three : Below (λ w. 3 * w) 4160
  below_three Ps Os net A C d ws h =
      sized (λ w. 3 * w) (λ a b i. omega arith) (λ a b. omega arith) (λ a. omega arith) 4160
      (λ Qs Rs Ns fs t D E few ds dt vs i. let m = greatest (weight t vs ∷ weights fs vs) in
      omega (arith, in_collection (λ w. 2 * w) (λ a b j. omega arith) 64 below_two Qs Rs Ns fs t D E few ds dt vs m (omega arith) (omega arith))) d ws h

  below_four : Below (λ w. 4 * w) 266304
  below_four Ps Os net A C d ws h =
      sized (λ w. 4 * w) (λ a b i. omega arith) (λ a b. omega arith) (λ a. omega arith) 266304
      (λ Qs Rs Ns fs t D E few ds dt vs i. let m = greatest (weight t vs ∷ weights fs vs) in
      omega (arith, in_collection (λ w. 3 * w) (λ a b j. omega arith) 4160 below_three Qs Rs Ns fs t D E few ds dt vs m (omega arith) (omega arith))) d ws h

  below_five : Below (λ w. 5 * w) 1000000
  below_five Ps Os net A C d ws h =
      sized (λ w. 5 * w) (λ a b i. omega arith) (λ a b. omega arith) (λ a. omega arith) 1000000
      (λ Qs Rs Ns fs t D E few ds dt vs i. let m = greatest (weight t vs ∷ weights fs vs) in
      omega (arith, in_collection (λ w. 4 * w) (λ a b j. omega arith) 266304 below_four Qs Rs Ns fs t D E few ds dt vs m (omega arith) (omega arith))) d ws h

-- a typed network within the limit of the weight has few networks in it
pub few_inside : {L : Type 0} {T : LeafTyping L} {M : TypeTree → Type 0} {Ps : List TypeTree} {Os : List Arrow} {net : Network L} {A C : TypeTree}
    → Typed T M Ps Os net A C → weight net [] ≤ 1000000 → network_size net ≤ 5000000
few_inside {T = T} {M = M} {Ps = Ps} {Os = Os} {net = net} {A = A} {C = C} d h = omega (arith, below_five T M Ps Os net A C d [] h)

pub many_weigh : {L : Type 0} {T : LeafTyping L} {M : TypeTree → Type 0} {Ps : List TypeTree} {Os : List Arrow} {net : Network L} {A C : TypeTree}
    → Typed T M Ps Os net A C → 5000000 < network_size net → 1000000 < weight net []
many_weigh {net = net} d h = go (leb (weight net []) 1000000) refl
  where
    go : (b : Bool) → leb (weight net []) 1000000 ≡ b → 1000000 < weight net []
    go true e = absurd (omega (arith, few_inside d (leb-true (weight net []) 1000000 e)))
    go false e = leb-false (weight net []) 1000000 e

pub size_law : SizeLaw
size_law Ps Os net A B d h = many_weigh d h
