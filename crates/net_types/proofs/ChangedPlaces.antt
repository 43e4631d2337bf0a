-- Where a part stands is one place, and is the same where the part is another.
use Rattle.std.proofs.Common.{◌≡◌, ℕ, zero, suc, Option, Some, None, IfSome, option_map, refl, sym, ap, ◌∙◌}
use Rattle.leaf_core.specs.Expression.{Expression}
use Rattle.net_tree.specs.Network.{Network, Networks, arr, seq, first, par, loop_pre, i_pre, delay, hold, accum_by, after, repeatedly, switch, r_switch, k_switch, p_switch, initial_out, initial_in, rp_switch, no_members, and_member}
use Rattle.net_tree.specs.Place.{◌>>=◌, Tree, a_network, a_leaf, member, child, child_network, collection_child, PSwitchChild, p_switch_child, member_child, event_child, continuation_child, no_child}
use Rattle.net_syntax.specs.Placed.{with_member, with_child, with_p_switch_child, with_collection_child}
use Rattle.net_syntax.specs.Standing.{Standing}
use Rattle.net_syntax.specs.StandingWalk.{taking, p_switch_input, p_switch_scope, collection_input, collection_scope, inside}

-- with another part in its place, the part stands there, and the place is the same
abbrev pub Kept : Standing → Network Expression → ℕ → Tree Expression → Type 0
Kept R f k s = IfSome (with_child f k s) (λ v. (inside R v k ≡ inside R f k) × (child v k ≡ Some s))

-- the members with another one
member_there : (fs : Networks Expression) (k : ℕ) (s : Network Expression)
    → IfSome (with_member fs k s) (λ gs. (member gs k ≡ Some s) × (p_switch_child gs k ≡ member_child))
member_there no_members k s = tt
member_there (and_member f fs) zero s = (refl, refl)
member_there (and_member f fs) (suc k) s = go (with_member fs k s) (member_there fs k s)
  where
    go : (o : Option (Networks Expression)) → IfSome o (λ gs. (member gs k ≡ Some s) × (p_switch_child gs k ≡ member_child))
        → IfSome (option_map (and_member f) o) (λ gs. (member gs (suc k) ≡ Some s) × (p_switch_child gs (suc k) ≡ member_child))
    go None h = tt
    go (Some gs) h = h

pub kept : (R : Standing) (f : Network Expression) (k : ℕ) (s : Tree Expression) → Kept R f k s
kept R (arr e) zero (a_leaf s) = (refl, refl)
kept R (seq f g) zero (a_network s) = (refl, refl)
kept R (seq f g) (suc zero) (a_network s) = (refl, refl)
kept R (first f) zero (a_network s) = (refl, refl)
kept R (par fs) k (a_network s) = go (with_member fs k s) (member_there fs k s)
  where
    go : (o : Option (Networks Expression)) → IfSome o (λ gs. (member gs k ≡ Some s) × (p_switch_child gs k ≡ member_child))
        → IfSome (option_map par o) (λ v. (inside R v k ≡ inside R (par fs) k) × (child v k ≡ Some (a_network s)))
    go None h = tt
    go (Some gs) h = (refl, ap (option_map a_network) h.0)
kept R (loop_pre c f) zero (a_leaf s) = (refl, refl)
kept R (loop_pre c f) (suc zero) (a_network s) = (refl, refl)
kept R (i_pre c) zero (a_leaf s) = (refl, refl)
kept R (delay q c) zero (a_leaf s) = (refl, refl)
kept R (hold c) zero (a_leaf s) = (refl, refl)
kept R (accum_by g z) zero (a_leaf s) = (refl, refl)
kept R (accum_by g z) (suc zero) (a_leaf s) = (refl, refl)
kept R (after q c) zero (a_leaf s) = (refl, refl)
kept R (repeatedly q c) zero (a_leaf s) = (refl, refl)
kept R (switch tm f t) zero (a_network s) = (refl, refl)
kept R (switch tm f t) (suc zero) (a_network s) = (refl, refl)
kept R (r_switch tm f t) zero (a_network s) = (refl, refl)
kept R (r_switch tm f t) (suc zero) (a_network s) = (refl, refl)
kept R (k_switch f e t) zero (a_network s) = (refl, refl)
kept R (k_switch f e t) (suc zero) (a_network s) = (refl, refl)
kept R (k_switch f e t) (suc (suc zero)) (a_network s) = (refl, refl)
kept R (p_switch r fs e t) zero (a_leaf s) = (refl, refl)
kept R (p_switch r fs e t) (suc k) (a_network s) = go (p_switch_child fs k) refl
  where
    Changed : Option (Network Expression) → Type 0
    Changed o = IfSome o (λ v. (inside R v (suc k) ≡ inside R (p_switch r fs e t) (suc k)) × (child v (suc k) ≡ Some (a_network s)))

    At : PSwitchChild → Networks Expression → Network Expression → Option Standing
    At W gs h = p_switch_input R r gs W >>= (λ A. option_map (λ Q. taking Q A) (p_switch_scope R r gs h W))

    in_members : p_switch_child fs k ≡ member_child → (o : Option (Networks Expression))
        → IfSome o (λ gs. (member gs k ≡ Some s) × (p_switch_child gs k ≡ member_child)) → Changed (option_map (λ gs. p_switch r gs e t) o)
    in_members j None h = tt
    in_members j (Some gs) h = (
      ap (λ z. At z gs e) h.1 ∙ ap (λ z. At z fs e) (sym j),
      ap (λ z. option_map a_network (child_network z gs e t k)) h.1 ∙ ap (option_map a_network) h.0,
    )

    go : (W : PSwitchChild) → p_switch_child fs k ≡ W → Changed (with_p_switch_child W r fs e t k s)
    go member_child j = in_members j (with_member fs k s) (member_there fs k s)
    go event_child j = (
      ap (λ z. At z fs s) j ∙ ap (λ z. At z fs e) (sym j),
      ap (λ z. option_map a_network (child_network z fs s t k)) j,
    )
    go continuation_child j = (refl, ap (λ z. option_map a_network (child_network z fs e s k)) j)
    go no_child j = tt
kept R (initial_out c f) zero (a_leaf s) = (refl, refl)
kept R (initial_out c f) (suc zero) (a_network s) = (refl, refl)
kept R (initial_in c f) zero (a_leaf s) = (refl, refl)
kept R (initial_in c f) (suc zero) (a_network s) = (refl, refl)
kept R (rp_switch fs m t) k s = go (p_switch_child fs k) refl s
  where
    Changed : Tree Expression → Option (Network Expression) → Type 0
    Changed s o = IfSome o (λ v. (inside R v k ≡ inside R (rp_switch fs m t) k) × (child v k ≡ Some s))

    At : PSwitchChild → Expression → Option Standing
    At W n = collection_input R W >>= (λ A. option_map (λ Q. taking Q A) (collection_scope R n W))

    in_members : p_switch_child fs k ≡ member_child → (s : Network Expression) (o : Option (Networks Expression))
        → IfSome o (λ gs. (member gs k ≡ Some s) × (p_switch_child gs k ≡ member_child)) → Changed (a_network s) (option_map (λ gs. rp_switch gs m t) o)
    in_members j s None h = tt
    in_members j s (Some gs) h = (
      ap (λ z. At z m) h.1 ∙ ap (λ z. At z m) (sym j),
      ap (λ z. collection_child z gs m t k) h.1 ∙ ap (option_map a_network) h.0,
    )

    go : (W : PSwitchChild) → p_switch_child fs k ≡ W → (s : Tree Expression) → Changed s (with_collection_child W fs m t k s)
    go member_child j (a_network s) = in_members j s (with_member fs k s) (member_there fs k s)
    go member_child j (a_leaf s) = tt
    go event_child j (a_leaf s) = (
      ap (λ z. At z s) j ∙ ap (λ z. At z m) (sym j),
      ap (λ z. collection_child z fs s t k) j,
    )
    go event_child j (a_network s) = tt
    go continuation_child j (a_network s) = (refl, ap (λ z. collection_child z fs m s k) j)
    go continuation_child j (a_leaf s) = tt
    go no_child j s = tt
kept R _ k s = tt
