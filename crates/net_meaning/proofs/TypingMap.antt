-- A typing is one under weaker tests too: of its expressions, and of the types that its nodes make.
use Rattle.std.proofs.Common.{List}
use Rattle.net_tree.specs.Network.{Network, Networks}
use Rattle.sample_core.specs.TypeTree.{TypeTree}
use Rattle.net_meaning.specs.Typing.{Arrow, LeafTyping, Typed, AllTyped, arr_typed, seq_typed, first_typed, par_typed, loop_typed, i_pre_typed, delay_typed, hold_typed, accum_typed, after_typed, repeatedly_typed, time_typed, integral_typed, switch_typed, r_switch_typed, k_switch_typed, p_switch_typed, old_typed, initial_out_typed, initial_in_typed, rp_switch_typed, no_members_typed, and_member_typed}

module _ {L : Type 0} {T U : LeafTyping L} {M N : TypeTree → Type 0} (u : (e : L) (Ps : List TypeTree) (A B : TypeTree) → T e Ps A B
    → U e Ps A B) (v : (A : TypeTree) → M A → N A) where
  abbrev mutual
    pub map_typed : {Ps : List TypeTree} {Os : List Arrow} {net : Network L} {A B : TypeTree} → Typed T M Ps Os net A B → Typed U N Ps Os net A B
    map_typed (arr_typed h) = arr_typed (u _ _ _ _ h)
    map_typed (seq_typed f g) = seq_typed (map_typed f) (map_typed g)
    map_typed (first_typed f m) = first_typed (map_typed f) (v _ m)
    map_typed (par_typed l h fs m) = par_typed l h (map_all_typed fs) (v _ m)
    map_typed (loop_typed h m f) = loop_typed (u _ _ _ _ h) (v _ m) (map_typed f)
    map_typed (i_pre_typed h) = i_pre_typed (u _ _ _ _ h)
    map_typed (delay_typed l k h) = delay_typed l k (u _ _ _ _ h)
    map_typed (hold_typed h) = hold_typed (u _ _ _ _ h)
    map_typed (accum_typed h m k n) = accum_typed (u _ _ _ _ h) (v _ m) (u _ _ _ _ k) (v _ n)
    map_typed (after_typed k h m) = after_typed k (u _ _ _ _ h) (v _ m)
    map_typed (repeatedly_typed l k h m) = repeatedly_typed l k (u _ _ _ _ h) (v _ m)
    map_typed time_typed = time_typed
    map_typed integral_typed = integral_typed
    map_typed (switch_typed f t) = switch_typed (map_typed f) (map_typed t)
    map_typed (r_switch_typed f t) = r_switch_typed (map_typed f) (map_typed t)
    map_typed (k_switch_typed f m e t) = k_switch_typed (map_typed f) (v _ m) (map_typed e) (map_typed t)
    map_typed (p_switch_typed l k m h fs n e t) = p_switch_typed l k (v _ m) (u _ _ _ _ h) (map_all_typed fs) (v _ n) (map_typed e) (map_typed t)
    map_typed (old_typed o) = old_typed o
    map_typed (initial_out_typed h f) = initial_out_typed (u _ _ _ _ h) (map_typed f)
    map_typed (initial_in_typed h f) = initial_in_typed (u _ _ _ _ h) (map_typed f)
    map_typed (rp_switch_typed l k fs h t m) = rp_switch_typed l k (map_all_typed fs) (u _ _ _ _ h) (map_typed t) (v _ m)

    pub map_all_typed : {Ps : List TypeTree} {Os : List Arrow} {fs : Networks L} {A B : TypeTree} → AllTyped T M Ps Os fs A B → AllTyped U N Ps Os fs A B
    map_all_typed no_members_typed = no_members_typed
    map_all_typed (and_member_typed f fs) = and_member_typed (map_typed f) (map_all_typed fs)
