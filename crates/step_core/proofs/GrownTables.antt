-- What is bound to a table stays bound to it when it grows.
use Rattle.std.proofs.Common.{◌≡◌, ℕ, zero, suc, List, [], ◌∷◌, ◌++◌, Some, slice_get, refl, sym, ap, ap₂, ◌∙◌}
use Rattle.sample_core.specs.TypeTree.{TypeTree}
use Rattle.leaf_core.specs.KeyTree.{KeyTree}
use Rattle.net_tree.specs.Network.{Network, Networks, map_networks, arr, seq, first, par, loop_pre, initial_out, initial_in, i_pre, delay, hold, accum_by, after, repeatedly, switch, r_switch, rp_switch, k_switch, p_switch, and_member}
use Rattle.net_meaning.specs.Typing as T
use Rattle.net_meaning.specs.Typing.{Arrow, Typed, AllTyped}
use Rattle.net_meaning.proofs.TypingMap.{map_typed}
use Rattle.step_core.specs.RowTyping.{RowTyped, row_expression, expression_in, network_by}
use Rattle.step_core.specs.BindingLaws.{GrownTableLaw}

kept_at : {X : Type 0} (xs ys : List X) (k : ℕ) (x : X) → slice_get xs k ≡ Some x → slice_get (xs ++ ys) k ≡ Some x
kept_at [] ys k x h = absurd (cc)
kept_at (a ∷ xs) ys zero x h = h
kept_at (a ∷ xs) ys (suc k) x h = kept_at xs ys k x h

module _ (keys more : List KeyTree) where
  row_grown : {k : ℕ} {Ps : List TypeTree} {A B : TypeTree} → RowTyped keys k Ps A B → RowTyped (keys ++ more) k Ps A B
  row_grown {k} r = record { expr = r.expr; is_row = kept_at keys more k _ r.is_row; is_typed = r.is_typed }

  row_kept : {k : ℕ} {Ps : List TypeTree} {A B : TypeTree} → RowTyped keys k Ps A B → row_expression (keys ++ more) k ≡ row_expression keys k
  row_kept {k} r = ap expression_in (kept_at keys more k _ r.is_row ∙ sym r.is_row)

  mutual
    kept : {M : TypeTree → Type 0} {Ps : List TypeTree} {Os : List Arrow} {net : Network ℕ} {A B : TypeTree} → Typed (RowTyped keys) M Ps Os net A B
        → network_by (keys ++ more) net ≡ network_by keys net
    kept (T.arr_typed e) = ap arr (row_kept e)
    kept (T.seq_typed f g) = ap₂ seq (kept f) (kept g)
    kept (T.first_typed f m) = ap first (kept f)
    kept (T.par_typed l u fs m) = ap par (all_kept fs)
    kept (T.loop_typed c m f) = ap₂ loop_pre (row_kept c) (kept f)
    kept (T.i_pre_typed c) = ap i_pre (row_kept c)
    kept (T.delay_typed {q = q} l u c) = ap (delay q) (row_kept c)
    kept (T.hold_typed c) = ap hold (row_kept c)
    kept (T.accum_typed z m g n) = ap₂ accum_by (row_kept g) (row_kept z)
    kept (T.after_typed {q = q} u c m) = ap (after q) (row_kept c)
    kept (T.repeatedly_typed {q = q} l u c m) = ap (repeatedly q) (row_kept c)
    kept T.time_typed = refl
    kept T.integral_typed = refl
    kept (T.switch_typed {tm = tm} f t) = ap₂ (switch tm) (kept f) (kept t)
    kept (T.r_switch_typed {tm = tm} f t) = ap₂ (r_switch tm) (kept f) (kept t)
    kept (T.k_switch_typed f m e t) = let a = kept f in let b = kept e in let c = kept t in λ i. k_switch (a i) (b i) (c i)
    kept (T.p_switch_typed l u m r fs n e t) = let a = all_kept fs in let b = kept e in let c = kept t in λ i. p_switch (row_kept r i) (a i) (b i) (c i)
    kept (T.old_typed o) = refl
    kept (T.initial_out_typed c f) = ap₂ initial_out (row_kept c) (kept f)
    kept (T.initial_in_typed c f) = ap₂ initial_in (row_kept c) (kept f)
    kept (T.rp_switch_typed l u fs m t n) = let a = all_kept fs in let b = kept t in λ i. rp_switch (a i) (row_kept m i) (b i)

    all_kept : {M : TypeTree → Type 0} {Ps : List TypeTree} {Os : List Arrow} {fs : Networks ℕ} {A B : TypeTree}
        → AllTyped (RowTyped keys) M Ps Os fs A B → map_networks (row_expression (keys ++ more)) fs ≡ map_networks (row_expression keys) fs
    all_kept T.no_members_typed = refl
    all_kept (T.and_member_typed f fs) = ap₂ and_member (kept f) (all_kept fs)

pub grown_table : GrownTableLaw
grown_table keys more b h = ((h.0, map_typed (λ k Ps A B r. row_grown keys more r) (λ A m. m) h.1, h.2), kept keys more h.1)
