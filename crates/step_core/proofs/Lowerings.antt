-- A network with the rows of its expressions in their place is one of rows for the same types.
use Rattle.std.proofs.Common.{◌≡◌, ◌≢◌, ◌≤◌, ℕ, suc, List, [], ◌∷◌, ◌++◌, map, Option, Some, None, slice_get, refl, sym, ap, ap₂, ◌∙◌, subst, append_assoc, append-nil, Contains, inl, inr, Result, Ok, Err, IfErr, OnOk, length}
use Rattle.std.proofs.lemmas.Option.{slice_get_within, get_or_from_slice_get}
use Rattle.std.proofs.lemmas.List.Elements.{All-cons, All-nil, Contains-get_or}
use Rattle.sample_core.specs.TypeTree.{TypeTree, unit_ty, int_ty, pair_ty, event_ty, list_ty}
use Rattle.leaf_core.specs.Expression.{Expression}
use Rattle.leaf_core.specs.ExpressionTyping.{ExpressionTyped}
use Rattle.leaf_core.specs.ExpressionView.{expression_of}
use Rattle.leaf_core.specs.KeyTree.{KeyTree}
use Rattle.leaf_core.specs.declared.expr.Expr.{Expr}
use Rattle.leaf_table.specs.declared.table.LeafId.{LeafId}
use Rattle.net_syntax.specs.Leaves.{Need, need_at, LeavesOf, leaves_by, member_leaves_by}
use Rattle.net_tree.specs.Network.{Network, Networks, arr, seq, first, par, loop_pre, initial_out, initial_in, i_pre, delay, hold, accum_by, after, repeatedly, time, integral, switch, r_switch, rp_switch, k_switch, p_switch, old, networks_of, no_members, and_member, map_networks}
use Rattle.net_tree.specs.NetworkView.{members_of}
use Rattle.net_tree.specs.Place.{◌>>=◌}
use Rattle.net_meaning.specs.Typing.{Arrow, arrow, copies, members, Typed, AllTyped, AnyType, arr_typed, seq_typed, first_typed, par_typed, loop_typed, i_pre_typed, delay_typed, hold_typed, accum_typed, after_typed, repeatedly_typed, time_typed, integral_typed, switch_typed, r_switch_typed, k_switch_typed, p_switch_typed, old_typed, initial_out_typed, initial_in_typed, rp_switch_typed, no_members_typed, and_member_typed}
use Rattle.net_meaning.specs.TypedNetwork.{TypedNetwork, NetTyped}
use Rattle.net_tree.specs.Weight.{weight}
use Rattle.net_tree.specs.declared.net.Net.{Net}
use Rattle.net_tree.proofs.MappedMeasures.{weight_map}
use Rattle.state_core.specs.RowsView.{row_number, rows_in}
use Rattle.step_core.specs.RowTyping.{RowTyped, RowsTyped, row_expression, network_by, expression_in}
use Rattle.step_core.specs.Lookup.{AllFound, FirstMissing, Misses, MissesIn, Names, RowsOf, no_rows, and_row, AddsRows}
use Rattle.step_core.specs.Lowering.{Filled, fill, fill_leaf, fill_members, both, AddsMembers}
use Rattle.step_core.specs.declared.fault.BindFault.{BindFault}
use Rattle.step_core.specs.declared.fault.BindFault.TheVariants as F

members_rows : (items : List (Net LeafId)) → map_networks row_number (members_of items) ≡ networks_of (map rows_in items)
members_rows [] = refl
members_rows (n ∷ items) = ap (and_member (rows_in n)) (members_rows items)

-- the members that were added to none are all
pub all_filled : (fs gs : Networks Expr) (ks rest : List ℕ) (items : List (Net LeafId)) (ms : Networks LeafId) (before : List (Network ℕ))
    → gs ≡ fs → ms ≡ members_of items → before ≡ [] → AddsMembers (fill_members (map_networks expression_of gs) ks) before (map rows_in items) rest
    → fill_members (map_networks expression_of fs) ks ≡ Some (map_networks row_number ms, rest)
all_filled fs gs ks rest items ms before same all nothing (ns, is, now) =
    ap (λ o. fill_members (map_networks expression_of o) ks) (sym same) ∙ is
    ∙ ap (λ o. Some (o, rest)) (ap networks_of (sym (now ∙ ap (λ o. o ++ ns) nothing)) ∙ sym (members_rows items) ∙ ap (map_networks row_number) (sym all))

module _ (keys : List KeyTree) where
  -- the rows of two lists of needs are those of the first, and then those of the second
  split_rows : (ms os : List Need) (ks : List ℕ) → RowsOf keys (ms ++ os) ks
      → (is : List ℕ) × (js : List ℕ) × RowsOf keys ms is × RowsOf keys os js × (ks ≡ is ++ js)
  split_rows [] os ks h = ([], ks, no_rows, h, refl)
  split_rows (m ∷ ms) os [] h = elim h [ ]
  split_rows (m ∷ ms) os (k ∷ ks) (and_row e h) =
      let s = split_rows ms os ks h in
      (k ∷ s.0, s.1, and_row e s.2, s.3, ap (λ o. k ∷ o) s.4)

  -- with the rows of these needs in front, what is filled is such as P says, and the other rows are left
  abbrev Fills : {X : Type 0} → List Need → (X → Type 0) → (List ℕ → Filled X) → Type 0
  Fills {X} ns P F = (ks rest : List ℕ) → RowsOf keys ns ks → (x : X) × P x × (F (ks ++ rest) ≡ Some (x, rest))

  one_more : {X Y : Type 0} (ms os : List Need) (P : X → Type 0) (Q : Y → Type 0) (F : List ℕ → Filled X) (G : X → List ℕ → Filled Y) → Fills ms P F
      → ((x : X) → P x → Fills os Q (G x)) → Fills (ms ++ os) Q (λ ks. F ks >>= (λ a. G a.0 a.1))
  one_more ms os P Q F G hf hg ks rest rows =
      let s = split_rows ms os ks rows in
      let a = hf s.0 (s.1 ++ rest) s.2 in
      let b = hg a.0 a.1 s.1 rest s.3 in (
        b.0,
        b.1,
        ap (λ o. F (o ++ rest) >>= (λ c. G c.0 c.1)) s.4 ∙ ap (λ o. F o >>= (λ c. G c.0 c.1)) (append_assoc s.0 s.1 rest)
            ∙ ap (λ o. o >>= (λ c. G c.0 c.1)) a.2 ∙ b.2,
      )

  made : {X Y : Type 0} (ms : List Need) (P : X → Type 0) (Q : Y → Type 0) (F : List ℕ → Filled X) (f : X → Y) → Fills ms P F → ((x : X) → P x → Q (f x))
      → Fills ms Q (λ ks. F ks >>= (λ a. Some (f a.0, a.1)))
  made ms P Q F f hf hq ks rest rows =
      let a = hf ks rest rows in (f a.0, hq a.0 a.1, ap (λ o. o >>= (λ b. Some (f b.0, b.1))) a.2)

  none : (ks : List ℕ) → RowsOf keys [] ks → ks ≡ []
  none [] rows = refl
  none (k ∷ ks) rows = elim rows [ ]

  -- a row for an expression at its types
  leaf : (Ps : List TypeTree) (at : List ℕ) (i : ℕ) (e : Expression) (A B : TypeTree) → ExpressionTyped e Ps A B
      → Fills (need_at at i e Ps A B ∷ []) (λ k. RowTyped keys k Ps A B × (row_expression keys k ≡ e)) fill_leaf
  leaf Ps at i e A B h [] rest rows = elim rows [ ]
  leaf Ps at i e A B h (k ∷ ks) rest (and_row is more) =
      (k, (record { expr = e; is_row = is; is_typed = h }, ap expression_in is), ap (λ o. Some (k, o ++ rest)) (none ks more))

  -- a network of rows for a network at its types
  abbrev IsRows : List TypeTree → List Arrow → Network Expression → TypeTree → TypeTree → Network ℕ → Type 0
  IsRows Ps Os net A B low = Typed (RowTyped keys) AnyType Ps Os low A B × (network_by keys low ≡ net)

  -- members of rows for as many members at their types
  abbrev AreRows : List TypeTree → List Arrow → Networks Expression → TypeTree → TypeTree → Networks ℕ → Type 0
  AreRows Ps Os fs A B lows =
      AllTyped (RowTyped keys) AnyType Ps Os lows A B × (map_networks (row_expression keys) lows ≡ fs) × (members lows ≡ members fs)

  -- two networks, one behind the other
  two : (ms os : List Need) (P Q : Network ℕ → Type 0) (f g : Network Expression) → Fills ms P (fill f) → Fills os Q (fill g)
      → Fills (ms ++ os) (λ p. P p.0 × Q p.1) (λ ks. fill f ks >>= (λ a. fill g a.1 >>= (λ b. both a.0 b.0 b.1)))
  two ms os P Q f g hf hg = one_more ms os P (λ p. P p.0 × Q p.1) (fill f) (λ a ks. fill g ks >>= (λ b. both a b.0 b.1)) hf
      (λ a pa. made os Q (λ p. P p.0 × Q p.1) (fill g) (λ b. (a, b)) hg (λ b pb. (pa, pb)))

  -- a network of two
  pair : (ms os : List Need) (P Q R : Network ℕ → Type 0) (f g : Network Expression) (make : Network ℕ → Network ℕ → Network ℕ) → Fills ms P (fill f)
      → Fills os Q (fill g) → ((a b : Network ℕ) → P a → Q b → R (make a b))
      → Fills (ms ++ os) R (λ ks. fill f ks >>= (λ a. fill g a.1 >>= (λ b. Some (make a.0 b.0, b.1))))
  pair ms os P Q R f g make hf hg hr = one_more ms os P R (fill f) (λ a ks. fill g ks >>= (λ b. Some (make a b.0, b.1))) hf
      (λ a pa. made os Q R (fill g) (make a) hg (λ b pb. hr a b pa pb))

  mutual
    filled : {Ps : List TypeTree} {Os : List Arrow} {net : Network Expression} {A B : TypeTree} (at : List ℕ) (d : NetTyped Ps Os net A B)
        → Fills (leaves_by at d) (IsRows Ps Os net A B) (fill net)
    filled {A = A} {B = B} at (arr_typed {Ps = Ps} {e = e} h) =
        made (need_at at 0 e Ps A B ∷ []) _ _ fill_leaf arr (leaf Ps at 0 e A B h) (λ k p. (arr_typed p.0, ap arr p.1))
    filled at (i_pre_typed {Ps = Ps} {c = c} {A = A} h) =
        made (need_at at 0 c Ps unit_ty A ∷ []) _ _ fill_leaf i_pre (leaf Ps at 0 c unit_ty A h) (λ k p. (i_pre_typed p.0, ap i_pre p.1))
    filled at (delay_typed {Ps = Ps} {q = q} {c = c} {A = A} l u h) =
        made (need_at at 0 c Ps unit_ty A ∷ []) _ _ fill_leaf (delay q) (leaf Ps at 0 c unit_ty A h) (λ k p. (delay_typed l u p.0, ap (delay q) p.1))
    filled at (hold_typed {Ps = Ps} {c = c} {A = A} h) =
        made (need_at at 0 c Ps unit_ty A ∷ []) _ _ fill_leaf hold (leaf Ps at 0 c unit_ty A h) (λ k p. (hold_typed p.0, ap hold p.1))
    filled at (after_typed {Ps = Ps} {q = q} {c = c} {C = C} u h m) =
        made (need_at at 0 c Ps unit_ty C ∷ []) _ _ fill_leaf (after q) (leaf Ps at 0 c unit_ty C h) (λ k p. (after_typed u p.0 m, ap (after q) p.1))
    filled at (repeatedly_typed {Ps = Ps} {q = q} {c = c} {C = C} l u h m) =
        made (need_at at 0 c Ps unit_ty C ∷ []) _ _ fill_leaf (repeatedly q) (leaf Ps at 0 c unit_ty C h)
        (λ k p. (repeatedly_typed l u p.0 m, ap (repeatedly q) p.1))
    filled at (accum_typed {Ps = Ps} {g = g} {z = z} {V = V} {Z = Z} h m k n) =
        one_more (need_at at 0 g Ps (pair_ty Z V) Z ∷ []) (need_at at 1 z Ps unit_ty Z ∷ []) _ _ fill_leaf
        (λ i ks. fill_leaf ks >>= (λ b. Some (accum_by i b.0, b.1))) (leaf Ps at 0 g (pair_ty Z V) Z k)
        (λ i p. made (need_at at 1 z Ps unit_ty Z ∷ []) _ _ fill_leaf (accum_by i) (leaf Ps at 1 z unit_ty Z h)
        (λ j q. (accum_typed q.0 m p.0 n, ap₂ accum_by p.1 q.1)))
    filled at time_typed = λ ks rest rows. (time, (time_typed, refl), ap (λ o. Some (time, o ++ rest)) (none ks rows))
    filled at integral_typed = λ ks rest rows. (integral, (integral_typed, refl), ap (λ o. Some (integral, o ++ rest)) (none ks rows))
    filled at (old_typed {k = k} o) = λ ks rest rows. (old k, (old_typed o, refl), ap (λ o. Some (old k, o ++ rest)) (none ks rows))
    filled at (seq_typed {f = f} {g = g} df dg) =
        pair _ _ _ _ _ f g seq (filled (at ++ 0 ∷ []) df) (filled (at ++ 1 ∷ []) dg) (λ a b p q. (seq_typed p.0 q.0, ap₂ seq p.1 q.1))
    filled at (switch_typed {tm = tm} {f = f} {t = t} df dt) =
        pair _ _ _ _ _ f t (switch tm) (filled (at ++ 0 ∷ []) df) (filled (at ++ 1 ∷ []) dt)
        (λ a b p q. (switch_typed p.0 q.0, ap₂ (switch tm) p.1 q.1))
    filled at (r_switch_typed {tm = tm} {f = f} {t = t} df dt) =
        pair _ _ _ _ _ f t (r_switch tm) (filled (at ++ 0 ∷ []) df) (filled (at ++ 1 ∷ []) dt)
        (λ a b p q. (r_switch_typed p.0 q.0, ap₂ (r_switch tm) p.1 q.1))
    filled at (first_typed {f = f} df m) = made _ _ _ (fill f) first (filled (at ++ 0 ∷ []) df) (λ a p. (first_typed p.0 m, ap first p.1))
    filled at (loop_typed {Ps = Ps} {c = c} {f = f} {C = C} h m df) =
        one_more (need_at at 0 c Ps unit_ty C ∷ []) _ _ _ fill_leaf (λ i ks. fill f ks >>= (λ b. Some (loop_pre i b.0, b.1))) (leaf Ps at 0 c unit_ty C h)
        (λ i p. made _ _ _ (fill f) (loop_pre i) (filled (at ++ 1 ∷ []) df) (λ b q. (loop_typed p.0 m q.0, ap₂ loop_pre p.1 q.1)))
    filled at (initial_out_typed {Ps = Ps} {c = c} {f = f} {B = B} h df) =
        one_more (need_at at 0 c Ps unit_ty B ∷ []) _ _ _ fill_leaf (λ i ks. fill f ks >>= (λ b. Some (initial_out i b.0, b.1))) (leaf Ps at 0 c unit_ty B h)
        (λ i p. made _ _ _ (fill f) (initial_out i) (filled (at ++ 1 ∷ []) df) (λ b q. (initial_out_typed p.0 q.0, ap₂ initial_out p.1 q.1)))
    filled at (initial_in_typed {Ps = Ps} {c = c} {f = f} {A = A} h df) =
        one_more (need_at at 0 c Ps unit_ty A ∷ []) _ _ _ fill_leaf (λ i ks. fill f ks >>= (λ b. Some (initial_in i b.0, b.1))) (leaf Ps at 0 c unit_ty A h)
        (λ i p. made _ _ _ (fill f) (initial_in i) (filled (at ++ 1 ∷ []) df) (λ b q. (initial_in_typed p.0 q.0, ap₂ initial_in p.1 q.1)))
    filled at (par_typed {fs = fs} l u ds m) =
        made _ _ _ (fill_members fs) par (filled_members at 0 ds)
        (λ a p. (par_typed (subst (λ n. 1 ≤ n) (sym p.2) l) (subst (λ n. n ≤ 64) (sym p.2) u) p.0 m, ap par p.1))
    filled at (k_switch_typed {Ps = Ps} {Os = Os} {f = f} {e = e} {t = t} {A = A} {B = B} {C = C} df m de dt) =
        let R : Network ℕ → Type 0 = IsRows Ps Os (k_switch f e t) A B in
        let E : Network ℕ → Type 0 = IsRows Ps Os e (pair_ty A B) (event_ty C) in
        let T : Network ℕ → Type 0 = IsRows (Ps ++ C ∷ []) (Os ++ arrow A B ∷ []) t A B in
        subst (λ ns. Fills ns R (fill (k_switch f e t)))
        (sym (append_assoc (leaves_by (at ++ 0 ∷ []) df) (leaves_by (at ++ 1 ∷ []) de) (leaves_by (at ++ 2 ∷ []) dt)))
        (one_more (leaves_by (at ++ 0 ∷ []) df) (leaves_by (at ++ 1 ∷ []) de ++ leaves_by (at ++ 2 ∷ []) dt) (IsRows Ps Os f A B) R (fill f)
        (λ a ks. (fill e ks >>= (λ b. fill t b.1 >>= (λ c. both b.0 c.0 c.1))) >>= (λ p. Some (k_switch a p.0.0 p.0.1, p.1))) (filled (at ++ 0 ∷ []) df)
        (λ a p. made (leaves_by (at ++ 1 ∷ []) de ++ leaves_by (at ++ 2 ∷ []) dt) (λ q. E q.0 × T q.1) R
        (λ ks. fill e ks >>= (λ b. fill t b.1 >>= (λ c. both b.0 c.0 c.1))) (λ q. k_switch a q.0 q.1)
        (two (leaves_by (at ++ 1 ∷ []) de) (leaves_by (at ++ 2 ∷ []) dt) E T e t (filled (at ++ 1 ∷ []) de) (filled (at ++ 2 ∷ []) dt))
        (λ q r. (
          k_switch_typed p.0 m r.0.0 r.1.0,
          λ i. k_switch (p.1 i) (r.0.1 i) (r.1.1 i),
        ))))
    filled at (p_switch_typed {Ps = Ps} {Os = Os} {r = r} {fs = fs} {e = e} {t = t} {A = A} {B = B} {C = C} {D = D} l u m h ds n de dt) =
        let R : Network ℕ → Type 0 = IsRows Ps Os (p_switch r fs e t) A (list_ty B) in
        let E : Network ℕ → Type 0 = IsRows Ps Os e (pair_ty A (list_ty B)) (event_ty C) in
        let T : Network ℕ → Type 0 = IsRows (Ps ++ C ∷ []) (Os ++ copies (members fs) (arrow D B)) t A (list_ty B) in
        let M : Networks ℕ → Type 0 = AreRows Ps Os fs D B in
        let here : Need = need_at at 0 r Ps (pair_ty A int_ty) D in
        let ms : List Need = member_leaves_by at 1 ds in
        let es : List Need = leaves_by (at ++ suc (members fs) ∷ []) de in
        let ts : List Need = leaves_by (at ++ suc (suc (members fs)) ∷ []) dt in
        subst (λ ns. Fills (here ∷ ns) R (fill (p_switch r fs e t))) (sym (append_assoc ms es ts))
        (one_more (here ∷ []) (ms ++ (es ++ ts)) (λ k. RowTyped keys k Ps (pair_ty A int_ty) D × (row_expression keys k ≡ r)) R fill_leaf
        (λ k ks. fill_members fs ks >>= (λ a. (fill e a.1 >>= (λ b. fill t b.1 >>= (λ c. both b.0 c.0 c.1))) >>= (λ p. Some (p_switch k a.0 p.0.0 p.0.1, p.1))))
        (leaf Ps at 0 r (pair_ty A int_ty) D h)
        (λ k z. one_more ms (es ++ ts) M R (fill_members fs)
        (λ a ks. (fill e ks >>= (λ b. fill t b.1 >>= (λ c. both b.0 c.0 c.1))) >>= (λ p. Some (p_switch k a p.0.0 p.0.1, p.1))) (filled_members at 1 ds)
        (λ a p. made (es ++ ts) (λ q. E q.0 × T q.1) R (λ ks. fill e ks >>= (λ b. fill t b.1 >>= (λ c. both b.0 c.0 c.1))) (λ q. p_switch k a q.0 q.1)
        (two es ts E T e t (filled (at ++ suc (members fs) ∷ []) de) (filled (at ++ suc (suc (members fs)) ∷ []) dt))
        (λ q s. (
          p_switch_typed (subst (λ j. 1 ≤ j) (sym p.2) l) (subst (λ j. j ≤ 64) (sym p.2) u) m z.0 p.0 n s.0.0
              (subst (λ j. Typed (RowTyped keys) AnyType (Ps ++ C ∷ []) (Os ++ copies j (arrow D B)) q.1 A (list_ty B)) (sym p.2) s.1.0),
          λ i. p_switch (z.1 i) (p.1 i) (s.0.1 i) (s.1.1 i),
        )))))
    filled at (rp_switch_typed {Ps = Ps} {Os = Os} {fs = fs} {m = m} {t = t} {D = D} {B = B} {C = C} {V = V} l u ds h dt n) =
        let R : Network ℕ → Type 0 = IsRows Ps Os (rp_switch fs m t) (pair_ty D (event_ty C)) (list_ty B) in
        let T : Network ℕ → Type 0 = IsRows (Ps ++ V ∷ []) Os t D B in
        let M : Networks ℕ → Type 0 = AreRows Ps Os fs D B in
        let K : TypeTree = pair_ty (list_ty int_ty) (list_ty V) in
        let here : Need = need_at at (members fs) m Ps C K in
        let ts : List Need = leaves_by (at ++ suc (members fs) ∷ []) dt in
        one_more (member_leaves_by at 0 ds) (here ∷ ts) M R (fill_members fs)
        (λ a ks. fill_leaf ks >>= (λ b. fill t b.1 >>= (λ c. Some (rp_switch a b.0 c.0, c.1)))) (filled_members at 0 ds)
        (λ a p. one_more (here ∷ []) ts (λ k. RowTyped keys k Ps C K × (row_expression keys k ≡ m)) R fill_leaf
        (λ k ks. fill t ks >>= (λ c. Some (rp_switch a k c.0, c.1))) (leaf Ps at (members fs) m C K h)
        (λ k z. made ts T R (fill t) (rp_switch a k) (filled (at ++ suc (members fs) ∷ []) dt) (λ b s. (
          rp_switch_typed (subst (λ j. 1 ≤ j) (sym p.2) l) (subst (λ j. j ≤ 64) (sym p.2) u) p.0 z.0 s.0 n,
          λ i. rp_switch (p.1 i) (z.1 i) (s.1 i),
        ))))

    filled_members : {Ps : List TypeTree} {Os : List Arrow} {fs : Networks Expression} {A B : TypeTree} (at : List ℕ) (k : ℕ)
        (ds : AllTyped ExpressionTyped AnyType Ps Os fs A B) → Fills (member_leaves_by at k ds) (AreRows Ps Os fs A B) (fill_members fs)
    filled_members at k no_members_typed = λ ks rest rows. (no_members, (no_members_typed, refl, refl), ap (λ o. Some (no_members, o ++ rest)) (none ks rows))
    filled_members at k (and_member_typed {f = f} {fs = fs} d ds) =
        one_more _ _ _ _ (fill f) (λ a ks. fill_members fs ks >>= (λ b. Some (and_member a b.0, b.1))) (filled (at ++ k ∷ []) d)
        (λ a p. made _ _ _ (fill_members fs) (and_member a) (filled_members at (suc k) ds)
        (λ b q. (and_member_typed p.0 q.0, ap₂ and_member p.1 q.1, ap suc q.2)))

  -- a key that has a row
  has_row : (k : ℕ) (key : KeyTree) → slice_get keys k ≡ Some key → Contains keys key
  has_row k key e = subst (Contains keys) (get_or_from_slice_get keys k key key e) (Contains-get_or keys k key (slice_get_within keys k key e))

  all_found : (ns : List Need) (ks : List ℕ) → RowsOf keys ns ks → AllFound keys ns
  all_found [] ks rows = All-nil (λ (n : Need). Contains keys n.key)
  all_found (n ∷ ns) [] rows = elim rows [ ]
  all_found (n ∷ ns) (k ∷ ks) (and_row e rows) =
      All-cons (λ (m : Need). Contains keys m.key) n ns (has_row k n.key e) (all_found ns ks rows)

  -- one need's row, and then those of the others
  pub row_added : (n : Need) (ns : List Need) (k : ℕ) (before middle now : List ℕ) → slice_get keys k ≡ Some n.key → middle ≡ before ++ k ∷ []
      → AddsRows keys ns middle now → AddsRows keys (n ∷ ns) before now
  row_added n ns k before middle now e m (ks, rows, is) =
      (k ∷ ks, and_row e rows, is ∙ ap (λ o. o ++ ks) m ∙ append_assoc before (k ∷ []) ks)

  -- a need behind one that has a row has none
  pub missed_later : (n : Need) (ns : List Need) (k : ℕ) (fault : BindFault) → slice_get keys k ≡ Some n.key → Misses keys ns fault
      → Misses keys (n ∷ ns) fault
  missed_later n ns k (F.MissingLeaf p) e h = inr (has_row k n.key e, h)
  missed_later n ns k F.Memory e h = tt

  -- the first need, where it has no row
  pub first_missed : (n : Need) (ns : List Need) (fault : BindFault) → (Contains keys n.key → ⊥) → Names n.position fault
      → Misses keys (n ∷ ns) fault
  first_missed n ns (F.MissingLeaf p) e h = inl (e, h)
  first_missed n ns F.Memory e h = tt

  -- the network of rows that a whole typed network is lowered to
  pub record LoweredTo (t : TypedNetwork) (net : Network Expression) (rows : List ℕ) : Type 0 where
    pub low : Network ℕ
    pub typed : RowsTyped keys low t.input t.output
    pub same : network_by keys low ≡ t.net
    pub filled : fill net rows ≡ Some (low, [])

  pub whole_lowered : (t : TypedNetwork) (net : Network Expression) (ns : List Need) (rows : List ℕ) → net ≡ t.net → LeavesOf t ns
      → AddsRows keys ns [] rows → LoweredTo t net rows
  whole_lowered t net ns rows same (d, is) (ks, of, now) =
      let low = filled [] d ks [] (subst (λ o. RowsOf keys o ks) is of) in
      record {
        low = low.0;
        typed = low.1.0;
        same = low.1.1;
        filled = ap (λ o. fill o rows) same ∙ ap (fill t.net) (now ∙ sym (append-nil ks)) ∙ low.2;
      }

  pub all_rows_found : (ns : List Need) (before rows : List ℕ) → AddsRows keys ns before rows → AllFound keys ns
  all_rows_found ns before rows (ks, of, now) = all_found ns ks of

pub on_ok : {A E : Type 0} (r : Result A E) (P Q : Type 0) → (P → Q) → OnOk r P → OnOk r Q
on_ok (Ok x) P Q f h = f h
on_ok (Err e) P Q f h = h

pub if_err : {A E : Type 0} (r : Result A E) (P Q : E → Type 0) → ((x : E) → P x → Q x) → IfErr r P → IfErr r Q
if_err (Ok x) P Q f h = h
if_err (Err e) P Q f h = f e h

-- a refusal of the whole network's needs is one of the network
pub missed_in : (keys : List KeyTree) (t : TypedNetwork) (ns ms : List Need) (fault : BindFault) → ms ≡ ns → LeavesOf t ns → Misses keys ms fault
    → MissesIn keys t fault
missed_in keys t ns ms (F.MissingLeaf p) same l h = (ns, l, subst (λ o. FirstMissing keys o p) same h)
missed_in keys t ns ms F.Memory same l h = tt

pub found_some : {X : Type 0} (w : Option X) (x : X) → w ≡ Some x → w ≢ None
found_some w x is none = cc

abbrev value_left : {X Y : Type 0} → X → Option (X × Y) → X
value_left z (Some p) = p.0
value_left z None = z

pub one_answer : {X Y : Type 0} (w : Option (X × Y)) (x z : X) (y u : Y) → w ≡ Some (x, y) → w ≡ Some (z, u) → x ≡ z
one_answer w x z y u a b = ap (value_left x) (sym a ∙ b)

pub nothing_there : {X : Type 0} (xs : List X) → length xs ≡ 0 → xs ≡ []
nothing_there [] h = refl
nothing_there (x ∷ xs) h = cc

-- a network of rows weighs what the network of their expressions weighs
pub light_rows : (keys : List KeyTree) (t : TypedNetwork) (low : Network ℕ) → network_by keys low ≡ t.net → weight t.net [] ≤ 1000000
    → weight low [] ≤ 1000000
light_rows keys t low same light =
    subst (λ n. n ≤ 1000000) (ap (λ o. weight o []) (sym same) ∙ weight_map (row_expression keys) low []) light
