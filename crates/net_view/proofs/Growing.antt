-- Where a part gets no more than so much greater, the whole is there with it, and does so too, by any measure that is made node by
-- node: so much is what a function allows of each number.
use Rattle.std.proofs.Common.{◌≡◌, ℕ, zero, suc, ◌+◌, ◌≤◌, List, [], ◌∷◌, ◌++◌, length, get_or, Option, Some, None, option_map, refl, sym, ap, subst, arith}
use Rattle.std.proofs.lemmas.Option.{none-some, same_Some}
use Rattle.std.proofs.lemmas.List.{length-append}
use Rattle.leaf_core.specs.Expression.{Expression}
use Rattle.leaf_core.specs.Parts.{part_at}
use Rattle.net_tree.specs.Network.{Network, Networks, at_once, delayed, arr, seq, first, par, loop_pre, i_pre, delay, hold, accum_by, after, repeatedly, switch, r_switch, k_switch, p_switch, old, initial_out, initial_in, rp_switch, no_members, and_member}
use Rattle.net_tree.specs.Place.{◌>>=◌, Tree, a_network, a_leaf, member, child, child_network, collection_child, PSwitchChild, p_switch_child, member_child, event_child, continuation_child, no_child}
use Rattle.net_meaning.specs.Typing.{members}
use Rattle.net_syntax.specs.Placed.{Placed, placed, placed_at, bound_in, bound_behind, bound_started, with_member, with_child, with_p_switch_child, with_collection_child, replaced}
use Rattle.net_syntax.proofs.Splits.{onward}
use Rattle.net_view.proofs.Putting.{Has, put_at}

-- how a node's measure is made of those of its parts: of members, of two networks, of one and what takes its place one sample late,
-- and of a collection's continuation and members
pub record Measure : Type 0 where
  pub members : List ℕ → ℕ
  pub two : ℕ → ℕ → ℕ
  pub late : ℕ → ℕ → ℕ
  pub collection : ℕ → List ℕ → ℕ

abbrev mutual
  -- the measure of a network; that of what is frozen is in ws
  pub measured : Measure → Network Expression → List ℕ → ℕ
  measured M (seq f g) ws = suc (M.two (measured M f ws) (measured M g ws))
  measured M (first f) ws = suc (measured M f ws)
  measured M (par fs) ws = suc (M.members (measures M fs ws))
  measured M (loop_pre c f) ws = suc (measured M f ws)
  measured M (switch tm f t) ws = suc (M.two (measured M f ws) (measured M t ws))
  measured M (r_switch at_once f t) ws = suc (M.two (measured M f ws) (measured M t ws))
  measured M (r_switch delayed f t) ws = suc (M.late (measured M f ws) (measured M t ws))
  measured M (k_switch f e t) ws = suc (M.two (M.two (measured M f ws) (measured M e ws)) (measured M t (ws ++ measured M f ws ∷ [])))
  measured M (p_switch r fs e t) ws = suc (M.two (M.two (M.members (measures M fs ws)) (measured M e ws)) (measured M t (ws ++ measures M fs ws)))
  measured M (old k) ws = suc (get_or ws k 0)
  measured M (initial_out c f) ws = suc (measured M f ws)
  measured M (initial_in c f) ws = suc (measured M f ws)
  measured M (rp_switch fs m t) ws = suc (M.collection (measured M t ws) (measures M fs ws))
  measured M _ ws = 1

  -- that of each member
  pub measures : Measure → Networks Expression → List ℕ → List ℕ
  measures M no_members ws = []
  measures M (and_member f fs) ws = measured M f ws ∷ measures M fs ws

-- each member has one
many : (M : Measure) (fs : Networks Expression) (ws : List ℕ) → length (measures M fs ws) ≡ members fs
many M no_members ws = refl
many M (and_member f fs) ws = ap suc (many M fs ws)

-- lists of one length, each number at most what B allows of the other
pub data Under (B : ℕ → ℕ) : List ℕ → List ℕ → Type 0 where
  none_under : Under B [] []
  one_under : {x y : ℕ} {xs ys : List ℕ} → x ≤ B y → Under B xs ys → Under B (x ∷ xs) (y ∷ ys)

-- what B allows of the parts' numbers it allows of the node's
pub record Allows (M : Measure) (B : ℕ → ℕ) : Type 0 where
  pub one_more : (a : ℕ) → suc (B a) ≤ B (suc a)
  pub two_grow : (a b x y : ℕ) → a ≤ B x → b ≤ B y → M.two a b ≤ B (M.two x y)
  pub late_grow : (a b x y : ℕ) → a ≤ B x → b ≤ B y → M.late a b ≤ B (M.late x y)
  pub members_grow : {us ws : List ℕ} → Under B us ws → M.members us ≤ B (M.members ws)
  pub collection_grows : (a x : ℕ) {us ws : List ℕ} → a ≤ B x → Under B us ws → M.collection a us ≤ B (M.collection x ws)

module _ (M : Measure) (B : ℕ → ℕ) (allowed : Allows M B) where
  under_joined : {us ws vs xs : List ℕ} → Under B us ws → Under B vs xs → Under B (us ++ vs) (ws ++ xs)
  under_joined none_under k = k
  under_joined (one_under h hs) k = one_under h (under_joined hs k)

  under_at : {us ws : List ℕ} → Under B us ws → (k : ℕ) → get_or us k 0 ≤ B (get_or ws k 0)
  under_at none_under k = omega arith
  under_at (one_under h hs) zero = h
  under_at (one_under h hs) (suc k) = under_at hs k

  -- a node over one, two and three of these
  over_one : (x y : ℕ) → x ≤ B y → suc x ≤ B (suc y)
  over_one x y h = omega (arith, h, allowed.one_more y)

  over_two : (a b x y : ℕ) → a ≤ B x → b ≤ B y → suc (M.two a b) ≤ B (suc (M.two x y))
  over_two a b x y h k = over_one (M.two a b) (M.two x y) (allowed.two_grow a b x y h k)

  over_three : (a b c x y z : ℕ) → a ≤ B x → b ≤ B y → c ≤ B z → suc (M.two (M.two a b) c) ≤ B (suc (M.two (M.two x y) z))
  over_three a b c x y z h k l = over_two (M.two a b) c (M.two x y) z (allowed.two_grow a b x y h k) l

  over_late : (a b x y : ℕ) → a ≤ B x → b ≤ B y → suc (M.late a b) ≤ B (suc (M.late x y))
  over_late a b x y h k = over_one (M.late a b) (M.late x y) (allowed.late_grow a b x y h k)

  over_collection : (a x : ℕ) {us ws : List ℕ} → a ≤ B x → Under B us ws → suc (M.collection a us) ≤ B (suc (M.collection x ws))
  over_collection a x {us = us} {ws = ws} h u = over_one (M.collection a us) (M.collection x ws) (allowed.collection_grows a x h u)

  over_none : 1 ≤ B 1
  over_none = omega (arith, allowed.one_more 0)

  mutual
    -- what is frozen measures that much
    under : (net : Network Expression) {us ws : List ℕ} → Under B us ws → measured M net us ≤ B (measured M net ws)
    under (seq f g) {us = us} {ws = ws} u = over_two (measured M f us) (measured M g us) (measured M f ws) (measured M g ws) (under f u) (under g u)
    under (first f) {us = us} {ws = ws} u = over_one (measured M f us) (measured M f ws) (under f u)
    under (par fs) {us = us} {ws = ws} u = over_one (M.members (measures M fs us)) (M.members (measures M fs ws)) (allowed.members_grow (all_under fs u))
    under (loop_pre c f) {us = us} {ws = ws} u = over_one (measured M f us) (measured M f ws) (under f u)
    under (switch tm f t) {us = us} {ws = ws} u = over_two (measured M f us) (measured M t us) (measured M f ws) (measured M t ws) (under f u) (under t u)
    under (r_switch at_once f t) {us = us} {ws = ws} u = over_two (measured M f us) (measured M t us) (measured M f ws) (measured M t ws) (under f u) (under t u)
    under (r_switch delayed f t) {us = us} {ws = ws} u = over_late (measured M f us) (measured M t us) (measured M f ws) (measured M t ws) (under f u) (under t u)
    under (k_switch f e t) {us = us} {ws = ws} u =
        over_three (measured M f us) (measured M e us) (measured M t (us ++ measured M f us ∷ [])) (measured M f ws) (measured M e ws) (measured M t (ws ++ measured M f ws ∷ []))
        (under f u) (under e u) (under t (under_joined u (one_under (under f u) none_under)))
    under (p_switch r fs e t) {us = us} {ws = ws} u =
        over_three (M.members (measures M fs us)) (measured M e us) (measured M t (us ++ measures M fs us)) (M.members (measures M fs ws)) (measured M e ws) (measured M t (ws ++ measures M fs ws))
        (allowed.members_grow (all_under fs u)) (under e u) (under t (under_joined u (all_under fs u)))
    under (old k) {us = us} {ws = ws} u = over_one (get_or us k 0) (get_or ws k 0) (under_at u k)
    under (initial_out c f) {us = us} {ws = ws} u = over_one (measured M f us) (measured M f ws) (under f u)
    under (initial_in c f) {us = us} {ws = ws} u = over_one (measured M f us) (measured M f ws) (under f u)
    under (rp_switch fs m t) {us = us} {ws = ws} u =
        over_collection (measured M t us) (measured M t ws) (under t u) (all_under fs u)
    under _ u = over_none

    all_under : (fs : Networks Expression) {us ws : List ℕ} → Under B us ws → Under B (measures M fs us) (measures M fs ws)
    all_under no_members u = none_under
    all_under (and_member f fs) u = one_under (under f u) (all_under fs u)

  -- with so many frozen networks in scope, the second tree is of the first one's kind, and measures at most what B allows of that
  abbrev Within : ℕ → Tree Expression → Tree Expression → Type 0
  Within n (a_network g) (a_network h) = (us ws : List ℕ) → Under B us ws → length ws ≡ n → measured M h us ≤ B (measured M g ws)
  Within n (a_leaf e) (a_leaf s) = Unit {0}
  Within n _ _ = ⊥

  abbrev AllWithin : ℕ → Networks Expression → Networks Expression → Type 0
  AllWithin n fs gs = (us ws : List ℕ) → Under B us ws → length ws ≡ n → Under B (measures M gs us) (measures M fs ws)

  member_within : (n : ℕ) (fs : Networks Expression) (k : ℕ) (s : Network Expression) → Has (member fs k) (λ g. Within n (a_network g) (a_network s))
      → Has (with_member fs k s) (AllWithin n fs)
  member_within n no_members k s h = h
  member_within n (and_member f fs) zero s h = λ us ws u l. one_under (h us ws u l) (all_under fs u)
  member_within n (and_member f fs) (suc k) s h = go (with_member fs k s) (member_within n fs k s h)
    where
      go : (o : Option (Networks Expression)) → Has o (AllWithin n fs) → Has (option_map (and_member f) o) (AllWithin n (and_member f fs))
      go None h = h
      go (Some gs) h = λ us ws u l. one_under (under f u) (h us ws u l)

  a_member : (n : ℕ) (s : Network Expression) (o : Option (Network Expression)) → Has (option_map a_network o) (λ c. Within n c (a_network s))
      → Has o (λ g. Within n (a_network g) (a_network s))
  a_member n s None h = h
  a_member n s (Some g) h = h

  no_member : (n : ℕ) (s : Expression) (o : Option (Network Expression)) → Has (option_map a_network o) (λ c. Within n c (a_leaf s)) → ⊥
  no_member n s None h = h
  no_member n s (Some g) h = h

  -- the network with another child
  abbrev ChildWithin : ℕ → Network Expression → ℕ → Tree Expression → Type 0
  ChildWithin n f k d =
      Has (child f k) (λ c. Within (n + (bound_in f k).olds) c d) → Has (with_child f k d) (λ v. Within n (a_network f) (a_network v))

  same_scope : (n : ℕ) (ws : List ℕ) → length ws ≡ n → length ws ≡ n + 0
  same_scope n ws l = omega (arith, l)

  child_within : (n : ℕ) (f : Network Expression) (k : ℕ) (d : Tree Expression) → ChildWithin n f k d
  child_within n (arr e) zero (a_leaf s) h = λ us ws u l. over_none
  child_within n (seq f g) zero (a_network s) h = λ us ws u l.
      over_two (measured M s us) (measured M g us) (measured M f ws) (measured M g ws) (h us ws u (same_scope n ws l)) (under g u)
  child_within n (seq f g) (suc zero) (a_network s) h = λ us ws u l.
      over_two (measured M f us) (measured M s us) (measured M f ws) (measured M g ws) (under f u) (h us ws u (same_scope n ws l))
  child_within n (first f) zero (a_network s) h = λ us ws u l. over_one (measured M s us) (measured M f ws) (h us ws u (same_scope n ws l))
  child_within n (par fs) k (a_network s) h = put (with_member fs k s) (member_within (n + 0) fs k s (a_member (n + 0) s (member fs k) h))
    where
      put : (o : Option (Networks Expression)) → Has o (AllWithin (n + 0) fs) → Has (option_map par o) (λ v. Within n (a_network (par fs)) (a_network v))
      put None h = h
      put (Some gs) h = λ us ws u l. over_one (M.members (measures M gs us)) (M.members (measures M fs ws)) (allowed.members_grow (h us ws u (same_scope n ws l)))
  child_within n (par fs) k (a_leaf s) h = no_member (n + 0) s (member fs k) h
  child_within n (loop_pre c f) zero (a_leaf s) h = λ us ws u l. under (loop_pre c f) u
  child_within n (loop_pre c f) (suc zero) (a_network s) h = λ us ws u l. over_one (measured M s us) (measured M f ws) (h us ws u (same_scope n ws l))
  child_within n (i_pre c) zero (a_leaf s) h = λ us ws u l. over_none
  child_within n (delay q c) zero (a_leaf s) h = λ us ws u l. over_none
  child_within n (hold c) zero (a_leaf s) h = λ us ws u l. over_none
  child_within n (accum_by g z) zero (a_leaf s) h = λ us ws u l. over_none
  child_within n (accum_by g z) (suc zero) (a_leaf s) h = λ us ws u l. over_none
  child_within n (after q c) zero (a_leaf s) h = λ us ws u l. over_none
  child_within n (repeatedly q c) zero (a_leaf s) h = λ us ws u l. over_none
  child_within n (switch tm f t) zero (a_network s) h = λ us ws u l.
      over_two (measured M s us) (measured M t us) (measured M f ws) (measured M t ws) (h us ws u (same_scope n ws l)) (under t u)
  child_within n (switch tm f t) (suc zero) (a_network s) h = λ us ws u l.
      over_two (measured M f us) (measured M s us) (measured M f ws) (measured M t ws) (under f u) (h us ws u (same_scope n ws l))
  child_within n (r_switch at_once f t) zero (a_network s) h = λ us ws u l.
      over_two (measured M s us) (measured M t us) (measured M f ws) (measured M t ws) (h us ws u (same_scope n ws l)) (under t u)
  child_within n (r_switch at_once f t) (suc zero) (a_network s) h = λ us ws u l.
      over_two (measured M f us) (measured M s us) (measured M f ws) (measured M t ws) (under f u) (h us ws u (same_scope n ws l))
  child_within n (r_switch delayed f t) zero (a_network s) h = λ us ws u l.
      over_late (measured M s us) (measured M t us) (measured M f ws) (measured M t ws) (h us ws u (same_scope n ws l)) (under t u)
  child_within n (r_switch delayed f t) (suc zero) (a_network s) h = λ us ws u l.
      over_late (measured M f us) (measured M s us) (measured M f ws) (measured M t ws) (under f u) (h us ws u (same_scope n ws l))
  child_within n (k_switch f e t) zero (a_network s) h = λ us ws u l.
      over_three (measured M s us) (measured M e us) (measured M t (us ++ measured M s us ∷ [])) (measured M f ws) (measured M e ws) (measured M t (ws ++ measured M f ws ∷ []))
      (h us ws u (same_scope n ws l)) (under e u) (under t (under_joined u (one_under (h us ws u (same_scope n ws l)) none_under)))
  child_within n (k_switch f e t) (suc zero) (a_network s) h = λ us ws u l.
      over_three (measured M f us) (measured M s us) (measured M t (us ++ measured M f us ∷ [])) (measured M f ws) (measured M e ws) (measured M t (ws ++ measured M f ws ∷ []))
      (under f u) (h us ws u (same_scope n ws l)) (under t (under_joined u (one_under (under f u) none_under)))
  child_within n (k_switch f e t) (suc (suc zero)) (a_network s) h = λ us ws u l.
      over_three (measured M f us) (measured M e us) (measured M s (us ++ measured M f us ∷ [])) (measured M f ws) (measured M e ws) (measured M t (ws ++ measured M f ws ∷ []))
      (under f u) (under e u)
      (h (us ++ measured M f us ∷ []) (ws ++ measured M f ws ∷ []) (under_joined u (one_under (under f u) none_under)) (omega (arith, l, length-append ws (measured M f ws ∷ []))))
  child_within n (p_switch r fs e t) zero (a_leaf s) h = λ us ws u l. under (p_switch r fs e t) u
  child_within n (p_switch r fs e t) (suc k) (a_network s) h = at (p_switch_child fs k) h
    where
      Is : Option (Network Expression) → Type 0
      Is o = Has o (λ v. Within n (a_network (p_switch r fs e t)) (a_network v))

      There : PSwitchChild → Type 0
      There W = Has (option_map a_network (child_network W fs e t k)) (λ c. Within (n + (bound_behind W fs).olds) c (a_network s))

      put : (o : Option (Networks Expression)) → Has o (AllWithin (n + 0) fs) → Is (option_map (λ gs. p_switch r gs e t) o)
      put None h = h
      put (Some gs) h = λ us ws u l.
          let all : Under B (measures M gs us) (measures M fs ws) = h us ws u (same_scope n ws l) in
          over_three (M.members (measures M gs us)) (measured M e us) (measured M t (us ++ measures M gs us)) (M.members (measures M fs ws)) (measured M e ws) (measured M t (ws ++ measures M fs ws))
          (allowed.members_grow all) (under e u) (under t (under_joined u all))

      at : (W : PSwitchChild) → There W → Is (with_p_switch_child W r fs e t k s)
      at member_child h = put (with_member fs k s) (member_within (n + 0) fs k s (a_member (n + 0) s (member fs k) h))
      at event_child h = λ us ws u l.
          over_three (M.members (measures M fs us)) (measured M s us) (measured M t (us ++ measures M fs us)) (M.members (measures M fs ws)) (measured M e ws) (measured M t (ws ++ measures M fs ws))
          (allowed.members_grow (all_under fs u)) (h us ws u (same_scope n ws l)) (under t (under_joined u (all_under fs u)))
      at continuation_child h = λ us ws u l.
          over_three (M.members (measures M fs us)) (measured M e us) (measured M s (us ++ measures M fs us)) (M.members (measures M fs ws)) (measured M e ws) (measured M t (ws ++ measures M fs ws))
          (allowed.members_grow (all_under fs u)) (under e u)
          (h (us ++ measures M fs us) (ws ++ measures M fs ws) (under_joined u (all_under fs u)) (omega (arith, l, length-append ws (measures M fs ws), many M fs ws)))
      at no_child h = h
  child_within n (p_switch r fs e t) (suc k) (a_leaf s) h =
      no_member (n + (bound_behind (p_switch_child fs k) fs).olds) s (child_network (p_switch_child fs k) fs e t k) h
  child_within n (initial_out c f) zero (a_leaf s) h = λ us ws u l. under (initial_out c f) u
  child_within n (initial_out c f) (suc zero) (a_network s) h = λ us ws u l. over_one (measured M s us) (measured M f ws) (h us ws u (same_scope n ws l))
  child_within n (initial_in c f) zero (a_leaf s) h = λ us ws u l. under (initial_in c f) u
  child_within n (initial_in c f) (suc zero) (a_network s) h = λ us ws u l. over_one (measured M s us) (measured M f ws) (h us ws u (same_scope n ws l))
  child_within n (rp_switch fs m t) k s h = at (p_switch_child fs k) s h
    where
      Is : Option (Network Expression) → Type 0
      Is o = Has o (λ v. Within n (a_network (rp_switch fs m t)) (a_network v))

      There : PSwitchChild → Tree Expression → Type 0
      There W s = Has (collection_child W fs m t k) (λ c. Within (n + (bound_started W).olds) c s)

      put : (o : Option (Networks Expression)) → Has o (AllWithin (n + 0) fs) → Is (option_map (λ gs. rp_switch gs m t) o)
      put None h = h
      put (Some gs) h = λ us ws u l.
          over_collection (measured M t us) (measured M t ws) (under t u) (h us ws u (same_scope n ws l))

      at : (W : PSwitchChild) (s : Tree Expression) → There W s → Is (with_collection_child W fs m t k s)
      at member_child (a_network s) h = put (with_member fs k s) (member_within (n + 0) fs k s (a_member (n + 0) s (member fs k) h))
      at member_child (a_leaf s) h = no_member (n + 0) s (member fs k) h
      at event_child (a_leaf s) h = λ us ws u l. under (rp_switch fs m t) u
      at event_child (a_network s) h = h
      at continuation_child (a_network s) h = λ us ws u l.
          over_collection (measured M s us) (measured M t ws) (h us ws u (same_scope n ws l)) (all_under fs u)
      at continuation_child (a_leaf s) h = h
      at no_child s h = h
  child_within n _ k d h = absurd h

  on_network : (P : Tree Expression → Type 0) (o : Option (Network Expression)) → Has o (λ v. P (a_network v)) → Has (option_map a_network o) P
  on_network P None h = h
  on_network P (Some v) h = h

  -- a part of an expression
  on_part : (m n : ℕ) (e : Expression) (p : List ℕ) (c : Placed) (s : Tree Expression) (o : Option Expression) → part_at e p ≡ o
      → option_map (λ x. placed m n (a_leaf x)) o ≡ Some c → Within c.olds c.tree s → Has (replaced (a_leaf e) p s) (Within n (a_leaf e))
  on_part m n e p c s None i j h = absurd (none-some c j)
  on_part m n e p c (a_network s) (Some x) i j h = subst (λ z. Within z.olds z.tree (a_network s)) (sym (same_Some (placed m n (a_leaf x)) c j)) h
  on_part m n e p c (a_leaf s) (Some x) i j h =
      let v = put_at p e x s i in subst (λ o. Has (option_map a_leaf o) (Within n (a_leaf e))) (sym v.1) tt

  -- where what stands at the position is replaced by what measures at most what B allows of it, the whole is there, and does so too
  path_within : (m n : ℕ) (u : Tree Expression) (p : List ℕ) (c : Placed) (s : Tree Expression) → placed_at m n u p ≡ Some c → Within c.olds c.tree s
      → Has (replaced u p s) (Within n u)
  path_within m n (a_leaf e) p c s i h = on_part m n e p c s (part_at e p) refl i h
  path_within m n (a_network f) [] c (a_network s) i h = subst (λ z. Within z.olds z.tree (a_network s)) (sym (same_Some (placed m n (a_network f)) c i)) h
  path_within m n (a_network f) [] c (a_leaf s) i h = subst (λ z. Within z.olds z.tree (a_leaf s)) (sym (same_Some (placed m n (a_network f)) c i)) h
  path_within m n (a_network f) (k ∷ p) c s i h =
      let a = onward (child f k) (λ x. placed_at (m + (bound_in f k).params) (n + (bound_in f k).olds) x p) c i in
      in_child a.from a.was (replaced a.from p s) refl (path_within (m + (bound_in f k).params) (n + (bound_in f k).olds) a.from p c s a.goes h)
    where
      in_child : (x : Tree Expression) → child f k ≡ Some x → (o : Option (Tree Expression)) → replaced x p s ≡ o → Has o (Within (n + (bound_in f k).olds) x)
          → Has (replaced (a_network f) (k ∷ p) s) (Within n (a_network f))
      in_child x e None r w = absurd w
      in_child x e (Some d) r w =
          subst (λ z. Has (z >>= (λ y. replaced y p s >>= (λ d. option_map a_network (with_child f k d)))) (Within n (a_network f))) (sym e)
          (subst (λ z. Has (z >>= (λ d. option_map a_network (with_child f k d))) (Within n (a_network f))) (sym r)
          (on_network (Within n (a_network f)) (with_child f k d)
          (child_within n f k d (subst (λ z. Has z (λ y. Within (n + (bound_in f k).olds) y d)) (sym e) w))))

  -- so a whole network
  abbrev pub IsWhole : Network Expression → List ℕ → Tree Expression → Type 0
  IsWhole f p s = (v : Network Expression) × (replaced (a_network f) p s ≡ Some (a_network v)) × (measured M v [] ≤ B (measured M f []))

  whole_within : (f : Network Expression) (p : List ℕ) (s : Tree Expression) (o : Option (Tree Expression)) → replaced (a_network f) p s ≡ o
      → Has o (Within 0 (a_network f)) → IsWhole f p s
  whole_within f p s None r w = absurd w
  whole_within f p s (Some (a_leaf e)) r w = absurd w
  whole_within f p s (Some (a_network v)) r w = (v, r, w [] [] none_under refl)

  -- so where a part with nothing frozen in scope is another
  pub whole_allowed : (f : Network Expression) (p : List ℕ) (g s : Network Expression) (k : ℕ) → placed_at 0 0 (a_network f) p ≡ Some (placed k 0 (a_network g))
      → measured M s [] ≤ B (measured M g []) → IsWhole f p (a_network s)
  whole_allowed f p g s k i h =
      whole_within f p (a_network s) (replaced (a_network f) p (a_network s)) refl (path_within 0 0 (a_network f) p (placed k 0 (a_network g)) (a_network s) i here)
    where
      here : (us ws : List ℕ) → Under B us ws → length ws ≡ 0 → measured M s us ≤ B (measured M g ws)
      here us ws none_under l = h
      here us ws (one_under x xs) l = absurd (omega (arith, l))

  -- and where a part of an expression is another
  pub whole_inside : (f : Network Expression) (p : List ℕ) (e s : Expression) (m n : ℕ) → placed_at 0 0 (a_network f) p ≡ Some (placed m n (a_leaf e))
      → IsWhole f p (a_leaf s)
  whole_inside f p e s m n i =
      whole_within f p (a_leaf s) (replaced (a_network f) p (a_leaf s)) refl (path_within 0 0 (a_network f) p (placed m n (a_leaf e)) (a_leaf s) i tt)
