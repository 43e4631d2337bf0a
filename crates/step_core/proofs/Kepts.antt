-- What networks keep: which of a list of cells and places are a part's own.
use Rattle.std.proofs.Common.{◌≡◌, ℕ, zero, suc, ◌+◌, ◌≤◌, List, [], ◌∷◌, ◌++◌, Option, Some, None, length, drop, refl, sym, ap, ◌∙◌, arith, append_assoc, append-nil}
use Rattle.std.specs.Prelude.{slice_get}
use Rattle.std.proofs.lemmas.List.{drop-append-le, length-drop, length-append}
use Rattle.std.proofs.Math.Seq.{drop-append_seam}
use Rattle.cell_core.specs.Cell.{Cell, accumulator_of}
use Rattle.net_tree.specs.Network.{Network, Networks, arr, seq, first, par, loop_pre, initial_out, initial_in, i_pre, delay, hold, accum_by, after, repeatedly, time, integral, switch, r_switch, rp_switch, k_switch, p_switch, old, no_members, and_member}
use Rattle.net_meaning.specs.Typing.{members}
use Rattle.state_core.specs.State.{State, Scope, seq_state, first_state, par_state, loop_state, cell_state, accum_state, r_switch_state, and_state, params_of}
use Rattle.state_core.specs.Tree.{Kept, Width, wider, width_of, width, widths, behind, joined, nothing, head_cell, head_state, fed_back, tree, trees, member_states}
use Rattle.step_core.specs.Flow.{Past, past_behind}

drop_none : {A : Type 0} (i : ℕ) → drop {A = A} i [] ≡ []
drop_none zero = refl
drop_none (suc i) = refl

drop_drop : {A : Type 0} (m n i : ℕ) (ks : List A) → i ≡ n + m → drop m (drop n ks) ≡ drop i ks
drop_drop m zero i ks e = let h : m ≡ i = omega (arith, e) in ap (λ j. drop j ks) h
drop_drop m (suc n) i [] e = drop_none m ∙ sym (drop_none i)
drop_drop m (suc n) zero (k ∷ ks) e = absurd (omega (arith, e))
drop_drop m (suc n) (suc i) (k ∷ ks) e = drop_drop m n i ks (omega (arith, e))

-- what is behind one part and then another
pub behind_both : (v w u : Width) (p : Past) → u ≡ wider w v → past_behind v (past_behind w p) ≡ past_behind u p
behind_both v w u None e = refl
behind_both v w u (Some (k, d)) e = λ i. Some ((drop_drop v.0 w.0 u.0 k.0 (ap (λ (z : Width). z.0) e) i, drop_drop v.1 w.1 u.1 k.1 (ap (λ (z : Width). z.1) e) i), d)

pub from_start : (p : Past) → past_behind (0, 0) p ≡ p
from_start None = refl
from_start (Some p) = refl

-- the item at i is the first one behind i others
pub head_at : (ks : List Cell) (i : ℕ) (k : Cell) → slice_get ks i ≡ Some k → head_cell (drop i ks) ≡ k
head_at [] i k e = absurd (cc)
head_at (j ∷ ks) zero k e = ap (λ (o : Option Cell). elim o [ None ↦ j | Some z ↦ z ]) e
head_at (j ∷ ks) (suc i) k e = head_at ks i k e

pub state_at : (as' : List (State ℕ)) (i : ℕ) (a : State ℕ) → slice_get as' i ≡ Some a → head_state (drop i as') ≡ a
state_at [] i a e = absurd (cc)
state_at (b ∷ as') zero a e = ap (λ (o : Option (State ℕ)). elim o [ None ↦ b | Some z ↦ z ]) e
state_at (b ∷ as') (suc i) a e = state_at as' i a e

pub joined_assoc : (k j i : Kept ℕ) → joined (joined k j) i ≡ joined k (joined j i)
joined_assoc k j i = λ z. (append_assoc k.0 j.0 i.0 z, append_assoc k.1 j.1 i.1 z)

pub joined_nothing : (k : Kept ℕ) → k ≡ joined k nothing
joined_nothing k = λ z. (sym (append-nil k.0) z, sym (append-nil k.1) z)

pub width_joined : (k j : Kept ℕ) → width_of (joined k j) ≡ wider (width_of k) (width_of j)
width_joined k j = λ z. (length-append k.0 j.0 z, length-append k.1 j.1 z)

head_more : (ks more : List Cell) → 1 ≤ length ks → head_cell (ks ++ more) ≡ head_cell ks
head_more [] more h = absurd (omega (arith, h))
head_more (k ∷ ks) more h = refl

state_more : (as' more : List (State ℕ)) → 1 ≤ length as' → head_state (as' ++ more) ≡ head_state as'
state_more [] more h = absurd (omega (arith, h))
state_more (a ∷ as') more h = refl

-- there is at least that much
abbrev Fits : Width → Kept ℕ → Type 0
Fits w k = (w.0 ≤ length k.0) × (w.1 ≤ length k.1)

-- what a first part keeps that has width v, and what is behind it, at least w
record TwoMore (v w : Width) (k more : Kept ℕ) : Type 0 where
  here : Fits v k
  rest : behind v (joined k more) ≡ joined (behind v k) more
  left : Fits w (behind v k)

two_more : (v w : Width) (k more : Kept ℕ) → Fits (wider v w) k → TwoMore v w k more
two_more v w k more h =
    let here : Fits v k = (omega (arith, h.0), omega (arith, h.1)) in
    record {
      here = here;
      rest = λ i. (drop-append-le v.0 k.0 more.0 here.0 i, drop-append-le v.1 k.1 more.1 here.1 i);
      left = (omega (arith, h.0, length-drop v.0 k.0), omega (arith, h.1, length-drop v.1 k.1));
    }

mutual
  -- a network's state looks at what it keeps alone
  tree_more : (f : Network ℕ) (s : Scope ℕ) (k more : Kept ℕ) → Fits (width f) k → tree f s (joined k more) ≡ tree f s k
  tree_more (arr e) s k more h = refl
  tree_more (seq f g) s k more h =
      let both = two_more (width f) (width g) k more h in
      λ i. seq_state (tree_more f s k more both.here i) ((ap (tree g s) both.rest ∙ tree_more g s (behind (width f) k) more both.left) i)
  tree_more (first f) s k more h = ap first_state (tree_more f s k more h)
  tree_more (par fs) s k more h = ap par_state (trees_more fs s k more h)
  tree_more (loop_pre c f) s k more h =
      let both = two_more (1, 0) (width f) k more h in
      λ i. loop_state (fed_back (head_more k.0 more.0 both.here.0 i)) ((ap (tree f s) both.rest ∙ tree_more f s (behind (1, 0) k) more both.left) i)
  tree_more (i_pre c) s k more h = ap cell_state (head_more k.0 more.0 h.0)
  tree_more (delay q c) s k more h = ap cell_state (head_more k.0 more.0 h.0)
  tree_more (hold c) s k more h = ap cell_state (head_more k.0 more.0 h.0)
  tree_more (accum_by g z) s k more h = ap (λ j. accum_state g (params_of s) (accumulator_of j)) (head_more k.0 more.0 h.0)
  tree_more (after q c) s k more h = ap cell_state (head_more k.0 more.0 h.0)
  tree_more (repeatedly q c) s k more h = ap cell_state (head_more k.0 more.0 h.0)
  tree_more time s k more h = ap cell_state (head_more k.0 more.0 h.0)
  tree_more integral s k more h = ap cell_state (head_more k.0 more.0 h.0)
  tree_more (switch tm f t) s k more h = state_more k.1 more.1 h.1
  tree_more (r_switch tm f t) s k more h = ap (λ a. r_switch_state tm a t s) (state_more k.1 more.1 h.1)
  tree_more (rp_switch fs m t) s k more h = state_more k.1 more.1 h.1
  tree_more (initial_out c f) s k more h = tree_more f s k more h
  tree_more (initial_in c f) s k more h = tree_more f s k more h
  tree_more (k_switch f e t) s k more h = state_more k.1 more.1 h.1
  tree_more (p_switch r fs e t) s k more h = state_more k.1 more.1 h.1
  tree_more (old n) s k more h = state_more k.1 more.1 h.1

  trees_more : (fs : Networks ℕ) (s : Scope ℕ) (k more : Kept ℕ) → Fits (widths fs) k → trees fs s (joined k more) ≡ trees fs s k
  trees_more no_members s k more h = refl
  trees_more (and_member f fs) s k more h =
      let both = two_more (width f) (widths fs) k more h in
      λ i. and_state (tree_more f s k more both.here i) ((ap (trees fs s) both.rest ∙ trees_more fs s (behind (width f) k) more both.left) i)

-- the first of two parts keeps what is first
pub one_of_two : (f : Network ℕ) (s : Scope ℕ) (k more : Kept ℕ) → width_of k ≡ width f → tree f s (joined k more) ≡ tree f s k
one_of_two f s k more e =
    let m : length k.0 ≡ (width f).0 = ap (λ (z : Width). z.0) e in
    let n : length k.1 ≡ (width f).1 = ap (λ (z : Width). z.1) e in
    tree_more f s k more (omega (arith, m), omega (arith, n))

-- and the other what is behind it
pub others_of_two : (w : Width) (k more : Kept ℕ) → width_of k ≡ w → behind w (joined k more) ≡ more
others_of_two w k more e = ap (λ v. behind v (joined k more)) (sym e) ∙ (λ i. (drop-append_seam k.0 more.0 i, drop-append_seam k.1 more.1 i))

-- the states of members that run at a place each look at their places alone
pub members_more : (fs : Networks ℕ) (as' more : List (State ℕ)) → length as' ≡ members fs → member_states fs (as' ++ more) ≡ member_states fs as'
members_more no_members as' more e = refl
members_more (and_member f fs) [] more e = absurd (omega (arith, e))
members_more (and_member f fs) (a ∷ as') more e = ap (and_state a) (members_more fs as' more (omega (arith, e)))

-- what runs behind them
pub behind_members : (n : ℕ) (as' more : List (State ℕ)) → length as' ≡ n → drop n (as' ++ more) ≡ more
behind_members n as' more e = ap (λ m. drop m (as' ++ more)) (sym e) ∙ drop-append_seam as' more
