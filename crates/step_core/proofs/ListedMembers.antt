-- Frozen members of the code, and the clean ones.
use Rattle.std.proofs.Common.{◌≡◌, Some, None, ℕ, zero, suc, ◌-◌, ◌≤◌, min, List, [], ◌∷◌, ◌++◌, length, map, take, refl, sym, ap, ◌∙◌, arith}
use Rattle.std.proofs.lemmas.List.{length-map, take-map, take_all, take_min}
use Rattle.leaf_table.specs.declared.table.LeafId.{LeafId}
use Rattle.net_tree.specs.Network.{Network, Networks, map_networks}
use Rattle.net_meaning.specs.SignalFunction.{items_named}
use Rattle.net_tree.specs.NetworkView.{members_of}
use Rattle.net_tree.specs.declared.net.Net.{Net}
use Rattle.sample_core.specs.Datum.{Datum, left, right, items_of}
use Rattle.sample_core.specs.ValueView.{datum_of}
use Rattle.sample_core.specs.declared.sample.Sample.{Sample}
use Rattle.state_core.specs.RowsView.{rows_in, row_number}
use Rattle.state_core.specs.StateView.{frozen_of, state_of}
use Rattle.state_core.specs.declared.env.Frozen.{Frozen as CodeFrozen}
use Rattle.state_core.specs.State.{State, Scope, Frozen, unstarted, paused, push_param, all_unstarted, all_paused, frozen_list, first_frozen, selected, each_started, chosen_frozen}
use Rattle.state_core.specs.Tree.{Kept, all_states}
use Rattle.state_core.specs.declared.state.State.{State as CodeState}
use Rattle.step_core.specs.Flow.{Past, members_before}

-- members that begin
listed_unstarted : (ns : List (Net LeafId)) (s : Scope ℕ)
    → frozen_list (all_unstarted (map_networks row_number (members_of ns)) s) ≡ map (λ n. unstarted (rows_in n) s) ns
listed_unstarted [] s = refl
listed_unstarted (n ∷ ns) s = ap (λ fs. unstarted (rows_in n) s ∷ fs) (listed_unstarted ns s)

first_taken : (ns : List (Net LeafId)) (s : Scope ℕ) (most : ℕ) → most ≡ min 64 (length ns)
    → map (λ n. unstarted (rows_in n) s) (take most ns) ≡ first_frozen (map_networks row_number (members_of ns)) s
first_taken ns s most e =
    ap (λ i. map (λ n. unstarted (rows_in n) s) (take i ns)) e ∙ ap (map (λ n. unstarted (rows_in n) s)) (take_min 64 ns)
    ∙ sym (take-map (λ n. unstarted (rows_in n) s) 64 ns) ∙ ap (take 64) (sym (listed_unstarted ns s))

-- what starts under values
under_each : (t : Network ℕ) (s : Scope ℕ) (vs : List Sample)
    → map (λ v. unstarted t (push_param s (datum_of v))) vs ≡ each_started t s (map datum_of vs)
under_each t s [] = refl
under_each t s (v ∷ vs) = ap (λ fs. unstarted t (push_param s (datum_of v)) ∷ fs) (under_each t s vs)

started_taken : (t : Network ℕ) (s : Scope ℕ) (vs : List Sample) (n room : ℕ) → room ≡ min n (length vs)
    → map (λ v. unstarted t (push_param s (datum_of v))) (take room vs) ≡ take n (each_started t s (map datum_of vs))
started_taken t s vs n room e =
    ap (λ i. map (λ v. unstarted t (push_param s (datum_of v))) (take i vs)) e ∙ ap (map (λ v. unstarted t (push_param s (datum_of v)))) (take_min n vs)
    ∙ sym (take-map (λ v. unstarted t (push_param s (datum_of v))) n vs) ∙ ap (take n) (under_each t s vs)

-- the first 64 of two lists, by those of the first one
pub first_of_both : {A : Type 0} (xs ys : List A) → take 64 xs ++ take (64 - length (take 64 xs)) ys ≡ take 64 (xs ++ ys)
first_of_both {A} xs ys = both 64 xs ys
  where
    both : (n : ℕ) (xs ys : List A) → take n xs ++ take (n - length (take n xs)) ys ≡ take n (xs ++ ys)
    both zero xs ys = refl
    both (suc n) [] ys = let all : suc n - 0 ≡ suc n = omega arith in ap (λ m. take m ys) all
    both (suc n) (x ∷ xs) ys =
        let less : suc n - suc (length (take n xs)) ≡ n - length (take n xs) = omega arith in
        ap (λ m. x ∷ (take n xs ++ take m ys)) less ∙ ap (λ zs. x ∷ zs) (both n xs ys)

-- where the first so many were gone over
pub first_end : (now : List CodeFrozen) (ns : List (Net LeafId)) (s : Scope ℕ) (most i : ℕ) → map frozen_of now ≡ map (λ n. unstarted (rows_in n) s) (take i (take most ns))
    → most ≡ min 64 (length ns) → length (take most ns) ≤ i → map frozen_of now ≡ first_frozen (map_networks row_number (members_of ns)) s
first_end now ns s most i h e l = h ∙ ap (map (λ n. unstarted (rows_in n) s)) (take_all i (take most ns) l) ∙ first_taken ns s most e

pub started_end : (old now : List CodeFrozen) (t : Network ℕ) (s : Scope ℕ) (vs : List Sample) (count more room i : ℕ)
    → map frozen_of now ≡ map frozen_of old ++ map (λ v. unstarted t (push_param s (datum_of v))) (take i (take room vs)) → room ≡ min more (length vs)
    → more ≡ 64 - count → count ≡ length old → length (take room vs) ≤ i
    → map frozen_of now ≡ map frozen_of old ++ take (64 - length old) (each_started t s (map datum_of vs))
started_end old now t s vs count more room i h e em ec l =
    h ∙ ap (λ zs. map frozen_of old ++ map (λ v. unstarted t (push_param s (datum_of v))) zs) (take_all i (take room vs) l)
    ∙ ap (λ zs. map frozen_of old ++ zs) (started_taken t s vs more room e)
    ∙ ap (λ n. map frozen_of old ++ take n (each_started t s (map datum_of vs))) (em ∙ ap (λ n. 64 - n) ec)

-- what is chosen: the first of those that numbers name, and behind them of what starts
pub chosen_listed : (all : List (Frozen ℕ)) (picked now : List CodeFrozen) (t : Network ℕ) (s : Scope ℕ) (w v u : Datum) (vs : List Datum) → v ≡ left w → u ≡ right w
    → vs ≡ items_of u → map frozen_of picked ≡ selected all v
    → map frozen_of now ≡ map frozen_of picked ++ take (64 - length picked) (each_started t s vs) → map frozen_of now ≡ chosen_frozen t s all w
chosen_listed all picked now t s w v u vs ev eu es ep en =
    let named : List (Frozen ℕ) = items_named all (items_of (left w)) in
    let taken : map frozen_of picked ≡ take 64 named = ep ∙ ap (selected all) ev in
    let values : vs ≡ items_of (right w) = es ∙ ap items_of eu in
    let count : length picked ≡ length (take 64 named) = sym (length-map picked frozen_of) ∙ ap length taken in
    en ∙ (λ i. taken i ++ take (64 - count i) (each_started t s (values i))) ∙ first_of_both named (each_started t s (items_of (right w)))

-- what ran at places, frozen
pub paused_listed : (states : List CodeState) (places : List (State ℕ)) (d : ℕ) → map state_of states ≡ places
    → map (λ a. paused (state_of a) d) states ≡ frozen_list (all_paused (all_states places) d)
paused_listed states places d e = listed states ∙ ap (λ as'. frozen_list (all_paused (all_states as') d)) e
  where
    listed : (states : List CodeState) → map (λ a. paused (state_of a) d) states ≡ frozen_list (all_paused (all_states (map state_of states)) d)
    listed [] = refl
    listed (a ∷ as') = ap (λ fs. paused (state_of a) d ∷ fs) (listed as')

-- where something ran
pub before_listed : (fs : Networks ℕ) (s : Scope ℕ) (p : Past) (k : Kept ℕ) (d : ℕ) (states : List CodeState) → p ≡ Some (k, d) → map state_of states ≡ k.1
    → map (λ a. paused (state_of a) d) states ≡ members_before fs s p
before_listed fs s p k d states e h = paused_listed states k.1 d h ∙ sym (ap (members_before fs s) e)

-- and where not
pub first_before : (fs : Networks ℕ) (s : Scope ℕ) (p : Past) → p ≡ None → first_frozen fs s ≡ members_before fs s p
first_before fs s p e = sym (ap (members_before fs s) e)
