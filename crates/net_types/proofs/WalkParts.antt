-- The walk of a node is that of its parts, where the first of them are known.
use Rattle.std.proofs.Common.{◌≡◌, ◌∙◌, ℕ, suc, List, length, Result, Ok, Err, refl, sym, ap, subst}
use Rattle.sample_core.specs.TypeTree.{TypeTree, int_ty, list_ty, pair_ty}
use Rattle.leaf_core.specs.Expression.{Expression}
use Rattle.leaf_core.specs.ExpressionView.{expression_of}
use Rattle.leaf_core.specs.declared.expr.Expr.{Expr}
use Rattle.net_tree.specs.Network.{Network, Networks, map_networks, p_switch, rp_switch}
use Rattle.net_tree.specs.NetworkView.{members_of}
use Rattle.net_meaning.specs.Typing.{Arrow, arrow, members}
use Rattle.net_tree.specs.declared.net.Net.{Net}
use Rattle.net_types.specs.declared.fault.TypeFault.{TypeFault}
use Rattle.net_types.specs.Walk.{◌>>=◌, ◌>>◌, ◌↓◌, as_choice, as_event, as_pair, expect_same, one_output, test_members, within}
use Rattle.net_types.specs.Check.{GivesTyped, net_walk_all}
use Rattle.net_syntax.specs.Scopes.{InScope, and_olds, and_param}
use Rattle.net_types.specs.WalkParts.{choice_walk, freezing_walk, leaf_walk, members_walk, next_walk, routed_walk, started_walk, walk_in, watch_walk}
use Rattle.net_types.proofs.ScopeLists.{members_counted}

-- an answer is given as it is written otherwise
pub gives_as : {X Y : Type 0} (view : X → Y) (result : Result X TypeFault) {a b : Result Y TypeFault} → a ≡ b → GivesTyped view result b → GivesTyped view result a
gives_as view result e g = subst (λ a. GivesTyped view result a) (sym e) g

-- what comes after a scope that is known
watched : (w e : Result TypeTree TypeFault) (c : TypeTree → Result TypeTree TypeFault) (f : TypeTree → InScope) (k : InScope → Result TypeTree TypeFault)
    (S : InScope)
    → (w >> (e >>= (λ E. c E >>= (λ C. Ok (f C))))) ≡ Ok S → (w >> (e >>= (λ E. c E >>= (λ C. k (f C))))) ≡ k S
watched (Err x) e c f k S h = absurd (cc)
watched (Ok A) (Err x) c f k S h = absurd (cc)
watched (Ok A) (Ok E) c f k S h = go (c E) h
  where
    go : (r : Result TypeTree TypeFault) → (r >>= (λ C. Ok (f C))) ≡ Ok S → (r >>= (λ C. k (f C))) ≡ k S
    go (Err x) h = absurd (cc)
    go (Ok C) h = cc

freezing_as : (P : List ℕ) (k : ℕ) (S inner : InScope) (A B : TypeTree) (n : ℕ) (o : Arrow) (e t : Network Expression) → watch_walk (P ↓ k) S A B e ≡ Ok inner
    → freezing_walk P k S A B n o e t ≡ next_walk (P ↓ suc k) (and_olds inner n o) A B t
freezing_as P k S inner A B n o e t h =
    watched (within (pair_ty A B)) (walk_in (P ↓ k) S (pair_ty A B) e) (λ E. as_event (P ↓ k) E) (λ C. and_param S C)
    (λ R. next_walk (P ↓ suc k) (and_olds R n o) A B t) inner h

-- a switch that freezes gives what its continuation does, under the scope that its event makes
pub freezing_gives : {X : Type 0} (view : X → TypeTree) (result : Result X TypeFault) (P Q : List ℕ) (k j m n : ℕ) (S inner after : InScope)
    (A B L : TypeTree) (o : Arrow) (e t : Network Expression) → L ≡ B → j ≡ k → m ≡ suc k → Q ≡ P
    → after ≡ and_olds inner n o → watch_walk (P ↓ j) S A L e ≡ Ok inner
    → GivesTyped view result (next_walk (Q ↓ m) after A L t) → GivesTyped view result (freezing_walk P k S A B n o e t)
freezing_gives view result P Q k j m n S inner after A B L o e t l i g q a h d =
    gives_as view result (freezing_as P k S inner A B n o e t (rw (l, i) at h)) (rw (q, g, a, l) at d)

-- what comes after the types of members that are known
routed : (u : Result Unit TypeFault) (w d : Result TypeTree TypeFault) (m : TypeTree → Result (List TypeTree) TypeFault)
    (one : List TypeTree → Result TypeTree TypeFault) (k : Arrow → Result TypeTree TypeFault) (o : Arrow) → u ≡ Ok tt
    → ((w >> d) >>= (λ D. (m D >>= one) >>= (λ B. Ok (arrow D B)))) ≡ Ok o → (u >> (w >> (d >>= (λ D. m D >>= (λ Bs. one Bs >>= (λ B. k (arrow D B))))))) ≡ k o
routed (Err x) w d m one k o c h = absurd (cc)
routed (Ok v) (Err x) d m one k o c h = absurd (cc)
routed (Ok v) (Ok A) (Err x) m one k o c h = absurd (cc)
routed (Ok v) (Ok A) (Ok D) m one k o c h = go (m D) h
  where
    then : (r : Result TypeTree TypeFault) → (r >>= (λ B. Ok (arrow D B))) ≡ Ok o → (r >>= (λ B. k (arrow D B))) ≡ k o
    then (Err x) h = absurd (cc)
    then (Ok B) h = cc

    go : (r : Result (List TypeTree) TypeFault) → ((r >>= one) >>= (λ B. Ok (arrow D B))) ≡ Ok o → (r >>= (λ Bs. one Bs >>= (λ B. k (arrow D B)))) ≡ k o
    go (Err x) h = absurd (cc)
    go (Ok Bs) h = then (one Bs) h

p_switch_as : (P : List ℕ) (S : InScope) (A : TypeTree) (r : Expression) (fs : Networks Expression) (e t : Network Expression) (o : Arrow)
    → test_members P fs ≡ Ok tt → routed_walk P S A r fs ≡ Ok o
    → walk_in P S A (p_switch r fs e t) ≡ freezing_walk P (suc (members fs)) S A (list_ty o.output) (members fs) o e t
p_switch_as P S A r fs e t o c h =
    routed (test_members P fs) (within (pair_ty A int_ty)) (leaf_walk (P ↓ 0) S (pair_ty A int_ty) r) (λ D. net_walk_all P 1 S.params S.olds D fs)
    (λ Bs. one_output P 1 Bs) (λ q. freezing_walk P (suc (members fs)) S A (list_ty q.output) (members fs) q e t) o c h

-- the walk goes on from what is known
known : {A B : Type 0} {r : Result A TypeFault} (k : A → Result B TypeFault) {a : A} → r ≡ Ok a → (r >>= k) ≡ k a
known k e = ap (λ r. r >>= k) e

-- a step and its next two, taken together
joined : {A B C D : Type 0} (r : Result A TypeFault) (one : A → Result B TypeFault) (g : B → Result D TypeFault) (c : Result C TypeFault)
    (k : B → C → Result D TypeFault) → ((b : B) → g b ≡ (c >>= k b)) → (r >>= (λ a. one a >>= g)) ≡ ((r >>= one) >>= (λ b. c >>= k b))
joined (Err x) one g c k e = refl
joined {B = B} (Ok a) one g c k e = go (one a)
  where
    go : (q : Result B TypeFault) → (q >>= g) ≡ (q >>= (λ b. c >>= k b))
    go (Err x) = refl
    go (Ok b) = e b

chosen : (r : Result TypeTree TypeFault) (c : TypeTree → Result TypeTree TypeFault) (f : TypeTree → InScope) (g : TypeTree → Result TypeTree TypeFault)
    (k : InScope → Result TypeTree TypeFault) → ((V : TypeTree) → g V ≡ k (f V)) → (r >>= (λ K. c K >>= g)) ≡ ((r >>= (λ K. c K >>= (λ V. Ok (f V)))) >>= k)
chosen (Err x) c f g k e = refl
chosen (Ok K) c f g k e = go (c K)
  where
    go : (q : Result TypeTree TypeFault) → (q >>= g) ≡ ((q >>= (λ V. Ok (f V))) >>= k)
    go (Err x) = refl
    go (Ok V) = e V

then_last : (r : Result TypeTree TypeFault) (s : TypeTree → Result TypeTree TypeFault) (w : Result TypeTree TypeFault) → (r >>= (λ E. s E >> w)) ≡ ((r >>= s) >> w)
then_last (Err x) s w = refl
then_last (Ok E) s w = refl

-- what is left of the walk of an `rpSwitchB` with n members, where what they get, D, and what its events carry, C, are known
abbrev collection_walk : List ℕ → ℕ → InScope → TypeTree → TypeTree → Networks Expression → Expression → Network Expression → Result TypeTree TypeFault
collection_walk P n S D C fs m t = members_walk P 0 S D fs >>= (λ B. choice_walk (P ↓ n) S C m >>= (λ R. started_walk (P ↓ suc n) R D B t))

rp_switch_as : (P : List ℕ) (S : InScope) (A D M C : TypeTree) (fs : Networks Expression) (m : Expression) (t : Network Expression) → test_members P fs ≡ Ok tt
    → as_pair P A ≡ Ok (D, M) → as_event P M ≡ Ok C → walk_in P S A (rp_switch fs m t) ≡ collection_walk P (members fs) S D C fs m t
rp_switch_as P S A D M C fs m t h p e =
    let k = P ↓ members fs in
    let n = P ↓ suc (members fs) in
    known _ h
    ∙ (known _ p
    ∙ (known _ e
    ∙ joined (net_walk_all P 0 S.params S.olds D fs) (λ Bs. one_output P 0 Bs) _ (choice_walk k S C m) (λ B R. started_walk n R D B t)
    (λ B. chosen (leaf_walk k S C m) (λ K. as_choice k K) (λ V. and_param S V) _ (λ R. started_walk n R D B t)
    (λ V. then_last (walk_in n (and_param S V) D t) (λ E. expect_same n B E) (within (list_ty B))))))

-- an `rpSwitchB` gives what is left of it
pub rp_switch_gives : {X : Type 0} (view : X → TypeTree) (result : Result X TypeFault) (P : List ℕ) (S : InScope) (A D M C : TypeTree) (ms : Networks Expr)
    (xs : List (Net Expr)) (n : ℕ) (m : Expression) (t : Network Expression) → members_of xs ≡ ms → n ≡ length xs
    → test_members P (map_networks expression_of (members_of xs)) ≡ Ok tt → as_pair P A ≡ Ok (D, M) → as_event P M ≡ Ok C
    → GivesTyped view result (collection_walk P n S D C (map_networks expression_of (members_of xs)) m t)
    → GivesTyped view result (walk_in P S A (rp_switch (map_networks expression_of ms) m t))
rp_switch_gives view result P S A D M C ms xs n m t i l h p e d =
    subst (λ ns. GivesTyped view result (walk_in P S A (rp_switch (map_networks expression_of ns) m t))) i
    (gives_as view result (rp_switch_as P S A D M C (map_networks expression_of (members_of xs)) m t h p e)
    (rw (l ∙ sym (members_counted xs)) at d))

-- and that is what its continuation gives, or the fault of its choice
pub collection_gives : {X : Type 0} (view : X → TypeTree) (result : Result X TypeFault) (P Q : List ℕ) (n j : ℕ) (S inner : InScope) (D C B : TypeTree)
    (fs : Networks Expression) (m : Expression) (t : Network Expression) → j ≡ suc n → Q ≡ P → members_walk P 0 S D fs ≡ Ok B
    → choice_walk (Q ↓ n) S C m ≡ Ok inner → GivesTyped view result (started_walk (Q ↓ j) inner D B t) → GivesTyped view result (collection_walk P n S D C fs m t)
collection_gives view result P Q n j S inner D C B fs m t i q w h d =
    gives_as view result (known _ w ∙ known (λ R. started_walk (P ↓ suc n) R D B t) (rw q at h)) (rw (i, q) at d)

pub collection_stops : (P Q : List ℕ) (n : ℕ) (S : InScope) (D C B : TypeTree) (fs : Networks Expression) (m : Expression) (t : Network Expression) (x : TypeFault)
    → Q ≡ P → members_walk P 0 S D fs ≡ Ok B → choice_walk (Q ↓ n) S C m ≡ Err x → collection_walk P n S D C fs m t ≡ Err x
collection_stops P Q n S D C B fs m t x q w h = known _ w ∙ ap (λ r. r >>= (λ R. started_walk (P ↓ suc n) R D B t)) (rw q at h)

pub collection_fails : (P : List ℕ) (n : ℕ) (S : InScope) (D C : TypeTree) (fs : Networks Expression) (m : Expression) (t : Network Expression) (x : TypeFault)
    → members_walk P 0 S D fs ≡ Err x → collection_walk P n S D C fs m t ≡ Err x
collection_fails P n S D C fs m t x h = ap (λ r. r >>= (λ B. choice_walk (P ↓ n) S C m >>= (λ R. started_walk (P ↓ suc n) R D B t))) h

-- a `pSwitch` gives what is left of it, where its members' types are known
pub p_switch_gives : {X : Type 0} (view : X → TypeTree) (result : Result X TypeFault) (P Q : List ℕ) (S : InScope) (A : TypeTree) (r : Expression)
    (ms : Networks Expr) (xs : List (Net Expr)) (n : ℕ) (o : Arrow) (e t : Network Expression) → members_of xs ≡ ms → n ≡ length xs → Q ≡ P
    → test_members P (map_networks expression_of (members_of xs)) ≡ Ok tt → routed_walk P S A r (map_networks expression_of (members_of xs)) ≡ Ok o
    → GivesTyped view result (freezing_walk Q (suc n) S A (list_ty o.output) n o e t)
    → GivesTyped view result (walk_in P S A (p_switch r (map_networks expression_of ms) e t))
p_switch_gives view result P Q S A r ms xs n o e t m l q c h d =
    subst (λ ns. GivesTyped view result (walk_in P S A (p_switch r (map_networks expression_of ns) e t))) m
    (gives_as view result (p_switch_as P S A r (map_networks expression_of (members_of xs)) e t o c h)
    (rw (q, l ∙ sym (members_counted xs)) at d))
