-- What is inside a tree: it is smaller, its number is low, and behind the last there is no more.
use Rattle.std.proofs.Common.{◌≡◌, ℕ, zero, suc, ◌+◌, ◌≤◌, ◌<◌, Option, Some, None, option_map, refl, sym, ap, subst, arith}
use Rattle.std.specs.Prelude.{IfSome}
use Rattle.leaf_core.specs.Expression.{Expression, Expressions, no_more, and_then, nodes_in, nodes_in_all}
use Rattle.leaf_core.specs.Inside.{Inside, one, two, three, many, inside_of, inside_nodes}
use Rattle.leaf_core.specs.Parts.{element, part_inside, part}
use Rattle.leaf_core.proofs.InsideLaws.{nodes_inside}
use Rattle.net_tree.specs.Network.{Network, Networks, network_size, networks_size, no_members, and_member}
use Rattle.net_meaning.specs.Typing.{members}
use Rattle.net_tree.specs.Place.{Tree, a_network, a_leaf, member, child_inside, child, child_network, collection_child, PSwitchChild, p_switch_child, member_child, event_child, continuation_child, no_child}
use Rattle.net_tree.specs.FormParts.{FormParts, leaf, timed, leaves, fed, routed, collection, parts_of, parts_size}
use Rattle.net_tree.specs.FormParts as F
use Rattle.net_tree.proofs.FormLaws.{size_inside}
use Rattle.net_syntax.proofs.Children.{members_few}

-- a child at this number of a network of this size is smaller, and the number is low
abbrev pub ChildFits : ℕ → ℕ → Tree Expression → Type 0
ChildFits size k (a_network g) = (network_size g < size) × (k ≤ suc size)
ChildFits size k (a_leaf e) = k ≤ suc size

member_fits : (fs : Networks Expression) (k : ℕ) → IfSome (member fs k) (λ g. suc (network_size g + k) ≤ networks_size fs)
member_fits no_members k = tt
member_fits (and_member f fs) zero = omega arith
member_fits (and_member f fs) (suc k) = go (member fs k) (member_fits fs k)
  where
    go : (o : Option (Network Expression)) → IfSome o (λ g. suc (network_size g + k) ≤ networks_size fs)
        → IfSome o (λ g. suc (network_size g + suc k) ≤ networks_size (and_member f fs))
    go None h = tt
    go (Some g) h = omega (arith, h)

par_fits : (fs : Networks Expression) (k : ℕ) (o : Option (Network Expression)) → IfSome o (λ g. suc (network_size g + k) ≤ networks_size fs)
    → IfSome (option_map a_network o) (ChildFits (suc (networks_size fs)) k)
par_fits fs k None h = tt
par_fits fs k (Some g) h = (omega (arith, h), omega (arith, h))

-- what stands at number k behind the route of a pSwitch, or in an rpSwitchB, by its kind
data Behind (fs : Networks Expression) (k : ℕ) : PSwitchChild → Type 0 where
  at_member : Behind fs k member_child
  at_event : k ≡ members fs → Behind fs k event_child
  at_continuation : k ≡ suc (members fs) → Behind fs k continuation_child
  at_none : Behind fs k no_child

behind : (fs : Networks Expression) (k : ℕ) → Behind fs k (p_switch_child fs k)
behind no_members zero = at_event refl
behind no_members (suc zero) = at_continuation refl
behind no_members (suc (suc k)) = at_none
behind (and_member f fs) zero = at_member
behind (and_member f fs) (suc k) = go (p_switch_child fs k) (behind fs k)
  where
    go : (c : PSwitchChild) → Behind fs k c → Behind (and_member f fs) (suc k) c
    go member_child at_member = at_member
    go event_child (at_event e) = at_event (ap suc e)
    go continuation_child (at_continuation e) = at_continuation (ap suc e)
    go no_child at_none = at_none

behind_fits : (fs : Networks Expression) (e t : Network Expression) (k : ℕ) (c : PSwitchChild) → Behind fs k c
    → IfSome (option_map a_network (child_network c fs e t k))
    (ChildFits (suc (networks_size fs + network_size e + network_size t)) (suc k))
behind_fits fs e t k member_child at_member = go (member fs k) (member_fits fs k)
  where
    go : (o : Option (Network Expression)) → IfSome o (λ g. suc (network_size g + k) ≤ networks_size fs)
        → IfSome (option_map a_network o) (ChildFits (suc (networks_size fs + network_size e + network_size t)) (suc k))
    go None h = tt
    go (Some g) h = (omega (arith, h), omega (arith, h))
behind_fits fs e t k event_child (at_event i) = (omega arith, omega (arith, i, members_few fs))
behind_fits fs e t k continuation_child (at_continuation i) =
    (omega arith, omega (arith, i, members_few fs))
behind_fits fs e t k no_child at_none = tt

collection_fits : (fs : Networks Expression) (m : Expression) (t : Network Expression) (k : ℕ) (c : PSwitchChild) → Behind fs k c
    → IfSome (collection_child c fs m t k) (ChildFits (suc (networks_size fs + network_size t)) k)
collection_fits fs m t k member_child at_member = go (member fs k) (member_fits fs k)
  where
    go : (o : Option (Network Expression)) → IfSome o (λ g. suc (network_size g + k) ≤ networks_size fs)
        → IfSome (option_map a_network o) (ChildFits (suc (networks_size fs + network_size t)) k)
    go None h = tt
    go (Some g) h = (omega (arith, h), omega (arith, h))
collection_fits fs m t k event_child (at_event i) = omega (arith, i, members_few fs)
collection_fits fs m t k continuation_child (at_continuation i) = (omega arith, omega (arith, i, members_few fs))
collection_fits fs m t k no_child at_none = tt

parts_fit : (p : FormParts Expression) (k : ℕ) → IfSome (child_inside p k) (ChildFits (parts_size p) k)
parts_fit (leaf e) zero = omega arith
parts_fit (timed q e) zero = omega arith
parts_fit (leaves e d) zero = omega arith
parts_fit (leaves e d) (suc zero) = omega arith
parts_fit (F.one f) zero = (omega arith, omega arith)
parts_fit (fed e f) zero = omega arith
parts_fit (fed e f) (suc zero) = (omega arith, omega arith)
parts_fit (F.two f g) zero = (omega arith, omega arith)
parts_fit (F.two f g) (suc zero) = (omega arith, omega arith)
parts_fit (F.three f g h) zero = (omega arith, omega arith)
parts_fit (F.three f g h) (suc zero) = (omega arith, omega arith)
parts_fit (F.three f g h) (suc (suc zero)) = (omega arith, omega arith)
parts_fit (F.many fs) k = par_fits fs k (member fs k) (member_fits fs k)
parts_fit (routed r fs e t) zero = omega arith
parts_fit (routed r fs e t) (suc k) = behind_fits fs e t k (p_switch_child fs k) (behind fs k)
parts_fit (collection fs m t) k = collection_fits fs m t k (p_switch_child fs k) (behind fs k)
parts_fit _ k = tt

pub child_fits : (f : Network Expression) (k : ℕ) → IfSome (child f k) (ChildFits (network_size f) k)
child_fits f k = subst (λ n. IfSome (child f k) (ChildFits n k)) (sym (size_inside f)) (parts_fit (parts_of f) k)

-- a part of an expression is smaller, and its number is low
abbrev pub PartFits : ℕ → ℕ → Expression → Type 0
PartFits size k c = (nodes_in c < size) × (k < size)

some_inside : (i : Inside) → 1 ≤ inside_nodes i
some_inside (one a) = omega arith
some_inside (two a b) = omega arith
some_inside (three a b c) = omega arith
some_inside (many t es) = omega arith
some_inside _ = omega arith

some_node : (e : Expression) → 1 ≤ nodes_in e
some_node e = omega (arith, nodes_inside e, some_inside (inside_of e))

element_fits : (es : Expressions) (k : ℕ) → IfSome (element es k) (λ c. (nodes_in c ≤ nodes_in_all es) × (k < nodes_in_all es))
element_fits no_more k = tt
element_fits (and_then e es) zero = (omega arith, omega (arith, some_node e))
element_fits (and_then e es) (suc k) = go (element es k) (element_fits es k)
  where
    go : (o : Option Expression) → IfSome o (λ c. (nodes_in c ≤ nodes_in_all es) × (k < nodes_in_all es))
        → IfSome o (λ c. (nodes_in c ≤ nodes_in_all (and_then e es)) × (suc k < nodes_in_all (and_then e es)))
    go None h = tt
    go (Some c) h = (omega (arith, h.0), omega (arith, h.1, some_node e))

inside_fits : (i : Inside) (k : ℕ) → IfSome (part_inside i k) (PartFits (inside_nodes i) k)
inside_fits (one a) zero = (omega arith, omega arith)
inside_fits (two a b) zero = (omega arith, omega arith)
inside_fits (two a b) (suc zero) = (omega arith, omega (arith, some_node a))
inside_fits (three a b c) zero = (omega arith, omega arith)
inside_fits (three a b c) (suc zero) = (omega arith, omega (arith, some_node a))
inside_fits (three a b c) (suc (suc zero)) = (omega arith, omega (arith, some_node a, some_node b))
inside_fits (many t es) k = go (element es k) (element_fits es k)
  where
    go : (o : Option Expression) → IfSome o (λ c. (nodes_in c ≤ nodes_in_all es) × (k < nodes_in_all es)) → IfSome o (PartFits (suc (nodes_in_all es)) k)
    go None h = tt
    go (Some c) h = (omega (arith, h.0), omega (arith, h.1))
inside_fits _ k = tt

pub part_fits : (e : Expression) (k : ℕ) → IfSome (part e k) (PartFits (nodes_in e) k)
part_fits e k = subst (λ n. IfSome (part e k) (PartFits n k)) (sym (nodes_inside e)) (inside_fits (inside_of e) k)

-- something is there
abbrev Present : {A : Type 0} → Option A → Type 0
Present None = ⊥
Present (Some a) = Unit {0}

-- where something stands at a number, something stands at the one before
abbrev InARow : {A : Type 0} → (ℕ → Option A) → Type 0
InARow g = (k : ℕ) → IfSome (g (suc k)) (λ a. Present (g k))

later : {A : Type 0} (g : ℕ → Option A) → InARow g → (k : ℕ) → g k ≡ None → g (suc k) ≡ None
later {A = A} g run k h = go (g (suc k)) refl
  where
    go : (o : Option A) → g (suc k) ≡ o → g (suc k) ≡ None
    go None e = e
    go (Some a) e = absurd (subst (λ (o : Option A). Present o) h (subst (λ (o : Option A). IfSome o (λ a. Present (g k))) e (run k)))

none_from : {A : Type 0} (g : ℕ → Option A) → InARow g → (k : ℕ) → g k ≡ None → (d j : ℕ) → j ≡ d + k → g j ≡ None
none_from g run k h zero j e = let i : k ≡ j = omega arith in subst (λ x. g x ≡ None) i h
none_from g run k h (suc d) zero e = absurd (omega arith)
none_from g run k h (suc d) (suc j) e = later g run j (none_from g run k h d j (omega arith))

always : {A : Type 0} (o : Option A) → IfSome o (λ a. Unit {0})
always None = tt
always (Some a) = tt

members_in_a_row : (fs : Networks Expression) (k : ℕ) → IfSome (option_map a_network (member fs (suc k))) (λ a. Present (option_map a_network (member fs k)))
members_in_a_row no_members k = tt
members_in_a_row (and_member f fs) zero = always (option_map a_network (member fs zero))
members_in_a_row (and_member f fs) (suc k) = members_in_a_row fs k

behind_in_a_row : (fs : Networks Expression) (e t : Network Expression) (k : ℕ)
    → IfSome (option_map a_network (child_network (p_switch_child fs (suc k)) fs e t (suc k)))
    (λ a. Present (option_map a_network (child_network (p_switch_child fs k) fs e t k)))
behind_in_a_row no_members e t zero = tt
behind_in_a_row no_members e t (suc zero) = tt
behind_in_a_row no_members e t (suc (suc k)) = tt
behind_in_a_row (and_member f fs) e t zero = always (option_map a_network (child_network (p_switch_child fs zero) (and_member f fs) e t (suc zero)))
behind_in_a_row (and_member f fs) e t (suc k) = go (p_switch_child fs (suc k)) (p_switch_child fs k) (behind_in_a_row fs e t k)
  where
    go : (c d : PSwitchChild) → IfSome (option_map a_network (child_network c fs e t (suc k))) (λ a. Present (option_map a_network (child_network d fs e t k)))
        → IfSome (option_map a_network (child_network c (and_member f fs) e t (suc (suc k)))) (λ a. Present (option_map a_network (child_network d (and_member f fs) e t (suc k))))
    go member_child member_child h = h
    go member_child event_child h = h
    go member_child continuation_child h = h
    go member_child no_child h = h
    go event_child member_child h = h
    go event_child event_child h = h
    go event_child continuation_child h = h
    go event_child no_child h = h
    go continuation_child member_child h = h
    go continuation_child event_child h = h
    go continuation_child continuation_child h = h
    go continuation_child no_child h = h
    go no_child d h = h

one_further : (c : PSwitchChild) (f : Network Expression) (fs : Networks Expression) (m : Expression) (t : Network Expression) (k : ℕ)
    → collection_child c fs m t k ≡ collection_child c (and_member f fs) m t (suc k)
one_further member_child f fs m t k = refl
one_further event_child f fs m t k = refl
one_further continuation_child f fs m t k = refl
one_further no_child f fs m t k = refl

collection_in_a_row : (fs : Networks Expression) (m : Expression) (t : Network Expression) (k : ℕ)
    → IfSome (collection_child (p_switch_child fs (suc k)) fs m t (suc k)) (λ a. Present (collection_child (p_switch_child fs k) fs m t k))
collection_in_a_row no_members m t zero = tt
collection_in_a_row no_members m t (suc zero) = tt
collection_in_a_row no_members m t (suc (suc k)) = tt
collection_in_a_row (and_member f fs) m t zero = always (collection_child (p_switch_child fs zero) (and_member f fs) m t (suc zero))
collection_in_a_row (and_member f fs) m t (suc k) =
    subst (λ o. IfSome o (λ a. Present (collection_child (p_switch_child fs k) (and_member f fs) m t (suc k)))) (one_further (p_switch_child fs (suc k)) f fs m t (suc k))
    (subst (λ o. IfSome (collection_child (p_switch_child fs (suc k)) fs m t (suc k)) (λ a. Present o)) (one_further (p_switch_child fs k) f fs m t k)
    (collection_in_a_row fs m t k))

parts_in_a_row : (p : FormParts Expression) → InARow (child_inside p)
parts_in_a_row (leaves e d) zero = tt
parts_in_a_row (leaves e d) (suc k) = tt
parts_in_a_row (fed e f) zero = tt
parts_in_a_row (fed e f) (suc k) = tt
parts_in_a_row (F.two f g) zero = tt
parts_in_a_row (F.two f g) (suc k) = tt
parts_in_a_row (F.three f g h) zero = tt
parts_in_a_row (F.three f g h) (suc zero) = tt
parts_in_a_row (F.three f g h) (suc (suc k)) = tt
parts_in_a_row (F.many fs) k = members_in_a_row fs k
parts_in_a_row (routed r fs e t) zero = always (option_map a_network (child_network (p_switch_child fs zero) fs e t zero))
parts_in_a_row (routed r fs e t) (suc k) = behind_in_a_row fs e t k
parts_in_a_row (collection fs m t) k = collection_in_a_row fs m t k
parts_in_a_row _ k = tt

elements_in_a_row : (es : Expressions) → InARow (element es)
elements_in_a_row no_more k = tt
elements_in_a_row (and_then e es) zero = always (element es zero)
elements_in_a_row (and_then e es) (suc k) = elements_in_a_row es k

insides_in_a_row : (i : Inside) → InARow (part_inside i)
insides_in_a_row (two a b) zero = tt
insides_in_a_row (two a b) (suc k) = tt
insides_in_a_row (three a b c) zero = tt
insides_in_a_row (three a b c) (suc zero) = tt
insides_in_a_row (three a b c) (suc (suc k)) = tt
insides_in_a_row (many t es) k = elements_in_a_row es k
insides_in_a_row _ k = tt

-- where nothing is inside at a number, nothing is at a later one
pub no_later_child : (f : Network Expression) (k d j : ℕ) → child f k ≡ None → j ≡ d + k → child f j ≡ None
no_later_child f k d j h e = none_from (child_inside (parts_of f)) (parts_in_a_row (parts_of f)) k h d j e

pub no_later_part : (e : Expression) (k d j : ℕ) → part e k ≡ None → j ≡ d + k → part e j ≡ None
no_later_part e k d j h i = none_from (part_inside (inside_of e)) (insides_in_a_row (inside_of e)) k h d j i
