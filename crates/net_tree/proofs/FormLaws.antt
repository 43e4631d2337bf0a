-- A network is the number of its form and what stands inside it.
use Rattle.std.proofs.Common.{◌≡◌, ◌↔◌, ◌<◌, ℕ, zero, suc, nat_eq, if◌then◌else◌, List, [], ◌∷◌, length, get_or, refl, ap, subst, sym, ◌∙◌, arith}
use Rattle.leaf_core.specs.Expression.{Expression}
use Rattle.leaf_core.specs.declared.expr.Expr.{Expr}
use Rattle.net_tree.specs.Network.{Network, Networks, arr, seq, first, par, loop_pre, i_pre, delay, hold, accum_by, after, repeatedly, time, integral, at_once, delayed, switch, r_switch, k_switch, p_switch, old, initial_out, initial_in, rp_switch, no_members, and_member, network_size, networks_size}
use Rattle.net_tree.specs.NetworkView.{tree_of, trees, members_of}
use Rattle.net_tree.specs.FormParts.{FormParts, nothing, index, leaf, timed, leaves, one, fed, two, three, many, routed, collection, form_number, parts_of, parts_size}
use Rattle.net_tree.specs.declared.net.Net.{Net}

-- the network of a form with these parts
abbrev form_with : ℕ → FormParts Expression → Network Expression
form_with n nothing = if nat_eq n 11 then time else integral
form_with n (index k) = old k
form_with n (leaf e) = if nat_eq n 0 then arr e else if nat_eq n 5 then i_pre e else hold e
form_with n (timed q e) = if nat_eq n 6 then delay q e else if nat_eq n 9 then after q e else repeatedly q e
form_with n (leaves e d) = accum_by e d
form_with n (one f) = first f
form_with n (fed e f) = if nat_eq n 4 then loop_pre e f else if nat_eq n 19 then initial_out e f else initial_in e f
form_with n (two f g) = if nat_eq n 1 then seq f g else if nat_eq n 13 then switch at_once f g
    else if nat_eq n 14 then switch delayed f g else if nat_eq n 15 then r_switch at_once f g else r_switch delayed f g
form_with n (three f g h) = k_switch f g h
form_with n (many fs) = par fs
form_with n (routed r fs e t) = p_switch r fs e t
form_with n (collection fs m t) = rp_switch fs m t

-- what is said of a network by its form and what stands inside it
forms : (f : Network Expression) → (form_with (form_number f) (parts_of f) ≡ f) × (network_size f ≡ parts_size (parts_of f))
forms (arr e) = (refl, refl)
forms (seq f g) = (refl, refl)
forms (first f) = (refl, refl)
forms (par fs) = (refl, refl)
forms (loop_pre c f) = (refl, refl)
forms (i_pre c) = (refl, refl)
forms (delay q c) = (refl, refl)
forms (hold c) = (refl, refl)
forms (accum_by g z) = (refl, refl)
forms (after q c) = (refl, refl)
forms (repeatedly q c) = (refl, refl)
forms time = (refl, refl)
forms integral = (refl, refl)
forms (switch at_once f t) = (refl, refl)
forms (switch delayed f t) = (refl, refl)
forms (r_switch at_once f t) = (refl, refl)
forms (r_switch delayed f t) = (refl, refl)
forms (k_switch f e t) = (refl, refl)
forms (p_switch r fs e t) = (refl, refl)
forms (old k) = (refl, refl)
forms (initial_out c f) = (refl, refl)
forms (initial_in c f) = (refl, refl)
forms (rp_switch fs m t) = (refl, refl)

-- how many networks stand inside one another
pub size_inside : (f : Network Expression) → network_size f ≡ parts_size (parts_of f)
size_inside f = (forms f).1

pub same_parts_are : (f g : Network Expression) → ((form_number f ≡ form_number g) × (parts_of f ≡ parts_of g)) ↔ (f ≡ g)
same_parts_are f g = (
  λ h. sym (forms f).0 ∙ (ap (λ n. form_with n (parts_of f)) h.0 ∙ ap (form_with (form_number g)) h.1)
      ∙ (forms g).0,
  λ e. (ap form_number e, ap parts_of e),
)

-- a member is smaller than all
member_falls : (all : List (Net Expr)) (i : ℕ) (n : Net Expr) → i < length all → network_size (tree_of (get_or all i n)) < networks_size (trees (members_of all))
member_falls [] i n h = absurd (omega arith)
member_falls (x ∷ xs) zero n h = omega arith
member_falls (x ∷ xs) (suc i) n h = omega (arith, member_falls xs i n (omega arith))

-- the same, where the members are given as trees
pub member_smaller : (all : List (Net Expr)) (fs : Networks Expr) (i : ℕ) (n : Net Expr) → i < length all → n ≡ get_or all i n → members_of all ≡ fs
    → network_size (tree_of n) < networks_size (trees fs)
member_smaller all fs i n h q p =
    subst (λ m. network_size (tree_of m) < networks_size (trees fs)) (sym q)
    (subst (λ gs. network_size (tree_of (get_or all i n)) < networks_size (trees gs)) p (member_falls all i n h))

abbrev count : Networks Expression → ℕ
count no_members = 0
count (and_member f fs) = suc (count fs)

count_of_all : (ns : List (Net Expr)) → count (trees (members_of ns)) ≡ length ns
count_of_all [] = refl
count_of_all (n ∷ ns) = ap suc (count_of_all ns)

-- equal members are equally many
pub same_count : (ns ms : List (Net Expr)) → trees (members_of ns) ≡ trees (members_of ms) → length ns ≡ length ms
same_count ns ms e = sym (count_of_all ns) ∙ ap count e ∙ count_of_all ms
