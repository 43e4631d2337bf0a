-- What stands inside a network, apart from its form.
use Rattle.std.specs.Prelude.{ℕ, suc, ◌+◌}
use Rattle.sample_core.specs.CodeNode.{tag_of}
use Rattle.leaf_core.specs.Expression.{Expression}
use Rattle.leaf_core.specs.ExpressionCode.{expression_code}
use Rattle.leaf_core.specs.ExpressionView.{expression_of}
use Rattle.net_tree.specs.Network.{Network, Networks, arr, seq, first, par, loop_pre, initial_out, initial_in, i_pre, delay, hold, accum_by, after, repeatedly, time, integral, switch, r_switch, rp_switch, k_switch, p_switch, old, network_size, networks_size}
use Rattle.net_tree.specs.NetworkCode.{to_code}
use Rattle.net_tree.specs.NetworkView.{tree, trees}
use Rattle.net_tree.specs.declared.equal.Parts.{Parts}
use Rattle.net_tree.specs.declared.equal.Parts.TheVariants as V

-- the number of a network's form
abbrev pub form_number : Network Expression → ℕ
form_number f = tag_of (to_code expression_code f)

-- nothing, a frozen network's number, leaves with or without a number, networks, members, and what
-- some of these are together, in their order
pub data FormParts (L : Type 0) : Type 0 where
  nothing : FormParts L
  index : ℕ → FormParts L
  leaf : L → FormParts L
  timed : ℕ → L → FormParts L
  leaves : L → L → FormParts L
  one : Network L → FormParts L
  fed : L → Network L → FormParts L
  two : Network L → Network L → FormParts L
  three : Network L → Network L → Network L → FormParts L
  many : Networks L → FormParts L
  routed : L → Networks L → Network L → Network L → FormParts L
  collection : Networks L → L → Network L → FormParts L

-- what stands inside a network; with the number of its form it is the network
abbrev pub parts_of : {L : Type 0} → Network L → FormParts L
parts_of (arr e) = leaf e
parts_of (seq f g) = two f g
parts_of (first f) = one f
parts_of (par fs) = many fs
parts_of (loop_pre c f) = fed c f
parts_of (i_pre c) = leaf c
parts_of (delay q c) = timed q c
parts_of (hold c) = leaf c
parts_of (accum_by g z) = leaves g z
parts_of (after q c) = timed q c
parts_of (repeatedly q c) = timed q c
parts_of time = nothing
parts_of integral = nothing
parts_of (switch tm f t) = two f t
parts_of (r_switch tm f t) = two f t
parts_of (k_switch f e t) = three f e t
parts_of (p_switch r fs e t) = routed r fs e t
parts_of (old k) = index k
parts_of (initial_out c f) = fed c f
parts_of (initial_in c f) = fed c f
parts_of (rp_switch fs m t) = collection fs m t

-- what the code's `Parts` say
abbrev pub parts_in : Parts → FormParts Expression
parts_in V.Nothing = nothing
parts_in (V.Index k) = index k
parts_in (V.Leaf e) = leaf (expression_of e.now)
parts_in (V.Timed q e) = timed q (expression_of e.now)
parts_in (V.Leaves e d) = leaves (expression_of e.now) (expression_of d.now)
parts_in (V.One f) = one (tree f.now)
parts_in (V.Fed e f) = fed (expression_of e.now) (tree f.now)
parts_in (V.Two f g) = two (tree f.now) (tree g.now)
parts_in (V.Three f g h) = three (tree f.now) (tree g.now) (tree h.now)
parts_in (V.Many fs) = many (trees fs.now)
parts_in (V.Routed r fs e t) = routed (expression_of r.now) (trees fs.now) (tree e.now) (tree t.now)
parts_in (V.Collection fs m t) = collection (trees fs.now) (expression_of m.now) (tree t.now)

-- how many networks stand inside one another, by what stands inside a network
abbrev pub parts_size : {L : Type 0} → FormParts L → ℕ
parts_size (one f) = suc (network_size f)
parts_size (fed e f) = suc (network_size f)
parts_size (two f g) = suc (network_size f + network_size g)
parts_size (three f g h) = suc (network_size f + network_size g + network_size h)
parts_size (many fs) = suc (networks_size fs)
parts_size (routed r fs e t) = suc (networks_size fs + network_size e + network_size t)
parts_size (collection fs m t) = suc (networks_size fs + network_size t)
parts_size _ = 0
