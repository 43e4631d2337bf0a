-- Where the walk is, and where it puts a fault: at a node, or at one of its children.
use Rattle.std.specs.Prelude.{◌≡◌, ℕ, List}
use Rattle.net_types.specs.Walk.{◌↓◌}
use Rattle.net_types.specs.declared.site.Site.{Site}
use Rattle.net_types.specs.declared.site.Site.TheVariants.{Node, Child}
use Rattle.net_types.specs.declared.walk.Walk.{Walk}

-- the position that a site is, where the node stands at P
abbrev pub site_of : List ℕ → Site → List ℕ
site_of P Node = P
site_of P (Child k) = P ↓ k

-- the walk is where it was, with the same in scope
abbrev pub SamePlace : Walk → Walk → Type 0
SamePlace v w = (w.path.items ≡ v.path.items) × (w.scope ≡ v.scope)
