-- A law of networks, as a relation of left sides to right sides, and the two patterns that it has.
use Rattle.std.specs.Prelude.{List}
use Rattle.leaf_core.specs.Expression.{Expression}
use Rattle.net_tree.specs.Network.{Network}
use Rattle.law_patterns.specs.declared.net_sym.NetSym.{NetSym}
use Rattle.law_patterns.specs.NetPattern.{NetAssignment, net_filled, NetPatternSides}
use Rattle.law_patterns.specs.Rule.{Related}

-- the relation P has these patterns: whatever trees stand for the letters, P relates the left side
-- to the right side, and it relates nothing else
pub record NetRuleInstance (P : Network Expression → Network Expression → Type 0) (left right : List NetSym) : Type 0 where
  pub gives : (a : NetAssignment) → Related P (net_filled a left) (net_filled a right)
  pub comes : (l r : Network Expression) → P l r → NetPatternSides left right l r
