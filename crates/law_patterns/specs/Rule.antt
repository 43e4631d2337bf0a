-- A law, as a relation of left sides to right sides, and the two patterns that it has.
use Rattle.std.specs.Prelude.{List, Option, Some}
use Rattle.leaf_core.specs.Expression.{Expression}
use Rattle.law_patterns.specs.declared.sym.Sym.{Sym}
use Rattle.law_patterns.specs.Pattern.{Assignment, filled, PatternSides}

-- both are there and related
abbrev pub Related : {A : Type 0} → (A → A → Type 0) → Option A → Option A → Type 0
Related P (Some l) (Some r) = P l r
Related P _ _ = ⊥

-- the relation P has these patterns: whatever trees stand for the letters, P relates the left side
-- to the right side, and it relates nothing else
pub record RuleInstance (P : Expression → Expression → Type 0) (left right : List Sym) : Type 0 where
  pub gives : (a : Assignment) → Related P (filled a left) (filled a right)
  pub comes : (l r : Expression) → P l r → PatternSides left right l r
