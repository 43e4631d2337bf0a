-- Where a left side determines its right side.
use Rattle.std.specs.Prelude.{◌≡◌, List, [], ◌∷◌, ◌++◌}
use Rattle.std.specs.List.{All, Contains}
use Rattle.leaf_core.specs.Expression.{Expression}
use Rattle.net_tree.specs.Network.{Network}
use Rattle.law_patterns.specs.declared.sym.Letter.{Letter}
use Rattle.law_patterns.specs.declared.sym.Sym.{Sym}
use Rattle.law_patterns.specs.declared.sym.Sym.TheVariants as S
use Rattle.law_patterns.specs.declared.net_sym.NetLetter.{NetLetter}
use Rattle.law_patterns.specs.declared.net_sym.NetSym.{NetSym}
use Rattle.law_patterns.specs.declared.net_sym.NetSym.TheVariants as N
use Rattle.law_patterns.specs.Pattern.{PatternSides}
use Rattle.law_patterns.specs.NetPattern.{NetPatternSides}

-- a letter of any kind
pub data AnyLetter : Type 0 where
  of_expression : Letter → AnyLetter
  of_type : AnyLetter
  of_network : NetLetter → AnyLetter
  of_number : AnyLetter

-- the letters of a symbol
abbrev pub letters_in : Sym → List AnyLetter
letters_in (S.Letter k) = of_expression k ∷ []
letters_in S.NoEvent = of_type ∷ []
letters_in _ = []

-- the letters that stand in a pattern
abbrev pub letters_of : List Sym → List AnyLetter
letters_of [] = []
letters_of (s ∷ ss) = letters_in s ++ letters_of ss

-- the letters of a symbol of networks
abbrev pub net_letters_in : NetSym → List AnyLetter
net_letters_in (N.Letter k) = of_network k ∷ []
net_letters_in (N.Leaf y) = letters_in y
net_letters_in N.Delay = of_number ∷ []
net_letters_in N.After = of_number ∷ []
net_letters_in N.Repeatedly = of_number ∷ []
net_letters_in _ = []

-- the letters that stand in a pattern of networks
abbrev pub net_letters_of : List NetSym → List AnyLetter
net_letters_of [] = []
net_letters_of (s ∷ ss) = net_letters_in s ++ net_letters_of ss

-- where each letter of the right side stands in the left one, a law has one right side
abbrev pub PatternOneRightSideLaw : Type 0
PatternOneRightSideLaw = (left right : List Sym) (l r s : Expression)
    → All (Contains (letters_of left)) (letters_of right)
    → PatternSides left right l r → PatternSides left right l s → r ≡ s

-- the same of networks
abbrev pub NetOneRightSideLaw : Type 0
NetOneRightSideLaw = (left right : List NetSym) (l r s : Network Expression)
    → All (Contains (net_letters_of left)) (net_letters_of right)
    → NetPatternSides left right l r → NetPatternSides left right l s → r ≡ s
