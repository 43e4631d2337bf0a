-- Building networks symbol by symbol.
use Rattle.std.specs.Prelude.{ℕ, Bool, true, false, List, Option, Some, None}
use Rattle.leaf_core.specs.Expression.{Expression}
use Rattle.net_tree.specs.Network.{Network, arr, seq, i_pre, delay, hold, after, repeatedly, at_once, delayed, switch, r_switch}
use Rattle.law_patterns.specs.declared.net_sym.NetSym.{NetSym}
use Rattle.law_patterns.specs.declared.net_sym.NetSym.TheVariants as S
use Rattle.law_patterns.specs.NetPattern.{Written, both}

-- the expressions and networks that are there, or None where some were missing
abbrev pub both_there : Bool → List Expression → List (Network Expression) → Option Written
both_there true es fs = Some (both es fs)
both_there false es fs = None

-- the form of one expression that a symbol is, with this number where it has one
abbrev pub leaf_form : NetSym → ℕ → Expression → Network Expression
leaf_form S.IPre q e = i_pre e
leaf_form S.Hold q e = hold e
leaf_form S.Delay q e = delay q e
leaf_form S.After q e = after q e
leaf_form S.Now q e = after 0 e
leaf_form S.Repeatedly q e = repeatedly q e
leaf_form _ q e = arr e

-- the form of two networks
abbrev pub pair_form : NetSym → Network Expression → Network Expression → Network Expression
pair_form S.Switch f g = switch at_once f g
pair_form S.DSwitch f g = switch delayed f g
pair_form S.RSwitch f g = r_switch at_once f g
pair_form S.DrSwitch f g = r_switch delayed f g
pair_form _ f g = seq f g
