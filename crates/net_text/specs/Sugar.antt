-- What sugar means, in core forms.
use Rattle.sample_core.specs.TypeTree.{TypeTree, unit_ty}
use Rattle.leaf_core.specs.Expression.{Expression, input, unit_expr, bool_expr, pair_expr, fst, snd, then_expr, not_expr, and_expr, if_expr, no_event_expr, event_expr}
use Rattle.net_tree.specs.Network.{Network, arr, seq, first, i_pre, hold, accum_by, after}
use Rattle.std.specs.Prelude.{true}

-- the sides of a pair turned round
abbrev pub swap_sides : Expression
swap_sides = pair_expr (snd input) (fst input)

-- the input as it is
abbrev pub identity : Network Expression
identity = arr input

-- `(constant e)`: the value of e at each sample
abbrev pub constant : Expression → Network Expression
constant e = arr (then_expr unit_expr e)

-- `(second f)`: f on the right components
abbrev pub second : Network Expression → Network Expression
second f = seq (arr swap_sides) (seq (first f) (arr swap_sides))

-- `(*** f g)`: f on the left components and g on the right ones
abbrev pub beside : Network Expression → Network Expression → Network Expression
beside f g = seq (first f) (second g)

-- `(&&& f g)`: the pair of what f and g output on one input
abbrev pub fan_out : Network Expression → Network Expression → Network Expression
fan_out f g = seq (arr (pair_expr input input)) (beside f g)

-- `(never T)`: no event at any sample
abbrev pub never : TypeTree → Network Expression
never T = arr (no_event_expr T)

-- `(now c)`: an event c at the first sample
abbrev pub now : Expression → Network Expression
now c = after 0 c

-- an event where the left side of a pair holds and the right one doesn't
abbrev pub rise : Expression
rise = if_expr (and_expr (fst input) (not_expr (snd input))) (event_expr unit_expr)
    (no_event_expr unit_ty)

-- an event at each sample that holds behind one that doesn't
abbrev pub edge : Network Expression
edge = seq (fan_out identity (i_pre (bool_expr true))) (arr rise)

-- `(accumHoldBy g z)`: the value of the latest event of `(accumBy g z)`, before that z
abbrev pub accum_hold_by : Expression → Expression → Network Expression
accum_hold_by g z = seq (accum_by g z) (hold z)
