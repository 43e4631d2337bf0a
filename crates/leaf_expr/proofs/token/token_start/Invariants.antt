use Rattle.std.proofs.Common.{◌≡◌, drop}
use Rattle.leaf_expr.specs.Token.{tokens_in, tokens_from}
use Rattle.leaf_expr.proofs.token.token_start.Given as goal

abbrev pub invariant-loop-i : goal.invariant-loop-i
invariant-loop-i l = tokens_in l.in_comment l.i (drop l.i l.text) ≡ tokens_from l.at l.text
