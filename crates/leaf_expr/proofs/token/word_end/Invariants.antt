use Rattle.std.proofs.Common.{◌≡◌, ℕ, ◌≤◌, ◌<◌, true, get_or}
use Rattle.leaf_expr.specs.Token.{is_word_byte}
use Rattle.leaf_expr.proofs.token.word_end.Given as goal

abbrev pub invariant-loop-i : goal.invariant-loop-i
invariant-loop-i l = (k : ℕ) → l.start ≤ k → k < l.i → is_word_byte (get_or l.text k 0) ≡ true
