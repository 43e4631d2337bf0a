use Rattle.std.proofs.Common.{◌≡◌, drop, ◌∷◌, []}
use Rattle.leaf_core.specs.ExpressionView.{expression_of}
use Rattle.law_patterns.specs.Matching.{matching, matched, found_of, todo_of}
use Rattle.law_patterns.proofs.matching.fit.Given as goal

abbrev pub invariant-loop-sym : goal.invariant-loop-sym
invariant-loop-sym l =
    matched (drop l.sym-index l.pattern) (matching (todo_of l.todo) (found_of l.letters))
    ≡ matched l.fn.pattern (matching (expression_of l.fn.expr ∷ []) (found_of l.fn.letters))
