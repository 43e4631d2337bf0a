use Rattle.std.proofs.Common.{◌≡◌, drop}
use Rattle.c_text.specs.Used.{terms_used}
use Rattle.c_text.proofs.used.+mark_term.Given as goal

-- what is marked so far, with the expressions to come, is all
abbrev pub invariant-mark_terms-loop-term : goal.invariant-mark_terms-loop-term
invariant-mark_terms-loop-term l = terms_used l.used.items (drop l.term-index l.all) ≡ terms_used l.initial.used.items l.all
