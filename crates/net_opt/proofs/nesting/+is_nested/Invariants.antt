use Rattle.net_opt.proofs.nesting.+is_nested.Given as goal

abbrev pub decreases-is_nested : goal.decreases-is_nested
decreases-is_nested l = l.depth
