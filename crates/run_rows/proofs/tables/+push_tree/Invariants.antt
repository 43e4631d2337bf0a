use Rattle.run_rows.proofs.tables.+push_tree.Given as goal

abbrev pub decreases-push_tree : goal.decreases-push_tree
decreases-push_tree l = l.depth
