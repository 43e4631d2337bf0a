use Rattle.net_view.proofs.cut.+push_fitting.Given as goal

abbrev pub decreases-push_fitting : goal.decreases-push_fitting
decreases-push_fitting l = l.most
