use Rattle.std.proofs.Common.{ap, ◌∙◌}
use Rattle.net_tree.specs.NetworkView.{tree_of}
use Rattle.net_opt.proofs.Walked.{reached_start, settled_start, from_root}
use Rattle.net_opt.proofs.optimiser.first_step.Goals as goal

pub step_within-requires : goal.step_within-requires
step_within-requires c = record {
  reached = reached_start c.args.reached.now c.args.walk.now.path.items (tree_of c.in_ok-whole.whole) c.net.ensures.limits c.requires.root
      (ap tree_of c.in_ok-whole.ensures ∙ c.net.ensures.net);
  settled = settled_start c.args.reached.now c.args.walk.now.path.items c.args.settled.now c.requires.root c.requires.settled;
}

pub returns : goal.returns
returns c =
    from_root c.step_within.new.walk.refused c.args.reached.now c.step_within.new.typed c.args.walk.now.path.items c.step_within.new.walk.path.items
    c.step_within.result c.requires.root c.step_within.ensures.found
