use Rattle.std.proofs.Common.{◌≡◌, ℕ, ◌<◌, true}
use Rattle.net_tree.specs.LawStep.{seen}
use Rattle.net_opt.specs.Search.{Passed}
use Rattle.net_opt.proofs.Tried.{law_tried}
use Rattle.net_opt.proofs.step.step_at.Given as goal

abbrev pub invariant-loop-number : goal.invariant-loop-number
invariant-loop-number l = record {
  kept : l.typed ≡ l.fn.typed;
  path_kept : l.walk.path.items ≡ l.fn.walk.path.items;
  more : l.fn.walk.refused ≡ true → l.walk.refused ≡ true;
  none : (k : ℕ) → k < l.number-index → Passed l.walk.refused l.fn.typed l.fn.walk.path.items (law_tried (seen l.fn.place.tree) k);
}
