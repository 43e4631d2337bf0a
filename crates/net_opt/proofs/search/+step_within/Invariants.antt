use Rattle.std.proofs.Common.{◌≡◌, ℕ, ◌-◌, ◌<◌, true, [], ◌∷◌, ◌++◌}
use Rattle.net_tree.specs.LawStep.{seen}
use Rattle.net_opt.specs.Search.{PassedAt, PassedWithin}
use Rattle.net_opt.proofs.Walked.{rank}
use Rattle.net_opt.proofs.search.+step_within.Given as goal

abbrev pub decreases-step_within : goal.decreases-step_within
decreases-step_within l = rank (seen l.place.tree)

abbrev pub invariant-loop-inner : goal.invariant-loop-inner
invariant-loop-inner l = record {
  kept : l.typed ≡ l.fn.typed;
  path_kept : l.walk.path.items ≡ l.fn.walk.path.items;
  more : l.fn.walk.refused ≡ true → l.walk.refused ≡ true;
  here : PassedAt l.walk.refused l.fn.typed l.fn.walk.path.items;
  below : (j : ℕ) → j < l.k → PassedWithin l.walk.refused l.fn.typed (l.fn.walk.path.items ++ j ∷ []);
}

abbrev pub decreases-loop-inner : goal.decreases-loop-inner
decreases-loop-inner l = 5000003 - l.k
