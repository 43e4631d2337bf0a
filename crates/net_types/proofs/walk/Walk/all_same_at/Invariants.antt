use Rattle.std.proofs.Common.{◌≡◌, ◌+◌, drop, map}
use Rattle.sample_core.specs.TypeView.{type_of}
use Rattle.net_types.specs.Walk.{all_same}
use Rattle.net_types.proofs.walk.Walk.all_same_at.Given as goal

-- the outputs to come are tested as all are
abbrev pub invariant-loop-output : goal.invariant-loop-output
invariant-loop-output l =
    (l.child ≡ l.first + l.output-index) × (all_same l.self.path.items l.child (type_of l.wanted) (map type_of (drop l.output-index l.outputs))
    ≡ all_same l.self.path.items l.first (type_of l.wanted) (map type_of l.outputs))
