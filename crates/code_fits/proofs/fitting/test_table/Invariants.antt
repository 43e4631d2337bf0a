use Rattle.std.proofs.Common.{◌≡◌, ◌<◌, ℕ, Some}
use Rattle.std.specs.List.{slice_get}
use Rattle.code_fits.specs.declared.types.TypeEntry.{TypeEntry}
use Rattle.code_fits.specs.Tables.{entry_tree, tree_at}
use Rattle.code_fits.proofs.fitting.test_table.Given as goal

-- the entries so far are the trees at their numbers
abbrev pub invariant-loop-k : goal.invariant-loop-k
invariant-loop-k l =
    (j : ℕ) → j < l.k → (r : TypeEntry) → slice_get l.types.entries.items j ≡ Some r
    → tree_at l.types j ≡ entry_tree l.types r
