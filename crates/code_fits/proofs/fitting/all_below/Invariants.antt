use Rattle.std.proofs.Common.{drop}
use Rattle.net_code.specs.Running.{AllBelow}
use Rattle.code_fits.proofs.fitting.all_below.Given as goal

-- where those to come are, all are
abbrev pub invariant-loop-number : goal.invariant-loop-number
invariant-loop-number l = AllBelow l.k (drop l.number-index l.numbers) → AllBelow l.k l.numbers
