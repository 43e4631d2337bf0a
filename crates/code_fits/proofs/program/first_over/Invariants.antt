use Rattle.code_fits.specs.Sizes.{NoneOver}
use Rattle.code_fits.proofs.program.first_over.Given as goal

-- none so far is over
abbrev pub invariant-loop-k : goal.invariant-loop-k
invariant-loop-k l = NoneOver l.sizes l.k
