use Rattle.c_leaf.proofs.Same.{same_law}
use Rattle.c_leaf.proofs.LeafC.{leaf_c_law, constant_law}
use Rattle.c_leaf.proofs.leaf_c_laws.Goals as goal

pub returns-clause-same : goal.returns-clause-same
returns-clause-same c = same_law

pub returns-clause-leaf : goal.returns-clause-leaf
returns-clause-leaf c = leaf_c_law

pub returns-clause-constant : goal.returns-clause-constant
returns-clause-constant c = constant_law
