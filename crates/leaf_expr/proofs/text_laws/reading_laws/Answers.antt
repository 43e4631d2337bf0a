use Rattle.leaf_expr.specs.Grammar.{leaf}
use Rattle.leaf_expr.proofs.LeafProper.{leaf_proper}
use Rattle.leaf_expr.proofs.ReadingLaws.{laws_of_reading}
use Rattle.leaf_expr.proofs.text_laws.reading_laws.Goals as goal

pub returns : goal.returns
returns c =
    let l = laws_of_reading leaf leaf_proper in
    record { found = l.found; only = l.only; one = l.one; fault = l.fault; one_fault = l.one_fault }
