-- The laws of reading at the front of tokens, together.
use Rattle.leaf_expr.specs.Language.{Language}
use Rattle.leaf_expr.specs.ReadLaws.{FoundLaw, OnlyLaw, OneReadingLaw, TokenFaultLaw, OneFaultLaw}
use Rattle.leaf_expr.proofs.Proper.{Proper}
use Rattle.leaf_expr.proofs.ReadFound.{found}
use Rattle.leaf_expr.proofs.ReadOnly.{only}
use Rattle.leaf_expr.proofs.ReadFaults.{one_reading}
use Rattle.leaf_expr.proofs.OneFault.{fault_law, one_fault}

pub record ReadingLaws (L : Language) : Type 0 where
  pub found : FoundLaw L
  pub only : OnlyLaw L
  pub one : OneReadingLaw L
  pub fault : TokenFaultLaw L
  pub one_fault : OneFaultLaw L

-- each proper language obeys them
pub laws_of_reading : (L : Language) → Proper L → ReadingLaws L
laws_of_reading L proper =
    record {
      found = λ size room s ts t n rest e. found L size room s ts (t, n, rest) e;
      only = λ size room s ts t n rest b. only L proper size room s b.part ts n rest t b.spells b.means b.within;
      one = one_reading L proper;
      fault = fault_law L proper;
      one_fault = one_fault L proper;
    }
