-- What a call's answer says, once it is what reading gives.
use Rattle.std.proofs.Common.{◌≡◌, ℕ, List, length, drop, Result, Ok, Err}
use Rattle.std.specs.Prelude.{IfOk, IfErr}
use Rattle.sample_core.specs.TypeTree.{TypeTree}
use Rattle.sample_core.specs.Spelling.{spelling}
use Rattle.sample_core.specs.SpellsValue.{SpellsValue}
use Rattle.sample_core.specs.Reading.{Gives, reading}
use Rattle.sample_core.specs.Faults.{FaultOf}
use Rattle.sample_core.specs.ValueView.{datum_of}
use Rattle.sample_core.specs.declared.sample.Sample.{Sample}
use Rattle.sample_core.specs.declared.fault.ValueFault.{ValueFault}
use Rattle.sample_core.proofs.ReadingIs.{reading_law}
use Rattle.sample_core.proofs.FaultIs.{fault_law}

pub found_of : (A : TypeTree) (bs : List ℕ) (s : Sample) (r : Result ℕ ValueFault) → Gives (λ n. (datum_of s, n)) r (reading A bs)
    → IfOk r (λ n. (n ≡ length (spelling (datum_of s))) × SpellsValue (datum_of s) A bs (drop n bs))
found_of A bs s (Ok n) e = (reading_law A bs (datum_of s) n).0 e
found_of A bs s (Err f) e = tt

pub refused_of : (A : TypeTree) (bs : List ℕ) (s : Sample) (r : Result ℕ ValueFault) → Gives (λ n. (datum_of s, n)) r (reading A bs)
    → IfErr r (λ f. FaultOf f A bs)
refused_of A bs s (Ok n) e = tt
refused_of A bs s (Err f) e = λ h. (fault_law A bs f).0 (e h)
