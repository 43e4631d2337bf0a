-- A text that grew in several steps begins as it did before the first.
use Rattle.std.proofs.Common.{◌≡◌, ℕ, List, [], ◌++◌, ap, sym, ◌∙◌, append_assoc, append-nil}
use Rattle.sample_core.specs.Adding.{Extends}

-- a text begins with itself
pub extends_self : (old new : List ℕ) → new ≡ old → Extends old new
extends_self old new e = record { behind = []; joined = e ∙ sym (append-nil old) }

-- bytes were added, and then the text grew
pub extends_added : (old mid new bytes : List ℕ) → mid ≡ old ++ bytes → Extends mid new → Extends old new
extends_added old mid new bytes e x = record { behind = bytes ++ x.behind; joined = x.joined ∙ ap (λ t. t ++ x.behind) e ∙ append_assoc old bytes x.behind }
