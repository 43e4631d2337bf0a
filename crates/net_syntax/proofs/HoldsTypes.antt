-- A network within the limits is typed.
use Rattle.net_meaning.specs.TypedNetwork.{TypedNetwork, HasItsTypes}
use Rattle.net_meaning.specs.NetworkLimits.{WithinLimits}
use Rattle.net_meaning.proofs.TypingMap.{map_typed}

pub holds_types : (t : TypedNetwork) → WithinLimits t → HasItsTypes t
holds_types t h = map_typed (λ e Ps A B k. k.checked.given) (λ A m. tt) h.fits.typed
