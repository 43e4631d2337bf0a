-- The network of a file, and why there is none.
use Rattle.std.specs.Prelude.{◌≡◌, ◌≢◌, ◌⊎◌, ℕ, List, Option, Some, None, Err, string_bytes, ⊤}
use Rattle.sample_core.specs.TypeTree.{TypeTree}
use Rattle.leaf_core.specs.Expression.{Expression}
use Rattle.net_tree.specs.Network.{Network}
use Rattle.net_meaning.specs.TypedNetwork.{TypedNetwork}
use Rattle.net_meaning.specs.NetworkLimits.{WithinLimits}
use Rattle.net_text.specs.FileLaws.{IsFile, IsFileFault}
use Rattle.net_text.specs.declared.fault.NetTextFault.{NetTextFault}
use Rattle.net_text.specs.declared.fault.NetTextFault.TheVariants as V
use Rattle.net_types.specs.Check.{check}
use Rattle.net_types.specs.declared.fault.TypeFault.{TypeFault}
use Rattle.net_types.specs.declared.fault.TypeFault.TheVariants as T
use Rattle.yampa_run.specs.RefusalLines.{text_words, type_words, unread_words}
use Rattle.yampa_run.specs.declared.refused.Role.{Role}
use Rattle.yampa_run.specs.declared.preparation.Refusal.{Refusal}
use Rattle.yampa_run.specs.declared.preparation.Refusal.TheVariants as Refused

-- t is the typed network of the bytes: they are a network file of its input type and its tree, and
-- it has its types, weight and height within the limits
pub record IsNetworkIn (bytes : List ℕ) (t : TypedNetwork) : Type 0 where
  pub file : IsFile bytes t.input t.net
  pub typed : WithinLimits t

-- t is the typed network of a file, where its bytes are told
abbrev pub IsNetworkOf : Option (List ℕ) → TypedNetwork → Type 0
IsNetworkOf None t = ⊤
IsNetworkOf (Some bytes) t = IsNetworkIn bytes t

-- the bytes are no network file, or one whose network has no types within the limits, and the line
-- says why, of a file of that role
pub data IsRefusedWith (r : Role) (bytes line : List ℕ) : Type 0 where
  by_text : (f : NetTextFault) → f ≢ V.Memory → IsFileFault bytes f → line ≡ text_words r f
      → IsRefusedWith r bytes line
  by_types : (A : TypeTree) (net : Network Expression) (f : TypeFault) → IsFile bytes A net
      → check A net ≡ Err f → line ≡ type_words r f → IsRefusedWith r bytes line

-- bytes are refused with one line
abbrev pub OneRefusalLaw : Type 0
OneRefusalLaw = (r : Role) (bytes line other : List ℕ) → IsRefusedWith r bytes line
    → IsRefusedWith r bytes other → line ≡ other

-- bytes that are refused have no network
abbrev pub NoNetworkLaw : Type 0
NoNetworkLaw = (r : Role) (bytes line : List ℕ) (t : TypedNetwork) → IsRefusedWith r bytes line
    → IsNetworkIn bytes t → ⊥

-- a file is refused with that line, where its bytes are told
abbrev pub IsRefusedOf : Role → Option (List ℕ) → List ℕ → Type 0
IsRefusedOf r None line = ⊤
IsRefusedOf r (Some bytes) line = IsRefusedWith r bytes line

-- a file wasn't read, with status 3, and nothing is told of it; or memory was short
abbrev pub IsUnread : Role → Option (List ℕ) → Refusal → Type 0
IsUnread r told (Refused.Line status line) = (status ≡ 3) × (told ≡ None)
    × (string_bytes line ≡ unread_words r)
IsUnread r told Refused.Memory = ⊤

-- why there is no network of a file: it wasn't read; or it is refused, with status 1; or memory was
-- short
abbrev pub HasNoNetwork : Role → Option (List ℕ) → Refusal → Type 0
HasNoNetwork r told (Refused.Line status line) = IsUnread r told (Refused.Line status line)
    ⊎ ((status ≡ 1) × IsRefusedOf r told (string_bytes line))
HasNoNetwork r told Refused.Memory = ⊤

-- a refusal for that fault of a text: its line with status 1, or memory was short
abbrev pub RefusesText : Role → NetTextFault → Refusal → Type 0
RefusesText r f (Refused.Line status line) = (f ≢ V.Memory) × (status ≡ 1)
    × (string_bytes line ≡ text_words r f)
RefusesText r f Refused.Memory = ⊤

-- a refusal for that fault of types: its line with status 1, or memory was short
abbrev pub RefusesTypes : Role → TypeFault → Refusal → Type 0
RefusesTypes r f (Refused.Line status line) = (f ≢ T.Memory) × (status ≡ 1)
    × (string_bytes line ≡ type_words r f)
RefusesTypes r f Refused.Memory = ⊤

-- a refusal with that status and that line, or memory was short
abbrev pub RefusesWith : ℕ → List ℕ → Refusal → Type 0
RefusesWith code words (Refused.Line status line) = (status ≡ code) × (string_bytes line ≡ words)
RefusesWith code words Refused.Memory = ⊤
