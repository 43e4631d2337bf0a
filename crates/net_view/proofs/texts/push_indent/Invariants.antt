use Rattle.std.proofs.Common.{◌≡◌, ◌++◌, string_bytes, drop}
use Rattle.sample_core.specs.Adding.{Extends}
use Rattle.net_view.specs.Texts.{indent}
use Rattle.net_view.proofs.texts.push_indent.Given as goal

-- the text begins as it did, and what stands there and the blanks to come are the whole
abbrev pub invariant-children : goal.invariant-children
invariant-children l =
    Extends (string_bytes l.initial.text) (string_bytes l.text)
    × (string_bytes l.text ++ indent (drop l.index l.path) ≡ string_bytes l.initial.text ++ indent l.path)
