use Rattle.std.proofs.Common.{◌≡◌, ◌++◌, string_bytes, drop, map}
use Rattle.net_view.specs.Outline.{line_of}
use Rattle.net_view.specs.Texts.{lines_spelling}
use Rattle.net_view.proofs.texts.outline_text.Given as goal

-- what stands there, and the lines to come, is the whole
abbrev pub invariant-loop-line : goal.invariant-loop-line
invariant-loop-line l = string_bytes l.text ++ lines_spelling (map line_of (drop l.line-index l.line-items)) ≡ lines_spelling (map line_of l.line-items)
