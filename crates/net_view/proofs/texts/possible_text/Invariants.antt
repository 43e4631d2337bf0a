use Rattle.std.proofs.Common.{◌≡◌, ◌++◌, string_bytes, drop, map}
use Rattle.net_view.specs.Possible.{possible_of}
use Rattle.net_view.specs.Texts.{possibles_spelling}
use Rattle.net_view.proofs.texts.possible_text.Given as goal

-- what stands there, and the lines of the steps to come, is the whole
abbrev pub invariant-loop-step : goal.invariant-loop-step
invariant-loop-step l = string_bytes l.text ++ possibles_spelling (map possible_of (drop l.step-index l.step-items)) ≡ possibles_spelling (map possible_of l.step-items)
