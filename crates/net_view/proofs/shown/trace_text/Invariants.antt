use Rattle.std.proofs.Common.{◌≡◌, ◌++◌, map, drop, option_map}
use Rattle.std.specs.Prelude.{string_bytes}
use Rattle.net_tree.specs.LawStep.{step_of}
use Rattle.net_view.specs.Trace.{changed_of, stopped_of}
use Rattle.net_view.specs.TraceText.{trace_lines}
use Rattle.net_view.proofs.shown.trace_text.Given as goal

-- what is shown, and what is left, are the whole
abbrev pub invariant-loop-step : goal.invariant-loop-step
invariant-loop-step l =
    string_bytes l.text ++ trace_lines (map step_of (drop l.step-index l.steps)) (map changed_of l.changes) (option_map stopped_of l.trace.stop)
    ≡ trace_lines (map step_of l.steps) (map changed_of l.trace.changes.items) (option_map stopped_of l.trace.stop)
