use Rattle.std.specs.Prelude.{string_bytes}
use Rattle.command_line.specs.CommandLine.{derivation_view, printing_view}
use Rattle.yampa_run.specs.Compile.{without_derivation}
use Rattle.yampa_run.proofs.CText.{not_checked_c, tells_checked_c, tells_form}
use Rattle.yampa_run.proofs.compile.compiled_checked.Goals as goal

pub returns-in-Ok-derived-clause-text : goal.returns-in-Ok-derived-clause-text
returns-in-Ok-derived-clause-text g c =
    tells_checked_c (λ s. string_bytes s) (g.F.Files.told c.args.files.now) (derivation_view c.args.names) (printing_view c.args.printing)
    c.in-Ok-derived.target c.in-Ok.form c.c_text-text.result (record { count = _; derived = c.in-Ok-derived.ensures.derived }) c.in-Ok.ensures.form
    c.c_text-text.ensures.text

pub returns-in-Ok-derived-clause-refused : goal.returns-in-Ok-derived-clause-refused
returns-in-Ok-derived-clause-refused g c =
    not_checked_c (g.F.Files.told c.args.files.now) (derivation_view c.args.names) (printing_view c.args.printing) c.in-Ok-derived.target c.in-Ok.form
    c.c_text-text.result (record { count = _; derived = c.in-Ok-derived.ensures.derived }) c.in-Ok.ensures.form c.c_text-text.ensures.refused

pub returns-in-Err-derived-clause-refused : goal.returns-in-Err-derived-clause-refused
returns-in-Err-derived-clause-refused g c =
    without_derivation (tells_form (printing_view c.args.printing) c.in-Ok.form c.in-Ok.ensures.form) c.in-Err-derived.ensures.refused
