use Rattle.std.specs.Prelude.{string_bytes}
use Rattle.command_line.specs.CommandLine.{printing_view}
use Rattle.yampa_run.specs.Compile.{without_network}
use Rattle.yampa_run.proofs.CText.{not_compiled, tells_c, tells_form}
use Rattle.yampa_run.proofs.compile.compiled.Goals as goal

pub returns-in-Ok-load-clause-text : goal.returns-in-Ok-load-clause-text
returns-in-Ok-load-clause-text g c =
    tells_c (λ s. string_bytes s) (g.F.Files.told c.args.files.now c.args.name.now) (printing_view c.args.printing) c.in-Ok-load.net c.in-Ok.form
    c.c_text-text.result c.in-Ok-load.ensures.network c.in-Ok.ensures.form c.c_text-text.ensures.text

pub returns-in-Ok-load-clause-refused : goal.returns-in-Ok-load-clause-refused
returns-in-Ok-load-clause-refused g c =
    not_compiled (g.F.Files.told c.args.files.now c.args.name.now) (printing_view c.args.printing) c.in-Ok-load.net c.in-Ok.form c.c_text-text.result
    c.in-Ok-load.ensures.network c.in-Ok.ensures.form c.c_text-text.ensures.refused

pub returns-in-Err-load-clause-refused : goal.returns-in-Err-load-clause-refused
returns-in-Err-load-clause-refused g c = without_network (tells_form (printing_view c.args.printing) c.in-Ok.form c.in-Ok.ensures.form) c.in-Err-load.ensures.refused
