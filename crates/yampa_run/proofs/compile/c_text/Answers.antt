use Rattle.std.specs.Prelude.{string_bytes}
use Rattle.command_line.specs.CommandLine.{printing_view}
use Rattle.yampa_run.proofs.CText.{prints_named}
use Rattle.yampa_run.proofs.compile.c_text.Goals as goal

pub returns-in-Ok-clause-text : goal.returns-in-Ok-clause-text
returns-in-Ok-clause-text c =
    prints_named (λ s. string_bytes s) c.args.net.now (printing_view c.args.printing) c.args.form.name.now c.args.form.most c.in-Ok.program c.text_of-text.result
    c.in-Ok.ensures.program c.in-Ok.ensures.state c.text_of-text.ensures.text
