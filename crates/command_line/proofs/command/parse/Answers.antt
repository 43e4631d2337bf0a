use Rattle.std.proofs.Common.{◌∙◌, sym, map}
use Rattle.command_line.proofs.Parsed.{taken, nothing, replied, told_nothing}
use Rattle.command_line.proofs.command.parse.Goals as goal

pub returns-in-Some : goal.returns-in-Some
returns-in-Some c =
    taken _ (map (λ w. w.now) c.args.words.now) c.in-Ok.matches c.in_ok-make_command.ensures c.in-Ok.ensures.matches c.in-Ok.ensures.kinds
    ∙ sym c.in-Some.ensures

pub returns-in-None : goal.returns-in-None
returns-in-None c =
    told_nothing (map (λ w. w.now) c.args.words.now)
    (nothing _ (map (λ w. w.now) c.args.words.now) c.in-Ok.matches c.in_ok-make_command.ensures c.in-Ok.ensures.matches c.in-Ok.ensures.kinds
    c.in-None.ensures) c.no_such_command.result c.no_such_command.ensures

pub returns-in-Err : goal.returns-in-Err
returns-in-Err c =
    c.or_beside.ensures (map (λ w. w.now) c.args.words.now)
    (replied _ (map (λ w. w.now) c.args.words.now) c.in-Err.error c.in_ok-make_command.ensures c.in-Err.ensures.kinds c.reply_to-reply.result
    c.reply_to-reply.ensures)
