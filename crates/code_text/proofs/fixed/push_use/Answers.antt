use Rattle.code_text.proofs.fixed.push_use.Goals as goal

pub returns : goal.returns
returns c = rw c.promised-promised.ensures at c.push.ensures
