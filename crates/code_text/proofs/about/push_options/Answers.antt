use Rattle.code_text.proofs.about.push_options.Goals as goal

pub returns : goal.returns
returns c = rw c.unchecked_word-unchecked.ensures at c.push.ensures
