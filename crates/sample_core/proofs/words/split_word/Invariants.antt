use Rattle.std.proofs.Common.{◌≡◌, ◌++◌, take, drop}
use Rattle.sample_core.specs.Words.{word_of, after_word}
use Rattle.sample_core.proofs.words.split_word.Given as goal

-- what was passed belongs to the word
abbrev pub invariant-loop-len : goal.invariant-loop-len
invariant-loop-len l = (take l.len l.text ++ word_of (drop l.len l.text) ≡ word_of l.text) × (after_word (drop l.len l.text) ≡ after_word l.text)
