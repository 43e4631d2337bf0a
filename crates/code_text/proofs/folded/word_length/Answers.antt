use Rattle.code_text.proofs.FoldedLemmas.{length_some, length_none}
use Rattle.code_text.proofs.folded.word_length.Goals as goal

pub returns-in-Some : goal.returns-in-Some
returns-in-Some c = length_some _ c.split_once.result c.split_once.ensures.cases _ c.in-Some.is

pub returns-in-None : goal.returns-in-None
returns-in-None c = length_none _ c.split_once.result c.split_once.ensures.cases c.in-None.is
