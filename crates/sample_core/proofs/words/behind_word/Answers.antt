use Rattle.std.proofs.Common.{◌≡◌, ◌++◌, Some, None, sym, ◌∙◌}
use Rattle.std.proofs.lemmas.Bool.Decides.{Decides-eqb}
use Rattle.std.proofs.lemmas.Slice.Eq.{strip_prefix_is}
use Rattle.sample_core.proofs.WordLemmas.{word_found, word_longer, word_missing}
use Rattle.sample_core.proofs.words.behind_word.Goals as goal

pub returns-then-goes_on-clause-found : goal.returns-then-goes_on-clause-found
returns-then-goes_on-clause-found c =
    let m = rw c.as_bytes.ensures.value at c.in-Some.ensures.cases in
    let e : c.args.text.now ≡ c.args.name.now ++ c.in-Some.rest.now = strip_prefix_is Decides-eqb c.args.text.now c.args.name.now (Some c.in-Some.rest) m in
    word_longer c.args.text.now c.args.name.now c.in-Some.rest.now e (sym c.goes_on.ensures ∙ c.if-goes_on.true)

pub returns-else-goes_on-clause-found : goal.returns-else-goes_on-clause-found
returns-else-goes_on-clause-found c =
    let m = rw c.as_bytes.ensures.value at c.in-Some.ensures.cases in
    let e : c.args.text.now ≡ c.args.name.now ++ c.in-Some.rest.now = strip_prefix_is Decides-eqb c.args.text.now c.args.name.now (Some c.in-Some.rest) m in
    word_found c.args.text.now c.args.name.now c.in-Some.rest.now c.requires e (sym c.goes_on.ensures ∙ c.if-goes_on.false)

pub returns-in-None-clause-found : goal.returns-in-None-clause-found
returns-in-None-clause-found c =
    let m = rw c.as_bytes.ensures.value at c.in-None.ensures.cases in
    word_missing c.args.text.now c.args.name.now (strip_prefix_is Decides-eqb c.args.text.now c.args.name.now None m)
