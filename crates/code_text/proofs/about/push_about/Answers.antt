use Rattle.code_text.proofs.Joined.{joined_six}
use Rattle.code_text.proofs.about.push_about.Goals as goal

pub returns : goal.returns
returns c =
    joined_six _ _ _ _ _ _ _ _ _ _ _ _ _ _
    c.in_ok-push_types.ensures
    c.in_ok-push_with_each.ensures
    c.in_ok-push_options.ensures
    c.in_ok-push_folded.ensures
    c.in_ok-push_use.ensures
    c.push_figures.ensures
