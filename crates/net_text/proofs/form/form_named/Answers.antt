use Rattle.std.proofs.Common.{◌∙◌, sym}
use Rattle.net_text.specs.Form.{version_of}
use Rattle.net_text.proofs.Forms.{in_cell, in_pair, in_other, in_new}
use Rattle.net_text.proofs.form.form_named.Goals as goal

pub returns-in-Some : goal.returns-in-Some
returns-in-Some c = sym (in_cell (version_of c.args.version) c.args.word.now _ (sym c.in-Some.ensures))

pub returns-in-Some-pair_named : goal.returns-in-Some-pair_named
returns-in-Some-pair_named c = sym (in_pair (version_of c.args.version) c.args.word.now (sym c.in_default.ensures) _ (sym c.in-Some-pair_named.ensures))

pub returns-in-Some-other_named : goal.returns-in-Some-other_named
returns-in-Some-other_named c =
    sym
    (in_other (version_of c.args.version) c.args.word.now (sym c.in_default.ensures) (sym c.in_default-pair_named.ensures) _
    (sym c.in-Some-other_named.ensures))

pub returns-in_default-other_named : goal.returns-in_default-other_named
returns-in_default-other_named c =
    c.added_named.ensures
    ∙ sym
    (in_new (version_of c.args.version) c.args.word.now (sym c.in_default.ensures) (sym c.in_default-pair_named.ensures)
    (sym c.in_default-other_named.ensures))
