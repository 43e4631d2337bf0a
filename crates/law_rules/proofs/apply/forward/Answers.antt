use Rattle.std.proofs.Common.{sym, ◌∙◌}
use Rattle.net_tree.specs.NetworkView.{tree_of}
use Rattle.law_rules.specs.declared.table.Rule.TheVariants as R
use Rattle.law_rules.proofs.Answered.{no-law, by-name, by-patterns}
use Rattle.law_rules.proofs.apply.forward.Goals as goal

pub returns-in-Nothing : goal.returns-in-Nothing
returns-in-Nothing c = no-law c.args.number c.args.olds (tree_of c.args.net.now) (sym c.in-Nothing.is ∙ c.law_rule-rule.ensures.rule)

pub returns-in-Sides : goal.returns-in-Sides
returns-in-Sides c =
    by-patterns c.args.number c.args.olds (tree_of c.args.net.now) c.law_rule-rule.result.1.now c.law_rule-rule.result.2.now c.rewrite_net.result (sym c.in-Sides.is ∙ c.law_rule-rule.ensures.rule)
    c.law_rule-rule.ensures.left c.law_rule-rule.ensures.right c.rewrite_net.ensures

pub returns-in-WithoutInput : goal.returns-in-WithoutInput
returns-in-WithoutInput c =
    by-name c.args.number c.args.olds (tree_of c.args.net.now) R.WithoutInput c.without_input.result (sym c.in-WithoutInput.is ∙ c.law_rule-rule.ensures.rule) (λ h. (h c.args.olds).1) c.without_input.ensures

pub returns-in-Resumed : goal.returns-in-Resumed
returns-in-Resumed c =
    by-name c.args.number c.args.olds (tree_of c.args.net.now) R.Resumed c.resumed.result (sym c.in-Resumed.is ∙ c.law_rule-rule.ensures.rule) (λ h. (h c.args.olds).1) c.resumed.ensures

pub returns-in-MembersApart : goal.returns-in-MembersApart
returns-in-MembersApart c =
    by-name c.args.number c.args.olds (tree_of c.args.net.now) R.MembersApart c.members_apart.result (sym c.in-MembersApart.is ∙ c.law_rule-rule.ensures.rule) (λ h. (h c.args.olds).1) c.members_apart.ensures

pub returns-in-OneMember : goal.returns-in-OneMember
returns-in-OneMember c =
    by-name c.args.number c.args.olds (tree_of c.args.net.now) R.OneMember c.one_member.result (sym c.in-OneMember.is ∙ c.law_rule-rule.ensures.rule) (λ h. (h c.args.olds).1) c.one_member.ensures

pub returns-in-BeforeMembers : goal.returns-in-BeforeMembers
returns-in-BeforeMembers c =
    by-name c.args.number c.args.olds (tree_of c.args.net.now) R.BeforeMembers c.before_members.result (sym c.in-BeforeMembers.is ∙ c.law_rule-rule.ensures.rule) (λ h. (h c.args.olds).1) c.before_members.ensures

pub returns-in-ElementsApart : goal.returns-in-ElementsApart
returns-in-ElementsApart c =
    by-name c.args.number c.args.olds (tree_of c.args.net.now) R.ElementsApart c.elements_apart.result (sym c.in-ElementsApart.is ∙ c.law_rule-rule.ensures.rule) (λ h. (h c.args.olds).1) c.elements_apart.ensures

pub returns-in-Unchanging : goal.returns-in-Unchanging
returns-in-Unchanging c =
    by-name c.args.number c.args.olds (tree_of c.args.net.now) R.Unchanging c.unchanging.result (sym c.in-Unchanging.is ∙ c.law_rule-rule.ensures.rule) (λ h. (h c.args.olds).1) c.unchanging.ensures
