use Rattle.law_rules.proofs.AnsweredParts.{answered, found, missing, too_many}
use Rattle.law_rules.proofs.parts.member_at.Goals as goal

pub returns-then-all-gt-MOST_MEMBERS : goal.returns-then-all-gt-MOST_MEMBERS
returns-then-all-gt-MOST_MEMBERS c = too_many _ _ _ c.as_slice-all.ensures c.if-all-gt-MOST_MEMBERS.true

pub returns-then-i-all : goal.returns-then-i-all
returns-then-i-all c = missing _ _ _ c.as_slice-all.ensures c.if-i-all.true

pub returns : goal.returns
returns c =
    answered _ _ _ (found _ _ _ _ c.as_slice-all.ensures c.if-all-gt-MOST_MEMBERS.false c.if-i-all.false c.index-all-i.is) c.copied.ensures
