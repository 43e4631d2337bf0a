-- Which child of a `pSwitch` stands at which number, and how many members there can be.
use Rattle.std.proofs.Common.{◌≡◌, ◌≤◌, ℕ, zero, suc, Some, refl, arith}
use Rattle.net_tree.specs.Network.{Network, Networks, no_members, and_member, networks_size}
use Rattle.net_meaning.specs.Typing.{members}
use Rattle.net_tree.specs.Place.{member, p_switch_child, member_child, event_child, continuation_child}

module _ {L : Type 0} where
  pub member_is : (fs : Networks L) (k : ℕ) (f : Network L) → member fs k ≡ Some f → p_switch_child fs k ≡ member_child
  member_is no_members k f e = absurd (cc)
  member_is (and_member g fs) zero f e = refl
  member_is (and_member g fs) (suc k) f e = member_is fs k f e

  pub event_is : (fs : Networks L) → p_switch_child fs (members fs) ≡ event_child
  event_is no_members = refl
  event_is (and_member g fs) = event_is fs

  pub continuation_is : (fs : Networks L) → p_switch_child fs (suc (members fs)) ≡ continuation_child
  continuation_is no_members = refl
  continuation_is (and_member g fs) = continuation_is fs

  -- each member is a network, and is counted as one
  pub members_few : (fs : Networks L) → members fs ≤ networks_size fs
  members_few no_members = omega arith
  members_few (and_member f fs) = omega (arith, members_few fs)
