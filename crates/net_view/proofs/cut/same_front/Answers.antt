use Rattle.std.proofs.Common.{◌≡◌, ℕ, List, [], length, nat_eq, ap, ◌⊎◌, inl, inr, arith}
use Rattle.std.specs.List.{common_prefix_len}
use Rattle.std.proofs.lemmas.List.Sums.{common_prefix_len-le}
use Rattle.std.proofs.lemmas.Slice.Zip.{either_empty_from_Zip}
use Rattle.net_view.proofs.cut.same_front.Goals as goal

-- where one is at its end, nothing is to be counted
none_left : (xs ys : List ℕ) → (xs ≡ []) ⊎ (ys ≡ []) → common_prefix_len nat_eq xs ys ≡ 0
none_left xs ys (inl e) = let h = common_prefix_len-le nat_eq xs ys in let n : length xs ≡ 0 = ap length e in omega arith
none_left xs ys (inr e) = let h = common_prefix_len-le nat_eq xs ys in let n : length ys ≡ 0 = ap length e in omega arith

pub returns : goal.returns
returns c =
    let spent = either_empty_from_Zip _ c.next.new.self _ c.in-None.is c.next.ensures.steps in
    let rest = none_left _ _ spent in
    omega (arith, c.loop-x.invariant.0)
