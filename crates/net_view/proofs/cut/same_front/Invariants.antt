use Rattle.std.proofs.Common.{◌≡◌, ◌+◌, nat_eq, length}
use Rattle.std.specs.Iterator.Adapters.{zip_first, zip_second}
use Rattle.std.specs.List.{common_prefix_len}
use Rattle.std.specs.Slice.Iter.{iter_rest}
use Rattle.net_view.specs.Cut.{same_front}
use Rattle.net_view.proofs.cut.same_front.Given as goal

-- what was counted, and what is to be counted yet, is the whole
abbrev pub invariant-loop-x : goal.invariant-loop-x
invariant-loop-x l =
    let xs = iter_rest (zip_first l.x-iterator) in
    let ys = iter_rest (zip_second l.x-iterator) in
    (l.count + common_prefix_len nat_eq xs ys ≡ same_front l.a l.b) × (l.count + length xs ≡ length l.a)
