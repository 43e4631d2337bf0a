use Rattle.std.proofs.Common.{◌-◌, suc, length, ap, sym, ◌∙◌, arith}
use Rattle.net_tree.specs.NetworkView.{trees}
use Rattle.net_tree.specs.Place.{p_switch_child}
use Rattle.net_syntax.proofs.ChildNumbers.{below, past}
use Rattle.net_syntax.proofs.place.kind_behind.Goals as goal

pub returns-then-k-count : goal.returns-then-k-count
returns-then-k-count c = ap (λ z. p_switch_child (trees z) c.args.k) (sym c.as_slice-count.ensures) ∙ below c.as_slice-count.result.now c.args.k c.if-k-count.true

pub returns-in-0 : goal.returns-in-0
returns-in-0 c = ap (λ z. p_switch_child (trees z) c.args.k) (sym c.as_slice-count.ensures) ∙ past c.as_slice-count.result.now c.args.k 0 (omega arith)

pub returns-in-1 : goal.returns-in-1
returns-in-1 c = ap (λ z. p_switch_child (trees z) c.args.k) (sym c.as_slice-count.ensures) ∙ past c.as_slice-count.result.now c.args.k 1 (omega arith)

pub returns-in_default : goal.returns-in_default
returns-in_default c =
    ap (λ z. p_switch_child (trees z) c.args.k) (sym c.as_slice-count.ensures)
    ∙ past c.as_slice-count.result.now c.args.k (suc (suc (c.args.k - suc (suc (length c.as_slice-count.result.now))))) (omega arith)
