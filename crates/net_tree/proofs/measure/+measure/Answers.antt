use Rattle.std.proofs.Common.{◌≡◌, ◌∙◌, ◌+◌, ◌++◌, ℕ, max, List, [], ◌∷◌, map, Result, Ok, Err, ap, subst, arith}
use Rattle.std.proofs.lemmas.Grind.{common_steps}
use Rattle.std.proofs.lemmas.Result.{err_from_is_err_and}
use Rattle.leaf_core.specs.declared.expr.Expr.{Expr}
use Rattle.net_tree.specs.Height.{height, heights, greatest}
use Rattle.net_tree.specs.Measured.{AddsMeasures, GathersMeasures, capped}
use Rattle.net_tree.specs.Network.{Network, Networks, networks_size}
use Rattle.net_tree.specs.NetworkView.{tree, trees}
use Rattle.net_tree.specs.Weight.{weight, weights, total}
use Rattle.net_tree.specs.declared.measure.Measures.{Measures}
use Rattle.net_tree.specs.declared.measure.Measuring.{Measuring}
use Rattle.net_tree.specs.declared.measure.Stop.{Stop}
use Rattle.net_tree.specs.declared.measure.Together.{Together}
use Rattle.net_tree.proofs.Measuring.{recount, over_node, greatest_in_total, beside_frozen, above_frozen, over_frozen, node_size, node_weight, node_height}
use Rattle.net_tree.proofs.measure.+measure.Goals as goal

-- what is added of the same network
of_net : (r : Result Measures Stop) (by : Measuring) (n : ℕ) {a b : Network Expr} → a ≡ b → AddsMeasures r by n (tree a) → AddsMeasures r by n (tree b)
of_net r by n e h = subst (λ o. AddsMeasures r by n (tree o)) e h

-- what the same members measure
of_members : (r : Result Together Stop) (by : Measuring) (n : ℕ) {a b : Networks Expr} → a ≡ b
    → GathersMeasures r by.most (n + networks_size (trees a)) (weights (trees a) by.weights.items) (heights (trees a) by.heights.items)
    → GathersMeasures r by.most (n + networks_size (trees b)) (weights (trees b) by.weights.items) (heights (trees b) by.heights.items)
of_members r by n e h =
    subst (λ o. GathersMeasures r by.most (n + networks_size (trees o)) (weights (trees o) by.weights.items) (heights (trees o) by.heights.items)) e h

pub measure_all-returns-in_err-fs : goal.measure_all-returns-in_err-fs
measure_all-returns-in_err-fs z c =
    let p = err_from_is_err_and c.from_residual.result c.from_residual.ensures.1 in
    let more = greatest_in_total (weights (trees c.args.fs.now) c.args.by.now.weights.items) in
    rw (p.1, p.2)
    (over_node c.in_err-fs.field-0.0 c.args.by.now.most (c.more.result + networks_size (trees c.args.fs.now)) _
    (weights (trees c.args.fs.now) c.args.by.now.weights.items) (heights (trees c.args.fs.now) c.args.by.now.heights.items) _ _
    (of_members (Err c.in_err-fs.field-0.0) c.args.by.now c.more.result c.as_slice.ensures c.in_err-fs.ensures.measures)
    (omega (arith, c.more.ensures)) (omega (arith, more)) (omega arith))

pub measure_freeze-returns-in_err-t : goal.measure_freeze-returns-in_err-t
measure_freeze-returns-in_err-t z c =
    let ws : List ℕ = c.args.by.now.weights.items in
    let hs : List ℕ = c.args.by.now.heights.items in
    let f : AddsMeasures (Ok c.in_ok-f.f) c.args.by.now c.more.result (tree c.args.f.now) =
    of_net (Ok c.in_ok-f.f) c.args.by.now c.more.result c.get.ensures c.in_ok-f.ensures in
    let e : AddsMeasures (Ok c.in_ok-e.e) c.args.by.now c.in_ok-f.f.size (tree c.args.e.now) =
    of_net (Ok c.in_ok-e.e) c.args.by.now c.in_ok-f.f.size c.get-2.ensures c.in_ok-e.ensures in
    let w =
    beside_frozen (λ o. weight (tree c.args.t.now) (ws ++ o)) (weight (tree c.args.f.now) ws ∷ []) (c.in_ok-f.f.weight ∷ [])
    (weight (tree c.args.f.now) ws + weight (tree c.args.e.now) ws) (ap (λ o. o ∷ []) f.1) (omega arith) in
    let h =
    above_frozen (λ o. height (tree c.args.t.now) (hs ++ o)) (height (tree c.args.f.now) hs ∷ []) (c.in_ok-f.f.height ∷ [])
    (max (height (tree c.args.f.now) hs) (height (tree c.args.e.now) hs)) (ap (λ o. o ∷ []) f.2) (omega arith) in
    let p = err_from_is_err_and c.from_residual-in_err-t.result c.from_residual-in_err-t.ensures.1 in
    rw (p.1, p.2)
    (over_frozen c.in_err-t.field-0.0 c.args.by.now.most _ _ _ _ _ _ _ _ _ _ c.in_err-t.ensures
    (omega (arith, c.more.ensures, f.0, e.0)) w (omega arith) h (omega arith))

pub measure_freeze-returns : goal.measure_freeze-returns
measure_freeze-returns z c =
    let ws : List ℕ = c.args.by.now.weights.items in
    let hs : List ℕ = c.args.by.now.heights.items in
    let f : AddsMeasures (Ok c.in_ok-f.f) c.args.by.now c.more.result (tree c.args.f.now) =
    of_net (Ok c.in_ok-f.f) c.args.by.now c.more.result c.get.ensures c.in_ok-f.ensures in
    let e : AddsMeasures (Ok c.in_ok-e.e) c.args.by.now c.in_ok-f.f.size (tree c.args.e.now) =
    of_net (Ok c.in_ok-e.e) c.args.by.now c.in_ok-f.f.size c.get-2.ensures c.in_ok-e.ensures in
    let w =
    beside_frozen (λ o. weight (tree c.args.t.now) (ws ++ o)) (weight (tree c.args.f.now) ws ∷ []) (c.in_ok-f.f.weight ∷ [])
    (weight (tree c.args.f.now) ws + weight (tree c.args.e.now) ws) (ap (λ o. o ∷ []) f.1) (omega arith) in
    let h =
    above_frozen (λ o. height (tree c.args.t.now) (hs ++ o)) (height (tree c.args.f.now) hs ∷ []) (c.in_ok-f.f.height ∷ [])
    (max (height (tree c.args.f.now) hs) (height (tree c.args.e.now) hs)) (ap (λ o. o ∷ []) f.2) (omega arith) in
    recount c.above.result c.args.by.now.most _ _ _ _ _ _ c.above.ensures
    (ap capped c.beside-2.ensures.size ∙ node_size _ _ _ _ _ _ _ _ c.more.ensures f.0 e.0 c.in_ok-t.ensures.0)
    (node_weight _ _ _ _ _ _ _ _ _ f.1 e.1 c.in_ok-t.ensures.1 c.beside.ensures.weight c.beside-2.ensures.weight w)
    (node_height _ _ _ _ _ _ _ _ _ f.2 e.2 c.in_ok-t.ensures.2 c.beside.ensures.height c.beside-2.ensures.height h)

pub measure_freeze_all-returns-in_err-fs : goal.measure_freeze_all-returns-in_err-fs
measure_freeze_all-returns-in_err-fs z c =
    let p = err_from_is_err_and c.from_residual.result c.from_residual.ensures.1 in
    let more = greatest_in_total (weights (trees c.args.fs.now) c.args.by.now.weights.items) in
    rw (p.1, p.2)
    (over_node c.in_err-fs.field-0.0 c.args.by.now.most (c.more.result + networks_size (trees c.args.fs.now)) _
    (weights (trees c.args.fs.now) c.args.by.now.weights.items) (heights (trees c.args.fs.now) c.args.by.now.heights.items) _ _
    (of_members (Err c.in_err-fs.field-0.0) c.args.by.now c.more.result c.as_slice.ensures c.in_err-fs.ensures.measures)
    (omega (arith, c.more.ensures)) (omega (arith, more)) (omega arith))

pub measure_freeze_all-returns-in_err-t : goal.measure_freeze_all-returns-in_err-t
measure_freeze_all-returns-in_err-t z c =
    let ws : List ℕ = c.args.by.now.weights.items in
    let hs : List ℕ = c.args.by.now.heights.items in
    let us : List ℕ = weights (trees c.args.fs.now) ws in
    let vs : List ℕ = heights (trees c.args.fs.now) hs in
    let fs = of_members (Ok c.in_ok-fs.fs) c.args.by.now c.more.result c.as_slice.ensures c.in_ok-fs.ensures.measures in
    let e : AddsMeasures (Ok c.in_ok-e.e) c.args.by.now c.in_ok-fs.fs.inside.size (tree c.args.e.now) =
    of_net (Ok c.in_ok-e.e) c.args.by.now c.in_ok-fs.fs.inside.size c.get.ensures c.in_ok-e.ensures in
    let held : c.deref.result.now ≡ map capped us = grind (arith, common_steps) in
    let high : c.deref-2.result.now ≡ map capped vs = grind (arith, common_steps) in
    let w =
    beside_frozen (λ o. weight (tree c.args.t.now) (ws ++ o)) us c.deref.result.now (total us + weight (tree c.args.e.now) ws) held
    (omega (arith, greatest_in_total us)) in
    let h =
    above_frozen (λ o. height (tree c.args.t.now) (hs ++ o)) vs c.deref-2.result.now (max (greatest vs) (height (tree c.args.e.now) hs)) high (omega arith) in
    let p = err_from_is_err_and c.from_residual-in_err-t.result c.from_residual-in_err-t.ensures.1 in
    rw (p.1, p.2)
    (over_frozen c.in_err-t.field-0.0 c.args.by.now.most _ _ _ _ _ _ _ _ _ _ c.in_err-t.ensures
    (omega (arith, c.more.ensures, fs.0.0, e.0)) w (omega arith) h (omega arith))

pub measure_freeze_all-returns : goal.measure_freeze_all-returns
measure_freeze_all-returns z c =
    let ws : List ℕ = c.args.by.now.weights.items in
    let hs : List ℕ = c.args.by.now.heights.items in
    let us : List ℕ = weights (trees c.args.fs.now) ws in
    let vs : List ℕ = heights (trees c.args.fs.now) hs in
    let fs = of_members (Ok c.in_ok-fs.fs) c.args.by.now c.more.result c.as_slice.ensures c.in_ok-fs.ensures.measures in
    let e : AddsMeasures (Ok c.in_ok-e.e) c.args.by.now c.in_ok-fs.fs.inside.size (tree c.args.e.now) =
    of_net (Ok c.in_ok-e.e) c.args.by.now c.in_ok-fs.fs.inside.size c.get.ensures c.in_ok-e.ensures in
    let held : c.deref.result.now ≡ map capped us = grind (arith, common_steps) in
    let high : c.deref-2.result.now ≡ map capped vs = grind (arith, common_steps) in
    let w =
    beside_frozen (λ o. weight (tree c.args.t.now) (ws ++ o)) us c.deref.result.now (total us + weight (tree c.args.e.now) ws) held
    (omega (arith, greatest_in_total us)) in
    let h =
    above_frozen (λ o. height (tree c.args.t.now) (hs ++ o)) vs c.deref-2.result.now (max (greatest vs) (height (tree c.args.e.now) hs)) high (omega arith) in
    recount c.above.result c.args.by.now.most _ _ _ _ _ _ c.above.ensures
    (ap capped c.beside-2.ensures.size ∙ node_size _ _ _ _ _ _ _ _ c.more.ensures fs.0.0 e.0 c.in_ok-t.ensures.0)
    (node_weight _ _ _ _ _ _ _ _ _ fs.0.1 e.1 c.in_ok-t.ensures.1 c.beside.ensures.weight c.beside-2.ensures.weight w)
    (node_height _ _ _ _ _ _ _ _ _ fs.0.2 e.2 c.in_ok-t.ensures.2 c.beside.ensures.height c.beside-2.ensures.height h)
