-- The forms of networks, group by group.
use Rattle.std.proofs.Common.{◌≡◌, ℕ, List, ◌++◌, Some, None, ◌∙◌}
use Rattle.leaf_expr.specs.Language.{production_among}
use Rattle.leaf_expr.proofs.Forms.{hit, miss}
use Rattle.net_text.specs.Grammar.{Version, NetProduction, network_sort, net_production_at, net_productions, cell_productions, pair_productions, other_net_productions, new_productions}

module _ (v : Version) (w : List ℕ) where
  pub in_cell : (r : NetProduction) → production_among w cell_productions ≡ Some r → net_production_at v network_sort w ≡ Some r
  unfolding net_production_at net_productions
  in_cell r e = hit w cell_productions (pair_productions ++ (other_net_productions ++ new_productions v)) r e

  module _ (a : production_among w cell_productions ≡ None) where
    pub in_pair : (r : NetProduction) → production_among w pair_productions ≡ Some r → net_production_at v network_sort w ≡ Some r
    unfolding net_production_at net_productions
    in_pair r e = miss w cell_productions (pair_productions ++ (other_net_productions ++ new_productions v)) a ∙ hit w pair_productions (other_net_productions ++ new_productions v) r e

    module _ (b : production_among w pair_productions ≡ None) where
      pub in_other : (r : NetProduction) → production_among w other_net_productions ≡ Some r → net_production_at v network_sort w ≡ Some r
      unfolding net_production_at net_productions
      in_other r e = miss w cell_productions (pair_productions ++ (other_net_productions ++ new_productions v)) a ∙ miss w pair_productions (other_net_productions ++ new_productions v) b
          ∙ hit w other_net_productions (new_productions v) r e

      pub in_new : production_among w other_net_productions ≡ None → net_production_at v network_sort w ≡ production_among w (new_productions v)
      unfolding net_production_at net_productions
      in_new c = miss w cell_productions (pair_productions ++ (other_net_productions ++ new_productions v)) a ∙ miss w pair_productions (other_net_productions ++ new_productions v) b
          ∙ miss w other_net_productions (new_productions v) c
