-- The code of a network: a function a node, parts before what they are parts of.
use Rattle.std.specs.Prelude.{ℕ, suc, List, [], ◌∷◌, ◌++◌, map, length}
use Rattle.leaf_core.specs.declared.expr.Expr.{Expr}
use Rattle.net_tree.specs.Network.{Network, Networks, arr, seq, first, par, loop_pre, initial_out, initial_in, i_pre, delay, hold, accum_by, after, repeatedly, time, integral, switch, r_switch, rp_switch, k_switch, p_switch, old, no_members, and_member}
use Rattle.cell_core.specs.declared.form.Form.TheVariants as F
use Rattle.net_code.specs.declared.freezable.Freezable.{Freezable}
use Rattle.net_code.specs.Running.{Body, Code, latest}
use Rattle.net_code.specs.Bodies.{arr_body, seq_body, first_body, par_body, loop_body, cell_body, clock_body, accum_body, switch_body, r_switch_body, k_switch_body, p_switch_body, old_body, same_body, out_body, in_body, collection_body}

-- a network that may be frozen, with n parameters and m frozen networks in scope
abbrev pub freezable : ℕ → ℕ → ℕ → Freezable
freezable n m f = record { function = f; params = n; olds = m }

-- one function more
abbrev pub and_body : Code → Body → Code
and_body c b = c ++ b ∷ []

-- `old` of the k-th of these networks that may be frozen
abbrev pub body_of_old : List Freezable → ℕ → ℕ → Body
body_of_old [] k i = same_body
body_of_old (p ∷ ps) ℕ.zero i = old_body i p.function p.params p.olds
body_of_old (p ∷ ps) (suc k) i = body_of_old ps k i

abbrev mutual
  -- the code of a network behind other code, with n parameters, and what may be frozen, in scope
  pub emit : Network Expr → ℕ → List Freezable → Code → Code
  emit (arr e) n ps c = and_body c (arr_body e)
  emit (seq f g) n ps c =
      let d : Code = emit f n ps c in
      let b : Code = emit g n ps d in
      and_body b (seq_body (latest d) (latest b))
  emit (first f) n ps c =
      let d : Code = emit f n ps c in
      and_body d (first_body (latest d))
  emit (par fs) n ps c =
      let r : Code × List ℕ = emit_all fs n ps c in
      and_body r.0 (par_body r.1)
  emit (loop_pre e f) n ps c =
      let d : Code = emit f n ps c in
      and_body d (loop_body e (latest d))
  emit (i_pre e) n ps c = and_body c (cell_body F.IPre e)
  emit (delay q e) n ps c = and_body c (cell_body (F.Delay q) e)
  emit (hold e) n ps c = and_body c (cell_body F.Hold e)
  emit (accum_by g z) n ps c = and_body c (accum_body g z)
  emit (after q e) n ps c = and_body c (cell_body (F.After q) e)
  emit (repeatedly q e) n ps c = and_body c (cell_body (F.Repeatedly q) e)
  emit time n ps c = and_body c (clock_body F.Time)
  emit integral n ps c = and_body c (clock_body F.Integral)
  emit (switch tm f t) n ps c =
      let d : Code = emit f n ps c in
      let b : Code = emit t (suc n) ps d in
      and_body b (switch_body tm (latest d) (latest b))
  emit (r_switch tm f t) n ps c =
      let d : Code = emit f n ps c in
      let b : Code = emit t (suc n) ps d in
      and_body b (r_switch_body tm (latest d) (latest b))
  emit (k_switch f e t) n ps c =
      let d : Code = emit f n ps c in
      let w : Code = emit e n ps d in
      let b : Code = emit t (suc n) (ps ++ freezable n (length ps) (latest d) ∷ []) w in
      and_body b (k_switch_body (latest d) (latest w) (latest b))
  emit (p_switch r fs e t) n ps c =
      let d : Code × List ℕ = emit_all fs n ps c in
      let w : Code = emit e n ps d.0 in
      let b : Code = emit t (suc n) (ps ++ map (freezable n (length ps)) d.1) w in
      and_body b (p_switch_body r d.1 (latest w) (latest b))
  emit (old k) n ps c = and_body c (body_of_old ps k k)
  emit (initial_out e f) n ps c =
      let d : Code = emit f n ps c in
      and_body d (out_body e (latest d))
  emit (initial_in e f) n ps c =
      let d : Code = emit f n ps c in
      and_body d (in_body e (latest d))
  emit (rp_switch fs m t) n ps c =
      let d : Code × List ℕ = emit_all fs n ps c in
      let b : Code = emit t (suc n) ps d.0 in
      and_body b (collection_body d.1 m (latest b))

  -- the code of members, and the numbers of their functions
  pub emit_all : Networks Expr → ℕ → List Freezable → Code → Code × List ℕ
  emit_all no_members n ps c = (c, [])
  emit_all (and_member f fs) n ps c =
      let d : Code = emit f n ps c in
      let r : Code × List ℕ = emit_all fs n ps d in
      (r.0, latest d ∷ r.1)

-- the code of a network with nothing in scope
abbrev pub code_of : Network Expr → Code
code_of net = emit net 0 [] []
