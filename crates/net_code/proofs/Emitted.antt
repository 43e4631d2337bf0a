-- Code that a network adds to other code.
use Rattle.std.proofs.Common.{◌≡◌, ◌≤◌, ◌<◌, ℕ, suc, ◌+◌, List, [], ◌∷◌, ◌++◌, map, length, refl, sym, ap, ◌∙◌, arith, append_assoc, append-nil, length-append}
use Rattle.leaf_core.specs.declared.expr.Expr.{Expr}
use Rattle.net_tree.specs.Network.{Network, Networks, arr, seq, first, par, loop_pre, initial_out, initial_in, i_pre, delay, hold, accum_by, after, repeatedly, time, integral, switch, r_switch, rp_switch, k_switch, p_switch, old, no_members, and_member}
use Rattle.net_code.specs.declared.freezable.Freezable.{Freezable}
use Rattle.net_code.specs.Running.{Body, Code, latest, AllBelow}
use Rattle.net_code.specs.CodeOf.{freezable, and_body, emit, emit_all}
use Rattle.net_code.proofs.Links.{Begins}

pub begins-trans : (c d e : Code) → Begins c d → Begins d e → Begins c e
begins-trans c d e i j = (i.0 ++ j.0, j.1 ∙ ap (λ ds. ds ++ j.0) i.1 ∙ append_assoc c i.0 j.0)

pub begins-body : (c : Code) (b : Body) → Begins c (and_body c b)
begins-body c b = (b ∷ [], refl)

-- what stands before a node's last function
pub before : (D d : Code) (b : Body) → Begins (and_body d b) D → Begins d D
before D d b i = begins-trans d (and_body d b) D (begins-body d b) i

-- longer code, which begins with the other
abbrev pub Adds : Code → Code → Type 0
Adds c d = Begins c d × (length c < length d)

abbrev pub Keeps : Code → Code → Type 0
Keeps c d = Begins c d × (length c ≤ length d)

pub keeps-same : (c : Code) → Keeps c c
keeps-same c = (([], sym (append-nil c)), omega arith)

pub keeps-trans : (c d e : Code) → Keeps c d → Keeps d e → Keeps c e
keeps-trans c d e i j =
    let l : length c ≤ length d = i.1 in
    let k : length d ≤ length e = j.1 in
    (begins-trans c d e i.0 j.0, omega arith)

pub adds-keeps : (c d : Code) → Adds c d → Keeps c d
adds-keeps c d i = let l : length c < length d = i.1 in (i.0, omega arith)

-- a function behind what was kept
adds-body : (c d : Code) (b : Body) → Keeps c d → Adds c (and_body d b)
adds-body c d b i =
    let l : length c ≤ length d = i.1 in
    let k : length (d ++ b ∷ []) ≡ length d + 1 = length-append d (b ∷ []) in
    (begins-trans c d (and_body d b) i.0 (begins-body d b), omega arith)

keeps_two : (c d e : Code) → Adds c d → Adds d e → Keeps c e
keeps_two c d e i j = keeps-trans c d e (adds-keeps c d i) (adds-keeps d e j)

mutual
  pub adds : (net : Network Expr) (n : ℕ) (ps : List Freezable) (c : Code) → Adds c (emit net n ps c)
  adds (arr e) n ps c = adds-body c c _ (keeps-same c)
  adds (seq f g) n ps c = adds-body c _ _ (keeps_two c _ _ (adds f n ps c) (adds g n ps (emit f n ps c)))
  adds (first f) n ps c = adds-body c _ _ (adds-keeps c _ (adds f n ps c))
  adds (par fs) n ps c = adds-body c _ _ (adds_all fs n ps c)
  adds (loop_pre e f) n ps c = adds-body c _ _ (adds-keeps c _ (adds f n ps c))
  adds (i_pre e) n ps c = adds-body c c _ (keeps-same c)
  adds (delay q e) n ps c = adds-body c c _ (keeps-same c)
  adds (hold e) n ps c = adds-body c c _ (keeps-same c)
  adds (accum_by g z) n ps c = adds-body c c _ (keeps-same c)
  adds (after q e) n ps c = adds-body c c _ (keeps-same c)
  adds (repeatedly q e) n ps c = adds-body c c _ (keeps-same c)
  adds time n ps c = adds-body c c _ (keeps-same c)
  adds integral n ps c = adds-body c c _ (keeps-same c)
  adds (switch tm f t) n ps c = adds-body c _ _ (keeps_two c _ _ (adds f n ps c) (adds t (suc n) ps (emit f n ps c)))
  adds (r_switch tm f t) n ps c = adds-body c _ _ (keeps_two c _ _ (adds f n ps c) (adds t (suc n) ps (emit f n ps c)))
  adds (k_switch f e t) n ps c =
      let d : Code = emit f n ps c in
      let w : Code = emit e n ps d in
      let qs : List Freezable = ps ++ freezable n (length ps) (latest d) ∷ [] in
      let b : Code = emit t (suc n) qs w in
      adds-body c b _ (keeps-trans c w b (keeps_two c d w (adds f n ps c) (adds e n ps d)) (adds-keeps w b (adds t (suc n) qs w)))
  adds (p_switch r fs e t) n ps c =
      let d : Code × List ℕ = emit_all fs n ps c in
      let w : Code = emit e n ps d.0 in
      let qs : List Freezable = ps ++ map (freezable n (length ps)) d.1 in
      let b : Code = emit t (suc n) qs w in
      adds-body c b _ (keeps-trans c w b (keeps-trans c d.0 w (adds_all fs n ps c) (adds-keeps d.0 w (adds e n ps d.0)))
      (adds-keeps w b (adds t (suc n) qs w)))
  adds (old k) n ps c = adds-body c c _ (keeps-same c)
  adds (initial_out e f) n ps c = adds-body c _ _ (adds-keeps c _ (adds f n ps c))
  adds (initial_in e f) n ps c = adds-body c _ _ (adds-keeps c _ (adds f n ps c))
  adds (rp_switch fs m t) n ps c =
      let d : Code × List ℕ = emit_all fs n ps c in
      let b : Code = emit t (suc n) ps d.0 in
      adds-body c b _ (keeps-trans c d.0 b (adds_all fs n ps c) (adds-keeps d.0 b (adds t (suc n) ps d.0)))

  pub adds_all : (fs : Networks Expr) (n : ℕ) (ps : List Freezable) (c : Code) → Keeps c (emit_all fs n ps c).0
  adds_all no_members n ps c = keeps-same c
  adds_all (and_member f fs) n ps c =
      let d : Code = emit f n ps c in
      keeps-trans c d _ (adds-keeps c d (adds f n ps c)) (adds_all fs n ps d)

pub below-more : (n m : ℕ) (js : List ℕ) → n ≤ m → AllBelow n js → AllBelow m js
below-more n m [] l i = tt
below-more n m (j ∷ js) l i = let k : j < n = i.0 in (omega arith, below-more n m js l i.1)

-- the last function is there
pub latest_below : (net : Network Expr) (n : ℕ) (ps : List Freezable) (c : Code) → latest (emit net n ps c) < length (emit net n ps c)
latest_below net n ps c = let l : length c < length (emit net n ps c) = (adds net n ps c).1 in omega arith

pub all_below : (fs : Networks Expr) (n : ℕ) (ps : List Freezable) (c : Code) → AllBelow (length (emit_all fs n ps c).0) (emit_all fs n ps c).1
all_below no_members n ps c = tt
all_below (and_member f fs) n ps c =
    let d : Code = emit f n ps c in
    let l : latest d < length d = latest_below f n ps c in
    let k : length d ≤ length (emit_all fs n ps d).0 = (adds_all fs n ps d).1 in
    (omega arith, all_below fs n ps d)

-- the last function of code with one function more
pub latest_body : (d : Code) (b : Body) → latest (and_body d b) ≡ length d
latest_body d b = let l : length (d ++ b ∷ []) ≡ length d + 1 = length-append d (b ∷ []) in omega arith
