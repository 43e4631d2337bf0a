-- Counters that are linked: each is its statements' over the earlier ones.
use Rattle.std.proofs.Common.{◌≡◌, ◌<◌, ℕ, ◌+◌, List, [], ◌∷◌, ◌++◌, length, refl, sym, ap, ◌∙◌, arith, append-nil, append_assoc, length-append}
use Rattle.sample_core.specs.Datum.{Datum}
use Rattle.leaf_core.specs.declared.expr.Expr.{Expr}
use Rattle.leaf_code.proofs.Values.{get-front}
use Rattle.net_code.specs.Running.{Body, Code, Linked, body_step, numbered, link}
use Rattle.net_code.specs.Calls.{Counted, no_calls, function_calls, counted, link_calls}
use Rattle.net_code.proofs.Links.{Begins, function_of, get-next}

module _ (val : Expr → List Datum → Datum → Datum) where
  calls-append : (fs : List Linked) (ns : List Counted) (c d : Code) → link_calls val fs ns (c ++ d) ≡ link_calls val (link val fs c) (link_calls val fs ns c) d
  calls-append fs ns [] d = refl
  calls-append fs ns (b ∷ c) d =
      calls-append (fs ++ body_step val (numbered fs) b ∷ []) (ns ++ function_calls val (numbered fs) (counted ns) b ∷ []) c d

  -- linking adds counters behind those there
  calls-more : (fs : List Linked) (ns : List Counted) (c : Code) → (ms : List Counted) × (link_calls val fs ns c ≡ ns ++ ms)
  calls-more fs ns [] = ([], sym (append-nil ns))
  calls-more fs ns (b ∷ c) =
      let gs : List Linked = fs ++ body_step val (numbered fs) b ∷ [] in
      let n : Counted = function_calls val (numbered fs) (counted ns) b in
      let r : (ms : List Counted) × (link_calls val gs (ns ++ n ∷ []) c ≡ (ns ++ n ∷ []) ++ ms) = calls-more gs (ns ++ n ∷ []) c in
      (n ∷ r.0, r.1 ∙ append_assoc ns (n ∷ []) r.0)

  length-calls : (fs : List Linked) (ns : List Counted) (c : Code) → length (link_calls val fs ns c) ≡ length ns + length c
  length-calls fs ns [] = omega arith
  length-calls fs ns (b ∷ c) =
      let gs : List Linked = fs ++ body_step val (numbered fs) b ∷ [] in
      let n : Counted = function_calls val (numbered fs) (counted ns) b in
      let l : length (ns ++ n ∷ []) ≡ length ns + 1 = length-append ns (n ∷ []) in
      let h : length (link_calls val gs (ns ++ n ∷ []) c) ≡ length (ns ++ n ∷ []) + length c = length-calls gs (ns ++ n ∷ []) c in
      omega arith

  -- counter k of the code
  abbrev pub counter_of : Code → ℕ → Counted
  counter_of c k = counted (link_calls val [] [] c) k

  -- an earlier counter is the same in longer code
  pub same_counter : (c d : Code) (k : ℕ) → Begins c d → k < length c → counter_of d k ≡ counter_of c k
  same_counter c d k b l =
      let ns : List Counted = link_calls val [] [] c in
      let m : (ms : List Counted) × (link_calls val (link val [] c) ns b.0 ≡ ns ++ ms) = calls-more (link val [] c) ns b.0 in
      let n : length ns ≡ 0 + length c = length-calls [] [] c in
      ap (λ e. counter_of e k) b.1 ∙ ap (λ ms. counted ms k) (calls-append [] [] c b.0 ∙ m.1)
      ∙ get-front ns m.0 k (λ g. no_calls) (omega arith)

  -- a counter is its statements' over the earlier ones
  pub next_counter : (c : Code) (b : Body) (d : Code) → Begins (c ++ b ∷ []) d
      → counter_of d (length c) ≡ function_calls val (function_of val c) (counter_of c) b
  next_counter c b d i =
      let ns : List Counted = link_calls val [] [] c in
      let h : Counted = function_calls val (function_of val c) (counter_of c) b in
      let n : length ns ≡ 0 + length c = length-calls [] [] c in
      let l : length (c ++ b ∷ []) ≡ length c + 1 = length-append c (b ∷ []) in
      let here : length c ≡ length ns = omega arith in
      same_counter (c ++ b ∷ []) d (length c) i (omega arith)
      ∙ ap (λ ms. counted ms (length c)) (calls-append [] [] c (b ∷ []))
      ∙ ap (λ k. counted (ns ++ h ∷ []) k) here
      ∙ get-next ns h [] (λ g. no_calls)
