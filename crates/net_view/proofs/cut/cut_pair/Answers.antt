use Rattle.std.proofs.Common.{◌≡◌, ◌∙◌, sym, ap, ℕ, Bool, true, false, not, ◌&&◌, List, bytes_eq, string_bytes, rules, if◌then◌else◌}
use Rattle.net_view.specs.Cut.{around, cut, cut_pair, same_front, is_cut_alike}
use Rattle.net_view.proofs.cut.cut_pair.Goals as goal

-- how the pair comes out, by what the test says
by_test : (a b : List ℕ) (t : Bool) → is_cut_alike a b ≡ t
    → cut_pair a b ≡ (if t then (around (same_front a b) a, around (same_front a b) b) else (cut a, cut b))
unfolding cut_pair
by_test a b t e = ap (λ z. if z then (around (same_front a b) a, around (same_front a b) b) else (cut a, cut b)) e

-- the test, of texts that are the cut ones
tested : (a b f s : List ℕ) (r : Bool) → f ≡ cut a → s ≡ cut b → r ≡ (bytes_eq f s && not (bytes_eq a b)) → is_cut_alike a b ≡ r
tested a b f s r p q e =
    ap (λ z. bytes_eq z (cut b) && not (bytes_eq a b)) (sym p) ∙ ap (λ z. bytes_eq f z && not (bytes_eq a b)) (sym q) ∙ sym e

-- two equations are one of pairs
both : (a b c d : List ℕ) → a ≡ c → b ≡ d → ◌≡◌ {A = List ℕ × List ℕ} (a, b) (c, d)
both a b c d p q = ap (λ z. (z, b)) p ∙ ap (λ z. (c, z)) q

pub returns-then-not-is_unseen : goal.returns-then-not-is_unseen
returns-then-not-is_unseen c =
    let a = c.args.before.now in
    let b = c.args.after.now in
    let t = tested a b _ _ _ (c.as_str.ensures.value ∙ c.in_ok-first.ensures) (c.as_str-2.ensures.value ∙ c.in_ok-second.ensures) c.is_unseen.ensures in
    both _ _ _ _ c.in_ok-first.ensures c.in_ok-second.ensures ∙ sym (by_test a b false (t ∙ c.if-not-is_unseen.true))

pub returns : goal.returns
returns c =
    let a = c.args.before.now in
    let b = c.args.after.now in
    let t = tested a b _ _ _ (c.as_str.ensures.value ∙ c.in_ok-first.ensures) (c.as_str-2.ensures.value ∙ c.in_ok-second.ensures) c.is_unseen.ensures in
    let at : c.same_front-at.result ≡ same_front a b = search rules in
    let first : string_bytes c.in_ok-first-2.first ≡ around (same_front a b) a =
    c.in_ok-first-2.ensures ∙ ap (λ n. around n c.as_bytes-3.result.now) at ∙ ap (around (same_front a b)) c.as_bytes-3.ensures.value in
    let second : string_bytes c.in_ok-second-2.second ≡ around (same_front a b) b =
    c.in_ok-second-2.ensures ∙ ap (λ n. around n c.as_bytes-4.result.now) at ∙ ap (around (same_front a b)) c.as_bytes-4.ensures.value in
    both _ _ _ _ first second ∙ sym (by_test a b true (t ∙ c.if-not-is_unseen.false))
