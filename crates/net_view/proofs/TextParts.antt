-- Texts that grow part by part.
use Rattle.std.proofs.Common.{◌≡◌, ℕ, zero, suc, ◌+◌, ◌<◌, List, [], ◌∷◌, ◌++◌, length, drop, sym, ap, refl, ◌∙◌, append_assoc, arith}
use Rattle.sample_core.specs.Adding.{Extends}
use Rattle.net_view.specs.Texts.{indent}

-- two blanks more
pub indent_more : (p : List ℕ) (i : ℕ) → i < length p → indent (drop i p) ≡ 32 ∷ 32 ∷ indent (drop (i + 1) p)
indent_more [] i h = absurd (omega arith)
indent_more (k ∷ p) zero h = refl
indent_more (k ∷ p) (suc i) h =
    let on : suc i + 1 ≡ suc (i + 1) = omega arith in
    indent_more p i (omega arith) ∙ ap (λ n. 32 ∷ 32 ∷ indent (drop n (k ∷ p))) (sym on)

pub blanks_more : (p : List ℕ) (i : ℕ) (old mid new : List ℕ) → i < length p → new ≡ mid ++ 32 ∷ 32 ∷ []
    → Extends old mid × (mid ++ indent (drop i p) ≡ old ++ indent p) → Extends old new × (new ++ indent (drop (i + 1) p) ≡ old ++ indent p)
blanks_more p i old mid new lt e h = (
  record {
    behind = h.0.behind ++ 32 ∷ 32 ∷ [];
    joined = e ∙ ap (λ z. z ++ 32 ∷ 32 ∷ []) h.0.joined ∙ append_assoc old h.0.behind (32 ∷ 32 ∷ []);
  },
  ap (λ z. z ++ indent (drop (i + 1) p)) e ∙ append_assoc mid (32 ∷ 32 ∷ []) (indent (drop (i + 1) p)) ∙ ap (λ z. mid ++ z) (sym (indent_more p i lt)) ∙ h.1,
)
