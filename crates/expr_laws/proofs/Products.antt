-- The product of integers is associative and goes over sums.
use Rattle.std.proofs.Common.{◌≡◌, zero, suc, ℤ, pos, negsuc, ◌+ℤ◌, ◌-ℤ◌, ◌*ℤ◌, neg_ℤ, sym, ap, ap₂, ◌∙◌}
use Rattle.std.proofs.Math.IntN.{+ℤ_comm, +ℤ_assoc, +ℤ_idl, +ℤ-neg_ℤ_cancel, -ℤ-+ℤ_cancel, neg_ℤ-+ℤ, *ℤ_comm, zero-*ℤ, suc_ℤ-*ℤ, pred_ℤ-*ℤ}

-- the second and the third of four summands exchanged
four : (a b c d : ℤ) → (a +ℤ b) +ℤ (c +ℤ d) ≡ (a +ℤ c) +ℤ (b +ℤ d)
four a b c d =
    +ℤ_assoc a b (c +ℤ d) ∙ ap (λ t. a +ℤ t) (sym (+ℤ_assoc b c d) ∙ ap (λ t. t +ℤ d) (+ℤ_comm b c) ∙ +ℤ_assoc c b d)
    ∙ sym (+ℤ_assoc a c (b +ℤ d))

four-less : (a b c d : ℤ) → (a +ℤ b) -ℤ (c +ℤ d) ≡ (a -ℤ c) +ℤ (b -ℤ d)
four-less a b c d = ap (λ t. (a +ℤ b) +ℤ t) (neg_ℤ-+ℤ c d) ∙ four a b (neg_ℤ c) (neg_ℤ d)

none-over-sum : (n o : ℤ) → pos zero *ℤ (n +ℤ o) ≡ pos zero *ℤ n +ℤ pos zero *ℤ o
none-over-sum n o = zero-*ℤ (n +ℤ o) ∙ sym (ap₂ (λ s t. s +ℤ t) (zero-*ℤ n) (zero-*ℤ o))

-- a factor goes over a sum
pub *ℤ-+ℤ : (m n o : ℤ) → m *ℤ (n +ℤ o) ≡ m *ℤ n +ℤ m *ℤ o
*ℤ-+ℤ (pos zero) n o = none-over-sum n o
*ℤ-+ℤ (pos (suc k)) n o =
    suc_ℤ-*ℤ (pos k) (n +ℤ o) ∙ ap (λ t. t +ℤ (n +ℤ o)) (*ℤ-+ℤ (pos k) n o) ∙ four (pos k *ℤ n) (pos k *ℤ o) n o
    ∙ sym (ap₂ (λ s t. s +ℤ t) (suc_ℤ-*ℤ (pos k) n) (suc_ℤ-*ℤ (pos k) o))
*ℤ-+ℤ (negsuc zero) n o =
    pred_ℤ-*ℤ (pos zero) (n +ℤ o) ∙ ap (λ t. t -ℤ (n +ℤ o)) (none-over-sum n o) ∙ four-less (pos zero *ℤ n) (pos zero *ℤ o) n o
    ∙ sym (ap₂ (λ s t. s +ℤ t) (pred_ℤ-*ℤ (pos zero) n) (pred_ℤ-*ℤ (pos zero) o))
*ℤ-+ℤ (negsuc (suc k)) n o =
    pred_ℤ-*ℤ (negsuc k) (n +ℤ o) ∙ ap (λ t. t -ℤ (n +ℤ o)) (*ℤ-+ℤ (negsuc k) n o) ∙ four-less (negsuc k *ℤ n) (negsuc k *ℤ o) n o
    ∙ sym (ap₂ (λ s t. s +ℤ t) (pred_ℤ-*ℤ (negsuc k) n) (pred_ℤ-*ℤ (negsuc k) o))

-- the same from the other side
+ℤ-*ℤ : (m n o : ℤ) → (m +ℤ n) *ℤ o ≡ m *ℤ o +ℤ n *ℤ o
+ℤ-*ℤ m n o = *ℤ_comm (m +ℤ n) o ∙ *ℤ-+ℤ o m n ∙ ap₂ (λ s t. s +ℤ t) (*ℤ_comm o m) (*ℤ_comm o n)

difference : (m n o : ℤ) → (m -ℤ n) *ℤ o ≡ m *ℤ o -ℤ n *ℤ o
difference m n o =
    sym (+ℤ-neg_ℤ_cancel ((m -ℤ n) *ℤ o) (n *ℤ o)) ∙ ap (λ t. t -ℤ n *ℤ o) (sym (+ℤ-*ℤ (m -ℤ n) n o) ∙ ap (λ t. t *ℤ o) (-ℤ-+ℤ_cancel m n))

-- the opposite of a product
pub neg_ℤ-*ℤ : (m n : ℤ) → neg_ℤ (m *ℤ n) ≡ neg_ℤ m *ℤ n
neg_ℤ-*ℤ m n =
    sym (ap (λ t. t *ℤ n) (sym (+ℤ_idl (neg_ℤ m))) ∙ difference (pos zero) m n ∙ ap (λ t. t -ℤ m *ℤ n) (zero-*ℤ n) ∙ +ℤ_idl (neg_ℤ (m *ℤ n)))

none-of-three : (n o : ℤ) → (pos zero *ℤ n) *ℤ o ≡ pos zero *ℤ (n *ℤ o)
none-of-three n o = ap (λ t. t *ℤ o) (zero-*ℤ n) ∙ zero-*ℤ o ∙ sym (zero-*ℤ (n *ℤ o))

-- products of three
pub *ℤ_assoc : (m n o : ℤ) → (m *ℤ n) *ℤ o ≡ m *ℤ (n *ℤ o)
*ℤ_assoc (pos zero) n o = none-of-three n o
*ℤ_assoc (pos (suc k)) n o =
    ap (λ t. t *ℤ o) (suc_ℤ-*ℤ (pos k) n) ∙ +ℤ-*ℤ (pos k *ℤ n) n o ∙ ap (λ t. t +ℤ n *ℤ o) (*ℤ_assoc (pos k) n o) ∙ sym (suc_ℤ-*ℤ (pos k) (n *ℤ o))
*ℤ_assoc (negsuc zero) n o =
    ap (λ t. t *ℤ o) (pred_ℤ-*ℤ (pos zero) n) ∙ difference (pos zero *ℤ n) n o ∙ ap (λ t. t -ℤ n *ℤ o) (none-of-three n o) ∙ sym (pred_ℤ-*ℤ (pos zero) (n *ℤ o))
*ℤ_assoc (negsuc (suc k)) n o =
    ap (λ t. t *ℤ o) (pred_ℤ-*ℤ (negsuc k) n) ∙ difference (negsuc k *ℤ n) n o ∙ ap (λ t. t -ℤ n *ℤ o) (*ℤ_assoc (negsuc k) n o) ∙ sym (pred_ℤ-*ℤ (negsuc k) (n *ℤ o))
