use Rattle.std.proofs.Common.{◌≡◌, ◌++◌, List, ℕ, ap, ◌∙◌, append_assoc}
use Rattle.yampa_run.proofs.printed.push_at.Goals as goal

joined : (o a b c d w x y z : List ℕ) → w ≡ o ++ a → x ≡ w ++ b → y ≡ x ++ c → z ≡ y ++ d → z ≡ o ++ (a ++ (b ++ (c ++ d)))
joined o a b c d w x y z p q r s = s ∙ ap (λ t. t ++ d) (r ∙ ap (λ t. t ++ c) (q ∙ ap (λ t. t ++ b) p)) ∙ simp append_assoc

pub returns : goal.returns
returns c = joined _ _ _ _ _ _ _ _ _ c.in_ok-push_word.ensures c.in_ok-push_number.ensures c.in_ok-push_word-2.ensures c.in_ok-push_word-3.ensures
