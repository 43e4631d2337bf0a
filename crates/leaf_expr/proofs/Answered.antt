-- What the code's readers answer, said by the grammar alone.
use Rattle.std.proofs.Common.{◌≡◌, ℕ, List, length, refl, subst, IfOk, Result, Ok, Err}
use Rattle.std.specs.Prelude.{IfErr}
use Rattle.leaf_expr.specs.Token.{PlacedToken, tokens_from}
use Rattle.leaf_expr.specs.Language.{Begins}
use Rattle.leaf_expr.specs.Grammar.{leaf, LeafSort, LeafTree}
use Rattle.leaf_expr.specs.Text.{read_text, IsText, IsTextFault}
use Rattle.leaf_expr.specs.ReadLaws.{Stops}
use Rattle.leaf_expr.specs.ReadText.{GivesTree, IsFault, tree_at}
use Rattle.leaf_expr.specs.declared.text_fault.ExprTextFault.{ExprTextFault}
use Rattle.leaf_expr.proofs.ReadFound.{found}
use Rattle.leaf_expr.proofs.ReadOnly.{only}
use Rattle.leaf_expr.proofs.ReadFaults.{stops, stops_not_long}
use Rattle.leaf_expr.proofs.OneFault.{refuses}
use Rattle.leaf_expr.proofs.LeafProper.{leaf_proper}
use Rattle.leaf_expr.proofs.TextLaws.{text_found, text_read, text_fault}
use Rattle.leaf_expr.specs.declared.text_fault.ExprTextFault.TheVariants.{Syntax, Number, TooDeep, TooLong, Memory}

module _ (s : LeafSort) (text : List ℕ) where
  module _ {X : Type 0} (room n : ℕ) (view : X → LeafTree s × ℕ × List PlacedToken) where
    pub tree_found : (r : Result X ExprTextFault) → GivesTree view r (tree_at s text room n)
        → IfOk r (λ x. Begins leaf room s (view x).0 (tokens_from n text) (view x).1 (view x).2)
    tree_found (Ok x) h = found leaf (length text) room s (tokens_from n text) (view x) h
    tree_found (Err e) h = tt

    pub tree_only : (r : Result X ExprTextFault) → GivesTree view r (tree_at s text room n) → (t : LeafTree s) (m : ℕ) (rest : List PlacedToken)
        → Begins leaf room s t (tokens_from n text) m rest → GivesTree view r (Ok (t, m, rest))
    tree_only r h t m rest b = subst (λ z. GivesTree view r z)
        (only leaf leaf_proper (length text) room s b.part (tokens_from n text) m rest t b.spells b.means b.within) h

    stopped : (e : ExprTextFault) → tree_at s text room n ≡ Err e → Stops leaf (length text) room s (tokens_from n text) e
    stopped e h = stops leaf leaf_proper (length text) room s (tokens_from n text) e h

    pub tree_refused : (r : Result X ExprTextFault) → GivesTree view r (tree_at s text room n) → IfErr r (IsFault s text room n)
    tree_refused (Ok x) h = tt
    tree_refused (Err Memory) h = tt
    tree_refused (Err TooLong) h = stops_not_long leaf (length text) room s (tokens_from n text) (stopped TooLong (h (λ q. cc)))
    tree_refused (Err (Syntax k)) h = stopped (Syntax k) (h (λ q. cc))
    tree_refused (Err (Number k)) h = stopped (Number k) (h (λ q. cc))
    tree_refused (Err (TooDeep k)) h = stopped (TooDeep k) (h (λ q. cc))

    refused : (e : ExprTextFault) → Stops leaf (length text) room s (tokens_from n text) e → tree_at s text room n ≡ Err e
    refused e h = refuses leaf leaf_proper (length text) room s (tokens_from n text) e h

    -- what is found and refused so is what reading gives
    pub tree_given : (r : Result X ExprTextFault) → IfOk r (λ x. Begins leaf room s (view x).0 (tokens_from n text) (view x).1 (view x).2)
        → IfErr r (IsFault s text room n) → GivesTree view r (tree_at s text room n)
    tree_given (Ok x) b h = only leaf leaf_proper (length text) room s b.part (tokens_from n text) (view x).1 (view x).2 (view x).0 b.spells b.means b.within
    tree_given (Err Memory) b h = λ d. absurd (d refl)
    tree_given (Err TooLong) b h = absurd h
    tree_given (Err (Syntax k)) b h = λ d. refused (Syntax k) h
    tree_given (Err (Number k)) b h = λ d. refused (Number k) h
    tree_given (Err (TooDeep k)) b h = λ d. refused (TooDeep k) h

  module _ {X : Type 0} (view : X → LeafTree s) where
    pub whole_found : (r : Result X ExprTextFault) → GivesTree view r (read_text s text) → IfOk r (λ x. IsText s text (view x))
    whole_found (Ok x) h = text_found s text (view x) h
    whole_found (Err e) h = tt

    pub whole_only : (r : Result X ExprTextFault) → GivesTree view r (read_text s text) → (t : LeafTree s) → IsText s text t → GivesTree view r (Ok t)
    whole_only r h t i = subst (λ z. GivesTree view r z) (text_read s text t i) h

    pub whole_refused : (r : Result X ExprTextFault) → GivesTree view r (read_text s text) → IfErr r (IsTextFault s text)
    whole_refused (Ok x) h = tt
    whole_refused (Err Memory) h = tt
    whole_refused (Err TooLong) h = text_fault s text TooLong (λ q. cc) (h (λ q. cc))
    whole_refused (Err (Syntax k)) h = text_fault s text (Syntax k) (λ q. cc) (h (λ q. cc))
    whole_refused (Err (Number k)) h = text_fault s text (Number k) (λ q. cc) (h (λ q. cc))
    whole_refused (Err (TooDeep k)) h = text_fault s text (TooDeep k) (λ q. cc) (h (λ q. cc))
