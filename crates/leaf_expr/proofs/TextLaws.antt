-- Whole texts.
use Rattle.std.proofs.Common.{arith, ◌≡◌, ℕ, ◌+◌, ◌≤◌, ◌<◌, ◌≢◌, Bool, true, false, nat_lt, List, [], ◌∷◌, ◌++◌, length, refl, sym, ap, ◌∙◌, subst, Result, Ok, Err, if◌then◌else◌}
use Rattle.std.proofs.lemmas.Bool.{ltb-false, ltb-true, le-ltb, lt-ltb}
use Rattle.std.proofs.lemmas.List.{append-nil}
use Rattle.sample_core.specs.TypeTree.{TypeTree}
use Rattle.leaf_expr.specs.Token.{opening, closing, word, tokens, tokens_in, begins_word}
use Rattle.leaf_expr.specs.Sexpr.{sexpr_spelling, depth}
use Rattle.leaf_expr.specs.Language.{Begins}
use Rattle.leaf_expr.specs.Grammar.{leaf, LeafSort, LeafTree, type_sort, expression_sort}
use Rattle.leaf_expr.specs.Printing.{expression_sexpr, type_sexpr}
use Rattle.leaf_expr.specs.TreeReader.{Read, unfit_token, read}
use Rattle.leaf_expr.specs.Text.{whole, read_text, PrintedTypeLaw, PrintedTextLaw, IsText, IsTextFault, NoText, no_tree, follows, ReadTextLaw, OneTextLaw, TextFaultLaw, PrintedLaw}
use Rattle.leaf_expr.proofs.ReadFound.{found}
use Rattle.leaf_expr.proofs.ReadOnly.{only}
use Rattle.leaf_expr.proofs.ReadFaults.{one_reading, stops, stops_not_long, err_is}
use Rattle.leaf_expr.proofs.OneFault.{refuses}
use Rattle.leaf_expr.proofs.TokenLaws.{spells_printed}
use Rattle.leaf_expr.proofs.PrintedMeans.{expression_means, expression_plain, type_means, type_plain}
use Rattle.leaf_expr.proofs.LeafProper.{leaf_proper}
use Rattle.leaf_expr.proofs.Joined.{type_spelled}
use Rattle.leaf_expr.specs.declared.text_fault.ExprTextFault.{ExprTextFault}
use Rattle.leaf_expr.specs.declared.text_fault.ExprTextFault.TheVariants.{Syntax, Number, TooDeep, TooLong, Memory}
use Rattle.leaf_expr.specs.declared.type_reader.TheConstants.{MOST_OPEN}
use Rattle.leaf_expr.specs.declared.expr_reader.TheConstants.{MOST_LENGTH}

pub printed_begins : PrintedLaw
printed_begins e room n bs r d b =
    record { part = expression_sexpr e; spells = spells_printed (expression_sexpr e) n bs (expression_plain e r) b; means = expression_means e r; within = d }

abbrev PrintedSo : TypeTree → ℕ → ℕ → List ℕ → List ℕ → Type 0
PrintedSo t room n bs w = let end = n + length w in Begins leaf room type_sort t (tokens_in false n (w ++ bs)) end (tokens_in false end bs)

printed_part : (t : TypeTree) (room n : ℕ) (bs : List ℕ) → depth (type_sexpr t) ≤ room → begins_word bs ≡ false
    → PrintedSo t room n bs (sexpr_spelling (type_sexpr t))
printed_part t room n bs d b = record { part = type_sexpr t; spells = spells_printed (type_sexpr t) n bs (type_plain t) b; means = type_means t; within = d }

pub printed_type_begins : PrintedTypeLaw
printed_type_begins t room n bs d b = subst (PrintedSo t room n bs) (type_spelled t) (printed_part t room n bs d b)

whole_ok : {T : Type 0} (r : Read T) (t : T) → whole r ≡ Ok t → (n : ℕ) × (r ≡ Ok (t, n, []))
whole_ok {T = T} (Ok (u, n, [])) t e = (n, ap (λ x. Ok (x, n, [])) (inner e))
  where
    inner : ◌≡◌ {A = Result T ExprTextFault} (Ok u) (Ok t) → u ≡ t
    inner p = cc
whole_ok (Ok (u, n, x ∷ ts)) t e = absurd (cc)
whole_ok (Err f) t e = absurd (cc)

short_text : (s : LeafSort) (bs : List ℕ) (r : Result (LeafTree s) ExprTextFault) → r ≢ Err TooLong → read_text s bs ≡ r
    → (length bs ≤ MOST_LENGTH) × (whole (read leaf (length bs) MOST_OPEN s (tokens bs)) ≡ r)
short_text s bs r d e = go (nat_lt MOST_LENGTH (length bs)) refl e
  where
    go : (b : Bool) → nat_lt MOST_LENGTH (length bs) ≡ b → (if b then Err TooLong else whole (read leaf (length bs) MOST_OPEN s (tokens bs))) ≡ r
        → (length bs ≤ MOST_LENGTH) × (whole (read leaf (length bs) MOST_OPEN s (tokens bs)) ≡ r)
    go true q e' = absurd (d (sym e'))
    go false q e' = (ltb-false MOST_LENGTH (length bs) q, e')

pub text_read : (s : LeafSort) (bs : List ℕ) (t : LeafTree s) → IsText s bs t → read_text s bs ≡ Ok t
text_read s bs t h =
    let b : Begins leaf MOST_OPEN s t (tokens bs) h.stop [] = h.begins in
    ap (λ c. if c then Err TooLong else whole (read leaf (length bs) MOST_OPEN s (tokens bs))) (le-ltb MOST_LENGTH (length bs) h.short)
    ∙ ap whole (only leaf leaf_proper (length bs) MOST_OPEN s b.part (tokens bs) h.stop [] t b.spells b.means b.within)

pub text_found : (s : LeafSort) (bs : List ℕ) (t : LeafTree s) → read_text s bs ≡ Ok t → IsText s bs t
text_found s bs t e =
    let i : (length bs ≤ MOST_LENGTH) × (whole (read leaf (length bs) MOST_OPEN s (tokens bs)) ≡ Ok t) = short_text s bs (Ok t) (λ q. cc) e in
    let w : (n : ℕ) × (read leaf (length bs) MOST_OPEN s (tokens bs) ≡ Ok (t, n, [])) = whole_ok _ t i.1 in
    record { short = i.0; stop = w.0; begins = found leaf (length bs) MOST_OPEN s (tokens bs) (t, w.0, []) w.1 }

pub read_text_law : ReadTextLaw
read_text_law s bs t = (text_found s bs t, text_read s bs t)

pub one_text : OneTextLaw
one_text s bs t u a b = (one_reading leaf leaf_proper MOST_OPEN MOST_OPEN s t u (tokens bs) a.stop b.stop [] [] a.begins b.begins).0

pub longer : (s : LeafSort) (text : List ℕ) → read_text s text ≡ Err TooLong → MOST_LENGTH < length text
longer s text h = go (nat_lt MOST_LENGTH (length text)) refl h
  where
    other : (r : Read (LeafTree s)) → read leaf (length text) MOST_OPEN s (tokens text) ≡ r → whole r ≡ Err TooLong → ⊥
    other (Ok (t, n, [])) p q = cc
    other (Ok (t, n, (m, opening) ∷ ts)) p q = cc
    other (Ok (t, n, (m, closing) ∷ ts)) p q = cc
    other (Ok (t, n, (m, word w) ∷ ts)) p q = cc
    other (Err f) p q = stops_not_long leaf (length text) MOST_OPEN s (tokens text)
        (stops leaf leaf_proper (length text) MOST_OPEN s (tokens text) TooLong (p ∙ ap Err (err_is q)))

    go : (b : Bool) → nat_lt MOST_LENGTH (length text) ≡ b → (if b then Err TooLong else whole (read leaf (length text) MOST_OPEN s (tokens text))) ≡ Err TooLong
        → MOST_LENGTH < length text
    go true e h' = ltb-true MOST_LENGTH (length text) e
    go false e h' = absurd (other _ refl h')

no_text : (s : LeafSort) (bs : List ℕ) (e : ExprTextFault) (r : Read (LeafTree s)) → read leaf (length bs) MOST_OPEN s (tokens bs) ≡ r → whole r ≡ Err e → NoText s bs e
no_text s bs e (Ok (t, n, [])) p q = absurd (cc)
no_text s bs e (Ok (t, n, x ∷ rest)) p q =
    let i : e ≡ unfit_token MOST_OPEN x = cc in follows t n x rest (found leaf (length bs) MOST_OPEN s (tokens bs) (t, n, x ∷ rest) p) i
no_text s bs e (Err f) p q = no_tree (stops leaf leaf_proper (length bs) MOST_OPEN s (tokens bs) e (p ∙ ap Err (err_is q)))

text_refused : (s : LeafSort) (bs : List ℕ) (e : ExprTextFault) → e ≢ TooLong → read_text s bs ≡ Err e → (length bs ≤ MOST_LENGTH) × NoText s bs e
text_refused s bs e d p =
    let i : (length bs ≤ MOST_LENGTH) × (whole (read leaf (length bs) MOST_OPEN s (tokens bs)) ≡ Err e) = short_text s bs (Err e) (λ q. d (err_is q)) p in
    (i.0, no_text s bs e (read leaf (length bs) MOST_OPEN s (tokens bs)) refl i.1)

pub text_fault : (s : LeafSort) (bs : List ℕ) (e : ExprTextFault) → e ≢ Memory → read_text s bs ≡ Err e → IsTextFault s bs e
text_fault s bs Memory d p = absurd (d refl)
text_fault s bs TooLong d p = longer s bs p
text_fault s bs (Syntax k) d p = text_refused s bs (Syntax k) (λ q. cc) p
text_fault s bs (Number k) d p = text_refused s bs (Number k) (λ q. cc) p
text_fault s bs (TooDeep k) d p = text_refused s bs (TooDeep k) (λ q. cc) p

refuses_text : (s : LeafSort) (bs : List ℕ) (e : ExprTextFault) → (length bs ≤ MOST_LENGTH) × NoText s bs e → read_text s bs ≡ Err e
refuses_text s bs e (l, h) =
    ap (λ c. if c then Err TooLong else whole (read leaf (length bs) MOST_OPEN s (tokens bs))) (le-ltb MOST_LENGTH (length bs) l) ∙ go h
  where
    go : NoText s bs e → whole (read leaf (length bs) MOST_OPEN s (tokens bs)) ≡ Err e
    go (no_tree i) = ap whole (refuses leaf leaf_proper (length bs) MOST_OPEN s (tokens bs) e i)
    go (follows t n x after b q) =
        ap whole (only leaf leaf_proper (length bs) MOST_OPEN s b.part (tokens bs) n (x ∷ after) t b.spells b.means b.within) ∙ ap Err (sym q)

refuses_for : (s : LeafSort) (bs : List ℕ) (e : ExprTextFault) → e ≢ Memory → IsTextFault s bs e → read_text s bs ≡ Err e
refuses_for s bs Memory d h = absurd (d refl)
refuses_for s bs TooLong d h = ap (λ c. if c then Err TooLong else whole (read leaf (length bs) MOST_OPEN s (tokens bs))) (lt-ltb MOST_LENGTH (length bs) h)
refuses_for s bs (Syntax k) d h = refuses_text s bs (Syntax k) h
refuses_for s bs (Number k) d h = refuses_text s bs (Number k) h
refuses_for s bs (TooDeep k) d h = refuses_text s bs (TooDeep k) h

pub text_fault_law : TextFaultLaw
text_fault_law s bs e d = (text_fault s bs e d, refuses_for s bs e d)

pub printed_text : PrintedTextLaw
printed_text e r d l = text_read expression_sort (sexpr_spelling (expression_sexpr e)) e
    (record { short = l; stop = length (sexpr_spelling (expression_sexpr e)); begins = go })
  where
    n : 0 + length (sexpr_spelling (expression_sexpr e)) ≡ length (sexpr_spelling (expression_sexpr e))
    n = omega arith

    go : Begins leaf MOST_OPEN expression_sort e (tokens (sexpr_spelling (expression_sexpr e))) (length (sexpr_spelling (expression_sexpr e))) []
    go = subst (λ m. Begins leaf MOST_OPEN expression_sort e (tokens (sexpr_spelling (expression_sexpr e))) m []) n
        (subst (λ bs. Begins leaf MOST_OPEN expression_sort e (tokens_in false 0 bs) (0 + length (sexpr_spelling (expression_sexpr e))) [])
        (append-nil (sexpr_spelling (expression_sexpr e))) (printed_begins e MOST_OPEN 0 [] r d refl))
