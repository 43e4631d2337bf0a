-- The tokens of a spelling part.
use Rattle.std.proofs.Common.{◌≡◌, ℕ, suc, ◌+◌, true, false, List, [], ◌∷◌, ◌++◌, length, refl, sym, ap, ◌∙◌, subst, arith, append_assoc, length-append, nat_eq, if◌then◌else◌}
use Rattle.sample_core.proofs.Numbers.{parts_of}
use Rattle.leaf_expr.specs.Token.{opening, closing, word, is_word_byte, begins_word, join_byte, tokens_in}
use Rattle.leaf_expr.specs.Sexpr.{Sexpr, Sexprs, atom, form, last, more, Spells, SpellAll, atom_spells, form_spells, last_spells, more_spells, sexpr_spelling, sexprs_spelling, all_word_bytes, is_word, plain_sexpr, all_plain}

pub tokens_step : (n b : ℕ) (bs : List ℕ) → is_word_byte b ≡ true → tokens_in false n (b ∷ bs) ≡ join_byte n b (begins_word bs) (tokens_in false (suc n) bs)
tokens_step n b bs h =
    ap (λ p. if p then join_byte n b (begins_word bs) (tokens_in false (suc n) bs)
    else (if nat_eq b 40 then (n, opening) ∷ tokens_in false (suc n) bs
    else (if nat_eq b 41 then (n, closing) ∷ tokens_in false (suc n) bs else tokens_in (nat_eq b 59) (suc n) bs))) h

pub word_token : (n b : ℕ) (w bs : List ℕ) → is_word_byte b ≡ true → all_word_bytes w ≡ true → begins_word bs ≡ false
    → tokens_in false n (b ∷ w ++ bs) ≡ (n, word (b ∷ w)) ∷ tokens_in false (suc n + length w) bs
word_token n b [] bs h a e = let i : suc n + 0 ≡ suc n = omega arith in tokens_step n b bs h ∙ rw (e, i) refl
word_token n b (c ∷ w) bs h a e =
    let i : suc (suc n) + length w ≡ suc n + length (c ∷ w) = omega arith in
    let t : (is_word_byte c ≡ true) × (all_word_bytes w ≡ true) = parts_of (is_word_byte c) (all_word_bytes w) a in
    tokens_step n b (c ∷ w ++ bs) h
    ∙ ap (λ q. join_byte n b q (tokens_in false (suc n) (c ∷ w ++ bs))) t.0
    ∙ ap (join_byte n b true) (word_token (suc n) c w bs t.0 t.1 e)
    ∙ ap (λ m. (n, word (b ∷ c ∷ w)) ∷ tokens_in false m bs) i

pub word_tokens : (n : ℕ) (w bs : List ℕ) → is_word w ≡ true → begins_word bs ≡ false
    → tokens_in false n (w ++ bs) ≡ (n, word w) ∷ tokens_in false (n + length w) bs
word_tokens n [] bs h e = absurd (cc)
word_tokens n (b ∷ w) bs h e =
    let i : suc n + length w ≡ n + length (b ∷ w) = omega arith in
    let t : (is_word_byte b ≡ true) × (all_word_bytes w ≡ true) = parts_of (is_word_byte b) (all_word_bytes w) h in
    word_token n b w bs t.0 t.1 e ∙ ap (λ m. (n, word (b ∷ w)) ∷ tokens_in false m bs) i

begins_close : (ps : Sexprs) (bs : List ℕ) → begins_word (sexprs_spelling ps ++ 41 ∷ bs) ≡ false
begins_close last bs = refl
begins_close (more p ps) bs = refl

begins_next : (ps : Sexprs) (bs : List ℕ) → begins_word bs ≡ false → begins_word (sexprs_spelling ps ++ bs) ≡ false
begins_next last bs e = e
begins_next (more p ps) bs e = refl

mutual
  pub spells_printed : (p : Sexpr) (n : ℕ) (bs : List ℕ) → plain_sexpr p ≡ true → begins_word bs ≡ false
      → Spells p (tokens_in false n (sexpr_spelling p ++ bs)) (n + length (sexpr_spelling p)) (tokens_in false (n + length (sexpr_spelling p)) bs)
  spells_printed (atom w) n bs h e = subst (λ ts. Spells (atom w) ts (n + length w) (tokens_in false (n + length w) bs)) (sym (word_tokens n w bs h e))
      atom_spells
  spells_printed (form w ps) n bs h e =
      let t : (is_word w ≡ true) × (all_plain ps ≡ true) = parts_of (is_word w) (all_plain ps) h in
      let a : (w ++ (sexprs_spelling ps ++ 41 ∷ [])) ++ bs ≡ w ++ (sexprs_spelling ps ++ 41 ∷ bs) = append_assoc w (sexprs_spelling ps ++ 41 ∷ []) bs
      ∙ ap (λ t. w ++ t) (append_assoc (sexprs_spelling ps) (41 ∷ []) bs) in
      let i : tokens_in false (suc n) (w ++ (sexprs_spelling ps ++ 41 ∷ bs)) ≡ (suc n, word w)
      ∷ tokens_in false (suc n + length w) (sexprs_spelling ps ++ 41 ∷ bs) = word_tokens (suc n) w (sexprs_spelling ps ++ 41 ∷ bs) t.0 (begins_close ps bs) in
      let j : SpellAll ps (tokens_in false (suc n + length w) (sexprs_spelling ps ++ 41 ∷ bs))
      (tokens_in false (suc n + length w + length (sexprs_spelling ps)) (41 ∷ bs)) = spell_printed ps (suc n + length w) (41 ∷ bs) t.1 refl in
      let l : suc (suc n + length w + length (sexprs_spelling ps)) ≡ n
      + length (sexpr_spelling (form w ps)) = omega (arith, length-append w (sexprs_spelling ps ++ 41 ∷ []), length-append (sexprs_spelling ps) (41 ∷ [])) in
      subst (λ ts. Spells (form w ps) ((n, opening) ∷ ts) (n + length (sexpr_spelling (form w ps))) (tokens_in false (n + length (sexpr_spelling (form w ps))) bs))
      (sym (ap (tokens_in false (suc n)) a ∙ i))
      (subst (λ m. Spells (form w ps) ((n, opening) ∷ (suc n, word w) ∷ tokens_in false (suc n + length w) (sexprs_spelling ps ++ 41 ∷ bs)) m (tokens_in false m bs))
      l (form_spells j))

  pub spell_printed : (ps : Sexprs) (n : ℕ) (bs : List ℕ) → all_plain ps ≡ true → begins_word bs ≡ false
      → SpellAll ps (tokens_in false n (sexprs_spelling ps ++ bs)) (tokens_in false (n + length (sexprs_spelling ps)) bs)
  spell_printed last n bs h e = let i : n + 0 ≡ n = omega arith in subst (λ m. SpellAll last (tokens_in false n bs) (tokens_in false m bs)) (sym i) last_spells
  spell_printed (more p ps) n bs h e =
      let t : (plain_sexpr p ≡ true) × (all_plain ps ≡ true) = parts_of (plain_sexpr p) (all_plain ps) h in
      let i : Spells p (tokens_in false (suc n) (sexpr_spelling p ++ (sexprs_spelling ps ++ bs))) (suc n + length (sexpr_spelling p))
      (tokens_in false (suc n + length (sexpr_spelling p)) (sexprs_spelling ps ++ bs)) = spells_printed p (suc n) (sexprs_spelling ps ++ bs) t.0 (begins_next ps bs e) in
      let j : SpellAll ps (tokens_in false (suc n + length (sexpr_spelling p)) (sexprs_spelling ps ++ bs))
      (tokens_in false (suc n + length (sexpr_spelling p) + length (sexprs_spelling ps)) bs) = spell_printed ps (suc n + length (sexpr_spelling p)) bs t.1 e in
      let l : suc n + length (sexpr_spelling p) + length (sexprs_spelling ps) ≡ n
      + length (sexprs_spelling (more p ps)) = omega (arith, length-append (sexpr_spelling p) (sexprs_spelling ps)) in
      subst (λ ts. SpellAll (more p ps) ts (tokens_in false (n + length (sexprs_spelling (more p ps))) bs))
      (sym (ap (tokens_in false (suc n)) (append_assoc (sexpr_spelling p) (sexprs_spelling ps) bs)))
      (subst (λ m. SpellAll (more p ps) (tokens_in false (suc n) (sexpr_spelling p ++ (sexprs_spelling ps ++ bs))) (tokens_in false m bs)) l (more_spells i j))
