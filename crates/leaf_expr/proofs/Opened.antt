-- How many parentheses the tokens of trees open.
use Rattle.std.proofs.Common.{◌≡◌, ℕ, zero, suc, ◌+◌, ◌≤◌, List, [], ◌∷◌, ◌++◌, subst, arith, append_assoc, Option}
use Rattle.leaf_expr.specs.Token.{opening, closing, word, PlacedToken}
use Rattle.leaf_expr.specs.Sexpr.{Sexpr, Sexprs, Spells, SpellAll, atom_spells, form_spells, last_spells, more_spells, depth, depths}
use Rattle.leaf_expr.specs.Language.{Language, Places}
use Rattle.leaf_expr.specs.ReadLaws.{OpensAtMost, Whole, TokensLead, TokensLeadIn, at_tree, at_word, in_form, at_end, in_part, behind, in_item, behind_item}

mutual
  -- a tree within the room, and then tokens that are so
  pub opens_both : (p : Sexpr) (room : ℕ) (ts : List PlacedToken) (n : ℕ) (rest : List PlacedToken) → Spells p ts n rest → depth p ≤ room
      → OpensAtMost room rest → OpensAtMost room ts
  opens_both p room ts n rest atom_spells d o = o
  opens_both p zero ts n rest (form_spells h) d o = absurd (omega arith)
  opens_both p (suc room) ts n rest (form_spells {k = k} {ps = ps} {ts = us} h) d o =
      opens_all ps room us ((k, closing) ∷ rest) h (omega arith) o

  opens_all : (ps : Sexprs) (room : ℕ) (ts rest : List PlacedToken) → SpellAll ps ts rest → depths ps ≤ room → OpensAtMost room rest → OpensAtMost room ts
  opens_all ps room ts rest last_spells d o = o
  opens_all ps room ts rest (more_spells {n = n} {p = p} {ps = qs} {mid = mid} h hs) d o =
      opens_both p room ts n mid h (omega arith) (opens_all qs room mid rest hs (omega arith) o)

mutual
  -- what stands behind a tree opens no more
  opens_behind : (p : Sexpr) (room : ℕ) (ts : List PlacedToken) (n : ℕ) (rest : List PlacedToken) → Spells p ts n rest → OpensAtMost room ts
      → OpensAtMost room rest
  opens_behind p room ts n rest atom_spells o = o
  opens_behind p zero ts n rest (form_spells h) o = absurd o
  opens_behind p (suc room) ts n rest (form_spells {k = k} {ps = ps} {ts = us} h) o = all_behind ps room us ((k, closing) ∷ rest) h o

  all_behind : (ps : Sexprs) (room : ℕ) (ts rest : List PlacedToken) → SpellAll ps ts rest → OpensAtMost room ts → OpensAtMost room rest
  all_behind ps room ts rest last_spells o = o
  all_behind ps room ts rest (more_spells {n = n} {p = p} {ps = qs} {mid = mid} h hs) o =
      all_behind qs room mid rest hs (opens_behind p room ts n mid h o)

-- a part of tokens from their front opens no more
pub opens_front : (room : ℕ) (us vs : List PlacedToken) → OpensAtMost room (us ++ vs) → OpensAtMost room us
opens_front room [] vs o = tt
opens_front room ((n, word w) ∷ us) vs o = opens_front room us vs o
opens_front room ((n, closing) ∷ us) vs o = opens_front (suc room) us vs o
opens_front zero ((n, opening) ∷ us) vs o = o
opens_front (suc room) ((n, opening) ∷ us) vs o = opens_front room us vs o

module _ (L : Language) where
  past : {q : L.Sort} {t : L.Tree q} {front : List PlacedToken} (room : ℕ) (us vs : List PlacedToken) → Whole L q t front
      → OpensAtMost room ((front ++ us) ++ vs) → OpensAtMost room (us ++ vs)
  past {front = front} room us vs w o =
      opens_behind w.part room (front ++ (us ++ vs)) w.stop (us ++ vs) (w.spells (us ++ vs)) (subst (OpensAtMost room) (append_assoc front us vs) o)

  mutual
    -- where tokens lead to, what is left of the room is left to those behind them
    pub opens_there : {s : L.Sort} {us : List PlacedToken} {q : Option L.Sort} {d : ℕ} → TokensLead L s us q d → (room left : ℕ) (vs : List PlacedToken)
        → d + left ≡ room → OpensAtMost room (us ++ vs) → OpensAtMost left vs
    opens_there at_tree room left vs e o = subst (λ n. OpensAtMost n vs) (omega arith) o
    opens_there (at_word f) zero left vs e o = absurd o
    opens_there (at_word f) (suc room) left vs e o = subst (λ n. OpensAtMost n vs) (omega arith) o
    opens_there (in_form f a i) zero left vs e o = absurd o
    opens_there (in_form f a i) (suc room) left vs e o = opens_inside i room left vs (omega arith) o

    opens_inside : {qs : Places L.Sort} {us : List PlacedToken} {q : Option L.Sort} {d : ℕ} → TokensLeadIn L qs us q d → (room left : ℕ) (vs : List PlacedToken)
        → d + left ≡ room → OpensAtMost room (us ++ vs) → OpensAtMost left vs
    opens_inside at_end room left vs e o = subst (λ n. OpensAtMost n vs) (omega arith) o
    opens_inside (in_part i) room left vs e o = opens_there i room left vs e o
    opens_inside (behind {us = us} w i) room left vs e o = opens_inside i room left vs e (past room us vs w o)
    opens_inside (in_item i) room left vs e o = opens_there i room left vs e o
    opens_inside (behind_item {us = us} w i) room left vs e o = opens_inside i room left vs e (past room us vs w o)
