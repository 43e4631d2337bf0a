-- Whatever was read so far is a viable prefix of a tree, and leads to one place.
use Rattle.std.proofs.Common.{◌≡◌, ℕ, zero, suc, ◌+◌, ◌≤◌, Bool, true, ◌&&◌, if◌then◌else◌, List, [], ◌∷◌, ◌++◌, refl, sym, ap, arith, Option, Some, None, append_assoc}
use Rattle.sample_core.specs.Number.{is_number_word}
use Rattle.leaf_expr.specs.Token.{opening, closing, word, PlacedToken}
use Rattle.leaf_expr.specs.Sexpr.{Sexprs, form, last, more, SpellAll, form_spells, last_spells, more_spells, depth}
use Rattle.leaf_expr.specs.Language.{Language, Places, Maker, Production, no_place, place, places, make_tree}
use Rattle.leaf_expr.specs.TreeReader.{unfit_token}
use Rattle.leaf_expr.specs.ReadLaws.{OpensAtMost, Completes, ViablePrefix, Whole, TokensLeadIn, at_tree, at_word, in_form, at_end, in_part, behind, in_item, behind_item, fault_at, Misfit}
use Rattle.leaf_expr.proofs.Opened.{opens_both}
use Rattle.leaf_expr.proofs.Proper.{Proper}
use Rattle.leaf_expr.specs.declared.text_fault.ExprTextFault.{ExprTextFault}
use Rattle.leaf_expr.specs.declared.text_fault.ExprTextFault.TheVariants.{Syntax, Number}

module _ (L : Language) where
  -- as `ViablePrefix`, of the parts of a form
  pub record ViableParts (room : ℕ) (s : L.Sort) (qs : Places L.Sort) (make : Maker L.Tree qs (L.Tree s)) (us : List PlacedToken) : Type 0 where
    pub opens : OpensAtMost room us
    pub end : List PlacedToken
    pub parts : Sexprs
    pub tree : L.Tree s
    pub spell : (ts : List PlacedToken) → SpellAll parts (us ++ (end ++ ts)) ts
    pub means : make_tree L s qs make parts ≡ Some tree

  -- as `Misfit`, of the parts of a form
  pub record MisfitIn (room : ℕ) (qs : Places L.Sort) (before : List PlacedToken) (x : PlacedToken) (e : ExprTextFault) : Type 0 where
    pub next : Option L.Sort
    pub opened : ℕ
    pub left : ℕ
    pub counts : opened + left ≡ room
    pub leads : TokensLeadIn L qs before next opened
    pub called : e ≡ fault_at L left x next

  -- nothing is a viable prefix, where something makes it a tree
  pub viable_none : (room : ℕ) (s : L.Sort) → Completes L s [] → ViablePrefix L room s []
  viable_none room s c = record { opens = tt; completes = c }

  -- so is a form's parenthesis
  pub viable_open : (room : ℕ) (s : L.Sort) (n : ℕ) → Completes L s ((n, opening) ∷ []) → ViablePrefix L (suc room) s ((n, opening) ∷ [])
  viable_open room s n c = record { opens = tt; completes = c }

  -- behind a part begun, and behind a part read
  pub begun : (room : ℕ) {s q : L.Sort} (qs : Places L.Sort) (make : Maker L.Tree (place q qs) (L.Tree s)) (us : List PlacedToken)
      (v : ViablePrefix L room q us) → ViableParts room s qs (make v.completes.tree) [] → ViableParts room s (place q qs) make us
  begun room {q = q} qs make us v d =
      let c : Completes L q us = v.completes in
      record {
        opens = v.opens;
        end = c.end ++ d.end;
        parts = more c.part d.parts;
        tree = d.tree;
        spell = λ ts.
            more_spells {n = c.stop} {mid = d.end ++ ts} (rw append_assoc (c.spells (d.end ++ ts))) (d.spell ts);
        means = rw c.means d.means;
      }

  pub begun_many : (room : ℕ) {s q : L.Sort} (make : List (L.Tree q) → L.Tree s) (us : List PlacedToken) → ViablePrefix L room q us
      → ViableParts room s (places q) make us
  begun_many room {q = q} make us v =
      let c : Completes L q us = v.completes in
      record {
        opens = v.opens;
        end = c.end;
        parts = more c.part last;
        tree = make (c.tree ∷ []);
        spell = λ ts.
            more_spells {n = c.stop} {mid = ts} (c.spells ts) last_spells;
        means = rw c.means refl;
      }

  -- a part that is read has room, and then tokens that have
  opens_past : (room : ℕ) {q : L.Sort} (t : L.Tree q) (front us : List PlacedToken) (p : Whole L q t front) → depth p.part ≤ room → OpensAtMost room us
      → OpensAtMost room (front ++ us)
  opens_past room t front us p d o = opens_both p.part room (front ++ us) p.stop us (p.spells us) d o

  -- behind it stand the parts that follow, of places of which it and they make the tree
  passed_to : (room : ℕ) {s q : L.Sort} (ps qs : Places L.Sort) (make : Maker L.Tree ps (L.Tree s)) (rest : Maker L.Tree qs (L.Tree s)) (t : L.Tree q)
      (front us : List PlacedToken) (p : Whole L q t front) → depth p.part ≤ room → (d : ViableParts room s qs rest us)
      → make_tree L s ps make (more p.part d.parts) ≡ Some d.tree → ViableParts room s ps make (front ++ us)
  passed_to room ps qs make rest t front us p w d means =
      record {
        opens = opens_past room t front us p w d.opens;
        end = d.end;
        parts = more p.part d.parts;
        tree = d.tree;
        spell = λ ts.
            more_spells {n = p.stop} {mid = us ++ (d.end ++ ts)} (rw append_assoc (p.spells (us ++ (d.end ++ ts)))) (d.spell ts);
        means = means;
      }

  pub passed : (room : ℕ) {s q : L.Sort} (qs : Places L.Sort) (make : Maker L.Tree (place q qs) (L.Tree s)) (t : L.Tree q) (front us : List PlacedToken)
      (p : Whole L q t front) → depth p.part ≤ room → ViableParts room s qs (make t) us → ViableParts room s (place q qs) make (front ++ us)
  passed room {q = q} qs make t front us p w d = passed_to room (place q qs) qs make (make t) t front us p w d (rw p.means d.means)

  pub passed_many : (room : ℕ) {s q : L.Sort} (make : List (L.Tree q) → L.Tree s) (t : L.Tree q) (front us : List PlacedToken)
      (p : Whole L q t front) → depth p.part ≤ room → ViableParts room s (places q) (λ xs. make (t ∷ xs)) us
      → ViableParts room s (places q) make (front ++ us)
  passed_many room {q = q} make t front us p w d =
      passed_to room (places q) (places q) make (λ xs. make (t ∷ xs)) t front us p w d (rw p.means d.means)

  completes_form : (room : ℕ) (s : L.Sort) (n m : ℕ) (w : List ℕ) (r : Production L.Sort L.Tree (L.Tree s)) (us : List PlacedToken) → L.production_at s w ≡ Some r
      → ViableParts room s r.takes r.makes us → Completes L s ((n, opening) ∷ (m, word w) ∷ us)
  completes_form room s n m w r us a d =
      record {
        end = d.end ++ (0, closing) ∷ [];
        stop = 1;
        part = form w d.parts;
        tree = d.tree;
        spells = λ ts.
            form_spells {k = 0} (rw append_assoc (d.spell ((0, closing) ∷ ts)));
        means = rw a d.means;
      }

  pub viable_form : (room : ℕ) (s : L.Sort) (n m : ℕ) (w : List ℕ) (r : Production L.Sort L.Tree (L.Tree s)) (us : List PlacedToken) → L.production_at s w ≡ Some r
      → ViableParts room s r.takes r.makes us → ViablePrefix L (suc room) s ((n, opening) ∷ (m, word w) ∷ us)
  viable_form room s n m w r us a d = record { opens = d.opens; completes = completes_form room s n m w r us a d }

  pub misfit_form : (room : ℕ) (s : L.Sort) (n m : ℕ) (w : List ℕ) (r : Production L.Sort L.Tree (L.Tree s)) (us : List PlacedToken) (x : PlacedToken)
      (e : ExprTextFault) → L.has_form s ≡ true → L.production_at s w ≡ Some r → MisfitIn room r.takes us x e
      → Misfit L (suc room) s ((n, opening) ∷ (m, word w) ∷ us) x e
  misfit_form room s n m w r us x e f a i = record {
    next = i.next;
    opened = suc i.opened;
    left = i.left;
    counts =
        let c : i.opened + i.left ≡ room = i.counts in omega arith;
    leads = in_form f a i.leads;
    called = i.called;
  }

  pub misfit_part : (room : ℕ) (q : L.Sort) (qs : Places L.Sort) (us : List PlacedToken) (x : PlacedToken) (e : ExprTextFault) → Misfit L room q us x e
      → MisfitIn room (place q qs) us x e
  misfit_part room q qs us x e i = record { next = i.next; opened = i.opened; left = i.left; counts = i.counts; leads = in_part i.leads; called = i.called }

  pub misfit_item : (room : ℕ) (q : L.Sort) (us : List PlacedToken) (x : PlacedToken) (e : ExprTextFault) → Misfit L room q us x e
      → MisfitIn room (places q) us x e
  misfit_item room q us x e i = record { next = i.next; opened = i.opened; left = i.left; counts = i.counts; leads = in_item i.leads; called = i.called }

  pub misfit_behind : (room : ℕ) (q : L.Sort) (qs : Places L.Sort) (t : L.Tree q) (front us : List PlacedToken) (x : PlacedToken) (e : ExprTextFault)
      → Whole L q t front → MisfitIn room qs us x e → MisfitIn room (place q qs) (front ++ us) x e
  misfit_behind room q qs t front us x e p i =
      record { next = i.next; opened = i.opened; left = i.left; counts = i.counts; leads = behind p i.leads; called = i.called }

  pub misfit_behind_item : (room : ℕ) (q : L.Sort) (t : L.Tree q) (front us : List PlacedToken) (x : PlacedToken) (e : ExprTextFault) → Whole L q t front
      → MisfitIn room (places q) us x e → MisfitIn room (places q) (front ++ us) x e
  misfit_behind_item room q t front us x e p i =
      record { next = i.next; opened = i.opened; left = i.left; counts = i.counts; leads = behind_item p i.leads; called = i.called }

  -- what the reader calls a token that fits nowhere
  unfit_called : (room : ℕ) (x : PlacedToken) → unfit_token room x ≡ fault_at L room x None
  unfit_called zero (n, opening) = refl
  unfit_called zero (n, closing) = refl
  unfit_called zero (n, word w) = refl
  unfit_called (suc room) (n, opening) = refl
  unfit_called (suc room) (n, closing) = refl
  unfit_called (suc room) (n, word w) = refl

  closing_called : (room n : ℕ) (q : Option L.Sort) → Syntax n ≡ fault_at L room (n, closing) q
  closing_called zero n q = refl
  closing_called (suc room) n q = refl

  word_called : (room n : ℕ) (w : List ℕ) (q : L.Sort) (b : Bool) → (L.takes_number q && is_number_word w) ≡ b
      → (if b then Number n else Syntax n) ≡ fault_at L room (n, word w) (Some q)
  word_called zero n w q b e = ap (λ c. if c then Number n else Syntax n) (sym e)
  word_called (suc room) n w q b e = ap (λ c. if c then Number n else Syntax n) (sym e)

  pub misfit_end : (room : ℕ) (x : PlacedToken) → MisfitIn room no_place [] x (unfit_token room x)
  misfit_end room x = record { next = None; opened = 0; left = room; counts = omega arith; leads = at_end; called = unfit_called room x }

  -- at the word of a form
  pub misfit_head : (room : ℕ) (s : L.Sort) (k : ℕ) (x : PlacedToken) → L.has_form s ≡ true → Misfit L (suc room) s ((k, opening) ∷ []) x (unfit_token room x)
  misfit_head room s k x f = record { next = None; opened = 1; left = room; counts = omega arith; leads = at_word f; called = unfit_called room x }

  pub unfit_word : (room m : ℕ) (w : List ℕ) → unfit_token room (m, word w) ≡ Syntax m
  unfit_word zero m w = refl
  unfit_word (suc room) m w = refl

  at_place : (room : ℕ) (s : L.Sort) (x : PlacedToken) (e : ExprTextFault) → e ≡ fault_at L room x (Some s) → Misfit L room s [] x e
  at_place room s x e c = record { next = Some s; opened = 0; left = room; counts = omega arith; leads = at_tree; called = c }

  pub misfit_word : (room : ℕ) (s : L.Sort) (n : ℕ) (w : List ℕ) (b : Bool) → (L.takes_number s && is_number_word w) ≡ b
      → Misfit L room s [] (n, word w) (if b then Number n else Syntax n)
  misfit_word room s n w b e = at_place room s (n, word w) _ (word_called room n w s b e)

  pub misfit_closing : (room : ℕ) (s : L.Sort) (n : ℕ) → Misfit L room s [] (n, closing) (Syntax n)
  misfit_closing room s n = at_place room s (n, closing) _ (closing_called room n (Some s))

  pub misfit_deep : (s : L.Sort) (n : ℕ) → Misfit L 0 s [] (n, opening) (unfit_token 0 (n, opening))
  misfit_deep s n = at_place 0 s (n, opening) _ refl

  pub misfit_form_here : (room : ℕ) (s : L.Sort) (n : ℕ) → Misfit L (suc room) s [] (n, opening) (Syntax n)
  misfit_form_here room s n = at_place (suc room) s (n, opening) _ refl

  module _ (proper : Proper L) where
    pub fill : (room : ℕ) (s : L.Sort) (qs : Places L.Sort) (make : Maker L.Tree qs (L.Tree s)) → ViableParts room s qs make []
    unfolding viable_none
    fill room s no_place make = record { opens = tt; end = []; parts = last; tree = make; spell = λ ts. last_spells; means = refl }
    fill room s (place q qs) make = begun room qs make [] (viable_none room q (proper.filler q)) (fill room s qs (make (proper.filler q).tree))
    fill room s (places q) make = record { opens = tt; end = []; parts = last; tree = make []; spell = λ ts. last_spells; means = refl }
