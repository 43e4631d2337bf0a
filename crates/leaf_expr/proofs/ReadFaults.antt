-- Where reading stops, each list of tokens that goes so far stops there too.
use Rattle.std.proofs.Common.{◌≡◌, ℕ, zero, suc, pred, ◌+◌, ◌≢◌, ◌≤◌, ◌<◌, Bool, true, false, ◌&&◌, if◌then◌else◌, List, [], ◌∷◌, ◌++◌, length, refl, sym, ap, ◌∙◌, subst, arith, Option, Some, None, Result, Ok, Err, append_assoc, length-append}
use Rattle.leaf_expr.specs.WordReading.{WordReading, reads, misspelt, unfit}
use Rattle.sample_core.specs.Number.{is_number_word}
use Rattle.leaf_expr.specs.Token.{Token, opening, closing, word, PlacedToken}
use Rattle.leaf_expr.specs.Sexpr.{Sexpr, Sexprs, Spells, SpellAll, atom_spells, form_spells, last_spells, more_spells, depth}
use Rattle.leaf_expr.specs.Language.{Language, Begins, Places, Maker, Production, no_place, place, places}
use Rattle.leaf_expr.specs.TreeReader.{Read, unfit_token, word_read, close, read_all, read_parts, read_production, read_form, read}
use Rattle.leaf_expr.specs.ReadLaws.{OpensAtMost, Completes, ViablePrefix, Whole, Misfit, fault_at, Stops, too_short, at_token, OneReadingLaw}
use Rattle.leaf_expr.proofs.Proper.{Proper}
use Rattle.leaf_expr.proofs.Fillers.{ViableParts, MisfitIn, viable_none, viable_open, begun, begun_many, passed, passed_many, viable_form, misfit_form, misfit_part, misfit_item, misfit_behind, misfit_behind_item, misfit_end, misfit_head, unfit_word, misfit_word, misfit_closing, misfit_deep, misfit_form_here, fill}
use Rattle.leaf_expr.proofs.ReadFound.{found, ok_is}
use Rattle.leaf_expr.proofs.ReadOnly.{only, shorter}
use Rattle.leaf_expr.proofs.ReadDeep.{ReadOrDeep, is_read, is_deep, read_or_deep}
use Rattle.leaf_expr.proofs.Opened.{opens_there}
use Rattle.sample_core.specs.Answer.{◌>>=◌}
use Rattle.leaf_expr.specs.declared.text_fault.ExprTextFault.{ExprTextFault}
use Rattle.leaf_expr.specs.declared.text_fault.ExprTextFault.TheVariants.{Syntax, Number, TooDeep, TooLong}

mutual
  pub framed : (p : Sexpr) (ts : List PlacedToken) (n : ℕ) (rest : List PlacedToken) → Spells p ts n rest
      → (front : List PlacedToken) × (ts ≡ front ++ rest) × ((more : List PlacedToken) → Spells p (front ++ more) n more)
  framed p ts n' rest (atom_spells {n = n} {w = w}) = ((n, word w) ∷ [], refl, λ us. atom_spells)
  framed p ts n' rest (form_spells {n = n} {m = m} {k = k} {w = w} {ps = ps} {ts = ts'} h) =
      let i : (front : List PlacedToken) × (ts' ≡ front ++ (k, closing) ∷ rest)
      × ((us : List PlacedToken) → SpellAll ps (front ++ us) us) = all_framed ps ts' _ h in (
        (n, opening) ∷ (m, word w)
            ∷ (i.0 ++ (k, closing) ∷ []),
        ap (λ us. (n, opening) ∷ (m, word w) ∷ us) (i.1 ∙ sym (append_assoc i.0 ((k, closing) ∷ []) rest)),
        λ us.
            form_spells {k = k} (rw append_assoc (i.2 ((k, closing) ∷ us))),
      )

  pub all_framed : (ps : Sexprs) (ts rest : List PlacedToken) → SpellAll ps ts rest
      → (front : List PlacedToken) × (ts ≡ front ++ rest) × ((more : List PlacedToken) → SpellAll ps (front ++ more) more)
  all_framed ps ts rest last_spells = ([], refl, λ us. last_spells)
  all_framed ps ts rest (more_spells {n = n} {p = p} {ps = ps'} {mid = mid} h hs) =
      let i : (front : List PlacedToken) × (ts ≡ front ++ mid) × ((us : List PlacedToken) → Spells p (front ++ us) n us) = framed p ts n mid h in
      let j : (front : List PlacedToken) × (mid ≡ front ++ rest) × ((us : List PlacedToken) → SpellAll ps' (front ++ us) us) = all_framed ps' mid rest hs in (
        i.0 ++ j.0,
        i.1 ∙ ap (λ us. i.0 ++ us) j.1
            ∙ sym (append_assoc i.0 j.0 rest),
        λ us. more_spells {n = n} {mid = j.0 ++ us} (rw append_assoc (i.2 (j.0 ++ us))) (j.2 us),
      )

-- g, given a count that is no less than the tokens, stops at a token of ts with e, or at their end; C holds of
-- what comes before, and P of that, the token and e
pub data Halts {T : Type 0} (size : ℕ) (C : List PlacedToken → Type 0) (P : List PlacedToken → PlacedToken → ExprTextFault → Type 0) (g : ℕ → List PlacedToken
    → Read T) (ts : List PlacedToken) (e : ExprTextFault) : Type 0 where
  ended : e ≡ Syntax size → C ts → Halts size C P g ts e
  halted : (before : List PlacedToken) (x : PlacedToken) (after : List PlacedToken) → ts ≡ before ++ x ∷ after → C before → P before x e
      → ((us : List PlacedToken) (n : ℕ) → length (before ++ x ∷ us) ≤ n → g n (before ++ x ∷ us) ≡ Err e) → Halts size C P g ts e

halts_more : {T : Type 0} (size : ℕ) (C D : List PlacedToken → Type 0) (P Q : List PlacedToken → PlacedToken → ExprTextFault → Type 0) (g : ℕ → List PlacedToken
    → Read T) (ts : List PlacedToken) (e : ExprTextFault) → ((us : List PlacedToken) → C us → D us)
    → ((us : List PlacedToken) (x : PlacedToken) (d : ExprTextFault) → P us x d → Q us x d) → Halts size C P g ts e → Halts size D Q g ts e
halts_more size C D P Q g ts e f f' (ended a v) = ended a (f ts v)
halts_more size C D P Q g ts e f f' (halted before x after a v p h) = halted before x after a (f before v) (f' before x e p) h

pub err_is : {A : Type 0} {e f : ExprTextFault} → ◌≡◌ {A = Result A ExprTextFault} (Err e) (Err f) → e ≡ f
err_is p = cc

starts : (y : PlacedToken) (ts before : List PlacedToken) (x : PlacedToken) (after us : List PlacedToken) → y ∷ ts ≡ before ++ x ∷ after
    → (vs : List PlacedToken) × (before ++ x ∷ us ≡ y ∷ vs)
starts y ts [] x after us e = let q : x ≡ y = cc in (us, ap (λ z. z ∷ us) q)
starts y ts (b ∷ before) x after us e = let q : b ≡ y = cc in (before ++ x ∷ us, ap (λ z. z ∷ before ++ x ∷ us) q)

halts_behind : {T : Type 0} (size : ℕ) (C : List PlacedToken → Type 0) (P : List PlacedToken → PlacedToken → ExprTextFault
    → Type 0) (y : PlacedToken) (ts : List PlacedToken) (g h : List PlacedToken → Read T) (e : ExprTextFault) → ((us : List PlacedToken) → g (y ∷ us) ≡ h us)
    → Halts size (λ us. C (y ∷ us)) (λ us. P (y ∷ us)) (λ n. h) ts e → Halts size C P (λ n. g) (y ∷ ts) e
halts_behind size C P y ts g h e p (ended a v) = ended a v
halts_behind size C P y ts g h e p (halted before x after a d v q) =
    halted (y ∷ before) x after (ap (λ us. y ∷ us) a) d v (λ us n i. p (before ++ x ∷ us) ∙ q us n (omega arith))

halts_here : {T : Type 0} (size : ℕ) (C : List PlacedToken → Type 0) (P : List PlacedToken → PlacedToken → ExprTextFault
    → Type 0) (y : PlacedToken) (ts : List PlacedToken) (g : ℕ → List PlacedToken → Read T) (e : ExprTextFault) → C [] → P [] y e
    → ((us : List PlacedToken) (n : ℕ) → 1 ≤ n → g n (y ∷ us) ≡ Err e) → Halts size C P g (y ∷ ts) e
halts_here size C P y ts g e d v h = halted [] y ts refl d v (λ us n i. h us n (omega arith))

counted : (a b n : ℕ) → 1 ≤ a → a + b ≤ n → b ≤ pred n
counted a b zero h l = absurd (omega arith)
counted a b (suc n) h l = omega arith

not_ok : {A : Type 0} {x : A} {e : ExprTextFault} → ◌≡◌ {A = Result A ExprTextFault} (Err e) (Ok x) → ⊥
not_ok p = cc

word_not_deep : (b : Bool) (n k : ℕ) → (if b then Number n else Syntax n) ≢ TooDeep k
word_not_deep true n k e = cc
word_not_deep false n k e = cc

-- a parenthesis that has room is none too many
not_deep : (L : Language) (left : ℕ) (x : PlacedToken) (q : Option L.Sort) (k : ℕ) → fault_at L left x q ≡ TooDeep k → OpensAtMost left (x ∷ []) → ⊥
not_deep L zero (n, opening) q k e o = o
not_deep L zero (n, closing) q k e o = cc
not_deep L zero (n, word w) None k e o = cc
not_deep L zero (n, word w) (Some q) k e o = word_not_deep (L.takes_number q && is_number_word w) n k e
not_deep L (suc left) (n, opening) q k e o = cc
not_deep L (suc left) (n, closing) q k e o = cc
not_deep L (suc left) (n, word w) None k e o = cc
not_deep L (suc left) (n, word w) (Some q) k e o = word_not_deep (L.takes_number q && is_number_word w) n k e

module _ (L : Language) where
  -- a part at the front that has room, whatever follows
  record Fronts (room : ℕ) (q : L.Sort) (g : List PlacedToken → Read (L.Tree q)) (ts : List PlacedToken)
      (t : L.Tree q) (n : ℕ) (rest : List PlacedToken) : Type 0 where
    front : List PlacedToken
    is : ts ≡ front ++ rest
    some : 1 ≤ length front
    again : (us : List PlacedToken) → g (front ++ us) ≡ Ok (t, n, us)
    whole : Whole L q t front
    within : depth whole.part ≤ room

  -- where the count for the rest is c of the count
  halts_bind : {R : Type 0} (size room : ℕ) (q : L.Sort) (C D : List PlacedToken → Type 0) (P Q : List PlacedToken → PlacedToken → ExprTextFault
      → Type 0) (g : List PlacedToken → Read (L.Tree q)) (k : ℕ → L.Tree q → List PlacedToken → Read R) (c : ℕ → ℕ)
      → ((a b n : ℕ) → 1 ≤ a → a + b ≤ n → b ≤ c n) → (ts : List PlacedToken) (e : ExprTextFault) (l : ℕ) → ((us : List PlacedToken) → C us → D us)
      → ((us : List PlacedToken) (x : PlacedToken) (d : ExprTextFault) → P us x d → Q us x d)
      → ((f : ExprTextFault) → g ts ≡ Err f → Halts size C P (λ n. g) ts f)
      → ((t : L.Tree q) (n : ℕ) (rest : List PlacedToken) → g ts ≡ Ok (t, n, rest)
      → (i : Fronts room q g ts t n rest) × (k l t rest ≡ Err e → Halts size (λ us. D (i.front ++ us)) (λ us. Q (i.front ++ us)) (λ n. k n t) rest e))
      → (g ts >>= (λ x. k l x.0 x.2)) ≡ Err e → Halts size D Q (λ n us. g us >>= (λ x. k (c n) x.0 x.2)) ts e
  halts_bind {R = R} size room q C D P Q g k c hc ts e l vw pq hg hk p = go (g ts) refl p
    where
      go : (r : Read (L.Tree q)) → g ts ≡ r → (r >>= (λ x. k l x.0 x.2)) ≡ Err e → Halts size D Q (λ n us. g us >>= (λ x. k (c n) x.0 x.2)) ts e
      go (Err f) q' p' = stop (hg f q') (err_is p')
        where
          stop : Halts size C P (λ n. g) ts f → f ≡ e → Halts size D Q (λ n us. g us >>= (λ x. k (c n) x.0 x.2)) ts e
          stop (ended a v) b = ended (sym b ∙ a) (vw ts v)
          stop (halted before x after a d v h) b = halted before x after a (vw before d) (subst (Q before x) b (pq before x f v))
              (λ us n i. rw (h us n i) (ap Err b))
      go (Ok x) q' p' = stop (hk x.0 x.1 x.2 q').0 ((hk x.0 x.1 x.2 q').1 p')
        where
          stop : (i : Fronts room q g ts x.0 x.1 x.2) → Halts size (λ us. D (i.front ++ us)) (λ us. Q (i.front ++ us)) (λ n. k n x.0) x.2 e
              → Halts size D Q (λ n us. g us >>= (λ z. k (c n) z.0 z.2)) ts e
          stop i (ended a v) = ended a (subst D (sym i.is) v)
          stop i (halted before y after a d v h) = halted (i.front ++ before) y after (i.is ∙ ap (λ us. i.front ++ us) a
              ∙ sym (append_assoc i.front before (y ∷ after))) d v (λ us n l'.
              rw append_assoc
              (rw (i.again (before ++ y ∷ us))
              (h us (c n)
              (hc (length i.front) _ n i.some
              (omega (arith, length-append i.front before, length-append (i.front ++ before) (y ∷ us), length-append before (y ∷ us)))))))

  read_all_on : {T R : Type 0} (size : ℕ) (reader : List PlacedToken → Read T) (n : ℕ) (make : List T → R) (m : ℕ) (k : Token) (ts : List PlacedToken)
      → closing ≢ k → read_all L size reader (suc n) make ((m, k) ∷ ts) ≡ (reader ((m, k) ∷ ts) >>= (λ x. read_all L size reader n (λ xs. make (x.0 ∷ xs)) x.2))
  read_all_on size reader n make m opening ts d = refl
  read_all_on size reader n make m closing ts d = absurd (d refl)
  read_all_on size reader n make m (word w) ts d = refl

  halts_on : {T R : Type 0} (size : ℕ) (C : List PlacedToken → Type 0) (P : List PlacedToken → PlacedToken → ExprTextFault → Type 0) (reader : List PlacedToken
      → Read T) (make : List T → R) (m : ℕ) (k : Token) (ts : List PlacedToken) (e : ExprTextFault) → closing ≢ k
      → Halts size C P (λ n us. reader us >>= (λ x. read_all L size reader (pred n) (λ xs. make (x.0 ∷ xs)) x.2)) ((m, k) ∷ ts) e
      → Halts size C P (λ n. read_all L size reader n make) ((m, k) ∷ ts) e
  halts_on size C P reader make m k ts e d (ended a v) = ended a v
  halts_on size C P reader make m k ts e d (halted before x after a b v h) = halted before x after a b v go
    where
      go : (us : List PlacedToken) (n : ℕ) → length (before ++ x ∷ us) ≤ n → read_all L size reader n make (before ++ x ∷ us) ≡ Err e
      go us zero l = absurd (omega (arith, length-append before (x ∷ us)))
      go us (suc n) l =
          let v : (vs : List PlacedToken) × (before ++ x ∷ us ≡ (m, k) ∷ vs) = starts (m, k) ts before x after us a in
          let r : (reader (before ++ x ∷ us) >>= (λ z. read_all L size reader n (λ xs. make (z.0 ∷ xs)) z.2)) ≡ Err e = h us (suc n) l in
          rw v.1 (read_all_on size reader n make m k v.0 d ∙ (rw v.1 at r))

  module _ (proper : Proper L) where
    module _ (size room : ℕ) (reader : (s : L.Sort) → List PlacedToken
        → Read (L.Tree s)) (hf : (s : L.Sort) (ts : List PlacedToken) (t : L.Tree s) (n : ℕ) (rest : List PlacedToken) → reader s ts ≡ Ok (t, n, rest)
        → Fronts room s (reader s) ts t n rest) (he : (s : L.Sort) (ts : List PlacedToken) (e : ExprTextFault) → reader s ts ≡ Err e
        → Halts size (ViablePrefix L room s) (Misfit L room s) (λ n. reader s) ts e) where
      halts_next : (s q : L.Sort) (n : ℕ) (make : List (L.Tree q) → L.Tree s) (m : ℕ) (k : Token) (ts : List PlacedToken) (e : ExprTextFault) → closing ≢ k
          → length ((m, k) ∷ ts) ≤ suc n
          → ((make' : List (L.Tree q) → L.Tree s) (us : List PlacedToken) → read_all L size (reader q) n make' us ≡ Err e → length us ≤ n
          → Halts size (ViableParts L room s (places q) make') (MisfitIn L room (places q)) (λ c. read_all L size (reader q) c make') us e)
          → (reader q ((m, k) ∷ ts) >>= (λ x. read_all L size (reader q) n (λ xs. make (x.0 ∷ xs)) x.2)) ≡ Err e
          → Halts size (ViableParts L room s (places q) make) (MisfitIn L room (places q)) (λ c. read_all L size (reader q) c make) ((m, k) ∷ ts) e
      halts_next s q n make m k ts e d l next p = halts_on size (ViableParts L room s (places q) make) (MisfitIn L room (places q)) (reader q) make m k ts e d
          (halts_bind size room q (ViablePrefix L room q) (ViableParts L room s (places q) make) (Misfit L room q) (MisfitIn L room (places q)) (reader q)
          (λ c t. read_all L size (reader q) c (λ xs. make (t ∷ xs))) pred counted ((m, k) ∷ ts) e n (λ us c. begun_many L room make us c)
          (misfit_item L room q)
          (λ g. he q ((m, k) ∷ ts) g) step p)
        where
          step : (t : L.Tree q) (j : ℕ) (rest : List PlacedToken) → reader q ((m, k) ∷ ts) ≡ Ok (t, j, rest)
              → (i : Fronts room q (reader q) ((m, k) ∷ ts) t j rest)
              × (read_all L size (reader q) n (λ xs. make (t ∷ xs)) rest ≡ Err e
              → Halts size (λ us. ViableParts L room s (places q) make (i.front ++ us)) (λ us. MisfitIn L room (places q) (i.front ++ us))
              (λ c. read_all L size (reader q) c (λ xs. make (t ∷ xs))) rest e)
          step t j rest a =
              let i : Fronts room q (reader q) ((m, k) ∷ ts) t j rest = hf q ((m, k) ∷ ts) t j rest a in (
                i,
                λ b. halts_more size (ViableParts L room s (places q) (λ xs. make (t ∷ xs))) (λ us. ViableParts L room s (places q) make (i.front ++ us))
                    (MisfitIn L room (places q)) (λ us. MisfitIn L room (places q) (i.front ++ us)) _ rest e
                    (λ us c. passed_many L room make t i.front us i.whole i.within c)
                    (λ us x f. misfit_behind_item L room q t i.front us x f i.whole)
                    (next (λ xs. make (t ∷ xs)) rest b (omega (arith, ap length i.is, length-append i.front rest, i.some))),
              )

      halts_all : (s q : L.Sort) (n : ℕ) (make : List (L.Tree q) → L.Tree s) (ts : List PlacedToken) (e : ExprTextFault)
          → read_all L size (reader q) n make ts ≡ Err e → length ts ≤ n
          → Halts size (ViableParts L room s (places q) make) (MisfitIn L room (places q)) (λ m. read_all L size (reader q) m make) ts e
      halts_all s q zero make [] e p l = ended (sym (err_is p)) (fill L proper room s (places q) make)
      halts_all s q zero make (y ∷ ts) e p l = absurd (omega arith)
      halts_all s q (suc n) make [] e p l = ended (sym (err_is p)) (fill L proper room s (places q) make)
      halts_all s q (suc n) make ((m, closing) ∷ ts) e p l = absurd (cc)
      halts_all s q (suc n) make ((m, word w) ∷ ts) e p l = halts_next s q n make m (word w) ts e (λ z. cc) l (λ make' us a b. halts_all s q n make' us e a b) p
      halts_all s q (suc n) make ((m, opening) ∷ ts) e p l = halts_next s q n make m opening ts e (λ z. cc) l (λ make' us a b. halts_all s q n make' us e a b) p

      unfit_end : (s : L.Sort) (t : L.Tree s) (y : PlacedToken) (ts : List PlacedToken) (e : ExprTextFault)
          → ((us : List PlacedToken) → close L size room t (y ∷ us) ≡ Err (unfit_token room y)) → close L size room t (y ∷ ts) ≡ Err e
          → Halts size (ViableParts L room s no_place t) (MisfitIn L room no_place) (λ n. close L size room t) (y ∷ ts) e
      unfit_end s t y ts e h p = let i : unfit_token room y ≡ e = err_is (sym (h ts) ∙ p) in
          halts_here size _ _ y ts _ e (fill L proper room s no_place t) (subst (MisfitIn L room no_place [] y) i (misfit_end L room y))
          (λ us n l. h us ∙ ap Err i)

      halts_close : (s : L.Sort) (t : L.Tree s) (ts : List PlacedToken) (e : ExprTextFault) → close L size room t ts ≡ Err e
          → Halts size (ViableParts L room s no_place t) (MisfitIn L room no_place) (λ n. close L size room t) ts e
      halts_close s t [] e p = ended (sym (err_is p)) (fill L proper room s no_place t)
      halts_close s t ((m, closing) ∷ ts) e p = absurd (cc)
      halts_close s t ((m, word w) ∷ ts) e p = unfit_end s t (m, word w) ts e (λ us. refl) p
      halts_close s t ((m, opening) ∷ ts) e p = unfit_end s t (m, opening) ts e (λ us. refl) p

      halts_parts : (s : L.Sort) (qs : Places L.Sort) (make : Maker L.Tree qs (L.Tree s)) (ts : List PlacedToken) (e : ExprTextFault)
          → read_parts L size reader room qs make ts ≡ Err e
          → Halts size (ViableParts L room s qs make) (MisfitIn L room qs) (λ n. read_parts L size reader room qs make) ts e
      halts_parts s no_place make ts e p = halts_close s make ts e p
      halts_parts s (place q qs) make ts e p =
          halts_bind size room q (ViablePrefix L room q) (ViableParts L room s (place q qs) make) (Misfit L room q) (MisfitIn L room (place q qs)) (reader q)
          (λ c t. read_parts L size reader room qs (make t)) (λ n. n) (λ a b' n h l. omega arith) ts e 0
          (λ us c. begun L room qs make us c (fill L proper room s qs (make c.completes.tree))) (misfit_part L room q qs) (λ g. he q ts g)
          (λ t j rest a. let i : Fronts room q (reader q) ts t j rest = hf q ts t j rest a in (
            i,
            λ c. halts_more size (ViableParts L room s qs (make t)) (λ us. ViableParts L room s (place q qs) make (i.front ++ us)) (MisfitIn L room qs)
                (λ us. MisfitIn L room (place q qs) (i.front ++ us)) _ rest e (λ us d. passed L room qs make t i.front us i.whole i.within d)
                (λ us x f. misfit_behind L room q qs t i.front us x f i.whole) (halts_parts s qs (make t) rest e c),
          )) p
      halts_parts s (places q) make ts e p = go (halts_all s q (length ts) make ts e p (omega arith))
        where
          go : Halts size (ViableParts L room s (places q) make) (MisfitIn L room (places q)) (λ m. read_all L size (reader q) m make) ts e
              → Halts size (ViableParts L room s (places q) make) (MisfitIn L room (places q)) (λ n us. read_all L size (reader q) (length us) make us) ts e
          go (ended a v) = ended a v
          go (halted before x after a b v h) = halted before x after a b v (λ us n l. h us (length (before ++ x ∷ us)) (omega arith))

      halts_production : (s : L.Sort) (k m : ℕ) (w : List ℕ) (r : Option (Production L.Sort L.Tree (L.Tree s))) (ts : List PlacedToken) (e : ExprTextFault)
          → L.has_form s ≡ true → L.production_at s w ≡ r → read_production L size reader room m r ts ≡ Err e
          → Halts size (λ us. ViablePrefix L (suc room) s ((k, opening) ∷ us)) (λ us. Misfit L (suc room) s ((k, opening) ∷ us))
          (λ n. read_form L size reader room s)
          ((m, word w) ∷ ts) e
      halts_production s k m w None ts e f a p = halts_here size _ _ (m, word w) ts _ e (viable_open L room s k (proper.opener s k f))
          (subst (Misfit L (suc room) s ((k, opening) ∷ []) (m, word w)) (unfit_word L room m w ∙ err_is p) (misfit_head L room s k (m, word w) f))
          (λ us n i. rw a p)
      halts_production s k m w (Some r) ts e f a p = halts_behind size _ _ (m, word w) ts _ _ e (λ us. ap (λ z. read_production L size reader room m z us) a)
          (halts_more size (ViableParts L room s r.takes r.makes) (λ us. ViablePrefix L (suc room) s ((k, opening) ∷ (m, word w) ∷ us))
          (MisfitIn L room r.takes)
          (λ us. Misfit L (suc room) s ((k, opening) ∷ (m, word w) ∷ us)) _ ts e (λ us c. viable_form L room s k m w r us a c)
          (λ us x d. misfit_form L room s k m w r us x d f a) (halts_parts s r.takes r.makes ts e p))

      halts_form : (s : L.Sort) (k : ℕ) (ts : List PlacedToken) (e : ExprTextFault) → L.has_form s ≡ true → read_form L size reader room s ts ≡ Err e
          → Halts size (λ us. ViablePrefix L (suc room) s ((k, opening) ∷ us)) (λ us. Misfit L (suc room) s ((k, opening) ∷ us))
          (λ n. read_form L size reader room s) ts e
      halts_form s k [] e f p = ended (sym (err_is p)) (viable_open L room s k (proper.opener s k f))
      halts_form s k ((m, word w) ∷ ts) e f p = halts_production s k m w (L.production_at s w) ts e f refl p
      halts_form s k ((m, opening) ∷ ts) e f p = halts_here size _ _ (m, opening) ts _ e (viable_open L room s k (proper.opener s k f))
          (subst (Misfit L (suc room) s ((k, opening) ∷ []) (m, opening)) (err_is p) (misfit_head L room s k (m, opening) f)) (λ us n i. p)
      halts_form s k ((m, closing) ∷ ts) e f p = halts_here size _ _ (m, closing) ts _ e (viable_open L room s k (proper.opener s k f))
          (subst (Misfit L (suc room) s ((k, opening) ∷ []) (m, closing)) (err_is p) (misfit_head L room s k (m, closing) f)) (λ us n i. p)

      -- a sort may have no form
      halts_opened : (s : L.Sort) (b : Bool) (n : ℕ) (ts : List PlacedToken) (e : ExprTextFault) (g : List PlacedToken → Read (L.Tree s)) → L.has_form s ≡ b
          → ((us : List PlacedToken) → g ((n, opening) ∷ us) ≡ (if b then read_form L size reader room s us else Err (Syntax n)))
          → (if b then read_form L size reader room s ts else Err (Syntax n)) ≡ Err e
          → Halts size (ViablePrefix L (suc room) s) (Misfit L (suc room) s) (λ c. g) ((n, opening) ∷ ts) e
      halts_opened s true n ts e g f h p = halts_behind size _ _ (n, opening) ts g _ e h (halts_form s n ts e f p)
      halts_opened s false n ts e g f h p = halts_here size _ _ (n, opening) ts _ e (viable_none L (suc room) s (proper.filler s))
          (subst (Misfit L (suc room) s [] (n, opening)) (err_is p) (misfit_form_here L room s n)) (λ us c i. h us ∙ p)

    fronts : (size room : ℕ) (s : L.Sort) (ts : List PlacedToken) (t : L.Tree s) (n : ℕ) (rest : List PlacedToken) → read L size room s ts ≡ Ok (t, n, rest)
        → Fronts room s (read L size room s) ts t n rest
    fronts size room s ts t n rest e =
        let f : Begins L room s t ts n rest = found L size room s ts (t, n, rest) e in
        let i : (front : List PlacedToken) × (ts ≡ front ++ rest)
        × ((us : List PlacedToken) → Spells f.part (front ++ us) n us) = framed f.part ts n rest f.spells in
        let l : length rest < length ts = shorter f.part ts n rest f.spells in
        record {
          front = i.0;
          is = i.1;
          some = omega (arith, ap length i.1, length-append i.0 rest);
          again = λ us.
              only L proper size room s f.part (i.0 ++ us) n us t (i.2 us) f.means f.within;
          whole =
              record { part = f.part; stop = n; spells = i.2; means = f.means };
          within = f.within;
        }

    halts_word : (size room : ℕ) (s : L.Sort) (n : ℕ) (w : List ℕ) (ts : List PlacedToken) (e : ExprTextFault) (r : WordReading (L.Tree s))
        (g : List PlacedToken → Read (L.Tree s)) → L.word_at s w ≡ r → ((us : List PlacedToken) → g ((n, word w) ∷ us) ≡ word_read n w us r)
        → word_read n w ts r ≡ Err e → Halts size (ViablePrefix L room s) (Misfit L room s) (λ c. g) ((n, word w) ∷ ts) e
    halts_word size room s n w ts e (reads x) g a h p = absurd (cc)
    halts_word size room s n w ts e misspelt g a h p =
        halts_here size _ _ (n, word w) ts _ e (viable_none L room s (proper.filler s))
        (subst (Misfit L room s [] (n, word w)) (err_is p) (misfit_word L room s n w true (proper.spoilt s w a))) (λ us c i. h us ∙ p)
    halts_word size room s n w ts e unfit g a h p =
        halts_here size _ _ (n, word w) ts _ e (viable_none L room s (proper.filler s))
        (subst (Misfit L room s [] (n, word w)) (err_is p) (misfit_word L room s n w false (proper.foreign s w a))) (λ us c i. h us ∙ p)

    halts : (size room : ℕ) (s : L.Sort) (ts : List PlacedToken) (e : ExprTextFault) → read L size room s ts ≡ Err e
        → Halts size (ViablePrefix L room s) (Misfit L room s) (λ c. read L size room s) ts e
    halts size zero s [] e p = ended (sym (err_is p)) (viable_none L zero s (proper.filler s))
    halts size zero s ((n, word w) ∷ ts) e p = halts_word size zero s n w ts e (L.word_at s w) _ refl (λ us. refl) p
    halts size zero s ((n, closing) ∷ ts) e p = halts_here size _ _ (n, closing) ts _ e (viable_none L zero s (proper.filler s))
        (subst (Misfit L zero s [] (n, closing)) (err_is p) (misfit_closing L zero s n)) (λ us c i. p)
    halts size zero s ((n, opening) ∷ ts) e p = halts_here size _ _ (n, opening) ts _ e (viable_none L zero s (proper.filler s))
        (subst (Misfit L zero s [] (n, opening)) (err_is p) (misfit_deep L s n)) (λ us c i. p)
    halts size (suc room) s [] e p = ended (sym (err_is p)) (viable_none L (suc room) s (proper.filler s))
    halts size (suc room) s ((n, word w) ∷ ts) e p = halts_word size (suc room) s n w ts e (L.word_at s w) _ refl (λ us. refl) p
    halts size (suc room) s ((n, closing) ∷ ts) e p =
        halts_here size _ _ (n, closing) ts _ e (viable_none L (suc room) s (proper.filler s))
        (subst (Misfit L (suc room) s [] (n, closing)) (err_is p) (misfit_closing L (suc room) s n))
        (λ us c i. p)
    halts size (suc room) s ((n, opening) ∷ ts) e p =
        halts_opened size room (read L size room) (fronts size room) (halts size room) s (L.has_form s) n ts e (read L size (suc room) s) refl (λ us. refl) p

    pub one_reading : OneReadingLaw L
    one_reading r q s t u ts n m rest rest2 a b =
        let i : read L 0 (r + q) s ts ≡ Ok (t, n, rest) =
        only L proper 0 (r + q) s a.part ts n rest t a.spells a.means (let c : depth a.part ≤ r = a.within in omega arith) in
        let j : read L 0 (r + q) s ts ≡ Ok (u, m, rest2) =
        only L proper 0 (r + q) s b.part ts m rest2 u b.spells b.means (let c : depth b.part ≤ q = b.within in omega arith) in
        let k : (t, n, rest) ≡ (u, m, rest2) = ok_is (sym i ∙ j) in
        (ap (λ x. x.0) k, ap (λ x. x.1) k, ap (λ x. x.2) k)

    -- with the token at which reading stops, the tokens are no viable prefix
    not_viable : (size room : ℕ) (s : L.Sort) (before : List PlacedToken) (x : PlacedToken) (e : ExprTextFault) → Misfit L room s before x e
        → ((us : List PlacedToken) → read L size room s (before ++ x ∷ us) ≡ Err e) → ViablePrefix L room s (before ++ x ∷ []) → ⊥
    not_viable size room s before x e m h v = go (read_or_deep L proper size room s c.part _ c.stop [] c.tree (c.spells []) c.means)
      where
        c : Completes L s (before ++ x ∷ [])
        c = v.completes

        stands : read L size room s ((before ++ x ∷ []) ++ (c.end ++ [])) ≡ Err e
        stands = rw append_assoc (h (c.end ++ []))

        go : ReadOrDeep (read L size room s ((before ++ x ∷ []) ++ (c.end ++ []))) (c.tree, c.stop, []) → ⊥
        go (is_read i) = not_ok (sym stands ∙ i)
        go (is_deep k i) = not_deep L m.left x m.next k (sym m.called ∙ err_is (sym stands ∙ i))
            (opens_there L m.leads room m.left (x ∷ []) m.counts v.opens)

    pub stops : (size room : ℕ) (s : L.Sort) (ts : List PlacedToken) (e : ExprTextFault) → read L size room s ts ≡ Err e → Stops L size room s ts e
    stops size room s ts e p = go (halts size room s ts e p)
      where
        go : Halts size (ViablePrefix L room s) (Misfit L room s) (λ c. read L size room s) ts e → Stops L size room s ts e
        go (ended a v) =
            too_short a
            (λ t n rest b. absurd (let q : read L size room s ts ≡ Ok (t, n, rest) = only L proper size room s b.part ts n rest t b.spells b.means b.within in
            cc)) v
        go (halted before x after a d v h) =
            at_token before x after a
            (λ us t n rest b.
            absurd (let q : read L size room s (before ++ x ∷ us) ≡ Ok (t, n, rest) = only L proper size room s b.part _ n rest t b.spells b.means b.within in
            let r : read L size room s (before ++ x ∷ us) ≡ Err e = h us (length (before ++ x ∷ us)) (omega arith) in cc)) d
            (not_viable size room s before x e v (λ us. h us (length (before ++ x ∷ us)) (omega arith))) v

word_not_long : (b : Bool) (n : ℕ) → (if b then Number n else Syntax n) ≢ TooLong
word_not_long true n e = cc
word_not_long false n e = cc

-- a fault at a token, and where reading stops, is never the text's length
fault_not_long : (L : Language) (left : ℕ) (x : PlacedToken) (q : Option L.Sort) → fault_at L left x q ≢ TooLong
fault_not_long L zero (n, opening) q e = cc
fault_not_long L zero (n, closing) q e = cc
fault_not_long L zero (n, word w) None e = cc
fault_not_long L zero (n, word w) (Some q) e = word_not_long (L.takes_number q && is_number_word w) n e
fault_not_long L (suc left) (n, opening) q e = cc
fault_not_long L (suc left) (n, closing) q e = cc
fault_not_long L (suc left) (n, word w) None e = cc
fault_not_long L (suc left) (n, word w) (Some q) e = word_not_long (L.takes_number q && is_number_word w) n e

pub stops_not_long : (L : Language) (size room : ℕ) (s : L.Sort) (ts : List PlacedToken) → Stops L size room s ts TooLong → ⊥
stops_not_long L size room s ts (too_short a h v) = cc
stops_not_long L size room s ts (at_token before x after a h v d m) = fault_not_long L m.left x m.next (sym m.called)
