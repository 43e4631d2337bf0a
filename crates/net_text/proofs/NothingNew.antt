-- In a network of the first version there is no form of the second.
use Rattle.std.proofs.Common.{◌≡◌, ℕ, Bool, true, false, if◌then◌else◌, ◌||◌, List, [], ◌∷◌, refl, subst, Option, Some}
use Rattle.std.specs.Prelude.{bytes_eq}
use Rattle.leaf_core.specs.Expression.{Expression}
use Rattle.leaf_expr.specs.WordReading.{reads, unfit}
use Rattle.leaf_expr.specs.Sexpr.{Sexpr, Sexprs, atom, form, last, more}
use Rattle.leaf_expr.specs.Language.{Places, Maker, Production, no_place, place, places, production_among, read_word, meant, make_tree}
use Rattle.leaf_expr.specs.Grammar.{word_among}
use Rattle.leaf_expr.proofs.ReadOnly.{some_bind}
use Rattle.net_tree.specs.Network.{Network, networks_of}
use Rattle.net_text.specs.Grammar.{version_1, networks, NetSort, NetTree, leaf_sort, network_sort, members_sort, time_sort, net_words, net_word_at, net_production_at, net_productions, col_productions}
use Rattle.net_text.specs.Printing.{is_new, are_new}
use Rattle.net_text.specs.FileLaws.{NothingNewLaw}

some_is : {A : Type 0} {x y : A} → ◌≡◌ {A = Option A} (Some x) (Some y) → x ≡ y
some_is p = cc

-- nothing is new in what is read at a place
abbrev Older : (s : NetSort) → NetTree s → Type 0
Older (leaf_sort s) x = Unit {0}
Older network_sort f = is_new f ≡ false
Older members_sort fs = are_new fs ≡ false
Older (time_sort g) q = Unit {0}

abbrev AllOlder : (s : NetSort) → List (NetTree s) → Type 0
AllOlder s [] = Unit {0}
AllOlder s (x ∷ xs) = Older s x × AllOlder s xs

-- parts in which nothing is new make a tree in which nothing is
abbrev Keeps : (s : NetSort) → (qs : Places NetSort) → Maker NetTree qs (NetTree s) → Type 0
Keeps s no_place x = Older s x
Keeps s (place q qs) make = (y : NetTree q) → Older q y → Keeps s qs (make y)
Keeps s (places q) make = (ys : List (NetTree q)) → AllOlder q ys → Older s (make ys)

abbrev ProductionKeeps : (s : NetSort) → Production NetSort NetTree (NetTree s) → Type 0
ProductionKeeps s r = Keeps s r.takes r.makes

abbrev AllKeep : (s : NetSort) → List (Production NetSort NetTree (NetTree s)) → Type 0
AllKeep s [] = Unit {0}
AllKeep s (r ∷ rs) = ProductionKeeps s r × AllKeep s rs

among : (s : NetSort) (w : List ℕ) (rs : List (Production NetSort NetTree (NetTree s))) (r : Production NetSort NetTree (NetTree s)) → AllKeep s rs
    → production_among w rs ≡ Some r → ProductionKeeps s r
among s w [] r k e = absurd (cc)
among s w (x ∷ rs) r k e = go (bytes_eq w x.name) (among s w rs r k.1) e
  where
    go : (b : Bool) → (production_among w rs ≡ Some r → ProductionKeeps s r) → (if b then Some x else production_among w rs) ≡ Some r → ProductionKeeps s r
    go true f p = subst (ProductionKeeps s) (some_is p) k.0
    go false f p = f p

-- neither of two
neither : (a b : Bool) → a ≡ false → b ≡ false → (a || b) ≡ false
neither true b p q = absurd (cc)
neither false b p q = q

-- networks as members
none_new : (fs : List (Network Expression)) → AllOlder network_sort fs → are_new (networks_of fs) ≡ false
none_new [] a = refl
none_new (f ∷ fs) a = neither (is_new f) (are_new (networks_of fs)) a.0 (none_new fs a.1)

-- one thing and then others
abbrev also : {P Q : Type 0} → P → Q → P × Q
also p q = (p, q)

forms_keep : AllKeep network_sort (net_productions version_1)
unfolding net_productions
forms_keep =
    also (λ e _. refl)
    (also (λ c _. refl)
    (also (λ c _. refl)
    (also (λ q _ c _. refl)
    (also (λ q _ c _. refl)
    (also (λ q _ c _. refl)
    (also (λ g _ z _. refl)
    (also (λ e _. refl)
    (also (λ c _. refl)
    (also (λ g _ z _. refl)
    (also (λ f p. p)
    (also (λ f p g q. neither (is_new f) (is_new g) p q)
    (also (λ f p t q. neither (is_new f) (is_new t) p q)
    (also (λ f p t q. neither (is_new f) (is_new t) p q)
    (also (λ f p t q. neither (is_new f) (is_new t) p q)
    (also (λ f p. neither (is_new f) false p refl)
    (also (λ f p g q. neither (is_new f) (is_new g || false) p (neither (is_new g) false q refl))
    (also (λ f p g q. neither (is_new f) (is_new g || false) p (neither (is_new g) false q refl))
    (also (λ c _ f p. p)
    (also (λ fs a. none_new fs a)
    (also (λ f p e q t r. neither (is_new f) (is_new e || is_new t) p (neither (is_new e) (is_new t) q r))
    (also (λ c _ fs p e q t r. neither (are_new fs) (is_new e || is_new t) p (neither (is_new e) (is_new t) q r))
    (also (λ k _. refl)
    (also (λ T _. refl) tt)))))))))))))))))))))))

members_keep : AllKeep members_sort col_productions
unfolding col_productions
members_keep = (λ fs a. none_new fs a, tt)

-- words
abbrev WordsOlder : List (List ℕ × Network Expression) → Type 0
WordsOlder [] = Unit {0}
WordsOlder (x ∷ xs) = (is_new x.1 ≡ false) × WordsOlder xs

word_older : (w : List ℕ) (xs : List (List ℕ × Network Expression)) (f : Network Expression) → WordsOlder xs
    → read_word (word_among w xs unfit) ≡ Some f → is_new f ≡ false
word_older w [] f h e = absurd (cc)
word_older w (x ∷ xs) f h e = go (bytes_eq w x.0) (word_older w xs f h.1) e
  where
    go : (b : Bool) → (read_word (word_among w xs unfit) ≡ Some f → is_new f ≡ false)
        → read_word (if b then reads x.1 else word_among w xs unfit) ≡ Some f → is_new f ≡ false
    go true g p = subst (λ u. is_new u ≡ false) (some_is p) h.0
    go false g p = g p

words_older : WordsOlder net_words
unfolding net_words
words_older = also refl (also refl (also refl (also refl tt)))

mutual
  unfolding net_word_at net_production_at

  nothing_new : (s : NetSort) (p : Sexpr) (x : NetTree s) → meant (networks version_1) s p ≡ Some x → Older s x
  nothing_new (leaf_sort s) p x e = tt
  nothing_new (time_sort g) p x e = tt
  nothing_new network_sort (atom w) x e = word_older w net_words x words_older e
  nothing_new members_sort (atom w) x e = absurd (cc)
  nothing_new network_sort (form w ps) x e =
      let i : (r : Production NetSort NetTree (Network Expression)) × (production_among w (net_productions version_1) ≡ Some r)
      × (make_tree (networks version_1) network_sort r.takes r.makes ps ≡ Some x) =
      some_bind (production_among w (net_productions version_1)) (λ r. make_tree (networks version_1) network_sort r.takes r.makes ps) x e in
      made network_sort i.0.takes i.0.makes ps x (among network_sort w (net_productions version_1) i.0 forms_keep i.1) i.2
  nothing_new members_sort (form w ps) x e =
      let i : (r : Production NetSort NetTree (NetTree members_sort)) × (production_among w col_productions ≡ Some r)
      × (make_tree (networks version_1) members_sort r.takes r.makes ps ≡ Some x) =
      some_bind (production_among w col_productions) (λ r. make_tree (networks version_1) members_sort r.takes r.makes ps) x e in
      made members_sort i.0.takes i.0.makes ps x (among members_sort w col_productions i.0 members_keep i.1) i.2

  made : (s : NetSort) (qs : Places NetSort) (make : Maker NetTree qs (NetTree s)) (ps : Sexprs) (x : NetTree s) → Keeps s qs make
      → make_tree (networks version_1) s qs make ps ≡ Some x → Older s x
  made s no_place r last x k e = subst (Older s) (some_is e) k
  made s no_place r (more p ps) x k e = absurd (cc)
  made s (place q qs) make last x k e = absurd (cc)
  made s (place q qs) make (more p ps) x k e =
      let i : (y : NetTree q) × (meant (networks version_1) q p ≡ Some y) × (make_tree (networks version_1) s qs (make y) ps ≡ Some x) =
      some_bind (meant (networks version_1) q p) (λ y. make_tree (networks version_1) s qs (make y) ps) x e in
      made s qs (make i.0) ps x (k i.0 (nothing_new q p i.0 i.1)) i.2
  made s (places q) make last x k e = subst (Older s) (some_is e) (k [] tt)
  made s (places q) make (more p ps) x k e =
      let i : (y : NetTree q) × (meant (networks version_1) q p ≡ Some y)
      × (make_tree (networks version_1) s (places q) (λ ys. make (y ∷ ys)) ps ≡ Some x) =
      some_bind (meant (networks version_1) q p) (λ y. make_tree (networks version_1) s (places q) (λ ys. make (y ∷ ys)) ps) x e in
      made s (places q) (λ ys. make (i.0 ∷ ys)) ps x (λ ys a. k (i.0 ∷ ys) (nothing_new q p i.0 i.1, a)) i.2

pub nothing_is_new : NothingNewLaw
nothing_is_new p f e = nothing_new network_sort p f e
