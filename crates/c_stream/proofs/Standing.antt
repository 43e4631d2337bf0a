-- What stands in front of bytes: words, and values with parts.
use Rattle.std.proofs.Common.{◌≡◌, ◌≤◌, ℕ, suc, Bool, true, false, ◌&&◌, List, [], ◌∷◌, ◌++◌, length, Some, None, refl, subst, sym, ap, ap₂, ◌∙◌, arith, append_assoc}
use Rattle.std.specs.Prelude.{if◌then◌else◌, nat_eq, codes}
use Rattle.sample_core.specs.Datum.{Datum, Datums, pair, no_event, event, list, end, more, elements}
use Rattle.sample_core.specs.TypeTree.{TypeTree, pair_ty, event_ty, list_ty}
use Rattle.sample_core.specs.HasType.{HasType, pair_has, no_event_has, event_has, list_has, HaveType, end_has, more_has}
use Rattle.sample_core.specs.Spelling.{spelling, spellings}
use Rattle.sample_core.specs.SpellsValue.{ends_in_word}
use Rattle.sample_core.specs.Words.{goes_on}
use Rattle.sample_core.proofs.Behind.{kept_apart}
use Rattle.sample_core.specs.ReadingLaws.{OneValueLaw}
use Rattle.leaf_code.specs.Fitting.{Fits, pair_fits, no_event_fits, event_fits, list_fits, AllFit, end_fits, more_fits}
use Rattle.code_fits.specs.Room.{all_at}
use Rattle.c_stream.specs.Streams.{without_byte, without_word, Stands}

pub no-some : {X P : Type 0} {x : X} → None ≡ Some x → P
no-some e = absurd (grind arith)

pub same-some : {X : Type 0} {x y : X} → Some x ≡ Some y → x ≡ y
same-some e = cc

same-byte : (a b : ℕ) → nat_eq a b ≡ true → a ≡ b
same-byte a b e = grind arith

pub byte-is : (c : ℕ) (s r : List ℕ) → without_byte c s ≡ Some r → s ≡ c ∷ r
byte-is c [] r e = no-some e
byte-is c (b ∷ bs) r e = by-test (nat_eq b c) refl e
  where
    by-test : (z : Bool) → nat_eq b c ≡ z → (if z then Some bs else None) ≡ Some r → b ∷ bs ≡ c ∷ r
    by-test true q e = ap₂ (λ (x : ℕ) (xs : List ℕ). x ∷ xs) (same-byte b c q) (same-some e)
    by-test false q e = no-some e

pub word-is : (w s r : List ℕ) → without_word w s ≡ Some r → (s ≡ w ++ r) × (goes_on r ≡ false)
word-is [] s r e = by-test (goes_on s) refl e
  where
    by-test : (z : Bool) → goes_on s ≡ z → (if z then None else Some s) ≡ Some r → (s ≡ r) × (goes_on r ≡ false)
    by-test true q e = no-some e
    by-test false q e = (same-some e, subst (λ t. goes_on t ≡ false) (same-some e) q)
word-is (c ∷ w) [] r e = no-some e
word-is (c ∷ w) (b ∷ bs) r e = by-test (nat_eq b c) refl (word-is w bs r) e
  where
    by-test : (z : Bool) → nat_eq b c ≡ z → (without_word w bs ≡ Some r → (bs ≡ w ++ r) × (goes_on r ≡ false)) → (if z then without_word w bs else None) ≡ Some r
        → (b ∷ bs ≡ c ∷ (w ++ r)) × (goes_on r ≡ false)
    by-test true q f e = let h = f e in (ap₂ (λ (x : ℕ) (xs : List ℕ). x ∷ xs) (same-byte b c q) h.0, h.1)
    by-test false q f e = no-some e

module _ (one : OneValueLaw) (most : ℕ) where
  -- two values that stand at one place are one
  pub one-behind : (A : TypeTree) {v w : Datum} {s r t : List ℕ} → Stands most A v s r → Stands most A w s t → r ≡ t
  one-behind A {v} {w} {s} {r} {t} h k = (one A s r t v w h.spells k.spells).1

  -- with other bytes behind it
  stands-apart : (A : TypeTree) (v : Datum) (r : List ℕ) → HasType v A → Fits (all_at most) v A → goes_on r ≡ false → Stands most A v (spelling v ++ r) r
  stands-apart A v r t f g = record { spells = record { typed = t; spells = refl; apart = kept_apart v r g }; fits = f }

  pub record PairStands (A B : TypeTree) (s rest : List ℕ) : Type 0 where
    pub first : Datum
    pub second : Datum
    pub behind : List ℕ
    pub after : List ℕ
    pub word : without_word (codes "(pair") s ≡ Some (32 ∷ behind)
    pub a : Stands most A first behind (32 ∷ after)
    pub b : Stands most B second after (41 ∷ rest)

  pair-flat : (v w : Datum) (rest : List ℕ) → spelling (pair v w) ++ rest ≡ codes "(pair" ++ (32 ∷ (spelling v ++ (32 ∷ (spelling w ++ (41 ∷ rest)))))
  pair-flat v w rest =
      ap (λ t. codes "(pair " ++ t) (append_assoc (spelling v) (32 ∷ (spelling w ++ (41 ∷ []))) rest ∙ ap (λ t. spelling v ++ (32 ∷ t)) (append_assoc (spelling w) (41 ∷ []) rest))

  pair-found : (A B : TypeTree) (s rest : List ℕ) {u : Datum} → HasType u (pair_ty A B) → Fits (all_at most) u (pair_ty A B) → s ≡ spelling u ++ rest → PairStands A B s rest
  pair-found A B s rest (pair_has {v = v} {w = w} x y) (pair_fits f g) e = record {
    first = v;
    second = w;
    behind = spelling v ++ (32 ∷ (spelling w ++ (41 ∷ rest)));
    after = spelling w ++ (41 ∷ rest);
    word = ap (without_word (codes "(pair")) (e ∙ pair-flat v w rest);
    a = stands-apart A v (32 ∷ (spelling w ++ (41 ∷ rest))) x f refl;
    b = stands-apart B w (41 ∷ rest) y g refl;
  }

  pub pair-stands : (A B : TypeTree) {u : Datum} {s rest : List ℕ} → Stands most (pair_ty A B) u s rest → PairStands A B s rest
  pair-stands A B {u} {s} {rest} h = pair-found A B s rest h.spells.typed h.fits h.spells.spells

  pub pair-joined : (A B : TypeTree) {v w : Datum} {s r0 r1 r2 r3 r4 r5 : List ℕ} → without_word (codes "(pair") s ≡ Some r0 → without_byte 32 r0 ≡ Some r1 → Stands most A v r1 r2
      → without_byte 32 r2 ≡ Some r3 → Stands most B w r3 r4 → without_byte 41 r4 ≡ Some r5 → Stands most (pair_ty A B) (pair v w) s r5
  pair-joined A B {v} {w} {s} {r0} {r1} {r2} {r3} {r4} {r5} e0 e1 x e3 y e5 =
      let chain : r0 ≡ 32 ∷ (spelling v ++ (32 ∷ (spelling w ++ (41 ∷ r5)))) =
      byte-is 32 r0 r1 e1 ∙ ap (λ t. 32 ∷ t) (x.spells.spells ∙ ap (λ t. spelling v ++ t) (byte-is 32 r2 r3 e3 ∙ ap (λ t. 32 ∷ t) (y.spells.spells ∙ ap (λ t. spelling w ++ t) (byte-is 41 r4 r5 e5)))) in
      record {
        spells = record {
          typed = pair_has x.spells.typed y.spells.typed;
          spells = (word-is (codes "(pair") s r0 e0).0 ∙ ap (λ t. codes "(pair" ++ t) chain ∙ sym (pair-flat v w r5);
          apart = refl;
        };
        fits = pair_fits x.fits y.fits;
      }

  -- no pair stands there
  module _ (A B : TypeTree) (s : List ℕ) where
    abbrev pub NoPair : Type 0
    NoPair = (v : Datum) (r : List ℕ) → Stands most (pair_ty A B) v s r → ⊥

    pub no-pair-word : without_word (codes "(pair") s ≡ None → NoPair
    no-pair-word e v r h = no-some (sym e ∙ (pair-stands A B h).word)

    pub no-pair-blank : (r0 : List ℕ) → without_word (codes "(pair") s ≡ Some r0 → without_byte 32 r0 ≡ None → NoPair
    no-pair-blank r0 e0 e1 v r h =
        let p = pair-stands A B h in
        let q : r0 ≡ 32 ∷ p.behind = same-some (sym e0 ∙ p.word) in no-some {x = p.behind} (sym e1 ∙ ap (without_byte 32) q)

    module _ (r0 r1 : List ℕ) (e0 : without_word (codes "(pair") s ≡ Some r0) (e1 : without_byte 32 r0 ≡ Some r1) where
      first-there : {v : Datum} {r : List ℕ} (h : Stands most (pair_ty A B) v s r) → Stands most A (pair-stands A B h).first r1 (32 ∷ (pair-stands A B h).after)
      first-there h =
          let p = pair-stands A B h in
          let q : r0 ≡ 32 ∷ p.behind = same-some (sym e0 ∙ p.word) in
          let i : r1 ≡ p.behind = same-some (sym e1 ∙ ap (without_byte 32) q) in subst (λ t. Stands most A p.first t (32 ∷ p.after)) (sym i) p.a

      pub no-pair-first : ((v : Datum) (r : List ℕ) → Stands most A v r1 r → ⊥) → NoPair
      no-pair-first none v r h = none (pair-stands A B h).first (32 ∷ (pair-stands A B h).after) (first-there h)

      module _ (x : Datum) (r2 : List ℕ) (hx : Stands most A x r1 r2) where
        middle : {v : Datum} {r : List ℕ} (h : Stands most (pair_ty A B) v s r) → r2 ≡ 32 ∷ (pair-stands A B h).after
        middle h = one-behind A hx (first-there h)

        pub no-pair-middle : without_byte 32 r2 ≡ None → NoPair
        no-pair-middle e2 v r h = no-some {x = (pair-stands A B h).after} (sym e2 ∙ ap (without_byte 32) (middle h))

        module _ (r3 : List ℕ) (e2 : without_byte 32 r2 ≡ Some r3) where
          second-there : {v : Datum} {r : List ℕ} (h : Stands most (pair_ty A B) v s r) → Stands most B (pair-stands A B h).second r3 (41 ∷ r)
          second-there {v} {r} h =
              let p = pair-stands A B h in
              let i : r3 ≡ p.after = same-some (sym e2 ∙ ap (without_byte 32) (middle h)) in subst (λ t. Stands most B p.second t (41 ∷ r)) (sym i) p.b

          pub no-pair-second : ((v : Datum) (r : List ℕ) → Stands most B v r3 r → ⊥) → NoPair
          no-pair-second none v r h = none (pair-stands A B h).second (41 ∷ r) (second-there h)

          pub no-pair-close : (y : Datum) (r4 : List ℕ) → Stands most B y r3 r4 → without_byte 41 r4 ≡ None → NoPair
          no-pair-close y r4 hy e4 v r h = no-some {x = r} (sym e4 ∙ ap (without_byte 41) (one-behind B hy (second-there h)))

  -- an event, or none
  pub data EventStands (A : TypeTree) (s rest : List ℕ) : Type 0 where
    stands_none : without_word (codes "(event") s ≡ None → without_word (codes "none") s ≡ Some rest → EventStands A s rest
    stands_event : {v : Datum} {behind : List ℕ} → without_word (codes "(event") s ≡ Some (32 ∷ behind) → Stands most A v behind (41 ∷ rest) → EventStands A s rest

  event-flat : (v : Datum) (rest : List ℕ) → spelling (event v) ++ rest ≡ codes "(event" ++ (32 ∷ (spelling v ++ (41 ∷ rest)))
  event-flat v rest = ap (λ t. codes "(event " ++ t) (append_assoc (spelling v) (41 ∷ []) rest)

  event-found : (A : TypeTree) (s rest : List ℕ) {u : Datum} → HasType u (event_ty A) → Fits (all_at most) u (event_ty A) → s ≡ spelling u ++ rest → (ends_in_word u && goes_on rest) ≡ false → EventStands A s rest
  event-found A s rest no_event_has f e a =
      stands_none (ap (without_word (codes "(event")) e) (ap (without_word (codes "none")) e ∙ ap (λ b. if b then None else Some rest) a)
  event-found A s rest (event_has {v = v} x) (event_fits f) e a = stands_event (ap (without_word (codes "(event")) (e ∙ event-flat v rest)) (stands-apart A v (41 ∷ rest) x f refl)

  pub event-stands : (A : TypeTree) {u : Datum} {s rest : List ℕ} → Stands most (event_ty A) u s rest → EventStands A s rest
  event-stands A {u} {s} {rest} h = event-found A s rest h.spells.typed h.fits h.spells.spells h.spells.apart

  pub event-joined : (A : TypeTree) {v : Datum} {s r0 r1 r2 r3 : List ℕ} → without_word (codes "(event") s ≡ Some r0 → without_byte 32 r0 ≡ Some r1 → Stands most A v r1 r2
      → without_byte 41 r2 ≡ Some r3 → Stands most (event_ty A) (event v) s r3
  event-joined A {v} {s} {r0} {r1} {r2} {r3} e0 e1 x e3 =
      let chain : r0 ≡ 32 ∷ (spelling v ++ (41 ∷ r3)) = byte-is 32 r0 r1 e1 ∙ ap (λ t. 32 ∷ t) (x.spells.spells ∙ ap (λ t. spelling v ++ t) (byte-is 41 r2 r3 e3)) in
      record {
        spells = record {
          typed = event_has x.spells.typed;
          spells = (word-is (codes "(event") s r0 e0).0 ∙ ap (λ t. codes "(event" ++ t) chain ∙ sym (event-flat v r3);
          apart = refl;
        };
        fits = event_fits x.fits;
      }

  pub none-joined : (A : TypeTree) {s r : List ℕ} → without_word (codes "none") s ≡ Some r → Stands most (event_ty A) no_event s r
  none-joined A {s} {r} e =
      let w = word-is (codes "none") s r e in record { spells = record { typed = no_event_has; spells = w.0; apart = w.1 }; fits = no_event_fits }

  module _ (A : TypeTree) (s : List ℕ) where
    abbrev pub NoEvent : Type 0
    NoEvent = (v : Datum) (r : List ℕ) → Stands most (event_ty A) v s r → ⊥

    pub no-event-word : without_word (codes "(event") s ≡ None → without_word (codes "none") s ≡ None → NoEvent
    no-event-word e f v r h = by-case (event-stands A h)
      where
        by-case : EventStands A s r → ⊥
        by-case (stands_none a b) = no-some (sym f ∙ b)
        by-case (stands_event a b) = no-some (sym e ∙ a)

    module _ (r0 : List ℕ) (e0 : without_word (codes "(event") s ≡ Some r0) where
      pub no-event-blank : without_byte 32 r0 ≡ None → NoEvent
      no-event-blank e1 v r h = by-case (event-stands A h)
        where
          by-case : EventStands A s r → ⊥
          by-case (stands_none a b) = no-some (sym a ∙ e0)
          by-case (stands_event {behind = t} a b) = let q : r0 ≡ 32 ∷ t = same-some (sym e0 ∙ a) in no-some {x = t} (sym e1 ∙ ap (without_byte 32) q)

      module _ (r1 : List ℕ) (e1 : without_byte 32 r0 ≡ Some r1) where
        pub no-event-value : ((v : Datum) (r : List ℕ) → Stands most A v r1 r → ⊥) → NoEvent
        no-event-value none v r h = by-case (event-stands A h)
          where
            by-case : EventStands A s r → ⊥
            by-case (stands_none a b) = no-some (sym a ∙ e0)
            by-case (stands_event {v = x} {behind = t} a b) =
                let q : r0 ≡ 32 ∷ t = same-some (sym e0 ∙ a) in
                let i : r1 ≡ t = same-some (sym e1 ∙ ap (without_byte 32) q) in none x (41 ∷ r) (subst (λ u. Stands most A x u (41 ∷ r)) (sym i) b)

        pub no-event-close : (x : Datum) (r2 : List ℕ) → Stands most A x r1 r2 → without_byte 41 r2 ≡ None → NoEvent
        no-event-close x r2 hx e2 v r h = by-case (event-stands A h)
          where
            by-case : EventStands A s r → ⊥
            by-case (stands_none a b) = no-some (sym a ∙ e0)
            by-case (stands_event {v = y} {behind = t} a b) =
                let q : r0 ≡ 32 ∷ t = same-some (sym e0 ∙ a) in
                let i : r1 ≡ t = same-some (sym e1 ∙ ap (without_byte 32) q) in
                no-some {x = r} (sym e2 ∙ ap (without_byte 41) (one-behind A hx (subst (λ u. Stands most A y u (41 ∷ r)) (sym i) b)))

  -- so many elements and the parenthesis behind them, and the rest
  pub record RowStands (j : ℕ) (A : TypeTree) (vs : Datums) (s rest : List ℕ) : Type 0 where
    pub typed : HaveType vs A
    pub spells : s ≡ spellings vs ++ (41 ∷ rest)
    pub fits : AllFit (all_at most) vs A
    pub few : length (elements vs) ≤ j

  row-apart : (vs : Datums) (rest : List ℕ) → goes_on (spellings vs ++ (41 ∷ rest)) ≡ false
  row-apart end rest = refl
  row-apart (more v vs) rest = refl

  more-flat : (v : Datum) (vs : Datums) (rest : List ℕ) → spellings (more v vs) ++ rest ≡ 32 ∷ (spelling v ++ (spellings vs ++ rest))
  more-flat v vs rest = ap (λ (t : List ℕ). 32 ∷ t) (append_assoc (spelling v) (spellings vs) rest)

  -- which form the elements have
  pub data RowForm (j : ℕ) (A : TypeTree) (s rest : List ℕ) : Type 0 where
    row_ends : without_byte 41 s ≡ Some rest → RowForm j A s rest
    row_goes_on : {v : Datum} {vs : Datums} {behind after : List ℕ} → without_byte 41 s ≡ None → without_byte 32 s ≡ Some behind → Stands most A v behind after
        → RowStands (length (elements vs)) A vs after rest → suc (length (elements vs)) ≤ j → RowForm j A s rest

  row-found : (j : ℕ) (A : TypeTree) (s rest : List ℕ) {vs : Datums} → HaveType vs A → AllFit (all_at most) vs A → s ≡ spellings vs ++ (41 ∷ rest) → length (elements vs) ≤ j → RowForm j A s rest
  row-found j A s rest end_has f e l = row_ends (ap (without_byte 41) e)
  row-found j A s rest (more_has {v = v} {vs = vs} x xs) (more_fits f fs) e l =
      let i = e ∙ more-flat v vs (41 ∷ rest) in
      row_goes_on {v = v} {vs = vs} (ap (without_byte 41) i) (ap (without_byte 32) i) (stands-apart A v (spellings vs ++ (41 ∷ rest)) x f (row-apart vs rest))
      (record { typed = xs; spells = refl; fits = fs; few = omega arith }) l

  row-form : (j : ℕ) (A : TypeTree) {vs : Datums} {s rest : List ℕ} → RowStands j A vs s rest → RowForm j A s rest
  row-form j A {vs} {s} {rest} h = row-found j A s rest h.typed h.fits h.spells h.few

  pub row-ended : (j : ℕ) (A : TypeTree) {s r : List ℕ} → without_byte 41 s ≡ Some r → RowStands j A end s r
  row-ended j A {s} {r} e = record { typed = end_has; spells = byte-is 41 s r e; fits = end_fits; few = omega arith }

  pub row-more : (j : ℕ) (A : TypeTree) {v : Datum} {vs : Datums} {s r1 r2 r : List ℕ} → without_byte 32 s ≡ Some r1 → Stands most A v r1 r2 → RowStands j A vs r2 r → RowStands (suc j) A (more v vs) s r
  row-more j A {v} {vs} {s} {r1} {r2} {r} e x xs =
      let l : length (elements vs) ≤ j = xs.few in
      record {
        typed = more_has x.spells.typed xs.typed;
        spells = byte-is 32 s r1 e ∙ ap (λ (t : List ℕ). 32 ∷ t) (x.spells.spells ∙ ap (λ t. spelling v ++ t) xs.spells) ∙ sym (more-flat v vs (41 ∷ r));
        fits = more_fits x.fits xs.fits;
        few = omega (arith, l);
      }

  -- no such elements stand there
  module _ (A : TypeTree) (s : List ℕ) (e : without_byte 41 s ≡ None) where
    abbrev pub NoRow : ℕ → List ℕ → Type 0
    NoRow j t = (vs : Datums) (r : List ℕ) → RowStands j A vs t r → ⊥

    pub no-row-last : NoRow 0 s
    no-row-last vs r h = by-case (row-form 0 A h)
      where
        by-case : RowForm 0 A s r → ⊥
        by-case (row_ends a) = no-some (sym e ∙ a)
        by-case (row_goes_on a b c d l) = omega (arith, l)

    pub no-row-blank : (j : ℕ) → without_byte 32 s ≡ None → NoRow j s
    no-row-blank j f vs r h = by-case (row-form j A h)
      where
        by-case : RowForm j A s r → ⊥
        by-case (row_ends a) = no-some (sym e ∙ a)
        by-case (row_goes_on a b c d l) = no-some (sym f ∙ b)

    pub no-row-value : (j : ℕ) (r1 : List ℕ) → without_byte 32 s ≡ Some r1 → ((v : Datum) (r : List ℕ) → Stands most A v r1 r → ⊥) → NoRow j s
    no-row-value j r1 f none vs r h = by-case (row-form j A h)
      where
        by-case : RowForm j A s r → ⊥
        by-case (row_ends a) = no-some (sym e ∙ a)
        by-case (row_goes_on {v = v} {behind = t} {after = u} a b c d l) =
            let i : r1 ≡ t = same-some (sym f ∙ b) in none v u (subst (λ z. Stands most A v z u) (sym i) c)

    pub no-row-more : (j : ℕ) (x : Datum) (r1 r2 : List ℕ) → without_byte 32 s ≡ Some r1 → Stands most A x r1 r2 → NoRow j r2 → NoRow (suc j) s
    no-row-more j x r1 r2 f hx none vs r h = by-case (row-form (suc j) A h)
      where
        by-case : RowForm (suc j) A s r → ⊥
        by-case (row_ends a) = no-some (sym e ∙ a)
        by-case (row_goes_on {v = v} {vs = ws} {behind = t} {after = u} a b c d l) =
            let i : r1 ≡ t = same-some (sym f ∙ b) in
            let o : r2 ≡ u = one-behind A hx (subst (λ z. Stands most A v z u) (sym i) c) in
            none ws r (record { typed = d.typed; spells = o ∙ d.spells; fits = d.fits; few = omega (arith, l) })

  -- the word, and the elements behind it
  pub record ListStands (A : TypeTree) (s rest : List ℕ) : Type 0 where
    pub values : Datums
    pub behind : List ℕ
    pub word : without_word (codes "(list") s ≡ Some behind
    pub row : RowStands most A values behind rest

  list-flat : (vs : Datums) (rest : List ℕ) → spelling (list vs) ++ rest ≡ codes "(list" ++ (spellings vs ++ (41 ∷ rest))
  list-flat vs rest = ap (λ t. codes "(list" ++ t) (append_assoc (spellings vs) (41 ∷ []) rest)

  list-found : (A : TypeTree) (s rest : List ℕ) {u : Datum} → HasType u (list_ty A) → Fits (all_at most) u (list_ty A) → s ≡ spelling u ++ rest → ListStands A s rest
  list-found A s rest (list_has {vs = vs} x) (list_fits l f) e = record {
    values = vs;
    behind = spellings vs ++ (41 ∷ rest);
    word = ap (without_word (codes "(list")) (e ∙ list-flat vs rest) ∙ ap (λ b. if b then None else Some (spellings vs ++ (41 ∷ rest))) (row-apart vs rest);
    row = record { typed = x; spells = refl; fits = f; few = l };
  }

  list-stands : (A : TypeTree) {u : Datum} {s rest : List ℕ} → Stands most (list_ty A) u s rest → ListStands A s rest
  list-stands A {u} {s} {rest} h = list-found A s rest h.spells.typed h.fits h.spells.spells

  pub list-joined : (A : TypeTree) {vs : Datums} {s r0 r : List ℕ} → without_word (codes "(list") s ≡ Some r0 → RowStands most A vs r0 r → Stands most (list_ty A) (list vs) s r
  list-joined A {vs} {s} {r0} {r} e h = record {
    spells = record {
      typed = list_has h.typed;
      spells = (word-is (codes "(list") s r0 e).0 ∙ ap (λ t. codes "(list" ++ t) h.spells ∙ sym (list-flat vs r);
      apart = refl;
    };
    fits = list_fits h.few h.fits;
  }

  -- no list stands there
  module _ (A : TypeTree) (s : List ℕ) where
    abbrev pub NoList : Type 0
    NoList = (v : Datum) (r : List ℕ) → Stands most (list_ty A) v s r → ⊥

    pub no-list-word : without_word (codes "(list") s ≡ None → NoList
    no-list-word e v r h = no-some (sym e ∙ (list-stands A h).word)

    pub no-list-row : (r0 : List ℕ) → without_word (codes "(list") s ≡ Some r0 → ((vs : Datums) (r : List ℕ) → RowStands most A vs r0 r → ⊥) → NoList
    no-list-row r0 e none v r h =
        let p = list-stands A h in
        let i : r0 ≡ p.behind = same-some (sym e ∙ p.word) in none p.values r (subst (λ t. RowStands most A p.values t r) (sym i) p.row)
