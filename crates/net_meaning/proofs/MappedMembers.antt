-- Collections of one kind of members as collections of another.
use Rattle.std.proofs.Common.{◌≡◌, ℕ, zero, suc, pos, List, [], ◌∷◌, ◌++◌, map, take, refl, sym, ap, ap₂, ◌∙◌}
use Rattle.std.proofs.lemmas.List.{take-map, map-append}
use Rattle.std.proofs.lemmas.Simd.{map-map}
use Rattle.sample_core.specs.Datum.{Datum, int, left, right, items_of}
use Rattle.net_meaning.specs.SignalFunction.{TimedList, Member, item_at, item_named, items_named, new_members, chosen, moved, by_members}

module _ {A B : Type 0} (g : A → B) where
  item_at-map : (ms : List A) (k : ℕ) → item_at (map g ms) k ≡ map g (item_at ms k)
  item_at-map [] k = refl
  item_at-map (m ∷ ms) zero = refl
  item_at-map (m ∷ ms) (suc k) = item_at-map ms k

  item_named-map : (ms : List A) (v : Datum) → item_named (map g ms) v ≡ map g (item_named ms v)
  item_named-map ms (int (pos k)) = item_at-map ms k
  item_named-map ms _ = refl

  pub items_named-map : (ms : List A) (ks : List Datum) → items_named (map g ms) ks ≡ map g (items_named ms ks)
  items_named-map ms [] = refl
  items_named-map ms (k ∷ ks) =
      ap₂ (λ xs ys. xs ++ ys) (item_named-map ms k) (items_named-map ms ks) ∙ sym (map-append g (item_named ms k) (items_named ms ks))

module _ {X Y : Type 0} (h : X → Y) where
  -- the same members, each seen by h
  abbrev pub lift : List (Member X) → List (Member Y)
  lift ms = map (λ m. (h m.0, m.1)) ms

  pub new_members-map : (xs : List X) → lift (new_members xs) ≡ new_members (map h xs)
  new_members-map xs = map-map (λ m. (h m.0, m.1)) (λ f. (f, [])) xs ∙ sym (map-map (λ f. (f, [])) h xs)

  chosen-map : (t : Datum → X) (ms : List (Member X)) (w : Datum) → lift (chosen t ms w) ≡ chosen (λ v. h (t v)) (lift ms) w
  chosen-map t ms w =
      let old : List (Member X) = items_named ms (items_of (left w)) in
      let new : List (Member X) = new_members (map t (items_of (right w))) in
      sym (take-map (λ m. (h m.0, m.1)) 64 (old ++ new))
      ∙ ap (take 64)
      (map-append (λ m. (h m.0, m.1)) old new
      ∙ ap₂ (λ xs ys. xs ++ ys) (sym (items_named-map (λ m. (h m.0, m.1)) ms (items_of (left w))))
      (new_members-map (map t (items_of (right w))) ∙ ap new_members (map-map h t (items_of (right w)))))

  moved-map : (ms : List (Member X)) (q : TimedList) → lift (moved ms q) ≡ moved (lift ms) q
  moved-map ms q = map-map (λ m. (h m.0, m.1)) (λ m. (m.0, m.1 ++ q)) ms ∙ sym (map-map (λ m. (m.0, m.1 ++ q)) (λ m. (h m.0, m.1)) ms)

  module _ {R : Type 0} (give : List (Member X) → TimedList → List R) (give' : List (Member Y) → TimedList → List R)
      (e : (ms : List (Member X)) (q : TimedList) → give' (lift ms) q ≡ give ms q) (r : Datum → Datum) (t : Datum → X) where
    pub by_members-map : (ms : List (Member X)) (q : TimedList) (ps : List (Datum × TimedList))
        → by_members give' r (λ v. h (t v)) (lift ms) q ps ≡ by_members give r t ms q ps
    by_members-map ms q [] = e ms q
    by_members-map ms q (p ∷ ps) =
        ap₂ (λ xs ys. xs ++ ys) (e ms q)
        (ap (λ ls. by_members give' r (λ v. h (t v)) ls p.1 ps)
        (ap (λ ls. chosen (λ v. h (t v)) ls (r p.0)) (sym (moved-map ms q)) ∙ sym (chosen-map t (moved ms q) (r p.0)))
        ∙ by_members-map (chosen t (moved ms q) (r p.0)) p.1 ps)
