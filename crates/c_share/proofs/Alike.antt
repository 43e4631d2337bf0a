-- A function over callees that do the same does the same, whatever their numbers.
use Rattle.std.proofs.Common.{◌≡◌, ℕ, zero, suc, pos, Bool, true, false, ◌&&◌, List, [], ◌∷◌, ◌++◌, length, Option, Some, None, refl, sym, ap, ap₂, ◌∙◌}
use Rattle.std.specs.Prelude.{if◌then◌else◌}
use Rattle.c_meaning.specs.Object.{u32, Object, number, in_range}
use Rattle.c_meaning.specs.Syntax.{Command, skip, sequence, declare, define, refer, assign, call, branch, loop, answer, Function}
use Rattle.c_meaning.specs.Meaning.{Frame, Linked, Outcome, bind, value, go_on, leave, by_truth, looped, run, all_apart, passed, called, is_none_of, written, referred, none_shared, steady, all_have, returned, function_run}
use Rattle.c_share.specs.Sharing.{renumbered, with_numbers, all_called}

and_left : (a b : Bool) → (a && b) ≡ true → a ≡ true
and_left true b e = refl
and_left false b e = e

and_right : (a b : Bool) → (a && b) ≡ true → b ≡ true
and_right true b e = e
and_right false b e = absurd (cc)

bind_same : {A B : Type 0} (x : Option A) (u v : A → Option B) → ((a : A) → u a ≡ v a) → bind x u ≡ bind x v
bind_same None u v h = refl
bind_same (Some a) u v h = h a

go_on_same : (u v : Frame → Outcome) → ((f : Frame) → u f ≡ v f) → (r : Frame × Option Object) → go_on u r ≡ go_on v r
go_on_same u v h (f, None) = h f
go_on_same u v h (f, Some o) = refl

if_same : {A : Type 0} (b : Bool) (x y z : A) → x ≡ y → (if b then x else z) ≡ (if b then y else z)
if_same b x y z e = ap (λ w. if b then w else z) e

looped_same : (c : Frame → Option Object) (u v : Frame → Outcome) → ((f : Frame) → u f ≡ v f) → (n i : ℕ) (f : Frame)
    → looped c u n i f ≡ looped c v n i f
looped_same c u v h zero i f = refl
looped_same c u v h (suc n) i f =
    let g : Frame = f ++ number u32 (pos i) ∷ [] in
    bind_same (c g) _ _
    (λ o. ap (λ x. by_truth o x (Some (f, None)))
    (ap (λ x. bind (bind x (leave f)) (go_on (looped c u n (suc i)))) (h g)
    ∙ bind_same (bind (v g) (leave f)) _ _
    (go_on_same (looped c u n (suc i)) (looped c v n (suc i)) (looped_same c u v h n (suc i)))))

-- a command writes and refers to the same
pub written_same : (r : ℕ → ℕ) (c : Command) → written (renumbered r c) ≡ written c
written_same r skip = refl
written_same r (sequence a b) = ap₂ (λ x y. x ++ y) (written_same r a) (written_same r b)
written_same r (declare T) = refl
written_same r (define T e) = refl
written_same r (refer T e) = refl
written_same r (assign e v) = refl
written_same r (call T k as1) = refl
written_same r (branch c a b) = ap₂ (λ x y. x ++ y) (written_same r a) (written_same r b)
written_same r (loop n c a) = written_same r a
written_same r (answer e) = refl

referred_same : (r : ℕ → ℕ) (c : Command) → referred (renumbered r c) ≡ referred c
referred_same r skip = refl
referred_same r (sequence a b) = ap₂ (λ x y. x ++ y) (referred_same r a) (referred_same r b)
referred_same r (declare T) = refl
referred_same r (define T e) = refl
referred_same r (refer T e) = refl
referred_same r (assign e v) = refl
referred_same r (call T k as1) = refl
referred_same r (branch c a b) = ap₂ (λ x y. x ++ y) (referred_same r a) (referred_same r b)
referred_same r (loop n c a) = referred_same r a
referred_same r (answer e) = refl

steady_same : (r : ℕ → ℕ) (c : Command) → steady (renumbered r c) ≡ steady c
steady_same r c = ap₂ none_shared (referred_same r c) (written_same r c)

-- F and G do the same under their numbers, where p holds
module _ (F G : ℕ → Linked) (r : ℕ → ℕ) (p : ℕ → Bool)
    (same : (k : ℕ) → p k ≡ true → (os : List Object) → F k os ≡ G (r k) os) where
  pub run_same : (c : Command) (f : Frame) → all_called p c ≡ true → run F c f ≡ run G (renumbered r c) f
  run_same skip f h = refl
  run_same (sequence a b) f h =
      ap (λ x. bind x (go_on (run F b))) (run_same a f (and_left (all_called p a) (all_called p b) h))
      ∙ bind_same (run G (renumbered r a) f) _ _
      (go_on_same (run F b) (run G (renumbered r b))
      (λ g. run_same b g (and_right (all_called p a) (all_called p b) h)))
  run_same (declare T) f h = refl
  run_same (define T e) f h = refl
  run_same (refer T e) f h = refl
  run_same (assign e v) f h = refl
  run_same (call T k as1) f h =
      if_same (all_apart as1) _ _ None
      (bind_same (passed f as1) _ _ (λ os. ap (λ x. bind x (called F T f as1)) (same k h os)))
  run_same (branch c a b) f h =
      bind_same (value f c) _ _
      (λ v. ap₂ (λ x y. by_truth v (bind x (leave f)) (bind y (leave f)))
      (run_same a f (and_left (all_called p a) (all_called p b) h))
      (run_same b f (and_right (all_called p a) (all_called p b) h)))
  run_same (loop n c a) f h =
      if_same (is_none_of (length f) (written a) && in_range u32 (pos n)) _ _ None
      (looped_same (λ g. value g c) (run F a) (run G (renumbered r a)) (λ g. run_same a g h) n 0 f)
      ∙ ap (λ ws. if is_none_of (length f) ws && in_range u32 (pos n)
      then looped (λ g. value g c) (run G (renumbered r a)) n 0 f else None)
      (sym (written_same r a))
  run_same (answer e) f h = refl

  pub function_same : (h : Function) → all_called p h.body ≡ true → (os : List Object)
      → function_run F h os ≡ function_run G (with_numbers r h) os
  function_same h e os =
      if_same (all_have h.params os && steady h.body) _ _ None
      (ap (λ x. bind x (returned h.result (length os))) (run_same h.body os e))
      ∙ ap (λ b. if all_have h.params os && b
      then bind (run G (renumbered r h.body) os) (returned h.result (length os)) else None)
      (sym (steady_same r h.body))

-- where nothing is asked of the callees
pub all_true : (c : Command) → all_called (λ k. true) c ≡ true
all_true skip = refl
all_true (sequence a b) = ap₂ ◌&&◌ (all_true a) (all_true b)
all_true (declare T) = refl
all_true (define T e) = refl
all_true (refer T e) = refl
all_true (assign e v) = refl
all_true (call T k as1) = refl
all_true (branch c a b) = ap₂ ◌&&◌ (all_true a) (all_true b)
all_true (loop n c a) = all_true a
all_true (answer e) = refl

-- callees that keep their numbers
pub renumbered_self : (c : Command) → renumbered (λ k. k) c ≡ c
renumbered_self skip = refl
renumbered_self (sequence a b) = ap₂ sequence (renumbered_self a) (renumbered_self b)
renumbered_self (declare T) = refl
renumbered_self (define T e) = refl
renumbered_self (refer T e) = refl
renumbered_self (assign e v) = refl
renumbered_self (call T k as1) = refl
renumbered_self (branch c a b) = ap₂ (branch c) (renumbered_self a) (renumbered_self b)
renumbered_self (loop n c a) = ap (loop n c) (renumbered_self a)
renumbered_self (answer e) = refl
