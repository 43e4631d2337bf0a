-- Where equal functions stand once, each does what it did.
use Rattle.std.proofs.Common.{◌≡◌, ◌⊎◌, inl, inr, ◌+◌, ◌<◌, ◌≤◌, ℕ, suc, true, List, [], ◌∷◌, ◌++◌, length, Some, None, refl, sym, ap, ◌∙◌, arith}
use Rattle.std.specs.Prelude.{slice_get}
use Rattle.std.proofs.lemmas.Bool.{cases_order}
use Rattle.std.proofs.lemmas.List.{get_or_append_left, get_or_at, get_or_past}
use Rattle.std.proofs.lemmas.Option.{slice_get_within}
use Rattle.c_meaning.specs.Object.{Object}
use Rattle.c_meaning.specs.Syntax.{Function, File}
use Rattle.c_meaning.specs.Meaning.{function_run, numbered, link}
use Rattle.c_share.specs.Sharing.{renumbered, with_numbers, calls_below, number_in, Shares, nothing, and_function, and_equal, ShareLaw}
use Rattle.c_share.proofs.Alike.{function_same, all_true}
use Rattle.c_share.proofs.Linking.{get_left, get_end, get_past, at_number, link_end, link_length, link_there}

one_more : {A : Type 0} (xs : List A) (x : A) → length (xs ++ x ∷ []) ≡ suc (length xs)
one_more [] x = refl
one_more (y ∷ xs) x = ap suc (one_more xs x)

-- each number is that of a function, which does the same
record Kept (hs gs : File) (ks : List ℕ) : Type 0 where
  pub many : length ks ≡ length hs
  pub few : length gs ≤ length ks
  pub below : (k : ℕ) → k < length ks → number_in ks k < length gs
  pub same : (k : ℕ) (os : List Object) → numbered (link [] hs) k os ≡ numbered (link [] gs) (number_in ks k) os

-- numbers with one more
number_left : (ks : List ℕ) (j k : ℕ) → k < length ks → number_in (ks ++ j ∷ []) k ≡ number_in ks k
number_left ks j k l = get_or_append_left ks (j ∷ []) k k l

number_end : (ks : List ℕ) (j k : ℕ) → k ≡ length ks → number_in (ks ++ j ∷ []) k ≡ j
number_end ks j k e = get_or_at ks j [] k k (sym e)

number_past : (ks : List ℕ) (j k : ℕ) → length ks < k → number_in (ks ++ j ∷ []) k ≡ k
number_past ks j k l = let one = one_more ks j in get_or_past (ks ++ j ∷ []) k k (omega (arith, l, one))

-- linked functions with one more
module _ (hs : File) (h : Function) where
  more_left : (k : ℕ) (os : List Object) → k < length hs
      → numbered (link [] (hs ++ h ∷ [])) k os ≡ numbered (link [] hs) k os
  more_left k os l =
      let many : length (link [] hs) ≡ 0 + length hs = link_length [] hs in
      at_number (link [] (hs ++ h ∷ [])) k (slice_get (link [] hs) k) os
      (ap (λ fs. slice_get fs k) (link_end [] hs h)
      ∙ get_left (link [] hs) (function_run (numbered (link [] hs)) h ∷ []) k (omega (arith, l, many)))

  more_end : (k : ℕ) (os : List Object) → k ≡ length hs
      → numbered (link [] (hs ++ h ∷ [])) k os ≡ function_run (numbered (link [] hs)) h os
  more_end k os e =
      let many : length (link [] hs) ≡ 0 + length hs = link_length [] hs in
      let at : k ≡ length (link [] hs) = omega (arith, e, many) in
      at_number (link [] (hs ++ h ∷ [])) k (Some (function_run (numbered (link [] hs)) h)) os
      (ap (λ fs. slice_get fs k) (link_end [] hs h)
      ∙ (ap (slice_get (link [] hs ++ function_run (numbered (link [] hs)) h ∷ [])) at
      ∙ get_end (link [] hs) (function_run (numbered (link [] hs)) h)))

-- none is there past the end
none_past : (hs : File) (k : ℕ) (os : List Object) → length hs ≤ k → numbered (link [] hs) k os ≡ None
none_past hs k os l =
    let many : length (link [] hs) ≡ 0 + length hs = link_length [] hs in
    at_number (link [] hs) k None os (get_past (link [] hs) k (omega (arith, l, many)))

-- the last function does the same over the others' new numbers
last_same : (hs gs : File) (ks : List ℕ) (h : Function) → Kept hs gs ks → (os : List Object)
    → function_run (numbered (link [] hs)) h os
    ≡ function_run (numbered (link [] gs)) (with_numbers (number_in ks) h) os
last_same hs gs ks h s os =
    function_same (numbered (link [] hs)) (numbered (link [] gs)) (number_in ks) (λ k. true)
    (λ k e as1. s.same k as1) h (all_true h.body) os

module _ (hs gs : File) (ks : List ℕ) (h : Function) (s : Kept hs gs ks) where
  -- where it stands behind the others
  stands_at : (k : ℕ) → (k ≡ length ks) ⊎ ((k < length ks) ⊎ (length ks < k)) → (os : List Object)
      → numbered (link [] (hs ++ h ∷ [])) k os
      ≡ numbered (link [] (gs ++ with_numbers (number_in ks) h ∷ [])) (number_in (ks ++ length gs ∷ []) k) os
  stands_at k (inl e) os =
      let many = s.many in
      more_end hs h k os (omega (arith, e, many))
      ∙ (last_same hs gs ks h s os
      ∙ (sym (more_end gs (with_numbers (number_in ks) h) (length gs) os refl)
      ∙ ap (λ j. numbered (link [] (gs ++ with_numbers (number_in ks) h ∷ [])) j os)
      (sym (number_end ks (length gs) k e))))
  stands_at k (inr (inl l)) os =
      let many = s.many in
      let few = s.below k l in
      more_left hs h k os (omega (arith, l, many))
      ∙ (s.same k os
      ∙ (sym (more_left gs (with_numbers (number_in ks) h) (number_in ks k) os few)
      ∙ ap (λ j. numbered (link [] (gs ++ with_numbers (number_in ks) h ∷ [])) j os)
      (sym (number_left ks (length gs) k l))))
  stands_at k (inr (inr l)) os =
      let many = s.many in
      let few = s.few in
      let one = one_more hs h in
      let other = one_more gs (with_numbers (number_in ks) h) in
      none_past (hs ++ h ∷ []) k os (omega (arith, l, many, one))
      ∙ (sym (none_past (gs ++ with_numbers (number_in ks) h ∷ []) k os (omega (arith, l, few, other)))
      ∙ ap (λ j. numbered (link [] (gs ++ with_numbers (number_in ks) h ∷ [])) j os)
      (sym (number_past ks (length gs) k l)))

  stands_below : (k : ℕ) → (k ≡ length ks) ⊎ ((k < length ks) ⊎ (length ks < k)) → k < suc (length ks)
      → number_in (ks ++ length gs ∷ []) k < suc (length gs)
  stands_below k (inl e) l = let is = number_end ks (length gs) k e in omega (arith, is)
  stands_below k (inr (inl b)) l =
      let is = number_left ks (length gs) k b in let few = s.below k b in omega (arith, is, few)
  stands_below k (inr (inr b)) l = absurd (omega (arith, l, b))

  kept_function : Kept (hs ++ h ∷ []) (gs ++ with_numbers (number_in ks) h ∷ []) (ks ++ length gs ∷ [])
  kept_function =
      let many = s.many in
      let few = s.few in
      let one = one_more hs h in
      let other = one_more gs (with_numbers (number_in ks) h) in
      let third = one_more ks (length gs) in
      record {
        many = omega (arith, many, one, third);
        few = omega (arith, few, other, third);
        below = λ k l.
            let b = stands_below k (cases_order k (length ks)) (omega (arith, l, third)) in omega (arith, b, other);
        same = λ k os. stands_at k (cases_order k (length ks)) os;
      }

  -- where it equals function j
  module _ (j : ℕ) (there : slice_get gs j ≡ Some (with_numbers (number_in ks) h))
      (calls : calls_below j (renumbered (number_in ks) h.body) ≡ true) where
    equal_there : (os : List Object)
        → numbered (link [] gs) j os ≡ function_run (numbered (link [] gs)) (with_numbers (number_in ks) h) os
    equal_there os =
        let at : 0 + j ≡ j = omega arith in
        let below : calls_below (0 + j) (renumbered (number_in ks) h.body) ≡ true
        = ap (λ i. calls_below i (renumbered (number_in ks) h.body)) at ∙ calls in
        ap (λ i. numbered (link [] gs) i os) (sym at)
        ∙ link_there [] gs j (with_numbers (number_in ks) h) there below os

    equals_at : (k : ℕ) → (k ≡ length ks) ⊎ ((k < length ks) ⊎ (length ks < k)) → (os : List Object)
        → numbered (link [] (hs ++ h ∷ [])) k os ≡ numbered (link [] gs) (number_in (ks ++ j ∷ []) k) os
    equals_at k (inl e) os =
        let many = s.many in
        more_end hs h k os (omega (arith, e, many))
        ∙ (last_same hs gs ks h s os
        ∙ (sym (equal_there os)
        ∙ ap (λ i. numbered (link [] gs) i os) (sym (number_end ks j k e))))
    equals_at k (inr (inl l)) os =
        let many = s.many in
        more_left hs h k os (omega (arith, l, many))
        ∙ (s.same k os ∙ ap (λ i. numbered (link [] gs) i os) (sym (number_left ks j k l)))
    equals_at k (inr (inr l)) os =
        let many = s.many in
        let few = s.few in
        let one = one_more hs h in
        none_past (hs ++ h ∷ []) k os (omega (arith, l, many, one))
        ∙ (sym (none_past gs k os (omega (arith, l, few)))
        ∙ ap (λ i. numbered (link [] gs) i os) (sym (number_past ks j k l)))

    equals_below : (k : ℕ) → (k ≡ length ks) ⊎ ((k < length ks) ⊎ (length ks < k)) → k < suc (length ks)
        → number_in (ks ++ j ∷ []) k < length gs
    equals_below k (inl e) l =
        let is = number_end ks j k e in
        let within = slice_get_within gs j (with_numbers (number_in ks) h) there in omega (arith, is, within)
    equals_below k (inr (inl b)) l =
        let is = number_left ks j k b in let few = s.below k b in omega (arith, is, few)
    equals_below k (inr (inr b)) l = absurd (omega (arith, l, b))

    kept_equal : Kept (hs ++ h ∷ []) gs (ks ++ j ∷ [])
    kept_equal =
        let many = s.many in
        let few = s.few in
        let one = one_more hs h in
        let third = one_more ks j in
        record {
          many = omega (arith, many, one, third);
          few = omega (arith, few, third);
          below = λ k l. equals_below k (cases_order k (length ks)) (omega (arith, l, third));
          same = λ k os. equals_at k (cases_order k (length ks)) os;
        }

all_kept : {hs gs : File} {ks : List ℕ} → Shares hs gs ks → Kept hs gs ks
all_kept nothing = record {
  many = refl;
  few = omega arith;
  below = λ k l. absurd (omega (arith, l));
  same = λ k os. refl;
}
all_kept (and_function h s) = kept_function _ _ _ h (all_kept s)
all_kept (and_equal h j s e b) = kept_equal _ _ _ h (all_kept s) j e b

pub share_law : ShareLaw
share_law hs gs ks s k os = (all_kept s).same k os
