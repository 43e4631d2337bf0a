-- The first event of a list and of its fronts.
use Rattle.std.proofs.Common.{◌≡◌, ◌⊎◌, ℕ, zero, suc, ◌≤◌, ◌<◌, List, [], ◌∷◌, length, take, refl, ap, ◌∙◌, arith, Some, None, inl, inr}
use Rattle.sample_core.specs.Datum.{Datum, event}
use Rattle.net_meaning.specs.SignalFunction.{first_event, later}

-- event c is the first of vs, at n
pub record IsFirst (vs : List Datum) (n : ℕ) (c : Datum) : Type 0 where
  pub within : n < length vs
  pub is : first_event vs ≡ Some (n, c)
  pub seen : (m : ℕ) → n < m → first_event (take m vs) ≡ Some (n, c)
  pub unseen : (m : ℕ) → m ≤ n → first_event (take m vs) ≡ None

pub record IsEventless (vs : List Datum) : Type 0 where
  pub is : first_event vs ≡ None
  pub so_far : (m : ℕ) → first_event (take m vs) ≡ None

first-here : (c : Datum) (vs : List Datum) → IsFirst (event c ∷ vs) 0 c
first-here c vs = record {
  within = omega arith;
  is = refl;
  seen = λ m. elim m as (λ m. 0 < m → first_event (take m (event c ∷ vs)) ≡ Some (0, c)) [ zero ↦ λ h. absurd (omega arith) | suc m ↦ λ h. refl ];
  unseen = λ m h. ap (λ k. first_event (take k (event c ∷ vs))) (let e : m ≡ 0 = omega arith in e);
}

-- no event
abbrev pub IsPlain : Datum → Type 0
IsPlain v = (vs : List Datum) → first_event (v ∷ vs) ≡ later (first_event vs)

first-later : (v : Datum) (vs : List Datum) (n : ℕ) (c : Datum) → IsPlain v → IsFirst vs n c → IsFirst (v ∷ vs) (suc n) c
first-later v vs n c p i = record {
  within = let h : n < length vs = i.within in omega arith;
  is = p vs ∙ ap later i.is;
  seen = λ m. elim m as (λ m. suc n < m
      → first_event (take m (v ∷ vs)) ≡ Some (suc n, c)) [ zero ↦ λ h. absurd (omega arith) | suc m ↦ λ h. p (take m vs) ∙ ap later (i.seen m (omega arith)) ];
  unseen = λ m. elim m as (λ m. m ≤ suc n
      → first_event (take m (v ∷ vs)) ≡ None) [ zero ↦ λ h. refl | suc m ↦ λ h. p (take m vs) ∙ ap later (i.unseen m (omega arith)) ];
}

eventless-more : (v : Datum) (vs : List Datum) → IsPlain v → IsEventless vs → IsEventless (v ∷ vs)
eventless-more v vs p i = record {
  is = p vs ∙ ap later i.is;
  so_far = λ m. elim m as (λ m. first_event (take m (v ∷ vs)) ≡ None) [ zero ↦ refl | suc m ↦ p (take m vs) ∙ ap later (i.so_far m) ];
}

eventless-nil : IsEventless []
eventless-nil = record {
  is = refl;
  so_far = λ m. elim m as (λ m. first_event (take m []) ≡ None) [ zero ↦ refl | suc m ↦ refl ];
}

-- what a list of events has
pub data Outlook : List Datum → Type 0 where
  never : {vs : List Datum} → IsEventless vs → Outlook vs
  once : {vs : List Datum} (n : ℕ) (c : Datum) → IsFirst vs n c → Outlook vs

plain_or_event : (v : Datum) → IsPlain v ⊎ ((c : Datum) × (v ≡ event c))
plain_or_event (event c) = inr (c, refl)
plain_or_event _ = inl (λ vs. refl)

outlook-more : (v : Datum) (vs : List Datum) → IsPlain v → Outlook vs → Outlook (v ∷ vs)
outlook-more v vs p (never i) = never (eventless-more v vs p i)
outlook-more v vs p (once n c i) = once (suc n) c (first-later v vs n c p i)

pub outlook : (vs : List Datum) → Outlook vs
outlook [] = never eventless-nil
outlook (v ∷ vs) =
    let rest : Outlook vs = outlook vs in
    elim (plain_or_event v) [ inl p ↦ outlook-more v vs p rest | inr e ↦ rw e.1 (once 0 e.0 (first-here e.0 vs)) ]
