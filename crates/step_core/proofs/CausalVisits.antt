-- The visits of the first samples are the first visits, and one sample more is one count more.
use Rattle.std.proofs.Common.{◌≡◌, ℕ, List, [], ◌∷◌, ◌++◌, length, take, drop, refl, sym, ap, ◌∙◌, arith, length-append, length-drop, take-append-drop}
use Rattle.std.proofs.lemmas.List.{take_at}
use Rattle.sample_core.specs.Datum.{Datum}
use Rattle.net_tree.specs.Network.{Network}
use Rattle.net_meaning.specs.SignalFunction.{TimedList, last_or}
use Rattle.net_meaning.specs.Environment.{Environment}
use Rattle.net_meaning.proofs.Steps.{last_or-push}
use Rattle.step_core.specs.EnvironmentVisits.{visits_of}
use Rattle.step_core.proofs.EnvironmentBounds.{IsCount-visited}

one_count : (ns : List ℕ) → length ns ≡ 1 → ns ≡ last_or 0 ns ∷ []
one_count [] e = absurd (omega arith)
one_count (n ∷ []) e = refl
one_count (n ∷ m ∷ ns) e = absurd (omega arith)

module _ {L : Type 0} (val : L → List Datum → Datum → Datum) where
  pub visits-take : (net : Network L) (E : Environment L) (n : ℕ) (xs : TimedList) → visits_of val net E (take n xs) ≡ take n (visits_of val net E xs)
  visits-take net E = (IsCount-visited val net E).causal

  -- one sample more is one count more
  pub visits-push : (net : Network L) (E : Environment L) (p : TimedList) (x : ℕ × Datum)
      → visits_of val net E (p ++ x ∷ []) ≡ visits_of val net E p ++ last_or 0 (visits_of val net E (p ++ x ∷ [])) ∷ []
  visits-push net E p x =
      let all : List ℕ = visits_of val net E (p ++ x ∷ []) in
      let rest : List ℕ = drop (length p) all in
      let l : length all ≡ length (p ++ x ∷ []) = (IsCount-visited val net E).counted (p ++ x ∷ []) in
      let r : length rest ≡ 1 = omega (arith, length-drop (length p) all, length-append p (x ∷ [])) in
      let front : take (length p) all ≡ visits_of val net E p =
      sym (visits-take net E (length p) (p ++ x ∷ [])) ∙ ap (visits_of val net E) (take_at p (x ∷ []) (length p) refl) in
      let e : all ≡ visits_of val net E p ++ last_or 0 rest ∷ [] =
      sym (take-append-drop (length p) all) ∙ ap (λ ns. ns ++ rest) front ∙ ap (λ ns. visits_of val net E p ++ ns) (one_count rest r) in
      e ∙ ap (λ n. visits_of val net E p ++ n ∷ []) (sym (last_or-push 0 (visits_of val net E p) (last_or 0 rest)) ∙ ap (last_or 0) (sym e))
