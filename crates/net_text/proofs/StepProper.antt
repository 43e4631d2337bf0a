-- The language of laws, directions and positions is proper.
use Rattle.std.proofs.Common.{◌≡◌, ℕ, true, false, ◌&&◌, List, [], ◌∷◌, refl, Some, None, Option}
use Rattle.std.specs.Prelude.{codes}
use Rattle.sample_core.specs.Number.{is_number_word}
use Rattle.leaf_expr.specs.WordReading.{misspelt, unfit}
use Rattle.leaf_expr.specs.Token.{opening}
use Rattle.leaf_expr.specs.ReadText.{fit}
use Rattle.leaf_expr.specs.ReadLaws.{Completes}
use Rattle.leaf_expr.proofs.Proper.{Proper}
use Rattle.leaf_expr.proofs.LeafProper.{among_unread, chosen_misspelt, chosen_unfit}
use Rattle.net_text.specs.Grammar.{Version, version_1, version_2, version_3, version_4}
use Rattle.net_text.specs.StepGrammar.{step_parts, StepSort, law_sort, direction_sort, position_sort, child_sort, law_named, directions, position_productions, step_word_at, step_production_at, step_has_form, step_takes_number}
use Rattle.net_text.proofs.Completed.{by_word, by_form, with_opening}

formless : (s : StepSort) (w : List ℕ) → step_has_form s ≡ false → step_production_at s w ≡ None
unfolding step_production_at
formless law_sort w h = refl
formless direction_sort w h = refl
formless position_sort w h = absurd (cc)
formless child_sort w h = refl

fit_or_unfit : {T A : Type 0} (o : Option T) → fit o ≡ misspelt → A
fit_or_unfit None e = absurd (cc)
fit_or_unfit (Some x) e = absurd (cc)

spoilt : (v : Version) (s : StepSort) (w : List ℕ) → step_word_at v s w ≡ misspelt → (step_takes_number s && is_number_word w) ≡ true
unfolding step_word_at
spoilt v law_sort w e = fit_or_unfit (law_named v w) e
spoilt v direction_sort w e = absurd (let i : unfit ≡ misspelt = among_unread w directions unfit misspelt (λ x q. cc) e in cc)
spoilt v position_sort w e = absurd (cc)
spoilt v child_sort w e = chosen_misspelt (is_number_word w) _ _ e

foreign : (v : Version) (s : StepSort) (w : List ℕ) → step_word_at v s w ≡ unfit → (step_takes_number s && is_number_word w) ≡ false
unfolding step_word_at
foreign v law_sort w e = refl
foreign v direction_sort w e = refl
foreign v position_sort w e = refl
foreign v child_sort w e = chosen_unfit (is_number_word w) _ _ e

opener : (v : Version) (s : StepSort) (n : ℕ) → step_has_form s ≡ true → Completes (step_parts v) s ((n, opening) ∷ [])
unfolding step_word_at step_production_at position_productions
opener v law_sort n h = absurd (cc)
opener v direction_sort n h = absurd (cc)
opener v position_sort n h = by_form (step_parts v) position_sort n (codes "at") refl
opener v child_sort n h = absurd (cc)

filler : (v : Version) (s : StepSort) → Completes (step_parts v) s []
unfolding step_word_at directions
filler version_1 law_sort = by_word (step_parts version_1) law_sort (codes "E1") refl
filler version_2 law_sort = by_word (step_parts version_2) law_sort (codes "E1") refl
filler version_3 law_sort = by_word (step_parts version_3) law_sort (codes "E1") refl
filler version_4 law_sort = by_word (step_parts version_4) law_sort (codes "E1") refl
filler v direction_sort = by_word (step_parts v) direction_sort (codes "forward") refl
filler v position_sort = with_opening (step_parts v) position_sort (opener v position_sort 0 refl)
filler v child_sort = by_word (step_parts v) child_sort (codes "0") refl

pub step_parts_proper : (v : Version) → Proper (step_parts v)
step_parts_proper v = record { formless = formless; spoilt = spoilt v; foreign = foreign v; filler = filler v; opener = opener v }
