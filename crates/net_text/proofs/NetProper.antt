-- The language of networks is proper.
use Rattle.std.proofs.Common.{◌≡◌, ℕ, true, false, ◌&&◌, List, [], ◌∷◌, refl, ap, ◌∙◌, None}
use Rattle.std.specs.Prelude.{codes, option_map}
use Rattle.sample_core.specs.Number.{is_number_word}
use Rattle.leaf_expr.specs.WordReading.{reads, misspelt, unfit, natural_at}
use Rattle.leaf_expr.specs.Token.{opening, PlacedToken}
use Rattle.leaf_expr.specs.Language.{read_word}
use Rattle.leaf_expr.specs.Grammar.{leaf, LeafSort}
use Rattle.leaf_expr.specs.ReadLaws.{Completes}
use Rattle.leaf_expr.proofs.Proper.{Proper}
use Rattle.leaf_expr.proofs.LeafProper.{leaf_proper, among_unread, chosen_misspelt, chosen_unfit}
use Rattle.net_text.specs.Grammar.{Version, networks, NetSort, leaf_sort, network_sort, members_sort, time_sort, Timer, delay_timer, after_timer, repeatedly_timer, least, greatest_time, net_words, net_word_at, net_productions, net_production_at, col_productions, net_has_form, net_takes_number, leaf_production}
use Rattle.net_text.proofs.Carried.{meaning_same}
use Rattle.net_text.proofs.Completed.{by_word, by_form, with_opening}

formless : (v : Version) (s : NetSort) (w : List ℕ) → net_has_form s ≡ false → net_production_at v s w ≡ None
unfolding net_production_at
formless v (leaf_sort s) w h = ap (option_map leaf_production) (leaf_proper.formless s w h)
formless v network_sort w h = absurd (cc)
formless v members_sort w h = absurd (cc)
formless v (time_sort g) w h = refl

spoilt : (s : NetSort) (w : List ℕ) → net_word_at s w ≡ misspelt → (net_takes_number s && is_number_word w) ≡ true
unfolding net_word_at
spoilt (leaf_sort s) w e = leaf_proper.spoilt s w e
spoilt network_sort w e = absurd (let i : unfit ≡ misspelt = among_unread w net_words unfit misspelt (λ x q. cc) e in cc)
spoilt members_sort w e = absurd (cc)
spoilt (time_sort g) w e = chosen_misspelt (is_number_word w) _ _ e

foreign : (s : NetSort) (w : List ℕ) → net_word_at s w ≡ unfit → (net_takes_number s && is_number_word w) ≡ false
unfolding net_word_at
foreign (leaf_sort s) w e = leaf_proper.foreign s w e
foreign network_sort w e = refl
foreign members_sort w e = refl
foreign (time_sort g) w e = chosen_unfit (is_number_word w) _ _ e

carry : (v : Version) (s : LeafSort) (us : List PlacedToken) → Completes leaf s us → Completes (networks v) (leaf_sort s) us
carry v s us c =
    record { end = c.end; stop = c.stop; part = c.part; tree = c.tree; spells = c.spells; means = meaning_same v s c.part ∙ c.means }

-- each form takes the time 1
one_fits : (g : Timer) → natural_at (least g) (greatest_time g) (codes "1") ≡ reads 1
one_fits delay_timer = refl
one_fits after_timer = refl
one_fits repeatedly_timer = refl

opener : (v : Version) (s : NetSort) (n : ℕ) → net_has_form s ≡ true → Completes (networks v) s ((n, opening) ∷ [])
unfolding net_word_at net_words net_production_at net_productions col_productions
opener v (leaf_sort s) n h = carry v s ((n, opening) ∷ []) (leaf_proper.opener s n h)
opener v network_sort n h = by_form (networks v) network_sort n (codes "parB") refl
opener v members_sort n h = by_form (networks v) members_sort n (codes "col") refl
opener v (time_sort g) n h = absurd (cc)

filler : (v : Version) (s : NetSort) → Completes (networks v) s []
unfolding net_word_at net_words
filler v (leaf_sort s) = carry v s [] (leaf_proper.filler s)
filler v network_sort = by_word (networks v) network_sort (codes "time") refl
filler v members_sort = with_opening (networks v) members_sort (opener v members_sort 0 refl)
filler v (time_sort g) = by_word (networks v) (time_sort g) (codes "1") (ap read_word (one_fits g))

pub networks_proper : (v : Version) → Proper (networks v)
networks_proper v = record { formless = formless v; spoilt = spoilt; foreign = foreign; filler = filler v; opener = opener v }
