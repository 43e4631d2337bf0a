-- Answers in their places, and the clean ones.
use Rattle.std.proofs.Common.{◌≡◌, ℕ, List, [], ◌∷◌, ◌++◌, ◌<◌, ◌+◌, ap, ◌∙◌, length, map, take, set}
use Rattle.std.proofs.lemmas.List.{map_push, take_more_set}
use Rattle.sample_core.specs.ValueView.{datum_of}
use Rattle.sample_core.specs.declared.sample.Sample.{Sample}

-- one answer more, in the place behind those so far
pub one_answered : (before mid : List Sample) (n : ℕ) (y : Sample) → n < length mid → take n mid ≡ take n before
    → map datum_of (take (n + 1) (set mid n y)) ≡ map datum_of (take n before) ++ datum_of y ∷ []
one_answered before mid n y l same = ap (map datum_of) (take_more_set mid n y l ∙ ap (λ ys. ys ++ y ∷ []) same) ∙ map_push datum_of (take n before) y
