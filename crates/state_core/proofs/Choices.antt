-- What numbers choose of frozen networks.
use Rattle.std.proofs.Common.{◌≡◌, ◌≢◌, ℕ, zero, suc, ◌+◌, ◌<◌, ℤ, pos, List, [], ◌∷◌, ◌++◌, Option, Some, None, refl, sym, ap, ap₂, ◌∙◌, arith, map, take, drop, slice_get, get_or, Bor, length, append-nil, append_assoc, length-append, take_all}
use Rattle.std.proofs.lemmas.List.{map_push, length-map, length-take, map-append, take-append-drop, take-append-le}
use Rattle.std.proofs.lemmas.Option.{slice_get_read, slice_get_past}
use Rattle.std.proofs.Math.Seq.{take-suc}
use Rattle.std.specs.Slice.{IsItemAt}
use Rattle.sample_core.specs.ValueView.{datum_of}
use Rattle.sample_core.specs.Datum.{Datum, int, items_of}
use Rattle.sample_core.specs.declared.sample.Sample.{Sample}
use Rattle.net_meaning.specs.SignalFunction.{item_at, item_named, items_named}
use Rattle.state_core.specs.declared.env.Frozen.{Frozen as CodeFrozen}
use Rattle.state_core.specs.State.{Frozen, selected}
use Rattle.state_core.specs.StateView.{frozen_of}

abbrev listed : Option CodeFrozen → List (Frozen ℕ)
listed None = []
listed (Some f) = frozen_of f ∷ []

item_at_index : (xs : List CodeFrozen) (k : ℕ) → item_at (map frozen_of xs) k ≡ listed (slice_get xs k)
item_at_index [] k = refl
item_at_index (x ∷ xs) zero = refl
item_at_index (x ∷ xs) (suc k) = item_at_index xs k

pub choice-found : (xs : List CodeFrozen) (n : ℤ) (k : ℕ) (f : Bor CodeFrozen) → n ≡ pos k → IsItemAt xs k (Some f)
    → item_named (map frozen_of xs) (int n) ≡ frozen_of f.now ∷ []
choice-found xs n k f e h = ap (λ z. item_named (map frozen_of xs) (int z)) e ∙ item_at_index xs k ∙ ap listed (slice_get_read xs (length xs) k f.now refl h.3.0 h.1)

pub choice-missing : (xs : List CodeFrozen) (n : ℤ) (k : ℕ) → n ≡ pos k → IsItemAt xs k None → item_named (map frozen_of xs) (int n) ≡ []
choice-missing xs n k e h = ap (λ z. item_named (map frozen_of xs) (int z)) e ∙ item_at_index xs k ∙ ap listed (slice_get_past xs k h.3)

pub named-append : {X : Type 0} (ms : List X) (ks ls : List Datum) → items_named ms (ks ++ ls) ≡ items_named ms ks ++ items_named ms ls
named-append ms [] ls = refl
named-append ms (k ∷ ks) ls = ap (λ ns. item_named ms k ++ ns) (named-append ms ks ls) ∙ sym (append_assoc (item_named ms k) (items_named ms ks) (items_named ms ls))

-- what the first i of the numbers name
abbrev pub named_by : List CodeFrozen → List Sample → ℕ → List (Frozen ℕ)
named_by all ns i = items_named (map frozen_of all) (map datum_of (take i ns))

-- one number more names one more, or none
named-more : (all : List CodeFrozen) (ns : List Sample) (i : ℕ) (n : Sample) → i < length ns → n ≡ get_or ns i n
    → named_by all ns (i + 1) ≡ named_by all ns i ++ item_named (map frozen_of all) (datum_of n)
named-more all ns i n l at =
    let ms : List (Frozen ℕ) = map frozen_of all in
    let e : i + 1 ≡ suc i = omega arith in
    ap (named_by all ns) e
    ∙ ap (λ ks. items_named ms (map datum_of ks)) (take-suc ns i n l ∙ ap (λ k. take i ns ++ k ∷ []) (sym at))
    ∙ ap (items_named ms) (map_push datum_of (take i ns) n)
    ∙ named-append ms (map datum_of (take i ns)) (datum_of n ∷ [])
    ∙ ap (λ k. named_by all ns i ++ k) (append-nil (item_named ms (datum_of n)))

pub passed-over : (all chosen : List CodeFrozen) (ns : List Sample) (i : ℕ) (n : Sample) → i < length ns → n ≡ get_or ns i n
    → item_named (map frozen_of all) (datum_of n) ≡ [] → map frozen_of chosen ≡ take 64 (named_by all ns i)
    → map frozen_of chosen ≡ take 64 (named_by all ns (i + 1))
passed-over all chosen ns i n l at h e =
    e ∙ ap (take 64) (sym (named-more all ns i n l at ∙ ap (λ k. named_by all ns i ++ k) h ∙ append-nil (named_by all ns i)))

pub picked : (all chosen now : List CodeFrozen) (f one : CodeFrozen) (ns : List Sample) (i : ℕ) (n : Sample) → i < length ns → n ≡ get_or ns i n
    → item_named (map frozen_of all) (datum_of n) ≡ frozen_of f ∷ [] → frozen_of one ≡ frozen_of f → now ≡ chosen ++ one ∷ [] → length chosen ≢ 64
    → map frozen_of chosen ≡ take 64 (named_by all ns i) → map frozen_of now ≡ take 64 (named_by all ns (i + 1))
picked all chosen now f one ns i n l at h same j free e =
    let so_far : List (Frozen ℕ) = named_by all ns i in
    let len : length chosen ≡ length (take 64 so_far) = sym (length-map chosen frozen_of) ∙ ap length e in
    let few : length so_far < 64 = omega (arith, length-take 64 so_far) in
    let whole : map frozen_of chosen ≡ so_far = e ∙ take_all 64 so_far (omega arith) in
    ap (map frozen_of) j
    ∙ map_push frozen_of chosen one
    ∙ ap₂ (λ fs g. fs ++ g ∷ []) whole same
    ∙ sym (take_all 64 (so_far ++ frozen_of f ∷ []) (omega (arith, length-append so_far (frozen_of f ∷ []))))
    ∙ ap (take 64) (sym (named-more all ns i n l at ∙ ap (λ k. so_far ++ k) h))

-- the first 64 are chosen
pub picked-all : (all chosen : List CodeFrozen) (ns : List Sample) (i : ℕ) (numbers : Datum) → map datum_of ns ≡ items_of numbers → length chosen ≡ 64
    → map frozen_of chosen ≡ take 64 (named_by all ns i) → map frozen_of chosen ≡ selected (map frozen_of all) numbers
picked-all all chosen ns i numbers k full e =
    let ms : List (Frozen ℕ) = map frozen_of all in
    let so_far : List (Frozen ℕ) = named_by all ns i in
    let len : length chosen ≡ length (take 64 so_far) = sym (length-map chosen frozen_of) ∙ ap length e in
    e
    ∙ sym (take-append-le 64 so_far (items_named ms (map datum_of (drop i ns))) (omega (arith, length-take 64 so_far)))
    ∙ ap (take 64) (sym (named-append ms (map datum_of (take i ns)) (map datum_of (drop i ns))) ∙ ap (items_named ms) (sym (map-append datum_of (take i ns) (drop i ns)) ∙ ap (map datum_of) (take-append-drop i ns) ∙ k))
