-- Each form of networks, read once, and the sugar.
use Rattle.std.proofs.Common.{refl, Option, Some, None, ◌≡◌}
use Rattle.std.specs.Prelude.{option_and_then}
use Rattle.sample_core.specs.TypeTree.{TypeTree}
use Rattle.leaf_core.specs.Expression.{Expression, input, unit_expr, pair_expr, then_expr, no_event_expr}
use Rattle.leaf_expr.specs.Language.{meant}
use Rattle.leaf_expr.specs.Grammar.{type_sort, expression_sort, word_at, production_at, words, productions}
use Rattle.net_tree.specs.Network.{Network, arr, seq, first, hold, accum_by}
use Rattle.net_text.specs.Sugar.{swap_sides, second, beside, fan_out, never, accum_hold_by}
use Rattle.net_text.specs.Grammar.{net_words, net_word_at, net_productions, net_production_at, col_productions, networks, leaf_sort, network_sort}
use Rattle.net_text.specs.FileRows.{CellRows, NetworkRows, SugarRows, IdentityIs, ConstantIs, SecondIs, BesideIs, FanOutIs, NeverIs, NowIs, EdgeIs, AccumHoldByIs, NewRows, NewFaultRows, FileFaultRows, NumberFaultRows, MembersFaultRows}

pub cell_rows_read : CellRows
unfolding word_at words production_at productions net_words net_word_at net_productions net_production_at
cell_rows_read = (refl, refl, refl, refl, refl, refl, refl, refl, refl, refl, refl, refl, refl, refl)

pub network_rows : NetworkRows
unfolding word_at words production_at productions net_words net_word_at net_productions net_production_at col_productions
network_rows = (refl, refl, refl, refl, refl, refl, refl, refl, refl, refl, refl)

pub new_rows_read : NewRows
unfolding word_at words production_at productions net_words net_word_at net_productions net_production_at col_productions
new_rows_read = (refl, refl, refl, refl, refl, refl)

pub sugar_rows : SugarRows
unfolding word_at words production_at productions net_words net_word_at net_productions net_production_at
sugar_rows = (refl, refl, refl, refl, refl, refl, refl, refl, refl)

pub file_fault_rows : FileFaultRows
unfolding word_at words production_at productions net_words net_word_at net_productions net_production_at
file_fault_rows = (refl, refl, refl, refl, refl, refl, refl, refl, refl, refl)

pub new_fault_rows : NewFaultRows
unfolding word_at words production_at productions net_words net_word_at net_productions net_production_at col_productions
new_fault_rows = (refl, refl, refl, refl, refl, refl)

pub number_fault_rows : NumberFaultRows
unfolding word_at words production_at productions net_words net_word_at net_productions net_production_at
number_fault_rows = (refl, refl, refl, refl, refl, refl)

pub members_fault_rows : MembersFaultRows
unfolding word_at words production_at productions net_words net_word_at net_productions net_production_at col_productions
members_fault_rows = (refl, refl, refl, refl)

pub identity_is : IdentityIs
unfolding word_at words production_at productions net_words net_word_at net_productions net_production_at
identity_is v = refl

constant_parts : (e : Option Expression)
    → option_and_then (λ c. Some (arr (then_expr unit_expr c))) e ≡ option_and_then (λ x. Some (arr x)) (option_and_then (λ c. Some (then_expr unit_expr c)) e)
constant_parts None = refl
constant_parts (Some c) = refl

pub constant_is : ConstantIs
unfolding word_at words production_at productions net_words net_word_at net_productions net_production_at
constant_is e v = constant_parts (meant (networks v) (leaf_sort expression_sort) e)

second_parts : (f : Option (Network Expression))
    → option_and_then (λ f. Some (second f)) f
    ≡ option_and_then (λ h. Some (seq (arr swap_sides) h)) (option_and_then (λ g. Some (seq g (arr swap_sides))) (option_and_then (λ f. Some (first f)) f))
second_parts None = refl
second_parts (Some f) = refl

pub second_is : SecondIs
unfolding word_at words production_at productions net_words net_word_at net_productions net_production_at
second_is f v = second_parts (meant (networks v) network_sort f)

-- two makers that make the same of two parts, and nothing where one is missing
same_of_two : {A B R : Type 0} (f g : Option A → Option B → Option R) → ((b : Option B) → f None b ≡ g None b) → ((a : A) → f (Some a) None ≡ g (Some a) None)
    → ((a : A) (b : B) → f (Some a) (Some b) ≡ g (Some a) (Some b)) → (a : Option A) (b : Option B) → f a b ≡ g a b
same_of_two f g p q r None b = p b
same_of_two f g p q r (Some a) None = q a
same_of_two f g p q r (Some a) (Some b) = r a b

-- what two parts make
abbrev both_make : {A B R : Type 0} → (A → B → R) → Option A → Option B → Option R
both_make make a b = option_and_then (λ a. option_and_then (λ b. Some (make a b)) b) a

-- what one part makes
abbrev makes : {A R : Type 0} → (A → R) → Option A → Option R
makes make a = option_and_then (λ a. Some (make a)) a

pub beside_is : BesideIs
unfolding word_at words production_at productions net_words net_word_at net_productions net_production_at
beside_is f g v =
    same_of_two (both_make beside) (λ f g. both_make seq (makes first f) (makes second g)) (λ _. refl) (λ _. refl) (λ _ _. refl)
    (meant (networks v) network_sort f) (meant (networks v) network_sort g)

pub fan_out_is : FanOutIs
unfolding word_at words production_at productions net_words net_word_at net_productions net_production_at
fan_out_is f g v =
    same_of_two (both_make fan_out) (λ f g. makes (seq (arr (pair_expr input input))) (both_make beside f g)) (λ _. refl) (λ _. refl) (λ _ _. refl)
    (meant (networks v) network_sort f) (meant (networks v) network_sort g)

never_parts : (T : Option TypeTree)
    → option_and_then (λ T. Some (never T)) T ≡ option_and_then (λ x. Some (arr x)) (option_and_then (λ T. Some (no_event_expr T)) T)
never_parts None = refl
never_parts (Some T) = refl

pub never_is : NeverIs
unfolding word_at words production_at productions net_words net_word_at net_productions net_production_at
never_is T v = never_parts (meant (networks v) (leaf_sort type_sort) T)

pub now_is : NowIs
unfolding word_at words production_at productions net_words net_word_at net_productions net_production_at
now_is c v = refl

pub edge_is : EdgeIs
unfolding word_at words production_at productions net_words net_word_at net_productions net_production_at
edge_is v = refl

pub accum_hold_by_is : AccumHoldByIs
unfolding word_at words production_at productions net_words net_word_at net_productions net_production_at
accum_hold_by_is g z v =
    same_of_two (both_make accum_hold_by) (λ g z. both_make seq (both_make accum_by g z) (makes hold z)) (λ _. refl) (λ _. refl) (λ _ _. refl)
    (meant (networks v) (leaf_sort expression_sort) g) (meant (networks v) (leaf_sort expression_sort) z)
