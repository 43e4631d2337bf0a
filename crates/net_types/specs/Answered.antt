-- What a rewriting in place answers, and what it leaves.
use Rattle.std.specs.Prelude.{◌≡◌, ◌≢◌, ℕ, List, Result, Ok, Err, None}
use Rattle.sample_core.specs.declared.memory.Memory.{Memory}
use Rattle.leaf_core.specs.Expression.{Expression}
use Rattle.net_tree.specs.Place.{Tree, a_network}
use Rattle.net_syntax.specs.Placed.{replaced}
use Rattle.net_meaning.specs.TypedNetwork.{TypedNetwork}
use Rattle.net_syntax.specs.Rewriting.{Rewrites}
use Rattle.net_types.specs.declared.rewriting.Rewritten.{Rewritten}
use Rattle.net_types.specs.declared.rewriting.Rewritten.TheVariants.{Done, NoPosition, IllTyped}

-- no typed network within the limits is t with new at the position and the type there kept
abbrev pub NoRewriting : TypedNetwork → List ℕ → Tree Expression → Type 0
NoRewriting t p new = (u : TypedNetwork) → Rewrites t p new u → ⊥

-- where t was and now is t': done, it is the one with new at the position; else it is as before, and
-- the position isn't there, or is of another kind, or there is no such network
abbrev pub AnswersRewritten : Result Rewritten Memory → TypedNetwork → List ℕ → Tree Expression
    → TypedNetwork → Type 0
AnswersRewritten (Ok Done) t p new t' = Rewrites t p new t'
AnswersRewritten (Ok NoPosition) t p new t' = (replaced (a_network t.net) p new ≡ None) × (t' ≡ t)
AnswersRewritten (Ok IllTyped) t p new t' =
    (replaced (a_network t.net) p new ≢ None) × NoRewriting t p new × (t' ≡ t)
AnswersRewritten (Err m) t p new t' = t' ≡ t
