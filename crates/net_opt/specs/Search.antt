-- Steps forward at a place, and what the walk passed before it took one.
use Rattle.std.specs.Prelude.{◌≡◌, ◌⊎◌, ℕ, Bool, true, false, List, ◌++◌, length, Option, Some, None}
use Rattle.leaf_core.specs.Expression.{Expression}
use Rattle.net_tree.specs.Place.{Tree, a_network, a_leaf}
use Rattle.net_meaning.specs.TypedNetwork.{TypedNetwork}
use Rattle.net_tree.specs.LawStep.{Step, step_of}
use Rattle.net_tree.specs.declared.law_step.LawStep.{LawStep}
use Rattle.net_tree.specs.declared.law_step.Law.{Law}
use Rattle.net_tree.specs.declared.law_step.Law.TheVariants as L
use Rattle.net_syntax.specs.Rewriting.{Rewrites}
use Rattle.net_types.specs.Answered.{NoRewriting}
use Rattle.cert_check.specs.Derives.{Answered, Next}
use Rattle.net_opt.specs.Optimising.{network_laws, expression_laws, IsTried, MayTake, forward_step, NoStepBy, FirstTriedLaw}
use Rattle.net_opt.specs.Nesting.{IsTooHigh}
use Rattle.net_opt.specs.Order.{Before, LeftOf}

-- the numbers of the laws that are tried at such a tree, in this order
abbrev pub numbers_at : Tree Expression → List ℕ
numbers_at (a_network f) = network_laws
numbers_at (a_leaf e) = expression_laws

-- the law of the number among those of the tree's kind
abbrev pub law_at : Tree Expression → ℕ → Law
law_at (a_network f) n = L.L n
law_at (a_leaf e) n = L.E n

-- the law doesn't match what stands at the position
abbrev pub NoMatchBy : TypedNetwork → List ℕ → Law → Type 0
NoMatchBy t p law = (new : Tree Expression) → Answered t (forward_step law p) new → ⊥

-- what it leads to is too high there, where it matches
abbrev pub OnlyTooHighBy : TypedNetwork → List ℕ → Law → Type 0
OnlyTooHighBy t p law =
    (new : Tree Expression) → Answered t (forward_step law p) new → IsTooHigh (length p) new

-- the law was passed by a walk: its step doesn't lead on there; in a walk in which nothing else that
-- matched was refused that is so since it doesn't match, or leads to what is too high there
abbrev pub Passed : Bool → TypedNetwork → List ℕ → Law → Type 0
Passed true t p law = NoStepBy t p law
Passed false t p law = OnlyTooHighBy t p law

-- so was each law that is tried
abbrev pub PassedAt : Bool → TypedNetwork → List ℕ → Type 0
PassedAt refused t p = (law : Law) → IsTried law → Passed refused t p law

-- the same at this position and at all that lead on from it
abbrev pub PassedWithin : Bool → TypedNetwork → List ℕ → Type 0
PassedWithin refused t p = (q : List ℕ) → PassedAt refused t (p ++ q)

-- from p on, no law that is tried matches anything left of the path, but for what is too high there
abbrev pub Settled : TypedNetwork → List ℕ → List ℕ → Type 0
Settled t p path = (q : List ℕ) → LeftOf q path → PassedAt false t (p ++ q)

-- the step's position leads on from p; each position before it, from p on, was passed, and so was
-- each law before its own
pub record FirstWithin (refused : Bool) (t : TypedNetwork) (p : List ℕ) (s : Step) : Type 0 where
  pub rest : List ℕ
  pub leads : s.position ≡ p ++ rest
  pub earlier : (q : List ℕ) → Before q rest → PassedAt refused t (p ++ q)
  pub first_law : FirstTriedLaw (Passed refused t s.position) s.law

-- a step that may be taken leads on so
pub record Takes (t : TypedNetwork) (s : Step) (u : TypedNetwork) : Type 0 where
  pub may : MayTake s
  pub next : Next t s u

-- where the network was t and now is u: such a step was taken, or none, which says Nothing
abbrev pub FoundStep : Type 0 → (Step → Type 0) → TypedNetwork → TypedNetwork → Option LawStep → Type 0
FoundStep Nothing Such t u None = (u ≡ t) × Nothing
FoundStep Nothing Such t u (Some s) = Takes t (step_of s) u × Such (step_of s)

-- why the tree isn't put at the position, where something was refused or not, before and now: no
-- network has it there, or it is too high there, which isn't told
abbrev pub NotPut : TypedNetwork → List ℕ → Tree Expression → Bool → Bool → Type 0
NotPut t p new before now =
    ((now ≡ true) × NoRewriting t p new) ⊎ ((now ≡ before) × IsTooHigh (length p) new)

-- where the network was t and now is u, and something was refused or not, before and now: the law's
-- step stands there with the tree at the position, or that isn't put there, and all is as it was
abbrev pub Puts : Law → TypedNetwork → List ℕ → Tree Expression → TypedNetwork → Bool → Bool
    → Option LawStep → Type 0
Puts law t p new u before now None = (u ≡ t) × NotPut t p new before now
Puts law t p new u before now (Some s) =
    (step_of s ≡ forward_step law p) × Rewrites t p new u × (now ≡ before)

-- the step is at the position, by the first law that wasn't passed there
pub record FirstAt (refused : Bool) (t : TypedNetwork) (p : List ℕ) (s : Step) : Type 0 where
  pub there : s.position ≡ p
  pub first_law : FirstTriedLaw (Passed refused t p) s.law
