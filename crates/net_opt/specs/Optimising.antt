-- What the optimiser answers: the laws that it tries, and steps by them until none is left.
use Rattle.std.specs.Prelude.{◌≡◌, ℕ, ◌<◌, ◌≤◌, List, [], ◌∷◌, length, get_or, None}
use Rattle.std.specs.List.{All, Contains}
use Rattle.leaf_core.specs.Expression.{Expression}
use Rattle.net_tree.specs.Network.{Network}
use Rattle.net_meaning.specs.TypedNetwork.{TypedNetwork}
use Rattle.net_tree.specs.LawStep.{Step}
use Rattle.net_tree.specs.declared.law_step.Law.{Law}
use Rattle.net_tree.specs.declared.law_step.Law.TheVariants as L
use Rattle.net_tree.specs.declared.law_step.Direction.TheVariants.{Forward}
use Rattle.cert_check.specs.Derives.{Next, Steps}
use Rattle.net_opt.specs.Order.{Before}
use Rattle.net_opt.specs.declared.optimiser.TheConstants.{MOST_TAKEN}

-- the numbers of the laws of networks that are tried, in this order
abbrev pub network_laws : List ℕ
network_laws =
    1 ∷ 2 ∷ 20 ∷ 25 ∷ 3 ∷ 4 ∷ 10 ∷ 5 ∷ 8 ∷ 17 ∷ 18 ∷ 19 ∷ 21 ∷ 22 ∷ 23 ∷ 24 ∷ 31 ∷ 32 ∷ 35 ∷ 37
    ∷ 38 ∷ 40 ∷ []

-- the numbers of the laws of expressions that are tried, in this order
abbrev pub expression_laws : List ℕ
expression_laws = 1 ∷ 2 ∷ 3 ∷ 6 ∷ 7 ∷ 8 ∷ 9 ∷ 10 ∷ 11 ∷ 12 ∷ 13 ∷ 14 ∷ 15 ∷ 18 ∷ []

-- a law that is tried
abbrev pub IsTried : Law → Type 0
IsTried (L.L n) = Contains network_laws n
IsTried (L.E n) = Contains expression_laws n

-- a step that may be taken: by a law that is tried, forward, with no tree given
pub record MayTake (s : Step) : Type 0 where
  pub tried : IsTried s.law
  pub forward : s.direction ≡ Forward
  pub none_given : s.given ≡ None

-- no step that may be taken, at any position, leads on from the network
abbrev pub NoneLeft : TypedNetwork → Type 0
NoneLeft t = (s : Step) → MayTake s → (u : TypedNetwork) → Next t s u → ⊥

-- the step by this law, forward and with no tree given, at this position
abbrev pub forward_step : Law → List ℕ → Step
forward_step law p = record { law = law; direction = Forward; position = p; given = None }

-- that step doesn't lead on
abbrev pub NoStepBy : TypedNetwork → List ℕ → Law → Type 0
NoStepBy t p law = (u : TypedNetwork) → Next t (forward_step law p) u → ⊥

-- n stands in the list, and each number before it is so
pub record FirstIn (So : ℕ → Type 0) (ns : List ℕ) (n : ℕ) : Type 0 where
  pub index : ℕ
  pub within : index < length ns
  pub is : get_or ns index 0 ≡ n
  pub before : (k : ℕ) → k < index → So (get_or ns k 0)

-- the law is tried, and each that is tried before it is so
abbrev pub FirstTriedLaw : (Law → Type 0) → Law → Type 0
FirstTriedLaw So (L.L n) = FirstIn (λ m. So (L.L m)) network_laws n
FirstTriedLaw So (L.E n) = FirstIn (λ m. So (L.E m)) expression_laws n

-- the first step of the walk: none that may be taken leads on at a position before its own, nor
-- there by a law that is tried before its own
pub record IsFirst (t : TypedNetwork) (s : Step) : Type 0 where
  pub earlier : (p : List ℕ) → Before p s.position → (law : Law) → IsTried law → NoStepBy t p law
  pub first_law : FirstTriedLaw (NoStepBy t s.position) s.law

-- steps lead from one network to another, each the first of the walk where it is taken
pub data FirstSteps : TypedNetwork → List Step → TypedNetwork → Type 0 where
  none_first : {t : TypedNetwork} → FirstSteps t [] t
  first_then : {t u v : TypedNetwork} {s : Step} {ss : List Step} → IsFirst t s → Next t s u
      → FirstSteps u ss v → FirstSteps t (s ∷ ss) v

-- steps that may be taken, at most 1,000, lead from one network to another; where there are fewer,
-- none is left there. Each is the first of the walk
pub record Exhausts (t : TypedNetwork) (steps : List Step) (u : TypedNetwork) : Type 0 where
  pub lead : Steps t steps u
  pub first : FirstSteps t steps u
  pub may_be_taken : All MayTake steps
  pub few : length steps ≤ MOST_TAKEN
  pub none_left : length steps < MOST_TAKEN → NoneLeft u

-- such steps lead to this network
pub record Optimised (t : TypedNetwork) (net : Network Expression) (steps : List Step) : Type 0
  where
    pub last : TypedNetwork
    pub ends : last.net ≡ net
    pub exhausts : Exhausts t steps last
