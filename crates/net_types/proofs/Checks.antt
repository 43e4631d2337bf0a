-- The walk and the check answer exactly the networks within the limits.
use Rattle.std.proofs.Common.{◌≡◌, ◌∙◌, ℕ, Bool, cond, true, false, arith, leb, [], Option, Some, None, Ok, Err, refl, ap, subst, ◌≤◌, sym, le-leb, leb-true}
use Rattle.sample_core.specs.TypeTree.{TypeTree}
use Rattle.leaf_core.specs.Expression.{Expression}
use Rattle.leaf_core.specs.TypeLimits.{type_fits}
use Rattle.leaf_core.specs.ExpressionCheck.{type_answer}
use Rattle.leaf_core.specs.ExpressionLimits.{ExpressionTypedWithin}
use Rattle.leaf_core.proofs.Exactness.{type_answer-exact}
use Rattle.net_tree.specs.Network.{Network, network_size}
use Rattle.net_tree.specs.Height.{height}
use Rattle.net_tree.specs.Measured.{Measured, MeasuresWithin, capped}
use Rattle.net_tree.specs.declared.measure.Measures.{Measures}
use Rattle.net_tree.specs.Weight.{weight}
use Rattle.net_meaning.specs.TypedNetwork.{TypedNetwork}
use Rattle.net_meaning.specs.NetworkLimits.{WithinLimits}
use Rattle.net_types.specs.declared.fault.TypeFault.{TypeFault}
use Rattle.net_types.specs.declared.fault.TypeFault.TheVariants as Fault
use Rattle.net_types.specs.Check.{net_walk, first_fault, check}
use Rattle.net_types.specs.TypingLaws.{WalkLaw, CheckLaw}
use Rattle.net_types.specs.Walk.{◌>>◌, within}
use Rattle.net_types.proofs.WalkTests.{Holds, ok_holds, err_holds, either, next, holding, goes_on, faults_on, stops, tested, passes, within_tells, within_passes, type_fits-TypeFits, IsExact}
use Rattle.net_types.proofs.Sizes.{few_inside}
use Rattle.net_types.proofs.WalkSound.{sound}
use Rattle.net_types.proofs.WalkComplete.{complete}

exact : IsExact (λ e Qs B. type_answer Qs B e) ExpressionTypedWithin
exact e Ps A B = type_answer-exact Ps A e B

pub walk_exact : WalkLaw
walk_exact P Ps Os A net B = (
  λ e. holding (sound (λ e Qs B. type_answer Qs B e) ExpressionTypedWithin exact P Ps Os A net) e,
  λ d.
      complete (λ e Qs B. type_answer Qs B e) ExpressionTypedWithin exact P Ps Os A net B d,
)

first_sound : (A : TypeTree) (net : Network Expression) → Holds (λ t. (t.input ≡ A) × (t.net ≡ net) × WithinLimits t) (first_fault A net)
first_sound A net =
    next (within_tells A)
    (λ Z w. next (sound (λ e Qs B. type_answer Qs B e) ExpressionTypedWithin exact [] [] [] A net)
    (λ B d. next (tested (leb (height net []) 256) Fault.TooDeep) (λ u h. next (tested (leb (weight net []) 1000000) Fault.TooHeavy) (λ v k.
    ok_holds (
      refl,
      refl,
      record {
        fits = record { input_fits = w.1; typed = d; low = leb-true (height net []) 256 h; light = leb-true (weight net []) 1000000 k };
        its_weight =
            refl;
        its_height = refl;
      },
    )))))

-- what the check answers is within the limits, and of what was given
check_sound : (A : TypeTree) (net : Network Expression) → Holds (λ t. (t.input ≡ A) × (t.net ≡ net) × WithinLimits t) (check A net)
check_sound A net =
    either (Holds (λ t. (t.input ≡ A) × (t.net ≡ net) × WithinLimits t)) (leb (network_size net) 5000000) (first_sound A net)
    (next (within_tells A) (λ Z w. err_holds))

-- the check of a network that isn't vast
of_few : (A : TypeTree) (net : Network Expression) → network_size net ≤ 5000000 → check A net ≡ first_fault A net
of_few A net h = ap (λ b. cond b (first_fault A net) (within A >> Err Fault.TooHeavy)) (le-leb (network_size net) 5000000 h)

check_complete : (t : TypedNetwork) → WithinLimits t → check t.input t.net ≡ Ok t
check_complete t h =
    of_few t.input t.net (few_inside h.fits.typed h.fits.light)
    ∙ goes_on _ (within_passes t.input h.fits.input_fits)
    (goes_on _ (complete (λ e Qs B. type_answer Qs B e) ExpressionTypedWithin exact [] [] [] t.input t.net t.output h.fits.typed)
    (goes_on _ (passes Fault.TooDeep (le-leb (height t.net []) 256 h.fits.low))
    (goes_on _ (passes Fault.TooHeavy (le-leb (weight t.net []) 1000000 h.fits.light))
    (λ i. Ok (record { input = t.input; output = t.output; net = t.net; weight = sym h.its_weight i; height = sym h.its_height i })))))

pub check_exact : CheckLaw
check_exact A net t = (λ e. holding (check_sound A net) e, λ h. (λ i. check (sym h.0 i) (sym h.1 i)) ∙ check_complete t h.2)

-- what passes every test of the check is within the limits
pub within_limits : (A B : TypeTree) (net : Network Expression) (w h : ℕ) → type_fits A ≡ true → net_walk [] [] [] A net ≡ Ok B
    → w ≡ capped (weight net []) → h ≡ capped (height net []) → w ≤ 1000000 → h ≤ 256
    → WithinLimits (record { input = A; output = B; net = net; weight = w; height = h })
within_limits A B net w h fits typed is_weight is_height light low =
    record {
      fits = record { input_fits = type_fits-TypeFits A fits; typed = (walk_exact [] [] [] A net B).0 typed; low = omega arith; light = omega arith };
      its_weight = omega arith;
      its_height = omega arith;
    }

-- the walk's fault is the check's, where the tests before it are passed
pub check_faults : (A : TypeTree) (net : Network Expression) (f : TypeFault) → type_fits A ≡ true → network_size net ≤ 5000000 → net_walk [] [] [] A net ≡ Err f
    → check A net ≡ Err f
check_faults A net f fits small e = of_few A net small ∙ faults_on _ (within_passes A (type_fits-TypeFits A fits)) (stops _ e)

-- what is measured, where something is
pub is_measured : (o : Option Measures) (m : Measures) (most : Measures) (net : Network Expression) → o ≡ Some m → Measured o most net → Measured (Some m) most net
is_measured o m most net e h = subst (λ z. Measured z most net) e h

-- where nothing is, the network isn't within the limits
pub none_measured : (o : Option Measures) (most : Measures) (net : Network Expression) → ((m : Measures) → o ≡ Some m → ⊥) → Measured o most net
    → MeasuresWithin most net → ⊥
none_measured None most net never h = h
none_measured (Some m) most net never h = absurd (never m refl)

-- what isn't within the limit of the size is too heavy, where the test before is passed
pub too_large : (A : TypeTree) (net : Network Expression) (most : Measures) → (MeasuresWithin most net → ⊥) → type_fits A ≡ true → 5000000 ≤ most.size
    → 4294967295 ≤ most.weight → 4294967295 ≤ most.height → check A net ≡ Err Fault.TooHeavy
too_large A net most h fits i j k = go (leb (network_size net) 5000000) refl
  where
    go : (b : Bool) → leb (network_size net) 5000000 ≡ b → check A net ≡ Err Fault.TooHeavy
    go true e = let few : network_size net ≤ 5000000 = leb-true (network_size net) 5000000 e in absurd (h (omega arith, omega arith, omega arith))
    go false e = ap (λ b. cond b (first_fault A net) (within A >> Err Fault.TooHeavy)) e ∙ faults_on _ (within_passes A (type_fits-TypeFits A fits)) refl
