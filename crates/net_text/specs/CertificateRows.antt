-- Certificate files, read once each.
use Rattle.std.specs.Prelude.{◌≡◌, ℕ, List, [], ◌∷◌, map, pos, Some, None, Ok, Err, codes}
use Rattle.leaf_core.specs.Expression.{Expression, input, int_expr, pair_expr, fst}
use Rattle.net_tree.specs.Network.{seq, arr, time, initial_out}
use Rattle.net_tree.specs.Place.{Tree, a_network, a_leaf}
use Rattle.net_tree.specs.LawStep.{Step}
use Rattle.net_tree.specs.declared.law_step.Law.{Law}
use Rattle.net_tree.specs.declared.law_step.Direction.TheVariants as Direction
use Rattle.net_text.specs.Certificate.{read_certificate}
use Rattle.net_text.specs.declared.fault.NetTextFault.{NetTextFault}
use Rattle.net_text.specs.declared.fault.NetTextFault.TheVariants as V

-- a step forward
abbrev pub forward : Law → List ℕ → Step
forward law at = record { law = law; direction = Direction.Forward; position = at; given = None }

-- a step backward to the tree
abbrev pub backward : Law → List ℕ → Tree Expression → Step
backward law at t =
    record { law = law; direction = Direction.Backward; position = at; given = Some t }

-- the text is the certificate of those steps
abbrev pub IsRead : List ℕ → List Step → Type 0
IsRead bs ss = read_certificate bs ≡ Ok ss

-- each of the texts is no certificate, for that fault
abbrev pub AreRefused : List (List ℕ) → NetTextFault → Type 0
AreRefused texts f = map read_certificate texts ≡ map (λ bs. Err f) texts

-- certificates
abbrev pub CertificateRows : Type 0
CertificateRows =
    IsRead (codes "laws 1") []
    × IsRead (codes "laws 1\n(step L4 forward (at))\n") (forward (Law.L 4) [] ∷ [])
    × IsRead (codes "laws 1 (step L4 forward (at 65535))") (forward (Law.L 4) (65535 ∷ []) ∷ [])
    × IsRead (codes "laws 1 (step E7 backward (at 0) (fst (pair x 1))) (step E7 forward (at 0))")
    (backward (Law.E 7) (0 ∷ []) (a_leaf (fst (pair_expr input (int_expr (pos 1)))))
    ∷ forward (Law.E 7) (0 ∷ []) ∷ [])
    × IsRead (codes "laws 1 (step L1 backward (at 0 12) (>>> identity time))")
    (backward (Law.L 1) (0 ∷ 12 ∷ []) (a_network (seq (arr input) time)) ∷ [])
    × IsRead (codes "laws 2") []
    × IsRead (codes "laws 3") []
    × IsRead (codes "laws 4") []
    × IsRead (codes "laws 2 (step L1 backward (at) (--> 1 time))")
    (backward (Law.L 1) [] (a_network (initial_out (int_expr (pos 1)) time)) ∷ [])
    × IsRead (codes "laws 3 (step L1 backward (at) (--> 1 time))")
    (backward (Law.L 1) [] (a_network (initial_out (int_expr (pos 1)) time)) ∷ [])
    × IsRead (codes "laws 4 (step L1 backward (at) (--> 1 time))")
    (backward (Law.L 1) [] (a_network (initial_out (int_expr (pos 1)) time)) ∷ [])

-- the first and the last law of each kind
abbrev pub LawRows : Type 0
LawRows =
    IsRead (codes "laws 1 (step E1 forward (at))") (forward (Law.E 1) [] ∷ [])
    × IsRead (codes "laws 1 (step E18 forward (at))") (forward (Law.E 18) [] ∷ [])
    × IsRead (codes "laws 1 (step L1 forward (at))") (forward (Law.L 1) [] ∷ [])
    × IsRead (codes "laws 1 (step L42 forward (at))") (forward (Law.L 42) [] ∷ [])
    × IsRead (codes "laws 2 (step L42 forward (at))") (forward (Law.L 42) [] ∷ [])
    × IsRead (codes "laws 2 (step L43 forward (at))") (forward (Law.L 43) [] ∷ [])
    × IsRead (codes "laws 2 (step L46 forward (at))") (forward (Law.L 46) [] ∷ [])
    × IsRead (codes "laws 3 (step L47 forward (at))") (forward (Law.L 47) [] ∷ [])
    × IsRead (codes "laws 3 (step L51 forward (at))") (forward (Law.L 51) [] ∷ [])
    × IsRead (codes "laws 3 (step E19 forward (at))") (forward (Law.E 19) [] ∷ [])
    × IsRead (codes "laws 3 (step E26 forward (at))") (forward (Law.E 26) [] ∷ [])
    × IsRead (codes "laws 4 (step L52 forward (at))") (forward (Law.L 52) [] ∷ [])
    × IsRead (codes "laws 4 (step L65 forward (at))") (forward (Law.L 65) [] ∷ [])
    × IsRead (codes "laws 4 (step E27 forward (at))") (forward (Law.E 27) [] ∷ [])
    × IsRead (codes "laws 4 (step E55 forward (at))") (forward (Law.E 55) [] ∷ [])
    × AreRefused
    (codes "laws 1 (step E0 forward (at))" ∷ codes "laws 1 (step E19 forward (at))"
    ∷ codes "laws 1 (step L0 forward (at))" ∷ codes "laws 1 (step L43 forward (at))"
    ∷ codes "laws 2 (step L0 forward (at))" ∷ codes "laws 2 (step L47 forward (at))"
    ∷ codes "laws 2 (step E19 forward (at))"
    ∷ codes "laws 3 (step L52 forward (at))" ∷ codes "laws 3 (step E27 forward (at))"
    ∷ codes "laws 4 (step L66 forward (at))" ∷ codes "laws 4 (step E56 forward (at))"
    ∷ codes "laws 1 (step L01 forward (at))" ∷ codes "laws 1 (step 4 forward (at))"
    ∷ codes "laws 1 (step E forward (at))" ∷ codes "laws 1 (step (E1) forward (at))" ∷ [])
    (V.Syntax 13)

-- refusals of headers and of what stands in a step
abbrev pub CertificateFaultRows : Type 0
CertificateFaultRows =
    AreRefused
    (codes "" ∷ codes "laws" ∷ codes "laws 5" ∷ codes "laws 5 (step L43 forward (at))"
    ∷ codes "laws 02"
    ∷ codes "yampa 1 input Int time" ∷ codes "((((" ∷ [])
    V.Header
    × AreRefused
    (codes "laws 1 step" ∷ codes "laws 1 5" ∷ codes "laws 1 )" ∷ []) (V.Syntax 7)
    × AreRefused
    (codes "laws 1 (" ∷ codes "laws 1 (steps L4 forward (at))" ∷ codes "laws 1 ((step" ∷ [])
    (V.Syntax 8)
    × AreRefused
    (codes "laws 1 (step L4 forwards (at))" ∷ codes "laws 1 (step L4 5 (at))" ∷ []) (V.Syntax 16)
    × AreRefused
    (codes "laws 1 (step L4 forward)" ∷ codes "laws 1 (step L4 forward" ∷ []) (V.Syntax 23)
    × AreRefused
    (codes "laws 1 (step L4 forward 0)" ∷ codes "laws 1 (step L4 forward at)" ∷ []) (V.Syntax 24)
    × AreRefused
    (codes "laws 1 (step L4 forward (at 65536))" ∷ codes "laws 1 (step L4 forward (at -1))"
    ∷ codes "laws 1 (step L4 forward (at 00))" ∷ [])
    (V.Number 28)
    × AreRefused
    (codes "laws 1 (step L4 forward (at x))" ∷ codes "laws 1 (step L4 forward (at (0)))" ∷ [])
    (V.Syntax 28)
    × AreRefused
    (codes "laws 1 (step L4 forward (at)" ∷ []) (V.Syntax 28)
    × AreRefused
    (codes "laws 1 (step L4 forward (at) x)" ∷ codes "laws 1 (step L4 forward (at) 5)"
    ∷ codes "laws 1 (step E7 forward (at) time)" ∷ [])
    (V.Syntax 29)
    × AreRefused (codes "laws 1 (step E7 forward (at) 05)" ∷ []) (V.Number 29)
    × AreRefused
    (codes "laws 1 (step E7 forward (at) x x)" ∷ codes "laws 1 (step L1 backward (at) (--> 1 time))"
    ∷ [])
    (V.Syntax 31)
