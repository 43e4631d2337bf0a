-- Each form of networks, read once, and the sugar in terms of the core forms.
use Rattle.std.specs.Prelude.{◌≡◌, ◌^◌, ℕ, List, [], ◌∷◌, ◌++◌, map, true, pos, Ok, Err, codes}
use Rattle.sample_core.specs.TypeTree.{unit_ty, int_ty}
use Rattle.leaf_core.specs.Expression.{Expression, input, unit_expr, bool_expr, int_expr, pair_expr, fst, snd, then_expr, not_expr, and_expr, if_expr, no_event_expr, event_expr}
use Rattle.leaf_expr.specs.Sexpr.{Sexpr, atom}
use Rattle.leaf_expr.specs.Language.{meant}
use Rattle.leaf_expr.specs.Printing.{one, two, three}
use Rattle.net_tree.specs.Network.{Network, arr, seq, first, par, loop_pre, initial_out, initial_in, i_pre, delay, hold, accum_by, after, repeatedly, time, integral, switch, r_switch, rp_switch, k_switch, p_switch, old, no_members, and_member, at_once, delayed}
use Rattle.net_text.specs.Grammar.{Version, networks, network_sort}
use Rattle.net_text.specs.File.{read_file}
use Rattle.net_text.specs.declared.fault.NetTextFault.{NetTextFault}
use Rattle.net_text.specs.declared.fault.NetTextFault.TheVariants as V

-- the file of the first version of that network, with numbers as its input
abbrev pub file_of : List ℕ → List ℕ
file_of bs = codes "yampa 1 input Int " ++ bs

-- the text is that network
abbrev pub IsNetwork : List ℕ → Network Expression → Type 0
IsNetwork bs f = read_file (file_of bs) ≡ Ok (int_ty, f)

-- each of the texts is no file, for that fault
abbrev pub AreNoFiles : List (List ℕ) → NetTextFault → Type 0
AreNoFiles texts f = map read_file texts ≡ map (λ bs. Err f) texts

-- the text is no network, for that fault; the network begins at byte 18
abbrev pub IsNoNetwork : List ℕ → NetTextFault → Type 0
IsNoNetwork bs f = read_file (file_of bs) ≡ Err f

-- each of the texts is no network, for that fault
abbrev pub AreNoNetworks : List (List ℕ) → NetTextFault → Type 0
AreNoNetworks texts f = map (λ bs. read_file (file_of bs)) texts ≡ map (λ bs. Err f) texts

-- the file of the second version of that network, with numbers as its input
abbrev pub new_file_of : List ℕ → List ℕ
new_file_of bs = codes "yampa 2 input Int " ++ bs

-- the text is that network in the second version
abbrev pub IsNewNetwork : List ℕ → Network Expression → Type 0
IsNewNetwork bs f = read_file (new_file_of bs) ≡ Ok (int_ty, f)

-- each of the texts is no network in the second version, for that fault
abbrev pub AreNoNewNetworks : List (List ℕ) → NetTextFault → Type 0
AreNoNewNetworks texts f =
    map (λ bs. read_file (new_file_of bs)) texts ≡ map (λ bs. Err f) texts

-- each form without networks
abbrev pub CellRows : Type 0
CellRows =
    IsNetwork (codes "(arr x)") (arr input)
    × IsNetwork (codes "(iPre 0)") (i_pre (int_expr (pos 0)))
    × IsNetwork (codes "(hold unit)") (hold unit_expr)
    × IsNetwork (codes "(delay 1 x)") (delay 1 input)
    × IsNetwork (codes "(delay 4096 x)") (delay 4096 input)
    × IsNetwork (codes "(after 0 x)") (after 0 input)
    × IsNetwork (codes "(after 4611686018427387904 x)") (after (2 ^ 62) input)
    × IsNetwork (codes "(repeatedly 1 x)") (repeatedly 1 input)
    × IsNetwork (codes "(repeatedly 4611686018427387904 x)") (repeatedly (2 ^ 62) input)
    × IsNetwork (codes "(accumBy x unit)") (accum_by input unit_expr)
    × IsNetwork (codes "time") time
    × IsNetwork (codes "integral") integral
    × IsNetwork (codes "(old 0)") (old 0)
    × IsNetwork (codes "(old 65535)") (old 65535)

-- each form that holds networks
abbrev pub NetworkRows : Type 0
NetworkRows =
    IsNetwork (codes "(first time)") (first time)
    × IsNetwork (codes "(>>> time integral)") (seq time integral)
    × IsNetwork (codes "(switch time integral)") (switch at_once time integral)
    × IsNetwork (codes "(dSwitch time integral)") (switch delayed time integral)
    × IsNetwork (codes "(rSwitch time integral)") (r_switch at_once time integral)
    × IsNetwork (codes "(loopPre x time)") (loop_pre input time)
    × IsNetwork (codes "(kSwitch time integral (old 0))") (k_switch time integral (old 0))
    × IsNetwork (codes "(parB)") (par no_members)
    × IsNetwork (codes "(parB time integral)")
    (par (and_member time (and_member integral no_members)))
    × IsNetwork (codes "(pSwitch x (col) time integral)") (p_switch input no_members time integral)
    × IsNetwork (codes "(pSwitch x (col time integral) (old 0) (old 1))")
    (p_switch input (and_member time (and_member integral no_members)) (old 0) (old 1))

-- each form of the second version, and one of the first
abbrev pub NewRows : Type 0
NewRows =
    IsNewNetwork (codes "(--> 7 time)") (initial_out (int_expr (pos 7)) time)
    × IsNewNetwork (codes "(>-- 9 (iPre 0))")
    (initial_in (int_expr (pos 9)) (i_pre (int_expr (pos 0))))
    × IsNewNetwork (codes "(drSwitch time integral)") (r_switch delayed time integral)
    × IsNewNetwork (codes "(rpSwitchB (col) x time)") (rp_switch no_members input time)
    × IsNewNetwork (codes "(rpSwitchB (col time integral) x (old 0))")
    (rp_switch (and_member time (and_member integral no_members)) input (old 0))
    × IsNewNetwork (codes "(first time)") (first time)

-- `(pair (snd x) (fst x))`
abbrev pub swap_expr : Expression
swap_expr = pair_expr (snd input) (fst input)

-- sugar: each word and form of it, read once, as the core forms that it stands for
abbrev pub SugarRows : Type 0
SugarRows =
    IsNetwork (codes "identity") (arr input)
    × IsNetwork (codes "(constant x)") (arr (then_expr unit_expr input))
    × IsNetwork (codes "(second time)") (seq (arr swap_expr) (seq (first time) (arr swap_expr)))
    × IsNetwork (codes "(*** time integral)")
    (seq (first time) (seq (arr swap_expr) (seq (first integral) (arr swap_expr))))
    × IsNetwork (codes "(&&& time integral)")
    (seq (arr (pair_expr input input))
    (seq (first time) (seq (arr swap_expr) (seq (first integral) (arr swap_expr)))))
    × IsNetwork (codes "(never Int)") (arr (no_event_expr int_ty))
    × IsNetwork (codes "(now x)") (after 0 input)
    × IsNetwork (codes "edge")
    (seq
    (seq (arr (pair_expr input input))
    (seq (first (arr input))
    (seq (arr swap_expr) (seq (first (i_pre (bool_expr true))) (arr swap_expr)))))
    (arr
    (if_expr (and_expr (fst input) (not_expr (snd input))) (event_expr unit_expr)
    (no_event_expr unit_ty))))
    × IsNetwork (codes "(accumHoldBy x unit)") (seq (accum_by input unit_expr) (hold unit_expr))

-- in each version the two texts mean one network, or neither means one
abbrev pub MeanSame : Sexpr → Sexpr → Type 0
MeanSame p q = (v : Version)
    → meant (networks v) network_sort p ≡ meant (networks v) network_sort q

-- sugar: `identity` means `(arr x)`
abbrev pub IdentityIs : Type 0
IdentityIs = MeanSame (atom (codes "identity")) (one (codes "arr") (atom (codes "x")))

-- `(constant e)` means `(arr (then unit e))`, whatever e is; so with the forms below
abbrev pub ConstantIs : Type 0
ConstantIs = (e : Sexpr) → MeanSame (one (codes "constant") e)
    (one (codes "arr") (two (codes "then") (atom (codes "unit")) e))

-- `(arr (pair (snd x) (fst x)))`
abbrev pub swap_sexpr : Sexpr
swap_sexpr =
    one (codes "arr")
    (two (codes "pair") (one (codes "snd") (atom (codes "x")))
    (one (codes "fst") (atom (codes "x"))))

-- `(second f)` means `(>>> (arr SWAP) (>>> (first f) (arr SWAP)))`, where SWAP is
-- `(pair (snd x) (fst x))`
abbrev pub SecondIs : Type 0
SecondIs = (f : Sexpr) → MeanSame (one (codes "second") f)
    (two (codes ">>>") swap_sexpr (two (codes ">>>") (one (codes "first") f) swap_sexpr))

-- `(*** f g)` means `(>>> (first f) (second g))`
abbrev pub BesideIs : Type 0
BesideIs = (f g : Sexpr) → MeanSame (two (codes "***") f g)
    (two (codes ">>>") (one (codes "first") f) (one (codes "second") g))

-- `(&&& f g)` means `(>>> (arr (pair x x)) (*** f g))`
abbrev pub FanOutIs : Type 0
FanOutIs = (f g : Sexpr) → MeanSame (two (codes "&&&") f g)
    (two (codes ">>>")
    (one (codes "arr") (two (codes "pair") (atom (codes "x")) (atom (codes "x"))))
    (two (codes "***") f g))

-- `(never T)` means `(arr (none T))`
abbrev pub NeverIs : Type 0
NeverIs = (T : Sexpr) → MeanSame (one (codes "never") T)
    (one (codes "arr") (one (codes "none") T))

-- `(now c)` means `(after 0 c)`
abbrev pub NowIs : Type 0
NowIs = (c : Sexpr) → MeanSame (one (codes "now") c) (two (codes "after") (atom (codes "0")) c)

-- `edge` means `(>>> (&&& identity (iPre true)) (arr RISE))`, where RISE is
-- `(if (and (fst x) (not (snd x))) (event unit) (none Unit))`
abbrev pub EdgeIs : Type 0
EdgeIs =
    MeanSame (atom (codes "edge"))
    (two (codes ">>>")
    (two (codes "&&&") (atom (codes "identity")) (one (codes "iPre") (atom (codes "true"))))
    (one (codes "arr")
    (three (codes "if")
    (two (codes "and") (one (codes "fst") (atom (codes "x")))
    (one (codes "not") (one (codes "snd") (atom (codes "x")))))
    (one (codes "event") (atom (codes "unit"))) (one (codes "none") (atom (codes "Unit"))))))

-- `(accumHoldBy g z)` means `(>>> (accumBy g z) (hold z))`
abbrev pub AccumHoldByIs : Type 0
AccumHoldByIs = (g z : Sexpr) → MeanSame (two (codes "accumHoldBy") g z)
    (two (codes ">>>") (two (codes "accumBy") g z) (one (codes "hold") z))

-- refusals of headers and of what stands where a network must
abbrev pub FileFaultRows : Type 0
FileFaultRows =
    AreNoFiles
    (codes "yampa 3 input Int time" ∷ codes "yampa 02 input Int time"
    ∷ codes "yampa input Int time" ∷ codes "yampa 2" ∷ [])
    V.Header
    × AreNoFiles (codes "yampa 1 input" ∷ codes "yampa 2 input" ∷ []) (V.Syntax 13)
    × AreNoNetworks (codes "arr" ∷ codes "5" ∷ []) (V.Syntax 18)
    × AreNoNetworks
    (codes "(5 time)" ∷ codes "(time)" ∷ codes "(identity)" ∷ codes "(edge)" ∷ codes "(col time)"
    ∷ codes "(--> 7 time)" ∷ codes "(>-- 7 time)" ∷ codes "(drSwitch time time)"
    ∷ codes "(rpSwitchB (col) x time)" ∷ [])
    (V.Syntax 19)
    × IsNoNetwork (codes "(arr") (V.Syntax 22)
    × IsNoNetwork (codes "(arr 01)") (V.Number 23)
    × IsNoNetwork (codes "(never 5)") (V.Syntax 25)
    × IsNoNetwork (codes "identity )") (V.Syntax 27)
    × IsNoNetwork (codes "(loopPre 01 time)") (V.Number 27)
    × IsNoNetwork (codes "(parB time") (V.Syntax 28)

-- refusals in the second version
abbrev pub NewFaultRows : Type 0
NewFaultRows =
    AreNoNewNetworks (codes "-->" ∷ codes "drSwitch" ∷ []) (V.Syntax 18)
    × AreNoNewNetworks (codes "(-> 7 time)" ∷ codes "(col time)" ∷ []) (V.Syntax 19)
    × AreNoNewNetworks (codes "(--> 01 time)" ∷ codes "(>-- 01 time)" ∷ []) (V.Number 23)
    × AreNoNewNetworks (codes "(rpSwitchB time x time)" ∷ []) (V.Syntax 29)
    × AreNoNewNetworks (codes "(rpSwitchB (cal time) x time)" ∷ []) (V.Syntax 30)
    × AreNoNewNetworks (codes "(rpSwitchB (col) x)" ∷ []) (V.Syntax 36)

-- refusals of numbers of frozen networks and of times
abbrev pub NumberFaultRows : Type 0
NumberFaultRows =
    IsNoNetwork (codes "(old)") (V.Syntax 22)
    × IsNoNetwork (codes "(old x)") (V.Syntax 23)
    × AreNoNetworks (codes "(old -1)" ∷ codes "(old 65536)" ∷ []) (V.Number 23)
    × AreNoNetworks (codes "(delay x 0)" ∷ codes "(delay (p 0) 0)" ∷ []) (V.Syntax 25)
    × AreNoNetworks
    (codes "(delay 01 0)" ∷ codes "(delay 0 0)" ∷ codes "(delay 4097 0)"
    ∷ codes "(delay 18446744073709551616 0)" ∷ codes "(after -1 0)"
    ∷ codes "(after 4611686018427387905 0)" ∷ [])
    (V.Number 25)
    × AreNoNetworks
    (codes "(repeatedly 0 0)" ∷ codes "(repeatedly 4611686018427387905 0)" ∷ []) (V.Number 30)

-- refusals of what stands where the members of `pSwitch` must
abbrev pub MembersFaultRows : Type 0
MembersFaultRows =
    AreNoNetworks (codes "(pSwitch x time time time)" ∷ codes "(pSwitch x 5 time time)" ∷ [])
    (V.Syntax 29)
    × IsNoNetwork (codes "(pSwitch x (parB) time time)") (V.Syntax 30)
    × IsNoNetwork (codes "(pSwitch x (col time") (V.Syntax 38)
    × IsNoNetwork (codes "(pSwitch x (col) time)") (V.Syntax 39)
