-- What the switches output, said with environments.
use Rattle.std.proofs.Common.{◌≡◌, ℕ, suc, List, [], ◌∷◌, ◌++◌, map, length, take, drop, refl, sym, ap, ◌∙◌, append-nil, append_assoc, take_all, ◌≤◌, arith}
use Rattle.std.proofs.lemmas.List.{get_or_at, get_or_append_left, length-map}
use Rattle.std.proofs.lemmas.Simd.{map-map}
use mathlib.Core.Path.{fun_ext}
use Rattle.sample_core.specs.Datum.{Datum}
use Rattle.leaf_core.specs.Expression.{Expression}
use Rattle.leaf_core.specs.ExpressionValue.{value_of}
use Rattle.net_meaning.specs.SignalFunction.{TimedList, values, pair_samples, SignalFunction, first_event, cut_at, step_of, route, resume, freeze_all, gather, pieces, Member, new_members, by_members, first_members, member_outputs}
use Rattle.net_tree.specs.Network.{Networks, no_members, and_member}
use Rattle.net_meaning.specs.Meaning.{with_olds, meaning, meanings}
use Rattle.net_meaning.specs.Typing.{members}
use Rattle.net_meaning.specs.Environment.{Environment, param, frozen, context_of}
use Rattle.net_meaning.specs.TypedNetwork.{outputs_of}
use Rattle.net_meaning.specs.SwitchLaws.{route_in, freeze_members, members_in, SwitchLaw, RestartLaw, FreezeLaw, FreezeMembersLaw, ResumeLaw, KeptNumbersLaw, LateRestartLaw, CollectionLaw, Runner, runners, runner_outputs}
use Rattle.net_meaning.proofs.Restarting.{restarting-at_once}
use Rattle.net_meaning.proofs.MappedMembers.{lift, new_members-map, by_members-map}

pub switch_outputs : SwitchLaw
switch_outputs tm f t E xs = refl

pub restart_outputs : RestartLaw
restart_outputs f t E xs = restarting-at_once (outputs_of f E) (λ c. outputs_of t (param E c)) xs

pub late_restart_outputs : LateRestartLaw
late_restart_outputs f t E xs = refl

-- a network in its environment as what it denotes
abbrev denoted : Runner → SignalFunction
denoted w = outputs_of w.0 w.1

denoted_members : (fs : Networks Expression) (E : Environment Expression) → map denoted (runners E fs) ≡ meanings value_of fs (context_of value_of E)
denoted_members no_members E = refl
denoted_members (and_member f fs) E = ap (λ gs. outputs_of f E ∷ gs) (denoted_members fs E)

denoted_outputs : (ms : List (Member Runner)) (q : TimedList) → member_outputs (lift denoted ms) q ≡ runner_outputs ms q
denoted_outputs ms q = ap (gather q) (map-map (λ m. drop (length m.1) (m.0 (m.1 ++ q))) (λ m. (denoted m.0, m.1)) ms)

-- as many as are written
length-denoted : (fs : Networks Expression) (E : Environment Expression) → length (runners E fs) ≡ members fs
length-denoted no_members E = refl
length-denoted (and_member f fs) E = ap suc (length-denoted fs E)

all_denoted : (fs : Networks Expression) (E : Environment Expression) → members fs ≤ 64 → first_members (meanings value_of fs (context_of value_of E)) ≡ lift denoted (new_members (runners E fs))
all_denoted fs E h =
    let new : List (Member Runner) = new_members (runners E fs) in
    let all : length (lift denoted new) ≡ length new = length-map new (λ m. (denoted m.0, m.1)) in
    let own : length new ≡ length (runners E fs) = length-map (runners E fs) (λ f. (f, [])) in
    ap first_members (sym (denoted_members fs E)) ∙ ap (take 64) (sym (new_members-map denoted (runners E fs)))
    ∙ take_all 64 (lift denoted new) (omega (arith, length-denoted fs E))

pub collection_outputs : CollectionLaw
collection_outputs fs m t E xs h =
    ap (λ ls. by_members member_outputs (route_in E m) (λ v. outputs_of t (param E v)) ls (pieces xs).0 (pieces xs).1) (all_denoted fs E h)
    ∙ by_members-map denoted runner_outputs member_outputs denoted_outputs (route_in E m) (λ v. (t, param E v)) (new_members (runners E fs)) (pieces xs).0 (pieces xs).1

pub freeze_outputs : FreezeLaw
freeze_outputs f e t E xs = refl

pub frozen_in : (E : Environment Expression) (r : Expression) (i : ℕ) (fs : Networks Expression) (p : TimedList) (d : ℕ) (F : Environment Expression)
    → context_of value_of (freeze_members E r i fs p d F)
    ≡ with_olds (context_of value_of F) (freeze_all (route_in E r) i (meanings value_of fs (context_of value_of E)) p d)
frozen_in E r i no_members p d F = ap (λ os. record (context_of value_of F) { olds = os }) (sym (append-nil (context_of value_of F).olds))
frozen_in E r i (and_member f fs) p d F =
    frozen_in E r (suc i) fs p d (frozen F f E (route (route_in E r) i p) d)
    ∙ ap (λ os. record (context_of value_of F) { olds = os })
    (append_assoc (context_of value_of F).olds (resume (meaning value_of f (context_of value_of E)) (route (route_in E r) i p) d ∷ [])
    (freeze_all (route_in E r) (suc i) (meanings value_of fs (context_of value_of E)) p d))

pub freeze_members_outputs : FreezeMembersLaw
freeze_members_outputs r fs e t E xs =
    let ys : List Datum = members_in E r fs xs in
    ap (cut_at (first_event (outputs_of e E (pair_samples xs ys))) ys)
    (fun_ext λ n. fun_ext λ c. ap (λ ctx. take n ys ++ meaning value_of t ctx (drop n xs))
    (sym (frozen_in E r 0 fs (take n xs) (step_of (drop n xs)) (param E c))))

pub resume_outputs : ResumeLaw
resume_outputs E net F p d xs =
    let olds = (context_of value_of E).olds in ap (λ f. f xs) (get_or_at olds (resume (outputs_of net F) p d) [] values (length olds) refl)

pub kept_numbers : KeptNumbersLaw
kept_numbers E net F p d k xs h =
    ap (λ f. f xs) (get_or_append_left (context_of value_of E).olds (resume (outputs_of net F) p d ∷ []) values k h)
