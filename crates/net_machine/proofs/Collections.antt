-- What `rpSwitchB`'s steps answer on samples: its members', each behind the samples that it has got.
use Rattle.std.proofs.Common.{◌≡◌, ◌≤◌, ℕ, suc, ◌+◌, min, Bool, true, false, List, [], ◌∷◌, ◌++◌, map, length, take, drop, inl, inr, refl, sym, ap, ap₂, ◌∙◌, arith, append_assoc, length-append, length-take, take_all}
use Rattle.std.proofs.Math.Path.{fun_ext}
use Rattle.std.proofs.lemmas.List.{drop-drop, length-map, take-map, map-append}
use Rattle.std.proofs.lemmas.Simd.{map-map}
use Rattle.sample_core.specs.Datum.{Datum, left, right, list, list_of, items_of}
use Rattle.net_meaning.specs.SignalFunction.{TimedList, SignalFunction, Pieces, put_sample, pieces, heads, tails, gather, Member, items_named, new_members, chosen, moved, by_members, member_outputs, first_members, rp_switch_function}
use Rattle.net_meaning.proofs.RelatedMembers.{AllRelated, no_member, and_member, rows_of, any_values, related-selected, related-moved}
use Rattle.net_meaning.proofs.MappedMembers.{items_named-map}
use Rattle.net_machine.specs.Store.{Store, Origin, made, nothing, Entry, entries, stored}
use Rattle.net_machine.specs.Stepper.{Stepper, moment, run, event_beside, step_at, member_step, Turn, turns, written_from, members_at, chosen_turns, turns_step, collected, members_in, rp_switch_step}
use Rattle.net_machine.proofs.Plain.{signals}
use Rattle.net_machine.proofs.Restarts.{quiet_or_cut}

-- both go on alike, each behind its samples
abbrev GoOn : Member SignalFunction → Member SignalFunction → Type 0
GoOn m n = (q : TimedList) → drop (length m.1) (m.0 (m.1 ++ q)) ≡ drop (length n.1) (n.0 (n.1 ++ q))

drop-behind : (f : SignalFunction) (p q r : TimedList) → drop (length (p ++ q)) (f ((p ++ q) ++ r)) ≡ drop (length q) (drop (length p) (f (p ++ (q ++ r))))
drop-behind f p q r =
    ap₂ (λ n ys. drop n (f ys)) (length-append p q) (append_assoc p q r)
    ∙ sym (drop-drop (length q) (length p) (f (p ++ (q ++ r))))

go_on-moved : (q : TimedList) (m n : Member SignalFunction) → GoOn m n → GoOn (m.0, m.1 ++ q) (n.0, n.1 ++ q)
go_on-moved q m n k r = drop-behind m.0 m.1 q r ∙ ap (drop (length q)) (k (q ++ r)) ∙ sym (drop-behind n.0 n.1 q r)

rows-alike : (q : TimedList) (ms ns : List (Member SignalFunction)) → AllRelated GoOn ms ns → rows_of ms q ≡ rows_of ns q
rows-alike q ms ns no_member = refl
rows-alike q ms ns (and_member {ms = ms'} {ms' = ns'} k ks) = ap₂ (λ v vs. v ∷ vs) (k q) (rows-alike q ms' ns' ks)

-- what an event chooses of alike members
abbrev goes : (Datum → SignalFunction) → List (Member SignalFunction) → TimedList → Datum → List (Member SignalFunction)
goes T ms q w = chosen T (moved ms q) w

chosen-alike : (T : Datum → SignalFunction) (w : Datum) (ms ns : List (Member SignalFunction)) → AllRelated GoOn ms ns → AllRelated GoOn (chosen T ms w) (chosen T ns w)
chosen-alike T w ms ns k = related-selected GoOn (λ v. Unit {0}) T T (λ v u q. refl) ms ns w k (any_values (items_of (right w)))

members-alike : (r : Datum → Datum) (T : Datum → SignalFunction) (q : TimedList) (ps : List (Datum × TimedList)) (ms ns : List (Member SignalFunction)) → AllRelated GoOn ms ns
    → by_members member_outputs r T ms q ps ≡ by_members member_outputs r T ns q ps
members-alike r T q [] ms ns k = ap (gather q) (rows-alike q ms ns k)
members-alike r T q (p ∷ ps) ms ns k =
    ap₂ (λ vs ws. vs ++ ws) (ap (gather q) (rows-alike q ms ns k))
    (members-alike r T p.1 ps (goes T ms q (r p.0)) (goes T ns q (r p.0))
    (chosen-alike T (r p.0) (moved ms q) (moved ns q) (related-moved GoOn GoOn q q (go_on-moved q) ms ns k)))

-- at most 64 are taken
pub few-taken : {A : Type 0} (xs : List A) → length (take 64 xs) ≤ 64
few-taken xs = let e : length (take 64 xs) ≡ min 64 (length xs) = length-take 64 xs in omega arith

pub entries-stored : (es : List Entry) → entries (stored es) ≡ es
entries-stored [] = refl
entries-stored (e ∷ es) = ap (λ fs. e ∷ fs) (entries-stored es)

-- a member that goes on, or that has had no sample yet
abbrev pub Standing : Type 0
Standing = Bool × Entry

-- at a sample with this step
abbrev timed : ℕ → Standing → Turn
timed d l = (moment l.0 d, l.1)

-- one that goes on, and a new one
abbrev old_one : Entry → Standing
old_one e = (true, e)

abbrev new_one : Origin → Standing
new_one o = (false, (o, nothing))

-- what an event chooses
abbrev chosen_ones : List Standing → Datum → List Standing
chosen_ones ls w = take 64 (items_named ls (items_of (left w)) ++ map new_one (map made (items_of (right w))))

chosen-timed : (d : ℕ) (ls : List Standing) (w : Datum) → chosen_turns (map (timed d) ls) w ≡ map (timed d) (chosen_ones ls w)
chosen-timed d ls w =
    let ks : List Standing = items_named ls (items_of (left w)) in
    let os : List Origin = map made (items_of (right w)) in
    ap (take 64) (ap₂ (λ as' bs. as' ++ bs) (items_named-map (timed d) ls (items_of (left w))) (sym (map-map (timed d) new_one os))
    ∙ sym (map-append (timed d) ks (map new_one os)))
    ∙ take-map (timed d) 64 (ks ++ map new_one os)

module _ (r : Datum → Datum) (fs : List Stepper) (t : Datum → Stepper) (T : Datum → SignalFunction)
    (h : (c : Datum) (a : Store) (xs : TimedList) → run (t c) false a xs ≡ T c xs) where
  abbrev F : Origin → Stepper
  F = member_step fs t

  -- a member of the machine as one of the signals
  abbrev signal : Standing → Member SignalFunction
  signal l = (run (F l.1.0) l.0 l.1.1, [])

  abbrev lifted : List Standing → List (Member SignalFunction)
  lifted ls = map signal ls

  -- what the members keep and answer at a sample
  abbrev stepped : List Standing → ℕ × Datum → List Entry × List Datum
  stepped ls x = turns_step F (map (timed x.0) ls) x.1

  -- the members after it
  abbrev next : List Standing → ℕ × Datum → List Standing
  next ls x = map old_one (stepped ls x).0

  heads-next : (ls : List Standing) (x : ℕ × Datum) (q : TimedList) → heads (rows_of (lifted ls) (x ∷ q)) ≡ (stepped ls x).1
  heads-next [] x q = refl
  heads-next (l ∷ ls) x q = ap (λ vs. (F l.1.0 l.1.1 (moment l.0 x.0, x.1)).1 ∷ vs) (heads-next ls x q)

  tails-next : (ls : List Standing) (x : ℕ × Datum) (q : TimedList) → tails (rows_of (lifted ls) (x ∷ q)) ≡ rows_of (lifted (next ls x)) q
  tails-next [] x q = refl
  tails-next (l ∷ ls) x q = ap (λ rows. run (F l.1.0) true (F l.1.0 l.1.1 (moment l.0 x.0, x.1)).0 q ∷ rows) (tails-next ls x q)

  outputs-next : (ls : List Standing) (x : ℕ × Datum) (q : TimedList)
      → member_outputs (lifted ls) (x ∷ q) ≡ list (list_of (stepped ls x).1) ∷ member_outputs (lifted (next ls x)) q
  outputs-next ls x q = ap₂ (λ vs rows. list (list_of vs) ∷ gather q rows) (heads-next ls x q) (tails-next ls x q)

  moved-next : (ls : List Standing) (x : ℕ × Datum) (q : TimedList) → AllRelated GoOn (moved (lifted ls) (x ∷ q)) (moved (lifted (next ls x)) q)
  moved-next [] x q = no_member
  moved-next (l ∷ ls) x q = and_member (λ r. refl) (moved-next ls x q)

  -- one sample more of a piece
  members-next : (ls : List Standing) (x : ℕ × Datum) (q : TimedList) (ps : List (Datum × TimedList))
      → by_members member_outputs r T (lifted ls) (x ∷ q) ps
      ≡ list (list_of (stepped ls x).1) ∷ by_members member_outputs r T (lifted (next ls x)) q ps
  members-next ls x q [] = outputs-next ls x q
  members-next ls x q (p ∷ ps) =
      ap₂ (λ vs ws. vs ++ ws) (outputs-next ls x q)
      (members-alike r T p.1 ps (goes T (lifted ls) (x ∷ q) (r p.0)) (goes T (lifted (next ls x)) q (r p.0))
      (chosen-alike T (r p.0) (moved (lifted ls) (x ∷ q)) (moved (lifted (next ls x)) q) (moved-next ls x q)))

  lifted-new : (vs : List Datum) → lifted (map new_one (map made vs)) ≡ new_members (map T vs)
  lifted-new [] = refl
  lifted-new (v ∷ vs) = ap₂ (λ (g : SignalFunction) (ms : List (Member SignalFunction)). (g, []) ∷ ms) (fun_ext (h v nothing)) (lifted-new vs)

  moved-none : (ls : List Standing) → moved (lifted ls) [] ≡ lifted ls
  moved-none ls = map-map (λ m. (m.0, m.1 ++ [])) signal ls

  chosen-lifted : (ls : List Standing) (w : Datum) → goes T (lifted ls) [] w ≡ lifted (chosen_ones ls w)
  chosen-lifted ls w =
      let ks : List Standing = items_named ls (items_of (left w)) in
      let ns : List Standing = map new_one (map made (items_of (right w))) in
      ap (λ ms. chosen T ms w) (moved-none ls)
      ∙ ap (take 64) (ap₂ (λ as' bs. as' ++ bs) (items_named-map signal ls (items_of (left w))) (sym (lifted-new (items_of (right w))))
      ∙ sym (map-append signal ks ns))
      ∙ take-map signal 64 (ks ++ ns)

  -- the members of a store
  abbrev Holds : Bool → Store → List Standing → Type 0
  Holds b s ls = (d : ℕ) → members_at (moment b d) fs s ≡ map (timed d) ls

  holds-stored : (es : List Entry) → length es ≤ 64 → Holds true (stored es) (map old_one es)
  holds-stored es l d =
      ap (λ fs. turns (moment true d) (take 64 fs)) (entries-stored es) ∙ ap (turns (moment true d)) (take_all 64 es l)
      ∙ sym (map-map (timed d) old_one es)

  length-stepped : (ls : List Standing) (x : ℕ × Datum) → length (stepped ls x).0 ≡ length ls
  length-stepped [] x = refl
  length-stepped (l ∷ ls) x = ap suc (length-stepped ls x)

  few-stepped : (ls : List Standing) (x : ℕ × Datum) → length ls ≤ 64 → length (stepped ls x).0 ≤ 64
  few-stepped ls x l = let e : length (stepped ls x).0 ≡ length ls = length-stepped ls x in omega arith

  few-next : (ls : List Standing) (x : ℕ × Datum) → length ls ≤ 64 → length (next ls x) ≤ 64
  few-next ls x l =
      let e : length (next ls x) ≡ length (stepped ls x).0 = length-map (stepped ls x).0 old_one in
      let k : length (stepped ls x).0 ≤ 64 = few-stepped ls x l in
      omega arith

  run-on : (b : Bool) (s : Store) (ls : List Standing) → Holds b s ls → length ls ≤ 64 → (xs : TimedList)
      → run (rp_switch_step r fs t) b s xs ≡ by_members member_outputs r T (lifted ls) (pieces xs).0 (pieces xs).1
  run-on b s ls i l [] = refl
  run-on b s ls i l (x ∷ xs) =
      let P : Pieces = pieces xs in
      let on : Store × Datum → List Datum = λ o. o.1 ∷ run (rp_switch_step r fs t) true o.0 xs in
      let whole : Pieces → List Datum = λ p. by_members member_outputs r T (lifted ls) p.0 p.1 in
      let by : Datum → List Turn → List Datum = λ u ms. on (collected (turns_step F ms u)) in
      let ran : (ls : List Standing) (z : ℕ × Datum) → length ls ≤ 64 → on (collected (stepped ls z)) ≡ by_members member_outputs r T (lifted ls) (z ∷ P.0) P.1 =
      λ ls z k.
      ap (λ vs. list (list_of (stepped ls z).1) ∷ vs) (run-on true (stored (stepped ls z).0) (next ls z) (holds-stored (stepped ls z).0 (few-stepped ls z k)) (few-next ls z k) xs)
      ∙ sym (members-next ls z P.0 P.1) in
      ap (λ ms. by (left x.1) (members_in r ms (event_beside x.1))) (i x.0)
      ∙ elim (quiet_or_cut x.1) [
        | inl q ↦
            ap (λ o. by (left x.1) (members_in r (map (timed x.0) ls) o)) q.0
            ∙ ran ls (x.0, left x.1) l ∙ sym (ap whole (q.1 x.0 P))
        | inr e ↦
            ap (λ v. by (left v) (members_in r (map (timed x.0) ls) (event_beside v))) e.2
            ∙ ap (by e.0) (chosen-timed x.0 ls (r e.1))
            ∙ ran (chosen_ones ls (r e.1)) (x.0, e.0) (few-taken _)
            ∙ ap (λ ms. by_members member_outputs r T ms ((x.0, e.0) ∷ P.0) P.1) (sym (chosen-lifted ls (r e.1)))
            ∙ sym (ap (λ v. whole (put_sample x.0 v P)) e.2)
      ]

  -- the members that are written, from number k on
  lifted-written : (k : ℕ) (gs : List Stepper) → ((j : ℕ) → step_at fs (k + j) ≡ step_at gs j)
      → lifted (map new_one (written_from k gs)) ≡ new_members (signals gs false nothing)
  lifted-written k [] e = refl
  lifted-written k (g ∷ gs) e =
      let zero_on : k + 0 ≡ k = omega arith in
      let here : step_at fs k ≡ g = ap (step_at fs) (sym zero_on) ∙ e 0 in
      ap₂ (λ (f : Stepper) (ms : List (Member SignalFunction)). (run f false nothing, []) ∷ ms) here
      (lifted-written (suc k) gs (λ j. let n : suc k + j ≡ k + suc j = omega arith in ap (step_at fs) n ∙ e (suc j)))

  -- the members that a collection starts with
  abbrev first_ones : List Standing
  first_ones = take 64 (map new_one (written_from 0 fs))

  lifted-first : lifted first_ones ≡ first_members (signals fs false nothing)
  lifted-first =
      sym (take-map signal 64 (map new_one (written_from 0 fs)))
      ∙ ap (take 64) (lifted-written 0 fs (λ j. let n : 0 + j ≡ j = omega arith in ap (step_at fs) n))

  holds-first : (s : Store) → Holds false s first_ones
  holds-first s d = ap (take 64) (sym (map-map (timed d) new_one (written_from 0 fs))) ∙ take-map (timed d) 64 (map new_one (written_from 0 fs))

  pub run-rp_switch : (s : Store) (xs : TimedList) → run (rp_switch_step r fs t) false s xs ≡ rp_switch_function r (signals fs false nothing) T xs
  run-rp_switch s xs =
      run-on false s first_ones (holds-first s) (few-taken _) xs
      ∙ ap (λ ms. by_members member_outputs r T ms (pieces xs).0 (pieces xs).1) lifted-first
