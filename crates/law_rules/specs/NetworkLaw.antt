-- The laws of networks: each relates its left side to its right side. A letter stands for any
-- tree, type or number, typed or not.
use Rattle.std.specs.Prelude.{◌≡◌, ℕ, suc, ◌≤◌, pos, Some}
use Rattle.sample_core.specs.TypeTree.{TypeTree}
use Rattle.leaf_core.specs.Expression.{Expression, Expressions, input, unit_expr, int_expr, pair_expr, fst, snd, then_expr, no_event_expr, event_expr, on, list_expr, nth, no_more, and_then}
use Rattle.net_tree.specs.Network.{Network, Networks, arr, seq, first, par, loop_pre, initial_out, initial_in, i_pre, delay, hold, accum_by, after, repeatedly, time, integral, at_once, delayed, switch, r_switch, rp_switch, k_switch, p_switch, old, no_members, and_member}
use Rattle.net_meaning.specs.Typing.{members}
use Rattle.net_tree.specs.Place.{member}

-- (a, b) to (b, a)
abbrev pub swap : Expression
swap = pair_expr (snd input) (fst input)

-- ((a, b), c) to (a, (b, c))
abbrev pub assoc : Expression
assoc = pair_expr (fst (fst input)) (pair_expr (snd (fst input)) (snd input))

-- (a, (b, c)) to ((a, b), c)
abbrev pub unassoc : Expression
unassoc = pair_expr (pair_expr (fst input) (fst (snd input))) (snd (snd input))

-- ((a, b), c) to ((a, c), b)
abbrev pub cross : Expression
cross = pair_expr (pair_expr (fst (fst input)) (snd input)) (snd (fst input))

-- a to (a, a)
abbrev pub copied : Expression
copied = pair_expr input input

-- g on the left part of a pair
abbrev pub left_by : Expression → Expression
left_by g = pair_expr (then_expr (fst input) g) (snd input)

-- g on the right part of a pair
abbrev pub right_by : Expression → Expression
right_by g = pair_expr (fst input) (then_expr (snd input) g)

-- g on what an event carries; T is the type that `none` is written with
abbrev pub event_by : TypeTree → Expression → Expression
event_by T g = on input (no_event_expr T) (event_expr (then_expr (snd input) g))

-- of an event and a state, what `hold` outputs and keeps: twice what the event carries, or the state
-- if there is no event
abbrev pub held_next : Expression
held_next = on (fst input) (pair_expr (snd input) (snd input)) (pair_expr (snd input) (snd input))

-- of an event and an accumulator, what `accumBy` outputs and keeps; Z is the type that `none` is
-- written with
abbrev pub accumulated_next : TypeTree → Expression → Expression
accumulated_next Z g = on (fst input) (pair_expr (no_event_expr Z) (snd input))
    (then_expr (pair_expr (snd (fst input)) (snd input))
    (then_expr g (pair_expr (event_expr input) input)))

-- of an event and an accumulator, what an `accumBy` that is held outputs and keeps
abbrev pub held_accumulated : Expression → Expression
held_accumulated g = on (fst input) (pair_expr (snd input) (snd input))
    (then_expr (pair_expr (snd (fst input)) (snd input)) (then_expr g copied))

-- what the route r gives to member i
abbrev pub route_to : Expression → ℕ → Expression
route_to r i = then_expr (pair_expr input (int_expr (pos i))) r

-- the members from number i on, each behind its route
abbrev pub behind_routes : Expression → ℕ → Networks Expression → Networks Expression
behind_routes r i no_members = no_members
behind_routes r i (and_member f fs) =
    and_member (seq (arr (route_to r i)) f) (behind_routes r (suc i) fs)

-- h before each member
abbrev pub each_after : Network Expression → Networks Expression → Networks Expression
each_after h no_members = no_members
each_after h (and_member f fs) = and_member (seq h f) (each_after h fs)

-- `arr` of each element
abbrev pub each_arr : Expressions → Networks Expression
each_arr no_more = no_members
each_arr (and_then e es) = and_member (arr e) (each_arr es)

-- how many elements there are
abbrev pub count : Expressions → ℕ
count no_more = 0
count (and_then e es) = suc (count es)

-- what goes by the steps alone, whatever the samples are
pub data SeesSteps : Network Expression → Type 0 where
  after_sees : {q : ℕ} {c : Expression} → SeesSteps (after q c)
  repeatedly_sees : {q : ℕ} {c : Expression} → SeesSteps (repeatedly q c)
  time_sees : SeesSteps time

-- the law's number, how many frozen networks are in scope, the left side and the right side
pub data NetworkLaw : ℕ → ℕ → Network Expression → Network Expression → Type 0 where
  law_l1 : {olds : ℕ} {f : Network Expression} → NetworkLaw 1 olds (seq (arr input) f) f
  law_l2 : {olds : ℕ} {f : Network Expression} → NetworkLaw 2 olds (seq f (arr input)) f
  law_l3 : {olds : ℕ} {f g h : Network Expression}
      → NetworkLaw 3 olds (seq (seq f g) h) (seq f (seq g h))
  law_l4 : {olds : ℕ} {f g : Expression}
      → NetworkLaw 4 olds (seq (arr f) (arr g)) (arr (then_expr f g))
  law_l5 : {olds : ℕ} {f : Expression} → NetworkLaw 5 olds (first (arr f)) (arr (left_by f))
  law_l6 : {olds : ℕ} {f g : Network Expression}
      → NetworkLaw 6 olds (first (seq f g)) (seq (first f) (first g))
  law_l7 : {olds : ℕ} {f : Network Expression} {g : Expression}
      → NetworkLaw 7 olds (seq (first f) (arr (right_by g))) (seq (arr (right_by g)) (first f))
  law_l8 : {olds : ℕ} {f : Network Expression}
      → NetworkLaw 8 olds (seq (first f) (arr (fst input))) (seq (arr (fst input)) f)
  law_l9 : {olds : ℕ} {f : Network Expression}
      → NetworkLaw 9 olds (seq (first (first f)) (arr assoc)) (seq (arr assoc) (first f))
  law_l10 : {olds : ℕ} {f g : Expression} {h : Network Expression}
      → NetworkLaw 10 olds (seq (arr f) (seq (arr g) h)) (seq (arr (then_expr f g)) h)
  law_l11 : {olds : ℕ} {c f : Expression}
      → NetworkLaw 11 olds (seq (i_pre c) (arr f)) (seq (arr f) (i_pre (then_expr c f)))
  law_l12 : {olds : ℕ} {c d : Expression}
      → NetworkLaw 12 olds (i_pre (pair_expr c d))
      (seq (first (i_pre c)) (seq (arr swap) (seq (first (i_pre d)) (arr swap))))
  law_l13 : {olds : ℕ} {c : Expression} {f h : Network Expression}
      → NetworkLaw 13 olds (seq h (loop_pre c f)) (loop_pre c (seq (first h) f))
  law_l14 : {olds : ℕ} {c : Expression} {f h : Network Expression}
      → NetworkLaw 14 olds (seq (loop_pre c f) h) (loop_pre c (seq f (first h)))
  law_l15 : {olds : ℕ} {d g : Expression} {f : Network Expression}
      → NetworkLaw 15 olds (loop_pre d (seq (arr (right_by g)) f))
      (loop_pre (then_expr d g) (seq f (arr (right_by g))))
  law_l16 : {olds : ℕ} {c d : Expression} {f : Network Expression}
      → NetworkLaw 16 olds (loop_pre c (loop_pre d f))
      (loop_pre (pair_expr c d) (seq (arr unassoc) (seq f (arr assoc))))
  law_l17 : {olds : ℕ} {c : Expression} {f : Network Expression}
      → NetworkLaw 17 olds (loop_pre c (first f)) f
  law_l18 : {olds : ℕ} {c e : Expression}
      → NetworkLaw 18 olds (seq (arr (event_expr e)) (hold c)) (arr e)
  law_l19 : {olds : ℕ} {T : TypeTree} {c : Expression}
      → NetworkLaw 19 olds (seq (arr (no_event_expr T)) (hold c)) (arr (then_expr unit_expr c))
  law_l20 : {olds : ℕ} {f s : Network Expression} → SeesSteps s → NetworkLaw 20 olds (seq f s) s
  law_l21 : {olds q : ℕ} {T : TypeTree} {c g : Expression}
      → NetworkLaw 21 olds (seq (after q c) (arr (event_by T g))) (after q (then_expr c g))
  law_l22 : {olds q : ℕ} {T : TypeTree} {c g : Expression}
      → NetworkLaw 22 olds (seq (repeatedly q c) (arr (event_by T g))) (repeatedly q (then_expr c g))
  law_l23 : {olds : ℕ} {T : TypeTree} {c g : Expression}
      → NetworkLaw 23 olds (seq (arr (event_by T g)) (hold (then_expr c g))) (seq (hold c) (arr g))
  law_l24 : {olds : ℕ} {T : TypeTree} {g h z : Expression}
      → NetworkLaw 24 olds (seq (arr (event_by T g)) (accum_by h z))
      (accum_by (then_expr (right_by g) h) z)
  law_l25 : {olds : ℕ} {e : Expression} {f : Network Expression}
      → NetworkLaw 25 olds (seq f (arr (then_expr unit_expr e))) (arr (then_expr unit_expr e))
  law_l26 : {olds q : ℕ} {c f : Expression}
      → NetworkLaw 26 olds (seq (delay q c) (arr f)) (seq (arr f) (delay q (then_expr c f)))
  law_l27 : {olds : ℕ} {h : Expression} {f t : Network Expression}
      → NetworkLaw 27 olds (seq (arr h) (switch at_once f t)) (switch at_once (seq (arr h) f) (seq (arr h) t))
  law_l28 : {olds : ℕ} {h : Expression} {f t : Network Expression}
      → NetworkLaw 28 olds (seq (arr h) (switch delayed f t)) (switch delayed (seq (arr h) f) (seq (arr h) t))
  law_l29 : {olds : ℕ} {h : Expression} {f t : Network Expression}
      → NetworkLaw 29 olds (seq (switch at_once f t) (arr h))
      (switch at_once (seq f (arr (left_by h))) (seq t (arr h)))
  law_l30 : {olds : ℕ} {h : Expression} {f t : Network Expression}
      → NetworkLaw 30 olds (seq (switch delayed f t) (arr h))
      (switch delayed (seq f (arr (left_by h))) (seq t (arr h)))
  law_l31 : {olds : ℕ} {C : TypeTree} {f t : Network Expression}
      → NetworkLaw 31 olds (switch at_once (seq f (arr (pair_expr input (no_event_expr C)))) t) f
  law_l32 : {olds : ℕ} {C : TypeTree} {f t : Network Expression}
      → NetworkLaw 32 olds (switch delayed (seq f (arr (pair_expr input (no_event_expr C)))) t) f
  law_l33 : {olds : ℕ} {f t : Network Expression}
      → NetworkLaw 33 olds (first (switch at_once f t))
      (switch at_once (seq (first f) (arr cross)) (first t))
  law_l34 : {olds : ℕ} {f t : Network Expression}
      → NetworkLaw 34 olds (first (switch delayed f t))
      (switch delayed (seq (first f) (arr cross)) (first t))
  law_l35 : {olds : ℕ} {C : TypeTree} {e : Expression} {f t : Network Expression}
      → NetworkLaw 35 olds (seq (arr (pair_expr e (no_event_expr C))) (r_switch at_once f t))
      (seq (arr e) f)
  law_l36 : {olds : ℕ} {h : Expression} {f t : Network Expression}
      → NetworkLaw 36 olds (seq (r_switch at_once f t) (arr h)) (r_switch at_once (seq f (arr h)) (seq t (arr h)))
  law_l37 : {olds : ℕ} {C : TypeTree} {f t : Network Expression}
      → NetworkLaw 37 olds (k_switch f (arr (no_event_expr C)) t) f
  law_l38 : {olds : ℕ} {f e : Network Expression} → NetworkLaw 38 olds (k_switch f e (old olds)) f
  law_l39 : {olds : ℕ} {C : TypeTree} {r : Expression} {fs : Networks Expression}
      {t : Network Expression} → 1 ≤ members fs → members fs ≤ 64
      → NetworkLaw 39 olds (p_switch r fs (arr (no_event_expr C)) t) (par (behind_routes r 0 fs))
  law_l40 : {olds i : ℕ} {d : Expression} {fs : Networks Expression} {f : Network Expression}
      → members fs ≤ 64 → member fs i ≡ Some f
      → NetworkLaw 40 olds (seq (par fs) (arr (nth input (int_expr (pos i)) d))) f
  law_l41 : {olds : ℕ} {h : Network Expression} {fs : Networks Expression}
      → 1 ≤ members fs → members fs ≤ 64
      → NetworkLaw 41 olds (seq h (par fs)) (par (each_after h fs))
  law_l42 : {olds : ℕ} {T : TypeTree} {es : Expressions} → 1 ≤ count es → count es ≤ 64
      → NetworkLaw 42 olds (arr (list_expr T es)) (par (each_arr es))
  law_l43 : {olds : ℕ} {c d : Expression} {f : Network Expression}
      → NetworkLaw 43 olds (initial_out c (initial_out d f)) (initial_out c f)
  law_l44 : {olds : ℕ} {c f : Expression}
      → NetworkLaw 44 olds (initial_in c (arr f)) (initial_out (then_expr c f) (arr f))
  law_l45 : {olds : ℕ} {h : Expression} {f t : Network Expression}
      → NetworkLaw 45 olds (seq (r_switch delayed f t) (arr h)) (r_switch delayed (seq f (arr h)) (seq t (arr h)))
  law_l46 : {olds : ℕ} {C : TypeTree} {e m : Expression} {fs : Networks Expression}
      {t : Network Expression} → 1 ≤ members fs → members fs ≤ 64
      → NetworkLaw 46 olds (seq (arr (pair_expr e (no_event_expr C))) (rp_switch fs m t))
      (seq (arr e) (par fs))
  law_l47 : {olds : ℕ} {c : Expression} {f : Network Expression}
      → NetworkLaw 47 olds (first (loop_pre c f))
      (loop_pre c (seq (arr cross) (seq (first f) (arr cross))))
  law_l48 : {olds : ℕ} {f g : Network Expression}
      → NetworkLaw 48 olds (seq (first f) (seq (arr swap) (seq (first g) (arr swap))))
      (seq (seq (arr swap) (seq (first g) (arr swap))) (first f))
  law_l49 : {olds : ℕ} {c : Expression} → NetworkLaw 49 olds (i_pre c) (loop_pre c (arr swap))
  law_l50 : {olds : ℕ} {c : Expression} → NetworkLaw 50 olds (hold c) (loop_pre c (arr held_next))
  law_l51 : {olds : ℕ} {Z : TypeTree} {g z : Expression}
      → NetworkLaw 51 olds (loop_pre z (arr (accumulated_next Z g))) (accum_by g z)
  law_l52 : {olds : ℕ} {f : Network Expression}
      → NetworkLaw 52 olds (seq f (arr copied))
      (seq (arr copied) (seq (first f) (seq (arr swap) (seq (first f) (arr swap)))))
  law_l53 : {olds : ℕ} {g z : Expression}
      → NetworkLaw 53 olds (seq (accum_by g z) (hold z)) (loop_pre z (arr (held_accumulated g)))
  law_l54 : {olds : ℕ} {C : TypeTree} {e : Expression} {f t : Network Expression}
      → NetworkLaw 54 olds (seq (arr (pair_expr e (no_event_expr C))) (r_switch delayed f t))
      (seq (arr e) f)
  law_l55 : {olds q : ℕ} {c d : Expression}
      → NetworkLaw 55 olds (delay q (pair_expr c d))
      (seq (first (delay q c)) (seq (arr swap) (seq (first (delay q d)) (arr swap))))
  law_l56 : {olds : ℕ} {h : Expression} {f t : Network Expression}
      → NetworkLaw 56 olds (seq (arr (left_by h)) (r_switch at_once f t))
      (r_switch at_once (seq (arr h) f) (seq (arr h) t))
  law_l57 : {olds : ℕ} {h : Expression} {f t : Network Expression}
      → NetworkLaw 57 olds (seq (arr (left_by h)) (r_switch delayed f t))
      (r_switch delayed (seq (arr h) f) (seq (arr h) t))
  law_l58 : {olds : ℕ} {c : Expression} {f g : Network Expression}
      → NetworkLaw 58 olds (initial_out c (seq f g)) (seq f (initial_out c g))
  law_l59 : {olds : ℕ} {c : Expression} {f g : Network Expression}
      → NetworkLaw 59 olds (initial_in c (seq f g)) (seq (initial_in c f) g)
  law_l60 : {olds : ℕ} {c : Expression} {f g : Network Expression}
      → NetworkLaw 60 olds (seq (initial_out c f) g) (seq f (initial_in c g))
  law_l61 : {olds : ℕ} {c d : Expression} → NetworkLaw 61 olds (initial_out c (i_pre d)) (i_pre c)
  law_l62 : {olds : ℕ} {T : TypeTree} {c : Expression}
      → NetworkLaw 62 olds (initial_out (event_expr c) (arr (no_event_expr T))) (after 0 c)
  law_l63 : {olds : ℕ}
      → NetworkLaw 63 olds (seq (arr (then_expr unit_expr (int_expr (pos 1)))) integral) time
  law_l64 : {olds : ℕ} {e v : Expression}
      → NetworkLaw 64 olds (switch at_once (arr (pair_expr e v)) (arr e)) (arr e)
  law_l65 : {olds : ℕ} {e v : Expression}
      → NetworkLaw 65 olds (switch delayed (arr (pair_expr e v)) (arr e)) (arr e)
