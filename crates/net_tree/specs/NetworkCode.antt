-- The code of a network, from a code of its leaves, by which the check tells networks apart.
use Rattle.std.specs.Prelude.{◌≡◌, refl}
use Rattle.std.proofs.Common.{ap, arith}
use Rattle.std.specs.Coded.{Coded}
use base.Stored.{Gv, gnil, gnum, gcons, num, coded_via}
use denote.Struct.Codes.{itself}
use Rattle.sample_core.specs.CodeNode.{node, tag_of, part0, part1, part2, part3, head_of, rest_of}
use Rattle.net_tree.specs.Network.{Network, Networks, arr, seq, first, par, loop_pre, initial_out, initial_in, i_pre, delay, hold, accum_by, after, repeatedly, time, integral, at_once, delayed, switch, r_switch, rp_switch, k_switch, p_switch, old, no_members, and_member}

module _ {L : Type 0} (c : Coded L) where
  abbrev mutual
    -- a network's code: the number of its form, and then its parts
    pub to_code : Network L → Gv
    to_code (arr e) = node 0 (c.code e) gnil gnil gnil
    to_code (seq f g) = node 1 (to_code f) (to_code g) gnil gnil
    to_code (first f) = node 2 (to_code f) gnil gnil gnil
    to_code (par fs) = node 3 (to_codes fs) gnil gnil gnil
    to_code (loop_pre e f) = node 4 (c.code e) (to_code f) gnil gnil
    to_code (i_pre e) = node 5 (c.code e) gnil gnil gnil
    to_code (delay q e) = node 6 (gnum q) (c.code e) gnil gnil
    to_code (hold e) = node 7 (c.code e) gnil gnil gnil
    to_code (accum_by g z) = node 8 (c.code g) (c.code z) gnil gnil
    to_code (after q e) = node 9 (gnum q) (c.code e) gnil gnil
    to_code (repeatedly q e) = node 10 (gnum q) (c.code e) gnil gnil
    to_code time = node 11 gnil gnil gnil gnil
    to_code integral = node 12 gnil gnil gnil gnil
    to_code (switch at_once f t) = node 13 (to_code f) (to_code t) gnil gnil
    to_code (switch delayed f t) = node 14 (to_code f) (to_code t) gnil gnil
    to_code (r_switch at_once f t) = node 15 (to_code f) (to_code t) gnil gnil
    to_code (r_switch delayed f t) = node 21 (to_code f) (to_code t) gnil gnil
    to_code (k_switch f e t) = node 16 (to_code f) (to_code e) (to_code t) gnil
    to_code (p_switch r fs e t) = node 17 (c.code r) (to_codes fs) (to_code e) (to_code t)
    to_code (old k) = node 18 (gnum k) gnil gnil gnil
    to_code (initial_out e f) = node 19 (c.code e) (to_code f) gnil gnil
    to_code (initial_in e f) = node 20 (c.code e) (to_code f) gnil gnil
    to_code (rp_switch fs m t) = node 22 (to_codes fs) (c.code m) (to_code t) gnil

    -- the code of members
    pub to_codes : Networks L → Gv
    to_codes no_members = gnil
    to_codes (and_member f fs) = gcons (to_code f) (to_codes fs)

  mutual
    -- networks with one code are the same
    pub to_code_inj : (x y : Network L) → to_code x ≡ to_code y → x ≡ y
    to_code_inj (arr a) (arr b) e = ap arr (c.inj a b (ap part0 e))
    to_code_inj (seq f g) (seq f' g') e = λ i.
        seq (to_code_inj f f' (ap part0 e) i) (to_code_inj g g' (ap part1 e) i)
    to_code_inj (first f) (first f') e = ap first (to_code_inj f f' (ap part0 e))
    to_code_inj (par fs) (par fs') e = ap par (to_codes_inj fs fs' (ap part0 e))
    to_code_inj (loop_pre a f) (loop_pre b f') e = λ i.
        loop_pre (c.inj a b (ap part0 e) i) (to_code_inj f f' (ap part1 e) i)
    to_code_inj (i_pre a) (i_pre b) e = ap i_pre (c.inj a b (ap part0 e))
    to_code_inj (delay q a) (delay q' b) e = λ i.
        delay (num (part0 (e i))) (c.inj a b (ap part1 e) i)
    to_code_inj (hold a) (hold b) e = ap hold (c.inj a b (ap part0 e))
    to_code_inj (accum_by g z) (accum_by g' z') e = λ i.
        accum_by (c.inj g g' (ap part0 e) i) (c.inj z z' (ap part1 e) i)
    to_code_inj (after q a) (after q' b) e = λ i.
        after (num (part0 (e i))) (c.inj a b (ap part1 e) i)
    to_code_inj (repeatedly q a) (repeatedly q' b) e = λ i.
        repeatedly (num (part0 (e i))) (c.inj a b (ap part1 e) i)
    to_code_inj time time e = refl
    to_code_inj integral integral e = refl
    to_code_inj (switch at_once f t) (switch at_once f' t') e = λ i.
        switch at_once (to_code_inj f f' (ap part0 e) i) (to_code_inj t t' (ap part1 e) i)
    to_code_inj (switch delayed f t) (switch delayed f' t') e = λ i.
        switch delayed (to_code_inj f f' (ap part0 e) i) (to_code_inj t t' (ap part1 e) i)
    to_code_inj (r_switch at_once f t) (r_switch at_once f' t') e = λ i.
        r_switch at_once (to_code_inj f f' (ap part0 e) i) (to_code_inj t t' (ap part1 e) i)
    to_code_inj (r_switch delayed f t) (r_switch delayed f' t') e = λ i.
        r_switch delayed (to_code_inj f f' (ap part0 e) i) (to_code_inj t t' (ap part1 e) i)
    to_code_inj (k_switch f g t) (k_switch f' g' t') e = λ i.
        k_switch (to_code_inj f f' (ap part0 e) i) (to_code_inj g g' (ap part1 e) i)
        (to_code_inj t t' (ap part2 e) i)
    to_code_inj (p_switch r fs g t) (p_switch r' fs' g' t') e = λ i.
        p_switch (c.inj r r' (ap part0 e) i) (to_codes_inj fs fs' (ap part1 e) i)
        (to_code_inj g g' (ap part2 e) i) (to_code_inj t t' (ap part3 e) i)
    to_code_inj (old k) (old k') e = ap old (ap num (ap part0 e))
    to_code_inj (initial_out a f) (initial_out b f') e = λ i.
        initial_out (c.inj a b (ap part0 e) i) (to_code_inj f f' (ap part1 e) i)
    to_code_inj (initial_in a f) (initial_in b f') e = λ i.
        initial_in (c.inj a b (ap part0 e) i) (to_code_inj f f' (ap part1 e) i)
    to_code_inj (rp_switch fs m t) (rp_switch fs' m' t') e = λ i.
        rp_switch (to_codes_inj fs fs' (ap part0 e) i) (c.inj m m' (ap part1 e) i)
        (to_code_inj t t' (ap part2 e) i)
    to_code_inj _ (switch at_once _ _) e = absurd (omega (arith, ap tag_of e))
    to_code_inj _ (r_switch at_once _ _) e = absurd (omega (arith, ap tag_of e))
    to_code_inj _ _ e = absurd (omega (arith, ap tag_of e))

    -- members with one code are the same
    pub to_codes_inj : (x y : Networks L) → to_codes x ≡ to_codes y → x ≡ y
    to_codes_inj no_members no_members e = refl
    to_codes_inj (and_member x fs) (and_member y gs) e = λ i.
        and_member (to_code_inj x y (ap head_of e) i) (to_codes_inj fs gs (ap rest_of e) i)
    to_codes_inj _ _ e = cc

  -- networks told apart by their codes
  abbrev pub network_code : Coded (Network L)
  network_code = coded_via itself to_code to_code_inj

  -- members told apart by their codes
  abbrev pub networks_code : Coded (Networks L)
  networks_code = coded_via itself to_codes to_codes_inj
