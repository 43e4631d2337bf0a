-- What a network denotes.
use Rattle.std.specs.Prelude.{ℕ, List, [], ◌∷◌, ◌++◌, map, get_or}
use Rattle.sample_core.specs.Datum.{Datum, unit}
use Rattle.net_meaning.specs.SignalFunction.{SignalFunction, values, by_past, i_pre_value, delay_value, latest_event, accum_by_value, after_value, repeatedly_value, time_value, integral_value, seq_function, first_function, par_function, loop_pre_function, switch_function, r_switch_function, initial_out_function, initial_in_function, rp_switch_function, k_switch_function, p_switch_function}
use Rattle.net_tree.specs.Network.{Network, Networks, arr, seq, first, par, loop_pre, initial_out, initial_in, i_pre, delay, hold, accum_by, after, repeatedly, time, integral, switch, r_switch, rp_switch, k_switch, p_switch, old, no_members, and_member}

-- what is in scope: the parameters, and what the frozen networks denote once resumed
pub record Context : Type 0 where
  pub params : List Datum
  pub olds : List SignalFunction

-- one parameter more
abbrev pub with_param : Context → Datum → Context
with_param E c = record E { params = E.params ++ c ∷ [] }

-- these frozen networks more
abbrev pub with_olds : Context → List SignalFunction → Context
with_olds E os = record E { olds = E.olds ++ os }

-- the frozen network k. Where there is none, the identity: a signal too
abbrev pub old_at : List SignalFunction → ℕ → SignalFunction
old_at fs k = get_or fs k values

abbrev mutual
  -- what a network denotes in a context, where val gives the leaves' values; one line a form
  pub meaning : {L : Type 0} → (L → List Datum → Datum → Datum) → Network L → Context
      → SignalFunction
  meaning val (arr e) E = λ xs. map (val e E.params) (values xs)
  meaning val (seq f g) E = seq_function (meaning val f E) (meaning val g E)
  meaning val (first f) E = first_function (meaning val f E)
  meaning val (par fs) E = par_function (meanings val fs E)
  meaning val (loop_pre c f) E = loop_pre_function (val c E.params unit) (meaning val f E)
  meaning val (i_pre c) E = by_past (i_pre_value (val c E.params unit))
  meaning val (delay q c) E = by_past (delay_value q (val c E.params unit))
  meaning val (hold c) E = by_past (λ p. latest_event (val c E.params unit) (values p))
  meaning val (accum_by g z) E = by_past (accum_by_value (val g E.params) (val z E.params unit))
  meaning val (after q c) E = by_past (after_value q (val c E.params unit))
  meaning val (repeatedly q c) E = by_past (repeatedly_value q (val c E.params unit))
  meaning val time E = by_past time_value
  meaning val integral E = by_past integral_value
  meaning val (switch tm f t) E =
      switch_function tm (meaning val f E) (λ c. meaning val t (with_param E c))
  meaning val (r_switch tm f t) E =
      r_switch_function tm (meaning val f E) (λ c. meaning val t (with_param E c))
  meaning val (k_switch f e t) E =
      k_switch_function (meaning val f E) (meaning val e E)
      (λ c o. meaning val t (with_olds (with_param E c) (o ∷ [])))
  meaning val (p_switch r fs e t) E =
      p_switch_function (val r E.params) (meanings val fs E) (meaning val e E)
      (λ c os. meaning val t (with_olds (with_param E c) os))
  meaning val (old k) E = old_at E.olds k
  meaning val (initial_out c f) E =
      initial_out_function (val c E.params unit) (meaning val f E)
  meaning val (initial_in c f) E = initial_in_function (val c E.params unit) (meaning val f E)
  meaning val (rp_switch fs m t) E =
      rp_switch_function (val m E.params) (meanings val fs E)
      (λ v. meaning val t (with_param E v))

  -- what each member denotes
  pub meanings : {L : Type 0} → (L → List Datum → Datum → Datum) → Networks L → Context
      → List SignalFunction
  meanings val no_members E = []
  meanings val (and_member f fs) E = meaning val f E ∷ meanings val fs E
