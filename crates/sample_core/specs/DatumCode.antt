-- The code of a value, by which the check tells values apart.
use Rattle.std.specs.Prelude.{◌≡◌, ℕ, zero, suc, true, false, refl, pos, negsuc}
use Rattle.std.proofs.Common.{ap}
use Rattle.std.specs.Coded.{Coded, code_by}
use base.Stored.{Gv, gnil, gnum, gcons, num}
use denote.Struct.Codes.{itself}
use Rattle.sample_core.specs.Datum.{Datum, Datums, unit, bool, int, pair, no_event, event, list, end, more}

abbrev mutual
  -- a value's code: the number of its form, and then its parts
  pub to_code : Datum → Gv
  to_code unit = gcons (gnum 0) (gcons gnil gnil)
  to_code (bool true) = gcons (gnum 1) (gcons gnil gnil)
  to_code (bool false) = gcons (gnum 2) (gcons gnil gnil)
  to_code (int (pos n)) = gcons (gnum 3) (gcons (gnum n) gnil)
  to_code (int (negsuc n)) = gcons (gnum 4) (gcons (gnum n) gnil)
  to_code (pair v w) = gcons (gnum 5) (gcons (to_code v) (to_code w))
  to_code no_event = gcons (gnum 6) (gcons gnil gnil)
  to_code (event v) = gcons (gnum 7) (gcons (to_code v) gnil)
  to_code (list vs) = gcons (gnum 8) (gcons (to_codes vs) gnil)

  -- the code of the elements of a list
  pub to_codes : Datums → Gv
  to_codes end = gnil
  to_codes (more v vs) = gcons (to_code v) (to_codes vs)

-- the value of the form with that number, from the parts given
abbrev pub value_of_form : ℕ → ℕ → Datum → Datum → Datums → Datum
value_of_form zero n v w vs = unit
value_of_form (suc zero) n v w vs = bool true
value_of_form (suc (suc zero)) n v w vs = bool false
value_of_form (suc (suc (suc zero))) n v w vs = int (pos n)
value_of_form (suc (suc (suc (suc zero)))) n v w vs = int (negsuc n)
value_of_form (suc (suc (suc (suc (suc zero))))) n v w vs = pair v w
value_of_form (suc (suc (suc (suc (suc (suc zero)))))) n v w vs = no_event
value_of_form (suc (suc (suc (suc (suc (suc (suc zero))))))) n v w vs = event v
value_of_form (suc (suc (suc (suc (suc (suc (suc (suc k)))))))) n v w vs = list vs

abbrev mutual
  -- the value that a code stands for
  pub of_code : Gv → Datum
  of_code gnil = unit
  of_code (gnum n) = unit
  of_code (gcons t gnil) = unit
  of_code (gcons t (gnum n)) = unit
  of_code (gcons t (gcons a b)) = value_of_form (num t) (num a) (of_code a) (of_code b) (of_codes a)

  -- the elements that a code stands for
  pub of_codes : Gv → Datums
  of_codes gnil = end
  of_codes (gnum n) = end
  of_codes (gcons a b) = more (of_code a) (of_codes b)

mutual
  -- a value's code stands for that value
  pub of_code-to_code : (v : Datum) → of_code (to_code v) ≡ v
  of_code-to_code unit = refl
  of_code-to_code (bool true) = refl
  of_code-to_code (bool false) = refl
  of_code-to_code (int (pos n)) = refl
  of_code-to_code (int (negsuc n)) = refl
  of_code-to_code (pair v w) = λ i. pair (of_code-to_code v i) (of_code-to_code w i)
  of_code-to_code no_event = refl
  of_code-to_code (event v) = ap event (of_code-to_code v)
  of_code-to_code (list vs) = ap list (of_codes-to_codes vs)

  -- the code of elements stands for those elements
  pub of_codes-to_codes : (vs : Datums) → of_codes (to_codes vs) ≡ vs
  of_codes-to_codes end = refl
  of_codes-to_codes (more v vs) = λ i. more (of_code-to_code v i) (of_codes-to_codes vs i)

-- values told apart by their codes
abbrev pub datum_code : Coded Datum
datum_code = code_by Gv itself to_code of_code of_code-to_code
