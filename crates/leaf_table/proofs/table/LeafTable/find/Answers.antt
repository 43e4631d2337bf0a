use Rattle.std.proofs.Common.{sym, ◌∙◌, true≢false}
use Rattle.std.proofs.lemmas.Map.Views.{IsSome-lookup_from_Contains}
use Rattle.leaf_core.specs.KeyTree.{key_code}
use Rattle.leaf_core.specs.EqualityByCode.{same_by_laws}
use Rattle.leaf_table.proofs.KeyEquality.{key_same}
use Rattle.leaf_table.proofs.TableLemmas.{key_at_position}
use Rattle.leaf_table.proofs.table.LeafTable.find.Goals as goal

pub returns-in-Some-clause-found : goal.returns-in-Some-clause-found
returns-in-Some-clause-found g c = let h = c.in-Some.ensures.index in key_at_position _ key_same _ _ _ (sym h)

pub returns-in-None-clause-missing : goal.returns-in-None-clause-missing
returns-in-None-clause-missing g c = λ has. true≢false (sym (c.in-None.ensures.found ∙ IsSome-lookup_from_Contains (same_by_laws key_code) _ _ has))
