use Rattle.std.proofs.Common.{sym, map}
use Rattle.std.proofs.Math.Logic.{∥∥₁_elim}
use base.Stored.{Coded-set}
use Rattle.sample_core.specs.DatumCode.{datum_code}
use Rattle.sample_core.specs.ValueView.{datum_of}
use Rattle.leaf_table.specs.Computes.{Computes}
use Rattle.leaf_table.proofs.TableLemmas.{about_row}
use Rattle.leaf_table.proofs.table.LeafTable.call.Goals as goal

pub returns : goal.returns
returns g c = λ key at_key typed_params typed_input.
    let computed = about_row (λ l. l.key) (λ k. Computes k (map datum_of c.args.params.now) (datum_of c.args.x.now) (datum_of c.in_ok-call-in-Some.field-0)) _ _
    _ key
    c.args.self.now.keyed (sym c.in-Some.ensures.entry) at_key c.in_ok-call-in-Some.ensures in
    ∥∥₁_elim computed (Coded-set datum_code _ _) (λ computes. computes.value typed_params typed_input)
