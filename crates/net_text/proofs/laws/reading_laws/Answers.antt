use Rattle.leaf_expr.proofs.ReadingLaws.{laws_of_reading}
use Rattle.net_text.specs.Grammar.{Version, networks}
use Rattle.net_text.proofs.Carried.{meaning_same}
use Rattle.net_text.proofs.NetProper.{networks_proper}
use Rattle.net_text.proofs.OlderNetworks.{older_network}
use Rattle.net_text.proofs.NothingNew.{nothing_is_new}
use Rattle.net_text.proofs.laws.reading_laws.Goals as goal

pub returns : goal.returns
returns c =
    let l = λ (v : Version). laws_of_reading (networks v) (networks_proper v) in
    record {
      found = λ v. (l v).found;
      only = λ v. (l v).only;
      one = λ v. (l v).one;
      fault = λ v. (l v).fault;
      one_fault = λ v. (l v).one_fault;
      leaves = meaning_same;
      older = older_network;
      nothing_new = nothing_is_new;
    }
