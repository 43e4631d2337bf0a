use Rattle.c_share.proofs.Sharing.{share_law}
use Rattle.c_share.proofs.share_laws.Goals as goal

pub returns : goal.returns
returns c = share_law
