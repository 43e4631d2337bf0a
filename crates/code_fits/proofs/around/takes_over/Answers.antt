use Rattle.std.proofs.Common.{append-nil}
use Rattle.code_fits.proofs.around.takes_over.Goals as goal

pub returns : goal.returns
returns c = rw (append-nil c.args.around.layout.now.olds.items) at c.resumes.ensures
