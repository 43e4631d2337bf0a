use Rattle.code_fits.proofs.Links.{fit_law}
use Rattle.code_fits.proofs.Programs.{outputs, stands}
use Rattle.code_fits.proofs.laws.fit_laws.Goals as goal

pub returns-clause-fits : goal.returns-clause-fits
returns-clause-fits c = fit_law

pub returns-clause-outputs : goal.returns-clause-outputs
returns-clause-outputs c = outputs

pub returns-clause-stands : goal.returns-clause-stands
returns-clause-stands c = stands
