use Rattle.std.proofs.Common.{refl, inl, inr}
use Rattle.clap.proofs.OnLiterals.{clap_on_literals}
use Rattle.command_line.specs.CommandLine.{request_in, AsksHelp, AsksNothing}
use Rattle.command_line.proofs.command.command_rows.Goals as goal

pub returns-clause-asked : goal.returns-clause-asked
unfolding clap_on_literals request_in
returns-clause-asked c = (refl, refl, refl)

pub returns-clause-optimise : goal.returns-clause-optimise
unfolding clap_on_literals request_in
returns-clause-optimise c = (refl, refl, refl)

pub returns-clause-derivations : goal.returns-clause-derivations
unfolding clap_on_literals request_in
returns-clause-derivations c = (refl, refl)

pub returns-clause-places : goal.returns-clause-places
unfolding clap_on_literals request_in
returns-clause-places c = (refl, refl, refl)

pub returns-clause-steps : goal.returns-clause-steps
unfolding clap_on_literals request_in
returns-clause-steps c = (refl, refl)

pub returns-clause-help : goal.returns-clause-help
unfolding clap_on_literals AsksHelp
returns-clause-help c = (inl (inl refl), inl (inl refl), inl (inl refl))

pub returns-clause-version : goal.returns-clause-version
unfolding clap_on_literals request_in AsksHelp AsksNothing
returns-clause-version c = (inr (inl refl), inr (inl refl), (refl, λ e. cc, λ e. cc))

pub returns-clause-nothing : goal.returns-clause-nothing
unfolding clap_on_literals request_in AsksNothing
returns-clause-nothing c = ((refl, λ e. cc, λ e. cc), (refl, λ e. cc, λ e. cc), (refl, λ e. cc, λ e. cc), (refl, λ e. cc, λ e. cc), (refl, λ e. cc, λ e. cc), (refl, λ e. cc, λ e. cc))

pub returns-clause-no_optimise : goal.returns-clause-no_optimise
unfolding clap_on_literals request_in AsksNothing
returns-clause-no_optimise c =
    ((refl, λ e. cc, λ e. cc), (refl, λ e. cc, λ e. cc), (refl, λ e. cc, λ e. cc), (refl, λ e. cc, λ e. cc), (refl, λ e. cc, λ e. cc), (refl, λ e. cc, λ e. cc), (refl, λ e. cc, λ e. cc), (refl, λ e. cc, λ e. cc))

pub returns-clause-no_steps : goal.returns-clause-no_steps
unfolding clap_on_literals request_in AsksNothing
returns-clause-no_steps c =
    ((refl, λ e. cc, λ e. cc), (refl, λ e. cc, λ e. cc), (refl, λ e. cc, λ e. cc), (refl, λ e. cc, λ e. cc), (refl, λ e. cc, λ e. cc))

pub returns-clause-compile : goal.returns-clause-compile
unfolding clap_on_literals request_in
returns-clause-compile c = (refl, refl, refl)

pub returns-clause-no_compile : goal.returns-clause-no_compile
unfolding clap_on_literals request_in AsksNothing
returns-clause-no_compile c =
    ((refl, λ e. cc, λ e. cc), (refl, λ e. cc, λ e. cc), (refl, λ e. cc, λ e. cc), (refl, λ e. cc, λ e. cc), (refl, λ e. cc, λ e. cc))
