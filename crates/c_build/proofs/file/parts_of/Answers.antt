use Rattle.c_build.specs.declared.growing.Setting.{Setting}
use Rattle.c_build.specs.Building.{IsSetting}
use Rattle.c_build.proofs.Files.{setting_made}
use Rattle.std.proofs.Common.{refl}
use Rattle.c_build.proofs.file.parts_of.Goals as goal

pub returns : goal.returns
returns c = λ typed.
    c.in_ok-parts.ensures
    (setting_made c.args.program.now _ c.args.types.now c.in_ok-compared.compared.items typed refl
    c.as_slice.ensures.value refl c.as_slice-2.ensures.value c.in_ok-compared.ensures)
