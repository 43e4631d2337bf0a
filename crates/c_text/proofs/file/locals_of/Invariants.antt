use Rattle.std.proofs.Common.{◌≡◌, ◌++◌, drop, map}
use Rattle.c_text.specs.FileText.{local_of}
use Rattle.c_text.proofs.file.locals_of.Given as goal

-- the locals so far, with those to come, are all
abbrev pub invariant-loop-param : goal.invariant-loop-param
invariant-loop-param l =
    l.locals.items ++ map local_of (drop l.param-index l.params) ≡ map local_of l.params
