use Rattle.std.proofs.Common.{◌↔◌, drop}
use Rattle.net_text.specs.CertificatePrinting.{ChildrenFit}
use Rattle.yampa_run.proofs.words.fit.Given as goal

-- the children so far fit
abbrev pub invariant-loop-child : goal.invariant-loop-child
invariant-loop-child l = ChildrenFit (drop l.child-index l.children) ↔ ChildrenFit l.children
