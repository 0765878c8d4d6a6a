use Rattle.std.proofs.Common.{◌≡◌, map, take}
use Rattle.hy_core.specs.Canonical.{canonical_text}
use Rattle.hybrid_run.proofs.check.texts_of.Given as goal

-- the texts of the modules so far
abbrev pub invariant-loop-module : goal.invariant-loop-module
invariant-loop-module l = l.texts.items ≡ map canonical_text (take l.module-index l.modules)
