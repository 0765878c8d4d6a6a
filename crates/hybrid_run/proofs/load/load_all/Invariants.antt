use Rattle.std.proofs.Common.{◌≡◌, ◌≤◌, ℕ, List, take}
use Rattle.hybrid_run.specs.Loading.{AreReadWhereTold}
use Rattle.hybrid_run.proofs.load.load_all.Given as goal

-- the files so far are read, the texts are told as before, and no source has failed less often
abbrev pub invariant-loop-place : goal.invariant-loop-place
invariant-loop-place g l = record {
  read : AreReadWhereTold (g.S.Sources.told l.fn.sources) (take l.place l.files) l.modules.items;
  same : (other : List ℕ) → g.S.Sources.told l.sources other ≡ g.S.Sources.told l.fn.sources other;
  counts : (other : List ℕ) → g.S.Sources.faults l.fn.sources other ≤ g.S.Sources.faults l.sources other;
}
