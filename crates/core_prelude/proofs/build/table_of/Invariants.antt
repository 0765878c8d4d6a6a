use Rattle.std.proofs.Common.{◌≡◌, [], drop}
use Rattle.std.specs.List.{fold}
use Rattle.hy_terms.specs.Naming.{named}
use Rattle.core_prelude.proofs.build.table_of.Given as goal

abbrev pub invariant-loop-text : goal.invariant-loop-text
invariant-loop-text l = fold (λ names text. (named names text.now).1) l.table (drop l.text-index l.texts) ≡ fold (λ names text. (named names text.now).1) [] l.texts
