use Rattle.std.proofs.Common.{◌≡◌, drop, map}
use Rattle.hy_core.specs.Tables.{with_texts}
use Rattle.core_tables.proofs.table.name_texts.Given as goal

abbrev pub invariant-loop-text : goal.invariant-loop-text
invariant-loop-text l = with_texts l.table (map (λ text. text.now) (drop l.text-index l.texts)) ≡ with_texts l.fn.table (map (λ text. text.now) l.texts)
