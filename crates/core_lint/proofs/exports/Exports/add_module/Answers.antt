use Rattle.std.proofs.Common.{arith}
use Rattle.std.proofs.lemmas.Grind.{common_steps}
use Rattle.hy_core.specs.NameFaults.{module_name}
use Rattle.core_lint.proofs.ExportLemmas.{place-below}
use Rattle.core_lint.proofs.exports.Exports.add_module.Goals as goal

pub add-requires : goal.add-requires
add-requires c = place-below c.loop-export.self.texts (module_name c.args.names.now) c.in_ok-place.place c.loop-export.invariant.named

pub loop-export-preserved : goal.loop-export-preserved
loop-export-preserved c =
    let added = c.in_ok-add.ensures (module_name c.args.names.now) c.loop-export.invariant.named in
    record {
      named = added.0;
      exported = λ a b n. grind (arith, common_steps, added.1 a b n, c.loop-export.invariant.exported a b n);
    }
