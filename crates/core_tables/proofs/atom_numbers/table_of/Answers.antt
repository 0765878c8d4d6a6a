use Rattle.std.proofs.Common.{◌≤◌, ◌++◌, ◌∷◌, [], ◌∙◌, ap, sym, length, arith}
use Rattle.hy_terms.specs.Naming.{place_in}
use Rattle.core_tables.proofs.AtomNumbersLemmas.{absent_before, named-last, take-at, taken-whole}
use Rattle.core_tables.proofs.atom_numbers.table_of.Goals as goal

pub loop-place-preserved : goal.loop-place-preserved
loop-place-preserved c =
    let text = c.text.result.now in
    let absent =
    ap (λ t. place_in t text) c.loop-place.invariant.taken
    ∙ absent_before c.args.texts.now c.len-place-end.ensures.once c.loop-place.place text c.text.ensures in
    record {
      taken =
          named-last _ _ text _ absent c.in_ok-intern.ensures.ok
          ∙ ap (λ t. t ++ text ∷ []) c.loop-place.invariant.taken
          ∙ sym (take-at c.args.texts.now c.loop-place.place text c.text.ensures);
      few = omega (arith, c.table.invariant, ap length c.table.view_is);
    }

pub returns-clause-few : goal.returns-clause-few
returns-clause-few c =
    let end : length c.args.texts.now ≤ c.loop-place.place = omega (arith, c.loop-place-test.false, c.len-place-end.ensures.len) in
    omega (arith, c.loop-place.invariant.few, ap length c.loop-place.invariant.taken, taken-whole c.loop-place.place c.args.texts.now end)
