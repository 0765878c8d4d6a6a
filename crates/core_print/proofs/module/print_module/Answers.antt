use Rattle.std.proofs.Common.{◌≡◌, ℕ, List, refl, sym, subst}
use Rattle.hy_core.specs.Canonical.{canonical_text}
use Rattle.hy_core.specs.Reading.{HasTree}
use Rattle.hy_core.specs.Sites.{unsited}
use Rattle.core_print.proofs.ReadsBack.{reads_back}
use Rattle.core_print.proofs.module.print_module.Goals as goal

pub returns-clause-reads_back : goal.returns-clause-reads_back
returns-clause-reads_back c = λ source read.
    let z = c.args.module.now in
    let is : c.put.new.out.items ≡ canonical_text z = rw (c.in_ok-put.ensures, c.in_ok-push_functions.ensures, c.in_ok-push_head.ensures, c.as_slice.ensures, c.new-out.ensures.items) refl in
    subst (λ (text : List ℕ). HasTree text (unsited z)) (sym is) (reads_back z source read)
