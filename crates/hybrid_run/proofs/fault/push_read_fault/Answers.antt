use Rattle.std.proofs.Common.{ℕ, List, [], ◌∷◌, ◌++◌, ap, ◌∙◌}
use Rattle.std.specs.Prelude.{codes}
use Rattle.hybrid_run.proofs.Lists.{three_more}
use Rattle.hybrid_run.proofs.fault.push_read_fault.Goals as goal

pub returns : goal.returns
returns c =
    let named = c.in_ok-extend_from_slice-2.ensures.items ∙ ap (λ (k : List ℕ). c.extend_from_slice.new.self.items ++ k) c.as_bytes.ensures.value in
    three_more c.args.text.now.items c.extend_from_slice.new.self.items c.extend_from_slice-2.new.self.items c.push.new.self.items (codes "hyb: cannot read ") c.args.name.now (10 ∷ [])
    c.in_ok-extend_from_slice.ensures.items named c.in_ok-push.ensures.items
