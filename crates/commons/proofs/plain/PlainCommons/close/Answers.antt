use Rattle.std.proofs.Common.{List, ℕ, sym, subst, map}
use Rattle.commons.specs.Rule.{IsKept}
use Rattle.commons.specs.Plain.{view_in, area_size_in, log_size_in}
use Rattle.commons.proofs.PlainCloses.{close_kept}
use Rattle.commons.proofs.plain.PlainCommons.close.Goals as goal

pub returns : goal.returns
returns c = record {
  rule = subst (λ (t : List ℕ × List ℕ). IsKept (area_size_in c.args.self) (log_size_in c.args.self) c.args.self.claim t.0 t.1 (map (view_in c.args.self) c.args.passes.items))
      (λ i. (sym c.from_vec.ensures i, sym c.from_vec-2.ensures i)) (close_kept c.args.self c.args.passes.items c.requires.passes c.requires.apart c.requires.children);
}
