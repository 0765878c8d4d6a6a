use Rattle.std.proofs.Common.{◌≡◌, None, refl, rules}
use Rattle.core_walk.specs.Walk.{context_of}
use Rattle.core_walk.proofs.WalkLemmas.{patterns-passed}
use Rattle.core_walk.proofs.walk.visit_patterns.Goals as goal

pub returns : goal.returns
returns g c =
    let none : (g.C.Check.forms c.args.check.now).of_patterns c.args.patterns.now ≡ None = search rules in
    record {
      passed = patterns-passed (g.C.Check.forms c.args.check.now) c.args.names.now (context_of c.args.at.now c.args.demand) c.args.patterns.now c.args.at.now.node c.pass_patterns.new.node none (search rules);
      same_scope = refl;
      same_locals = refl;
    }
