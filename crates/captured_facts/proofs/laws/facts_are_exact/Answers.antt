use Rattle.std.proofs.Common.{length}
use Rattle.std.specs.List.{Contains}
use Rattle.lifted_program.proofs.Variables.{contained_in, in_contained}
use Rattle.captured_facts.specs.Facts.{facts_of}
use Rattle.captured_facts.proofs.Exact.{free_has, free_of}
use Rattle.captured_facts.proofs.FactsSupplied.{facts-supplied}
use Rattle.captured_facts.proofs.laws.facts_are_exact.Goals as goal

pub returns-clause-exact : goal.returns-clause-exact
returns-clause-exact c = λ program f x.
    let all = facts_of (length program) program in (
      free_has program (Contains all) (λ u i. in_contained u all i) f x,
      λ h. (free_of program (Contains all) (λ u i. contained_in u all i) h.1).free,
    )

pub returns-clause-bare : goal.returns-clause-bare
returns-clause-bare c = facts-supplied
