use Rattle.flow_solver.specs.code.Carries.{Reads}
use Rattle.flow_solver.specs.code.Tables.{state_of}
use Rattle.flow_solver.proofs.Appending.{appends-keeps}
use Rattle.flow_solver.proofs.Solved.{are_indexed, begins-steady, reads-given, solved, seeds-there}
use Rattle.flow_solver.proofs.Solved.{seeds-sound}
use Rattle.flow_solver.proofs.worklist.solve_members.Goals as goal

pub run-requires-clause-indexed : goal.run-requires-clause-indexed
run-requires-clause-indexed c =
    are_indexed c.in_ok-readers.readers c.args.rules.now c.in_ok-readers.ensures

pub run-requires-clause-steady : goal.run-requires-clause-steady
run-requires-clause-steady c =
    begins-steady (Reads c.in_ok-readers.readers)
    (record {
      members = c.seed_all.new.members.keys;
      sites = (state_of c.begin-work.result).sites;
      targets = (state_of c.begin-work.result).targets;
    })
    (seeds-sound (Reads c.in_ok-readers.readers) c.args.rules.now c.begin-work.result.members.keys
    c.seed_all.new.members.keys c.begin-work.ensures.members c.in_ok-seed_all.ensures)
    c.begin-work.ensures.targets c.begin-work.ensures.sites

pub returns : goal.returns
returns c =
    let readers = c.in_ok-readers.readers in
    let rules = c.args.rules.now in
    solved readers rules c.in_ok-readers.ensures (state_of c.run.new.work)
    c.in_ok-run.ensures.steady c.in_ok-run.ensures.carried
    (λ r s g e. appends-keeps c.in_ok-run.ensures.grows.members _
    (c.in_ok-seed_all.ensures.there _
    (seeds-there rules r s (reads-given readers rules c.in_ok-readers.ensures r g) e)))
