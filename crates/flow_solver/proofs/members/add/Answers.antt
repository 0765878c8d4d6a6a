use Rattle.flow_solver.proofs.Appending.{adds-insert_key}
use Rattle.flow_solver.proofs.Same.{is_member, is_member-same}
use Rattle.flow_solver.proofs.members.add.Goals as goal

pub returns : goal.returns
returns c =
    adds-insert_key is_member is_member-same (record { set = c.args.set; site = c.args.site })
    c.args.members.now.keys c.insert.new.self.keys c.in_ok-insert.ensures.keys
