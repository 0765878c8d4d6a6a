use Rattle.std.proofs.Common.{◌∙◌, ◌++◌, ◌∷◌, List, ap, arith}
use Rattle.commons.specs.declared.view.View.{View}
use Rattle.commons_words.specs.Passes.{view_of}
use Rattle.commons_words.proofs.Joins.{gather_allowed}
use Rattle.commons_words.proofs.word_commons.WordCommons.gather.Goals as goal

pub join_seat-requires : goal.join_seat-requires
join_seat-requires c =
    let p = c.requires.pass in
    let own = c.args.self.now in
    let sized = own.sized in (
      c.requires.table,
      p.table,
      p.no_slot,
      omega arith,
      gather_allowed own.table.shared.key.area own.table.shared.key.log c.args.base.now.id c.args.pass.seat.id c.args.base.now.me.0 c.args.pass.seat.me.0 c.requires.base p.process.role,
    )

pub returns-clause-base : goal.returns-clause-base
returns-clause-base c =
    let m = c.args.base.now.me in
    c.join_seat.ensures.2 ∙ ap (λ (js : List View). (record m.0 { joined = m.0.joined ++ view_of c.args.pass ∷ js }, m.1)) c.requires.pass.alone
