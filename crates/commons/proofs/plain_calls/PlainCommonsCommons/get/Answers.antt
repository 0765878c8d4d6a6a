use Rattle.std.proofs.Common.{◌≡◌, sym, arith, ◌∙◌, refl}
use Rattle.std.specs.Prelude.{slice_index}
use Rattle.std.proofs.lemmas.Grind.{get_or_default_zero}
use Rattle.commons.proofs.PlainSteps.{get_step}
use Rattle.commons.proofs.plain_calls.PlainCommonsCommons.get.Goals as goal

pub index-requires : goal.index-requires
index-requires c = let g = (get_step _ _ c.args.place c.requires.pass c.requires.place).0 in let ok = c.args.self.now.area.ok in omega arith

pub returns-clause-word : goal.returns-clause-word
returns-clause-word c =
    let g = get_step _ _ c.args.place c.requires.pass c.requires.place in
    let h : slice_index c.args.self.now.area.items c.args.place ≡ c.index.result.now = sym (c.index.ensures ∙ get_or_default_zero c.args.self.now.area.items c.args.place c.index.result.now g.0) in
    ((refl, λ place n. refl), h, λ e. g.1 (h ∙ e))
